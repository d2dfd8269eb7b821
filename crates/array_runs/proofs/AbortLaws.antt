-- What is answered as aborted has changed nothing.
use Rattle.array_runs.proofs.Common.{◌≡◌, ◌≢◌, ℕ, ◌+◌, ◌≤◌, Bool, true, false, cond, List, [], ◌∷◌, ◌++◌, length, All, Option, Some, None, Result, Ok, Err, refl, sym, ap, ◌∙◌, subst, inl, inr, arith, eqb-true, MatchOption, count_by, cases_Bool, All-nil, All-head, All-tail, All-contains, all_from, none_counted, PageWrite, ArrayState, Entry, Pages, entry_of, has_tag, idle, new_entry, page_at, put, with_entry, without, GoInTurn, StepsAll, Collects, Run, RunState, Serves, DoesCommand, Finishes, HasSame, IsConsistent, seen_after, submit_reply, abort_reply, Steps, StepGives, GoesOn, Aborts, AbortGives, settled, settled_entry, Limits, opened, refusal, first_refusals, spent_page, Doubt, Whole, Aborted, Collected, Fault, Moved, Progress, StepError, SubmitError, Command, Reply}
use Rattle.std.proofs.Common.{◌==◌}
use Rattle.std.specs.Prelude.{take}
use Rattle.std.proofs.lemmas.List.Sums.{sum_by-append}
use Rattle.array_runs.specs.Promises.{HasOneOf, opens_tag}
use Rattle.array_machine.specs.Submit.{answer}
use Rattle.array_machine.specs.declared.answers.Aborted.TheVariants as aborted
use Rattle.array_machine.specs.declared.answers.Progress.TheVariants as progress
use Rattle.array_machine.specs.declared.answers.StepError.TheVariants as failed
use Rattle.host_protocol.specs.declared.command.Command.TheVariants as command
use Rattle.host_protocol.specs.declared.reply.Reply.TheVariants as reply
use Rattle.array_runs.proofs.Clinging.{Cling, cling_same, cling_then, cling_none, cling_settled, cling_with}
use Rattle.array_runs.proofs.Clinging.{cling_without, cling_taken, count_cons, count_settled, count_without, count_with, other_pushed, settled_plain}
use Rattle.array_machine.proofs.Accepting.{accepted}
use Rattle.array_runs.proofs.Apart.{same_then}
use Rattle.array_runs.proofs.Atomic.{IsSized, serves_sized, done_of, no_first}
use Rattle.array_runs.proofs.Changes.{Goes, goes_consistent, goes_settled, goes_on, step_goes}
use Rattle.array_runs.proofs.Finishes.{found_is_in, settled_found}
use Rattle.array_machine.proofs.UnbrokenCalls.{tagged}
use Rattle.array_runs.proofs.Cases.{each_way}

record Follows (tag : ℕ) (old new : ArrayState) : Type 0 where
  one : HasOneOf tag old → HasOneOf tag new
  cling : IsConsistent old → HasOneOf tag old → Cling tag old new

follow_same : (tag : ℕ) (old new : ArrayState) → new ≡ old → Follows tag old new
follow_same tag old new same = record {
  one = λ h. subst (HasOneOf tag) (sym same) h;
  cling = λ ok one. cling_same tag old new same;
}

follow_then : (tag : ℕ) (old mid new : ArrayState) → Goes old mid → Follows tag old mid → Follows tag mid new →
    Follows tag old new
follow_then tag old mid new goes h k = record {
  one = λ one. k.one (h.one one);
  cling = λ ok one. cling_then tag old mid new (h.cling ok one) (k.cling (goes_consistent old mid goes ok) (h.one one));
}

follow_settled : (tag : ℕ) (there : Bool) (s : ArrayState) → Follows tag s (settled there s)
follow_settled tag there s = record {
  one = λ h. (let same = count_settled there tag s.entries in omega (arith, same, h));
  cling = λ ok one. cling_settled tag there s ok;
}

follow_on : (tag : ℕ) (there : Bool) (old new mid : ArrayState) → new ≡ mid → Follows tag (settled there old) mid →
    Follows tag old new
follow_on tag there old new mid same h =
    subst (λ s. Follows tag old s) (sym same) (follow_then tag old (settled there old) mid (goes_settled there old)
    (follow_settled tag there old) h)

follow_none : (tag : ℕ) (old new : ArrayState) → new.entries ≡ [] → Follows tag old new
follow_none tag old new none = record {
  one = λ h. subst (λ es. count_by (has_tag tag) es ≤ 1) (sym none)
      (let zero = none_counted (has_tag tag) [] (All-nil (λ e. has_tag tag e ≡ false)) in omega (arith, zero));
  cling = λ ok one. cling_none tag old new (ap (entry_of tag) none);
}

follow_without : (tag own : ℕ) (s : ArrayState) → Follows tag s (record s { entries = without own s.entries })
follow_without tag own s = record {
  one = λ h. (let less = count_without tag own s.entries in omega (arith, less, h));
  cling = λ ok one. cling_without tag own s one;
}

follow_taken : (tag own : ℕ) (e : Entry) (s : ArrayState) → entry_of own s.entries ≡ Some e →
    Follows tag s (record { pages = put s.pages e.writes; entries = without own s.entries })
follow_taken tag own e s has = record {
  one = λ h. (let less = count_without tag own s.entries in omega (arith, less, h));
  cling = λ ok one. cling_taken tag own e s ok one has;
}

follow_with : (tag own : ℕ) (e new : Entry) (s : ArrayState) → entry_of own s.entries ≡ Some e →
    has_tag own new ≡ true → new.writes ≡ e.writes → e.mark ≢ Whole →
    Follows tag s (record s { entries = with_entry own new s.entries })
follow_with tag own e new s has t writes plain = record {
  one = λ h. (let same = count_with tag own new s.entries t in omega (arith, same, h));
  cling = λ ok one. cling_with tag own e new s has t writes plain;
}

-- ---- a step

goes_on_follows : (tag : ℕ) (s new : ArrayState) (own : ℕ) (e : Entry) (p : Progress) →
    entry_of own s.entries ≡ Some e → GoesOn s own e p new →
    Follows tag s new
goes_on_follows tag s new own e (progress.Wrote done all) found h =
    subst (λ x. Follows tag s x) (sym h.4)
    (follow_with tag own e (record e { done = e.done + 1 }) s found (tagged own s.entries e found) refl
    (λ whole. (let plain = h.0 in cc)))
goes_on_follows tag s new own e progress.Done found (inl h) =
    subst (λ x. Follows tag s x) (sym h.1) (follow_without tag own s)
goes_on_follows tag s new own e progress.Done found (inr h) =
    subst (λ x. Follows tag s x) (sym h.2) (follow_taken tag own e s found)

-- several go on, in turn
turn_follows : (tag : ℕ) (es : List Entry) (ps : List Progress) (s new : ArrayState) → GoInTurn s es ps new →
    Follows tag s new
turn_follows tag [] [] s new h = follow_same tag s new h
turn_follows tag [] (p ∷ ps) s new h = absurd h
turn_follows tag (e ∷ es) [] s new h = absurd h
turn_follows tag (e ∷ es) (p ∷ ps) s new h =
    follow_then tag s h.1.0 new (goes_on s h.1.0 e.tag e p h.0 h.1.1) (goes_on_follows tag s h.1.0 e.tag e p h.0 h.1.1)
    (turn_follows tag es ps h.1.0 new h.1.2)

step_all_follows : (tag : ℕ) (old new : ArrayState) (answer : Moved) → StepsAll old new answer → Follows tag old new
step_all_follows tag old new answer (there, h) =
    follow_on tag there old new new refl (turn_follows tag (take answer.moved (settled there old).entries) h.each
    (settled there old) new h.go)

module _ (tag : ℕ) (there : Bool) (s new : ArrayState) (own : ℕ) (e : Entry)
    (found : entry_of own (settled there s).entries ≡ Some (settled_entry there e)) where
  its_tag : has_tag own (settled_entry there e) ≡ true
  its_tag = tagged own (settled there s).entries (settled_entry there e) found

  gives_follows : (result : Result Progress StepError) →
      StepGives s (settled there s) own (settled_entry there e) result new → Follows tag s new
  gives_follows (Ok progress) h =
      follow_on tag there s new new refl (goes_on_follows tag (settled there s) new own (settled_entry there e)
      progress found h)
  gives_follows (Err failed.Unknown) h = absurd h
  gives_follows (Err failed.Fault) (inl same) = follow_same tag s new same
  gives_follows (Err failed.Fault) (inr h) = elim h.1 [
    | inl same ↦ follow_on tag there s new _ same (follow_same tag (settled there s) (settled there s) refl)
    | inr doubt ↦
        follow_on tag there s new _ doubt.1
        (follow_with tag own (settled_entry there e) (record (settled_entry there e) { mark = Doubt })
        (settled there s) found its_tag refl (λ whole. (let plain = h.0 in cc)))
  ]

  abort_follows : (result : Result Aborted StepError) →
      AbortGives s (settled there s) own (settled_entry there e) result new → Follows tag s new
  abort_follows (Ok aborted.Gone) h = follow_on tag there s new _ h.1 (follow_without tag own (settled there s))
  abort_follows (Ok aborted.Late) h = follow_on tag there s new _ h.1 (follow_without tag own (settled there s))
  abort_follows (Err failed.Unknown) h = absurd h
  abort_follows (Err failed.Fault) h = follow_same tag s new h

step_follows_as : (tag : ℕ) (o : Option Entry) (there : Bool) (old new : ArrayState) (own : ℕ)
    (result : Result Progress StepError) →
    entry_of own old.entries ≡ o →
    MatchOption o ((result ≡ Err failed.Unknown) × (new ≡ old))
    (λ e. StepGives old (settled there old) own (settled_entry there e) result new) → Follows tag old new
step_follows_as tag None there old new own result found h = follow_same tag old new h.1
step_follows_as tag (Some e) there old new own result found h = gives_follows tag there old new own e
    (settled_found there own e old.entries found) result h

step_follows : (tag : ℕ) (old new : ArrayState) (own : ℕ) (result : Result Progress StepError) →
    Steps old new own result → Follows tag old new
step_follows tag old new own result h = step_follows_as tag (entry_of own old.entries) h.0 old new own result refl h.1

finish_follows : (tag : ℕ) (mids : List ArrayState) (old new : ArrayState) (own : ℕ)
    (result : Result Progress StepError) →
    Finishes old mids new own result → Follows tag old new
finish_follows tag [] old new own (Ok (progress.Wrote done all)) h = absurd h
finish_follows tag [] old new own (Ok progress.Done) h = step_follows tag old new own (Ok progress.Done) h
finish_follows tag [] old new own (Err e) h = step_follows tag old new own (Err e) h
finish_follows tag (mid ∷ mids) old new own result h =
    follow_then tag old mid new (step_goes old mid own (Ok (progress.Wrote h.0 h.1)) h.2)
    (step_follows tag old mid own (Ok (progress.Wrote h.0 h.1)) h.2) (finish_follows tag mids mid new own result h.3)

abort_follows_as : (tag : ℕ) (o : Option Entry) (there : Bool) (old new : ArrayState) (own : ℕ)
    (result : Result Aborted StepError) →
    entry_of own old.entries ≡ o →
    MatchOption o ((result ≡ Err failed.Unknown) × (new ≡ old))
    (λ e. AbortGives old (settled there old) own (settled_entry there e) result new) → Follows tag old new
abort_follows_as tag None there old new own result found h = follow_same tag old new h.1
abort_follows_as tag (Some e) there old new own result found h = abort_follows tag there old new own e
    (settled_found there own e old.entries found) result h

collect_follows : (tag : ℕ) (old new : ArrayState) (result : Result Collected Fault) → Collects old new result →
    Follows tag old new
collect_follows tag old new (Ok collected) h = follow_on tag h.0 old new _ h.1
    (follow_same tag (settled h.0 old) (settled h.0 old) refl)
collect_follows tag old new (Err fault) h = elim h.1 [
  | inl same ↦ follow_same tag old new same
  | inr settles ↦ follow_on tag h.0 old new _ settles (follow_same tag (settled h.0 old) (settled h.0 old) refl)
]

-- ---- a transaction is opened

count_pushed : (tag : ℕ) (e : Entry) (es : List Entry) →
    count_by (has_tag tag) (es ++ e ∷ []) ≡ count_by (has_tag tag) es + cond (has_tag tag e) 1 0
count_pushed tag e es =
    let split : count_by (has_tag tag) (es ++ e ∷ []) ≡ count_by (has_tag tag) es + count_by (has_tag tag)
    (e ∷ []) = sum_by-append (λ x. cond (has_tag tag x) 1 0) es (e ∷ []) in
    let one = count_cons tag e [] in
    let none = none_counted (has_tag tag) [] (All-nil (λ x. has_tag tag x ≡ false)) in omega (arith, split, one, none)

none_of : (tag own : ℕ) (es : List Entry) → own ≡ tag → All (λ e. e.tag ≢ own) es → count_by (has_tag tag) es ≡ 0
none_of tag own es is unused =
    none_counted (has_tag tag) es (all_from (λ e. has_tag tag e ≡ false) es (λ e i. elim (cases_Bool (has_tag tag e)) [
      | inl has ↦ absurd (All-contains (λ e. e.tag ≢ own) es e unused i (eqb-true e.tag tag has ∙ sym is))
      | inr not ↦ not
    ]))

opened_one : (tag own : ℕ) (ws : List PageWrite) (es : List Entry) → All (λ e. e.tag ≢ own) es →
    count_by (has_tag tag) es ≤ 1 → count_by (has_tag tag) (es ++ new_entry own ws ∷ []) ≤ 1
opened_one tag own ws es unused h = elim (cases_Bool (own == tag)) [
  | inl same ↦ (
      let more = count_pushed tag (new_entry own ws) es in
      let none = none_of tag own es (eqb-true own tag same) unused in
      let one : ◌≡◌ {A = ℕ} (cond {A = ℕ} (has_tag tag (new_entry own ws)) 1 0) 1 = ap
      (λ (b : Bool). cond {A = ℕ} b 1 0) same in omega (arith, more, none, one))
  | inr not ↦ (
      let more = count_pushed tag (new_entry own ws) es in
      let zero : ◌≡◌ {A = ℕ} (cond {A = ℕ} (has_tag tag (new_entry own ws)) 1 0) 0 = ap
      (λ (b : Bool). cond {A = ℕ} b 1 0) not in omega (arith, more, zero, h))
]

opened_cling : (tag own : ℕ) (ws : List PageWrite) (s : ArrayState) → (own == tag) ≡ false →
    Cling tag s (opened None own ws s)
opened_cling tag own ws s not f found = record {
  before = f;
  found = sym (other_pushed tag (new_entry own ws) s.entries not) ∙ found;
  writes = refl;
  plain = λ h. (h, λ k d lt. refl);
}

-- ---- a command

record FollowsBy (tag : ℕ) (r : Reply) (old new : ArrayState) : Type 0 where
  one : HasOneOf tag old → HasOneOf tag new
  cling : opens_tag tag r ≡ false → IsConsistent old → HasOneOf tag old → Cling tag old new

by_any : (tag : ℕ) (r : Reply) (old new : ArrayState) → Follows tag old new → FollowsBy tag r old new
by_any tag r old new h = record { one = h.one; cling = λ not. h.cling }

submitted_follows : (tag : ℕ) (limits : Limits) (spent : ℕ → Bool) (own pages : ℕ) (ws : List PageWrite)
    (old : ArrayState) (r : Reply) (new : ArrayState) (result : Result (Unit {0}) SubmitError)
    (o : Option SubmitError) →
    refusal limits spent old.entries own ws ≡ o → result ≡ answer o → r ≡ submit_reply own pages result →
    new ≡ opened o own ws old → FollowsBy tag r old new
submitted_follows tag limits spent own pages ws old r new result
    (Some e) fine answers told opens = by_any tag r old new (follow_same tag old new opens)
submitted_follows tag limits spent own pages ws old r new result None fine answers told opens =
    let accepts = accepted limits old.entries own ws (no_first (first_refusals limits old.entries own ws)
    (spent_page spent ws) fine) in
    let is : opens_tag tag r ≡ (own == tag) = ap (opens_tag tag) (told ∙ ap (submit_reply own pages) answers) in
    subst (λ s. FollowsBy tag r old s) (sym opens) (record {
      one = λ h. opened_one tag own ws old.entries accepts.unused h;
      cling = λ not ok one. opened_cling tag own ws old (sym is ∙ not);
    })

does_follow : (tag : ℕ) (limits : Limits) (spent : ℕ → Bool) (c : Command) (old : ArrayState) (r : Reply)
    (new : ArrayState) →
    DoesCommand limits spent c old r new → FollowsBy tag r old new
does_follow tag limits spent (command.Read page) old r new h = by_any tag r old new (follow_same tag old new h.4)
does_follow tag limits spent (command.Write own batch) old r new h =
    submitted_follows tag limits spent own (length batch.entries) batch.entries old r new h.0
    (refusal limits spent old.entries own batch.entries) refl h.1.answers h.2 h.1.opens
does_follow tag limits spent (command.Step own) old r new h =
    by_any tag r old new (step_follows tag old new own h.0 h.1)
does_follow tag limits spent (command.Finish own) old r new h =
    by_any tag r old new (finish_follows tag h.0 old new own h.1 h.2)
does_follow tag limits spent (command.Abort own) old r new h = by_any tag r old new
    (abort_follows_as tag (entry_of own old.entries) h.1.0 old new own h.0 refl h.1.1)
does_follow tag limits spent command.StepAll old r new h = by_any tag r old new (step_all_follows tag old new h.0 h.1)
does_follow tag limits spent command.Collect old r new h = by_any tag r old new (collect_follows tag old new h.0 h.1)
does_follow tag limits spent command.Stats old r new h = by_any tag r old new (follow_same tag old new h.3)
does_follow tag limits spent command.Explain old r new h = by_any tag r old new (follow_same tag old new h.1)
does_follow tag limits spent (command.Cut count what) old r new h = absurd h
does_follow tag limits spent (command.Fault count what) old r new h = absurd h
does_follow tag limits spent (command.BadRead count) old r new h = absurd h

serves_follow : (tag : ℕ) (limits : Limits) (spent : ℕ → Bool) (c : Command) (old : RunState) (r : Reply)
    (new : RunState) →
    Serves limits spent c old r new → FollowsBy tag r old.machine new.machine
serves_follow tag limits spent c old r new serves =
    each_way limits spent c old r new serves
    (λ h. by_any tag r old.machine new.machine (follow_same tag old.machine new.machine
    (ap (λ (s : RunState). s.machine) h.1)))
    (λ h. by_any tag r old.machine new.machine (follow_same tag old.machine new.machine
    (ap (λ (s : RunState). s.machine) h.2)))
    (λ h. does_follow tag limits spent c old.machine r new.machine h.0)
    (λ h. by_any tag r old.machine new.machine (follow_none tag old.machine new.machine h.1.2))

-- ---- a run

pub run_one_tag : (limits : Limits) (seen : ℕ → ℕ) (old : RunState) (cs : List Command) (rs : List Reply)
    (new : RunState) (tag : ℕ) →
    Run limits seen old cs rs new →
    HasOneOf tag old.machine → HasOneOf tag new.machine
run_one_tag limits seen old [] [] new tag run h = subst (λ (s : RunState). HasOneOf tag s.machine) (sym run) h
run_one_tag limits seen old [] (r ∷ rs) new tag run h = absurd run
run_one_tag limits seen old (c ∷ cs) [] new tag run h = absurd run
run_one_tag limits seen old (c ∷ cs) (r ∷ rs) new tag run h =
    run_one_tag limits (seen_after seen c r) run.0 cs rs new tag run.4
    ((serves_follow tag limits run.1 c old r run.0 run.3).one h)

pub idle_one_tag : (pages : Pages) (tag : ℕ) → HasOneOf tag (idle pages)
idle_one_tag pages tag = (let none = none_counted (has_tag tag) [] (All-nil (λ e. has_tag tag e ≡ false)) in
    omega (arith, none))

run_cling : (limits : Limits) (seen : ℕ → ℕ) (old : RunState) (cs : List Command) (rs : List Reply)
    (new : RunState) (tag : ℕ) →
    IsSized limits old.machine → HasOneOf tag old.machine →
    Run limits seen old cs rs new → All (λ r. opens_tag tag r ≡ false) rs → Cling tag old.machine new.machine
    × IsSized limits new.machine
run_cling limits seen old [] [] new tag sized one run none = (
  cling_same tag old.machine new.machine (ap (λ (s : RunState). s.machine) run),
  subst
      (λ (s : RunState). IsSized limits s.machine) (sym run) sized,
)
run_cling limits seen old [] (r ∷ rs) new tag sized one run none = absurd run
run_cling limits seen old (c ∷ cs) [] new tag sized one run none = absurd run
run_cling limits seen old (c ∷ cs) (r ∷ rs) new tag sized one run none =
    let first = serves_follow tag limits run.1 c old r run.0 run.3 in
    let mid_sized = serves_sized limits run.1 c old r run.0 sized run.3 in
    let rest = run_cling limits (seen_after seen c r) run.0 cs rs new tag mid_sized (first.one one) run.4
    (All-tail (λ r. opens_tag tag r ≡ false) r rs none) in (
      cling_then tag old.machine run.0.machine new.machine
          (first.cling (All-head (λ r. opens_tag tag r ≡ false) r rs none) sized.consistent one) rest.0,
      rest.1,
    )

-- ---- given up

told_gone : (tag own : ℕ) (result : Result Aborted StepError) → reply.Aborted tag ≡ abort_reply own result →
    result ≡ Ok aborted.Gone
told_gone tag own (Ok aborted.Gone) h = refl
told_gone tag own (Ok aborted.Late) h = cc
told_gone tag own (Err failed.Unknown) h = cc
told_gone tag own (Err failed.Fault) h = cc

gone_as : (o : Option Entry) (there : Bool) (old new : ArrayState) (tag : ℕ) → IsConsistent old →
    entry_of tag old.entries ≡ o →
    MatchOption o ((Ok aborted.Gone ≡ Err failed.Unknown) × (new ≡ old))
    (λ e. AbortGives old (settled there old) tag (settled_entry there e)
    (Ok aborted.Gone) new) → (e : Entry) × (entry_of tag old.entries ≡ Some e) × (e.mark ≢ Whole)
    × HasSame old.pages new.pages e
gone_as None there old new tag ok found h = (let no = h.0 in cc)
gone_as (Some e) there old new tag ok found h =
    let same = settled_plain there old e e.mark refl ok (found_is_in tag old.entries e found) h.0 in
    (e, found, same.0, subst (λ (s : ArrayState). HasSame old.pages s.pages e) (sym h.1) same.1)

pub aborted_same : (limits : Limits) (spent : ℕ → Bool) (old : RunState) (new : RunState) (tag : ℕ) →
    IsConsistent old.machine → Serves limits spent (command.Abort tag) old (reply.Aborted tag) new →
    (e : Entry) × (entry_of tag old.machine.entries ≡ Some e) × (e.mark ≢ Whole)
    × HasSame old.machine.pages new.machine.pages e
aborted_same limits spent old new tag ok serves =
    let does = done_of limits spent (command.Abort tag) old (reply.Aborted tag) new refl serves in
    let is = told_gone tag tag does.0 does.2 in
    let aborts = subst (λ (x : Result Aborted StepError). Aborts old.machine new.machine tag x) is does.1 in
    gone_as (entry_of tag old.machine.entries) aborts.0 old.machine new.machine tag ok refl aborts.1

pub aborted_changed_nothing : (limits : Limits) (seen : ℕ → ℕ) (old : RunState) (cs : List Command)
    (rs : List Reply) (mid : RunState) (spent : ℕ → Bool) (new : RunState) (tag : ℕ) (e : Entry) →
    length old.machine.pages ≡ limits.logical → IsConsistent old.machine → HasOneOf tag old.machine →
    entry_of tag old.machine.entries ≡ Some e → Run limits seen old cs rs mid →
    All (λ r. opens_tag tag r ≡ false) rs → Serves limits spent (command.Abort tag) mid
    (reply.Aborted tag) new → HasSame old.machine.pages new.machine.pages e
aborted_changed_nothing limits seen old cs rs mid spent new tag e long ok one found run none serves =
    let goes = run_cling limits seen old cs rs mid tag (record { long = long; consistent = ok }) one run none in
    let last = aborted_same limits spent mid new tag goes.1.consistent serves in
    let f = last.0 in
    let its = goes.0 f last.1 in
    let is : its.before ≡ e = (let both = sym its.found ∙ found in cc) in
    let first : HasSame old.machine.pages mid.machine.pages e =
    subst (λ x. HasSame old.machine.pages mid.machine.pages x) is (its.plain last.2).1 in
    let writes : f.writes ≡ e.writes = its.writes ∙ ap (λ (x : Entry). x.writes) is in
    same_then old.machine.pages mid.machine.pages new.machine.pages e first
    (subst (λ ws. All (λ w. page_at new.machine.pages w.page ≡ page_at mid.machine.pages w.page) ws) writes last.3)
