-- What a command changes in the array, and which transactions it leaves open.
use Rattle.array_runs.proofs.Common.{◌≡◌, ◌≢◌, ◌⊎◌, ℕ, ◌+◌, Bool, true, false, cond, List, [], ◌∷◌, length, take, All, AllPairs, Option, Some, None, Result, Ok, Err, refl, sym, ap, ◌∙◌, subst, inl, inr, MatchOption, All-nil, All-head, All-tail, All-push, All-contains, all_from, PageWrite, ArrayState, Entry, Pages, entry_of, new_entry, page_at, put, with_entry, without, Collects, GoInTurn, StepsAll, Steps, StepGives, AbortGives, GoesOn, settled, settled_entry, Limits, opened, refusal, Doubt, Whole, Aborted, Collected, Fault, Moved, Progress, StepError, SubmitError, Command, Reply, Run, RunState, Serves, DoesCommand, NotDone, LosesOpen, MayComplete, Finishes, Avoid, AllAvoid, HasWhole, IsConsistent, writes_in, seen_after, submit_reply}
use Rattle.std.proofs.Common.{zip}
use Rattle.tx_types.specs.Batch.{Writes}
use Rattle.array_machine.specs.ArrayState.{Represents}
use Rattle.array_machine.specs.Submit.{answer}
use Rattle.array_machine.specs.declared.answers.Aborted.TheVariants as aborted
use Rattle.array_machine.specs.declared.answers.Progress.TheVariants as progress
use Rattle.array_machine.specs.declared.answers.StepError.TheVariants as failed
use Rattle.host_protocol.specs.declared.command.Command.TheVariants as command
use Rattle.array_runs.specs.Run.{CutLeavesOf, is_opened, NoneOpens, opened_by}
use Rattle.array_runs.proofs.Finishes.{found_is_in, settled_found}
use Rattle.array_runs.proofs.Cases.{each_way}
use Rattle.array_runs.proofs.Each.{takes_other, takes_long, takes_atomic}
use Rattle.array_runs.proofs.Apart.{WholeOrSame, SameOrApart, IsBeside, whole_same, whole_or_then, beside_then, beside_taken, beside_settled, beside_in}
use Rattle.array_runs.proofs.Apart.{settled_whole, all_without, all_with}
use Rattle.array_runs.proofs.Taking.{put_length, put_other, settled_other, settled_length, ArePart, part_none, part_same, part_then, part_settled}
use Rattle.array_runs.proofs.Taking.{part_without, part_with, part_all, part_pairs, AreWithin, within_kept}

-- No transaction is opened, and the array has as many pages as before and what the whole ones write. A page that no
-- open transaction writes stays, and of each open one the array has all, or at all its pages what it had.
pub record Goes (old new : ArrayState) : Type 0 where
  pub part : ArePart new.entries old.entries
  pub stays : (page : ℕ) → AllAvoid page old.entries → page_at new.pages page ≡ page_at old.pages page
  pub long : length new.pages ≡ length old.pages
  pub whole : IsConsistent old → All (λ e. e.mark ≡ Whole → HasWhole new.pages e) new.entries
  pub atomic : (e : Entry) → IsBeside old.pages old.entries e → WholeOrSame old.pages new.pages e

pub goes_consistent : (old new : ArrayState) → Goes old new → IsConsistent old → IsConsistent new
goes_consistent old new h ok = record {
  distinct = part_all (λ ws. AllPairs (λ v w. v.page ≢ w.page) ws) new.entries old.entries h.part ok.distinct;
  apart = part_pairs new.entries old.entries h.part ok.apart;
  within = part_all (λ ws. AreWithin new.pages ws) new.entries old.entries h.part
      (all_from (λ (e : Entry). AreWithin new.pages e.writes) old.entries (λ e i.
      within_kept old.pages new.pages e.writes h.long (All-contains (λ (e : Entry). AreWithin old.pages e.writes)
      old.entries e ok.within i)));
  whole = h.whole ok;
}

pub goes_nowhere : (old new : ArrayState) → new ≡ old → Goes old new
goes_nowhere old new same = rw same (record {
  part = part_same old.entries;
  stays = λ page h. refl;
  long = refl;
  whole = λ ok. ok.whole;
  atomic =
      λ e h. inr (λ k d lt. refl);
})

pub goes_then : (old mid new : ArrayState) → Goes old mid → Goes mid new → Goes old new
goes_then old mid new h k = record {
  part = part_then new.entries mid.entries old.entries k.part h.part;
  stays = λ page avoid. k.stays page (part_all (λ ws. Avoid page ws) mid.entries old.entries h.part avoid)
      ∙ h.stays page avoid;
  long = k.long ∙ h.long;
  whole = λ ok. k.whole (goes_consistent old mid h ok);
  atomic = λ e b.
      whole_or_then old.pages mid.pages new.pages e (h.atomic e b)
      (k.atomic e (beside_then old.pages mid.pages old.entries mid.entries e h.long h.part b));
}

pub goes_settled : (there : Bool) (s : ArrayState) → Goes s (settled there s)
goes_settled there s = record {
  part = part_settled there s.entries;
  stays = λ page h. settled_other there page s h;
  long = settled_length there s;
  whole = λ ok. settled_whole there s ok;
  atomic = λ e b. beside_settled there s e b;
}

abbrev WholeIsThere : ArrayState → Entry → Type 0
WholeIsThere s e = e.mark ≡ Whole → HasWhole s.pages e

-- the array stays, and some transactions
goes_open : (s : ArrayState) (es : List Entry) → ArePart es s.entries →
    (All (WholeIsThere s) s.entries → All (WholeIsThere s) es) →
    Goes s (record s { entries = es })
goes_open s es part whole = record {
  part = part;
  stays = λ page h. refl;
  long = refl;
  whole = λ ok. whole ok.whole;
  atomic = λ e b. inr (λ k d lt. refl);
}

pub goes_without : (s : ArrayState) (tag : ℕ) → Goes s (record s { entries = without tag s.entries })
goes_without s tag = goes_open s (without tag s.entries) (part_without tag s.entries)
    (all_without (WholeIsThere s) tag s.entries)

pub whole_kept : (old new : Pages) (e : Entry) → WholeOrSame old new e → HasWhole old e → HasWhole new e
whole_kept old new e (inl whole) h = whole
whole_kept old new e (inr same) h = whole_same old new e h same

-- the array takes the transaction with a tag
pub goes_taken : (s : ArrayState) (tag : ℕ) (e : Entry) → entry_of tag s.entries ≡ Some e →
    Goes s (record { pages = put s.pages e.writes; entries = without tag s.entries })
goes_taken s tag e found = record {
  part = part_without tag s.entries;
  stays = λ page h. put_other page e.writes s.pages (All-contains (λ (x : Entry). Avoid page x.writes) s.entries e h
      (found_is_in tag s.entries e found));
  long = put_length e.writes s.pages;
  whole = λ ok.
      all_without (λ (x : Entry). x.mark ≡ Whole → HasWhole (put s.pages e.writes) x) tag s.entries
      (all_from (λ (x : Entry). x.mark ≡ Whole → HasWhole (put s.pages e.writes) x) s.entries (λ x i is.
      whole_kept s.pages (put s.pages e.writes) x (takes x (beside_in s x ok i))
      (All-contains (WholeIsThere s) s.entries x ok.whole i is)));
  atomic = takes;
}
  where
    takes : (x : Entry) → IsBeside s.pages s.entries x → WholeOrSame s.pages (put s.pages e.writes) x
    takes x b = beside_taken s.pages s.entries x b e.writes
        (All-contains (λ (f : Entry). SameOrApart x f.writes) s.entries e b.each
        (found_is_in tag s.entries e found))

goes_to : (old mid new : ArrayState) → new ≡ mid → Goes old mid → Goes old new
goes_to old mid new same h = rw same h

-- ---- a step

-- a transaction goes on
marked_goes : (s : ArrayState) (tag : ℕ) (e f : Entry) → entry_of tag s.entries ≡ Some e → f.writes ≡ e.writes →
    f.mark ≢ Whole →
    Goes s (record s { entries = with_entry tag f s.entries })
marked_goes s tag e f found same plain =
    goes_open s _ (part_with tag f e s.entries same found)
    (all_with (WholeIsThere s) tag f s.entries (λ whole. absurd (plain whole)))

pub goes_on : (s new : ArrayState) (tag : ℕ) (e : Entry) (progress : Progress) → entry_of tag s.entries ≡ Some e →
    GoesOn s tag e progress new → Goes s new
goes_on s new tag e (progress.Wrote done all) found h =
    goes_to s _ new h.4 (marked_goes s tag e (record e { done = e.done + 1 }) found refl
    (λ whole. (let plain = h.0 in cc)))
goes_on s new tag e progress.Done found (inl h) = goes_to s _ new h.1 (goes_without s tag)
goes_on s new tag e progress.Done found (inr h) = goes_to s _ new h.2 (goes_taken s tag e found)

-- several go on, in turn
pub turn_goes : (es : List Entry) (ps : List Progress) (s new : ArrayState) → GoInTurn s es ps new → Goes s new
turn_goes [] [] s new h = goes_nowhere s new h
turn_goes [] (p ∷ ps) s new h = absurd h
turn_goes (e ∷ es) [] s new h = absurd h
turn_goes (e ∷ es) (p ∷ ps) s new h =
    goes_then s h.1.0 new (goes_on s h.1.0 e.tag e p h.0 h.1.1) (turn_goes es ps h.1.0 new h.1.2)

step_all_goes : (old new : ArrayState) (answer : Moved) → StepsAll old new answer → Goes old new
step_all_goes old new answer (there, h) =
    goes_then old (settled there old) new (goes_settled there old)
    (turn_goes (take answer.moved (settled there old).entries) h.each
    (settled there old) new h.go)

module _ (there : Bool) (s new : ArrayState) (tag : ℕ) (e : Entry)
    (found : entry_of tag (settled there s).entries ≡ Some (settled_entry there e)) where
  then_goes : (mid : ArrayState) → new ≡ mid → Goes (settled there s) mid → Goes s new
  then_goes mid same goes = goes_then s (settled there s) new (goes_settled there s)
      (goes_to (settled there s) mid new same goes)

  gives_goes : (result : Result Progress StepError) → StepGives s (settled there s) tag (settled_entry there e) result
      new → Goes s new
  gives_goes (Ok progress) h = then_goes new refl (goes_on (settled there s) new tag (settled_entry there e)
      progress found h)
  gives_goes (Err failed.Unknown) h = absurd h
  gives_goes (Err failed.Fault) (inl same) = goes_nowhere s new same
  gives_goes (Err failed.Fault) (inr h) = elim h.1 [
    | inl same ↦ then_goes (settled there s) same (goes_nowhere (settled there s) (settled there s) refl)
    | inr doubt ↦
        then_goes _ doubt.1
        (marked_goes (settled there s) tag (settled_entry there e) (record (settled_entry there e) { mark = Doubt })
        found refl (λ whole. cc))
  ]

  abort_goes : (result : Result Aborted StepError) → AbortGives s (settled there s) tag (settled_entry there e) result
      new → Goes s new
  abort_goes (Ok aborted.Gone) h = then_goes _ h.1 (goes_without (settled there s) tag)
  abort_goes (Ok aborted.Late) h = then_goes _ h.1 (goes_without (settled there s) tag)
  abort_goes (Err failed.Unknown) h = absurd h
  abort_goes (Err failed.Fault) h = goes_nowhere s new h

step_goes_as : (o : Option Entry) (there : Bool) (old new : ArrayState) (tag : ℕ) (result : Result Progress StepError) →
    entry_of tag old.entries ≡ o →
    MatchOption o ((result ≡ Err failed.Unknown) × (new ≡ old))
    (λ e. StepGives old (settled there old) tag (settled_entry there e) result new) → Goes old new
step_goes_as None there old new tag result found h = goes_nowhere old new h.1
step_goes_as (Some e) there old new tag result found h =
    gives_goes there old new tag e (settled_found there tag e old.entries found) result h

pub step_goes : (old new : ArrayState) (tag : ℕ) (result : Result Progress StepError) →
    Steps old new tag result → Goes old new
step_goes old new tag result h = step_goes_as (entry_of tag old.entries) h.0 old new tag result refl h.1

abort_goes_as : (o : Option Entry) (there : Bool) (old new : ArrayState) (tag : ℕ) (result : Result Aborted StepError) →
    entry_of tag old.entries ≡ o →
    MatchOption o ((result ≡ Err failed.Unknown) × (new ≡ old))
    (λ e. AbortGives old (settled there old) tag (settled_entry there e) result new) → Goes old new
abort_goes_as None there old new tag result found h = goes_nowhere old new h.1
abort_goes_as (Some e) there old new tag result found h =
    abort_goes there old new tag e (settled_found there tag e old.entries found) result h

finish_goes : (mids : List ArrayState) (old new : ArrayState) (tag : ℕ) (result : Result Progress StepError) →
    Finishes old mids new tag result → Goes old new
finish_goes [] old new tag (Ok (progress.Wrote done all)) h = absurd h
finish_goes [] old new tag (Ok progress.Done) h = step_goes old new tag (Ok progress.Done) h
finish_goes [] old new tag (Err e) h = step_goes old new tag (Err e) h
finish_goes (mid ∷ mids) old new tag result h =
    goes_then old mid new (step_goes old mid tag (Ok (progress.Wrote h.0 h.1)) h.2)
    (finish_goes mids mid new tag result h.3)

collect_goes : (old new : ArrayState) (result : Result Collected Fault) → Collects old new result → Goes old new
collect_goes old new (Ok collected) h = goes_to old _ new h.1 (goes_settled h.0 old)
collect_goes old new (Err fault) h = elim h.1 [
  | inl same ↦ goes_nowhere old new same
  | inr settles ↦ goes_to old _ new settles (goes_settled h.0 old)
]

-- ---- a command

abbrev pub is_write : Command → Bool
is_write (command.Write tag batch) = true
is_write _ = false

does_goes : (limits : Limits) (spent : ℕ → Bool) (c : Command) (old : ArrayState) (r : Reply) (new : ArrayState) →
    is_write c ≡ false →
    DoesCommand limits spent c old r new → Goes old new
does_goes limits spent (command.Read page) old r new other h = goes_nowhere old new h.4
does_goes limits spent (command.Write tag batch) old r new other h = cc
does_goes limits spent (command.Step tag) old r new other h = step_goes old new tag h.0 h.1
does_goes limits spent (command.Finish tag) old r new other h = finish_goes h.0 old new tag h.1 h.2
does_goes limits spent (command.Abort tag) old r new other h = abort_goes_as (entry_of tag old.entries) h.1.0 old new
    tag h.0 refl h.1.1
does_goes limits spent command.StepAll old r new other h = step_all_goes old new h.0 h.1
does_goes limits spent command.Collect old r new other h = collect_goes old new h.0 h.1
does_goes limits spent command.Stats old r new other h = goes_nowhere old new h.3
does_goes limits spent command.Explain old r new other h = goes_nowhere old new h.1
does_goes limits spent (command.Cut count what) old r new other h = absurd h
does_goes limits spent (command.Fault count what) old r new other h = absurd h
does_goes limits spent (command.BadRead count) old r new other h = absurd h

pub lost_goes : (c : Command) (old new : ArrayState) → CutLeavesOf c old new → Goes old new
lost_goes c old new (there, takes, none) =
    let mid = settled there old in
    record {
      part = rw none (part_none old.entries);
      stays = λ page h. takes_other c (MayComplete c) page old.entries mid.pages new.pages h takes
          ∙ settled_other there page old h;
      long = takes_long c (MayComplete c) old.entries mid.pages new.pages takes ∙ settled_length there old;
      whole = λ ok. rw none (All-nil (λ (e : Entry). e.mark ≡ Whole → HasWhole new.pages e));
      atomic = λ e b.
          whole_or_then old.pages mid.pages new.pages e (beside_settled there old e b)
          (takes_atomic c (MayComplete c) old.entries e mid.pages new.pages
          (beside_then old.pages mid.pages old.entries old.entries e (settled_length there old)
          (part_same old.entries) b) takes);
    }

machine_same : (old new : RunState) → new ≡ old → Goes old.machine new.machine
machine_same old new same = goes_nowhere old.machine new.machine (ap (λ (s : RunState). s.machine) same)

-- of a command that opens nothing
serves_go : (limits : Limits) (spent : ℕ → Bool) (c : Command) (old : RunState) (r : Reply) (new : RunState) →
    is_write c ≡ false →
    Serves limits spent c old r new → Goes old.machine new.machine
serves_go limits spent c old r new other serves =
    each_way limits spent c old r new serves (λ h. machine_same old new h.1) (λ h. machine_same old new h.2)
    (λ h. does_goes limits spent c old.machine r new.machine other h.0)
    (λ h. lost_goes c old.machine new.machine h.1)

-- the pages that it does not write stay, and no transaction comes to write them
record Stay (page : ℕ) (old new : ArrayState) : Type 0 where
  same : page_at new.pages page ≡ page_at old.pages page
  avoid : AllAvoid page new.entries

goes_stay : (page : ℕ) (old new : ArrayState) → AllAvoid page old.entries → Goes old new → Stay page old new
goes_stay page old new h goes = record {
  same = goes.stays page h;
  avoid = part_all (λ ws. Avoid page ws) new.entries old.entries goes.part h;
}

opened_stay : (page : ℕ) (tag : ℕ) (ws : List PageWrite) (s : ArrayState) → AllAvoid page s.entries → Avoid page ws →
    Stay page s (opened None tag ws s)
opened_stay page tag ws s h avoid = record {
  same = refl;
  avoid = All-push (λ (e : Entry). Avoid page e.writes) s.entries (new_entry tag ws) h avoid;
}

-- or it opens the transaction that it writes
pub record Opens (limits : Limits) (spent : ℕ → Bool) (c : Command) (r : Reply) (old new : ArrayState) : Type 0 where
  pub tag : ℕ
  pub fine : refusal limits spent old.entries tag (writes_in c) ≡ None
  pub told : opened_by c r ≡ writes_in c
  pub opens : new ≡ opened None tag (writes_in c) old

submitted_changes : (limits : Limits) (spent : ℕ → Bool) (tag : ℕ) (batch : Writes) (old : ArrayState) (r : Reply)
    (new : ArrayState)
    (result : Result (Unit {0}) SubmitError) (o : Option SubmitError) →
    refusal limits spent old.entries tag batch.entries ≡ o → result ≡ answer o →
    r ≡ submit_reply tag (length batch.entries) result →
    new ≡ opened o tag batch.entries old →
    Goes old new ⊎ Opens limits spent (command.Write tag batch) r old new
submitted_changes limits spent tag batch old r new result None fine answers told opens =
    let is : is_opened r ≡ true = ap is_opened (told ∙ ap (submit_reply tag (length batch.entries)) answers) in
    inr (record { tag = tag; fine = fine; told = ap (λ b. cond b batch.entries []) is; opens = opens })
submitted_changes limits spent tag batch old r new result (Some e) fine answers told opens =
    inl (goes_nowhere old new opens)

written_changes : (limits : Limits) (spent : ℕ → Bool) (tag : ℕ) (batch : Writes) (old : RunState) (r : Reply)
    (new : RunState) →
    (NotDone old r new ⊎ ((DoesCommand limits spent (command.Write tag batch) old.machine r new.machine
    × (new.up ≡ true)) ⊎
    LosesOpen (command.Write tag batch) old r new)) →
    Goes old.machine new.machine ⊎ Opens limits spent (command.Write tag batch) r old.machine new.machine
written_changes limits spent tag batch old r new (inl h) = inl (machine_same old new h.2)
written_changes limits spent tag batch old r new (inr (inl h)) =
    submitted_changes limits spent tag batch old.machine r new.machine h.0.0
    (refusal limits spent old.machine.entries tag batch.entries) refl h.0.1.answers
    h.0.2 h.0.1.opens
written_changes limits spent tag batch old r new (inr (inr h)) = elim h.0 [
  | inl cut ↦ absurd cut.1
  | inr drops ↦ (let no = drops.1 in cc)
]

pub serves_changes : (limits : Limits) (spent : ℕ → Bool) (c : Command) (old : RunState) (r : Reply) (new : RunState) →
    Serves limits spent c old r new →
    Goes old.machine new.machine ⊎ Opens limits spent c r old.machine new.machine
serves_changes limits spent (command.Write tag batch) old r new serves =
    written_changes limits spent tag batch old r new serves
serves_changes limits spent c old r new serves = inl (serves_go limits spent c old r new refl serves)

serves_stay : (page : ℕ) (limits : Limits) (spent : ℕ → Bool) (c : Command) (old : RunState) (r : Reply)
    (new : RunState) →
    AllAvoid page old.machine.entries → Avoid page (opened_by c r) → Serves limits spent c old r new →
    Stay page old.machine new.machine
serves_stay page limits spent c old r new h avoid serves = elim (serves_changes limits spent c old r new serves) [
  | inl goes ↦ goes_stay page old.machine new.machine h goes
  | inr change ↦
      subst (λ (s : ArrayState). Stay page old.machine s) (sym change.opens)
      (opened_stay page change.tag (writes_in c) old.machine h
      (subst (λ (ws : List PageWrite). Avoid page ws) change.told avoid))
]

-- no write of the page is opened by the first command, nor by the others
pub none_first : (page : ℕ) (c : Command) (cs : List Command) (r : Reply) (rs : List Reply) →
    NoneOpens page (c ∷ cs) (r ∷ rs) → Avoid page (opened_by c r)
none_first page c cs r rs none = All-head (λ (x : Command × Reply). Avoid page (opened_by x.0 x.1)) (
  c,
  r,
) (zip cs rs) none

pub none_later : (page : ℕ) (c : Command) (cs : List Command) (r : Reply) (rs : List Reply) →
    NoneOpens page (c ∷ cs) (r ∷ rs) → NoneOpens page cs rs
none_later page c cs r rs none = All-tail (λ (x : Command × Reply). Avoid page (opened_by x.0 x.1)) (
  c,
  r,
) (zip cs rs) none

run_stay : (limits : Limits) (seen : ℕ → ℕ) (old : RunState) (cs : List Command) (rs : List Reply) (new : RunState)
    (page : ℕ) → Run limits seen old cs rs new →
    AllAvoid page old.machine.entries → NoneOpens page cs rs → Stay page old.machine new.machine
run_stay limits seen old [] [] new page run h none = goes_stay page old.machine new.machine h (machine_same old new run)
run_stay limits seen old [] (r ∷ rs) new page run h none = absurd run
run_stay limits seen old (c ∷ cs) [] new page run h none = absurd run
run_stay limits seen old (c ∷ cs) (r ∷ rs) new page run h none =
    let first = serves_stay page limits run.1 c old r run.0 h (none_first page c cs r rs none) run.3 in
    let rest = run_stay limits (seen_after seen c r) run.0 cs rs new page run.4 first.avoid
    (none_later page c cs r rs none) in
    record { same = rest.same ∙ first.same; avoid = rest.avoid }

pub run_stays : (limits : Limits) (seen : ℕ → ℕ) (old : RunState) (cs : List Command) (rs : List Reply)
    (new : RunState) (page : ℕ) →
    Run limits seen old cs rs new →
    AllAvoid page old.machine.entries → NoneOpens page cs rs →
    page_at new.machine.pages page ≡ page_at old.machine.pages page
run_stays limits seen old cs rs new page run h none = (run_stay limits seen old cs rs new page run h none).same

-- an array that stands for the state has it too
stands_same : (page : ℕ) (s : ArrayState) (pages : Pages) → AllAvoid page s.entries → Represents s pages →
    page_at pages page ≡ page_at s.pages page
stands_same page s pages h (inl same) = ap (λ p. page_at p page) same
stands_same page s pages h (inr (e, has, doubt, took)) =
    ap (λ p. page_at p page) took ∙ put_other page e.writes s.pages
    (All-contains (λ (x : Entry). Avoid page x.writes) s.entries e h has)

pub run_stands : (limits : Limits) (seen : ℕ → ℕ) (old : RunState) (cs : List Command) (rs : List Reply)
    (new : RunState) (page : ℕ) (pages : Pages) →
    Run limits seen old cs rs new →
    AllAvoid page old.machine.entries → NoneOpens page cs rs → Represents new.machine pages →
    page_at pages page ≡ page_at old.machine.pages page
run_stands limits seen old cs rs new page pages run h none stands =
    let stay = run_stay limits seen old cs rs new page run h none in
    stands_same page new.machine pages stay.avoid stands ∙ stay.same
