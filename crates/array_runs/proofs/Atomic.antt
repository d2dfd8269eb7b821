-- Open transactions over whole runs: they stay consistent, one that is acknowledged stays in the array, and one that a
-- cut catches is there wholly or not at all.
use Rattle.array_runs.proofs.Common.{◌≡◌, ◌≢◌, ◌⊎◌, ℕ, ◌<◌, Bool, true, false, List, [], ◌∷◌, length, take, All, AllPairs, Contains, Option, Some, None, Result, Ok, Err, refl, sym, ap, ◌∙◌, subst, inl, inr, arith, MatchOption, All-nil, All-push, All-contains, all_from, Contains-cases, Contains-nil, PageWrite, ArrayState, Entry, Pages, entry_of, idle, is_doubted, new_entry, page_at, without, Steps, StepGives, GoesOn, IsAtLast, Aborts, AbortGives, settled, settled_entry, settled_mark, Limits, first_refusals, opened, spent_page, Whole, Aborted, Progress, StepError, SubmitError, Moved, Command, Reply, GoInTurn, StepsAll, Run, RunState, Serves, DoesCommand, NotDone, LosesOpen, MayComplete, Finishes, Avoid, AllAvoid, EntriesAreApart, HasWhole, HasSame, IsConsistent, is_break, writes_in, seen_after, step_reply, abort_reply}
use Rattle.std.proofs.Common.{get_or}
use Rattle.std.proofs.lemmas.List.Elements.{Contains-get_or}
use Rattle.std.proofs.lemmas.List.Quantifiers.{all_pairs_push}
use Rattle.std.proofs.lemmas.List.{take-map}
use Rattle.list_lemmas.proofs.Membership.{map_in}
use Rattle.array_machine.specs.ArrayState.{Represents}
use Rattle.array_machine.specs.Submit.{or_else}
use Rattle.array_machine.proofs.Accepting.{IsAccepted, accepted}
use Rattle.array_machine.specs.declared.answers.Aborted.TheVariants as aborted
use Rattle.array_machine.specs.declared.answers.Progress.TheVariants as progress
use Rattle.array_machine.specs.declared.answers.StepError.TheVariants as failed
use Rattle.host_protocol.specs.declared.command.Command.TheVariants as command
use Rattle.host_protocol.specs.declared.reply.Reply.TheVariants as reply
use Rattle.array_runs.specs.Run.{Acknowledges, NoneOpens, IsFinishedBy, opened_by, moved_reply}
use Rattle.array_runs.proofs.Finishes.{found_is_in, found_writes, settled_found, wrote_found}
use Rattle.array_runs.proofs.Unbroken.{unlike, lost_break}
use Rattle.array_runs.proofs.Taking.{put_has, part_all}
use Rattle.array_runs.proofs.Apart.{WholeOrSame, SameOrApart, IsBeside, share_back, apart_two, same_then, whole_or_then, beside_then}
use Rattle.array_runs.proofs.Apart.{beside_taken, beside_in, settled_sure_same, without_avoids}
use Rattle.array_runs.proofs.Changes.{Goes, goes_consistent, goes_settled, goes_on, turn_goes, whole_kept, step_goes, lost_goes, serves_changes, none_first}
use Rattle.array_runs.proofs.Each.{takes_apart}
use Rattle.array_runs.proofs.Changes.{none_later, run_stands}

-- ---- consistent states

pub idle_consistent : (pages : Pages) → IsConsistent (idle pages)
idle_consistent pages = record {
  distinct = All-nil (λ (e : Entry). AllPairs (λ v w. v.page ≢ w.page) e.writes);
  apart = λ i j d less below. absurd (omega arith);
  within = All-nil (λ (e : Entry). All (λ w. w.page < length pages) e.writes);
  whole = All-nil (λ (e : Entry). e.mark ≡ Whole → HasWhole pages e);
}

pub no_first : (a b : Option SubmitError) → or_else a b ≡ None → a ≡ None
no_first None b h = refl
no_first (Some e) b h = cc

-- a state that is consistent, and of an array of this many pages
pub record IsSized (limits : Limits) (s : ArrayState) : Type 0 where
  pub long : length s.pages ≡ limits.logical
  pub consistent : IsConsistent s

accepted_sized : (limits : Limits) (tag : ℕ) (ws : List PageWrite) (s : ArrayState) → IsSized limits s →
    IsAccepted limits s.entries tag ws →
    IsSized limits (opened None tag ws s)
accepted_sized limits tag ws s h accepts =
    let ok = h.consistent in
    let long = h.long in
    record {
      long = long;
      consistent = record {
        distinct = All-push (λ (e : Entry). AllPairs (λ v w. v.page ≢ w.page) e.writes) s.entries (new_entry tag ws)
            ok.distinct accepts.distinct;
        apart = all_pairs_push EntriesAreApart s.entries (new_entry tag ws) ok.apart (λ k d inside.
            let e = get_or s.entries k d in
            let i = (Contains-get_or s.entries k d inside) in
            share_back (new_entry tag ws) e (all_from (λ w. Avoid w.page e.writes) ws (λ w j.
            All-contains (λ (x : Entry). Avoid w.page x.writes) s.entries e
            (All-contains (λ w. AllAvoid w.page s.entries) ws w accepts.unowned j) i)));
        within = All-push (λ (e : Entry). All (λ w. w.page < length s.pages) e.writes) s.entries
            (new_entry tag ws) ok.within
            (λ k d lt. (let at = accepts.in_range k d lt in omega arith));
        whole = All-push (λ (e : Entry). e.mark ≡ Whole → HasWhole s.pages e) s.entries (new_entry tag ws)
            ok.whole (λ is. cc);
      };
    }

goes_sized : (limits : Limits) (old new : ArrayState) → Goes old new → IsSized limits old → IsSized limits new
goes_sized limits old new goes h = record {
  long = goes.long ∙ h.long;
  consistent = goes_consistent old new goes h.consistent;
}

pub serves_sized : (limits : Limits) (spent : ℕ → Bool) (c : Command) (old : RunState) (r : Reply) (new : RunState) →
    IsSized limits old.machine →
    Serves limits spent c old r new → IsSized limits new.machine
serves_sized limits spent c old r new h serves = elim (serves_changes limits spent c old r new serves) [
  | inl goes ↦ goes_sized limits old.machine new.machine goes h
  | inr change ↦
      subst (λ (s : ArrayState). IsSized limits s) (sym change.opens)
      (accepted_sized limits change.tag (writes_in c) old.machine h
      (accepted limits old.machine.entries change.tag (writes_in c)
      (no_first (first_refusals limits old.machine.entries change.tag (writes_in c)) (spent_page spent (writes_in c))
      change.fine)))
]

run_sized : (limits : Limits) (seen : ℕ → ℕ) (old : RunState) (cs : List Command) (rs : List Reply) (new : RunState) →
    Run limits seen old cs rs new →
    IsSized limits old.machine → IsSized limits new.machine
run_sized limits seen old [] [] new run h = subst (λ (s : RunState). IsSized limits s.machine) (sym run) h
run_sized limits seen old [] (r ∷ rs) new run h = absurd run
run_sized limits seen old (c ∷ cs) [] new run h = absurd run
run_sized limits seen old (c ∷ cs) (r ∷ rs) new run h =
    run_sized limits (seen_after seen c r) run.0 cs rs new run.4 (serves_sized limits run.1 c old r run.0 h run.3)

pub run_consistent : (limits : Limits) (seen : ℕ → ℕ) (old : RunState) (cs : List Command) (rs : List Reply)
    (new : RunState) → Run limits seen old cs rs new →
    length old.machine.pages ≡ limits.logical → IsConsistent old.machine → (length new.machine.pages ≡ limits.logical)
    × IsConsistent new.machine
run_consistent limits seen old cs rs new run long ok =
    let sized = run_sized limits seen old cs rs new run (record { long = long; consistent = ok }) in
    (sized.long, sized.consistent)

-- ---- a transaction that is acknowledged

-- the array has the transaction, and no open one writes its pages
abbrev IsDoneWith : Entry → ArrayState → Type 0
IsDoneWith e s = HasWhole s.pages e × All (λ w. AllAvoid w.page s.entries) e.writes

-- a transaction of a consistent state is done
module _ (s new : ArrayState) (tag : ℕ) (e : Entry) (ok : IsConsistent s)
    (found : entry_of tag s.entries ≡ Some e) where
  its_place : Contains s.entries e
  its_place = found_is_in tag s.entries e found

  avoids : All (λ w. AllAvoid w.page (without tag s.entries)) e.writes
  avoids = without_avoids tag s.entries e ok.apart found

  whole_done : e.mark ≡ Whole → new ≡ record s { entries = without tag s.entries } → IsDoneWith e new
  whole_done whole is = rw is (
    All-contains (λ (x : Entry). x.mark ≡ Whole → HasWhole s.pages x) s.entries e ok.whole
        its_place whole,
    avoids,
  )

  goes_done : GoesOn s tag e progress.Done new → IsDoneWith e new
  goes_done (inl h) = whole_done h.0 h.1
  goes_done (inr h) =
      let beside = beside_in s e ok its_place in
      rw h.2 (put_has e.writes s.pages beside.distinct beside.within, avoids)

-- and stays so
done_then : (old new : ArrayState) (e : Entry) → Goes old new → IsDoneWith e old → IsDoneWith e new
done_then old new e goes done = (
  all_from (λ w. page_at new.pages w.page ≡ w.value) e.writes (λ w i.
      goes.stays w.page (All-contains (λ w. AllAvoid w.page old.entries) e.writes w done.1 i)
      ∙ All-contains (λ w. page_at old.pages w.page ≡ w.value) e.writes w done.0 i),
  all_from (λ w. AllAvoid w.page new.entries) e.writes (λ w i.
      part_all (λ ws. Avoid w.page ws) new.entries old.entries goes.part
      (All-contains (λ w. AllAvoid w.page old.entries) e.writes w done.1 i)),
)

module _ (there : Bool) (old new : ArrayState) (tag : ℕ) (e : Entry) (ok : IsConsistent old)
    (found : entry_of tag old.entries ≡ Some e) where
  mid_ok : IsConsistent (settled there old)
  mid_ok = goes_consistent old (settled there old) (goes_settled there old) ok

  mid_found : entry_of tag (settled there old).entries ≡ Some (settled_entry there e)
  mid_found = settled_found there tag e old.entries found

  late_done : (settled_entry there e).mark ≡ Whole →
      new ≡ record (settled there old) { entries = without tag (settled there old).entries } → IsDoneWith e new
  late_done whole is = whole_done (settled there old) new tag (settled_entry there e) mid_ok mid_found whole is

  gives_done : StepGives old (settled there old) tag (settled_entry there e) (Ok progress.Done) new → IsDoneWith e new
  gives_done h = goes_done (settled there old) new tag (settled_entry there e) mid_ok mid_found h

step_done_as : (o : Option Entry) (there : Bool) (old new : ArrayState) (tag : ℕ) (e : Entry) → IsConsistent old →
    entry_of tag old.entries ≡ Some e →
    o ≡ Some e →
    MatchOption o ((Ok progress.Done ≡ Err failed.Unknown) × (new ≡ old))
    (λ e. StepGives old (settled there old) tag (settled_entry there e)
    (Ok progress.Done) new) → IsDoneWith e new
step_done_as None there old new tag e ok found is h = cc
step_done_as (Some x) there old new tag e ok found is h =
    let same : x ≡ e = cc in
    gives_done there old new tag e ok found
    (subst (λ (y : Entry). StepGives old (settled there old) tag (settled_entry there y) (Ok progress.Done) new)
    same h)

step_done : (old new : ArrayState) (tag : ℕ) (e : Entry) → IsConsistent old → entry_of tag old.entries ≡ Some e →
    Steps old new tag (Ok progress.Done) →
    IsDoneWith e new
step_done old new tag e ok found h = step_done_as (entry_of tag old.entries) h.0 old new tag e ok found found h.1

finish_done : (mids : List ArrayState) (old new : ArrayState) (tag : ℕ) (e : Entry) → IsConsistent old →
    entry_of tag old.entries ≡ Some e →
    Finishes old mids new tag (Ok progress.Done) → IsDoneWith e new
finish_done [] old new tag e ok found h = step_done old new tag e ok found h
finish_done (mid ∷ mids) old new tag e ok found h =
    let w = found_writes (entry_of tag old.entries) h.2.0 old mid tag h.0 h.1 (Ok (progress.Wrote h.0 h.1))
    refl refl h.2.1 in
    let same : w.0 ≡ e = let its = w.1.found in cc in
    let mid_ok = goes_consistent old mid (step_goes old mid tag (Ok (progress.Wrote h.0 h.1)) h.2) ok in
    let done = finish_done mids mid new tag _ mid_ok (wrote_found old mid h.2.0 tag w.0 w.1) h.3 in
    subst (λ (x : Entry). IsDoneWith x new) same done

abort_done_as : (o : Option Entry) (there : Bool) (old new : ArrayState) (tag : ℕ) (e : Entry) → IsConsistent old →
    entry_of tag old.entries ≡ Some e →
    o ≡ Some e →
    MatchOption o ((Ok aborted.Late ≡ Err failed.Unknown) × (new ≡ old))
    (λ e. AbortGives old (settled there old) tag (settled_entry there e)
    (Ok aborted.Late) new) → IsDoneWith e new
abort_done_as None there old new tag e ok found is h = cc
abort_done_as (Some x) there old new tag e ok found is h =
    let same : x ≡ e = cc in
    let gives = subst (λ (y : Entry). AbortGives old (settled there old) tag (settled_entry there y) (Ok aborted.Late)
    new) same h in
    late_done there old new tag e ok found gives.0 gives.1

told_done : (tag own : ℕ) (result : Result Progress StepError) → reply.Done tag ≡ step_reply own result →
    result ≡ Ok progress.Done
told_done tag own (Ok (progress.Wrote done all)) h = cc
told_done tag own (Ok progress.Done) h = refl
told_done tag own (Err failed.Unknown) h = cc
told_done tag own (Err failed.Fault) h = cc

told_late : (tag own : ℕ) (result : Result Aborted StepError) → reply.Late tag ≡ abort_reply own result →
    result ≡ Ok aborted.Late
told_late tag own (Ok aborted.Gone) h = cc
told_late tag own (Ok aborted.Late) h = refl
told_late tag own (Err failed.Unknown) h = cc
told_late tag own (Err failed.Fault) h = cc

-- what a reply that is no break says was done
pub done_of : (limits : Limits) (spent : ℕ → Bool) (c : Command) (old : RunState) (r : Reply) (new : RunState) →
    is_break r ≡ false →
    (NotDone old r new ⊎ ((DoesCommand limits spent c old.machine r new.machine × (new.up ≡ true))
    ⊎ LosesOpen c old r new)) →
    DoesCommand limits spent c old.machine r new.machine
done_of limits spent c old r new b (inl h) = elim h.1 [
  | inl e ↦ absurd (unlike r reply.Fault b e refl)
  | inr e ↦ absurd (unlike r reply.Cut b e refl)
]
done_of limits spent c old r new b (inr (inl h)) = h.0
done_of limits spent c old r new b (inr (inr h)) = absurd (lost_break c old r new h b)

-- several went on, and one of them was at its last page or whole
turned_done : (s new : ArrayState) (e : Entry) (p : Progress) → IsConsistent s → entry_of e.tag s.entries ≡ Some e →
    GoesOn s e.tag e p new →
    IsAtLast e ⊎ (e.mark ≡ Whole) → IsDoneWith e new
turned_done s new e (progress.Wrote done all) ok found goes (inl last) =
    (let more = goes.1 in absurd (omega (arith, last, more)))
turned_done s new e (progress.Wrote done all) ok found goes (inr whole) = (let plain = goes.0 in cc)
turned_done s new e progress.Done ok found goes kind = goes_done s new e.tag e ok found goes

turn_done : (es : List Entry) (ps : List Progress) (s new : ArrayState) (e : Entry) → IsConsistent s →
    GoInTurn s es ps new → Contains es e →
    IsAtLast e ⊎ (e.mark ≡ Whole) → IsDoneWith e new
turn_done [] ps s new e ok h i kind = absurd (Contains-nil e i)
turn_done (x ∷ es) [] s new e ok h i kind = absurd h
turn_done (x ∷ es) (p ∷ ps) s new e ok h i kind =
    let goes = goes_on s h.1.0 x.tag x p h.0 h.1.1 in
    elim (Contains-cases x es e i) [
      | inl same ↦
          done_then h.1.0 new e (turn_goes es ps h.1.0 new h.1.2)
          (subst (λ (y : Entry). IsAtLast y ⊎ (y.mark ≡ Whole) → IsDoneWith y h.1.0) same
          (turned_done s h.1.0 x p ok h.0 h.1.1) kind)
      | inr later ↦ turn_done es ps h.1.0 new e (goes_consistent s h.1.0 goes ok) h.1.2 later kind
    ]

settled_kind : (there : Bool) (e : Entry) → IsAtLast e ⊎ (e.mark ≡ Whole) → IsAtLast (settled_entry there e)
    ⊎ ((settled_entry there e).mark ≡ Whole)
settled_kind there e (inl last) = inl last
settled_kind there e (inr whole) = inr (ap (settled_mark there) whole)

step_all_done : (old new : ArrayState) (answer : Moved) (e : Entry) → IsConsistent old → StepsAll old new answer →
    IsFinishedBy old (moved_reply answer) e → IsDoneWith e new
step_all_done old new answer e ok (there, h) (first, kind) =
    let mid = settled there old in
    let place : Contains (take answer.moved mid.entries) (settled_entry there e) =
    subst (λ es. Contains es (settled_entry there e))
    (sym (take-map (settled_entry there) answer.moved old.entries))
    (map_in (settled_entry there) (take answer.moved old.entries) e first) in
    turn_done (take answer.moved mid.entries) h.each mid new (settled_entry there e)
    (goes_consistent old mid (goes_settled there old) ok) h.go place
    (settled_kind there e kind)

finished_unbroken : (old : ArrayState) (r : Reply) (e : Entry) → IsFinishedBy old r e → is_break r ≡ false
finished_unbroken old (reply.Moved moved finished) e h = refl
finished_unbroken old r e h = absurd h

serves_done : (limits : Limits) (spent : ℕ → Bool) (c : Command) (old : RunState) (r : Reply)
    (new : RunState) (e : Entry) →
    IsConsistent old.machine →
    Serves limits spent c old r new → Acknowledges c old.machine r e → IsDoneWith e new.machine
serves_done limits spent (command.Step own) old r new e ok serves (found, told) =
    let does = done_of limits spent (command.Step own) old r new (ap is_break told) serves in
    let is = told_done own own does.0 (sym told ∙ does.2) in
    step_done old.machine new.machine own e ok found
    (subst (λ (x : Result Progress StepError). Steps old.machine new.machine own x) is does.1)
serves_done limits spent (command.Finish own) old r new e ok serves (found, told) =
    let does = done_of limits spent (command.Finish own) old r new (ap is_break told) serves in
    let is = told_done own own does.1 (sym told ∙ does.3) in
    finish_done does.0 old.machine new.machine own e ok found
    (subst (λ (x : Result Progress StepError). Finishes old.machine does.0 new.machine own x) is does.2)
serves_done limits spent (command.Abort own) old r new e ok serves (found, told) =
    let does = done_of limits spent (command.Abort own) old r new (ap is_break told) serves in
    let is = told_late own own does.0 (sym told ∙ does.2) in
    let its = subst (λ (x : Result Aborted StepError). Aborts old.machine new.machine own x) is does.1 in
    abort_done_as (entry_of own old.machine.entries) its.0 old.machine new.machine own e ok found found its.1
serves_done limits spent command.StepAll old r new e ok serves told =
    let does = done_of limits spent command.StepAll old r new (finished_unbroken old.machine r e told) serves in
    step_all_done old.machine new.machine does.0 e ok does.1 (subst (λ q. IsFinishedBy old.machine q e) does.2 told)
serves_done limits spent c old r new e ok serves told = absurd told

pub acknowledged_stays : (limits : Limits) (spent : ℕ → Bool) (c : Command) (old : RunState) (r : Reply)
    (mid : RunState) (e : Entry)
    (seen : ℕ → ℕ) (cs : List Command) (rs : List Reply) (new : RunState) (pages : Pages) (w : PageWrite) →
    IsConsistent old.machine → Serves limits spent c old r mid → Acknowledges c old.machine r e →
    Run limits seen mid cs rs new → Represents new.machine pages →
    Contains e.writes w → NoneOpens w.page cs rs → page_at pages w.page ≡ w.value
acknowledged_stays limits spent c old r mid e seen cs rs new pages w ok serves told run stands has none =
    let done = serves_done limits spent c old r mid e ok serves told in
    run_stands limits seen mid cs rs new w.page pages run (All-contains (λ w. AllAvoid w.page mid.machine.entries)
    e.writes w done.1 has) none stands
    ∙ All-contains (λ w. page_at mid.machine.pages w.page ≡ w.value) e.writes w done.0 has

-- ---- a transaction is in the array wholly or not at all

record IsAtomic (e : Entry) (old new : ArrayState) : Type 0 where
  atomic : WholeOrSame old.pages new.pages e
  beside : IsBeside new.pages new.entries e

opened_atomic : (e : Entry) (tag : ℕ) (ws : List PageWrite) (s : ArrayState) → IsBeside s.pages s.entries e →
    All (λ w. Avoid w.page ws) e.writes →
    IsAtomic e s (opened None tag ws s)
opened_atomic e tag ws s h avoid = record {
  atomic = inr (λ k d lt. refl);
  beside = record {
    distinct = h.distinct;
    within = h.within;
    each = All-push (λ (f : Entry). SameOrApart e f.writes) s.entries (new_entry tag ws) h.each
        (inr avoid);
  };
}

serves_atomic : (limits : Limits) (spent : ℕ → Bool) (c : Command) (old : RunState) (r : Reply)
    (new : RunState) (e : Entry) →
    IsBeside old.machine.pages old.machine.entries e →
    All (λ w. Avoid w.page (opened_by c r)) e.writes → Serves limits spent c old r new →
    IsAtomic e old.machine new.machine
serves_atomic limits spent c old r new e h avoid serves = elim (serves_changes limits spent c old r new serves) [
  | inl goes ↦
      record {
        atomic = goes.atomic e h;
        beside = beside_then old.machine.pages new.machine.pages old.machine.entries new.machine.entries e
            goes.long goes.part h;
      }
  | inr change ↦
      subst (λ (s : ArrayState). IsAtomic e old.machine s) (sym change.opens)
      (opened_atomic e change.tag (writes_in c) old.machine h
      (subst (λ (ws : List PageWrite). All (λ w. Avoid w.page ws) e.writes) change.told avoid))
]

run_atomic : (limits : Limits) (seen : ℕ → ℕ) (old : RunState) (cs : List Command) (rs : List Reply)
    (new : RunState) (e : Entry) →
    IsBeside old.machine.pages old.machine.entries e →
    All (λ w. NoneOpens w.page cs rs) e.writes → Run limits seen old cs rs new → IsAtomic e old.machine new.machine
run_atomic limits seen old [] [] new e h none run =
    subst (λ (s : RunState). IsAtomic e old.machine s.machine) (sym run)
    (record { atomic = inr (λ k d lt. refl); beside = h })
run_atomic limits seen old [] (r ∷ rs) new e h none run = absurd run
run_atomic limits seen old (c ∷ cs) [] new e h none run = absurd run
run_atomic limits seen old (c ∷ cs) (r ∷ rs) new e h none run =
    let first = serves_atomic limits run.1 c old r run.0 e h
    (λ k d lt. none_first (get_or e.writes k d).page c cs r rs (none k d lt)) run.3 in
    let rest = run_atomic limits (seen_after seen c r) run.0 cs rs new e first.beside
    (λ k d lt. none_later (get_or e.writes k d).page c cs r rs (none k d lt)) run.4 in
    record {
      atomic = whole_or_then old.machine.pages run.0.machine.pages new.machine.pages e first.atomic rest.atomic;
      beside = rest.beside;
    }

stands_atomic : (s : ArrayState) (pages : Pages) (e : Entry) → IsBeside s.pages s.entries e → Represents s pages →
    WholeOrSame s.pages pages e
stands_atomic s pages e h (inl same) = rw same (inr (λ k d lt. refl))
stands_atomic s pages e h (inr (f, has, doubt, took)) =
    rw took (beside_taken s.pages s.entries e h f.writes (All-contains (λ (x : Entry). SameOrApart e x.writes) s.entries
    f h.each has))

pub transaction_atomic : (limits : Limits) (seen : ℕ → ℕ) (old : RunState) (cs : List Command) (rs : List Reply)
    (new : RunState) (pages : Pages) (e : Entry) →
    IsConsistent old.machine → Contains old.machine.entries e → Run limits seen old cs rs new →
    Represents new.machine pages →
    All (λ w. NoneOpens w.page cs rs) e.writes →
    WholeOrSame old.machine.pages pages e
transaction_atomic limits seen old cs rs new pages e ok has run stands none =
    let is = run_atomic limits seen old cs rs new e (beside_in old.machine e ok has) none run in
    whole_or_then old.machine.pages new.machine.pages pages e is.atomic
    (stands_atomic new.machine pages e is.beside stands)

-- ---- what was open is lost

module _ (c : Command) (old : RunState) (r : Reply) (new : RunState) (e : Entry) (ok : IsConsistent old.machine)
    (lost : LosesOpen c old r new)
    (has : Contains old.machine.entries e) where
  its_in : Contains old.machine.entries e
  its_in = has

  pub lost_whole_or_same : WholeOrSame old.machine.pages new.machine.pages e
  lost_whole_or_same = (lost_goes c old.machine new.machine lost.1).atomic e (beside_in old.machine e ok its_in)

  pub lost_whole : e.mark ≡ Whole → HasWhole new.machine.pages e
  lost_whole is = whole_kept old.machine.pages new.machine.pages e lost_whole_or_same
      (All-contains (λ (x : Entry). x.mark ≡ Whole → HasWhole old.machine.pages x) old.machine.entries e
      ok.whole its_in is)

  pub lost_others : is_doubted e.mark ≡ false → (MayComplete c e → ⊥) → HasSame old.machine.pages new.machine.pages e
  lost_others sure other =
      let mid = settled lost.1.0 old.machine in
      same_then old.machine.pages mid.pages new.machine.pages e
      (settled_sure_same lost.1.0 old.machine e ok its_in sure)
      (takes_apart c (MayComplete c) old.machine.entries e mid.pages new.machine.pages apart lost.1.1)
    where
      apart : (f : Entry) → Contains old.machine.entries f → MayComplete c f → EntriesAreApart e f
      apart f i may = elim (apart_two old.machine.entries e f ok.apart its_in i) [
        | inl one ↦ absurd (other (subst (λ (x : Entry). MayComplete c x) (sym one) may))
        | inr share ↦ share
      ]
