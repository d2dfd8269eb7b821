-- Which transactions are in doubt after a command.
use Rattle.array_runs.proofs.Common.{◌≡◌, ◌⊎◌, ℕ, ◌+◌, ◌≤◌, Bool, true, false, cond, List, [], ◌∷◌, ◌++◌, map, All, Contains, Option, Some, None, Result, Ok, Err, refl, sym, ap, ◌∙◌, subst, inl, inr, arith, eqb-true, MatchOption, count_by, All-take, All-nil, All-head, All-tail, All-push, All-contains, sum_by-cons, all_from, none_counted, PageWrite, ArrayState, Entry, Pages, entry_of, has_tag, idle, is_doubted, new_entry, with_entry, without, GoInTurn, StepsAll, Collects, Steps, StepGives, GoesOn, AbortGives, IsAtLast, settled, settled_entry, Limits, opened, refusal, Run, RunState, Serves, DoesCommand, Finishes, seen_after, step_reply, Doubt, Aborted, Collected, Fault, Moved, Progress, StepError, SubmitError, Command, Reply}
use Rattle.std.specs.Prelude.{take}
use Rattle.std.proofs.lemmas.List.Elements.{All-map}
use Rattle.std.proofs.lemmas.List.Sums.{sum_by-append}
use Rattle.array_runs.specs.Promises.{HasOneDoubt, WritesOf}
use Rattle.array_machine.specs.declared.answers.Aborted.TheVariants as aborted
use Rattle.array_machine.specs.declared.answers.Progress.TheVariants as progress
use Rattle.array_machine.specs.declared.answers.StepError.TheVariants as failed
use Rattle.host_protocol.specs.declared.command.Command.TheVariants as command
use Rattle.host_protocol.specs.declared.reply.Reply.TheVariants as reply
use Rattle.array_runs.proofs.Apart.{all_with, all_without}
use Rattle.array_runs.proofs.Finishes.{sure_mark}
use Rattle.array_machine.proofs.UnbrokenCalls.{tagged}
use Rattle.array_runs.proofs.Cases.{each_way}

abbrev is_unsure : Entry → Bool
is_unsure e = is_doubted e.mark

abbrev IsSure : Entry → Type 0
IsSure e = is_doubted e.mark ≡ false

-- it was in doubt before, or is of a kind
abbrev CameBy : (Entry → Type 0) → List Entry → Entry → Type 0
CameBy Q es e = is_doubted e.mark ≡ true → Contains es e ⊎ Q e

record DoubtsBy (Q : Entry → Type 0) (old new : ArrayState) : Type 0 where
  one : HasOneDoubt old → HasOneDoubt new
  came : All (CameBy Q old.entries) new.entries

-- ---- the open transactions

not_unsure : (Q : Entry → Type 0) (es : List Entry) (e : Entry) → IsSure e → CameBy Q es e
not_unsure Q es e sure unsure = (let both = sym sure ∙ unsure in cc)

by_sure : (Q : Entry → Type 0) (old new : ArrayState) → All IsSure new.entries → DoubtsBy Q old new
by_sure Q old new sure = record {
  one = λ h. (let none : count_by is_unsure new.entries ≡ 0 = none_counted is_unsure new.entries sure in
      omega (arith, none));
  came = all_from (CameBy Q old.entries) new.entries
      (λ e i. not_unsure Q old.entries e (All-contains IsSure new.entries e sure i));
}

by_same : (Q : Entry → Type 0) (old new : ArrayState) → new ≡ old → DoubtsBy Q old new
by_same Q old new same = rw same (record {
  one = λ h. h;
  came = all_from (CameBy Q old.entries) old.entries (λ e i unsure. inl i);
})

by_weaker : (P Q : Entry → Type 0) (old new : ArrayState) → ((e : Entry) → P e → Q e) → DoubtsBy P old new →
    DoubtsBy Q old new
by_weaker P Q old new weaker h = record {
  one = h.one;
  came = all_from (CameBy Q old.entries) new.entries
      (λ e i unsure. elim (All-contains (CameBy P old.entries) new.entries e h.came i unsure) [
        | inl was ↦ inl was
        | inr by ↦ inr (weaker e by)
      ]);
}

by_then : (Q : Entry → Type 0) (old mid new : ArrayState) → DoubtsBy Q old mid → DoubtsBy Q mid new → DoubtsBy Q old new
by_then Q old mid new h k = record {
  one = λ one. k.one (h.one one);
  came = all_from (CameBy Q old.entries) new.entries
      (λ e i unsure. elim (All-contains (CameBy Q mid.entries) new.entries e k.came i unsure) [
        | inl was ↦ All-contains (CameBy Q old.entries) mid.entries e h.came was unsure
        | inr by ↦ inr by
      ]);
}

settled_all : (there : Bool) (es : List Entry) → All IsSure (map (settled_entry there) es)
settled_all there es = All-map IsSure (settled_entry there) es
    (all_from (λ e. IsSure (settled_entry there e)) es (λ e i. sure_mark there e.mark))

-- one of them is replaced
one_more : (b : Bool) → cond b 1 0 ≤ 1
one_more true = omega arith
one_more false = omega arith

with_one : (tag : ℕ) (new : Entry) (es : List Entry) → All IsSure es → count_by is_unsure (with_entry tag new es) ≤ 1
with_one tag new [] h = (let none = none_counted is_unsure [] (All-nil IsSure) in omega (arith, none))
with_one tag new (e ∷ es) h = elim (has_tag tag e) as
    (λ b. count_by is_unsure (cond b (new ∷ es) (e ∷ with_entry tag new es)) ≤ 1) [
      | true ↦ (
          let split : count_by is_unsure (new ∷ es) ≡ cond (is_unsure new) 1 0 + count_by is_unsure es = sum_by-cons
          (λ x. cond (is_unsure x) 1 0) new es in
          let none = none_counted is_unsure es (All-tail IsSure e es h) in
          let first = one_more (is_unsure new) in omega (arith, split, none, first))
      | false ↦ (
          let split : count_by is_unsure (e ∷ with_entry tag new es) ≡ cond (is_unsure e) 1 0 + count_by is_unsure
          (with_entry tag new es) = sum_by-cons (λ x. cond (is_unsure x) 1 0) e (with_entry tag new es) in
          let here : ◌≡◌ {A = ℕ} (cond {A = ℕ} (is_unsure e) 1 0) 0 = ap (λ (b : Bool). cond {A = ℕ} b 1 0)
          (All-head IsSure e es h) in
          let rest = with_one tag new es (All-tail IsSure e es h) in omega (arith, split, here, rest))
    ]

by_marked : (Q : Entry → Type 0) (there : Bool) (old new : ArrayState) (tag : ℕ) (e : Entry) → Q e →
    new ≡ record (settled there old) { entries = with_entry tag e (settled there old).entries } → DoubtsBy Q old new
by_marked Q there old new tag e by is = rw is (record {
  one = λ h. with_one tag e (map (settled_entry there) old.entries) (settled_all there old.entries);
  came = all_with (CameBy Q old.entries) tag e (map (settled_entry there) old.entries) (λ unsure. inr by)
      (all_from (CameBy Q old.entries) (map (settled_entry there) old.entries)
      (λ x i. not_unsure Q old.entries x (All-contains IsSure (map (settled_entry there) old.entries) x
      (settled_all there old.entries) i)));
})

by_settled : (Q : Entry → Type 0) (there : Bool) (old new : ArrayState) → new ≡ settled there old → DoubtsBy Q old new
by_settled Q there old new is = by_sure Q old new (subst (λ (s : ArrayState). All IsSure s.entries) (sym is)
    (settled_all there old.entries))

by_without : (Q : Entry → Type 0) (there : Bool) (old new : ArrayState) (tag : ℕ) →
    new.entries ≡ without tag (settled there old).entries → DoubtsBy Q old new
by_without Q there old new tag is = by_sure Q old new
    (subst (λ (es : List Entry). All IsSure es) (sym is)
    (all_without IsSure tag (map (settled_entry there) old.entries) (settled_all there old.entries)))

-- ---- a step

abbrev FailedAt : ℕ → Result Progress StepError → Entry → Type 0
FailedAt tag result e = (e.tag ≡ tag) × IsAtLast e × (result ≡ Err failed.Fault)

gives_doubts : (there : Bool) (old new : ArrayState) (tag : ℕ) (e : Entry) (result : Result Progress StepError) →
    e.tag ≡ tag →
    StepGives old (settled there old) tag (settled_entry there e) result new → DoubtsBy (FailedAt tag result) old new
gives_doubts there old new tag e (Ok (progress.Wrote done all)) own h =
    by_sure _ old new (subst (λ (s : ArrayState). All IsSure s.entries) (sym h.4)
    (all_with IsSure tag (record (settled_entry there e) { done = e.done + 1 })
    (map (settled_entry there) old.entries) (sure_mark there e.mark) (settled_all there old.entries)))
gives_doubts there old new tag e (Ok progress.Done) own (inl h) =
    by_without _ there old new tag (ap (λ (s : ArrayState). s.entries) h.1)
gives_doubts there old new tag e (Ok progress.Done) own (inr h) =
    by_without _ there old new tag (ap (λ (s : ArrayState). s.entries) h.2)
gives_doubts there old new tag e (Err failed.Unknown) own h = absurd h
gives_doubts there old new tag e (Err failed.Fault) own (inl same) = by_same _ old new same
gives_doubts there old new tag e (Err failed.Fault) own (inr h) = elim h.1 [
  | inl same ↦ by_settled _ there old new same
  | inr doubt ↦ by_marked _ there old new tag (record (settled_entry there e) { mark = Doubt }) (
    own,
    doubt.0,
    refl,
  ) doubt.1
]

step_doubts_as : (o : Option Entry) (there : Bool) (old new : ArrayState) (tag : ℕ)
    (result : Result Progress StepError) →
    entry_of tag old.entries ≡ o →
    MatchOption o ((result ≡ Err failed.Unknown) × (new ≡ old))
    (λ e. StepGives old (settled there old) tag (settled_entry there e) result new) →
    DoubtsBy (FailedAt tag result) old new
step_doubts_as None there old new tag result found h = by_same _ old new h.1
step_doubts_as (Some e) there old new tag result found h = gives_doubts there old new tag e result
    (eqb-true e.tag tag (tagged tag old.entries e found)) h

step_doubts : (old new : ArrayState) (tag : ℕ) (result : Result Progress StepError) → Steps old new tag result →
    DoubtsBy (FailedAt tag result) old new
step_doubts old new tag result h = step_doubts_as (entry_of tag old.entries) h.0 old new tag result refl h.1

wrote_doubts : (old new : ArrayState) (tag done all : ℕ) (Q : Entry → Type 0) →
    Steps old new tag (Ok (progress.Wrote done all)) → DoubtsBy Q old new
wrote_doubts old new tag done all Q h =
    by_weaker (FailedAt tag (Ok (progress.Wrote done all))) Q old new (λ e k. (let no = k.2 in cc))
    (step_doubts old new tag (Ok (progress.Wrote done all)) h)

finish_doubts : (mids : List ArrayState) (old new : ArrayState) (tag : ℕ) (result : Result Progress StepError) →
    Finishes old mids new tag result → DoubtsBy (FailedAt tag result) old new
finish_doubts [] old new tag (Ok (progress.Wrote done all)) h = absurd h
finish_doubts [] old new tag (Ok progress.Done) h = step_doubts old new tag (Ok progress.Done) h
finish_doubts [] old new tag (Err e) h = step_doubts old new tag (Err e) h
finish_doubts (mid ∷ mids) old new tag result h =
    by_then (FailedAt tag result) old mid new (wrote_doubts old mid tag h.0 h.1 (FailedAt tag result) h.2)
    (finish_doubts mids mid new tag result h.3)

-- ---- several at once

goes_on_sure : (s new : ArrayState) (e : Entry) (p : Progress) → All IsSure s.entries → IsSure e →
    GoesOn s e.tag e p new → All IsSure new.entries
goes_on_sure s new e (progress.Wrote done all) sure its h =
    subst (λ (x : ArrayState). All IsSure x.entries) (sym h.4)
    (all_with IsSure e.tag (record e { done = e.done + 1 }) s.entries its sure)
goes_on_sure s new e progress.Done sure its (inl h) =
    subst (λ (x : ArrayState). All IsSure x.entries) (sym h.1) (all_without IsSure e.tag s.entries sure)
goes_on_sure s new e progress.Done sure its (inr h) =
    subst (λ (x : ArrayState). All IsSure x.entries) (sym h.2) (all_without IsSure e.tag s.entries sure)

turn_sure : (es : List Entry) (ps : List Progress) (s new : ArrayState) → All IsSure s.entries → All IsSure es →
    GoInTurn s es ps new → All IsSure new.entries
turn_sure [] [] s new sure each h = subst (λ (x : ArrayState). All IsSure x.entries) (sym h) sure
turn_sure [] (p ∷ ps) s new sure each h = absurd h
turn_sure (e ∷ es) [] s new sure each h = absurd h
turn_sure (e ∷ es) (p ∷ ps) s new sure each h =
    turn_sure es ps h.1.0 new (goes_on_sure s h.1.0 e p sure (All-head IsSure e es each) h.1.1)
    (All-tail IsSure e es each) h.1.2

step_all_doubts : (Q : Entry → Type 0) (old new : ArrayState) (answer : Moved) → StepsAll old new answer →
    DoubtsBy Q old new
step_all_doubts Q old new answer (there, h) =
    let sure = settled_all there old.entries in
    by_sure Q old new (turn_sure (take answer.moved (settled there old).entries) h.each (settled there old) new sure
    (All-take IsSure answer.moved (settled there old).entries sure) h.go)

-- ---- the other commands

abort_doubts_as : (Q : Entry → Type 0) (o : Option Entry) (there : Bool) (old new : ArrayState) (tag : ℕ)
    (result : Result Aborted StepError) →
    MatchOption o ((result ≡ Err failed.Unknown) × (new ≡ old))
    (λ e. AbortGives old (settled there old) tag (settled_entry there e) result new) → DoubtsBy Q old new
abort_doubts_as Q None there old new tag result h = by_same Q old new h.1
abort_doubts_as Q (Some e) there old new tag (Ok aborted.Gone) h =
    by_without Q there old new tag (ap (λ (s : ArrayState). s.entries) h.1)
abort_doubts_as Q (Some e) there old new tag (Ok aborted.Late) h =
    by_without Q there old new tag (ap (λ (s : ArrayState). s.entries) h.1)
abort_doubts_as Q (Some e) there old new tag (Err failed.Unknown) h = absurd h
abort_doubts_as Q (Some e) there old new tag (Err failed.Fault) h = by_same Q old new h

collect_doubts : (Q : Entry → Type 0) (old new : ArrayState) (result : Result Collected Fault) →
    Collects old new result → DoubtsBy Q old new
collect_doubts Q old new (Ok collected) h = by_settled Q h.0 old new h.1
collect_doubts Q old new (Err fault) h = elim h.1 [
  | inl same ↦ by_same Q old new same
  | inr settles ↦ by_settled Q h.0 old new settles
]

pushed_one : (es : List Entry) (e : Entry) → IsSure e → count_by is_unsure (es ++ e ∷ []) ≡ count_by is_unsure es
pushed_one es e sure =
    let split : count_by is_unsure (es ++ e ∷ []) ≡ count_by is_unsure es + count_by is_unsure
    (e ∷ []) = sum_by-append (λ x. cond (is_unsure x) 1 0) es (e ∷ []) in
    let none = none_counted is_unsure (e ∷ []) (All-push IsSure [] e (All-nil IsSure) sure) in
    omega (arith, split, none)

opened_doubts : (Q : Entry → Type 0) (o : Option SubmitError) (tag : ℕ) (ws : List PageWrite) (old new : ArrayState) →
    new ≡ opened o tag ws old → DoubtsBy Q old new
opened_doubts Q (Some e) tag ws old new is = by_same Q old new is
opened_doubts Q None tag ws old new is = rw is (record {
  one = λ h. (let same = pushed_one old.entries (new_entry tag ws) refl in omega (arith, same, h));
  came = All-push (CameBy Q old.entries) old.entries (new_entry tag ws)
      (all_from (CameBy Q old.entries) old.entries (λ e i unsure. inl i)) (λ unsure. cc);
})

-- ---- a command

abbrev CameOf : Command → Reply → Entry → Type 0
CameOf c r e = (r ≡ reply.Fault) × WritesOf c e.tag × IsAtLast e

does_doubts : (limits : Limits) (spent : ℕ → Bool) (c : Command) (old : ArrayState) (r : Reply) (new : ArrayState) →
    DoesCommand limits spent c old r new → DoubtsBy (CameOf c r) old new
does_doubts limits spent (command.Read page) old r new h = by_same _ old new h.4
does_doubts limits spent (command.Write tag batch) old r new h = opened_doubts _
    (refusal limits spent old.entries tag batch.entries) tag batch.entries old new h.1.opens
does_doubts limits spent (command.Step tag) old r new h =
    by_weaker (FailedAt tag h.0) (CameOf (command.Step tag) r) old new
    (λ e k. (h.2 ∙ ap (step_reply tag) k.2, sym k.0, k.1)) (step_doubts old new tag h.0 h.1)
does_doubts limits spent (command.Finish tag) old r new h =
    by_weaker (FailedAt tag h.1) (CameOf (command.Finish tag) r) old new
    (λ e k. (h.3 ∙ ap (step_reply tag) k.2, sym k.0, k.1)) (finish_doubts h.0 old new tag h.1 h.2)
does_doubts limits spent (command.Abort tag) old r new h = abort_doubts_as _ (entry_of tag old.entries) h.1.0 old
    new tag h.0 h.1.1
does_doubts limits spent command.StepAll old r new h = step_all_doubts _ old new h.0 h.1
does_doubts limits spent command.Collect old r new h = collect_doubts _ old new h.0 h.1
does_doubts limits spent command.Stats old r new h = by_same _ old new h.3
does_doubts limits spent command.Explain old r new h = by_same _ old new h.1
does_doubts limits spent (command.Cut count what) old r new h = absurd h
does_doubts limits spent (command.Fault count what) old r new h = absurd h
does_doubts limits spent (command.BadRead count) old r new h = absurd h

machine_doubts : (Q : Entry → Type 0) (old new : RunState) → new ≡ old → DoubtsBy Q old.machine new.machine
machine_doubts Q old new same = by_same Q old.machine new.machine (ap (λ (s : RunState). s.machine) same)

serves_doubts : (limits : Limits) (spent : ℕ → Bool) (c : Command) (old : RunState) (r : Reply) (new : RunState) →
    Serves limits spent c old r new →
    DoubtsBy (CameOf c r) old.machine new.machine
serves_doubts limits spent c old r new serves =
    each_way limits spent c old r new serves (λ h. machine_doubts _ old new h.1) (λ h. machine_doubts _ old new h.2)
    (λ h. does_doubts limits spent c old.machine r new.machine h.0)
    (λ h. by_sure _ old.machine new.machine (subst (λ (es : List Entry). All IsSure es) (sym h.1.2) (All-nil IsSure)))

pub doubt_arises : (limits : Limits) (spent : ℕ → Bool) (c : Command) (old : RunState) (r : Reply)
    (new : RunState) (e : Entry) →
    Serves limits spent c old r new →
    Contains new.machine.entries e → is_doubted e.mark ≡ true →
    Contains old.machine.entries e ⊎ ((r ≡ reply.Fault) × WritesOf c e.tag × IsAtLast e)
doubt_arises limits spent c old r new e serves has unsure =
    All-contains (CameBy (CameOf c r) old.machine.entries) new.machine.entries e
    (serves_doubts limits spent c old r new serves).came has unsure

pub run_one_doubt : (limits : Limits) (seen : ℕ → ℕ) (old : RunState) (cs : List Command) (rs : List Reply)
    (new : RunState) →
    Run limits seen old cs rs new →
    HasOneDoubt old.machine → HasOneDoubt new.machine
run_one_doubt limits seen old [] [] new run h = subst (λ (s : RunState). HasOneDoubt s.machine) (sym run) h
run_one_doubt limits seen old [] (r ∷ rs) new run h = absurd run
run_one_doubt limits seen old (c ∷ cs) [] new run h = absurd run
run_one_doubt limits seen old (c ∷ cs) (r ∷ rs) new run h =
    run_one_doubt limits (seen_after seen c r) run.0 cs rs new run.4
    ((serves_doubts limits run.1 c old r run.0 run.3).one h)

pub idle_one_doubt : (pages : Pages) → HasOneDoubt (idle pages)
idle_one_doubt pages = (let none = none_counted is_unsure [] (All-nil IsSure) in omega (arith, none))
