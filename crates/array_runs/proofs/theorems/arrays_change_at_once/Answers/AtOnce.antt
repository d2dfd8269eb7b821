-- What a command changes in the array: what settling takes, and all pages of one transaction or none.
use Rattle.array_runs.proofs.Common.{◌≡◌, ℕ, Bool, false, List, [], ◌∷◌, Option, Some, None, Result, Ok, Err, refl, sym, ap, ◌∙◌, subst, inl, inr, take, All, Contains, eqb-true, MatchOption, All-head, All-tail, PageWrite, ArrayState, Entry, Pages, entry_of, is_doubted, GoInTurn, StepsAll, Collects, Steps, StepGives, GoesOn, AbortGives, IsAtLast, doubted, settled, settled_entry, Limits, opened, refusal, Aborted, Collected, Fault, Moved, Progress, StepError, SubmitError, Command, Reply, RunState, Serves, DoesCommand, MayComplete, LosesOpen, Finishes, step_reply}
use Rattle.std.proofs.lemmas.List.{take-map}
use Rattle.array_machine.specs.Batches.{MayTakeEach}
use Rattle.array_machine.specs.declared.answers.Aborted.TheVariants as aborted
use Rattle.array_machine.specs.declared.answers.Progress.TheVariants as progress
use Rattle.array_machine.specs.declared.answers.StepError.TheVariants as failed
use Rattle.array_machine.proofs.UnbrokenCalls.{tagged}
use Rattle.host_protocol.specs.declared.command.Command.TheVariants as command
use Rattle.host_protocol.specs.declared.reply.Reply.TheVariants as reply
use Rattle.array_runs.specs.Run.{MayLose, ChangesAtOnce, Completes, moved_reply}
use Rattle.array_runs.proofs.Finishes.{Comes, comes_before, found_writes, found_is_in, settled_sure}
use Rattle.array_runs.proofs.Cases.{each_way}
use Rattle.array_runs.proofs.Each.{each_weaker, each_front, each_unsettled, takes_none, takes_weaker, takes_idle}

comes_same : (Q : Entry → Type 0) (old new : ArrayState) → new ≡ old → Comes Q old new.pages
comes_same Q old new same = (false, inl (ap (λ (s : ArrayState). s.pages) same))

comes_settled : (Q : Entry → Type 0) (there : Bool) (old new : ArrayState) → new.pages ≡ (settled there old).pages →
    Comes Q old new.pages
comes_settled Q there old new same = (there, inl same)

comes_weaker : (P Q : Entry → Type 0) (old : ArrayState) (pages : Pages) → ((e : Entry) → P e → Q e) →
    Comes P old pages → Comes Q old pages
comes_weaker P Q old pages weaker h = (
  h.0,
  elim h.1 [
    | inl same ↦ inl same
    | inr took ↦ inr (took.0, (took.1.0, weaker took.0 took.1.1), took.2)
  ],
)

-- ---- a step

abbrev IsCompleted : ℕ → Result Progress StepError → Entry → Type 0
IsCompleted tag result e = (e.tag ≡ tag) × IsAtLast e × (result ≡ Ok progress.Done)

given_comes : (there : Bool) (old new : ArrayState) (tag : ℕ) (e : Entry) (result : Result Progress StepError) →
    entry_of tag old.entries ≡ Some e →
    StepGives old (settled there old) tag (settled_entry there e) result new →
    Comes (IsCompleted tag result) old new.pages
given_comes there old new tag e (Ok (progress.Wrote done all)) found h =
    comes_settled _ there old new (ap (λ (s : ArrayState). s.pages) h.4)
given_comes there old new tag e (Ok progress.Done) found (inl h) =
    comes_settled _ there old new (ap (λ (s : ArrayState). s.pages) h.1)
given_comes there old new tag e (Ok progress.Done) found (inr h) =
    let own : e.tag ≡ tag = eqb-true e.tag tag (tagged tag old.entries e found) in
    (there, inr (e, ((found_is_in tag old.entries e found), (own, h.1, refl)), ap (λ (s : ArrayState). s.pages) h.2))
given_comes there old new tag e (Err failed.Unknown) found h = absurd h
given_comes there old new tag e (Err failed.Fault) found (inl same) = comes_same _ old new same
given_comes there old new tag e (Err failed.Fault) found (inr h) = elim h.1 [
  | inl same ↦ comes_settled _ there old new (ap (λ (s : ArrayState). s.pages) same)
  | inr doubt ↦ comes_settled _ there old new (ap (λ (s : ArrayState). s.pages) doubt.1)
]

step_comes_as : (o : Option Entry) (there : Bool) (old new : ArrayState) (tag : ℕ)
    (result : Result Progress StepError) → entry_of tag old.entries ≡ o →
    MatchOption o ((result ≡ Err failed.Unknown) × (new ≡ old))
    (λ e. StepGives old (settled there old) tag (settled_entry there e) result new) →
    Comes (IsCompleted tag result) old new.pages
step_comes_as None there old new tag result found h = comes_same _ old new h.1
step_comes_as (Some e) there old new tag result found h = given_comes there old new tag e result found h

step_comes : (old new : ArrayState) (tag : ℕ) (result : Result Progress StepError) → Steps old new tag result →
    Comes (IsCompleted tag result) old new.pages
step_comes old new tag result h = step_comes_as (entry_of tag old.entries) h.0 old new tag result refl h.1

-- ---- steps up to the end

abbrev IsFinished : ℕ → Result Progress StepError → Entry → Type 0
IsFinished tag result e = (e.tag ≡ tag) × (result ≡ Ok progress.Done)

last_comes : (old new : ArrayState) (tag : ℕ) (result : Result Progress StepError) → Steps old new tag result →
    Comes (IsFinished tag result) old new.pages
last_comes old new tag result h = comes_weaker (IsCompleted tag result) (IsFinished tag result) old new.pages
    (λ e k. (k.0, k.2))
    (step_comes old new tag result h)

finish_comes : (mids : List ArrayState) (old new : ArrayState) (tag : ℕ) (result : Result Progress StepError) →
    Finishes old mids new tag result →
    Comes (IsFinished tag result) old new.pages
finish_comes [] old new tag (Ok (progress.Wrote done all)) h = absurd h
finish_comes [] old new tag (Ok progress.Done) h = last_comes old new tag (Ok progress.Done) h
finish_comes [] old new tag (Err e) h = last_comes old new tag (Err e) h
finish_comes (mid ∷ mids) old new tag result h =
    let w = found_writes (entry_of tag old.entries) h.2.0 old mid tag h.0 h.1 (Ok (progress.Wrote h.0 h.1))
    refl refl h.2.1 in
    comes_before (λ t. (t ≡ tag) × (result ≡ Ok progress.Done)) h.2.0 old mid new.pages tag w.0 w.1
    (finish_comes mids mid new tag result h.3)

-- ---- the other commands

abort_comes_as : (Q : Entry → Type 0) (o : Option Entry) (there : Bool) (old new : ArrayState) (tag : ℕ)
    (result : Result Aborted StepError) →
    MatchOption o ((result ≡ Err failed.Unknown) × (new ≡ old))
    (λ e. AbortGives old (settled there old) tag (settled_entry there e) result new) →
    Comes Q old new.pages
abort_comes_as Q None there old new tag result h = comes_same Q old new h.1
abort_comes_as Q (Some e) there old new tag (Ok aborted.Gone) h =
    comes_settled Q there old new (ap (λ (s : ArrayState). s.pages) h.1)
abort_comes_as Q (Some e) there old new tag (Ok aborted.Late) h =
    comes_settled Q there old new (ap (λ (s : ArrayState). s.pages) h.1)
abort_comes_as Q (Some e) there old new tag (Err failed.Unknown) h = absurd h
abort_comes_as Q (Some e) there old new tag (Err failed.Fault) h = comes_same Q old new h

collect_comes : (Q : Entry → Type 0) (old new : ArrayState) (result : Result Collected Fault) →
    Collects old new result → Comes Q old new.pages
collect_comes Q old new (Ok collected) h = comes_settled Q h.0 old new (ap (λ (s : ArrayState). s.pages) h.1)
collect_comes Q old new (Err fault) h = elim h.1 [
  | inl same ↦ comes_same Q old new same
  | inr settles ↦ comes_settled Q h.0 old new (ap (λ (s : ArrayState). s.pages) settles)
]

opened_comes : (Q : Entry → Type 0) (o : Option SubmitError) (tag : ℕ) (ws : List PageWrite) (s new : ArrayState) →
    new ≡ opened o tag ws s →
    Comes Q s new.pages
opened_comes Q None tag ws s new is = (false, inl (ap (λ (s : ArrayState). s.pages) is))
opened_comes Q (Some e) tag ws s new is = comes_same Q s new is

-- ---- several at once

turn_takes : (es : List Entry) (ps : List Progress) (s new : ArrayState) → GoInTurn s es ps new →
    MayTakeEach s.pages IsAtLast es new.pages
turn_takes [] [] s new h = ap (λ (s : ArrayState). s.pages) h
turn_takes [] (p ∷ ps) s new h = absurd h
turn_takes (e ∷ es) [] s new h = absurd h
turn_takes (e ∷ es) (p ∷ ps) s new (found, (mid, goes, h)) = turned p goes (turn_takes es ps mid new h)
  where
    turned : (p : Progress) → GoesOn s e.tag e p mid → MayTakeEach mid.pages IsAtLast es new.pages →
        MayTakeEach s.pages IsAtLast (e ∷ es) new.pages
    turned (progress.Wrote done all) goes rest =
        inl (subst (λ (pages : Pages). MayTakeEach pages IsAtLast es new.pages)
        (ap (λ (s : ArrayState). s.pages) goes.4) rest)
    turned progress.Done (inl whole) rest =
        inl (subst (λ (pages : Pages). MayTakeEach pages IsAtLast es new.pages)
        (ap (λ (s : ArrayState). s.pages) whole.1) rest)
    turned progress.Done (inr last) rest =
        inr (
          last.1,
          subst (λ (pages : Pages). MayTakeEach pages IsAtLast es new.pages)
              (ap (λ (s : ArrayState). s.pages) last.2) rest,
        )

step_all_comes : (old new : ArrayState) (answer : Moved) → StepsAll old new answer →
    ChangesAtOnce command.StepAll (moved_reply answer) old new
step_all_comes old new answer (there, h) =
    let mid = settled there old in
    let first = take answer.moved old.entries in
    let all = turn_takes (take answer.moved mid.entries) h.each mid new h.go in
    let before : MayTakeEach mid.pages IsAtLast first new.pages =
    each_unsettled IsAtLast there first mid.pages new.pages (λ e last. last)
    (subst (λ (es : List Entry). MayTakeEach mid.pages IsAtLast es new.pages)
    (take-map (settled_entry there) answer.moved old.entries) all) in
    let Q : Entry → Type 0 = λ e. IsAtLast e × Contains first e in (
      there,
      each_front Q answer.moved old.entries mid.pages new.pages
          (each_weaker IsAtLast Q first mid.pages new.pages (λ e i last. (last, i)) before),
    )

-- ---- a command

-- what is taken is completed, by the reply
by_reply : (c : Command) (old : ArrayState) (r : Reply) (e : Entry) → r ≡ reply.Done e.tag → MayComplete c e →
    Completes c old r e
by_reply c old r e is may = subst (λ q. Completes c old q e) (sym is) (may, refl)

does_at_once : (limits : Limits) (spent : ℕ → Bool) (c : Command) (old : ArrayState) (r : Reply) (new : ArrayState) →
    DoesCommand limits spent c old r new → ChangesAtOnce c r old new
does_at_once limits spent (command.Read page) old r new h = comes_same _ old new h.4
does_at_once limits spent (command.Write tag batch) old r new h =
    opened_comes _ (refusal limits spent old.entries tag batch.entries) tag batch.entries old new h.1.opens
does_at_once limits spent (command.Step tag) old r new h =
    comes_weaker (IsCompleted tag h.0) (Completes (command.Step tag) old r) old new.pages
    (λ e k. by_reply (command.Step tag) old r e (h.2 ∙ ap (step_reply tag) k.2 ∙ ap reply.Done (sym k.0)) (k.0, k.1))
    (step_comes old new tag h.0 h.1)
does_at_once limits spent (command.Finish tag) old r new h =
    comes_weaker (IsFinished tag h.1) (Completes (command.Finish tag) old r) old new.pages
    (λ e k. by_reply (command.Finish tag) old r e (h.3 ∙ ap (step_reply tag) k.1 ∙ ap reply.Done (sym k.0)) k.0)
    (finish_comes h.0 old new tag h.1 h.2)
does_at_once limits spent (command.Abort tag) old r new h = abort_comes_as _ (entry_of tag old.entries) h.1.0 old
    new tag h.0 h.1.1
does_at_once limits spent command.StepAll old r new h =
    subst (λ q. ChangesAtOnce command.StepAll q old new) (sym h.2) (step_all_comes old new h.0 h.1)
does_at_once limits spent command.Collect old r new h = collect_comes _ old new h.0 h.1
does_at_once limits spent command.Stats old r new h = comes_same _ old new h.3
does_at_once limits spent command.Explain old r new h = comes_same _ old new h.1
does_at_once limits spent (command.Cut count what) old r new h = absurd h
does_at_once limits spent (command.Fault count what) old r new h = absurd h
does_at_once limits spent (command.BadRead count) old r new h = absurd h

-- nothing changes
same_at_once : (c : Command) (r : Reply) (old new : RunState) → new ≡ old → ChangesAtOnce c r old.machine new.machine
same_at_once c r old new same =
    subst (λ (s : RunState). ChangesAtOnce c r old.machine s.machine) (sym same) (
      false,
      takes_none c (Completes c old.machine r) old.machine.entries old.machine.pages,
    )

-- what is open is lost
lost_completes : (c : Command) (old : ArrayState) (pages : Pages) (r : Reply) (e : Entry) → MayLose c pages r →
    MayComplete c e → Completes c old r e
lost_completes c old pages r e (inl cut) may = subst (λ q. Completes c old q e) (sym cut.0) may
lost_completes c old pages r e (inr drops) may = subst (λ q. Completes c old q e) (sym drops.0) may

lost_at_once : (c : Command) (old : RunState) (r : Reply) (new : RunState) → LosesOpen c old r new →
    ChangesAtOnce c r old.machine new.machine
lost_at_once c old r new (may, (there, takes, none)) = (
  there,
  takes_weaker c (MayComplete c) (Completes c old.machine r) old.machine.entries (settled there old.machine).pages
      new.machine.pages
      (λ e i completes. lost_completes c old.machine old.machine.pages r e may completes) takes,
)

pub serves_at_once : (limits : Limits) (spent : ℕ → Bool) (c : Command) (old : RunState) (r : Reply) (new : RunState) →
    Serves limits spent c old r new →
    ChangesAtOnce c r old.machine new.machine
serves_at_once limits spent c old r new serves =
    each_way limits spent c old r new serves (λ h. same_at_once c r old new h.1) (λ h. same_at_once c r old new h.2)
    (λ h. does_at_once limits spent c old.machine r new.machine h.0) (lost_at_once c old r new)

-- where nothing is in doubt, nothing is taken by settling
none_doubted : (es : List Entry) → All (λ e. is_doubted e.mark ≡ false) es → doubted es ≡ []
none_doubted [] h = refl
none_doubted (e ∷ es) h =
    rw (All-head (λ (e : Entry). is_doubted e.mark ≡ false) e es h)
    (none_doubted es (All-tail (λ (e : Entry). is_doubted e.mark ≡ false) e es h))

pub serves_stays : (limits : Limits) (spent : ℕ → Bool) (c : Command) (old : RunState) (r : Reply) (new : RunState) →
    Serves limits spent c old r new →
    All (λ e. is_doubted e.mark ≡ false) old.machine.entries →
    ((e : Entry) → Contains old.machine.entries e → Completes c old.machine r e → ⊥) →
    new.machine.pages ≡ old.machine.pages
serves_stays limits spent c old r new serves sure other =
    let h = serves_at_once limits spent c old r new serves in
    takes_idle c (Completes c old.machine r) old.machine.entries (settled h.0 old.machine).pages
    new.machine.pages other h.1
    ∙ settled_sure h.0 old.machine (none_doubted old.machine.entries sure)
