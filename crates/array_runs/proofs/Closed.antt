-- Nothing is open while no device is mounted, and after a reply that power was cut or that what was open is dropped.
use Rattle.array_runs.proofs.Common.{◌≡◌, ℕ, Bool, true, false, List, [], ◌∷◌, Result, Ok, Err, refl, sym, ap, ◌∙◌, subst, Limits, SubmitError, Progress, StepError, Aborted, Collected, Fault, ArrayState, Command, Reply, Run, RunState, Serves, DoesCommand, NotDone, seen_after, submit_reply, step_reply, abort_reply}
use Rattle.std.proofs.Common.{true≢false}
use Rattle.array_machine.specs.declared.answers.ReadAnswer.{ReadAnswer}
use Rattle.array_machine.specs.declared.answers.ReadAnswer.TheVariants as answer
use Rattle.array_machine.specs.declared.answers.ReadError.{ReadError}
use Rattle.array_machine.specs.declared.answers.ReadError.TheVariants as unread
use Rattle.array_machine.specs.declared.answers.SubmitError.TheVariants as refused
use Rattle.array_machine.specs.declared.answers.Progress.TheVariants as progress
use Rattle.array_machine.specs.declared.answers.StepError.TheVariants as failed
use Rattle.array_machine.specs.declared.answers.Aborted.TheVariants as aborted
use Rattle.array_machine.specs.declared.answers.Collected.TheVariants as collected
use Rattle.host_protocol.specs.declared.command.Command.TheVariants as command
use Rattle.array_runs.specs.Run.{IsClosedUnmounted, read_reply, collect_reply}
use Rattle.array_runs.specs.Breaks.{is_lost}
use Rattle.array_runs.proofs.Cases.{each_way}

same_closed : (old new : RunState) → new ≡ old → IsClosedUnmounted old → IsClosedUnmounted new
same_closed old new same h = subst IsClosedUnmounted (sym same) h

serves_closed : (limits : Limits) (spent : ℕ → Bool) (c : Command) (old : RunState) (r : Reply) (new : RunState) →
    IsClosedUnmounted old →
    Serves limits spent c old r new → IsClosedUnmounted new
serves_closed limits spent c old r new closed serves =
    each_way limits spent c old r new serves (λ h. same_closed old new h.1 closed) (λ h. same_closed old new h.2 closed)
    (λ h down. absurd (true≢false (sym h.1 ∙ down))) (λ h down. h.1.2)

pub run_closed : (limits : Limits) (seen : ℕ → ℕ) (old : RunState) (cs : List Command) (rs : List Reply)
    (new : RunState) → Run limits seen old cs rs new →
    IsClosedUnmounted old →
    IsClosedUnmounted new
run_closed limits seen old [] [] new run closed = same_closed old new run closed
run_closed limits seen old [] (r ∷ rs) new run closed = absurd run
run_closed limits seen old (c ∷ cs) [] new run closed = absurd run
run_closed limits seen old (c ∷ cs) (r ∷ rs) new run closed =
    run_closed limits (seen_after seen c r) run.0 cs rs new run.4
    (serves_closed limits run.1 c old r run.0 closed run.3)

-- ---- a command that was done is not answered so that nothing is open

read_unlost : (page : ℕ) (bytes : List ℕ) (result : Result ReadAnswer ReadError) →
    is_lost (read_reply page bytes result) ≡ false
read_unlost page bytes (Ok answer.Blank) = refl
read_unlost page bytes (Ok answer.Page) = refl
read_unlost page bytes (Err unread.Range) = refl
read_unlost page bytes (Err unread.Fault) = refl

submit_unlost : (tag pages : ℕ) (result : Result (Unit {0}) SubmitError) →
    is_lost (submit_reply tag pages result) ≡ false
submit_unlost tag pages (Ok u) = refl
submit_unlost tag pages (Err refused.Empty) = refl
submit_unlost tag pages (Err (refused.Range page)) = refl
submit_unlost tag pages (Err (refused.Repeated page)) = refl
submit_unlost tag pages (Err refused.Tag) = refl
submit_unlost tag pages (Err (refused.Overlap page owner)) = refl
submit_unlost tag pages (Err (refused.Full free)) = refl
submit_unlost tag pages (Err (refused.Spent page)) = refl

step_unlost : (tag : ℕ) (result : Result Progress StepError) → is_lost (step_reply tag result) ≡ false
step_unlost tag (Ok (progress.Wrote done all)) = refl
step_unlost tag (Ok progress.Done) = refl
step_unlost tag (Err failed.Unknown) = refl
step_unlost tag (Err failed.Fault) = refl

abort_unlost : (tag : ℕ) (result : Result Aborted StepError) → is_lost (abort_reply tag result) ≡ false
abort_unlost tag (Ok aborted.Gone) = refl
abort_unlost tag (Ok aborted.Late) = refl
abort_unlost tag (Err failed.Unknown) = refl
abort_unlost tag (Err failed.Fault) = refl

collect_unlost : (result : Result Collected Fault) → is_lost (collect_reply result) ≡ false
collect_unlost (Ok collected.One) = refl
collect_unlost (Ok collected.Nothing) = refl
collect_unlost (Err fault) = refl

does_unlost : (limits : Limits) (spent : ℕ → Bool) (c : Command) (old : ArrayState) (r : Reply) (new : ArrayState) →
    DoesCommand limits spent c old r new →
    is_lost r ≡ false
does_unlost limits spent (command.Read page) old r new h = ap is_lost h.3 ∙ read_unlost page h.0 h.1
does_unlost limits spent (command.Write tag batch) old r new h = ap is_lost h.2 ∙ submit_unlost tag _ h.0
does_unlost limits spent (command.Step tag) old r new h = ap is_lost h.2 ∙ step_unlost tag h.0
does_unlost limits spent (command.Finish tag) old r new h = ap is_lost h.3 ∙ step_unlost tag h.1
does_unlost limits spent (command.Abort tag) old r new h = ap is_lost h.2 ∙ abort_unlost tag h.0
does_unlost limits spent command.StepAll old r new h = ap is_lost h.2
does_unlost limits spent command.Collect old r new h = ap is_lost h.2 ∙ collect_unlost h.0
does_unlost limits spent command.Stats old r new h = ap is_lost h.2
does_unlost limits spent command.Explain old r new h = ap is_lost h.0.1
does_unlost limits spent (command.Cut count what) old r new h = absurd h
does_unlost limits spent (command.Fault count what) old r new h = absurd h
does_unlost limits spent (command.BadRead count) old r new h = absurd h

not_done_lost : (old : RunState) (r : Reply) (new : RunState) → IsClosedUnmounted old → NotDone old r new →
    new.machine.entries ≡ []
not_done_lost old r new closed h = ap (λ (s : RunState). s.machine.entries) h.2 ∙ closed h.0

pub lost_closes : (limits : Limits) (spent : ℕ → Bool) (c : Command) (old : RunState) (r : Reply) (new : RunState) →
    IsClosedUnmounted old →
    Serves limits spent c old r new → is_lost r ≡ true → new.machine.entries ≡ []
lost_closes limits spent c old r new closed serves told =
    each_way limits spent c old r new serves (λ h. absurd (true≢false (sym told ∙ ap is_lost h.0)))
    (not_done_lost old r new closed)
    (λ h. absurd (true≢false (sym told ∙ does_unlost limits spent c old.machine r new.machine h.0))) (λ h. h.1.2)
