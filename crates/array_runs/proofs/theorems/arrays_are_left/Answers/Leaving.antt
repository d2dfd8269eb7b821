-- Commands that leave the array.
use Rattle.array_runs.proofs.Common.{◌≡◌, ℕ, Bool, List, Option, Some, None, ap, subst, inl, inr, PageWrite, ArrayState, Pages, Limits, opened, refusal, RunState, Serves, DoesCommand, SubmitError, Command, Reply}
use Rattle.array_runs.specs.Promises.{LeavesArray, LeavesState}
use Rattle.array_runs.specs.Run.{MayLose}
use Rattle.host_protocol.specs.declared.command.Command.TheVariants as command
use Rattle.array_runs.proofs.Cases.{each_way}

opened_leaves : (o : Option SubmitError) (tag : ℕ) (ws : List PageWrite) (old new : ArrayState) →
    new ≡ opened o tag ws old → new.pages ≡ old.pages
opened_leaves None tag ws old new is = ap (λ (s : ArrayState). s.pages) is
opened_leaves (Some e) tag ws old new is = ap (λ (s : ArrayState). s.pages) is

does_leave : (limits : Limits) (spent : ℕ → Bool) (c : Command) (old : ArrayState) (r : Reply) (new : ArrayState) →
    LeavesState c r → DoesCommand limits spent c old r new → new ≡ old
does_leave limits spent (command.Read page) old r new leaves h = h.4
does_leave limits spent (command.Write tag batch) old r new leaves h = absurd leaves
does_leave limits spent (command.Step tag) old r new leaves h = absurd leaves
does_leave limits spent (command.Finish tag) old r new leaves h = absurd leaves
does_leave limits spent (command.Abort tag) old r new leaves h = absurd leaves
does_leave limits spent command.StepAll old r new leaves h = absurd leaves
does_leave limits spent command.Collect old r new leaves h = absurd leaves
does_leave limits spent command.Stats old r new leaves h = h.3
does_leave limits spent command.Explain old r new leaves h = h.1
does_leave limits spent (command.Cut count what) old r new leaves h = absurd h
does_leave limits spent (command.Fault count what) old r new leaves h = absurd h
does_leave limits spent (command.BadRead count) old r new leaves h = absurd h

-- such a command loses nothing that is open
never_lost : (c : Command) (pages : Pages) (r : Reply) → LeavesArray c r → MayLose c pages r → ⊥
never_lost (command.Read page) pages r leaves (inl h) = leaves h.0
never_lost (command.Write tag batch) pages r leaves (inl h) = h.1
never_lost (command.Step tag) pages r leaves (inl h) = leaves
never_lost (command.Finish tag) pages r leaves (inl h) = leaves
never_lost (command.Abort tag) pages r leaves (inl h) = leaves
never_lost command.StepAll pages r leaves (inl h) = leaves
never_lost command.Collect pages r leaves (inl h) = leaves
never_lost command.Stats pages r leaves (inl h) = h.1
never_lost command.Explain pages r leaves (inl h) = h.1
never_lost (command.Cut count what) pages r leaves (inl h) = h.1
never_lost (command.Fault count what) pages r leaves (inl h) = h.1
never_lost (command.BadRead count) pages r leaves (inl h) = h.1
never_lost c pages r leaves (inr h) = subst (λ d. LeavesArray d r) h.1 leaves

state_array : (c : Command) (r : Reply) → LeavesState c r → LeavesArray c r
state_array (command.Write tag batch) r h = tt
state_array c r h = h

pub state_left : (limits : Limits) (spent : ℕ → Bool) (c : Command) (old : RunState) (r : Reply) (new : RunState) →
    LeavesState c r → Serves limits spent c old r new → new.machine ≡ old.machine
state_left limits spent c old r new leaves serves =
    each_way limits spent c old r new serves (λ h. ap (λ (s : RunState). s.machine) h.1)
    (λ h. ap (λ (s : RunState). s.machine) h.2)
    (λ h. does_leave limits spent c old.machine r new.machine leaves h.0)
    (λ h. absurd (never_lost c old.machine.pages r (state_array c r leaves) h.0))

pub array_left : (limits : Limits) (spent : ℕ → Bool) (c : Command) (old : RunState) (r : Reply) (new : RunState) →
    LeavesArray c r → Serves limits spent c old r new →
    new.machine.pages ≡ old.machine.pages
array_left limits spent (command.Write tag batch) old r new leaves serves =
    each_way limits spent (command.Write tag batch) old r new serves (λ h. ap (λ (s : RunState). s.machine.pages) h.1)
    (λ h. ap (λ (s : RunState). s.machine.pages) h.2)
    (λ h. opened_leaves (refusal limits spent old.machine.entries tag batch.entries) tag batch.entries old.machine
    new.machine h.0.1.opens)
    (λ h. absurd (never_lost (command.Write tag batch) old.machine.pages r tt h.0))
array_left limits spent c old r new leaves serves = ap (λ (s : ArrayState). s.pages)
    (state_left limits spent c old r new leaves serves)
