-- The ways in which a command is served.
use Rattle.array_runs.proofs.Common.{◌≡◌, ◌⊎◌, ℕ, Bool, true, false, inl, inr, Limits, Command, Reply, RunState, Serves, DoesCommand, NotDone, LosesOpen}
use Rattle.std.specs.Prelude.{MatchBool}
use Rattle.host_protocol.specs.declared.reply.Reply.TheVariants as reply
use Rattle.array_runs.specs.Run.{is_arm}

-- An arm is set, the command is not done, it is done, or what was open is lost.
pub each_way : {X : Type 0} (limits : Limits) (spent : ℕ → Bool) (c : Command) (old : RunState) (r : Reply)
    (new : RunState) → Serves limits spent c old r new →
    ((r ≡ reply.Armed) × (new ≡ old) → X) → (NotDone old r new → X) →
    (DoesCommand limits spent c old.machine r new.machine × (new.up ≡ true) → X) →
    (LosesOpen c old r new → X) → X
each_way {X} limits spent c old r new serves armed kept does lost = matched (is_arm c) serves
  where
    served : NotDone old r new ⊎ ((DoesCommand limits spent c old.machine r new.machine × (new.up ≡ true))
        ⊎ LosesOpen c old r new) → X
    served (inl h) = kept h
    served (inr (inl h)) = does h
    served (inr (inr h)) = lost h

    matched : (b : Bool) → MatchBool b ((r ≡ reply.Armed) × (new ≡ old)) (NotDone old r new ⊎
        ((DoesCommand limits spent c old.machine r new.machine × (new.up ≡ true)) ⊎ LosesOpen c old r new)) → X
    matched true h = armed h
    matched false h = served h
