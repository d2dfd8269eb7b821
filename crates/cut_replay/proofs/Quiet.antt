-- Runs on a flash as runs of the array machine.
use Rattle.cut_replay.proofs.Common.{◌≡◌, ◌⊎◌, ℕ, Bool, true, false, ◌||◌, List, [], ◌∷◌, refl, subst, inl, inr, MatchBool, Config, limits_of, Command, Reply, DoesCommand, NotDone, LosesOpen, Moment, is_arm, seen_after, Point, FlashRun, ServesFlash, DoesFlash, IsArmed, mentions_in, first_point, first_state, is_fault, last_state}
use Rattle.array_runs.specs.Run.{Run, Serves}
use Rattle.cut_replay.specs.FlashRun.{IsFlashRun}

-- a command on a flash is one on the array machine
match_weaker : (b : Bool) (P P' Q Q' : Type 0) → (P → P') → (Q → Q') → MatchBool b P Q → MatchBool b P' Q'
match_weaker true P P' Q Q' p q h = p h
match_weaker false P P' Q Q' p q h = q h

serves_machine : (its : Config) (spent : ℕ → Bool) (faulted : Bool) (c : Command) (old : Point) (r : Reply)
    (new : Point) →
    DoesFlash its spent faulted c old r new →
    NotDone old.state r new.state ⊎ ((DoesCommand (limits_of its) spent c old.state.machine r new.state.machine
    × (new.state.up ≡ true)) ⊎
    LosesOpen c old.state r new.state)
serves_machine its spent faulted c old r new (inl h) = inl h.stays
serves_machine its spent faulted c old r new (inr (inl h)) = inr (inl (h.does, h.up))
serves_machine its spent faulted c old r new (inr (inr h)) = inr (inr h.1.loses)

pub serves_run : (its : Config) (spent : ℕ → Bool) (faulted : Bool) (c : Command) (old : Point) (r : Reply)
    (new : Point) →
    ServesFlash its spent faulted c old r new → Serves (limits_of its) spent c old.state r new.state
serves_run its spent faulted c old r new h =
    match_weaker (is_arm c) _ _ _ _ (λ (armed : IsArmed c old r new). (armed.told, armed.stays))
    (serves_machine its spent faulted c old r new) h

pub flash_run_is_run : (its : Config) (seen : ℕ → ℕ) (faulted : Bool) (old : Point) (cs : List Command)
    (rs : List Reply) (ps : List Point) →
    FlashRun its seen faulted old cs rs ps →
    Run (limits_of its) seen old.state cs rs (last_state old.state ps)
flash_run_is_run its seen faulted old [] [] [] run = refl
flash_run_is_run its seen faulted old [] [] (q ∷ ps) run = absurd run
flash_run_is_run its seen faulted old [] (s ∷ rs) ps run = absurd run
flash_run_is_run its seen faulted old (d ∷ cs) [] ps run = absurd run
flash_run_is_run its seen faulted old (d ∷ cs) (s ∷ rs) [] run = absurd run
flash_run_is_run its seen faulted old (d ∷ cs) (s ∷ rs) (q ∷ ps) run = (
  q.state,
  run.0.0,
  run.0.1,
  serves_run its run.0.0 faulted d old s q run.0.2,
  flash_run_is_run its (seen_after seen d s) (faulted || is_fault s) q cs rs ps run.2,
)

-- from the array of the image that the flash had
pub run_from : (its : Config) (from : Moment) (cs : List Command) (rs : List Reply) (ps : List Point) →
    (run : IsFlashRun its from cs rs ps) →
    Run (limits_of its) (mentions_in its from) (first_state its run.up from) cs rs
    (last_state (first_state its run.up from) ps)
run_from its from cs rs ps run =
    subst (λ (m : Moment). Run (limits_of its) (mentions_in its from) (first_state its run.up m) cs rs
    (last_state (first_state its run.up m) ps)) run.begins
    (flash_run_is_run its (mentions_in its from) false (first_point its run.up run.flash) cs rs ps run.runs)
