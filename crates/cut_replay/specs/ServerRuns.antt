-- A session that has served commands.
use Rattle.std.specs.Prelude.{◌≡◌, ℕ, Bool, false, ◌||◌, List, [], ◌∷◌, ◌++◌}
use Rattle.tx_types.specs.declared.config.Config.{Config}
use Rattle.flash_model.specs.Flash.{FlashState}
use Rattle.flash_model.specs.Operations.{moment_of}
use Rattle.host_protocol.specs.declared.command.Command.{Command}
use Rattle.host_protocol.specs.declared.reply.Reply.{Reply}
use Rattle.array_runs.specs.Breaks.{is_fault}
use Rattle.array_runs.specs.Run.{seen_after}
use Rattle.cut_replay.specs.FlashCalls.{BeginsFlash}
use Rattle.cut_replay.specs.FlashRun.{Point, IsFlashRun, first_point, last_point, mentions_in}
use Rattle.cut_replay.specs.Sessions.{DeviceSession, point_of, StandsAt}

-- what was seen after these commands, and whether a fault was met
abbrev pub seen_through : (ℕ → ℕ) → List Command → List Reply → ℕ → ℕ
seen_through seen (c ∷ cs) (r ∷ rs) = seen_through (seen_after seen c r) cs rs
seen_through seen _ _ = seen

abbrev pub faulted_through : Bool → List Reply → Bool
faulted_through faulted [] = faulted
faulted_through faulted (r ∷ rs) = faulted_through (faulted || is_fault r) rs

-- A run on the flash over these commands, with these replies and points, leads to this session. It begins with the
-- flash that was handed in, which is mounted first where power is on.
pub record IsServed {F : Type 0} (state : F → FlashState) (its : Config) (init : FlashState) (cs : List Command)
    (rs : List Reply) (ps : List Point) (s : DeviceSession F) : Type 0 where
  pub run : IsFlashRun its (moment_of init) cs rs ps
  pub begins : BeginsFlash its init run.up run.flash
  pub last : point_of state its s ≡ last_point (first_point its run.up run.flash) ps
  pub stands : StandsAt state its (seen_through (mentions_in its (moment_of init)) cs rs) (faulted_through false rs) s

-- each run that leads to the one session leads on to the other, by this command with its reply and the point there
abbrev pub RunsOn : {F : Type 0} → (F → FlashState) → Config → Command → DeviceSession F → Reply → DeviceSession F →
    Type 0
RunsOn state its c old r new =
    (init : FlashState) → (cs : List Command) → (rs : List Reply) → (ps : List Point) →
    IsServed state its init cs rs ps old →
    IsServed state its init (cs ++ c ∷ []) (rs ++ r ∷ []) (ps ++ point_of state its new ∷ []) new
