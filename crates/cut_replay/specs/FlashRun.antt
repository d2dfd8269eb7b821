-- A run on a flash: a run of the array machine in which each state has the whole flash, as it was when the reply was
-- given.
use Rattle.std.specs.Prelude.{◌≡◌, ◌⊎◌, ℕ, ◌<◌, ◌≤◌, ◌||◌, Bool, true, false, not, List, [], ◌∷◌, Any, MatchBool}
use Rattle.std.specs.Prelude.{None, find}
use Rattle.tx_types.specs.declared.config.Config.{Config}
use Rattle.tx_types.specs.Config.{shape_of}
use Rattle.tx_types.specs.Limits.{max_version}
use Rattle.flash_model.specs.Calls.{Carries}
use Rattle.flash_model.specs.Flash.{FlashState}
use Rattle.flash_model.specs.Operations.{Operation, program, erase, fire, Moment, moment_of}
use Rattle.flash_model.specs.Moves.{Does, MovesTogether}
use Rattle.record_list.specs.Records.{mention}
use Rattle.record_list.specs.declared.found.Found.{Found}
use Rattle.judged_records.specs.Images.{records_in, array_in, IsSoundImage}
use Rattle.verdict_report.specs.Report.{report}
use Rattle.host_protocol.specs.declared.command.Command.{Command}
use Rattle.host_protocol.specs.declared.command.Command.TheVariants as command
use Rattle.host_protocol.specs.declared.reply.Reply.{Reply}
use Rattle.host_protocol.specs.declared.reply.Reply.TheVariants as reply
use Rattle.array_machine.specs.ArrayState.{ArrayState, idle, Represents}
use Rattle.array_machine.specs.Submit.{is_owner}
use Rattle.tx_engine.specs.Collections.{HasNothingToCollect}
use Rattle.tx_engine.specs.DeviceState.{limits_of}
use Rattle.array_runs.specs.Breaks.{is_cut, is_fault, is_lost}
use Rattle.array_runs.specs.Run.{RunState, DoesCommand, NotDone, LosesOpen, MayBeSpent, is_arm, is_break, seen_after}
use Rattle.cut_replay.specs.Costs.{CostsCommand, CostsStep}
use Rattle.cut_replay.specs.FlashCalls.{ArmsFlash, ComesUp, MountsFlash}
use Rattle.cut_replay.specs.Rising.{RaisesCommand}

-- where a run stands: its state, and what the flash is
pub record Point : Type 0 where
  pub state : RunState
  pub flash : FlashState

-- The image of a point is sound, and its array is that of the machine, or that with the pages of
-- the transaction in doubt. While the device is mounted power is on.
pub record IsPoint (its : Config) (p : Point) : Type 0 where
  pub sound : IsSoundImage its.protocol its.logical (shape_of its) p.flash.image
  pub array : Represents p.state.machine (array_in its.protocol its.logical p.flash.image)
  pub live : p.state.up ≡ true → p.flash.live ≡ true

-- the greatest mention of each page in an image
abbrev pub mentions_in : Config → Moment → ℕ → ℕ
mentions_in its m page = mention (records_in its.protocol m.image) page

-- The image mentions each page at these versions at most.
abbrev pub MentionsUpTo : Config → (ℕ → ℕ) → Point → Type 0
MentionsUpTo its seen p = (page : ℕ) → page < its.logical → mentions_in its (moment_of p.flash) page ≤ seen page

-- Where a batch is asked for, each page of no open transaction that the image mentions at the last version is spent.
abbrev pub KnowsSpent : Config → (ℕ → Bool) → Command → ArrayState → Moment → Type 0
KnowsSpent its spent (command.Write tag batch) s m =
    (page : ℕ) → page < its.logical → spent page ≡ false → find (is_owner page) s.entries ≡ None →
    mentions_in its m page < max_version
KnowsSpent its spent _ s m = Unit {0}

-- a command that asks for no program and no erase
abbrev pub is_still : Command → Bool
is_still (command.Read page) = true
is_still (command.Write tag batch) = true
is_still (command.Step tag) = false
is_still (command.Finish tag) = false
is_still (command.Abort tag) = true
is_still command.StepAll = false
is_still command.Collect = false
is_still command.Stats = true
is_still command.Explain = true
is_still (command.Cut count what) = true
is_still (command.Fault count what) = true
is_still (command.BadRead count) = true

-- a command that may start the programs of several transactions together
abbrev pub is_together : Command → Bool
is_together (command.Read page) = false
is_together (command.Write tag batch) = false
is_together (command.Step tag) = false
is_together (command.Finish tag) = false
is_together (command.Abort tag) = false
is_together command.StepAll = true
is_together command.Collect = false
is_together command.Stats = false
is_together command.Explain = false
is_together (command.Cut count what) = false
is_together (command.Fault count what) = false
is_together (command.BadRead count) = false

-- The moment comes from the one before by programs and erases, of which the last may be broken where power is cut or a
-- fault is met, or there by several programs that are started together; by none where the command asks for none.
pub record MovesBy (its : Config) (c : Command) (r : Reply) (old new : Moment) : Type 0 where
  pub moves : MovesTogether (is_together c) (shape_of its) old (is_break r) new
  pub still : is_still c ≡ true → new ≡ old

abbrev pub IsErase : Operation → Type 0
IsErase (program at bytes spare) = ⊥
IsErase (erase block) = Unit {0}
IsErase (fire loads) = ⊥

-- the operations between were done, and a block was erased
abbrev pub HasErased : Config → Moment → Moment → Type 0
HasErased its old new =
    (done : List Operation) × Does (shape_of its) old done new × Any IsErase done

-- the text is the report on some list of records
abbrev pub IsReportOn : Config → List ℕ → Type 0
IsReportOn its text = (list : List Found) × (text ≡ report its.protocol list its.logical)

-- What a reply tells of the flash: the counts; the report on some records, which are those of the
-- image where no fault was met before; that a block was erased; that there is nothing to collect.
abbrev pub Tells : Config → Bool → Point → Reply → Point → Type 0
Tells its faulted old (reply.Stats told) new =
    (told.programs ≡ new.flash.programs) × (told.erases ≡ new.flash.erases)
Tells its faulted old (reply.Report text) new =
    IsReportOn its text
    × (faulted ≡ false →
    text ≡ report its.protocol (records_in its.protocol new.flash.image) its.logical)
Tells its faulted old reply.Collected new = HasErased its (moment_of old.flash) (moment_of new.flash)
Tells its faulted old reply.Nothing new =
    HasNothingToCollect its.protocol its.logical new.flash.image new.state.machine.entries
Tells its faulted old _ new = Unit {0}

-- an arm is set for a break to come
pub record IsArmed (c : Command) (old : Point) (r : Reply) (new : Point) : Type 0 where
  pub told : r ≡ reply.Armed
  pub stays : new.state ≡ old.state
  pub arms : ArmsFlash c old.flash new.flash

-- The device could not be mounted: this mount met a fault, and the command was not done. The reply is `cut` exactly
-- where power went off in it.
pub record IsNotDone (its : Config) (old : Point) (r : Reply) (new : Point) : Type 0 where
  pub stays : NotDone old.state r new.state
  pub mounts : MountsFlash its false old.flash new.flash
  pub cut : is_cut r ≡ not new.flash.live

-- The command was done, and power stayed on. Its calls met a fault exactly where the reply is `fault`, and nothing that
-- was open is lost. While no fault was met before it, the image tells how many blocks a step collects at most, and
-- each page of what is answered as done is at a later version.
pub record IsDone (its : Config) (spent : ℕ → Bool) (faulted : Bool) (c : Command) (old : Point)
    (r : Reply) (new : Point) : Type 0 where
  pub does : DoesCommand (limits_of its) spent c old.state.machine r new.state.machine
  pub up : new.state.up ≡ true
  pub moves : MovesBy its c r (moment_of old.flash) (moment_of new.flash)
  pub costs : CostsCommand its c old.state.machine r (moment_of old.flash) (moment_of new.flash)
  pub direct : faulted ≡ false → CostsStep its c old.state.machine (moment_of old.flash) (moment_of new.flash)
  pub raises : faulted ≡ false → RaisesCommand its c old.state.machine r (moment_of old.flash) (moment_of new.flash)
  pub tells : Tells its faulted old r new
  pub knows : KnowsSpent its spent c old.state.machine (moment_of old.flash)
  pub first : FlashState
  pub mounts : ComesUp its old.state.up old.flash first
  pub calls : Carries first new.flash (is_break r)
  pub live : new.flash.live ≡ true
  pub kept : is_lost r ≡ false

-- What was open was lost in the calls of the command, of which the last met a break and left this flash. The reply is
-- `cut` exactly where power went off in it, and else `dropped`.
pub record IsLost (its : Config) (c : Command) (old : Point) (r : Reply) (met : FlashState) (new : Point) :
    Type 0 where
  pub loses : LosesOpen c old.state r new.state
  pub moves : MovesBy its c r (moment_of old.flash) (moment_of new.flash)
  pub costs : CostsCommand its c old.state.machine r (moment_of old.flash) (moment_of new.flash)
  pub first : FlashState
  pub mounts : ComesUp its old.state.up old.flash first
  pub calls : Carries first met true
  pub cut : is_cut r ≡ not met.live

-- and the device is mounted again at once, unless this mount meets a fault
abbrev pub IsMountedAnew : Config → Command → Point → Reply → Point → Type 0
IsMountedAnew its c old r new =
    (met : FlashState) × IsLost its c old r met new × MountsFlash its new.state.up met new.flash

-- a command that is no arm
abbrev pub DoesFlash : Config → (ℕ → Bool) → Bool → Command → Point → Reply → Point → Type 0
DoesFlash its spent faulted c old r new =
    IsNotDone its old r new ⊎ (IsDone its spent faulted c old r new ⊎ IsMountedAnew its c old r new)

-- a command on a flash, its reply, and where that leaves the run
abbrev pub ServesFlash : Config → (ℕ → Bool) → Bool → Command → Point → Reply → Point → Type 0
ServesFlash its spent faulted c old r new =
    MatchBool (is_arm c) (IsArmed c old r new) (DoesFlash its spent faulted c old r new)

-- A run over a list of commands: one reply and one point for each. `seen` is at least the greatest
-- mention of each page on the flash, and rises by one for each write of the page that is opened. `faulted` says whether
-- a fault was met before.
abbrev pub FlashRun : Config → (ℕ → ℕ) → Bool → Point → List Command → List Reply → List Point →
    Type 0
FlashRun its seen faulted old [] [] [] = Unit {0}
FlashRun its seen faulted old (c ∷ cs) (r ∷ rs) (p ∷ ps) =
    ((spent : ℕ → Bool) × MayBeSpent seen spent × ServesFlash its spent faulted c old r p)
    × (IsPoint its p × MentionsUpTo its (seen_after seen c r) p)
    × FlashRun its (seen_after seen c r) (faulted || is_fault r) p cs rs ps
FlashRun its seen faulted old _ _ _ = ⊥

-- the state at which a run begins: the array of the image, with nothing open
abbrev pub first_state : Config → Bool → Moment → RunState
first_state its its_up from =
    record { machine = idle (array_in its.protocol its.logical from.image); up = its_up }

-- the point at which it begins
abbrev pub first_point : Config → Bool → FlashState → Point
first_point its its_up its_flash =
    record { state = first_state its its_up (moment_of its_flash); flash = its_flash }

-- a run on a flash from this moment on, whose image is sound
pub record IsFlashRun (its : Config) (from : Moment) (cs : List Command) (rs : List Reply)
    (ps : List Point) : Type 0 where
  pub up : Bool
  pub flash : FlashState
  pub begins : moment_of flash ≡ from
  pub first : IsPoint its (first_point its up flash)
  pub runs : FlashRun its (mentions_in its from) false (first_point its up flash) cs rs ps

-- the point where a run ends
abbrev pub last_point : Point → List Point → Point
last_point old [] = old
last_point old (p ∷ ps) = last_point p ps

abbrev pub last_moment : Moment → List Point → Moment
last_moment from [] = from
last_moment from (p ∷ ps) = last_moment (moment_of p.flash) ps

-- and the state where it ends
abbrev pub last_state : RunState → List Point → RunState
last_state from [] = from
last_state from (p ∷ ps) = last_state p.state ps
