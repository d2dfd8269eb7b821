-- What a session hears, line by line, and what it says.
use Rattle.std.specs.Prelude.{◌≡◌, ℕ, ◌+◌, Bool, true, false, List, [], ◌∷◌, ◌++◌, take, ◌⊎◌, Option, None, Some, codes}
use Rattle.std.specs.Fmt.{decimal}
use Rattle.tx_types.specs.Config.{shape_of}
use Rattle.tx_types.specs.declared.config.Config.{Config}
use Rattle.record_list.specs.declared.found.Breach.{Breach}
use Rattle.judged_records.specs.Images.{IsLeastImageBreach}
use Rattle.flash_model.specs.Flash.{FlashState}
use Rattle.flash_model.specs.Operations.{moment_of}
use Rattle.host_protocol.specs.Files.{IsFile}
use Rattle.host_protocol.specs.Replies.{text_of}
use Rattle.host_protocol.specs.declared.command.Command.{Command}
use Rattle.host_protocol.specs.declared.reply.Reply.{Reply}
use Rattle.cut_replay.specs.FlashCalls.{BeginsFlash}
use Rattle.cut_replay.specs.EndsLost.{EndsLost}
use Rattle.cut_replay.specs.FlashRun.{IsFlashRun, Point, first_point, last_point}
use Rattle.mounted_session.specs.Mounting.{StaysQuiet}
use Rattle.program_base.specs.Refusals.{Unsound, line}
use Rattle.file_flash.specs.FileFlashState.{FileFlashState, untold}
use Rattle.live_session.specs.declared.desk.Next.{Next}
use Rattle.live_session.specs.declared.desk.Next.TheVariants as next
use Rattle.live_session.specs.Endings.{LiveEnding, Closed, BadLine, Refused, Fault, Starved}
use Rattle.live_session.specs.LineDesk.{BothTell, DeskTold, Saying, TakesNext, with_claim, with_input, with_put, with_saying}
use Rattle.live_session.specs.Opening.{OpensFile}
use Rattle.live_session.specs.Saying.{IsClosed, IsLeft, live_bytes, put_if, with_closed}

-- the flash of a file, as a run sees it
abbrev pub shown : FileFlashState → FlashState
shown f = untold f.memory

-- what claims nothing of what was done
abbrev pub plain : List ℕ → Saying
plain text = record { text = text; flash = None }

-- what is said when a session begins
abbrev pub serving : Saying
serving = plain (line (codes "serving"))

-- and of the line of this number, if it is bad
abbrev pub bad_line : ℕ → List ℕ
bad_line number = line (codes "bad line " ++ decimal number)

-- a reply, and the flash as it stood when it was said
abbrev pub reply_said : Reply → FileFlashState → Saying
reply_said r flash = record { text = text_of r; flash = Some flash }

-- Of this piece of the input no command is read: its line is none of the grammar, or has too many bytes, or these are
-- the bytes behind the last line feed.
abbrev pub IsBad : ℕ → Next → List ℕ → Type 0
IsBad page_bytes next.Line line = (cs : List Command) → IsFile page_bytes line cs → ⊥
IsBad page_bytes next.LongLine line = Unit {0}
IsBad page_bytes next.Part line = Unit {0}
IsBad page_bytes next.End line = ⊥

-- From one moment on lines were read and answered, so that the desk is as told now and the next line has this number: a
-- line with a command by the reply of its run, as the flash of the point there is; a line without one by nothing; a bad
-- one by its number. `good` says that none was bad.
pub data IsTalk (page_bytes : ℕ) (first : DeskTold) : DeskTold → ℕ → Bool → List Command → List Reply → List Point →
    Type 0 where
  begins : IsTalk page_bytes first first 1 true [] [] []
  passes : (now : DeskTold) → (number : ℕ) → (good : Bool) → (cs : List Command) → (rs : List Reply) →
      (ps : List Point) → (line rest : List ℕ) → IsTalk page_bytes first now number good cs rs ps →
      TakesNext next.Line line rest now → IsFile page_bytes line [] →
      IsTalk page_bytes first (with_input rest now) (number + 1) good cs rs ps
  replies : (now : DeskTold) → (number : ℕ) → (good : Bool) → (cs : List Command) → (rs : List Reply) →
      (ps : List Point) → (line rest : List ℕ) → IsTalk page_bytes first now number good cs rs ps →
      TakesNext next.Line line rest now → (c : Command) → IsFile page_bytes line (c ∷ []) →
      (r : Reply) → (p : Point) → (flash : FileFlashState) → p.flash ≡ shown flash →
      IsTalk page_bytes first (with_saying (reply_said r flash) (with_input rest now)) (number + 1) good
      (cs ++ c ∷ []) (rs ++ r ∷ []) (ps ++ p ∷ [])
  complains : (now : DeskTold) → (number : ℕ) → (good : Bool) → (cs : List Command) → (rs : List Reply) →
      (ps : List Point) → (line rest : List ℕ) → IsTalk page_bytes first now number good cs rs ps →
      (it : Next) → TakesNext it line rest now → IsBad page_bytes it line →
      IsTalk page_bytes first (with_saying (plain (bad_line number)) (with_input rest now)) (number + 1) false
      cs rs ps

-- The commands have a run, with these replies and points. It begins with the flash that was opened, once that is
-- mounted, and its last point shows the flash that is left.
pub record LeadsTo (its : Config) (opened left : FlashState) (cs : List Command) (rs : List Reply) (ps : List Point) :
    Type 0 where
  pub run : IsFlashRun its (moment_of opened) cs rs ps
  pub begins : BeginsFlash its opened run.up run.flash
  pub last : (last_point (first_point its run.up run.flash) ps).flash ≡ left

-- A session on a flash: `serving` was said, then lines of the input were read and answered, in order, by a run over the
-- commands that were read; and the file was closed with the flash that the run left, in its configuration. No file
-- was claimed in it, and its image file was put at its name at the end, and nothing else.
pub record IsSession (flash : FileFlashState) (good : Bool) (old new : DeskTold) : Type 0 where
  pub number : ℕ
  pub cs : List Command
  pub rs : List Reply
  pub ps : List Point
  pub ended : DeskTold
  pub left : FileFlashState
  pub talk : IsTalk flash.config.page_bytes (with_saying serving old) ended number good cs rs ps
  pub run : LeadsTo flash.config (shown flash) (shown left) cs rs ps
  pub closes : new ≡ with_closed true left ended
  pub config : left.config ≡ flash.config
  pub claims : new.claims ≡ old.claims
  pub puts : new.puts ≡ put_if true left old.puts

-- what was said of a text of which the last bytes were not
abbrev pub shorter : ℕ → Saying → Saying
shorter n it = record it { text = take n it.text }

-- All of this was said, or all but the last; or the last in part.
abbrev pub IsSaidOf : List Saying → List Saying → Type 0
IsSaidOf all said =
    (said ≡ all)
    ⊎ ((before : List Saying) × (last : Saying) × (n : ℕ) × (all ≡ before ++ last ∷ [])
    × ((said ≡ before) ⊎ (said ≡ before ++ shorter n last ∷ [])))

-- A run over the commands ended for want of memory in one more: nothing was done on the flash, or the command was
-- broken off, and the flash is left as that left it.
pub record StopsIn (its : Config) (opened left : FlashState) (cs : List Command) (rs : List Reply) (ps : List Point) :
    Type 0 where
  pub run : IsFlashRun its (moment_of opened) cs rs ps
  pub begins : BeginsFlash its opened run.up run.flash
  pub c : Command
  pub ends : StaysQuiet (last_point (first_point its run.up run.flash) ps).flash left
      ⊎ EndsLost its c (last_point (first_point its run.up run.flash) ps) left

-- and one more was served, whose reply was not said
pub record LeadsOn (its : Config) (opened left : FlashState) (cs : List Command) (rs : List Reply) (ps : List Point) :
    Type 0 where
  pub c : Command
  pub r : Reply
  pub p : Point
  pub leads : LeadsTo its opened left (cs ++ c ∷ []) (rs ++ r ∷ []) (ps ++ p ∷ [])

-- The commands have a run with these replies and points, and the flash that is left is that of its last point, or what
-- came of one command more, which was in hand.
abbrev pub Rests : Config → (opened left : FlashState) → List Command → List Reply → List Point → Type 0
Rests its opened left cs rs ps =
    LeadsTo its opened left cs rs ps ⊎ (LeadsOn its opened left cs rs ps ⊎ StopsIn its opened left cs rs ps)

-- A session that was stopped: up to then it is one. What it was about to say may be missing, or its last bytes. The
-- flash that is left is as its run or one command more left it, and the file was closed so. No file was claimed, and
-- nothing but its image file was to be put at its name.
pub record IsStopped (IsShut : FileFlashState → Type 0) (flash : FileFlashState) (old new : DeskTold) : Type 0 where
  pub number : ℕ
  pub good : Bool
  pub cs : List Command
  pub rs : List Reply
  pub ps : List Point
  pub reached : DeskTold
  pub talk : IsTalk flash.config.page_bytes (with_saying serving old) reached number good cs rs ps
  pub said : IsSaidOf reached.sayings new.sayings
  pub left : FileFlashState
  pub leaves : new.left ≡ Some left
  pub rests : Rests flash.config (shown flash) (shown left) cs rs ps
  pub closed : IsShut left
  pub claims : new.claims ≡ old.claims
  pub put : Bool
  pub puts : new.puts ≡ put_if put left old.puts

-- A session that did not begin: nothing was said, the flash that is left is as it was opened, and the file was closed
-- so.
pub record IsUnbegun (IsShut : FileFlashState → Type 0) (flash : FileFlashState) (old new : DeskTold) : Type 0 where
  pub said : new.sayings ≡ old.sayings
  pub left : FileFlashState
  pub leaves : new.left ≡ Some left
  pub rests : moment_of (shown left) ≡ moment_of (shown flash)
  pub closed : IsShut left
  pub claims : new.claims ≡ old.claims
  pub put : Bool
  pub puts : new.puts ≡ put_if put left old.puts

-- a session that did not begin, since the image of the flash is not sound: this breach is its first
abbrev pub IsUnsound : FileFlashState → Breach → DeskTold → DeskTold → Type 0
IsUnsound flash breach old new =
    IsUnbegun IsClosed flash old new × (new.input ≡ old.input)
    × IsLeastImageBreach flash.config.protocol flash.config.logical (shape_of flash.config) flash.memory.image breach

-- a session that was stopped, or did not begin
abbrev pub IsStoppedOrNone : (FileFlashState → Type 0) → FileFlashState → DeskTold → DeskTold → Type 0
IsStoppedOrNone IsShut flash old new = IsUnbegun IsShut flash old new ⊎ IsStopped IsShut flash old new

-- How a session ends on the flash of a file that was opened. For want of memory it may leave the live file.
abbrev pub IsHeld : FileFlashState → LiveEnding → Option DeskTold → Option DeskTold → Type 0
IsHeld flash Closed old new = BothTell (IsSession flash true) old new
IsHeld flash BadLine old new = BothTell (IsSession flash false) old new
IsHeld flash (Refused (Unsound breach)) old new = BothTell (IsUnsound flash breach) old new
IsHeld flash Fault old new = BothTell (IsStoppedOrNone IsClosed flash) old new
IsHeld flash Starved old new = BothTell (IsStoppedOrNone IsLeft flash) old new
IsHeld flash _ old new = ⊥

-- The file that the words name was claimed and opened, its live file was put at its name, and a session was held on its
-- flash.
pub record ServesFile (name : Option (List ℕ)) (good : Bool) (old new : DeskTold) : Type 0 where
  pub path : List ℕ
  pub named : name ≡ Some path
  pub flash : FileFlashState
  pub opens : OpensFile path flash old
  pub session : IsSession flash good (with_put (live_bytes flash) (with_claim path old)) new
