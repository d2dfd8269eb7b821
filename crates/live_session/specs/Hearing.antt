-- What answering a line comes to, and all lines, while a server goes on.
use Rattle.std.specs.Prelude.{◌≡◌, ℕ, Bool, true, false, List, [], ◌∷◌, ◌++◌, ◌⊎◌, Option}
use Rattle.std.specs.Option.{option_map}
use Rattle.tx_types.specs.declared.config.Config.{Config}
use Rattle.flash_model.specs.Flash.{FlashState}
use Rattle.host_protocol.specs.Files.{IsFile}
use Rattle.host_protocol.specs.declared.command.Command.{Command}
use Rattle.host_protocol.specs.declared.reply.Reply.{Reply}
use Rattle.mounted_session.specs.Sessions.{is_mounted}
use Rattle.cut_replay.specs.FlashRun.{Point}
use Rattle.cut_replay.specs.ServerRuns.{IsServed}
use Rattle.cut_replay.specs.Sessions.{DeviceSession, EndsServing, flash_in}
use Rattle.cut_replay.specs.declared.serving.ServeError.{ServeError}
use Rattle.program_base.specs.Refusals.{Unsound}
use Rattle.record_list.specs.declared.found.Breach.{Breach}
use Rattle.file_flash.specs.FileFlashState.{FileFlashState}
use Rattle.live_session.specs.declared.desk.Next.{Next}
use Rattle.live_session.specs.declared.desk.Next.TheVariants as next
use Rattle.live_session.specs.Endings.{LiveEnding, Closed, BadLine, Refused, Fault, Starved}
use Rattle.live_session.specs.LineDesk.{DeskTold, Saying, with_saying}
use Rattle.live_session.specs.Saying.{with_closed}
use Rattle.live_session.specs.Talks.{IsSaidOf, IsTalk, bad_line, plain, reply_said, serving, shorter, shown}

-- the session of a server whose flash is a file
abbrev pub FileSession : Type 0
FileSession = DeviceSession FileFlashState

-- each run that leads to the one session leads on to the other, by this command with this reply, to this point
abbrev pub GoesOn : Config → Command → FileSession → Reply → Point → FileSession → Type 0
GoesOn its c old r p new =
    (init : FlashState) → (cs : List Command) → (rs : List Reply) → (ps : List Point) →
    IsServed shown its init cs rs ps old →
    IsServed shown its init (cs ++ c ∷ []) (rs ++ r ∷ []) (ps ++ p ∷ []) new

-- A command was served, and its reply was said with the flash as it stood.
pub record AnswersCommand (its : Config) (c : Command) (told : Option DeskTold) (old : FileSession)
    (told' : Option DeskTold) (new : FileSession) : Type 0 where
  pub reply : Reply
  pub point : Point
  pub flash : FileFlashState
  pub shows : point.flash ≡ shown flash
  pub says : told' ≡ option_map (with_saying (reply_said reply flash)) told
  pub runs : GoesOn its c old reply point new

-- the first of the commands was, if there is one
abbrev pub AnswersFirst : Config → List Command → Option DeskTold → FileSession → Option DeskTold → FileSession →
    Type 0
AnswersFirst its [] told old told' new = (told' ≡ told) × (new ≡ old)
AnswersFirst its (c ∷ cs) told old told' new = AnswersCommand its c told old told' new

-- A line was answered, where it is one of the grammar; else nothing was done.
abbrev pub AnswersLine : Config → List ℕ → Bool → Option DeskTold → FileSession → Option DeskTold → FileSession → Type 0
AnswersLine its line true told old told' new =
    (cs : List Command) × IsFile its.page_bytes line cs × AnswersFirst its cs told old told' new
AnswersLine its line false told old told' new =
    ((cs : List Command) → IsFile its.page_bytes line cs → ⊥) × (told' ≡ told) × (new ≡ old)

-- a saying was not said, or in part
abbrev pub StopsSaying : Saying → Option DeskTold → Option DeskTold → Type 0
StopsSaying it told told' = (told' ≡ told) ⊎ ((n : ℕ) × (told' ≡ option_map (with_saying (shorter n it)) told))

-- what was all said here, at the end, was said there in part
abbrev pub IsCutOff : (told all told' : Option DeskTold) → Type 0
IsCutOff told all told' =
    (it : Saying) × (n : ℕ) × (all ≡ option_map (with_saying it) told)
    × (told' ≡ option_map (with_saying (shorter n it)) told)

-- The session in which serving stopped has the flash of this one; or one command more was served, or ended serving.
abbrev pub RestsBy : Config → (old new : FileSession) → Type 0
RestsBy its old new =
    (shown (flash_in new) ≡ shown (flash_in old))
    ⊎ (((c : Command) × (r : Reply) × (p : Point) × GoesOn its c old r p new)
    ⊎ ((c : Command) × (why : ServeError) × EndsServing shown its c old (flash_in new) why))

-- answering a command stopped, before its reply was said or in that
abbrev pub StopsCommand : Config → Command → Option DeskTold → FileSession → Option DeskTold → FileSession → Type 0
StopsCommand its c told old told' new =
    ((told' ≡ told) × RestsBy its old new)
    ⊎ ((all : Option DeskTold) × AnswersCommand its c told old all new × IsCutOff told all told')

abbrev pub StopsLine : Config → List ℕ → Option DeskTold → FileSession → Option DeskTold → FileSession → Type 0
StopsLine its line told old told' new =
    ((told' ≡ told) × RestsBy its old new)
    ⊎ ((all : Option DeskTold) × AnswersLine its line true told old all new × IsCutOff told all told')

-- A piece of the input was answered: a line, or by the number where it is bad.
abbrev pub AnswersPiece : Config → Next → List ℕ → ℕ → Bool → Option DeskTold → FileSession → Option DeskTold →
    FileSession → Type 0
AnswersPiece its it line number true told old told' new =
    (it ≡ next.Line) × AnswersLine its line true told old told' new
AnswersPiece its it line number false told old told' new =
    (it ≡ next.Line → (cs : List Command) → IsFile its.page_bytes line cs → ⊥)
    × (told' ≡ option_map (with_saying (plain (bad_line number))) told) × (new ≡ old)

abbrev pub StopsPiece : Config → Next → List ℕ → ℕ → Option DeskTold → FileSession → Option DeskTold → FileSession →
    Type 0
StopsPiece its it line number told old told' new =
    ((told' ≡ told) × RestsBy its old new)
    ⊎ ((good : Bool) × (all : Option DeskTold) × AnswersPiece its it line number good told old all new
    × IsCutOff told all told')

-- Lines were answered, up to the one of this number, and the run over their commands leads from the one session to the
-- other.
pub record Hears (its : Config) (good : Bool) (old new : FileSession) (number : ℕ) (first now : DeskTold) :
    Type 0 where
  pub cs : List Command
  pub rs : List Reply
  pub ps : List Point
  pub talk : IsTalk its.page_bytes first now number good cs rs ps
  pub claims : now.claims ≡ first.claims
  pub puts : now.puts ≡ first.puts
  pub runs : (init : FlashState) → IsServed shown its init [] [] [] old → IsServed shown its init cs rs ps new

-- All lines of the input were answered, on a flash that is mounted.
pub record HearsAll (its : Config) (good : Bool) (old new : FileSession) (first now : DeskTold) : Type 0 where
  pub number : ℕ
  pub hears : Hears its good old new number (with_saying serving first) now
  pub mounted : is_mounted old ≡ true

-- Lines were answered, and then answering stopped, on a flash that is mounted.
pub record HearsPart (its : Config) (old new : FileSession) (first now : DeskTold) : Type 0 where
  pub number : ℕ
  pub good : Bool
  pub end : FileSession
  pub reached : DeskTold
  pub hears : Hears its good old end number (with_saying serving first) reached
  pub mounted : is_mounted old ≡ true
  pub said : IsSaidOf reached.sayings now.sayings
  pub claims : now.claims ≡ first.claims
  pub puts : now.puts ≡ first.puts
  pub rests : RestsBy its end new

-- the same, or nothing was said or done
abbrev pub HearsPartOrNone : Config → (old new : FileSession) → DeskTold → DeskTold → Type 0
HearsPartOrNone its old new first now =
    ((now.sayings ≡ first.sayings) × (now.claims ≡ first.claims) × (new ≡ old) × (now.puts ≡ first.puts))
    ⊎ HearsPart its old new first now

-- and the file was closed so, with the flash that was left
pub record StopsAndCloses (IsShut : FileFlashState → Type 0) (its : Config) (old : FileSession) (first now : DeskTold) :
    Type 0 where
  pub end : FileSession
  pub left : FileFlashState
  pub reached : DeskTold
  pub part : HearsPartOrNone its old end first reached
  pub put : Bool
  pub closes : now ≡ with_closed put left reached
  pub stays : left.memory ≡ (flash_in end).memory
  pub closed : IsShut left

-- and the file was closed with the flash that was left
pub record HearsAndCloses (its : Config) (good : Bool) (old : FileSession) (first now : DeskTold) : Type 0 where
  pub end : FileSession
  pub ended : DeskTold
  pub left : FileFlashState
  pub all : HearsAll its good old end first ended
  pub stays : left.memory ≡ (flash_in end).memory
  pub config : left.config ≡ its
  pub closes : now ≡ with_closed true left ended

-- Where a session ended otherwise, the second is so after a fault, the third for want of memory, and the first of the
-- breach of an image that is not sound. It was no other refusal.
abbrev pub WhereStopped : (Breach → Type 0) → (P Q : Type 0) → LiveEnding → Type 0
WhereStopped U P Q Closed = Unit {0}
WhereStopped U P Q BadLine = Unit {0}
WhereStopped U P Q (Refused (Unsound breach)) = U breach
WhereStopped U P Q Fault = P
WhereStopped U P Q Starved = Q
WhereStopped U P Q _ = ⊥

-- This is so of whether all lines were good, where a session ended so that the file was closed.
abbrev pub WhereClosed : (Bool → Type 0) → LiveEnding → Type 0
WhereClosed P Closed = P true
WhereClosed P BadLine = P false
WhereClosed P _ = Unit {0}
