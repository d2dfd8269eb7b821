-- Sessions on images, each of which begins with what the loss before it left.
use Rattle.std.specs.Prelude.{◌≡◌, ◌⊎◌, ℕ, ◌≤◌, Bool, List, [], ◌∷◌, All, Contains}
use Rattle.tx_types.specs.Batch.{PageWrite}
use Rattle.tx_types.specs.declared.config.Protocol.{Protocol}
use Rattle.tx_types.specs.declared.config.Shape.{Shape}
use Rattle.flash_model.specs.Flash.{Contents}
use Rattle.record_list.specs.Records.{mention}
use Rattle.judged_records.specs.Images.{records_in, array_in}
use Rattle.array_machine.specs.ArrayState.{Entry, idle, page_at}
use Rattle.array_machine.specs.Submit.{Limits}
use Rattle.host_protocol.specs.declared.command.Command.{Command}
use Rattle.host_protocol.specs.declared.reply.Reply.{Reply}
use Rattle.array_runs.specs.Run.{Run, RunState, Serves, Acknowledges, NoneOpens, HasWhole, HasSame, IsConsistent}
use Rattle.lost_writes.specs.AfterLoss.{AfterLoss}
use Rattle.lost_writes.specs.Sessions.{Session, commands_of, replies_of, seen_over}

-- the state at which a session begins: the array of the image, with nothing open
abbrev pub begun_at : Protocol → ℕ → Bool → List Contents → RunState
begun_at protocol logical up image = record { machine = idle (array_in protocol logical image); up = up }

-- the greatest mention of each page in an image
abbrev pub mentions_at : Protocol → List Contents → ℕ → ℕ
mentions_at protocol image page = mention (records_in protocol image) page

-- A session on an image, until a loss in the middle of the command in hand left another one, which mentions no page at
-- more than was seen.
pub record IsSessionOn (protocol : Protocol) (logical : ℕ) (shape : Shape) (limits : Limits) (from : List Contents)
    (s : Session) (left : List Contents) : Type 0 where
  pub up : Bool
  pub last : RunState
  pub run : Run limits (mentions_at protocol from) (begun_at protocol logical up from) s.commands s.replies last
  pub after : AfterLoss protocol logical shape s.broken last.machine left
  pub mentions : (page : ℕ) →
      mentions_at protocol left page ≤ seen_over (mentions_at protocol from) s.commands s.replies page

-- sessions on images, one after the other
abbrev pub AreSessionsOn : Protocol → ℕ → Shape → Limits → List Contents → List Session → List Contents → Type 0
AreSessionsOn protocol logical shape limits from [] left = left ≡ from
AreSessionsOn protocol logical shape limits from (s ∷ ss) left =
    (mid : List Contents) × IsSessionOn protocol logical shape limits from s mid
    × AreSessionsOn protocol logical shape limits mid ss left

-- They are one run, from the array of the first image to that of the last one, with nothing open at its end.
abbrev pub ImagesAreOneRun : Protocol → Type 0
ImagesAreOneRun protocol =
    (logical : ℕ) (shape : Shape) (limits : Limits) (from : List Contents) (ss : List Session) (left : List Contents)
    (up : Bool) →
    AreSessionsOn protocol logical shape limits from ss left →
    (began : Bool)
    × Run limits (mentions_at protocol from) (begun_at protocol logical began from) (commands_of ss) (replies_of ss)
    (begun_at protocol logical up left)

-- From a state in the middle of a session: the rest of the session, what the loss left, and sessions on that.
pub record EndsIn (protocol : Protocol) (logical : ℕ) (shape : Shape) (limits : Limits) (seen : ℕ → ℕ)
    (from : RunState) (s : Session) (ss : List Session) (left : List Contents) : Type 0 where
  pub last : RunState
  pub run : Run limits seen from s.commands s.replies last
  pub next : List Contents
  pub after : AfterLoss protocol logical shape s.broken last.machine next
  pub mentions : (page : ℕ) → mentions_at protocol next page ≤ seen_over seen s.commands s.replies page
  pub sessions : AreSessionsOn protocol logical shape limits next ss left

-- A transaction that was acknowledged is in the array of the image that is left, over any number of losses, where no
-- write of its page was opened since.
abbrev pub AcknowledgedIsLeft : Protocol → Type 0
AcknowledgedIsLeft protocol =
    (logical : ℕ) (shape : Shape) (limits : Limits) (spent : ℕ → Bool) (c : Command) (old : RunState) (r : Reply)
    (mid : RunState) (e : Entry) (seen : ℕ → ℕ) (s : Session) (ss : List Session) (left : List Contents)
    (w : PageWrite) →
    IsConsistent old.machine →
    Serves limits spent c old r mid → Acknowledges c old.machine r e →
    EndsIn protocol logical shape limits seen mid s ss left →
    Contains e.writes w → NoneOpens w.page (commands_of (s ∷ ss)) (replies_of (s ∷ ss)) →
    page_at (array_in protocol logical left) w.page ≡ w.value

-- Any other that was open is whole or absent there.
abbrev pub OthersAreLeftWhole : Protocol → Type 0
OthersAreLeftWhole protocol =
    (logical : ℕ) (shape : Shape) (limits : Limits) (old : RunState) (e : Entry) (seen : ℕ → ℕ) (s : Session)
    (ss : List Session) (left : List Contents) →
    IsConsistent old.machine → Contains old.machine.entries e →
    EndsIn protocol logical shape limits seen old s ss left →
    All (λ w. NoneOpens w.page (commands_of (s ∷ ss)) (replies_of (s ∷ ss))) e.writes →
    HasWhole (array_in protocol logical left) e ⊎ HasSame old.machine.pages (array_in protocol logical left) e
