-- What is counted of replies, one after the other.
use Rattle.std.specs.Prelude.{◌≡◌, ◌⊎◌, ℕ, List, [], ◌∷◌, ◌++◌, length}
use Rattle.host_protocol.specs.Lines.{lines_of}
use Rattle.host_protocol.specs.Replies.{text_of}
use Rattle.host_protocol.specs.declared.reply.Reply.{Reply}
use Rattle.drive_gen.specs.Summary.{last_stats}
use Rattle.drive_gen.specs.Tally.{plus, tally_of}
use Rattle.drive_gen.specs.declared.running_tally.RunningTally.{RunningTally}
use Rattle.drive_gen.specs.declared.tally.Tally.{Tally}

-- the last byte is a line feed
pub record EndsLine (bytes : List ℕ) : Type 0 where
  pub front : List ℕ
  pub all : bytes ≡ front ++ 10 ∷ []

-- each line has its line feed
abbrev pub AreLines : List ℕ → Type 0
AreLines bytes = (bytes ≡ []) ⊎ EndsLine bytes

-- what the lines of bytes count to, and the last of them that has the numbers of a device
pub record IsTally (bytes : List ℕ) (tally : Tally) (stats : List ℕ) : Type 0 where
  pub counts : tally ≡ tally_of (lines_of bytes)
  pub last : stats ≡ last_stats (lines_of bytes)

-- so it is of bytes without the text behind their last line feed
pub record AreCounted (bytes : List ℕ) (tally : Tally) (stats rest : List ℕ) : Type 0 where
  pub before : List ℕ
  pub all : bytes ≡ before ++ rest
  pub whole : AreLines before
  pub counted : IsTally before tally stats

-- these bytes of replies were counted
abbrev pub HasCounted : List ℕ → RunningTally → Type 0
HasCounted bytes r = AreCounted bytes r.tally r.stats.items r.open_text.items

-- the line of a reply was counted, which has no numbers of a device
pub record AddsLine (what : Reply) (old new : Tally) : Type 0 where
  pub counts : new ≡ plus old (tally_of (lines_of (text_of what)))
  pub none : length (last_stats (lines_of (text_of what))) ≡ 0
  pub ends : EndsLine (text_of what)
