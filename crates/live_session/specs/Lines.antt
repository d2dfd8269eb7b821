-- What comes next of an input.
use Rattle.std.specs.Prelude.{◌≡◌, ◌≢◌, ◌⊎◌, ℕ, ◌+◌, ◌<◌, ◌≤◌, List, [], ◌∷◌, ◌++◌, length, take, Option, None, Some, OnSome}
use Rattle.std.specs.Io.BufRead.{DropsThrough}
use Rattle.std.specs.Io.KnownBytes.{Consumes, IsAtEnd}
use Rattle.host_protocol.specs.Lines.{HasNoFeed}
use Rattle.live_session.specs.declared.desk.Next.{Next}
use Rattle.live_session.specs.declared.desk.Next.TheVariants as next
use Rattle.live_session.specs.declared.lines.Taken.{Taken}
use Rattle.live_session.specs.declared.lines.Taken.TheVariants as taken
use Rattle.live_session.specs.declared.lines.TheConstants.{MAX_LINE_BYTES}

-- the bytes of a line that is not too long
pub record IsLine (line : List ℕ) : Type 0 where
  pub feeds : HasNoFeed line
  pub most : length line ≤ MAX_LINE_BYTES

-- of a line with too many bytes: it has its line feed, or is all that is left
pub record IsLong (piece rest : List ℕ) : Type 0 where
  pub line : List ℕ
  pub feeds : HasNoFeed line
  pub long : MAX_LINE_BYTES < length line
  pub whole : (piece ≡ line ++ 10 ∷ []) ⊎ ((piece ≡ line) × (rest ≡ []))

-- the bytes behind the last line feed
pub record IsPart (piece rest : List ℕ) : Type 0 where
  pub feeds : HasNoFeed piece
  pub some : piece ≢ []
  pub last : rest ≡ []

-- this piece of the input came next, these are the bytes of its line, and that is left
abbrev pub IsNext : Next → (line piece rest : List ℕ) → Type 0
IsNext next.Line line piece rest = IsLine line × (piece ≡ line ++ 10 ∷ [])
IsNext next.LongLine line piece rest = IsLong piece rest
IsNext next.Part line piece rest = IsPart piece rest
IsNext next.End line piece rest = (piece ≡ []) × (rest ≡ [])

-- Where the bytes of an input are known, this came next of them, and what is left is known.
abbrev pub TakesPiece : (known left : Option (List ℕ)) → Next → List ℕ → Type 0
TakesPiece None left it line = Unit {0}
TakesPiece (Some all) None it line = ⊥
TakesPiece (Some all) (Some rest) it line = (piece : List ℕ) × (all ≡ piece ++ rest) × IsNext it line piece rest

-- Bytes before a line feed were put behind a line, and it was taken with them; or bytes without one; or none is left.
abbrev pub TakesBuffered : (known left : Option (List ℕ)) → Taken → (old new : List ℕ) → Type 0
TakesBuffered known left taken.WithFeed old new =
    (front : List ℕ) × (new ≡ old ++ front) × HasNoFeed front × Consumes known left (front ++ 10 ∷ [])
TakesBuffered known left taken.WithoutFeed old new =
    (front : List ℕ) × (new ≡ old ++ front) × HasNoFeed front × Consumes known left front
TakesBuffered known left taken.Nothing old new =
    (new ≡ old) × Consumes known left [] × OnSome known (IsAtEnd left)

-- the first line feed stands there, or there is none
abbrev pub FindsFeed : List ℕ → Option ℕ → Type 0
FindsFeed bytes None = HasNoFeed bytes
FindsFeed bytes (Some at) =
    (at < length bytes) × HasNoFeed (take at bytes) × (take (at + 1) bytes ≡ take at bytes ++ 10 ∷ [])

-- what is left of a line of which this was taken is gone, with its line feed
abbrev pub ReadsOver : (known left : Option (List ℕ)) → Taken → Type 0
ReadsOver known left taken.WithoutFeed = DropsThrough known left 10
ReadsOver known left it = left ≡ known
