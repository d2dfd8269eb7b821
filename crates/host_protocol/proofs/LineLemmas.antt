-- The first line of a file.
use Rattle.host_protocol.proofs.Common.{◌≡◌, ℕ, ◌+◌, ◌<◌, Bool, List, [], ◌∷◌, length, take, drop, refl, arith, Some, None, position, slice_split, lines_of}
use Rattle.std.specs.Str.Lines.{strip_carriage_return}
use Rattle.std.proofs.lemmas.List.{nil_from_length}
use Rattle.host_protocol.specs.Lines.{is_line_feed, ended_parts}
use Rattle.host_protocol.proofs.PartLemmas.{Parts, parts, split_some, split_none}

-- a part that others follow is a line
ended_more : {p : ℕ → Bool} (part xs : List ℕ) → Parts p xs → ended_parts (part ∷ slice_split p xs) ≡ part
    ∷ ended_parts (slice_split p xs)
ended_more part xs h = rw h.all refl

-- the first line ends before the first line feed
pub line_first : (bytes : List ℕ) (end : ℕ) → position is_line_feed bytes ≡ Some end
    → lines_of bytes ≡ strip_carriage_return (take end bytes) ∷ lines_of (drop (end + 1) bytes)
unfolding lines_of
line_first bytes end h =
    let behind = drop (end + 1) bytes in
    rw (split_some is_line_feed bytes end h, ended_more (take end bytes) behind (parts is_line_feed behind)) refl

some_part : (bytes : List ℕ) → 0 < length bytes → ended_parts (bytes ∷ []) ≡ bytes ∷ []
some_part [] h = absurd (omega arith)
some_part (b ∷ bs) h = refl

-- bytes without a line feed are one line
pub line_last : (bytes : List ℕ) → 0 < length bytes → position is_line_feed bytes ≡ None →
    lines_of bytes ≡ strip_carriage_return bytes ∷ []
unfolding lines_of
line_last bytes some h = rw (split_none is_line_feed bytes h, some_part bytes some) refl

pub lines_none : (bytes : List ℕ) → length bytes ≡ 0 → lines_of bytes ≡ []
unfolding lines_of
lines_none bytes h = rw (nil_from_length bytes h) refl
