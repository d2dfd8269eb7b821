-- The noted records as notes are added and changed.
use Rattle.judged_records.proofs.Common.{◌≡◌, ℕ, ◌+◌, ◌*◌, ◌<◌, ◌≤◌, true, List, [], ◌∷◌, ◌++◌, length, set, take, AllPairs, Option, Some, None, IsSome, refl, sym, ap, ◌∙◌, subst, inl, inr, arith, Contains, cons_option, none-some, same_Some, length-take-le, take_more, false≢true, cases_lt, Rec, Shape, Found, IsInserted, left, is_outside, Note, Blank, Damaged, Holds, note_at, rec_of, found_at, found_in, with_block_noted}
use Rattle.std.proofs.Common.{is_some}
use Rattle.std.proofs.lemmas.List.{get_or_past}
use Rattle.judged_records.proofs.OfNotes.BaseTables.{given, given-push, given-inserted, given-unchanged, given_from, given_in, given_ascending}
use Rattle.judged_records.proofs.OfNotes.Blocks.{given-with_item}

-- a numbered note with its record
abbrev pub numbered : ℕ × Note → Option Found
numbered (slot, note) = found_at slot note

-- a record in a slot
abbrev pub found : ℕ → Rec → Found
found slot rec = record { slot = record { 0 = slot }; rec = rec }

pub found_in_nil : found_in [] ≡ []
unfolding found_in
found_in_nil = refl

pub found_in_push : (notes : List Note) (note : Note) → found_in (notes ++ note ∷ []) ≡ found_in notes
    ++ cons_option (found_at (length notes) note) []
unfolding found_in
found_in_push notes note = given-push numbered 0 notes note
    ∙ ap (λ k. given numbered 0 notes ++ cons_option (found_at k note) []) (omega arith)

-- the records of one note more
pub found_in_more : (notes : List Note) (i : ℕ) → i < length notes →
    found_in (take (i + 1) notes) ≡ found_in (take i notes) ++ cons_option
    (found_at i (note_at notes i)) []
found_in_more notes i within =
    let as_long : length (take i notes) ≡ i = length-take-le i notes (omega arith) in
    ap found_in (take_more notes i Blank within) ∙ found_in_push (take i notes) (note_at notes i)
    ∙ ap (λ k. found_in (take i notes) ++ cons_option (found_at k (note_at notes i)) []) as_long

found_at_some : (slot : ℕ) (note : Note) (f : Found) → found_at slot note ≡ Some f → (f.slot.0 ≡ slot)
    × (note ≡ Holds f.rec)
found_at_some slot Blank f e = absurd (none-some f e)
found_at_some slot Damaged f e = absurd (none-some f e)
found_at_some slot (Holds rec) f e = let same = same_Some (found slot rec) f e in
    (ap (λ g. g.slot.0) (sym same), ap (λ g. Holds g.rec) same)

-- a noted record stands in the notes
pub noted_from : (notes : List Note) (f : Found) → Contains (found_in notes) f → (f.slot.0 < length notes)
    × (note_at notes f.slot.0 ≡ Holds f.rec)
unfolding found_in
noted_from notes f i =
    let h = given_from numbered 0 notes f i in
    let parts = found_at_some (0 + h.at) (note_at notes h.at) f (h.from Blank) in
    let at : f.slot.0 ≡ h.at = parts.0 ∙ (omega arith) in
    let within = h.within in
    (omega arith, ap (note_at notes) at ∙ parts.1)

-- and the other way round
pub noted_in : (notes : List Note) (at : ℕ) (rec : Rec) → at < length notes → note_at notes at ≡ Holds rec →
    Contains (found_in notes) (found at rec)
unfolding found_in
noted_in notes at rec within here =
    given_in numbered 0 notes at Blank (found at rec) within (ap (λ note. found_at (0 + at) note) here
    ∙ ap (λ k. Some (found k rec)) (omega arith))

placed : (m : ℕ) (note : Note) (f : Found) → numbered (m, note) ≡ Some f → f.slot.0 ≡ m
placed m note f e = (found_at_some m note f e).0

-- the noted records stand in the order of their slots
pub found_in_ascending : (notes : List Note) → AllPairs (λ f g. f.slot.0 < g.slot.0) (found_in notes)
unfolding found_in
found_in_ascending notes = given_ascending numbered (λ f. f.slot.0) placed 0 notes

-- a record in a slot that was blank is one more
pub found_in_programmed : (notes : List Note) (at : ℕ) (rec : Rec) → at < length notes → note_at notes at ≡ Blank →
    IsInserted (found_in notes) (found at rec) (found_in (set notes at (Holds rec)))
unfolding found_in
found_in_programmed notes at rec within was =
    given-inserted numbered 0 notes at Blank (Holds rec) (found at rec) within (ap (found_at (0 + at)) was)
    (ap (λ k. Some (found k rec)) (omega arith))

-- a damaged slot that was blank is none
pub found_in_damaged : (notes : List Note) (at : ℕ) → at < length notes → note_at notes at ≡ Blank →
    found_in (set notes at Damaged) ≡ found_in notes
unfolding found_in
found_in_damaged notes at within was = given-unchanged numbered 0 notes at Blank Damaged within
    (ap (found_at (0 + at)) was) refl

pub no_record : (note : Note) → rec_of note ≡ None → (m : ℕ) → found_at m note ≡ None
no_record Blank e m = refl
no_record Damaged e m = refl
no_record (Holds rec) e m = absurd (none-some rec (sym e))

-- with no record in a block, those outside it are left
pub found_in_block : (shape : Shape) (notes : List Note) (block : ℕ) (note : Note) → 0 < shape.pages_per_block →
    block * shape.pages_per_block + shape.pages_per_block ≤ length notes → rec_of note ≡ None →
    found_in (with_block_noted shape notes block note) ≡ left (is_outside shape block) (found_in notes)
unfolding found_in
found_in_block shape notes block note some fits none =
    given-with_item shape some notes block note Blank fits numbered (λ f. f.slot.0) placed (no_record note none)

-- a note with a record is one of the notes
pub holds_within : (notes : List Note) (at : ℕ) (rec : Rec) → note_at notes at ≡ Holds rec → at < length notes
holds_within notes at rec is = elim (cases_lt at (length notes)) [
  | inl within ↦ within
  | inr past ↦ absurd (none-some rec (ap rec_of (sym (get_or_past notes at Blank past) ∙ is)))
]

pub some_within : (notes : List Note) (at : ℕ) → IsSome (rec_of (note_at notes at)) → at < length notes
some_within notes at some = elim (cases_lt at (length notes)) [
  | inl within ↦ within
  | inr past ↦ absurd (false≢true (subst (λ note. is_some (rec_of note) ≡ true) (get_or_past notes at Blank past) some))
]
