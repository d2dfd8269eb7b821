-- The notes of an image: their records are those of the image, and a scan of the image gives them.
use Rattle.judged_records.proofs.Common.{◌≡◌, ℕ, ◌+◌, Bool, true, false, List, [], ◌∷◌, suc, length, get_or, drop, map, All, Option, Some, None, IsSomeAnd, refl, sym, ap, ap₂, ◌∙◌, arith, false≢true, length-map, Rec, Protocol, Contents, blank, damaged, complete, Seen, record_of, nothing, Note, Blank, Damaged, Holds, records_in, SlotReads, seen_as, found_in}
use Rattle.std.specs.Option.{option_map_or}
use Rattle.std.proofs.lemmas.List.{get_or-map}
use Rattle.std.proofs.lemmas.List.Elements.{All-head, All-tail}
use Rattle.flash_model.specs.Calls.{seen_of}
use Rattle.flash_model.specs.Readings.{reads_blank}
use Rattle.flash_model.specs.declared.flash.Seen.TheVariants as seen
use Rattle.judged_records.specs.Images.{HasPages}
use Rattle.judged_records.specs.Notes.{note_of, notes_of}
use Rattle.judged_records.proofs.OfNotes.BaseTables.{given}
use Rattle.judged_records.proofs.OfLaws.Mirror.{mirrored}
use Rattle.judged_records.proofs.OfNotes.FoundIn.{numbered}

-- the noted records of an image are its records
pub found_in_notes : (protocol : Protocol) (image : List Contents) →
    found_in (notes_of protocol image) ≡ records_in protocol image
found_in_notes protocol image =
    mirrored protocol image (notes_of protocol image) (length-map image (note_of protocol))
    (λ slot within. get_or-map (note_of protocol) image slot blank Blank within)

-- the note of a slot that keeps law 1 reads as the slot
pub note_reads : (protocol : Protocol) (logical : ℕ) (contents : Contents) → SlotReads protocol logical contents →
    seen_as (note_of protocol contents) ≡ seen_of contents
note_reads protocol logical blank reads = refl
note_reads protocol logical damaged reads = refl
note_reads protocol logical (complete bytes spare) reads = of_record (record_of protocol spare) reads
  where
    of_record : (o : Option Rec) → IsSomeAnd o (HasPages logical) →
        seen_as (option_map_or Holds o Damaged) ≡ seen.Complete
    of_record None h = absurd h
    of_record (Some rec) h = refl

notes_read : (protocol : Protocol) (logical : ℕ) (image : List Contents) → All (SlotReads protocol logical) image →
    map seen_as (notes_of protocol image) ≡ map seen_of image
notes_read protocol logical [] reads = refl
notes_read protocol logical (contents ∷ rest) reads =
    ap₂ (λ (x : Seen) (xs : List Seen). x ∷ xs) (note_reads protocol logical contents
    (All-head (SlotReads protocol logical) contents rest reads))
    (notes_read protocol logical rest (All-tail (SlotReads protocol logical) contents rest reads))

abbrev reads_complete : Seen → Bool
reads_complete seen.Blank = false
reads_complete seen.Complete = true
reads_complete seen.Damaged = false

-- the first of two lists of notes that read alike and have the same records
same_first : (k : ℕ) (x y : Note) (xs ys : List Note) → seen_as x ≡ seen_as y →
    given numbered k (x ∷ xs) ≡ given numbered k (y ∷ ys) →
    (x ≡ y) × (given numbered (k + 1) xs ≡ given numbered (k + 1) ys)
same_first k Blank Blank xs ys reads founds = (refl, founds)
same_first k Blank Damaged xs ys reads founds = absurd (false≢true (sym (ap reads_blank reads)))
same_first k Blank (Holds rec) xs ys reads founds = absurd (false≢true (sym (ap reads_blank reads)))
same_first k Damaged Blank xs ys reads founds = absurd (false≢true (ap reads_blank reads))
same_first k Damaged Damaged xs ys reads founds = (refl, founds)
same_first k Damaged (Holds rec) xs ys reads founds = absurd (false≢true (ap reads_complete reads))
same_first k (Holds rec) Blank xs ys reads founds = absurd (false≢true (ap reads_blank reads))
same_first k (Holds rec) Damaged xs ys reads founds = absurd (false≢true (sym (ap reads_complete reads)))
same_first k (Holds rec) (Holds other) xs ys reads founds =
    (ap Holds (ap (λ l. (get_or l 0 nothing).rec) founds), ap (drop 1) founds)

-- notes that read alike and have the same records are the same
same_notes : (k : ℕ) (xs ys : List Note) → map seen_as xs ≡ map seen_as ys →
    given numbered k xs ≡ given numbered k ys → xs ≡ ys
same_notes k [] [] reads founds = refl
same_notes k [] (y ∷ ys) reads founds = let long : 0 ≡ suc (length (map seen_as ys)) = ap length reads in
    absurd (omega arith)
same_notes k (x ∷ xs) [] reads founds = let long : suc (length (map seen_as xs)) ≡ 0 = ap length reads in
    absurd (omega arith)
same_notes k (x ∷ xs) (y ∷ ys) reads founds =
    let first = same_first k x y xs ys (ap (λ l. get_or l 0 seen.Blank) reads) founds in
    ap₂ (λ (z : Note) (zs : List Note). z ∷ zs) first.0 (same_notes (k + 1) xs ys (ap (drop 1) reads) first.1)

-- a scan of an image whose slots keep law 1 gives its notes
pub scanned_notes : (protocol : Protocol) (logical : ℕ) (image : List Contents) (notes : List Note) →
    All (SlotReads protocol logical) image →
    map seen_as notes ≡ map seen_of image → found_in notes ≡ records_in protocol image → notes ≡ notes_of protocol image
unfolding found_in
scanned_notes protocol logical image notes reads seen founds =
    same_notes 0 notes (notes_of protocol image) (seen ∙ sym (notes_read protocol logical image reads)) (founds
    ∙ sym (found_in_notes protocol image))
