-- Tables that mirror an image: the noted records are those of the image.
use Rattle.judged_records.proofs.Common.{◌≡◌, ℕ, ◌+◌, ◌<◌, List, [], ◌∷◌, length, Option, Some, None, refl, sym, ap, ◌∙◌, arith, option_map, cons_option, Protocol, Rec, Contents, blank, damaged, complete, slot_at, record_of, found_of, records_of, Note, Blank, Damaged, Holds, records_in, note_at, found_at, found_in}
use Rattle.std.specs.Prelude.{map}
use Rattle.std.specs.Option.{option_map_or}
use Rattle.judged_records.specs.Images.{written_at}
use Rattle.judged_records.specs.Notes.{note_of}
use Rattle.judged_records.proofs.OfNotes.BaseTables.{given, given_same}
use Rattle.judged_records.proofs.OfNotes.FoundIn.{numbered}
use Rattle.judged_records.proofs.OfLaws.ImageScans.{read_at, written_in_is}

-- a slot's record, without bytes, is that of its note
same_record : (p : Protocol) (slot : ℕ) (contents : Contents) → option_map found_of (written_at p slot contents)
    ≡ found_at slot (note_of p contents)
same_record p slot blank = refl
same_record p slot damaged = refl
same_record p slot (complete bytes spare) = of_option (record_of p spare)
  where
    of_option : (o : Option Rec) →
        option_map found_of (option_map (λ rec. record { slot = record { 0 = slot }; rec = rec; bytes = bytes }) o)
        ≡ found_at slot
        (option_map_or Holds o Damaged)
    of_option None = refl
    of_option (Some rec) = refl

pub found_in_is : (notes : List Note) → found_in notes ≡ given numbered 0 notes
unfolding found_in
found_in_is notes = refl

map_cons : {X Y : Type 0} (f : X → Y) (o : Option X) (xs : List X) →
    cons_option (option_map f o) (map f xs) ≡ map f (cons_option o xs)
map_cons f None xs = refl
map_cons f (Some x) xs = refl

map_given : {X Y Z : Type 0} (f : Y → Z) (of : ℕ × X → Option Y) (n : ℕ) (xs : List X) →
    given (λ p. option_map f (of p)) n xs ≡ map f (given of n xs)
map_given f of n [] = refl
map_given f of n (x ∷ xs) =
    ap (cons_option (option_map f (of (n, x)))) (map_given f of (n + 1) xs)
    ∙ map_cons f (of (n, x)) (given of (n + 1) xs)

-- where each slot is noted as it reads, the noted records are those of the image
pub mirrored : (p : Protocol) (image : List Contents) (notes : List Note) → length notes ≡ length image →
    ((slot : ℕ) → slot < length image → note_at notes slot ≡ note_of p (slot_at image slot)) →
    found_in notes ≡ records_in p image
mirrored p image notes long same =
    found_in_is notes
    ∙ given_same numbered (λ q. option_map found_of (read_at p q)) 0 notes image Blank blank long
    (λ i within. ap (found_at (0 + i)) (same i (omega arith)) ∙ sym (same_record p (0 + i) (slot_at image i)))
    ∙ map_given found_of (read_at p) 0 image
    ∙ ap records_of (sym (written_in_is p image))
