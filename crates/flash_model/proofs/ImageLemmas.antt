-- What operations leave of an image.
use Rattle.std.proofs.Common.{◌≡◌, ◌≢◌, ◌⊎◌, inl, inr, ℕ, suc, ◌+◌, ◌*◌, ◌/◌, ◌<◌, ◌≤◌, Bool, true, false, List, [], ◌∷◌, ◌++◌, length, set, take, drop}
use Rattle.std.proofs.Common.{replicate, refl, ap, sym, ◌∙◌, subst, arith}
use Rattle.std.proofs.lemmas.List.{places, length-append, length-take, length-drop, length-replicate, length-set, get_or-set_other}
use Rattle.std.proofs.lemmas.List.Elements.{All-append, All-take, All-drop, All-replicate, All-set, All-head, All-tail}
use Rattle.std.proofs.lemmas.Bool.{cases_lt}
use Rattle.std.proofs.Math.Nat.{mul-le-mul_right, div-eq_of_lt-le}
use Rattle.tx_types.specs.Config.{slots_of, blocks_of}
use Rattle.tx_types.specs.declared.config.Shape.{Shape}
use Rattle.flash_model.specs.declared.outcome.Outcome.{Outcome}
use Rattle.flash_model.specs.declared.outcome.Outcome.TheVariants as outcome
use Rattle.flash_model.specs.Flash.{Contents, blank, damaged, complete, slot_at, IsWhole, IsImage}
use Rattle.flash_model.specs.Operations.{Operation, Load, program, erase, fire, program_of, Moment, CanDo, WorksIn, with_block, load_left, left_each}
use Rattle.flash_model.specs.Operations.{image_after, image_left, after, MayLeave, Torn}
use Rattle.flash_model.specs.Moves.{Does, Ends, Moves, Fires, StayOff}
use Rattle.flash_model.proofs.FireLemmas.{slot_at-load, can_first, can_rest}

-- a block's slots end within all slots
pub block_within : (shape : Shape) (block : ℕ) → block < blocks_of shape
    → block * shape.pages_per_block + shape.pages_per_block ≤ slots_of shape
block_within shape block below =
    let wide : (block + 1) * shape.pages_per_block ≤ blocks_of shape * shape.pages_per_block =
    mul-le-mul_right shape.pages_per_block (omega arith) in
    omega arith

module _ (shape : Shape) (image : List Contents) (h : IsImage shape image) (block : ℕ) (below : block < blocks_of shape)
    (contents : Contents) where
  abbrev per : ℕ
  per = shape.pages_per_block

  room : block * per + per ≤ length image
  room = omega (arith, h.slots, block_within shape block below)

  pub length-with_block : length (with_block shape image block contents) ≡ length image
  length-with_block = simp (length-append, length-take, length-drop, length-replicate) (omega (arith, room))

  -- the slots of the block hold these contents
  pub slot_at-with_block_in : (k : ℕ) → block * per ≤ k → k < block * per + per
      → slot_at (with_block shape image block contents) k ≡ contents
  slot_at-with_block_in k low high = let r = room in grind (arith, places)

  -- and the others what they held
  pub slot_at-with_block_out : (k : ℕ) → (k < block * per) ⊎ (block * per + per ≤ k)
      → slot_at (with_block shape image block contents) k ≡ slot_at image k
  slot_at-with_block_out k (inl before) = let r = room in grind (arith, places)
  slot_at-with_block_out k (inr behind) = let r = room in grind (arith, places)

  pub IsImage-with_block : IsWhole shape.page_bytes contents → IsImage shape (with_block shape image block contents)
  IsImage-with_block whole = record {
    bounds = h.bounds;
    slots = length-with_block ∙ h.slots;
    whole = All-append (IsWhole shape.page_bytes) (take (block * per) image ++ replicate per contents)
        (drop ((block + 1) * per) image)
        (All-append (IsWhole shape.page_bytes) (take (block * per) image) (replicate per contents)
        (All-take (IsWhole shape.page_bytes) (block * per) image h.whole)
        (All-replicate (IsWhole shape.page_bytes) per contents whole))
        (All-drop (IsWhole shape.page_bytes) ((block + 1) * per) image h.whole);
  }

IsImage-set : (shape : Shape) (image : List Contents) (at : ℕ) (contents : Contents) → IsImage shape image
    → IsWhole shape.page_bytes contents → IsImage shape (set image at contents)
IsImage-set shape image at contents h whole = record {
  bounds = h.bounds;
  slots = length-set image at contents ∙ h.slots;
  whole = All-set (IsWhole shape.page_bytes) image at contents whole h.whole;
}

-- programs that are started together leave an image, however each of them ends
IsImage-load : (shape : Shape) (image : List Contents) (load : Load) (how : Outcome) → IsImage shape image
    → CanDo shape image (program_of load) → IsImage shape (load_left image load how)
IsImage-load shape image load outcome.None h can = h
IsImage-load shape image load outcome.All h can =
    IsImage-set shape image load.at (complete load.bytes load.spare_area) h (can.1, can.2)
IsImage-load shape image load outcome.Bad h can = IsImage-set shape image load.at damaged h tt

IsImage-each : (shape : Shape) (image : List Contents) (loads : List Load) (hows : List Outcome) → IsImage shape image
    → CanDo shape image (fire loads) → IsImage shape (left_each image loads hows)
IsImage-each shape image [] hows h can = h
IsImage-each shape image (load ∷ loads) [] h can = h
IsImage-each shape image (load ∷ loads) (how ∷ hows) h can =
    IsImage-each shape (load_left image load how) loads hows
    (IsImage-load shape image load how h (can_first shape image load loads can))
    (can_rest shape image load loads how can)

-- an operation leaves an image an image, however it ends
pub IsImage-left : (shape : Shape) (image : List Contents) (o : Operation) (how : Outcome) → IsImage shape image →
    CanDo shape image o
    → IsImage shape (image_left shape image o how)
IsImage-left shape image o outcome.None h can = h
IsImage-left shape image (program at bytes spare_area) outcome.All h can =
    IsImage-set shape image at (complete bytes spare_area) h (can.1, can.2)
IsImage-left shape image (program at bytes spare_area) outcome.Bad h can = IsImage-set shape image at damaged h tt
IsImage-left shape image (erase block) outcome.All h can = IsImage-with_block shape image h block can blank tt
IsImage-left shape image (erase block) outcome.Bad h can = IsImage-with_block shape image h block can damaged tt
IsImage-left shape image (fire loads) outcome.All h can = IsImage-each shape image loads _ h can
IsImage-left shape image (fire loads) outcome.Bad h can = IsImage-each shape image loads _ h can

pub IsImage-after : (shape : Shape) (image : List Contents) (o : Operation) → IsImage shape image → CanDo shape image o
    → IsImage shape (image_after shape image o)
IsImage-after shape image o h can = IsImage-left shape image o outcome.All h can

pub IsImage-does : (shape : Shape) (a b : Moment) (list : List Operation) → IsImage shape a.image →
    Does shape a list b → IsImage shape b.image
IsImage-does shape a b [] h does = subst (λ (m : Moment). IsImage shape m.image) (sym does) h
IsImage-does shape a b (o ∷ rest) h does =
    IsImage-does shape (after shape a o) b rest (IsImage-after shape a.image o h does.0) does.1

IsImage-may : (shape : Shape) (image : List Contents) (o : Operation) (new : List Contents) → IsImage shape image
    → CanDo shape image o → MayLeave shape image o new → IsImage shape new
IsImage-may shape image (program at bytes spare_area) new h can left =
    subst (IsImage shape) (sym left.1) (IsImage-left shape image (program at bytes spare_area) left.0 h can)
IsImage-may shape image (erase block) new h can left =
    subst (IsImage shape) (sym left.1) (IsImage-left shape image (erase block) left.0 h can)
IsImage-may shape image (fire loads) new h can left =
    subst (IsImage shape) (sym left.2) (IsImage-each shape image loads left.0 h can)

IsImage-torn : (shape : Shape) (a b : Moment) (o : Operation) → IsImage shape a.image → CanDo shape a.image o →
    Torn shape a o b → IsImage shape b.image
IsImage-torn shape a b o h can torn = IsImage-may shape a.image o b.image h can torn.left

IsImage-ends : (shape : Shape) (a b : Moment) (broken : Bool) → IsImage shape a.image → Ends shape a broken b →
    IsImage shape b.image
IsImage-ends shape a b false h same = subst (λ (m : Moment). IsImage shape m.image) (sym same) h
IsImage-ends shape a b true h (inl same) = subst (λ (m : Moment). IsImage shape m.image) (sym same) h
IsImage-ends shape a b true h (inr torn) = IsImage-torn shape a b torn.0 h torn.2 torn.3.0

-- and so do all operations of a call
pub IsImage-moves : (shape : Shape) (a b : Moment) (broken : Bool) → IsImage shape a.image → Moves shape a broken b →
    IsImage shape b.image
IsImage-moves shape a b broken h moves =
    IsImage-ends shape moves.between b broken (IsImage-does shape a moves.between moves.done h moves.does) moves.ends

pub IsImage-fired : (shape : Shape) (a b : Moment) (broken : Bool) → IsImage shape a.image → Fires shape a broken b
    → IsImage shape b.image
IsImage-fired shape a b false h fires =
    subst (λ (m : Moment). IsImage shape m.image) (sym fires.ends)
    (IsImage-after shape fires.between.image (fire fires.loads)
    (IsImage-moves shape a fires.between false h fires.moves) fires.can)
IsImage-fired shape a b true h fires =
    IsImage-torn shape fires.between b (fire fires.loads) (IsImage-moves shape a fires.between false h fires.moves)
    fires.can fires.ends.0

-- a slot of another block lies before this block or behind it
pub outside_block : (per block k : ℕ) → k / per ≢ block → (k < block * per) ⊎ (block * per + per ≤ k)
outside_block per block k other =
    elim (cases_lt k (block * per)) [
      | inl before ↦ inl before
      | inr from ↦ elim (cases_lt k (block * per + per)) [
        | inl to ↦ absurd (other (div-eq_of_lt-le per from (let below : k < (block + 1) * per = omega arith in below)))
        | inr behind ↦ inr behind
      ]
    ]

-- programs that are started together leave the slots of other blocks, however each of them ends
slot_at-each : (shape : Shape) (image : List Contents) (loads : List Load) (hows : List Outcome) (k : ℕ)
    → (WorksIn shape (fire loads) (k / shape.pages_per_block) → ⊥) →
    slot_at (left_each image loads hows) k ≡ slot_at image k
slot_at-each shape image [] hows k other = refl
slot_at-each shape image (load ∷ loads) [] k other = refl
slot_at-each shape image (load ∷ loads) (how ∷ hows) k other =
    slot_at-each shape (load_left image load how) loads hows k
    (λ any. other (suc any.0, any.1, omega (arith, any.2), any.3, any.4))
    ∙ slot_at-load image load how k
    (λ same. other (0, load, omega arith, refl, ap (λ n. n / shape.pages_per_block) (sym same)))

-- an operation leaves the slots of other blocks, however it ends
pub slot_at-left : (shape : Shape) (image : List Contents) (o : Operation) (how : Outcome) (k : ℕ) → IsImage shape image
    → CanDo shape image o → (WorksIn shape o (k / shape.pages_per_block) → ⊥) → slot_at (image_left shape image o how) k
    ≡ slot_at image k
slot_at-left shape image o outcome.None k h can other = refl
slot_at-left shape image (program at bytes spare_area) outcome.All k h can other =
    get_or-set_other image at k (complete bytes spare_area) blank
    (λ same. other (ap (λ n. n / shape.pages_per_block) (sym same)))
slot_at-left shape image (program at bytes spare_area) outcome.Bad k h can other =
    get_or-set_other image at k damaged blank (λ same. other (ap (λ n. n / shape.pages_per_block) (sym same)))
slot_at-left shape image (erase block) outcome.All k h can other =
    slot_at-with_block_out shape image h block can blank k
    (outside_block shape.pages_per_block block k (λ same. other (sym same)))
slot_at-left shape image (erase block) outcome.Bad k h can other =
    slot_at-with_block_out shape image h block can damaged k
    (outside_block shape.pages_per_block block k (λ same. other (sym same)))
slot_at-left shape image (fire loads) outcome.All k h can other = slot_at-each shape image loads _ k other
slot_at-left shape image (fire loads) outcome.Bad k h can other = slot_at-each shape image loads _ k other

pub slot_at-after : (shape : Shape) (image : List Contents) (o : Operation) (k : ℕ) → IsImage shape image
    → CanDo shape image o → (WorksIn shape o (k / shape.pages_per_block) → ⊥) →
    slot_at (image_after shape image o) k ≡ slot_at image k
slot_at-after shape image o k h can other = slot_at-left shape image o outcome.All k h can other

-- and so does one that is broken
slot_at-may : (shape : Shape) (image : List Contents) (o : Operation) (new : List Contents) (k : ℕ) →
    IsImage shape image
    → CanDo shape image o → MayLeave shape image o new → (WorksIn shape o (k / shape.pages_per_block) → ⊥) →
    slot_at new k ≡ slot_at image k
slot_at-may shape image (program at bytes spare_area) new k h can left other =
    ap (λ (i : List Contents). slot_at i k) left.1 ∙ slot_at-left shape image (program at bytes spare_area)
    left.0 k h can other
slot_at-may shape image (erase block) new k h can left other =
    ap (λ (i : List Contents). slot_at i k) left.1 ∙ slot_at-left shape image (erase block) left.0 k h can other
slot_at-may shape image (fire loads) new k h can left other =
    ap (λ (i : List Contents). slot_at i k) left.2 ∙ slot_at-each shape image loads left.0 k other

pub slot_at-torn : (shape : Shape) (a b : Moment) (o : Operation) (k : ℕ) → IsImage shape a.image →
    CanDo shape a.image o
    → Torn shape a o b → (WorksIn shape o (k / shape.pages_per_block) → ⊥) → slot_at b.image k ≡ slot_at a.image k
slot_at-torn shape a b o k h can torn other = slot_at-may shape a.image o b.image k h can torn.left other

-- operations that stay off a block leave its slots
pub slot_at-does : (shape : Shape) (a b : Moment) (list : List Operation) (k : ℕ) → IsImage shape a.image →
    Does shape a list b
    → StayOff shape (k / shape.pages_per_block) list → slot_at b.image k ≡ slot_at a.image k
slot_at-does shape a b [] k h does off = ap (λ (m : Moment). slot_at m.image k) does
slot_at-does shape a b (o ∷ rest) k h does off =
    slot_at-does shape (after shape a o) b rest k (IsImage-after shape a.image o h does.0) does.1
    (All-tail (λ q. WorksIn shape q (k / shape.pages_per_block) → ⊥) o rest off)
    ∙ slot_at-after shape a.image o k h does.0 (All-head (λ q. WorksIn shape q (k / shape.pages_per_block) →
    ⊥) o rest off)
