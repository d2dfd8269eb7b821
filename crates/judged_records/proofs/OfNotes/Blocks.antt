-- A list with the same item in each place of a block, and what its items give.
use Rattle.judged_records.proofs.Common.{◌≡◌, ◌≢◌, ℕ, ◌+◌, ◌*◌, ◌<◌, ◌≤◌, Bool, true, false, not, List, ◌++◌, length, get_or, take, drop, filter, Option, Some, None, ◌⊎◌, refl, sym, ap, ◌∙◌, subst, inl, inr, arith, eqb, eqb-true, eq-eqb, if◌then◌else◌, false≢true, Shape, is_outside}
use Rattle.std.proofs.Common.{length-append, length-drop, ◌/◌, replicate}
use Rattle.std.proofs.lemmas.List.{length-take, places, length-replicate}
use Rattle.std.proofs.Math.Nat.{div-mul-le_self, lt-div-mul-add}
use Rattle.flash_model.proofs.ImageLemmas.{outside_block}
use Rattle.judged_records.proofs.OfNotes.BaseTables.{given, chosen, given-chosen, given_same}

-- a slot of another block, and one of this block, by test
pub other_block : (a b : ℕ) (t : Bool) → eqb a b ≡ t → not t ≡ true → a ≢ b
other_block a b true e out = λ same. false≢true out
other_block a b false e out = λ same. false≢true (sym e ∙ eq-eqb a b same)

pub this_block : (a b : ℕ) (t : Bool) → eqb a b ≡ t → not t ≡ false → a ≡ b
this_block a b true e out = eqb-true a b e
this_block a b false e out = absurd (false≢true (sym out))

-- a slot outside a block lies before it or behind it
pub outside_it : (shape : Shape) (block i : ℕ) → is_outside shape block i ≡ true →
    (i < block * shape.pages_per_block) ⊎ (block * shape.pages_per_block + shape.pages_per_block ≤ i)
outside_it shape block i e =
    outside_block shape.pages_per_block block i (other_block (i / shape.pages_per_block) block
    (eqb (i / shape.pages_per_block) block) refl e)

-- and one that is not outside lies in it
pub in_it : (shape : Shape) (block i : ℕ) → is_outside shape block i ≡ false → i / shape.pages_per_block ≡ block
in_it shape block i e = this_block (i / shape.pages_per_block) block (eqb (i / shape.pages_per_block) block) refl e

pub inside_block : (per block i : ℕ) → 0 < per → i / per ≡ block → (block * per ≤ i) × (i < block * per + per)
inside_block per block i some e =
    let low : i / per * per ≤ i = div-mul-le_self i per in
    let high : i < i / per * per + per = lt-div-mul-add some in
    (subst (λ b. b * per ≤ i) e low, subst (λ b. i < b * per + per) e high)

module _ {X : Type 0} (shape : Shape) (some : 0 < shape.pages_per_block) (xs : List X) (block : ℕ) (x d : X)
    (fits : block * shape.pages_per_block + shape.pages_per_block ≤ length xs) where
  abbrev per : ℕ
  per = shape.pages_per_block

  abbrev pub with_item : List X
  with_item = take (block * per) xs ++ replicate per x ++ drop ((block + 1) * per) xs

  pub length-with_item : length with_item ≡ length xs
  length-with_item = simp (length-append, length-take, length-drop, length-replicate) (omega (arith, fits))

  pub item_in : (k : ℕ) → block * per ≤ k → k < block * per + per → get_or with_item k d ≡ x
  item_in k low high = grind (arith, places)

  pub item_out : (k : ℕ) → (k < block * per) ⊎ (block * per + per ≤ k) → get_or with_item k d ≡ get_or xs k d
  item_out k (inl before) = grind (arith, places)
  item_out k (inr behind) = grind (arith, places)

  module _ {Y : Type 0} (of : ℕ × X → Option Y) (place : Y → ℕ) (placed : (m : ℕ) (z : X) (y : Y) → of (m, z) ≡ Some y →
      place y ≡ m) (none : (m : ℕ) →
      of (m, x) ≡ None) where
    at_each : (i : ℕ) (keep : Bool) → is_outside shape block i ≡ keep →
        of (0 + i, get_or with_item i d) ≡ (if keep then of (0 + i, get_or xs i d) else None)
    at_each i true e = ap (λ z. of (0 + i, z)) (item_out i (outside_it shape block i e))
    at_each i false e =
        let here = inside_block per block i some (in_it shape block i e) in
        ap (λ z. of (0 + i, z)) (item_in i here.0 here.1) ∙ none (0 + i)

    same_at : (i : ℕ) → of (0 + i, get_or with_item i d) ≡ chosen of place placed (is_outside shape block) (
      0 + i,
      get_or xs i d,
    )
    same_at i =
        at_each i (is_outside shape block i) refl
        ∙ ap (λ k. if is_outside shape block k then of (0 + i, get_or xs i d) else None) (omega arith)

    -- where that item gives nothing, what the others gave is left
    pub given-with_item : given of 0 with_item ≡ filter (λ y. is_outside shape block (place y)) (given of 0 xs)
    given-with_item =
        given_same of (chosen of place placed (is_outside shape block)) 0 with_item xs d d length-with_item
        (λ i within. same_at i)
        ∙ sym (given-chosen of place placed (is_outside shape block) 0 xs)
