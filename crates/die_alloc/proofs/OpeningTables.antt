-- The block table of an opening is one.
use Rattle.std.proofs.Common.{◌≡◌, ℕ, suc, ◌*◌, ◌<◌, ◌≤◌, inl, inr, Bool, true, false, List, [], ◌∷◌, drop, length, refl, sym, ap, ◌∙◌, subst, arith, eqb, eqb-true, eq-eqb}
use Rattle.std.specs.Prelude.{◌↔◌, if◌then◌else◌}
use Rattle.std.specs.List.{list_all}
use Rattle.std.proofs.lemmas.Bool.{cases_Bool, cond-true, cond-false}
use Rattle.std.proofs.lemmas.List.{length-take}
use Rattle.std.proofs.lemmas.List.FromFn.{get_or-map-range_with_len, length-map-range_with_len}
use Rattle.tx_types.specs.Config.{IsShape, blocks_of}
use Rattle.tx_types.specs.declared.config.Shape.{Shape}
use Rattle.tx_types.specs.declared.config.BlockState.TheVariants.{Spare, Clean, Shut}
use Rattle.flash_model.specs.declared.flash.Seen.{Seen}
use Rattle.flash_model.specs.Readings.{reads_blank, seen_in_block}
use Rattle.die_alloc.specs.declared.block_use.BlockUse.{BlockUse}
use Rattle.die_alloc.specs.BlocksState.{IsBlocksState, MayHave, no_block, use_of}
use Rattle.die_alloc.specs.Opening.{used_in, use_in, opening_table}

-- no more slots are used than there are
used_within : (slots : List Seen) → used_in slots ≤ length slots
unfolding used_in
used_within [] = omega arith
used_within (how ∷ rest) = elim (cases_Bool (list_all reads_blank (how ∷ rest))) [
  | inl e ↦ (let none = cond-true {A = ℕ} (list_all reads_blank (how ∷ rest)) 0 (suc (used_in rest)) e in
      omega (arith, none))
  | inr e ↦ (let some = cond-false {A = ℕ} (list_all reads_blank (how ∷ rest)) 0 (suc (used_in rest)) e in
      let low = used_within rest in omega (arith, some, low))
]

-- what is kept of a block: it is the spare, or blank, or has used slots
abbrev kept : Bool → Bool → ℕ → BlockUse
kept is_spare blank used =
    if is_spare then record { state = Spare; used = 0 }
    else if blank then record { state = Clean; used = 0 } else record { state = Shut; used = used }

kept_fits : (pages : ℕ) (is_spare blank : Bool) (used : ℕ) → used ≤ pages →
    MayHave pages (kept is_spare blank used).state (kept is_spare blank used).used
kept_fits pages true blank used low = refl
kept_fits pages false true used low = refl
kept_fits pages false false used low = low

kept_spare : (is_spare blank : Bool) (used : ℕ) →
    ((kept is_spare blank used).state ≡ Spare) ↔ (is_spare ≡ true)
kept_spare true blank used = (λ e. refl, λ e. refl)
kept_spare false true used = (λ e. cc, λ e. cc)
kept_spare false false used = (λ e. cc, λ e. cc)

pub opening_is_table : (shape : Shape) (slots : List Seen) (spare : ℕ) → IsShape shape → spare < blocks_of shape →
    IsBlocksState (opening_table shape slots spare)
opening_is_table shape slots spare numbers within = record {
  numbers = numbers;
  count = length-map-range_with_len (use_in shape slots spare) 0 (blocks_of shape);
  die = omega (arith, numbers.dies_least);
  spare_within = within;
  one_spare = λ block low. (
      let state = ap (λ (u : BlockUse). u.state) (use_at block low) in
      let is = kept_spare (eqb block spare) (list_all reads_blank (seen_in_block shape slots block))
      (used_in (seen_in_block shape slots block)) in
      (λ e. eqb-true block spare (is.0 (sym state ∙ e)), λ e. state ∙ is.1 (eq-eqb block spare e)));
  bounds = λ block low. (
      let used = used_within (seen_in_block shape slots block) in
      let size = length-take shape.pages_per_block (drop (block * shape.pages_per_block) slots) in
      subst (λ (u : BlockUse). MayHave shape.pages_per_block u.state u.used) (sym (use_at block low))
      (kept_fits shape.pages_per_block (eqb block spare) (list_all reads_blank (seen_in_block shape slots block))
      (used_in (seen_in_block shape slots block)) (omega (arith, used, size))));
}
  where
    use_at : (block : ℕ) → block < blocks_of shape →
        use_of (opening_table shape slots spare) block ≡ use_in shape slots spare block
    use_at block low = get_or-map-range_with_len (use_in shape slots spare) 0 (blocks_of shape) block block no_block
        low (omega arith)
