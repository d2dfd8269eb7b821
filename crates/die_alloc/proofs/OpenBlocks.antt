-- The block of a die that has room.
use Rattle.std.proofs.Common.{◌≡◌, ℕ, ◌+◌, ◌-◌, ◌*◌, ◌<◌, ◌≤◌, inl, inr, Bool, true, false, length, get_or, Option, Some, None, refl, ap, ◌∙◌, arith}
use Rattle.std.specs.Prelude.{position}
use Rattle.std.specs.Option.{option_map}
use Rattle.std.proofs.lemmas.Grind.{common_steps}
use Rattle.std.proofs.lemmas.List.{get_or-drop, get_or-take}
use Rattle.std.proofs.lemmas.List.Quantifiers.{position-Some}
use Rattle.tx_types.specs.declared.config.BlockState.{BlockState}
use Rattle.tx_types.specs.declared.config.BlockState.TheVariants.{Spare, Clean, Part, Shut}
use Rattle.die_alloc.specs.BlocksState.{BlocksState, block_state, no_block, HasRoom, IsBlocksState}
use Rattle.std.proofs.lemmas.Nat.{row_fits_turned}
use Rattle.list_lemmas.proofs.Options.{option_or_some, option_or_none}
use Rattle.list_lemmas.proofs.Positions.{position-all}
use Rattle.die_alloc.specs.NextSlot.{is_part, is_clean, lowest_block, open_block, die_blocks}

module _ (test : BlockState → Bool) (t : BlocksState) (die : ℕ) where
  -- the die lies in the table
  abbrev pub Lies : Type 0
  Lies = die * t.shape.blocks_per_die + t.shape.blocks_per_die ≤ length t.blocks

  pub length_of_die : Lies → length (die_blocks t die) ≡ t.shape.blocks_per_die
  length_of_die h = grind (arith, common_steps)

  -- the block at a place of the die, and in the table
  pub place_of_die : (k : ℕ) → k < t.shape.blocks_per_die
      → get_or (die_blocks t die) k no_block ≡ get_or t.blocks (die * t.shape.blocks_per_die + k) no_block
  place_of_die k h = get_or-take _ _ k no_block h ∙ get_or-drop _ t.blocks k no_block

  -- the lowest block of a die that passes a test lies in the die and passes it
  pub lowest_passes : Lies → (block : ℕ) → lowest_block test t die ≡ Some block
      → (die * t.shape.blocks_per_die ≤ block) × (block < die * t.shape.blocks_per_die + t.shape.blocks_per_die)
      × (test (block_state t block) ≡ true)
  lowest_passes lies block h = from_place (position (λ b. test b.state) (die_blocks t die)) refl h
    where
      from_place : (o : Option ℕ) → position (λ b. test b.state) (die_blocks t die) ≡ o →
          option_map (λ k. die * t.shape.blocks_per_die + k) o ≡ Some block
          → (die * t.shape.blocks_per_die ≤ block) × (block < die * t.shape.blocks_per_die + t.shape.blocks_per_die)
          × (test (block_state t block) ≡ true)
      from_place None e g = cc
      from_place (Some k) e g =
          let found = position-Some (λ b. test b.state) (die_blocks t die) k no_block e in
          let within : k < t.shape.blocks_per_die = omega (arith, length_of_die lies, found.0) in
          let is : die * t.shape.blocks_per_die + k ≡ block = cc in
          (omega arith, omega arith, rw (← is) (rw (place_of_die k within) at found.1))

  -- where there is none, no block of the die passes it
  pub none_passes : Lies → lowest_block test t die ≡ None
      → (block : ℕ) → die * t.shape.blocks_per_die ≤ block →
      block < die * t.shape.blocks_per_die + t.shape.blocks_per_die → test (block_state t block) ≡ false
  none_passes lies h block low high = from_place (position (λ b. test b.state) (die_blocks t die)) refl h
    where
      from_place : (o : Option ℕ) → position (λ b. test b.state) (die_blocks t die) ≡ o →
          option_map (λ k. die * t.shape.blocks_per_die + k) o ≡ None →
          test (block_state t block) ≡ false
      from_place (Some k) e g = cc
      from_place None e g =
          let place = block - die * t.shape.blocks_per_die in
          let within : place < t.shape.blocks_per_die = omega arith in
          let is : die * t.shape.blocks_per_die + place ≡ block = omega arith in
          let fails = position-all (λ b. test b.state) (die_blocks t die) no_block e place
          (omega (arith, length_of_die lies)) in
          rw (place_of_die place within, is) at fails

part_is : (s : BlockState) → is_part s ≡ true → s ≡ Part
part_is Part h = refl
part_is Spare h = cc
part_is Clean h = cc
part_is Shut h = cc

clean_is : (s : BlockState) → is_clean s ≡ true → s ≡ Clean
clean_is Clean h = refl
clean_is Spare h = cc
clean_is Part h = cc
clean_is Shut h = cc

-- the dies of a block table lie in it
pub die_lies : (t : BlocksState) → IsBlocksState t → (die : ℕ) → die < t.shape.dies
    → die * t.shape.blocks_per_die + t.shape.blocks_per_die ≤ length t.blocks
die_lies t h die below = rw h.count (row_fits_turned die t.shape.blocks_per_die t.shape.blocks_per_die t.shape.dies
    below (omega arith))

-- the block of a die that has room
pub open_block_has_room : (t : BlocksState) → IsBlocksState t → (die block : ℕ) → die < t.shape.dies →
    open_block t die ≡ Some block
    → (die * t.shape.blocks_per_die ≤ block) × (block < die * t.shape.blocks_per_die + t.shape.blocks_per_die)
    × HasRoom t block
unfolding open_block
open_block_has_room t h die block below e =
    let lies = die_lies t h die below in
    elim (option_or_some (lowest_block is_part t die) (lowest_block is_clean t die) block e) [
      | inl part ↦ let found = lowest_passes is_part t die lies block part in
          (found.0, found.1, inr (part_is _ found.2))
      | inr clean ↦ let found = lowest_passes is_clean t die lies block clean.1 in
          (found.0, found.1, inl (clean_is _ found.2))
    ]

-- where a die has none, no block of it has room
pub no_open_block : (t : BlocksState) → IsBlocksState t → (die block : ℕ) → die < t.shape.dies → open_block t die ≡ None
    → die * t.shape.blocks_per_die ≤ block → block < die * t.shape.blocks_per_die + t.shape.blocks_per_die →
    HasRoom t block → ⊥
unfolding open_block
no_open_block t h die block below e low high room =
    let lies = die_lies t h die below in
    let none = option_or_none (lowest_block is_part t die) (lowest_block is_clean t die) e in
    let not_part = none_passes is_part t die lies none.0 block low high in
    let not_clean = none_passes is_clean t die lies none.1 block low high in
    elim room [
      | inl clean ↦ let same = ap is_clean clean in cc
      | inr part ↦ let same = ap is_part part in cc
    ]
