-- Several programs at once: one after another, and in the registers.
use Rattle.std.proofs.Common.{◌≡◌, ◌≢◌, ℕ, zero, suc, ◌/◌, ◌<◌, ◌≤◌, List, [], ◌∷◌, ◌++◌, length, get_or, set, replicate, Option, None, Some, refl, ap, sym}
use Rattle.std.proofs.Common.{◌∙◌, arith}
use Rattle.std.proofs.lemmas.List.{get_or-set_other}
use Rattle.std.proofs.lemmas.Nat.{div-add-mod', div_below}
use Rattle.std.proofs.Math.Nat.{div-eq_of_lt-le}
use Rattle.tx_types.specs.Config.{IsShape, slots_of, blocks_of}
use Rattle.tx_types.specs.declared.config.Shape.{Shape}
use Rattle.flash_model.specs.declared.outcome.Outcome.{Outcome}
use Rattle.flash_model.specs.declared.outcome.Outcome.TheVariants as outcome
use Rattle.flash_model.specs.Flash.{Contents, blank, damaged, complete, slot_at}
use Rattle.flash_model.specs.Operations.{Load, fire, program_of, block_end, die_of, CanLoad, CanDo, load_left, image_left}
use Rattle.flash_model.specs.Firing.{loads_in, AreFreeFrom}

-- a loaded program leaves what it leaves by itself
pub load_left_is : (shape : Shape) (image : List Contents) (load : Load) (how : Outcome)
    → load_left image load how ≡ image_left shape image (program_of load) how
load_left_is shape image load outcome.None = refl
load_left_is shape image load outcome.All = refl
load_left_is shape image load outcome.Bad = refl

-- and leaves the other slots
pub slot_at-load : (image : List Contents) (load : Load) (how : Outcome) (k : ℕ) → k ≢ load.at
    → slot_at (load_left image load how) k ≡ slot_at image k
slot_at-load image load outcome.None k other = refl
slot_at-load image load outcome.All k other =
    get_or-set_other image load.at k (complete load.bytes load.spare_area) blank other
slot_at-load image load outcome.Bad k other = get_or-set_other image load.at k damaged blank other

-- the slots from one of them to the end of its block lie in its block
in_block : (shape : Shape) (at k : ℕ) → at ≤ k → k < block_end shape at →
    k / shape.pages_per_block ≡ at / shape.pages_per_block
in_block shape at k low high =
    div-eq_of_lt-le shape.pages_per_block (omega (arith, div-add-mod' at shape.pages_per_block)) high

-- so a program of another die may be done as before
can_other : (shape : Shape) (image : List Contents) (load other : Load) (how : Outcome)
    → die_of shape load.at ≢ die_of shape other.at → CanLoad shape image other →
    CanLoad shape (load_left image load how) other
can_other shape image load other how apart can = (
  record {
    in_range = can.0.in_range;
    blank_on = λ k low high.
        slot_at-load image load how k
        (λ same. apart (ap (λ n. n / shape.blocks_per_die)
        (ap (λ n. n / shape.pages_per_block) (sym same) ∙ in_block shape other.at k low high)))
        ∙ can.0.blank_on k low high;
  },
  can.1,
  can.2,
)

-- of programs that may be started together the first may be done,
pub can_first : (shape : Shape) (image : List Contents) (load : Load) (loads : List Load)
    → CanDo shape image (fire (load ∷ loads)) → CanDo shape image (program_of load)
can_first shape image load loads can = can.0 0 load (omega arith)

-- and the others then, however it ends
pub can_rest : (shape : Shape) (image : List Contents) (load : Load) (loads : List Load) (how : Outcome)
    → CanDo shape image (fire (load ∷ loads)) → CanDo shape (load_left image load how) (fire loads)
can_rest shape image load loads how can = (
  λ k d within. can_other shape image load (get_or loads k d) how (can.1 0 (suc k) d (omega arith) (omega arith))
      (can.0 (suc k) d (omega arith)),
  λ i j d less within. can.1 (suc i) (suc j) d (omega arith) (omega arith),
)

-- empty registers hold no program
none_loaded : (registers : List (Option Load)) → AreFreeFrom registers 0 → loads_in registers ≡ []
none_loaded [] free = refl
none_loaded (None ∷ rest) free = none_loaded rest (λ k low. free (suc k) (omega arith))
none_loaded (Some load ∷ rest) free = let none = free 0 (omega arith) in cc

abbrev nothing : Option Load
nothing = None

free_empty : (n k : ℕ) → get_or (replicate n nothing) k nothing ≡ nothing
free_empty zero k = refl
free_empty (suc n) zero = refl
free_empty (suc n) (suc k) = free_empty n k

pub empty_registers : (n : ℕ) → (loads_in (replicate n None) ≡ []) × AreFreeFrom (replicate n None) 0
empty_registers n = (none_loaded (replicate n None) (λ k low. free_empty n k), λ k low. free_empty n k)

-- a program behind all that are loaded is the last
pub loads_in-more : (registers : List (Option Load)) (die : ℕ) (load : Load) → die < length registers →
    AreFreeFrom registers die
    → loads_in (set registers die (Some load)) ≡ loads_in registers ++ load ∷ []
loads_in-more [] die load within free = absurd (omega arith)
loads_in-more (None ∷ rest) zero load within free =
    let none = none_loaded rest (λ k low. free (suc k) (omega arith)) in rw none refl
loads_in-more (Some other ∷ rest) zero load within free = let none = free 0 (omega arith) in cc
loads_in-more (None ∷ rest) (suc die) load within free =
    loads_in-more rest die load (omega arith) (λ k low. free (suc k) (omega arith))
loads_in-more (Some other ∷ rest) (suc die) load within free =
    ap (λ (loads : List Load). other ∷ loads) (loads_in-more rest die load (omega arith)
    (λ k low. free (suc k) (omega arith)))

-- and the registers behind it stay empty
pub AreFreeFrom-more : (registers : List (Option Load)) (die : ℕ) (load : Load) → AreFreeFrom registers die
    → AreFreeFrom (set registers die (Some load)) (suc die)
AreFreeFrom-more registers die load free k low =
    get_or-set_other registers die k (Some load) None (λ same. absurd (omega (arith, same))) ∙ free k (omega arith)

-- a slot lies in one of the dies
pub die_within : (shape : Shape) (at : ℕ) → IsShape shape → at < slots_of shape → die_of shape at < shape.dies
die_within shape at bounds within =
    let block : at / shape.pages_per_block < blocks_of shape =
    div_below at shape.pages_per_block (blocks_of shape) (let b = bounds.pages_least in
    omega arith) (omega (arith, within)) in
    div_below (at / shape.pages_per_block) shape.blocks_per_die shape.dies (let b = bounds.blocks_least in
    omega arith) (omega (arith, block))
