-- The programs that registers hold, and what is left of them.
use Rattle.mem_flash.proofs.Common.{◌≡◌, ℕ, ◌+◌, ◌<◌, ◌≤◌, List, [], ◌++◌, length, get_or, take, drop, map, replicate, Option, None, refl, ap, ap₂, ◌∙◌, subst, arith, length-map, Shape, Contents, Load, load_in, loads_of, AreRegisters}
use Rattle.std.proofs.Common.{zero, suc, ◌∷◌, Some}
use Rattle.std.proofs.lemmas.List.{at_drop_more, take_all, drop_all, append-nil}
use Rattle.std.proofs.lemmas.List.Elements.{All-map}
use Rattle.tx_types.specs.declared.config.Slot.{Slot}
use Rattle.flash_model.specs.declared.outcome.Outcome.{Outcome}
use Rattle.flash_model.specs.declared.outcome.Outcome.TheVariants as outcome
use Rattle.flash_model.specs.Operations.{program_of, image_left, left_each}
use Rattle.flash_model.specs.Firing.{loads_in}
use Rattle.flash_model.proofs.FireLemmas.{load_left_is}
use Rattle.mem_flash.specs.Registers.{HasPage, outcome_after, outcomes_from}
use Rattle.mem_flash.specs.declared.registers.Register.{Register}

-- the program that a register holds with this slot
abbrev pub load_at : Register → Slot → Load
load_at r at = record { at = at.0; bytes = r.bytes.items; spare_area = r.spare_area }

first_none : (r : Register) (rest : List Register) → r.at ≡ None → loads_of (r ∷ rest) ≡ loads_of rest
first_none r rest none = rw none refl

first_some : (r : Register) (rest : List Register) (at : Slot) → r.at ≡ Some at →
    loads_of (r ∷ rest) ≡ load_at r at ∷ loads_of rest
first_some r rest at some = rw some refl

-- what the registers from one on hold: what those behind it do, and before it its own program
module _ (registers : List Register) (i : ℕ) (r : Register) (within : i < length registers)
    (is : r ≡ get_or registers i r) where
  pub loads-none : r.at ≡ None → loads_of (drop i registers) ≡ loads_of (drop (i + 1) registers)
  loads-none none =
      at_drop_more loads_of registers i r within
      ∙ subst (λ x. loads_of (x ∷ drop (i + 1) registers) ≡ loads_of (drop (i + 1) registers)) is
      (first_none r (drop (i + 1) registers) none)

  pub loads-some : (at : Slot) → r.at ≡ Some at → loads_of (drop i registers) ≡ load_at r at
      ∷ loads_of (drop (i + 1) registers)
  loads-some at some =
      at_drop_more loads_of registers i r within
      ∙ subst (λ x. loads_of (x ∷ drop (i + 1) registers) ≡ load_at r at ∷ loads_of (drop (i + 1) registers)) is
      (first_some r (drop (i + 1) registers) at some)

-- the image where programs are left with outcomes that begin with this one
abbrev pub left_from : List Contents → Outcome → List Load → List Contents
left_from image how loads = left_each image loads (outcomes_from how (length loads))

pub left_from-more : (shape : Shape) (image : List Contents) (how : Outcome) (load : Load) (loads : List Load)
    → left_from image how (load ∷ loads) ≡ left_from (image_left shape image (program_of load) how)
    (outcome_after how) loads
left_from-more shape image how load loads = ap (λ i. left_from i (outcome_after how) loads)
    (load_left_is shape image load how)

-- the outcomes of a fire
pub length-outcomes_from : (how : Outcome) (n : ℕ) → length (outcomes_from how n) ≡ n
length-outcomes_from how zero = refl
length-outcomes_from how (suc n) = ap suc (length-outcomes_from (outcome_after how) n)

pub outcomes_from-all : (n : ℕ) → outcomes_from outcome.All n ≡ replicate n outcome.All
outcomes_from-all zero = refl
outcomes_from-all (suc n) = ap (λ (hows : List Outcome). outcome.All ∷ hows) (outcomes_from-all n)

pub left_from-none : (image : List Contents) (loads : List Load) → left_from image outcome.None loads ≡ image
left_from-none image [] = refl
left_from-none image (load ∷ loads) = left_from-none image loads

-- registers that were emptied
abbrev pub emptied : Register → Register
emptied r = record r { at = None }

pub map-emptied : (registers : List Register) → map load_in (map emptied registers) ≡ replicate (length registers) None
map-emptied [] = refl
map-emptied (r ∷ rest) = ap (λ (more : List (Option Load)). None ∷ more) (map-emptied rest)

pub AreRegisters-emptied : (shape : Shape) (registers : List Register) → AreRegisters shape registers →
    AreRegisters shape (map emptied registers)
AreRegisters-emptied shape registers are = record {
  dies = length-map registers emptied ∙ are.dies;
  room = All-map (HasPage shape.page_bytes) emptied registers are.room;
}

-- all of them, where each was emptied in turn
pub emptied_all : (registers now : List Register) (i : ℕ) → length registers ≤ i
    → now ≡ map emptied (take i registers) ++ drop i registers → now ≡ map emptied registers
emptied_all registers now i end so_far =
    so_far
    ∙ ap₂ (λ front back. map emptied front ++ back) (take_all i registers end) (drop_all i registers end)
    ∙ append-nil (map emptied registers)

-- registers that hold no program are empty
pub none_in : (registers : List (Option Load)) → length (loads_in registers) ≡ 0 →
    registers ≡ replicate (length registers) None
none_in [] none = refl
none_in (None ∷ rest) none = ap (λ (more : List (Option Load)). None ∷ more) (none_in rest none)
none_in (Some load ∷ rest) none = absurd (omega (arith, none))
