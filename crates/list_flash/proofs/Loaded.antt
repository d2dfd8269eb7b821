-- The programs that registers hold.
use Rattle.std.proofs.Common.{◌≡◌, ℕ, ◌+◌, ◌<◌, ◌≤◌, List, [], ◌∷◌, ◌++◌, length, get_or, take, drop, map, replicate, Option, None, Some, refl, ap, ap₂, ◌∙◌, sym, subst, arith}
use Rattle.std.proofs.lemmas.List.{at_drop_more, take_all, drop_all, append-nil, append_assoc, length-map, map-append}
use Rattle.std.proofs.lemmas.List.Elements.{All-map}
use Rattle.tx_types.specs.declared.config.Shape.{Shape}
use Rattle.tx_types.specs.declared.config.Slot.{Slot}
use Rattle.flash_model.specs.Operations.{Operation, Load}
use Rattle.flash_model.specs.Firing.{loads_in}
use Rattle.list_flash.specs.declared.entries.Entry.{Entry}
use Rattle.list_flash.specs.declared.registers.Register.{Register}
use Rattle.list_flash.specs.Entries.{operation_of, operations_in, Grows}
use Rattle.list_flash.specs.Registers.{load_in, loads_of, HasPage, AreRegisters}

-- the program that a register holds with this slot
abbrev pub load_at : Register → Slot → Load
load_at r at = record { at = at.0; bytes = r.page.bytes.items; spare_area = r.page.spare_area }

first_none : (r : Register) (rest : List Register) → r.at ≡ None → loads_of (r ∷ rest) ≡ loads_of rest
first_none r rest none = rw none refl

first_some : (r : Register) (rest : List Register) (at : Slot) → r.at ≡ Some at →
    loads_of (r ∷ rest) ≡ load_at r at ∷ loads_of rest
first_some r rest at some = rw some refl

-- what the registers from one on hold: what those behind it do, and before it its own program
module _ (registers : List Register) (i : ℕ) (r : Register) (within : i < length registers)
    (is : r ≡ get_or registers i r) where
  pub loads-none : r.at ≡ None → loads_of (drop i registers) ≡ loads_of (drop (i + 1) registers)
  loads-none none =
      at_drop_more loads_of registers i r within
      ∙ subst (λ x. loads_of (x ∷ drop (i + 1) registers) ≡ loads_of (drop (i + 1) registers)) is
      (first_none r (drop (i + 1) registers) none)

  pub loads-some : (at : Slot) → r.at ≡ Some at → loads_of (drop i registers) ≡ load_at r at
      ∷ loads_of (drop (i + 1) registers)
  loads-some at some =
      at_drop_more loads_of registers i r within
      ∙ subst (λ x. loads_of (x ∷ drop (i + 1) registers) ≡ load_at r at ∷ loads_of (drop (i + 1) registers)) is
      (first_some r (drop (i + 1) registers) at some)

-- a list got entries at its end that stand for the front of these operations, and this is the rest
pub record IsPart (old now : List Entry) (rest all : List Operation) : Type 0 where
  pub more : List Entry
  pub items : now ≡ old ++ more
  pub operations : operations_in more ++ rest ≡ all

-- one more of them
pub IsPart-more : (old now new : List Entry) (rest all : List Operation) (o : Operation) → IsPart old now (o ∷ rest) all
    → Grows now (o ∷ []) new → IsPart old new rest all
IsPart-more old now new rest all o part grows = record {
  more = part.more ++ grows.more;
  items =
      grows.items ∙ ap (λ (xs : List Entry). xs ++ grows.more) part.items ∙ append_assoc old part.more grows.more;
  operations =
      ap (λ (xs : List Operation). xs ++ rest) (map-append operation_of part.more grows.more
      ∙ ap (λ (xs : List Operation). operations_in part.more ++ xs) grows.operations)
      ∙ append_assoc (operations_in part.more) (o ∷ []) rest ∙ part.operations;
}

-- all of them
pub Grows-part : (old now : List Entry) (rest all : List Operation) → IsPart old now rest all → rest ≡ []
    → Grows old all now
Grows-part old now rest all part none = record {
  more = part.more;
  items = part.items;
  operations =
      sym (append-nil (operations_in part.more))
      ∙ ap (λ (xs : List Operation). operations_in part.more ++ xs) (sym none) ∙ part.operations;
}

-- registers that were emptied
abbrev pub emptied : Register → Register
emptied r = record r { at = None }

pub map-emptied : (registers : List Register) → map load_in (map emptied registers) ≡ replicate (length registers) None
map-emptied [] = refl
map-emptied (r ∷ rest) = ap (λ (more : List (Option Load)). None ∷ more) (map-emptied rest)

pub AreRegisters-emptied : (shape : Shape) (registers : List Register) → AreRegisters shape registers →
    AreRegisters shape (map emptied registers)
AreRegisters-emptied shape registers are = record {
  dies = length-map registers emptied ∙ are.dies;
  room = All-map (HasPage shape.page_bytes) emptied registers are.room;
}

-- all of them, where each was emptied in turn
pub emptied_all : (registers now : List Register) (i : ℕ) → length registers ≤ i
    → now ≡ map emptied (take i registers) ++ drop i registers → now ≡ map emptied registers
emptied_all registers now i end so_far =
    so_far
    ∙ ap₂ (λ front back. map emptied front ++ back) (take_all i registers end) (drop_all i registers end)
    ∙ append-nil (map emptied registers)

-- registers that hold no program are empty
pub none_in : (registers : List (Option Load)) → length (loads_in registers) ≡ 0 →
    registers ≡ replicate (length registers) None
none_in [] none = refl
none_in (None ∷ rest) none = ap (λ (more : List (Option Load)). None ∷ more) (none_in rest none)
none_in (Some load ∷ rest) none = absurd (omega (arith, none))
