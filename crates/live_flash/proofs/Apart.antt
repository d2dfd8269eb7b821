-- Programs that are loaded are of different slots, since they are of different dies.
use Rattle.live_flash.proofs.Common.{◌≡◌, ◌≢◌, ℕ, zero, suc, ◌||◌, ◌++◌, true, false, List, [], ◌∷◌, drop, map, Option, Some, None, All, refl, sym, ap, subst, ◌∙◌, inl, inr, arith, Shape, Slot, slots_in}
use Rattle.std.specs.Prelude.{AllPairs}
use Rattle.std.proofs.lemmas.Bool.{ne_eqb, or_cases}
use Rattle.std.proofs.lemmas.List.Elements.{All-head, All-tail}
use Rattle.list_lemmas.proofs.Pairs.{pairs_tail}
use Rattle.flash_model.specs.Operations.{Load, die_of}
use Rattle.flash_model.specs.Firing.{loads_in}
use Rattle.file_flash.specs.FileFlashState.{slot_loaded, slots_of_loads}
use Rattle.file_flash.specs.Loads.{slots_loaded}
use Rattle.file_flash.proofs.Loading.{in_append, in_right, in_rest}
use Rattle.file_flash.proofs.Programming.{loaded_slots}
use Rattle.live_flash.specs.Loads.{AreApart}

-- those further on are
pub apart_rest : (slots : List (Option Slot)) (n : ℕ) → AreApart slots → AreApart (drop n slots)
apart_rest slots zero a = a
apart_rest [] (suc n) a = tt
apart_rest (None ∷ slots) (suc n) a = apart_rest slots n a
apart_rest (Some at ∷ slots) (suc n) a = apart_rest slots n a.1

-- no load is in the slot's die
none_there : (shape : Shape) (at : ℕ) (loads : List Load) → All (λ b. die_of shape at ≢ die_of shape b.at) loads →
    slots_in (slots_of_loads loads) at ≡ false
none_there shape at [] all = refl
none_there shape at (load ∷ loads) all =
    let there : load.at ≢ at = λ e.
    All-head (λ (b : Load). die_of shape at ≢ die_of shape b.at) load loads all (ap (die_of shape) (sym e)) in
    ap (λ b. b || slots_in (slots_of_loads loads) at) (ne_eqb load.at at there)
    ∙ none_there shape at loads (All-tail (λ (b : Load). die_of shape at ≢ die_of shape b.at) load loads all)

pub loads_apart : (shape : Shape) (registers : List (Option Load)) →
    AllPairs (λ (a b : Load). die_of shape a.at ≢ die_of shape b.at) (loads_in registers) →
    AreApart (map slot_loaded registers)
loads_apart shape [] pairs = tt
loads_apart shape (None ∷ registers) pairs = loads_apart shape registers pairs
loads_apart shape (Some load ∷ registers) pairs = (
  subst (λ slots. slots_in slots load.at ≡ false) (sym (loaded_slots registers))
      (none_there shape load.at (loads_in registers)
      (λ k d within. pairs zero (suc k) d (omega arith) (omega arith))),
  loads_apart shape registers
      (pairs_tail (λ (a b : Load). die_of shape a.at ≢ die_of shape b.at) load (loads_in registers) pairs),
)

-- the slots that waited and those that are due are among those that were
pub more_lost : (waiting all : List Slot) (slots : List (Option Slot)) (n : ℕ) →
    ((k : ℕ) → slots_in waiting k ≡ true → slots_in (all ++ slots_loaded slots) k ≡ true) →
    (k : ℕ) → slots_in (waiting ++ slots_loaded (drop n slots)) k ≡ true →
    slots_in (all ++ slots_loaded slots) k ≡ true
more_lost waiting all slots n was k e =
    elim (or_cases (slots_in waiting k) (slots_in (slots_loaded (drop n slots)) k)
    (sym (in_append waiting (slots_loaded (drop n slots)) k) ∙ e)) [
      | inl old ↦ was k old
      | inr due ↦ in_right all (slots_loaded slots) k (in_rest slots n k due)
    ]
