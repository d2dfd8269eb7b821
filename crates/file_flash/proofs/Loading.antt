-- The slots that are loaded, and those that wait once they are followed.
use Rattle.file_flash.proofs.Common.{◌≡◌, ℕ, ◌+◌, ◌<◌, ◌++◌, ◌||◌, ◌==◌, Bool, true, false, List, [], ◌∷◌, length, take, drop, get_or, map, Option, Some, None, All, refl, sym, ap, ◌∙◌, ⊎_elim, Shape, Slot, Contents, slots_in}
use Rattle.std.proofs.lemmas.Bool.{or_left, or_right, or_cases}
use Rattle.std.proofs.lemmas.List.{take-append-drop, drop_more}
use Rattle.std.proofs.lemmas.List.Elements.{All-head, All-tail, All-cons, All-nil, filter_map-append}
use Rattle.std.proofs.lemmas.List.Folds.{list_any-append}
use Rattle.flash_model.specs.Operations.{Load, CanLoad}
use Rattle.flash_model.specs.Firing.{loads_in}
use Rattle.file_flash.specs.FileFlashState.{slot_loaded}
use Rattle.file_flash.specs.Loads.{slots_loaded, IsLoaded, AreLoaded}

pub in_append : (xs ys : List Slot) (k : ℕ) → slots_in (xs ++ ys) k ≡ (slots_in xs k || slots_in ys k)
in_append xs ys k = list_any-append (λ at. at.0 == k) xs ys

pub in_right : (xs ys : List Slot) (k : ℕ) → slots_in ys k ≡ true → slots_in (xs ++ ys) k ≡ true
in_right xs ys k e = in_append xs ys k ∙ or_right (slots_in xs k) (slots_in ys k) e

-- those that are loaded further on
pub in_rest : (slots : List (Option Slot)) (n k : ℕ) → slots_in (slots_loaded (drop n slots)) k ≡ true →
    slots_in (slots_loaded slots) k ≡ true
in_rest slots n k e =
    ap (λ xs. slots_in (slots_loaded xs) k) (sym (take-append-drop n slots))
    ∙ ap (λ xs. slots_in xs k) (filter_map-append (λ (s : Option Slot). s) (take n slots) (drop n slots))
    ∙ in_right (slots_loaded (take n slots)) (slots_loaded (drop n slots)) k e

-- and one of them
front_in : (slot : Option Slot) (rest : List (Option Slot)) (k : ℕ) → slots_in (slots_loaded (slot ∷ [])) k ≡ true →
    slots_in (slots_loaded (slot ∷ rest)) k ≡ true
front_in None rest k e = absurd cc
front_in (Some at) rest k e = or_left (at.0 == k) (slots_in (slots_loaded rest) k) (none (at.0 == k) e)
  where
    none : (b : Bool) → (b || false) ≡ true → b ≡ true
    none true x = refl
    none false x = x

-- the slots that wait are still among those that waited or are loaded
pub within_more : (waiting more all : List Slot) (slots : List (Option Slot)) (n : ℕ) (d : Option Slot) →
    n < length slots →
    ((k : ℕ) → slots_in waiting k ≡ true → slots_in (all ++ slots_loaded slots) k ≡ true) →
    ((k : ℕ) → slots_in more k ≡ true → slots_in (waiting ++ slots_loaded (get_or slots n d ∷ [])) k ≡ true) →
    (k : ℕ) → slots_in more k ≡ true → slots_in (all ++ slots_loaded slots) k ≡ true
within_more waiting more all slots n d low was adds k e =
    ⊎_elim
    (λ old. was k old)
    (λ new. in_right all (slots_loaded slots) k (in_rest slots n k
    (ap (λ xs. slots_in (slots_loaded xs) k) (drop_more slots n d low)
    ∙ front_in (get_or slots n d) (drop (n + 1) slots) k new)))
    (or_cases (slots_in waiting k) (slots_in (slots_loaded (get_or slots n d ∷ [])) k)
    (sym (in_append waiting (slots_loaded (get_or slots n d ∷ [])) k) ∙ adds k e))

-- a program that is loaded is of a slot of the flash
pub loaded_exist : (shape : Shape) (image : List Contents) (registers : List (Option Load)) →
    All (CanLoad shape image) (loads_in registers) →
    AreLoaded shape (map slot_loaded registers)
loaded_exist shape image [] can = All-nil (IsLoaded shape)
loaded_exist shape image (None ∷ registers) can =
    All-cons (IsLoaded shape) None (map slot_loaded registers) tt (loaded_exist shape image registers can)
loaded_exist shape image (Some load ∷ registers) can =
    All-cons (IsLoaded shape) (Some (record { 0 = load.at })) (map slot_loaded registers)
    (All-head (CanLoad shape image) load (loads_in registers) can).0.in_range
    (loaded_exist shape image registers (All-tail (CanLoad shape image) load (loads_in registers) can))
