-- What follows once some of the slots that are due are written.
use Rattle.live_flash.proofs.Common.{◌≡◌, ℕ, ◌+◌, ◌≤◌, true, List, ◌++◌, length, take, drop, get_or, Option, Result, OnOk, IfSome, sym, subst, Slot, Shape, Contents, blank, slot_at, IsImage, StoreError, FileState, BothTell, slots_in, IsOpened, TurnsSlots, Follows, LosesOnly}
use Rattle.std.proofs.lemmas.List.{take-append-drop}
use Rattle.file_flash.proofs.Loading.{in_right}
use Rattle.live_flash.specs.Waiting.{AreOnce, AreInRun, no_slot}
use Rattle.live_flash.proofs.Following.{in_left}
use Rattle.live_flash.proofs.OfTold.{run_loses_told, run_waits_told}
use Rattle.live_flash.proofs.Once.{inner, outer, due_parts, waits_parts, apart}

-- a part of a list is in it
pub front_of : (slots : List Slot) (n k : ℕ) → slots_in (take n slots) k ≡ true → slots_in slots k ≡ true
front_of slots n k here = subst (λ xs. slots_in xs k ≡ true) (take-append-drop n slots)
    (in_left (take n slots) (drop n slots) k here)

pub back_of : (slots : List Slot) (n k : ℕ) → slots_in (drop n slots) k ≡ true → slots_in slots k ≡ true
back_of slots n k here = subst (λ xs. slots_in xs k ≡ true) (take-append-drop n slots)
    (in_right (take n slots) (drop n slots) k here)

module _ (shape : Shape) (image : List Contents) (is : IsImage shape image) (slots : List Slot) (from count : ℕ)
    (within : from + count ≤ length slots) (run : AreInRun slots from count) (r : Result (Unit {0}) StoreError)
    (old new : Option FileState)
    (turns : BothTell
    (TurnsSlots shape (get_or slots from no_slot).0 count (λ k. blank) (λ k. slot_at image k) r) old new)
    (f : IfSome old (Follows shape image (take from slots) (drop from slots))) where
  abbrev part : List Slot
  part = take count (drop from slots)

  abbrev rest : List Slot
  rest = drop (from + count) slots

  due : IfSome old (Follows shape image (take from slots) (part ++ rest))
  due = subst (λ d. IfSome old (Follows shape image (take from slots) d)) (due_parts slots from count within run) f

  pub written_follows : AreOnce slots → OnOk r (IfSome new (Follows shape image (take (from + count) slots) rest))
  written_follows once = subst (λ w. OnOk r (IfSome new (Follows shape image w rest)))
      (sym (waits_parts slots from count within run))
      (run_waits_told shape image (take from slots) part rest (get_or slots from no_slot).0 count is r old new turns
      (inner slots from count within run) (outer slots from count within run) due
      (apart slots from count within run once))

  pub written_loses : IfSome old (IsOpened shape) → IfSome new (LosesOnly shape image slots)
  written_loses o = run_loses_told shape image (take from slots) part rest (get_or slots from no_slot).0 count is r
      old new turns (inner slots from count within run) (outer slots from count within run) due slots
      (front_of slots from)
      (λ k here. back_of slots from k (subst (λ d. slots_in d k ≡ true)
      (sym (due_parts slots from count within run)) here))
      o
