-- Slots that are used otherwise, step by step.
use Rattle.version_index.proofs.Common.{◌≡◌, ℕ, zero, suc, ◌+◌, Option, Some, None, refl, ap, ◌∙◌, arith, slice_get, Rec, SlotUse, TablesState, use_at, record_at, copies_of, number_in, used_so, used_from}
use Rattle.std.specs.Prelude.{slice_set}
use Rattle.version_index.specs.Losing.{bared_as, without}

bared_as_shape : (k : TablesState) (x : ℕ) (r : Option Rec) (at : Option ℕ) → (bared_as k x r at).shape ≡ k.shape
bared_as_shape k x None at = refl
bared_as_shape k x (Some r) None = refl
bared_as_shape k x (Some r) (Some at) = refl

without_shape : (k : TablesState) (o : Option ℕ) → (without k o).shape ≡ k.shape
without_shape k None = refl
without_shape k (Some x) = bared_as_shape k x (record_at k.records x) (slice_get (copies_of k.slots x) 0)

module _ (k : TablesState) (first : ℕ) (to : SlotUse) where
  pub used_none : used_from k first to 0 ≡ k
  unfolding used_from
  used_none = refl

  pub used_next : (n : ℕ) → used_so (used_from k first to n) (first + n) to ≡ used_from k first to (n + 1)
  unfolding used_from
  used_next n = ap (used_from k first to) (let more : suc n ≡ n + 1 = omega arith in more)

  pub used_shape : (n : ℕ) → (used_from k first to n).shape ≡ k.shape
  unfolding used_from
  used_shape zero = refl
  used_shape (suc n) =
      let before = used_from k first to n in
      without_shape (record before { slots = slice_set before.slots (first + n) to })
      (number_in (use_at before.slots (first + n))) ∙ used_shape n
