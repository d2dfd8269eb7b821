-- The first records of a list are put where they stand.
use Rattle.version_index.proofs.Common.{◌≡◌, ◌≢◌, ◌⊎◌, ℕ, ◌+◌, ◌<◌, List, length, set, get_or, ap, ◌∙◌, sym, refl, inl, inr, arith, cases_eq, get_or-set_same, get_or-set_other, length-set, Protocol, Found, nothing, SlotUse, TablesState, use_at, AreDecided}
use Rattle.slot_tables.specs.declared.slots.SlotUse.TheVariants as slot
use Rattle.version_index.specs.Filling.{ArePut}

-- a slot holds the number of one of the first of these records, which stands in it, or none of them stands in it, and
-- it is used as before
abbrev pub IsPutSoFar : List Found → List ℕ → List SlotUse → ℕ → ℕ → SlotUse → Type 0
IsPutSoFar list numbers before count at u =
    ((j : ℕ) × (j < count) × ((get_or list j nothing).slot.0 ≡ at) × (u ≡ slot.Holds (get_or numbers j 0)))
    ⊎ (((j : ℕ) → j < count → (get_or list j nothing).slot.0 ≢ at) × (u ≡ use_at before at))

-- each slot does
pub record ArePutSoFar (list : List Found) (numbers : List ℕ) (before : List SlotUse) (count : ℕ)
    (uses : List SlotUse) : Type 0 where
  pub size : length uses ≡ length before
  pub each : (at : ℕ) → at < length before → IsPutSoFar list numbers before count at (use_at uses at)

module _ (list : List Found) (numbers : List ℕ) (before : List SlotUse) where
  -- at first none is
  pub none_so_far : ArePutSoFar list numbers before 0 before
  none_so_far = record {
    size = refl;
    each = λ at within. inr (λ j low stands. absurd (omega arith), refl);
  }

  -- one record more
  pub put_next : (count : ℕ) (uses : List SlotUse) → ArePutSoFar list numbers before count uses →
      (get_or list count nothing).slot.0 < length uses →
      ArePutSoFar list numbers before (count + 1) (set uses (get_or list count nothing).slot.0
      (slot.Holds (get_or numbers count 0)))
  put_next count uses put low =
      let there = (get_or list count nothing).slot.0 in
      let u = slot.Holds (get_or numbers count 0) in
      record {
        size = length-set uses there u ∙ put.size;
        each = λ at within. elim (cases_eq at there) [
          | inl here ↦ inl (
            count,
            omega arith,
            sym here,
            ap (use_at (set uses there u)) here ∙ get_or-set_same uses there u slot.Blank low,
          )
          | inr off ↦
              let same = get_or-set_other uses there at u slot.Blank off in
              elim (put.each at within) [
                | inl (j, less, stands, is) ↦ inl (j, omega arith, stands, same ∙ is)
                | inr (none, is) ↦ inr (
                  λ j less stands. elim (cases_eq j count) [
                    | inl e ↦ off (sym stands ∙ ap (λ k. (get_or list k nothing).slot.0) e)
                    | inr other ↦ none j (omega arith) stands
                  ],
                  same ∙ is,
                )
              ]
        ];
      }

  -- all are
  pub put_whole : (count : ℕ) (uses : List SlotUse) → count ≡ length list → ArePutSoFar list numbers before count uses →
      ArePut list numbers before (length list) uses
  put_whole count uses all put = record {
    size = put.size;
    each = λ at within. elim (put.each at within) [
      | inl (j, less, stands, is) ↦ inl (j, omega arith, omega arith, stands, is)
      | inr (none, is) ↦ inr (λ j last less stands. none j (omega arith) stands, is)
    ];
  }

-- what is decided stays where a slot is put to use
pub slots_decided : (protocol : Protocol) (list : List Found) (numbers : List ℕ) (logical : ℕ) (k t : TablesState)
    (count : ℕ) (uses : List SlotUse) → AreDecided protocol list numbers logical k t count →
    AreDecided protocol list numbers logical (record k { slots = uses }) (record t { slots = uses }) count
slots_decided protocol list numbers logical k t count uses h = record {
  rest = ap (λ (v : TablesState). record v { slots = uses }) h.rest;
  pages = h.pages;
  answerers = h.answerers;
  waits = h.waits;
  current = h.current;
  done = h.done;
  others = h.others;
}
