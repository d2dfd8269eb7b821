-- A slot that is marked otherwise while its block keeps its garbage.
use Rattle.slot_tables.proofs.Common.{◌≡◌, ◌≢◌, ℕ, ◌+◌, ◌-◌, ◌*◌, ◌/◌, ◌<◌, Bool, true, false, not, ◌&&◌, ◌||◌, cond, eqb, inl, inr, length, set, refl, sym, ◌∙◌, ap, arith, nat_tests, cases_lt, false≢true, option_map, get_or-set_same, get_or-set_other, one_of, is_slot, is_marked, marked_in}
use Rattle.slot_tables.specs.declared.live_slots.SlotMarks.{SlotMarks}
use Rattle.slot_tables.specs.Counts.{is_shut_in}
use Rattle.slot_tables.specs.SlotMarks.{garbage_by, marked_so, AreSized}
use Rattle.slot_tables.proofs.OfLiveSlots.Tallying.{marked_here}

pub not_true : (b : Bool) → not b ≡ true → b ≡ false
not_true true is = sym is
not_true false is = refl

pub apart : (x y : ℕ) → eqb x y ≡ false → x ≢ y
apart x y is = λ same. (let yes : eqb x y ≡ true = grind (arith, nat_tests) in false≢true (sym is ∙ yes))

-- a slot that was blank and is needed in place of that
pub filled_parts : (needed blank was_needed was_blank : Bool)
    → (needed && not blank && not was_needed && was_blank) ≡ true
    → (needed ≡ true) × (blank ≡ false) × (was_needed ≡ false) × (was_blank ≡ true)
filled_parts false blank was_needed was_blank is = absurd (false≢true is)
filled_parts true true was_needed was_blank is = absurd (false≢true is)
filled_parts true false true was_blank is = absurd (false≢true is)
filled_parts true false false was_blank is = (refl, refl, refl, is)

module _ (m : SlotMarks) (blocks at : ℕ) (needed blank : Bool) (h : AreSized m blocks)
    (low : at < length m.needed.marks) where
  some : 0 < m.needed.size
  some = elim (cases_lt 0 m.needed.size) [
    | inl positive ↦ positive
    | inr none ↦ absurd (let zero : m.needed.size ≡ 0 = omega arith in let e = rw zero at h.needed in
        omega (arith, e, low))
  ]

  abbrev block : ℕ
  block = at / m.needed.size

  abbrev last : ℕ
  last = block * m.needed.size + (m.needed.size - 1)

  abbrev shut : Bool
  shut = is_shut_in m.blanks.marks m.closed.items m.needed.size block

  -- how many slots of the block are marked, before and after
  abbrev needed_before : ℕ
  needed_before = marked_in m.needed.marks m.needed.size block

  abbrev needed_after : ℕ
  needed_after = marked_in (set m.needed.marks at needed) m.needed.size block

  abbrev blanks_before : ℕ
  blanks_before = marked_in m.blanks.marks m.needed.size block

  abbrev blanks_after : ℕ
  blanks_after = marked_in (set m.blanks.marks at blank) m.needed.size block

  pub blank_lies : at < length m.blanks.marks
  blank_lies = omega (arith, h.needed, h.blanks)

  needed_here : needed_after + one_of (is_marked m.needed.marks at) ≡ needed_before + one_of needed
  needed_here = marked_here m.needed.marks m.needed.size at needed some low

  blanks_here : blanks_after + one_of (is_marked m.blanks.marks at) ≡ blanks_before + one_of blank
  blanks_here = marked_here m.blanks.marks m.needed.size at blank some blank_lies

  -- where the slot is not the last one of the block, programs go there as before
  shut_stays : at ≢ last → is_shut_in (set m.blanks.marks at blank) m.closed.items m.needed.size block ≡ shut
  shut_stays before =
      ap (λ b. is_marked m.closed.items block || not b)
      (get_or-set_other m.blanks.marks at last blank false (λ e. before (sym e)))

  -- no program goes there, and the slot is needed as it was
  pub keep_shut : at ≢ last → shut ≡ true → is_marked m.needed.marks at ≡ needed →
      garbage_by (marked_so m at needed blank) block ≡ garbage_by m block
  keep_shut before is same =
      let one : one_of (is_marked m.needed.marks at) ≡ one_of needed = ap one_of same in
      let here = needed_here in
      let stays : needed_after ≡ needed_before = omega (arith, here, one) in
      rw (shut_stays before, is, stays) refl

  -- the slot is needed in place of blank, or blank in place of needed
  module _ (was_needed : is_marked m.needed.marks at ≡ blank) (was_blank : is_marked m.blanks.marks at ≡ needed) where
    both_stay : m.needed.size - needed_after - blanks_after ≡ m.needed.size - needed_before - blanks_before
    both_stay =
        let one : one_of (is_marked m.needed.marks at) ≡ one_of blank = ap one_of was_needed in
        let other : one_of (is_marked m.blanks.marks at) ≡ one_of needed = ap one_of was_blank in
        let here = needed_here in
        let there = blanks_here in
        omega (arith, here, there, one, other)

    pub keep_open : at ≢ last → shut ≡ false → garbage_by (marked_so m at needed blank) block ≡ garbage_by m block
    keep_open before is =
        rw (shut_stays before, is) (ap (cond (is_slot block (option_map (λ b. b.0) m.spare)) 0) both_stay)

    -- it is the last one of the block, and no other one is blank
    pub keep_last : at ≡ last → needed ≡ true → is_marked m.closed.items block ≡ false → blanks_before ≡ 1 →
        garbage_by (marked_so m at needed blank) block ≡ garbage_by m block
    keep_last is on unclosed single =
        rw (shut_after, shut_before) (ap (cond (is_slot block (option_map (λ b. b.0) m.spare)) 0) (by blank refl))
      where
        shut_before : shut ≡ false
        shut_before = rw (unclosed, ← is, was_blank, on) refl

        shut_after : is_shut_in (set m.blanks.marks at blank) m.closed.items m.needed.size block ≡ not blank
        shut_after = rw (unclosed, ← is, get_or-set_same m.blanks.marks at blank false blank_lies) refl

        by : (b : Bool) → blank ≡ b → m.needed.size - needed_after - cond (not b) 0 blanks_after
            ≡ m.needed.size - needed_before - blanks_before
        by true e = both_stay
        by false e =
            let one : one_of (is_marked m.needed.marks at) ≡ 0 = ap one_of (was_needed ∙ e) in
            let other : one_of needed ≡ 1 = ap one_of on in
            let here = needed_here in
            omega (arith, here, one, other, single)
