-- A block is removable where no record is current or held and stands in it alone.
use Rattle.scan_recovery.proofs.Common.{◌≡◌, ◌≢◌, ℕ, ◌<◌, Bool, true, false, ◌==◌, ◌&&◌, ◌||◌, not, ◌⊎◌, List, [], ◌∷◌, get_or, Contains, Option, None, Some, refl, sym, ap, ◌∙◌, subst, inl, inr, arith, eqb-true, eq-eqb, list_any, get_or_default, false≢true, cases_Bool, cases_eq, cond-true, cond-false, and_parts, Contains-get_or, Shape, Block, Rec, IsShape, slots_of, blocks_of, Found, name_of, has_name, is_present, record_at, nothing, cur, IsCurrent, is_held, left, is_outside, IsRemovable, has_own_name, FindsHighest}
use Rattle.std.proofs.Common.{◌/◌, filter}
use Rattle.std.proofs.Common.{ne_eqb, mul_comm}
use Rattle.std.proofs.Math.Nat.{div-lt_iff_lt-mul}
use Rattle.std.proofs.Math.Bool.{and-true}
use Rattle.std.proofs.lemmas.Bool.{and_from, and_right, or_left, or_right, or_cases}
use Rattle.std.proofs.lemmas.Bool.{not_from_true, not_from_false, not-true, true_from_ne_false, false_from_ne_true}
use Rattle.list_lemmas.proofs.Tests.{any_of, any_from, any_none}
use Rattle.sorted_records.specs.CurrentVersions.{CurrentVersionsState}
use Rattle.scan_recovery.specs.Removable.{is_counted, stands_outside, is_fixed, AreFixed}
use Rattle.scan_recovery.proofs.OfLinks.Outside.{present_left, removable_all, removable_not}

-- those of the records of a name that pass
pub any_named : (test p : Found → Bool) (l : List Found) → list_any test (filter p l) ≡ list_any (λ f. test f && p f) l
any_named test p [] = refl
any_named test p (f ∷ fs) = elim (cases_Bool (p f)) [
  | inl e ↦ ap (list_any test) (cond-true (p f) (f ∷ filter p fs) (filter p fs) e)
      ∙ ap (λ b. test f || b) (any_named test p fs)
      ∙ ap (λ b. b || list_any (λ g. test g && p g) fs) (sym (and-true (test f)) ∙ ap (λ b. test f && b) (sym e))
  | inr e ↦ ap (list_any test) (cond-false (p f) (f ∷ filter p fs) (filter p fs) e)
      ∙ any_named test p fs
      ∙ ap (λ b. b || list_any (λ g. test g && p g) fs) (sym (and_right (test f) (p f) e))
]

-- the block of a slot exists
pub block_exists : (shape : Shape) (slot : ℕ) → IsShape shape → 0 < shape.pages_per_block → slot < slots_of shape →
    slot / shape.pages_per_block < blocks_of shape
block_exists shape slot is some within =
    (div-lt_iff_lt-mul {k = shape.pages_per_block} {x = slot} {y = blocks_of shape} some).1
    (omega (arith, mul_comm shape.pages_per_block (blocks_of shape)))

module _ (j : CurrentVersionsState) where
  -- the test of a record, and what it says
  counted_from : (r : Rec) → IsCurrent j.protocol j.list j.logical r ⊎ (is_held j.protocol j.list j.logical r ≡ true) →
      is_counted j r ≡ true
  counted_from r (inl current) = or_left (r.version == cur j.protocol j.list j.logical r.page)
      (is_held j.protocol j.list j.logical r)
      (eq-eqb r.version (cur j.protocol j.list j.logical r.page) current)
  counted_from r (inr held) = or_right (r.version == cur j.protocol j.list j.logical r.page)
      (is_held j.protocol j.list j.logical r) held

  pub counted_then : (rs : List Found) (at top : ℕ) → rs ≡ j.list →
      top ≡ cur j.protocol j.list j.logical (record_at rs at).page →
      (record_at rs at).version ≡ top →
      ((record_at rs at).version == top) ≡ is_counted j (record_at j.list at)
  counted_then rs at top e is same =
      eq-eqb (record_at rs at).version top same
      ∙ sym (counted_from (record_at j.list at)
      (inl (ap (λ l. (record_at l at).version) (sym e) ∙ same ∙ is
      ∙ ap (λ l. cur j.protocol j.list j.logical (record_at l at).page) e)))

  pub counted_else : (rs : List Found) (at top : ℕ) (held : Bool) → rs ≡ j.list →
      top ≡ cur j.protocol j.list j.logical (record_at rs at).page →
      ((record_at rs at).version ≢ top) → held ≡ is_held j.protocol j.list j.logical (record_at j.list at) →
      held ≡ is_counted j (record_at j.list at)
  counted_else rs at top held e is other here =
      let r = record_at j.list at in
      let apart : r.version ≢ cur j.protocol j.list j.logical r.page =
      (λ same. other (ap (λ l. (record_at l at).version) e ∙ same
      ∙ sym (is ∙ ap (λ l. cur j.protocol j.list j.logical (record_at l at).page) e))) in
      here ∙ ap (λ b. b || is_held j.protocol j.list j.logical r)
      (sym (ne_eqb r.version (cur j.protocol j.list j.logical r.page) apart))

  counted_is : (r : Rec) → is_counted j r ≡ true → IsCurrent j.protocol j.list j.logical r
      ⊎ (is_held j.protocol j.list j.logical r ≡ true)
  counted_is r counted = elim (or_cases (r.version == cur j.protocol j.list j.logical r.page)
      (is_held j.protocol j.list j.logical r) counted) [
        | inl e ↦ inl (eqb-true r.version (cur j.protocol j.list j.logical r.page) e)
        | inr e ↦ inr e
      ]

module _ (j : CurrentVersionsState) (shape : Shape) where
  -- a record stands outside each block but its own
  pub fixed_elsewhere : (f : Found) (block : ℕ) → Contains j.list f → f.slot.0 / shape.pages_per_block ≢ block →
      is_fixed j shape f block ≡ false
  fixed_elsewhere f block c other =
      let out : is_outside shape block f.slot.0 ≡ true = not_from_false (f.slot.0 / shape.pages_per_block == block)
      (ne_eqb (f.slot.0 / shape.pages_per_block) block other) in
      let there = any_from (λ g. is_outside shape block g.slot.0 && has_name (name_of f.rec) g.rec) j.list f c
      (and_from (is_outside shape block f.slot.0) (has_name (name_of f.rec) f.rec) out
      (has_own_name (name_of f.rec) f.rec refl)) in
      and_right (is_counted j f.rec) (not (stands_outside j shape block f.rec))
      (not_from_true (stands_outside j shape block f.rec) there)

  pub fixed_only : (f : Found) (place block : ℕ) → Contains j.list f → place ≡ f.slot.0 / shape.pages_per_block →
      is_fixed j shape f place ≡ true →
      is_fixed j shape f block ≡ (place == block)
  fixed_only f place block c at fixed = elim (cases_eq place block) [
    | inl e ↦ ap (is_fixed j shape f) (sym e) ∙ fixed ∙ sym (eq-eqb place block e)
    | inr other ↦ fixed_elsewhere f block c (λ e. other (at ∙ e)) ∙ sym (ne_eqb place block other)
  ]

  pub fixed_none : (f : Found) (place block : ℕ) → Contains j.list f → place ≡ f.slot.0 / shape.pages_per_block →
      is_fixed j shape f place ≡ false →
      is_fixed j shape f block ≡ false
  fixed_none f place block c at free = elim (cases_eq place block) [
    | inl e ↦ ap (is_fixed j shape f) (sym e) ∙ free
    | inr other ↦ fixed_elsewhere f block c (λ e. other (at ∙ e))
  ]

  -- a block that no record stands in alone is removable
  free_removable : (block : ℕ) → list_any (λ f. is_fixed j shape f block) j.list ≡ false →
      IsRemovable j.protocol j.list j.logical shape block
  free_removable block free = removable_all j.protocol j.list j.logical shape block (λ k within counted.
      let f = get_or j.list k nothing in
      let no = any_none (λ g. is_fixed j shape g block) j.list free f (Contains-get_or j.list k nothing within) in
      present_left (is_outside shape block) j.list (name_of f.rec)
      ∙ true_from_ne_false (stands_outside j shape block f.rec) (λ alone.
      false≢true (sym no ∙ and_from (is_counted j f.rec) (not (stands_outside j shape block f.rec))
      (counted_from j f.rec counted)
      (not_from_false (stands_outside j shape block f.rec) alone))))

  fixed_kept : (block : ℕ) → list_any (λ f. is_fixed j shape f block) j.list ≡ true →
      IsRemovable j.protocol j.list j.logical shape block → ⊥
  fixed_kept block fixed removable =
      let (f, c, is) = any_of (λ g. is_fixed j shape g block) j.list fixed in
      let parts = and_parts (is_counted j f.rec) (not (stands_outside j shape block f.rec)) is in
      let alone = not-true (stands_outside j shape block f.rec) parts.1 in
      let here : get_or j.list c.0 nothing ≡ f = get_or_default j.list c.0 nothing f c.1 ∙ c.2 in
      removable_not j.protocol j.list j.logical shape block c.0 c.1
      (subst (λ (g : Found). IsCurrent j.protocol j.list j.logical g.rec
      ⊎ (is_held j.protocol j.list j.logical g.rec ≡ true)) (sym here)
      (counted_is j f.rec parts.0))
      (subst (λ (g : Found). is_present (left (is_outside shape block) j.list) (name_of g.rec) ≡ false) (sym here)
      (present_left (is_outside shape block) j.list (name_of f.rec) ∙ alone)) removable

  module _ (fixed : List Bool) (are : AreFixed j shape j.list fixed) where
    to_removable : (block : ℕ) → block < blocks_of shape → get_or fixed block false ≡ false →
        IsRemovable j.protocol j.list j.logical shape block
    to_removable block within free = free_removable block (sym (are.each block false within) ∙ free)

    to_free : (block : ℕ) → block < blocks_of shape → IsRemovable j.protocol j.list j.logical shape block →
        get_or fixed block false ≡ false
    to_free block within removable =
        false_from_ne_true (get_or fixed block false) (λ marked. fixed_kept block (sym (are.each block false within)
        ∙ marked) removable)

    -- so the highest block that is not marked is the highest removable one
    pub highest_is : (found : Option Block) → FindsHighest (λ block. get_or fixed block false ≡ false)
        (blocks_of shape) found →
        FindsHighest (IsRemovable j.protocol j.list j.logical shape) (blocks_of shape) found
    highest_is None none = λ k within removable. none k within (to_free k within removable)
    highest_is (Some block) high = record {
      exists = high.exists;
      holds = to_removable block.0 high.exists high.holds;
      none_above = λ k above within removable. high.none_above k above within (to_free k within removable);
    }
