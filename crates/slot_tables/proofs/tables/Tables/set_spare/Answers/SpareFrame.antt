-- The tables after another spare is chosen.
use Rattle.slot_tables.proofs.Common.{◌≡◌, ◌≢◌, ℕ, ◌+◌, ◌*◌, ◌/◌, ◌<◌, ◌≤◌, ◌⊎◌, Bool, true, false, not, ◌&&◌, eqb, inl, inr, Option, Some, None, List, [], ◌∷◌, length, set, refl, sym, ◌∙◌, ap, ap₂, subst, cond, arith, length-set, with_item, Contains, find, slice_get, lt-div-mul-add, cases_eq, nat_tests, Contains-first, Contains-rest, cases_Option, Block, blocks_of, is_outside_spare, is_slot, Inside, BaseTables, TablesState, use_at, number_in, home, copies_of, is_wanted, is_needed, LiveSlotsState, is_marked, tables_state, IsSized, IsRefreshedFrom, TablesInvariant}
use Rattle.std.specs.Option.{option_or}
use Rattle.std.proofs.Math.Nat.{div-mul-le_self}
use Rattle.list_lemmas.proofs.Ranges.{in_range}
use Rattle.list_lemmas.proofs.Tests.{find_stands, none_found}
use Rattle.tx_types.specs.declared.config.Shape.{Shape}
use Rattle.record_list.specs.Written.{is_outside}
use Rattle.slot_tables.specs.TablesState.{slots_in}
use Rattle.slot_tables.specs.BaseTables.{is_same_slot, IsHomeFrom}
use Rattle.slot_tables.proofs.OfBaseTables.Copying.{copies_have}
use Rattle.slot_tables.proofs.OfBaseTables.Held.{holds_number}
use Rattle.slot_tables.proofs.OfLiveSlots.Needing.{needed_some, needed_none, not_slot, same_slot, other_slot}

-- tests that agree on a list find the same
find_same : {X : Type 0} (p q : X → Bool) (xs : List X) → ((x : X) → Contains xs x → p x ≡ q x) → find p xs ≡ find q xs
find_same p q [] same = refl
find_same p q (x ∷ xs) same =
    ap₂ (λ b o. cond b (Some x) o) (same x (Contains-first x xs))
    (find_same p q xs (λ y has. same y (Contains-rest x xs y has)))

-- a slot of a block
block_slot : (shape : Shape) (block slot : ℕ) → 0 < shape.pages_per_block → is_outside shape block slot ≡ false →
    Contains (slots_in shape block) slot
block_slot shape block slot some off =
    let here : slot / shape.pages_per_block ≡ block = is_block (slot / shape.pages_per_block) off in
    let first : slot / shape.pages_per_block * shape.pages_per_block ≤ slot =
    div-mul-le_self slot shape.pages_per_block in
    let last : slot < slot / shape.pages_per_block * shape.pages_per_block + shape.pages_per_block =
    lt-div-mul-add some in
    in_range (block * shape.pages_per_block) shape.pages_per_block slot (rw here at first) (rw here at last)
  where
    is_block : (q : ℕ) → not (eqb q block) ≡ false → q ≡ block
    is_block q e = elim (cases_eq q block) [
      | inl same ↦ same
      | inr other ↦ absurd (let no : eqb q block ≡ false = grind (arith, nat_tests) in let out : not
          (eqb q block) ≡ true = rw no refl in let differ : true ≡ false = sym out ∙ e in cc)
    ]

-- a record has a slot in a block, or all of its slots lie outside
near : (k : TablesState) (block z : ℕ)
    → ((slot : ℕ) × Contains (copies_of k.slots z) slot × (is_outside k.shape block slot ≡ false)) ⊎ ((slot : ℕ)
    → Contains (copies_of k.slots z) slot → is_outside k.shape block slot ≡ true)
near k block z = elim (cases_Option (find (λ slot. not (is_outside k.shape block slot)) (copies_of k.slots z))) [
  | inl none ↦ inr (λ slot has. outside (is_outside k.shape block slot) (none_found
      (λ c. not (is_outside k.shape block c)) (copies_of k.slots z) none slot has))
  | inr some ↦
      let stands = find_stands (λ c. not (is_outside k.shape block c)) (copies_of k.slots z) some.0 some.1 in
      inl (some.0, stands.0, inside (is_outside k.shape block some.0) stands.1)
]
  where
    outside : (b : Bool) → not b ≡ false → b ≡ true
    outside true e = refl
    outside false e = sym e

    inside : (b : Bool) → not b ≡ true → b ≡ false
    inside false e = refl
    inside true e = sym e

-- what the first settling leaves: the homes of the records in the old spare are right, if there is one
pub record IsMiddle (k : TablesState) (older : Option ℕ) (old new : LiveSlotsState) : Type 0 where
  pub size : new ≡ record old { needed = new.needed }
  pub slots : length new.needed ≡ length old.needed
  pub homes : (block s : ℕ) → older ≡ Some block → IsHomeFrom k older block s → is_marked new.needed s ≡ is_needed k s
  pub others : (s : ℕ) → (is_marked new.needed s ≡ is_marked old.needed s) ⊎ (is_marked new.needed s ≡ is_needed k s)

pub no_middle : (k : TablesState) (n : LiveSlotsState) → IsMiddle k None n n
no_middle k n = record { size = refl; slots = refl; homes = λ block s e is. absurd (cc); others = λ s. inl refl }

pub middle : (k : TablesState) (block : ℕ) (old new : LiveSlotsState) → IsRefreshedFrom k (Some block) block old new →
    IsMiddle k (Some block) old new
middle k block old new h = record {
  size = h.size;
  slots = h.slots;
  homes = λ b s e is. (let same : block ≡ b = cc in
      h.homes s (subst (λ x. IsHomeFrom k (Some block) x s) (sym same) is));
  others = h.others;
}

module _ (t : Inside) (h : TablesInvariant t) (block : Block) (low : block.0 < blocks_of t.base.shape)
    (n1 n2 : LiveSlotsState) where
  abbrev k : TablesState
  k = tables_state t.base

  abbrev g' : BaseTables
  g' = record t.base { spare = Some block; closed = with_item t.base.closed block.0 false }

  abbrev k' : TablesState
  k' = tables_state g'

  pub spare_sized : IsSized g'
  spare_sized = record {
    kept = record {
      shape = h.sized.kept.shape;
      slots = h.sized.kept.slots;
      records = h.sized.kept.records;
      answerers = h.sized.kept.answerers;
      waits = h.sized.kept.waits;
      current = h.sized.kept.current;
      pins = h.sized.kept.pins;
      spare = low;
      closed = length-set t.base.closed.items block.0 false ∙ h.sized.kept.closed;
      held = h.sized.kept.held;
      counts = h.sized.kept.counts;
      versions = h.sized.kept.versions;
    };
    waits_pages = h.sized.waits_pages;
  }

  abbrev n0 : LiveSlotsState
  n0 = record t.live { spare = Some block.0; closed = set t.live.closed block.0 false }

  module _ (first : IsMiddle k' k.spare n0 n1) (then : IsRefreshedFrom k' k.spare block.0 n1 n2) where
    some : 0 < k.shape.pages_per_block
    some = (let least = h.sized.kept.shape.pages_least in omega arith)

    home_from : (z b slot s : ℕ) → Contains (copies_of k.slots z) slot → is_outside k.shape b slot ≡ false
        → home k z ≢ home k' z → (home k' z ≡ Some s) ⊎ (home k z ≡ Some s) → IsHomeFrom k' k.spare b s
    home_from z b slot s has off moved is = record {
      slot = slot;
      number = z;
      within = block_slot k.shape b slot some off;
      holds = holds_number z (use_at k.slots slot) ((copies_have k.slots z slot).0 has).1;
      moved = moved;
      home = is;
    }

    -- where all copies lie outside both, the home stays
    far : (z : ℕ) → ((slot : ℕ) → Contains (copies_of k.slots z) slot → is_outside k.shape block.0 slot ≡ true)
        → ((slot : ℕ) → Contains (copies_of k.slots z) slot → is_outside_spare k.shape k.spare slot ≡ true) →
        home k' z ≡ home k z
    far z new old =
        ap (λ o. option_or o (slice_get (copies_of k.slots z) 0))
        (find_same (is_outside_spare k.shape (Some block.0)) (is_outside_spare k.shape k.spare) (copies_of k.slots z)
        (λ slot has. new slot has ∙ sym (old slot has)))

    first_right : (s : ℕ) → is_marked n1.needed s ≡ is_needed k' s → is_marked n2.needed s ≡ is_needed k' s
    first_right s right = elim (then.others s) [ inl same ↦ same ∙ right | inr now ↦ now ]

    -- where the slot is needed as before
    still : (s : ℕ) → is_needed k' s ≡ is_needed k s → is_marked n2.needed s ≡ is_needed k' s
    still s same = elim (first.others s) [
      | inl as_before ↦ first_right s (as_before ∙ h.live.needed s ∙ sym same)
      | inr right ↦ first_right s right
    ]

    decide : (o : Option ℕ) (s : ℕ) → (o ≡ Some s) ⊎ (o ≡ Some s → ⊥)
    decide None s = inr (λ e. cc)
    decide (Some y) s = elim (cases_eq y s) [
      | inl e ↦ inl (ap Some e)
      | inr other ↦ inr (λ e. other (let same : y ≡ s = cc in same))
    ]

    -- where the home of the slot's record is as before
    still_home : (s z : ℕ) → number_in (use_at k.slots s) ≡ Some z → home k' z ≡ home k z →
        is_marked n2.needed s ≡ is_needed k' s
    still_home s z held same =
        still s (needed_some k' s z held ∙ ap (λ o. is_slot s o && is_wanted k z) same ∙ sym (needed_some k s z held))

    its_home : (s z : ℕ) → number_in (use_at k.slots s) ≡ Some z → home k z ≢ home k' z → (home k' z ≡ Some s)
        ⊎ (home k z ≡ Some s)
        → is_marked n2.needed s ≡ is_needed k' s
    its_home s z held moved is = elim (near k block.0 z) [
      | inl copy ↦ then.homes s (home_from z block.0 copy.0 s copy.1 copy.2 moved is)
      | inr new ↦ by k.spare refl new
    ]
      where
        by : (o : Option ℕ) → k.spare ≡ o → ((slot : ℕ) → Contains (copies_of k.slots z) slot →
            is_outside k.shape block.0 slot ≡ true)
            → is_marked n2.needed s ≡ is_needed k' s
        by None e new = still_home s z held (far z new (λ slot has. ap (λ o. is_outside_spare k.shape o slot) e))
        by (Some b) e new = elim (near k b z) [
          | inl copy ↦ first_right s (first.homes b s e (home_from z b copy.0 s copy.1 copy.2 moved is))
          | inr old ↦ still_home s z held (far z new (λ slot has. ap (λ o. is_outside_spare k.shape o slot) e
              ∙ old slot has))
        ]

    -- where a slot is a home, or was
    at_home : (s z : ℕ) → number_in (use_at k.slots s) ≡ Some z → (home k' z ≡ Some s) ⊎ (home k z ≡ Some s) →
        is_marked n2.needed s ≡ is_needed k' s
    at_home s z held is = by (is_same_slot (home k z) (home k' z)) refl
      where
        by : (b : Bool) → is_same_slot (home k z) (home k' z) ≡ b → is_marked n2.needed s ≡ is_needed k' s
        by true e = still_home s z held (sym (same_slot (home k z) (home k' z) e))
        by false e = its_home s z held (other_slot (home k z) (home k' z) e) is

    spare_right : (s : ℕ) → is_marked n2.needed s ≡ is_needed k' s
    spare_right s = elim (cases_Option (number_in (use_at k.slots s))) [
      | inl none ↦ still s (needed_none k' s none ∙ sym (needed_none k s none))
      | inr held ↦ elim (decide (home k' held.0) s) [
        | inl is ↦ at_home s held.0 held.1 (inl is)
        | inr off ↦ elim (decide (home k held.0) s) [
          | inl was ↦ at_home s held.0 held.1 (inr was)
          | inr never ↦ still s (
              needed_some k' s held.0 held.1 ∙ ap (λ b. b && is_wanted k held.0) (not_slot s (home k' held.0) off
              ∙ sym (not_slot s (home k held.0) never))
              ∙ sym (needed_some k s held.0 held.1))
        ]
      ]
    ]

    pub spare_set : TablesInvariant (record t { base = g'; live = n2 })
    spare_set = record {
      sized = spare_sized;
      blanks = record {
        marks = ap (λ n. n.blanks) then.size ∙ ap (λ n. n.blanks) first.size ∙ h.blanks.marks;
        size = ap (λ n. n.size) then.size ∙ ap (λ n. n.size) first.size ∙ h.blanks.size;
      };
      live = record {
        slots = then.slots ∙ first.slots ∙ h.live.slots;
        size = ap (λ n. n.size) then.size ∙ ap (λ n. n.size) first.size ∙ h.live.size;
        blocks = ap (λ n. n.blocks) then.size ∙ ap (λ n. n.blocks) first.size ∙ h.live.blocks;
        spare = ap (λ n. n.spare) then.size ∙ ap (λ n. n.spare) first.size;
        closed =
            ap (λ n. n.closed) then.size ∙ ap (λ n. n.closed) first.size
            ∙ ap (λ cs. set cs block.0 false) h.live.closed;
        needed = spare_right;
      };
    }
