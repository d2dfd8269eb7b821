-- A collected block that was erased, or lost, becomes the spare, and the old spare is open with its copies.
use Rattle.collector.proofs.Common.{◌≡◌, ◌≢◌, ◌⊎◌, ℕ, ◌+◌, ◌*◌, ◌/◌, ◌%◌, ◌<◌, ◌≤◌, eqb-true, sym, ap, ◌∙◌, subst, inl, inr, arith, ◌==◌, mul_comm, cases_Bool, eqb-false, blocks_of, Spare, Part, Blank, note_at, IndexState, BlocksState, IsBlocksState, block_of_slot, HasRoom, IsFree, use_of, used_of, table_with_spare, BlockUse, swapped, open_state, IsFilledTo}
use Rattle.std.proofs.Math.Nat.{div-add-mod, mod-lt}
use Rattle.tx_types.specs.declared.config.BlockState.TheVariants.{Clean}
use Rattle.die_alloc.proofs.Changes.{use_of-with_use_same, use_of-with_use_other, use_of-with_spare_same, use_of-with_spare_other}

-- the slot of a block, by its number in it
pub slot_in : (per block slot : ℕ) → slot / per ≡ block → block * per + slot % per ≡ slot
slot_in per block slot e =
    let whole = div-add-mod slot per in
    subst (λ b. b * per + slot % per ≡ slot) e (omega (arith, whole, mul_comm per (slot / per)))

-- a block of the swapped table that has room is the old spare, or one that had it
module _ (t : BlocksState) (h : IsBlocksState t) (block : ℕ) (below : block < blocks_of t.shape)
    (other : block ≢ t.spare)
    (mid : IsBlocksState (table_with_spare t block)) (used : ℕ) where
  abbrev after : BlocksState
  after = swapped t block used

  use_block : use_of after block ≡ record { state = Spare; used = 0 }
  use_block =
      use_of-with_use_other (table_with_spare t block) t.spare block
      (open_state t.shape.pages_per_block used) used other
      ∙ use_of-with_spare_same t h block below

  pub use_old : use_of after t.spare ≡ record { state = open_state t.shape.pages_per_block used; used = used }
  use_old = use_of-with_use_same (table_with_spare t block) mid t.spare (open_state t.shape.pages_per_block used) used
      h.spare_within

  pub use_other : (b : ℕ) → b ≢ block → b ≢ t.spare → use_of after b ≡ use_of t b
  use_other b away apart =
      use_of-with_use_other (table_with_spare t block) t.spare b (open_state t.shape.pages_per_block used) used apart
      ∙ use_of-with_spare_other t block b away apart

  no_room : HasRoom after block → (Spare ≡ Clean) ⊎ (Spare ≡ Part)
  no_room room = elim room [
    | inl clean ↦ inl (sym (ap (λ (u : BlockUse). u.state) use_block) ∙ clean)
    | inr part ↦ inr (sym (ap (λ (u : BlockUse). u.state) use_block) ∙ part)
  ]

  never : (Spare ≡ Clean) ⊎ (Spare ≡ Part) → (A : Type 0) → A
  never (inl e) A = cc
  never (inr e) A = cc

  room_other : (b : ℕ) → b ≢ block → b ≢ t.spare → HasRoom after b → HasRoom t b
  room_other b away apart room =
      let same = ap (λ (u : BlockUse). u.state) (use_other b away apart) in
      elim room [ inl clean ↦ inl (sym same ∙ clean) | inr part ↦ inr (sym same ∙ part) ]

  -- a free slot lies outside the new spare
  pub free_away : (slot : ℕ) → IsFree after slot → block_of_slot t.shape slot ≢ block
  free_away slot free here = never (no_room (subst (HasRoom after) here free.room)) ⊥

  -- it was free, or lies in the old spare behind its copies
  pub free_before : (slot : ℕ) → IsFree after slot →
      ((block_of_slot t.shape slot ≡ t.spare) × (used ≤ slot % t.shape.pages_per_block)) ⊎ IsFree t slot
  free_before slot free = elim (cases_Bool (block_of_slot t.shape slot == t.spare)) [
    | inl old ↦ inl (
      eqb-true (block_of_slot t.shape slot) t.spare old,
      (let is = ap (λ (u : BlockUse). u.used) use_old in
          subst (λ u. u ≤ slot % t.shape.pages_per_block) is
          (subst (λ b. used_of after b ≤ slot % t.shape.pages_per_block)
          (eqb-true (block_of_slot t.shape slot) t.spare old) free.unused)),
    )
    | inr apart ↦
        (let away = free_away slot free in
        let no_spare = eqb-false (block_of_slot t.shape slot) t.spare apart in
        inr (record {
          within = free.within;
          room = room_other (block_of_slot t.shape slot) away no_spare free.room;
          unused = subst (λ u. u ≤ slot % t.shape.pages_per_block)
              (ap (λ (u : BlockUse). u.used) (use_other (block_of_slot t.shape slot) away no_spare))
              free.unused;
        }))
  ]

-- in a block that is filled to a slot, those behind it are blank
pub tail_blank : (n : IndexState) (block : ℕ) (filled : IsFilledTo n block) (slot : ℕ) →
    slot / n.config.pages_per_block ≡ block → 0 < n.config.pages_per_block →
    filled.0 ≤ slot % n.config.pages_per_block → note_at n.notes slot ≡ Blank
tail_blank n block filled slot here some behind =
    subst (λ k. note_at n.notes k ≡ Blank) (slot_in n.config.pages_per_block block slot here)
    ((filled.1).tail (slot % n.config.pages_per_block) behind (mod-lt slot some))
