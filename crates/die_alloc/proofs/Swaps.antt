-- A block table after a block was given another use, and after another block became the spare.
use Rattle.std.proofs.Common.{◌≡◌, ◌≢◌, ℕ, ◌<◌, List, set, set-set, refl, sym, ap, ◌∙◌, subst, inl, inr}
use Rattle.std.proofs.Math.ListN.{length-set}
use Rattle.std.proofs.lemmas.Bool.{cases_eq}
use Rattle.std.proofs.lemmas.List.{set_comm}
use Rattle.tx_types.specs.Config.{blocks_of}
use Rattle.tx_types.specs.declared.config.BlockState.{BlockState}
use Rattle.tx_types.specs.declared.config.BlockState.TheVariants.{Spare, Clean}
use Rattle.die_alloc.specs.declared.block_use.BlockUse.{BlockUse}
use Rattle.die_alloc.specs.BlocksState.{BlocksState, IsBlocksState, MayHave, use_of, with_use, table_with_spare}
use Rattle.die_alloc.proofs.Changes.{use_of-with_use_same, use_of-with_use_other, use_of-with_spare_same, use_of-with_spare_old, use_of-with_spare_other}

-- what a block has as its state allows, by what is kept of it
abbrev BlocksInvariant : BlocksState → BlockUse → Type 0
BlocksInvariant t kept = MayHave t.shape.pages_per_block kept.state kept.used

-- a block other than the spare is given a state and a number of used slots
pub use_table : (t : BlocksState) → IsBlocksState t → (block : ℕ) (s : BlockState) (n : ℕ) → block < blocks_of t.shape →
    block ≢ t.spare →
    s ≢ Spare → MayHave t.shape.pages_per_block s n → IsBlocksState (with_use t block s n)
use_table t h block s n within apart other may = record {
  numbers = h.numbers;
  count = length-set t.blocks block (record { state = s; used = n }) ∙ h.count;
  die = h.die;
  spare_within = h.spare_within;
  one_spare = λ b low. elim (cases_eq b block) [
    | inl e ↦
        (let its = ap (λ (u : BlockUse). u.state) (ap (use_of (with_use t block s n)) e
        ∙ use_of-with_use_same t h block s n within) in
        (λ spare. absurd (other (sym its ∙ spare)), λ is. absurd (apart (sym e ∙ is))))
    | inr away ↦
        (let same = ap (λ (u : BlockUse). u.state) (use_of-with_use_other t block b s n away) in
        (λ spare. (h.one_spare b low).0 (sym same ∙ spare), λ is. same ∙ (h.one_spare b low).1 is))
  ];
  bounds = λ b low. elim (cases_eq b block) [
    | inl e ↦ subst (BlocksInvariant t) (sym (ap (use_of (with_use t block s n)) e
        ∙ use_of-with_use_same t h block s n within)) may
    | inr away ↦ subst (BlocksInvariant t) (sym (use_of-with_use_other t block b s n away)) (h.bounds b low)
  ];
}

-- a block becomes the spare
pub spare_table : (t : BlocksState) → IsBlocksState t → (block : ℕ) → block < blocks_of t.shape → block ≢ t.spare →
    IsBlocksState (table_with_spare t block)
spare_table t h block within apart = record {
  numbers = h.numbers;
  count = length-set (set t.blocks t.spare (record { state = Clean; used = 0 })) block
      (record { state = Spare; used = 0 })
      ∙ length-set t.blocks t.spare (record { state = Clean; used = 0 }) ∙ h.count;
  die = h.die;
  spare_within = within;
  one_spare = λ b low. elim (cases_eq b block) [
    | inl e ↦ (
      λ spare. e,
      λ is. ap (λ (u : BlockUse). u.state) (ap (use_of (table_with_spare t block)) e
          ∙ use_of-with_spare_same t h block within),
    )
    | inr away ↦ elim (cases_eq b t.spare) [
      | inl old ↦
          (let its = ap (λ (u : BlockUse). u.state) (ap (use_of (table_with_spare t block)) old
          ∙ use_of-with_spare_old t h block (λ e. apart (sym e))) in
          (λ spare. clean_spare b block (sym its ∙ spare), λ is. absurd (away is)))
      | inr other ↦
          (let same = ap (λ (u : BlockUse). u.state) (use_of-with_spare_other t block b away other) in
          (λ spare. absurd (other ((h.one_spare b low).0 (sym same ∙ spare))), λ is. absurd (away is)))
    ]
  ];
  bounds = λ b low. elim (cases_eq b block) [
    | inl e ↦ subst (BlocksInvariant t) (sym (ap (use_of (table_with_spare t block)) e
        ∙ use_of-with_spare_same t h block within)) refl
    | inr away ↦ elim (cases_eq b t.spare) [
      | inl old ↦ subst (BlocksInvariant t) (sym (ap (use_of (table_with_spare t block)) old
          ∙ use_of-with_spare_old t h block (λ e. apart (sym e)))) refl
      | inr other ↦ subst (BlocksInvariant t) (sym (use_of-with_spare_other t block b away other)) (h.bounds b low)
    ]
  ];
}
  where
    clean_spare : (b block : ℕ) → Clean ≡ Spare → b ≡ block
    clean_spare b block e = cc

-- the last of two writes of an element counts, and that of another one between them stays
pub written_twice : {A : Type 0} (l : List A) (i j : ℕ) (a b c : A) → j ≢ i →
    set (set (set l i a) j b) i c ≡ set (set l i c) j b
written_twice l i j a b c apart = set_comm (set l i a) j i b c apart ∙ ap (λ m. set m j b) (set-set l i a c)

-- a table whose old spare is given a use and whose new one is marked is that with the new spare and then the use
pub swapped_is : (t : BlocksState) (block : ℕ) (s : BlockState) (n : ℕ) (blocks : List BlockUse)
    → blocks ≡ set (set t.blocks t.spare (record { state = s; used = n })) block (record { state = Spare; used = 0 }) →
    block ≢ t.spare
    → record t { blocks = blocks; spare = block } ≡ with_use (table_with_spare t block) t.spare s n
swapped_is t block s n blocks is apart =
    ap (λ (l : List BlockUse). record t { blocks = l; spare = block }) (is
    ∙ sym (written_twice t.blocks t.spare block _ _ _ apart))

-- and it is a table
pub swapped_table : (t : BlocksState) → IsBlocksState t → (block : ℕ) (s : BlockState) (n : ℕ) →
    block < blocks_of t.shape → block ≢ t.spare
    → s ≢ Spare → MayHave t.shape.pages_per_block s n → IsBlocksState (with_use (table_with_spare t block) t.spare s n)
swapped_table t h block s n within apart other may =
    use_table (table_with_spare t block) (spare_table t h block within apart) t.spare s n h.spare_within
    (λ e. apart (sym e)) other may
