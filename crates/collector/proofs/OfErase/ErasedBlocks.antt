-- What the slots of a block show whose erase was broken.
use Rattle.collector.proofs.Common.{◌≡◌, ◌⊎◌, ℕ, ◌+◌, ◌*◌, ◌/◌, ◌<◌, ◌≤◌, Bool, true, false, List, Option, Some, None, refl, sym, ap, ◌∙◌, inl, inr, arith, list_all, option_map_or, both_ways, all_range, shape_of, slots_of, blocks_of, Protocol, Rec, FlashState, Contents, blank, damaged, complete, slot_at, block_within, record_of, Note, Blank, Damaged, Holds, note_at, note_of, IndexState, inside_block, BlocksState, Unsure, is_blank_slot, is_blank_block, slots_in, Matches, IsNotedAt, AllOfBlock, IsErasing}
use Rattle.std.specs.Prelude.{IsSomeAnd}
use Rattle.std.proofs.Math.Nat.{div-eq_of_lt-le}
use Rattle.list_lemmas.proofs.Ranges.{range_all}
use Rattle.judged_records.specs.Images.{SlotReads}
use Rattle.collector.specs.Settling.{reads_as, block_reads_as_noted}

-- a note that a damaged slot reads as
as_damaged : (note : Note) → reads_as note damaged ≡ true → note ≡ Damaged
as_damaged Blank h = cc
as_damaged Damaged h = refl
as_damaged (Holds rec) h = cc

-- and one that a blank slot reads as
as_blank : (note : Note) → reads_as note blank ≡ true → note ≡ Blank
as_blank Blank h = refl
as_blank Damaged h = cc
as_blank (Holds rec) h = cc

holds_reads : (r : Option Rec) (bytes spare : List ℕ) (P : Rec → Type 0) → IsSomeAnd r P →
    reads_as (option_map_or Holds r Damaged) (complete bytes spare) ≡ true
holds_reads None bytes spare P h = absurd h
holds_reads (Some rec) bytes spare P h = refl

-- a slot of a sound image reads as it is noted
noted_reads : (p : Protocol) (logical : ℕ) (contents : Contents) → SlotReads p logical contents →
    reads_as (note_of p contents) contents ≡ true
noted_reads p logical blank h = refl
noted_reads p logical damaged h = refl
noted_reads p logical (complete bytes spare) h = holds_reads (record_of p spare) bytes spare _ h

module _ (s : FlashState) (n : IndexState) (t : BlocksState) (u : Unsure) (m : Matches s n t u) (block : ℕ)
    (below : block < blocks_of (shape_of n.config))
    (erasing : IsErasing s.image n block) where
  some : 0 < n.config.pages_per_block
  some = (let b = m.noted.bounds.shape.pages_least in omega arith)

  -- the slots of the block, as numbers of the range
  within : (slot : ℕ) → block * n.config.pages_per_block ≤ slot →
      slot < block * n.config.pages_per_block + n.config.pages_per_block →
      slot < slots_of (shape_of n.config)
  within slot low high = (let b = block_within (shape_of n.config) block below in omega (arith, b, high))

  tested : (p : ℕ → Bool) → list_all p (slots_in n block) ≡ true → AllOfBlock n block (λ slot. p slot ≡ true)
  tested p h slot lt here =
      let place = inside_block n.config.pages_per_block block slot some here in
      all_range p (block * n.config.pages_per_block) n.config.pages_per_block h slot place.0 place.1

  here : (k : ℕ) → block * n.config.pages_per_block ≤ k →
      k < block * n.config.pages_per_block + n.config.pages_per_block → k / n.config.pages_per_block ≡ block
  here k low high = div-eq_of_lt-le n.config.pages_per_block low (omega arith)

  -- where each slot reads as it is noted, it holds what is noted
  pub noted_all : block_reads_as_noted n s.image block ≡ true → AllOfBlock n block (IsNotedAt s.image n)
  noted_all h = elim erasing [
    | inl old ↦ old
    | inr (inl bad) ↦ (λ slot lt here.
        let reads = tested (λ k. reads_as (note_at n.notes k) (slot_at s.image k)) h slot lt here in
        let is = as_damaged (note_at n.notes slot) (ap (reads_as (note_at n.notes slot)) (sym (bad slot lt here))
        ∙ reads) in
        is ∙ ap (note_of n.config.protocol) (sym (bad slot lt here)))
    | inr (inr none) ↦ (λ slot lt here.
        let reads = tested (λ k. reads_as (note_at n.notes k) (slot_at s.image k)) h slot lt here in
        let is = as_blank (note_at n.notes slot) (ap (reads_as (note_at n.notes slot)) (sym (none slot lt here))
        ∙ reads) in
        is ∙ ap (note_of n.config.protocol) (sym (none slot lt here)))
  ]

  -- a block that is as before the erase reads as it is noted
  old_reads : AllOfBlock n block (IsNotedAt s.image n) → block_reads_as_noted n s.image block ≡ true
  old_reads old = range_all (λ k. reads_as (note_at n.notes k) (slot_at s.image k)) (block * n.config.pages_per_block)
      n.config.pages_per_block (λ k low high.
      let lt = within k low high in
      let length_is = m.flash.slots in
      let shape_is = ap slots_of m.shape in
      let reads = noted_reads n.config.protocol n.config.logical (slot_at s.image k)
      (m.sound.reads k blank (omega (arith, lt, length_is, shape_is))) in
      ap (λ note. reads_as note (slot_at s.image k)) (old k lt (here k low high)) ∙ reads)

  changed : block_reads_as_noted n s.image block ≡ false →
      AllOfBlock n block (λ slot. slot_at s.image slot ≡ damaged)
      ⊎ AllOfBlock n block (λ slot. slot_at s.image slot ≡ blank)
  changed h = elim erasing [
    | inl old ↦ absurd (both_ways (block_reads_as_noted n s.image block) h (old_reads old))
    | inr new ↦ new
  ]

  -- where one does not, and all read blank, they are blank
  pub blank_all : block_reads_as_noted n s.image block ≡ false → is_blank_block n s.image block ≡ true →
      AllOfBlock n block (λ slot. slot_at s.image slot ≡ blank)
  blank_all h b = elim (changed h) [
    | inl bad ↦ (
        let k = block * n.config.pages_per_block in
        let lt = within k (omega arith) (omega (arith, some)) in
        let in_block = here k (omega arith) (omega (arith, some)) in
        let is : is_blank_slot (slot_at s.image k) ≡ true = tested (λ slot. is_blank_slot (slot_at s.image slot)) b k
        lt in_block in
        absurd (both_ways (is_blank_slot (slot_at s.image k)) (ap is_blank_slot (bad k lt in_block)) is))
    | inr none ↦ none
  ]

  -- and else damaged
  pub damaged_all : block_reads_as_noted n s.image block ≡ false → is_blank_block n s.image block ≡ false →
      AllOfBlock n block (λ slot. slot_at s.image slot ≡ damaged)
  damaged_all h b = elim (changed h) [
    | inl bad ↦ bad
    | inr none ↦ (
        let all : is_blank_block n s.image block ≡ true = range_all (λ slot. is_blank_slot (slot_at s.image slot))
        (block * n.config.pages_per_block)
        n.config.pages_per_block
        (λ k low high. ap is_blank_slot (none k (within k low high) (here k low high))) in
        absurd (both_ways (is_blank_block n s.image block) b all))
  ]
