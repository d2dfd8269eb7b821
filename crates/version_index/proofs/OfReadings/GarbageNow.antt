-- The garbage of the blocks as they are, by the numbers of the tables.
use Rattle.version_index.proofs.Common.{◌≡◌, ℕ, ◌+◌, ◌-◌, ◌*◌, ◌<◌, ◌≤◌, ◌↔◌, not, List, length, map, get_or, All, Option, Some, None, IfSome, refl, sym, ap, ◌∙◌, inl, inr, arith, range_with_len, false≢true, cases_lt, Block, Config, Protocol, Shape, shape_of, blocks_of, TablesState, note_at, IndexState, notes_in, noted_by, AreIndexed}
use Rattle.std.proofs.Common.{IsNone, ◌||◌}
use Rattle.std.specs.Prelude.{sum, sum_by}
use Rattle.std.proofs.lemmas.List.Elements.{All-get_or, All-from_get_or}
use Rattle.std.proofs.lemmas.List.FromFn.{length-map-range_with_len, get_or-map-range_with_len}
use Rattle.std.proofs.lemmas.List.Sums.{sum-map}
use Rattle.list_lemmas.proofs.Ranges.{map_range}
use Rattle.dense_tables.specs.Greatest.{IsFirstGreatest}
use Rattle.slot_tables.specs.TablesState as kept
use Rattle.judged_records.specs.IndexState.{is_blank, is_shut_now, garbage_now, HasMostGarbageNow, FindsMostGarbageNow}
use Rattle.version_index.proofs.OfReadings.KeptReadings.{blank_reading, read_garbage}

module _ (protocol : Protocol) (its : Config) (m : List ℕ) (k : TablesState) (i : AreIndexed protocol its m k) where
  abbrev n : IndexState
  n = noted_by its m k

  -- no program goes to the same blocks
  shut_reading : (block : ℕ) → kept.is_shut k block ≡ is_shut_now n block
  shut_reading block =
      ap (λ blank. kept.is_closed k block || not blank) (blank_reading k (kept.last_slot k.shape block))
      ∙ ap (λ (s : Shape). kept.is_closed k block
      || not (is_blank (note_at (notes_in k) (block * s.pages_per_block + (s.pages_per_block - 1))))) i.shape

  now_reading : (block : ℕ) → kept.garbage_now k block ≡ garbage_now n block
  now_reading block =
      ap (λ shut. kept.garbage_of k shut block) (shut_reading block)
      ∙ read_garbage protocol its m k i block (is_shut_now n block)

  abbrev blocks : ℕ
  blocks = blocks_of (shape_of its)

  abbrev numbers : List ℕ
  numbers = map (garbage_now n) (range_with_len 0 blocks)

  numbers_are : kept.garbage_now_numbers k ≡ numbers
  numbers_are =
      map_range (kept.garbage_now k) (garbage_now n) 0 (blocks_of k.shape) (λ block first last. now_reading block)
      ∙ ap (λ s. map (garbage_now n) (range_with_len 0 (blocks_of s))) i.shape

  long : length numbers ≡ blocks
  long = length-map-range_with_len (garbage_now n) 0 blocks

  number_is : (block : ℕ) → block < blocks → get_or numbers block 0 ≡ garbage_now n block
  number_is block low = get_or-map-range_with_len (garbage_now n) 0 blocks block block 0 low (omega arith)

  none_now : All (λ x. x ≡ 0) numbers → FindsMostGarbageNow n None
  none_now all block low = sym (number_is block low) ∙ All-get_or (λ x. x ≡ 0) numbers block 0 (rw long low) all

  first_now : (block : ℕ) → (All (λ x. x ≡ 0) numbers → ⊥) → IsFirstGreatest numbers block →
      HasMostGarbageNow n block
  first_now block some h =
      let exists : block < blocks = rw long at h.within in
      let own = number_is block exists in
      let most : (other : ℕ) → other < blocks → garbage_now n other ≤ garbage_now n block = λ other low. (
      let less = All-get_or (λ x. x ≤ get_or numbers block 0) numbers other 0 (rw long low) h.greatest in
      let its_own = number_is other low in
      omega (arith, less, own, its_own)) in
      record {
        exists = exists;
        some = elim (cases_lt 0 (garbage_now n block)) [
          | inl positive ↦ positive
          | inr zero ↦ absurd (some (All-from_get_or (λ x. x ≡ 0) numbers 0 (λ other within.
              let low : other < blocks = rw long at within in
              let less = most other low in
              let its_own = number_is other low in
              omega (arith, less, zero, its_own))))
        ];
        most = most;
        lowest = λ other lower.
            let low : other < blocks = omega (arith, exists, lower) in
            let less = h.first other lower in
            let its_own = number_is other low in
            omega (arith, less, own, its_own);
      }

  finds : (o : Option Block) → IsNone o ↔ All (λ x. x ≡ 0) numbers →
      IfSome o (λ block. IsFirstGreatest numbers block.0) → FindsMostGarbageNow n o
  finds None none first = none_now (none.0 refl)
  finds (Some block) none first = first_now block.0 (λ all. false≢true (sym (none.1 all))) first

  pub finds_now : (o : Option Block) → IsNone o ↔ All (λ x. x ≡ 0) (kept.garbage_now_numbers k) →
      IfSome o (λ block. IsFirstGreatest (kept.garbage_now_numbers k) block.0) → FindsMostGarbageNow n o
  finds_now o none first = finds o (rw numbers_are at none) (rw numbers_are at first)

  pub all_now : sum (kept.garbage_now_numbers k) ≡ sum_by (garbage_now n) (range_with_len 0 blocks)
  all_now = ap sum numbers_are ∙ sum-map (garbage_now n) (range_with_len 0 blocks)
