-- The blocks with the most garbage, by the numbers of the tables.
use Rattle.version_index.proofs.Common.{◌≡◌, ℕ, ◌+◌, ◌-◌, ◌*◌, ◌<◌, ◌≤◌, ◌↔◌, Bool, true, false, not, cond, List, length, get_or, count_by, All, Option, Some, None, IfSome, refl, sym, ap, ◌∙◌, subst, inl, inr, arith, range_with_len, false≢true, cases_lt, All-contains, Contains-get_or, at_from_Contains, all_from, Block, Config, Protocol, Shape, shape_of, blocks_of, TablesState, use_at, note_at, IndexState, garbage_of, needed_of, IsMostAmong, notes_in, noted_by, AreIndexed}
use Rattle.std.proofs.Common.{IsNone, ◌||◌}
use Rattle.std.proofs.lemmas.List.FromFn.{length-map-range_with_len, get_or-map-range_with_len}
use Rattle.list_lemmas.proofs.Counts.{count_more}
use Rattle.record_list.specs.Written.{is_slot}
use Rattle.dense_tables.specs.Greatest.{greatest, group_of, IsFirstGreatest}
use Rattle.dense_tables.proofs.GreatestNumbers.{at_most_greatest, greatest_stands, length-group, get_or-group}
use Rattle.slot_tables.specs.TablesState as kept
use Rattle.slot_tables.specs.TablesState.{garbage_numbers}
use Rattle.judged_records.specs.IndexState.{is_blank, blanks_of, HasMostGarbage, FindsMostGarbage, IsAmong, is_garbage_at, shut_or_part}
use Rattle.version_index.proofs.OfReadings.KeptReadings.{count_same, blank_reading, read_garbage}

part_shut : (blank needed : Bool) → not (blank || needed) ≡ true → not needed ≡ true
part_shut true needed e = absurd (false≢true e)
part_shut false needed e = e

-- a block that is not shut has no more garbage than if it were
pub shut_most : (n : IndexState) (block : ℕ) (shut : Bool) → garbage_of n block shut ≤ garbage_of n block true
unfolding garbage_of
shut_most n block true = omega arith
shut_most n block false = by_spare (is_slot block n.spare)
  where
    counted : Bool → ℕ
    counted shut = count_by (is_garbage_at n (shut_or_part shut))
        (range_with_len (block * n.config.pages_per_block) n.config.pages_per_block)

    more : counted false ≤ counted true
    more = count_more (is_garbage_at n (shut_or_part true)) (is_garbage_at n (shut_or_part false))
        (block * n.config.pages_per_block)
        n.config.pages_per_block (λ at _ _ part. part_shut (is_blank (note_at n.notes at)) (needed_of n at) part)

    by_spare : (spare : Bool) → cond spare 0 (counted false) ≤ cond spare 0 (counted true)
    by_spare true = omega arith
    by_spare false = more

module _ (protocol : Protocol) (its : Config) (m : List ℕ) (k : TablesState) (i : AreIndexed protocol its m k) where
  -- as many slots of a block are blank
  pub read_blanks : (block : ℕ) → kept.blanks_of k block ≡ blanks_of (noted_by its m k) block
  unfolding kept.blanks_of blanks_of
  read_blanks block =
      let p = k.shape.pages_per_block in
      count_same (λ at. kept.is_blank (use_at k.slots at)) (λ at. is_blank (note_at (notes_in k) at))
      (range_with_len (block * p) p) (blank_reading k)
      ∙ ap (λ (s : Shape). count_by (λ at. is_blank (note_at (notes_in k) at))
      (range_with_len (block * s.pages_per_block) s.pages_per_block)) i.shape

  numbers_long : length (garbage_numbers k) ≡ blocks_of (shape_of its)
  numbers_long = length-map-range_with_len (kept.garbage_of k true) 0 (blocks_of k.shape) ∙ ap blocks_of i.shape

  number_is : (block : ℕ) → block < blocks_of (shape_of its) →
      get_or (garbage_numbers k) block 0 ≡ garbage_of (noted_by its m k) block true
  number_is block below =
      get_or-map-range_with_len (kept.garbage_of k true) 0 (blocks_of k.shape) block block 0
      (subst (λ s. block < blocks_of s) (sym i.shape) below) (omega arith)
      ∙ read_garbage protocol its m k i block true

  -- where all numbers are 0 no block has garbage
  none_most : All (λ x. x ≡ 0) (garbage_numbers k) → FindsMostGarbage (noted_by its m k) None
  none_most all block shut below =
      let within = subst (λ n. block < n) (sym numbers_long) below in
      let zero = All-contains (λ x. x ≡ 0) (garbage_numbers k) (get_or (garbage_numbers k) block 0) all
      (Contains-get_or (garbage_numbers k) block 0 within) in
      let same = number_is block below in
      let most = shut_most (noted_by its m k) block shut in
      omega arith

  first_most : (block : ℕ) → (All (λ x. x ≡ 0) (garbage_numbers k) → ⊥) → IsFirstGreatest (garbage_numbers k) block
      → HasMostGarbage (noted_by its m k) block
  first_most block some h =
      let n = noted_by its m k in
      let xs = garbage_numbers k in
      let exists = subst (λ c. block < c) numbers_long h.within in
      let own = number_is block exists in
      let at_most : (other : ℕ) → other < blocks_of (shape_of its) → get_or xs other 0 ≤ get_or xs block 0 =
      λ other below. All-contains (λ x. x ≤ get_or xs block 0) xs (get_or xs other 0) h.greatest
      (Contains-get_or xs other 0 (subst (λ c. other < c) (sym numbers_long) below)) in
      record {
        exists = exists;
        some = elim (cases_lt 0 (get_or xs block 0)) [
          | inl positive ↦ omega arith
          | inr zero ↦ absurd (some (all_from (λ x. x ≡ 0) xs (λ x has.
              let place = at_from_Contains xs x has in
              let low = at_most place.0 (subst (λ c. place.0 < c) numbers_long place.1) in
              let is = place.2 0 in
              omega arith)))
        ];
        most = λ other shut below.
            let low = at_most other below in
            let same = number_is other below in
            let less = shut_most n other shut in
            omega arith;
        lowest = λ other shut lower.
            let below : other < blocks_of (shape_of its) = omega arith in
            let low = h.first other lower in
            let same = number_is other below in
            let less = shut_most n other shut in
            omega arith;
      }

  pub finds_most : (o : Option Block) → IsNone o ↔ All (λ x. x ≡ 0) (garbage_numbers k)
      → IfSome o (λ block. IsFirstGreatest (garbage_numbers k) block.0) → FindsMostGarbage (noted_by its m k) o
  finds_most None none first = none_most (none.0 refl)
  finds_most (Some block) none first = first_most block.0 (λ all. false≢true (sym (none.1 all))) first

  -- and of a group of blocks
  pub most_garbage_among : (size group most : ℕ) → 0 < size → size * group < blocks_of (shape_of its)
      → most ≡ greatest (group_of size (garbage_numbers k) group) → IsMostAmong (noted_by its m k) size group most
  most_garbage_among size group most some below is =
      let n = noted_by its m k in
      let all = garbage_numbers k in
      let xs = group_of size all group in
      let long = length-group size all group in
      let count = numbers_long in
      let at_most : (other : ℕ) (shut : Bool) → IsAmong n size group other → garbage_of n other shut ≤ most =
      λ other shut a.
      let j = other - size * group in
      let first = a.first in
      let last = a.last in
      let exists = a.exists in
      let low : j < size = omega arith in
      let place : size * group + j ≡ other = omega arith in
      let within : j < length xs = omega arith in
      let peak = at_most_greatest xs j within in
      let reads = get_or-group size all group j low ∙ ap (λ at. get_or all at 0) place ∙ number_is other exists in
      let less = shut_most n other shut in
      omega arith in
      elim (cases_lt 0 (greatest xs)) [
        | inl positive ↦ (
            let stands = greatest_stands xs positive in
            let within = stands.1 in
            let low : stands.0 < size = omega arith in
            let exists : size * group + stands.0 < blocks_of (shape_of its) = omega arith in
            record {
              block = size * group + stands.0;
              among = record { first = omega arith; last = omega arith; exists = exists };
              has = sym (number_is (size * group + stands.0) exists) ∙ sym (get_or-group size all group stands.0 low)
                  ∙ stands.2 ∙ sym is;
              most = at_most;
            })
        | inr zero ↦ (
            let among : IsAmong n size group (size * group) = record {
              first = omega arith;
              last = omega arith;
              exists = below;
            } in
            let low = at_most (size * group) true among in
            record { block = size * group; among = among; has = omega arith; most = at_most })
      ]
