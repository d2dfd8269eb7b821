-- The ranks of the blocks of each die, and which of them comes first.
use Rattle.std.proofs.Common.{◌≡◌, ◌≢◌, ℕ, ◌+◌, ◌-◌, ◌*◌, ◌/◌, ◌%◌, ◌<◌, ◌≤◌, inl, inr, false, List, [], ◌∷◌, ◌++◌, take, drop, length, get_or, set, Some, None}
use Rattle.std.proofs.Common.{refl, sym, ap, ◌∙◌, subst, arith, All, ap₂}
use Rattle.std.specs.Option.{option_or}
use Rattle.std.proofs.Math.ListN.{length-set}
use Rattle.std.proofs.lemmas.Bool.{cases_eq}
use Rattle.std.proofs.lemmas.Grind.{common_steps}
use Rattle.std.proofs.lemmas.List.{get_or-drop, get_or-take, get_or-set_same, get_or-set_other, get_or_push, get_or_append_left, get_or_default, length_push}
use Rattle.std.proofs.lemmas.List.{set-get_or}
use Rattle.std.proofs.lemmas.Nat.{div_below, div-mul-add, mod-mul-add, div-add-mod', mod_below, row_fits_turned}
use Rattle.std.proofs.Math.Nat.{mul_comm, mul-le-mul_right}
use Rattle.dense_tables.specs.Greatest.{IsFirstGreatest}
use Rattle.list_lemmas.proofs.Positions.{position-at, position-none}
use Rattle.tx_types.specs.Config.{IsShape, blocks_of}
use Rattle.tx_types.specs.declared.config.Shape.{Shape}
use Rattle.tx_types.specs.declared.config.BlockState.{BlockState}
use Rattle.tx_types.specs.declared.config.BlockState.TheVariants.{Spare, Clean, Part, Shut}
use Rattle.die_alloc.specs.declared.block_use.BlockUse.{BlockUse}
use Rattle.die_alloc.specs.BlocksState.{BlocksState, IsBlocksState, no_block}
use Rattle.die_alloc.specs.NextSlot.{is_part, is_clean, lowest_block, open_block, die_blocks}
use Rattle.die_alloc.specs.Ranks.{rank_of, AreRanksOf, AreRanks}
use Rattle.die_alloc.proofs.OpenBlocks.{length_of_die, die_lies}

low_not_part : (s : BlockState) → rank_of s < 2 → is_part s ≡ false
low_not_part Part low = absurd (omega arith)
low_not_part Spare low = refl
low_not_part Clean low = refl
low_not_part Shut low = refl

none_not_clean : (s : BlockState) → rank_of s < 1 → is_clean s ≡ false
none_not_clean Part low = absurd (omega arith)
none_not_clean Spare low = refl
none_not_clean Clean low = absurd (omega arith)
none_not_clean Shut low = refl

module _ (t : BlocksState) (table : IsBlocksState t) (ranks : List (List ℕ)) (are : AreRanks t.shape t.blocks ranks)
    (die : ℕ) (below : die < t.shape.dies) where
  abbrev xs : List ℕ
  xs = get_or ranks die []

  abbrev blocks : List BlockUse
  blocks = die_blocks t die

  size : length blocks ≡ t.shape.blocks_per_die
  size = length_of_die is_part t die (die_lies t table die below)

  pub place_fits : (at : ℕ) → IsFirstGreatest xs at → at < t.shape.blocks_per_die
  place_fits at first = let n = (are.each die below).size in let s = size in let w = first.within in omega arith

  -- where no block has a rank, none is open
  pub no_rank : All (λ x. x ≡ 0) xs → open_block t die ≡ None
  unfolding open_block
  no_rank zeros =
      let zero_at : (k : ℕ) → k < length blocks → rank_of (get_or blocks k no_block).state ≡ 0 =
      λ k low. sym ((are.each die below).each k low) ∙ zeros k 0 (let n = (are.each die below).size in omega arith) in
      let part = position-none (λ b. is_part b.state) blocks no_block (λ k low. low_not_part _ (let z = zero_at k low in
      omega arith)) in
      let clean = position-none (λ b. is_clean b.state) blocks no_block
      (λ k low. none_not_clean _ (let z = zero_at k low in omega arith)) in
      rw (part, clean) refl

  -- the first of the greatest rank is, unless that is 0
  pub first_rank : (at : ℕ) → IsFirstGreatest xs at → (All (λ x. x ≡ 0) xs → ⊥) →
      open_block t die ≡ Some (die * t.shape.blocks_per_die + at)
  unfolding open_block
  first_rank at first some = by_state (get_or blocks at no_block).state refl
    where
      within : at < length blocks
      within = let n = (are.each die below).size in let w = first.within in omega arith

      same : (k : ℕ) → k < length blocks → get_or xs k 0 ≡ rank_of (get_or blocks k no_block).state
      same k low = (are.each die below).each k low

      most : (k : ℕ) → k < length blocks → get_or xs k 0 ≤ get_or xs at 0
      most k low = first.greatest k 0 (let n = (are.each die below).size in omega arith)

      zeros : get_or xs at 0 ≡ 0 → All (λ x. x ≡ 0) xs
      zeros none k d low = let m = first.greatest k d low in omega arith

      by_state : (s : BlockState) → (get_or blocks at no_block).state ≡ s →
          option_or (lowest_block is_part t die) (lowest_block is_clean t die)
          ≡ Some (die * t.shape.blocks_per_die + at)
      by_state Part e =
          let part = position-at (λ b. is_part b.state) blocks no_block at within
          (λ k less. low_not_part _ (let a = first.first k less in let w = within in let b = same k (omega arith) in
          let c = same at within in let d =
          ap rank_of e in omega arith))
          (ap is_part e) in
          rw part refl
      by_state Clean e =
          let top = same at within ∙ ap rank_of e in
          let part = position-none (λ b. is_part b.state) blocks no_block
          (λ k low. low_not_part _ (let a = most k low in let b = same k low in omega arith)) in
          let clean = position-at (λ b. is_clean b.state) blocks no_block at within
          (λ k less. none_not_clean _ (let a = first.first k less in let w = within in
          let b = same k (omega arith) in omega arith))
          (ap is_clean e) in
          rw (part, clean) refl
      by_state Spare e = absurd (some (zeros (same at within ∙ ap rank_of e)))
      by_state Shut e = absurd (some (zeros (same at within ∙ ap rank_of e)))

-- the blocks of a die
abbrev pub blocks_of_die : Shape → List BlockUse → ℕ → List BlockUse
blocks_of_die s blocks die = take s.blocks_per_die (drop (die * s.blocks_per_die) blocks)

module _ (s : Shape) (blocks : List BlockUse) (count : length blocks ≡ blocks_of s) (die : ℕ)
    (below : die < s.dies) where
  pub die_within : die * s.blocks_per_die + s.blocks_per_die ≤ length blocks
  die_within = rw count (row_fits_turned die s.blocks_per_die s.blocks_per_die s.dies below (omega arith))

  pub die_size : length (blocks_of_die s blocks die) ≡ s.blocks_per_die
  die_size = let h = die_within in grind (arith, common_steps)

  pub block_in_die : (k : ℕ) → k < s.blocks_per_die → get_or (blocks_of_die s blocks die) k no_block
      ≡ get_or blocks (die * s.blocks_per_die + k) no_block
  block_in_die k h = get_or-take _ _ k no_block h ∙ get_or-drop _ blocks k no_block

-- a block is kept with its rank
module _ (s : Shape) (old : List BlockUse) (ranks : List (List ℕ)) (block : ℕ) (its : BlockUse) (shape : IsShape s)
    (within : block < blocks_of s) (count : length old ≡ blocks_of s) (are : AreRanks s old ranks) where
  abbrev width : ℕ
  width = s.blocks_per_die

  abbrev home : ℕ
  home = block / width

  abbrev spot : ℕ
  spot = block % width

  abbrev now : List BlockUse
  now = set old block its

  abbrev here : List ℕ
  here = set (get_or ranks home []) spot (rank_of its.state)

  abbrev ranks' : List (List ℕ)
  ranks' = set ranks home here

  count_now : length now ≡ blocks_of s
  count_now = length-set old block its ∙ count

  place : (home * width + spot ≡ block) × (spot < width) × (home < s.dies)
  place =
      let split = div-add-mod' block width in
      let rest = mod_below block width (omega (arith, shape.blocks_least)) in
      let low = div_below block width s.dies (omega (arith, shape.blocks_least))
      (omega (arith, within, mul_comm width s.dies)) in
      (omega (arith, split), rest, low)

  -- the rank of its place is kept
  pub spot_lies : spot < length (get_or ranks home [])
  spot_lies =
      let n = (are.each home place.2).size in let m = die_size s old count home place.2 in omega (arith, place.1)

  -- another block keeps its rank
  other : (die k : ℕ) → die < s.dies → k < width → die * width + k ≢ block →
      rank_of (get_or old (die * width + k) no_block).state ≡ rank_of (get_or now (die * width + k) no_block).state
  other die k below low apart = ap (λ b. rank_of b.state)
      (sym (get_or-set_other old block (die * width + k) its no_block apart))

  was : (die k : ℕ) → (below : die < s.dies) → k < width →
      get_or (get_or ranks die []) k 0 ≡ rank_of (get_or old (die * width + k) no_block).state
  was die k below low =
      (are.each die below).each k (let n = die_size s old count die below in omega arith)
      ∙ ap (λ b. rank_of b.state) (block_in_die s old count die below k low)

  rank_kept : get_or (get_or ranks home []) spot 0 ≡ rank_of (get_or old block no_block).state
  rank_kept = was home spot place.2 place.1 ∙ ap (λ n. rank_of (get_or old n no_block).state) place.0

  same_home : (die k : ℕ) → k < width → die * width + k ≡ block → (die ≡ home) × (k ≡ spot)
  same_home die k low e = (
    sym (div-mul-add die width k low) ∙ ap (λ n. n / width) e,
    sym (mod-mul-add die width k low)
        ∙ ap (λ n. n % width) e,
  )

  by_place : (die k : ℕ) (below : die < s.dies) (low : k < width) →
      get_or (get_or ranks' die []) k 0 ≡ rank_of (get_or now (die * width + k) no_block).state
  by_place die k below low = elim (cases_eq (die * width + k) block) [
    | inl e ↦ (
        let (d, p) = same_home die k low e in
        let in_ranks : home < length ranks = let n = are.dies in omega (arith, place.2) in
        rw (
          d,
          p,
          get_or-set_same ranks home here [] in_ranks,
          get_or-set_same (get_or ranks home []) spot (rank_of its.state) 0 spot_lies,
          place.0,
          get_or-set_same old block its no_block (omega arith),
        ) refl)
    | inr apart ↦ elim (cases_eq die home) [
      | inl d ↦ (
          let in_ranks : home < length ranks = let n = are.dies in omega (arith, place.2) in
          let k_apart : k ≢ spot = λ e. apart (ap₂ (λ a b. a * width + b) d e ∙ place.0) in
          ap (λ n. get_or (get_or ranks' n []) k 0) d
          ∙ ap (λ xs. get_or xs k 0) (get_or-set_same ranks home here [] in_ranks)
          ∙ get_or-set_other (get_or ranks home []) spot k (rank_of its.state) 0 k_apart
          ∙ ap (λ n. get_or (get_or ranks n []) k 0) (sym d)
          ∙ was die k below low ∙ other die k below low apart)
      | inr d ↦ ap (λ xs. get_or xs k 0) (get_or-set_other ranks home die here [] d) ∙ was die k below low
          ∙ other die k below low apart
    ]
  ]

  length_now : (die : ℕ) → die < s.dies → length (get_or ranks' die []) ≡ width
  length_now die below = elim (cases_eq die home) [
    | inl d ↦ (
        let in_ranks : home < length ranks = let n = are.dies in omega (arith, place.2) in
        ap (λ n. length (get_or ranks' n [])) d ∙ ap length (get_or-set_same ranks home here [] in_ranks)
        ∙ length-set (get_or ranks home []) spot (rank_of its.state)
        ∙ (are.each home place.2).size ∙ die_size s old count home place.2)
    | inr d ↦ ap length (get_or-set_other ranks home die here [] d) ∙ (are.each die below).size
        ∙ die_size s old count die below
  ]

  pub ranks_kept : AreRanks s now ranks'
  ranks_kept = record {
    dies = length-set ranks home here ∙ are.dies;
    each = λ die below. record {
      size = length_now die below ∙ sym (die_size s now count_now die below);
      each = λ k low. (
          let fits : k < width = (let n = die_size s now count_now die below in omega arith) in
          by_place die k below fits ∙ ap (λ b. rank_of b.state) (sym (block_in_die s now count_now die below k fits)));
    };
  }

-- the first blocks have their ranks, and the others none so far
abbrev pub AreFirstRanks : ℕ → List BlockUse → List ℕ → Type 0
AreFirstRanks n blocks ranks =
    (length ranks ≡ length blocks) × ((k : ℕ) → k < n → get_or ranks k 0 ≡ rank_of (get_or blocks k no_block).state)
    × ((k : ℕ) → n ≤ k → k < length blocks → get_or ranks k 0 ≡ 0)

pub first_ranks_more : (blocks : List BlockUse) (ranks ranks' : List ℕ) (n rank : ℕ) (block : BlockUse) →
    n < length blocks →
    rank ≡ rank_of (get_or blocks n block).state → ranks' ≡ set ranks n rank → AreFirstRanks n blocks ranks →
    AreFirstRanks (n + 1) blocks ranks'
first_ranks_more blocks ranks ranks' n rank block within is are first =
    let inside : n < length ranks = let l = first.0 in omega arith in (
      ap length are ∙ length-set ranks n rank ∙ first.0,
      λ k low. ap (λ xs. get_or xs k 0) are ∙ elim (cases_eq k n) [
        | inl e ↦ (ap (λ j. get_or (set ranks n rank) j 0) e ∙ get_or-set_same ranks n rank 0 inside
            ∙ is ∙ ap (λ b. rank_of b.state) (get_or_default blocks n block no_block within)
            ∙ ap (λ j. rank_of (get_or blocks j no_block).state) (sym e))
        | inr other ↦ get_or-set_other ranks n k rank 0 other ∙ first.1 k (omega arith)
      ],
      λ k past low. ap (λ xs. get_or xs k 0) are ∙ get_or-set_other ranks n k rank 0 (λ e. omega arith)
          ∙ first.2 k (omega arith) low,
    )

-- also where the next one has rank 0, and so nothing changes
pub first_ranks_none : (blocks : List BlockUse) (ranks : List ℕ) (n : ℕ) (block : BlockUse) → n < length blocks →
    0 ≡ rank_of (get_or blocks n block).state → AreFirstRanks n blocks ranks → AreFirstRanks (n + 1) blocks ranks
first_ranks_none blocks ranks n block within is first =
    let same = ap (set ranks n) (sym (first.2 n (omega arith) within)) ∙ set-get_or ranks n 0 in
    first_ranks_more blocks ranks ranks n 0 block within is (sym same) first

-- the dies so far have their ranks
abbrev pub HaveRanks : ℕ → Shape → List BlockUse → List (List ℕ) → Type 0
HaveRanks n s blocks ranks = (length ranks ≡ n) × ((die : ℕ) → die < n →
    AreRanksOf (blocks_of_die s blocks die) (get_or ranks die []))

pub have_ranks_more : (n : ℕ) (s : Shape) (blocks : List BlockUse) (ranks ranks' : List (List ℕ)) (now : List ℕ) →
    AreRanksOf (blocks_of_die s blocks n) now → ranks' ≡ ranks ++ now ∷ [] → HaveRanks n s blocks ranks →
    HaveRanks (n + 1) s blocks ranks'
have_ranks_more n s blocks ranks ranks' now these are have =
    let l = length_push ranks now in (
      ap length are ∙ l ∙ ap (λ k. k + 1) have.0,
      λ die low. elim (cases_eq die n) [
        | inl e ↦ subst (λ xs. AreRanksOf (blocks_of_die s blocks die) xs)
            (sym (ap (λ xs. get_or xs die []) are ∙ get_or_push ranks now [] die (have.0 ∙ sym e)))
            (subst (λ k. AreRanksOf (blocks_of_die s blocks k) now) (sym e) these)
        | inr other ↦ subst (λ xs. AreRanksOf (blocks_of_die s blocks die) xs)
            (sym (ap (λ xs. get_or xs die []) are ∙ get_or_append_left ranks (now ∷ []) [] die (let h = have.0 in
            omega arith)))
            (have.1 die (omega arith))
      ],
    )

-- the dies have their ranks where a block is replaced and its rank stays
pub same_ranks : (s : Shape) (old : List BlockUse) (ranks : List (List ℕ)) (block : ℕ) (its : BlockUse) → IsShape s →
    block < blocks_of s → length old ≡ blocks_of s → AreRanks s old ranks →
    rank_of its.state ≡ rank_of (get_or old block no_block).state →
    AreRanks s (set old block its) ranks
same_ranks s old ranks block its shape within count are same =
    let die = block / s.blocks_per_die in
    let at = block % s.blocks_per_die in
    let rank = same ∙ sym (rank_kept s old ranks block its shape within count are) in
    subst (AreRanks s (set old block its)) (ap (λ n. set ranks die (set (get_or ranks die []) at n)) rank
    ∙ ap (set ranks die) (set-get_or (get_or ranks die []) at 0) ∙ set-get_or ranks die [])
    (ranks_kept s old ranks block its shape within count are)

pub kept_ranks : (s : Shape) (old : List BlockUse) (ranks ranks' : List (List ℕ)) (block : ℕ) (its : BlockUse)
    (rank : ℕ) → IsShape s →
    block < blocks_of s → length old ≡ blocks_of s → AreRanks s old ranks → rank ≡ rank_of its.state →
    ranks' ≡ set ranks (block / s.blocks_per_die) (set (get_or ranks (block / s.blocks_per_die) [])
    (block % s.blocks_per_die) rank) →
    AreRanks s (set old block its) ranks'
kept_ranks s old ranks ranks' block its rank shape within count are is_rank is =
    subst (AreRanks s (set old block its)) (sym (is ∙ ap (λ n. set ranks (block / s.blocks_per_die)
    (set (get_or ranks (block / s.blocks_per_die) []) (block % s.blocks_per_die) n)) is_rank))
    (ranks_kept s old ranks block its shape within count are)

-- what is left of a block's number behind those of the dies before is its place
pub rest_is : (block size : ℕ) → block - block / size * size ≡ block % size
rest_is block size = let whole = div-add-mod' block size in omega (arith, whole)

-- what was read of the ranks of a die is so of them
pub of_die : (P : List ℕ → Type 0) (s : Shape) (blocks : List BlockUse) (ranks : List (List ℕ)) (read : List ℕ)
    (die : ℕ) → AreRanks s blocks ranks →
    die < s.dies →
    read ≡ get_or ranks die read → P read → P (get_or ranks die [])
of_die P s blocks ranks read die are below is holds =
    subst P (is ∙ get_or_default ranks die read [] (let n = are.dies in omega arith)) holds

-- the place of a block in its die, and in the table
pub place_in_die : (t : BlocksState) (ranks : List (List ℕ)) (die at : ℕ) → IsBlocksState t →
    AreRanks t.shape t.blocks ranks → die < t.shape.dies →
    IsFirstGreatest (get_or ranks die []) at → (at < t.shape.blocks_per_die)
    × (die * t.shape.blocks_per_die + at < blocks_of t.shape)
place_in_die t ranks die at table are below first =
    let place = place_fits t table ranks are die below at first in
    (place, let lies = die_lies t table die below in let n = table.count in omega arith)

-- a flash has at most as many blocks as slots
pub few_blocks : (s : Shape) → IsShape s → blocks_of s ≤ 65536
few_blocks s shape =
    let wide : 1 * blocks_of s ≤ s.pages_per_block * blocks_of s =
    mul-le-mul_right (blocks_of s) (omega (arith, shape.pages_least)) in
    omega (arith, shape.slots_most, wide)
