-- The blocks that hold a record which must go, evicted in their order: which is the next, and which are left.
use Rattle.collector.proofs.Common.{◌≡◌, ◌≢◌, ℕ, ◌+◌, ◌/◌, ◌<◌, ◌≤◌, Bool, true, false, List, [], ◌∷◌, length, map, get_or, find, Option, Some, None, AllPairs, Contains, refl, sym, ap, ◌∙◌, subst, inl, inr, arith, range_with_len, option_map, mul_comm, cases_Bool, cases_eq, cond-true, cond-false, both_ways, false≢true, false_from_ne_true, length-map, get_or-map, none-some, same_Some, Contains-nil, Contains-cases, in_filter, from_filter, in_range, shape_of, blocks_of, Block, Config, Found, must_go, first_slot, found_in, IndexState, IsNoted, block_to_go, noted_from}
use Rattle.std.specs.List.{filter}
use Rattle.std.proofs.Math.Nat.{div-mul-le_self}
use Rattle.std.proofs.lemmas.List.Elements.{Contains-get_or}
use Rattle.std.proofs.lemmas.Nat.{div_below, le-div}
use Rattle.std.proofs.lemmas.List.{get_or_default}
use Rattle.list_lemmas.proofs.Pairs.{pairs_head, pairs_tail}
use Rattle.list_lemmas.proofs.Ranges.{range_bounds}
use Rattle.slot_tables.proofs.OfBaseTables.Copying.{filter_rises}
use Rattle.judged_records.specs.IndexState.{is_going, going_blocks}
use Rattle.judged_records.proofs.OfNotes.FoundIn.{found_in_ascending}
use Rattle.collector.proofs.OfRoom.GoingCounts.{going_at, at_going}
use Rattle.collector.proofs.OfRoom.GoneRecords.{going_none, going_some, none_going}

-- in the order of slots the first that passes is not above another one
first_low : (test : Found → Bool) (l : List Found) (f : Found) (at : ℕ) → AllPairs (λ g h. g.slot.0 < h.slot.0) l →
    Contains l f → test f ≡ true →
    first_slot test l ≡ Some at → at ≤ f.slot.0
first_low test [] f at up i pass e = absurd (Contains-nil f i)
first_low test (x ∷ xs) f at up i pass e = elim (cases_Bool (test x)) [
  | inl here ↦ (
      let is = same_Some x.slot.0 at
      (sym (ap (option_map (λ g. g.slot.0)) (cond-true (test x) (Some x) (find test xs) here)) ∙ e) in
      elim (Contains-cases x xs f i) [
        | inl same ↦ omega (arith, is, ap (λ (g : Found). g.slot.0) same)
        | inr later ↦ omega (arith, is, pairs_head (λ g h. g.slot.0 < h.slot.0) x xs f up later)
      ])
  | inr fail ↦ elim (Contains-cases x xs f i) [
    | inl same ↦ absurd (false≢true (sym fail ∙ ap test same ∙ pass))
    | inr later ↦ first_low test xs f at (pairs_tail (λ g h. g.slot.0 < h.slot.0) x xs up) later pass
        (sym (ap (option_map (λ g. g.slot.0)) (cond-false (test x) (Some x) (find test xs) fail)) ∙ e)
  ]
]

quotients_rise : (a b n : ℕ) → 0 < n → a ≤ b → a / n ≤ b / n
quotients_rise a b n some low = le-div (a / n) b n some (omega (arith, div-mul-le_self a n))

module _ (n : IndexState) (page below : ℕ) where
  abbrev goes : Found → Bool
  goes f = must_go n.config.protocol (found_in n.notes) n.config.logical page below f.rec

  -- the block that is found is not above another one
  found_low : (block other : ℕ) → 0 < n.config.pages_per_block → block_to_go n page below ≡ Some block →
      is_going n page below other ≡ true → block ≤ other
  unfolding block_to_go
  found_low block other some e going = by (first_slot goes (found_in n.notes)) refl e
    where
      by : (o : Option ℕ) → first_slot goes (found_in n.notes) ≡ o →
          option_map (λ slot. slot / n.config.pages_per_block) o ≡ Some block → block ≤ other
      by None is h = absurd (none-some block h)
      by (Some at) is h =
          let f = going_at n page below other going in
          let low = first_low goes (found_in n.notes) f.0 at (found_in_ascending n.notes) f.1.is_in f.1.goes is in
          omega (
            arith,
            quotients_rise at f.0.slot.0 n.config.pages_per_block some low,
            same_Some (at / n.config.pages_per_block) block h,
            f.1.slot,
          )

  -- the lowest one is found
  pub lowest_going : (block : ℕ) → 0 < n.config.pages_per_block → is_going n page below block ≡ true →
      ((other : ℕ) → is_going n page below other ≡ true → block ≤ other) →
      block_to_go n page below ≡ Some block
  lowest_going block some going least = by (block_to_go n page below) refl
    where
      by : (o : Option ℕ) → block_to_go n page below ≡ o → o ≡ Some block
      by None is = (
          let f = going_at n page below block going in
          absurd (both_ways (goes f.0) (going_none n page below is f.0 f.1.is_in) f.1.goes))
      by (Some found) is = (
          let g = going_some n page below found is in
          let there = at_going n page below found g.found (record { is_in = g.is_in; slot = g.slot; goes = g.goes }) in
          let same : found ≡ block = omega (arith, least found there, found_low found block some is going) in
          ap (λ b. Some b) same)

  -- and where there is none, none is found
  pub none_goes : ((block : ℕ) → is_going n page below block ≡ true → ⊥) → block_to_go n page below ≡ None
  none_goes none = none_going n page below (λ f i. false_from_ne_true (goes f) (λ go.
      none (f.slot.0 / n.config.pages_per_block)
      (at_going n page below (f.slot.0 / n.config.pages_per_block) f (record { is_in = i; slot = refl; goes = go }))))

-- the block of a record exists
pub slot_exists : (n : IndexState) → IsNoted n.config.protocol n → (f : Found) → Contains (found_in n.notes) f →
    f.slot.0 / n.config.pages_per_block < blocks_of (shape_of n.config)
slot_exists n noted f i =
    let per = n.config.pages_per_block in
    let within = (noted_from n.notes f i).0 in
    let some : 0 < n.config.pages_per_block = (let b = noted.bounds.shape.pages_least in omega arith) in
    div_below f.slot.0 per (blocks_of (shape_of n.config)) some
    (omega (arith, within, noted.slots, mul_comm per (blocks_of (shape_of n.config))))

-- each block that holds a record which must go is among these, which rise, from a place on
pub record AreAhead (n : IndexState) (page below : ℕ) (blocks : List ℕ) (at : ℕ) : Type 0 where
  pub rise : AllPairs (λ x y. x < y) blocks
  pub exist : (k : ℕ) → k < length blocks → get_or blocks k 0 < blocks_of (shape_of n.config)
  pub ahead : (b : ℕ) → is_going n page below b ≡ true → (k : ℕ) × (at ≤ k) × (k < length blocks)
      × (get_or blocks k 0 ≡ b)

pub all_ahead : (n : IndexState) (page below : ℕ) → IsNoted n.config.protocol n → (blocks : List ℕ) →
    blocks ≡ going_blocks n page below →
    AreAhead n page below blocks 0
unfolding going_blocks
all_ahead n page below noted blocks are = subst (λ bs. AreAhead n page below bs 0) (sym are) (record {
  rise = filter_rises (is_going n page below) 0 (blocks_of (shape_of n.config));
  exist = λ k within.
      let range = range_with_len 0 (blocks_of (shape_of n.config)) in
      let own = from_filter (is_going n page below) (get_or (filter (is_going n page below) range) k 0) range
      (Contains-get_or (filter (is_going n page below) range) k 0 within) in
      omega (
        arith,
        (range_bounds 0 (blocks_of (shape_of n.config)) (get_or (filter (is_going n page below) range) k 0)
            own.0).1,
      );
  ahead = λ b going.
      let f = going_at n page below b going in
      let exists = subst (λ x. x < blocks_of (shape_of n.config)) f.1.slot (slot_exists n noted f.0 f.1.is_in) in
      let c = in_filter (is_going n page below) b (range_with_len 0 (blocks_of (shape_of n.config)))
      (in_range 0 (blocks_of (shape_of n.config)) b (omega arith) (omega arith)) going in (
        c.0,
        omega arith,
        c.1,
        sym (get_or_default (filter (is_going n page below) (range_with_len 0 (blocks_of (shape_of n.config)))) c.0 b
            0 c.1) ∙ c.2,
      );
})

module _ (n : IndexState) (page below : ℕ) (blocks : List ℕ) (at : ℕ) (so : AreAhead n page below blocks at) where
  -- none is below the one at that place
  pub ahead_least : (other : ℕ) → is_going n page below other ≡ true → get_or blocks at 0 ≤ other
  ahead_least other going = (let w = so.ahead other going in elim (cases_eq at w.0) [
    | inl here ↦ (let same = ap (λ k. get_or blocks k 0) here in let is = w.3 in omega arith)
    | inr apart ↦ (let later : at < w.0 = (let low = w.1 in omega arith) in let is = w.3 in
        omega (arith, so.rise at w.0 0 later w.2))
  ])

  -- once that one holds none any more, and no other does that did not, the others are ahead
  pub ahead_more : (m : IndexState) → m.config ≡ n.config →
      ((b : ℕ) → is_going m page below b ≡ true → (is_going n page below b ≡ true) × (b ≢ get_or blocks at 0)) →
      AreAhead m page below blocks (at + 1)
  ahead_more m config still = record {
    rise = so.rise;
    exist = subst (λ (c : Config). (k : ℕ) → k < length blocks → get_or blocks k 0 < blocks_of (shape_of c))
        (sym config) so.exist;
    ahead = λ b going. let old = still b going in let w = so.ahead b old.0 in elim (cases_eq at w.0) [
      | inl here ↦ absurd (old.1 (sym w.3 ∙ ap (λ k. get_or blocks k 0) (sym here)))
      | inr apart ↦ (w.0, (let low = w.1 in omega arith), w.2, w.3)
    ];
  }

  -- past the last none is left
  pub none_ahead : length blocks ≤ at → block_to_go n page below ≡ None
  none_ahead end = none_goes n page below (λ b going. let w = so.ahead b going in let low = w.1 in
      let high = w.2 in omega arith)

abbrev pub numbers : List Block → List ℕ
numbers blocks = map (λ (b : Block). b.0) blocks

numbers_read : (blocks : List Block) (at : ℕ) (block : Block) → at < length blocks →
    block ≡ get_or blocks at (record { 0 = 0 }) →
    get_or (numbers blocks) at 0 ≡ block.0
numbers_read blocks at block within is = get_or-map (λ (b : Block). b.0) blocks at (record { 0 = 0 }) 0 within
    ∙ ap (λ (b : Block). b.0) (sym is)

module _ (n : IndexState) (page below : ℕ) (blocks : List Block) (at : ℕ)
    (so : AreAhead n page below (numbers blocks) at) (block : Block)
    (within : at < length blocks)
    (is : block ≡ get_or blocks at (record { 0 = 0 })) where
  own : get_or (numbers blocks) at 0 ≡ block.0
  own = numbers_read blocks at block within is

  pub next_exists : block.0 < blocks_of (shape_of n.config)
  next_exists = subst (λ x. x < blocks_of (shape_of n.config)) own
      (so.exist at (omega (arith, within, length-map blocks (λ (b : Block). b.0))))

  -- the next of the list is the lowest that holds such a record, if it does
  pub next_found : IsNoted n.config.protocol n → is_going n page below block.0 ≡ true →
      block_to_go n page below ≡ Some block.0
  next_found noted going = lowest_going n page below block.0 (let least = noted.bounds.shape.pages_least in
      omega arith) going (λ other goes.
      subst (λ x. x ≤ other) own (ahead_least n page below (numbers blocks) at so other goes))

  -- where it does not it is passed
  pub next_passed : is_going n page below block.0 ≡ false → AreAhead n page below (numbers blocks) (at + 1)
  next_passed idle = ahead_more n page below (numbers blocks) at so n refl (λ b going.
      (going, λ same. both_ways (is_going n page below b) (ap (is_going n page below) (same ∙ own) ∙ idle) going))

  -- and where it did and was evicted too
  pub next_evicted : (m : IndexState) → m.config ≡ n.config →
      ((b : ℕ) → is_going m page below b ≡ true → (is_going n page below b ≡ true) × (b ≢ block.0)) →
      AreAhead m page below (numbers blocks) (at + 1)
  next_evicted m config still = ahead_more n page below (numbers blocks) at so m config (λ b going.
      let old = still b going in (old.0, λ same. old.1 (same ∙ own)))

-- past the last none is left
pub none_next : (n : IndexState) (page below : ℕ) (blocks : List Block) (at : ℕ) →
    AreAhead n page below (numbers blocks) at → length blocks ≤ at →
    block_to_go n page below ≡ None
none_next n page below blocks at so end =
    none_ahead n page below (numbers blocks) at so (omega (arith, length-map blocks (λ (b : Block). b.0)))
