-- The blocks that hold records which must go, by the tables.
use Rattle.version_index.proofs.Common.{◌≡◌, ℕ, ◌*◌, ◌/◌, ◌<◌, ◌↔◌, Bool, true, false, eqb, ◌&&◌, List, [], ◌∷◌, map, ap₂, refl, sym, ap, ◌∙◌, subst, inl, inr, arith, eq-eqb, eqb-true, range_with_len, false≢true, cases_Bool, Contains-nil, Contains-cases, Contains-first, pairs_head, Block, Config, Protocol, Scc, Bpcc, shape_of, blocks_of, slots_of, Found, TablesState, IsTablesState, use_at, AreGathered, found_in, Goes, AreRising, notes_in, noted_by, AreIndexed}
use Rattle.std.specs.List.{AllPairs, Contains, filter}
use Rattle.std.proofs.lemmas.Nat.{div_below}
use Rattle.list_lemmas.proofs.Membership.{in_map, map_in, Contains-rest, in_filter, from_filter}
use Rattle.list_lemmas.proofs.Pairs.{pairs_to, pairs_tail}
use Rattle.list_lemmas.proofs.Ranges.{in_range}
use Rattle.list_lemmas.proofs.Tests.{any_of, any_from}
use Rattle.record_list.specs.Current.{must_go}
use Rattle.slot_tables.specs.Gathered.{block_at, copies_of_all}
use Rattle.slot_tables.proofs.OfBaseTables.Copying.{copies_have, filter_rises}
use Rattle.slot_tables.proofs.OfSlots.GatheredSlots.{in_all, from_all}
use Rattle.judged_records.specs.IndexState.{is_going, going_blocks}
use Rattle.judged_records.specs.Derived.{goes_of}
use Rattle.judged_records.proofs.OfNotes.FoundIn.{found, noted_in, noted_from, holds_within}
use Rattle.version_index.specs.Going.{BlockMustGo}
use Rattle.version_index.proofs.OfGoing.KeptGoing.{use_within, number_goes, goes_number}
use Rattle.version_index.proofs.OfReadings.KeptHomes.{holds_use, use_holds}
use Rattle.version_index.proofs.OfTables.KeptNotes.{note_held, held_number}

-- rising lists of the same numbers are the same
pub rising_same : (xs ys : List ℕ) → AllPairs (λ x y. x < y) xs → AllPairs (λ x y. x < y) ys
    → ((x : ℕ) → Contains xs x ↔ Contains ys x) → xs ≡ ys
rising_same [] [] a b same = refl
rising_same [] (y ∷ ys) a b same = absurd (Contains-nil y ((same y).1 (Contains-first y ys)))
rising_same (x ∷ xs) [] a b same = absurd (Contains-nil x ((same x).0 (Contains-first x xs)))
rising_same (x ∷ xs) (y ∷ ys) a b same = ap₂ (λ u us. u ∷ us) head
    (rising_same xs ys (pairs_tail (λ u v. u < v) x xs a) (pairs_tail (λ u v. u < v) y ys b) rest)
  where
    head : x ≡ y
    head = elim (Contains-cases y ys x ((same x).0 (Contains-first x xs))) [
      | inl is ↦ sym is
      | inr later ↦ elim (Contains-cases x xs y ((same y).1 (Contains-first y ys))) [
        | inl is ↦ is
        | inr other ↦ (
            let low = pairs_head (λ u v. u < v) y ys x b later in
            let high = pairs_head (λ u v. u < v) x xs y a other in
            absurd (omega arith))
      ]
    ]

    rest : (z : ℕ) → Contains xs z ↔ Contains ys z
    rest z = (
      λ has. elim (Contains-cases y ys z ((same z).0 (Contains-rest x xs z has))) [
        | inl is ↦ (let low = pairs_head (λ u v. u < v) x xs z a has in let one = head in absurd (omega arith))
        | inr later ↦ later
      ],
      λ has. elim (Contains-cases x xs z ((same z).1 (Contains-rest y ys z has))) [
        | inl is ↦ (let low = pairs_head (λ u v. u < v) y ys z b has in let one = head in absurd (omega arith))
        | inr later ↦ later
      ],
    )

both_true : (a b : Bool) → a && b ≡ true → (a ≡ true) × (b ≡ true)
both_true true b e = (refl, e)
both_true false b e = absurd (false≢true e)

-- a number of a block that was gathered has a slot that goes there
pub gathered_goes : (k : TablesState) (page below : ℕ) (blocks : List Block) → AreGathered k (Goes k page below) blocks
    → (b : ℕ) → Contains (map (λ c. c.0) blocks) b ↔ BlockMustGo k page below b
gathered_goes k page below blocks g b = (
  λ has. (
      let one = in_map (λ (c : Block). c.0) blocks b has in
      let two = in_map (block_at k.shape.pages_per_block) (copies_of_all k g.numbers) one.0
      (subst (λ bs. Contains bs one.0) g.are one.1) in
      let f = from_all k g.numbers two.0 two.1 in
      record {
        at = two.0;
        inside = ap (λ (c : Block). c.0) two.2 ∙ one.2;
        goes = (
          f.0,
          holds_use f.0 (use_at k.slots two.0) ((copies_have k.slots f.0 two.0).0 f.2).1,
          (g.such f.0).0 f.1,
        );
      }),
  λ (h : BlockMustGo k page below b). (
      let x = h.goes.0 in
      let own = (copies_have k.slots x h.at).1 (
        use_within k h.at x h.goes.1,
        use_holds x (use_at k.slots h.at) h.goes.1,
      ) in
      let gathered = in_all k g.numbers x h.at ((g.such x).1 h.goes.2) own in
      let c = block_at k.shape.pages_per_block h.at in
      subst (Contains (map (λ (c : Block). c.0) blocks)) h.inside
      (map_in (λ (c : Block). c.0) blocks c (subst (λ bs. Contains bs c) (sym g.are)
      (map_in (block_at k.shape.pages_per_block) (copies_of_all k g.numbers) h.at gathered)))),
)

module _ (protocol : Protocol) (its : Config) (m : List ℕ) (k : TablesState) (i : AreIndexed protocol its m k)
    (kept' : IsTablesState k)
    (scc : its.protocol ≡ Scc) (page below : ℕ) where
  abbrev test : ℕ → Found → Bool
  test block f = eqb (f.slot.0 / its.pages_per_block) block && must_go its.protocol (found_in (notes_in k)) its.logical
      page below f.rec

  pub block_going : (block : ℕ) → BlockMustGo k page below block → is_going (noted_by its m k) page below block ≡ true
  unfolding goes_of
  block_going block h =
      let x = h.goes.0 in
      let r = i.held.held h.at x h.goes.1 in
      let here = note_held k h.at x r.0 h.goes.1 r.1 in
      let inside = subst (λ s. h.at / s.pages_per_block ≡ block) i.shape h.inside in
      any_from (test block) (found_in (notes_in k)) (found h.at r.0)
      (noted_in (notes_in k) h.at r.0 (holds_within (notes_in k) h.at r.0 here) here)
      (ap₂ (λ a b. a && b) (eq-eqb (h.at / its.pages_per_block) block inside)
      (number_goes protocol its m k i kept' scc page below x r.0 r.1 h.goes.2))

  pub going_block : (block : ℕ) → is_going (noted_by its m k) page below block ≡ true → BlockMustGo k page below block
  unfolding goes_of
  going_block block e =
      let some = any_of (test block) (found_in (notes_in k)) e in
      let f = some.0 in
      let both = both_true (eqb (f.slot.0 / its.pages_per_block) block) _ some.2 in
      let noted = noted_from (notes_in k) f some.1 in
      let x = held_number k f.slot.0 f.rec noted.1 in
      record {
        at = f.slot.0;
        inside = subst (λ s. f.slot.0 / s.pages_per_block ≡ block) (sym i.shape)
            (eqb-true (f.slot.0 / its.pages_per_block) block both.0);
        goes = (x.number, x.holds, goes_number protocol its m k i kept' scc page below x.number f.rec x.is both.1);
      }

  pub read_going_block : (block : ℕ) (result : Bool) → (result ≡ true) ↔ BlockMustGo k page below block
      → result ≡ is_going (noted_by its m k) page below block
  read_going_block block true both = sym (block_going block (both.0 refl))
  read_going_block block false both = elim (cases_Bool (is_going (noted_by its m k) page below block)) [
    | inl goes ↦ absurd (false≢true (both.1 (going_block block goes)))
    | inr stays ↦ sym stays
  ]

  pub going_are : (blocks gathered : List Block) → AreGathered k (Goes k page below) gathered → AreRising blocks
      → ((c : Block) → Contains blocks c ↔ Contains gathered c) →
      map (λ c. c.0) blocks ≡ going_blocks (noted_by its m k) page below
  unfolding going_blocks
  going_are blocks gathered g rising same =
      let n = noted_by its m k in
      let goes = gathered_goes k page below gathered g in
      rising_same (map (λ (c : Block). c.0) blocks)
      (filter (is_going n page below) (range_with_len 0 (blocks_of (shape_of its))))
      (pairs_to (λ (c : Block). c.0) (λ x y. x < y) blocks rising)
      (filter_rises (is_going n page below) 0 (blocks_of (shape_of its)))
      (λ b. (
        λ has. (
            let one = in_map (λ (c : Block). c.0) blocks b has in
            let h = (goes b).0 (subst (Contains (map (λ (c : Block). c.0) gathered)) one.2
            (map_in (λ (c : Block). c.0) gathered one.0 ((same one.0).0 one.1))) in
            let within = use_within k h.at h.goes.0 h.goes.1 in
            let least = kept'.shape.pages_least in
            let slots : h.at < slots_of k.shape = subst (λ c. h.at < c) kept'.slots within in
            let inside : h.at < blocks_of k.shape * k.shape.pages_per_block = omega arith in
            let exists = div_below h.at k.shape.pages_per_block (blocks_of k.shape) (omega arith) inside in
            let low : b < blocks_of (shape_of its) = subst (λ s. b < blocks_of s) i.shape
            (subst (λ c. c < blocks_of k.shape) h.inside exists) in
            in_filter (is_going n page below) b (range_with_len 0 (blocks_of (shape_of its)))
            (in_range 0 (blocks_of (shape_of its)) b (omega arith) (omega arith))
            (block_going b h)),
        λ has. (
            let f = from_filter (is_going n page below) b (range_with_len 0 (blocks_of (shape_of its))) has in
            let one = in_map (λ (c : Block). c.0) gathered b ((goes b).1 (going_block b f.1)) in
            subst (Contains (map (λ (c : Block). c.0) blocks)) one.2
            (map_in (λ (c : Block). c.0) blocks one.0 ((same one.0).1 one.1))),
      ))

-- and under Back Pointer Cyclic Commit there are none
none_left : (p : ℕ → Bool) (a n : ℕ) → ((x : ℕ) → p x ≡ false) → filter p (range_with_len a n) ≡ []
none_left p a n h = go (range_with_len a n)
  where
    go : (xs : List ℕ) → filter p xs ≡ []
    go [] = refl
    go (x ∷ xs) = rw (h x) (go xs)

module _ (its : Config) (m : List ℕ) (k : TablesState) (page below : ℕ) (bpcc : its.protocol ≡ Bpcc) where
  pub none_going : (block : ℕ) → is_going (noted_by its m k) page below block ≡ false
  none_going block = elim (cases_Bool (is_going (noted_by its m k) page below block)) [
    | inl goes ↦ (
        let l = found_in (notes_in k) in
        let some = any_of (λ (f : Found). eqb (f.slot.0 / its.pages_per_block) block
        && must_go its.protocol l its.logical page below f.rec) l goes in
        let both = both_true (eqb (some.0.slot.0 / its.pages_per_block) block) _ some.2 in
        absurd (false≢true (sym (ap (λ p. must_go p l its.logical page below some.0.rec) bpcc) ∙ both.1)))
    | inr stays ↦ stays
  ]

  pub none_blocks : going_blocks (noted_by its m k) page below ≡ []
  unfolding going_blocks
  none_blocks = none_left (is_going (noted_by its m k) page below) 0 (blocks_of (shape_of its)) none_going
