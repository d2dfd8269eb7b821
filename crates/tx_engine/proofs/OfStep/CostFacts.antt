-- How many programs and erases the write of a page takes, by those of its parts.
use Rattle.tx_engine.proofs.Common.{◌≡◌, ℕ, ◌+◌, ◌-◌, ◌*◌, ◌/◌, ◌<◌, ◌≤◌, ◌==◌, Bool, true, false, cond, ◌&&◌, length, get_or, Option, Some, None, refl, sym, ap, ◌∙◌, subst, arith, eq-eqb, range_with_len, option_map, cond-true, and_from, both_ways, shape_of, blocks_of, Config, Link, FlashState, Moment, moment_of, Found, must_go, found_in, IndexState, IsNoted, block_to_go, blocks_to_go, StepCosts, OpenTransactionsState, DeviceState, StoreState, device_in}
use Rattle.std.proofs.lemmas.List.Sums.{get_or-le-sum_by}
use Rattle.std.proofs.lemmas.List.FromFn.{length-range_with_len, get_or-range_with_len}
use Rattle.std.proofs.lemmas.Nat.{div_below}
use Rattle.list_lemmas.proofs.Tests.{any_from}
use Rattle.record_list.specs.Written.{first_slot}
use Rattle.judged_records.proofs.OfNotes.FoundIn.{noted_from}
use Rattle.judged_records.proofs.OfNotes.HomeFacts.{first_stands}
use Rattle.die_alloc.specs.BlocksState.{IsFull}
use Rattle.collector.specs.Going.{CostsAtMost, is_going}

-- a record that must go has a block
going_block : (n : IndexState) (page below : ℕ) (slot : ℕ) → IsNoted n.config.protocol n →
    first_slot (λ f. must_go n.config.protocol (found_in n.notes) n.config.logical page below f.rec) (found_in n.notes)
    ≡ Some slot →
    blocks_to_go n page below ≡ 0 → ⊥
unfolding blocks_to_go
going_block n page below slot is found none =
    let test = λ (f : Found). must_go n.config.protocol (found_in n.notes) n.config.logical page below f.rec in
    let at = first_stands test (found_in n.notes) slot found in
    let f = at.found in
    let noted = noted_from n.notes f at.is_in in
    let block = f.slot.0 / n.config.pages_per_block in
    let blocks = blocks_of (shape_of n.config) in
    let some : 0 < n.config.pages_per_block = (let b = is.bounds.shape.pages_least in omega arith) in
    let below_all : block < blocks = div_below f.slot.0 n.config.pages_per_block blocks some
    (omega (arith, noted.0, is.slots)) in
    let going : is_going n page below block ≡ true =
    any_from (λ (g : Found). (g.slot.0 / n.config.pages_per_block == block)
    && must_go n.config.protocol (found_in n.notes) n.config.logical page below g.rec)
    (found_in n.notes) f at.is_in
    (and_from (block == block) (test f) (eq-eqb block block refl) at.passes) in
    let count = λ (x : ℕ). cond (is_going n page below x) 1 0 in
    let long : length (range_with_len 0 blocks) ≡ blocks = length-range_with_len 0 blocks in
    let inside : block < length (range_with_len 0 blocks) = omega arith in
    let one = get_or-le-sum_by count (range_with_len 0 blocks) block 0 inside in
    let there : get_or (range_with_len 0 blocks) block 0 ≡ block = get_or-range_with_len 0 blocks block 0 below_all
    ∙ omega arith in
    let its : count (get_or (range_with_len 0 blocks) block 0) ≡ 1 = ap count there
    ∙ cond-true (is_going n page below block) 1 0 going in
    absurd (omega (arith, one, its, none))

-- where no block is to go none is found
pub none_to_go : (n : IndexState) (page below : ℕ) → IsNoted n.config.protocol n → blocks_to_go n page below ≡ 0 →
    block_to_go n page below ≡ None
unfolding block_to_go
none_to_go n page below is none =
    go (first_slot (λ f. must_go n.config.protocol (found_in n.notes) n.config.logical page below f.rec)
    (found_in n.notes)) refl
  where
    go : (o : Option ℕ) → first_slot (λ f. must_go n.config.protocol (found_in n.notes) n.config.logical page below
        f.rec) (found_in n.notes) ≡ o →
        option_map (λ slot. slot / n.config.pages_per_block)
        (first_slot (λ f. must_go n.config.protocol (found_in n.notes) n.config.logical page below f.rec)
        (found_in n.notes)) ≡ None
    go None h = ap (option_map (λ slot. slot / n.config.pages_per_block)) h
    go (Some slot) h = absurd (going_block n page below slot is h none)

some_more : (a b q : ℕ) → a + b * q ≤ a + (b + 1) * q + 1
some_more a b q = omega arith

one_more : (a b q x y : ℕ) → x ≤ a + b * q → y ≤ x + 1 * q → y + 1 ≤ a + (b + 1) * q + 1
one_more a b q x y h k = omega (arith, h, k)

module _ {F : Type 0} (state : F → FlashState) (S S1 S2 S3 : StoreState F) (O O' : OpenTransactionsState) (name : Link)
    (noted : IsNoted S.noted.config.protocol S.noted) where
  abbrev b : ℕ
  b = blocks_to_go S.noted name.page name.version

  abbrev pages : ℕ
  pages = S.noted.config.pages_per_block

  -- clearing failed
  pub costs_clear : CostsAtMost pages b (state S.flash) (state S1.flash) → (broken : Bool) → broken ≡ true →
      (block_to_go S.noted name.page name.version ≡ None → (broken ≡ false) × (S1 ≡ S)) →
      StepCosts state (device_in state S O) (device_in state S1 O') name
  costs_clear first broken is idle = record {
    programs = let more = some_more (state S.flash).programs b (pages - 1) in let f = first.programs in omega arith;
    erases = let f = first.erases in omega arith;
    direct = λ none room. absurd (both_ways broken (idle (none_to_go S.noted name.page name.version noted none)).0 is);
  }

  module _ (first : CostsAtMost pages b (state S.flash) (state S1.flash))
      (second : CostsAtMost S1.noted.config.pages_per_block 1 (state S1.flash) (state S2.flash))
      (config : S1.noted.config ≡ S.noted.config) where
    both : CostsAtMost pages 1 (state S1.flash) (state S2.flash)
    both = subst (λ (c : _). CostsAtMost c.pages_per_block 1 (state S1.flash) (state S2.flash)) config second

    -- no slot was found
    pub costs_slot : (broken : Bool) → broken ≡ true → (block_to_go S.noted name.page name.version ≡ None → S1 ≡ S) →
        ((IsFull S1.table → ⊥) → (broken ≡ false) × (S2.flash ≡ S1.flash)) →
        StepCosts state (device_in state S O) (device_in state S2 O') name
    costs_slot broken is idle direct = record {
      programs = let more = one_more (state S.flash).programs b (pages - 1) (state S1.flash).programs
          (state S2.flash).programs first.programs both.programs in
          omega arith;
      erases = let f = first.erases in let g = both.erases in omega arith;
      direct = λ none room.
          let same = idle (none_to_go S.noted name.page name.version noted none) in
          absurd (both_ways broken (direct (λ full. room (subst (λ (T : StoreState F). IsFull T.table) same full))).0
          is);
    }

    -- the record was programmed, or its program was broken
    pub costs_all : (block_to_go S.noted name.page name.version ≡ None → S1 ≡ S) → (broken : Bool) →
        ((IsFull S1.table → ⊥) → (broken ≡ false) × (S2.flash ≡ S1.flash)) →
        (state S3.flash).programs ≤ (state S2.flash).programs + 1 → (state S3.flash).erases ≡ (state S2.flash).erases →
        StepCosts state (device_in state S O) (device_in state S3 O') name
    costs_all idle broken direct programs erases = record {
      programs = let more = one_more (state S.flash).programs b (pages - 1) (state S1.flash).programs
          (state S2.flash).programs first.programs both.programs in
          omega arith;
      erases = let f = first.erases in let g = both.erases in omega arith;
      direct = λ none room.
          let same = idle (none_to_go S.noted name.page name.version noted none) in
          let stays = (direct (λ full. room (subst (λ (T : StoreState F). IsFull T.table) same full))).1 in
          let flash : state S2.flash ≡ state S.flash = ap state (stays ∙ ap (λ (T : StoreState F). T.flash) same) in
          let p = ap (λ (s : FlashState). s.programs) flash in
          let e = ap (λ (s : FlashState). s.erases) flash in
          (omega arith, erases ∙ e);
    }

-- on the same flash
pub costs_flash : {F : Type 0} (state : F → FlashState) (a b c : DeviceState F) (name : Link) → c.flash ≡ b.flash →
    StepCosts state a b name →
    StepCosts state a c name
costs_flash state a b c name same h =
    let flash : state c.flash ≡ state b.flash = ap state same in
    let p = ap (λ (s : FlashState). s.programs) flash in
    let e = ap (λ (s : FlashState). s.erases) flash in
    record {
      programs = let f = h.programs in omega (arith, p);
      erases = let f = h.erases in omega (arith, e);
      direct = λ none room. let d = h.direct none room in (let f = d.0 in omega (arith, p), e ∙ d.1);
    }

-- where nothing was programmed or erased
pub costs_still : {F : Type 0} (state : F → FlashState) (a c : DeviceState F) (name : Link) →
    moment_of (state c.flash) ≡ moment_of (state a.flash) →
    StepCosts state a c name
costs_still state a c name same =
    let p = ap (λ (m : Moment). m.programs) same in
    let e = ap (λ (m : Moment). m.erases) same in
    record {
      programs = omega (arith, p);
      erases = omega (arith, e);
      direct = λ none room. (omega (arith, p), e);
    }

-- from a device with the same tables and the same moment
pub costs_from : {F : Type 0} (state : F → FlashState) (a b c : DeviceState F) (name : Link) →
    moment_of (state b.flash) ≡ moment_of (state a.flash) →
    b.config ≡ a.config →
    b.noted ≡ a.noted → b.table ≡ a.table → StepCosts state b c name → StepCosts state a c name
costs_from state a b c name moment config noted table h =
    let p = ap (λ (m : Moment). m.programs) moment in
    let e = ap (λ (m : Moment). m.erases) moment in
    record {
      programs = subst (λ (n : IndexState).
          (state c.flash).programs ≤ (state a.flash).programs + (blocks_to_go n name.page name.version + 1)
          * (a.config.pages_per_block - 1) + 1) noted
          (subst (λ (k : Config).
          (state c.flash).programs ≤ (state a.flash).programs + (blocks_to_go b.noted name.page name.version + 1)
          * (k.pages_per_block - 1) + 1) config
          (subst (λ (q : ℕ). (state c.flash).programs ≤ q + (blocks_to_go b.noted name.page name.version + 1)
          * (b.config.pages_per_block - 1) + 1) p
          h.programs));
      erases = subst (λ (n : IndexState). (state c.flash).erases ≤ (state a.flash).erases + 2
          * (blocks_to_go n name.page name.version + 1)) noted
          (subst (λ (q : ℕ). (state c.flash).erases ≤ q + 2 * (blocks_to_go b.noted name.page name.version + 1)) e
          h.erases);
      direct = λ none room.
          let d = h.direct (subst (λ (n : IndexState). blocks_to_go n name.page name.version ≡ 0) (sym noted) none)
          (λ full. room (subst IsFull table full)) in
          (subst (λ (q : ℕ). (state c.flash).programs ≤ q + 1) p d.0, d.1 ∙ e);
    }
