-- A round of clearing: the evicted block holds no record any more that must go, and no other does that did not.
use Rattle.collector.proofs.Common.{◌≡◌, ◌≢◌, ℕ, ◌*◌, ◌/◌, ◌<◌, true, false, ◌&&◌, eqb, eqb-true, eq-eqb, List, count_by, None, refl, sym, ap, ◌∙◌, subst, arith, Contains, range_with_len, and_parts, and_from, both_ways, false_from_ne_true, false≢true, All-contains, any_of, in_range, shape_of, blocks_of, Config, Protocol, Scc, Bpcc, Link, Rec, Found, cur, must_go, Pages, PagesExist, found_in, IndexState, IsNoted, current_of, needed_of, erased, block_to_go, inside_block, collected, noted_cleaned, slots_in, HasUnneeded, is_going, blocks_to_go, IsNextName, HasNoNewRecord, Preserves}
use Rattle.std.proofs.Common.{ltb}
use Rattle.list_lemmas.proofs.Tests.{any_from}
use Rattle.list_lemmas.proofs.Counts.{count_less}
use Rattle.record_list.specs.Records.{mentions_below}
use Rattle.judged_records.proofs.OfNotes.Blocks.{other_block}
use Rattle.collector.proofs.OfCollect.Chains.{was_there}
use Rattle.collector.proofs.OfCollect.CollectedNotes.{erased_from, collected_outside, collected_from, in_place, in_copy}
use Rattle.collector.proofs.OfRoom.GoneRecords.{GoesFrom, going_none, none_going, slot_needless}
use Rattle.collector.proofs.OfRoom.NextNames.{next_stays}

-- a record that must go, in a block
pub record GoesIn (n : IndexState) (page below block : ℕ) (f : Found) : Type 0 where
  pub is_in : Contains (found_in n.notes) f
  pub slot : f.slot.0 / n.config.pages_per_block ≡ block
  pub goes : must_go n.config.protocol (found_in n.notes) n.config.logical page below f.rec ≡ true

pub going_at : (n : IndexState) (page below block : ℕ) → is_going n page below block ≡ true →
    (f : Found) × GoesIn n page below block f
going_at n page below block h =
    let any = any_of (λ f. eqb (f.slot.0 / n.config.pages_per_block) block
    && must_go n.config.protocol (found_in n.notes) n.config.logical page below f.rec)
    (found_in n.notes) h in
    let parts = and_parts (eqb (any.0.slot.0 / n.config.pages_per_block) block)
    (must_go n.config.protocol (found_in n.notes) n.config.logical page below any.0.rec) any.2 in (
      any.0,
      record {
        is_in = any.1;
        slot = eqb-true (any.0.slot.0 / n.config.pages_per_block) block parts.0;
        goes = parts.1;
      },
    )

pub at_going : (n : IndexState) (page below block : ℕ) (f : Found) → GoesIn n page below block f →
    is_going n page below block ≡ true
at_going n page below block f g =
    any_from (λ f. eqb (f.slot.0 / n.config.pages_per_block) block && must_go n.config.protocol (found_in n.notes)
    n.config.logical page below f.rec)
    (found_in n.notes) f g.is_in
    (and_from (eqb (f.slot.0 / n.config.pages_per_block) block)
    (must_go n.config.protocol (found_in n.notes) n.config.logical page below f.rec)
    (eq-eqb (f.slot.0 / n.config.pages_per_block) block g.slot) g.goes)

-- each record that must go afterwards stood there before, and none is left of a block
pub record Leaves (n m : IndexState) (page below block : ℕ) : Type 0 where
  pub still : (b : ℕ) (f : Found) → GoesIn m page below b f → GoesIn n page below b f × (b ≢ block)

-- no block holds one that did not, and this one holds none
pub still_going : (n m : IndexState) (page below block : ℕ) → Leaves n m page below block → (b : ℕ) →
    is_going m page below b ≡ true →
    (is_going n page below b ≡ true) × (b ≢ block)
still_going n m page below block left b there =
    let g = going_at m page below b there in
    let old = left.still b g.0 g.1 in (at_going n page below b g.0 old.0, old.1)

-- so there are fewer such blocks where it held one
pub fewer_going : (n m : IndexState) (page below block : ℕ) → m.config ≡ n.config →
    block < blocks_of (shape_of n.config) → is_going n page below block ≡ true →
    Leaves n m page below block → blocks_to_go m page below < blocks_to_go n page below
unfolding blocks_to_go
fewer_going n m page below block config within now left =
    let less = count_less (is_going n page below) (is_going m page below) 0 (blocks_of (shape_of n.config)) block
    (λ k low high there. (still_going n m page below block left k there).0) (omega arith) (omega arith) now
    (false_from_ne_true (is_going m page below block)
    (λ there. (still_going n m page below block left block there).1 refl)) in
    subst (λ (c : Config). count_by (is_going m page below) (range_with_len 0 (blocks_of (shape_of c))) < count_by
    (is_going n page below)
    (range_with_len 0 (blocks_of (shape_of n.config))))
    (sym config) less

-- whether a record must go hangs on the current version of its page alone
go_same : (p : Protocol) (l m : List Found) (logical page below : ℕ) (r : Rec) →
    cur p m logical r.page ≡ cur p l logical r.page →
    must_go p m logical page below r ≡ must_go p l logical page below r
go_same Scc l m logical page below r same = ap (λ v. ltb v r.version && mentions_below page below r) same
go_same Bpcc l m logical page below r same = refl

pub goes_same : (n m : IndexState) → Preserves n m → (page below : ℕ) (r : Rec) → r.page < n.config.logical →
    must_go m.config.protocol (found_in m.notes) m.config.logical page below r
    ≡ must_go n.config.protocol (found_in n.notes) n.config.logical page below r
unfolding current_of
goes_same n m kept page below r within =
    ap (λ (c : Config). must_go c.protocol (found_in m.notes) c.logical page below r) kept.config
    ∙ go_same n.config.protocol (found_in n.notes) (found_in m.notes) n.config.logical page below r
    (ap (λ (c : Config). cur c.protocol (found_in m.notes) c.logical r.page) (sym kept.config)
    ∙ kept.current r.page within)

-- what need not go before a program need not go afterwards
pub clear_stays : (n m : IndexState) → IsNoted n.config.protocol n → Preserves n m → HasNoNewRecord n m →
    (page below : ℕ) → block_to_go n page below ≡ None →
    block_to_go m page below ≡ None
clear_stays n m noted kept fewer page below none = none_going m page below (λ f i.
    let w = was_there n m fewer f i in
    let page_low = (All-contains (PagesExist n.config.logical) (found_in n.notes) w.was
    (noted.sound Pages) w.is_in).0 in
    goes_same n m kept page below f.rec (subst (λ (r : Rec). r.page < n.config.logical) w.same page_low)
    ∙ ap (must_go n.config.protocol (found_in n.notes) n.config.logical page below) (sym w.same)
    ∙ going_none n page below none w.was w.is_in)

-- a slot of a block is one of its slots
pub in_slots : (n : IndexState) (block slot : ℕ) → 0 < n.config.pages_per_block →
    slot / n.config.pages_per_block ≡ block → Contains (slots_in n block) slot
in_slots n block slot some here =
    let inside = inside_block n.config.pages_per_block block slot some here in
    in_range (block * n.config.pages_per_block) n.config.pages_per_block slot inside.0 inside.1

pub has_unneeded : (n : IndexState) (block slot : ℕ) → Contains (slots_in n block) slot → needed_of n slot ≡ false →
    HasUnneeded n block
has_unneeded n block slot i off = (i.0, slot, i.1, i.2, off)

module _ (n : IndexState) (noted : IsNoted n.config.protocol n) (page below : ℕ) (names : List Link)
    (next : IsNextName n names (record { page = page; version = below })) (block : ℕ) where
  some : 0 < n.config.pages_per_block
  some = (let b = noted.bounds.shape.pages_least in omega arith)

  -- the block of a record that must go has a slot that is not needed
  pub goes_unneeded : GoesFrom n page below block → HasUnneeded n block
  goes_unneeded g =
      has_unneeded n block g.found.slot.0 (in_slots n block g.found.slot.0 some g.slot)
      (slot_needless n names (record { page = page; version = below }) next g.found g.is_in g.goes)

  page_of : (f : Found) → Contains (found_in n.notes) f → f.rec.page < n.config.logical
  page_of f i = (All-contains (PagesExist n.config.logical) (found_in n.notes) f (noted.sound Pages) i).0

  pub erased_left : block < blocks_of (shape_of n.config) → Preserves n (erased n block) →
      Leaves n (erased n block) page below block
  erased_left within kept = record {
    still = λ b f g.
        let was = erased_from n some noted.slots block within f g.is_in in (
          record {
            is_in = was.0;
            slot = g.slot;
            goes = sym (goes_same n (erased n block) kept page below f.rec (page_of f was.0)) ∙ g.goes;
          },
          λ same. other_block (f.slot.0 / n.config.pages_per_block) block
              (eqb (f.slot.0 / n.config.pages_per_block) block) refl was.1 (g.slot ∙ same),
        );
  }

  module _ (spare : ℕ) (spare_below : spare < blocks_of (shape_of n.config))
      (within : block < blocks_of (shape_of n.config))
      (clean : Preserves n (noted_cleaned n spare)) (done : Preserves n (collected n spare block)) where
    pub collected_left : Leaves n (collected n spare block) page below block
    collected_left = record {
      still = λ b f g.
          let out = collected_outside n some noted.slots spare block spare_below within f g.is_in in
          let slot = subst (λ (c : Config). f.slot.0 / c.pages_per_block ≡ b) done.config g.slot in (
            elim (collected_from n some noted.slots spare block spare_below within f g.is_in) [
              | in_place was away ↦ record {
                is_in = was;
                slot = slot;
                goes = sym (goes_same n (collected n spare block) done page below f.rec (page_of f was))
                    ∙ g.goes;
              }
              | in_copy from was needed ↦ (
                  let before = (erased_from n some noted.slots spare spare_below _ was).0 in
                  let low = page_of _ before in
                  let goes = goes_same n (noted_cleaned n spare) clean page below f.rec low
                  ∙ sym (goes_same n (collected n spare block) done page below f.rec low) ∙ g.goes in
                  absurd (both_ways (needed_of (noted_cleaned n spare) from)
                  (slot_needless (noted_cleaned n spare) names (record { page = page; version = below })
                  (next_stays n (noted_cleaned n spare) names (record { page = page; version = below }) noted.pages
                  clean next) _ was goes) needed))
            ],
            λ same. other_block (f.slot.0 / n.config.pages_per_block) block
                (eqb (f.slot.0 / n.config.pages_per_block) block) refl out (slot ∙ same),
          );
    }

-- a block that holds one is counted
pub some_going : (n : IndexState) (page below block : ℕ) → block < blocks_of (shape_of n.config) →
    is_going n page below block ≡ true → 0 < blocks_to_go n page below
unfolding blocks_to_go
some_going n page below block within now =
    let less = count_less (is_going n page below) (λ k. false) 0 (blocks_of (shape_of n.config)) block
    (λ k low high h. absurd (false≢true h)) (omega arith)
    (omega arith) now refl in
    omega (arith, less)
