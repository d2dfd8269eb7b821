-- Where no block has room and the spare is blank, some block has garbage; and once it was collected the old spare has
-- room.
use Rattle.collector.proofs.Common.{◌≡◌, ◌≢◌, ◌⊎◌, ℕ, ◌*◌, ◌/◌, ◌<◌, Bool, true, false, ◌||◌, eqb, eq-eqb, List, count_by, Contains, refl, sym, ap, ◌∙◌, subst, inl, inr, arith, if◌then◌else◌, ap₂, range_with_len, mul_comm, not-true, get_or-set_same, All-contains, in_range, all_range, shape_of, slots_of, blocks_of, Shape, Link, FlashState, Found, name_of, IsCurrent, InProgress, is_outside, is_slot, Blank, note_at, found_in, IndexState, IsNoted, current_of, needed_of, pinned_names, erased, is_blank, in_it, inside_block, BlocksState, IsBlocksState, IsFull, use_of, block_state, table_with_spare, BlockUse, is_noted_blank, swapped, open_state, HasUnneeded, IsNextName, IsPinBeside, Matches, IsVictim, HasNoGarbage, is_shut}
use Rattle.std.proofs.Common.{ne_eqb, zip}
use Rattle.std.proofs.Math.ListN.{length-set}
use Rattle.std.proofs.lemmas.Nat.{div_below}
use Rattle.std.proofs.lemmas.Bool.{or_parts, not-false}
use Rattle.list_lemmas.proofs.Ranges.{range_all}
use Rattle.list_lemmas.proofs.Counts.{count_some, none_in_range}
use Rattle.tx_types.specs.declared.config.BlockState.TheVariants as state
use Rattle.record_list.specs.Current.{responsible}
use Rattle.record_list.specs.Transaction.{next_names, IsAsked, IsAskedAt}
use Rattle.record_list.proofs.OfLosses.LossCounted.{responsible_high}
use Rattle.record_list.proofs.OfChanges.Progress.{underway_of, name_loose, absent_name}
use Rattle.record_list.proofs.OfWalks.Rounds.{follows_of, follows_in}
use Rattle.record_list.proofs.OfFacts.SoundNames.{sound_map}
use Rattle.judged_records.specs.IndexState.{garbage_of, is_garbage_at, shut_or_part}
use Rattle.judged_records.proofs.OfNotes.Blocks.{other_block}
use Rattle.judged_records.proofs.OfNotes.NotedFacts.{spare_garbage, other_garbage}
use Rattle.die_alloc.specs.BlocksState.{no_block}
use Rattle.die_alloc.proofs.Changes.{shut_where_full}
use Rattle.collector.specs.declared.unsure.Unsure.TheVariants as unsure
use Rattle.collector.proofs.OfRoom.GoingCounts.{has_unneeded}
use Rattle.collector.proofs.OfNotes.NotesLeft.{note_at-in}
use Rattle.collector.proofs.OfClean.BlankNotes.{noted_blank}
use Rattle.collector.proofs.OfRoom.Space.{IsFilled, slots_few}

-- a garbage slot is not needed
garbage_unneeded : (n : IndexState) (shut : Bool) (slot : ℕ) → is_garbage_at n (shut_or_part shut) slot ≡ true →
    needed_of n slot ≡ false
garbage_unneeded n true slot e = not-true (needed_of n slot) e
garbage_unneeded n false slot e =
    (or_parts (is_blank (note_at n.notes slot)) (needed_of n slot)
    (not-true (is_blank (note_at n.notes slot) || needed_of n slot) e)).1

-- the slots of a block that is all blank
pub blank_erased : (n : IndexState) → IsNoted n.config.protocol n → (block : ℕ) →
    block < blocks_of (shape_of n.config) →
    is_noted_blank (erased n block) block ≡ true
blank_erased n noted block below =
    range_all (λ slot. is_blank (note_at (erased n block).notes slot)) (block * n.config.pages_per_block)
    n.config.pages_per_block
    (λ k low high. ap is_blank
    (note_at-in (shape_of n.config) (let b = noted.bounds.shape.pages_least in omega arith) n.notes noted.slots block
    below Blank k low high))

-- a name of a transaction in progress that is there has nobody responsible
unanswered : (n : IndexState) → IsNoted n.config.protocol n → (ts : List Link) →
    InProgress n.config.protocol (found_in n.notes) n.config.logical ts →
    (f : Found) → Contains (found_in n.notes) f → Contains ts (name_of f.rec) →
    responsible n.config.protocol (found_in n.notes) n.config.logical f.rec.next ≡ 0
unanswered n noted ts h f i own =
    let p = n.config.protocol in
    let list = found_in n.notes in
    let logical = n.config.logical in
    let after = follows_of ts (name_of f.rec) own in
    let asks = All-contains (λ g. IsAsked n.config.protocol (found_in n.notes) n.config.logical ts g.rec)
    (found_in n.notes) f h.begun.asked i in
    let pair = All-contains (IsAskedAt n.config.protocol (found_in n.notes) n.config.logical ts f.rec)
    (zip ts (next_names ts)) (name_of f.rec, after.0) asks after.1 in
    let link = (pair refl).0 in
    let gone = absent_name list ts h.absent in
    let loose = name_loose list logical ts (underway_of p list logical ts h.begun) p
    (sound_map p list logical noted.sound noted.scanned) gone.0 gone.1 gone.2
    f.rec.next (subst (Contains ts) (sym link) (follows_in ts (name_of f.rec) after.0 after.1).1) in
    responsible_high p list logical f.rec.next (omega arith)

module _ (s : FlashState) (n : IndexState) (t : BlocksState) (m : Matches s n t unsure.Nothing) where
  some : 0 < n.config.pages_per_block
  some = (let b = m.noted.bounds.shape.pages_least in omega arith)

  shape_same : t.shape ≡ shape_of n.config
  shape_same = m.blocks ∙ m.shape

  pub spare_within : t.spare < blocks_of (shape_of n.config)
  spare_within = subst (λ (k : Shape). t.spare < blocks_of k) shape_same m.table.spare_within

  not_its_spare : (block : ℕ) → block ≢ t.spare → is_slot block n.spare ≡ false
  not_its_spare block apart = ap (is_slot block) m.spare ∙ ne_eqb t.spare block (λ same. apart (sym same))

  -- the block with the most garbage is not the spare
  pub victim_apart : (block : ℕ) → IsVictim n t block → block ≢ t.spare
  victim_apart block v same =
      let none = spare_garbage n block (is_shut (block_state t block)) (ap (is_slot block) m.spare
      ∙ eq-eqb t.spare block (sym same)) in
      let more = v.some in absurd (omega arith)

  -- and has a slot that is not needed
  pub victim_unneeded : (block : ℕ) → IsVictim n t block → HasUnneeded n block
  victim_unneeded block v =
      let shut = is_shut (block_state t block) in
      let more : 0 < count_by (is_garbage_at n (shut_or_part (is_shut (block_state t block))))
      (range_with_len (block * n.config.pages_per_block) n.config.pages_per_block) =
      subst (λ k. 0 < k) (other_garbage n block (is_shut (block_state t block))
      (not_its_spare block (victim_apart block v))) v.some in
      let one = count_some (is_garbage_at n (shut_or_part (is_shut (block_state t block))))
      (block * n.config.pages_per_block) n.config.pages_per_block more in
      has_unneeded n block one.at (in_range (block * n.config.pages_per_block) n.config.pages_per_block one.at
      one.low one.high)
      (garbage_unneeded n (is_shut (block_state t block)) one.at one.passes)

  module _ (blanked : is_noted_blank n t.spare ≡ true) (full : IsFull t) (names : List Link) (name : Link)
      (next : IsNextName n names name) where
    spare_blank : (slot : ℕ) → is_outside (shape_of n.config) t.spare slot ≡ false → note_at n.notes slot ≡ Blank
    spare_blank slot out =
        let inside = inside_block n.config.pages_per_block t.spare slot some
        (in_it (shape_of n.config) t.spare slot out) in
        noted_blank (note_at n.notes slot)
        (all_range (λ k. is_blank (note_at n.notes k)) (t.spare * n.config.pages_per_block) n.config.pages_per_block
        blanked slot inside.0 inside.1)

    -- a slot outside the spare that is not garbage is needed
    all_needed : HasNoGarbage n t → (slot : ℕ) → slot < slots_of (shape_of n.config) →
        is_outside (shape_of n.config) t.spare slot ≡ true →
        needed_of n slot ≡ true
    all_needed none slot within out =
        let per = n.config.pages_per_block in
        let block = slot / n.config.pages_per_block in
        let below : block < blocks_of (shape_of n.config) = div_below slot per (blocks_of (shape_of n.config)) some
        (omega (arith, within, mul_comm per (blocks_of (shape_of n.config)))) in
        let apart = other_block (slot / n.config.pages_per_block) t.spare
        (eqb (slot / n.config.pages_per_block) t.spare) refl out in
        let shut = shut_where_full t m.table full block (subst (λ (k : Shape). block < blocks_of k) (sym shape_same)
        below) apart in
        let zero : garbage_of n block true ≡ 0 = ap (λ q. garbage_of n block (is_shut q)) (sym shut)
        ∙ none block below in
        let count = sym (other_garbage n block true (not_its_spare block apart)) ∙ zero in
        let inside = inside_block per block slot some refl in
        not-false (needed_of n slot) (none_in_range (is_garbage_at n (shut_or_part true)) (block * per) per count slot
        inside.0 inside.1)

    pin_unanswered : (f : Found) → Contains (found_in n.notes) f → IsPinBeside n names (name_of f.rec) →
        IsCurrent n.config.protocol (found_in n.notes) n.config.logical f.rec
        ⊎ (responsible n.config.protocol (found_in n.notes) n.config.logical f.rec.next ≡ 0)
    unfolding current_of
    pin_unanswered f i (inl current) = inl (sym current)
    pin_unanswered f i (inr (inl own)) = inr (unanswered n m.noted names next.in_progress f i own)
    pin_unanswered f i (inr (inr o)) = inr (unanswered n m.noted o.others o.in_progress f i o.named)

    filled : HasNoGarbage n t → IsFilled n t.spare
    filled none = record {
      noted = m.noted;
      below = spare_within;
      blank = spare_blank;
      needed = all_needed none;
      pins = λ f i pin. pin_unanswered f i (All-contains (IsPinBeside n names) (pinned_names n.pins) (name_of f.rec)
          next.beside pin);
      absent = name;
      is_pinned = (All-contains (λ own. Contains (pinned_names n.pins) own) names name next.pinned next.named);
      is_absent = next.absent;
    }

    -- so there is garbage
    pub some_garbage : HasNoGarbage n t → ⊥
    some_garbage none =
        let count = slots_few n t.spare (filled none) in
        let few = next.few in
        let space = m.noted.bounds.space in
        absurd (omega (arith, count, few, space))

-- the old spare once it was swapped for a block
use_old : (t : BlocksState) → IsBlocksState t → (block used : ℕ)
    → use_of (swapped t block used) t.spare ≡ record { state = open_state t.shape.pages_per_block used; used = used }
use_old t h block used =
    get_or-set_same (table_with_spare t block).blocks t.spare (record {
      state = open_state t.shape.pages_per_block used;
      used = used;
    }) no_block
    (rw (length-set, length-set, h.count) h.spare_within)

-- it has room where not all of it is used
pub room_made : (t : BlocksState) → IsBlocksState t → (block used : ℕ) → used < t.shape.pages_per_block →
    IsFull (swapped t block used) → ⊥
room_made t h block used few full = by (eqb used 0) refl
  where
    its_state : block_state (swapped t block used) t.spare ≡ open_state t.shape.pages_per_block used
    its_state = ap (λ (u : BlockUse). u.state) (use_old t h block used)

    more : eqb used t.shape.pages_per_block ≡ false
    more = ne_eqb used t.shape.pages_per_block (λ e. omega (arith, e, few))

    by : (b : Bool) → eqb used 0 ≡ b → ⊥
    by true e = full t.spare h.spare_within
        (inl (its_state ∙ ap (λ b. if b then state.Clean else (if eqb used t.shape.pages_per_block then state.Shut
        else state.Part)) e))
    by false e =
        full t.spare h.spare_within
        (inr (its_state ∙ ap₂ (λ b c. if b then state.Clean else (if c then state.Shut else state.Part)) e more))
