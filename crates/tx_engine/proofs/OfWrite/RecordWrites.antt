-- What a step writes: how the parts of the write make it up.
use Rattle.tx_engine.proofs.Common.{◌≡◌, ℕ, ◌<◌, List, length, Some, None, Result, Ok, Err, sym, ap, ◌∙◌, subst, inl, inr, arith, is_err, get_or-set_same, slots_of, Shape, Slot, Link, Rec, FlashState, Contents, blank, complete, slot_at, Broken, Does, FlashMoves, Moment, moment_of, program, spelling, name_of, back_version, found_in, IndexState, IsNoted, block_to_go, programmed, BlocksState, IsFirstFree, Unsure, blocks_to_go, Matches, IsThere, Preserves, OpenTransactionsState, AddsOnly, DeviceState, StoreState, WritesStored, store_in, device_in, NotingKeeps}
use Rattle.std.specs.Prelude.{IfOk, Bool, false, [], ◌∷◌}
use Rattle.flash_model.specs.Moves.{Moves}
use Rattle.die_alloc.specs.BlocksState.{IsFull}
use Rattle.die_alloc.specs.NextSlot.{next_slot, after_next_slot}
use Rattle.collector.specs.Collecting.{CollectsForRoom}
use Rattle.collector.specs.Going.{EvictsAll}
use Rattle.tx_engine.specs.Writing.{DueRecord, TakesSlot, WritesRecord}
use Rattle.tx_engine.proofs.OfStep.CostFacts.{none_to_go}

-- the slot that is found, by what a store says of it
pub finds_slot : {F : Type 0} (old new : StoreState F) (r : Result Slot Broken) →
    ((IsFull old.table → ⊥) → IfOk r (λ at. Some at ≡ next_slot old.table) × (is_err r ≡ false)
    × (new ≡ record old { table = after_next_slot old.table })) →
    (IsFull old.table → IfOk r (λ at. CollectsForRoom old.noted old.table new.noted new.table at)) →
    IfOk r (TakesSlot old.noted old.table new.noted new.table)
finds_slot old new (Ok at) direct collects = record {
  direct = λ room. let d = direct room in (
    sym d.0,
    ap (λ (s : StoreState _). s.noted) d.2,
    ap (λ (s : StoreState _). s.table) d.2,
  );
  collects = collects;
}
finds_slot old new (Err broken) direct collects = tt

-- the slot lies in the image
pub free_within : (s : FlashState) (n : IndexState) (t : BlocksState) (u : Unsure) → Matches s n t u → (at : ℕ) →
    IsFirstFree t at → at < length s.image
free_within s n t u m at free = omega (arith, free.free.within, ap slots_of m.blocks, m.flash.slots)

module _ {F : Type 0} (state : F → FlashState) (S S1 S2 S3 : StoreState F) (O O' : OpenTransactionsState)
    (asked : DueRecord) (at : Slot) (rec : Rec) where
  pub writes_record : IsNoted S.noted.config.protocol S.noted → Preserves S.noted S1.noted →
      (block_to_go S.noted asked.name.page asked.name.version ≡ None → S1 ≡ S) →
      (broken : Bool) → ((IsFull S1.table → ⊥) → (broken ≡ false) × (S2.flash ≡ S1.flash)) →
      (state S2.flash).shape ≡ (state S.flash).shape →
      block_to_go S1.noted asked.name.page asked.name.version ≡ None →
      TakesSlot S1.noted S1.table S2.noted S2.table at → name_of rec ≡ asked.name →
      rec.next ≡ asked.link → rec.count ≡ asked.count →
      rec.discard ≡ asked.text.discard →
      rec.back ≡ back_version S2.noted.config.protocol (found_in S2.noted.notes) S2.noted.config.logical rec.page →
      at.0 < length (state S2.flash).image → WritesStored (store_in state S2) (store_in state S3) at.0 rec
      asked.text.bytes →
      EvictsAll asked.name.page asked.name.version S.noted S.table S1.noted S1.table →
      FlashMoves (state S.flash) (state S2.flash) false →
      WritesRecord state (device_in state S O) (device_in state S3 O') asked
  writes_record noted kept idle broken direct shape clear slot named linked counted flag back within w turns moves =
      record {
        cleared = S1.noted;
        cleared_table = S1.table;
        kept = kept;
        turns = turns;
        idle = λ none.
            let same = idle (none_to_go S.noted asked.name.page asked.name.version noted none) in
            (ap (λ (s : StoreState F). s.noted) same, ap (λ (s : StoreState F). s.table) same);
        clear = clear;
        open_noted = S2.noted;
        open_table = S2.table;
        at = at;
        slot = slot;
        rec = rec;
        named = named;
        linked = linked;
        counted = counted;
        flag = flag;
        back = back ∙ ap (λ (a : Link). back_version S2.noted.config.protocol (found_in S2.noted.notes)
            S2.noted.config.logical a.page) named;
        before = moment_of (state S2.flash);
        moves = moves;
        direct = λ none room.
            let same = idle (none_to_go S.noted asked.name.page asked.name.version noted none) in
            let stays = (direct (λ full. room (subst (λ (T : StoreState F). IsFull T.table) same full))).1 in
            ap (λ f. moment_of (state f)) (stays ∙ ap (λ (T : StoreState F). T.flash) same);
        does = subst (λ (sh : Shape). Does sh (moment_of (state S2.flash))
            (program at.0 asked.text.bytes (spelling S2.noted.config.protocol rec) ∷ [])
            (moment_of (state S3.flash))) shape w.does;
        image = ap (λ (image : List Contents). slot_at image at.0) w.image
            ∙ get_or-set_same (state S2.flash).image at.0
            (complete asked.text.bytes (spelling S2.noted.config.protocol rec)) blank within;
        noted = w.noted ∙ ap (λ ps. record (programmed S2.noted at.0 rec) { pins = ps })
            (ap (λ (n : IndexState). n.pins) (sym w.noted));
        table = w.table;
      }

  -- of the names only its own is new
  pub adds_own : NotingKeeps S2.noted.config.protocol → IsNoted S2.noted.config.protocol S2.noted → (u : Unsure) →
      Matches (state S2.flash) S2.noted S2.table u → IsFirstFree S2.table at.0 →
      Preserves S.noted S1.noted → Preserves S1.noted S2.noted → name_of rec ≡ asked.name →
      WritesStored (store_in state S2) (store_in state S3) at.0 rec asked.text.bytes →
      AddsOnly asked.name S.noted S3.noted
  adds_own notes noted u m free first second named w own here =
      elim ((notes.names S2.noted at.0 rec own noted (omega (
        arith,
        free.free.within,
        ap slots_of m.blocks,
        ap slots_of m.shape,
      )) (m.free at.0 free.free)).0
      (subst (λ (m : IndexState). IsThere m own) w.noted here)) [
        | inl before ↦ inl (first.fewer own (second.fewer own before))
        | inr its ↦ inr (its ∙ named)
      ]

-- it is so of what has the same notes and blocks, but for what is pinned
pub writes_pinned : {F : Type 0} (state : F → FlashState) (known a b : DeviceState F) (asked : DueRecord) →
    b.flash ≡ a.flash → b.table ≡ a.table → b.noted ≡ record a.noted { pins = b.noted.pins } →
    WritesRecord state known a asked →
    WritesRecord state known b asked
writes_pinned state known a b asked flash table noted w = record {
  cleared = w.cleared;
  cleared_table = w.cleared_table;
  kept = w.kept;
  turns = w.turns;
  idle = w.idle;
  clear = w.clear;
  open_noted = w.open_noted;
  open_table = w.open_table;
  at = w.at;
  slot = w.slot;
  rec = w.rec;
  named = w.named;
  linked = w.linked;
  counted = w.counted;
  flag = w.flag;
  back = w.back;
  before = w.before;
  moves = w.moves;
  direct = w.direct;
  does = subst (λ f. Does (state known.flash).shape w.before
      (program w.at.0 asked.text.bytes (spelling w.open_noted.config.protocol w.rec) ∷ [])
      (moment_of (state f))) (sym flash) w.does;
  image = ap (λ f. slot_at (state f).image w.at.0) flash ∙ w.image;
  noted = noted ∙ ap (λ (m : IndexState). record m { pins = b.noted.pins }) w.noted;
  table = table ∙ w.table;
}

-- and over what has the same tables, the same shape and the same moment
pub writes_from : {F : Type 0} (state : F → FlashState) (a b new : DeviceState F) (asked : DueRecord) →
    moment_of (state b.flash) ≡ moment_of (state a.flash) → (state b.flash).shape ≡ (state a.flash).shape →
    b.noted ≡ a.noted → b.table ≡ a.table →
    WritesRecord state b new asked → WritesRecord state a new asked
writes_from state a b new asked moment shape noted table w = record {
  cleared = w.cleared;
  cleared_table = w.cleared_table;
  kept = subst (λ (n : IndexState). Preserves n w.cleared) noted w.kept;
  turns = subst (λ (n : IndexState). EvictsAll asked.name.page asked.name.version n a.table w.cleared w.cleared_table)
      noted
      (subst (λ (t : BlocksState). EvictsAll asked.name.page asked.name.version b.noted t w.cleared w.cleared_table)
      table w.turns);
  idle = λ none.
      let i = w.idle (subst (λ (n : IndexState). blocks_to_go n asked.name.page asked.name.version ≡ 0)
      (sym noted) none) in
      (i.0 ∙ noted, i.1 ∙ table);
  clear = w.clear;
  open_noted = w.open_noted;
  open_table = w.open_table;
  at = w.at;
  slot = w.slot;
  rec = w.rec;
  named = w.named;
  linked = w.linked;
  counted = w.counted;
  flag = w.flag;
  back = w.back;
  before = w.before;
  moves = subst (λ (sh : Shape). Moves sh (moment_of (state a.flash)) false w.before) shape
      (subst (λ (m : Moment). Moves (state b.flash).shape m false w.before) moment w.moves);
  direct = λ none room.
      w.direct (subst (λ (n : IndexState). blocks_to_go n asked.name.page asked.name.version ≡ 0) (sym noted) none)
      (λ full. room (subst IsFull table full))
      ∙ moment;
  does = subst (λ (sh : Shape). Does sh w.before (program w.at.0 asked.text.bytes
      (spelling w.open_noted.config.protocol w.rec) ∷ [])
      (moment_of (state new.flash))) shape w.does;
  image = w.image;
  noted = w.noted;
  table = w.table;
}
