-- A noted record that leaves its cycle open: nothing that was derived moves, and the record waits.
use Rattle.judged_records.proofs.Common.{◌≡◌, ℕ, ◌<◌, false, Any, length, refl, sym, subst, arith, all_from, Rec, Protocol, shape_of, slots_of, newest, name_of, is_present, IsSoundList, PartialWriteLaw, sound_map, follows_in, Blank, note_at, found_in, IndexState, IsNoted, IsNextRecord, programmed, current_of, IsDerivedAlike}
use Rattle.record_list.specs.Changes.{PartialWriteKeeps}
use Rattle.record_list.proofs.OfChanges.Progress.{underway_of, absent_name, name_ahead, name_loose}
use Rattle.judged_records.specs.Derived.{IsNewlyLoose}
use Rattle.judged_records.specs.DerivedChanges.{IsOpenWrite}
use Rattle.judged_records.proofs.OfNotes.FoundIn.{found}
use Rattle.judged_records.proofs.OfChanges.NotedChanges.{next_write, next_follows}
use Rattle.judged_records.proofs.OfNotes.Derived.{all_alike, derived_alike, newly_loose}

module _ (protocol : Protocol) (n : IndexState) (k : IsNoted protocol n) where
  -- the list keeps the laws of the protocol that is configured
  pub configured : IsSoundList n.config.protocol (found_in n.notes) n.config.logical
  configured = subst (λ p. IsSoundList p (found_in n.notes) n.config.logical) (sym k.rule) k.sound

  pub open_write : PartialWriteLaw protocol → (at : ℕ) (rec : Rec) → at < slots_of (shape_of n.config) →
      note_at n.notes at ≡ Blank →
      (next : IsNextRecord n rec) →
      Any (λ name. is_present (found_in (programmed n at rec).notes) name ≡ false) next.names →
      IsOpenWrite n (programmed n at rec) rec
  unfolding current_of
  open_write partial at rec exists was next absent =
      let p = n.config.protocol in
      let logical = n.config.logical in
      let m = programmed n at rec in
      let l = found_in n.notes in
      let l' = found_in m.notes in
      let within : at < length n.notes = (let slots = k.slots in omega arith) in
      let write = next_write protocol n k at rec within was next in
      let keeps : PartialWriteKeeps p l l' logical next.names =
      subst PartialWriteLaw (sym k.rule) partial l l' logical next.names (found at rec) configured write absent in
      let map' = sound_map p l' logical keeps.sound write.scanned' in
      let underway = underway_of p l' logical next.names keeps.in_progress.begun in
      let gone = absent_name l' next.names keeps.in_progress.absent in
      let link = (follows_in next.names (name_of rec) rec.next (next_follows n rec next)).1 in
      record {
        nothing_moves = record {
          currents = keeps.same_current;
          records = all_from (λ f. IsDerivedAlike n m f.rec) l' (λ f i.
              derived_alike n m f.rec refl (all_alike p l l' logical keeps.same_current keeps.responsible
              keeps.sound f i));
        };
        new = newly_loose m rec
            (name_loose l' logical next.names underway p map' gone.0 gone.1 gone.2 (name_of rec) next.named)
            (name_loose l' logical next.names underway p map' gone.0 gone.1 gone.2 rec.next link);
      }

  -- the record waits as things stand before it is noted, and no record answers for it
  pub next_newly_loose : (rec : Rec) → IsNextRecord n rec → IsNewlyLoose n rec
  unfolding current_of
  next_newly_loose rec next =
      let p = n.config.protocol in
      let logical = n.config.logical in
      let l = found_in n.notes in
      let underway = underway_of p l logical next.names next.in_progress.begun in
      let map' = sound_map p l logical configured k.scanned in
      let link = (follows_in next.names (name_of rec) rec.next (next_follows n rec next)).1 in
      newly_loose n rec
      (name_loose l logical next.names underway p map' (name_of rec) next.named next.fresh (name_of rec) next.named)
      (name_loose l logical next.names underway p map' (name_of rec) next.named next.fresh rec.next link)

  -- it is newer than each record of its page
  pub next_newest : (rec : Rec) → IsNextRecord n rec → newest (found_in n.notes) rec.page < rec.version
  next_newest rec next =
      let underway = underway_of n.config.protocol (found_in n.notes) n.config.logical next.names
      next.in_progress.begun in
      name_ahead (found_in n.notes) n.config.logical next.names underway (name_of rec) next.named next.fresh
