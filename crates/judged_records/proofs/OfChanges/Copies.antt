-- A copy, a damaged slot, a pin, another spare: nothing that was derived moves.
use Rattle.judged_records.proofs.Common.{◌≡◌, ℕ, ◌<◌, length, set, IsSome, refl, sym, ap, ◌∙◌, subst, arith, false≢true, All-contains, all_from, Rec, Protocol, shape_of, slots_of, cur, CopyLaw, Note, Blank, Damaged, Holds, note_at, rec_of, found_in, IndexState, IsNoted, current_of, IsDerivedAlike, NothingMoves}
use Rattle.record_list.specs.Changes.{CopyKeeps}
use Rattle.record_list.proofs.OfChanges.OneMore.{inserted_all}
use Rattle.judged_records.specs.IndexState.{pinned, with_spare, copied, damaged_at}
use Rattle.judged_records.proofs.OfNotes.FoundIn.{found, found_in_programmed, found_in_damaged, found_in_ascending, noted_in, holds_within}
use Rattle.judged_records.proofs.OfChanges.NotedChanges.{HasVersions}
use Rattle.judged_records.proofs.OfNotes.Derived.{IsAlike, all_alike, derived_alike}
use Rattle.judged_records.proofs.OfChanges.PartialWrites.{configured}

-- a note with a record holds it
pub some_held : (note : Note) → IsSome (rec_of note) → (rec : Rec) × (note ≡ Holds rec)
some_held Blank some = absurd (false≢true some)
some_held Damaged some = absurd (false≢true some)
some_held (Holds rec) some = (rec, refl)

-- with the same records nothing moves
pub same_records : (n m : IndexState) → m.config ≡ n.config → found_in m.notes ≡ found_in n.notes → NothingMoves n m
unfolding current_of
same_records n m e same =
    let p = n.config.protocol in
    record {
      currents = λ page below.
          ap (λ c. cur c.protocol (found_in m.notes) c.logical page) e ∙ ap (λ l. cur p l n.config.logical page) same;
      records = all_from (λ f. IsDerivedAlike n m f.rec) (found_in m.notes) (λ f i.
          derived_alike n m f.rec e (subst (λ l. IsAlike p (found_in n.notes) l n.config.logical f.rec) (sym same)
          (record { loose = refl; answerer = refl; waits = refl })));
    }

-- a pin, or none
pub pin_moves_nothing : (n : IndexState) (page version : ℕ) → NothingMoves n (pinned n page version)
pin_moves_nothing n page version = same_records n (pinned n page version) refl refl

-- another spare
pub spare_moves_nothing : (n : IndexState) (block : ℕ) → NothingMoves n (with_spare n block)
spare_moves_nothing n block = same_records n (with_spare n block) refl refl

module _ (protocol : Protocol) (n : IndexState) (k : IsNoted protocol n) where
  -- a damaged slot that was blank
  pub damage_moves_nothing : (at : ℕ) → at < slots_of (shape_of n.config) → note_at n.notes at ≡ Blank →
      NothingMoves n (damaged_at n at)
  damage_moves_nothing at exists was =
      let within : at < length n.notes = (let slots = k.slots in omega arith) in
      same_records n (damaged_at n at) refl (found_in_damaged n.notes at within was)

  -- a copy of a record
  pub copy_moves_nothing : CopyLaw protocol → (from to : ℕ) → IsSome (rec_of (note_at n.notes from)) →
      to < slots_of (shape_of n.config) →
      note_at n.notes to ≡ Blank → NothingMoves n (copied n from to)
  unfolding current_of
  copy_moves_nothing copy from to some exists was =
      let p = n.config.protocol in
      let logical = n.config.logical in
      let l = found_in n.notes in
      let held = some_held (note_at n.notes from) some in
      let rec = held.0 in
      let m = record n { notes = set n.notes to (Holds rec) } in
      let l' = found_in m.notes in
      let within : to < length n.notes = (let slots = k.slots in omega arith) in
      let source = noted_in n.notes from rec (holds_within n.notes from rec held.1) held.1 in
      let added = found_in_programmed n.notes to rec within was in
      let own = All-contains HasVersions l (found from rec) k.scanned.versions source in
      let keeps : CopyKeeps p l l' logical = subst CopyLaw (sym k.rule) copy l l' logical (found to rec)
      (configured protocol n k) (record {
        scanned = k.scanned;
        scanned' = record {
          ascending = found_in_ascending m.notes;
          versions = inserted_all HasVersions l l' (found to rec) added k.scanned.versions own;
        };
        added = added;
        source = (source.0, found from rec, source.1, source.2, refl);
      }) in
      subst (λ note. NothingMoves n (record n { notes = set n.notes to note })) (sym held.1) (record {
        currents = keeps.same_current;
        records = all_from (λ f. IsDerivedAlike n m f.rec) l' (λ f i.
            derived_alike n m f.rec refl (all_alike p l l' logical keeps.same_current keeps.responsible
            keeps.sound f i));
      })
