-- The four laws of change with bytes follow from those without, for any protocol: what bytes say stays, and some block
-- stays removable.
use Rattle.record_list.proofs.Common.{◌≡◌, ◌≢◌, ℕ, ◌<◌, ◌⊎◌, Bool, true, false, List, All, Any, Contains, sym, ap, ◌∙◌, subst, inl, inr, ⊎_elim, both_ways, All-contains, all_from, Link, Protocol, Shape, Found, name_of, is_present, IsScanned, record_named, cur, is_held, Copies, IsSoundList, IsInserted, left, KeepsCounted, PartialWriteLaw, CompletingWriteLaw, CopyLaw, LossLaw, LossKeeps, Written, found_of, records_of, BytesAgree, is_outside, left_written}
use Rattle.record_list.specs.Changes.{IsCopy, PartialWriteKeeps, CompletingWriteKeeps}
use Rattle.record_list.specs.Changes.{CopyKeeps}
use Rattle.record_list.specs.Counts.{HasCounts}
use Rattle.record_list.specs.Written.{IsSoundWritten}
use Rattle.record_list.specs.WrittenChanges.{WrittenPartialWriteLaw, WrittenCompletingWriteLaw, WrittenCopyLaw, WrittenLossLaw}
use Rattle.record_list.specs.Losses.{IsSpared}
use Rattle.record_list.proofs.OfChanges.OneMore.{in_inserted}
use Rattle.record_list.proofs.OfChanges.Spared.{counted_twice, counted_first, counted_second}
use Rattle.record_list.proofs.OfChanges.Counting.{write_keeps_counts, copy_keeps_counts, loss_keeps_counts}
use Rattle.record_list.proofs.OfLosses.LossAmong.{among_of, among_present, among_record, one_each}
use Rattle.record_list.proofs.OfLosses.LossCounted.{IsCounted, IsCountedKept, counted_names, counted_records, held_present}
use Rattle.record_list.proofs.OfChanges.WrittenLists.{in_records, inserted_records, same_bytes, bytes_inserted, bytes_filtered, records_left, left_more}
use Rattle.record_list.proofs.OfFacts.SoundNames.{IsSoundMap, sound_map}
use Rattle.record_list.proofs.OfWalks.Rounds.{cases_page}
use Rattle.record_list.proofs.OfFacts.Names.{same_name, present_as, named_name}

-- a held record of a name is that of the longer list
held_more : (p : Protocol) (l m : List Found) (n : ℕ) → IsSoundMap p m n → ((f : Found) → Contains l f → Contains m f) →
    (name : Link) →
    is_held p l n (record_named m name) ≡ true → is_held p l n (record_named l name) ≡ true
held_more p l m n sound sub name held =
    let here : is_present l name ≡ true = subst (λ u. is_present l u ≡ true) (named_name m name)
    (held_present p l n (record_named m name) held) in
    subst (λ r. is_held p l n r ≡ true) (sym (among_record l m (among_of l m sub) (one_each p m n sound) name here))
    held

-- with more records the same block is removable, where each name that counts then counted before or lies outside it
counted_grows : (p : Protocol) (l m : List Found) (n : ℕ) (keep : ℕ → Bool) →
    IsSoundList p l n → IsScanned l → IsScanned m → IsSoundList p m n → ((f : Found) → Contains l f → Contains m f) →
    ((name : Link) → name.page < n → IsCounted p m n name → IsCounted p l n name
    ⊎ (is_present (left keep m) name ≡ true)) →
    KeepsCounted p l n keep → KeepsCounted p m n keep
counted_grows p l m n keep sl scanned s sm sub was k =
    let b : IsCountedKept p l n keep = counted_names p l n keep (sound_map p l n sl scanned) k in
    counted_records p m n keep s sm (record {
      kept = λ name low h c.
          ⊎_elim
          (λ old. among_present (left keep l) (left keep m)
          (among_of (left keep l) (left keep m) (left_more keep l m sub)) name (b.kept name low h old))
          (λ there. there)
          (was name low c);
    })

-- an absent name is no record's
pub fresh_bytes : (l : List Written) (w : Written) → is_present (records_of l) (name_of w.rec) ≡ false →
    (v : Written) → Contains l v → name_of v.rec ≡ name_of w.rec → v.bytes ≡ w.bytes
fresh_bytes l w fresh v c e = absurd (both_ways (is_present (records_of l) (name_of w.rec)) fresh
    (present_as (records_of l) (found_of v) (name_of w.rec) (in_records l v c) e))

-- a write that leaves a name absent: the same block stays removable
pub written_partial_write : (p : Protocol) → PartialWriteLaw p → WrittenPartialWriteLaw p
written_partial_write p law l m n shape names w sound i write some =
    let k : PartialWriteKeeps p (records_of l) (records_of m) n names =
    law (records_of l) (records_of m) n names (found_of w) sound.records write some in (
      record {
        records = k.sound;
        bytes = bytes_inserted l m w i sound.bytes (fresh_bytes l w write.fresh);
        counts = write_keeps_counts p (records_of l) (records_of m) n names (found_of w) write sound.counts;
        removable = record {
          block = sound.removable.block;
          exists = sound.removable.exists;
          removable = counted_grows p (records_of l) (records_of m) n (is_outside shape sound.removable.block)
              sound.records write.scanned write.scanned'
              k.sound
              (in_inserted (records_of l) (records_of m) (found_of w) write.added)
              (λ name low c. inl (⊎_elim (λ e. inl (e ∙ k.same_current name.page low))
              (λ h. inr (held_more p (records_of l) (records_of m) n
              (sound_map p (records_of m) n k.sound write.scanned')
              (in_inserted (records_of l) (records_of m) (found_of w) write.added) name
              (sym (k.same_held (record_named (records_of m) name)) ∙ h))) c))
              sound.removable.removable;
        };
      },
      k,
    )

-- a write that completes its cycle: the block that has room around it is removable
pub written_completing_write : (p : Protocol) → CompletingWriteLaw p → WrittenCompletingWriteLaw p
written_completing_write p law l m n shape names w sound i write all room =
    let k : CompletingWriteKeeps p (records_of l) (records_of m) n names =
    law (records_of l) (records_of m) n names (found_of w) sound.records write all in (
      record {
        records = k.sound;
        bytes = bytes_inserted l m w i sound.bytes (fresh_bytes l w write.fresh);
        counts = write_keeps_counts p (records_of l) (records_of m) n names (found_of w) write sound.counts;
        removable = record {
          block = room.block;
          exists = room.exists;
          removable = counted_grows p (records_of l) (records_of m) n (is_outside shape room.block) sound.records
              write.scanned write.scanned' k.sound
              (in_inserted (records_of l) (records_of m) (found_of w) write.added)
              (λ name low c. elim c [
                | inl e ↦ elim (cases_page names name.page) [
                  | inl t ↦ inr (subst (λ a. is_present (left (is_outside shape room.block) (records_of m)) a ≡ true)
                      (same_name t.0 name t.2
                      (sym (All-contains (λ a. cur p (records_of m) n a.page ≡ a.version) names t.0 k.committed t.1)
                      ∙
                      (ap (cur p (records_of m) n) t.2 ∙ sym e)))
                      (All-contains (λ a. is_present (left (is_outside shape room.block) (records_of m)) a ≡ true) names
                      t.0 room.outside t.1))
                  | inr other ↦ inl (inl (e ∙ k.elsewhere name.page low
                      (all_from (λ a. a.page ≢ name.page) names other)))
                ]
                | inr h ↦ elim (k.held (record_named (records_of m) name) h) [
                  | inl old ↦ inl (inr (held_more p (records_of l) (records_of m) n
                      (sound_map p (records_of m) n k.sound write.scanned')
                      (in_inserted (records_of l) (records_of m) (found_of w) write.added) name old))
                  | inr t ↦ inr (All-contains (λ a. is_present (left (is_outside shape room.block) (records_of m)) a
                      ≡ true) names name room.outside
                      (subst (Contains names) (named_name (records_of m) name) t))
                ]
              ])
              room.removable;
        };
      },
      k,
    )

module _ (l m : List Written) (w : Written) (i : IsInserted l w m) (scanned : IsScanned (records_of l))
    (source : Any (λ v. (v.rec ≡ w.rec) × (v.bytes ≡ w.bytes)) l) where
  -- a copy with its bytes is a copy
  pub copied : IsScanned (records_of m) → IsCopy (records_of l) (records_of m) (found_of w)
  copied scanned' =
      let v = source.1 in
      let at : Contains (records_of l) (found_of v) = in_records l v (source.0, source.2, source.3) in
      record {
        scanned = scanned;
        scanned' = scanned';
        added = inserted_records l m w i;
        source = (at.0, found_of v, at.1, at.2, source.4.0);
      }

  -- and the bytes agree
  pub bytes_copied : All (BytesAgree l) l → All (BytesAgree m) m
  bytes_copied bytes =
      let v = source.1 in
      let there : Contains l v = (source.0, source.2, source.3) in
      bytes_inserted l m w i bytes (λ u c e. same_bytes l scanned bytes u v c there (e ∙ sym (ap name_of source.4.0))
      ∙ source.4.1)

-- a copy: the same block stays removable
pub written_copy : (p : Protocol) → CopyLaw p → WrittenCopyLaw p
written_copy p law l m n shape w sound i scanned scanned' source =
    let copy : IsCopy (records_of l) (records_of m) (found_of w) = copied l m w i scanned source scanned' in
    let k : CopyKeeps p (records_of l) (records_of m) n = law (records_of l) (records_of m) n (found_of w)
    sound.records copy in (
      record {
        records = k.sound;
        bytes = bytes_copied l m w i scanned source sound.bytes;
        counts = copy_keeps_counts (records_of l) (records_of m) (found_of w) (sound.records Copies) copy sound.counts;
        removable = record {
          block = sound.removable.block;
          exists = sound.removable.exists;
          removable = counted_grows p (records_of l) (records_of m) n (is_outside shape sound.removable.block)
              sound.records scanned scanned' k.sound
              (in_inserted (records_of l) (records_of m) (found_of w) copy.added)
              (λ name low c. inl (⊎_elim (λ e. inl (e ∙ k.same_current name.page low))
              (λ h. inr (held_more p (records_of l) (records_of m) n (sound_map p (records_of m) n k.sound scanned')
              (in_inserted (records_of l) (records_of m) (found_of w) copy.added) name
              (sym (k.same_held (record_named (records_of m) name)) ∙ h))) c))
              sound.removable.removable;
        };
      },
      k,
    )

-- a loss of any slots: the block outside which the list is spared is removable
pub written_left : (p : Protocol) → LossLaw p → (l : List Written) (n : ℕ) (shape : Shape) (keep : ℕ → Bool) →
    IsSoundWritten p l n shape →
    IsScanned (records_of l) → IsSpared p (records_of l) n shape keep →
    IsSoundWritten p (left_written keep l) n shape × LossKeeps p (records_of l) (records_of (left_written keep l)) n
written_left p law l n shape keep sound scanned spared =
    let out : ℕ → Bool = is_outside shape spared.block in
    let fewer : List Found = left keep (records_of l) in
    let is : fewer ≡ records_of (left_written keep l) = sym (records_left keep l) in
    let k : LossKeeps p (records_of l) fewer n =
    law (records_of l) n keep sound.records scanned (counted_first p (records_of l) n keep out spared.counted) in
    let k' : LossKeeps p (records_of l) (records_of (left_written keep l)) n =
    subst (λ z. LossKeeps p (records_of l) z n) is k in (
      record {
        records = k'.sound;
        bytes = bytes_filtered (λ w. keep w.slot.0) l sound.bytes;
        counts = subst HasCounts is (loss_keeps_counts (records_of l) keep (sound.records Copies) scanned sound.counts);
        removable = record {
          block = spared.block;
          exists = spared.exists;
          removable = subst (λ z. KeepsCounted p z n out) is
              (counted_second p (records_of l) n keep out spared.counted k);
        };
      },
      k',
    )

-- the loss of a block: the block itself is removable
pub written_loss : (p : Protocol) → LossLaw p → WrittenLossLaw p
written_loss p law l n shape block sound scanned exists removable =
    written_left p law l n shape (is_outside shape block) sound scanned (record {
      block = block;
      exists = exists;
      counted = counted_twice p (records_of l) n (is_outside shape block) removable;
    })
