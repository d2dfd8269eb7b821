-- Since nothing waited only records were programmed that are not current and not held: each that is was there before.
use Rattle.lost_writes.proofs.Common.{◌≡◌, ℕ, ◌<◌, ◌≤◌, Bool, true, false, not, List, length, Contains, refl, sym, ap, ◌∙◌, subst, inl, inr, arith, cases_Bool, and_from, both_ways, from_filter, in_filter, in_map, map_in, Contents, blank, complete, slot_at, records_in, written_in, left, KeepsCounted, cur, is_held, name_of, is_present, found_of, is_outside, Found, Protocol, Scc, Bpcc, Shape, Link, Rec}
use Rattle.record_list.specs.Current.{answers_for}
use Rattle.record_list.specs.Verdict.{record_named}
use Rattle.record_list.proofs.OfFacts.Held.{IsAnswer, answer_of}
use Rattle.record_list.proofs.OfFacts.Names.{named_name}
use Rattle.record_list.proofs.OfFacts.SoundNames.{IsSoundMap, sound_map}
use Rattle.record_list.proofs.OfLosses.LossAmong.{among_of, among_present, among_record, one_each}
use Rattle.record_list.proofs.OfLosses.LossCounted.{IsResponsible, responsible_at, held_present, IsCounted, IsCountedKept, counted_names, counted_records}
use Rattle.list_lemmas.proofs.Tests.{any_of}
use Rattle.judged_records.specs.Images.{IsSoundImage}
use Rattle.judged_records.proofs.OfLaws.ImageScans.{IsRead, is_read, read_slot, records_scanned, written}
use Rattle.lost_writes.specs.Waiting.{IsSinceFlush, is_spared, SparedLaw}

-- a held record is at most the current one of its page
held_low : (p : Protocol) (l : List Found) (n : ℕ) (r : Rec) → is_held p l n r ≡ true →
    r.version ≤ cur p l n r.page
held_low Scc l n r held = absurd (both_ways false refl held)
held_low Bpcc l n r held =
    let f = any_of (λ f. answers_for Bpcc l n r f.rec) l held in
    let a : IsAnswer l n r f.0.rec = answer_of l n r f.0.rec f.2 in
    let q : IsResponsible Bpcc l n f.0.rec.next = responsible_at Bpcc l n f.0.rec.next (let version = a.version in
    let under = a.under in omega arith) in
    let low : q.at.rec.version ≤ cur Bpcc l n r.page = subst (λ page. q.at.rec.version ≤ cur Bpcc l n page) a.page
    q.low in
    let same = q.version ∙ a.version in
    omega arith

-- the records of a slot that holds what it held
pub same_slot : (p : Protocol) (image image' : List Contents) (f : Found) → length image' ≡ length image →
    Contains (records_in p image) f → slot_at image' f.slot.0 ≡ slot_at image f.slot.0 →
    Contains (records_in p image') f
same_slot p image image' f long i same =
    let w = in_map found_of (written_in p image) f i in
    let r : IsRead p image w.0 = is_read p image w.0 w.1 in
    let slot : w.0.slot.0 ≡ f.slot.0 = ap (λ (g : Found). g.slot.0) w.2 in
    let at : slot_at image' w.0.slot.0 ≡ complete r.reads.bytes r.reads.spare =
    subst (λ k. slot_at image' k ≡ slot_at image k) (sym slot) same ∙ r.reads.is in
    let there = read_slot p image' w.0.slot.0 r.reads.bytes r.reads.spare w.0.rec
    (subst (λ n. w.0.slot.0 < n) (sym long) r.within) at r.reads.spells in
    subst (Contains (records_in p image')) w.2 (map_in found_of (written_in p image')
    (written w.0.slot.0 w.0.rec r.reads.bytes) there)

module _ (p : Protocol) (logical : ℕ) (shape : Shape) (flushed image : List Contents) (waits : ℕ → Bool) (block : ℕ)
    (sound : IsSoundImage p logical shape flushed) (sound' : IsSoundImage p logical shape image)
    (since : IsSinceFlush p logical waits flushed image)
    (removable : KeepsCounted p (records_in p flushed) logical (is_outside shape block)) where
  abbrev was : List Found
  was = records_in p flushed

  abbrev now : List Found
  now = records_in p image

  map_was : IsSoundMap p was logical
  map_was = sound_map p was logical sound.written.records (records_scanned p flushed)

  map_now : IsSoundMap p now logical
  map_now = sound_map p now logical sound'.written.records (records_scanned p image)

  -- a slot that has a record of the flushed image does not wait
  does_not_wait : (f : Found) → Contains was f → waits f.slot.0 ≡ false
  does_not_wait f i = elim (cases_Bool (waits f.slot.0)) [
    | inr off ↦ off
    | inl on ↦ (
        let w = in_map found_of (written_in p flushed) f i in
        let r : IsRead p flushed w.0 = is_read p flushed w.0 w.1 in
        let slot : w.0.slot.0 ≡ f.slot.0 = ap (λ (g : Found). g.slot.0) w.2 in
        let both : blank ≡ complete r.reads.bytes r.reads.spare =
        sym (since.was_blank f.slot.0 on) ∙ ap (slot_at flushed) (sym slot) ∙ r.reads.is in
        absurd cc)
  ]

  -- so it is there yet
  there_yet : (f : Found) → Contains was f → Contains now f
  there_yet f i = same_slot p flushed image f since.slots i (since.stays f.slot.0 (does_not_wait f i))

  spared_yet : (f : Found) → Contains (left (is_outside shape block) was) f →
      Contains (left (is_spared waits shape block) now) f
  spared_yet f c =
      let k = from_filter (λ (g : Found). is_outside shape block g.slot.0) f was c in
      in_filter (λ (g : Found). is_spared waits shape block g.slot.0) f now (there_yet f k.0)
      (and_from (not (waits f.slot.0)) (is_outside shape block f.slot.0)
      (ap not (does_not_wait f k.0)) k.1)

  -- a name that counts counted then
  counted_then : (name : Link) → name.page < logical → IsCounted p now logical name → IsCounted p was logical name
  counted_then name low (inl e) = inl (e ∙ since.versions name.page low)
  counted_then name low (inr held) =
      let r = record_named now name in
      let is : name_of r ≡ name = named_name now name in
      let page : r.page ≡ name.page = ap (λ (a : Link). a.page) is in
      let low' : r.page < logical = subst (λ k. k < logical) (sym page) low in
      elim (since.held r low' held) [
        | inl old ↦ inr (
            let here : is_present was name ≡ true = subst (λ u. is_present was u ≡ true) is
            (held_present p was logical r old) in
            subst (λ q. is_held p was logical q ≡ true)
            (sym (among_record was now (among_of was now there_yet) (one_each p now logical map_now) name here)) old)
        | inr above ↦ (
            let bound = held_low p now logical r held in
            let same = since.versions r.page low' in
            absurd (omega arith))
      ]

  pub spared : KeepsCounted p now logical (is_spared waits shape block)
  spared =
      let b : IsCountedKept p was logical (is_outside shape block) =
      counted_names p was logical (is_outside shape block) map_was removable in
      counted_records p now logical (is_spared waits shape block) (records_scanned p image) sound'.written.records
      (record {
        kept = λ name low h c.
            among_present (left (is_outside shape block) was) (left (is_spared waits shape block) now)
            (among_of (left (is_outside shape block) was) (left (is_spared waits shape block) now) spared_yet) name
            (b.kept name low h (counted_then name low c));
      })

pub spared_since_flush : (p : Protocol) → SparedLaw p
spared_since_flush p logical shape flushed image waits block sound sound' since removable =
    spared p logical shape flushed image waits block sound sound' since removable
