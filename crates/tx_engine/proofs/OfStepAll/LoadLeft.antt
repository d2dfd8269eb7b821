-- One of several programs that are done together: how it leaves a device, whole, damaged or blank, over states in which
-- no flash was.
use Rattle.tx_engine.proofs.Common.{◌≡◌, ◌≢◌, ℕ, ◌<◌, true, List, length, All, Some, None, refl, sym, ap, ◌∙◌, subst, arith, is_none, get_or-set_same, All-from_get_or, PageWrite, bytes_in, no_write, slots_of, Protocol, Shape, Slot, Rec, Outcome, FlashState, Contents, IsImage, blank, damaged, complete, slot_at, CanDo, image_left, load_left, program, CanBeSpelled, spelling, is_present, name_of, back_version, text_at, ImagePartialLaw, ImageCompletingLaw, array_in, records_in, written_in, found_in, IsNextRecord, IndexState, block_to_go, damaged_at, programmed, BlocksState, IsFree, with_slot, Unsure, array_known, ArrayStays, ImageIsSound, NotingKeeps, Matches, CanTakeOwn, KeepsArray, Preserves, Settlement, matches_still, IsJobDue, load_of, OpenTransactionsState, TransactionState, bytes_due, entries_of, namings_of, no_transaction, transaction_at, with_transaction, with_next, DoubtsAs, IsNamed, name_at, text_in, text_with, write_at, Job}
use Rattle.record_list.specs.Current.{cur, is_held}
use Rattle.std.proofs.lemmas.List.Elements.{All-get_or}
use Rattle.flash_model.specs.declared.outcome.Outcome.TheVariants as outcome
use Rattle.flash_model.proofs.ImageLemmas.{IsImage-left}
use Rattle.page_record.proofs.Spellings.{length-spelling}
use Rattle.judged_records.proofs.OfNotes.FoundIn.{found_in_damaged}
use Rattle.collector.specs.declared.unsure.Settled.TheVariants as found
use Rattle.collector.specs.declared.unsure.Unsure.TheVariants as unsure
use Rattle.collector.specs.Settling.{own_settled}
use Rattle.tx_engine.specs.Settling.{link_place}
use Rattle.tx_engine.proofs.OfSettle.NextNoted.{IsNextOf, next_kept}
use Rattle.tx_engine.proofs.OfSettle.SettledLists.{CalmBeside, calm_at}
use Rattle.tx_engine.proofs.OfDevice.ImageMoves.{KeepsNoted, image_array, image_transaction, image_under}
use Rattle.tx_engine.proofs.OfDevice.Kept.{BlocksInvariant, IsTransaction, kept_still, nothing_no_own}
use Rattle.tx_engine.proofs.OfStep.NextRecord.{due_named, due_under, next_record, next_take, next_can_be_spelled}
use Rattle.tx_engine.proofs.OfWrite.Programs.{IsWritten, IsLeft, free_program, is_left, is_written, left_unsure}
use Rattle.tx_engine.proofs.OfWrite.RecordWrites.{free_within}
use Rattle.tx_engine.proofs.OfWrite.WriteExits.{due_text}

-- what holds of the records, images and arrays of a protocol
pub record HasLaws (p : Protocol) : Type 0 where
  pub images : ImageIsSound p
  pub notes : NotingKeeps p
  pub arrays : ArrayStays p
  pub partial : ImagePartialLaw p
  pub completing : ImageCompletingLaw p

-- a device stands over each state with the same image
pub kept_same : (s s' : FlashState) (n : IndexState) (t : BlocksState) (u : Unsure) (O : OpenTransactionsState) →
    s'.shape ≡ s.shape → s'.image ≡ s.image →
    BlocksInvariant s n t u O → BlocksInvariant s' n t u O
kept_same s s' n t u O shape image k = record {
  matches = matches_still s s' n t u shape image k.matches;
  each = subst (λ im. All (IsTransaction im n) O.all) (sym image) k.each;
  doubt = subst (λ im. DoubtsAs im n (entries_of O) (namings_of O) u) (sym image) k.doubt;
  tags = k.tags;
  apart = k.apart;
  few = k.few;
  pinned = k.pinned;
}

module _ (n : IndexState) (t : BlocksState) (O : OpenTransactionsState) (i : ℕ) (job : Job)
    (h : IsJobDue n t O i job) where
  abbrev its_transaction : TransactionState
  its_transaction = transaction_at O i

  pub job_name : name_of job.rec ≡ name_at its_transaction.naming its_transaction.entry.done
  job_name = ap name_of h.its

  pub job_link : job.rec.next ≡ name_at its_transaction.naming (link_place its_transaction.entry)
  job_link = ap (λ (q : Rec). q.next) h.its

  pub job_back : job.rec.back ≡ back_version n.config.protocol (found_in n.notes) n.config.logical job.rec.page
  job_back = ap (λ (q : Rec). q.back) h.its
      ∙ ap (λ (q : Rec). back_version n.config.protocol (found_in n.notes) n.config.logical q.page) (sym h.its)

  pub job_count : job.rec.count ≡ length its_transaction.entry.writes
  job_count = ap (λ (q : Rec). q.count) h.its

  pub job_flag : job.rec.discard ≡ is_none (write_at its_transaction.entry its_transaction.entry.done).value
  job_flag = ap (λ (q : Rec). q.discard) h.its

  pub job_clear : block_to_go n job.rec.page job.rec.version ≡ None
  job_clear = ap (λ (q : Rec). block_to_go n q.page q.version) h.its ∙ h.clear

module _ (s : FlashState) (n : IndexState) (t : BlocksState) (O : OpenTransactionsState) (i : ℕ) (job : Job)
    (laws : HasLaws n.config.protocol)
    (k : BlocksInvariant s n t unsure.Nothing O) (size : O.page_bytes ≡ n.config.page_bytes)
    (h : IsJobDue n t O i job) where
  abbrev p : Protocol
  p = n.config.protocol

  abbrev o : TransactionState
  o = transaction_at O i

  abbrev at : Slot
  at = job.slot

  abbrev r : Rec
  r = job.rec

  abbrev bytes : List ℕ
  bytes = bytes_due O i

  m : Matches s n t unsure.Nothing
  m = k.matches

  free : IsFree t at.0
  free = h.first.free

  abbrev pub job_next : IsNextRecord n r
  job_next = next_record s n t O i k h.due.exists h.due.plain h.due.unnoted r (job_name n t O i job h)
      (job_link n t O i job h) (job_back n t O i job h)
      (job_count n t O i job h) (job_clear n t O i job h)

  pub job_take : CanTakeOwn n t r
  job_take = next_take s n t O i k h.due.exists h.due.plain h.due.unnoted r (job_name n t O i job h)
      (job_link n t O i job h) (job_back n t O i job h)
      (job_count n t O i job h) (job_clear n t O i job h)

  pub job_spelled : CanBeSpelled p r
  job_spelled =
      next_can_be_spelled s n t O i k h.due.exists h.due.plain h.due.unnoted r (job_name n t O i job h)
      (job_link n t O i job h) (job_back n t O i job h)
      (job_count n t O i job h) (job_clear n t O i job h)

  pub job_named : IsNamed n.config.page_bytes n.config.logical o.entry o.naming
  job_named = due_named s n t O i k h.due.exists h.due.plain h.due.unnoted

  pub job_page : length bytes ≡ n.config.page_bytes
  job_page =
      ap (λ size. length (bytes_in size (write_at o.entry o.entry.done))) size
      ∙ All-get_or (λ (w : PageWrite). length (bytes_in n.config.page_bytes w) ≡ n.config.page_bytes) o.entry.writes
      o.entry.done no_write job_named.within
      job_named.whole

  pub job_within : at.0 < length s.image
  job_within = free_within s n t unsure.Nothing m at.0 h.first

  pub job_can : CanDo s.shape s.image (program at.0 bytes (spelling p r))
  job_can = (
    free_program s n t m at.0 free,
    job_page ∙ ap (λ (sh : Shape). sh.page_bytes) (sym m.shape),
    length-spelling p r,
  )

  job_text : text_with r bytes ≡ text_in n.config.page_bytes (write_at o.entry o.entry.done)
  job_text = due_text O.page_bytes o.entry r (job_flag n t O i job h)
      ∙ ap (λ size. text_in size (write_at o.entry o.entry.done)) size

  same_left : (how : Outcome) → load_left s.image (load_of n job bytes) how
      ≡ image_left s.shape s.image (program at.0 bytes (spelling p r)) how
  same_left outcome.None = refl
  same_left outcome.All = refl
  same_left outcome.Bad = refl

  abbrev Leaves : List Contents → Type 0
  Leaves image = IsLeft s n t m at r free job_take job_spelled bytes image

  left_all : (how : Outcome) → Leaves (load_left s.image (load_of n job bytes) how)
  left_all how = subst Leaves (sym (same_left how)) (is_left s n t m at r free job_take job_spelled bytes laws.partial
      laws.completing how)

  module _ (s' : FlashState) (shape : s'.shape ≡ s.shape) (how : Outcome)
      (image : s'.image ≡ load_left s.image (load_of n job bytes) how) where
    leaves : Leaves s'.image
    leaves = subst Leaves (sym image) (left_all how)

    -- each name that is noted keeps its text
    pub left_stay : KeepsNoted n s.image s'.image
    left_stay name there = leaves.stay name (subst (λ l. is_present l name ≡ true)
        (sym (laws.images.records s n t unsure.Nothing m tt refl)) there)

    unknown : Matches s' n t (unsure.Own at r)
    unknown = left_unsure s n t m at r free job_take job_spelled bytes s' shape
        (subst (IsImage s.shape) (sym (image ∙ same_left how))
        (IsImage-left s.shape s.image (program at.0 bytes (spelling p r)) how m.flash job_can)) leaves

    abbrev settled_by : Contents → Settlement
    settled_by c = own_settled n t at.0 (λ q. programmed q at.0 r) c

    left_matches : (c : Contents) → slot_at s'.image at.0 ≡ c →
        Matches s' (settled_by c).noted (settled_by c).table unsure.Nothing
    left_matches c is = subst (λ (x : Contents). Matches s' (settled_by x).noted (settled_by x).table unsure.Nothing) is
        (laws.images.matches s' n t (unsure.Own at r) unknown job_take refl)

    left_records : (c : Contents) → slot_at s'.image at.0 ≡ c →
        records_in p s'.image ≡ found_in (settled_by c).noted.notes
    left_records c is = laws.images.records s' n t (unsure.Own at r) unknown job_take refl
        ∙ ap (λ (x : Contents). found_in (settled_by x).noted.notes) is

    each_left : All (IsTransaction s'.image n) O.all
    each_left = All-from_get_or (IsTransaction s'.image n) O.all no_transaction
        (λ j inside. image_transaction n s.image s'.image left_stay (transaction_at O j)
        (k.each j no_transaction inside))

  calm : CalmBeside O.all i
  calm j inside other = calm_at O.all k.doubt j inside

  -- It is whole
  module _ (s' : FlashState) (shape : s'.shape ≡ s.shape)
      (image : s'.image ≡ load_left s.image (load_of n job bytes) outcome.All) where
    here : slot_at s'.image at.0 ≡ complete bytes (spelling p r)
    here = ap (λ im. slot_at im at.0) image ∙ get_or-set_same s.image at.0 (complete bytes (spelling p r))
        blank job_within

    its_written : IsWritten s n t m at r free job_take job_spelled bytes
    its_written = is_written s n t m at r free job_take job_spelled bytes laws.partial laws.completing

    come : text_at (written_in p s'.image) (name_of r) ≡ Some (text_with r bytes)
    come = ap (λ im. text_at (written_in p im) (name_of r)) image ∙ its_written.come

    pub whole_next : IsNextOf p n at.0 r s'.image o
    whole_next = record {
      noted = m.noted;
      rule = refl;
      next = job_next;
      within = omega (arith, free.within, ap slots_of m.blocks, ap slots_of m.shape);
      was = m.free at.0 free;
      named = job_named;
      under = image_under n s.image s'.image (left_stay s' shape outcome.All image) o.entry o.naming
          (due_under s n t O i k h.due.exists h.due.plain h.due.unnoted);
      its = refl;
      due = h.due.unnoted;
      name = job_name n t O i job h;
      come = come ∙ ap Some job_text;
      plain = λ more. h.due.plain;
    }

    pub whole_kept : BlocksInvariant s' (programmed n at.0 r) (with_slot t at.0) unsure.Nothing
        (with_transaction O i (with_next o))
    whole_kept =
        next_kept p laws.notes s s' n t (with_slot t at.0) unsure.Nothing O i at.0 r k h.due.exists
        (each_left s' shape outcome.All image) calm whole_next
        (left_matches s' shape outcome.All image (complete bytes (spelling p r)) here)

  -- It is damaged
  module _ (s' : FlashState) (shape : s'.shape ≡ s.shape)
      (image : s'.image ≡ load_left s.image (load_of n job bytes) outcome.Bad) where
    spoilt : slot_at s'.image at.0 ≡ damaged
    spoilt = ap (λ im. slot_at im at.0) image ∙ get_or-set_same s.image at.0 damaged blank job_within

    preserved : Preserves n (damaged_at n at.0) × (array_in p n.config.logical s'.image ≡ array_known n s'.image)
    preserved =
        let answers : (settled_by s' shape outcome.Bad image (slot_at s'.image at.0)).answer ≢ found.Present = λ is.
        (let no : found.Missing ≡ found.Present = ap (λ c. (settled_by s' shape outcome.Bad image c).answer)
        (sym spoilt) ∙ is in cc) in
        subst (λ c. Preserves n (settled_by s' shape outcome.Bad image c).noted
        × (array_in p n.config.logical s'.image ≡ array_known n s'.image)) spoilt
        (laws.images.preserves s' n t (unsure.Own at r) (unknown s' shape outcome.Bad image) job_take refl answers)

    pub damaged_records : found_in (damaged_at n at.0).notes ≡ found_in n.notes
    damaged_records = found_in_damaged n.notes at.0
        (omega (arith, free.within, ap slots_of m.blocks, ap slots_of m.shape, m.noted.slots)) (m.free at.0 free)

    same_found : records_in p s'.image ≡ records_in p s.image
    same_found = left_records s' shape outcome.Bad image damaged spoilt ∙ damaged_records
        ∙ sym (laws.images.records s n t unsure.Nothing m tt refl)

    same_array : KeepsArray p n.config.logical s.image s'.image
    same_array = record {
      array = preserved.1 ∙ image_array n s.image s'.image (left_stay s' shape outcome.Bad image) m.noted
          ∙ sym (laws.images.array s n t unsure.Nothing m tt refl);
      versions = λ page low. ap (λ l. cur p l n.config.logical page) same_found;
      held = λ rec held. ap (λ l. is_held p l n.config.logical rec) (sym same_found) ∙ held;
      texts = λ name there. left_stay s' shape outcome.Bad image name
          (subst (λ l. is_present l name ≡ true) (left_records s' shape outcome.Bad image damaged spoilt
          ∙ damaged_records) there);
    }

    pub spoilt_preserves : Preserves n (damaged_at n at.0)
    spoilt_preserves = preserved.0

    pub spoilt_kept : BlocksInvariant s' (damaged_at n at.0) (with_slot t at.0) unsure.Nothing O
    spoilt_kept =
        kept_still s s' n (damaged_at n at.0) t (with_slot t at.0) unsure.Nothing unsure.Nothing O laws.arrays k
        nothing_no_own nothing_no_own
        (left_matches s' shape outcome.Bad image damaged spoilt) preserved.0 same_array

    pub spoilt_pages : array_known (damaged_at n at.0) s'.image ≡ array_known n s.image
    spoilt_pages = laws.arrays.array s s' n (damaged_at n at.0) t (with_slot t at.0) unsure.Nothing unsure.Nothing m
        (left_matches s' shape outcome.Bad image damaged spoilt) refl preserved.0 same_array
