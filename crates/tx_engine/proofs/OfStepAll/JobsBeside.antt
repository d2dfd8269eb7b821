-- The programs of other transactions that are done together with one stay as they were asked for, whether it is whole
-- or damaged.
use Rattle.tx_engine.proofs.Common.{◌≡◌, ◌≢◌, ℕ, ◌+◌, ◌<◌, false, List, [], ◌∷◌, length, All, Contains, None, refl, sym, ap, ap₂, ◌∙◌, subst, inl, inr, arith, cases_eq, All-contains, All-head, All-tail, all_from, spelling, bytes_in, Config, Shape, Link, FlashState, Load, die_of, load_left, Found, name_of, found_in, IndexState, block_to_go, damaged_at, programmed, BlocksState, with_slot, AreJobsDue, IsJobDue, load_of, loads_for, record_due, OpenTransactionsState, TransactionState, HasPlace, bytes_due, name_due, no_transaction, transaction_at, Stands, name_at, no_name, write_at, StoreState, device_in, Job}
use Rattle.flash_model.specs.declared.outcome.Outcome.TheVariants as outcome
use Rattle.record_list.specs.Records.{mentions_below}
use Rattle.record_list.specs.SoundList.{Pages, PagesExist}
use Rattle.record_list.proofs.OfChanges.OneMore.{inserted_in}
use Rattle.judged_records.proofs.OfNotes.FoundIn.{found, found_in_programmed}
use Rattle.collector.specs.declared.unsure.Unsure.TheVariants as unsure
use Rattle.tx_engine.proofs.OfSettle.NextNoted.{apart_at, last_elsewhere, next_stays, next_versions}
use Rattle.tx_engine.proofs.OfDevice.Arrays.{as_many_names}
use Rattle.tx_engine.proofs.OfDevice.Kept.{BlocksInvariant, from_stands}
use Rattle.tx_engine.proofs.OfDevice.Noting.{next_named}
use Rattle.tx_engine.proofs.OfStepAll.JobsStay.{KeepsOff, blocks_apart, clear_off, due_off, first_off, mentions_off}
use Rattle.tx_engine.proofs.OfStepAll.LoadLeft.{HasLaws, damaged_records, left_stay, spoilt_preserves, whole_next}

-- each record that is noted is of a page that exists
pub pages_low : (s : FlashState) (n : IndexState) (t : BlocksState) (O : OpenTransactionsState) →
    BlocksInvariant s n t unsure.Nothing O →
    All (λ f. f.rec.page < n.config.logical) (found_in n.notes)
pages_low s n t O k = all_from (λ (f : Found). f.rec.page < n.config.logical) (found_in n.notes)
    (λ f i. (All-contains (PagesExist n.config.logical) (found_in n.notes) f (k.matches.noted.sound Pages) i).0)

module _ (s : FlashState) (n : IndexState) (t : BlocksState) (O : OpenTransactionsState)
    (k : BlocksInvariant s n t unsure.Nothing O) (j : ℕ) (within : j < length O.all) where
  abbrev other : TransactionState
  other = transaction_at O j

  inside : other.entry.done < length other.naming.names
  inside = let named = (k.each j no_transaction within).named in
      omega (arith, named.within, as_many_names other.naming.names other.entry.writes named.pages)

  pub due_low : (name_due O j).page < n.config.logical
  due_low = ((k.each j no_transaction within).named.transaction.in_range other.entry.done no_name inside).0

  -- no name of another transaction is of the page that it writes next
  pub names_off : (i : ℕ) → i < length O.all → j ≢ i →
      All (λ a. a.page ≢ (name_due O j).page) (transaction_at O i).naming.names
  names_off i at apart = λ a d low. apart_at O.all i j k.apart at within apart a d low other.entry.done no_name inside

-- the page that an open transaction writes next
pub next_place : {F : Type 0} (state : F → FlashState) (S : StoreState F) (O : OpenTransactionsState) →
    Stands state (device_in state S O) → (i : ℕ) → i < length O.all →
    HasPlace O i (transaction_at O i).entry.done
next_place state S O h i within = record {
  exists = within;
  within = ((from_stands state S O h).each i no_transaction within).named.within;
}

pub next_low : {F : Type 0} (state : F → FlashState) (S : StoreState F) (O : OpenTransactionsState) →
    Stands state (device_in state S O) → (i : ℕ) → i < length O.all →
    (name_due O i).page < S.noted.config.logical
next_low state S O h i within =
    let o = transaction_at O i in
    let named = ((from_stands state S O h).each i no_transaction within).named in
    (named.transaction.in_range o.entry.done no_name
    (omega (arith, named.within, as_many_names o.naming.names o.entry.writes named.pages))).0

-- what a table keeps of the jobs of other transactions
module _ (n n' : IndexState) (t : BlocksState) (O O' : OpenTransactionsState) (shape : Shape)
    (same_shape : t.shape ≡ shape) (i : ℕ) (at : ℕ)
    (low : All (λ f. f.rec.page < n.config.logical) (found_in n.notes)) (off : (j : ℕ) → j < length O.all → j ≢ i →
    KeepsOff n n' (name_due O j).page)
    (opens : (j : ℕ) → j ≢ i → transaction_at O' j ≡ transaction_at O j) (long : length O'.all ≡ length O.all) where
  job_beside : (j : ℕ) (job : Job) → j ≢ i → die_of shape at < die_of shape job.slot.0 → IsJobDue n t O j job →
      IsJobDue n' (with_slot t at) O' j job
  job_beside j job other less h =
      let same = opens j other in
      let keeps = off j h.due.exists other in
      record {
        due = record {
          exists = subst (λ len. j < len) (sym long) h.due.exists;
          plain = ap (λ (x : TransactionState). x.entry.mark) same ∙ h.due.plain;
          unnoted = ap (λ (x : TransactionState). x.naming.noted_count) same ∙ h.due.unnoted
              ∙ ap (λ (x : TransactionState). x.entry.done) (sym same);
        };
        clear = subst (λ (x : TransactionState). block_to_go n' (name_at x.naming x.entry.done).page
            (name_at x.naming x.entry.done).version ≡ None) (sym same)
            (clear_off n n' (name_due O j).page (name_due O j).version keeps low h.clear);
        its = h.its ∙ sym (due_off n n' (transaction_at O j) keeps) ∙ ap (record_due n') (sym same);
        first = first_off t at job.slot.0
            (blocks_apart t.shape at job.slot.0 (subst (λ (sh : Shape). die_of sh at < die_of sh job.slot.0)
            (sym same_shape) less)) h.first;
      }

  pub jobs_beside : (jobs : List Job) (j : ℕ) → i < j → All (λ job. die_of shape at < die_of shape job.slot.0) jobs →
      AreJobsDue n t O j jobs →
      AreJobsDue n' (with_slot t at) O' j jobs
  jobs_beside [] j less dies h = tt
  jobs_beside (job ∷ jobs) j less dies h = (
    job_beside j job (λ same. absurd (omega arith)) (All-head (λ (x : Job). die_of shape at < die_of shape x.slot.0) job
        jobs dies) h.0,
    jobs_beside jobs (j + 1) (omega arith) (All-tail (λ (x : Job). die_of shape at < die_of shape x.slot.0) job
        jobs dies) h.1,
  )

-- what is loaded for them is the same
pub loads_beside : (n n' : IndexState) (O O' : OpenTransactionsState) (i : ℕ) → n'.config ≡ n.config →
    O'.page_bytes ≡ O.page_bytes →
    ((j : ℕ) → j ≢ i → transaction_at O' j ≡ transaction_at O j) → (jobs : List Job) (j : ℕ) → i < j →
    loads_for n' O' j jobs ≡ loads_for n O j jobs
loads_beside n n' O O' i config size opens [] j less = refl
loads_beside n n' O O' i config size opens (job ∷ jobs) j less =
    let bytes : bytes_due O' j ≡ bytes_due O j =
    ap (λ (x : TransactionState). bytes_in O'.page_bytes (write_at x.entry x.entry.done))
    (opens j (λ same. absurd (omega arith)))
    ∙ ap (λ size. bytes_in size (write_at (transaction_at O j).entry (transaction_at O j).entry.done)) size in
    let head : load_of n' job (bytes_due O' j) ≡ load_of n job (bytes_due O j) =
    ap (λ bs. load_of n' job bs) bytes
    ∙ ap (λ (c : Config). record { at = job.slot.0; bytes = bytes_due O j; spare_area = spelling c.protocol job.rec })
    config in
    ap₂ (λ (x : Load) xs. x ∷ xs) head (loads_beside n n' O O' i config size opens jobs (j + 1) (omega arith))

module _ (s : FlashState) (n : IndexState) (t : BlocksState) (O : OpenTransactionsState) (i : ℕ) (job : Job)
    (laws : HasLaws n.config.protocol)
    (k : BlocksInvariant s n t unsure.Nothing O) (size : O.page_bytes ≡ n.config.page_bytes) (h : IsJobDue n t O i job)
    (s' : FlashState) (shape : s'.shape ≡ s.shape)
  where
    -- the program is whole
    pub whole_off : s'.image ≡ load_left s.image (load_of n job (bytes_due O i)) outcome.All → (j : ℕ) →
        j < length O.all → j ≢ i →
        KeepsOff n (programmed n job.slot.0 job.rec) (name_due O j).page
    whole_off image j within other =
        let next = whole_next s n t O i job laws k size h s' shape image in
        let stay = left_stay s n t O i job laws k size h s' shape outcome.All image in
        let o = transaction_at O i in
        let page = (name_due O j).page in
        let low = due_low s n t O k j within in
        let apart = names_off s n t O k j within i h.due.exists other in
        let names = next_named n job.rec next.next in
        let own : job.rec.page ≢ page = All-contains (λ (a : Link). a.page ≢ page) o.naming.names
        (name_of job.rec) apart
        (subst (λ all. Contains all (name_of job.rec)) next.its names.0) in
        let link : job.rec.next.page ≢ page = All-contains (λ (a : Link). a.page ≢ page) o.naming.names
        job.rec.next apart
        (subst (λ all. Contains all job.rec.next) next.its names.1) in
        let inside : job.slot.0 < length n.notes = omega (arith, next.within, next.noted.slots) in
        record {
          config = refl;
          records = λ below f in_new. elim (inserted_in (found_in n.notes)
              (found_in (programmed n job.slot.0 job.rec).notes) (found job.slot.0 job.rec)
              (found_in_programmed n.notes job.slot.0 job.rec inside next.was) f in_new) [
                | inl same ↦ inr (subst (λ (g : Found). mentions_below page below g.rec ≡ false) same
                    (mentions_off page below job.rec own link))
                | inr was ↦ inl (f, was, refl)
              ];
          rises = λ p p_low. elim (next_versions n.config.protocol laws.notes n job.slot.0 job.rec s.image s'.image o
              next stay p p_low) [
                | inl rose ↦ omega arith
                | inr same ↦ omega (arith, same.0)
              ];
          stays = elim (cases_eq (o.entry.done + 1) (length o.entry.writes)) [
            | inl last ↦ last_elsewhere n.config.protocol laws.notes n job.slot.0 job.rec s.image s'.image o next last
                page low apart
            | inr more ↦ next_stays n.config.protocol laws.notes n job.slot.0 job.rec s.image s'.image o
                next more page low
          ];
        }

    -- its slot is damaged
    pub spoilt_off : s'.image ≡ load_left s.image (load_of n job (bytes_due O i)) outcome.Bad → (j : ℕ) →
        j < length O.all → j ≢ i →
        KeepsOff n (damaged_at n job.slot.0) (name_due O j).page
    spoilt_off image j within other =
        let keeps = spoilt_preserves s n t O i job laws k size h s' shape image in
        let same = damaged_records s n t O i job laws k size h s' shape image in
        record {
          config = refl;
          records = λ below f in_new. inl (f, subst (λ l. Contains l f) same in_new, refl);
          rises = λ p p_low. let is = keeps.current p p_low in omega (arith, is);
          stays = keeps.current (name_due O j).page (due_low s n t O k j within);
        }
