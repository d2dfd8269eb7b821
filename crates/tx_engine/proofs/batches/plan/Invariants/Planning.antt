-- The programs of the chosen transactions are planned die after die: what is left to plan comes to the same.
use Rattle.tx_engine.proofs.Common.{◌≡◌, ◌⊎◌, ℕ, suc, ◌+◌, ◌-◌, ◌<◌, ◌≤◌, true, false, List, [], ◌∷◌, ◌++◌, length, drop, None, Some, sym, ap, ◌∙◌, inl, inr, arith, range_with_len, cases_lt, append_assoc, append-nil, drop_all, drop_more, length-append, Slot, Link, Rec, back_version, found_in, IndexState, name_at, BlocksState, next_slot_in, chosen_from, is_ready, jobs_of, record_due, OpenTransactionsState, no_transaction, transaction_at, Job}
use Rattle.tx_engine.specs.Calls.{IsRecordDue}
use Rattle.tx_engine.specs.Batches.{chosen_in}
use Rattle.tx_engine.proofs.OfStepAll.Chosen.{chosen_ends, chosen_full, chosen_more, chosen_stops}

module _ (n : IndexState) (t : BlocksState) (O : OpenTransactionsState) where
  -- the dies from one of them on
  abbrev pub dies_on : ℕ → List ℕ
  dies_on die = range_with_len die (t.shape.dies - die)

  -- these programs were planned, from the dies before this one
  pub record PlannedTo (jobs : List Job) (die : ℕ) : Type 0 where
    pub planned : jobs ++ jobs_of n (chosen_from n t (dies_on die) (drop (length jobs) O.all))
        ≡ jobs_of n (chosen_in n t O.all)
    pub few : length jobs ≤ die
    pub within : length jobs ≤ length O.all

  next_dies : (die : ℕ) → die < t.shape.dies → dies_on die ≡ die ∷ dies_on (die + 1)
  next_dies die low = ap (range_with_len die) (let more : t.shape.dies - die ≡ suc (t.shape.dies - (die + 1)) = omega
      arith in more)

  module _ (jobs : List Job) (die : ℕ) (h : PlannedTo jobs die) where
    -- no transaction more is ready, or none is left
    pub planned_stops : (length jobs ≡ length O.all) ⊎ (is_ready n (transaction_at O (length jobs)) ≡ false) →
        jobs ≡ jobs_of n (chosen_in n t O.all)
    planned_stops why =
        let none : chosen_from n t (dies_on die) (drop (length jobs) O.all) ≡ [] = elim why [
          | inl all ↦ ap (chosen_from n t (dies_on die)) (drop_all (length jobs) O.all (omega (arith, all)))
              ∙ chosen_ends n t (dies_on die)
          | inr fails ↦ elim (cases_lt (length jobs) (length O.all)) [
            | inr past ↦ ap (chosen_from n t (dies_on die)) (drop_all (length jobs) O.all past)
                ∙ chosen_ends n t (dies_on die)
            | inl less ↦ ap (chosen_from n t (dies_on die)) (drop_more O.all (length jobs) no_transaction less)
                ∙ chosen_stops n t (dies_on die) (transaction_at O (length jobs)) (drop (length jobs + 1) O.all) fails
          ]
        ] in
        sym (append-nil jobs) ∙ ap (λ chosen. jobs ++ jobs_of n chosen) (sym none) ∙ h.planned

    -- no die is left
    pub planned_all : t.shape.dies ≤ die → jobs ≡ jobs_of n (chosen_in n t O.all)
    planned_all past =
        let none : dies_on die ≡ [] = ap (range_with_len die)
        (let zero_left : t.shape.dies - die ≡ 0 = omega arith in zero_left) in
        sym (append-nil jobs) ∙ ap (λ dies. jobs ++ jobs_of n (chosen_from n t dies (drop (length jobs) O.all)))
        (sym none) ∙ h.planned

    -- the die has no room
    pub planned_full : die < t.shape.dies → next_slot_in t die ≡ None → PlannedTo jobs (die + 1)
    planned_full low none = record {
      planned = ap (λ chosen. jobs ++ jobs_of n chosen)
          (sym (ap (λ dies. chosen_from n t dies (drop (length jobs) O.all)) (next_dies die low)
          ∙ chosen_full n t die (dies_on (die + 1)) (drop (length jobs) O.all) none)) ∙ h.planned;
      few = let few = h.few in omega arith;
      within = h.within;
    }

    -- the next transaction has it
    pub planned_more : (at : Slot) (job : Job) → die < t.shape.dies → length jobs < length O.all →
        next_slot_in t die ≡ Some at →
        is_ready n (transaction_at O (length jobs)) ≡ true →
        job ≡ record { slot = at; rec = record_due n (transaction_at O (length jobs)) } →
        PlannedTo (jobs ++ job ∷ []) (die + 1)
    planned_more at job low less some passes is =
        let o = transaction_at O (length jobs) in
        let rest = drop (length jobs + 1) O.all in
        let long : length (jobs ++ job ∷ []) ≡ length jobs + 1 = length-append jobs (job ∷ []) in
        let here : chosen_from n t (dies_on die) (drop (length jobs) O.all) ≡ (at, o)
        ∷ chosen_from n t (dies_on (die + 1)) rest =
        ap (λ dies. chosen_from n t dies (drop (length jobs) O.all)) (next_dies die low)
        ∙ ap (chosen_from n t (die ∷ dies_on (die + 1))) (drop_more O.all (length jobs) no_transaction less)
        ∙ chosen_more n t die (dies_on (die + 1)) at o rest some passes in
        record {
          planned =
              let later = jobs_of n (chosen_from n t (dies_on (die + 1)) rest) in
              ap (λ k. (jobs ++ job ∷ []) ++ jobs_of n (chosen_from n t (dies_on (die + 1)) (drop k O.all))) long
              ∙ append_assoc jobs (job ∷ []) later ∙ ap (λ (j : Job). jobs ++ j ∷ later) is
              ∙ ap (λ chosen. jobs ++ jobs_of n chosen) (sym here) ∙ h.planned;
          few = let few = h.few in omega (arith, long);
          within = omega (arith, long);
        }

-- the record that is due, by its parts
pub record_is : (n : IndexState) (O : OpenTransactionsState) (at : ℕ) (rec : Rec) → IsRecordDue n O at rec →
    rec ≡ record_due n (transaction_at O at)
record_is n O at rec h =
    let o = transaction_at O at in
    let name = name_at o.naming o.entry.done in
    let page : rec.page ≡ name.page = ap (λ (a : Link). a.page) h.named in
    let version : rec.version ≡ name.version = ap (λ (a : Link). a.version) h.named in
    let back : rec.back ≡ back_version n.config.protocol (found_in n.notes) n.config.logical name.page =
    h.back ∙ ap (back_version n.config.protocol (found_in n.notes) n.config.logical) page in
    λ k. record {
      page = page k;
      version = version k;
      next = h.next k;
      back = back k;
      count = h.counts k;
      discard = h.discard k;
    }
