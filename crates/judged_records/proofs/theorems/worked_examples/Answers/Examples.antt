-- What the definitions say of a few slots, and of images of a few slots.
use Rattle.judged_records.proofs.Common.{◌≡◌, ◌⊎◌, ℕ, zero, suc, ◌<◌, true, false, ◌&&◌, IsSomeAnd, List, [], ◌∷◌, refl, sym, subst, inl, inr, arith, eqb-true, false≢true, shape_of, Scc, blank, damaged, complete, slot_at, record_of, Found, name_of, is_present, is_held, left, is_outside, written_in, records_in, SlotReads, found_in, current_of, home_of, slot_off, needed_of, garbage_of}
use Rattle.std.proofs.lemmas.List.Elements.{All-from_recursion}
use Rattle.page_record.specs.Spelling.{spelling, CanBeSpelled}
use Rattle.page_record.specs.Rules.{number_at, first_broken}
use Rattle.page_record.proofs.Spellings.{record_of-spelling}
use Rattle.record_list.specs.Current.{IsCurrent}
use Rattle.record_list.specs.Changes.{KeepsCounted}
use Rattle.record_list.specs.Losses.{IsSpared}
use Rattle.judged_records.specs.Images.{array_in}
use Rattle.judged_records.specs.SlotLosses.{LosesSlots}
use Rattle.judged_records.specs.Examples.{DoubledHomes, DoubledGoes, DoubledGarbage, DoubledPinned, MentionsRaised, rec, unread, LeastSlots, WrittenArray}
use Rattle.judged_records.specs.Examples.{config, written, without_aborted, page_0_stays, AbortedMayGo}
use Rattle.judged_records.specs.IndexState.{block_to_go}
use Rattle.judged_records.proofs.OfNotes.FoundIn.{found}

pub doubled_homes : DoubledHomes
unfolding found_in current_of home_of slot_off
doubled_homes = (refl, refl, refl, refl, refl, refl)

pub doubled_goes : DoubledGoes
unfolding found_in block_to_go
doubled_goes = (refl, refl, refl, refl, refl)

pub doubled_garbage : DoubledGarbage
unfolding found_in needed_of garbage_of
doubled_garbage = (refl, refl, refl, refl, refl, refl, refl)

pub doubled_pinned : DoubledPinned
unfolding found_in needed_of
doubled_pinned = (refl, refl, refl)

pub mentions_raised : MentionsRaised
mentions_raised = (refl, refl)

-- an unreadable slot breaks law 1
unread_slot : SlotReads Scc 4 (complete [] []) → ⊥
unfolding record_of
unread_slot reads = reads

misplaced_spelled : CanBeSpelled Scc (rec 9 1 9 1 0)
misplaced_spelled = record {
  page = omega arith;
  next_page = omega arith;
  version_least = omega arith;
  version_most = omega arith;
  next_version_least = omega arith;
  next_version_most = omega arith;
  back = refl;
  count = omega arith;
  discard = λ none. refl;
}

-- and so does a record of a page that does not exist
misplaced_slot : SlotReads Scc 4 (complete [] (spelling Scc (rec 9 1 9 1 0))) → ⊥
misplaced_slot reads =
    let pages = subst (λ o. IsSomeAnd o (λ r. (r.page < 4) × (r.next.page < 4)))
    (record_of-spelling Scc (rec 9 1 9 1 0) misplaced_spelled) reads in
    let below : 9 < 4 = pages.0 in
    absurd (omega arith)

first_blank : (k : ℕ) → k < 1 → SlotReads Scc 4 (slot_at unread k)
first_blank zero less = tt
first_blank (suc k) less = absurd (omega arith)

pub least_slots : LeastSlots
least_slots = (
  inl (record { law = refl; breaks = unread_slot; earlier_slots = first_blank }),
  inl (record { law = refl; breaks = misplaced_slot; earlier_slots = λ k less. absurd (omega arith) }),
)

pub written_array : WrittenArray
unfolding array_in written_in record_of spelling first_broken number_at
written_array = refl

-- the records of the image
written_records : records_in Scc written ≡ found 0 (rec 0 1 0 1 0) ∷ found 1 (rec 1 3 2 7 0) ∷ []
unfolding written_in record_of spelling first_broken number_at
written_records = refl

aborted_lost : LosesSlots page_0_stays written without_aborted
aborted_lost = record { slots = refl; kept = kept; lost = lost }
  where
    kept : (slot : ℕ) → page_0_stays slot ≡ true → slot_at without_aborted slot ≡ slot_at written slot
    kept zero e = refl
    kept (suc slot) e = let is = eqb-true (suc slot) 0 e in absurd (omega arith)

    lost : (slot : ℕ) → page_0_stays slot ≡ false → (slot_at without_aborted slot ≡ blank)
        ⊎ (slot_at without_aborted slot ≡ damaged)
    lost zero e = absurd (false≢true (sym e))
    lost (suc zero) e = inr refl
    lost (suc (suc zero)) e = inl refl
    lost (suc (suc (suc slot))) e = inl refl

-- only the record of page 0 counts
written_spared : IsSpared Scc (found 0 (rec 0 1 0 1 0) ∷ found 1 (rec 1 3 2 7 0) ∷ []) 3
    (shape_of (config Scc)) page_0_stays
written_spared = record { block = 1; exists = omega arith; counted = counted }
  where
    list : List Found
    list = found 0 (rec 0 1 0 1 0) ∷ found 1 (rec 1 3 2 7 0) ∷ []

    uncounted : (◌≡◌ {A = ℕ} 3 0) ⊎ (false ≡ true) → false ≡ true
    uncounted (inl current) = absurd (omega arith)
    uncounted (inr held) = held

    counted : KeepsCounted Scc list 3 (λ slot. page_0_stays slot && is_outside (shape_of (config Scc)) 1 slot)
    counted =
        All-from_recursion (λ f. IsCurrent Scc list 3 f.rec ⊎ (is_held Scc list 3 f.rec ≡ true) →
        is_present (left (λ slot. page_0_stays slot && is_outside (shape_of (config Scc)) 1 slot) list) (name_of f.rec)
        ≡ true) list
        (λ h. refl, (uncounted, tt))

pub aborted_may_go : AbortedMayGo
unfolding array_in written_in record_of spelling first_broken number_at
aborted_may_go = (
  aborted_lost,
  subst (λ l. IsSpared Scc l 3 (shape_of (config Scc)) page_0_stays) (sym written_records) written_spared,
  refl,
  refl,
)
