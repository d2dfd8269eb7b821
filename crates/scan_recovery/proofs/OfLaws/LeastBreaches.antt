-- The least breach of a list that keeps laws 1 and 2, from searches by its records in order of their names.
use Rattle.scan_recovery.proofs.Common.{ℕ, Some, None, List, All, refl, Protocol, Slot, Found, IsScanned, Pages, Copies, Links, Present, Loose, Ending, CopiesAgree, LinksDiffer, CurrentIsPresent, LinkHasCounted, LooseIsShown, LooseEnds, IsSoundList, FindsFirst, Sorts}
use Rattle.record_list.specs.SoundList.{Counted, Keeps, PagesExist}
use Rattle.record_list.specs.SoundList.{IsLeastBreach}
use Rattle.record_list.proofs.OfFacts.Breaches.{breach, before_links, breach_of_current, breach_of_counted}
use Rattle.bpcc_commit.proofs.LooseBreaches.{breach_of_loose, breach_of_ending}
use Rattle.scan_recovery.specs.Searches.{FindsLowest}
use Rattle.scan_recovery.proofs.OfLaws.LawsAlike.{finds_alike, current_same, counted_same, shown_same, ends_same}

module _ (p : Protocol) (list sorted : List Found) (logical : ℕ) (scanned : IsScanned list) (sorts : Sorts list sorted)
    (pages : All (PagesExist logical) list) (copies : All (CopiesAgree list) list) where
  pub least_links : (slot : Slot) → FindsLowest (LinksDiffer list) list (Some slot) →
      IsLeastBreach p list logical (record { law = 3; slot = slot })
  least_links slot finds = record {
    law = Links;
    law_number = refl;
    breaks = finds.0;
    earlier_laws = before_links (λ l. All (Keeps p list logical l) list) pages copies;
    earlier_slots = finds.1;
  }

  pub least_current : (at : ℕ) → FindsLowest (LinksDiffer list) list None →
      FindsFirst (CurrentIsPresent p sorted logical) list (Some at) →
      IsLeastBreach p list logical (breach 4 list at)
  least_current at links finds =
      breach_of_current p list logical at scanned pages copies links
      (finds_alike _ _ list (Some at) (current_same list sorted logical sorts p) finds)

  module _ (links : FindsLowest (LinksDiffer list) list None)
      (present : FindsFirst (CurrentIsPresent p sorted logical) list None) where
    present_too : All (CurrentIsPresent p list logical) list
    present_too = finds_alike _ _ list None (current_same list sorted logical sorts p) present

    pub least_counted : (at : ℕ) → FindsFirst (LinkHasCounted p sorted logical) list (Some at) →
        IsLeastBreach p list logical (breach 5 list at)
    least_counted at finds =
        breach_of_counted p list logical at scanned pages copies links present_too
        (finds_alike _ _ list (Some at) (counted_same list sorted logical sorts p) finds)

    module _ (counted : FindsFirst (LinkHasCounted p sorted logical) list None) where
      counted_too : All (LinkHasCounted p list logical) list
      counted_too = finds_alike _ _ list None (counted_same list sorted logical sorts p) counted

      pub least_loose : (at : ℕ) → FindsFirst (LooseIsShown p sorted logical) list (Some at) →
          IsLeastBreach p list logical (breach 6 list at)
      least_loose at finds =
          breach_of_loose p list logical at scanned pages copies links present_too counted_too
          (finds_alike _ _ list (Some at) (shown_same list sorted logical sorts p) finds)

      module _ (loose : FindsFirst (LooseIsShown p sorted logical) list None) where
        loose_too : All (LooseIsShown p list logical) list
        loose_too = finds_alike _ _ list None (shown_same list sorted logical sorts p) loose

        pub least_ending : (at : ℕ) → FindsFirst (LooseEnds p sorted logical) list (Some at) →
            IsLeastBreach p list logical (breach 7 list at)
        least_ending at finds =
            breach_of_ending p list logical at scanned pages copies links present_too counted_too loose_too
            (finds_alike _ _ list (Some at) (ends_same list sorted logical sorts p) finds)

        pub sound_list : FindsFirst (LooseEnds p sorted logical) list None → IsSoundList p list logical
        sound_list ending Pages = pages
        sound_list ending Copies = copies
        sound_list ending Links = links
        sound_list ending Present = present_too
        sound_list ending Counted = counted_too
        sound_list ending Loose = loose_too
        sound_list ending Ending = finds_alike _ _ list None (ends_same list sorted logical sorts p) ending
