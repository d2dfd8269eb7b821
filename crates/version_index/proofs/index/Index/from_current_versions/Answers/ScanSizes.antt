-- How many records slots can hold, and when the records of a sorted list agree.
use Rattle.version_index.proofs.Common.{ℕ, ◌+◌, ◌≤◌, Option, List, [], ◌∷◌, length, All, Contains, sym, ap, ◌∙◌, inl, inr, arith, All-contains, IsPermutation-sym, Contains-permutation, all_from, cases_Option, Protocol, Seen, Found, PagesExist, Sorts, NamesAgree}
use Rattle.std.specs.List.{cons_option}
use Rattle.record_list.specs.Records.{IsScanned}
use Rattle.record_list.specs.SoundList.{Pages, IsSoundList}
use Rattle.record_list.specs.Verdict.{record_named}
use Rattle.record_list.proofs.OfFacts.SoundNames.{sound_map}
use Rattle.judged_records.specs.Notes.{complete_slots}
use Rattle.judged_records.proofs.OfNotes.BaseTables.{given}
use Rattle.judged_records.proofs.OfNotes.Scans.{numbered_complete}

given_length : {X Y : Type 0} (of : ℕ × X → Option Y) (n : ℕ) (xs : List X) → length (given of n xs) ≤ length xs
given_length of n [] = omega arith
given_length of n (x ∷ xs) =
    let rest = given_length of (n + 1) xs in
    elim (cases_Option (of (n, x))) [
      | inl none ↦ (let same = ap (λ o. length (cons_option o (given of (n + 1) xs))) none in omega arith)
      | inr some ↦ (let same = ap (λ o. length (cons_option o (given of (n + 1) xs))) some.1 in omega arith)
    ]

-- there are at most as many slots that read complete as slots
pub complete_length : (all : List Seen) → length (complete_slots all) ≤ length all
complete_length all = given_length numbered_complete 0 all

module _ (protocol : Protocol) (list sorted : List Found) (logical : ℕ) (sound : IsSoundList protocol list logical)
    (scanned : IsScanned list)
    (sorts : Sorts list sorted) where
  from_sorted : (f : Found) → Contains sorted f → Contains list f
  from_sorted f i = Contains-permutation sorted list f (IsPermutation-sym list sorted sorts.records) i

  pub sorted_agree : NamesAgree sorted
  sorted_agree f g i j same =
      let m = sound_map protocol list logical sound scanned in
      m.copies f (from_sorted f i) ∙ ap (record_named list) same ∙ sym (m.copies g (from_sorted g j))

  pub sorted_exist : All (PagesExist logical) sorted
  sorted_exist = all_from (PagesExist logical) sorted (λ f i. All-contains (PagesExist logical) list f (sound Pages)
      (from_sorted f i))
