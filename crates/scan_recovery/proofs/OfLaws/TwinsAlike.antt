-- The lowest record of a name is the first of it among the records in order of their names.
use Rattle.scan_recovery.proofs.Common.{◌≡◌, ℕ, ◌==◌, ◌&&◌, not, false, IfSome, List, All, find, sym, ap, ◌∙◌, All-contains, IsPermutation-sym, Contains-permutation, all_from, Rec, Contents, Found, name_of, has_name, Sorts, bytes_shown, is_compared, AgreesWithLowest}
use Rattle.std.specs.Option.{option_map_or}
use Rattle.list_lemmas.proofs.Tests.{find_left}
use Rattle.scan_recovery.specs.Twins.{lowest_of, is_equal}

module _ (list sorted : List Found) (is : Sorts list sorted) where
  pub lowest_alike : (rec : Rec) → lowest_of sorted rec ≡ lowest_of list rec
  lowest_alike rec =
      let test = (λ (f : Found). has_name (name_of rec) f.rec) in
      sym (find_left test test sorted (λ f has. has)) ∙ ap (find test) (is.stable (name_of rec))
      ∙ find_left test test list (λ f has. has)

  pub compared_alike : (f : Found) → is_compared sorted f ≡ is_compared list f
  compared_alike f =
      ap (λ o. option_map_or (λ (g : Found). is_equal g.rec f.rec && not (g.slot.0 == f.slot.0)) o false)
      (lowest_alike f.rec)

  pub agrees_alike : (page_bytes : ℕ) (image : List Contents) (f : Found) → AgreesWithLowest page_bytes image sorted f
      ≡ AgreesWithLowest page_bytes image list
      f
  agrees_alike page_bytes image f =
      ap (λ o. IfSome o (λ g. (g.rec ≡ f.rec) × (bytes_shown page_bytes image g ≡ bytes_shown page_bytes image f)))
      (lowest_alike f.rec)

  -- what holds of each record of the list holds of each in order
  pub all_alike : (P : Found → Type 0) → All P list → All P sorted
  all_alike P all = all_from P sorted (λ f c. All-contains P list f all
      (Contains-permutation sorted list f (IsPermutation-sym list sorted is.records) c))
