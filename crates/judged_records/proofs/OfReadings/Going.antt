-- The lowest slot of a record that must go, as a search along the list comes to it.
use Rattle.judged_records.proofs.Common.{◌≡◌, ℕ, ◌+◌, ◌<◌, ◌≤◌, true, false, List, length, get_or, drop, find, Option, Some, None, refl, ap, ◌∙◌, option_map, cond-true, cond-false, Protocol, Found, nothing, must_go, first_slot}
use Rattle.std.proofs.lemmas.List.{drop_more, drop_all}
use Rattle.record_list.specs.Records.{record_at}

-- the lowest slot of a record of these that must go
unfoldable pub going : Protocol → List Found → ℕ → ℕ → ℕ → List Found → Option ℕ
going protocol list logical page below rest = first_slot (λ f. must_go protocol list logical page below f.rec) rest

module _ (protocol : Protocol) (list : List Found) (logical page below : ℕ) where
  pub first_slot-going : first_slot (λ f. must_go protocol list logical page below f.rec) list
      ≡ going protocol list logical page below list
  unfolding going
  first_slot-going = refl

  pub going_found : (i : ℕ) → i < length list → must_go protocol list logical page below (record_at list i) ≡ true →
      going protocol list logical page below (drop i list) ≡ Some (get_or list i nothing).slot.0
  unfolding going
  going_found i within goes =
      let f = get_or list i nothing in
      ap (first_slot (λ g. must_go protocol list logical page below g.rec)) (drop_more list i nothing within)
      ∙ ap (option_map (λ g. g.slot.0))
      (cond-true (must_go protocol list logical page below f.rec) (Some f)
      (find (λ g. must_go protocol list logical page below g.rec) (drop (i + 1) list))
      goes)

  pub going_on : (i : ℕ) → i < length list → must_go protocol list logical page below (record_at list i) ≡ false →
      going protocol list logical page below (drop i list) ≡ going protocol list logical page below (drop (i + 1) list)
  unfolding going
  going_on i within stays =
      let f = get_or list i nothing in
      ap (first_slot (λ g. must_go protocol list logical page below g.rec)) (drop_more list i nothing within)
      ∙ ap (option_map (λ g. g.slot.0))
      (cond-false (must_go protocol list logical page below f.rec) (Some f)
      (find (λ g. must_go protocol list logical page below g.rec) (drop (i + 1) list))
      stays)

  pub going_none : (i : ℕ) → length list ≤ i → going protocol list logical page below (drop i list) ≡ None
  unfolding going
  going_none i all = ap (first_slot (λ g. must_go protocol list logical page below g.rec)) (drop_all i list all)
