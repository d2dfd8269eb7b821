-- Law 9 of a list by its records in order of their names.
use Rattle.sorted_records.proofs.Common.{◌≡◌, ℕ, ◌<◌, ◌⊎◌, inl, inr, true, false, Bool, Option, Some, None, List, position, length, get_or, sym, ap, ◌∙◌, eqb-true, eq-eqb, arith, false≢true, get_or_default, position-Some, IsPermutation-sym, Rec, Found, name_of, has_name, record_at, nothing, has_name_true, Sorts, Orbit, Ends, Round, Aside}
use Rattle.std.proofs.Common.{◌↔◌, IsTrue, nat_eq, All, Contains}
use Rattle.std.proofs.lemmas.List.Elements.{All-contains}
use Rattle.std.proofs.lemmas.List.Sorted.{Contains-permutation}
use Rattle.list_lemmas.proofs.Membership.{all_from}
use Rattle.record_list.specs.Counts.{KeepsCount}
use Rattle.record_list.specs.Records.{IsScanned}
use Rattle.record_list.specs.SoundList.{CopiesAgree}
use Rattle.record_list.specs.Search.{FindsFirst}
use Rattle.record_list.proofs.OfFacts.Names.{present_as}
use Rattle.record_list.proofs.OfLosses.LossAmong.{IsAmong, IsOneEach, among_of, one_each_among}
use Rattle.record_list.proofs.OfChanges.Counting.{one_each_of, among_keeps}
use Rattle.sorted_records.specs.NameGraph.{NamesakesAgree}
use Rattle.sorted_records.proofs.OfWalk.WalkOrbits.{absent_at}

-- a search finds alike what holds alike of each record of the list
pub finds_alike : (P Q : Found → Type 0) (list : List Found) (o : Option ℕ) →
    ((f : Found) → Contains list f → P f → Q f) → ((f : Found) → Contains list f → Q f → P f) → FindsFirst P list o →
    FindsFirst Q list o
finds_alike P Q list None to from all = all_from Q list (λ f i. to f i (All-contains P list f all i))
finds_alike P Q list (Some i) to from (inside, fails, before) = (
  inside,
  λ d q. fails d (from (get_or list i d) (i, inside, get_or_default list i (get_or list i d) d inside) q),
  λ k d less. let within : k < length list = omega arith in
      to (get_or list k d) (k, within, get_or_default list k (get_or list k d) d within) (before k d less),
)

module _ (list sorted : List Found) (is : Sorts list sorted) (agree : All (CopiesAgree list) list)
    (scanned : IsScanned list) where
  sorted_among : IsAmong sorted list
  sorted_among = among_of sorted list (λ f i. Contains-permutation sorted list f
      (IsPermutation-sym list sorted is.records) i)

  list_among : IsAmong list sorted
  list_among = among_of list sorted (λ f i. Contains-permutation list sorted f is.records i)

  one : IsOneEach list
  one = one_each_of list agree scanned

  -- records of one name are equal in either order
  pub namesakes : NamesakesAgree sorted
  namesakes =
      let same = one_each_among list sorted sorted_among one in
      all_from (λ f. All (λ g. name_of f.rec ≡ name_of g.rec → f.rec ≡ g.rec) sorted) sorted
      (λ f i. all_from (λ g. name_of f.rec ≡ name_of g.rec → f.rec ≡ g.rec) sorted (λ g j e. same.same f g i j e))

  -- so the law finds alike
  pub miscounts_alike : (o : Option ℕ) → FindsFirst (KeepsCount sorted) list o → FindsFirst (KeepsCount list) list o
  miscounts_alike o = finds_alike (KeepsCount sorted) (KeepsCount list) list o
      (λ f i. among_keeps list sorted list_among (one_each_among list sorted sorted_among one) f i)
      (λ f i. among_keeps sorted list sorted_among one f (Contains-permutation list sorted f is.records i))

-- where no record has the link's name, each that has it has the count
pub passes_nowhere : (l : List Found) (r : Rec) → position (λ f. has_name r.next f.rec) l ≡ None →
    All (λ g. name_of g.rec ≡ r.next → g.rec.count ≡ r.count) l
passes_nowhere l r none = all_from (λ g. name_of g.rec ≡ r.next → g.rec.count ≡ r.count) l (λ g i e.
    absurd (false≢true (sym (absent_at l r.next none) ∙ present_as l g r.next i e)))

module _ (l : List Found) (r : Rec) (same : NamesakesAgree l) (p : ℕ)
    (at : position (λ f. has_name r.next f.rec) l ≡ Some p) where
  -- the first record of the link's name is one of it
  first_named : (p < length l) × (name_of (record_at l p) ≡ r.next)
  first_named =
      let found = position-Some (λ f. has_name r.next f.rec) l p nothing at in
      (found.0, has_name_true r.next (record_at l p) found.1)

  -- and speaks for all
  pub passes_at : IsTrue (nat_eq (record_at l p).count r.count)
      ↔ All (λ g. name_of g.rec ≡ r.next → g.rec.count ≡ r.count) l
  passes_at =
      let here : Contains l (get_or l p nothing) = (
        p,
        first_named.0,
        get_or_default l p (get_or l p nothing) nothing first_named.0,
      ) in (
        λ yes'. all_from (λ g. name_of g.rec ≡ r.next → g.rec.count ≡ r.count) l (λ g i e.
            let like = All-contains (λ (x : Found). name_of (record_at l p) ≡ name_of x.rec → record_at l p ≡ x.rec) l g
            (All-contains (λ (f : Found). All (λ x. name_of f.rec ≡ name_of x.rec → f.rec ≡ x.rec) l) l
            (get_or l p nothing) same here) i in
            ap (λ (x : Rec). x.count) (sym (like (first_named.1 ∙ sym e)))
            ∙ eqb-true (record_at l p).count r.count yes'),
        λ all. eq-eqb (record_at l p).count r.count
            (All-contains (λ (g : Found). name_of g.rec ≡ r.next → g.rec.count ≡ r.count) l (get_or l p nothing) all
            here first_named.1),
      )

-- an orbit that ends, or goes aside, is no round
pub no_round : (n : ℕ) (orbit : Orbit) → ((after : ℕ) × (at : ℕ) × (orbit ≡ Ends after at)) ⊎ (orbit ≡ Aside) →
    orbit ≡ Round n → ⊥
no_round n orbit other round = elim other [
  | inl (after, at, e) ↦ false≢true (ap is_round (sym e ∙ round))
  | inr e ↦ false≢true (ap is_round (sym e ∙ round))
]
  where
    is_round : Orbit → Bool
    is_round (Ends after at) = false
    is_round (Round turns) = true
    is_round Aside = false

-- a record without a count keeps the law where its link's records have none
pub uncounted : (l : List Found) (f : Found) → All (λ g. name_of g.rec ≡ f.rec.next → g.rec.count ≡ f.rec.count) l →
    f.rec.count ≡ 0 → KeepsCount l f
unfolding KeepsCount
uncounted l f passes none = (passes, λ some n first. absurd (some none))

-- where a record keeps the law, those that its link names have its count
pub targets_counted : (l : List Found) (f : Found) → KeepsCount l f →
    All (λ g. name_of g.rec ≡ f.rec.next → g.rec.count ≡ f.rec.count) l
unfolding KeepsCount
targets_counted l f keeps = keeps.0
