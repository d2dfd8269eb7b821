-- Where no record in order has the name of the one before it, no two have one, and each is the lowest of its own.
use Rattle.scan_recovery.proofs.Common.{◌≡◌, ℕ, suc, ◌*◌, ◌<◌, ◌&&◌, not, Bool, true, false, List, [], ◌∷◌, length, get_or, find, Some, All, AllPairs, Contains, IfSome, refl, sym, ap, ◌∙◌, subst, inl, inr, arith, false≢true, cases_Bool, cond-true, cond-false, get_or_default, Contains-permutation, all_from, pairs_head, pairs_tail, Link, FlashState, Contents, Found, nothing, name_of, has_name, same_name, has_name_true, has_own_name, Sorts, ReadsAll, NextDiffers, bytes_shown, is_compared, compared, AgreesWithLowest}
use Rattle.std.proofs.Common.{eqb}
use Rattle.std.specs.Option.{option_map_or}
use Rattle.std.proofs.lemmas.Bool.{eq-eqb}
use Rattle.list_lemmas.proofs.Membership.{Contains-cases, Contains-nil}
use Rattle.list_lemmas.proofs.Tests.{none_counted}
use Rattle.sorted_records.specs.SortedRecords.{IsInOrder}
use Rattle.sorted_records.proofs.OfSort.Order.{IsFrom, later_from}
use Rattle.scan_recovery.specs.Twins.{is_equal}
use Rattle.scan_recovery.proofs.OfScan.ReadingSteps.{reads_nothing}
use Rattle.scan_recovery.proofs.OfLaws.TwinsAlike.{compared_alike, agrees_alike}

-- names that are not below each other are one
from_both : (a b : Link) → IsFrom a b → IsFrom b a → a ≡ b
from_both a b (inl p) (inl q) = absurd (omega arith)
from_both a b (inl p) (inr q) = absurd (omega arith)
from_both a b (inr p) (inl q) = absurd (omega arith)
from_both a b (inr p) (inr q) = same_name a b q.0 (omega arith)

abbrev Differ : Found → Found → Type 0
Differ f g = name_of f.rec ≡ name_of g.rec → ⊥

differ : (l : List Found) → IsInOrder l → ((k : ℕ) → suc k < length l → NextDiffers l k) → AllPairs Differ l
differ l order next i j d less within = λ same.
    let later = later_from l order i (suc i) d (omega arith) (omega arith) in
    let last = later_from l order (suc i) j d (omega arith) within in
    let one = from_both (name_of (get_or l i d).rec) (name_of (get_or l (suc i) d).rec)
    (subst (λ u. IsFrom u (name_of (get_or l (suc i) d).rec)) (sym same) last) later in
    let shared : name_of (get_or l i nothing).rec ≡ name_of (get_or l (suc i) nothing).rec =
    ap (λ (f : Found). name_of f.rec) (get_or_default l i nothing d (omega arith)) ∙ one
    ∙ ap (λ (f : Found). name_of f.rec) (get_or_default l (suc i) d nothing (omega arith)) in
    false≢true (sym (next i (omega arith)) ∙ has_own_name (name_of (get_or l (suc i) nothing).rec)
    (get_or l i nothing).rec shared)

-- each is the first of its name
lone : (l : List Found) → AllPairs Differ l → (f : Found) → Contains l f →
    find (λ g. has_name (name_of f.rec) g.rec) l ≡ Some f
lone [] apart f i = absurd (Contains-nil f i)
lone (g ∷ gs) apart f i = elim (Contains-cases g gs f i) [
  | inl same ↦
      subst (λ (h : Found). find (λ x. has_name (name_of h.rec) x.rec) (g ∷ gs) ≡ Some h) same
      (cond-true (has_name (name_of g.rec) g.rec) (Some g) (find (λ x. has_name (name_of g.rec) x.rec) gs)
      (has_own_name (name_of g.rec) g.rec refl))
  | inr later ↦
      let other : has_name (name_of f.rec) g.rec ≡ false =
      elim (cases_Bool (has_name (name_of f.rec) g.rec)) [
        | inl yes_here ↦ absurd (pairs_head Differ g gs f apart later (has_name_true (name_of f.rec) g.rec yes_here))
        | inr no_here ↦ no_here
      ] in
      cond-false (has_name (name_of f.rec) g.rec) (Some g) (find (λ x. has_name (name_of f.rec) x.rec) gs) other
      ∙ lone gs (pairs_tail Differ g gs apart) f later
]

never : (b : Bool) → (b && not true) ≡ false
never true = refl
never false = refl

module _ (list sorted : List Found) (is : Sorts list sorted) (next : (k : ℕ) → suc k < length sorted →
    NextDiffers sorted k) where
  lowest : (f : Found) → Contains list f → find (λ g. has_name (name_of f.rec) g.rec) sorted ≡ Some f
  lowest f i = lone sorted (differ sorted is.order next) f (Contains-permutation list sorted f is.records i)

  -- so law 2 holds
  pub all_agree : (page_bytes : ℕ) (image : List Contents) → All (AgreesWithLowest page_bytes image list) list
  all_agree page_bytes image = all_from (AgreesWithLowest page_bytes image list) list (λ f i.
      subst (λ (T : Type 0). T) (agrees_alike list sorted is page_bytes image f)
      (subst (λ o. IfSome o (λ g. (g.rec ≡ f.rec) × (bytes_shown page_bytes image g ≡ bytes_shown page_bytes image f)))
      (sym (lowest f i)) (refl, refl)))

  none_compared : compared list ≡ 0
  unfolding compared
  none_compared = none_counted (is_compared list) list (all_from (λ f. is_compared list f ≡ false) list (λ f i.
      sym (compared_alike list sorted is f)
      ∙ ap (λ o. option_map_or (λ (g : Found). is_equal g.rec f.rec && not (eqb g.slot.0 f.slot.0)) o false)
      (lowest f i)
      ∙ ap (λ b. is_equal f.rec f.rec && not b) (eq-eqb f.slot.0 f.slot.0 refl) ∙ never (is_equal f.rec f.rec)))

  -- and no slot has to be read for it
  pub none_read : (s : FlashState) → ReadsAll s s (2 * compared list)
  none_read s = subst (λ n. ReadsAll s s (2 * n)) (sym none_compared) (reads_nothing s)
