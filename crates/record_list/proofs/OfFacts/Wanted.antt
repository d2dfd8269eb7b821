-- Wanted records: current, held or pinned ones, and blocks outside which each has a slot.
use Rattle.record_list.proofs.Common.{◌≡◌, ℕ, true, ◌||◌, eqb, ◌⊎◌, List, Contains, refl, sym, subst, inl, inr, eqb-true, eq-eqb, or_cases, or_left, or_right, All-contains, any_of, any_from, Link, Rec, Protocol, Shape, Found, name_of, has_name, is_present, cur, IsCurrent, is_held, left, is_outside}
use Rattle.std.specs.List.{list_any}
use Rattle.std.proofs.lemmas.List.Elements.{All-weaker}
use Rattle.record_list.specs.Written.{is_wanted, IsRemovable, IsDispensable}
use Rattle.record_list.proofs.OfFacts.Names.{found_named, has_name_true, has_own_name}

-- a name of a list is the record's, by test
name_among : (names : List Link) (r : Rec) → Contains names (name_of r) →
    list_any (λ name. has_name name r) names ≡ true
name_among names r c = any_from (λ name. has_name name r) names (name_of r) c (has_own_name (name_of r) r refl)

among_name : (names : List Link) (r : Rec) → list_any (λ name. has_name name r) names ≡ true →
    Contains names (name_of r)
among_name names r h =
    let any = any_of (λ name. has_name name r) names h in
    subst (Contains names) (sym (has_name_true any.0 r any.2)) any.1

module _ (p : Protocol) (l : List Found) (logical : ℕ) (pinned : List Link) (r : Rec) where
  -- a wanted record is current, held or pinned
  pub wanted_cases : is_wanted p l logical pinned r ≡ true → IsCurrent p l logical r
      ⊎ ((is_held p l logical r ≡ true) ⊎ Contains pinned (name_of r))
  wanted_cases h = elim (or_cases (eqb r.version (cur p l logical r.page) || is_held p l logical r)
      (list_any (λ name. has_name name r) pinned) h) [
        | inl counted ↦ elim (or_cases (eqb r.version (cur p l logical r.page)) (is_held p l logical r) counted) [
          | inl e ↦ inl (eqb-true r.version (cur p l logical r.page) e)
          | inr held ↦ inr (inl held)
        ]
        | inr pin ↦ inr (inr (among_name pinned r pin))
      ]

  -- a current or held record is wanted
  pub counted_wanted : IsCurrent p l logical r ⊎ (is_held p l logical r ≡ true) → is_wanted p l logical pinned r ≡ true
  counted_wanted c =
      or_left (eqb r.version (cur p l logical r.page) || is_held p l logical r)
      (list_any (λ name. has_name name r) pinned) (elim c [
        | inl e ↦ or_left (eqb r.version (cur p l logical r.page)) (is_held p l logical r)
            (eq-eqb r.version (cur p l logical r.page) e)
        | inr held ↦ or_right (eqb r.version (cur p l logical r.page)) (is_held p l logical r) held
      ])

  -- and so is a pinned one
  pub pinned_wanted : Contains pinned (name_of r) → is_wanted p l logical pinned r ≡ true
  pinned_wanted c =
      or_right (eqb r.version (cur p l logical r.page) || is_held p l logical r)
      (list_any (λ name. has_name name r) pinned) (name_among pinned r c)

-- a dispensable block is removable, whatever is pinned
pub dispensable_removable : (p : Protocol) (l : List Found) (logical : ℕ) (pinned : List Link)
    (shape : Shape) (block : ℕ) →
    IsDispensable p l logical pinned shape block → IsRemovable p l logical shape block
dispensable_removable p l logical pinned shape block =
    All-weaker
    (λ f. is_wanted p l logical pinned f.rec ≡ true →
    is_present (left (is_outside shape block) l) (name_of f.rec) ≡ true)
    (λ f. IsCurrent p l logical f.rec ⊎ (is_held p l logical f.rec ≡ true) →
    is_present (left (is_outside shape block) l) (name_of f.rec) ≡ true)
    (λ f kept c. kept (counted_wanted p l logical pinned f.rec c)) l

-- without such a block the pinned names that were present are present still
pub dispensable_pinned : (p : Protocol) (l : List Found) (logical : ℕ) (pinned : List Link)
    (shape : Shape) (block : ℕ) →
    IsDispensable p l logical pinned shape block → (name : Link) → Contains pinned name → is_present l name ≡ true →
    is_present (left (is_outside shape block) l) name ≡ true
dispensable_pinned p l logical pinned shape block kept name pin here =
    let f = found_named l name here in
    let stays = All-contains (λ g. is_wanted p l logical pinned g.rec ≡ true →
    is_present (left (is_outside shape block) l) (name_of g.rec) ≡ true) l f.0 kept
    f.1 in
    subst (λ u. is_present (left (is_outside shape block) l) u ≡ true) f.2 (stays
    (pinned_wanted p l logical pinned f.0.rec (subst (Contains pinned) (sym f.2) pin)))
