-- Which places stand in the lists after one is taken out or put in front.
use Rattle.slot_tables.proofs.Common.{◌≡◌, ◌≢◌, ℕ, ◌<◌, ◌⊎◌, ◌↔◌, inl, inr, [], ◌∷◌, length, sym, subst, Contains, remove, cases_eq, get_or-set_same, get_or-set_other, Contains-first, Contains-rest, Contains-cases, LinkedListsState, list_of, AreDisjoint, index_in, with_first}
use Rattle.dense_tables.specs.LinkedLists.{without}
use Rattle.dense_tables.proofs.Membership.{contains_rest, key_lies}

-- the places of each list, where one is taken out
pub in_without : (c : LinkedListsState) (key at : ℕ) → AreDisjoint c → Contains (list_of c key) at → (k y : ℕ)
    → Contains (list_of (without c key at) k) y ↔ (Contains (list_of c k) y × (y ≢ at))
in_without c key at h has k y = elim (cases_eq k key) [
  | inl here ↦
      let own : list_of (without c key at) k ≡ remove (list_of c key) (index_in (list_of c key) at) =
      rw here (get_or-set_same c.lists key (remove (list_of c key) (index_in (list_of c key) at)) []
      (key_lies c key at has)) in
      rw (own, here) (contains_rest (list_of c key) at y (h.once key) has)
  | inr other ↦
      let same : list_of (without c key at) k ≡ list_of c k =
      get_or-set_other c.lists key k (remove (list_of c key) (index_in
      (list_of c key) at)) [] other in
      rw same ((λ is. (is, λ e. other (h.apart k key at (subst (Contains (list_of c k)) e is) has)), λ both. both.0))
]

-- and where one is put in front
pub in_with_first : (c : LinkedListsState) (key at : ℕ) → key < length c.lists → (k y : ℕ)
    → Contains (list_of (with_first c key at) k) y ↔ (((k ≡ key) × (y ≡ at)) ⊎ Contains (list_of c k) y)
in_with_first c key at low k y = elim (cases_eq k key) [
  | inl here ↦
      let own : list_of (with_first c key at) k ≡ at ∷ list_of c key =
      rw here (get_or-set_same c.lists key (at ∷ list_of c key) [] low) in
      rw own (
        λ is. elim (Contains-cases at (list_of c key) y is) [
          | inl e ↦ inl (here, sym e)
          | inr rest ↦ inr (rw here rest)
        ],
        λ either. elim either [
          | inl both ↦ rw both.1 (Contains-first at (list_of c key))
          | inr rest ↦ Contains-rest at (list_of c key) y (rw here at rest)
        ],
      )
  | inr other ↦
      let same : list_of (with_first c key at) k ≡ list_of c k =
      get_or-set_other c.lists key k (at ∷ list_of c key) [] other in
      rw same (λ is. inr is, λ either. elim either [ inl both ↦ absurd (other both.0) | inr is ↦ is ])
]
