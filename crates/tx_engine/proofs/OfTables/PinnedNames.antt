-- The names that are pinned, by the table of pins, and once the names of a transaction are pinned too.
use Rattle.tx_engine.proofs.Common.{◌≡◌, ◌≢◌, ◌⊎◌, ℕ, zero, suc, ◌+◌, ◌<◌, ◌≤◌, eqb, List, [], ◌∷◌, length, get_or, set, Contains, Option, Some, None, refl, sym, ap, ◌∙◌, subst, inl, inr, arith, eq-eqb, ne_eqb, All, AllPairs, cons_option, ◌↔◌, cases_eq, cond-true, cond-false, length-set, get_or-set_same, get_or-set_other, All-contains, Contains-cases, Contains-nil, Contains-rest, pairs_head, pairs_tail, Link, pinned_at, pinned_names, with_pins}
use Rattle.list_lemmas.proofs.Membership.{Contains-first, Contains-here}
use Rattle.record_list.proofs.OfFacts.Names.{same_name}
use Rattle.record_list.proofs.OfWalks.Rounds.{cases_page}
use Rattle.judged_records.proofs.OfNotes.BaseTables.{given}
use Rattle.judged_records.proofs.OfChanges.Pins.{numbered_pin}

-- a name is pinned
pub record IsPin (pins : List ℕ) (name : Link) : Type 0 where
  pub page : name.page < length pins
  pub version : get_or pins name.page 0 ≡ name.version
  pub some : name.version ≢ 0

record IsPinFrom (n : ℕ) (pins : List ℕ) (name : Link) : Type 0 where
  place : ℕ
  within : place < length pins
  page : name.page ≡ n + place
  version : get_or pins place 0 ≡ name.version
  some : name.version ≢ 0

pinned_none : (n v : ℕ) → v ≡ 0 → pinned_at n v ≡ None
pinned_none n v h = cond-true (eqb v 0) None (Some (record { page = n; version = v })) (eq-eqb v 0 h)

pinned_some : (n v : ℕ) → v ≢ 0 → pinned_at n v ≡ Some (record { page = n; version = v })
pinned_some n v h = cond-false (eqb v 0) None (Some (record { page = n; version = v })) (ne_eqb v 0 h)

in_more : (n v : ℕ) (vs : List ℕ) (name : Link) → IsPinFrom (n + 1) vs name → IsPinFrom n (v ∷ vs) name
in_more n v vs name h = record {
  place = suc h.place;
  within = let w = h.within in omega arith;
  page = omega (arith, h.page);
  version = h.version;
  some = h.some;
}

in_given : (n : ℕ) (pins : List ℕ) (name : Link) → Contains (given numbered_pin n pins) name → IsPinFrom n pins name
in_given n [] name h = absurd (Contains-nil name h)
in_given n (v ∷ vs) name h = elim (cases_eq v 0) [
  | inl none ↦ in_more n v vs name
      (in_given (n + 1) vs name (subst (λ o. Contains (cons_option o (given numbered_pin (n + 1) vs)) name)
      (pinned_none n v none) h))
  | inr some ↦ (let either : (record { page = n; version = v } ≡ name) ⊎ Contains (given numbered_pin (n + 1) vs) name =
      Contains-cases {X = Link} (record { page = n; version = v }) (given numbered_pin (n + 1) vs) name
      (subst (λ o. Contains (cons_option o (given numbered_pin (n + 1) vs)) name) (pinned_some n v some) h) in
      elim either [
        | inl is ↦ record {
          place = 0;
          within = omega arith;
          page = (let p : n ≡ name.page = ap (λ (a : Link). a.page) is in omega (arith, p));
          version = ap (λ (a : Link). a.version) is;
          some = λ zero. some (ap (λ (a : Link). a.version) is ∙ zero);
        }
        | inr later ↦ in_more n v vs name (in_given (n + 1) vs name later)
      ])
]

to_given : (n : ℕ) (pins : List ℕ) (i : ℕ) → i < length pins → get_or pins i 0 ≢ 0 →
    Contains (given numbered_pin n pins) (record { page = n + i; version = get_or pins i 0 })
to_given n [] i within some = absurd (omega arith)
to_given n (v ∷ vs) zero within some =
    subst (λ o. Contains (cons_option o (given numbered_pin (n + 1) vs)) (record { page = n + 0; version = v }))
    (sym (pinned_some n v some))
    (Contains-here {X = Link} (record { page = n; version = v }) (given numbered_pin (n + 1) vs)
    (record { page = n + 0; version = v })
    (ap (λ k. record { page = k; version = v }) (omega arith)))
to_given n (v ∷ vs) (suc i) within some =
    let later = to_given (n + 1) vs i (omega arith) some in
    let here : Contains (given numbered_pin (n + 1) vs) (record { page = n + suc i; version = get_or vs i 0 }) =
    subst (λ k. Contains (given numbered_pin (n + 1) vs) (record { page = k; version = get_or vs i 0 }))
    (omega arith) later in
    elim (cases_eq v 0) [
      | inl none ↦ subst (λ o. Contains (cons_option o (given numbered_pin (n + 1) vs))
          (record { page = n + suc i; version = get_or vs i 0 }))
          (sym (pinned_none n v none)) here
      | inr there ↦ subst (λ o. Contains (cons_option o (given numbered_pin (n + 1) vs))
          (record { page = n + suc i; version = get_or vs i 0 }))
          (sym (pinned_some n v there))
          (Contains-rest {X = Link} (record { page = n; version = v }) (given numbered_pin (n + 1) vs)
          (record { page = n + suc i; version = get_or vs i 0 })
          here)
    ]

pub pin_of : (pins : List ℕ) (name : Link) → Contains (pinned_names pins) name → IsPin pins name
pin_of pins name c =
    let h = in_given 0 pins name c in
    let at : name.page ≡ h.place = omega (arith, h.page) in
    record {
      page = let w = h.within in omega arith;
      version = ap (λ k. get_or pins k 0) at ∙ h.version;
      some = h.some;
    }

pub pin_to : (pins : List ℕ) (name : Link) → IsPin pins name → Contains (pinned_names pins) name
pin_to pins name h =
    let there = to_given 0 pins name.page h.page (λ zero. h.some (sym h.version ∙ zero)) in
    subst (Contains (pinned_names pins)) (same_name (record { page = 0 + name.page; version = get_or pins name.page 0 })
    name (omega arith) h.version) there

-- without the pin of a page
pub unpinned_from : (pins : List ℕ) (page : ℕ) (name : Link) → IsPin (set pins page 0) name →
    IsPin pins name × (name.page ≢ page)
unpinned_from pins page name h =
    let other : name.page ≢ page = λ same.
    let within : page < length pins = subst (λ k. k < length pins) same
    (subst (λ len. name.page < len) (length-set pins page 0) h.page) in
    h.some (sym h.version ∙ ap (λ k. get_or (set pins page 0) k 0) same ∙ get_or-set_same pins page 0 0 within) in (
      record {
        page = subst (λ len. name.page < len) (length-set pins page 0) h.page;
        version = sym (get_or-set_other pins page name.page 0 0 other) ∙ h.version;
        some = h.some;
      },
      other,
    )

pub unpinned_to : (pins : List ℕ) (page : ℕ) (name : Link) → IsPin pins name → name.page ≢ page →
    IsPin (set pins page 0) name
unpinned_to pins page name h other = record {
  page = subst (λ len. name.page < len) (sym (length-set pins page 0)) h.page;
  version = get_or-set_other pins page name.page 0 0 other ∙ h.version;
  some = h.some;
}

-- How many are pinned
length_some : (o : Option Link) (xs : List Link) → length (cons_option o xs) ≤ length xs + 1
length_some None xs = omega arith
length_some (Some x) xs = omega arith

length_cons : (o : Option Link) (xs ys : List Link) → length xs ≤ length ys + 1 →
    length (cons_option o xs) ≤ length (cons_option o ys) + 1
length_cons None xs ys h = h
length_cons (Some x) xs ys h = omega arith

one_fewer : (n : ℕ) (pins : List ℕ) (i : ℕ) → length (given numbered_pin n pins) ≤ length
    (given numbered_pin n (set pins i 0)) + 1
one_fewer n [] i = omega arith
one_fewer n (v ∷ vs) zero = length_some (pinned_at n v) (given numbered_pin (n + 1) vs)
one_fewer n (v ∷ vs) (suc i) = length_cons (pinned_at n v) (given numbered_pin (n + 1) vs)
    (given numbered_pin (n + 1) (set vs i 0)) (one_fewer (n + 1) vs i)

no_item : (xs : List Link) → ((x : Link) → Contains xs x → ⊥) → length xs ≡ 0
no_item [] h = refl
no_item (x ∷ xs) h = absurd (h x (Contains-first x xs))

-- no more names are pinned than a list has that has all of them
pub few_pinned : (names : List Link) (pins : List ℕ) → ((name : Link) → IsPin pins name → Contains names name) →
    length (pinned_names pins) ≤ length names
few_pinned [] pins h =
    let none = no_item (pinned_names pins) (λ name i. Contains-nil name (h name (pin_of pins name i))) in omega arith
few_pinned (a ∷ names) pins h =
    let rest = few_pinned names (set pins a.page 0) (λ name pin.
    let both = unpinned_from pins a.page name pin in
    elim (Contains-cases a names name (h name both.0)) [
      | inl same ↦ absurd (both.1 (ap (λ (b : Link). b.page) (sym same)))
      | inr later ↦ later
    ]) in
    let one = one_fewer 0 pins a.page in
    omega arith

-- without the pins of the first pages, and of one more
pub unpin_more : (before pins : List ℕ) (page_at : ℕ → ℕ) (place page : ℕ) → page ≡ page_at place →
    ((name : Link) → Contains (pinned_names pins) name
    ↔ (Contains (pinned_names before) name × ((k : ℕ) → k < place → page_at k ≢ name.page))) →
    (name : Link) → Contains (pinned_names (set pins page 0)) name
    ↔ (Contains (pinned_names before) name × ((k : ℕ) → k < place + 1 → page_at k ≢ name.page))
unpin_more before pins page_at place page is gone name = (
  (λ c.
      let pin = unpinned_from pins page name (pin_of (set pins page 0) name c) in
      let both = (gone name).0 (pin_to pins name pin.0) in (
        both.0,
        λ k less same. elim (cases_eq k place) [
          | inl last ↦ pin.1 (sym same ∙ ap page_at last ∙ sym is)
          | inr other ↦ both.1 k (omega arith) same
        ],
      )),
  (λ h.
      let old = (gone name).1 (h.0, λ k less. h.1 k (omega arith)) in
      pin_to (set pins page 0) name (unpinned_to pins page name (pin_of pins name old)
      (λ same. h.1 place (omega arith) (sym is ∙ sym same)))),
)

-- With names of distinct pages pinned too, each of them is pinned, and other pages as before.
pub length_pins : (names : List Link) (pins : List ℕ) → length (with_pins pins names) ≡ length pins
length_pins [] pins = refl
length_pins (a ∷ rest) pins = length_pins rest (set pins a.page a.version) ∙ length-set pins a.page a.version

pub other_pin : (names : List Link) (pins : List ℕ) (page : ℕ) → ((a : Link) → Contains names a → a.page ≡ page → ⊥) →
    get_or (with_pins pins names) page 0 ≡ get_or pins page 0
other_pin [] pins page none = refl
other_pin (a ∷ rest) pins page none =
    other_pin rest (set pins a.page a.version) page (λ b i. none b (Contains-rest a rest b i))
    ∙ get_or-set_other pins a.page page a.version 0 (λ e. none a (Contains-first a rest) (sym e))

pub own_pin : (names : List Link) (pins : List ℕ) → AllPairs (λ a b. a.page ≢ b.page) names → (a : Link) →
    Contains names a → a.page < length pins →
    get_or (with_pins pins names) a.page 0 ≡ a.version
own_pin [] pins distinct a i within = absurd (Contains-nil a i)
own_pin (b ∷ rest) pins distinct a i within = elim (Contains-cases b rest a i) [
  | inl same ↦ (
      let first = pairs_head (λ (u : Link) (v : Link). u.page ≢ v.page) b rest in
      other_pin rest (set pins b.page b.version) a.page
      (λ c j e. first c distinct j (ap (λ (u : Link). u.page) same ∙ sym e))
      ∙ ap (λ (u : Link). get_or (set pins b.page b.version) u.page 0) (sym same)
      ∙ get_or-set_same pins b.page b.version 0 (subst (λ k. k < length pins)
      (sym (ap (λ (u : Link). u.page) same)) within)
      ∙ ap (λ (u : Link). u.version) same)
  | inr later ↦ own_pin rest (set pins b.page b.version) (pairs_tail (λ (u : Link) (v : Link). u.page ≢ v.page) b rest
      distinct) a later
      (omega (arith, within, length-set pins b.page b.version))
]

-- the names that are pinned then
pub pinned_then : (names : List Link) (pins : List ℕ) → AllPairs (λ a b. a.page ≢ b.page) names →
    All (λ a. (a.page < length pins) × (1 ≤ a.version)) names →
    ((a b : Link) → Contains (pinned_names pins) a → Contains names b → a.page ≢ b.page) →
    (name : Link) → Contains (pinned_names (with_pins pins names)) name
    ↔ (Contains (pinned_names pins) name ⊎ Contains names name)
pinned_then names pins distinct range apart name = (
  λ c. (let h = pin_of (with_pins pins names) name c in
      elim (cases_page names name.page) [
        | inl at ↦ (
            let own = own_pin names pins distinct at.0 at.1
            (All-contains (λ (a : Link). (a.page < length pins) × (1 ≤ a.version)) names at.0 range at.1).0 in
            let version : at.0.version ≡ name.version = sym own ∙ ap (λ k. get_or (with_pins pins names) k 0) at.2
            ∙ h.version in
            inr (subst (Contains names) (same_name at.0 name at.2 version) at.1))
        | inr none ↦ inl (pin_to pins name (record {
          page = omega (arith, h.page, length_pins names pins);
          version = sym (other_pin names pins name.page none) ∙ h.version;
          some = h.some;
        }))
      ]),
  λ either. elim either [
    | inl c ↦ (let h = pin_of pins name c in
        pin_to (with_pins pins names) name (record {
          page = omega (arith, h.page, length_pins names pins);
          version = other_pin names pins name.page (λ b i e. apart name b c i (sym e)) ∙ h.version;
          some = h.some;
        }))
    | inr i ↦ (let range_at = All-contains (λ (a : Link). (a.page < length pins) × (1 ≤ a.version)) names
        name range i in
        pin_to (with_pins pins names) name (record {
          page = omega (arith, range_at.0, length_pins names pins);
          version = own_pin names pins distinct name i range_at.0;
          some = λ zero. (let low = range_at.1 in omega (arith, zero));
        }))
  ],
)
