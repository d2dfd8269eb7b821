-- Where nothing outside the spare is garbage, the needed records fill it: so there is garbage where the space rule
-- holds and a record of an open transaction is absent.
use Rattle.collector.proofs.Common.{◌≡◌, ◌≢◌, ◌⊎◌, ℕ, ◌+◌, ◌-◌, ◌*◌, ◌<◌, ◌≤◌, Bool, true, false, if◌then◌else◌, eqb, eq-eqb, eqb-true, List, [], ◌∷◌, length, map, get_or, AllPairs, Contains, Some, refl, sym, ap, ◌∙◌, subst, inl, inr, arith, ◌==◌, range_with_len, length-map, same_Some, Pages, PagesExist, inside_block, in_it, cases_Bool, cases_lt, both_ways, cond-true, cond-false, and_parts, and_from, All-contains, Contains-cases, Contains-nil, any_of, Protocol, Scc, Bpcc, Link, Rec, Found, name_of, cur, IsCurrent, is_held, present_as, shape_of, slots_of, blocks_of, is_present, is_outside, Note, Blank, Holds, note_at, found_in, IndexState, IsNoted, needed_of, home_of, pinned_names, found, noted_from}
use Rattle.std.proofs.Common.{lt-ltb, ltb-true}
use Rattle.std.specs.Prelude.{nat_lt}
use Rattle.std.specs.List.{list_any}
use Rattle.std.proofs.lemmas.List.FromFn.{get_or-map-range_with_len, length-range_with_len}
use Rattle.std.proofs.lemmas.List.Kept.{AllPairs-cons}
use Rattle.std.proofs.lemmas.Map.Made.{IsDistinct-from_AllPairs}
use Rattle.std.proofs.lemmas.Map.Steps.{length-le_from_distinct_below}
use Rattle.std.proofs.lemmas.Bool.Decides.{Decides-eqb}
use Rattle.record_list.specs.Records.{is_same}
use Rattle.record_list.specs.Current.{responsible, answers_for}
use Rattle.record_list.proofs.OfFacts.Held.{answer_of}
use Rattle.record_list.proofs.OfLosses.LossCounted.{responsible_at}
use Rattle.judged_records.proofs.OfNotes.FoundIn.{noted_in}
use Rattle.collector.proofs.OfNotes.NeedFacts.{IsHome, home_needed, found_home}

-- a held record is at most the current one of its page
pub held_low : (l : List Found) (n : ℕ) (s : Rec) → is_held Bpcc l n s ≡ true → s.version ≤ cur Bpcc l n s.page
held_low l n s h =
    let any = any_of (λ f. answers_for Bpcc l n s f.rec) l h in
    let a = answer_of l n s any.0.rec any.2 in
    let r = responsible_at Bpcc l n any.0.rec.next (let v = a.version in let under = a.under in omega arith) in
    let low : r.at.rec.version ≤ cur Bpcc l n any.0.rec.next.page = r.low in
    let same : r.at.rec.version ≡ s.version = r.version ∙ a.version in
    let page : cur Bpcc l n any.0.rec.next.page ≡ cur Bpcc l n s.page = ap (cur Bpcc l n) a.page in
    omega arith

-- where a record is held, some record is loose and has a responsible one
pub record HasAnswered (l : List Found) (n : ℕ) : Type 0 where
  pub found : Found
  pub is_in : Contains l found
  pub loose : cur Bpcc l n found.rec.page < found.rec.version
  pub answered : 1 ≤ responsible Bpcc l n found.rec.next

pub answered_one : (l : List Found) (n : ℕ) (s : Rec) → is_held Bpcc l n s ≡ true → HasAnswered l n
answered_one l n s h =
    let any = any_of (λ f. answers_for Bpcc l n s f.rec) l h in
    let a = answer_of l n s any.0.rec any.2 in
    record {
      found = any.0;
      is_in = any.1;
      loose = a.loose;
      answered = (let v = a.version in let under = a.under in
          omega arith);
    }

-- the place of a name in a list
place : List Link → Link → ℕ
place [] u = 0
place (v ∷ vs) u = if is_same v u then 0 else place vs u + 1

same_link : (a b : Link) → is_same a b ≡ true → a ≡ b
same_link a b e =
    let parts = and_parts (a.page == b.page) (a.version == b.version) e in
    ap (λ q. record { page = q; version = a.version }) (eqb-true a.page b.page parts.0)
    ∙ ap (λ v. record { page = b.page; version = v }) (eqb-true a.version b.version parts.1)

itself : (a b : Link) → a ≡ b → is_same a b ≡ true
itself a b e = and_from (a.page == b.page) (a.version == b.version) (eq-eqb a.page b.page (ap (λ (x : Link). x.page) e))
    (eq-eqb a.version b.version (ap (λ (x : Link). x.version) e))

place_low : (vs : List Link) (u : Link) → Contains vs u → place vs u < length vs
unfolding place
place_low [] u i = absurd (Contains-nil u i)
place_low (v ∷ vs) u i = elim (cases_Bool (is_same v u)) [
  | inl e ↦ subst (λ k. k < length (v ∷ vs)) (sym (cond-true (is_same v u) 0 (place vs u + 1) e)) (omega arith)
  | inr e ↦ subst (λ k. k < length (v ∷ vs)) (sym (cond-false (is_same v u) 0 (place vs u + 1) e))
      (elim (Contains-cases v vs u i) [
        | inl same ↦ absurd (both_ways (is_same v u) e (itself v u same))
        | inr j ↦ (let low = place_low vs u j in omega arith)
      ])
]

-- two names of a list with one place are one
place_one : (vs : List Link) (u w : Link) → Contains vs u → Contains vs w → place vs u ≡ place vs w → u ≡ w
unfolding place
place_one [] u w i j e = absurd (Contains-nil u i)
place_one (v ∷ vs) u w i j e = by (λ x y z. place_one vs u w x y z) (is_same v u) (is_same v w) refl refl e
  where
    in_rest : (x : Link) → is_same v x ≡ false → Contains (v ∷ vs) x → Contains vs x
    in_rest x other k = elim (Contains-cases v vs x k) [
      | inl same ↦
          absurd (both_ways (is_same v x) other (itself v x same))
      | inr r ↦ r
    ]

    by : (Contains vs u → Contains vs w → place vs u ≡ place vs w → u ≡ w) → (a b : Bool) → is_same v u ≡ a →
        is_same v w ≡ b →
        (if a then 0 else place vs u + 1) ≡ (if b then 0 else place vs w + 1) → u ≡ w
    by next true true x y h = sym (same_link v u x) ∙ same_link v w y
    by next true false x y h = absurd (omega (arith, h))
    by next false true x y h = absurd (omega (arith, h))
    by next false false x y h = next (in_rest u x i) (in_rest w y j) (omega (arith, h))

-- the k-th slot outside a block
skip : (per block k : ℕ) → ℕ
skip per block k = if nat_lt k (block * per) then k else k + per

skip_cases : (per block k : ℕ) → ((k < block * per) × (skip per block k ≡ k))
    ⊎ ((block * per ≤ k) × (skip per block k ≡ k + per))
unfolding skip
skip_cases per block k = elim (cases_Bool (nat_lt k (block * per))) [
  | inl e ↦ inl (ltb-true k (block * per) e, cond-true (nat_lt k (block * per)) k (k + per) e)
  | inr e ↦ inr (not_below k (block * per) e, cond-false (nat_lt k (block * per)) k (k + per) e)
]
  where
    not_below : (a b : ℕ) → nat_lt a b ≡ false → b ≤ a
    not_below a b e = elim (cases_lt a b) [
      | inl low ↦ absurd (both_ways (nat_lt a b) e (lt-ltb a b low))
      | inr high ↦ high
    ]

skip_one : (per block j k : ℕ) → skip per block j ≡ skip per block k → j ≡ k
skip_one per block j k e = elim (skip_cases per block j) [
  | inl a ↦ elim (skip_cases per block k) [
    | inl b ↦ omega (arith, e, a.1, b.1)
    | inr b ↦ omega (arith, e, a.0, a.1, b.0, b.1)
  ]
  | inr a ↦ elim (skip_cases per block k) [
    | inl b ↦ omega (arith, e, a.0, a.1, b.0, b.1)
    | inr b ↦ omega (arith, e, a.1, b.1)
  ]
]

skip_low : (per block k blocks : ℕ) → block < blocks → k < (blocks - 1) * per → skip per block k < per * blocks
skip_low per block k blocks below within =
    let one : blocks ≡ blocks - 1 + 1 = omega (arith, below) in
    let whole : (blocks - 1) * per + per ≡ per * blocks = subst (λ b. (blocks - 1) * per + per ≡ per * b) (sym one)
    (omega arith) in
    elim (skip_cases per block k) [
      | inl a ↦ omega (arith, whole, within, a.1)
      | inr a ↦ omega (arith, whole, within, a.1)
    ]

-- What the lemma is about: every slot outside the spare is needed, the spare is blank, and a pinned name is absent.
-- Each pinned record is current, or has no responsible one.
pub record IsFilled (n : IndexState) (spare : ℕ) : Type 0 where
  pub noted : IsNoted n.config.protocol n
  pub below : spare < blocks_of (shape_of n.config)
  pub blank : (slot : ℕ) → is_outside (shape_of n.config) spare slot ≡ false → note_at n.notes slot ≡ Blank
  pub needed : (slot : ℕ) → slot < slots_of (shape_of n.config) → is_outside (shape_of n.config) spare slot ≡ true →
      needed_of n slot ≡ true
  pub pins : (f : Found) → Contains (found_in n.notes) f → Contains (pinned_names n.pins) (name_of f.rec) →
      IsCurrent n.config.protocol (found_in n.notes) n.config.logical f.rec
      ⊎ (responsible n.config.protocol (found_in n.notes) n.config.logical f.rec.next ≡ 0)
  pub absent : Link
  pub is_pinned : Contains (pinned_names n.pins) absent
  pub is_absent : is_present (found_in n.notes) absent ≡ false

module _ (n : IndexState) (spare : ℕ) (h : IsFilled n spare) where
  abbrev list : List Found
  list = found_in n.notes

  abbrev logical : ℕ
  logical = n.config.logical

  abbrev pinned : List Link
  pinned = pinned_names n.pins

  -- a record stands outside the spare, in a slot that is its home
  record_home : (f : Found) → Contains list f → IsHome n f.slot.0
  record_home f i =
      let there = noted_from n.notes f i in
      home_needed n f.slot.0 (h.needed f.slot.0 (omega (arith, there.0, h.noted.slots))
      (out (is_outside (shape_of n.config) spare f.slot.0) refl there.1))
    where
      out : (b : Bool) → is_outside (shape_of n.config) spare f.slot.0 ≡ b → note_at n.notes f.slot.0 ≡ Holds f.rec →
          is_outside (shape_of n.config) spare f.slot.0 ≡ true
      out true e holds = e
      out false e holds = (let none = sym (h.blank f.slot.0 e) ∙ holds in cc)

  -- so no record is loose and has a responsible one
  none_answered : n.config.protocol ≡ Bpcc → HasAnswered list logical → ⊥
  none_answered rule y =
      let x = record_home y.found y.is_in in
      let same = found_home n h.noted y.found y.is_in x in
      elim x.wanted [
        | inl current ↦ current_not (subst (λ (f : Found). IsCurrent n.config.protocol list logical f.rec) same current)
        | inr (inl held) ↦
            (let low = held_low list logical y.found.rec (subst (λ q. is_held q list logical y.found.rec ≡ true) rule
            (subst (λ (f : Found). is_held n.config.protocol list logical f.rec ≡ true) same held)) in
            let loose = y.loose in absurd (omega arith))
        | inr (inr pin) ↦ elim (h.pins y.found y.is_in
            (subst (λ (f : Found). Contains pinned (name_of f.rec)) same pin)) [
              | inl current ↦ current_not current
              | inr none ↦
                  (let zero = subst (λ q. responsible q list logical y.found.rec.next ≡ 0) rule none in
                  let some = y.answered in absurd (omega arith))
            ]
      ]
    where
      current_not : IsCurrent n.config.protocol list logical y.found.rec → ⊥
      current_not c =
          let is : y.found.rec.version ≡ cur Bpcc list logical y.found.rec.page =
          subst (λ q. y.found.rec.version ≡ cur q list logical y.found.rec.page) rule
          c in
          let loose = y.loose in absurd (omega arith)

  none_held : (q : Protocol) → n.config.protocol ≡ q → (r : Rec) → is_held q list logical r ≡ true → ⊥
  none_held Scc rule r held = cc
  none_held Bpcc rule r held = none_answered rule (answered_one list logical r held)

  -- the record of a slot outside the spare is current or pinned
  pub record CurrentOrPinned (slot : ℕ) : Type 0 where
    pub rec : Rec
    pub holds : note_at n.notes slot ≡ Holds rec
    pub is_in : Contains list (found slot rec)
    pub home : home_of n (name_of rec) ≡ Some slot
    pub why : IsCurrent n.config.protocol list logical rec ⊎ Contains pinned (name_of rec)

  holder : (slot : ℕ) → slot < slots_of (shape_of n.config) → is_outside (shape_of n.config) spare slot ≡ true →
      CurrentOrPinned slot
  holder slot within out =
      let x = home_needed n slot (h.needed slot within out) in
      let there = noted_from n.notes x.found x.is_in in
      let holds = ap (note_at n.notes) (sym x.slot) ∙ there.1 in
      record {
        rec = x.found.rec;
        holds = holds;
        is_in = noted_in n.notes slot x.found.rec (omega (arith, within, h.noted.slots)) holds;
        home = x.home;
        why = elim x.wanted [
          | inl current ↦ inl current
          | inr (inl held) ↦ absurd (none_held n.config.protocol refl x.found.rec held)
          | inr (inr pin) ↦ inr pin
        ];
      }

  -- a number for each name: the page of one that is current, and else the place of one that is pinned
  number : Link → ℕ
  number u = if u.version == cur n.config.protocol list logical u.page then u.page else logical + place pinned u

  number_of : Note → ℕ
  number_of (Holds rec) = number (name_of rec)
  number_of _ = 0

  -- what the number of a holder's name is
  number_cases : (slot : ℕ) (x : CurrentOrPinned slot) →
      ((IsCurrent n.config.protocol list logical x.rec) × (number (name_of x.rec) ≡ x.rec.page))
      ⊎ (Contains pinned (name_of x.rec) × (number (name_of x.rec) ≡ logical + place pinned (name_of x.rec)))
  unfolding number
  number_cases slot x =
      by (x.rec.version == cur n.config.protocol list logical x.rec.page) refl
    where
      by : (b : Bool) → (x.rec.version == cur n.config.protocol list logical x.rec.page) ≡ b →
          ((IsCurrent n.config.protocol list logical x.rec)
          × ((if x.rec.version == cur n.config.protocol list logical x.rec.page then x.rec.page
          else logical + place pinned (name_of x.rec)) ≡ x.rec.page))
          ⊎ (Contains pinned (name_of x.rec)
          × ((if x.rec.version == cur n.config.protocol list logical x.rec.page then x.rec.page
          else logical + place pinned (name_of x.rec)) ≡ logical + place
          pinned (name_of x.rec)))
      by true e = inl (
        eqb-true x.rec.version (cur n.config.protocol list logical x.rec.page) e,
        cond-true (x.rec.version == cur n.config.protocol list logical x.rec.page) x.rec.page
            (logical + place pinned (name_of x.rec)) e,
      )
      by false e = inr (
        elim x.why [
          | inl current ↦ absurd
              (both_ways (x.rec.version == cur n.config.protocol list logical x.rec.page) e
              (eq-eqb x.rec.version (cur n.config.protocol list logical x.rec.page) current))
          | inr pin ↦ pin
        ],
        cond-false (x.rec.version == cur n.config.protocol list logical x.rec.page) x.rec.page
            (logical + place pinned (name_of x.rec)) e,
      )

  page_low : (slot : ℕ) (x : CurrentOrPinned slot) → x.rec.page < logical
  page_low slot x = (All-contains (PagesExist logical) list (found slot x.rec) (h.noted.sound Pages) x.is_in).0

  -- two slots with one number are one
  one_number : (a b : ℕ) (x : CurrentOrPinned a) (y : CurrentOrPinned b) →
      number (name_of x.rec) ≡ number (name_of y.rec) → a ≡ b
  one_number a b x y e =
      elim (number_cases a x) [
        | inl cx ↦ elim (number_cases b y) [
          | inl cy ↦ one_slot (same_current (sym cx.1 ∙ e ∙ cy.1) cx.0 cy.0)
          | inr py ↦ (let low = page_low a x in absurd (omega (arith, e, cx.1, py.1)))
        ]
        | inr px ↦ elim (number_cases b y) [
          | inl cy ↦ (let low = page_low b y in absurd (omega (arith, e, px.1, cy.1)))
          | inr py ↦ one_slot (place_one pinned (name_of x.rec) (name_of y.rec) px.0 py.0
              (omega (arith, e, px.1, py.1)))
        ]
      ]
    where
      one_slot : name_of x.rec ≡ name_of y.rec → a ≡ b
      one_slot same = same_Some a b (sym x.home ∙ ap (home_of n) same ∙ y.home)

      same_current : x.rec.page ≡ y.rec.page → IsCurrent n.config.protocol list logical x.rec →
          IsCurrent n.config.protocol list logical y.rec →
          name_of x.rec ≡ name_of y.rec
      same_current page cx cy =
          ap (λ v. record { page = x.rec.page; version = v }) (cx
          ∙ ap (cur n.config.protocol list logical) page ∙ sym cy)
          ∙ ap (λ q. record { page = q; version = y.rec.version }) page

  -- the absent name's number is that of no slot
  not_absent : (slot : ℕ) (x : CurrentOrPinned slot) → number (name_of x.rec) ≢ logical + place pinned h.absent
  not_absent slot x e =
      elim (number_cases slot x) [
        | inl cx ↦ (let low = page_low slot x in absurd (omega (arith, e, cx.1)))
        | inr px ↦
            (let same = place_one pinned (name_of x.rec) h.absent px.0 h.is_pinned (omega (arith, e, px.1)) in
            both_ways (is_present list h.absent) h.is_absent
            (subst (λ u. is_present list u ≡ true) same (present_as list (found slot x.rec) (name_of x.rec)
            x.is_in refl)))
      ]

  number_low : (slot : ℕ) (x : CurrentOrPinned slot) → number (name_of x.rec) < logical + length pinned
  number_low slot x = elim (number_cases slot x) [
    | inl cx ↦ (let low = page_low slot x in omega (arith, cx.1))
    | inr px ↦ omega (arith, px.1, place_low pinned (name_of x.rec) px.0)
  ]

  abbrev per : ℕ
  per = n.config.pages_per_block

  abbrev count : ℕ
  count = (blocks_of (shape_of n.config) - 1) * per

  abbrev at : ℕ → ℕ
  at k = skip per spare k

  skip_out : (k : ℕ) → is_outside (shape_of n.config) spare (at k) ≡ true
  skip_out k = by (is_outside (shape_of n.config) spare (at k)) refl
    where
      by : (b : Bool) → is_outside (shape_of n.config) spare (at k) ≡ b →
          is_outside (shape_of n.config) spare (at k) ≡ true
      by true e = e
      by false e =
          let some : 0 < per = (let b = h.noted.bounds.shape.pages_least in omega arith) in
          let here = inside_block per spare (at k) some (in_it (shape_of n.config) spare (at k) e) in
          elim (skip_cases per spare k) [
            | inl a ↦ absurd (omega (arith, here.0, a.0, a.1))
            | inr a ↦ absurd (omega (arith, here.1, a.0, a.1))
          ]

  held_by : (k : ℕ) → k < count → CurrentOrPinned (at k)
  held_by k within = holder (at k) (skip_low per spare k (blocks_of (shape_of n.config)) h.below within) (skip_out k)

  abbrev numbers : List ℕ
  numbers = map (λ k. number_of (note_at n.notes (at k))) (range_with_len 0 count)

  number_is : (k : ℕ) → (x : CurrentOrPinned (at k)) → number_of (note_at n.notes (at k)) ≡ number (name_of x.rec)
  unfolding number_of
  number_is k x = ap number_of x.holds

  numbers_at : (k d : ℕ) → (within : k < count) → get_or numbers k d ≡ number (name_of (held_by k within).rec)
  numbers_at k d within = get_or-map-range_with_len (λ k. number_of (note_at n.notes (at k))) 0 count k k d
      within (omega arith)
      ∙ number_is k (held_by k within)

  long : length numbers ≡ count
  long = length-map (range_with_len 0 count) (λ k. number_of (note_at n.notes (at k))) ∙ length-range_with_len 0 count

  apart : AllPairs (λ x y. x ≢ y) numbers
  apart i j d before within =
      let low_j : j < count = omega (arith, within, long) in
      let low_i : i < count = omega (arith, before, low_j) in
      λ e. (let one = one_number (at i) (at j) (held_by i low_i) (held_by j low_j) (sym (numbers_at i d low_i) ∙ e
      ∙ numbers_at j d low_j) in
      let same = skip_one per spare i j one in absurd (omega (arith, same, before)))

  -- so the slots outside the spare are fewer than the pages and the pinned names
  pub slots_few : count + 1 ≤ logical + length pinned
  slots_few =
      let extra = logical + place pinned h.absent in
      let all : AllPairs (λ x y. x ≢ y) (extra ∷ numbers) =
      AllPairs-cons (λ x y. x ≢ y) extra numbers
      (λ k d within. λ e. not_absent (at k) (held_by k (omega (arith, within, long)))
      (sym (numbers_at k d (omega (arith, within, long))) ∙ sym e)) apart in
      let most = length-le_from_distinct_below (extra ∷ numbers) (logical + length pinned)
      (IsDistinct-from_AllPairs Decides-eqb (extra ∷ numbers) all) below in
      omega (arith, most, long)
    where
      numbers_low : (x : ℕ) → Contains numbers x → x < logical + length pinned
      numbers_low x i =
          let low : i.0 < count = omega (arith, i.1, long) in
          subst (λ y. y < logical + length pinned) (sym (numbers_at i.0 x low) ∙ i.2)
          (number_low (at i.0) (held_by i.0 low))

      below : (q : ℕ) → list_any (eqb q) ((logical + place pinned h.absent) ∷ numbers) ≡ true →
          q < logical + length pinned
      below q e =
          let any = any_of (eqb q) ((logical + place pinned h.absent) ∷ numbers) e in
          let same : q ≡ any.0 = eqb-true q any.0 any.2 in
          elim (Contains-cases (logical + place pinned h.absent) numbers any.0 any.1) [
            | inl first ↦ omega (arith, same, first, place_low pinned h.absent h.is_pinned)
            | inr rest ↦ omega (arith, same, numbers_low any.0 rest)
          ]
