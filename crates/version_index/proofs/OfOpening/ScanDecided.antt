-- What is derived from the records of a scan, number by number.
use Rattle.version_index.proofs.Common.{◌≡◌, ◌≢◌, ℕ, ◌+◌, ◌<◌, Bool, true, List, length, set, get_or, IfSome, Option, Some, None, refl, sym, ap, ◌∙◌, subst, inl, inr, arith, position, option_map, cases_eq, cases_lt, cases_Bool, cond-true, cond-false, length-set, get_or-set_same, get_or-set_other, get_or_past, none-some, same_Some, cases_Option, slots_of, Protocol, Link, Rec, Found, has_name, nothing, cur, TablesState, IsTablesState, record_at, number_at, derived_by, number_by, AreNumbered, AreDecided, name_at, answerer, is_waiting, Derived, awaited, ◌⊎◌, false, name_of}
use Rattle.list_lemmas.proofs.Positions.{position_some}
use Rattle.list_lemmas.proofs.Tests.{find-position, find_stands}
use Rattle.record_list.specs.Current.{is_loose, IsLoose}
use Rattle.record_list.specs.Records as records
use Rattle.judged_records.proofs.OfNotes.Derived.{name_at_some, name_at_is, unanswered, unwaiting}
use Rattle.version_index.specs.Filling.{AreUndecided, IsCurrentAmong}

-- the place of a name that has a number
pub record IsPlaced (list : List Found) (numbers : List ℕ) (name : Option Link) (x : ℕ) : Type 0 where
  pub link : Link
  pub its_name : name ≡ Some link
  pub place : ℕ
  pub within : place < length list
  pub number : get_or numbers place 0 ≡ x
  pub named : has_name link (records.record_at list place) ≡ true

pub placed_by : (list : List Found) (numbers : List ℕ) (name : Option Link) (x : ℕ) →
    number_by list numbers name ≡ Some x → IsPlaced list numbers name x
placed_by list numbers None x e = absurd (none-some x e)
placed_by list numbers (Some link) x e = elim (cases_Option (position (λ f. has_name link f.rec) list)) [
  | inl none ↦ absurd (none-some x (sym (ap (option_map (λ p. get_or numbers p 0)) none) ∙ e))
  | inr some ↦ (
      let p : Found → Bool = λ f. has_name link f.rec in
      let within = position_some p list some.0 some.1 in
      let stands = find_stands p list (get_or list some.0 nothing) (find-position p list some.0 nothing some.1) in
      record {
        link = link;
        its_name = refl;
        place = some.0;
        within = within.1;
        number = same_Some (get_or numbers some.0 0) x (sym (ap (option_map (λ q. get_or numbers q 0)) some.1) ∙ e);
        named = stands.1;
      })
]

module _ (list : List Found) (numbers : List ℕ) (k : TablesState) (numbered : AreNumbered list numbers k)
    (whole : length numbers ≡ length list)
    (sizes : IsTablesState k) where
  -- a number of a place is in range
  pub place_below : (j : ℕ) → j < length list → get_or numbers j 0 < slots_of k.shape
  place_below j low =
      let is = numbered.each j (omega arith) in
      let all = sizes.records in
      elim (cases_lt (get_or numbers j 0) (length k.records)) [
        | inl less ↦ omega arith
        | inr past ↦ absurd (none-some (records.record_at list j)
            (sym (get_or_past k.records (get_or numbers j 0) None past) ∙ is))
      ]

  pub name_below : (name : Option Link) (o : Option ℕ) → o ≡ number_by list numbers name →
      IfSome o (λ x. x < slots_of k.shape)
  name_below name None e = tt
  name_below name (Some x) e =
      let p = placed_by list numbers name x (sym e) in
      subst (λ y. y < slots_of k.shape) p.number (place_below p.place p.within)

-- tables with the same records have the same numbers
pub numbered_in : (list : List Found) (numbers : List ℕ) (k t : TablesState) → AreNumbered list numbers k →
    t.records ≡ k.records → AreNumbered list numbers t
numbered_in list numbers k t numbered same =
    let back : (x : ℕ) → record_at t.records x ≡ record_at k.records x = λ x. ap (λ l. record_at l x) same in
    record {
      each = λ j low. back (get_or numbers j 0) ∙ numbered.each j low;
      some = λ x r is. numbered.some x r (sym (back x) ∙ is);
      once = λ x y r s is_x is_y e. numbered.once x y r s (sym (back x) ∙ is_x) (sym (back y) ∙ is_y) e;
    }

module _ (protocol : Protocol) (list : List Found) (numbers : List ℕ) (logical : ℕ) where
  abbrev version_of : ℕ → ℕ
  version_of page = cur protocol list logical page

  pub start_decided : (k : TablesState) → AreUndecided k → AreDecided protocol list numbers logical k k 0
  start_decided k none = record {
    rest = refl;
    pages = refl;
    answerers = refl;
    waits = refl;
    current = λ page low. inr (λ j less. absurd (omega arith), none.current page);
    done = λ j low. absurd (omega arith);
    others = λ x. inr (none.answerers x, none.waits x);
  }

  module _ (k t : TablesState) (numbered : AreNumbered list numbers t) (whole : length numbers ≡ length list)
      (sizes : IsTablesState t) (i : ℕ)
      (h : AreDecided protocol list numbers logical k t i) (below : i < length list) where
    abbrev x : ℕ
    x = get_or numbers i 0

    abbrev r : Rec
    r = records.record_at list i

    -- two places of one number have one record
    one_record : (j : ℕ) → j < length list → get_or numbers j 0 ≡ x → r ≡ records.record_at list j
    one_record j low same =
        same_Some r (records.record_at list j)
        (sym (numbered.each i (omega arith)) ∙ ap (record_at t.records) (sym same) ∙ numbered.each j (omega arith))

    -- a record that is not current has the name of no current one
    abbrev IsAside : Type 0
    IsAside = 0 < version_of r.page → r.version ≡ version_of r.page → ⊥

    no_name : IsAside → (page : ℕ) → name_at page (version_of page) ≢ Some (name_of r)
    no_name aside page e =
        let is = name_at_is page (version_of page) (name_of r) e in
        let own = ap (λ (l : Link). l.page) is.1 in
        let its = ap (λ (l : Link). l.version) is.1 in
        aside (subst (λ p. 0 < version_of p) (sym own) is.0) (its ∙ ap version_of (sym own))

    among_more : (page : ℕ) (o : Option ℕ) → IsCurrentAmong protocol list numbers logical i page o →
        name_at page (version_of page) ≢ Some (name_of r) →
        IsCurrentAmong protocol list numbers logical (i + 1) page o
    among_more page o was none = elim was [
      | inl (j, low, name, is) ↦ inl (j, omega arith, name, is)
      | inr (others, is) ↦ inr (
        λ j low e. elim (cases_eq j i) [
          | inl here ↦ none (e ∙ ap (λ q. Some (name_of (records.record_at list q))) here)
          | inr off ↦ others j (omega arith) e
        ],
        is,
      )
    ]

    -- a loose record has an answerer, or waits
    pub loose_decided : (a w : Option ℕ) → IsLoose protocol list logical r →
        a ≡ number_by list numbers (answerer protocol list logical r) →
        w ≡ awaited (derived_by protocol list logical) r →
        AreDecided protocol list numbers logical k
        (record t { answerers = set t.answerers x a; waits = set t.waits x w }) (i + 1)
    loose_decided a w loose is_a is_w =
        let low = place_below list numbers t numbered whole sizes i below in
        let sized_a = sizes.answerers in
        let sized_w = sizes.waits in
        let in_a : x < length t.answerers = omega arith in
        let in_w : x < length t.waits = omega arith in
        record {
          rest = ap (λ (v : TablesState). record v { answerers = set t.answerers x a; waits = set t.waits x w }) h.rest;
          pages = h.pages;
          answerers = length-set t.answerers x a ∙ h.answerers;
          waits = length-set t.waits x w ∙ h.waits;
          current = λ page exists. among_more page (number_at t.current page) (h.current page exists)
              (no_name (λ some same. omega (arith, loose)) page);
          done = λ j less. elim (cases_eq (get_or numbers j 0) x) [
            | inl here ↦ (
                let one = one_record j (omega arith) here in (
                  ap (number_at (set t.answerers x a)) here ∙ get_or-set_same t.answerers x a None in_a ∙ is_a
                      ∙ ap (λ q. number_by list numbers (answerer protocol list logical q)) one,
                  ap (number_at (set t.waits x w)) here ∙ get_or-set_same t.waits x w None in_w ∙ is_w
                      ∙ ap (awaited (derived_by protocol list logical)) one,
                ))
            | inr off ↦ (
                let before : j < i = elim (cases_eq j i) [
                  | inl same ↦ absurd (off (ap (λ q. get_or numbers q 0) same))
                  | inr other ↦ omega arith
                ] in
                let old = h.done j before in (
                  get_or-set_other t.answerers x (get_or numbers j 0) a None off ∙ old.0,
                  get_or-set_other t.waits x (get_or numbers j 0) w None off ∙ old.1,
                ))
          ];
          others = λ y. elim (cases_eq y x) [
            | inl here ↦ inl (i, omega arith, sym here)
            | inr off ↦ elim (h.others y) [
              | inl (j, less, same) ↦ inl (j, omega arith, same)
              | inr none ↦ inr (
                get_or-set_other t.answerers x y a None off ∙ none.0,
                get_or-set_other t.waits x y w None off ∙ none.1,
              )
            ]
          ];
        }

    -- any other has none, and does not
    none_of : is_loose protocol list logical r ≡ false →
        (number_by list numbers (answerer protocol list logical r) ≡ None)
        × (awaited (derived_by protocol list logical) r ≡ None)
    none_of fixed = (
      ap (number_by list numbers) (unanswered protocol list logical r fixed),
      cond-false (is_waiting protocol list logical r) (Some r.next.page) None
          (unwaiting protocol list logical r fixed),
    )

    bare : is_loose protocol list logical r ≡ false → (number_at t.answerers x ≡ None) × (number_at t.waits x ≡ None)
    bare fixed = elim (h.others x) [
      | inl (j, less, same) ↦
          let one = one_record j (omega arith) same in
          let old = h.done j less in
          let none = none_of fixed in (
            ap (number_at t.answerers) (sym same) ∙ old.0
                ∙ ap (λ q. number_by list numbers (answerer protocol list logical q)) (sym one) ∙ none.0,
            ap (number_at t.waits) (sym same) ∙ old.1
                ∙ ap (awaited (derived_by protocol list logical)) (sym one) ∙ none.1,
          )
      | inr none ↦ none
    ]

    done_more : is_loose protocol list logical r ≡ false → (j : ℕ) → j < i + 1 →
        (number_at t.answerers (get_or numbers j 0)
        ≡ number_by list numbers (answerer protocol list logical (records.record_at list j)))
        × (number_at t.waits (get_or numbers j 0)
        ≡ awaited (derived_by protocol list logical) (records.record_at list j))
    done_more fixed j less = elim (cases_eq j i) [
      | inl here ↦
          let own = bare fixed in
          let none = none_of fixed in
          subst (λ q. (number_at t.answerers (get_or numbers q 0)
          ≡ number_by list numbers (answerer protocol list logical (records.record_at list q)))
          × (number_at t.waits (get_or numbers q 0)
          ≡ awaited (derived_by protocol list logical) (records.record_at list q)))
          (sym here) (own.0 ∙ sym none.0, own.1 ∙ sym none.1)
      | inr off ↦ h.done j (omega arith)
    ]

    others_more : (y : ℕ) →
        ((j : ℕ) × (j < i + 1) × (get_or numbers j 0 ≡ y))
        ⊎ ((number_at t.answerers y ≡ None) × (number_at t.waits y ≡ None))
    others_more y = elim (h.others y) [
      | inl (j, less, same) ↦ inl (j, omega arith, same)
      | inr none ↦ inr none
    ]

    -- of a stale record nothing is set
    pub stale_decided : is_loose protocol list logical r ≡ false → IsAside →
        AreDecided protocol list numbers logical k t (i + 1)
    stale_decided fixed aside = record {
      rest = h.rest;
      pages = h.pages;
      answerers = h.answerers;
      waits = h.waits;
      current = λ page exists. among_more page (number_at t.current page) (h.current page exists)
          (no_name aside page);
      done = done_more fixed;
      others = others_more;
    }

    -- a current one is the current record of its page
    pub current_decided : is_loose protocol list logical r ≡ false → r.page < length t.pages →
        0 < version_of r.page → r.version ≡ version_of r.page →
        AreDecided protocol list numbers logical k (record t { current = set t.current r.page (Some x) }) (i + 1)
    current_decided fixed own some same =
        let sized = sizes.current in
        let in_current : r.page < length t.current = omega arith in
        record {
          rest = ap (λ (v : TablesState). record v { current = set t.current r.page (Some x) }) h.rest;
          pages = length-set t.current r.page (Some x) ∙ h.pages;
          answerers = h.answerers;
          waits = h.waits;
          current = λ page exists. elim (cases_eq page r.page) [
            | inl here ↦ inl (
              i,
              omega arith,
              ap (λ p. name_at p (version_of p)) here ∙ name_at_some r.page (version_of r.page) some
                  ∙ ap (λ v. Some (record { page = r.page; version = v })) (sym same),
              ap (number_at (set t.current r.page (Some x))) here
                  ∙ get_or-set_same t.current r.page (Some x) None in_current,
            )
            | inr off ↦ subst (IsCurrentAmong protocol list numbers logical (i + 1) page)
                (sym (get_or-set_other t.current r.page page (Some x) None off))
                (among_more page (number_at t.current page) (h.current page exists)
                (λ e. off (sym (ap (λ (l : Link). l.page) (name_at_is page (version_of page) (name_of r) e).1))))
          ];
          done = done_more fixed;
          others = others_more;
        }

-- the page that a record waits for exists
pub awaited_exists : (j : Derived) (r : Rec) (count : ℕ) (o : Option ℕ) → o ≡ awaited j r → r.next.page < count →
    IfSome o (λ page. page < count)
awaited_exists j r count None e below = tt
awaited_exists j r count (Some page) e below = elim (cases_Bool (j.waits r)) [
  | inl waits ↦ (
      let same = same_Some page r.next.page (e ∙ cond-true (j.waits r) (Some r.next.page) None waits) in
      subst (λ p. p < count) (sym same) below)
  | inr none ↦ absurd (none-some page (sym (e ∙ cond-false (j.waits r) (Some r.next.page) None none)))
]
