-- Which records wait, after one waits for another page or for none.
use Rattle.slot_tables.proofs.Common.{◌≡◌, ◌≢◌, ℕ, ◌+◌, ◌<◌, ◌≤◌, inl, inr, Option, Some, None, List, [], length, set, replicate, refl, sym, ◌∙◌, count_by, arith, length-set, Contains, cases_eq, cases_lt, get_or-set_same, get_or-set_other, get_or-replicate, get_or_past, length-replicate, sum_by-set, one_of, Contains-nil, AreDisjoint, list_of, with_first, number_at}
use Rattle.std.proofs.lemmas.List.Folds.{sum_by-replicate}
use Rattle.dense_tables.specs.LinkedLists.{IsListed, without, empty_lists}
use Rattle.slot_tables.specs.declared.wait_list.WaitList.TheInside.{Inside}
use Rattle.slot_tables.specs.TablesState.{is_some_number}
use Rattle.slot_tables.specs.WaitList.{WaitListInvariant}
use Rattle.slot_tables.proofs.OfRecords.Listed.{in_without, in_with_first}

module _ (w : Inside) (h : WaitListInvariant w) (number : ℕ) (low : number < length w.waits) where
  other_entry : (to : Option ℕ) (y : ℕ) → y ≢ number → number_at (set w.waits number to) y ≡ number_at w.waits y
  other_entry to y other = get_or-set_other w.waits number y to None other

  own_entry : (to : Option ℕ) → number_at (set w.waits number to) number ≡ to
  own_entry to = get_or-set_same w.waits number to None low

  counted : (to : Option ℕ) → count_by is_some_number (set w.waits number to) + one_of
      (is_some_number (number_at w.waits number))
      ≡ count_by is_some_number w.waits + one_of (is_some_number to)
  counted to = sum_by-set (λ a. one_of (is_some_number a)) w.waits number to None low

  -- one that waits is counted
  pub one_waits : (page : ℕ) → number_at w.waits number ≡ Some page → 1 ≤ w.count
  one_waits page is =
      let one : one_of (is_some_number (number_at w.waits number)) ≡ 1 = rw is refl in
      omega (arith, counted None, one, h.count)

  -- it waits no more
  pub forgot : (page count : ℕ) → number_at w.waits number ≡ Some page → count + 1 ≡ w.count →
      AreDisjoint (without w.waiting page number)
      → WaitListInvariant (record w {
        waits = set w.waits number None;
        waiting = without w.waiting page number;
        count = count;
      })
  forgot page count is less apart = record {
    count = let one : one_of (is_some_number (number_at w.waits number)) ≡ 1 = rw is refl in
        omega (arith, counted None, one, less, h.count);
    small = rw (length-set w.waits number None) h.small;
    waiting = record {
      places = h.waiting.places ∙ sym (length-set w.waits number None);
      pages = refl;
      waiting = λ k y.
          let both = in_without w.waiting page number h.waiting.disjoint ((h.waiting.waiting page number).1 is) k y in (
            λ has. let old = both.0 has in other_entry None y old.1 ∙ (h.waiting.waiting k y).0 old.0,
            λ e. elim (cases_eq y number) [
              | inl own ↦ absurd (let no : None ≡ Some k = sym (own_entry None) ∙ rw own at e in cc)
              | inr other ↦ both.1 ((h.waiting.waiting k y).1 (sym (other_entry None y other) ∙ e), other)
            ],
          );
      disjoint = apart;
    };
  }

  -- it is in no list where it waits for none
  pub unlisted : number_at w.waits number ≡ None → IsListed w.waiting number → ⊥
  unlisted none (k, has) = (let no : None ≡ Some k = sym none ∙ (h.waiting.waiting k number).0 has in cc)

  -- it comes to wait
  pub placed : (page : ℕ) → number_at w.waits number ≡ None → page < length w.waiting.lists →
      AreDisjoint (with_first w.waiting page number)
      → WaitListInvariant (record w {
        waits = set w.waits number (Some page);
        waiting = with_first w.waiting page number;
        count = w.count + 1;
      })
  placed page none within apart = record {
    count =
        let off : one_of (is_some_number (number_at w.waits number)) ≡ 0 = rw none refl in
        omega (arith, counted (Some page), off, h.count);
    small = rw (length-set w.waits number (Some page)) h.small;
    waiting = record {
      places = h.waiting.places ∙ sym (length-set w.waits number (Some page));
      pages = refl;
      waiting = λ k y.
          let either = in_with_first w.waiting page number within k y in (
            λ has. elim (either.0 has) [
              | inl both ↦ rw (both.0, both.1) (own_entry (Some page))
              | inr old ↦ elim (cases_eq y number) [
                | inl own ↦ absurd (unlisted none (k, rw own at old))
                | inr other ↦ other_entry (Some page) y other ∙ (h.waiting.waiting k y).0 old
              ]
            ],
            λ e. elim (cases_eq y number) [
              | inl own ↦ (let is : Some page ≡ Some k = sym (own_entry (Some page))
                  ∙ rw own at e in let same : page ≡ k = cc in either.1 (inl (sym same, own)))
              | inr other ↦ either.1 (inr ((h.waiting.waiting k y).1 (sym (other_entry (Some page) y other) ∙ e)))
            ],
          );
      disjoint = apart;
    };
  }

-- at first none waits
pub none_wait : (w : Inside) (pages count : ℕ) → w.waits ≡ replicate count None →
    w.waiting ≡ empty_lists pages count → count ≤ 65536
    → w.count ≡ 0 → WaitListInvariant w
none_wait w pages count waits lists few zero = record {
  count = rw (waits, zero) (sym (none_some count));
  small = rw long few;
  waiting = record {
    places = rw (lists, long) refl;
    pages = refl;
    waiting = λ k y. (λ has. absurd (empty k y has), λ is. absurd (none_at k y (rw waits at is)));
    disjoint = record {
      within = λ k y has. absurd (empty k y has);
      apart = λ k j y has other. absurd (empty k y has);
      once = λ k i j d less low. absurd (let none = none_in k in let no = rw none at low in omega arith);
    };
  };
}
  where
    none_some : (n : ℕ) → count_by is_some_number (replicate n None) ≡ 0
    none_some n = sum_by-replicate (λ a. one_of (is_some_number a)) n None ∙ omega arith

    long : length w.waits ≡ count
    long = rw waits (length-replicate {A = Option ℕ} count None)

    none_in : (k : ℕ) → list_of w.waiting k ≡ []
    none_in k = rw lists (elim (cases_lt k pages) [
      | inl low ↦ get_or-replicate {A = List ℕ} pages k [] [] low
      | inr past ↦ get_or_past {X = List ℕ} (replicate pages []) k [] (rw (length-replicate {A = List ℕ} pages []) past)
    ])

    empty : (k y : ℕ) → Contains (list_of w.waiting k) y → ⊥
    empty k y has = Contains-nil y (rw (none_in k) at has)

    none_at : (k y : ℕ) → number_at (replicate count None) y ≡ Some k → ⊥
    none_at k y is = elim (cases_lt y count) [
      | inl low ↦ (let no : None ≡ Some k = sym (get_or-replicate {A = Option ℕ} count y None None low) ∙ is in cc)
      | inr past ↦ (let no : None ≡ Some k = sym (get_or_past {X = Option ℕ} (replicate count None) y None
          (rw (length-replicate {A = Option ℕ} count None) past)) ∙ is in cc)
    ]
