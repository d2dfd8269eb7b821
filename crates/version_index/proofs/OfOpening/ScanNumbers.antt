-- The numbers that the records of a scan get, in the order of their names.
use Rattle.version_index.proofs.Common.{◌≡◌, ◌≢◌, ℕ, ◌+◌, ◌<◌, ◌≤◌, ◌⊎◌, List, [], ◌∷◌, ◌++◌, length, get_or, All, Contains, Option, Some, None, refl, sym, ap, ◌∙◌, subst, inl, inr, arith, cases_eq, cases_lt, length-append, length-set, length-replicate, get_or-set_same, get_or-set_other, get_or_past, All-contains, Contains-get_or, none-some, same_Some, slots_of, Shape, Link, Rec, Found, name_of, nothing, TablesState, IsTablesState, record_at, HasFree, NamesAgree, AreNumbered, AreBlankBut}
use Rattle.std.proofs.Common.{replicate}
use Rattle.std.proofs.Math.ListN.{get_or-append}
use Rattle.std.proofs.Math.Seq.{get_or-append_seam}
use Rattle.std.proofs.lemmas.List.{get_or-replicate}
use Rattle.record_list.specs.Records as records
use Rattle.record_list.specs.SoundList.{OwnPageExists}
use Rattle.sorted_records.specs.SortedRecords.{IsInOrder}
use Rattle.sorted_records.proofs.OfSort.Order.{later_from}
use Rattle.slot_tables.specs.TablesState.{added, blank_tables, IsNewest}
use Rattle.version_index.specs.Filling.{IsNotOlder, IsNumbered, HasNumber}
use Rattle.version_index.proofs.OfProgram.FreeNumbers.{covers, find_free}

-- a record that is added has its number
pub added_numbered : (k : TablesState) → IsTablesState k → (x : ℕ) (rec : Rec) → x < slots_of k.shape →
    record_at k.records x ≡ None → IsNewest k.records rec →
    IsNumbered k (added k x rec) rec x
added_numbered k sizes x rec within free newest =
    let all = sizes.records in
    let low : x < length k.records = omega arith in
    record {
      free = free;
      newest = newest;
      rest = refl;
      pages = length-set k.pages rec.page _;
      sizes = length-set k.records x (Some rec);
      own = get_or-set_same k.records x (Some rec) None low;
      others = λ y off. get_or-set_other k.records x y (Some rec) None off;
    }

-- while the records get their numbers
pub record IsNumberingSo (its_shape : Shape) (logical : ℕ) (list : List Found) (numbers : List ℕ) (k : TablesState)
    (at : ℕ) : Type 0 where
  pub blank : AreBlankBut its_shape logical k
  pub long : length numbers ≡ at
  pub numbered : AreNumbered list numbers k

pub start_numbering : (its_shape : Shape) (logical : ℕ) (list : List Found) (k : TablesState) →
    k ≡ blank_tables its_shape logical →
    IsNumberingSo its_shape logical list [] k 0
start_numbering its_shape logical list k e =
    let b = blank_tables its_shape logical in
    let none : (x : ℕ) → record_at k.records x ≡ None = λ x. ap (λ (t : TablesState). record_at t.records x) e
    ∙ bare x in
    record {
      blank = record {
        rest = e ∙ ap (λ (t : TablesState). record b { records = t.records; pages = t.pages }) (sym e);
        pages = ap (λ (t : TablesState). length t.pages) e ∙ length-replicate logical [];
        sizes = ap (λ (t : TablesState). length t.records) e ∙ length-replicate (slots_of its_shape) None;
      };
      long = refl;
      numbered = record {
        each = λ j low. absurd (omega arith);
        some = λ x r is. absurd (none-some r (sym (none x) ∙ is));
        once = λ x y r s is_x is_y e. absurd (none-some r (sym (none x) ∙ is_x));
      };
    }
  where
    bare : (x : ℕ) → record_at (replicate (slots_of its_shape) None) x ≡ None
    bare x = elim (cases_lt x (slots_of its_shape)) [
      | inl low ↦ get_or-replicate (slots_of its_shape) x None None low
      | inr past ↦ get_or_past (replicate (slots_of its_shape) None) x None
          (let long = length-replicate {A = Option Rec} (slots_of its_shape) None in
          omega arith)
    ]

module _ (its_shape : Shape) (logical : ℕ) (list : List Found) (numbers : List ℕ) (k : TablesState) (at : ℕ)
    (h : IsNumberingSo its_shape logical list numbers k at) (below : at < length list) where
  abbrev rec : Rec
  rec = records.record_at list at

  -- its page exists
  pub its_page : All (OwnPageExists logical) list → rec.page < length k.pages
  its_page pages =
      let own = All-contains (OwnPageExists logical) list (get_or list at nothing) pages
      (Contains-get_or list at nothing below) in
      let all = h.blank.pages in
      omega arith

  -- a number is free
  pub its_free : length list ≤ slots_of its_shape → HasFree k.records
  its_free few = elim (find_free k.records) [
    | inl free ↦ free
    | inr all ↦ (
        let many = covers (length k.records) numbers (λ y low. (
        let r = all y low in
        let j = h.numbered.some y r.0 r.1 in
        subst (Contains numbers) j.2 (Contains-get_or numbers j.0 0 j.1))) in
        let sizes = h.blank.sizes in
        let long = h.long in
        absurd (omega arith))
  ]

  -- no record of its page is newer
  pub its_order : IsInOrder list → IsNotOlder k rec
  its_order order x r is of_page =
      let j = h.numbered.some x r is in
      let long = h.long in
      let its : records.record_at list j.0 ≡ r = same_Some (records.record_at list j.0) r (sym (h.numbered.each j.0 j.1)
      ∙ ap (record_at k.records) j.2 ∙ is) in
      let from = later_from list order j.0 at nothing (omega arith) below in
      let page = ap (λ (s : Rec). s.page) its in
      let version = ap (λ (s : Rec). s.version) its in
      elim from [ inl less ↦ absurd (omega arith) | inr both ↦ (let low = both.1 in omega arith) ]

  module _ (agree : NamesAgree list) (new : TablesState) (x : ℕ) (has : HasNumber k new rec x) where
    abbrev more : List ℕ
    more = numbers ++ x ∷ []

    last : get_or more at 0 ≡ x
    last = ap (λ i. get_or more i 0) (sym h.long) ∙ get_or-append_seam numbers x [] 0

    before : (j : ℕ) → j < at → get_or more j 0 ≡ get_or numbers j 0
    before j low = get_or-append numbers (x ∷ []) 0 j (let long = h.long in omega arith)

    longer : length more ≡ at + 1
    longer = length-append numbers (x ∷ []) ∙ ap (λ i. i + 1) h.long

    -- the numbers once it has one too
    numbers_more : (t : TablesState) → record_at t.records x ≡ Some rec →
        ((j : ℕ) → j < at → record_at t.records (get_or numbers j 0) ≡ Some (records.record_at list j)) →
        ((y : ℕ) (r : Rec) → record_at t.records y ≡ Some r →
        (y ≡ x) ⊎ ((j : ℕ) × (j < at) × (get_or numbers j 0 ≡ y))) →
        ((y z : ℕ) (r s : Rec) → record_at t.records y ≡ Some r → record_at t.records z ≡ Some s →
        name_of r ≡ name_of s → y ≡ z) →
        AreNumbered list more t
    numbers_more t own each some once = record {
      each = λ j low. elim (cases_eq j at) [
        | inl here ↦ ap (λ i. record_at t.records (get_or more i 0)) here ∙ ap (record_at t.records) last ∙ own
            ∙ ap (λ i. Some (records.record_at list i)) (sym here)
        | inr off ↦ (
            let long = longer in
            let less : j < at = omega arith in
            ap (record_at t.records) (before j less) ∙ each j less)
      ];
      some = λ y r is. elim (some y r is) [
        | inl here ↦ (at, (let long = longer in omega arith), last ∙ sym here)
        | inr j ↦ (j.0, (let long = longer in let low = j.1 in omega arith), before j.0 j.1 ∙ j.2)
      ];
      once = once;
    }

    old_some : (y : ℕ) (r : Rec) → record_at k.records y ≡ Some r → (j : ℕ) × (j < at) × (get_or numbers j 0 ≡ y)
    old_some y r is = let j = h.numbered.some y r is in (j.0, (let low = j.1 in let long = h.long in omega arith), j.2)

    old_each : (j : ℕ) → j < at → record_at k.records (get_or numbers j 0) ≡ Some (records.record_at list j)
    old_each j low = h.numbered.each j (let long = h.long in omega arith)

    pub number_more : IsNumberingSo its_shape logical list more new (at + 1)
    number_more = elim has [
      | inl known ↦ (
          let one : rec ≡ known.1.known =
          let j = old_some x known.1.known known.1.is in
          let its = same_Some (records.record_at list j.0) known.1.known (sym (old_each j.0 j.1)
          ∙ ap (record_at k.records) j.2 ∙ known.1.is) in
          let low = j.1 in
          agree (get_or list at nothing) (get_or list j.0 nothing) (Contains-get_or list at nothing below)
          (Contains-get_or list j.0 nothing (omega arith)) (sym known.1.its_name ∙ ap name_of (sym its)) ∙ its in
          let now = numbers_more k (known.1.is ∙ ap Some (sym one)) old_each (λ y r is. inr (old_some y r is))
          h.numbered.once in
          record {
            blank = subst (AreBlankBut its_shape logical) (sym known.0) h.blank;
            long = longer;
            numbered = subst (AreNumbered list more) (sym known.0) now;
          })
      | inr new_one ↦ record {
        blank = record {
          rest = new_one.rest ∙ ap (λ (t : TablesState). record t { records = new.records; pages = new.pages })
              h.blank.rest;
          pages = new_one.pages ∙ h.blank.pages;
          sizes = new_one.sizes ∙ h.blank.sizes;
        };
        long = longer;
        numbered = numbers_more new new_one.own
            (λ j low. new_one.others (get_or numbers j 0) (λ here. none-some (records.record_at list j)
            (sym new_one.free ∙ ap (record_at k.records) (sym here) ∙ old_each j low)) ∙ old_each j low)
            (λ y r is. elim (cases_eq y x) [
              | inl here ↦ inl here
              | inr off ↦ inr (old_some y r (sym (new_one.others y off) ∙ is))
            ])
            (λ y z r s is_y is_z e. elim (cases_eq y x) [
              | inl y_here ↦ elim (cases_eq z x) [
                | inl z_here ↦ y_here ∙ sym z_here
                | inr z_off ↦ absurd (newer new_one z s z_off is_z
                    (sym e ∙ ap name_of (same_Some r rec (sym is_y ∙ ap (record_at new.records) y_here ∙ new_one.own))))
              ]
              | inr y_off ↦ elim (cases_eq z x) [
                | inl z_here ↦ absurd (newer new_one y r y_off is_y
                    (e ∙ ap name_of (same_Some s rec (sym is_z ∙ ap (record_at new.records) z_here ∙ new_one.own))))
                | inr z_off ↦ h.numbered.once y z r s (sym (new_one.others y y_off) ∙ is_y)
                    (sym (new_one.others z z_off) ∙ is_z) e
              ]
            ]);
      }
    ]
      where
        newer : IsNumbered k new rec x → (y : ℕ) (r : Rec) → y ≢ x → record_at new.records y ≡ Some r →
            name_of r ≡ name_of rec → ⊥
        newer new_one y r off is e =
            let less = new_one.newest y r (sym (new_one.others y off) ∙ is) (ap (λ (l : Link). l.page) e) in
            let same = ap (λ (l : Link). l.version) e in
            omega arith
