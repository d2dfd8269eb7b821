-- The copies of each record, after a slot is set.
use Rattle.slot_tables.proofs.Common.{◌≡◌, ◌≢◌, ℕ, ◌<◌, true, false, eqb, inl, inr, List, [], length, set, replicate, refl, sym, ◌∙◌, ap, arith, length-set, Contains, position_or_len, remove, with_item, cases_eq, cases_lt, nat_tests, get_or-set_same, get_or-set_other, get_or-replicate, get_or_past, length-replicate, list_of, index_in, SlotUse, Blank, Damaged, Holds, use_at, holds, Rises, is_above, HoldsNone}
use Rattle.std.specs.List.{insert}
use Rattle.dense_tables.specs.LinkedLists.{IsListed, with_list, without}
use Rattle.dense_tables.proofs.Membership.{key_lies}
use Rattle.slot_tables.specs.declared.slots.Slots.TheInside.{Inside}
use Rattle.slot_tables.specs.Slots.{SlotsInvariant}
use Rattle.slot_tables.proofs.OfBaseTables.Copying.{copies_rise, copies_have, copies_put, copies_took, copies_stay}

pub holds_own : (x : ℕ) → holds x (Holds x) ≡ true
holds_own x = let same : eqb x x ≡ true = grind (arith, nat_tests) in same

pub holds_other : (x y : ℕ) → x ≢ y → holds x (Holds y) ≡ false
holds_other x y other = let no : eqb y x ≡ false = grind (arith, nat_tests) in no

pub none_holds : (x : ℕ) (u : SlotUse) → HoldsNone u → holds x u ≡ false
none_holds x Blank h = refl
none_holds x Damaged h = refl
none_holds x (Holds y) h = absurd h

-- a slot that holds a record has its number
pub holds_number : (x : ℕ) (u : SlotUse) → holds x u ≡ true → u ≡ Holds x
holds_number x Blank h = absurd (cc)
holds_number x Damaged h = absurd (cc)
holds_number x (Holds y) h = ap Holds (let same : y ≡ x = grind (arith, nat_tests) in same)

module _ (s : Inside) (h : SlotsInvariant s) where
  abbrev uses : List SlotUse
  uses = s.uses.items

  -- the list of a number rises
  pub list_rises : (x : ℕ) → x < length uses → Rises (list_of s.copies x)
  list_rises x low = rw (h.copies x low) (copies_rise uses x)

  -- a slot that holds a record is in its list
  pub list_has : (at x : ℕ) → at < length uses → use_at uses at ≡ Holds x → Contains (list_of s.copies x) at
  list_has at x low is = rw (h.copies x (h.held at x is)) ((copies_have uses x at).1 (low, rw is (holds_own x)))

  -- and one that holds none is in no list
  pub not_listed : (at : ℕ) → HoldsNone (use_at uses at) → IsListed s.copies at → ⊥
  not_listed at none (x, has) =
      let low : x < length uses = rw (← h.keys) (key_lies s.copies x at has) in
      let is = ((copies_have uses x at).0 (rw (h.copies x low) at has)).1 in
      let off = none_holds x (use_at uses at) none in
      absurd (let no : false ≡ true = sym off ∙ is in cc)

  -- a slot holds no record any more
  pub forgot : (at number : ℕ) → at < length uses → use_at uses at ≡ Holds number
      → SlotsInvariant (record s { uses = with_item s.uses at Blank; copies = without s.copies number at })
  forgot at number low is = record {
    small = rw (length-set uses at Blank) h.small;
    places = h.places ∙ sym (length-set uses at Blank);
    keys = length-set s.copies.lists number _ ∙ h.keys ∙ sym (length-set uses at Blank);
    held = λ k x e. rw (length-set uses at Blank) (still k x e);
    copies = λ x within.
        let lies : x < length uses = rw (length-set uses at Blank) at within in
        elim (cases_eq x number) [
          | inl own ↦
              rw own
              (get_or-set_same s.copies.lists number _ [] (rw h.keys (h.held at number is))
              ∙ ap (λ xs. remove xs (index_in xs at)) (h.copies number (h.held at number is))
              ∙ sym (copies_took uses at low Blank number (rw is (holds_own number)) refl))
          | inr other ↦
              get_or-set_other s.copies.lists number x _ [] other ∙ h.copies x lies
              ∙ sym (copies_stay uses at low Blank x (rw is (sym (holds_other x number other))))
        ];
  }
    where
      still : (k x : ℕ) → use_at (set uses at Blank) k ≡ Holds x → x < length uses
      still k x e = elim (cases_eq k at) [
        | inl own ↦ absurd (let no : Blank ≡ Holds x = sym (get_or-set_same uses at Blank Blank low)
            ∙ rw own at e in cc)
        | inr other ↦ h.held k x (sym (get_or-set_other uses at k Blank Blank other) ∙ e)
      ]

  -- a slot that held none holds another thing that is no record
  pub unheld : (at : ℕ) (to : SlotUse) → at < length uses → HoldsNone (use_at uses at) → HoldsNone to
      → SlotsInvariant (record s { uses = with_item s.uses at to })
  unheld at to low none now = record {
    small = rw (length-set uses at to) h.small;
    places = h.places ∙ sym (length-set uses at to);
    keys = h.keys ∙ sym (length-set uses at to);
    held = λ k x e. rw (length-set uses at to) (still k x e);
    copies = λ x within.
        h.copies x (rw (length-set uses at to) at within)
        ∙ sym (copies_stay uses at low to x (none_holds x to now ∙ sym (none_holds x (use_at uses at) none)));
  }
    where
      still : (k x : ℕ) → use_at (set uses at to) k ≡ Holds x → x < length uses
      still k x e = elim (cases_eq k at) [
        | inl own ↦ absurd (let is : to ≡ Holds x = sym (get_or-set_same uses at to Blank low)
            ∙ rw own at e in rw is at now)
        | inr other ↦ h.held k x (sym (get_or-set_other uses at k to Blank other) ∙ e)
      ]

  -- and where it comes to hold a record
  pub placed : (at number : ℕ) → at < length uses → HoldsNone (use_at uses at) → number < length uses
      → SlotsInvariant (record s {
        uses = with_item s.uses at (Holds number);
        copies = with_list s.copies number (insert (list_of s.copies number)
            (position_or_len (is_above at) (list_of s.copies number)) at);
      })
  placed at number low none numbered = record {
    small = rw (length-set uses at (Holds number)) h.small;
    places = h.places ∙ sym (length-set uses at (Holds number));
    keys = length-set s.copies.lists number _ ∙ h.keys ∙ sym (length-set uses at (Holds number));
    held = λ k x e. rw (length-set uses at (Holds number)) (still k x e);
    copies = λ x within.
        let lies : x < length uses = rw (length-set uses at (Holds number)) at within in
        elim (cases_eq x number) [
          | inl own ↦
              rw own
              (get_or-set_same s.copies.lists number _ [] (rw h.keys numbered)
              ∙ ap (λ xs. insert xs (position_or_len (is_above at) xs) at) (h.copies number numbered)
              ∙ sym (copies_put uses at low (Holds number) number (none_holds number (use_at uses at) none)
              (holds_own number)))
          | inr other ↦
              get_or-set_other s.copies.lists number x _ [] other ∙ h.copies x lies
              ∙ sym (copies_stay uses at low (Holds number) x (holds_other x number other
              ∙ sym (none_holds x (use_at uses at) none)))
        ];
  }
    where
      still : (k x : ℕ) → use_at (set uses at (Holds number)) k ≡ Holds x → x < length uses
      still k x e = elim (cases_eq k at) [
        | inl own ↦ (let is : Holds number ≡ Holds x = sym (get_or-set_same uses at (Holds number) Blank low)
            ∙ rw own at e in let same : number ≡ x = cc in rw (← same) numbered)
        | inr other ↦ h.held k x (sym (get_or-set_other uses at k (Holds number) Blank other) ∙ e)
      ]

-- no slot of a blank flash holds a record
pub none_held : (n at number : ℕ) → use_at (replicate n Blank) at ≡ Holds number → ⊥
none_held n at number is = elim (cases_lt at n) [
  | inl low ↦ (let no : Blank ≡ Holds number = sym (get_or-replicate {A = SlotUse} n at Blank Blank low) ∙ is in cc)
  | inr past ↦ (let no : Blank ≡ Holds number = sym (get_or_past {X = SlotUse} (replicate n Blank) at Blank
      (rw (length-replicate {A = SlotUse} n Blank) past)) ∙ is in cc)
]
