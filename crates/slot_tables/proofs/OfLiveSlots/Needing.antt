-- Which slots are needed after what was given has changed.
use Rattle.slot_tables.proofs.Common.{◌≡◌, ◌≢◌, ℕ, ◌<◌, ◌⊎◌, Bool, true, false, cond, ◌&&◌, ◌||◌, eqb, ltb, inl, inr, Option, Some, None, List, length, get_or, set, count_by, refl, sym, ◌∙◌, ap, ap₂, arith, length-set, eqb-true, Contains, slice_get, find, IfSome, option_and_then, cases_eq, false≢true, nat_tests, get_or-set_same, get_or-set_other, sum_by-set, one_of, got_within, cases_Option, Rec, is_slot, is_outside_spare, TablesState, use_at, number_in, number_at, record_at, is_number, home, copies_of, is_wanted, is_needed, is_needed_for, is_marked, refreshed}
use Rattle.std.specs.Option.{option_map_or}
use Rattle.list_lemmas.proofs.Options.{option_or_some}
use Rattle.list_lemmas.proofs.Tests.{find_stands}
use Rattle.slot_tables.specs.TablesState.{is_answerer, is_wanted_as}
use Rattle.slot_tables.specs.BaseTables.{is_same_slot, moved_refreshed}
use Rattle.slot_tables.proofs.OfAnswerers.Answering.{any_counted}
use Rattle.slot_tables.proofs.OfBaseTables.Copying.{copies_have}
use Rattle.slot_tables.proofs.OfBaseTables.Held.{holds_number}

-- by the number that the slot holds
pub needed_some : (k : TablesState) (at number : ℕ) → number_in (use_at k.slots at) ≡ Some number
    → is_needed k at ≡ (is_slot at (home k number) && is_wanted k number)
unfolding is_needed
needed_some k at number e = ap (is_needed_for k at) e

pub needed_none : (k : TablesState) (at : ℕ) → number_in (use_at k.slots at) ≡ None → is_needed k at ≡ false
unfolding is_needed
needed_none k at e = ap (is_needed_for k at) e

pub not_slot : (at : ℕ) (o : Option ℕ) → (o ≡ Some at → ⊥) → is_slot at o ≡ false
not_slot at None h = refl
not_slot at (Some x) h = let other : x ≢ at = λ e. h (ap Some e) in
    let no : eqb x at ≡ false = grind (arith, nat_tests) in no

not_number : (x : ℕ) (o : Option ℕ) → (o ≡ Some x → ⊥) → is_number x o ≡ false
not_number x None h = refl
not_number x (Some y) h = let other : y ≢ x = λ e. h (ap Some e) in
    let no : eqb y x ≡ false = grind (arith, nat_tests) in no

-- the home of a record is one of its copies
pub home_copy : (k : TablesState) (number at : ℕ) → home k number ≡ Some at → Contains (copies_of k.slots number) at
home_copy k number at is =
    elim (option_or_some (find (is_outside_spare k.shape k.spare) (copies_of k.slots number))
    (slice_get (copies_of k.slots number) 0) at is) [
      | inl found ↦ (find_stands (is_outside_spare k.shape k.spare) (copies_of k.slots number) at found).0
      | inr first ↦ got_within (copies_of k.slots number) 0 at first.1
    ]

-- the home of a record is needed where the record is wanted
pub home_wanted : (k : TablesState) (number at : ℕ) → home k number ≡ Some at → is_needed k at ≡ is_wanted k number
home_wanted k number at is =
    let held = ap number_in (holds_number number (use_at k.slots at)
    ((copies_have k.slots number at).0 (home_copy k number at is)).1) in
    let own : eqb at at ≡ true = grind (arith, nat_tests) in
    needed_some k at number held ∙ ap (λ o. is_slot at o && is_wanted k number) is
    ∙ ap (λ b. b && is_wanted k number) own

pub home_lies : (k : TablesState) (number : Option ℕ) →
    IfSome (option_and_then (home k) number) (λ at. at < length k.slots)
home_lies k None = tt
home_lies k (Some number) = by (home k number) refl
  where
    by : (o : Option ℕ) → home k number ≡ o → IfSome o (λ at. at < length k.slots)
    by None e = tt
    by (Some at) e = ((copies_have k.slots number at).0 (home_copy k number at e)).0

-- the need of a slot stays where its record keeps its home and is wanted as before, or has its home elsewhere before
-- and after
module _ (k k' : TablesState) (at : ℕ) (same : number_in (use_at k'.slots at) ≡ number_in (use_at k.slots at)) where
  pub need_stays : ((number : ℕ) → number_in (use_at k.slots at) ≡ Some number
      → ((home k' number ≡ home k number) × (is_wanted k' number ≡ is_wanted k number)) ⊎ ((home k number ≡ Some at
      → ⊥) × (home k' number ≡ Some at → ⊥)))
      → is_needed k' at ≡ is_needed k at
  need_stays keeps = elim (cases_Option (number_in (use_at k.slots at))) [
    | inl none ↦ needed_none k' at (same ∙ none) ∙ sym (needed_none k at none)
    | inr some ↦
        needed_some k' at some.0 (same ∙ some.1)
        ∙ elim (keeps some.0 some.1) [
          | inl both ↦ ap₂ (λ o w. is_slot at o && w) both.0 both.1
          | inr off ↦ ap (λ b. b && is_wanted k' some.0) (not_slot at (home k' some.0) off.1) ∙ ap
              (λ b. b && is_wanted k some.0) (sym (not_slot at (home k some.0) off.0))
        ] ∙ sym (needed_some k at some.0 some.1)
  ]

-- a slot that is refreshed, or was right, is marked as it is needed
pub refreshed_at : (k : TablesState) (needed : List Bool) (o : Option ℕ) (at : ℕ) → IfSome o (λ s. s < length needed)
    → ((o ≡ Some at → ⊥) → is_marked needed at ≡ is_needed k at) → is_marked (refreshed k needed o) at ≡ is_needed k at
refreshed_at k needed None at low right = right (λ e. absurd (cc))
refreshed_at k needed (Some s) at low right = elim (cases_eq at s) [
  | inl here ↦ rw here (get_or-set_same needed s (is_needed k s) false low)
  | inr other ↦ get_or-set_other needed s at (is_needed k s) false other
      ∙ right (λ e. other (let same : s ≡ at = cc in sym same))
]

pub refreshed_long : (k : TablesState) (needed : List Bool) (o : Option ℕ) →
    length (refreshed k needed o) ≡ length needed
refreshed_long k needed None = refl
refreshed_long k needed (Some s) = length-set needed s (is_needed k s)

pub same_slot : (a b : Option ℕ) → is_same_slot a b ≡ true → a ≡ b
same_slot None None e = refl
same_slot None (Some b) e = absurd (false≢true e)
same_slot (Some a) None e = absurd (false≢true e)
same_slot (Some a) (Some b) e = ap Some (eqb-true a b e)

pub other_slot : (a b : Option ℕ) → is_same_slot a b ≡ false → a ≢ b
other_slot None None e = absurd (false≢true (sym e))
other_slot None (Some b) e = λ same. cc
other_slot (Some a) None e = λ same. cc
other_slot (Some a) (Some b) e = λ same. (let its : a ≡ b = cc in let yes : eqb a b ≡ true = grind (arith, nat_tests) in
    false≢true (sym e ∙ yes))

-- a mark that is said anew is right, and the others stay
refreshed_or : (k : TablesState) (needed : List Bool) (o : Option ℕ) (s : ℕ) → IfSome o (λ at. at < length needed)
    → (is_marked (refreshed k needed o) s ≡ is_marked needed s) ⊎ (is_marked (refreshed k needed o) s ≡ is_needed k s)
refreshed_or k needed None s low = inl refl
refreshed_or k needed (Some at) s low = elim (cases_eq s at) [
  | inl here ↦ inr (rw here (get_or-set_same needed at (is_needed k at) false low))
  | inr other ↦ inl (get_or-set_other needed at s (is_needed k at) false other)
]

-- of two slots that are refreshed where they are not the same
module _ (k : TablesState) (needed : List Bool) (before after : Option ℕ) where
  pub moved_long : length (moved_refreshed k needed before after) ≡ length needed
  moved_long = by (is_same_slot before after)
    where
      by : (b : Bool) → length (cond b needed (refreshed k (refreshed k needed before) after)) ≡ length needed
      by true = refl
      by false = refreshed_long k (refreshed k needed before) after ∙ refreshed_long k needed before

  pub moved_at : (at : ℕ) → IfSome before (λ s. s < length needed) → IfSome after (λ s. s < length needed)
      → (before ≡ after → is_marked needed at ≡ is_needed k at)
      → ((before ≡ Some at → ⊥) → (after ≡ Some at → ⊥) → is_marked needed at ≡ is_needed k at)
      → is_marked (moved_refreshed k needed before after) at ≡ is_needed k at
  moved_at at low low' same off = by (is_same_slot before after) refl
    where
      by : (b : Bool) → is_same_slot before after ≡ b
          → is_marked (cond b needed (refreshed k (refreshed k needed before) after)) at ≡ is_needed k at
      by true e = same (same_slot before after e)
      by false e = refreshed_at k (refreshed k needed before) after at
          (rw (refreshed_long k needed before) low') (λ apart.
          refreshed_at k needed before at low (λ away. off away apart))

  -- a mark stays or is right
  pub moved_or : (at : ℕ) → IfSome before (λ s. s < length needed) → IfSome after (λ s. s < length needed)
      → (is_marked (moved_refreshed k needed before after) at ≡ is_marked needed at)
      ⊎ (is_marked (moved_refreshed k needed before after) at ≡ is_needed k at)
  moved_or at low low' = by (is_same_slot before after)
    where
      by : (b : Bool) → (is_marked (cond b needed (refreshed k (refreshed k needed before) after)) at
          ≡ is_marked needed at)
          ⊎ (is_marked (cond b needed (refreshed k (refreshed k needed before) after)) at ≡ is_needed k at)
      by true = inl refl
      by false = elim (refreshed_or k (refreshed k needed before) after at (rw (refreshed_long k needed before) low')) [
        | inr right ↦ inr right
        | inl same ↦ elim (refreshed_or k needed before at low) [
          | inl still ↦ inl (same ∙ still)
          | inr right ↦ inr (same ∙ right)
        ]
      ]

-- whether a record is wanted, by its own
pub wanted_by : (k k' : TablesState) (number : ℕ) → k'.records ≡ k.records
    → ((r : Rec) → record_at k.records number ≡ Some r → is_wanted_as k' number r ≡ is_wanted_as k number r)
    → is_wanted k' number ≡ is_wanted k number
wanted_by k k' number records same =
    ap (λ rs. option_map_or (is_wanted_as k' number) (record_at rs number) false) records
    ∙ by (record_at k.records number) same
  where
    by : (o : Option Rec) → ((r : Rec) → o ≡ Some r → is_wanted_as k' number r ≡ is_wanted_as k number r)
        → option_map_or (is_wanted_as k' number) o false ≡ option_map_or (is_wanted_as k number) o false
    by None h = refl
    by (Some r) h = h r refl

-- another current record of a page changes it for the old one and the new one
pub current_wanted : (k : TablesState) (page number : ℕ) (to : Option ℕ) → page < length k.current →
    (number_at k.current page ≡ Some number → ⊥)
    → (to ≡ Some number → ⊥)
    → is_wanted (record k { current = set k.current page to }) number ≡ is_wanted k number
current_wanted k page number to low old new =
    wanted_by k (record k { current = set k.current page to }) number refl
    (λ r is. ap (λ b. b || is_answerer k.answerers number || eqb r.version (get_or k.pins r.page 0))
    (elim (cases_eq r.page page) [
      | inl here ↦ rw (here, get_or-set_same k.current page to None low) (not_number number to new
          ∙ sym (not_number number (number_at k.current page) old))
      | inr other ↦ ap (is_number number) (get_or-set_other k.current page r.page to None other)
    ]))

-- another answerer changes it for the old one and the new one
pub answerer_wanted : (k : TablesState) (y number : ℕ) (to : Option ℕ) → y < length k.answerers →
    (number_at k.answerers y ≡ Some number → ⊥)
    → (to ≡ Some number → ⊥)
    → is_wanted (record k { answerers = set k.answerers y to }) number ≡ is_wanted k number
answerer_wanted k y number to low old new =
    wanted_by k (record k { answerers = set k.answerers y to }) number refl
    (λ r is. ap (λ b. is_number number (number_at k.current r.page) || b || eqb r.version (get_or k.pins r.page 0))
    same)
  where
    same : is_answerer (set k.answerers y to) number ≡ is_answerer k.answerers number
    same =
        let changed = sum_by-set (λ a. one_of (is_number number a)) k.answerers y to None low in
        let none : one_of (is_number number (number_at k.answerers y)) ≡ 0 =
        ap one_of (not_number number (number_at k.answerers y) old) in
        let off : one_of (is_number number to) ≡ 0 = ap one_of (not_number number to new) in
        any_counted (is_number number) (set k.answerers y to)
        ∙ ap (ltb 0) (let equal : count_by (is_number number) (set k.answerers y to)
        ≡ count_by (is_number number) k.answerers = omega
        (arith, changed, none, off) in equal)
        ∙ sym (any_counted (is_number number) k.answerers)

-- another pin changes it for the records that it names and named
pub pin_wanted : (k : TablesState) (page version number : ℕ) → page < length k.pins
    → ((r : Rec) → record_at k.records number ≡ Some r → r.page ≡ page → (r.version ≢ get_or k.pins page 0)
    × (r.version ≢ version))
    → is_wanted (record k { pins = set k.pins page version }) number ≡ is_wanted k number
pin_wanted k page version number low names =
    wanted_by k (record k { pins = set k.pins page version }) number refl
    (λ r is. ap (λ b. is_number number (number_at k.current r.page) || is_answerer k.answerers number || b)
    (elim (cases_eq r.page page) [
      | inl here ↦
          let off = names r is here in
          let old : eqb r.version (get_or k.pins page 0) ≡ false = grind (arith, nat_tests) in
          let new : eqb r.version version ≡ false = grind (arith, nat_tests) in
          rw (here, get_or-set_same k.pins page version 0 low) (new ∙ sym old)
      | inr other ↦ ap (eqb r.version) (get_or-set_other k.pins page r.page version 0 other)
    ]))

-- another pin does not change it where the old one names the current record, and the new one none
pub current_pin_wanted : (k : TablesState) (page version number : ℕ) → page < length k.pins
    → ((r : Rec) → record_at k.records number ≡ Some r → r.page ≡ page → r.version ≡ get_or k.pins page 0
    → number_at k.current page ≡ Some number)
    → ((r : Rec) → record_at k.records number ≡ Some r → r.page ≡ page → r.version ≢ version)
    → is_wanted (record k { pins = set k.pins page version }) number ≡ is_wanted k number
current_pin_wanted k page version number low was none =
    wanted_by k (record k { pins = set k.pins page version }) number refl (λ r is. elim (cases_eq r.page page) [
      | inl here ↦ elim (cases_eq r.version (get_or k.pins page 0)) [
        | inl same ↦
            let own : eqb number number ≡ true = grind (arith, nat_tests) in
            let current : is_number number (number_at k.current r.page) ≡ true =
            ap (λ p. is_number number (number_at k.current p)) here ∙ ap (is_number number) (was r is here same) ∙ own in
            ap (λ b. b || is_answerer k.answerers number || eqb r.version (get_or (set k.pins page version) r.page 0))
            current
            ∙ sym (ap (λ b. b || is_answerer k.answerers number || eqb r.version (get_or k.pins r.page 0)) current)
        | inr other ↦
            let off = none r is here in
            let old : eqb r.version (get_or k.pins page 0) ≡ false = grind (arith, nat_tests) in
            let new : eqb r.version version ≡ false = grind (arith, nat_tests) in
            ap (λ b. is_number number (number_at k.current r.page) || is_answerer k.answerers number || b)
            (rw (here, get_or-set_same k.pins page version 0 low) (new ∙ sym old))
      ]
      | inr other ↦
          ap (λ b. is_number number (number_at k.current r.page) || is_answerer k.answerers number || b)
          (ap (eqb r.version) (get_or-set_other k.pins page r.page version 0 other))
    ])

-- another record of a number changes it for that number
pub record_wanted : (k : TablesState) (x number : ℕ) (to : Option Rec) → number ≢ x
    → is_wanted (record k { records = set k.records x to }) number ≡ is_wanted k number
record_wanted k x number to other =
    ap (λ o. option_map_or (is_wanted_as k number) o false) (get_or-set_other k.records x number to None other)
