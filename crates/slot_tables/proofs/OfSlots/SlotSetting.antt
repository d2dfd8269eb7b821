-- The tables after a slot is set.
use Rattle.slot_tables.proofs.Common.{◌≡◌, ◌≢◌, ℕ, ◌<◌, ◌⊎◌, Bool, true, false, ◌&&◌, inl, inr, Option, Some, None, List, length, set, map, refl, sym, ◌∙◌, ap, subst, length-set, eqb-true, arith, IfSome, option_and_then, cases_eq, false≢true, get_or-set_same, get_or-set_other, cases_Option, slots_of, is_slot, is_outside_spare, SlotUse, Blank, Damaged, Holds, Inside, BaseTables, TablesState, use_at, number_in, holds, is_blank, home, is_wanted, is_needed, HoldsNone, tables_state, IsSized, is_marked, TablesInvariant}
use Rattle.std.proofs.lemmas.List.{map-set}
use Rattle.slot_tables.specs.Copies.{NumbersBelow}
use Rattle.slot_tables.specs.BaseTables.{marked, moved_refreshed}
use Rattle.slot_tables.specs.Tables.{AreBlanks}
use Rattle.slot_tables.proofs.OfBaseTables.Copying.{copies_stay, copies_have, copies_split}
use Rattle.slot_tables.proofs.OfBaseTables.Held.{holds_number, holds_own, none_holds}
use Rattle.slot_tables.proofs.OfSlots.Leaving.{chosen, chosen_left}
use Rattle.slot_tables.proofs.OfLiveSlots.Needing.{needed_some, needed_none, not_slot, need_stays, moved_at, moved_long, home_copy, home_lies, home_wanted}
use Rattle.slot_tables.proofs.OfBaseTables.Refreshing.{home_at}

-- a slot that holds a record of another number, or none
pub other_holds : (x : ℕ) (u : SlotUse) → (number_in u ≡ Some x → ⊥) → holds x u ≡ false
other_holds x u off = by (holds x u) refl
  where
    by : (b : Bool) → holds x u ≡ b → b ≡ false
    by false e = refl
    by true e = absurd (off (ap number_in (holds_number x u e)))

holds_in : (x : ℕ) (u : SlotUse) → number_in u ≡ Some x → holds x u ≡ true
holds_in x Blank e = absurd (cc)
holds_in x Damaged e = absurd (cc)
holds_in x (Holds y) e = let same : y ≡ x = cc in rw same (holds_own x)

pub none_below : (n : ℕ) (u : SlotUse) → HoldsNone u → NumbersBelow n u
none_below n Blank h = tt
none_below n Damaged h = tt
none_below n (Holds x) h = absurd h

none_in : (u : SlotUse) → HoldsNone u → number_in u ≡ None
none_in Blank h = refl
none_in Damaged h = refl
none_in (Holds x) h = absurd h

and_false : (b : Bool) → (b && false) ≡ false
and_false true = refl
and_false false = refl

and_true : (a b : Bool) → (a && b) ≡ true → (a ≡ true) × (b ≡ true)
and_true true b e = (refl, e)
and_true false b e = absurd (false≢true e)

slot_is : (at : ℕ) (o : Option ℕ) → is_slot at o ≡ true → o ≡ Some at
slot_is at None e = absurd (false≢true e)
slot_is at (Some x) e = ap Some (eqb-true x at e)

-- a mark that is set
marked_long : (marks : List Bool) (o : Option ℕ) → length (marked marks o) ≡ length marks
marked_long marks None = refl
marked_long marks (Some s) = length-set marks s true

marked_there : (marks : List Bool) (o : Option ℕ) (s : ℕ) → IfSome o (λ x. x < length marks) → o ≡ Some s →
    is_marked (marked marks o) s ≡ true
marked_there marks None s low e = absurd (cc)
marked_there marks (Some x) s low e = let same : x ≡ s = cc in
    rw same (get_or-set_same marks s true false (rw (← same) low))

marked_else : (marks : List Bool) (o : Option ℕ) (s : ℕ) → (o ≡ Some s → ⊥) →
    is_marked (marked marks o) s ≡ is_marked marks s
marked_else marks None s other = refl
marked_else marks (Some x) s other = get_or-set_other marks x s true false (λ e. other (ap Some (sym e)))

module _ (t : Inside) (h : TablesInvariant t) (at : ℕ) (to : SlotUse) (low : at < length t.base.slots)
    (numbered : NumbersBelow
    (slots_of t.base.shape) to) where
  abbrev k : TablesState
  k = tables_state t.base

  abbrev g' : BaseTables
  g' = record t.base { slots = set t.base.slots at to }

  abbrev k' : TablesState
  k' = tables_state g'

  abbrev left : Option ℕ
  left = number_in (use_at k.slots at)

  abbrev joined : Option ℕ
  joined = number_in to

  pub slots_long : length k'.slots ≡ slots_of k.shape
  slots_long = length-set t.base.slots at to ∙ h.sized.kept.slots

  own_use : use_at k'.slots at ≡ to
  own_use = get_or-set_same t.base.slots at to Blank low

  other_use : (s : ℕ) → s ≢ at → use_at k'.slots s ≡ use_at k.slots s
  other_use s other = get_or-set_other t.base.slots at s to Blank other

  pub set_sized : IsSized g'
  set_sized = record {
    kept = record {
      shape = h.sized.kept.shape;
      slots = slots_long;
      records = h.sized.kept.records;
      answerers = h.sized.kept.answerers;
      waits = h.sized.kept.waits;
      current = h.sized.kept.current;
      pins = h.sized.kept.pins;
      spare = h.sized.kept.spare;
      closed = h.sized.kept.closed;
      held = λ s x e. elim (cases_eq s at) [
        | inl here ↦ numbers to x (sym own_use ∙ rw here at e) numbered
        | inr other ↦ h.sized.kept.held s x (sym (other_use s other) ∙ e)
      ];
      counts = h.sized.kept.counts;
      versions = h.sized.kept.versions;
    };
    waits_pages = h.sized.waits_pages;
  }
    where
      numbers : (u : SlotUse) (x : ℕ) → u ≡ Holds x → NumbersBelow (slots_of t.base.shape) u → x < slots_of t.base.shape
      numbers Blank x e b = absurd (cc)
      numbers Damaged x e b = absurd (cc)
      numbers (Holds y) x e b = let same : y ≡ x = cc in rw (← same) b

  -- a number that the slot did not hold and does not hold has its home as before
  home_stays : (x : ℕ) → (left ≡ Some x → ⊥) → (joined ≡ Some x → ⊥) → home k' x ≡ home k x
  home_stays x off now =
      let same = copies_stay t.base.slots at low to x (other_holds x to now
      ∙ sym (other_holds x (use_at k.slots at) off)) in
      rw same refl

  -- each slot that is not the home of the old or the new record, before or after, is needed as it was
  needs_stay : (s : ℕ) → (home_at k left ≡ Some s → ⊥) → (home_at k joined ≡ Some s → ⊥) →
      (home_at k' left ≡ Some s → ⊥)
      → (home_at k' joined ≡ Some s → ⊥)
      → is_needed k' s ≡ is_needed k s
  needs_stay s old_l old_j new_l new_j = elim (cases_eq s at) [
    | inl here ↦ rw here (after at (cases_Option joined) (rw here at new_j)
        ∙ sym (before at (cases_Option left) (rw here at old_l)))
    | inr other ↦ need_stays k k' s (ap number_in (other_use s other)) (λ x is. by x (decide left x) (decide joined x))
  ]
    where
      decide : (o : Option ℕ) (x : ℕ) → (o ≡ Some x) ⊎ (o ≡ Some x → ⊥)
      decide None x = inr (λ e. cc)
      decide (Some y) x = elim (cases_eq y x) [
        | inl e ↦ inl (ap Some e)
        | inr other ↦ inr (λ e. other (let same : y ≡ x = cc in same))
      ]

      by : (x : ℕ) → (left ≡ Some x) ⊎ (left ≡ Some x → ⊥) → (joined ≡ Some x) ⊎ (joined ≡ Some x → ⊥)
          → ((home k' x ≡ home k x) × (is_wanted k' x ≡ is_wanted k x))
          ⊎ ((home k x ≡ Some s → ⊥) × (home k' x ≡ Some s → ⊥))
      by x (inl e) j = inr (
        (λ is. old_l (ap (option_and_then (home k)) e ∙ is)),
        (λ is. new_l (ap (option_and_then (home k')) e ∙ is)),
      )
      by x (inr off) (inl e) = inr (
        (λ is. old_j (ap (option_and_then (home k)) e ∙ is)),
        (λ is. new_j (ap (option_and_then (home k')) e ∙ is)),
      )
      by x (inr off) (inr now) = inl (home_stays x off now, refl)

      after : (q : ℕ) → (joined ≡ None) ⊎ ((x : ℕ) × (joined ≡ Some x)) → (home_at k' joined ≡ Some at → ⊥) →
          is_needed k' at ≡ false
      after q (inl none) off = needed_none k' at (ap number_in own_use ∙ none)
      after q (inr some) off =
          needed_some k' at some.0 (ap number_in own_use ∙ some.1)
          ∙ ap (λ b. b && is_wanted k' some.0) (not_slot at (home k' some.0)
          (λ e. off (ap (option_and_then (home k')) some.1 ∙ e)))

      before : (q : ℕ) → (left ≡ None) ⊎ ((x : ℕ) × (left ≡ Some x)) → (home_at k left ≡ Some at → ⊥) →
          is_needed k at ≡ false
      before q (inl none) off = needed_none k at none
      before q (inr some) off =
          needed_some k at some.0 some.1
          ∙ ap (λ b. b && is_wanted k some.0) (not_slot at (home k some.0)
          (λ e. off (ap (option_and_then (home k)) some.1 ∙ e)))

  decide_slot : (o : Option ℕ) (s : ℕ) → (o ≡ Some s) ⊎ (o ≡ Some s → ⊥)
  decide_slot None s = inr (λ e. cc)
  decide_slot (Some y) s = elim (cases_eq y s) [
    | inl e ↦ inl (ap Some e)
    | inr other ↦ inr (λ e. other (let same : y ≡ s = cc in same))
  ]

  -- a slot that is the home of a record before and after is needed as it was
  keeps : (o : Option ℕ) (s : ℕ) → home_at k o ≡ Some s → home_at k' o ≡ Some s → is_needed k' s ≡ is_needed k s
  keeps None s here there = absurd (cc)
  keeps (Some x) s here there =
      let was = ap number_in (holds_number x (use_at k.slots s)
      ((copies_have k.slots x s).0 (home_copy k x s here)).1) in
      let is = ap number_in (holds_number x (use_at k'.slots s)
      ((copies_have k'.slots x s).0 (home_copy k' x s there)).1) in
      need_stays k k' s (is ∙ sym was) (λ y e.
      let both : Some x ≡ Some y = sym was ∙ e in
      let same : x ≡ y = cc in
      inl (subst (λ z. home k' z ≡ home k z) same (there ∙ sym here), refl))

  -- the home of a record is the same before and after, or neither is this slot
  abbrev Calm : Option ℕ → ℕ → Type 0
  Calm o s = (home_at k o ≡ home_at k' o) ⊎ ((home_at k o ≡ Some s → ⊥) × (home_at k' o ≡ Some s → ⊥))

  stands : (o : Option ℕ) (s : ℕ) → Calm o s
      → (is_needed k' s ≡ is_needed k s) ⊎ ((home_at k o ≡ Some s → ⊥) × (home_at k' o ≡ Some s → ⊥))
  stands o s (inr off) = inr off
  stands o s (inl same) = elim (decide_slot (home_at k o) s) [
    | inl here ↦ inl (keeps o s here (sym same ∙ here))
    | inr off ↦ inr (off, λ e. off (same ∙ e))
  ]

  calm_needs : (s : ℕ) → Calm left s → Calm joined s → is_needed k' s ≡ is_needed k s
  calm_needs s l j = elim (stands left s l) [
    | inl there ↦ there
    | inr off ↦ elim (stands joined s j) [ inl there ↦ there | inr away ↦ needs_stay s off.0 away.0 off.1 away.1 ]
  ]

  pub old_lies : (o : Option ℕ) → IfSome (home_at k o) (λ s. s < length k'.slots)
  old_lies o = rw (length-set t.base.slots at to) (home_lies k o)

  abbrev first : List Bool
  first = moved_refreshed k' t.live.needed (home_at k left) (home_at k' left)

  pub first_long : length first ≡ slots_of k.shape
  first_long = moved_long k' t.live.needed (home_at k left) (home_at k' left) ∙ h.live.slots

  marked_first : (s : ℕ) → Calm joined s → is_marked first s ≡ is_needed k' s
  marked_first s j =
      moved_at k' t.live.needed (home_at k left) (home_at k' left) s (rw (h.live.slots, ← slots_long) (old_lies left))
      (rw (h.live.slots, ← slots_long) (home_lies k' left))
      (λ same. h.live.needed s ∙ sym (calm_needs s (inl same) j)) (λ off away. h.live.needed s
      ∙ sym (calm_needs s (inr (off, away)) j))

  blanks_set : (mark : Bool) → mark ≡ is_blank to →
      AreBlanks k' (record { marks = set t.live.blanks at mark; size = t.live.size })
  blanks_set mark is = record {
    marks = ap (λ ms. set ms at mark) h.blanks.marks ∙ ap (set (map is_blank t.base.slots) at) is
        ∙ sym (map-set is_blank t.base.slots at to);
    size = h.blanks.size;
  }

  pub slot_set : (mark : Bool) → mark ≡ is_blank to
      → TablesInvariant (record t {
        base = g';
        live = record t.live {
          blanks = set t.live.blanks at mark;
          needed =
              moved_refreshed k' first (home_at k joined) (home_at k' joined);
        };
      })
  slot_set mark is = record {
    sized = set_sized;
    blanks = blanks_set mark is;
    live = record {
      slots = moved_long k' first (home_at k joined) (home_at k' joined) ∙ first_long;
      size = h.live.size;
      blocks = h.live.blocks;
      spare = h.live.spare;
      closed = h.live.closed;
      needed = λ s.
          moved_at k' first (home_at k joined) (home_at k' joined) s (rw (first_long, ← slots_long) (old_lies joined))
          (rw (first_long, ← slots_long) (home_lies k' joined)) (λ same. marked_first s (inl same))
          (λ off away. marked_first s (inr (off, away)));
    };
  }

  -- a slot that holds no record now
  module _ (none : HoldsNone to) where
    joined_none : joined ≡ None
    joined_none = none_in to none

    -- the home of the record that it held stays, where it is another slot
    home_kept : (x : ℕ) → left ≡ Some x → (home k x ≡ Some at → ⊥) → home k' x ≡ home k x
    home_kept x is off =
        let outside = is_outside_spare k.shape k.spare in
        let parts = copies_split t.base.slots at low to x (holds_in x (use_at k.slots at) is) (none_holds x to none) in
        ap (chosen outside) parts.3
        ∙ chosen_left outside at parts.0 parts.1 (λ e. off (ap (chosen outside) parts.2 ∙ e))
        ∙ sym (ap (chosen outside) parts.2)

    bare : is_needed k' at ≡ false
    bare = needed_none k' at (ap number_in own_use ∙ joined_none)

    -- where it was not needed, each slot is needed as it was
    needs_kept : is_needed k at ≡ false → (s : ℕ) → is_needed k' s ≡ is_needed k s
    needs_kept off s = elim (cases_eq s at) [
      | inl here ↦ rw here (bare ∙ sym off)
      | inr other ↦ elim (cases_Option (number_in (use_at k.slots s))) [
        | inl empty ↦ needed_none k' s (ap number_in (other_use s other) ∙ empty) ∙ sym (needed_none k s empty)
        | inr some ↦
            needed_some k' s some.0 (ap number_in (other_use s other) ∙ some.1)
            ∙ by some.0 (decide_slot left some.0)
            ∙ sym (needed_some k s some.0 some.1)
      ]
    ]
      where
        by : (x : ℕ) → (left ≡ Some x) ⊎ (left ≡ Some x → ⊥) → (is_slot s (home k' x) && is_wanted k x)
            ≡ (is_slot s (home k x) && is_wanted k x)
        by x (inr apart) = ap (λ o. is_slot s o && is_wanted k x)
            (home_stays x apart (λ e. let no : None ≡ Some x = sym joined_none ∙ e in cc))
        by x (inl is) = elim (decide_slot (home k x) at) [
          | inr away ↦ ap (λ o. is_slot s o && is_wanted k x) (home_kept x is away)
          | inl own ↦
              let unwanted : is_wanted k x ≡ false = sym (home_wanted k x at own) ∙ off in
              rw unwanted (and_false (is_slot s (home k' x)) ∙ sym (and_false (is_slot s (home k x))))
        ]

    -- where it was needed, it was the home of its record, which is wanted
    was_home : is_needed k at ≡ true → (x : ℕ) × (left ≡ Some x) × (home k x ≡ Some at) × (is_wanted k x ≡ true)
    was_home on = elim (cases_Option left) [
      | inl empty ↦ absurd (false≢true (sym (needed_none k at empty) ∙ on))
      | inr some ↦
          let both = and_true (is_slot at (home k some.0)) (is_wanted k some.0)
          (sym (needed_some k at some.0 some.1) ∙ on) in
          (some.0, some.1, slot_is at (home k some.0) both.0, both.1)
    ]

    abbrev pub moved : List Bool
    moved = marked (set t.live.needed at false) (home_at k' left)

    pub moved_lies : length moved ≡ slots_of k.shape
    moved_lies = marked_long (set t.live.needed at false) (home_at k' left) ∙ length-set t.live.needed at false
        ∙ h.live.slots

    pub needs_moved : is_needed k at ≡ true → (s : ℕ) → is_marked moved s ≡ is_needed k' s
    needs_moved on s = elim (decide_slot (home_at k' left) s) [
      | inl there ↦
          marked_there (set t.live.needed at false) (home_at k' left) s
          (rw (length-set, h.live.slots, ← slots_long) (home_lies k' left)) there
          ∙ sym (let x = (was_home on).0 in
          home_wanted k' x s (sym (ap (option_and_then (home k')) (was_home on).1) ∙ there) ∙ (was_home on).3)
      | inr away ↦
          marked_else (set t.live.needed at false) (home_at k' left) s away
          ∙ elim (cases_eq s at) [
            | inl here ↦ rw here (get_or-set_same t.live.needed at false false (rw h.live.slots (omega arith))
                ∙ sym bare)
            | inr other ↦
                get_or-set_other t.live.needed at s false false other ∙ h.live.needed s
                ∙ sym (calm_needs s (inr (
                  (λ e. other (let same : Some at ≡ Some s = sym (ap (option_and_then (home k)) (was_home on).1
                      ∙ (was_home on).2) ∙ e in let its : at ≡ s = cc in sym its)),
                  away,
                )) (inl (ap (λ o. home_at k o) joined_none
                ∙ sym (ap (λ o. home_at k' o) joined_none))))
          ]
    ]

    pub slot_emptied : (mark : Bool) → mark ≡ is_blank to → (marks : List Bool) → length marks ≡ slots_of k.shape
        → ((s : ℕ) → is_marked marks s ≡ is_needed k' s)
        → TablesInvariant (record t {
          base = g';
          live = record t.live { blanks = set t.live.blanks at mark; needed = marks };
        })
    slot_emptied mark is marks long right = record {
      sized = set_sized;
      blanks = blanks_set mark is;
      live = record {
        slots = long;
        size = h.live.size;
        blocks = h.live.blocks;
        spare = h.live.spare;
        closed = h.live.closed;
        needed = right;
      };
    }

    -- and the marks stay
    pub emptied_off : is_needed k at ≡ false → (s : ℕ) → is_marked t.live.needed s ≡ is_needed k' s
    emptied_off off s = h.live.needed s ∙ sym (needs_kept off s)
