-- The tables after a slot that held no record holds one that no other slot does.
use Rattle.slot_tables.proofs.Common.{◌≡◌, ℕ, ◌<◌, Bool, true, false, eqb, inl, inr, Option, Some, None, List, [], ◌∷◌, length, set, refl, sym, ◌∙◌, ap, subst, arith, nat_tests, slice_get, find, set-set, length-set, get_or-set_same, cases_Option, slots_of, is_outside_spare, SlotUse, Blank, Holds, holds, Inside, BaseTables, TablesState, use_at, number_in, copies_of, home, is_wanted, tables_state, IsSized, TablesInvariant}
use Rattle.slot_tables.specs.BaseTables.{moved_refreshed}
use Rattle.slot_tables.specs.Copies.{is_above}
use Rattle.std.specs.List.{insert, position_or_len}
use Rattle.std.specs.Option.{option_or}
use Rattle.std.proofs.lemmas.List.{set-get_or}
use Rattle.list_lemmas.proofs.Tests.{find_more}
use Rattle.slot_tables.proofs.OfBaseTables.Copying.{copies_put, copies_split}
use Rattle.slot_tables.proofs.OfBaseTables.Held.{holds_own}
use Rattle.slot_tables.proofs.OfBaseTables.Refreshing.{home_at}
use Rattle.slot_tables.proofs.OfLiveSlots.Needing.{home_wanted}
use Rattle.slot_tables.proofs.OfSlots.Leaving.{chosen, chosen_first}
use Rattle.slot_tables.proofs.OfSlots.SlotSetting.{other_holds, set_sized, slot_set}

nothing : (xs : List ℕ) → slice_get xs 0 ≡ None → xs ≡ []
nothing [] e = refl
nothing (y ∷ ys) e = absurd (let no : Some y ≡ None = e in cc)

-- a home that stays is not refreshed
unmoved : (k : TablesState) (needed : List Bool) (o : Option ℕ) → moved_refreshed k needed o o ≡ needed
unmoved k needed None = refl
unmoved k needed (Some s) = let same : eqb s s ≡ true = grind (arith, nat_tests) in rw same refl

module _ (t : Inside) (h : TablesInvariant t) (at x : ℕ) (low : at < length t.base.slots)
    (fits : x < slots_of t.base.shape) where
  abbrev g' : BaseTables
  g' = record t.base { slots = set t.base.slots at (Holds x) }

  abbrev k : TablesState
  k = tables_state t.base

  abbrev k' : TablesState
  k' = tables_state g'

  pub first_sized : IsSized g'
  first_sized = set_sized t h at (Holds x) low fits

  module _ (held : number_in (use_at k.slots at) ≡ None) (copy : slice_get (copies_of k.slots x) 0 ≡ None) where
    none_yet : copies_of k.slots x ≡ []
    none_yet = nothing (copies_of k.slots x) copy

    only : copies_of k'.slots x ≡ at ∷ []
    only =
        copies_put t.base.slots at low (Holds x) x
        (other_holds x (use_at k.slots at) (λ e. let no : None ≡ Some x = sym held ∙ e in cc)) (holds_own x)
        ∙ ap (λ xs. insert xs (position_or_len (is_above at) xs) at) none_yet

    no_home : home k x ≡ None
    no_home = ap (chosen (is_outside_spare k.shape k.spare)) none_yet

    new_home : home k' x ≡ Some at
    new_home = ap (chosen (is_outside_spare k.shape k.spare)) only ∙ chosen_first (is_outside_spare k.shape k.spare) (at ∷ []) (omega arith)

    marks_are : moved_refreshed k' (moved_refreshed k' t.live.needed (home_at k (number_in (use_at k.slots at)))
        (home_at k' (number_in (use_at k.slots at)))) (home k x) (home k' x) ≡ set t.live.needed at (is_wanted k' x)
    marks_are =
        rw (held, no_home, new_home)
        (ap (set t.live.needed at) (home_wanted k' x at new_home))

    pub first_filled : TablesInvariant (record t {
      base = g';
      live = record t.live { needed = set t.live.needed at (is_wanted k' x); blanks = set t.live.blanks at false };
    })
    first_filled =
        subst (λ marks. TablesInvariant (record t {
          base = g';
          live = record t.live { needed = marks; blanks = set t.live.blanks at false };
        })) marks_are (slot_set t h at (Holds x) low fits false refl)

  -- a slot of the spare holds no record, and a copy stands outside
  module _ (held : number_in (use_at k.slots at) ≡ None) (inside : is_outside_spare k.shape k.spare at ≡ false)
      (copy : find (is_outside_spare k.shape k.spare) (copies_of k.slots x) ≡ None → ⊥) where
    abbrev outside : ℕ → Bool
    outside = is_outside_spare k.shape k.spare

    abbrev was : SlotUse
    was = use_at k.slots at

    back_again : set k'.slots at was ≡ k.slots
    back_again = set-set t.base.slots at (Holds x) was ∙ set-get_or t.base.slots at Blank

    same_found : find outside (copies_of k'.slots x) ≡ find outside (copies_of k.slots x)
    same_found =
        let own : use_at k'.slots at ≡ Holds x = get_or-set_same t.base.slots at (Holds x) Blank low in
        let parts = copies_split k'.slots at (rw length-set low) was x (ap (holds x) own ∙ holds_own x)
        (other_holds x was (λ e. let no : None ≡ Some x = sym held ∙ e in cc)) in
        ap (find outside) parts.2 ∙ find_more outside at parts.0 parts.1 inside
        ∙ sym (ap (λ uses. find outside (copies_of uses x)) (sym back_again) ∙ ap (find outside) parts.3)

    same_home : home k' x ≡ home k x
    same_home = elim (cases_Option (find outside (copies_of k.slots x))) [
      | inl none ↦ absurd (copy none)
      | inr some ↦
          ap (λ o. option_or o (slice_get (copies_of k'.slots x) 0)) (same_found ∙ some.1)
          ∙ sym (ap (λ o. option_or o (slice_get (copies_of k.slots x) 0)) some.1)
    ]

    marks_stay : moved_refreshed k' (moved_refreshed k' t.live.needed (home_at k (number_in was))
        (home_at k' (number_in was))) (home k x) (home k' x) ≡ t.live.needed
    marks_stay = rw (held, same_home) (unmoved k' t.live.needed (home k x))

    pub copy_filled : TablesInvariant (record t {
      base = g';
      live = record t.live { blanks = set t.live.blanks at false };
    })
    copy_filled =
        subst (λ marks. TablesInvariant (record t {
          base = g';
          live = record t.live { needed = marks; blanks = set t.live.blanks at false };
        })) marks_stay (slot_set t h at (Holds x) low fits false refl)
