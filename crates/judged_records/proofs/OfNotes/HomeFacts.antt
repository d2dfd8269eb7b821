-- Homes: a present name has one, and it holds the record of the name.
use Rattle.judged_records.proofs.Common.{◌≡◌, ℕ, Bool, true, false, ◌&&◌, List, [], ◌∷◌, find, Option, Some, None, ◌⊎◌, sym, ap, ◌∙◌, inl, inr, Contains, option_map, false≢true, cases_Bool, cond-true, cond-false, and_parts, or_cases, none-some, same_Some, Contains-first, Contains-rest, cases_Option, Link, Shape, Found, has_name, is_present, first_slot, home}
use Rattle.std.specs.Option.{option_or}
use Rattle.list_lemmas.proofs.Options.{option_or_none}
use Rattle.record_list.specs.Written.{is_outside_spare}
use Rattle.record_list.proofs.OfFacts.Names.{has_name_true, present_as}

-- a record in a slot that passes a test
pub record StandsAt (test : Found → Bool) (list : List Found) (at : ℕ) : Type 0 where
  pub found : Found
  pub is_in : Contains list found
  pub its_slot : found.slot.0 ≡ at
  pub passes : test found ≡ true

pub first_stands : (test : Found → Bool) (list : List Found) (at : ℕ) → first_slot test list ≡ Some at →
    StandsAt test list at
first_stands test [] at e = absurd (none-some at e)
first_stands test (f ∷ fs) at e = elim (cases_Bool (test f)) [
  | inl pass ↦ record {
    found = f;
    is_in = Contains-first f fs;
    its_slot = same_Some f.slot.0 at
        (sym (ap (option_map (λ g. g.slot.0)) (cond-true (test f) (Some f) (find test fs) pass)) ∙ e);
    passes = pass;
  }
  | inr fail ↦ (
      let h = first_stands test fs at
      (sym (ap (option_map (λ g. g.slot.0)) (cond-false (test f) (Some f) (find test fs) fail)) ∙ e) in
      record { found = h.found; is_in = Contains-rest f fs h.found h.is_in; its_slot = h.its_slot; passes = h.passes })
]

-- a present name has one
pub present_first : (list : List Found) (name : Link) → is_present list name ≡ true →
    first_slot (λ f. has_name name f.rec) list ≡ None → ⊥
present_first [] name e none = false≢true e
present_first (f ∷ fs) name e none = elim (cases_Bool (has_name name f.rec)) [
  | inl pass ↦ none-some f.slot.0 (sym none ∙ ap (option_map (λ g. g.slot.0)) (cond-true (has_name name f.rec) (Some f)
      (find (λ g. has_name name g.rec) fs) pass))
  | inr fail ↦ present_first fs name (elim (or_cases (has_name name f.rec) (is_present fs name) e) [
    | inl pass ↦ absurd
        (false≢true (sym fail ∙ pass))
    | inr later ↦ later
  ])
      (sym (ap (option_map (λ g. g.slot.0)) (cond-false (has_name name f.rec) (Some f)
      (find (λ g. has_name name g.rec) fs) fail)) ∙ none)
]

home_choice : (a b : Option ℕ) (at : ℕ) → option_or a b ≡ Some at → (a ≡ Some at) ⊎ (b ≡ Some at)
home_choice None b at e = inr e
home_choice (Some x) b at e = inl e

-- the home of a name holds its record
pub home_stands : (shape : Shape) (spare : Option ℕ) (list : List Found) (name : Link) (at : ℕ) →
    home shape spare list name ≡ Some at →
    StandsAt (λ f. has_name name f.rec) list at
home_stands shape spare list name at e = elim (home_choice _ _ at e) [
  | inl outside ↦ (
      let h = first_stands (λ f. has_name name f.rec && is_outside_spare shape spare f.slot.0) list at outside in
      record {
        found = h.found;
        is_in = h.is_in;
        its_slot = h.its_slot;
        passes =
            (and_parts (has_name name h.found.rec) (is_outside_spare shape spare h.found.slot.0) h.passes).0;
      })
  | inr any ↦ first_stands (λ f. has_name name f.rec) list at any
]

-- an absent name has no home
pub home_absent : (shape : Shape) (spare : Option ℕ) (list : List Found) (name : Link) → is_present list name ≡ false →
    home shape spare list name ≡ None
home_absent shape spare list name e = elim (cases_Option (home shape spare list name)) [
  | inl none ↦ none
  | inr some ↦ (
      let h = home_stands shape spare list name some.0 some.1 in
      absurd (false≢true (sym e ∙ present_as list h.found name h.is_in (has_name_true name h.found.rec h.passes))))
]

-- and a present one has one
pub home_present : (shape : Shape) (spare : Option ℕ) (list : List Found) (name : Link) → is_present list name ≡ true →
    home shape spare list name ≡ None → ⊥
home_present shape spare list name e none = present_first list name e (option_or_none _ _ none).1
