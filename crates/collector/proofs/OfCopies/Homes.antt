-- A copy in the spare of a record that stands outside it moves no home, and changes nobody's need. A blank spare moves
-- none either, and ends at most that a record is held.
use Rattle.collector.proofs.Common.{◌≡◌, ◌≢◌, ℕ, ◌<◌, Bool, true, false, ◌&&◌, ◌||◌, eqb-true, eq-eqb, List, [], ◌∷◌, length, find, Option, Some, refl, sym, ap, ap₂, ◌∙◌, subst, inl, inr, Contains, ◌==◌, option_map, cases_Bool, cond-true, cond-false, and_parts, and_from, both_ways, All-contains, from_filter, Contains-cases, Contains-nil, shape_of, blocks_of, Shape, Link, Rec, Found, name_of, has_name, IsInserted, left, CopyLaw, LossLaw, cur, is_held, Pages, PagesExist, is_outside, first_slot, is_slot, is_wanted, has_own_name, counted_wanted, pinned_wanted, Blank, Holds, note_at, found_in, IndexState, IsNoted, needed_of, home_of, pinned_names, copied, erased, found, CanSpare}
use Rattle.std.specs.List.{list_any}
use Rattle.std.specs.Option.{option_or}
use Rattle.std.proofs.lemmas.Bool.{and_right}
use Rattle.list_lemmas.proofs.Tests.{any_same_in, find_more, find_left, any_from}
use Rattle.record_list.specs.Changes.{CopyKeeps, LossKeeps}
use Rattle.record_list.specs.Written.{is_outside_spare, home}
use Rattle.record_list.proofs.OfChanges.OneMore.{inserted_any}
use Rattle.collector.proofs.OfCopies.CopyNotes.{kept, added, first}
use Rattle.collector.proofs.OfNotes.Losing.{is_left, loses}
use Rattle.collector.proofs.OfNotes.NeedFacts.{home_needed}

first_inserted : (test : Found → Bool) (l l' : List Found) (f : Found) → IsInserted l f l' → test f ≡ false →
    first_slot test l' ≡ first_slot test l
first_inserted test l l' f ins fail =
    ap (first_slot test) ins.now ∙ ap (option_map (λ g. g.slot.0)) (find_more test f ins.before ins.after fail)
    ∙ ap (first_slot test) (sym ins.was)

-- a record that passes a test lets it find one
abbrev pub HasFirst : (Found → Bool) → List Found → Type 0
HasFirst test l = (at : ℕ) × (first_slot test l ≡ Some at)

pub first_of : (test : Found → Bool) (l : List Found) (f : Found) → Contains l f → test f ≡ true → HasFirst test l
first_of test [] f i pass = absurd (Contains-nil f i)
first_of test (g ∷ gs) f i pass = elim (cases_Bool (test g)) [
  | inl pass' ↦ (g.slot.0, ap (option_map (λ h. h.slot.0)) (cond-true (test g) (Some g) (find test gs) pass'))
  | inr fail ↦
      (let rest : HasFirst test gs = elim (Contains-cases g gs f i) [
        | inl same ↦ absurd (both_ways (test f) (ap test (sym same) ∙ fail) pass)
        | inr later ↦ first_of test gs f later pass
      ] in
      (rest.0, ap (option_map (λ h. h.slot.0)) (cond-false (test g) (Some g) (find test gs) fail) ∙ rest.1))
]

-- the test of a name outside the spare
abbrev pub stands_off : Shape → Option ℕ → Link → Found → Bool
stands_off shape spare name f = has_name name f.rec && is_outside_spare shape spare f.slot.0

-- a name that stands outside the spare has its home there
pub home_off : (shape : Shape) (spare : Option ℕ) (l : List Found) (name : Link) (at : ℕ) →
    first_slot (stands_off shape spare name) l ≡ Some at →
    home shape spare l name ≡ Some at
home_off shape spare l name at e = ap (λ o. option_or o (first_slot (λ f. has_name name f.rec) l)) e

-- a slot is needed where the record that it holds has its home there and is wanted
pub home_is_needed : (n : IndexState) (f : Found) (at : ℕ) → Contains (found_in n.notes) f → f.slot.0 ≡ at →
    home_of n (name_of f.rec) ≡ Some at →
    is_wanted n.config.protocol (found_in n.notes) n.config.logical (pinned_names n.pins) f.rec ≡ true →
    needed_of n at ≡ true
unfolding needed_of home_of
home_is_needed n f at i slot home_at wanted =
    let h = home (shape_of n.config) n.spare (found_in n.notes) (name_of f.rec) in
    any_from
    (λ g. (g.slot.0 == at) && is_slot at (home (shape_of n.config) n.spare (found_in n.notes) (name_of g.rec))
    && is_wanted n.config.protocol (found_in n.notes) n.config.logical (pinned_names n.pins) g.rec)
    (found_in n.notes) f i
    (and_from ((f.slot.0 == at) && is_slot at h) (is_wanted n.config.protocol (found_in n.notes) n.config.logical
    (pinned_names n.pins) f.rec)
    (and_from (f.slot.0 == at) (is_slot at h) (eq-eqb f.slot.0 at slot) (ap (is_slot at) home_at ∙ eq-eqb at at refl))
    wanted)

-- a copy in the spare
module _ (n : IndexState) (noted : IsNoted n.config.protocol n) (law : CopyLaw n.config.protocol)
    (from to : ℕ) (rec : Rec)
    (source : note_at n.notes from ≡ Holds rec) (from_within : from < length n.notes) (within : to < length n.notes)
    (was : note_at n.notes to ≡ Blank)
    (noted' : IsNoted n.config.protocol (copied n from to)) (spare : ℕ) (is_spare : n.spare ≡ Some spare)
    (outside : is_outside (shape_of n.config) spare from ≡ true)
    (inside : is_outside (shape_of n.config) spare to ≡ false) where
  abbrev old : List Found
  old = found_in n.notes

  abbrev more : List Found
  more = found_in (copied n from to).notes

  ins : IsInserted old (found to rec) more
  ins = added n noted law from to rec source from_within within was noted'

  keeps : CopyKeeps n.config.protocol old more n.config.logical
  keeps = kept n noted law from to rec source from_within within was noted'

  off : (slot : ℕ) (b : Bool) → is_outside (shape_of n.config) spare slot ≡ b →
      is_outside_spare (shape_of n.config) n.spare slot ≡ b
  off slot b e = ap (λ o. is_outside_spare (shape_of n.config) o slot) is_spare ∙ e

  off_same : (name : Link) → first_slot (stands_off (shape_of n.config) n.spare name) more
      ≡ first_slot (stands_off (shape_of n.config) n.spare name) old
  off_same name =
      first_inserted (stands_off (shape_of n.config) n.spare name) old more (found to rec) ins
      (and_right (has_name name rec) (is_outside_spare (shape_of n.config) n.spare to) (off to false inside))

  home_lists : (name : Link) → home (shape_of n.config) n.spare more name ≡ home (shape_of n.config) n.spare old name
  home_lists name = elim (cases_Bool (has_name name rec)) [
    | inr other ↦ ap₂ option_or (off_same name) (first_inserted (λ f. has_name name f.rec) old more
        (found to rec) ins other)
    | inl same ↦
        (let h = first_of (stands_off (shape_of n.config) n.spare name) old (found from rec)
        (first n noted law from to rec source from_within within was noted')
        (and_from (has_name name rec) (is_outside_spare (shape_of n.config) n.spare from) same
        (off from true outside)) in
        home_off (shape_of n.config) n.spare more name h.0 (off_same name ∙ h.1)
        ∙ sym (home_off (shape_of n.config) n.spare old name h.0 h.1))
  ]

  wanted_same : (f : Found) → Contains old f → is_wanted n.config.protocol more n.config.logical
      (pinned_names n.pins) f.rec
      ≡ is_wanted n.config.protocol old n.config.logical (pinned_names n.pins) f.rec
  wanted_same f i =
      let low : f.rec.page < n.config.logical =
      (All-contains (PagesExist n.config.logical) old f (noted.sound Pages) i).0 in
      ap₂ (λ c h. (f.rec.version == c) || h || list_any (λ name. has_name name f.rec) (pinned_names n.pins))
      (keeps.same_current f.rec.page low) (keeps.same_held f.rec)

  -- the need of each other slot stays
  pub copy_needs : (k : ℕ) → to ≢ k → needed_of (copied n from to) k ≡ needed_of n k
  unfolding needed_of
  copy_needs k apart =
      let test : List Found → Found → Bool =
      λ l f. (f.slot.0 == k) && is_slot k (home (shape_of n.config) n.spare l (name_of f.rec))
      && is_wanted n.config.protocol l n.config.logical (pinned_names n.pins) f.rec in
      let not_here : (to == k) ≡ false = elim (cases_Bool (to == k)) [
        | inl e ↦ absurd (apart (eqb-true to k e))
        | inr e ↦ e
      ] in
      let fails : test more (found to rec) ≡ false =
      ap (λ b. b && is_slot k (home (shape_of n.config) n.spare more (name_of rec))
      && is_wanted n.config.protocol more n.config.logical (pinned_names n.pins) rec) not_here in
      inserted_any (test more) old more (found to rec) ins
      ∙ ap (λ b. b || list_any (test more) old) fails
      ∙ any_same_in (test more) (test old) old (λ f i.
      ap₂ (λ h w. (f.slot.0 == k) && is_slot k h && w) (home_lists (name_of f.rec)) (wanted_same f i))

-- a blank spare
module _ (n : IndexState) (noted : IsNoted n.config.protocol n) (law : LossLaw n.config.protocol) (spare : ℕ)
    (below : spare < blocks_of (shape_of n.config))
    (spared : CanSpare n spare) (is_spare : n.spare ≡ Some spare) where
  abbrev all : List Found
  all = found_in n.notes

  abbrev rest : List Found
  rest = found_in (erased n spare).notes

  left_is : rest ≡ left (is_outside (shape_of n.config) spare) all
  left_is = is_left n noted law spare below spared Blank refl

  keeps_less : LossKeeps n.config.protocol all (left (is_outside (shape_of n.config) spare) all) n.config.logical
  keeps_less = loses n noted law spare below spared Blank refl

  off_left : (name : Link) → first_slot (stands_off (shape_of n.config) n.spare name) rest
      ≡ first_slot (stands_off (shape_of n.config) n.spare name) all
  off_left name =
      ap (first_slot (stands_off (shape_of n.config) n.spare name)) left_is
      ∙ ap (option_map (λ g. g.slot.0)) (find_left (stands_off (shape_of n.config) n.spare name)
      (λ f. is_outside (shape_of n.config) spare f.slot.0) all
      (λ f pass. sym (ap (λ o. is_outside_spare (shape_of n.config) o f.slot.0) is_spare)
      ∙ (and_parts (has_name name f.rec) (is_outside_spare (shape_of n.config) n.spare f.slot.0) pass).1))

  -- what is needed once the spare is blank was needed
  pub cleaned_needs : (k : ℕ) → needed_of (erased n spare) k ≡ true → needed_of n k ≡ true
  unfolding home_of
  cleaned_needs k needed =
      let x = home_needed (erased n spare) k needed in
      let f = x.found in
      let name : Link = name_of f.rec in
      let parts = from_filter (λ g. is_outside (shape_of n.config) spare g.slot.0) f all
      (subst (λ l. Contains l f) left_is x.is_in) in
      let h = first_of (stands_off (shape_of n.config) n.spare name) rest f x.is_in
      (and_from (has_name name f.rec) (is_outside_spare (shape_of n.config) n.spare f.slot.0)
      (has_own_name name f.rec refl)
      (ap (λ o. is_outside_spare (shape_of n.config) o f.slot.0) is_spare ∙ parts.1)) in
      let here : Some h.0 ≡ Some k = sym (home_off (shape_of n.config) n.spare rest name h.0 h.1) ∙ x.home in
      let at_home : home (shape_of n.config) n.spare all name ≡ Some k =
      home_off (shape_of n.config) n.spare all name h.0 (sym (off_left name) ∙ h.1) ∙ here in
      let low : f.rec.page < n.config.logical =
      (All-contains (PagesExist n.config.logical) all f (noted.sound Pages) parts.0).0 in
      home_is_needed n f k parts.0 x.slot at_home
      (elim x.wanted [
        | inl current ↦ counted_wanted n.config.protocol all n.config.logical (pinned_names n.pins) f.rec
            (inl (current ∙ ap (λ l. cur n.config.protocol l n.config.logical f.rec.page) left_is
            ∙ keeps_less.same_current f.rec.page low))
        | inr (inl held) ↦ counted_wanted n.config.protocol all n.config.logical (pinned_names n.pins) f.rec
            (inr (keeps_less.held f.rec (subst (λ l. is_held n.config.protocol l n.config.logical f.rec ≡ true)
            left_is held)))
        | inr (inr pin) ↦ pinned_wanted n.config.protocol all n.config.logical (pinned_names n.pins) f.rec pin
      ])
