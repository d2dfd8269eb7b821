-- Tables that lose the records of a block, outside which each wanted record has a slot.
use Rattle.collector.proofs.Common.{◌≡◌, ℕ, ◌<◌, Bool, true, List, Contains, None, refl, sym, ap, ◌∙◌, subst, inl, arith, All-contains, all_from, from_filter, shape_of, blocks_of, Link, Rec, Found, name_of, is_present, left, LossLaw, cur, is_held, InProgress, is_outside, is_wanted, found_named, present_as, counted_wanted, pinned_wanted, dispensable_removable, Note, rec_of, found_in, with_block_noted, IndexState, IsNoted, current_of, current_name_of, held_of, pinned_names, CanSpare, IsThere, Preserves}
use Rattle.record_list.specs.Changes.{LossKeeps}
use Rattle.record_list.specs.Written.{IsDispensable}
use Rattle.record_list.proofs.OfChanges.WrittenLists.{left_twice}
use Rattle.judged_records.specs.IndexState.{CanLose}
use Rattle.collector.proofs.OfNotes.NotesLeft.{noted_left}

-- a block that can be spared can be lost
pub can_be_lost : (n : IndexState) (block : ℕ) → CanSpare n block → CanLose n block
can_be_lost n block spared =
    dispensable_removable n.config.protocol (found_in n.notes) n.config.logical (pinned_names n.pins)
    (shape_of n.config) block spared

-- what is noted with one note for each slot of a block
abbrev pub blocked : IndexState → ℕ → Note → IndexState
blocked n block note = record n { notes = with_block_noted (shape_of n.config) n.notes block note }

module _ (n : IndexState) (noted : IsNoted n.config.protocol n) (law : LossLaw n.config.protocol) (block : ℕ)
    (below : block < blocks_of (shape_of n.config))
    (spared : CanSpare n block) (note : Note) (none : rec_of note ≡ None) where
  abbrev pub keep : ℕ → Bool
  keep = is_outside (shape_of n.config) block

  abbrev pub old : List Found
  old = found_in n.notes

  abbrev pub fewer : List Found
  fewer = left keep old

  pub is_left : found_in (blocked n block note).notes ≡ fewer
  is_left = noted_left (shape_of n.config) (let b = noted.bounds.shape.pages_least in omega arith) n.notes noted.slots
      block below note none

  pub loses : LossKeeps n.config.protocol old fewer n.config.logical
  loses = law old n.config.logical keep noted.sound noted.scanned
      (dispensable_removable n.config.protocol old n.config.logical (pinned_names n.pins)
      (shape_of n.config) block spared)

  -- a wanted name that is there stays
  wanted_stays : (f : Found) → Contains old f → is_wanted n.config.protocol old n.config.logical (pinned_names n.pins)
      f.rec ≡ true →
      is_present fewer (name_of f.rec) ≡ true
  wanted_stays f i w =
      All-contains (λ f. is_wanted n.config.protocol old n.config.logical (pinned_names n.pins) f.rec ≡ true →
      is_present (left keep old) (name_of f.rec) ≡ true) old f spared i w

  current_same : (page : ℕ) → page < n.config.logical → current_of (blocked n block note) page ≡ current_of n page
  unfolding current_of
  current_same page within =
      ap (λ l. cur n.config.protocol l n.config.logical page) is_left ∙ loses.same_current page within

  held_less : (rec : Rec) → held_of (blocked n block note) rec ≡ true → held_of n rec ≡ true
  unfolding held_of
  held_less rec h = loses.held rec (subst (λ l. is_held n.config.protocol l n.config.logical rec ≡ true) is_left h)

  current_stays : (page : ℕ) → page < n.config.logical → IsThere n (current_name_of n page) →
      IsThere (blocked n block note) (current_name_of n page)
  unfolding current_of
  current_stays page within there =
      let f = found_named old (current_name_of n page) there in
      let at_page : f.0.rec.page ≡ page = ap (λ (y : Link). y.page) f.2 in
      let version : f.0.rec.version ≡ cur n.config.protocol old n.config.logical page =
      ap (λ (y : Link). y.version) f.2 in
      let current : f.0.rec.version ≡ cur n.config.protocol old n.config.logical f.0.rec.page = version
      ∙ ap (cur n.config.protocol old n.config.logical) (sym at_page) in
      subst (λ l. is_present l (current_name_of n page) ≡ true) (sym is_left)
      (subst (λ u. is_present fewer u ≡ true) f.2
      (wanted_stays f.0 f.1 (counted_wanted n.config.protocol old n.config.logical (pinned_names n.pins) f.0.rec
      (inl current))))

  pub preserves : Preserves n (blocked n block note)
  preserves = record {
    config = refl;
    pins = refl;
    mentions = refl;
    current = current_same;
    fewer = λ name there.
        let f = found_named fewer name (subst (λ l. is_present l name ≡ true) is_left there) in
        present_as old f.0 name (from_filter (λ f. keep f.slot.0) f.0 old f.1).0 f.2;
    pinned = λ name pin there.
        let f = found_named old name there in
        subst (λ l. is_present l name ≡ true) (sym is_left)
        (subst (λ u. is_present fewer u ≡ true) f.2
        (wanted_stays f.0 f.1
        (pinned_wanted n.config.protocol old n.config.logical (pinned_names n.pins) f.0.rec
        (subst (Contains (pinned_names n.pins)) (sym f.2) pin))));
    present = current_stays;
    held = held_less;
    in_progress = λ names h. subst (λ l. InProgress n.config.protocol l n.config.logical names) (sym is_left)
        (loses.in_progress names h);
  }

  -- no record stands in the block, so each has a slot outside it
  pub spared_still : CanSpare (blocked n block note) block
  spared_still =
      subst (λ l. IsDispensable n.config.protocol l n.config.logical (pinned_names n.pins) (shape_of n.config) block)
      (sym is_left)
      (all_from (λ f. is_wanted n.config.protocol fewer n.config.logical (pinned_names n.pins) f.rec ≡ true →
      is_present (left keep fewer) (name_of f.rec) ≡ true) fewer
      (λ f i w. present_as (left keep fewer) f (name_of f.rec) (left_twice keep old f i) refl))
