-- Once what is needed in a block stands in the spare too, the block can be spared.
use Rattle.collector.proofs.Common.{◌≡◌, ℕ, ◌<◌, true, false, List, length, Some, refl, sym, ap, ◌∙◌, subst, inl, inr, Contains, cases_Bool, and_parts, and_from, All-contains, all_from, from_filter, in_filter, shape_of, Link, Found, name_of, has_name, is_present, left, is_outside, is_wanted, found_named, present_as, has_own_name, note_at, found_in, IndexState, needed_of, home_of, pinned_names, found, noted_from, CanSpare}
use Rattle.record_list.specs.Written.{is_outside_spare}
use Rattle.record_list.proofs.OfFacts.Names.{has_name_true}
use Rattle.record_list.proofs.OfLosses.LossAmong.{IsOneEach}
use Rattle.judged_records.proofs.OfNotes.FoundIn.{noted_in}
use Rattle.judged_records.proofs.OfNotes.HomeFacts.{first_stands}
use Rattle.collector.proofs.OfCopies.Homes.{first_of, stands_off, home_off, home_is_needed}

-- a needed slot of the block has its note in a slot outside the block too
abbrev pub HasCopy : IndexState → ℕ → ℕ → Type 0
HasCopy n block slot =
    (other : ℕ) × (other < length n.notes) × (is_outside (shape_of n.config) block other ≡ true)
    × (note_at n.notes other ≡ note_at n.notes slot)

module _ (n : IndexState) (spare block : ℕ) (one : IsOneEach (found_in n.notes)) (is_spare : n.spare ≡ Some spare)
    (spared : CanSpare n spare)
    (copies : (slot : ℕ) → is_outside (shape_of n.config) block slot ≡ false → needed_of n slot ≡ true →
    HasCopy n block slot) where
  abbrev all : List Found
  all = found_in n.notes

  -- the record of a name that has its home in the block has a copy outside
  copy_there : (f : Found) → Contains all f → is_outside (shape_of n.config) block f.slot.0 ≡ false →
      needed_of n f.slot.0 ≡ true →
      is_present (left (is_outside (shape_of n.config) block) all) (name_of f.rec) ≡ true
  copy_there f i inside needed =
      let c = copies f.slot.0 inside needed in
      let holds = c.3 ∙ (noted_from n.notes f i).1 in
      present_as (left (is_outside (shape_of n.config) block) all) (found c.0 f.rec) (name_of f.rec)
      (in_filter (λ g. is_outside (shape_of n.config) block g.slot.0) (found c.0 f.rec) all
      (noted_in n.notes c.0 f.rec c.1 holds) c.2) refl

  wanted_there : (f : Found) → Contains all f → is_wanted n.config.protocol all n.config.logical (pinned_names n.pins)
      f.rec ≡ true →
      is_present (left (is_outside (shape_of n.config) block) all) (name_of f.rec) ≡ true
  unfolding home_of
  wanted_there f i wanted =
      let name : Link = name_of f.rec in
      let off : is_present (left (is_outside (shape_of n.config) spare) all) name ≡ true =
      All-contains (λ f. is_wanted n.config.protocol all n.config.logical (pinned_names n.pins) f.rec ≡ true →
      is_present (left (is_outside (shape_of n.config) spare) all) (name_of f.rec) ≡ true) all f spared i wanted in
      let g = found_named (left (is_outside (shape_of n.config) spare) all) name off in
      let parts = from_filter (λ f. is_outside (shape_of n.config) spare f.slot.0) g.0 all g.1 in
      let first = first_of (stands_off (shape_of n.config) n.spare name) all g.0 parts.0
      (and_from (has_name name g.0.rec) (is_outside_spare (shape_of n.config) n.spare g.0.slot.0)
      (has_own_name name g.0.rec g.2)
      (ap (λ o. is_outside_spare (shape_of n.config) o g.0.slot.0) is_spare ∙ parts.1)) in
      let q = first_stands (stands_off (shape_of n.config) n.spare name) all first.0 first.1 in
      let named : name_of q.found.rec ≡ name =
      has_name_true name q.found.rec (and_parts (has_name name q.found.rec)
      (is_outside_spare (shape_of n.config) n.spare q.found.slot.0) q.passes).0 in
      let at_home : home_of n (name_of q.found.rec) ≡ Some first.0 = ap (home_of n) named
      ∙ home_off (shape_of n.config) n.spare all name first.0 first.1 in
      let its_wanted = subst (λ r. is_wanted n.config.protocol all n.config.logical (pinned_names n.pins) r ≡ true)
      (sym (one.same q.found f q.is_in i named))
      wanted in
      let needed : needed_of n q.found.slot.0 ≡ true = subst (λ k. needed_of n k ≡ true) (sym q.its_slot)
      (home_is_needed n q.found first.0 q.is_in q.its_slot at_home its_wanted) in
      subst (λ u. is_present (left (is_outside (shape_of n.config) block) all) u ≡ true) named
      (elim (cases_Bool (is_outside (shape_of n.config) block q.found.slot.0)) [
        | inl out ↦ present_as (left (is_outside (shape_of n.config) block) all) q.found (name_of q.found.rec)
            (in_filter (λ g. is_outside (shape_of n.config) block g.slot.0) q.found all q.is_in out) refl
        | inr inside ↦ copy_there q.found q.is_in inside needed
      ])

  pub spared_by_copies : CanSpare n block
  spared_by_copies =
      all_from (λ f. is_wanted n.config.protocol all n.config.logical (pinned_names n.pins) f.rec ≡ true →
      is_present (left (is_outside (shape_of n.config) block) all) (name_of f.rec) ≡ true) all wanted_there
