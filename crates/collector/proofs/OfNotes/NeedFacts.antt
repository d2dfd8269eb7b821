-- What a needed slot holds, and that one name has one home.
use Rattle.collector.proofs.Common.{◌≡◌, ◌⊎◌, ℕ, true, ◌&&◌, Contains, Option, Some, None, sym, ap, ◌∙◌, eqb-true, ◌==◌, and_parts, same_Some, any_of, shape_of, Found, name_of, IsCurrent, is_held, is_slot, is_wanted, wanted_cases, found_in, IndexState, needed_of, home_of, pinned_names, IsNoted}
use Rattle.record_list.specs.Written.{home}
use Rattle.judged_records.proofs.OfNotes.Places.{one_in_slot}

-- a slot that is needed is the home of a wanted record
pub record IsHome (n : IndexState) (at : ℕ) : Type 0 where
  pub found : Found
  pub is_in : Contains (found_in n.notes) found
  pub slot : found.slot.0 ≡ at
  pub home : home_of n (name_of found.rec) ≡ Some at
  pub wanted : IsCurrent n.config.protocol (found_in n.notes) n.config.logical found.rec
      ⊎ ((is_held n.config.protocol (found_in n.notes) n.config.logical found.rec ≡ true)
      ⊎ Contains (pinned_names n.pins) (name_of found.rec))

slot_is : (at : ℕ) (o : Option ℕ) → is_slot at o ≡ true → o ≡ Some at
slot_is at None e = cc
slot_is at (Some k) e = ap Some (eqb-true k at e)

pub home_needed : (n : IndexState) (at : ℕ) → needed_of n at ≡ true → IsHome n at
unfolding needed_of home_of
home_needed n at h =
    let any = any_of
    (λ f. (f.slot.0 == at) && is_slot at (home (shape_of n.config) n.spare (found_in n.notes) (name_of f.rec))
    && is_wanted n.config.protocol (found_in n.notes) n.config.logical (pinned_names n.pins) f.rec)
    (found_in n.notes) h in
    let f = any.0 in
    let a = (f.slot.0 == at) in
    let b = is_slot at (home (shape_of n.config) n.spare (found_in n.notes) (name_of f.rec)) in
    let c = is_wanted n.config.protocol (found_in n.notes) n.config.logical (pinned_names n.pins) f.rec in
    let last = and_parts (a && b) c any.2 in
    let first = and_parts a b last.0 in
    record {
      found = f;
      is_in = any.1;
      slot = eqb-true f.slot.0 at first.0;
      home = slot_is at (home (shape_of n.config) n.spare (found_in n.notes) (name_of f.rec)) first.1;
      wanted = wanted_cases n.config.protocol (found_in n.notes) n.config.logical (pinned_names n.pins) f.rec last.1;
    }

-- two slots that are homes of one name are one
pub one_home : (n : IndexState) (a b : ℕ) (x : IsHome n a) (y : IsHome n b) →
    name_of x.found.rec ≡ name_of y.found.rec → a ≡ b
one_home n a b x y same = some_same a b (sym x.home ∙ ap (home_of n) same ∙ y.home)
  where
    some_same : (a b : ℕ) → Some a ≡ Some b → a ≡ b
    some_same a b e = same_Some a b e

-- the record of a home is the one that stands in the slot
pub found_home : (n : IndexState) → IsNoted n.config.protocol n → (f : Found) → Contains (found_in n.notes) f →
    (x : IsHome n f.slot.0) → x.found ≡ f
found_home n noted f i x = one_in_slot (found_in n.notes) x.found f noted.scanned.ascending x.is_in i x.slot
