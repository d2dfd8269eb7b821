-- The open transactions of a device, by their places, and the one of which it is not known whether its record is there.
use Rattle.tx_engine.proofs.Common.{◌≡◌, ◌≢◌, true, List, Contains, refl, all_from, Link, Contents, is_present, is_outside, shape_of, found_in, IndexState, pinned_names, BlocksState, Unsure, CanSpare, CanTake, FlashState, Entry, Mark, Plain, Doubt, Whole, DeviceState, Naming, Stands, DoubtsAs, IsAsMarked, IsUnderWay}
use Rattle.std.proofs.Common.{Any}
use Rattle.std.proofs.lemmas.List.Elements.{All-same}
use Rattle.list_lemmas.proofs.Quantifiers.{any_got}
use Rattle.record_list.specs.Changes.{left}
use Rattle.record_list.proofs.OfFacts.Wanted.{dispensable_pinned}
use Rattle.collector.specs.declared.unsure.Unsure.TheVariants as unsure

-- a transaction that is not whole is under way
pub under_way : (image : List Contents) (n : IndexState) (e : Entry) (x : Naming) (m : Mark) →
    IsAsMarked image n e x m → m ≢ Whole → IsUnderWay image n e x
under_way image n e x Plain h other = h
under_way image n e x Doubt h other = h.0
under_way image n e x Whole h other = absurd (other refl)

-- what is not known can be taken: the names of open transactions are pinned, so the spare can be spared by them
pub take_unsure : (image : List Contents) (n : IndexState) (t : BlocksState) (entries : List Entry)
    (namings : List Naming) (u : Unsure) →
    DoubtsAs image n entries namings u → CanSpare n t.spare →
    ((name : Link) → Any (λ x. Contains x.names name) namings → Contains (pinned_names n.pins) name) → CanTake n t u
take_unsure image n t entries namings unsure.Nothing doubt spared pinned = tt
take_unsure image n t entries namings (unsure.Own at rec) own spared pinned = record {
  next = own.next;
  outside = All-same
      (λ name. is_present (found_in n.notes) name ≡ true →
      is_present (left (is_outside (shape_of n.config) t.spare) (found_in n.notes)) name ≡ true)
      own.next.names own.naming.names own.its
      (all_from (λ name. is_present (found_in n.notes) name ≡ true →
      is_present (left (is_outside (shape_of n.config) t.spare) (found_in n.notes)) name ≡ true)
      own.naming.names (λ name i here.
      dispensable_pinned n.config.protocol (found_in n.notes) n.config.logical (pinned_names n.pins) (shape_of n.config)
      t.spare spared name
      (pinned name (any_got (λ (x : Naming). Contains x.names name) namings own.place own.naming own.is_naming i))
      here));
}
take_unsure image n t entries namings (unsure.Copy from to) doubt spared pinned = tt
take_unsure image n t entries namings unsure.SpareErase doubt spared pinned = tt
take_unsure image n t entries namings (unsure.VictimErase block) doubt spared pinned = tt

pub can_take : {F : Type 0} (state : F → FlashState) (s : DeviceState F) → Stands state s →
    CanTake s.noted s.table s.unsure
can_take state s h =
    take_unsure (state s.flash).image s.noted s.table s.machine.entries s.namings s.unsure h.doubt h.matches.spared
    (λ name any. (h.pinned name).1 any)
