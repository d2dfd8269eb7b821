use Rattle.scan_recovery.proofs.Common.{◌≡◌, List, length, map, sym, ap, ◌∙◌, subst, inl, inr, Protocol, Shape, IsShape, slots_of, Seen, Found, IsScanned, IsSoundList, Sorts, list_of, HasRemovable, complete_slots, IsChosenFrom}
use Rattle.std.proofs.Common.{Ok, subst₂}
use Rattle.tx_types.specs.declared.config.Config.{Config}
use Rattle.tx_types.specs.Config.{checked}
use Rattle.tx_types.proofs.ConfigLemmas.{checked_config}
use Rattle.sorted_records.specs.CurrentVersions as standing
use Rattle.version_index.specs.Scanned.{AreScanned}
use Rattle.scan_recovery.proofs.opening.open_current_versions.Goals as goal

-- what is scanned, and known of how it stands
scanned : {protocol : Protocol} (its : Config) (shape : Shape) (seen : List Seen) (list : List Found)
    (judged : standing.CurrentVersionsState)
    → checked its ≡ Ok shape → length seen ≡ slots_of shape → map (λ f. f.slot.0) list ≡ complete_slots seen →
    IsScanned list → Sorts list judged.list
    → judged.protocol ≡ protocol → judged.logical ≡ its.logical → IsSoundList judged.protocol list judged.logical →
    AreScanned protocol its seen list judged
scanned its shape seen list judged check reads complete slots sorts rule logical sound = record {
  reads = reads ∙ ap slots_of (checked_config its shape check).1;
  complete = complete;
  slots = slots;
  sound = subst₂ (λ p n. IsSoundList p list n) rule logical sound;
  sorts = sorts;
}

pub lawful_spare-requires-clause-shape : goal.lawful_spare-requires-clause-shape
lawful_spare-requires-clause-shape g c =
    let its = checked_config c.args.config c.args.shape c.requires.check in
    subst IsShape (sym its.1) its.0.shape

pub tables_with_spare-requires-clause-scan : goal.tables_with_spare-requires-clause-scan
tables_with_spare-requires-clause-scan g c =
    let seen = c.args.seen.items in
    let list = list_of c.args.list c.args.standing.now.list in
    let keeps = rw (rw c.sorted_records.ensures at c.list_of-by_slot.ensures) at c.in_ok-spare.ensures.sound in
    rw c.deref-2.ensures.value (
      list,
      scanned c.args.config c.args.shape seen list c.args.standing.now c.requires.check c.requires.seen
          c.requires.complete
          c.requires.scanned c.requires.sorts c.requires.protocol c.requires.logical keeps.0,
    )

pub tables_with_spare-requires-clause-spare : goal.tables_with_spare-requires-clause-spare
tables_with_spare-requires-clause-spare g c = elim c.in_ok-spare.ensures.spare [
  | inl high ↦ high.exists
  | inr high ↦ high.1.exists
]

pub returns-clause-sound : goal.returns-clause-sound
returns-clause-sound g c =
    let list = list_of c.args.list c.args.standing.now.list in
    let keeps = rw (rw c.sorted_records.ensures at c.list_of-by_slot.ensures) at c.in_ok-spare.ensures.sound in (
      subst₂ (λ p logical. IsSoundList p list logical) c.requires.protocol c.requires.logical keeps.0,
      subst₂ (λ p logical. HasRemovable p list logical c.args.shape) c.requires.protocol c.requires.logical keeps.1,
      keeps.2,
    )

pub returns-clause-tables : goal.returns-clause-tables
returns-clause-tables g c =
    let config = c.args.config in
    let standing = c.args.standing.now in
    let spare = c.in_ok-spare.spare.0 in
    let seen = c.args.seen.items in
    let list = list_of c.args.list c.args.standing.now.list in
    let keeps = rw (rw c.sorted_records.ensures at c.list_of-by_slot.ensures) at c.in_ok-spare.ensures.sound in
    let chosen = rw (c.deref.ensures.value, (rw c.sorted_records.ensures at c.list_of-by_slot.ensures)) at
    c.in_ok-spare.ensures.spare in
    let opened = rw c.deref-2.ensures.value at c.in_ok-opened.ensures in
    opened list (scanned config c.args.shape seen list standing c.requires.check c.requires.seen c.requires.complete
    c.requires.scanned c.requires.sorts c.requires.protocol c.requires.logical keeps.0)
    (subst₂ (λ p n. IsChosenFrom p n c.args.shape seen list spare) (c.requires.protocol ∙ sym c.requires.rule)
    c.requires.logical chosen)
