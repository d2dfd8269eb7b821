-- One slot after the other.
use Rattle.version_index.proofs.Common.{◌≡◌, ◌+◌, ◌<◌, List, length, map, ap, sym, subst, ◌∙◌, arith, ext_get_or, get_or-map, length-map, slots_of, SlotUse, TablesState}
use Rattle.flash_model.specs.declared.flash.Seen.TheVariants as seen
use Rattle.slot_tables.specs.declared.slots.SlotUse.TheVariants as slot
use Rattle.version_index.specs.Filling.{first_use}
use Rattle.version_index.proofs.OfOpening.ScanSlots.{AreFirstUsed, none_used, one_used, all_used}
use Rattle.version_index.proofs.placing.place_damaged.Goals as goal

pub returns-then-not-has_damaged : goal.returns-then-not-has_damaged
returns-then-not-has_damaged c =
    let k = c.args.tables.now in
    let all = c.args.seen.now in
    let undamaged = c.has_damaged.ensures c.if-not-has_damaged.true in
    let size : length k.slots ≡ length all = c.shape.ensures.kept.slots ∙ sym c.requires.size in
    ap (λ (s : List SlotUse). record k { slots = s })
    (ext_get_or slot.Blank k.slots (map first_use all) (size ∙ sym (length-map all first_use))
    (λ a low. c.requires.blank a ∙ sym (undamaged a (omega arith)) ∙ sym (get_or-map first_use all a seen.Blank)))

pub loop-at-init : goal.loop-at-init
loop-at-init c = none_used c.args.seen.now c.args.tables.now c.requires.blank

pub place_if_damaged-requires-clause-slot : goal.place_if_damaged-requires-clause-slot
place_if_damaged-requires-clause-slot c =
    let same = ap (λ (t : TablesState). slots_of t.shape) c.loop-at.invariant.rest in
    let size = c.requires.size in
    let below = c.loop-at-test.true in
    omega arith

pub place_if_damaged-requires-clause-blank : goal.place_if_damaged-requires-clause-blank
place_if_damaged-requires-clause-blank c = c.loop-at.invariant.others c.loop-at.at (omega arith)

pub loop-at-preserved : goal.loop-at-preserved
loop-at-preserved c =
    let t = c.loop-at.tables in
    let at = c.loop-at.at in
    let size = c.loop-at.invariant.size in
    let slots = c.shape.ensures.kept.slots in
    let long = c.requires.size in
    let below = c.loop-at-test.true in
    let low : at < length t.slots = omega arith in
    subst (λ v. AreFirstUsed c.args.seen.now c.args.tables.now v (at + 1)) (sym c.place_if_damaged.ensures)
    (one_used c.args.seen.now c.args.tables.now t at c.loop-at.invariant low)

pub returns : goal.returns
returns c =
    all_used c.args.seen.now c.args.tables.now c.loop-at.tables c.loop-at.at c.loop-at.invariant
    (c.shape.ensures.kept.slots ∙ sym c.requires.size) c.loop-at-test.false
