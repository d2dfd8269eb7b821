use Rattle.live_flash.proofs.Common.{◌≡◌, ◌-◌, ◌<◌, set, sym, ap, subst, ◌∙◌, arith, All, blank, damaged, slot_at, IsWhole, cell_of, counted, erased, slot_bytes, IsSlot}
use Rattle.std.proofs.lemmas.List.Elements.{All-get_or}
use Rattle.live_flash.proofs.Calls.{blank_read, damaged_read, written_is, damaged_slot, empty_slot}
use Rattle.live_flash.proofs.follower.fill_slot.Goals as goal

pub returns-in-Complete : goal.returns-in-Complete
returns-in-Complete c =
    let m = c.args.memory.now in
    let x = slot_at m.image c.args.at.0 in
    let is = c.shape.ensures.whole in
    let whole = All-get_or (IsWhole m.shape.page_bytes) m.image c.args.at.0 blank
    (omega (arith, is.slots, c.requires.exists)) is.whole in
    let new : c.fill_counted.new.room ≡ counted (cell_of m.shape.page_bytes x) =
    c.fill_counted.ensures.fills ∙ ap counted c.cell.ensures.bytes in
    subst (IsSlot m.shape.page_bytes x) (sym new)
    (written_is m.shape.page_bytes x c.in-Complete.ensures whole is.bounds.page_most
    (subst (All (λ b. b < 256)) c.cell.ensures.bytes c.fill_counted.ensures.bytes))

pub returns-in-Damaged : goal.returns-in-Damaged
returns-in-Damaged c =
    let m = c.args.memory.now in
    let x = slot_at m.image c.args.at.0 in
    let size = slot_bytes m.shape.page_bytes in
    let new : c.fill_damaged.new.place ≡ set (erased size) (size - 1) 128 =
    c.fill_damaged.ensures ∙ ap (λ n. set (erased n) (n - 1) 128) c.requires.place in
    subst (λ y. IsSlot m.shape.page_bytes y c.fill_damaged.new.place) (sym (damaged_read x c.in-Damaged.ensures))
    (subst (IsSlot m.shape.page_bytes damaged) (sym new)
    (damaged_slot m.shape.page_bytes c.shape.ensures.whole.bounds.page_most))

pub returns-in-Blank : goal.returns-in-Blank
returns-in-Blank c =
    let m = c.args.memory.now in
    let x = slot_at m.image c.args.at.0 in
    let new : c.fill_erased.new.places ≡ erased (slot_bytes m.shape.page_bytes) =
    c.fill_erased.ensures ∙ ap erased c.requires.place in
    subst (λ y. IsSlot m.shape.page_bytes y c.fill_erased.new.places) (sym (blank_read x c.in-Blank.ensures))
    (subst (IsSlot m.shape.page_bytes blank) (sym new) (empty_slot m.shape.page_bytes))
