use Rattle.scan_recovery.proofs.Common.{◌∙◌, has_name, name_of, is_outside}
use Rattle.scan_recovery.proofs.OfSpare.RemovableBlocks.{any_named}
use Rattle.scan_recovery.proofs.removable.stands_outside.Goals as goal

pub returns : goal.returns
returns c =
    rw (c.with_name.ensures, c.name.ensures, c.sorted_records.ensures) at c.any_outside.ensures
    ∙ any_named (λ f. is_outside c.args.shape c.args.block.0 f.slot.0) (λ f. has_name (name_of c.args.rec) f.rec)
    c.args.standing.now.list
