use Rattle.mem_folder.proofs.Durable.{saved_anew}
use Rattle.mem_folder.proofs.surviving.save_durably.Goals as goal

pub returns : goal.returns
returns c nothing =
    let old = c.args.folder.now in
    let new = c.save.new.folder in
    saved_anew c.args.name.now c.args.bytes.now old.changes.items new.changes.items old.befores.items new.befores.items
    old.notes.items new.notes.items
    old.noted.items new.noted.items old.glances.items new.glances.items nothing
    (c.has_noted.ensures.none c.if-has_noted.false) c.in_ok-save.ensures.saves
