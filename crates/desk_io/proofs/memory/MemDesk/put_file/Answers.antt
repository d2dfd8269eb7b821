use Rattle.std.proofs.Common.{ap}
use Rattle.desk_io.specs.Desk.{Files}
use Rattle.desk_io.specs.InMemory.{MemDeskState}
use Rattle.desk_io.specs.Kept.{desk_of}
use Rattle.desk_io.proofs.DeskFiles.{insert-kept}
use Rattle.desk_io.proofs.memory.MemDesk.put_file.Goals as goal

pub returns-clause-ok : goal.returns-clause-ok
returns-clause-ok c =
    let before = desk_of c.self.inside in
    let with : Files → MemDeskState = λ files. record before { contents = record before.contents { files = files } } in
    rw (← c.self.view_is, ← c.in_ok-copy.ensures)
    (ap with (insert-kept c.self.inside.files c.insert.new.self c.in_ok-key.key c.in_ok-copy.copy
    c.args.name.now c.in_ok-key.ensures.ok c.in_ok-insert.ensures.updates))
