use Rattle.desk_io.proofs.Keeping.{saves_kept}
use Rattle.desk_io.proofs.memory.MemDeskDesk.save.Goals as goal

pub returns-clause-saves : goal.returns-clause-saves
returns-clause-saves c =
    let fails = c.fails_next-fails.result in
    let put = rw c.kept_part.ensures at c.in-Ok.ensures.ok in
    saves_kept c.args.self.now c.answer.new.self c.args.name.now c.args.bytes.now fails c.answer.result
    (rw put at c.answer.ensures.state) c.answer.ensures.answer
