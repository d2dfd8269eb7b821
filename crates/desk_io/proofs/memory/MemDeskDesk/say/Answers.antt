use Rattle.std.proofs.Common.{◌≡◌, ◌++◌}
use Rattle.desk_io.specs.InMemory.{kept_of}
use Rattle.desk_io.proofs.Keeping.{says_kept}
use Rattle.desk_io.proofs.memory.MemDeskDesk.say.Goals as goal

pub returns-clause-says : goal.returns-clause-says
returns-clause-says c =
    let fails = c.fails_next-fails.result in
    let grown : c.extend_from_slice.new.self.items ≡ c.self.inside.said.items ++ kept_of c.args.bytes.now fails =
    rw c.kept_part.ensures at c.in-Ok.ensures.items in
    says_kept c.args.self.now c.answer.new.self c.args.bytes.now fails c.answer.result
    (rw (← c.self.view_is) (rw grown at c.answer.ensures.state)) c.answer.ensures.answer
