use Rattle.list_flash.specs.Entries.{operations_in}
use Rattle.list_flash.proofs.Moments.{IsImage-done}
use Rattle.list_flash.proofs.list_flash.ListFlashFlash.shape.Goals as goal

pub returns-clause-whole : goal.returns-clause-whole
returns-clause-whole c =
    let f = c.self.inside in
    rw (← c.self.view_is)
    (IsImage-done f.shape (operations_in f.list.items) f.programs f.erases c.self.invariant.done)
