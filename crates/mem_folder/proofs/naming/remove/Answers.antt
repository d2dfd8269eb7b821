use Rattle.mem_folder.proofs.Common.{◌≡◌, string_bytes}
use Rattle.mem_folder.proofs.Steps.{removes}
use Rattle.mem_folder.proofs.naming.remove.Goals as goal

pub returns-in-Ok : goal.returns-in-Ok
returns-in-Ok c =
    let is : string_bytes c.in-Ok.own ≡ c.args.name.now = c.in-Ok.ensures.ok in
    rw (← is) (removes c.args.changes.now.items c.add.new.changes.items c.in-Ok.own c.add.result
    (record { ok = c.add.ensures.ok; err = c.add.ensures.err }))
