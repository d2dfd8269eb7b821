use Rattle.durable_folder.proofs.Causing.{refused_fault}
use Rattle.durable_folder.proofs.Putting.{put_not_synced, put_done, put_failed, put_refused_so}
use Rattle.durable_folder.proofs.replacing.put_over.Goals as goal

pub returns-in_err-sync_names-in-Ok-clause-puts : goal.returns-in_err-sync_names-in-Ok-clause-puts
returns-in_err-sync_names-in-Ok-clause-puts g c apart is =
    search (put_not_synced, is, c.from_residual.ensures.0, c.in-Ok.ensures, c.sync_names.ensures.settles)

pub returns-in_ok-sync_names-in-Ok-clause-puts : goal.returns-in_ok-sync_names-in-Ok-clause-puts
returns-in_ok-sync_names-in-Ok-clause-puts g c apart is = search (
  put_done,
  is,
  c.in_ok-sync_names-in-Ok.was,
  c.in-Ok.ensures,
  c.sync_names.ensures.settles,
)

pub returns-in_err-remove-in-Err-clause-puts : goal.returns-in_err-remove-in-Err-clause-puts
returns-in_err-remove-in-Err-clause-puts g c apart is =
    search (put_failed, apart, c.from_residual-in_err-remove-in-Err.ensures.0, c.in-Err.ensures, c.remove.ensures)

pub returns-in_ok-remove-in-Err-clause-puts : goal.returns-in_ok-remove-in-Err-clause-puts
returns-in_ok-remove-in-Err-clause-puts g c apart is = search (
  put_refused_so,
  apart,
  c.refusal_of.ensures,
  c.in-Err.ensures,
  c.remove.ensures,
)

pub returns-in_ok-remove-in-Err-clause-fault : goal.returns-in_ok-remove-in-Err-clause-fault
returns-in_ok-remove-in-Err-clause-fault g c =
    rw c.refusal_of.ensures (refused_fault _ _ _ c.in-Err.error _ (g.F.Folder.told c.args.folder.now)
    (g.F.Folder.told c.rename.new.self)
    (g.F.Folder.told c.remove.new.self) c.in-Err.ensures c.remove.ensures)
