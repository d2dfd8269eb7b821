use Rattle.durable_folder.proofs.Common.{None, IsFree, WasFound}
use Rattle.durable_folder.proofs.Leading.{saves_less}
use Rattle.durable_folder.proofs.saving.save_at.Goals as goal

pub returns-in-None-clause-saves : goal.returns-in-None-clause-saves
returns-in-None-clause-saves g c =
    saves_less (λ s. IsFree s c.args.name.now) (WasFound c.args.name.now c.args.found) c.args.name.now
    c.args.bytes.now c.make.result
    (g.F.Folder.told c.args.folder.now) (g.F.Folder.told c.make.new.folder)
    (λ s known. let at : WasFound c.args.name.now None s = rw c.in-None.is at known in at.seen) c.make.ensures.saves

pub returns-in-Some-clause-anew : goal.returns-in-Some-clause-anew
returns-in-Some-clause-anew g c none ok = absurd (cc)

pub returns-in-None-clause-anew : goal.returns-in-None-clause-anew
returns-in-None-clause-anew g c none ok = c.make.ensures.anew ok
