use Rattle.durable_folder.proofs.Common.{Ok}
use Rattle.durable_folder.proofs.Learning.{rests_same}
use Rattle.durable_folder.proofs.Finishing.{put_ends_at, removed_ends, ends_err, is_error, same_refused_at}
use Rattle.durable_folder.specs.declared.answers.Replaced.TheVariants.{Refused}
use Rattle.durable_folder.proofs.replacing.put_or_remove.Goals as goal

pub returns-in_err-remove-in-Err-clause-ends : goal.returns-in_err-remove-in-Err-clause-ends
returns-in_err-remove-in-Err-clause-ends g c apart is =
    removed_ends c.args.beside.now c.args.name.now c.args.filled c.from_residual.result c.remove.result _
    (g.F.Folder.told c.args.folder.now)
    (g.F.Folder.told c.args.folder.now) (g.F.Folder.told c.remove.new.self) apart
    (λ h k aside. ends_err c.args.beside.now c.args.name.now c.args.filled c.from_residual.result h k
    c.from_residual.ensures.0)
    (rests_same (g.F.Folder.told c.args.folder.now)) c.remove.ensures

pub returns-in-Err-clause-ends : goal.returns-in-Err-clause-ends
returns-in-Err-clause-ends g c apart is =
    removed_ends c.args.beside.now c.args.name.now c.args.filled _ c.remove.result _ (g.F.Folder.told c.args.folder.now)
    (g.F.Folder.told c.args.folder.now) (g.F.Folder.told c.remove.new.self) apart
    (λ h k aside. ends_err c.args.beside.now c.args.name.now c.args.filled _ h k (is_error c.in-Err.error))
    (rests_same (g.F.Folder.told c.args.folder.now)) c.remove.ensures

pub returns-in_err-remove-in-Refused-clause-ends : goal.returns-in_err-remove-in-Refused-clause-ends
returns-in_err-remove-in-Refused-clause-ends g c apart is =
    removed_ends c.args.beside.now c.args.name.now c.args.filled c.from_residual-in_err-remove-in-Refused.result
    c.remove-in-Refused.result _
    (g.F.Folder.told c.args.folder.now)
    (g.F.Folder.told c.args.folder.now) (g.F.Folder.told c.remove-in-Refused.new.self) apart
    (λ h k aside. ends_err c.args.beside.now c.args.name.now c.args.filled
    c.from_residual-in_err-remove-in-Refused.result h k
    c.from_residual-in_err-remove-in-Refused.ensures.0)
    (rests_same (g.F.Folder.told c.args.folder.now)) c.remove-in-Refused.ensures

pub returns-in_ok-remove-in-Refused-clause-ends : goal.returns-in_ok-remove-in-Refused-clause-ends
returns-in_ok-remove-in-Refused-clause-ends g c apart is =
    removed_ends c.args.beside.now c.args.name.now c.args.filled (Ok Refused) c.remove-in-Refused.result
    _ (g.F.Folder.told c.args.folder.now)
    (g.F.Folder.told c.args.folder.now) (g.F.Folder.told c.remove-in-Refused.new.self) apart
    (same_refused_at c.args.beside.now c.args.name.now c.args.filled c.in-Ok.answer c.in-Ok.is c.in-Refused.is)
    (rests_same (g.F.Folder.told c.args.folder.now))
    c.remove-in-Refused.ensures

pub returns-in-Done-clause-ends : goal.returns-in-Done-clause-ends
returns-in-Done-clause-ends g c apart is =
    put_ends_at c.args.beside.now c.args.name.now c.args.filled c.put.result c.in-Ok.answer
    (g.F.Folder.told c.args.folder.now)
    (g.F.Folder.told c.args.folder.now)
    (g.F.Folder.told c.put.new.folder) c.in-Ok.is c.in-Done.is (rests_same (g.F.Folder.told c.args.folder.now))
    (c.put.ensures.puts apart is)

pub returns-in-Done-clause-anew : goal.returns-in-Done-clause-anew
returns-in-Done-clause-anew g c apart is new ok = c.put.ensures.anew apart is new ok
