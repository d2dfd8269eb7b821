use Rattle.durable_folder.proofs.Linking.{anew_after}
use Rattle.durable_folder.proofs.Passing.{told_before}
use Rattle.durable_folder.proofs.Finishing.{rests_ends, ends_after, is_error}
use Rattle.durable_folder.proofs.replacing.finish.Goals as goal

pub returns-in_err-has_name-clause-ends : goal.returns-in_err-has_name-clause-ends
returns-in_err-has_name-clause-ends g c apart is =
    rests_ends c.args.beside.now c.args.name.now c.args.filled c.from_residual.result
    (g.F.Folder.told c.args.folder.now)
    (g.F.Folder.told c.has_name.new.folder) apart
    c.from_residual.ensures.0 c.has_name.ensures.rests

pub returns-then-not-branch-clause-ends : goal.returns-then-not-branch-clause-ends
returns-then-not-branch-clause-ends g c apart is =
    rests_ends c.args.beside.now c.args.name.now c.args.filled _ (g.F.Folder.told c.args.folder.now)
    (g.F.Folder.told c.has_name.new.folder) apart
    (is_error c.from.result) c.has_name.ensures.rests

pub returns-clause-ends : goal.returns-clause-ends
returns-clause-ends g c apart is =
    ends_after c.args.beside.now c.args.name.now c.args.filled c.put_or_remove.result
    (g.F.Folder.told c.args.folder.now)
    (g.F.Folder.told c.has_name.new.folder) (g.F.Folder.told c.put_or_remove.new.folder) apart c.has_name.ensures.rests
    (c.put_or_remove.ensures.ends apart (record {
      is = λ told. is.is (told_before (g.F.Folder.told c.args.folder.now) (g.F.Folder.told c.has_name.new.folder)
          c.has_name.ensures.rests told);
    }))

pub returns-clause-anew : goal.returns-clause-anew
returns-clause-anew g c apart is new ok =
    let before = g.F.Folder.told c.args.folder.now in
    let named = g.F.Folder.told c.has_name.new.folder in
    anew_after c.args.name.now before named (g.F.Folder.told c.put_or_remove.new.folder) c.has_name.ensures.rests
    (c.put_or_remove.ensures.anew apart (record {
      is = λ told. is.is (told_before before named c.has_name.ensures.rests told);
    }) new ok)
