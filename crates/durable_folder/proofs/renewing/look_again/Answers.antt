use Rattle.durable_folder.proofs.Common.{inl, inr, true, refl, sym, ◌∙◌}
use Rattle.durable_folder.specs.Renewing.{Compared}
use Rattle.durable_folder.proofs.Renewals.{not_so}
use Rattle.durable_folder.proofs.renewing.look_again.Goals as goal

pub returns-in_err-has_name-clause-looks : goal.returns-in_err-has_name-clause-looks
returns-in_err-has_name-clause-looks g c = inl c.from_residual.ensures.0

pub returns-then-branch-clause-looks : goal.returns-then-branch-clause-looks
returns-then-branch-clause-looks g c =
    let is_so : Compared (g.F.Folder.handle c.args.file) c.args.name.now true (g.F.Folder.told c.args.folder.now)
    (g.F.Folder.told c.has_name.new.folder) = rw c.if-branch.true at c.in_ok-has_name.ensures.looks in
    inr is_so

pub returns-else-branch-clause-looks : goal.returns-else-branch-clause-looks
returns-else-branch-clause-looks g c = inl refl

pub returns-in_err-has_name-clause-fault : goal.returns-in_err-has_name-clause-fault
returns-in_err-has_name-clause-fault g c named err =
    not_so c.has_name.result (g.F.Folder.told c.args.folder.now) (g.F.Folder.told c.has_name.new.folder)
    (λ is_so. let both = sym c.in_err-has_name.was ∙ is_so in absurd (cc)) (c.has_name.ensures.named named)

pub returns-else-branch-clause-fault : goal.returns-else-branch-clause-fault
returns-else-branch-clause-fault g c named err =
    not_so c.has_name.result (g.F.Folder.told c.args.folder.now) (g.F.Folder.told c.has_name.new.folder)
    (λ is_so. let both = sym c.in_ok-has_name.was ∙ is_so in absurd (cc)) (c.has_name.ensures.named named)
