use Rattle.version_index.proofs.Common.{get_or, ap, ◌∙◌, arith}
use Rattle.judged_records.proofs.OfChanges.Mentions.{raised_to_at, unraised_at}
use Rattle.version_index.proofs.mentioning.raise_existing.Goals as goal

pub returns-then-name-len-clause-raised : goal.returns-then-name-len-clause-raised
returns-then-name-len-clause-raised c =
    λ page within. ap (λ l. get_or l page 0) c.raise_to.ensures
    ∙ raised_to_at c.args.name c.args.mentions.now.items page (omega arith)

pub returns-else-name-len-clause-raised : goal.returns-else-name-len-clause-raised
returns-else-name-len-clause-raised c = λ page within. unraised_at c.args.name c.args.mentions.now.items page
    (omega arith) within
