use Rattle.version_index.proofs.Common.{refl, sym, subst, ◌∙◌, false≢true}
use Rattle.version_index.specs.Committing.{DerivesWhole}
use Rattle.version_index.proofs.committing.commit_if_complete.Goals as goal

pub returns-then-not-completes-clause-settled : goal.returns-then-not-completes-clause-settled
returns-then-not-completes-clause-settled c = record {
  open_cycle = λ protocol its m may same left. refl;
  whole_cycle = λ protocol its m may same closed.
      absurd (false≢true (sym c.if-not-completes.true ∙ c.completes.ensures protocol its m may same ∙ closed));
}

pub returns-clause-settled : goal.returns-clause-settled
returns-clause-settled c = record {
  open_cycle = λ protocol its m may same left.
      absurd (false≢true (sym left ∙ sym (c.completes.ensures protocol its m may same) ∙ c.if-not-completes.false));
  whole_cycle = λ protocol its m may same closed.
      subst (λ start. DerivesWhole c.args.protocol c.args.tables.now c.commit_cycle.new.tables start c.args.logical)
      c.name.ensures c.commit_cycle.ensures.whole;
}
