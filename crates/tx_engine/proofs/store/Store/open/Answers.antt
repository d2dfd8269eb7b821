use Rattle.tx_engine.proofs.Common.{sym, ap, ◌∙◌, rules, subst, Shape, IsSoundImage, IndexState, refl, arith, Carries-nothing}
use Rattle.tx_engine.proofs.OfMount.Mounted.{opened_matches}
use Rattle.tx_engine.proofs.store.Store.open.Goals as goal

pub invariant_of-result : goal.invariant_of-result
invariant_of-result g c =
    let opened = c.in-Ok-recover_tables.ensures in
    let matches = opened_matches c.opened_tables_match.ensures c.args.config (g.F.Flash.state c.args.flash)
    (g.F.Flash.state c.recover_tables.new.flash)
    c.in-Ok-recover_tables.index c.in-Ok-recover_tables.blocks c.requires.check c.shape.ensures.whole
    (subst (λ q. IsSoundImage q c.args.config.logical (g.F.Flash.state c.args.flash).shape
    (g.F.Flash.state c.args.flash).image)
    (sym c.requires.rule) opened.sound)
    opened.tables opened.reads.carries.shape opened.moment in
    record {
      room = c.in-Ok.ensures ∙ ap (λ (s : Shape). s.page_bytes) (c.shape.ensures.shape
          ∙ sym opened.reads.carries.shape ∙ matches.shape);
    }

pub returns-in-Ok-recover_tables : goal.returns-in-Ok-recover_tables
returns-in-Ok-recover_tables g c =
    let opened = c.in-Ok-recover_tables.ensures in
    record {
      opened = search rules;
      stored = record {
        matches = opened_matches c.opened_tables_match.ensures c.args.config (g.F.Flash.state c.args.flash)
            (g.F.Flash.state c.recover_tables.new.flash)
            c.in-Ok-recover_tables.index c.in-Ok-recover_tables.blocks c.requires.check c.shape.ensures.whole
            (subst (λ q. IsSoundImage q c.args.config.logical (g.F.Flash.state c.args.flash).shape
            (g.F.Flash.state c.args.flash).image)
            (sym c.requires.rule) opened.sound)
            opened.tables opened.reads.carries.shape opened.moment;
        rule = ap (λ (n : IndexState). n.config.protocol) opened.tables.noted_is ∙ c.requires.rule;
      };
      failed = tt;
      reads = tt;
      started = tt;
    }

pub returns-in_default : goal.returns-in_default
returns-in_default g c = record {
  opened = tt;
  stored = tt;
  failed = (refl, Carries-nothing (g.F.Flash.state c.args.flash));
  reads = omega arith;
  started = refl;
}
