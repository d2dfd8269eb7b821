use Rattle.tx_engine.proofs.Common.{sym, ap, ◌∙◌, Config}
use Rattle.tx_engine.proofs.OfStep.NextRecord.{current_back}
use Rattle.tx_engine.proofs.writing.back_version.Goals as goal

pub returns-in-Bpcc : goal.returns-in-Bpcc
returns-in-Bpcc g c =
    current_back c.args.store.now.noted c.args.page _ (ap (λ (k : Config). k.protocol) (sym c.config.ensures.config)
    ∙ c.in-Bpcc.is) c.version.ensures
