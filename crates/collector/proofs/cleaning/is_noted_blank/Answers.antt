use Rattle.collector.proofs.Common.{ap, Config}
use Rattle.collector.proofs.OfClean.BlankNotes.{all_blank}
use Rattle.collector.proofs.cleaning.is_noted_blank.Goals as goal

pub returns : goal.returns
returns g c = rw (c.blanks.ensures, ap (λ (k : Config). k.pages_per_block) c.config.ensures.config)
    (all_blank c.args.index.now c.args.block.0)
