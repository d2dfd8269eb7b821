use Rattle.version_index.proofs.Common.{ap, ◌∙◌}
use Rattle.version_index.specs.Written.{written_of}
use Rattle.version_index.proofs.OfWritten.CountedPages.{pages_filled}
use Rattle.version_index.proofs.index.Index.count_written.Goals as goal

pub returns : goal.returns
returns g c =
    c.self.invariant.written
    ∙ pages_filled _ _ _ _ c.self.invariant.indexed (c.shape.ensures.kept.current ∙ c.self.invariant.indexed.pages)
    ∙ ap written_of c.self.view_is
