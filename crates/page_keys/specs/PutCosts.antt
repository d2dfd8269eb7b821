-- How many programs and erases a put takes at most.
use Rattle.std.specs.Prelude.{ℕ, ◌+◌, ◌-◌, ◌*◌, ◌≤◌, List, length}
use Rattle.tx_types.specs.declared.config.Config.{Config}
use Rattle.flash_model.specs.Operations.{Moment}
use Rattle.tx_engine.specs.Costs.{most_collected}
use Rattle.page_keys.specs.KeyMaps.{pages_of}
use Rattle.page_keys.specs.declared.changes.Change.{Change}

-- The counts rose at most by a program for each of these pages, and by its collections, each of which copies fewer
-- records than a block has slots, and erases two blocks at most.
pub record CostsPages (its : Config) (pages : ℕ) (old new : Moment) : Type 0 where
  pub programs : new.programs ≤ old.programs + pages * (most_collected its * (its.pages_per_block - 1) + 1)
  pub erases : new.erases ≤ old.erases + pages * (most_collected its * 2)

-- a put writes the pages that its keys fall in
abbrev pub CostsPut : Config → List Change → Moment → Moment → Type 0
CostsPut its cs old new = CostsPages its (length (pages_of its.logical cs)) old new
