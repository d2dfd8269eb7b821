-- The commands of generated work, part by part.
use Rattle.std.specs.Prelude.{ℕ, zero, suc, ◌+◌, ◌-◌, List, [], ◌∷◌, ◌++◌, if◌then◌else◌}
use Rattle.std.specs.List.{flat_map, range_with_len}
use Rattle.tx_types.specs.declared.config.Config.{Config}
use Rattle.host_protocol.specs.declared.command.Command.{Command}
use Rattle.host_protocol.specs.declared.command.Command.TheVariants as command
use Rattle.drive_gen.specs.Work.{fill, reads, state_behind, transaction}
use Rattle.drive_gen.specs.declared.work.Work.{Work}

-- what fills the pages from this one on
abbrev pub fills_from : Config → ℕ → List Command
fills_from c page = flat_map (fill c) (range_with_len page (c.logical - page))

-- so many transactions that are drawn from state x, behind this many others
unfoldable pub drawn_from : Config → ℕ → ℕ → ℕ → List Command
drawn_from c x i zero = []
drawn_from c x i (suc n) = transaction c x (i + 1) ++ drawn_from c (state_behind c x) (i + 1) n

-- every page is read, and the numbers of the device are asked for
abbrev pub last_part : Config → List Command
last_part c = reads c.logical ++ command.Stats ∷ []

-- the commands that work still has to give
abbrev pub left_of : Work → List Command
left_of w =
    fills_from w.config w.filled
    ++ (drawn_from w.config w.generator.state w.drawn (w.count - w.drawn)
    ++ (if w.ended then [] else last_part w.config))

-- and in how many parts
abbrev pub parts_left : Work → ℕ
parts_left w = (w.config.logical - w.filled) + (w.count - w.drawn) + (if w.ended then 0 else 1)
