-- The list of commands that a number gives.
use Rattle.std.specs.Prelude.{ℕ, zero, suc, ◌+◌, ◌%◌, ◌==◌, nat_le, min, List, [], ◌∷◌, ◌++◌, map, Some, if◌then◌else◌}
use Rattle.std.specs.List.{flat_map, range_with_len}
use Rattle.flash_model.specs.declared.outcome.Outcome.{Outcome}
use Rattle.flash_model.specs.declared.outcome.Outcome.TheVariants as outcome
use Rattle.tx_types.specs.Batch.{PageWrite, Writes, padded}
use Rattle.tx_types.specs.declared.config.Config.{Config}
use Rattle.host_protocol.specs.declared.command.Command.{Command}
use Rattle.host_protocol.specs.declared.command.Command.TheVariants as command
use Rattle.drive_gen.specs.Generator.{generator_after, draw_at}
use Rattle.drive_gen.specs.Kinds.{kind_of}
use Rattle.drive_gen.specs.declared.kind.Kind.{Kind}
use Rattle.drive_gen.specs.declared.kind.Kind.TheVariants as kind

-- a page with this first byte, and zeros behind it
abbrev pub page_write : Config → ℕ → ℕ → PageWrite
page_write c page byte = record { page = page; value = Some (padded c.page_bytes (byte ∷ [])) }

-- a write that is finished at once
abbrev pub written_at_once : ℕ → Writes → List Command
written_at_once tag batch = command.Write tag batch ∷ command.Finish tag ∷ []

-- a write that is aborted, after its first page where it has others
abbrev pub aborted : ℕ → Writes → ℕ → List Command
aborted tag batch pages =
    command.Write tag batch ∷ (if nat_le pages 1 then [] else command.Step tag ∷ [])
    ++ command.Abort tag ∷ []

-- what fills a page for the first time
abbrev pub fill_batch : Config → ℕ → Writes
fill_batch c page =
    record { page_bytes = c.page_bytes; entries = page_write c page ((page + 1) % 256) ∷ [] }

abbrev pub fill : Config → ℕ → List Command
fill c page = written_at_once 0 (fill_batch c page)

-- the most pages of a transaction: three, as many as may be pending, or all
abbrev pub most_pages : Config → ℕ
most_pages c = min (min 3 c.pending) c.logical

-- how many pages a transaction has that is drawn from state x
abbrev pub page_count : Config → ℕ → ℕ
page_count c x = 1 + draw_at x 1 (most_pages c)

-- its page number k, counted from 0: the pages follow the first one, and begin again behind the last
abbrev pub drawn_write : Config → ℕ → ℕ → PageWrite
drawn_write c x k = page_write c ((draw_at x 2 c.logical + k) % c.logical) (draw_at x (k + 3) 256)

abbrev pub drawn_batch : Config → ℕ → Writes
drawn_batch c x =
    record {
      page_bytes =
          c.page_bytes;
      entries = map (drawn_write c x) (range_with_len 0 (page_count c x));
    }

-- its kind, which is drawn behind its bytes
abbrev pub drawn_kind : Config → ℕ → Kind
drawn_kind c x = kind_of (draw_at x (page_count c x + 3) 50)

abbrev pub outcome_of : ℕ → Outcome
outcome_of n = if n == 0 then outcome.None else if n == 1 then outcome.All else outcome.Bad

-- the cut that is armed before it
abbrev pub drawn_cut : Config → ℕ → Command
drawn_cut c x =
    command.Cut (1 + draw_at x (page_count c x + 4) 4)
    (outcome_of (draw_at x (page_count c x + 5) 3))

-- the commands of a transaction of a kind, which is drawn from state x
abbrev pub of_kind : Kind → Config → ℕ → ℕ → List Command
of_kind kind.Cut c x tag = drawn_cut c x ∷ written_at_once tag (drawn_batch c x)
of_kind kind.Abort c x tag = aborted tag (drawn_batch c x) (page_count c x)
of_kind kind.Finish c x tag = written_at_once tag (drawn_batch c x)

unfoldable pub transaction : Config → ℕ → ℕ → List Command
transaction c x tag = of_kind (drawn_kind c x) c x tag

-- how many numbers are drawn beside a first byte for each page
abbrev pub other_draws : Kind → ℕ
other_draws kind.Cut = 5
other_draws _ = 3

-- the state behind it
unfoldable pub state_behind : Config → ℕ → ℕ
state_behind c x = generator_after x (page_count c x + other_draws (drawn_kind c x))

-- the state behind this many transactions
unfoldable pub state_behind_all : Config → ℕ → ℕ → ℕ
state_behind_all c start zero = start
state_behind_all c start (suc i) = state_behind c (state_behind_all c start i)

-- the commands of the transaction behind i others, whose tag is its number from 1
abbrev pub numbered : Config → ℕ → ℕ → List Command
numbered c start i = transaction c (state_behind_all c start i) (i + 1)

abbrev pub fills : Config → List Command
fills c = flat_map (fill c) (range_with_len 0 c.logical)

abbrev pub transactions : ℕ → ℕ → Config → List Command
transactions start count c = flat_map (numbered c start) (range_with_len 0 count)

abbrev pub reads : ℕ → List Command
reads pages = map (λ page. command.Read page) (range_with_len 0 pages)

-- every page is written, this many transactions are drawn, every page is read, and the numbers of the device are asked
-- for
unfoldable pub generated : ℕ → ℕ → Config → List Command
generated start count c =
    fills c ++ transactions start count c ++ reads c.logical ++ command.Stats ∷ []
