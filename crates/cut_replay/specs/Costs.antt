-- How many programs and erases a command takes at most.
use Rattle.std.specs.Prelude.{◌≡◌, ℕ, ◌+◌, ◌-◌, ◌*◌, ◌/◌, ◌==◌, ◌&&◌, ◌≤◌, min, List, IfSome, count_by, if◌then◌else◌}
use Rattle.std.specs.List.{list_any, range_with_len}
use Rattle.tx_types.specs.declared.config.Config.{Config}
use Rattle.tx_types.specs.Config.{shape_of, blocks_of}
use Rattle.flash_model.specs.Flash.{counted, counted_by}
use Rattle.flash_model.specs.Operations.{Moment}
use Rattle.record_list.specs.Current.{must_go}
use Rattle.record_list.specs.Records.{mention}
use Rattle.record_list.specs.declared.found.Found.{Found}
use Rattle.judged_records.specs.Images.{records_in}
use Rattle.array_machine.specs.ArrayState.{ArrayState, Entry, entry_of}
use Rattle.open_table.specs.OpenTransactionsState.{write_at}
use Rattle.tx_engine.specs.Costs.{most_collected}
use Rattle.host_protocol.specs.declared.command.Command.{Command}
use Rattle.host_protocol.specs.declared.command.Command.TheVariants as command
use Rattle.host_protocol.specs.declared.reply.Reply.{Reply}
use Rattle.host_protocol.specs.declared.reply.Reply.TheVariants as reply
use Rattle.array_runs.specs.Run.{is_break, pages_left}

-- how many blocks hold, of these records, one that must go before this version of a page is written
abbrev pub blocks_going : Config → List Found → ℕ → ℕ → ℕ
blocks_going its list page below =
    count_by
    (λ block. list_any
    (λ f. (f.slot.0 / its.pages_per_block == block) && must_go its.protocol list its.logical page below f.rec) list)
    (range_with_len 0 (blocks_of (shape_of its)))

-- The counts rose at most by a program for each of these pages, and by these collections, each of which copies fewer
-- records than a block has slots, and erases two blocks at most.
pub record CostsAtMost (its : Config) (pages collections : ℕ) (old new : Moment) : Type 0 where
  pub programs : new.programs ≤ old.programs + pages + collections * (its.pages_per_block - 1)
  pub erases : new.erases ≤ old.erases + collections * 2

-- pages of transactions were written, each with the collections that it takes
abbrev pub CostsPages : Config → ℕ → Moment → Moment → Type 0
CostsPages its pages old new = CostsAtMost its pages (pages * most_collected its) old new

-- One collection, which erases the block last: where it broke off that was not done. Where there was nothing to collect
-- the spare may have been made blank.
pub record CostsCollection (its : Config) (r : Reply) (old new : Moment) : Type 0 where
  pub programs : new.programs ≤ old.programs + (its.pages_per_block - 1)
  pub erases : new.erases ≤ old.erases + (if is_break r then 1 else 2)
  pub nothing : r ≡ reply.Nothing → (new.programs ≤ old.programs) × (new.erases ≤ old.erases + 1)

-- Where no more than one transaction went on it took a step. The programs of several were started as one, and nothing
-- else was.
pub record CostsTogether (its : Config) (moved : ℕ) (old new : Moment) : Type 0 where
  pub alone : moved ≤ 1 → CostsPages its moved old new
  pub programs : 2 ≤ moved → new.programs ≡ counted_by moved old.programs
  pub erases : 2 ≤ moved → new.erases ≡ old.erases
  pub started : 2 ≤ moved → new.started ≡ counted old.started

-- going on with several transactions at once, where it was answered
abbrev pub CostsMoves : Config → Reply → Moment → Moment → Type 0
CostsMoves its (reply.Moved moved finished) old new = CostsTogether its moved old new
CostsMoves its _ old new = Unit {0}

-- What a command takes where these transactions are open. One that asks for no program and no erase takes none.
abbrev pub CostsCommand : Config → Command → ArrayState → Reply → Moment → Moment → Type 0
CostsCommand its (command.Step tag) s r old new = CostsPages its (min 1 (pages_left tag s)) old new
CostsCommand its (command.Finish tag) s r old new = CostsPages its (pages_left tag s) old new
CostsCommand its command.StepAll s r old new = CostsMoves its r old new
CostsCommand its command.Collect s r old new = CostsCollection its r old new
CostsCommand its _ s r old new = Unit {0}

-- The version of the next page of a transaction, among these records: one above each mention of the page where it is
-- the first, and else the greatest mention, that of the record before it.
abbrev pub next_version : List Found → Entry → ℕ
next_version list e = mention list (write_at e e.done).page + (if e.done == 0 then 1 else 0)

-- A step of an open transaction takes, beside its page and a block for room, the blocks alone that hold a record of the
-- image which must go before its page is written.
abbrev pub CostsStep : Config → Command → ArrayState → Moment → Moment → Type 0
CostsStep its (command.Step tag) s old new =
    IfSome (entry_of tag s.entries) (λ e. CostsAtMost its 1 (blocks_going its (records_in its.protocol old.image)
    (write_at e e.done).page (next_version (records_in its.protocol old.image) e) + 1) old new)
CostsStep its _ s old new = Unit {0}
