use Rattle.mem_folder.proofs.Common.{◌≤◌, length, rules, state_of, IsLeft}
use Rattle.durable_folder.specs.FolderState.{IsDurable}
use Rattle.mem_folder.proofs.Durable.{durable_left, loaded_left}
use Rattle.mem_folder.proofs.surviving.load_after_loss.Goals as goal

pub returns : goal.returns
returns c nothing =
    let name = c.args.name.now in
    let bytes = c.args.bytes.now in
    let saved = c.save_durably.new.folder in
    let left = c.lose_power.new.self in
    let read = c.load.new.folder in
    let is : IsLeft (state_of saved.changes.items) (state_of left.changes.items) = c.in_ok-lose_power.ensures.left in
    let durable : IsDurable (state_of left.changes.items) name bytes =
    durable_left name bytes (state_of saved.changes.items) (state_of left.changes.items)
    (c.in_ok-save_durably.ensures nothing) is
    in
    let fits : length bytes ≤ c.saturating_add-most.result = search rules in
    loaded_left name bytes (state_of saved.changes.items) left.changes.items read.changes.items left.befores.items
    read.befores.items left.notes.items
    read.notes.items left.noted.items read.noted.items left.glances.items read.glances.items
    c.saturating_add-most.result c.in_ok-loaded.loaded fits is durable c.in_ok-loaded.ensures.loads
