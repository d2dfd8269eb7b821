use Rattle.std.proofs.Common.{◌<◌, ◌∙◌, List, All, subst}
use Rattle.std.specs.Prelude.{ℕ}
use Rattle.file_flash.specs.Opening.{IsDurable}
use Rattle.lossy_store.specs.Writes.{file_of}
use Rattle.live_tests.proofs.opening.hold.Goals as goal

pub hold-requires-clause-held : goal.hold-requires-clause-held
hold-requires-clause-held c =
    let file = c.new_durable-file.result in
    subst (λ (bytes : List ℕ). IsDurable bytes (file_of file.durable.items file.writes.items file.copies))
    c.requires.spells c.new_durable-file.ensures

pub hold-requires-clause-bytes : goal.hold-requires-clause-bytes
hold-requires-clause-bytes c =
    subst (All (λ b. b < 256)) (c.deref.ensures.value ∙ c.requires.spells) c.are_bytes.ensures
