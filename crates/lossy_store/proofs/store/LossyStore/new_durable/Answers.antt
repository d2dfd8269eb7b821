use Rattle.lossy_store.proofs.Common.{◌≡◌, List, [], sym, subst, rules, file_of, Write}
use Rattle.std.specs.Prelude.{false}
use Rattle.file_flash.specs.Opening.{IsDurable}
use Rattle.lossy_store.proofs.Leaving.{all_durable}
use Rattle.lossy_store.proofs.store.LossyStore.new_durable.Goals as goal

pub returns : goal.returns
returns c =
    let bytes = c.args.bytes.items in
    let none : c.new.result.items ≡ [] = search rules in
    subst (λ (ws : List Write). IsDurable bytes (file_of bytes ws false)) (sym none) (all_durable bytes)
