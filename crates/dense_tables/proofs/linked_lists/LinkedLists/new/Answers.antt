use Rattle.dense_tables.proofs.Common.{◌≡◌, ◌+◌, replicate, rules, arith, length-replicate}
use Rattle.dense_tables.specs.LinkedLists.{empty_lists}
use Rattle.dense_tables.proofs.Chained.{empty_linked}
use Rattle.dense_tables.proofs.ChainCalls.{Stand, stand}
use Rattle.dense_tables.proofs.linked_lists.LinkedLists.new.Goals as goal

stands : (c : goal.In_ok-vec-2) → Stand c.in_ok-vec.field-0.items c.in_ok-vec-2.field-0.items
    (empty_lists c.args.keys c.args.places)
stands c =
    let next : c.in_ok-vec.field-0.items ≡ replicate (c.args.places + c.args.keys) c.args.places = search rules in
    let before : c.in_ok-vec-2.field-0.items ≡ replicate c.args.places 0 = search rules in
    rw (next, before) (stand _ _ (empty_lists c.args.keys c.args.places)
    (empty_linked c.args.keys c.args.places (omega arith))
    (length-replicate c.args.places 0))

pub invariant_of-result : goal.invariant_of-result
invariant_of-result c = (stands c).linked

pub returns : goal.returns
returns c = (stands c).view
