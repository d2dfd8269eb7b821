use Rattle.dense_tables.proofs.Common.{arith}
use Rattle.dense_tables.specs.LinkedLists.{with_behind}
use Rattle.dense_tables.proofs.ChainCalls.{Stand, put_behind, listed_below}
use Rattle.dense_tables.proofs.linked_lists.LinkedLists.insert_after.Goals as goal

pub link-requires-clause-behind : goal.link-requires-clause-behind
link-requires-clause-behind c =
    let low = listed_below c.self.inside.next.items c.self.inside.before.items c.args.self.now c.self.invariant
    c.self.view_is c.args.prev (
      c.args.key,
      c.requires.prev,
    ) in
    omega (arith, c.self.invariant.count)

stands : (c : goal.After-link) → Stand c.link.new.next.items c.link.new.before.items
    (with_behind c.args.self.now c.args.key c.args.prev c.args.at)
stands c =
    put_behind c.self.inside.next.items c.self.inside.before.items _ _ c.args.self.now c.self.invariant c.self.view_is
    c.args.key c.args.prev c.args.at c.requires.prev c.requires.place c.requires.free c.link.ensures.next
    c.link.ensures.before

pub invariant_of-self : goal.invariant_of-self
invariant_of-self c = (stands c).linked

pub returns-clause-behind : goal.returns-clause-behind
returns-clause-behind c = (stands c).view

pub returns-clause-lists : goal.returns-clause-lists
returns-clause-lists c = (stands c).disjoint
