use Rattle.dense_tables.proofs.Common.{◌≡◌, ◌+◌, length, arith}
use Rattle.dense_tables.specs.LinkedLists.{with_first}
use Rattle.dense_tables.proofs.ChainCalls.{Stand, pushed}
use Rattle.dense_tables.proofs.linked_lists.LinkedLists.push.Goals as goal

stands : (c : goal.After-link) → Stand c.link.new.next.items c.link.new.before.items
    (with_first c.args.self.now c.args.key c.args.at)
stands c =
    let root : c.len.result + c.args.key ≡ length c.self.inside.before.items + c.args.key = omega arith in
    pushed c.self.inside.next.items c.self.inside.before.items _ _ c.args.self.now c.self.invariant c.self.view_is
    c.args.key c.args.at _ c.requires.key c.requires.place c.requires.free root c.link.ensures.next
    c.link.ensures.before

pub invariant_of-self : goal.invariant_of-self
invariant_of-self c = (stands c).linked

pub returns-clause-first : goal.returns-clause-first
returns-clause-first c = (stands c).view

pub returns-clause-lists : goal.returns-clause-lists
returns-clause-lists c = (stands c).disjoint
