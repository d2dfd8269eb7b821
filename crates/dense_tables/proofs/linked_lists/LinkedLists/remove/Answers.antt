use Rattle.dense_tables.proofs.Common.{arith, sym, IsListed, without}
use Rattle.std.proofs.Common.{subst}
use Rattle.dense_tables.proofs.ChainCalls.{Stand, taken_out, listed_below, before_lies, now_disjoint}
use Rattle.dense_tables.proofs.Membership.{not_listed_without}
use Rattle.dense_tables.proofs.linked_lists.LinkedLists.remove.Goals as goal

pub unlink-requires-clause-place : goal.unlink-requires-clause-place
unlink-requires-clause-place c =
    let low = listed_below c.self.inside.next.items c.self.inside.before.items c.args.self.now c.self.invariant
    c.self.view_is c.args.at (
      c.args.key,
      c.requires,
    ) in
    omega arith

pub unlink-requires-clause-root : goal.unlink-requires-clause-root
unlink-requires-clause-root c =
    let low = before_lies c.self.inside.next.items c.self.inside.before.items c.args.self.now c.self.invariant
    c.self.view_is c.args.key c.args.at c.requires in
    omega arith

stands : (c : goal.After-unlink) → Stand c.unlink.new.next.items c.unlink.new.before.items
    (without c.args.self.now c.args.key c.args.at)
stands c =
    taken_out c.self.inside.next.items c.self.inside.before.items _ _ c.args.self.now c.self.invariant c.self.view_is
    c.args.key c.args.at c.requires c.unlink.ensures.next c.unlink.ensures.before

pub invariant_of-self : goal.invariant_of-self
invariant_of-self c = (stands c).linked

pub returns-clause-without : goal.returns-clause-without
returns-clause-without c = (stands c).view

pub returns-clause-lists : goal.returns-clause-lists
returns-clause-lists c = (stands c).disjoint

pub returns-clause-free : goal.returns-clause-free
returns-clause-free c =
    let p = c.self.inside in
    let was = now_disjoint p.next.items p.before.items c.args.self.now c.self.invariant c.self.view_is in
    subst (λ lists. IsListed lists c.args.at → ⊥) (sym (stands c).view)
    (not_listed_without c.args.self.now c.args.key c.args.at was c.requires)
