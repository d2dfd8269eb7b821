use Rattle.dense_tables.proofs.Common.{◌≡◌, ℕ, ◌+◌, ◌∷◌, length, get_or, Some, ◌∙◌, arith, Contains, get_or_default, list_of, index_in, rest_from}
use Rattle.dense_tables.specs.LinkedLists.{next_in}
use Rattle.dense_tables.proofs.ChainCalls.{contains_read, next_read, listed_below, now_disjoint}
use Rattle.dense_tables.proofs.linked_lists.LinkedLists.next.Goals as goal

pub index-requires : goal.index-requires
index-requires c =
    let low = listed_below c.self.inside.next.items c.self.inside.before.items c.args.self.now c.self.invariant
    c.self.view_is c.args.at c.requires in
    omega (arith, c.self.invariant.count)

reads : (c : goal.After-place) (key : ℕ) → Contains (list_of c.args.self.now key) c.args.at
    → (c.place.result ≡ next_in (list_of c.args.self.now key) c.args.at)
    × (rest_from (list_of c.args.self.now key) (Some c.args.at) ≡ c.args.at ∷ rest_from (list_of c.args.self.now key)
    (next_in (list_of c.args.self.now key) c.args.at))
reads c key has =
    let low = listed_below c.self.inside.next.items c.self.inside.before.items c.args.self.now c.self.invariant
    c.self.view_is c.args.at (key, has) in
    let size : c.len.result ≡ length c.self.inside.before.items = omega arith in
    let at : c.index.result.now ≡ get_or c.self.inside.next.items c.args.at 0 =
    c.index.ensures ∙ get_or_default c.self.inside.next.items c.args.at c.index.result.now 0
    (omega (arith, c.self.invariant.count)) in
    let read = next_read c.self.inside.next.items c.self.inside.before.items c.args.self.now c.self.invariant
    c.self.view_is key c.args.at c.index.result.now
    has at in
    (rw size at c.place.ensures ∙ read.0, read.1)

pub returns-clause-next : goal.returns-clause-next
returns-clause-next c key has = (reads c key has).0

pub returns-clause-listed : goal.returns-clause-listed
returns-clause-listed c key has = rw (reads c key has).0
    (contains_read (list_of c.args.self.now key) (index_in (list_of c.args.self.now key) c.args.at + 1))

pub returns-clause-order : goal.returns-clause-order
returns-clause-order c key has = rw (reads c key has).0 (reads c key has).1

pub returns-clause-lists : goal.returns-clause-lists
returns-clause-lists c = now_disjoint c.self.inside.next.items c.self.inside.before.items c.args.self.now
    c.self.invariant c.self.view_is
