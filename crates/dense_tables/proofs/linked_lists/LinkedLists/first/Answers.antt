use Rattle.dense_tables.proofs.Common.{◌≡◌, ◌+◌, ◌<◌, length, get_or, ◌∙◌, arith, get_or_default, list_of, rest_from, paths}
use Rattle.std.specs.List.{slice_get}
use Rattle.dense_tables.proofs.ChainCalls.{contains_read, first_read, now_disjoint}
use Rattle.dense_tables.proofs.linked_lists.LinkedLists.first.Goals as goal

reads : (c : goal.After-place) → (c.place.result ≡ slice_get (list_of c.args.self.now c.args.key) 0)
    × (rest_from (list_of c.args.self.now c.args.key) (slice_get (list_of c.args.self.now c.args.key) 0)
    ≡ list_of c.args.self.now c.args.key)
reads c =
    let key : c.args.key < length (paths c.self.inside.next.items (length c.self.inside.before.items)) =
    rw (← c.self.view_is) at c.requires in
    let size : c.len.result ≡ length c.self.inside.before.items = omega arith in
    let size' : c.len-2.result ≡ length c.self.inside.before.items = omega arith in
    let at : c.index.result.now ≡ get_or c.self.inside.next.items (length c.self.inside.before.items + c.args.key) 0 =
    rw size at c.index.ensures ∙ get_or_default c.self.inside.next.items
    (length c.self.inside.before.items + c.args.key) c.index.result.now 0
    (omega (arith, c.self.invariant.count)) in
    let read = first_read c.self.inside.next.items c.self.inside.before.items c.args.self.now c.self.invariant
    c.self.view_is c.args.key c.index.result.now
    c.requires at in
    (rw size' at c.place.ensures ∙ read.0, read.1)

pub returns-clause-first : goal.returns-clause-first
returns-clause-first c = (reads c).0

pub returns-clause-listed : goal.returns-clause-listed
returns-clause-listed c = rw (reads c).0 (contains_read (list_of c.args.self.now c.args.key) 0)

pub returns-clause-order : goal.returns-clause-order
returns-clause-order c = rw (reads c).0 (reads c).1

pub returns-clause-lists : goal.returns-clause-lists
returns-clause-lists c = now_disjoint c.self.inside.next.items c.self.inside.before.items c.args.self.now
    c.self.invariant c.self.view_is
