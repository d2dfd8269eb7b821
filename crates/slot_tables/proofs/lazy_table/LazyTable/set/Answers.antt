-- Where the number is kept its value is written, else what is kept reaches up to it and the value comes behind.
use Rattle.slot_tables.proofs.Common.{◌≡◌, ◌+◌, ◌-◌, ◌<◌, ◌++◌, length, set, replicate, ap, ◌∙◌, arith, length-replicate}
use Rattle.std.proofs.lemmas.List.{length-append}
use Rattle.slot_tables.proofs.Reaching.{set_inside, set_behind}
use Rattle.slot_tables.proofs.lazy_table.LazyTable.set.Goals as goal

pub returns-then-place-len : goal.returns-then-place-len
returns-then-place-len g c =
    let t = c.self.inside in
    set_inside t.first.items c.args.number t.count t.rest c.args.to (omega arith)
    ∙ ap (λ l. set l c.args.number c.args.to) c.self.view_is

pub returns : goal.returns
returns g c =
    let t = c.self.inside in
    let xs = t.first.items in
    let more = t.count - length xs in
    let long : length (xs ++ replicate more t.rest) ≡ length xs + more =
    length-append xs (replicate more t.rest) ∙ ap (λ k. length xs + k) (length-replicate more t.rest) in
    let within : c.args.number < length (xs ++ replicate more t.rest) = rw c.self.view_is c.requires in
    let low : c.args.number < t.count = omega (arith, c.self.invariant.within) in
    rw c.push_reserved.ensures.items (set_behind xs c.reach.new.first.items c.args.number t.count t.rest c.args.to
    c.reach.ensures.items (omega arith) low
    ∙ ap (λ l. set l c.args.number c.args.to) c.self.view_is)
