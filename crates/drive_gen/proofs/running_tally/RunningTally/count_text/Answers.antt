use Rattle.drive_gen.proofs.Common.{◌≡◌, ℕ, List, []}
use Rattle.std.proofs.Common.{subst}
use Rattle.std.specs.Prelude.{Result, Ok, Err, OnOk}
use Rattle.tx_types.specs.declared.memory.Memory.{Memory}
use Rattle.host_protocol.specs.Replies.{text_of}
use Rattle.drive_gen.specs.Counting.{AreCounted, EndsLine, IsTally}
use Rattle.drive_gen.specs.declared.tally.Tally.{Tally}
use Rattle.drive_gen.proofs.LineJoins.{all_counted, text_open}
use Rattle.drive_gen.proofs.running_tally.RunningTally.count_text.Goals as goal

closed : (r : Result (Unit {0}) Memory) (bytes : List ℕ) (old new : Tally) (stats last rest none : List ℕ) →
    AreCounted bytes old stats rest → EndsLine rest → OnOk r (IsTally bytes new last) → OnOk r (none ≡ []) →
    OnOk r (AreCounted bytes new last none)
closed (Err e) bytes old new stats last rest none h ends counted shut = tt
closed (Ok done) bytes old new stats last rest none h ends counted shut =
    all_counted bytes old new stats last rest none h ends counted shut

pub returns-then-ends_line-clause-counted : goal.returns-then-ends_line-clause-counted
returns-then-ends_line-clause-counted c = λ bytes h.
    let r = c.args.self.now in
    let text = text_of c.args.reply.now in
    let rest = c.reply_text.new.out.items in
    let opened = text_open bytes text r.tally r.stats.items r.open_text.items rest h c.in_ok-reply_text.ensures.ok in
    closed c.count_open.result _ r.tally c.count_open.new.self.tally r.stats.items
    c.count_open.new.self.stats.items rest c.count_open.new.self.open_text.items opened
    (subst EndsLine c.deref.ensures.value (c.ends_line.ensures c.if-ends_line.true))
    (c.count_open.ensures.counted _ opened) c.count_open.ensures.none

pub returns-else-ends_line-clause-counted : goal.returns-else-ends_line-clause-counted
returns-else-ends_line-clause-counted c = λ bytes h.
    let r = c.args.self.now in
    text_open bytes (text_of c.args.reply.now) r.tally r.stats.items r.open_text.items c.reply_text.new.out.items h
    c.in_ok-reply_text.ensures.ok
