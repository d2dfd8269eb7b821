use Rattle.drive_gen.proofs.LineJoins.{open_counted}
use Rattle.drive_gen.proofs.running_tally.RunningTally.count_open.Goals as goal

pub returns-clause-counted : goal.returns-clause-counted
returns-clause-counted c = λ bytes h.
    let r = c.args.self.now in
    let added = c.in_ok-add_lines.ensures in
    open_counted bytes r.tally c.add_lines.new.tally r.stats.items c.add_lines.new.stats.items r.open_text.items
    c.deref.result.now h c.deref.ensures.value added.counts added.some added.none
