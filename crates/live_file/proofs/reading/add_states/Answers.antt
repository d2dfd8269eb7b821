use Rattle.live_file.proofs.AsImage.{states_more}
use Rattle.live_file.proofs.reading.add_states.Goals as goal

pub loop-at-preserved : goal.loop-at-preserved
loop-at-preserved c =
    states_more c.args.slots.now c.args.size c.loop-at.at c.args.image.now.items c.loop-at.image.items
    c.push.new.self.items c.slot_in.result.now c.live_seen-how.result c.state.result c.loop-at.invariant
    c.in_ok-push.ensures.items c.state.ensures c.live_seen-how.ensures c.slot_in.ensures.slot
