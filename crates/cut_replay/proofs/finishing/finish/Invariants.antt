use Rattle.host_protocol.specs.declared.command.Command.TheVariants.{Finish}
use Rattle.cut_replay.proofs.Common.{Reply, DeviceState, HoldsAlways, ServesHere}
use Rattle.array_runs.specs.Run.{pages_left}
use Rattle.cut_replay.proofs.finishing.finish.Given as goal

-- what is done from here on is done from the beginning on
abbrev pub invariant-steps : goal.invariant-steps
invariant-steps g l =
    HoldsAlways g.F.Flash.state g.R.CommitRule.protocol l.device
    × ((new : DeviceState _) (r : Reply) → ServesHere g.F.Flash.state (Finish l.tag) l.device new r →
    ServesHere g.F.Flash.state (Finish l.tag) l.initial.device new r)

abbrev pub decreases-steps : goal.decreases-steps
decreases-steps g l = pages_left l.tag l.device.machine
