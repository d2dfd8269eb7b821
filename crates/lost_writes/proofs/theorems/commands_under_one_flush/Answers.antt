use Rattle.lost_writes.proofs.Devices.{step_loss, finish_loss, step_all_loss, abort_loss, collect_loss, ready_loss}
use Rattle.lost_writes.proofs.UnderOneFlush.{left_is_cut}
use Rattle.lost_writes.proofs.theorems.commands_under_one_flush.Goals as goal

pub returns-clause-step : goal.returns-clause-step
returns-clause-step g c = step_loss g.F.Flash.state g.R.CommitRule.protocol g.met.R.CommitRule.block_loss
    g.met.R.CommitRule.partial_write g.met.R.CommitRule.completing_write c.crash_states.ensures

pub returns-clause-finish : goal.returns-clause-finish
returns-clause-finish g c = finish_loss g.F.Flash.state g.R.CommitRule.protocol g.met.R.CommitRule.block_loss
    g.met.R.CommitRule.partial_write g.met.R.CommitRule.completing_write c.crash_states.ensures

pub returns-clause-together : goal.returns-clause-together
returns-clause-together g c = step_all_loss g.F.Flash.state g.R.CommitRule.protocol g.met.R.CommitRule.block_loss
    g.met.R.CommitRule.partial_write g.met.R.CommitRule.completing_write c.crash_states.ensures

pub returns-clause-abort : goal.returns-clause-abort
returns-clause-abort g c = abort_loss g.F.Flash.state g.R.CommitRule.protocol g.met.R.CommitRule.block_loss
    g.met.R.CommitRule.partial_write g.met.R.CommitRule.completing_write c.crash_states.ensures

pub returns-clause-collect : goal.returns-clause-collect
returns-clause-collect g c = collect_loss g.F.Flash.state g.R.CommitRule.protocol g.met.R.CommitRule.block_loss
    g.met.R.CommitRule.partial_write g.met.R.CommitRule.completing_write c.crash_states.ensures

pub returns-clause-ready : goal.returns-clause-ready
returns-clause-ready g c = ready_loss g.F.Flash.state g.R.CommitRule.protocol g.met.R.CommitRule.block_loss
    g.met.R.CommitRule.partial_write g.met.R.CommitRule.completing_write c.crash_states.ensures

pub returns-clause-cut : goal.returns-clause-cut
returns-clause-cut g c = left_is_cut g.R.CommitRule.protocol
