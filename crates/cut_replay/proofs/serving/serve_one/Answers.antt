use Rattle.flash_model.specs.Arms.{SetsCut, SetsFault, SetsBadRead}
use Rattle.cut_replay.proofs.Arming.{armed, arming_cut, arming_fault, arming_bad_read, fits_kept}
use Rattle.cut_replay.proofs.serving.serve_one.Goals as goal

pub arm_cut-requires-clause-kept : goal.arm_cut-requires-clause-kept
arm_cut-requires-clause-kept g c = fits_kept g.F.Flash.state c.args.config c.args.cache.now.entries c.args.session.now
    c.requires.fits

pub arm_fault-requires-clause-kept : goal.arm_fault-requires-clause-kept
arm_fault-requires-clause-kept g c = fits_kept g.F.Flash.state c.args.config c.args.cache.now.entries c.args.session.now
    c.requires.fits

pub arm_bad_read-requires-clause-kept : goal.arm_bad_read-requires-clause-kept
arm_bad_read-requires-clause-kept g c = fits_kept g.F.Flash.state c.args.config c.args.cache.now.entries
    c.args.session.now c.requires.fits

pub returns-in-Cut : goal.returns-in-Cut
returns-in-Cut g c =
    armed g.F.Flash.state c.args.config g.R.CommitRule.protocol
    (SetsCut (record { count = c.in-Cut.count; outcome = c.in-Cut.outcome })) c.args.cache.now
    c.args.command.now _ c.args.session.now c.arm_cut.new.session
    c.in-Cut.is (arming_cut c.in-Cut.count c.in-Cut.outcome) c.requires.rule c.requires.fits c.arm_cut.ensures

pub returns-in-Fault : goal.returns-in-Fault
returns-in-Fault g c =
    armed g.F.Flash.state c.args.config g.R.CommitRule.protocol
    (SetsFault (record { count = c.in-Fault.count; outcome = c.in-Fault.outcome })) c.args.cache.now
    c.args.command.now _ c.args.session.now c.arm_fault.new.session
    c.in-Fault.is (arming_fault c.in-Fault.count c.in-Fault.outcome) c.requires.rule c.requires.fits c.arm_fault.ensures

pub returns-in-BadRead : goal.returns-in-BadRead
returns-in-BadRead g c =
    armed g.F.Flash.state c.args.config g.R.CommitRule.protocol (SetsBadRead c.in-BadRead.count) c.args.cache.now
    c.args.command.now _ c.args.session.now
    c.arm_bad_read.new.session
    c.in-BadRead.is (arming_bad_read c.in-BadRead.count) c.requires.rule c.requires.fits c.arm_bad_read.ensures
