mod OpenedImages
use Rattle.scan_recovery.proofs.Common.{◌∙◌, list_of}
use Rattle.std.proofs.lemmas.Result.{IfOk-weaker}
use Rattle.scan_recovery.proofs.recovery.recover.Answers.OpenedImages.{scan_complete, scan_scanned, scan_pages, copies_agree, opened_image, recovered_sound}
use Rattle.scan_recovery.proofs.recovery.recover.Answers.OpenedImages.{recovered_unsound}
use Rattle.scan_recovery.proofs.recovery.recover.Answers.OpenedImages.{recovered_reads}
use Rattle.scan_recovery.proofs.recovery.recover.Goals as goal

pub open_tables-requires-clause-complete : goal.open_tables-requires-clause-complete
open_tables-requires-clause-complete g c =
    scan_complete c.args.config.protocol c.args.config.logical (g.F.Flash.state c.args.flash.now).image
    c.in_ok-seen.seen.items
    (list_of c.in_ok-seen.charted.list c.in_ok-seen.charted.chart)
    c.in_ok-seen.ensures.scan

pub open_tables-requires-clause-scanned : goal.open_tables-requires-clause-scanned
open_tables-requires-clause-scanned g c =
    scan_scanned c.args.config.protocol c.args.config.logical (g.F.Flash.state c.args.flash.now).image
    c.in_ok-seen.seen.items
    (list_of c.in_ok-seen.charted.list c.in_ok-seen.charted.chart)
    c.in_ok-seen.ensures.scan

pub open_tables-requires-clause-pages : goal.open_tables-requires-clause-pages
open_tables-requires-clause-pages g c =
    scan_pages c.args.config.protocol c.args.config.logical (g.F.Flash.state c.args.flash.now).image
    c.in_ok-seen.seen.items
    (list_of c.in_ok-seen.charted.list c.in_ok-seen.charted.chart)
    c.in_ok-seen.ensures.scan

pub open_tables-requires-clause-copies : goal.open_tables-requires-clause-copies
open_tables-requires-clause-copies g c =
    copies_agree c.args.config.protocol c.args.config.logical (g.F.Flash.state c.args.flash.now).image
    c.in_ok-seen.seen.items
    (list_of c.in_ok-seen.charted.list c.in_ok-seen.charted.chart)
    c.in_ok-seen.ensures.scan
    c.in_ok-seen.ensures.copies

pub returns-clause-sound : goal.returns-clause-sound
returns-clause-sound g c =
    let a = g.F.Flash.state c.args.flash.now in
    let d = g.F.Flash.state c.sound_scan.new.flash in
    recovered_sound c.args.config.protocol g.R.CommitRule.protocol c.requires.rule c.args.config.logical a d
    c.shape.result
    (c.shape.ensures.shape ∙ c.in_ok-seen.ensures.reads.carries.shape) c.in_ok-seen.seen.items
    (list_of c.in_ok-seen.charted.list c.in_ok-seen.charted.chart)
    c.in_ok-seen.ensures.scan
    c.in_ok-seen.ensures.copies c.open_tables.result c.open_tables.ensures.sound

pub returns-clause-tables : goal.returns-clause-tables
returns-clause-tables g c =
    let a = g.F.Flash.state c.args.flash.now in
    IfOk-weaker c.open_tables.result _ _
    (λ opened. opened_image c.args.config a.image c.in_ok-seen.seen.items
    (list_of c.in_ok-seen.charted.list c.in_ok-seen.charted.chart)
    c.in_ok-seen.ensures.scan _ _)
    c.open_tables.ensures.tables

pub returns-clause-unsound : goal.returns-clause-unsound
returns-clause-unsound g c =
    let a = g.F.Flash.state c.args.flash.now in
    let d = g.F.Flash.state c.sound_scan.new.flash in
    recovered_unsound c.args.config.protocol g.R.CommitRule.protocol c.requires.rule c.args.config.logical a d
    c.shape.result
    (c.shape.ensures.shape ∙ c.in_ok-seen.ensures.reads.carries.shape) c.in_ok-seen.seen.items
    (list_of c.in_ok-seen.charted.list c.in_ok-seen.charted.chart)
    c.in_ok-seen.ensures.scan
    c.in_ok-seen.ensures.copies c.open_tables.result c.open_tables.ensures.unsound

pub returns-clause-reads : goal.returns-clause-reads
returns-clause-reads g c =
    let a = g.F.Flash.state c.args.flash.now in
    let d = g.F.Flash.state c.sound_scan.new.flash in
    recovered_reads c.args.config.protocol g.R.CommitRule.protocol c.requires.rule c.args.config.logical a d
    c.shape.result
    (c.shape.ensures.shape ∙ c.in_ok-seen.ensures.reads.carries.shape) c.in_ok-seen.seen.items
    (list_of c.in_ok-seen.charted.list c.in_ok-seen.charted.chart)
    c.in_ok-seen.ensures.scan
    c.in_ok-seen.ensures.copies c.open_tables.result c.in_ok-seen.ensures.reads
    c.open_tables.ensures.unsound c.open_tables.ensures.no_fault
