mod ProgramCalls
use Rattle.tx_engine.proofs.Common.{subst, sym, ap, ◌∙◌, Config, spelling, IndexState, programmed, BlocksState, IsBlocksState, Matches, WritesOwn}
use Rattle.flash_model.specs.Calls.{Programs}
use Rattle.collector.specs.StoreParts.{store_parts}
use Rattle.tx_engine.proofs.OfWrite.Programs.{free_program}
use Rattle.tx_engine.proofs.programming.write_record.Answers.ProgramCalls.{write_torn, write_done}
use Rattle.tx_engine.proofs.programming.write_record.Goals as goal

pub program-requires-clause-blank : goal.program-requires-clause-blank
program-requires-clause-blank g c =
    free_program (g.F.Flash.state c.args.flash.now) c.args.index.now c.args.blocks.now
    (subst (Matches (g.F.Flash.state c.args.flash.now) c.args.index.now c.args.blocks.now) c.requires.sure.nothing
    c.requires.sure.matches) c.args.at.0
    c.requires.can.free.free

pub returns-in-Err : goal.returns-in-Err
returns-in-Err g c =
    let laws = g.met.R.CommitRule in
    let s' = g.F.Flash.state c.program.new.self in
    write_torn g.R.CommitRule.protocol laws.partial_write laws.completing_write laws.written_partial_write
    laws.written_completing_write
    (store_parts (g.F.Flash.state c.args.flash.now) c.args.index.now c.args.blocks.now c.args.unsure.now)
    c.requires.sure c.args.at c.args.rec c.args.bytes.now
    c.requires.can
    c.write_spare.new.into (c.write_spare.ensures ∙ ap (λ (x : Config). spelling x.protocol c.args.rec)
    c.config.ensures.config) s' c.in-Err.broken
    (subst (Programs (g.F.Flash.state c.args.flash.now) s' c.args.at.0 _ _) c.in-Err.is c.program.ensures)

pub note_program-requires-clause-blank : goal.note_program-requires-clause-blank
note_program-requires-clause-blank g c = c.requires.sure.matches.free c.args.at.0 c.requires.can.free.free

pub returns : goal.returns
returns g c =
    let laws = g.met.R.CommitRule in
    let a = (store_parts (g.F.Flash.state c.args.flash.now) c.args.index.now c.args.blocks.now c.args.unsure.now) in
    let s' = g.F.Flash.state c.program.new.self in
    subst (λ (n : IndexState). WritesOwn a (store_parts s' n c.note_used.new.self c.args.unsure.now) c.args.at
    c.args.rec c.args.bytes.now _)
    (sym c.note_program.ensures)
    (subst (λ (t : BlocksState). WritesOwn a (store_parts s' (programmed c.args.index.now c.args.at.0 c.args.rec) t
    c.args.unsure.now) c.args.at c.args.rec
    c.args.bytes.now _) (sym c.note_used.ensures.used)
    (write_done g.R.CommitRule.protocol laws.partial_write laws.completing_write laws.written_partial_write
    laws.written_completing_write a c.requires.sure
    c.args.at c.args.rec c.args.bytes.now c.requires.can
    c.write_spare.new.into (c.write_spare.ensures ∙ ap (λ (x : Config). spelling x.protocol c.args.rec)
    c.config.ensures.config) s' c.in_default.field-0
    (subst (Programs (g.F.Flash.state c.args.flash.now) s' c.args.at.0 _ _) c.in_default.is c.program.ensures)
    (subst IsBlocksState c.note_used.ensures.used c.note_used.ensures.table)))
