mod CopyCalls
use Rattle.collector.proofs.Common.{sym, subst, Reads, Programs, IndexState, CopiesRecord, store_parts}
use Rattle.collector.proofs.copying.copy_record.Answers.CopyCalls.{can_program, copy_is_done, copy_breaks, copy_unread}
use Rattle.collector.proofs.OfNotes.KeepsLemmas.{by_err}
use Rattle.collector.proofs.copying.copy_record.Goals as goal

pub returns-in_err-read : goal.returns-in_err-read
returns-in_err-read g c =
    let a = store_parts (g.F.Flash.state c.args.flash.now) c.args.index.now c.args.blocks.now c.args.unsure.now in
    let s1 = g.F.Flash.state c.read.new.self in
    by_err c.from_residual.result
    (CopiesRecord g.R.CommitRule.protocol a (store_parts s1 c.args.index.now c.args.blocks.now c.args.unsure.now)
    c.args.from c.args.to) c.from_residual.ensures.0
    (λ y.
    copy_unread g.R.CommitRule.protocol a c.requires.sure c.args.from c.args.to s1 _ _ c.in_err-read.field-0.0 y
    (subst (Reads a.flash s1 c.args.from.0 _ _) c.in_err-read.was c.read.ensures))

pub program-requires-clause-blank : goal.program-requires-clause-blank
program-requires-clause-blank g c =
    let laws = g.met.R.CommitRule in
    let a = store_parts (g.F.Flash.state c.args.flash.now) c.args.index.now c.args.blocks.now c.args.unsure.now in
    let s1 = g.F.Flash.state c.read.new.self in
    can_program g.R.CommitRule.protocol laws.copy laws.written_copy a c.requires.sure c.args.from c.args.to
    c.requires.can s1 _ _ c.in_ok-read.field-0
    (subst (Reads a.flash s1 c.args.from.0 _ _) c.in_ok-read.was c.read.ensures)

pub returns-in-Err : goal.returns-in-Err
returns-in-Err g c =
    let laws = g.met.R.CommitRule in
    let a = store_parts (g.F.Flash.state c.args.flash.now) c.args.index.now c.args.blocks.now c.args.unsure.now in
    let s1 = g.F.Flash.state c.read.new.self in
    let s2 = g.F.Flash.state c.program.new.self in
    copy_breaks g.R.CommitRule.protocol laws.copy laws.written_copy a c.requires.sure c.args.from c.args.to
    c.requires.can s1 _ _ c.in_ok-read.field-0
    (subst (Reads a.flash s1 c.args.from.0 _ _) c.in_ok-read.was c.read.ensures) s2 c.in-Err.broken
    (subst (Programs s1 s2 c.args.to.0 _ _) c.in-Err.is c.program.ensures)

pub returns : goal.returns
returns g c =
    let laws = g.met.R.CommitRule in
    let a = store_parts (g.F.Flash.state c.args.flash.now) c.args.index.now c.args.blocks.now c.args.unsure.now in
    let s1 = g.F.Flash.state c.read.new.self in
    let s2 = g.F.Flash.state c.program.new.self in
    subst (λ (n : IndexState). CopiesRecord g.R.CommitRule.protocol a
    (store_parts s2 n c.args.blocks.now c.args.unsure.now) c.args.from c.args.to _)
    (sym c.note_copy.ensures)
    (copy_is_done g.R.CommitRule.protocol laws.copy laws.written_copy a c.requires.sure c.args.from c.args.to
    c.requires.can s1 _ _ c.in_ok-read.field-0
    (subst (Reads a.flash s1 c.args.from.0 _ _) c.in_ok-read.was c.read.ensures) s2 c.in_default.field-0
    (subst (Programs s1 s2 c.args.to.0 _ _) c.in_default.is c.program.ensures))
