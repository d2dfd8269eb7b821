mod LoneNames
use Rattle.scan_recovery.proofs.Common.{ℕ, ◌<◌, ◌*◌, ◌∙◌, All, true, get_or, cond, sym, subst, arith, false≢true, get_or_default, slots_of, Found, nothing, ReadsAll, ReadsSome, AgreesWithLowest}
use Rattle.std.proofs.lemmas.Result.{err_from_is_err_and}
use Rattle.scan_recovery.proofs.twins.first_contradiction.Answers.LoneNames.{all_agree, none_read}
use Rattle.scan_recovery.proofs.OfScan.ReadingSteps.{reads_nothing}
use Rattle.scan_recovery.proofs.OfScan.ComparedSteps.{first_compared, as_before, agree_more, compared_next, compared_fault, compared_whole}
use Rattle.scan_recovery.proofs.OfLaws.TwinsAlike.{compared_alike, agrees_alike, all_alike}
use Rattle.scan_recovery.proofs.twins.first_contradiction.Goals as goal

pub returns-then-names_differ-clause-first : goal.returns-then-names_differ-clause-first
returns-then-names_differ-clause-first g c =
    let old = g.F.Flash.state c.args.flash.now in
    all_agree c.args.list.now c.args.chart.now c.requires.sorts
    (c.names_differ.ensures.0 c.if-names_differ.true)
    old.shape.page_bytes old.image

pub returns-then-names_differ-clause-reads : goal.returns-then-names_differ-clause-reads
returns-then-names_differ-clause-reads g c =
    none_read c.args.list.now c.args.chart.now c.requires.sorts
    (c.names_differ.ensures.0 c.if-names_differ.true)
    (g.F.Flash.state c.args.flash.now)

pub loop-at-init : goal.loop-at-init
loop-at-init g c = record {
  reads = reads_nothing (g.F.Flash.state c.args.flash.now);
  agree = λ k d none. absurd (omega arith);
}

pub agrees-requires-clause-exists : goal.agrees-requires-clause-exists
agrees-requires-clause-exists g c =
    all_alike c.args.list.now c.args.chart.now c.requires.sorts
    (λ f. f.slot.0 < slots_of (g.F.Flash.state c.loop-at.flash).shape)
    (subst (λ s. All (λ (f : Found). f.slot.0 < slots_of s) c.args.list.now)
    (sym c.loop-at.invariant.reads.carries.shape) c.requires.exists)

pub returns-in_err-agrees-clause-reads : goal.returns-in_err-agrees-clause-reads
returns-in_err-agrees-clause-reads g c =
    let p = err_from_is_err_and c.from_residual.result c.from_residual.ensures.1 in
    let a = g.F.Flash.state c.loop-at.flash in
    let b = g.F.Flash.state c.agrees.new.flash in
    rw p.1 (compared_fault (g.F.Flash.state c.args.flash.now) a b c.args.list.now c.loop-at.at c.loop-at-test.true
    c.loop-at.invariant.reads
    (subst (λ t. ReadsSome a b true (cond t 2 0)) (compared_alike c.args.list.now c.args.chart.now c.requires.sorts
    (get_or c.args.list.now c.loop-at.at nothing))
    c.in_err-agrees.ensures.reads))

pub returns-then-not-branch-clause-first : goal.returns-then-not-branch-clause-first
returns-then-not-branch-clause-first g c =
    let a = g.F.Flash.state c.args.flash.now in
    let b = g.F.Flash.state c.loop-at.flash in
    let list = c.args.list.now in
    let found = get_or list c.loop-at.at nothing in (
      c.loop-at-test.true,
      λ d agrees.
          as_before a b (2 * first_compared list c.loop-at.at)
          (λ shape image. AgreesWithLowest shape.page_bytes image list found → ⊥) c.loop-at.invariant.reads
          (λ here. false≢true (sym c.if-not-branch.true ∙ c.in_ok-agrees.ensures.agrees.1
          (subst (λ (T : Type 0). T) (sym (agrees_alike list c.args.chart.now c.requires.sorts b.shape.page_bytes
          b.image found)) here)))
          (subst (AgreesWithLowest a.shape.page_bytes a.image list)
          (get_or_default list c.loop-at.at d nothing c.loop-at-test.true) agrees),
      c.loop-at.invariant.agree,
    )

pub returns-then-not-branch-clause-reads : goal.returns-then-not-branch-clause-reads
returns-then-not-branch-clause-reads g c =
    let a = g.F.Flash.state c.loop-at.flash in
    let b = g.F.Flash.state c.agrees.new.flash in
    compared_next (g.F.Flash.state c.args.flash.now) a b c.args.list.now c.loop-at.at c.loop-at-test.true
    c.loop-at.invariant.reads
    (subst (λ t. ReadsAll a b (cond t 2 0)) (compared_alike c.args.list.now c.args.chart.now c.requires.sorts
    (get_or c.args.list.now c.loop-at.at nothing))
    c.in_ok-agrees.ensures.reads)

pub loop-at-preserved : goal.loop-at-preserved
loop-at-preserved g c = record {
  reads =
      let a = g.F.Flash.state c.loop-at.flash in
      let b = g.F.Flash.state c.agrees.new.flash in
      compared_next (g.F.Flash.state c.args.flash.now) a b c.args.list.now c.loop-at.at c.loop-at-test.true
      c.loop-at.invariant.reads
      (subst (λ t. ReadsAll a b (cond t 2 0)) (compared_alike c.args.list.now c.args.chart.now c.requires.sorts
      (get_or c.args.list.now c.loop-at.at nothing))
      c.in_ok-agrees.ensures.reads);
  agree =
      let a = g.F.Flash.state c.args.flash.now in
      let b = g.F.Flash.state c.loop-at.flash in
      let found = get_or c.args.list.now c.loop-at.at nothing in
      agree_more a.shape.page_bytes a.image c.args.list.now c.loop-at.at c.loop-at-test.true c.loop-at.invariant.agree
      (as_before a b (2 * first_compared c.args.list.now c.loop-at.at)
      (λ shape image. AgreesWithLowest shape.page_bytes image c.args.list.now found)
      c.loop-at.invariant.reads
      (subst (λ (T : Type 0). T) (agrees_alike c.args.list.now c.args.chart.now c.requires.sorts b.shape.page_bytes
      b.image found)
      (c.in_ok-agrees.ensures.agrees.0 c.if-not-branch.false)));
}

pub returns-clause-reads : goal.returns-clause-reads
returns-clause-reads g c =
    compared_whole (g.F.Flash.state c.args.flash.now) (g.F.Flash.state c.loop-at.flash) c.args.list.now c.loop-at.at
    (omega arith) c.loop-at.invariant.reads
