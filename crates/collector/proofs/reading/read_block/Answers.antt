use Rattle.collector.proofs.Common.{◌*◌, sym, ap, ◌∙◌, subst, arith, slots_of, Config, Shape, Looks, reads_alike}
use Rattle.collector.proofs.OfSettle.BlockReadings.{read_none, read_broken, read_more, read_all, in_block}
use Rattle.collector.proofs.reading.read_block.Goals as goal

pub loop-at-init : goal.loop-at-init
loop-at-init g c = read_none c.args.index.now (g.F.Flash.state c.args.flash.now)
    (c.args.block.0 * c.config-pages.result.pages_per_block)

pub seen-requires : goal.seen-requires
seen-requires g c =
    in_block c.args.index.now c.args.block.0 c.loop-at.at c.config-pages.result.pages_per_block c.requires.exists
    (ap (λ (x : Config). x.pages_per_block) c.config-pages.ensures.config) c.loop-at-test.true

pub read-requires-clause-exists : goal.read-requires-clause-exists
read-requires-clause-exists g c =
    let within = in_block c.args.index.now c.args.block.0 c.loop-at.at c.config-pages.result.pages_per_block
    c.requires.exists
    (ap (λ (x : Config). x.pages_per_block) c.config-pages.ensures.config) c.loop-at-test.true in
    omega (arith, within, ap slots_of (c.loop-at.invariant.looks.carries.shape ∙ c.requires.shape))

pub read-requires-clause-page : goal.read-requires-clause-page
read-requires-clause-page g c =
    c.loop-at.auto.room ∙ c.requires.room
    ∙ sym (ap (λ (x : Shape). x.page_bytes) (c.loop-at.invariant.looks.carries.shape ∙ c.requires.shape))

pub returns-in_err-how-clause-looks : goal.returns-in_err-how-clause-looks
returns-in_err-how-clause-looks g c =
    subst (Looks (g.F.Flash.state c.args.flash.now) (g.F.Flash.state c.read.new.self)
    c.args.index.now.config.pages_per_block) (sym c.from_residual.ensures.0)
    (subst (λ k. Looks (g.F.Flash.state c.args.flash.now) (g.F.Flash.state c.read.new.self) k _)
    (ap (λ (x : Config). x.pages_per_block) c.config-pages.ensures.config)
    (read_broken c.args.index.now (g.F.Flash.state c.args.flash.now) (g.F.Flash.state c.loop-at.flash) _ c.loop-at.at
    _ _ c.loop-at.invariant
    (g.F.Flash.state c.read.new.self) _ _
    c.read.result c.read.ensures c.config-pages.result.pages_per_block c.in_err-how.field-0.0 c.in_err-how.was
    c.loop-at.auto.at c.loop-at-test.true))

pub loop-at-preserved : goal.loop-at-preserved
loop-at-preserved g c =
    read_more c.args.index.now (g.F.Flash.state c.args.flash.now) (g.F.Flash.state c.loop-at.flash) _ c.loop-at.at
    _ _ c.loop-at.invariant
    (g.F.Flash.state c.read.new.self) _ _
    c.read.result c.read.ensures c.in_ok-how.how c.in_ok-how.was c.loop-at.auto.at c.reads_alike-as_noted.result
    c.is_blank-blank.result
    (c.reads_alike-as_noted.ensures ∙ ap (reads_alike c.in_ok-how.how) c.seen.ensures) c.is_blank-blank.ensures

pub returns : goal.returns
returns g c =
    let all = read_all c.args.index.now (g.F.Flash.state c.args.flash.now) (g.F.Flash.state c.loop-at.flash)
    c.args.block.0 c.loop-at.at
    _ _ c.config-pages.result.pages_per_block
    (ap (λ (x : Config). x.pages_per_block) c.config-pages.ensures.config)
    (omega (arith, c.loop-at-test.false, c.loop-at.auto.at-end)) c.loop-at.invariant in
    record { read = all.read; looks = all.looks }
