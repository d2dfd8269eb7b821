use Rattle.page_keys.proofs.Common.{Ok, refl, sym, ap, ◌∙◌, Shape, moment_of, flash_in}
use Rattle.page_keys.proofs.OfServe.KeyAllLemmas.{ended_in, ended_untold, is_not_ok, is_ok, moment_stays, refuses, served_all, served_next, served_none}
use Rattle.page_keys.proofs.OfServe.KeyAllLemmas.{shape_here, shape_is}
use Rattle.page_keys.proofs.OfServe.UnopenedLemmas.{replies_unopened, unopened_all, unopened_in, unopened_next, unopened_none, unopened_untold}
use Rattle.page_keys.proofs.key_serving.serve_all.Goals as goal

pub loop-command-init : goal.loop-command-init
loop-command-init g c = record {
  fits = c.requires.fits;
  served = λ init begins. served_none g.F.Flash.state c.args.config init c.args.session
      c.args.out.now.items c.requires.fits begins;
  other = λ init not same. same;
  unopened = λ init not same begins. unopened_none g.F.Flash.state c.args.config init c.args.session
      c.args.out.now.items begins;
  extras = refl;
}

pub loop-command-preserved : goal.loop-command-preserved
loop-command-preserved g c = record {
  fits = c.in-Ok.ensures.served.fits;
  served = λ init begins.
      served_next g.F.Flash.state c.args.config init c.args.list.now c.loop-command.command-index
      c.command-item.result c.in-Ok.reply c.loop-command.session c.serve_one.new.session
      c.args.out.now.items c.loop-command.out.items c.key_reply_text.new.out.items
      c.loop-command-test.true c.command-item.is (c.loop-command.invariant.served init begins)
      c.in-Ok.ensures.served
      (is_ok _ c.key_reply_text.result (sym c.is_err.ensures.value ∙ c.if-is_err.false)
      c.key_reply_text.ensures.ok);
  other = λ init not same.
      moment_stays g.F.Flash.state c.args.config init c.command-item.result c.in-Ok.reply
      c.loop-command.session c.serve_one.new.session not
      (c.loop-command.invariant.other init not same) c.in-Ok.ensures.served;
  unopened = λ init not same begins.
      unopened_next g.F.Flash.state c.args.config init c.args.list.now c.loop-command.command-index
      c.command-item.result c.in-Ok.reply c.loop-command.session c.serve_one.new.session
      c.args.out.now.items c.loop-command.out.items c.key_reply_text.new.out.items
      c.loop-command-test.true c.command-item.is (c.loop-command.invariant.unopened init not same begins)
      (replies_unopened g.F.Flash.state c.args.config init c.command-item.result c.in-Ok.reply
      c.loop-command.session c.serve_one.new.session not (c.loop-command.invariant.other init not same)
      c.in-Ok.ensures.served)
      (is_ok _ c.key_reply_text.result (sym c.is_err.ensures.value ∙ c.if-is_err.false)
      c.key_reply_text.ensures.ok);
  extras = c.in-Ok.ensures.served.extras ∙ c.loop-command.invariant.extras;
}

pub returns-then-is_err-clause-serves : goal.returns-then-is_err-clause-serves
returns-then-is_err-clause-serves g c = λ init begins.
    ended_untold g.F.Flash.state c.args.config init c.args.list.now c.loop-command.command-index
    c.command-item.result c.in-Ok.reply c.loop-command.session c.serve_one.new.session c.close.result
    c.args.out.now.items c.loop-command.out.items c.key_reply_text.new.out.items
    c.loop-command-test.true c.command-item.is (c.loop-command.invariant.served init begins)
    c.in-Ok.ensures.served c.close.ensures
    (is_not_ok _ c.key_reply_text.result (sym c.is_err.ensures.value ∙ c.if-is_err.true)
    c.key_reply_text.ensures.err)

pub returns-then-is_err-clause-unopened : goal.returns-then-is_err-clause-unopened
returns-then-is_err-clause-unopened g c = λ init not same.
    ap (λ f. moment_of (g.F.Flash.state f)) c.close.ensures
    ∙ moment_stays g.F.Flash.state c.args.config init c.command-item.result c.in-Ok.reply
    c.loop-command.session c.serve_one.new.session not
    (c.loop-command.invariant.other init not same) c.in-Ok.ensures.served

pub returns-then-is_err-clause-unserved : goal.returns-then-is_err-clause-unserved
returns-then-is_err-clause-unserved g c = λ init not same begins.
    unopened_untold g.F.Flash.state c.args.config init c.args.list.now c.loop-command.command-index
    c.command-item.result c.in-Ok.reply c.loop-command.session c.serve_one.new.session c.close.result
    c.args.out.now.items c.loop-command.out.items c.key_reply_text.new.out.items
    c.loop-command-test.true c.command-item.is (c.loop-command.invariant.unopened init not same begins)
    (replies_unopened g.F.Flash.state c.args.config init c.command-item.result c.in-Ok.reply
    c.loop-command.session c.serve_one.new.session not (c.loop-command.invariant.other init not same)
    c.in-Ok.ensures.served) c.close.ensures
    (is_not_ok _ c.key_reply_text.result (sym c.is_err.ensures.value ∙ c.if-is_err.true)
    c.key_reply_text.ensures.err)

pub returns-then-is_err-clause-refuses : goal.returns-then-is_err-clause-refuses
returns-then-is_err-clause-refuses g c = λ init not same. tt

pub returns-then-is_err-clause-shape : goal.returns-then-is_err-clause-shape
returns-then-is_err-clause-shape g c =
    shape_here g.F.Flash.state c.args.config c.serve_one.new.session c.close.result
    c.in-Ok.ensures.served.fits c.close.ensures

pub returns-then-is_err-clause-extras : goal.returns-then-is_err-clause-extras
returns-then-is_err-clause-extras g c =
    ap (λ f. (g.F.Flash.state f).extras) c.close.ensures
    ∙ c.in-Ok.ensures.served.extras ∙ c.loop-command.invariant.extras

pub returns-in-Err-clause-serves : goal.returns-in-Err-clause-serves
returns-in-Err-clause-serves g c = λ init begins.
    ended_in g.F.Flash.state c.args.config init c.args.list.now c.loop-command.command-index
    c.loop-command.session c.serve_one.new.session c.close-in-Err.result c.in-Err.why c.args.out.now.items
    c.loop-command.out.items c.loop-command-test.true c.loop-command.invariant.fits
    (c.loop-command.invariant.served init begins) c.in-Err.ensures.ended c.close-in-Err.ensures

pub returns-in-Err-clause-unopened : goal.returns-in-Err-clause-unopened
returns-in-Err-clause-unopened g c = λ init not same.
    ap (λ f. moment_of (g.F.Flash.state f)) c.close-in-Err.ensures
    ∙ c.in-Err.ensures.ended.still.still.moment ∙ c.loop-command.invariant.other init not same

pub returns-in-Err-clause-unserved : goal.returns-in-Err-clause-unserved
returns-in-Err-clause-unserved g c = λ init not same begins.
    unopened_in g.F.Flash.state c.args.config init c.args.list.now c.loop-command.command-index
    c.loop-command.session c.serve_one.new.session c.close-in-Err.result c.in-Err.why c.args.out.now.items
    c.loop-command.out.items c.loop-command-test.true (c.loop-command.invariant.unopened init not same begins)
    c.in-Err.ensures.ended.still c.close-in-Err.ensures

pub returns-in-Err-clause-refuses : goal.returns-in-Err-clause-refuses
returns-in-Err-clause-refuses g c = λ init not same.
    refuses g.F.Flash.state c.args.config init c.loop-command.session
    (g.F.Flash.state (flash_in c.serve_one.new.session)) c.in-Err.why
    (c.loop-command.invariant.other init not same) c.in-Err.ensures.ended

pub returns-in-Err-clause-shape : goal.returns-in-Err-clause-shape
returns-in-Err-clause-shape g c =
    shape_is g.F.Flash.state c.args.config c.loop-command.session c.loop-command.invariant.fits
    ∙ ap (λ (x : Shape). Ok x) (sym (ap (λ f. (g.F.Flash.state f).shape) c.close-in-Err.ensures
    ∙ c.in-Err.ensures.ended.still.still.shape))

pub returns-in-Err-clause-extras : goal.returns-in-Err-clause-extras
returns-in-Err-clause-extras g c =
    ap (λ f. (g.F.Flash.state f).extras) c.close-in-Err.ensures
    ∙ c.in-Err.ensures.ended.still.still.extras ∙ c.loop-command.invariant.extras

pub returns-clause-serves : goal.returns-clause-serves
returns-clause-serves g c = λ init begins.
    served_all g.F.Flash.state c.args.config init c.args.list.now c.loop-command.command-index
    c.loop-command.session c.close-2.result c.args.out.now.items c.loop-command.out.items
    c.loop-command-test.false (c.loop-command.invariant.served init begins) c.close-2.ensures

pub returns-clause-unopened : goal.returns-clause-unopened
returns-clause-unopened g c = λ init not same.
    ap (λ f. moment_of (g.F.Flash.state f)) c.close-2.ensures
    ∙ c.loop-command.invariant.other init not same

pub returns-clause-unserved : goal.returns-clause-unserved
returns-clause-unserved g c = λ init not same begins.
    unopened_all g.F.Flash.state c.args.config init c.args.list.now c.loop-command.command-index
    c.loop-command.session c.close-2.result c.args.out.now.items c.loop-command.out.items
    c.loop-command-test.false (c.loop-command.invariant.unopened init not same begins) c.close-2.ensures

pub returns-clause-refuses : goal.returns-clause-refuses
returns-clause-refuses g c = λ init not same. tt

pub returns-clause-shape : goal.returns-clause-shape
returns-clause-shape g c =
    shape_here g.F.Flash.state c.args.config c.loop-command.session c.close-2.result
    c.loop-command.invariant.fits c.close-2.ensures

pub returns-clause-extras : goal.returns-clause-extras
returns-clause-extras g c =
    ap (λ f. (g.F.Flash.state f).extras) c.close-2.ensures ∙ c.loop-command.invariant.extras
