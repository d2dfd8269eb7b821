use Rattle.page_keys.proofs.Common.{Err, refl, inl, ◌∙◌}
use Rattle.page_keys.proofs.OfServe.KeyBeginLemmas.{begin_ended, first_begins, first_fits, first_stays, first_steady, first_unopened, on_each, same_shape}
use Rattle.page_keys.proofs.OfServe.KeyAllLemmas.{script_keeps}
use Rattle.page_keys.proofs.key_serving.key_serve.Goals as goal

pub serve_all-requires-clause-fits : goal.serve_all-requires-clause-fits
serve_all-requires-clause-fits g c =
    first_fits g.F.Flash.state c.args.config c.args.flash c.in-Ok.session c.in-Ok.ensures.begins c.requires.check

pub returns-in-Ok-clause-serves : goal.returns-in-Ok-clause-serves
returns-in-Ok-clause-serves g c = λ image.
    c.serve_all.ensures.serves (g.F.Flash.state c.args.flash) (first_begins g.F.Flash.state c.args.config c.args.flash
    c.in-Ok.session c.in-Ok.ensures.begins image)

pub returns-in-Ok-clause-keeps : goal.returns-in-Ok-clause-keeps
returns-in-Ok-clause-keeps g c = λ image.
    script_keeps c.args.config c.args.list.now (g.F.Flash.state c.args.flash)
    (g.F.Flash.state c.serve_all.result.0) _ _ c.serve_all.result.1 image
    (returns-in-Ok-clause-serves g c image)

pub returns-in-Ok-clause-steady : goal.returns-in-Ok-clause-steady
returns-in-Ok-clause-steady g c = λ steady.
    on_each _ c.serve_all.result.1 (first_steady g.F.Flash.state c.args.config c.args.flash
    c.in-Ok.session c.in-Ok.ensures.begins steady)

pub returns-in-Ok-clause-unopened : goal.returns-in-Ok-clause-unopened
returns-in-Ok-clause-unopened g c = λ not.
    c.serve_all.ensures.unopened (g.F.Flash.state c.args.flash) not (first_stays g.F.Flash.state c.args.config c.args.flash
    c.in-Ok.session c.in-Ok.ensures.begins).moment

pub returns-in-Ok-clause-unserved : goal.returns-in-Ok-clause-unserved
returns-in-Ok-clause-unserved g c = λ not.
    c.serve_all.ensures.unserved (g.F.Flash.state c.args.flash) not (first_stays g.F.Flash.state c.args.config c.args.flash
    c.in-Ok.session c.in-Ok.ensures.begins).moment (first_unopened g.F.Flash.state c.args.config c.args.flash
    c.in-Ok.session c.in-Ok.ensures.begins not)

pub returns-in-Ok-clause-refuses : goal.returns-in-Ok-clause-refuses
returns-in-Ok-clause-refuses g c = λ not.
    c.serve_all.ensures.refuses (g.F.Flash.state c.args.flash) not (first_stays g.F.Flash.state c.args.config c.args.flash
    c.in-Ok.session c.in-Ok.ensures.begins).moment

pub returns-in-Ok-clause-shape : goal.returns-in-Ok-clause-shape
returns-in-Ok-clause-shape g c =
    same_shape c.args.config (g.F.Flash.state c.args.flash).shape
    (g.F.Flash.state c.serve_all.result.0).shape c.requires.check c.serve_all.ensures.shape

pub returns-in-Ok-clause-extras : goal.returns-in-Ok-clause-extras
returns-in-Ok-clause-extras g c = c.serve_all.ensures.extras
    ∙ (first_stays g.F.Flash.state c.args.config c.args.flash c.in-Ok.session c.in-Ok.ensures.begins).extras

pub returns-in-Err-clause-serves : goal.returns-in-Err-clause-serves
returns-in-Err-clause-serves g c = λ image.
    begin_ended c.args.config c.args.list.now (g.F.Flash.state c.args.flash)
    (g.F.Flash.state c.in-Err.flash) c.in-Err.why c.args.out.now.items image c.in-Err.ensures.failed
    c.in-Err.ensures.calls

pub returns-in-Err-clause-keeps : goal.returns-in-Err-clause-keeps
returns-in-Err-clause-keeps g c = λ image.
    script_keeps c.args.config c.args.list.now (g.F.Flash.state c.args.flash)
    (g.F.Flash.state c.in-Err.flash) _ _ (Err c.in-Err.why) image (returns-in-Err-clause-serves g c image)

pub returns-in-Err-clause-unopened : goal.returns-in-Err-clause-unopened
returns-in-Err-clause-unopened g c = λ not. c.in-Err.ensures.failed.still.still.moment

pub returns-in-Err-clause-unserved : goal.returns-in-Err-clause-unserved
returns-in-Err-clause-unserved g c = λ not.
    inl (record { still = c.in-Err.ensures.failed.still; calls = c.in-Err.ensures.calls; text = refl })

pub returns-in-Err-clause-refuses : goal.returns-in-Err-clause-refuses
returns-in-Err-clause-refuses g c = λ not. c.in-Err.ensures.failed.cause

pub returns-in-Err-clause-shape : goal.returns-in-Err-clause-shape
returns-in-Err-clause-shape g c = c.in-Err.ensures.failed.still.still.shape

pub returns-in-Err-clause-extras : goal.returns-in-Err-clause-extras
returns-in-Err-clause-extras g c = c.in-Err.ensures.failed.still.still.extras
