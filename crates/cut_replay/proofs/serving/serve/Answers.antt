use Rattle.cut_replay.proofs.Common.{◌≡◌, false, [], Result, Ok, Err, OnOk, refl, sym, ap, subst, ◌∙◌, Config, checked, Watched, moment_of, CountsBreaks, BeginsFlash, ServesUnsound, flash_in, IsSoundFlash, IsSoundOrSame}
use Rattle.cut_replay.specs.ServerRuns.{IsServed}
use Rattle.cut_replay.specs.Served.{ServesSound, RefusesUnsound}
use Rattle.cut_replay.proofs.Progress.{moment_stays}
use Rattle.cut_replay.proofs.Begun.{begin_ended, begin_refused, begin_shape, begin_extras, same_shape, begin_unsound}
use Rattle.cut_replay.proofs.serving.serve.Goals as goal

any_ok : {T E : Type 0} (P : Type 0) (r : Result T E) → P → OnOk r P
any_ok P (Ok done) h = h
any_ok P (Err why) h = tt

pub returns-in-Ok-clause-steady : goal.returns-in-Ok-clause-steady
returns-in-Ok-clause-steady g c = λ steady.
    any_ok (IsSoundFlash c.args.config (g.F.Flash.state c.args.flash)) c.serve_all-outcome.result
    (c.in-Ok.ensures.opens.steady steady)

pub returns-in-Ok-clause-serves : goal.returns-in-Ok-clause-serves
returns-in-Ok-clause-serves g c = λ sound.
    let state = g.F.Flash.state in
    let init = state c.args.flash in
    let opens = c.in-Ok.ensures.opens in
    let before : Watched = record { text = g.W.Watch.text c.args.out.now; kept = g.W.Watch.kept c.args.out.now; flashes = g.W.Watch.flashes c.args.out.now } in
    let after : Watched = record { text = g.W.Watch.text c.serve_all-outcome.new.out; kept = g.W.Watch.kept c.serve_all-outcome.new.out; flashes = g.W.Watch.flashes c.serve_all-outcome.new.out } in
    subst (λ flash. ServesSound c.args.config c.args.list.now init (state flash) before after c.serve_all-outcome.result)
    (sym c.close.ensures.flash)
    (subst (λ (its : Config). IsServed state its init [] [] [] c.in-Ok.server.session →
    ServesSound its c.args.list.now init (state (flash_in c.serve_all-outcome.new.server.session)) before after
    c.serve_all-outcome.result) opens.config (c.serve_all-outcome.ensures.serves init) (opens.served sound))

pub returns-in-Ok-clause-refuses : goal.returns-in-Ok-clause-refuses
returns-in-Ok-clause-refuses g c =
    let state = g.F.Flash.state in
    let init = state c.args.flash in
    let opens = c.in-Ok.ensures.opens in
    subst (λ flash. RefusesUnsound c.args.config init (state flash) c.serve_all-outcome.result)
    (sym c.close.ensures.flash)
    (subst (λ (its : Config). IsSoundOrSame its init (state (flash_in c.in-Ok.server.session)) →
    RefusesUnsound its init (state (flash_in c.serve_all-outcome.new.server.session)) c.serve_all-outcome.result)
    opens.config (c.serve_all-outcome.ensures.refuses init) opens.kept)

pub returns-in-Ok-clause-unsound : goal.returns-in-Ok-clause-unsound
returns-in-Ok-clause-unsound g c = λ unsound.
    let state = g.F.Flash.state in
    let init = state c.args.flash in
    let first = state (flash_in c.in-Ok.server.session) in
    let opens = c.in-Ok.ensures.opens in
    let before : Watched = record { text = g.W.Watch.text c.args.out.now; kept = g.W.Watch.kept c.args.out.now; flashes = g.W.Watch.flashes c.args.out.now } in
    let after : Watched = record { text = g.W.Watch.text c.serve_all-outcome.new.out; kept = g.W.Watch.kept c.serve_all-outcome.new.out; flashes = g.W.Watch.flashes c.serve_all-outcome.new.out } in
    subst (λ flash. ServesUnsound c.args.config c.args.list.now init (state flash) before after
    c.serve_all-outcome.result) (sym c.close.ensures.flash)
    (subst (λ (its : Config). (IsSoundFlash its init → ⊥) → BeginsFlash its init false first →
    moment_of first ≡ moment_of init → CountsBreaks [] init first →
    ServesUnsound its c.args.list.now init (state (flash_in c.serve_all-outcome.new.server.session)) before after
    c.serve_all-outcome.result) opens.config (c.serve_all-outcome.ensures.unsound init) unsound
    (opens.unsound unsound) (moment_stays c.args.config init init first unsound refl opens.kept) opens.faults)

pub returns-in-Ok-clause-shape : goal.returns-in-Ok-clause-shape
returns-in-Ok-clause-shape g c =
    same_shape c.args.config (g.F.Flash.state c.args.flash).shape (g.F.Flash.state c.close.result).shape
    c.requires.check
    (subst (λ (its : Config). checked its ≡ Ok (g.F.Flash.state c.close.result).shape)
    (c.serve_all-outcome.ensures.config ∙ c.in-Ok.ensures.opens.config) c.close.ensures.check)

pub returns-in-Ok-clause-extras : goal.returns-in-Ok-clause-extras
returns-in-Ok-clause-extras g c =
    ap (λ flash. (g.F.Flash.state flash).extras) c.close.ensures.flash ∙ c.serve_all-outcome.ensures.extras
    ∙ c.in-Ok.ensures.opens.extras

pub returns-in-Err-clause-serves : goal.returns-in-Err-clause-serves
returns-in-Err-clause-serves g c = λ sound.
    begin_ended g.F.Flash.state c.args.config c.args.list.now c.args.flash c.in-Err.flash c.in-Err.why
    (record { text = g.W.Watch.text c.args.out.now; kept = g.W.Watch.kept c.args.out.now; flashes = g.W.Watch.flashes c.args.out.now }) sound
    c.in-Err.ensures.failed c.in-Err.ensures.calls

pub returns-in-Err-clause-refuses : goal.returns-in-Err-clause-refuses
returns-in-Err-clause-refuses g c =
    begin_refused g.F.Flash.state c.args.config c.args.flash c.in-Err.flash c.in-Err.why
    c.in-Err.ensures.failed

pub returns-in-Err-clause-unsound : goal.returns-in-Err-clause-unsound
returns-in-Err-clause-unsound g c = λ unsound.
    begin_unsound g.F.Flash.state c.args.config c.args.list.now c.args.flash c.in-Err.flash c.in-Err.why
    (record { text = g.W.Watch.text c.args.out.now; kept = g.W.Watch.kept c.args.out.now; flashes = g.W.Watch.flashes c.args.out.now }) c.in-Err.ensures.failed
    c.in-Err.ensures.calls

pub returns-in-Err-clause-shape : goal.returns-in-Err-clause-shape
returns-in-Err-clause-shape g c =
    begin_shape g.F.Flash.state c.args.config c.args.flash c.in-Err.flash c.in-Err.why
    c.in-Err.ensures.failed

pub returns-in-Err-clause-extras : goal.returns-in-Err-clause-extras
returns-in-Err-clause-extras g c =
    begin_extras g.F.Flash.state c.args.config c.args.flash c.in-Err.flash c.in-Err.why
    c.in-Err.ensures.failed
