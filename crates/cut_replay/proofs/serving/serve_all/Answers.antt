use Rattle.cut_replay.proofs.Common.{Ok, Err, refl, sym, subst, ◌∙◌, List, [], ◌∷◌, take, text_of, Config, Command, moment_of, Watched, flash_in, Grew}
use Rattle.host_protocol.specs.Commands.{Suits}
use Rattle.cut_replay.specs.ServerCalls.{ServesNext}
use Rattle.cut_replay.specs.declared.serving.ServeError.TheVariants as failed
use Rattle.cut_replay.proofs.Progress.{HasServed, StaysUnmounted, moment_stays, unmounted_none, unmounted_more, unmounted_in, unmounted_untold, unmounted_ended, unsound_still, ended_counts}
use Rattle.cut_replay.proofs.Progress.{unmounted_to_the_end, served_none, served_more, next_of, ended_in, untold_in, served_to_the_end, kept_more, refused_in}
use Rattle.cut_replay.proofs.Progress.{on_ok, on_err}
use Rattle.cut_replay.proofs.serving.serve_all.Goals as goal

pub loop-command-init : goal.loop-command-init
loop-command-init g c = record {
  config = refl;
  served = λ init served. served_none g.F.Flash.state c.args.server.now.config init c.args.server.now.session
      (record { text = g.W.Watch.text c.args.out.now; kept = g.W.Watch.kept c.args.out.now; flashes = g.W.Watch.flashes c.args.out.now }) served;
  kept = λ init kept. kept;
  extras = refl;
  unsound = λ init unsound begins same counted. unmounted_none c.args.server.now.config init
      (g.F.Flash.state (flash_in c.args.server.now.session))
      (record { text = g.W.Watch.text c.args.out.now; kept = g.W.Watch.kept c.args.out.now; flashes = g.W.Watch.flashes c.args.out.now }) begins same counted;
}

pub answer_next-requires : goal.answer_next-requires
answer_next-requires g c =
    subst (λ (its : Config). Suits its.page_bytes c.command-item.result) (sym c.loop-command.invariant.config)
    (subst (λ (command : Command). Suits c.args.server.now.config.page_bytes command) (sym c.command-item.is)
    (c.requires c.loop-command.command-index c.command-item.result c.loop-command-test.true))

pub loop-command-preserved : goal.loop-command-preserved
loop-command-preserved g c =
    let state = g.F.Flash.state in
    let its = c.args.server.now.config in
    let list = c.args.list.now in
    let at = c.loop-command.command-index in
    let command = c.command-item.result in
    let old = c.loop-command.server in
    let new = c.answer_next.new.self in
    let before : Watched = record { text = g.W.Watch.text c.args.out.now; kept = g.W.Watch.kept c.args.out.now; flashes = g.W.Watch.flashes c.args.out.now } in
    let between : Watched = record { text = g.W.Watch.text c.loop-command.out; kept = g.W.Watch.kept c.loop-command.out; flashes = g.W.Watch.flashes c.loop-command.out } in
    let after : Watched = record { text = g.W.Watch.text c.tell.new.self; kept = g.W.Watch.kept c.tell.new.self; flashes = g.W.Watch.flashes c.tell.new.self } in
    let told = sym c.is_err.ensures.value ∙ c.if-is_err.false in
    let text = on_ok _ c.tell.result told c.tell.ensures.text in
    let kept = subst (λ flash. Grew between.kept after.kept
    (record { text = text_of c.in-Ok.reply; moment = moment_of (state flash) } ∷ [])) c.flash.ensures
    (on_ok _ c.tell.result told c.tell.ensures.kept) in
    let flashes = subst (λ flash. Grew between.flashes after.flashes (state flash ∷ [])) c.flash.ensures
    (on_ok _ c.tell.result told c.tell.ensures.flashes) in
    let next = subst (λ (x : Config). ServesNext state x command old (Ok c.in-Ok.reply) new)
    c.loop-command.invariant.config c.in-Ok.ensures in
    let more = sym (next_of list at command c.loop-command-test.true c.command-item.is) in
    record {
      config = next.config ∙ c.loop-command.invariant.config;
      served = λ init served.
          subst (λ (cs : List Command). HasServed state its init cs new.session before after) more
          (served_more state its init (take at list) command c.in-Ok.reply old.session new.session
          before between after
          (c.loop-command.invariant.served init served) next.served text kept flashes);
      kept = λ init kept. kept_more its init (state (flash_in old.session)) (state (flash_in new.session))
          (c.loop-command.invariant.kept init kept) next.serves.kept;
      extras = next.serves.extras ∙ c.loop-command.invariant.extras;
      unsound = λ init unsound begins same counted.
          subst (λ (cs : List Command). StaysUnmounted its cs init (state (flash_in new.session)) before after) more
          (unmounted_more state its init (take at list) command c.in-Ok.reply old.session new.session
          before between after unsound
          (c.loop-command.invariant.unsound init unsound begins same counted) next.serves text kept flashes);
    }

-- a reply that could not be told
pub returns-then-is_err-clause-serves : goal.returns-then-is_err-clause-serves
returns-then-is_err-clause-serves g c = λ init served.
    let state = g.F.Flash.state in
    let its = c.args.server.now.config in
    let none = on_err _ c.tell.result (sym c.is_err.ensures.value ∙ c.if-is_err.true) c.tell.ensures.err in
    let next = subst (λ (x : Config).
    ServesNext state x c.command-item.result c.loop-command.server (Ok c.in-Ok.reply) c.answer_next.new.self)
    c.loop-command.invariant.config c.in-Ok.ensures in
    untold_in state its init c.args.list.now c.loop-command.command-index c.command-item.result
    c.in-Ok.reply c.loop-command.server.session c.answer_next.new.self.session
    (record { text = g.W.Watch.text c.args.out.now; kept = g.W.Watch.kept c.args.out.now; flashes = g.W.Watch.flashes c.args.out.now })
    (record { text = g.W.Watch.text c.loop-command.out; kept = g.W.Watch.kept c.loop-command.out; flashes = g.W.Watch.flashes c.loop-command.out })
    (record { text = g.W.Watch.text c.tell.new.self; kept = g.W.Watch.kept c.tell.new.self; flashes = g.W.Watch.flashes c.tell.new.self })
    c.loop-command-test.true c.command-item.is (c.loop-command.invariant.served init served) next.served
    none.0 none.1 none.2

pub returns-then-is_err-clause-refuses : goal.returns-then-is_err-clause-refuses
returns-then-is_err-clause-refuses g c = λ init kept.
    let state = g.F.Flash.state in
    let next = subst (λ (x : Config).
    ServesNext state x c.command-item.result c.loop-command.server (Ok c.in-Ok.reply) c.answer_next.new.self)
    c.loop-command.invariant.config c.in-Ok.ensures in
    kept_more c.args.server.now.config init (state (flash_in c.loop-command.server.session))
    (state (flash_in c.answer_next.new.self.session))
    (c.loop-command.invariant.kept init kept) next.serves.kept

pub returns-then-is_err-clause-unsound : goal.returns-then-is_err-clause-unsound
returns-then-is_err-clause-unsound g c = λ init unsound begins same counted.
    let none = on_err _ c.tell.result (sym c.is_err.ensures.value ∙ c.if-is_err.true) c.tell.ensures.err in
    let state = g.F.Flash.state in
    let its = c.args.server.now.config in
    let s = c.loop-command.server.session in
    let t = c.answer_next.new.self.session in
    let next = subst (λ (x : Config).
    ServesNext state x c.command-item.result c.loop-command.server (Ok c.in-Ok.reply) c.answer_next.new.self)
    c.loop-command.invariant.config c.in-Ok.ensures in
    let stays = c.loop-command.invariant.unsound init unsound begins same counted in
    unmounted_in its init (state (flash_in s)) (state (flash_in t)) c.args.list.now
    c.loop-command.command-index
    (record { text = g.W.Watch.text c.args.out.now; kept = g.W.Watch.kept c.args.out.now; flashes = g.W.Watch.flashes c.args.out.now })
    (record { text = g.W.Watch.text c.loop-command.out; kept = g.W.Watch.kept c.loop-command.out; flashes = g.W.Watch.flashes c.loop-command.out })
    (record { text = g.W.Watch.text c.tell.new.self; kept = g.W.Watch.kept c.tell.new.self; flashes = g.W.Watch.flashes c.tell.new.self }) failed.Memory
    c.loop-command-test.true stays
    (moment_stays its init (state (flash_in s)) (state (flash_in t)) unsound stays.still next.serves.kept)
    none.0 none.1 none.2 tt
    (unmounted_untold state its c.args.list.now c.loop-command.command-index c.command-item.result
    c.in-Ok.reply s t c.loop-command-test.true c.command-item.is
    (unsound_still its init (state (flash_in s)) unsound stays.still) next.serves)

pub returns-then-is_err-clause-config : goal.returns-then-is_err-clause-config
returns-then-is_err-clause-config g c = c.in-Ok.ensures.config ∙ c.loop-command.invariant.config

pub returns-then-is_err-clause-extras : goal.returns-then-is_err-clause-extras
returns-then-is_err-clause-extras g c = c.in-Ok.ensures.serves.extras ∙ c.loop-command.invariant.extras

-- a command after which no more are served
pub returns-in-Err-clause-serves : goal.returns-in-Err-clause-serves
returns-in-Err-clause-serves g c = λ init served.
    let state = g.F.Flash.state in
    let next = subst (λ (x : Config).
    ServesNext state x c.command-item.result c.loop-command.server (Err c.in-Err.why) c.answer_next.new.self)
    c.loop-command.invariant.config c.in-Err.ensures in
    ended_in state c.args.server.now.config init c.args.list.now c.loop-command.command-index c.command-item.result
    c.loop-command.server.session (flash_in c.answer_next.new.self.session) c.in-Err.why
    (record { text = g.W.Watch.text c.args.out.now; kept = g.W.Watch.kept c.args.out.now; flashes = g.W.Watch.flashes c.args.out.now })
    (record { text = g.W.Watch.text c.loop-command.out; kept = g.W.Watch.kept c.loop-command.out; flashes = g.W.Watch.flashes c.loop-command.out })
    c.loop-command-test.true c.command-item.is (c.loop-command.invariant.served init served) next.ends

pub returns-in-Err-clause-refuses : goal.returns-in-Err-clause-refuses
returns-in-Err-clause-refuses g c = λ init kept.
    let state = g.F.Flash.state in
    let next = subst (λ (x : Config).
    ServesNext state x c.command-item.result c.loop-command.server (Err c.in-Err.why) c.answer_next.new.self)
    c.loop-command.invariant.config c.in-Err.ensures in
    refused_in state c.args.server.now.config init c.command-item.result c.loop-command.server.session
    (flash_in c.answer_next.new.self.session) c.in-Err.why
    (c.loop-command.invariant.kept init kept) next.ends

pub returns-in-Err-clause-unsound : goal.returns-in-Err-clause-unsound
returns-in-Err-clause-unsound g c = λ init unsound begins same counted.
    let state = g.F.Flash.state in
    let its = c.args.server.now.config in
    let s = c.loop-command.server.session in
    let flash = flash_in c.answer_next.new.self.session in
    let next = subst (λ (x : Config).
    ServesNext state x c.command-item.result c.loop-command.server (Err c.in-Err.why) c.answer_next.new.self)
    c.loop-command.invariant.config c.in-Err.ensures in
    let stays = c.loop-command.invariant.unsound init unsound begins same counted in
    let between : Watched = record { text = g.W.Watch.text c.loop-command.out; kept = g.W.Watch.kept c.loop-command.out; flashes = g.W.Watch.flashes c.loop-command.out } in
    unmounted_in its init (state (flash_in s)) (state flash) c.args.list.now c.loop-command.command-index
    (record { text = g.W.Watch.text c.args.out.now; kept = g.W.Watch.kept c.args.out.now; flashes = g.W.Watch.flashes c.args.out.now }) between between
    c.in-Err.why c.loop-command-test.true stays
    (moment_stays its init (state (flash_in s)) (state flash) unsound stays.still next.ends.kept)
    refl refl refl
    (ended_counts state its init stays.replies c.command-item.result s flash c.in-Err.why stays.faults next.ends)
    (unmounted_ended state its c.args.list.now c.loop-command.command-index c.command-item.result s flash
    c.in-Err.why (unsound_still its init (state (flash_in s)) unsound stays.still) next.ends)

pub returns-in-Err-clause-config : goal.returns-in-Err-clause-config
returns-in-Err-clause-config g c = c.in-Err.ensures.config ∙ c.loop-command.invariant.config

pub returns-in-Err-clause-extras : goal.returns-in-Err-clause-extras
returns-in-Err-clause-extras g c = c.in-Err.ensures.ends.extras ∙ c.loop-command.invariant.extras

-- all commands were served
pub returns-clause-serves : goal.returns-clause-serves
returns-clause-serves g c = λ init served.
    served_to_the_end g.F.Flash.state c.args.server.now.config init c.args.list.now c.loop-command.command-index
    c.loop-command.server.session
    (record { text = g.W.Watch.text c.args.out.now; kept = g.W.Watch.kept c.args.out.now; flashes = g.W.Watch.flashes c.args.out.now })
    (record { text = g.W.Watch.text c.loop-command.out; kept = g.W.Watch.kept c.loop-command.out; flashes = g.W.Watch.flashes c.loop-command.out })
    c.loop-command-test.false (c.loop-command.invariant.served init served)

pub returns-clause-refuses : goal.returns-clause-refuses
returns-clause-refuses g c = λ init kept. c.loop-command.invariant.kept init kept

pub returns-clause-unsound : goal.returns-clause-unsound
returns-clause-unsound g c = λ init unsound begins same counted.
    unmounted_to_the_end c.args.server.now.config init (g.F.Flash.state (flash_in c.loop-command.server.session))
    c.args.list.now c.loop-command.command-index
    (record { text = g.W.Watch.text c.args.out.now; kept = g.W.Watch.kept c.args.out.now; flashes = g.W.Watch.flashes c.args.out.now })
    (record { text = g.W.Watch.text c.loop-command.out; kept = g.W.Watch.kept c.loop-command.out; flashes = g.W.Watch.flashes c.loop-command.out })
    c.loop-command-test.false (c.loop-command.invariant.unsound init unsound begins same counted)
