use Rattle.desk_tasks.proofs.Common.{List, [], refl, ap, sym, subst, ◌∙◌, Config, state_of}
use Rattle.std.proofs.Common.{◌++◌, append-nil}
use Rattle.std.proofs.lemmas.List.{take_all}
use Rattle.host_protocol.specs.Commands.{Suits}
use Rattle.host_protocol.specs.declared.command.Command.{Command}
use Rattle.cut_replay.specs.Sessions.{flash_in}
use Rattle.desk_tasks.specs.Driving.{HasRunCounted}
use Rattle.desk_tasks.proofs.DriveLemmas.{kept_by, part_more, refused_by}
use Rattle.desk_tasks.proofs.driving.serve_part.Goals as goal

pub loop-command-init : goal.loop-command-init
loop-command-init g c = record {
  config = refl;
  runs = λ flash commands h.
      subst (λ (cs : List Command).
      HasRunCounted c.args.server.now.config flash cs c.args.server.now.session c.args.tally.now)
      (sym (append-nil commands)) h;
  kept = λ flash h. h;
}

pub serve_counted-requires : goal.serve_counted-requires
serve_counted-requires g c =
    subst (λ (its : Config). Suits its.page_bytes c.command-item.result) (sym c.loop-command.invariant.config)
    (subst (λ (command : Command). Suits c.args.server.now.config.page_bytes command) (sym c.command-item.is)
    (c.requires c.loop-command.command-index c.command-item.result c.loop-command-test.true))

pub loop-command-preserved : goal.loop-command-preserved
loop-command-preserved g c =
    let at = c.loop-command in
    let its = c.args.server.now.config in
    let served = c.in_ok-serve_counted.ensures in
    record {
      config = served.config ∙ at.invariant.config;
      runs = λ flash commands h.
          part_more its at.server.config flash commands c.args.part.now at.command-index c.command-item.result
          at.server.session c.serve_counted.new.server.session at.tally c.serve_counted.new.tally
          at.invariant.config c.loop-command-test.true c.command-item.is (at.invariant.runs flash commands h)
          (λ before. served.runs flash _ before);
      kept = λ flash h.
          kept_by its at.server.config (state_of flash) (state_of (flash_in at.server.session))
          (state_of (flash_in c.serve_counted.new.server.session)) at.invariant.config
          (at.invariant.kept flash h) (served.refuses flash);
    }

pub returns-in_err-serve_counted-clause-config : goal.returns-in_err-serve_counted-clause-config
returns-in_err-serve_counted-clause-config g c =
    c.in_err-serve_counted.ensures.config ∙ c.loop-command.invariant.config

pub returns-in_err-serve_counted-clause-refuses : goal.returns-in_err-serve_counted-clause-refuses
returns-in_err-serve_counted-clause-refuses g c = λ flash h.
    let at = c.loop-command in
    refused_by c.args.server.now.config at.server.config (state_of flash) (state_of (flash_in at.server.session))
    (state_of (flash_in c.serve_counted.new.server.session)) c.from_residual.result c.in_err-serve_counted.field-0.0
    at.invariant.config c.from_residual.ensures.1 (at.invariant.kept flash h)
    (c.in_err-serve_counted.ensures.refuses flash)

pub returns-clause-runs : goal.returns-clause-runs
returns-clause-runs g c = λ flash commands h.
    let at = c.loop-command in
    subst (λ (l : List Command). HasRunCounted c.args.server.now.config flash (commands ++ l) at.server.session at.tally)
    (take_all at.command-index c.args.part.now c.loop-command-test.false) (at.invariant.runs flash commands h)
