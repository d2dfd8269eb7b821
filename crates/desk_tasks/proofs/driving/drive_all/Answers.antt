use Rattle.desk_tasks.proofs.Common.{List, refl, ap, sym, subst, ◌∙◌, All, Config, state_of}
use Rattle.std.proofs.Common.{◌++◌}
use Rattle.host_protocol.specs.Commands.{Suits}
use Rattle.host_protocol.specs.declared.command.Command.{Command}
use Rattle.cut_replay.specs.Sessions.{flash_in}
use Rattle.drive_gen.specs.Parts.{left_of}
use Rattle.desk_tasks.proofs.DriveLemmas.{all_driven, all_first, all_rest, goes_on, kept_by, refused_by, starved_by}
use Rattle.desk_tasks.proofs.driving.drive_all.Goals as goal

pub loop-server-init : goal.loop-server-init
loop-server-init g c = record {
  config = refl;
  work = refl;
  suits = c.requires.suits;
  runs = λ flash commands h. record { given = commands; whole = refl; driven = h };
  kept = λ flash h. h;
}

pub serve_part-requires : goal.serve_part-requires
serve_part-requires g c =
    let its = c.args.server.now.config in
    let part = c.draw_part.new.part.items in
    let whole = subst (λ (l : List Command). All (Suits its.page_bytes) l) (sym c.in_ok-draw_part.ensures.gives)
    c.loop-server.invariant.suits in
    subst (λ (l : List Command). All (Suits c.loop-server.server.config.page_bytes) l) (sym c.as_slice.ensures.value)
    (subst (λ (x : Config). All (Suits x.page_bytes) part) (sym c.loop-server.invariant.config)
    (all_first (Suits its.page_bytes) part (left_of c.draw_part.new.work) whole))

pub loop-server-preserved : goal.loop-server-preserved
loop-server-preserved g c =
    let at = c.loop-server in
    let its = c.args.server.now.config in
    let part = c.draw_part.new.part.items in
    let left = left_of c.draw_part.new.work in
    let served = c.in_ok-serve_part.ensures in
    let whole = subst (λ (l : List Command). All (Suits its.page_bytes) l) (sym c.in_ok-draw_part.ensures.gives)
    at.invariant.suits in
    record {
      config = served.config ∙ at.invariant.config;
      work = c.draw_part.ensures.config ∙ at.invariant.work;
      suits = all_rest (Suits its.page_bytes) part left whole;
      runs = λ flash commands h.
          goes_on its at.server.config flash (commands ++ left_of c.args.work.now) (left_of at.work)
          c.as_slice.result.now left at.server.session c.serve_part.new.server.session at.tally c.serve_part.new.tally at.invariant.config
          (ap (λ l. l ++ left) c.as_slice.ensures.value ∙ c.in_ok-draw_part.ensures.gives)
          (at.invariant.runs flash commands h) (λ given before. served.runs flash given before);
      kept = λ flash h.
          kept_by its at.server.config (state_of flash) (state_of (flash_in at.server.session))
          (state_of (flash_in c.serve_part.new.server.session)) at.invariant.config
          (at.invariant.kept flash h) (served.refuses flash);
    }

pub returns-in_err-draw_part-clause-refuses : goal.returns-in_err-draw_part-clause-refuses
returns-in_err-draw_part-clause-refuses g c = λ flash h.
    starved_by c.args.server.now.config (state_of flash) (state_of (flash_in c.loop-server.server.session))
    c.from_residual.result c.in_err-draw_part.field-0.0 c.from_residual.ensures.1 c.in_err-draw_part.ensures.err
    (c.loop-server.invariant.kept flash h)

pub returns-in_err-serve_part-clause-config : goal.returns-in_err-serve_part-clause-config
returns-in_err-serve_part-clause-config g c = c.in_err-serve_part.ensures.config ∙ c.loop-server.invariant.config

pub returns-in_err-serve_part-clause-refuses : goal.returns-in_err-serve_part-clause-refuses
returns-in_err-serve_part-clause-refuses g c = λ flash h.
    let at = c.loop-server in
    refused_by c.args.server.now.config at.server.config (state_of flash) (state_of (flash_in at.server.session))
    (state_of (flash_in c.serve_part.new.server.session)) c.from_residual-in_err-serve_part.result
    c.in_err-serve_part.field-0.0
    at.invariant.config c.from_residual-in_err-serve_part.ensures.1 (at.invariant.kept flash h)
    (c.in_err-serve_part.ensures.refuses flash)

pub returns-clause-runs : goal.returns-clause-runs
returns-clause-runs g c = λ flash commands h.
    let at = c.loop-server in
    all_driven c.args.server.now.config flash (commands ++ left_of c.args.work.now) (left_of at.work) at.server.session
    at.tally (c.in_ok-draw_part.ensures.last c.if-branch.false) (at.invariant.runs flash commands h)
