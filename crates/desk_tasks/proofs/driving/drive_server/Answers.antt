use Rattle.desk_tasks.proofs.Common.{List, All, Config, ap, sym, subst, refl, ◌∙◌, state_of}
use Rattle.host_protocol.specs.Commands.{Suits}
use Rattle.host_protocol.specs.declared.command.Command.{Command}
use Rattle.cut_replay.specs.Sessions.{IsSoundOrSame, flash_in}
use Rattle.cut_replay.specs.Served.{RefusesUnsound}
use Rattle.drive_gen.specs.Parts.{left_of}
use Rattle.desk_tasks.proofs.DriveLemmas.{line_drawn, line_refused, none_driven}
use Rattle.desk_tasks.proofs.driving.drive_server.Goals as goal

pub drive_line-line-requires-clause-suits : goal.drive_line-line-requires-clause-suits
drive_line-line-requires-clause-suits g c =
    subst (λ (x : Config). All (Suits x.page_bytes) (left_of c.new-work.result)) (sym c.requires.config)
    c.new-work.ensures.suits

pub returns-clause-runs : goal.returns-clause-runs
returns-clause-runs g c = λ flash h.
    line_drawn c.args.start c.args.count c.drive_line-line.result c.args.config c.args.server.now.config flash
    (left_of c.new-work.result) _ c.drive_line-line.new.server.session c.requires.config c.new-work.ensures.left
    (c.drive_line-line.ensures.runs flash
    (none_driven c.args.config c.args.server.now.config flash c.args.server.now.session c.new-tally.result
    c.requires.config h c.new-tally.ensures.counted c.new-tally.ensures.replies))

pub returns-clause-refuses : goal.returns-clause-refuses
returns-clause-refuses g c = λ flash h.
    line_refused c.args.config c.args.server.now.config (state_of flash)
    (state_of (flash_in c.args.server.now.session)) (state_of (flash_in c.drive_line-line.new.server.session))
    c.drive_line-line.result c.requires.config h (c.drive_line-line.ensures.refuses flash)
