use Rattle.drive_gen.proofs.Common.{sym, List}
use Rattle.std.proofs.Common.{subst}
use Rattle.std.specs.Prelude.{All}
use Rattle.tx_types.specs.Config.{shape_of}
use Rattle.tx_types.proofs.ConfigLemmas.{checked_config}
use Rattle.host_protocol.specs.Commands.{Suits}
use Rattle.host_protocol.specs.declared.command.Command.{Command}
use Rattle.drive_gen.proofs.WorkLemmas.{list_suits}
use Rattle.drive_gen.proofs.WorkParts.{all_left}
use Rattle.drive_gen.proofs.work.Work.new.Goals as goal

pub returns-clause-left : goal.returns-clause-left
returns-clause-left c = all_left c.args.start c.args.count c.args.config

pub returns-clause-suits : goal.returns-clause-suits
returns-clause-suits c =
    subst (λ (l : List Command). All (Suits c.args.config.page_bytes) l)
    (sym (all_left c.args.start c.args.count c.args.config)) (list_suits c.args.start c.args.count c.args.config)

pub returns-clause-check : goal.returns-clause-check
returns-clause-check c = (checked_config c.args.config (shape_of c.args.config) c.requires).0
