use Rattle.drive_gen.proofs.Common.{◌∷◌, [], ◌∙◌, ap, ◌++◌, append_assoc}
use Rattle.host_protocol.specs.declared.command.Command.TheVariants as command
use Rattle.drive_gen.specs.Work.{reads}
use Rattle.drive_gen.proofs.WorkParts.{end_fewer, end_given}
use Rattle.drive_gen.proofs.work.Work.add_end.Goals as goal

pub returns-clause-gives : goal.returns-clause-gives
returns-clause-gives c =
    let old = c.args.list.now.items in
    let last = command.Stats ∷ [] in
    end_given c.args.self.now old c.push.new.self.items c.requires.filled c.requires.drawn c.requires.first
    (c.in_ok-push.ensures.items ∙ ap (λ l. l ++ last) c.in_ok-add_reads.ensures
    ∙ append_assoc old (reads c.args.self.now.config.logical) last)

pub returns-clause-fewer : goal.returns-clause-fewer
returns-clause-fewer c = end_fewer c.args.self.now c.requires.first
