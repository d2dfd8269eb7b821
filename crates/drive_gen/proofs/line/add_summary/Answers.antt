use Rattle.drive_gen.proofs.line.add_summary.Goals as goal

pub returns : goal.returns
returns c =
    c.add_counted.ensures c.args.replies.now (record {
      counts = c.count_lines.ensures.tally;
      last = c.count_lines.ensures.stats;
    })
