use Rattle.drive_gen.proofs.Common.{refl, ap, sym, ◌∙◌, [], last_stats, tally_of}
use Rattle.std.proofs.Common.{inl}
use Rattle.host_protocol.proofs.LineLemmas.{lines_none}
use Rattle.drive_gen.proofs.running_tally.RunningTally.new.Goals as goal

pub returns-clause-counted : goal.returns-clause-counted
returns-clause-counted c = record {
  before = [];
  all = sym c.new-2.ensures.items;
  whole = inl refl;
  counted = record {
    counts = c.none.ensures ∙ sym (ap tally_of (lines_none [] refl));
    last = c.new.ensures.items ∙ sym (ap last_stats (lines_none [] refl));
  };
}
