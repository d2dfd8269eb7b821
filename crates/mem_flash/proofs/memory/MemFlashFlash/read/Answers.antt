use Rattle.mem_flash.proofs.Common.{rules, sym, ◌∙◌}
use Rattle.std.proofs.Common.{false}
use Rattle.mem_flash.proofs.Meeting.{starts_read}
use Rattle.mem_flash.proofs.memory.MemFlashFlash.read.Goals as goal

pub returns-clause-reads : goal.returns-clause-reads
returns-clause-reads c = record {
  carries = record {
    shape = search rules;
    later = search rules;
    cause = search rules;
    quiet = search rules;
    lives = search rules;
    dead = search rules;
    no_more = search rules;
    extras = search rules;
    spends = search rules;
    starts = starts_read c.args.self.now c.meet_bad_read.new.self false c.meet_bad_read.ensures.met
        (sym c.if-meet_bad_read.false ∙ c.meet_bad_read.ensures.broken);
  };
  powered = search rules;
  done = search rules;
  image = search rules;
  programs = search rules;
  erases = search rules;
  reads = search rules;
  started = search rules;
}
