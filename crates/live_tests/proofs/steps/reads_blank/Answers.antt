use Rattle.std.proofs.Common.{◌≡◌, true, refl, sym, ap, ◌∙◌}
use Rattle.flash_model.specs.Calls.{seen_of}
use Rattle.flash_model.specs.Flash.{Contents, blank, damaged, complete, slot_at}
use Rattle.flash_model.specs.Readings.{reads_blank}
use Rattle.live_tests.proofs.steps.reads_blank.Goals as goal

blank_contents : (contents : Contents) → reads_blank (seen_of contents) ≡ true → contents ≡ blank
blank_contents blank e = refl
blank_contents damaged e = cc
blank_contents (complete bytes spare) e = cc

pub returns-in-Ok-clause-blank : goal.returns-in-Ok-clause-blank
returns-in-Ok-clause-blank g c holds =
    blank_contents (slot_at (g.F.Flash.state c.args.flash.now).image c.args.at)
    (ap reads_blank (sym c.in-Ok.ensures.done.how_it_reads) ∙ sym c.is_blank.ensures ∙ holds)
