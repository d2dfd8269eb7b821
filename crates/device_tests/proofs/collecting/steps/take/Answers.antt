use Rattle.mem_flash.specs.MemFlashState.{state_of}
use Rattle.collector.proofs.OfSettle.SettledExits.{matches_still}
use Rattle.device_tests.proofs.collecting.steps.take.Goals as goal

pub answer-requires-clause-matches : goal.answer-requires-clause-matches
answer-requires-clause-matches g c =
    matches_still (state_of c.args.kept.now.flash) (state_of c.is_armed.new.flash) _ _ _
    c.is_armed.ensures.shape c.is_armed.ensures.image c.requires.matches

pub returns-then-is_armed-clause-matches : goal.returns-then-is_armed-clause-matches
returns-then-is_armed-clause-matches g c =
    matches_still (state_of c.args.kept.now.flash) (state_of c.is_armed.new.flash) _ _ _
    c.is_armed.ensures.shape c.is_armed.ensures.image c.requires.matches
