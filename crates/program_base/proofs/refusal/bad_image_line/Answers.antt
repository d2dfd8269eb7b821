use Rattle.std.proofs.Common.{append_assoc}
use Rattle.program_base.proofs.refusal.bad_image_line.Goals as goal

pub returns-in-Some : goal.returns-in-Some
returns-in-Some c = rw (c.image_word-slot.ensures, c.in-Some.is) (simp append_assoc c.format.ensures.ok)
