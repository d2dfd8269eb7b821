-- The statuses and the lines of refusals.
use Rattle.std.proofs.Common.{◌≡◌, ◌≢◌, arith, refl}
use Rattle.desk_io.specs.Desk.{DeskState, after_answer, with_said}
use Rattle.program_base.specs.Refusals.{ImageEnding, BadWords, Missing, TooLong, BadImage, Unsound, image_line, image_status}
use Rattle.program_base.specs.Saying.{after_text}

-- no refusal has the status of work that is done, or that of a fault
pub never_done : (why : ImageEnding) → image_status why ≢ 0
never_done BadWords e = absurd (omega arith)
never_done (Missing name) e = absurd (omega arith)
never_done (TooLong name) e = absurd (omega arith)
never_done (BadImage rule) e = absurd (omega arith)
never_done (Unsound breach) e = absurd (omega arith)

pub never_fault : (why : ImageEnding) → 5 ≢ image_status why
never_fault BadWords e = absurd (omega arith)
never_fault (Missing name) e = absurd (omega arith)
never_fault (TooLong name) e = absurd (omega arith)
never_fault (BadImage rule) e = absurd (omega arith)
never_fault (Unsound breach) e = absurd (omega arith)

-- each has a line, which is said
pub line_said : (why : ImageEnding) (desk : DeskState) → after_text (image_line why) desk
    ≡ after_answer (with_said (image_line why)) desk
line_said BadWords desk = refl
line_said (Missing name) desk = refl
line_said (TooLong name) desk = refl
line_said (BadImage rule) desk = refl
line_said (Unsound breach) desk = refl
