mod Examples
use Rattle.record_list.proofs.theorems.worked_examples.Answers.Examples.{straddled_verdict, straddled_is_held, namesake_is_held, copied_home, unanswered_breaks}
use Rattle.record_list.proofs.theorems.worked_examples.Answers.Examples.{misled_breaks, copy_may_go, asked_after_loss, whole_or_absent}
use Rattle.record_list.proofs.theorems.worked_examples.Answers.Examples.{closed_breaks, twice_mentioned, torn_without_current}
use Rattle.record_list.proofs.theorems.worked_examples.Goals as goal

pub returns-clause-straddled_verdict : goal.returns-clause-straddled_verdict
returns-clause-straddled_verdict c = straddled_verdict

pub returns-clause-straddled_is_held : goal.returns-clause-straddled_is_held
returns-clause-straddled_is_held c = straddled_is_held

pub returns-clause-namesake_is_held : goal.returns-clause-namesake_is_held
returns-clause-namesake_is_held c = namesake_is_held

pub returns-clause-copied_home : goal.returns-clause-copied_home
returns-clause-copied_home c = copied_home

pub returns-clause-unanswered : goal.returns-clause-unanswered
returns-clause-unanswered c = unanswered_breaks

pub returns-clause-misled : goal.returns-clause-misled
returns-clause-misled c = misled_breaks

pub returns-clause-closed : goal.returns-clause-closed
returns-clause-closed c = closed_breaks

pub returns-clause-twice_mentioned : goal.returns-clause-twice_mentioned
returns-clause-twice_mentioned c = twice_mentioned

pub returns-clause-copy_may_go : goal.returns-clause-copy_may_go
returns-clause-copy_may_go c = copy_may_go

pub returns-clause-asked_after_loss : goal.returns-clause-asked_after_loss
returns-clause-asked_after_loss c = asked_after_loss

pub returns-clause-whole_or_absent : goal.returns-clause-whole_or_absent
returns-clause-whole_or_absent c = whole_or_absent

pub returns-clause-torn : goal.returns-clause-torn
returns-clause-torn c = torn_without_current
