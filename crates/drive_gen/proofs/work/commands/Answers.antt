use Rattle.drive_gen.proofs.Common.{◌≡◌, ◌∙◌, ap, ◌++◌, generated}
use Rattle.drive_gen.specs.Parts.{left_of}
use Rattle.drive_gen.proofs.WorkLemmas.{list_suits}
use Rattle.drive_gen.proofs.work.commands.Goals as goal

list_is : (c : goal.In_ok-add_all) → c.add_all.new.list.items ≡ generated c.args.start c.args.count c.args.config
list_is c =
    c.in_ok-add_all.ensures ∙ ap (λ l. l ++ left_of c.new-work.result) c.in_ok-list.ensures.items
    ∙ c.new-work.ensures.left

pub returns-clause-list : goal.returns-clause-list
returns-clause-list c = list_is c

pub returns-clause-suits : goal.returns-clause-suits
returns-clause-suits c = rw (list_is c) (list_suits c.args.start c.args.count c.args.config)
