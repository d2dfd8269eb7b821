use Rattle.page_keys.proofs.Common.{ℕ, List, sym, ap, subst, ◌∙◌, DoesHere, KeyCommand}
use Rattle.page_keys.specs.declared.command.KeyCommand.TheVariants as command
use Rattle.page_keys.proofs.key_calls.execute.Goals as goal

pub returns-in-Get-clause-ok : goal.returns-in-Get-clause-ok
returns-in-Get-clause-ok g c m shows =
    subst (λ (x : KeyCommand).
    DoesHere g.F.Flash.state x m c.args.store.now c.get.new.store c.get.result)
    (ap (λ (k : List ℕ). command.Get k) c.as_slice.ensures.bytes ∙ sym c.in-Get.is)
    (c.get.ensures m shows)
