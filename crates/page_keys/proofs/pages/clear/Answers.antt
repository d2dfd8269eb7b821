use Rattle.page_keys.proofs.Common.{ap, List, set, ◌∙◌, ℕ}
use Rattle.page_keys.proofs.OfStore.StoreReads.{zeros_more}
use Rattle.page_keys.proofs.pages.clear.Goals as goal

pub loop-i-preserved : goal.loop-i-preserved
loop-i-preserved c =
    ap (λ (l : List ℕ). set l c.loop-i.i 0) c.loop-i.invariant
    ∙ zeros_more c.args.room.now c.loop-i.i c.loop-i-test.true
