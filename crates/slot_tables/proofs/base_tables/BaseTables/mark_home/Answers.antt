use Rattle.slot_tables.proofs.Common.{◌<◌, length, Some, sym, ◌∙◌, subst, IfSome, tables_state}
use Rattle.slot_tables.proofs.OfLiveSlots.Needing.{home_lies}
use Rattle.slot_tables.proofs.base_tables.BaseTables.mark_home.Goals as goal

pub set-requires : goal.set-requires
set-requires c =
    let k = tables_state c.args.self.now in
    let lies : c.in-Some.at < length k.slots =
    subst (λ o. IfSome o (λ at. at < length k.slots)) (sym c.lone_home.ensures ∙ c.in-Some.is)
    (home_lies k (Some c.args.number)) in
    rw c.requires.slots lies
