use Rattle.slot_tables.proofs.Common.{◌<◌, length, sym, ◌∙◌, subst, IfSome, tables_state}
use Rattle.slot_tables.proofs.OfLiveSlots.Needing.{home_lies}
use Rattle.slot_tables.proofs.base_tables.BaseTables.need_home.Goals as goal

pub set-requires : goal.set-requires
set-requires c =
    let k = tables_state c.args.self.now in
    let lies : c.in-Some.home < length k.slots =
    subst (λ o. IfSome o (λ at. at < length k.slots)) (sym c.home_of.ensures ∙ c.in-Some.is)
    (home_lies k c.args.number) in
    rw c.requires.live lies
