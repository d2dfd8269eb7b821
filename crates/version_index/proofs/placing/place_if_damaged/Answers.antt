use Rattle.version_index.proofs.Common.{set, ap, sym, ◌∙◌, inl, inr}
use Rattle.version_index.specs.Filling.{first_use}
use Rattle.version_index.proofs.OfOpening.ScanSlots.{stays_blank}
use Rattle.version_index.proofs.placing.place_if_damaged.Goals as goal

pub returns-in-Damaged : goal.returns-in-Damaged
returns-in-Damaged c =
    let k = c.args.tables.now in
    c.set_slot.ensures
    ∙ ap (λ how. record k { slots = set k.slots c.args.at.0 (first_use how) }) (sym c.in-Damaged.is)

pub returns-in-Blank : goal.returns-in-Blank
returns-in-Blank c =
    stays_blank c.args.tables.now c.args.at.0 (first_use c.args.how) c.requires.blank (elim c.in-Blank.is [
      | inl blank ↦ ap first_use blank
      | inr complete ↦ ap first_use complete
    ])
