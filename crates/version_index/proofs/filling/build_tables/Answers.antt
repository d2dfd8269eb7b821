-- The tables that are filled are blank before.
use Rattle.version_index.proofs.Common.{◌≤◌, length, sym, subst, ap, ◌∙◌, false, slots_of, blocks_of, TablesState}
use Rattle.std.proofs.Common.{replicate}
use Rattle.version_index.specs.Scanned.{CanFill}
use Rattle.version_index.proofs.filling.build_tables.Goals as goal

pub fill-requires-clause-fills : goal.fill-requires-clause-fills
fill-requires-clause-fills c = (
  c.requires.fills.0,
  subst (λ (k : TablesState). CanFill c.args.logical c.args.seen.now c.requires.fills.0 c.args.standing.now.list k)
      (sym c.in_ok-tables.ensures)
      c.requires.fills.1,
)

pub fill-requires-clause-few : goal.fill-requires-clause-few
fill-requires-clause-few c =
    subst (λ (k : TablesState). length c.args.standing.now.list ≤ slots_of k.shape) (sym c.in_ok-tables.ensures)
    c.requires.few

pub returns-in-Ok-clause-found : goal.returns-in-Ok-clause-found
returns-in-Ok-clause-found c list can =
    c.in-Ok.ensures.found list
    (subst (λ (k : TablesState). CanFill c.args.logical c.args.seen.now list c.args.standing.now.list k)
    (sym c.in_ok-tables.ensures) can)

pub returns-in-Ok-clause-none_closed : goal.returns-in-Ok-clause-none_closed
returns-in-Ok-clause-none_closed c =
    c.in-Ok.ensures.none_closed ∙ ap (λ (k : TablesState). replicate (blocks_of k.shape) false) c.in_ok-tables.ensures
