-- Without a spare the first slot is the home.
use Rattle.slot_tables.proofs.Common.{◌≡◌, ℕ, List, [], ◌∷◌, None, refl, sym, ◌∙◌, ap, find, slice_get, option_map, copies_of, is_outside_spare, Block}
use Rattle.std.specs.Option.{option_or}
use Rattle.tx_types.specs.declared.config.Shape.{Shape}
use Rattle.slot_tables.specs.TablesState.{home_in}
use Rattle.slot_tables.proofs.base_tables.BaseTables.lone_home.Goals as goal

unspared : (shape : Shape) (xs : List ℕ) →
    option_or (find (is_outside_spare shape None) xs) (slice_get xs 0) ≡ slice_get xs 0
unspared shape [] = refl
unspared shape (x ∷ xs) = refl

pub returns : goal.returns
returns c =
    let g = c.args.self.now in
    c.first.ensures
    ∙ sym (ap (λ spare. home_in g.shape (option_map (λ (b : Block). b.0) spare) g.slots c.args.number) c.requires.spare
    ∙ unspared g.shape (copies_of g.slots c.args.number))
