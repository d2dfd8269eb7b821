-- The marks are those of the needed slots.
use Rattle.slot_tables.proofs.Common.{◌≡◌, ◌*◌, Bool, false, length, sym, ◌∙◌, ap, arith, length-map, length-replicate, slots_of, is_blank}
use Rattle.slot_tables.proofs.OfBaseTables.RefreshedAll.{unmarked}
use Rattle.slot_tables.proofs.base_tables.BaseTables.find_needs.Goals as goal

pub new-requires-clause-small : goal.new-requires-clause-small
new-requires-clause-small c = rw c.blocks-blocks.ensures (omega (arith, c.requires.sized.kept.shape.slots_most))

pub mark_needed-requires-clause-slots : goal.mark_needed-requires-clause-slots
mark_needed-requires-clause-slots c =
    let g = c.args.self.now in
    let whole : c.blocks-blocks.result * g.shape.pages_per_block ≡ slots_of g.shape =
    rw c.blocks-blocks.ensures (omega arith) in
    ap (λ m. length m.marks) c.in-Ok.ensures
    ∙ length-replicate {A = Bool} (c.blocks-blocks.result * g.shape.pages_per_block) false
    ∙ whole ∙ sym c.requires.sized.kept.slots

pub mark_needed-requires-clause-none : goal.mark_needed-requires-clause-none
mark_needed-requires-clause-none c at = rw c.in-Ok.ensures
    (unmarked (c.blocks-blocks.result * c.args.self.now.shape.pages_per_block) at)

pub new-requires-in-Ok-clause-needed : goal.new-requires-in-Ok-clause-needed
new-requires-in-Ok-clause-needed c =
    let g = c.args.self.now in
    let whole : c.blocks-blocks.result * g.shape.pages_per_block ≡ slots_of g.shape =
    rw c.blocks-blocks.ensures (omega arith) in
    c.mark_needed.ensures.slots ∙ c.requires.sized.kept.slots ∙ sym whole
    ∙ ap (λ k. c.blocks-blocks.result * k) (sym (c.mark_needed.ensures.size ∙ ap (λ m. m.size) c.in-Ok.ensures))

pub new-requires-in-Ok-clause-blanks : goal.new-requires-in-Ok-clause-blanks
new-requires-in-Ok-clause-blanks c =
    let g = c.args.self.now in
    let whole : c.blocks-blocks.result * g.shape.pages_per_block ≡ slots_of g.shape =
    rw c.blocks-blocks.ensures (omega arith) in
    ap length c.requires.blanks.marks ∙ length-map g.slots is_blank ∙ c.requires.sized.kept.slots ∙ sym whole
    ∙ ap (λ k. c.blocks-blocks.result * k) (sym (c.mark_needed.ensures.size ∙ ap (λ m. m.size) c.in-Ok.ensures))
