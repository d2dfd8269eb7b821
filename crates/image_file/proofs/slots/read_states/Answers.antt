use Rattle.image_file.proofs.Common.{◌≡◌, get_or, None, ap, sym, ◌∙◌, arith, take_all, is_none, option_map, seen_from, all_seen}
use Rattle.list_lemmas.proofs.Positions.{position-at, position-none}
use Rattle.image_file.specs.declared.error.ImageError.TheVariants as error
use Rattle.image_file.proofs.slots.read_states.Goals as goal

pub returns-in_default : goal.returns-in_default
returns-in_default c =
    ap (option_map (λ at. error.SlotState (record { 0 = at })))
    (position-at (λ state. is_none (seen_from state)) c.args.states.now 0 c.loop-at.at (omega arith)
    c.loop-at.invariant.known
    (let unknown : seen_from (get_or c.args.states.now c.loop-at.at 0) ≡ None = sym c.seen_from.ensures
    ∙ c.in_default.is in ap is_none unknown))

pub returns : goal.returns
returns c = (
  position-none (λ state. is_none (seen_from state)) c.args.states.now 0
      (λ k inside. c.loop-at.invariant.known k (omega arith)),
  c.loop-at.invariant.read ∙ ap all_seen (take_all c.loop-at.at c.args.states.now (omega arith)),
)
