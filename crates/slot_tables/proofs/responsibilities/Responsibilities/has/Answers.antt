use Rattle.slot_tables.proofs.Common.{◌<◌, length, sym, ◌∙◌, ap, ltb, is_number}
use Rattle.slot_tables.proofs.OfAnswerers.Answering.{any_counted}
use Rattle.slot_tables.proofs.responsibilities.Responsibilities.has.Goals as goal

pub returns : goal.returns
returns c =
    let a = c.self.inside in
    let low : c.args.number < length a.answerers = rw (← c.self.view_is) at c.requires in
    let any = any_counted (is_number c.args.number) a.answerers in
    rw (← c.self.view_is) (ap (ltb 0) (sym (c.get.ensures 0) ∙ c.self.invariant.counts c.args.number low) ∙ sym any)
