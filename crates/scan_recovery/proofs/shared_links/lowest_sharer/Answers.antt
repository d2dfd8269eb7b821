-- The record at hand, beside the one before it.
use Rattle.scan_recovery.proofs.Common.{◌≡◌, ◌+◌, ◌-◌, suc, true, Some, sym, ap, ◌∙◌, subst, arith, get_or, false≢true, nothing}
use Rattle.scan_recovery.specs.Searches.{share_link, NextShares, next_slot}
use Rattle.std.specs.Option.{option_map}
use Rattle.tx_types.specs.Slots.{lower}
use Rattle.scan_recovery.proofs.OfLinks.SharedLinks.{lowest_yes, lowest_no}
use Rattle.scan_recovery.proofs.shared_links.lowest_sharer.Goals as goal
use Rattle.scan_recovery.proofs.shared_links.lowest_sharer.Goals.{then-share_link, else-share_link}

pub loop-at-preserved : goal.loop-at-preserved
loop-at-preserved c =
    let l = c.args.by_link.now in
    let n = c.loop-at.at - 1 in
    let next : suc n ≡ c.loop-at.at = omega arith in
    elim c.if-share_link.branch [
      | then-share_link w ↦
          rw w.lowest-is
          (lowest_yes (NextShares l) (next_slot l) n (c.loop-at.at + 1 - 1) c.loop-at.lowest w.lower-lowest.result
          (omega arith)
          (w.lower-lowest.ensures
          ∙ ap (λ k. lower (option_map (λ s. s.0) c.loop-at.lowest) (Some (get_or l k nothing).slot.0)) (sym next))
          c.loop-at.invariant
          (subst (λ k. share_link (get_or l n nothing).rec (get_or l k nothing).rec ≡ true) (sym next)
          (sym c.share_link.ensures ∙ w.if-share_link.true)))
      | else-share_link w ↦
          rw w.lowest-is
          (lowest_no (NextShares l) (next_slot l) n (c.loop-at.at + 1 - 1) c.loop-at.lowest (omega arith)
          c.loop-at.invariant
          (λ shared. false≢true (sym w.if-share_link.false ∙ c.share_link.ensures
          ∙ subst (λ k. share_link (get_or l n nothing).rec (get_or l k nothing).rec ≡ true) next shared)))
    ]
