use Rattle.record_list.proofs.Common.{◌≡◌, ◌+◌, sym, ap, ◌∙◌, inl, inr, arith, false≢true, cases_lt, follow}
use Rattle.record_list.proofs.OfWalks.Follow.{one_more_link}
use Rattle.record_list.proofs.OfFacts.Names.{is_same_true, is_same_own}
use Rattle.record_list.proofs.OfWalks.Returns.{first_here, no_return}
use Rattle.record_list.proofs.count_law.first_return.Goals as goal

pub returns-then-eq : goal.returns-then-eq
returns-then-eq c =
    first_here c.args.list.now c.args.name c.loop-links.links
    (sym (c.link_of-at.ensures ∙ one_more_link c.args.list.now c.args.name c.loop-links.at c.loop-links.links
    c.loop-links.invariant.0)
    ∙ is_same_true c.link_of-at.result c.args.name (sym c.eq.ensures ∙ c.if-eq.true)) c.loop-links.invariant.1

pub loop-links-preserved : goal.loop-links-preserved
loop-links-preserved c =
    let at = c.link_of-at.ensures ∙ one_more_link c.args.list.now c.args.name c.loop-links.at c.loop-links.links
    c.loop-links.invariant.0 in (
      at,
      λ m some le e. elim (cases_lt m (c.loop-links.links + 1)) [
        | inl before ↦ c.loop-links.invariant.1 m some (omega arith) e
        | inr now ↦ (
            let is : m ≡ c.loop-links.links + 1 = omega arith in
            let back = at ∙ ap (follow c.args.list.now c.args.name) (sym is) ∙ e in
            false≢true (sym c.if-eq.false ∙ c.eq.ensures ∙ is_same_own c.link_of-at.result c.args.name back))
      ],
    )

pub returns : goal.returns
returns c = no_return c.args.list.now c.args.name (λ m some le. c.loop-links.invariant.1 m some
    (let far = c.loop-links-test.false in omega arith))
