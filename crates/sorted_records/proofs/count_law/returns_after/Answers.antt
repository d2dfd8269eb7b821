use Rattle.sorted_records.proofs.Common.{refl, sym, ◌∙◌, eqb-true, eq-eqb}
use Rattle.record_list.proofs.OfWalks.Returns.{one_return}
use Rattle.sorted_records.proofs.OfWalk.NameReturns.{return_is_round, round_is_return, nowhere_returns, nowhere_once}
use Rattle.sorted_records.proofs.OfCount.CountLaw.{no_round}
use Rattle.sorted_records.proofs.count_law.returns_after.Goals as goal

pub returns-in-None : goal.returns-in-None
returns-in-None c =
    let l = c.args.chart.now in
    let none = sym c.requires.place ∙ c.in-None.is in (
      λ one n first. nowhere_once l c.args.name none n first ∙ sym (eqb-true c.args.count 1 one),
      λ all. eq-eqb c.args.count 1 (sym (all 1 (nowhere_returns l c.args.name none))),
    )

pub returns-in-Round : goal.returns-in-Round
returns-in-Round c =
    let l = c.args.chart.now in
    let at = sym c.requires.place ∙ c.in-Some.is in
    let length = c.in-Round.length in
    let first = round_is_return l c.args.name c.in-Some.place at c.args.orbits.now c.orbit.result c.requires.orbits
    c.orbit.ensures length c.in-Round.is in (
      λ same n r. one_return l c.args.name n length r first ∙ eqb-true length c.args.count same,
      λ all. eq-eqb length c.args.count (all length first),
    )

pub returns-in-Ends : goal.returns-in-Ends
returns-in-Ends c =
    let l = c.args.chart.now in
    let at = sym c.requires.place ∙ c.in-Some.is in (
      λ t n r. absurd (no_round n c.orbit.result c.in-Ends.is
          (return_is_round l c.args.name c.in-Some.place at c.args.orbits.now c.orbit.result c.requires.orbits
          c.orbit.ensures n r)),
      λ all. refl,
    )
