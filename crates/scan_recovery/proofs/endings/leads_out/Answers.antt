mod NameOrbits
use Rattle.scan_recovery.proofs.Common.{refl, sym, inl, inr, false≢true, absent_at}
use Rattle.scan_recovery.proofs.endings.leads_out.Answers.NameOrbits.{orbit_at, end_leads_out, round_never, aside_never}
use Rattle.scan_recovery.proofs.endings.leads_out.Goals as goal

pub returns-in-None : goal.returns-in-None
returns-in-None c = (λ t. (0, absent_at c.args.chart.now c.args.name (sym c.in-None.ensures)), λ out. refl)

pub returns-in-Ends : goal.returns-in-Ends
returns-in-Ends c =
    let l = c.args.chart.now in
    let is = orbit_at l c.args.name c.in-Some.place c.args.orbits.now c.orbit.result c.in-Some.ensures c.requires
    c.orbit.ensures in (
      λ t. end_leads_out l c.args.name c.in-Some.place c.in-Ends.after c.in-Ends.at (sym c.in-Some.ensures)
          (rw c.in-Ends.is at is),
      λ out. refl,
    )

pub returns-in-Round : goal.returns-in-Round
returns-in-Round c =
    let l = c.args.chart.now in
    let is = orbit_at l c.args.name c.in-Some.place c.args.orbits.now c.orbit.result c.in-Some.ensures c.requires
    c.orbit.ensures in (
      λ t. absurd (false≢true t),
      λ out. elim c.in-Round.is [
        | inl (turns, e) ↦ absurd (round_never l c.args.name c.in-Some.place turns (sym c.in-Some.ensures)
            (rw e at is) out)
        | inr e ↦ absurd (aside_never l c.args.name c.in-Some.place (sym c.in-Some.ensures) (rw e at is) out)
      ],
    )
