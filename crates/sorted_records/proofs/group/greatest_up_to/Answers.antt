-- The record that answers for a name has the greatest version that straddles it.
use Rattle.sorted_records.proofs.Common.{◌≡◌, ℕ, ◌<◌, ◌≤◌, true, List, length, get_or, ◌∙◌, subst, inl, inr, arith, cond-true, cond-false, cases_Bool, get_or_default, Link, Found, straddling_upto, greatest, nothing, greatest_bound, greatest_least}
use Rattle.std.proofs.lemmas.List.Elements.{Contains-get_or}
use Rattle.straddle_sets.specs.Responsible.{may_answer, IsBehind}
use Rattle.sorted_records.proofs.group.greatest_up_to.Goals as goal

module _ (list : List Found) (name : Link) (top : ℕ) where
  abbrev at_place : ℕ → Found
  at_place k = get_or list k nothing

  -- a bound on what may answer bounds all
  bounded : (most : ℕ) → ((k : ℕ) → k < length list → may_answer name top (at_place k).rec ≡ true →
      (at_place k).rec.version ≤ most) →
      greatest (straddling_upto top name) list ≤ most
  bounded most all = greatest_least (straddling_upto top name) list most (λ f (k, below, is).
      let same : at_place k ≡ f = get_or_default list k nothing f below ∙ is in
      subst (λ (g : Found). straddling_upto top name g.rec ≤ most) same
      (elim (cases_Bool (may_answer name top (at_place k).rec)) [
        | inl may ↦ rw (cond-true (may_answer name top (at_place k).rec) (at_place k).rec.version 0 may)
            (all k below may)
        | inr off ↦ rw (cond-false (may_answer name top (at_place k).rec) (at_place k).rec.version 0 off) (omega arith)
      ]))

  answers : (at : ℕ) → at < length list → may_answer name top (at_place at).rec ≡ true →
      ((k : ℕ) → k < length list → may_answer name top (at_place k).rec ≡ true → IsBehind (at_place k) (at_place at)) →
      (at_place at).rec.version ≡ greatest (straddling_upto top name) list
  answers at below may first =
      let own : straddling_upto top name (at_place at).rec ≡ (at_place at).rec.version =
      cond-true (may_answer name top (at_place at).rec) (at_place at).rec.version 0 may in
      let low = greatest_bound (straddling_upto top name) list (at_place at) (Contains-get_or list at nothing below) in
      let high = bounded (at_place at).rec.version (λ k less has. elim (first k less has) [
        | inl lower ↦ omega arith
        | inr same ↦ omega (arith, same.0)
      ]) in
      omega (arith, own)

pub returns-in-Some : goal.returns-in-Some
returns-in-Some c = answers c.args.group.now c.args.name c.args.top c.in-Some.at c.in-Some.ensures.0 c.in-Some.ensures.1
    c.in-Some.ensures.2

pub returns-in-None : goal.returns-in-None
returns-in-None c =
    let none = bounded c.args.group.now c.args.name c.args.top 0
    (λ k less has. absurd (let off = c.in-None.ensures k less in cc)) in
    omega arith
