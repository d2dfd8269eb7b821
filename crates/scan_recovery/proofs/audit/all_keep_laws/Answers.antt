-- One record more keeps the laws.
use Rattle.scan_recovery.proofs.Common.{◌≡◌, ◌<◌, length, get_or, sym, ap, ◌∙◌, subst, inl, inr, arith, cases_lt, get_or_default, nothing}
use Rattle.scan_recovery.specs.Searches.{KeepsLaws, HasCountKept}
use Rattle.scan_recovery.proofs.audit.all_keep_laws.Goals as goal

pub loop-at-preserved : goal.loop-at-preserved
loop-at-preserved c =
    let s = c.args.standing.now in
    let list = s.list in
    let at = c.loop-at.at in
    let before = c.loop-at.invariant in
    let same = c.sorted_records-chart.ensures in
    let low : at < length list = rw (c.records-at-end.ensures.records ∙ same) at c.loop-at-test.true in
    let laws : KeepsLaws s (get_or list at nothing) =
    rw (c.records.ensures.records ∙ same) at (c.keeps_laws.ensures c.if-not-keeps_laws.false) in
    let count : HasCountKept c.args.orbits.now list (get_or list at nothing) =
    rw same at (c.keeps_count.ensures c.if-not-keeps_count.false) in
    record {
      laws = λ k d less. elim (cases_lt k at) [
        | inl early ↦ before.laws k d early
        | inr late ↦ (
            let here : k ≡ at = omega arith in
            subst (KeepsLaws s) (sym (ap (λ i. get_or list i d) here ∙ get_or_default list at d nothing low)) laws)
      ];
      counts = λ k d less. elim (cases_lt k at) [
        | inl early ↦ before.counts k d early
        | inr late ↦ (
            let here : k ≡ at = omega arith in
            subst (HasCountKept c.args.orbits.now list)
            (sym (ap (λ i. get_or list i d) here ∙ get_or_default list at d nothing low)) count)
      ];
      size = rw same at c.is_linked_once.ensures.size;
      marked = rw same at (c.is_linked_once.ensures.marked c.if-not-is_linked_once.false);
      once = rw same at (c.is_linked_once.ensures.once c.if-not-is_linked_once.false);
      absent = rw same at c.note_absent.ensures;
    }
