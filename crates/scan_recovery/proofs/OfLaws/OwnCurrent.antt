-- Law 4 of a record that is current.
use Rattle.scan_recovery.proofs.Common.{◌≡◌, ℕ, true, List, sym, ◌∙◌, subst, inl, inr, arith, cases_eq, Protocol, Found, is_present, cur, CurrentIsPresent}
use Rattle.record_list.proofs.OfFacts.Names.{newest_present}

pub own_current : (p : Protocol) (list : List Found) (logical : ℕ) (f : Found) →
    f.rec.version ≡ cur p list logical f.rec.page →
    CurrentIsPresent p list logical f
own_current p list logical f own = λ newest_is. elim (cases_eq (cur p list logical f.rec.page) 0) [
  | inl none ↦ inl none
  | inr some ↦
      inr (subst (λ v. is_present list (record { page = f.rec.page; version = v }) ≡ true) (sym newest_is ∙ own)
      (newest_present list f.rec.page (omega arith)))
]
