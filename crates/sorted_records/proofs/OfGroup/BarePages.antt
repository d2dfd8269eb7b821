-- A page that has no record has no current version.
use Rattle.sorted_records.proofs.Common.{◌≡◌, ◌≢◌, ℕ, ◌<◌, refl, None, false, List, length, inl, inr, arith, position, cases_Bool, Found, newest, version_of, has_name, record_at, nothing, has_name_true, name_of, ap, cur}
use Rattle.list_lemmas.proofs.Positions.{position-none}
use Rattle.tx_types.specs.declared.config.Protocol.{Protocol}
use Rattle.record_list.specs.Verdict.{newest_name}
use Rattle.sorted_records.proofs.OfGroup.Readings.{version_other, greatest_is}
use Rattle.sorted_records.proofs.OfWalk.WalkOrbits.{why_none}

module _ (l : List Found) (page : ℕ) (bare : (k : ℕ) → k < length l → (record_at l k).page ≢ page) where
  none_newest : newest l page ≡ 0
  none_newest = greatest_is (version_of page) l 0
      (λ k low. let e = version_other page (record_at l k) (bare k low) in omega arith) (inl refl)

  none_named : position (λ f. has_name (newest_name l page) f.rec) l ≡ None
  none_named = position-none (λ f. has_name (newest_name l page) f.rec) l nothing
      (λ k low. elim (cases_Bool (has_name (newest_name l page) (record_at l k))) [
        | inl same ↦ absurd (bare k low (ap (λ n. n.page) (has_name_true (newest_name l page) (record_at l k) same)))
        | inr other ↦ other
      ])

  pub bare_current : (protocol : Protocol) (logical : ℕ) → cur protocol l logical page ≡ 0
  bare_current protocol logical = rw (why_none protocol l logical page none_named) none_newest
