-- Where the records in order of their names keep law 9, so do those of the list.
use Rattle.scan_recovery.proofs.Common.{◌≡◌, Option, Some, None, List, All, Found, IsScanned, CopiesAgree, Sorts}
use Rattle.record_list.specs.Counts.{KeepsCount, IsFirstMiscount}
use Rattle.record_list.proofs.OfChanges.Counting.{none_counted}
use Rattle.sorted_records.specs.declared.orbit.Orbit.{Orbit}
use Rattle.sorted_records.proofs.OfCount.CountLaw.{miscounts_alike}
use Rattle.scan_recovery.specs.Searches.{KeepCounts}
use Rattle.scan_recovery.proofs.OfLaws.LawsAlike.{all_back}

pub none_miscounted : (list sorted : List Found) → Sorts list sorted → All (CopiesAgree list) list → IsScanned list →
    (orbits : Option (List Orbit)) → KeepCounts orbits sorted → IsFirstMiscount list None
none_miscounted list sorted sorts copies scanned None kept =
    none_counted list (all_back list sorted sorts (λ f. f.rec.count ≡ 0) kept)
none_miscounted list sorted sorts copies scanned (Some orbits) kept =
    miscounts_alike list sorted sorts copies scanned None (all_back list sorted sorts (KeepsCount sorted) kept)
