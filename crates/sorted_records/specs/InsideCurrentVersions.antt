-- What is so inside each standing.
use Rattle.std.specs.Prelude.{◌≡◌, IfSome, map}
use Rattle.std.specs.List.{range_with_len}
use Rattle.record_list.specs.Current.{cur}
use Rattle.sorted_records.specs.Minima.{AreMinima}
use Rattle.sorted_records.specs.declared.current_versions.CurrentVersions.TheInside.{Inside}

-- it has the current version of each page, and the least back versions of many records up to it
pub record CurrentVersionsInvariant (s : Inside) : Type 0 where
  pub current : s.current.items ≡ map (cur s.protocol s.chart s.logical) (range_with_len 0 s.logical)
  pub settled : IfSome s.settled (λ least. AreMinima s.chart s.current.items least.items)
