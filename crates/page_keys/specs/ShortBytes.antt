-- How a short text of bytes is kept.
use Rattle.std.specs.Prelude.{◌≡◌, ◌≤◌, ◌-◌, ◌++◌, ℕ, List, take, replicate}
use Rattle.page_keys.specs.declared.short_bytes.ShortBytes.TheInside.{Inside}

abbrev pub short_of : Inside → List ℕ
short_of s = take s.len s.room

-- zeros are behind it
pub record ShortBytesInvariant (s : Inside) : Type 0 where
  pub few : s.len ≤ 15
  pub zeros : s.room ≡ short_of s ++ replicate (15 - s.len) 0
