-- How a divisor is kept.
use Rattle.std.specs.Prelude.{◌≡◌, ℕ, ◌+◌, ◌/◌, ◌<◌, ◌^◌}
use Rattle.dense_tables.specs.declared.reciprocal.Reciprocal.TheInside.{Inside}

abbrev pub divisor_of : Inside → ℕ
divisor_of d = d.by

-- its reciprocal stands in units of 2 ^ -32, rounded up
pub record ReciprocalInvariant (d : Inside) : Type 0 where
  pub some : 0 < d.by
  pub reciprocal : d.reciprocal ≡ 2 ^ 32 / d.by + 1
