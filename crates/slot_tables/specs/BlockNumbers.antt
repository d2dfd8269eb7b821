-- How the numbers of the blocks are kept.
use Rattle.std.specs.Prelude.{◌≡◌, ℕ, ◌<◌, ◌^◌, List, length, sum}
use Rattle.slot_tables.specs.declared.block_numbers.BlockNumbers.TheInside.{Inside}

abbrev pub numbers_of : Inside → List ℕ
numbers_of t = t.numbers

-- the sum is that of the numbers, of which there are few
pub record BlockNumbersInvariant (t : Inside) : Type 0 where
  pub sum : t.sum ≡ sum t.numbers
  pub few : length t.numbers < 2 ^ 32
