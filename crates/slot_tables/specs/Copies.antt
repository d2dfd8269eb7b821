-- Rising lists of places, and the numbers of slots.
use Rattle.std.specs.Prelude.{ℕ, zero, suc, ◌<◌, Bool, nat_lt, Option, None, List}
use Rattle.std.specs.List.{AllPairs, slice_get}
use Rattle.slot_tables.specs.declared.slots.SlotUse.{SlotUse}
use Rattle.slot_tables.specs.declared.slots.SlotUse.TheVariants.{Blank, Damaged, Holds}

-- a list of rising numbers
unfoldable pub Rises : List ℕ → Type 0
Rises xs = AllPairs (λ x y. x < y) xs

abbrev pub is_above : ℕ → ℕ → Bool
is_above at other = nat_lt at other

-- the last of this many items at the front of a list, if there is one
abbrev pub last_of : List ℕ → ℕ → Option ℕ
last_of xs zero = None
last_of xs (suc n) = slice_get xs n

-- a number that a slot holds is below this one
abbrev pub NumbersBelow : ℕ → SlotUse → Type 0
NumbersBelow count Blank = Unit {0}
NumbersBelow count Damaged = Unit {0}
NumbersBelow count (Holds number) = number < count

-- a slot that is used so holds no record
abbrev pub HoldsNone : SlotUse → Type 0
HoldsNone Blank = Unit {0}
HoldsNone Damaged = Unit {0}
HoldsNone (Holds number) = ⊥
