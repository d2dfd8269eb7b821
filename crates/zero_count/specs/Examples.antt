-- Slots of two own bytes, and what torn writes of them leave.
use Rattle.std.specs.Prelude.{ℕ, List, [], ◌∷◌}

-- four zero bits
abbrev pub slot : List ℕ
slot = 15 ∷ 255 ∷ 4 ∷ 0 ∷ 0 ∷ 0 ∷ []

-- the number came first
abbrev pub number_first : List ℕ
number_first = 255 ∷ 255 ∷ 4 ∷ 0 ∷ 0 ∷ 0 ∷ []

-- the last byte of the number is not there yet
abbrev pub number_torn : List ℕ
number_torn = 15 ∷ 255 ∷ 4 ∷ 0 ∷ 0 ∷ 255 ∷ []

-- no own byte has a zero bit: complete, though its own bytes are those of an erased slot
abbrev pub all_set : List ℕ
all_set = 255 ∷ 255 ∷ 0 ∷ 0 ∷ 0 ∷ 0 ∷ []

-- a slot without contents that is written as zeros, torn over an erased one, is whole
abbrev pub zeros_torn : List ℕ
zeros_torn = 255 ∷ 255 ∷ 0 ∷ 0 ∷ 0 ∷ 0 ∷ []
