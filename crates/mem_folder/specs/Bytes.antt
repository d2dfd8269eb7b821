-- The bytes of a file, once others are written over them or its length is changed.
use Rattle.std.specs.Prelude.{ℕ, ◌+◌, ◌-◌, List, ◌++◌, length, take, drop, replicate}

-- this many bytes of it, with zeros behind its end
abbrev pub filled : ℕ → List ℕ → List ℕ
filled size old = take size old ++ replicate (size - length old) 0

-- these bytes at an offset of it
abbrev pub overlay : ℕ → List ℕ → List ℕ → List ℕ
overlay offset bytes old = filled offset old ++ bytes ++ drop (offset + length bytes) old
