-- The slots of a flash.
use Rattle.std.specs.Prelude.{ℕ, min, Option, None, Some}

-- the lower one of two slots, if there are any
abbrev pub lower : Option ℕ → Option ℕ → Option ℕ
lower None other = other
lower (Some at) None = Some at
lower (Some at) (Some other) = Some (min at other)
