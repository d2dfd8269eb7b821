-- Options: one of two, and mapped ones.
use Rattle.std.proofs.Common.{◌≡◌, Option, Some, None, ◌⊎◌, refl, inl, inr}
use Rattle.std.specs.Option.{option_or}
use Rattle.std.specs.Prelude.{option_map}

-- nothing, or something
pub cases_Option : {X : Type 0} (o : Option X) → (o ≡ None) ⊎ ((x : X) × (o ≡ Some x))
cases_Option None = inl refl
cases_Option (Some x) = inr (x, refl)

-- one of two gives what both give
pub option_or_some : {B : Type 0} (o p : Option B) (y : B) → option_or o p ≡ Some y →
    (o ≡ Some y) ⊎ ((o ≡ None) × (p ≡ Some y))
option_or_some None p y h = inr (refl, h)
option_or_some (Some x) p y h = inl h

-- both give nothing
pub option_or_none : {B : Type 0} (o p : Option B) → option_or o p ≡ None → (o ≡ None) × (p ≡ None)
option_or_none None p h = (refl, h)
option_or_none (Some x) p h = cc

-- three in a row
pub option_or_assoc : {B : Type 0} (o p q : Option B) → option_or (option_or o p) q ≡ option_or o (option_or p q)
option_or_assoc None p q = refl
option_or_assoc (Some x) p q = refl

-- where nothing comes of a mapped one, nothing was there
pub map_none : {X Y : Type 0} (f : X → Y) (o : Option X) → option_map f o ≡ None → o ≡ None
map_none f None h = refl
map_none f (Some x) h = cc
