-- What a flash tells of the breaks to come, over one call and another.
use Rattle.std.proofs.Common.{◌≡◌, ℕ, Bool, true, false, not, Option, None, Some, arith}
use Rattle.std.specs.Prelude.{IfSome, IsSomeAnd}
use Rattle.flash_model.specs.Calls.{BothTell, NoMoreToCome, Spends}
use Rattle.flash_model.specs.Flash.{Told}
use Rattle.mounted_session.specs.Spending.{IsSpent}

-- what both tell, in two steps
pub both_tell : (P Q S : Told → Told → Type 0) → ((x y z : Told) → P x y → Q y z → S x z) → (a b c : Option Told) →
    BothTell P a b → BothTell Q b c → BothTell S a c
both_tell P Q S then None None None ab bc = tt
both_tell P Q S then None None (Some z) ab bc = absurd bc
both_tell P Q S then None (Some y) c ab bc = absurd ab
both_tell P Q S then (Some x) None c ab bc = absurd ab
both_tell P Q S then (Some x) (Some y) None ab bc = absurd bc
both_tell P Q S then (Some x) (Some y) (Some z) ab bc = then x y z ab bc

-- two facts of one step
pub both_tells : (P Q S : Told → Told → Type 0) → ((x y : Told) → P x y → Q x y → S x y) → (a b : Option Told) →
    BothTell P a b → BothTell Q a b → BothTell S a b
both_tells P Q S with None None p q = tt
both_tells P Q S with None (Some y) p q = absurd p
both_tells P Q S with (Some x) None p q = absurd p
both_tells P Q S with (Some x) (Some y) p q = with x y p q

-- and one of another
pub weaker_told : (P Q : Told → Told → Type 0) → ((x y : Told) → P x y → Q x y) → (a b : Option Told) →
    BothTell P a b → BothTell Q a b
weaker_told P Q weaker a b h = both_tells P P Q (λ x y p q. weaker x y p) a b h h

-- what is told after it
pub then_told : (P : Told → Told → Type 0) (Q : Told → Type 0) → ((x y : Told) → P x y → Q y) → (a b : Option Told) →
    BothTell P a b → IfSome b Q
then_told P Q then None None h = tt
then_told P Q then None (Some y) h = absurd h
then_told P Q then (Some x) None h = tt
then_told P Q then (Some x) (Some y) h = then x y h

-- where none was to come none is used up
pub none_spent : (a b : Option Told) (live : Bool) → IsSomeAnd a (λ told. (told.cuts ≡ 0) × (told.breaks ≡ 0)) →
    BothTell (Spends live) a b → ⊥
none_spent None b live none h = absurd none
none_spent (Some x) None live none h = h
none_spent (Some x) (Some y) true none h = let most = none.1 in omega (arith, h, most)
none_spent (Some x) (Some y) false none h = let most = none.0 in omega (arith, h, most)

-- ---- what is used up

module _ (cuts breaks : ℕ) where
  -- nothing
  none_is_spent : (cut broken : Bool) (x y : Told) → cut ≡ false → broken ≡ false → NoMoreToCome x y →
      IsSpent cut broken cuts breaks x y
  none_is_spent cut broken x y uncut whole less = record {
    cuts = rw uncut (let most = less.0 in omega arith);
    breaks = rw whole (let most = less.1 in omega arith);
  }

  pub spends_none : (cut broken : Bool) (a b : Option Told) → cut ≡ false → broken ≡ false →
      BothTell NoMoreToCome a b → BothTell (IsSpent cut broken cuts breaks) a b
  spends_none cut broken a b uncut whole = weaker_told NoMoreToCome (IsSpent cut broken cuts breaks)
      (λ x y. none_is_spent cut broken x y uncut whole) a b

  -- a fault where power is on, and else a cut
  one_is_spent : (live : Bool) (x y : Told) → NoMoreToCome x y → Spends live x y →
      IsSpent (not live) live cuts breaks x y
  one_is_spent true x y less spends = record { cuts = omega (arith, less.0); breaks = omega (arith, spends) }
  one_is_spent false x y less spends = record { cuts = omega (arith, spends); breaks = omega (arith, less.1) }

  pub spends_one : (live : Bool) (a b : Option Told) → BothTell NoMoreToCome a b → BothTell (Spends live) a b →
      BothTell (IsSpent (not live) live cuts breaks) a b
  spends_one live = both_tells NoMoreToCome (Spends live) (IsSpent (not live) live cuts breaks) (one_is_spent live)

  -- before or after it, where no more is to come
  pub spends_after : (cut broken : Bool) (a b d : Option Told) → BothTell NoMoreToCome a b →
      BothTell (IsSpent cut broken cuts breaks) b d → BothTell (IsSpent cut broken cuts breaks) a d
  spends_after cut broken = both_tell NoMoreToCome (IsSpent cut broken cuts breaks) (IsSpent cut broken cuts breaks)
      (λ x y z p q. record { cuts = omega (arith, p.0, q.cuts); breaks = omega (arith, p.1, q.breaks) })

  pub spends_before : (cut broken : Bool) (a b d : Option Told) → BothTell (IsSpent cut broken cuts breaks) a b →
      BothTell NoMoreToCome b d → BothTell (IsSpent cut broken cuts breaks) a d
  spends_before cut broken = both_tell (IsSpent cut broken cuts breaks) NoMoreToCome (IsSpent cut broken cuts breaks)
      (λ x y z p q. record { cuts = omega (arith, q.0, p.cuts); breaks = omega (arith, q.1, p.breaks) })
