-- What one call after another keeps.
use Rattle.std.proofs.Common.{◌≡◌, ℕ, ◌+◌, Bool, true, false, Option, None, Some, refl, ap, ◌∙◌, arith}
use Rattle.std.specs.Prelude.{IsSomeAnd}
use Rattle.flash_model.specs.Flash.{FlashState, Told, counted_by, IsSteady}
use Rattle.flash_model.specs.Calls.{BothTell, NoMoreToCome, Spends, Carries}
use Rattle.flash_model.proofs.ComingLemmas.{Starts-nothing, Starts-then}

-- a count that goes up twice
pub counted_by-twice : (more most n : ℕ) → counted_by most (counted_by more n) ≡ counted_by (more + most) n
counted_by-twice more most n = omega arith

-- what a flash tells stays told, and no more is to come
pub no_more_then : (a b c : Option Told) → BothTell NoMoreToCome a b → BothTell NoMoreToCome b c →
    BothTell NoMoreToCome a c
no_more_then None None None ab bc = tt
no_more_then None None (Some z) ab bc = absurd bc
no_more_then None (Some y) c ab bc = absurd ab
no_more_then (Some x) None c ab bc = absurd ab
no_more_then (Some x) (Some y) None ab bc = absurd bc
no_more_then (Some x) (Some y) (Some z) ab bc = (omega (arith, ab.0, bc.0), omega (arith, ab.1, bc.1))

-- where it tells the same, none more is to come
pub no_more_same : (a : Option Told) → BothTell NoMoreToCome a a
no_more_same None = tt
no_more_same (Some x) = (omega arith, omega arith)

spends_then : (live : Bool) (a b c : Option Told) → BothTell NoMoreToCome a b → BothTell (Spends live) b c →
    BothTell (Spends live) a c
spends_then live None None None ab bc = tt
spends_then live None None (Some z) ab bc = absurd bc
spends_then live None (Some y) c ab bc = absurd ab
spends_then live (Some x) None c ab bc = absurd ab
spends_then live (Some x) (Some y) None ab bc = absurd bc
spends_then true (Some x) (Some y) (Some z) ab bc = omega (arith, ab.1, bc)
spends_then false (Some x) (Some y) (Some z) ab bc = omega (arith, ab.0, bc)

-- where nothing was called, nothing changes
pub Carries-nothing : (s : FlashState) → Carries s s false
Carries-nothing s = record {
  shape = refl;
  later = omega arith;
  cause = tt;
  quiet = refl;
  lives = refl;
  dead = λ off. refl;
  no_more = no_more_same s.told;
  extras = refl;
  spends = tt;
  starts = λ on. Starts-nothing s;
}

dead_then : (a b c : FlashState) → Carries a b false → Carries b c true → a.live ≡ false →
    c ≡ record a { faults = c.faults }
dead_then a b c ab bc off =
    bc.dead (ab.lives ∙ off) ∙ ap (λ (s : FlashState). record s { faults = c.faults }) (ab.dead off)

-- a call that was not broken and then another
pub Carries-then : (a b c : FlashState) (broken : Bool) → Carries a b false → Carries b c broken → Carries a c broken
Carries-then a b c true ab bc = record {
  shape = bc.shape ∙ ab.shape;
  later = omega (arith, ab.later, bc.later);
  cause = omega (arith, ab.later, bc.cause);
  quiet = tt;
  lives = tt;
  dead = dead_then a b c ab bc;
  no_more = no_more_then a.told b.told c.told ab.no_more bc.no_more;
  extras = bc.extras ∙ ab.extras;
  spends = λ on. spends_then c.live a.told b.told c.told ab.no_more (bc.spends (ab.lives ∙ on));
  starts = λ on. Starts-then a b c true (ab.starts on) (bc.starts (ab.lives ∙ on));
}
Carries-then a b c false ab bc = record {
  shape = bc.shape ∙ ab.shape;
  later = omega (arith, ab.later, bc.later);
  cause = tt;
  quiet = bc.quiet ∙ ab.quiet;
  lives = bc.lives ∙ ab.lives;
  dead = λ off.
      bc.dead (ab.lives ∙ off) ∙ ap (λ (s : FlashState). record s { faults = c.faults }) (ab.dead off);
  no_more = no_more_then a.told b.told c.told ab.no_more bc.no_more;
  extras = bc.extras ∙ ab.extras;
  spends = tt;
  starts = λ on. Starts-then a b c false (ab.starts on) (bc.starts (ab.lives ∙ on));
}

abbrev NoneComes : Option Told → Type 0
NoneComes told = IsSomeAnd told (λ t. (t.cuts ≡ 0) × (t.breaks ≡ 0))

none_spent : (live : Bool) (a b : Option Told) → NoneComes a → BothTell (Spends live) a b → ⊥
none_spent live None b none spends = absurd none
none_spent live (Some x) None none spends = spends
none_spent true (Some x) (Some y) none spends = omega (arith, none.1, spends)
none_spent false (Some x) (Some y) none spends = omega (arith, none.0, spends)

none_comes_still : (a b : Option Told) → NoneComes a → BothTell NoMoreToCome a b → NoneComes b
none_comes_still None b none no_more = absurd none
none_comes_still (Some x) None none no_more = absurd no_more
none_comes_still (Some x) (Some y) none no_more =
    (omega (arith, none.0, no_more.0), omega (arith, none.1, no_more.1))

-- no call on a steady flash is broken
pub steady_unbroken : (old new : FlashState) → IsSteady old → Carries old new true → ⊥
steady_unbroken old new steady carries =
    none_spent new.live old.told new.told steady.none (carries.spends steady.live)

-- and it stays steady
pub IsSteady-carries : (old new : FlashState) → IsSteady old → Carries old new false → IsSteady new
IsSteady-carries old new steady carries = record {
  live = carries.lives ∙ steady.live;
  none = none_comes_still old.told new.told steady.none carries.no_more;
}

-- so each call on a steady flash leaves it steady
pub IsSteady-stays : (old new : FlashState) (broken : Bool) → IsSteady old → Carries old new broken → (broken ≡ false)
    × IsSteady new
IsSteady-stays old new true steady carries = absurd (steady_unbroken old new steady carries)
IsSteady-stays old new false steady carries = (refl, IsSteady-carries old new steady carries)
