-- What calls keep of which the last may retire a block.
use Rattle.std.proofs.Common.{◌≡◌, Bool, false, Option, refl, ap, sym, ◌∙◌, subst}
use Rattle.flash_model.specs.Flash.{FlashState, Extras, IsSteady}
use Rattle.flash_model.specs.Calls.{Carries}
use Rattle.flash_model.specs.Retiring.{with_extras, CarriesRetiring}
use Rattle.flash_model.proofs.CallLemmas.{Carries-then, IsSteady-stays}

-- a call keeps what it keeps whatever is told of retired blocks
Carries-with_extras : (a b : FlashState) (extras : Option Extras) (broken : Bool) → Carries a b broken
    → Carries (with_extras a extras) (with_extras b extras) broken
Carries-with_extras a b extras broken ab = record {
  shape = ab.shape;
  later = ab.later;
  cause = ab.cause;
  quiet = ab.quiet;
  lives = ab.lives;
  dead = λ off. ap (λ (s : FlashState). with_extras s extras) (ab.dead off);
  no_more = ab.no_more;
  extras = refl;
  spends = ab.spends;
  starts = ab.starts;
}

-- a call that retires no block keeps what one keeps that may
pub CarriesRetiring-carries : (a b : FlashState) (broken : Bool) → Carries a b broken → CarriesRetiring a b broken
CarriesRetiring-carries a b broken ab = record {
  carries = subst (λ (extras : Option Extras). Carries (with_extras a extras) b broken) (sym ab.extras) ab;
  dead = λ off. ab.extras;
}

-- a call that was not broken, and then one that may retire a block
pub CarriesRetiring-then : (a b c : FlashState) (broken : Bool) → Carries a b false → CarriesRetiring b c broken
    → CarriesRetiring a c broken
CarriesRetiring-then a b c broken ab bc = record {
  carries =
      Carries-then (with_extras a c.extras) (with_extras b c.extras) c broken
      (Carries-with_extras a b c.extras false ab) bc.carries;
  dead = λ off. bc.dead (ab.lives ∙ off) ∙ ab.extras;
}

-- one that may retire a block and was not broken, and then another call
pub CarriesRetiring-before : (a b c : FlashState) (broken : Bool) → CarriesRetiring a b false → Carries b c broken
    → CarriesRetiring a c broken
CarriesRetiring-before a b c broken ab bc = record {
  carries =
      subst (λ (extras : Option Extras). Carries (with_extras a extras) c broken) (sym bc.extras)
      (Carries-then (with_extras a b.extras) b c broken ab.carries bc);
  dead = λ off. bc.extras ∙ ab.dead off;
}

-- it is not broken on a steady flash, which stays steady
pub IsSteady-retiring : (old new : FlashState) (broken : Bool) → IsSteady old → CarriesRetiring old new broken
    → (broken ≡ false) × IsSteady new
IsSteady-retiring old new broken steady keeps =
    IsSteady-stays (with_extras old new.extras) new broken (record { live = steady.live; none = steady.none })
    keeps.carries
