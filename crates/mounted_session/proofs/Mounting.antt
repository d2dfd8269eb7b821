-- What is left of a flash that was only read from, over one call and another.
use Rattle.std.proofs.Common.{◌≡◌, ◌⊎◌, ℕ, Bool, true, false, Result, Ok, Err, refl, sym, ap, ◌∙◌, subst, inl, inr, arith}
use Rattle.std.proofs.lemmas.Bool.{cases_Bool}
use Rattle.std.specs.Prelude.{IfErr}
use Rattle.flash_model.proofs.CallLemmas.{Carries-nothing, Carries-then, no_more_same, no_more_then}
use Rattle.flash_model.specs.Calls.{Carries, NoMoreToCome, Rose, Spends}
use Rattle.flash_model.specs.Flash.{FlashState, Told}
use Rattle.flash_model.specs.Operations.{moment_of}
use Rattle.mounted_session.specs.Mounting.{IsRefused, MeetsFault, MomentStays, StaysQuiet, powered}
use Rattle.mounted_session.proofs.Telling.{both_tell}

-- a flash on which nothing was done
pub nothing_done : (s : FlashState) → StaysQuiet s s
nothing_done s = record {
  still = record {
    moment = refl;
    shape = refl;
    later = omega arith;
    told = no_more_same s.told;
    extras = refl;
  };
  quiet = refl;
  reads = inl refl;
}

-- where power is on that is the flash itself
powered_is : (s : FlashState) → s.live ≡ true → powered s ≡ s
powered_is s on = ap (λ (b : Bool). record s { live = b }) (sym on)

-- reads of which none was broken
read_once : (a b : FlashState) → Carries a b false → (b ≡ a) ⊎ Carries (powered a) b false
read_once a b carries = elim (cases_Bool a.live) [
  | inl on ↦ inr (subst (λ (s : FlashState). Carries s b false) (sym (powered_is a on)) carries)
  | inr off ↦ inl (carries.dead off ∙ ap (λ (n : ℕ). record a { faults = n }) carries.quiet)
]

read_then : (a b c : FlashState) → (b ≡ a) ⊎ Carries (powered a) b false → Carries b c false →
    (c ≡ a) ⊎ Carries (powered a) c false
read_then a b c (inl same) carries =
    read_once a c (subst (λ (s : FlashState). Carries s c false) same carries)
read_then a b c (inr before) carries = inr (Carries-then (powered a) b c false before carries)

read_twice : (a b c : FlashState) → (b ≡ a) ⊎ Carries (powered a) b false →
    (c ≡ b) ⊎ Carries (powered b) c false → (c ≡ a) ⊎ Carries (powered a) c false
read_twice a b c before (inl same) =
    subst (λ (s : FlashState). (s ≡ a) ⊎ Carries (powered a) s false) (sym same) before
read_twice a b c (inl same) (inr carries) =
    inr (subst (λ (s : FlashState). Carries (powered s) c false) same carries)
read_twice a b c (inr before) (inr carries) =
    inr (Carries-then (powered a) b c false before
    (subst (λ (s : FlashState). Carries s c false) (powered_is b before.lives) carries))

-- reads after such
pub quiet_twice : (a b c : FlashState) → StaysQuiet a b → StaysQuiet b c → StaysQuiet a c
quiet_twice a b c ab bc = record {
  still = record {
    moment = bc.still.moment ∙ ab.still.moment;
    shape = bc.still.shape ∙ ab.still.shape;
    later = omega (arith, ab.still.later, bc.still.later);
    told = no_more_then a.told b.told c.told ab.still.told bc.still.told;
    extras = bc.still.extras ∙ ab.still.extras;
  };
  quiet = bc.quiet ∙ ab.quiet;
  reads = read_twice a b c ab.reads bc.reads;
}

-- a break later on
later_spends : (live : Bool) (x y z : Told) → NoMoreToCome x y → Spends live y z → Spends live x z
later_spends true x y z less spends = omega (arith, less.1, spends)
later_spends false x y z less spends = omega (arith, less.0, spends)

-- reads after it, of which none was broken, or one was
module _ (a b c : FlashState) (quiet : StaysQuiet a b) (moment : moment_of c ≡ moment_of b) where
  still_then : (broken : Bool) → Carries b c broken → MomentStays a c
  still_then broken carries = record {
    moment = moment ∙ quiet.still.moment;
    shape = carries.shape ∙ quiet.still.shape;
    later = omega (arith, quiet.still.later, carries.later);
    told = no_more_then a.told b.told c.told quiet.still.told carries.no_more;
    extras = carries.extras ∙ quiet.still.extras;
  }

  pub quiet_then : Carries b c false → StaysQuiet a c
  quiet_then carries = record {
    still = still_then false carries;
    quiet = carries.quiet ∙ quiet.quiet;
    reads = read_then a b c quiet.reads carries;
  }

  pub fault_then : Carries (powered a) b false → b.live ≡ true → Carries b c true → MeetsFault a c
  fault_then before on carries = record {
    still = still_then true carries;
    rose = subst (λ n. Rose n c.faults) quiet.quiet carries.cause;
    spends = both_tell NoMoreToCome (Spends c.live) (Spends c.live) (later_spends c.live) a.told b.told c.told
        quiet.still.told (carries.spends on);
    carries = Carries-then (powered a) b c true before carries;
  }

-- a flash that was read, where no read was broken
pub read_quiet : (a b : FlashState) → moment_of b ≡ moment_of a → Carries a b false → StaysQuiet a b
read_quiet a b moment carries = quiet_then a a b (nothing_done a) moment carries

-- of a flash with power
live_reads : (a b : FlashState) → a.live ≡ true → StaysQuiet a b → Carries a b false
live_reads a b on quiet = elim quiet.reads [
  | inl same ↦ subst (λ (s : FlashState). Carries a s false) (sym same) (Carries-nothing a)
  | inr calls ↦ subst (λ (s : FlashState). Carries s b false) (powered_is a on) calls
]

pub refused_calls : {F S W : Type 0} (refuses : W → Type 0) (state : F → FlashState) (flash : F)
    (result : Result S (F × W)) → (state flash).live ≡ true →
    IfErr result (λ e. IsRefused refuses (state flash) (state e.0) e.1) →
    IfErr result (λ e. Carries (state flash) (state e.0) false)
refused_calls refuses state flash (Ok s) on h = tt
refused_calls refuses state flash (Err e) on h = live_reads (state flash) (state e.0) on h.still
