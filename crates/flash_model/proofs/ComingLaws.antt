-- When a cut comes.
use Rattle.std.proofs.Common.{◌≡◌, ℕ, zero, suc, ◌+◌, ◌-◌, ◌^◌, ◌<◌, ◌≤◌, Bool, true, false, Option, None, Some, ap, ◌∙◌, subst, arith}
use Rattle.std.specs.Prelude.{IsSomeAnd}
use Rattle.flash_model.specs.declared.outcome.Arm.{Arm}
use Rattle.flash_model.specs.Flash.{FlashState, Told, counted_times}
use Rattle.flash_model.specs.Coming.{number, Waits, Comes, ComesTo}
use Rattle.flash_model.specs.Calls.{BothTell, Carries}

counted_times-within : (n count : ℕ) → count + n < 2 ^ 64 → counted_times n count ≡ count + n
counted_times-within zero count within = omega arith
counted_times-within (suc n) count within = omega arith

module _ (before : Told) (arm : Arm) (armed : before.cut ≡ Some arm) (n m : ℕ) where
  came : (now : Option Told) → BothTell (ComesTo true false n m) (Some before) now → n ≡ number arm.count
  came None both = absurd both
  came (Some after) both = (subst (λ o. Comes n o after.cut) armed both.0).0

  waited : (now : Option Told) (live : Bool) → BothTell (ComesTo false live n m) (Some before) now
      → (n < number arm.count) × IsSomeAnd now (λ after. after.cut ≡ Some (record arm { count = arm.count - n }))
  waited None live both = absurd both
  waited (Some after) live both = subst (λ o. Waits n o after.cut) armed both.0

module _ (old new : FlashState) (before : Told) (arm : Arm) (told : old.told ≡ Some before)
    (armed : before.cut ≡ Some arm)
    (some : 1 ≤ arm.count) (within : old.started + arm.count < 2 ^ 64) (on : old.live ≡ true) where
  -- where power goes off, as many were started as the cut was to count
  pub cut_came : Carries old new true → new.live ≡ false → new.started ≡ old.started + arm.count
  cut_came carries off =
      let starts = carries.starts on in
      let there = subst (λ l. BothTell (ComesTo true l starts.0 starts.1) old.told new.told) off starts.4 in
      let n : starts.0 ≡ number arm.count =
      came before arm armed starts.0 starts.1 new.told
      (subst (λ t. BothTell (ComesTo true false starts.0 starts.1) t new.told) told there)
      in
      let exact : starts.0 ≡ arm.count = omega (arith, n, some) in
      starts.2 ∙ ap (λ k. counted_times k old.started) exact ∙ counted_times-within arm.count old.started within

  -- where a call was not broken, they are fewer, and the cut counts on from there
  pub cut_waits : Carries old new false → (new.started < old.started + arm.count)
      × IsSomeAnd new.told (λ after. after.cut ≡ Some (record arm { count = arm.count - (new.started - old.started) }))
  cut_waits carries =
      let starts = carries.starts on in
      let here = waited before arm armed starts.0 starts.1 new.told new.live
      (subst (λ t. BothTell (ComesTo false new.live starts.0 starts.1) t new.told) told starts.4) in
      let fewer : starts.0 < arm.count = omega (arith, here.0, some) in
      let is : new.started ≡ old.started + starts.0 = starts.2
      ∙ counted_times-within starts.0 old.started (omega (arith, fewer, within)) in
      let n : starts.0 ≡ new.started - old.started = omega (arith, is) in (
        omega (arith, is, fewer),
        subst (λ k. IsSomeAnd new.told (λ after. after.cut ≡ Some (record arm { count = arm.count - k }))) n here.1,
      )
