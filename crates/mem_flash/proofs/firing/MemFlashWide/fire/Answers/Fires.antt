-- A fire of a flash in memory is one of any flash.
use Rattle.mem_flash.proofs.Common.{◌≡◌, ℕ, List, length, Option, None, refl, ap, sym, ◌∙◌, subst, Contents, Load}
use Rattle.std.proofs.Common.{◌⊎◌, inl, inr, Bool, true, false, Some, arith}
use Rattle.std.proofs.lemmas.Bool.Decides.{nat_tests}
use Rattle.std.specs.Prelude.{is_some, unwrap_or, ◌&&◌, not, ◌==◌, if◌then◌else◌}
use Rattle.flash_model.specs.declared.outcome.Outcome.{Outcome}
use Rattle.flash_model.specs.declared.outcome.Outcome.TheVariants as outcome
use Rattle.flash_model.specs.Flash.{FlashState, counted, counted_by}
use Rattle.flash_model.specs.Operations.{fire, left_each}
use Rattle.flash_model.specs.Calls.{Carries, Operates}
use Rattle.flash_model.specs.Firing.{no_loads, loads_in}
use Rattle.mem_flash.specs.MemFlashState.{MemFlashState, state_of}
use Rattle.mem_flash.specs.Registers.{outcomes_from}
use Rattle.mem_flash.specs.Breaking.{broken_by, answered, met, started, is_idle}
use Rattle.mem_flash.proofs.Loaded.{length-outcomes_from, outcomes_from-all, left_from-none}

-- a call that also programs keeps what the arms keep, where it programs nothing without power
with_image : (old mid : FlashState) (broken : Bool) (image : List Contents) (programs : ℕ) → Carries old mid broken
    → (old.live ≡ false → (image ≡ mid.image) × (programs ≡ mid.programs))
    → Carries old (record mid { image = image; programs = programs }) broken
with_image old mid broken image programs carries stays = record {
  shape = carries.shape;
  later = carries.later;
  cause = carries.cause;
  quiet = carries.quiet;
  lives = carries.lives;
  dead = λ off.
      let (same, counted) = stays off in
      let put : List Contents → ℕ → FlashState = λ i p. record mid { image = i; programs = p } in
      ap (λ i. put i programs) same ∙ ap (λ p. put mid.image p) counted ∙ carries.dead off;
  no_more = carries.no_more;
  extras = carries.extras;
  spends = carries.spends;
  starts = carries.starts;
}

-- a call that is not broken has power
powered : (s : MemFlashState) → broken_by s ≡ None → s.live ≡ true
powered s none = by_live s.live refl
  where
    by_live : (live : Bool) → s.live ≡ live → s.live ≡ true
    by_live true is = is
    by_live false is = cc

-- without power all stays
without_power : (s : MemFlashState) (how : Outcome) → broken_by s ≡ Some how → s.live ≡ false → how ≡ outcome.None
without_power s how some off = cc

-- a fire has something to do, or no power
is_some_number : (n : ℕ) → (n ≡ 0 → ⊥) → (n == 0) ≡ false
is_some_number n some = grind (arith, nat_tests)

pub is_busy : (live : Bool) (n m : ℕ) → n ≡ m → ((live ≡ true) × (n ≡ 0 → ⊥)) ⊎ (live ≡ false) →
    live && (m == 0) ≡ false
is_busy false n m same busy = refl
is_busy true n m same (inl busy) = subst (λ k. (k == 0) ≡ false) same (is_some_number n busy.1)
is_busy true n m same (inr off) = cc

module _ (s : MemFlashState) (busy : is_idle s ≡ false) where
  abbrev loads : List Load
  loads = loads_in s.registers

  abbrev started_so : Option Outcome → MemFlashState
  started_so o = record (met s) {
    image = left_each s.image loads (outcomes_from (unwrap_or o outcome.All) (length loads));
    programs = if is_some o then s.programs else counted_by (length loads) s.programs;
    registers = no_loads s.shape;
  }

  -- a fire that has something to do, or no power, is counted as an operation is
  counts : (met s).started ≡ (if s.live && not (length loads == 0) then counted s.started else s.started)
  counts = by s.live (length loads == 0) busy
    where
      by : (live none : Bool) → live && none ≡ false
          → (if live then counted s.started else s.started) ≡ (if live && not none then counted s.started
          else s.started)
      by false none is = refl
      by true false is = refl
      by true true is = cc

  operates_so : (o : Option Outcome) → broken_by s ≡ o → Carries (state_of s) (state_of (met s)) (is_some o)
      → Operates (state_of s) (state_of (started_so o)) (fire loads) (answered o)
  operates_so None none carries = record {
    carries =
        with_image (state_of s) (state_of (met s)) false _ _ carries
        (λ off. let on = powered s none in cc);
    powered = powered s none;
    done = record {
      image = ap (left_each s.image loads) (outcomes_from-all (length loads));
      programs = refl;
      erases = refl;
    };
    torn = tt;
    reads = refl;
    started = counts;
  }
  operates_so (Some how) some carries = record {
    carries =
        with_image (state_of s) (state_of (met s)) true _ _ carries
        (λ off. (
          subst (λ h. left_each s.image loads (outcomes_from h (length loads)) ≡ s.image)
              (sym (without_power s how some off))
              (left_from-none s.image loads),
          refl,
        ));
    powered = tt;
    done = tt;
    torn = record {
      left = (outcomes_from how (length loads), length-outcomes_from how (length loads), refl);
      programs = refl;
      erases = refl;
    };
    reads = refl;
    started = counts;
  }

  -- a fire that met the arms
  pub operates_started : Carries (state_of s) (state_of (met s)) (is_some (broken_by s))
      → Operates (state_of s) (state_of (started s)) (fire loads) (answered (broken_by s))
  operates_started carries = operates_so (broken_by s) refl carries
