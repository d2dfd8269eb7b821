-- A call of the flash, where what is to come is not told, and where power goes off in it.
use Rattle.file_flash.proofs.Common.{◌≡◌, ℕ, ◌≤◌, Bool, true, false, List, [], ◌∷◌, length, Contents, Option, Some, None, Result, Ok, Err, refl, sym, ap, subst, ◌∙◌, arith}
use Rattle.std.specs.Prelude.{replicate, unwrap_or, if◌then◌else◌}
use Rattle.std.specs.Option.{option_or}
use Rattle.std.specs.Result.{is_err}
use Rattle.std.proofs.lemmas.List.{length-replicate}
use Rattle.flash_model.specs.declared.flash.Broken.{Broken}
use Rattle.flash_model.specs.declared.outcome.Outcome.TheVariants as outcome
use Rattle.flash_model.specs.Flash.{FlashState, counted}
use Rattle.flash_model.specs.Calls.{Carries, Operates}
use Rattle.flash_model.specs.declared.outcome.Outcome.{Outcome}
use Rattle.flash_model.specs.Operations.{Operation, Load, program, erase, fire, MayLeave, image_left, left_each}
use Rattle.flash_model.specs.Firing.{loads_in}
use Rattle.mem_flash.specs.Breaking.{due, broken_by, operated, is_idle, started, fired}
use Rattle.mem_flash.specs.Registers.{outcomes_from}
use Rattle.mem_flash.specs.MemFlashState.{MemFlashState, state_of}
use Rattle.file_flash.specs.FileFlashState.{untold, powerless, IsCut}

more_counted : (a b : ℕ) → a ≤ b → counted a ≤ counted b
more_counted a b le = omega arith

powerless_carries : (s m : MemFlashState) (broken : Bool) → Carries (state_of s) (state_of m) broken →
    m.faults ≤ counted m.faults →
    Carries (untold s) (untold (powerless s m)) true
powerless_carries s m broken c later = record {
  shape = c.shape;
  later = omega (arith, c.later, later);
  cause = more_counted s.faults m.faults c.later;
  quiet = tt;
  lives = tt;
  dead = λ off.
      ap (λ (x : FlashState). record x {
        live = false;
        faults = counted m.faults;
        programs = s.programs;
        erases = s.erases;
        told = None;
      }) (c.dead off)
      ∙ ap (λ b. record (untold s) { live = b; faults = counted m.faults }) (sym off);
  no_more = tt;
  extras = c.extras;
  spends = λ on. tt;
  starts = λ on. let it = c.starts on in (it.0, it.1, it.2, it.3, tt);
}

-- what was done stays
done_left : (s m : MemFlashState) (o : Operation) (r : Result (Unit {0}) Broken) →
    Operates (state_of s) (state_of m) o r →
    MayLeave s.shape s.image o m.image
done_left s m o (Err e) h = h.torn.left
done_left s m (program at bytes spare_area) (Ok u) h = (outcome.All, h.done.image)
done_left s m (erase block) (Ok u) h = (outcome.All, h.done.image)
done_left s m (fire loads) (Ok u) h =
    (replicate (length loads) outcome.All, length-replicate (length loads) outcome.All, h.done.image)

pub operates_powerless : (s m : MemFlashState) (o : Operation) (r : Result (Unit {0}) Broken) →
    Operates (state_of s) (state_of m) o r →
    m.faults ≤ counted m.faults → Operates (untold s) (untold (powerless s m)) o (Err (record {}))
operates_powerless s m o r h later = record {
  carries = powerless_carries s m (is_err r) h.carries later;
  powered = tt;
  done = tt;
  torn = record { left = done_left s m o r h; programs = refl; erases = refl };
  reads = h.reads;
  started = h.started;
}

abbrev pub cut_next : MemFlashState → MemFlashState
cut_next s = record s { armed = record s.armed { cut = Some (record { count = 1; outcome = outcome.None }) } }

pub cut_operates : (s t m : MemFlashState) (o : Operation) (r : Result (Unit {0}) Broken) → t ≡ cut_next s →
    Operates (state_of t) (state_of m) o r → m.faults ≤ counted m.faults →
    Operates (untold s) (untold (powerless s m)) o (Err (record {}))
cut_operates s t m o r e h later =
    operates_powerless (cut_next s) m o r (subst (λ (x : MemFlashState). Operates (state_of x) (state_of m) o r) e h)
    later

-- it leaves all as it was
cut_decides : (live : Bool) (fault : Option Outcome) →
    (if live then option_or (Some outcome.None) fault else Some outcome.None) ≡ Some outcome.None
cut_decides true fault = refl
cut_decides false fault = refl

cut_broken : (s : MemFlashState) → broken_by (cut_next s) ≡ Some outcome.None
cut_broken s = cut_decides s.live (due s.armed.fault)

pub cut_operated : (s t m new : MemFlashState) (o : Operation) → t ≡ cut_next s → m ≡ operated t o →
    new ≡ powerless s m →
    IsCut s new × (new.registers ≡ s.registers)
cut_operated s t m new o e next lost =
    let is : m ≡ operated (cut_next s) o = next ∙ ap (λ (x : MemFlashState). operated x o) e in (
      record {
        shape = ap (λ (x : MemFlashState). x.shape) lost ∙ ap (λ (x : MemFlashState). x.shape) is;
        image = ap (λ (x : MemFlashState). x.image) lost ∙ ap (λ (x : MemFlashState). x.image) is
            ∙ ap (λ how. image_left s.shape s.image o (unwrap_or how outcome.All)) (cut_broken s);
        extras = ap (λ (x : MemFlashState). x.extras) lost ∙ ap (λ (x : MemFlashState). x.extras) is;
        live = ap (λ (x : MemFlashState). x.live) lost;
      },
      ap (λ (x : MemFlashState). x.registers) lost ∙ ap (λ (x : MemFlashState). x.registers) is,
    )

-- and so does a fire
nothing_left : (image : List Contents) (loads : List Load) →
    left_each image loads (outcomes_from outcome.None (length loads)) ≡ image
nothing_left image [] = refl
nothing_left image (load ∷ loads) = nothing_left image loads

fired_image : (s : MemFlashState) (idle : Bool) → (if idle then cut_next s else started (cut_next s)).image ≡ s.image
fired_image s true = refl
fired_image s false =
    ap (λ how. left_each s.image (loads_in s.registers)
    (outcomes_from (unwrap_or how outcome.All) (length (loads_in s.registers)))) (cut_broken s)
    ∙ nothing_left s.image (loads_in s.registers)

fired_shape : (s : MemFlashState) (idle : Bool) → (if idle then cut_next s else started (cut_next s)).shape ≡ s.shape
fired_shape s true = refl
fired_shape s false = refl

fired_extras : (s : MemFlashState) (idle : Bool) → (if idle then cut_next s else started (cut_next s)).extras ≡ s.extras
fired_extras s true = refl
fired_extras s false = refl

pub cut_fired : (s t m new : MemFlashState) → t ≡ cut_next s → m ≡ fired t → new ≡ powerless s m → IsCut s new
cut_fired s t m new e next lost =
    let is : m ≡ fired (cut_next s) = next ∙ ap fired e in
    record {
      shape = ap (λ (x : MemFlashState). x.shape) lost ∙ ap (λ (x : MemFlashState). x.shape) is
          ∙ fired_shape s (is_idle (cut_next s));
      image = ap (λ (x : MemFlashState). x.image) lost ∙ ap (λ (x : MemFlashState). x.image) is
          ∙ fired_image s (is_idle (cut_next s));
      extras = ap (λ (x : MemFlashState). x.extras) lost ∙ ap (λ (x : MemFlashState). x.extras) is
          ∙ fired_extras s (is_idle (cut_next s));
      live = ap (λ (x : MemFlashState). x.live) lost;
    }
