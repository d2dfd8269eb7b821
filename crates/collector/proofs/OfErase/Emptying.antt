-- What is known of a flash after a call that was to make a block blank, whatever else the call did.
use Rattle.collector.proofs.Common.{◌≡◌, ℕ, true, Result, Ok, Err, ap, ◌∙◌, inl, inr, Broken, Outcome, FlashState, blank, Erases, Torn, erase, moment_of, image_left, Retires}
use Rattle.std.specs.Prelude.{OnOk, OnErr, if◌then◌else◌}
use Rattle.flash_model.specs.declared.outcome.Outcome.TheVariants as outcome
use Rattle.flash_model.specs.Flash.{counted}
use Rattle.flash_model.specs.Operations.{with_block}

-- the shape stays; the block is all blank, or where the call was broken what a broken erase leaves
pub record Empties (old new : FlashState) (block : ℕ) (result : Result (Unit {0}) Broken) : Type 0 where
  pub shape : new.shape ≡ old.shape
  pub done : OnOk result (new.image ≡ with_block old.shape old.image block blank)
  pub torn : OnErr result ((how : Outcome) × (new.image ≡ image_left old.shape old.image (erase block) how))

-- an erase does that
pub erases_empties : (old new : FlashState) (block : ℕ) (result : Result (Unit {0}) Broken) →
    Erases old new block result
    → Empties old new block result
erases_empties old new block (Ok x) e = record { shape = e.carries.shape; done = e.done.image; torn = tt }
erases_empties old new block (Err x) e = record { shape = e.carries.shape; done = tt; torn = e.torn.left }

-- and so does replacing it: a broken call did all of it, or nothing
pub retires_empties : (old new : FlashState) (block : ℕ) (result : Result (Unit {0}) Broken) →
    Retires old new block result
    → Empties old new block result
retires_empties old new block (Ok x) e = record { shape = e.carries.carries.shape; done = e.done.image; torn = tt }
retires_empties old new block (Err x) e = record {
  shape = e.carries.carries.shape;
  done = tt;
  torn = elim e.torn [
    | inl still ↦ (outcome.None, still.image)
    | inr replaced ↦ (outcome.All, replaced.image)
  ];
}

-- a broken one leaves what a broken erase may
pub retires_torn : (old new : FlashState) (block : ℕ) (x : Broken) → Retires old new block (Err x)
    → Torn old.shape (moment_of old) (erase block) (moment_of new)
retires_torn old new block x e = record {
  left = (retires_empties old new block (Err x) e).torn;
  programs = elim e.torn [ inl still ↦ still.programs | inr replaced ↦ replaced.programs ];
  erases = elim e.torn [ inl still ↦ still.erases | inr replaced ↦ replaced.erases ];
}

-- where power is on it is started
pub retiring_started : (old new : FlashState) (block : ℕ) (result : Result (Unit {0}) Broken) → old.live ≡ true
    → Retires old new block result → new.started ≡ counted old.started
retiring_started old new block result on e =
    e.started ∙ ap (λ b. if b then counted old.started else old.started) on
