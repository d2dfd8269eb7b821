-- What a call keeps of the invariant of a flash that is a file.
use Rattle.file_flash.proofs.Common.{◌≡◌, ℕ, refl, ap, ◌∙◌, map}
use Rattle.std.proofs.Common.{zero, suc, ◌∷◌, None, replicate}
use Rattle.flash_model.specs.Operations.{Operation}
use Rattle.mem_flash.specs.MemFlashState.{MemFlashState}
use Rattle.mem_flash.specs.Breaking.{operated}
use Rattle.file_flash.specs.FileFlashState.{slot_loaded, powerless}

-- a call that leaves the shape, what is told of retired blocks, and what is loaded
pub record Stays (old new : MemFlashState) : Type 0 where
  pub shape : new.shape ≡ old.shape
  pub extras : new.extras ≡ old.extras
  pub registers : new.registers ≡ old.registers

pub operated_stays : (s m : MemFlashState) (o : Operation) → m ≡ operated s o → Stays s m
operated_stays s m o e = record {
  shape = ap (λ (x : MemFlashState). x.shape) e;
  extras = ap (λ (x : MemFlashState). x.extras) e;
  registers = ap (λ (x : MemFlashState). x.registers) e;
}

pub powerless_stays : (s m new : MemFlashState) (o : Operation) → m ≡ operated s o → new ≡ powerless s m → Stays s new
powerless_stays s m new o e lost = record {
  shape = ap (λ (x : MemFlashState). x.shape) lost ∙ ap (λ (x : MemFlashState). x.shape) e;
  extras = ap (λ (x : MemFlashState). x.extras) lost ∙ ap (λ (x : MemFlashState). x.extras) e;
  registers = ap (λ (x : MemFlashState). x.registers) lost ∙ ap (λ (x : MemFlashState). x.registers) e;
}

-- nothing is loaded
pub none_loaded : (n : ℕ) → map slot_loaded (replicate n None) ≡ replicate n None
none_loaded zero = refl
none_loaded (suc n) = ap (λ xs. None ∷ xs) (none_loaded n)
