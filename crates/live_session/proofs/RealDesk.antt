-- What is so of a desk that tells nothing.
use Rattle.std.proofs.Common.{ℕ, false, List, [], ◌∷◌, map, Option, None, Some, Result, Ok, Err, refl, option_map}
use Rattle.std.proofs.lemmas.List.{length-map, get_or-map}
use Rattle.file_flash.specs.Files as store
use Rattle.file_flash.specs.Files.{FileState}
use Rattle.file_flash.specs.FileFlashState.{FileFlashState}
use Rattle.file_flash.specs.Opening.{IsDurable}
use Rattle.live_session.specs.declared.desk.CallError.{CallError}
use Rattle.live_session.specs.declared.desk.CallError.TheVariants as call
use Rattle.live_session.specs.LineDesk.{Closes, closed_desk}

abbrev durably : List ℕ → FileState
durably bytes = record { values = map (λ b. b ∷ []) bytes; copies = false }

is_durable : (bytes : List ℕ) → IsDurable bytes (durably bytes)
is_durable bytes = record {
  long = length-map bytes (λ b. b ∷ []);
  copies = refl;
  each = λ k inside. get_or-map (λ b. b ∷ []) bytes k 0 [] inside;
}

tells : (bytes : List ℕ) (held : Option FileState) →
    store.BothTell (λ before. IsDurable bytes) held (option_map (λ (before : FileState). durably bytes) held)
tells bytes None = tt
tells bytes (Some file) = is_durable bytes

-- whatever is put in the place of a file that is closed, it leaves no less
pub closes_untold : (flash : FileFlashState) (faults : ℕ) (bytes : List ℕ) (result : Result (Unit {0}) CallError) →
    Closes flash (closed_desk faults) (closed_desk faults) bytes result
closes_untold flash faults bytes (Ok done) =
    (option_map (λ (before : FileState). durably bytes) flash.file, refl, tells bytes flash.file)
closes_untold flash faults bytes (Err call.Failed) = (None, refl)
closes_untold flash faults bytes (Err call.Memory) = refl
