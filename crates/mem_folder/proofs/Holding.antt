-- What the calls do that change the bytes of a file.
use Rattle.mem_folder.proofs.Common.{◌≡◌, ℕ, List, [], ◌∷◌, Vec, Ok, Err, refl, ap, ◌∙◌, Global, Error, newest, filled, overlay, state_of, Change}
use Rattle.std.proofs.Common.{Result}
use Rattle.durable_folder.specs.Calls.{SparesNames, Written, Lengthened, Synced}
use Rattle.mem_folder.specs.Changes.{held}
use Rattle.mem_folder.specs.declared.change.Change.TheVariants as change
use Rattle.mem_folder.proofs.Laying.{is_overlaid, is_resized, not_written, not_lengthened}
use Rattle.mem_folder.proofs.Steps.{IsNoted, wrote, synced}

same_names : (cs : List Change) (file : ℕ) → SparesNames file (state_of cs) (state_of cs)
same_names cs file = record { names = λ n. refl; files = λ f apart. refl; fixed = refl }

pub write_fails : (cs : List Change) (file offset : ℕ) (bytes : List ℕ) (error : Error) →
    SparesNames file (state_of cs) (state_of cs) × Written offset bytes (Err error) (held cs file) (held cs file)
write_fails cs file offset bytes error = (same_names cs file, not_written offset bytes error (held cs file))

pub writes : (cs ds : List Change) (file offset : ℕ) (bytes : List ℕ) (written : Vec ℕ Global)
    (result : Result (Unit {0}) Error) →
    written.items ≡ overlay offset bytes (newest [] (held cs file)) → IsNoted cs (change.Wrote file written) result ds →
    SparesNames file (state_of cs) (state_of ds) × Written offset bytes result (held cs file) (held ds file)
writes cs ds file offset bytes written (Ok done) is noted =
    let w = wrote cs file written in
    rw noted.ok (
      w.0,
      (
        overlay offset bytes (newest [] (held cs file)),
        is_overlaid offset bytes (newest [] (held cs file)),
        w.1 ∙ ap (λ v. v ∷ held cs file) is,
      ),
    )
writes cs ds file offset bytes written (Err error) is noted = rw noted.err.0 (write_fails cs file offset bytes error)

pub resize_fails : (cs : List Change) (file size : ℕ) (error : Error) →
    SparesNames file (state_of cs) (state_of cs) × Lengthened size (Err error) (held cs file) (held cs file)
resize_fails cs file size error = (same_names cs file, not_lengthened size error (held cs file))

pub resizes : (cs ds : List Change) (file size : ℕ) (resized : Vec ℕ Global) (result : Result (Unit {0}) Error) →
    resized.items ≡ filled size (newest [] (held cs file)) → IsNoted cs (change.Wrote file resized) result ds →
    SparesNames file (state_of cs) (state_of ds) × Lengthened size result (held cs file) (held ds file)
resizes cs ds file size resized (Ok done) is noted =
    let w = wrote cs file resized in
    rw noted.ok (
      w.0,
      (
        filled size (newest [] (held cs file)),
        is_resized size (newest [] (held cs file)),
        w.1 ∙ ap (λ v. v ∷ held cs file) is,
      ),
    )
resizes cs ds file size resized (Err error) is noted = rw noted.err.0 (resize_fails cs file size error)

pub syncs : (cs ds : List Change) (file : ℕ) (result : Result (Unit {0}) Error) →
    IsNoted cs (change.Synced file) result ds →
    SparesNames file (state_of cs) (state_of ds) × Synced (held cs file) result (held ds file)
syncs cs ds file (Ok done) noted = rw noted.ok (synced cs file)
syncs cs ds file (Err error) noted = rw noted.err.0 (same_names cs file, λ c h. h)
