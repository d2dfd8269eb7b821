-- How a store counts the calls of it that failed.
use Rattle.live_flash.proofs.Common.{◌≡◌, ◌<◌, ℕ, Bool, true, false, Result, Ok, Err, refl, arith, StoreError}
use Rattle.std.specs.Prelude.{if◌then◌else◌}
use Rattle.std.specs.Result.{is_err}
use Rattle.flash_model.specs.Flash.{counted}
use Rattle.file_flash.specs.Files.{faults_after}

-- a call that failed is counted
pub counted_err : (r : Result (Unit {0}) StoreError) (before after : ℕ) → is_err r ≡ true →
    after ≡ faults_after r before → after ≡ counted before
counted_err (Err e) before after failed counts = counts
counted_err (Ok u) before after failed counts = absurd (cc)

-- one that did not is not
pub same_ok : (r : Result (Unit {0}) StoreError) (before after : ℕ) → is_err r ≡ false →
    after ≡ faults_after r before → after ≡ before
same_ok (Ok u) before after fine counts = counts
same_ok (Err e) before after fine counts = absurd (cc)

-- and there is one then
pub some_fault : (before after : ℕ) → after ≡ counted before → 0 < after
some_fault before after counts = omega (arith, counts)

-- the count of a flash that has not failed
pub same_if : (failed : Bool) (n : ℕ) → failed ≡ false → n ≡ (if failed then counted n else n)
same_if false n e = refl
same_if true n e = absurd (cc)
