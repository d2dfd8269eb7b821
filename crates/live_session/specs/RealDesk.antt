-- How a desk of the system counts its faults.
use Rattle.std.specs.Prelude.{ℕ, Result, Err}
use Rattle.desk_io.specs.Desk.{counted}
use Rattle.live_session.specs.declared.desk.CallError.{CallError}
use Rattle.live_session.specs.declared.desk.CallError.TheVariants as call
use Rattle.live_session.specs.declared.desk.ClaimError.{ClaimError}
use Rattle.live_session.specs.declared.desk.ClaimError.TheVariants as claim

abbrev pub claim_faults : {F : Type 0} → Result F ClaimError → ℕ → ℕ
claim_faults (Err claim.Failed) faults = counted faults
claim_faults _ faults = faults

abbrev pub call_faults : {T : Type 0} → Result T CallError → ℕ → ℕ
call_faults (Err call.Failed) faults = counted faults
call_faults _ faults = faults
