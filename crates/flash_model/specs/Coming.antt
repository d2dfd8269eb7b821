-- When the arms of a flash come. Those of the cut and the fault count what is started: each program, erase and
-- retirement, and each fire with something loaded. That of the read that is to fail counts reads. An arm comes at the
-- one of its number.
use Rattle.std.specs.Prelude.{◌≡◌, ◌⊎◌, ℕ, ◌-◌, ◌<◌, max, Bool, true, false, Option, None, Some}
use Rattle.flash_model.specs.declared.outcome.Arm.{Arm}
use Rattle.flash_model.specs.Flash.{Told}

-- the number of the call at which an arm with this count comes: 0 counts as 1
abbrev pub number : ℕ → ℕ
number count = max 1 count

-- an arm has counted this many that were started, and comes later
abbrev pub Waits : ℕ → Option Arm → Option Arm → Type 0
Waits n None new = new ≡ None
Waits n (Some arm) new = (n < number arm.count) × (new ≡ Some (record arm { count = arm.count - n }))

-- it comes at the last of this many, and is spent
abbrev pub Comes : ℕ → Option Arm → Option Arm → Type 0
Comes n None new = ⊥
Comes n (Some arm) new = (n ≡ number arm.count) × (new ≡ None)

-- the read that is to fail comes later than these reads
abbrev pub ReadWaits : ℕ → Option ℕ → Option ℕ → Type 0
ReadWaits n None new = new ≡ None
ReadWaits n (Some count) new = (n < number count) × (new ≡ Some (count - n))

-- it comes at the last of these reads
abbrev pub ReadComes : ℕ → Option ℕ → Option ℕ → Type 0
ReadComes n None new = ⊥
ReadComes n (Some count) new = (n ≡ number count) × (new ≡ None)

-- What comes in a call with this many operations started and this many reads. Where the call is not broken, nothing.
-- Where power goes off, the cut at the last that was started, and the fault then or later. Where the call is broken and
-- power stays on, the fault at the last that was started or the failing read at the last read, and not the cut.
abbrev pub ComesTo : (broken live : Bool) → (started reads : ℕ) → Told → Told → Type 0
ComesTo false live started reads old new =
    Waits started old.cut new.cut × Waits started old.fault new.fault
    × ReadWaits reads old.bad_read new.bad_read
ComesTo true false started reads old new =
    Comes started old.cut new.cut
    × (Waits started old.fault new.fault ⊎ Comes started old.fault new.fault)
    × ReadWaits reads old.bad_read new.bad_read
ComesTo true true started reads old new =
    Waits started old.cut new.cut
    × ((Comes started old.fault new.fault × ReadWaits reads old.bad_read new.bad_read)
    ⊎ (Waits started old.fault new.fault × ReadComes reads old.bad_read new.bad_read))
