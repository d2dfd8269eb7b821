-- A cut that is armed and did not come yet.
use Rattle.std.specs.Prelude.{◌≡◌, ◌-◌, ◌<◌, ℕ, Some, IsSomeAnd}
use Rattle.flash_model.specs.Flash.{FlashState}
use Rattle.flash_model.specs.declared.outcome.Outcome.{Outcome}

-- Power is to go off at the operation of this number, of all that the flash counts as started. Fewer were started, and
-- as many as are left is what the arm tells.
pub record CutIsDue (due : ℕ) (what : Outcome) (s : FlashState) : Type 0 where
  pub later : s.started < due
  pub left : IsSomeAnd s.told (λ told. told.cut ≡ Some (record { count = due - s.started; outcome = what }))
