-- What is so of a session whose flash was mounted, and of the first one.
use Rattle.std.proofs.Common.{◌≡◌, inl, inr, true, false, refl, sym, subst}
use Rattle.std.proofs.lemmas.Bool.{cases_Bool}
use Rattle.std.specs.Prelude.{MatchBool, IsSomeAnd}
use Rattle.flash_model.specs.Arms.{ChangesTold}
use Rattle.flash_model.specs.Flash.{FlashState, Told}
use Rattle.mounted_session.specs.Mounting.{MomentStays, StaysQuiet}
use Rattle.mounted_session.specs.Sessions.{BothOf, Mounts, MountsFirst, flash_in, is_mounted}
use Rattle.mounted_session.specs.declared.session.Session.{Session}
use Rattle.mounted_session.specs.declared.session.Session.TheVariants as session
use Rattle.mounted_session.proofs.Mounting.{nothing_done}
use Rattle.mounted_session.proofs.Telling.{none_spent}

module _ {F M : Type 0} (state : F → FlashState) (opens : F → M → Type 0) (flash : F) where
  -- what is so of each session that mounting a live flash leaves, and of a flash without power that stays alone
  pub first_by : (P : Session F M → Type 0) →
      ((s : Session F M) → (state flash).live ≡ true → Mounts state opens flash s → P s) →
      ((state flash).live ≡ false → P (session.Unmounted flash)) →
      (s : Session F M) → MountsFirst state opens flash s → P s
  first_by P on off s first = elim (cases_Bool (state flash).live) [
    | inl live ↦ on s live
        (subst (λ b. MatchBool b (Mounts state opens flash s) (s ≡ session.Unmounted flash)) live first)
    | inr dead ↦ subst P (sym (subst (λ b. MatchBool b (Mounts state opens flash s)
        (s ≡ session.Unmounted flash)) dead first)) (off dead)
  ]

  module _ (flash_of : M → F)
      (stays : (m : M) → opens flash m → StaysQuiet (state flash) (state (flash_of m))) where
    pub mounts_still : (s : Session F M) → Mounts state opens flash s →
        MomentStays (state flash) (state (flash_in flash_of s))
    mounts_still (session.Mounted m) h = (stays m h).still
    mounts_still (session.Unmounted new) h = h.still

    -- where no break was to come the flash is mounted, and no fault was counted
    pub mounts_unbroken : (s : Session F M) → Mounts state opens flash s →
        IsSomeAnd (state flash).told (λ told. (told.cuts ≡ 0) × (told.breaks ≡ 0)) →
        (is_mounted s ≡ true) × ((state (flash_in flash_of s)).faults ≡ (state flash).faults)
    mounts_unbroken (session.Mounted m) h none = (refl, (stays m h).quiet)
    mounts_unbroken (session.Unmounted new) h none =
        absurd (none_spent (state flash).told (state new).told (state new).live none h.spends)

    pub first_still : (s : Session F M) → MountsFirst state opens flash s →
        MomentStays (state flash) (state (flash_in flash_of s))
    first_still = first_by (λ s. MomentStays (state flash) (state (flash_in flash_of s)))
        (λ s live h. mounts_still s h) (λ dead. (nothing_done (state flash)).still)

-- an arm that was set in a session was set on its flash
pub sets_flash : {F M : Type 0} (state : F → FlashState) (flash_of : M → F) (sets : Told → Told → Type 0)
    (arms : M → M → Type 0) →
    ((m n : M) → arms m n → ChangesTold sets (state (flash_of m)) (state (flash_of n))) →
    (old new : Session F M) → BothOf arms (λ a b. ChangesTold sets (state a) (state b)) old new →
    ChangesTold sets (state (flash_in flash_of old)) (state (flash_in flash_of new))
sets_flash state flash_of sets arms here (session.Mounted m) (session.Mounted n) h = here m n h
sets_flash state flash_of sets arms here (session.Mounted m) (session.Unmounted new) h = absurd h
sets_flash state flash_of sets arms here (session.Unmounted old) (session.Mounted n) h = absurd h
sets_flash state flash_of sets arms here (session.Unmounted old) (session.Unmounted new) h = h
