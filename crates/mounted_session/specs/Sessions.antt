-- A flash that is served, with what is mounted on it or alone.
use Rattle.std.specs.Prelude.{◌≡◌, Bool, true, false, MatchBool}
use Rattle.flash_model.specs.Flash.{FlashState}
use Rattle.mounted_session.specs.Mounting.{MeetsFault}
use Rattle.mounted_session.specs.declared.session.Session.{Session}
use Rattle.mounted_session.specs.declared.session.Session.TheVariants as session

-- the flash of a session, by that of what is mounted
abbrev pub flash_in : {F M : Type 0} → (M → F) → Session F M → F
flash_in flash_of (session.Mounted m) = flash_of m
flash_in flash_of (session.Unmounted flash) = flash

-- whether something is mounted
abbrev pub is_mounted : {F M : Type 0} → Session F M → Bool
is_mounted (session.Mounted m) = true
is_mounted (session.Unmounted flash) = false

-- one fact of what is mounted, or another one of a flash that is alone
abbrev pub EachOf : {F M : Type 0} → (M → Type 0) → (F → Type 0) → Session F M → Type 0
EachOf mounted alone (session.Mounted m) = mounted m
EachOf mounted alone (session.Unmounted flash) = alone flash

-- and of two sessions, of which both have something mounted or neither has
abbrev pub BothOf : {F M : Type 0} → (M → M → Type 0) → (F → F → Type 0) → Session F M → Session F M → Type 0
BothOf mounted alone (session.Mounted m) (session.Mounted n) = mounted m n
BothOf mounted alone (session.Unmounted old) (session.Unmounted new) = alone old new
BothOf mounted alone (session.Mounted m) (session.Unmounted new) = ⊥
BothOf mounted alone (session.Unmounted old) (session.Mounted n) = ⊥

-- what mounting a flash comes to: what is mounted then, or a fault that a read met
abbrev pub Mounts : {F M : Type 0} → (F → FlashState) → (F → M → Type 0) → F → Session F M → Type 0
Mounts state opens flash s = EachOf (opens flash) (λ new. MeetsFault (state flash) (state new)) s

-- a live flash was mounted, once, and any other is as it was
abbrev pub MountsFirst : {F M : Type 0} → (F → FlashState) → (F → M → Type 0) → F → Session F M → Type 0
MountsFirst state opens flash s =
    MatchBool (state flash).live (Mounts state opens flash s) (s ≡ session.Unmounted flash)

-- where nothing is mounted this is so of the flash that is alone
abbrev pub IfAlone : {F M : Type 0} → (F → Type 0) → Session F M → Type 0
IfAlone alone s = EachOf (λ m. Unit {0}) alone s
