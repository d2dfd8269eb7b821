-- In which order a claim sees what it claims.
use Rattle.std.specs.Prelude.{◌≡◌, ℕ, Bool, false, List, ◌∷◌, ◌++◌, Option, None, Some, IfOk, IfSome, Result, Ok}
use Rattle.std.specs.declared.io.Error.{Error}
use Rattle.durable_folder.specs.Calls.{Handle, is_elsewhere}
use Rattle.durable_folder.specs.FolderState.{SomeOf}
use Rattle.durable_folder.specs.Histories.{History, Held, Named, Seen, Sight}
use Rattle.durable_folder.specs.Locking.{IsOpenAt, LeadsToFile}
use Rattle.durable_folder.specs.Ways.{Saves}
use Rattle.durable_folder.specs.declared.folder.Lock.{Lock}

-- A call that succeeded told this, and nothing else of open files.
abbrev pub Sees : {T : Type 0} → (T → Sight) → Result T Error → Option History → Option History → Type 0
Sees sight result (Some h) (Some k) = IfOk result (λ x. k.sights ≡ sight x ∷ h.sights)
Sees sight result (Some h) None = Unit {0}
Sees sight result None b = Unit {0}

-- the same of asking for a lock
abbrev pub SeesLock : Handle → Result Lock Error → Option History → Option History → Type 0
SeesLock handle result (Some h) (Some k) = is_elsewhere result ≡ false → k.sights ≡ Held handle.file ∷ h.sights
SeesLock handle result (Some h) None = Unit {0}
SeesLock handle result None b = Unit {0}

-- The name was opened, and then its file was looked at, and this open one.
abbrev pub SeesBoth : Handle → List ℕ → Result Bool Error → Option History → Option History → Type 0
SeesBoth handle name result (Some h) (Some k) =
    IfOk result (λ is. (again : Handle) × IsOpenAt again name h.now ×
    (k.sights ≡ Seen handle.file ∷ Seen again.file ∷ Named again.file ∷ h.sights))
SeesBoth handle name result (Some h) None = Unit {0}
SeesBoth handle name result None b = Unit {0}

-- Since the lock of the file came, a name was opened that leads to it, and it was looked at.
pub record IsSeenSince (file : ℕ) (sights : List Sight) : Type 0 where
  pub later : List Sight
  pub earlier : List Sight
  pub are : sights ≡ later ++ Held (Some file) ∷ earlier
  pub named : SomeOf (λ sight. sight ≡ Named (Some file)) later
  pub seen : SomeOf (λ sight. sight ≡ Seen (Some file)) later

-- A plain file that is open on the name was seen since it is held.
abbrev pub SeesHeld : Handle → List ℕ → Result (Unit {0}) Error → Option History → Option History → Type 0
SeesHeld handle name result (Some h) (Some k) =
    IfOk result (λ done. (file : ℕ) → IsOpenAt handle name h.now → LeadsToFile name file h.now →
    IsSeenSince file k.sights)
SeesHeld handle name result (Some h) None = Unit {0}
SeesHeld handle name result None b = Unit {0}

-- The plain file to which the name leads was seen since it is held, where an open one is given.
abbrev pub SeesClaimed : {H : Type 0} → List ℕ → Result (Option H) Error → Option History → Option History → Type 0
SeesClaimed name result (Some h) (Some k) =
    IfOk result (λ held. IfSome held (λ opened. (file : ℕ) → LeadsToFile name file h.now → IsSeenSince file k.sights))
SeesClaimed name result (Some h) None = Unit {0}
SeesClaimed name result None b = Unit {0}

-- It was saved from a moment on at which the plain file to which the name leads was seen so, where an open one is
-- given.
abbrev pub SavesSeen : {H : Type 0} → List ℕ → List ℕ → Option H → Option History → Option History → Type 0
SavesSeen name bytes held a b =
    (mid : Option History) × SeesClaimed name (Ok held) a mid × Saves name bytes (Ok tt) mid b
