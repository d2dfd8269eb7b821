-- What is left of a file that is written in place.
use Rattle.std.specs.Prelude.{◌≡◌, ◌⊎◌, ℕ, ◌<◌, ◌≤◌, min, List, [], ◌∷◌, length, Option, None, Result, Ok, Err}
use Rattle.std.specs.declared.io.Error.{Error}
use Rattle.durable_folder.specs.FolderState.{MayHold, byte_at, block_bytes}
use Rattle.durable_folder.specs.Calls.{Handle, OfFile}
use Rattle.durable_folder.specs.Histories.{History, Runs}

-- it begins with a zero, or is no longer than one block
abbrev pub IsTorn : List ℕ → Type 0
IsTorn bytes = (byte_at bytes 0 ≡ 0) ⊎ (length bytes ≤ block_bytes)

-- An Ok says this. An error says nothing.
abbrev pub AfterOk : Result (Unit {0}) Error → Type 0 → Type 0
AfterOk (Ok done) P = P
AfterOk (Err error) P = Unit {0}

-- the file has these bytes durably, of which this holds
abbrev pub OneSuch : (List ℕ → Type 0) → List (List ℕ) → Type 0
OneSuch P versions = (bytes : List ℕ) × (versions ≡ bytes ∷ []) × P bytes

-- a loss of power leaves what it might have left before, or what is torn
abbrev pub MayTear : List (List ℕ) → List (List ℕ) → Type 0
MayTear old new = (c : List ℕ) → MayHold new c → MayHold old c ⊎ IsTorn c

-- it leaves what is torn
abbrev pub AllTorn : List (List ℕ) → Type 0
AllTorn versions = (c : List ℕ) → MayHold versions c → IsTorn c

-- it leaves these bytes, or what is torn
abbrev pub WholeOrTorn : List ℕ → List (List ℕ) → Type 0
WholeOrTorn bytes versions = (c : List ℕ) → MayHold versions c → (c ≡ bytes) ⊎ IsTorn c

-- it leaves what it might have left before, what is torn, or these bytes
abbrev pub Overwrites : List ℕ → List (List ℕ) → List (List ℕ) → Type 0
Overwrites bytes old new = (c : List ℕ) → MayHold new c → MayHold old c ⊎ (IsTorn c ⊎ (c ≡ bytes))

-- the first block is zeros
pub record IsCleared (bytes : List ℕ) : Type 0 where
  pub size : block_bytes ≤ length bytes
  pub zeros : (i : ℕ) → i < block_bytes → byte_at bytes i ≡ 0

-- it is these bytes, but for a head of zeros
pub record IsHeadless (head : ℕ) (bytes headless : List ℕ) : Type 0 where
  pub size : length headless ≡ length bytes
  pub zeros : (i : ℕ) → i < head → byte_at headless i ≡ 0
  pub behind : (i : ℕ) → head ≤ i → byte_at headless i ≡ byte_at bytes i

-- the head of these bytes is so long
abbrev pub IsHead : ℕ → List ℕ → Type 0
IsHead head bytes = head ≡ min (length bytes) block_bytes

-- Of one file: every state since the first one, and the last one.
pub record FileRuns (file : Option ℕ) (every last : List (List ℕ) → List (List ℕ) → Type 0)
    (old new : Option History) : Type 0 where
  pub run : Runs (OfFile every file) (λ h k. OfFile last file h.now k.now) old new

-- nothing has changed, and what is open is no plain file
abbrev pub IsNoFile : Option ℕ → Option History → Option History → Type 0
IsNoFile file = Runs (λ s t. t ≡ s) (λ h k. (k.now ≡ h.now) × (file ≡ None))

-- What clearing the head of a file does, where the next bytes go to its start.
abbrev pub ClearsHead : Handle → Result (Unit {0}) Error → Option History → Option History → Type 0
ClearsHead file result =
    FileRuns file.file MayTear (λ old new. MayTear old new × AfterOk result (OneSuch IsCleared new))

-- What writing the rest of the bytes does, where the first block is clear.
abbrev pub WritesRest : Handle → ℕ → List ℕ → Result (Unit {0}) Error → Option History → Option History → Type 0
WritesRest file head bytes result =
    FileRuns file.file (λ old new. OneSuch IsCleared old → AllTorn new)
    (λ old new. OneSuch IsCleared old → AllTorn new × AfterOk result (OneSuch (IsHeadless head bytes) new))

-- What writing the head of the bytes does, where all but it is there.
abbrev pub WritesHead : Handle → ℕ → List ℕ → Result (Unit {0}) Error → Option History → Option History → Type 0
WritesHead file head bytes result =
    FileRuns file.file (λ old new. OneSuch (IsHeadless head bytes) old → WholeOrTorn bytes new)
    (λ old new. OneSuch (IsHeadless head bytes) old → WholeOrTorn bytes new × AfterOk result (new ≡ bytes ∷ []))

-- What writing over a file does, where the next bytes go to its start.
abbrev pub WritesOver : Handle → List ℕ → Result (Unit {0}) Error → Option History → Option History → Type 0
WritesOver file bytes result =
    FileRuns file.file (Overwrites bytes) (λ old new. Overwrites bytes old new × AfterOk result (new ≡ bytes ∷ []))
