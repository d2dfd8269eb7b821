-- What the program is asked for, which files that loads, and which it saves.
use Rattle.std.specs.Prelude.{◌≡◌, ◌⊎◌, ℕ, List, [], ◌∷◌, length, Option, None, Some}
use Rattle.tx_types.specs.declared.config.Config.{Config}
use Rattle.tx_types.specs.declared.config.Protocol.{Protocol}

-- A task of the program, with the names of its files: to try commands on a fresh device, to write a
-- blank image, to run commands on an image, to report on an image, to drive a fresh device by
-- commands that are drawn, to check a report on an image, to compare the arrays of two images, to serve a key script on
-- an image, to retire a block of an image.
pub data Request : Type 0 where
  Try : (commands : List ℕ) → Request
  Format : (image : List ℕ) → (config : Config) → (allowance : ℕ) → Request
  Run : (image commands : List ℕ) → Request
  Explain : (image : List ℕ) → Request
  Drive : (start count : ℕ) → (protocol : Protocol) → Request
  Check : (image report : List ℕ) → Request
  Compare : (first second : List ℕ) → Request
  Keys : (image script : List ℕ) → Request
  Retire : (image : List ℕ) → (block : ℕ) → Request

-- the files that a task loads, in their order
abbrev pub files_of : Option Request → List (List ℕ)
files_of None = []
files_of (Some (Try commands)) = commands ∷ []
files_of (Some (Format image config allowance)) = []
files_of (Some (Run image commands)) = image ∷ commands ∷ []
files_of (Some (Explain image)) = image ∷ []
files_of (Some (Drive start count protocol)) = []
files_of (Some (Check image report)) = image ∷ report ∷ []
files_of (Some (Compare first second)) = first ∷ second ∷ []
files_of (Some (Keys image script)) = image ∷ script ∷ []
files_of (Some (Retire image block)) = image ∷ []

-- so many loads come before a step of the work that asks nothing of the desk: all of a task's, and the first of
-- a comparison, which reads each image when it is loaded
abbrev pub IsWorkedAfter : Option Request → ℕ → Type 0
IsWorkedAfter (Some (Compare first second)) loads = (loads ≡ 1) ⊎ (loads ≡ 2)
IsWorkedAfter task loads = loads ≡ length (files_of task)

-- the file that a task saves
abbrev pub file_of : Option Request → Option (List ℕ)
file_of (Some (Format image config allowance)) = Some image
file_of (Some (Run image commands)) = Some image
file_of (Some (Keys image script)) = Some image
file_of (Some (Retire image block)) = Some image
file_of _ = None
