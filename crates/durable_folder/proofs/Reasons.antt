-- Reasons for a file to be written in place.
use Rattle.durable_folder.proofs.Common.{ℕ, List, FolderState}
use Rattle.durable_folder.specs.Histories.{Refusal, Giving, Setting, Making, Moving, Opening, Leading, Replacing, Linking}
use Rattle.durable_folder.specs.Saving.{IsReason}

-- a reason where an owner is told of otherwise
pub reason_owned : (name : List ℕ) (P Q : ℕ → ℕ → Type 0) (s : FolderState) →
    ((user group : ℕ) → P user group → Q user group) → (r : Refusal) →
    IsReason name P s r → IsReason name Q s r
reason_owned name P Q s f (Giving file user group) x = (x.0, f user group x.1)
reason_owned name P Q s f (Setting file) x = x
reason_owned name P Q s f (Making n) x = x
reason_owned name P Q s f (Moving from to) x = x
reason_owned name P Q s f (Opening place) x = x
reason_owned name P Q s f (Leading file) x = x
reason_owned name P Q s f (Replacing n) x = absurd x
reason_owned name P Q s f (Linking n) x = absurd x
