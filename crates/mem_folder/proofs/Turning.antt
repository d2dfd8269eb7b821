-- One call more in what a folder in memory tells.
use Rattle.mem_folder.proofs.Common.{◌+◌, List, ◌∷◌, ◌++◌, Some, Vec, refl, sym, ap, Global, FolderState, state_of, unsynced_of, Change, MemPlace}
use Rattle.durable_folder.specs.Histories.{Answer, Turns}
use Rattle.mem_folder.specs.Telling.{AreNoted, IsCountOf, IsNoteOf, failures_in, history_of, refusals_in}
use Rattle.mem_folder.specs.declared.glance.Glance.{Glance}
use Rattle.mem_folder.specs.declared.note.Note.{Note}

-- a call that may have noted a folder
pub turned_noting : (step : FolderState → FolderState → Type 0) (answer : Answer) (note : Note)
    (before : Vec Change Global) (befores : List (Vec Change Global))
    (notes : List Note) (old new : List MemPlace) (seen sees : List Glance) (changes : List Change) →
    step (state_of before.items) (state_of changes) →
    IsCountOf answer note → AreNoted answer old new →
    Turns step answer (Some (history_of before.items befores notes old seen))
    (Some (history_of changes (before ∷ befores) (note ∷ notes) new sees))
turned_noting step answer note before befores notes old new seen sees changes goes count noted = (
  goes,
  refl,
  ap (λ refused. refused ++ refusals_in notes) (sym count.refusals),
  ap (λ k. failures_in notes + k) (sym count.failures),
  noted,
)

pub turned : (step : FolderState → FolderState → Type 0) (answer : Answer) (note : Note) (before : Vec Change Global)
    (befores : List (Vec Change Global))
    (notes : List Note) (places : List MemPlace) (seen sees : List Glance) (changes : List Change) →
    step (state_of before.items) (state_of changes) → IsNoteOf answer note →
    Turns step answer (Some (history_of before.items befores notes places seen))
    (Some (history_of changes (before ∷ befores) (note ∷ notes) places sees))
turned step answer note before befores notes places seen sees changes goes is =
    turned_noting step answer note before befores notes places places seen sees changes goes is.count
    (ap (λ noted. noted ++ unsynced_of places) (sym is.unsynced))
