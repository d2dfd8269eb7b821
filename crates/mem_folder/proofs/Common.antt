-- The names that most proofs of this crate cite, passed on from one place. Declares nothing.
pub use Rattle.std.proofs.Common.{◌≡◌, inl, inr, ℕ, ◌≤◌, List, [], ◌∷◌, None, Some, Ok, Vec, length, take, refl, sym, ap, ◌∙◌, arith, Bool, true, false, Option, bytes_eq, string_bytes, Err, ◌+◌, ◌<◌, ◌++◌, rules}
pub use Rattle.std.specs.Global.{Global}
pub use Rattle.std.specs.declared.io.Error.{Error}
pub use Rattle.durable_folder.specs.FolderState.{FolderState, MayHold, SomeOf, newest}
pub use Rattle.mem_folder.specs.Bytes.{filled, overlay}
pub use Rattle.mem_folder.specs.Changes.{named, state_of, alone, named_after, held_after, AllBelow, IsFresh}
pub use Rattle.mem_folder.specs.Losing.{IsLeft}
pub use Rattle.mem_folder.specs.Telling.{unsynced_of}
pub use Rattle.mem_folder.specs.declared.change.Change.{Change}
pub use Rattle.mem_folder.specs.declared.change.Left.{Left}
pub use Rattle.mem_folder.specs.declared.files.MemPlace.{MemPlace}
pub use denote.RattleType.{RattleType}
pub use denote.Steps.{nothing}
pub use mir.Val.{Val}
pub use seplogic.Ra.Ura.{Ura}
pub use types.Kit.{‵, ◌$◌, move, fjoin}
pub use types.Logic.{Logic}
