-- The names that most proofs of this crate cite, passed on from one place. Declares nothing.
pub use Rattle.std.proofs.Common.{◌≡◌, ◌⊎◌, ℕ, zero, suc, ◌+◌, ◌-◌, ◌<◌, ◌≤◌, Bool, true, false, List, [], ◌∷◌, ◌++◌, length, take, get_or, set, map, Option, Some, None, Contains, refl, sym, ap, subst, ◌∙◌, inl, inr, arith, rules}
pub use Rattle.std.specs.Prelude.{unwrap_or, nat_le}
pub use Rattle.std.proofs.lemmas.Bool.{cases_lt, cases_eq}
pub use Rattle.file_flash.specs.Files.{FileState, values_at, newest, LeavesBytes, Writes, MayWrite, Syncs, ReadsFile}
pub use Rattle.lossy_store.specs.Writes.{byte_in, byte_over, byte_from, in_front, values_from, file_of, Notes}
pub use Rattle.lossy_store.specs.declared.write.Write.{Write}
