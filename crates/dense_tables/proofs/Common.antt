-- The names that most proofs of this crate cite, passed on from one place. Declares nothing.
pub use Rattle.std.proofs.Common.{◌≡◌, ℕ, zero, suc, ◌+◌, ◌<◌, ◌≤◌, inl, inr, Some, List, ◌∷◌, length, get_or, set, drop, ltb, true, refl, ◌∙◌, ap, arith, rules, length-set, ◌≢◌, [], replicate, sym, ◌-◌, ◌*◌, ◌/◌, eqb, take, min}
pub use Rattle.std.proofs.lemmas.Bool.{cases_lt, cases_eq}
pub use Rattle.std.proofs.lemmas.Bool.Decides.{nat_tests}
pub use Rattle.std.proofs.lemmas.List.{get_or_past, get_or_default, length-drop, length-replicate, get_or-drop, get_or-set_same, get_or-set_other, drop-set-lt}
pub use Rattle.std.specs.List.{Contains, remove}
pub use Rattle.dense_tables.specs.Greatest.{greatest}
pub use Rattle.dense_tables.specs.Levels.{IsShape, IsTop}
unfoldable pub use Rattle.dense_tables.specs.Levels.{under}
pub use Rattle.dense_tables.specs.LinkedLists.{LinkedListsState, list_of, IsListed, AreDisjoint, index_in, rest_from, without}
unfoldable pub use Rattle.dense_tables.specs.Links.{paths}
