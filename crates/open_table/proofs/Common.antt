-- The names that most proofs of this crate cite, passed on from one place. Declares nothing.
pub use Rattle.std.proofs.Common.{◌≡◌, ◌≢◌, ℕ, ◌<◌, Bool, false, List, length, map, get_or, Option, Some, None, refl, sym, ap, ap₂, ◌∙◌, subst, arith, suc, ◌+◌, ◌≤◌, drop, All, Contains, true, [], ◌∷◌, ◌++◌, ◌==◌, cond, set, AllPairs, zero, ◌||◌, vec_capacity}
pub use Rattle.std.proofs.lemmas.Bool.{cond-true, cond-false, eqb-false}
pub use Rattle.std.proofs.lemmas.List.{length-map, get_or-map, length-set, get_or-set_same, get_or-set_other, drop_all, drop_more, take_more, length-append, map-append, map_push}
pub use Rattle.std.proofs.lemmas.List.Elements.{All-map, All-nil, All-head, All-tail, All-cons, All-contains, All-push}
pub use Rattle.std.proofs.lemmas.List.Quantifiers.{position-Some}
pub use Rattle.std.specs.List.{AllZip, list_any}
pub use Rattle.std.specs.Prelude.{position, remove, is_none, slice_set, find}
pub use Rattle.std.specs.Vec.{with_items}
pub use Rattle.array_machine.specs.ArrayState.{Entry, entry_of, has_tag, without, pending_pages, is_doubted, with_entry}
pub use Rattle.array_machine.specs.Submit.{or_else}
pub use Rattle.array_machine.specs.declared.mark.Mark.TheVariants.{Plain}
pub use Rattle.judged_records.specs.IndexState.{IndexState}
pub use Rattle.list_lemmas.proofs.Membership.{all_from, Contains-rest}
pub use Rattle.list_lemmas.proofs.Pairs.{pairs_head, pairs_tail}
pub use Rattle.list_lemmas.proofs.Quantifiers.{all_remove}
pub use Rattle.open_table.specs.OpenTransactionsState.{Naming, no_name, name_at, write_at, OpenTransactionsState, TransactionState, no_transaction, transaction_at, with_transaction, with_noted_count, with_mark, with_done, begun}
pub use Rattle.open_table.specs.PendingWrites.{transaction_of, write_held, IsWhole}
unfoldable pub use Rattle.open_table.specs.PendingWrites.{with_owner}
pub use Rattle.open_table.specs.declared.pending_writes.PendingWrite.{PendingWrite}
pub use Rattle.open_table.specs.declared.pending_writes.Transaction.{Transaction}
pub use Rattle.record_list.specs.Transaction.{ShareNoPage}
pub use Rattle.tx_types.specs.Batch.{PageWrite, no_write, bytes_in, Writes}
pub use Rattle.tx_types.specs.declared.record.Link.{Link}
