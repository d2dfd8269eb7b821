use Rattle.open_table.proofs.Common.{◌≡◌, ◌+◌, [], ◌∷◌, ◌++◌, length, ap, ◌∙◌, refl, arith, bytes_in, PendingWrite}
use Rattle.tx_types.specs.Batch.{entry_at}
use Rattle.open_table.specs.OpenTransactionsState.{next_name}
use Rattle.open_table.proofs.OfTransactions.PageMoves.{holds_more}
use Rattle.open_table.proofs.pending_writes.store_pages.Goals as goal

pub loop-i-preserved : goal.loop-i-preserved
loop-i-preserved g c =
    let held = c.loop-i.invariant in
    let e = entry_at c.args.batch.now c.loop-i.i in
    let p : PendingWrite = record {
      name = record { page = c.page-page.result; version = c.mention-version.result + 1 };
      discard = c.discards-discard.result;
      bytes = c.fill.new.room;
    } in
    let popped : c.loop-i.rooms.items ≡ c.pop.new.self.items ++ c.unwrap-bytes.result ∷ [] =
    rw c.unwrap-bytes.ensures at c.pop.ensures.items in
    let pushed : c.push_reserved.new.self.items ≡ c.loop-i.pages.items ++ p ∷ [] = c.push_reserved.ensures.items in
    let wide = c.push_reserved.ensures.capacity in
    let name : p.name ≡ next_name c.args.index.now e = rw (c.mention-version.ensures, c.page-page.ensures)
    (refl {a = next_name c.args.index.now e}) in
    let bytes : p.bytes.items ≡ bytes_in c.args.batch.now.page_bytes e = c.fill.ensures ∙ c.bytes.ensures.bytes in (
      held.0 ++ p ∷ [],
      holds_more c.args.index.now c.args.pages.now c.loop-i.pages c.push_reserved.new.self c.args.rooms.now c.loop-i.rooms
          c.pop.new.self
          c.args.batch.now c.loop-i.i held.0 c.unwrap-bytes.result p held.1 (omega arith) popped c.pop.ensures.capacity
          pushed (omega (arith, wide)) name c.discards-discard.ensures bytes (ap length c.fill.ensures
          ∙ c.bytes.ensures.whole),
    )
