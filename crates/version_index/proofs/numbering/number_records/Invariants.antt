use Rattle.version_index.proofs.Common.{◌≡◌, ℕ, ◌<◌, ◌≤◌, false, length, take}
use Rattle.std.specs.Vec.{vec_capacity}
use Rattle.record_list.specs.Records.{record_at}
use Rattle.judged_records.proofs.OfChanges.Mentions.{AreMentions}
use Rattle.version_index.proofs.OfOpening.ScanNumbers.{IsNumberingSo}
use Rattle.version_index.proofs.numbering.number_records.Given as goal

abbrev pub invariant-loop-found : goal.invariant-loop-found
invariant-loop-found l = record {
  numbering : IsNumberingSo l.initial.tables.shape (length l.initial.tables.pages) l.records l.numbers.items
      l.tables l.found-index;
  room : length l.records ≤ vec_capacity l.numbers;
  mentions : AreMentions (take l.found-index l.records) l.fn.logical l.mentions.items;
  kept : l.discards ≡ false → (j : ℕ) → j < l.found-index → (record_at l.records j).discard ≡ false;
}
