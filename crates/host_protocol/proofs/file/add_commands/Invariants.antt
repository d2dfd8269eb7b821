use Rattle.host_protocol.proofs.Common.{◌≡◌, ◌+◌, ◌≤◌, length, take, drop, entries_in, lines_of}
use Rattle.std.specs.Prelude.{sum_by}
use Rattle.host_protocol.specs.Files.{AreCommands}
use Rattle.host_protocol.specs.declared.file.TheConstants.{MAX_ENTRIES}
use Rattle.host_protocol.proofs.file.add_commands.Given as goal

abbrev pub invariant-loop-line : goal.invariant-loop-line
invariant-loop-line l = record {
  lines : drop l.number (lines_of l.bytes) ≡ lines_of l.rest;
  good : AreCommands l.page_bytes (take l.number (lines_of l.bytes)) l.commands.items;
  entries_left : l.entries_left + sum_by entries_in l.commands.items ≡ MAX_ENTRIES;
  short : l.number + length l.rest ≤ length l.bytes;
}

abbrev pub decreases-loop-line : goal.decreases-loop-line
decreases-loop-line l = length l.rest
