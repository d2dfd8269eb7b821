use Rattle.page_keys.proofs.Common.{◌≡◌, ◌+◌, ◌≤◌, length, take, drop, lines_of}
use Rattle.std.specs.Prelude.{All}
use Rattle.page_keys.specs.Scripts.{AreKeyCommands, SuitsKeys}
use Rattle.page_keys.proofs.script.parse_keys.Given as goal

abbrev pub invariant-loop-line : goal.invariant-loop-line
invariant-loop-line l = record {
  lines : drop l.number (lines_of l.bytes) ≡ lines_of l.rest;
  good : AreKeyCommands (take l.number (lines_of l.bytes)) l.commands.items;
  suits : All SuitsKeys l.commands.items;
  short : l.number + length l.rest ≤ length l.bytes;
}

abbrev pub decreases-loop-line : goal.decreases-loop-line
decreases-loop-line l = length l.rest
