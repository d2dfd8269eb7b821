use Rattle.std.proofs.Common.{◌≡◌, All, length, map, replicate, None}
use Rattle.list_flash.specs.Registers.{load_in, HasPage}
use Rattle.list_flash.proofs.registers.empty_registers.Given as goal

abbrev pub invariant-loop : goal.invariant-loop
invariant-loop l = record {
  empty : map load_in l.all.items ≡ replicate l.counter None;
  dies : length l.all.items ≡ l.counter;
  room : All (HasPage l.shape.page_bytes) l.all.items;
}
