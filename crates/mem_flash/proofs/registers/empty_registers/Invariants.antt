use Rattle.mem_flash.proofs.Common.{◌≡◌, All, length, map, replicate, None, load_in}
use Rattle.mem_flash.specs.Registers.{HasPage}
use Rattle.mem_flash.proofs.registers.empty_registers.Given as goal

abbrev pub invariant-loop : goal.invariant-loop
invariant-loop l = record {
  empty : map load_in l.all.items ≡ replicate l.counter None;
  dies : length l.all.items ≡ l.counter;
  room : All (HasPage l.shape.page_bytes) l.all.items;
}
