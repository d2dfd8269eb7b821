use Rattle.page_keys.proofs.Common.{◌≡◌, ◌≤◌, ◌+◌, false, map, take, drop, find, EncodesMap, KeyMap, apply, write_of, is_over, OnlyReads}
use Rattle.page_keys.proofs.putting.rewrite_all.Given as goal

abbrev pub invariant-loop-page : goal.invariant-loop-page
invariant-loop-page g l = record {
  size : l.batch.page_bytes ≡ l.initial.device.config.page_bytes;
  reads : OnlyReads g.F.Flash.state l.initial.device l.device false;
  count : (g.F.Flash.state l.device.flash).reads
      ≤ (g.F.Flash.state l.initial.device.flash).reads + l.page-index;
  writes : (m : KeyMap) →
      let s = l.initial.device in
      EncodesMap s.config s.machine.pages m →
      (l.batch.entries ≡ map (write_of s.config (apply m l.changes)) (take l.page-index l.pages))
      × (find (is_over s.config (apply m l.changes)) l.pages
      ≡ find (is_over s.config (apply m l.changes)) (drop l.page-index l.pages));
}
