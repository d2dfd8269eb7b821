use Rattle.desk_tasks.proofs.Common.{◌≡◌, ◌<◌, ℕ, false, length, state_of}
use Rattle.flash_model.specs.Flash.{IsSteady}
use Rattle.array_machine.specs.ArrayState.{page_at}
use Rattle.desk_tasks.proofs.comparing.search_pages.Given as goal

abbrev pub invariant-loop-page : goal.invariant-loop-page
invariant-loop-page g l = record {
  kept : l.one.dropped ≡ false;
  two_kept : l.two.dropped ≡ false;
  config : l.one.config ≡ l.fn.config;
  two_config : l.two.config ≡ l.initial.two.config;
  machine : l.one.machine ≡ l.initial.one.machine;
  two_machine : l.two.machine ≡ l.initial.two.machine;
  steady : IsSteady (state_of l.one.flash);
  two_steady : IsSteady (state_of l.two.flash);
  room : length l.here ≡ l.fn.config.page_bytes;
  two_room : length l.there ≡ l.fn.config.page_bytes;
  same : (p : ℕ) → p < l.page → page_at l.initial.one.machine.pages p ≡ page_at l.initial.two.machine.pages p;
}
