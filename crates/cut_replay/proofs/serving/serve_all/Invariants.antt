use Rattle.cut_replay.proofs.Common.{◌≡◌, false, [], take, FlashState, moment_of, flash_in, IsSoundFlash, IsSoundOrSame, CountsBreaks, BeginsFlash}
use Rattle.cut_replay.specs.ServerRuns.{IsServed}
use Rattle.cut_replay.proofs.Progress.{HasServed, StaysUnmounted}
use Rattle.cut_replay.proofs.serving.serve_all.Given as goal

abbrev pub invariant-loop-command : goal.invariant-loop-command
invariant-loop-command g l = record {
  config : l.server.config ≡ l.initial.server.config;
  served : (init : FlashState) →
      IsServed g.F.Flash.state l.initial.server.config init [] [] [] l.initial.server.session →
      HasServed g.F.Flash.state l.initial.server.config init (take l.command-index l.list) l.server.session
      (record { text = g.W.Watch.text l.initial.out; kept = g.W.Watch.kept l.initial.out; flashes = g.W.Watch.flashes l.initial.out })
      (record { text = g.W.Watch.text l.out; kept = g.W.Watch.kept l.out; flashes = g.W.Watch.flashes l.out });
  kept : (init : FlashState) →
      IsSoundOrSame l.initial.server.config init (g.F.Flash.state (flash_in l.initial.server.session)) →
      IsSoundOrSame l.initial.server.config init (g.F.Flash.state (flash_in l.server.session));
  extras : (g.F.Flash.state (flash_in l.server.session)).extras
      ≡ (g.F.Flash.state (flash_in l.initial.server.session)).extras;
  unsound : (init : FlashState) → (IsSoundFlash l.initial.server.config init → ⊥) →
      BeginsFlash l.initial.server.config init false (g.F.Flash.state (flash_in l.initial.server.session)) →
      moment_of (g.F.Flash.state (flash_in l.initial.server.session)) ≡ moment_of init →
      CountsBreaks [] init (g.F.Flash.state (flash_in l.initial.server.session)) →
      StaysUnmounted l.initial.server.config (take l.command-index l.list) init
      (g.F.Flash.state (flash_in l.server.session))
      (record { text = g.W.Watch.text l.initial.out; kept = g.W.Watch.kept l.initial.out; flashes = g.W.Watch.flashes l.initial.out })
      (record { text = g.W.Watch.text l.out; kept = g.W.Watch.kept l.out; flashes = g.W.Watch.flashes l.out });
}
