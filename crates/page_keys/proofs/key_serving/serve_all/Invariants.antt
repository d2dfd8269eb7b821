use Rattle.page_keys.proofs.Common.{◌≡◌, false, take, FlashState, moment_of, BeginsKeys, flash_in, Fits, IsKeyImage}
use Rattle.page_keys.specs.KeyServed.{BeginsFlash}
use Rattle.page_keys.proofs.OfServe.KeyAllLemmas.{HasServed}
use Rattle.page_keys.proofs.OfServe.UnopenedLemmas.{HasUnopened}
use Rattle.page_keys.proofs.key_serving.serve_all.Given as goal

abbrev pub invariant-loop-command : goal.invariant-loop-command
invariant-loop-command g l = record {
  fits : Fits g.F.Flash.state l.config l.session;
  served : (init : FlashState) → BeginsKeys g.F.Flash.state l.config init l.initial.session →
      HasServed g.F.Flash.state l.config init (take l.command-index l.list) l.session
      l.initial.out.items l.out.items;
  other : (init : FlashState) → (IsKeyImage l.config init → ⊥) →
      moment_of (g.F.Flash.state (flash_in l.initial.session)) ≡ moment_of init →
      moment_of (g.F.Flash.state (flash_in l.session)) ≡ moment_of init;
  unopened : (init : FlashState) → (IsKeyImage l.config init → ⊥) →
      moment_of (g.F.Flash.state (flash_in l.initial.session)) ≡ moment_of init →
      BeginsFlash l.config init false (g.F.Flash.state (flash_in l.initial.session)) →
      HasUnopened g.F.Flash.state l.config init (take l.command-index l.list) l.session
      l.initial.out.items l.out.items;
  extras : (g.F.Flash.state (flash_in l.session)).extras
      ≡ (g.F.Flash.state (flash_in l.initial.session)).extras;
}
