use Rattle.tx_engine.proofs.Common.{Config, ◌≡◌, ◌<◌, ◌≤◌, Ok, refl, sym, ap, ◌∙◌, subst, Carries-nothing, DeviceState, device_of}
use Rattle.tx_engine.specs.DeviceCalls.{ReadsDevice}
use Rattle.tx_engine.proofs.OfDevice.KeptDevices.{by_kept, kept_stored}
use Rattle.tx_engine.proofs.OfDevice.OtherFlash.{device_same, read_carries, read_same, answer_to, reads_page, reads_flash}
use Rattle.tx_engine.proofs.OfSettle.SettleExits.{failed_stays}
use Rattle.tx_engine.proofs.device.Device.read.Goals as goal
use Rattle.tx_engine.proofs.device.Device.read.Goals.{in-Ok-true, in-Ok-false, in-Err}

pub invariant_of-self : goal.invariant_of-self
invariant_of-self g c =
    let same = read_same g.F.Flash.state c.self.inside.store c.read.new.self c.args.page c.args.into.now c.read.new.into
    c.read.result c.read.ensures.reads in
    device_same g.F.Flash.state g.R.CommitRule.protocol c.self.inside c.read.new.self c.self.invariant
    c.read.ensures.stays same.0 same.1

pub read-requires-clause-stored : goal.read-requires-clause-stored
read-requires-clause-stored g c =
    kept_stored g.F.Flash.state c.self.inside _ c.self.view_is c.requires.kept g.R.CommitRule.protocol c.self.invariant

pub returns-then-page-config : goal.returns-then-page-config
returns-then-page-config g c = record {
  reads = subst (λ (s : DeviceState _). s.config.logical ≤ c.args.page) c.self.view_is
      (subst (λ (k : Config). k.logical ≤ c.args.page) c.config.ensures.config c.if-page-config.true);
  flash = (refl, refl);
  moment = refl;
  carries = Carries-nothing (g.F.Flash.state c.args.self.now.flash);
  stays = refl;
}

pub returns : goal.returns
returns g c =
    let state = g.F.Flash.state in
    let S = c.self.inside.store in let S1 = c.read.new.self in let O = c.self.inside.transactions in
    let known = c.read.ensures.reads in
    let moves = read_carries state S S1 c.args.page c.args.into.now c.read.new.into c.read.result known in
    let is : c.match-read.result ≡ answer_to c.read.result = elim c.match-read.branch [
      | in-Ok-true w ↦ w.result-is ∙ sym (ap answer_to (w.in-Ok-true.is ∙ ap (λ b. Ok b) w.in-Ok-true.field-0-test))
      | in-Ok-false w ↦ w.result-is ∙ sym (ap answer_to (w.in-Ok-false.is ∙ ap (λ b. Ok b) w.in-Ok-false.field-0-test))
      | in-Err w ↦ w.result-is ∙ sym (ap answer_to w.in-Err.is)
    ] in
    subst (ReadsDevice state c.args.self.now (device_of state (record c.self.inside { store = S1 })) c.args.page
    c.args.into.now c.read.new.into) (sym is)
    (by_kept state c.self.inside _ c.self.view_is c.requires.kept S1 O
    (λ (s t : DeviceState g.row.F.Denot). ReadsDevice state s t c.args.page c.args.into.now c.read.new.into
    (answer_to c.read.result))
    (record {
      reads = reads_page state S S1 c.args.page c.args.into.now c.read.new.into c.read.result
          (subst (λ (k : Config). c.args.page < k.logical) c.config.ensures.config c.if-page-config.false) known;
      flash = reads_flash state S S1 c.args.page c.args.into.now c.read.new.into c.read.result known;
      moment = moves.0;
      carries = moves.1;
      stays = failed_stays state S S1 O O c.read.ensures.stays refl moves.0;
    }))
