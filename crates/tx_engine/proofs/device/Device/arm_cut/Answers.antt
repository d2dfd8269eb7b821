use Rattle.tx_engine.proofs.Common.{ap, refl, subst, FlashState, moment_of, ArmsDevice, DeviceState, device_of}
use Rattle.flash_model.specs.Arms.{ArmsCut}
use Rattle.tx_engine.proofs.OfSettle.SettleExits.{failed_stays}
use Rattle.tx_engine.proofs.OfDevice.OtherFlash.{device_same}
use Rattle.tx_engine.proofs.device.Device.arm_cut.Goals as goal

pub invariant_of-self : goal.invariant_of-self
invariant_of-self g c =
    device_same g.F.Flash.state g.R.CommitRule.protocol c.self.inside c.arm_cut.new.self c.self.invariant
    c.arm_cut.ensures.stays
    (ap (λ (s : FlashState). s.shape) c.arm_cut.ensures.arms.stays)
    (ap (λ (s : FlashState). s.image) c.arm_cut.ensures.arms.stays)

pub returns : goal.returns
returns g c =
    let state = g.F.Flash.state in
    let new = c.arm_cut.new.self in
    subst (λ (s : DeviceState _). ArmsDevice s (device_of state (record c.self.inside { store = new }))
    (ArmsCut (state s.flash) (state new.flash) c.args.count c.args.outcome))
    c.self.view_is (record {
      arms = c.arm_cut.ensures.arms;
      stays = ap (λ (s : DeviceState _). record s { dropped = c.self.inside.dropped })
          (failed_stays state c.self.inside.store new c.self.inside.transactions c.self.inside.transactions
          c.arm_cut.ensures.stays refl
          (ap (λ (s : FlashState). moment_of s) c.arm_cut.ensures.arms.stays));
    })
