use Rattle.tx_engine.proofs.Common.{ap, refl, subst, FlashState, moment_of, DeviceState, device_of}
use Rattle.tx_engine.specs.DeviceCalls.{FlushesDevice}
use Rattle.tx_engine.proofs.OfSettle.SettleExits.{failed_stays}
use Rattle.tx_engine.proofs.OfDevice.OtherFlash.{device_same}
use Rattle.tx_engine.proofs.device.Device.flush.Goals as goal

pub invariant_of-self : goal.invariant_of-self
invariant_of-self g c =
    device_same g.F.Flash.state g.R.CommitRule.protocol c.self.inside c.flush.new.self c.self.invariant
    c.flush.ensures.stays.stays
    (ap (λ (s : FlashState). s.shape) c.flush.ensures.stays.same)
    (ap (λ (s : FlashState). s.image) c.flush.ensures.stays.same)

pub returns-clause-stays : goal.returns-clause-stays
returns-clause-stays g c =
    let state = g.F.Flash.state in
    let new = c.flush.new.self in
    subst (λ (s : DeviceState _). FlushesDevice state s (device_of state (record c.self.inside { store = new })))
    c.self.view_is (record {
      same = c.flush.ensures.stays.same;
      stays = ap (λ (s : DeviceState _). record s { dropped = c.self.inside.dropped })
          (failed_stays state c.self.inside.store new c.self.inside.transactions c.self.inside.transactions
          c.flush.ensures.stays.stays refl
          (ap (λ (s : FlashState). moment_of s) c.flush.ensures.stays.same));
    })

pub returns-clause-flushes : goal.returns-clause-flushes
returns-clause-flushes g c = rw (← c.self.view_is) c.flush.ensures.flushes
