use Rattle.page_keys.proofs.Common.{ap, sym, ◌∙◌, DeviceState}
use Rattle.page_keys.proofs.OfStore.StoreReads.{keeps_keys}
use Rattle.page_keys.proofs.store.KeyStore.arm_cut.Goals as goal

pub invariant_of-self : goal.invariant_of-self
invariant_of-self g c =
    let stays = c.arm_cut.ensures.stays in
    record {
      kept = ap (λ (s : DeviceState g.row.F.Denot). s.dropped) stays ∙ c.self.invariant.kept;
      room = c.self.invariant.room
          ∙ sym (ap (λ (s : DeviceState g.row.F.Denot). s.config.page_bytes) stays);
      keys = λ usable. keeps_keys c.self.inside.device c.arm_cut.new.self stays
          (c.self.invariant.keys usable);
    }
