use Rattle.page_keys.proofs.Common.{◌≡◌, length, refl, ap, sym, ◌∙◌, Config, DeviceState}
use Rattle.page_keys.proofs.OfStore.StoreReads.{keeps_keys, reads_nothing, room_is}
use Rattle.page_keys.proofs.store.KeyStore.over.Goals as goal

pub invariant_of-result : goal.invariant_of-result
invariant_of-result g c =
    let reads = c.in-Ok-check_all.ensures.read in
    let size : length c.check_all.new.room ≡ length c.in-Ok.room.items =
    c.check_all.auto.room ∙ ap length c.deref_mut.ensures.value in
    record {
      kept = ap (λ (s : DeviceState g.row.F.Denot). s.dropped) reads.stays ∙ c.requires.kept;
      room = ap length (room_is c.in-Ok.room c.check_all.new.room size) ∙ size
          ∙ sym c.in-Ok.room.ok.0 ∙ c.in-Ok.ensures.len
          ∙ ap (λ (x : Config). x.page_bytes) c.device_facts-page_bytes.ensures.config
          ∙ sym (ap (λ (s : DeviceState g.row.F.Denot). s.config.page_bytes) reads.stays);
      keys = λ usable. keeps_keys c.args.device c.check_all.new.device reads.stays
          (record { closed = c.requires.closed; buckets = c.in-Ok-check_all.ensures.ok });
    }

pub returns-in-Ok-check_all-clause-keys : goal.returns-in-Ok-check_all-clause-keys
returns-in-Ok-check_all-clause-keys g c = (
  keeps_keys c.args.device c.check_all.new.device c.in-Ok-check_all.ensures.read.stays
      (record { closed = c.requires.closed; buckets = c.in-Ok-check_all.ensures.ok }),
  refl,
)

pub returns-in_default-clause-back : goal.returns-in_default-clause-back
returns-in_default-clause-back g c = reads_nothing g.F.Flash.state c.args.device
