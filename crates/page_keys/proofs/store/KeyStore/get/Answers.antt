use Rattle.page_keys.proofs.Common.{◌≡◌, ◌<◌, ℕ, List, length, Option, refl, ap, sym, subst, ◌∙◌, Config, DeviceState, EncodesMap, part, bucket_of, KeyStoreState}
use Rattle.std.specs.FinMap as keys
use Rattle.page_keys.specs.Entries.{GivesValue}
use Rattle.page_keys.proofs.OfBucket.EntryLists.{in_page}
use Rattle.page_keys.proofs.OfBucket.Parts.{get_in_part}
use Rattle.page_keys.proofs.OfStore.StoreReads.{keeps_keys, room_is, holds_read}
use Rattle.page_keys.proofs.store.KeyStore.get.Goals as goal

pub invariant_of-self : goal.invariant_of-self
invariant_of-self g c =
    let reads = c.in_err-read_page.ensures.reads in
    let size : length c.read_page.new.room ≡ length c.self.inside.room.items =
    c.read_page.auto.room ∙ ap length c.deref_mut.ensures.value in
    record {
      kept = ap (λ (s : DeviceState g.row.F.Denot). s.dropped) reads.stays ∙ c.self.invariant.kept;
      room = ap length (room_is c.self.inside.room c.read_page.new.room size) ∙ size
          ∙ c.self.invariant.room
          ∙ sym (ap (λ (s : DeviceState g.row.F.Denot). s.config.page_bytes) reads.stays);
      keys = λ usable. keeps_keys c.self.inside.device c.read_page.new.device reads.stays
          (c.self.invariant.keys usable);
    }

pub value_in-requires : goal.value_in-requires
value_in-requires g c =
    let room = c.self.inside.room in
    let size : length c.read_page.new.room ≡ length room.items =
    c.read_page.auto.room ∙ ap length c.deref_mut.ensures.value in
    let same = c.deref.ensures.value ∙ room_is room c.read_page.new.room size in
    let usable = ap (λ (k : KeyStoreState g.row.F.Denot). k.broken) c.self.view_is ∙ c.requires in
    let exists = subst (λ (x : Config). c.bucket-page.result < x.logical) c.device_facts.ensures.config
    c.bucket-page.ensures.exists in
    let found = (c.self.invariant.keys usable).buckets c.bucket-page.result exists in (
      found.0,
      holds_read c.self.inside.device.config.page_bytes _ c.deref.result.now found.0
          (same ∙ c.in_ok-read_page.ensures.shown)
          (ap length same ∙ size ∙ c.self.invariant.room) found.1.holds,
    )

pub invariant_of-self-2 : goal.invariant_of-self-2
invariant_of-self-2 g c =
    let reads = c.in_ok-read_page.ensures.reads in
    let size : length c.read_page.new.room ≡ length c.self.inside.room.items =
    c.read_page.auto.room ∙ ap length c.deref_mut.ensures.value in
    record {
      kept = ap (λ (s : DeviceState g.row.F.Denot). s.dropped) reads.stays ∙ c.self.invariant.kept;
      room = ap length (room_is c.self.inside.room c.read_page.new.room size) ∙ size
          ∙ c.self.invariant.room
          ∙ sym (ap (λ (s : DeviceState g.row.F.Denot). s.config.page_bytes) reads.stays);
      keys = λ usable. keeps_keys c.self.inside.device c.read_page.new.device reads.stays
          (c.self.invariant.keys usable);
    }

pub returns-clause-gives : goal.returns-clause-gives
returns-clause-gives g c m shows =
    let room = c.self.inside.room in
    let size : length c.read_page.new.room ≡ length room.items =
    c.read_page.auto.room ∙ ap length c.deref_mut.ensures.value in
    let same = c.deref.ensures.value ∙ room_is room c.read_page.new.room size in
    let s = c.self.inside.device in
    let page = c.bucket-page.result in
    let config = c.device_facts.ensures.config in
    let exists = subst (λ (x : Config). page < x.logical) config c.bucket-page.ensures.exists in
    let its = subst (λ (k : KeyStoreState g.row.F.Denot).
    EncodesMap k.device.config k.device.machine.pages m) (sym c.self.view_is) shows in
    let pairs = keys.entries (part s.config.logical page m) in
    let hashed = subst (λ (x : Config). page ≡ bucket_of x.logical c.args.key.now) config
    c.bucket-page.ensures.bucket in
    let given = c.value_in.ensures.gives pairs
    (holds_read s.config.page_bytes _ c.deref.result.now pairs
    (same ∙ c.in_ok-read_page.ensures.shown)
    (ap length same ∙ size ∙ c.self.invariant.room) (its page exists)) in
    subst (λ (o : Option (List ℕ)).
    GivesValue o c.value_in.result c.args.into.now c.value_in.new.into)
    (sym (get_in_part s.config.logical page m c.args.key.now
    (in_page s.config.logical page page c.args.key.now c.args.key.now refl hashed refl))) given
