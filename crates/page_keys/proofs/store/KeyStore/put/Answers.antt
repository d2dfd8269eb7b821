use Rattle.page_keys.proofs.Common.{◌≡◌, ◌⊎◌, ◌+◌, ◌<◌, ◌≤◌, Result, Ok, List, [], length, ap, refl, sym, subst, ◌∙◌, Some, None, Err, arith, IsErr, IsErrAnd, Config, PageWrite, put, DeviceState, limits_of, first_refusals, EncodesMap, AreBuckets, apply, pages_of, PutGives, IsFull, is_put_fault, early_refusal, KeyStoreState, Change}
use Rattle.tx_types.proofs.ConfigLemmas.{checked_config}
use Rattle.page_keys.specs.PutAnswers.{ReadsFirst}
use Rattle.page_keys.specs.Putting.{HasWrites}
use Rattle.page_keys.specs.declared.answers.PutError.TheVariants as refused
use Rattle.page_keys.proofs.OfStore.StoreReads.{keeps_keys, room_is}
use Rattle.page_keys.proofs.OfPut.Existing.{shows_some}
use Rattle.page_keys.proofs.OfBucket.Parts.{shown_buckets}
use Rattle.page_keys.proofs.OfPut.PutWrites.{only_spent, shows_after}
use Rattle.page_keys.proofs.OfPut.PutGiven.{early_gives, gives_error, not_repeated, reads_alone, reads_none, reads_then_wrote, reads_give, write_gives}
use Rattle.page_keys.proofs.OfPut.PutGiven.{length_pages}
use Rattle.page_keys.proofs.store.KeyStore.put.Goals as goal

pub returns-in_err-pages-clause-gives : goal.returns-in_err-pages-clause-gives
returns-in_err-pages-clause-gives g c m shows =
    let e = c.in_err-pages.field-0.0 in
    let config = c.device_facts-config.ensures.config
    ∙ ap (λ (k : KeyStoreState g.row.F.Denot). k.device.config) c.self.view_is in
    let early = subst (λ (l : List Change).
    (early_refusal c.args.self.now.device.config l ≡ Some e)
    ⊎ ((e ≡ refused.Memory) × (early_refusal c.args.self.now.device.config l ≡ None)))
    c.as_slice-list.ensures
    (subst (λ (x : Config).
    (early_refusal x c.as_slice-list.result.now ≡ Some e)
    ⊎ ((e ≡ refused.Memory) × (early_refusal x c.as_slice-list.result.now ≡ None))) config
    c.in_err-pages.ensures.refused) in
    gives_error g.F.Flash.state c.args.self.now m c.args.changes.now c.requires.usable
    c.args.self.now c.from_residual.result e c.from_residual.ensures.1
    (early_gives g.F.Flash.state c.args.self.now m c.args.changes.now c.requires.usable e early)

pub rewrite_all-requires-clause-differ : goal.rewrite_all-requires-clause-differ
rewrite_all-requires-clause-differ g c =
    not_repeated c.device_facts-config.result c.as_slice-list.result.now c.in_ok-pages.ensures.taken

pub invariant_of-self : goal.invariant_of-self
invariant_of-self g c =
    let reads = c.in-Ok.ensures.reads in
    let size : length c.rewrite_all.new.room ≡ length c.self.inside.room.items =
    c.rewrite_all.auto.room ∙ ap length c.deref_mut.ensures.value in
    record {
      kept = ap (λ (s : DeviceState g.row.F.Denot). s.dropped) reads.stays ∙ c.self.invariant.kept;
      room = ap length (room_is c.self.inside.room c.rewrite_all.new.room size) ∙ size
          ∙ c.self.invariant.room
          ∙ sym (ap (λ (s : DeviceState g.row.F.Denot). s.config.page_bytes) reads.stays);
      keys = λ usable. keeps_keys c.self.inside.device c.rewrite_all.new.device reads.stays
          (c.self.invariant.keys usable);
    }

pub invariant_of-self-in-Err : goal.invariant_of-self-in-Err
invariant_of-self-in-Err g c =
    let reads = c.in-Err.ensures.reads in
    let size : length c.rewrite_all.new.room ≡ length c.self.inside.room.items =
    c.rewrite_all.auto.room ∙ ap length c.deref_mut.ensures.value in
    let open_keys = ap (λ (k : KeyStoreState g.row.F.Denot). k.broken) c.self.view_is ∙ c.requires.usable in
    record {
      kept = ap (λ (s : DeviceState g.row.F.Denot). s.dropped) reads.stays ∙ c.self.invariant.kept;
      room = ap length (room_is c.self.inside.room c.rewrite_all.new.room size) ∙ size
          ∙ c.self.invariant.room
          ∙ sym (ap (λ (s : DeviceState g.row.F.Denot). s.config.page_bytes) reads.stays);
      keys = λ usable. keeps_keys c.self.inside.device c.rewrite_all.new.device reads.stays
          (c.self.invariant.keys open_keys);
    }

pub write-requires-clause-buckets : goal.write-requires-clause-buckets
write-requires-clause-buckets g c =
    let usable = ap (λ (k : KeyStoreState g.row.F.Denot). k.broken) c.self.view_is ∙ c.requires.usable in
    keeps_keys c.self.inside.device c.rewrite_all.new.device c.in-Ok.ensures.reads.stays
    (c.self.invariant.keys usable)

pub write-requires-clause-fits : goal.write-requires-clause-fits
write-requires-clause-fits g c =
    let s = c.self.inside.device in
    let t = c.rewrite_all.new.device in
    let usable = ap (λ (k : KeyStoreState g.row.F.Denot). k.broken) c.self.view_is ∙ c.requires.usable in
    let keys = c.self.invariant.keys usable in
    let some = shows_some s.config s.machine.pages keys.buckets in
    let has = subst (λ (l : List Change). HasWrites s.config some.0 l c.in-Ok.batch.entries)
    c.as_slice-list.ensures (c.in-Ok.ensures.writes some.0 some.1) in
    let early = subst (λ (l : List Change). early_refusal s.config l ≡ None)
    c.as_slice-list.ensures
    (subst (λ (x : Config). early_refusal x c.as_slice-list.result.now ≡ None)
    c.device_facts-config.ensures.config c.in_ok-pages.ensures.taken) in
    let least = (checked_config s.config _ c.device_facts-config.ensures.always.check).0.logical in
    let exist : 0 < s.config.logical = omega arith in
    let fits = only_spent s.config some.0 c.args.changes.now exist early in
    subst (λ (x : DeviceState g.row.F.Denot).
    first_refusals (limits_of x.config) [] 0 c.in-Ok.batch.entries ≡ None)
    (sym c.in-Ok.ensures.reads.stays)
    (subst (λ (ws : List PageWrite). first_refusals (limits_of s.config) [] 0 ws ≡ None)
    (sym has.writes_are) fits)

pub write-requires-clause-keys : goal.write-requires-clause-keys
write-requires-clause-keys g c =
    let s = c.self.inside.device in
    let t = c.rewrite_all.new.device in
    let usable = ap (λ (k : KeyStoreState g.row.F.Denot). k.broken) c.self.view_is ∙ c.requires.usable in
    let keys = c.self.invariant.keys usable in
    let some = shows_some s.config s.machine.pages keys.buckets in
    let has = subst (λ (l : List Change). HasWrites s.config some.0 l c.in-Ok.batch.entries)
    c.as_slice-list.ensures (c.in-Ok.ensures.writes some.0 some.1) in
    let size = length_pages s.config.protocol s.config.logical s.machine _ keys.closed
    c.device_facts-config.ensures.always.array in
    let made = shows_after s.config some.0 c.args.changes.now s.machine.pages some.1
    c.requires.keys size has.fits in
    subst (λ (x : DeviceState g.row.F.Denot).
    AreBuckets x.config (put x.machine.pages c.in-Ok.batch.entries))
    (sym c.in-Ok.ensures.reads.stays)
    (subst (λ (ws : List PageWrite). AreBuckets s.config (put s.machine.pages ws))
    (sym has.writes_are) (shown_buckets s.config _ _ made))

pub returns-in-Ok-clause-gives : goal.returns-in-Ok-clause-gives
returns-in-Ok-clause-gives g c m shows =
    let s = c.self.inside.device in
    let t = c.rewrite_all.new.device in
    let V : KeyStoreState g.row.F.Denot = record { device = s; broken = c.self.inside.broken } in
    let usable = ap (λ (k : KeyStoreState g.row.F.Denot). k.broken) c.self.view_is ∙ c.requires.usable in
    let its = subst (λ (k : KeyStoreState g.row.F.Denot).
    EncodesMap k.device.config k.device.machine.pages m) (sym c.self.view_is) shows in
    let early = subst (λ (l : List Change). early_refusal s.config l ≡ None)
    c.as_slice-list.ensures
    (subst (λ (x : Config). early_refusal x c.as_slice-list.result.now ≡ None)
    c.device_facts-config.ensures.config c.in_ok-pages.ensures.taken) in
    let has = subst (λ (l : List Change). HasWrites s.config m l c.in-Ok.batch.entries)
    c.as_slice-list.ensures (c.in-Ok.ensures.writes m its) in
    let keys = c.self.invariant.keys usable in
    let size = length_pages s.config.protocol s.config.logical s.machine _ keys.closed
    c.device_facts-config.ensures.always.array in
    let made = subst (λ (ws : List PageWrite).
    EncodesMap s.config (put s.machine.pages ws) (apply m c.args.changes.now))
    (sym has.writes_are)
    (shows_after s.config m c.args.changes.now s.machine.pages its c.requires.keys size
    has.fits) in
    subst (λ (k : KeyStoreState g.row.F.Denot).
    PutGives g.F.Flash.state k c.write.new.self m c.args.changes.now c.write.result) c.self.view_is
    (write_gives g.F.Flash.state V c.write.new.self t m c.args.changes.now c.in-Ok.batch.entries
    c.in-Ok.ensures.reads early has.fits has.writes_are its made c.write.result
    c.write.ensures.written c.write.ensures.usable c.write.ensures.not_written
    c.write.ensures.broken)

pub returns-clause-gives : goal.returns-clause-gives
returns-clause-gives g c m shows =
    let s = c.self.inside.device in
    let t = c.rewrite_all.new.device in
    let e = c.in-Err.e in
    let V : KeyStoreState g.row.F.Denot = record { device = s; broken = c.self.inside.broken } in
    let usable = ap (λ (k : KeyStoreState g.row.F.Denot). k.broken) c.self.view_is ∙ c.requires.usable in
    let its = subst (λ (k : KeyStoreState g.row.F.Denot).
    EncodesMap k.device.config k.device.machine.pages m) (sym c.self.view_is) shows in
    let early = subst (λ (l : List Change). early_refusal s.config l ≡ None)
    c.as_slice-list.ensures
    (subst (λ (x : Config). early_refusal x c.as_slice-list.result.now ≡ None)
    c.device_facts-config.ensures.config c.in_ok-pages.ensures.taken) in
    let full = subst (λ (l : List Change). IsFull s.config m l e) c.as_slice-list.ensures
    (c.in-Err.ensures.refused m its) in
    let keys = c.self.invariant.keys usable in
    subst (λ b. PutGives g.F.Flash.state c.args.self.now (record { device = t; broken = b }) m
    c.args.changes.now (Err e)) (sym c.is_fault-self-inside.ensures)
    (subst (λ (k : KeyStoreState g.row.F.Denot). PutGives g.F.Flash.state k
    (record { device = t; broken = is_put_fault e }) m c.args.changes.now (Err e)) c.self.view_is
    (reads_give g.F.Flash.state V t m c.args.changes.now usable e full early
    c.in-Err.ensures.reads keys.closed its c.device_facts-config.ensures.always.array))

err_of : {X E : Type 0} (r : Result X E) (P : E → Type 0) → IsErrAnd r P → IsErr r
err_of (Ok x) P h = absurd h
err_of (Err e) P h = refl

pub returns-in_err-pages-clause-reads : goal.returns-in_err-pages-clause-reads
returns-in_err-pages-clause-reads g c =
    reads_none g.F.Flash.state c.args.self.now c.args.changes.now c.from_residual.result
    (err_of c.from_residual.result _ c.from_residual.ensures.1)

pub returns-in-Ok-clause-reads : goal.returns-in-Ok-clause-reads
returns-in-Ok-clause-reads g c =
    let s = c.self.inside.device in
    let t = c.rewrite_all.new.device in
    let V : KeyStoreState g.row.F.Denot = record { device = s; broken = c.self.inside.broken } in
    let config = c.device_facts-config.ensures.config in
    let early = subst (λ (l : List Change). early_refusal s.config l ≡ None)
    c.as_slice-list.ensures
    (subst (λ (x : Config). early_refusal x c.as_slice-list.result.now ≡ None) config
    c.in_ok-pages.ensures.taken) in
    let size = ap length (c.deref.ensures.value ∙ c.in_ok-pages.ensures.pages
    ∙ ap (λ (x : Config). pages_of x.logical c.as_slice-list.result.now) config
    ∙ ap (pages_of s.config.logical) c.as_slice-list.ensures) in
    let count = subst (λ k. (g.F.Flash.state t.flash).reads ≤ (g.F.Flash.state s.flash).reads + k)
    size c.in-Ok.ensures.count in
    subst (λ (k : KeyStoreState g.row.F.Denot).
    ReadsFirst g.F.Flash.state k c.write.new.self c.args.changes.now c.write.result) c.self.view_is
    (reads_then_wrote g.F.Flash.state V c.write.new.self t c.args.changes.now
    c.in-Ok.ensures.reads count early c.in-Ok.batch.entries c.write.result
    c.write.ensures.written c.write.ensures.not_written)

pub returns-clause-reads : goal.returns-clause-reads
returns-clause-reads g c =
    let s = c.self.inside.device in
    let t = c.rewrite_all.new.device in
    let V : KeyStoreState g.row.F.Denot = record { device = s; broken = c.self.inside.broken } in
    let config = c.device_facts-config.ensures.config in
    let early = subst (λ (l : List Change). early_refusal s.config l ≡ None)
    c.as_slice-list.ensures
    (subst (λ (x : Config). early_refusal x c.as_slice-list.result.now ≡ None) config
    c.in_ok-pages.ensures.taken) in
    let size = ap length (c.deref.ensures.value ∙ c.in_ok-pages.ensures.pages
    ∙ ap (λ (x : Config). pages_of x.logical c.as_slice-list.result.now) config
    ∙ ap (pages_of s.config.logical) c.as_slice-list.ensures) in
    let e = c.in-Err.e in
    let count = subst (λ k. (g.F.Flash.state t.flash).reads ≤ (g.F.Flash.state s.flash).reads + k)
    size c.in-Err.ensures.count in
    subst (λ (k : KeyStoreState g.row.F.Denot). ReadsFirst g.F.Flash.state k
    (record { device = t; broken = c.is_fault-self-inside.result }) c.args.changes.now (Err e))
    c.self.view_is
    (reads_alone g.F.Flash.state V t c.args.changes.now e c.is_fault-self-inside.result
    c.in-Err.ensures.reads count early)
