mod StoreWrites
use Rattle.page_keys.proofs.Common.{ap, sym, subst, ◌∙◌, put, AreBuckets, HasKeys, KeyStoreState, Config}
use Rattle.page_keys.proofs.store.KeyStore.write.Answers.StoreWrites.{has_after, has_not, config_not}
use Rattle.page_keys.proofs.store.KeyStore.write.Goals as goal

pub invariant_of-self : goal.invariant_of-self
invariant_of-self g c =
    let s = c.self.inside.device in
    let written = c.in-Ok.ensures.written in
    record {
      kept = c.write.ensures.kept;
      room = c.self.invariant.room ∙ sym (ap (λ (x : Config). x.page_bytes) written.moved.config);
      keys = λ usable. has_after g.F.Flash.state s c.write.new.device c.args.batch.now.entries
          written
          (subst (λ (k : KeyStoreState g.row.F.Denot).
          AreBuckets k.device.config (put k.device.machine.pages c.args.batch.now.entries))
          (sym c.self.view_is) c.requires.keys);
    }

pub invariant_of-self-in-Err : goal.invariant_of-self-in-Err
invariant_of-self-in-Err g c =
    let s = c.self.inside.device in
    let not = c.in-Err.ensures.not_written in
    record {
      kept = c.write.ensures.kept;
      room = c.self.invariant.room ∙ sym (ap (λ (x : Config). x.page_bytes)
          (config_not g.F.Flash.state s c.write.new.device c.args.batch.now.entries c.in-Err.e not));
      keys = λ usable. has_not g.F.Flash.state s c.write.new.device c.args.batch.now.entries
          c.in-Err.e not
          (subst (λ (k : KeyStoreState g.row.F.Denot). HasKeys k.device) (sym c.self.view_is)
          c.requires.buckets) (sym c.is_fault-self-inside.ensures ∙ usable);
    }
