-- What the write of a put leaves of a store.
use Rattle.page_keys.proofs.Common.{◌≡◌, false, List, sym, ap, subst, ◌∙◌, PageWrite, Config, FlashState, ArrayState, put, DeviceState, AreBuckets, is_put_fault, HasKeys, PutError}
use Rattle.page_keys.specs.Writing.{Writes, WritesNot, Refuses}
use Rattle.page_keys.specs.declared.answers.PutError.TheVariants as refused

module _ {F : Type 0} (state : F → FlashState) (old new : DeviceState F) (ws : List PageWrite) where
  pub has_after : Writes state old new ws → AreBuckets old.config (put old.machine.pages ws) →
      HasKeys new
  has_after writes buckets = record {
    closed = ap (λ (s : ArrayState). s.entries) writes.machine;
    buckets = subst (λ (c : Config). AreBuckets c new.machine.pages) (sym writes.moved.config)
        (subst (λ (s : ArrayState). AreBuckets old.config s.pages) (sym writes.machine) buckets);
  }

  has_refused : Refuses old new → HasKeys old → HasKeys new
  has_refused r keys = record {
    closed = ap (λ (s : ArrayState). s.entries) r.machine ∙ keys.closed;
    buckets = subst (λ (c : Config). AreBuckets c new.machine.pages) (sym r.config)
        (subst (λ (s : ArrayState). AreBuckets old.config s.pages) (sym r.machine) keys.buckets);
  }

  pub has_not : (e : PutError) → WritesNot state old new ws e → HasKeys old →
      is_put_fault e ≡ false → HasKeys new
  has_not (refused.Spent page) not keys b = has_refused not.1 keys
  has_not refused.Fault not keys b = cc
  has_not refused.Memory not keys b = absurd not
  has_not refused.Empty not keys b = absurd not
  has_not (refused.Repeated k) not keys b = absurd not
  has_not (refused.Wide k) not keys b = absurd not
  has_not (refused.Bucket k) not keys b = absurd not

  pub config_not : (e : PutError) → WritesNot state old new ws e → new.config ≡ old.config
  config_not (refused.Spent page) not = not.1.config
  config_not refused.Fault not = not.moved.config
  config_not refused.Memory not = absurd not
  config_not refused.Empty not = absurd not
  config_not (refused.Repeated k) not = absurd not
  config_not (refused.Wide k) not = absurd not
  config_not (refused.Bucket k) not = absurd not
