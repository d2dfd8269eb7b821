-- A device that is not dropped: callers see what its store and its open transactions stand for.
use Rattle.tx_engine.proofs.Common.{◌≡◌, Bool, false, sym, ap, ◌∙◌, subst, Config, Protocol, FlashState, IsReady, OpenTransactionsState, HasLimitsOf, DeviceState, Stands, StoreState, IsStoreState, store_in, DeviceInvariant, device_in, device_of, Inside}
use Rattle.collector.specs.StoreParts.{IsSure}

-- the store of a settled device is sure
pub ready_sure : {F : Type 0} (state : F → FlashState) (p : Protocol) (S : StoreState F) (O : OpenTransactionsState) →
    IsReady state p S O → IsSure p (store_in state S)
ready_sure state p S O h = record { matches = h.stands.matches; rule = h.rule; nothing = h.sure }

pub limits_then : (a b c : OpenTransactionsState) → HasLimitsOf a b → HasLimitsOf b c → HasLimitsOf a c
limits_then a b c first second = record {
  page_bytes = second.page_bytes ∙ first.page_bytes;
  logical = second.logical ∙ first.logical;
  pending = second.pending ∙ first.pending;
}

-- after a call in which its store and its open transactions changed it stands, dropped or not
pub kept_is : {F R : Type 0} (state : F → FlashState) (p : Protocol) (d : Inside F R) (S : StoreState F)
    (O : OpenTransactionsState) → DeviceInvariant state p d →
    Stands state (device_in state S O) → S.noted.config ≡ d.store.noted.config → HasLimitsOf d.transactions O →
    DeviceInvariant state p (record d { store = S; transactions = O })
kept_is state p d S O h stands config limits = record {
  stands = λ kept. stands;
  rule = ap (λ (k : Config). k.protocol) config ∙ h.rule;
  page_bytes = limits.page_bytes ∙ h.page_bytes ∙ ap (λ (k : Config). k.page_bytes) (sym config);
  logical = limits.logical ∙ h.logical ∙ ap (λ (k : Config). k.logical) (sym config);
  pending = limits.pending ∙ h.pending ∙ ap (λ (k : Config). k.pending) (sym config);
}

module _ {F R : Type 0} (state : F → FlashState) (d : Inside F R) (s : DeviceState F) (is : device_of state d ≡ s)
    (kept : s.dropped ≡ false) where
  pub not_dropped : d.dropped ≡ false
  not_dropped = ap (λ (t : DeviceState F). t.dropped) is ∙ kept

  pub as_kept : device_in state d.store d.transactions ≡ s
  as_kept = ap (λ (b : Bool). record (device_in state d.store d.transactions) { dropped = b }) (sym not_dropped) ∙ is

  -- what is so of that before and after a call is so of what callers see
  pub by_kept : (S : StoreState F) (O : OpenTransactionsState) (P : DeviceState F → DeviceState F → Type 0) →
      P (device_in state d.store d.transactions) (device_in state S O) →
      P s (device_of state (record d { store = S; transactions = O }))
  by_kept S O P h =
      subst (λ (t : DeviceState F). P t (device_of state (record d { store = S; transactions = O }))) as_kept
      (subst (λ (b : Bool). P (device_in state d.store d.transactions) (record (device_in state S O) { dropped = b }))
      (sym not_dropped) h)

  pub kept_stands : (p : Protocol) → DeviceInvariant state p d → Stands state (device_in state d.store d.transactions)
  kept_stands p h = h.stands not_dropped

  pub kept_stored : (p : Protocol) → DeviceInvariant state p d → IsStoreState state p d.store
  kept_stored p h = record { matches = (kept_stands p h).matches; rule = h.rule }
