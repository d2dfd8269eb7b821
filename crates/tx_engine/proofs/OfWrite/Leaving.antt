-- What making room leaves of a device, by what each such call of its store keeps.
use Rattle.tx_engine.proofs.Common.{◌≡◌, ℕ, ◌<◌, Bool, false, List, Option, refl, sym, ap, ◌∙◌, subst, inl, inr, slice_index, Protocol, FlashState, KeepsArray, array_known, page_at, DeviceState, Stands, OpenTransactionsState, entries_of, namings_of, StoreState, store_in, device_in, ArrayStays, ImageIsSound, Matches}
use Rattle.collector.specs.Calls.{Keeps}
use Rattle.collector.specs.Retiring.{KeepsStore}
use Rattle.collector.specs.SinceErase.{FlashWorksSinceErase}
use Rattle.collector.proofs.OfNotes.KeepsLemmas.{tables_of}
use Rattle.collector.specs.declared.unsure.Unsure.TheVariants as unsure
use Rattle.tx_engine.specs.Retire.{LeavesTables}
use Rattle.tx_engine.specs.Settling.{IsLeft}
use Rattle.tx_engine.proofs.OfDevice.Kept.{BlocksInvariant, IsNoOwn, from_stands, to_stands, kept_still, nothing_no_own}
use Rattle.tx_engine.proofs.OfDevice.ExitsThen.{before_itself, exits_then, since_then}
use Rattle.tx_engine.proofs.OfWrite.HeldImages.{held_left}
use Rattle.collector.proofs.OfNotes.Keeping.{preserves_then}

module _ {F : Type 0} (state : F → FlashState) (S S' : StoreState F) (O : OpenTransactionsState) (broken : Bool)
    (p : Protocol) (law : ArrayStays p) (images : ImageIsSound p)
    (rule : S.noted.config.protocol ≡ p)
    (h : Stands state (device_in state S O)) (keep : KeepsStore p (store_in state S) (store_in state S') broken)
    (sure : S.unsure ≡ unsure.Nothing) where
  kept : BlocksInvariant (state S.flash) S.noted S.table S.unsure O
  kept = from_stands state S O h

  its : ArrayStays S.noted.config.protocol
  its = subst ArrayStays (sym rule) law

  array : KeepsArray S.noted.config.protocol S.noted.config.logical (state S.flash).image (state S'.flash).image
  array = subst (λ q. KeepsArray q S.noted.config.logical (state S.flash).image (state S'.flash).image)
      (sym rule) keep.array

  same_known : array_known S'.noted (state S'.flash).image ≡ array_known S.noted (state S.flash).image
  same_known = its.array (state S.flash) (state S'.flash) S.noted S'.noted S.table S'.table S.unsure S'.unsure
      kept.matches keep.matches refl keep.preserves
      array

  pub tables_left : LeavesTables state (device_in state S O) (device_in state S' O)
  tables_left = record {
    stands = to_stands state S' O (kept_still (state S.flash) (state S'.flash) S.noted S'.noted S.table S'.table
        S.unsure S'.unsure O its kept
        (subst IsNoOwn (sym sure) nothing_no_own) keep.others keep.matches keep.preserves array);
    machine = ap (λ pages. record { pages = pages; entries = entries_of O }) same_known;
    tables = record {
      config = keep.preserves.config;
      versions = λ page low. inr (
        keep.preserves.current page low,
        ap (λ (pages : List (Option (List ℕ))). page_at pages page) same_known,
      );
      mentions = λ page low. inl (ap (λ (ms : List ℕ). slice_index ms page) keep.preserves.mentions);
      names = before_itself (namings_of O);
      kept = refl;
    };
    versions = keep.preserves.current;
    kept = keep.preserves;
    held = held_left (state S.flash) (state S'.flash) S.noted S.table (subst ImageIsSound (sym rule) images)
        (subst (λ u. Matches (state S.flash) S.noted S.table u) sure kept.matches) S'.noted S'.table S'.unsure
        keep.matches keep.others keep.preserves;
  }

-- and what a call moves and carries over that replaces no block
pub left_by : {F : Type 0} (state : F → FlashState) (S S' : StoreState F) (O : OpenTransactionsState) (broken : Bool)
    (p : Protocol) → ArrayStays p → ImageIsSound p →
    S.noted.config.protocol ≡ p → Stands state (device_in state S O) →
    Keeps p (store_in state S) (store_in state S') broken → S.unsure ≡ unsure.Nothing →
    IsLeft state (device_in state S O) (device_in state S' O) broken
left_by state S S' O broken p law images rule h keep sure =
    let left = tables_left state S S' O broken p law images rule h
    (tables_of p (store_in state S) (store_in state S') broken keep) sure in
    record {
      stands = left.stands;
      machine = left.machine;
      exits = record { tables = left.tables; moves = keep.moves; carries = keep.carries; held = left.held };
      versions = left.versions;
      kept = left.kept;
      since = subst (λ q. FlashWorksSinceErase q S.noted.config.logical (state S.flash) (state S'.flash) broken)
          (sym rule) keep.since;
    }

-- one after another
pub left_then : {F : Type 0} (state : F → FlashState) (a b c : DeviceState F) (broken : Bool) →
    a.config ≡ a.noted.config → b.config ≡ b.noted.config →
    IsLeft state a b false → IsLeft state b c broken → IsLeft state a c broken
left_then state a b c broken config config' first second = record {
  stands = second.stands;
  machine = second.machine ∙ first.machine;
  exits = exits_then state a b c broken config config' first.exits second.exits;
  versions = λ page low. second.versions page (subst (λ (k : _). page < k.logical) (sym first.exits.tables.config) low)
      ∙ first.versions page low;
  kept = preserves_then a.noted b.noted c.noted first.kept second.kept;
  since = since_then state a b c broken first.exits first.since second.since;
}
