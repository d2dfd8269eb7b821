-- A device that settled, by what settling leaves of its tables.
use Rattle.tx_engine.proofs.Common.{◌≡◌, ◌≢◌, ◌⊎◌, ℕ, ◌<◌, Bool, true, false, [], length, map, All, Option, Some, None, refl, sym, ap, ap₂, ◌∙◌, subst, inl, inr, Err, Ok, position, All-nil, position-Some, PageWrite, Slot, Rec, FlashState, Carries, Moment, moment_of, FlashMoves-nothing, current_in, IndexState, current_of, BlocksState, Unsure, array_known, Matches, CanTake, settlement, matches_still, Preserves, is_doubted, page_at, Plain, Exits, VersionsRise, is_there, DeviceState, Stands, DoubtsAs, OpenTransactionsState, TransactionState, no_transaction, transaction_at, entries_of, namings_of, with_transaction, with_mark, HasLimitsOf, with_next, is_writing, StoreState, store_in, device_in, both_ways, ArrayStays, Broken, Protocol, SettlesDevice, ImageIsSound, NotingKeeps}
use Rattle.collector.specs.declared.unsure.Unsure.TheVariants as unsure
use Rattle.collector.specs.declared.unsure.Settled.{Settled}
use Rattle.collector.specs.declared.unsure.Settled.TheVariants as found
use Rattle.collector.specs.Settling.{IsFound, Settles}
use Rattle.collector.proofs.OfNotes.SinceErases.{works_to_end}
use Rattle.tx_engine.specs.Exits.{SettlesOrNot, WorksSince}
use Rattle.tx_engine.specs.Settling.{IsSettled}
use Rattle.tx_engine.proofs.OfDevice.Kept.{BlocksInvariant, IsTransaction, from_stands, to_stands}
use Rattle.tx_engine.proofs.OfDevice.OpenOnes.{can_take}
use Rattle.tx_engine.proofs.OfDevice.ExitsThen.{exits_still}
use Rattle.tx_engine.proofs.OfDevice.HeldRecords.{held_same}
use Rattle.list_lemmas.proofs.Positions.{position-all}
use Rattle.tx_engine.proofs.OfSettle.SettledLists.{calm_at}
use Rattle.tx_engine.proofs.OfSettle.Settlements.{IsSettledAs, IsFoundOwn, present_found, found_settled, doubt_settled, calm_settled, doubted_beside}

-- a flash after reads: its image and its shape stay
pub kept_flash : (s s' : FlashState) (n : IndexState) (t : BlocksState) (u : Unsure) (o : OpenTransactionsState) →
    s'.shape ≡ s.shape → s'.image ≡ s.image → BlocksInvariant s n t u o →
    BlocksInvariant s' n t u o
kept_flash s s' n t u o shape image k = record {
  matches = matches_still s s' n t u shape image k.matches;
  each = subst (λ i. All (IsTransaction i n) o.all) (sym image) k.each;
  doubt = subst (λ i. DoubtsAs i n (entries_of o) (namings_of o) u) (sym image) k.doubt;
  tags = k.tags;
  apart = k.apart;
  few = k.few;
  pinned = k.pinned;
}

module _ {F : Type 0} (state : F → FlashState) (S S' : StoreState F) (O O' : OpenTransactionsState) where
  -- after a failed read
  pub failed_stands : Stands state (device_in state S O) → S' ≡ record S { flash = S'.flash } → O' ≡ O →
      moment_of (state S'.flash) ≡ moment_of (state S.flash) →
      (broken : Bool) → Carries (state S.flash) (state S'.flash) broken → Stands state (device_in state S' O')
  failed_stands h same opens moment broken carries =
      let k = kept_flash (state S.flash) (state S'.flash) S.noted S.table S.unsure O carries.shape
      (ap (λ (m : Moment). m.image) moment)
      (from_stands state S O h) in
      subst (λ (T : StoreState F). Stands state (device_in state T O')) (sym same)
      (subst (λ (o : OpenTransactionsState). Stands state (device_in state (record S { flash = S'.flash }) o))
      (sym opens)
      (to_stands state (record S { flash = S'.flash }) O k))

  pub failed_stays : S' ≡ record S { flash = S'.flash } → O' ≡ O →
      moment_of (state S'.flash) ≡ moment_of (state S.flash) →
      device_in state S' O' ≡ record (device_in state S O) { flash = S'.flash }
  failed_stays same opens moment =
      ap₂ (λ (T : StoreState F) (o : OpenTransactionsState). device_in state T o) same opens
      ∙ ap (λ image. record (device_in state (record S { flash = S'.flash }) O) {
        machine = record { pages = array_known S.noted image; entries = entries_of O };
      }) (ap (λ (m : Moment). m.image) moment)

  pub failed_exits : S' ≡ record S { flash = S'.flash } → O' ≡ O →
      moment_of (state S'.flash) ≡ moment_of (state S.flash) →
      (broken : Bool) → Carries (state S.flash) (state S'.flash) broken →
      Exits state (device_in state S O) (device_in state S' O') broken
  failed_exits same opens moment broken carries =
      exits_still state (device_in state S O) S'.flash broken (device_in state S' O') refl
      (failed_stays same opens moment) (ap (λ (m : Moment). m.image) moment)
      (FlashMoves-nothing (state S.flash) (state S'.flash) broken moment) carries

  -- nothing was done since the call began
  pub since_unread : Stands state (device_in state S O) → moment_of (state S'.flash) ≡ moment_of (state S.flash) →
      WorksSince state (device_in state S O) (device_in state S' O') true
  since_unread h moment =
      works_to_end S.noted.config.protocol S.noted.config.logical (state S.flash).shape (moment_of (state S.flash))
      (moment_of (state S'.flash)) true h.matches.sound (inl moment)

  -- the whole of it
  pub settle_failed : (x y : Broken) → Stands state (device_in state S O) →
      Settles (store_in state S) (store_in state S') (Err x) →
      S' ≡ record S { flash = S'.flash } →
      (S.unsure ≡ unsure.Nothing → ⊥) → O' ≡ O → SettlesDevice state S S' O O' (Err y)
  settle_failed x y h its same sure opens = record {
    stands = failed_stands h same opens its.moment true its.carries;
    settles = tt;
    tables = tt;
    failed = (same, opens);
    idle = λ none. absurd (sure none);
    limits = subst (HasLimitsOf O) (sym opens) (record { page_bytes = refl; logical = refl; pending = refl });
    exits = failed_exits same opens its.moment true its.carries;
    moment = its.moment;
    reads = tt;
    first_failed = its.first_failed;
    names = ap (λ (o : OpenTransactionsState). map (λ x. x.naming.names) o.all) opens;
  }

  module _ (r : IsSettledAs (state S.flash) S.noted S'.noted S'.table O O') (sure : S'.unsure ≡ unsure.Nothing)
      (moment : moment_of (state S'.flash) ≡ moment_of (state S.flash))
      (carries : Carries (state S.flash) (state S'.flash) false) where
    same_image : (state S'.flash).image ≡ (state S.flash).image
    same_image = ap (λ (m : Moment). m.image) moment

    pub settled_stands : Stands state (device_in state S' O')
    settled_stands =
        to_stands state S' O' (subst (λ u. BlocksInvariant (state S'.flash) S'.noted S'.table u O') (sym sure)
        (kept_flash (state S.flash) (state S'.flash) S'.noted S'.table unsure.Nothing O' carries.shape
        same_image r.kept))

    pub settled_done : IsSettled (is_there state (device_in state S O)) (device_in state S O) (device_in state S' O')
    settled_done = record {
      machine = ap (λ image. record { pages = array_known S'.noted image; entries = entries_of O' }) same_image
          ∙ r.machine;
      rises = record { rises = r.rises; stays = r.stays };
      sure = sure;
    }

    pub settled_exits : Exits state (device_in state S O) (device_in state S' O') false
    settled_exits = record {
      tables = record {
        config = r.config;
        versions = λ page low. subst (λ image. (current_of S.noted page < current_of S'.noted page)
            ⊎ ((current_of S'.noted page ≡ current_of S.noted page)
            × (page_at (array_known S'.noted image) page ≡ page_at (array_known S.noted (state S.flash).image) page)))
            (sym same_image) (r.versions page low);
        mentions = r.mentions;
        names = r.names;
        kept = refl;
      };
      moves = FlashMoves-nothing (state S.flash) (state S'.flash) false moment;
      carries = carries;
      held = held_same S.noted.config.protocol S.noted.config.logical (state S.flash).image (state S'.flash).image
          same_image;
    }

    -- the whole of it
    pub settle_done : (answer : Settled) → Settles (store_in state S) (store_in state S') (Ok answer) →
        HasLimitsOf O O' →
        map (λ o. o.naming.names) O'.all ≡ map (λ o. o.naming.names) O.all →
        (S.unsure ≡ unsure.Nothing → (S' ≡ S) × (O' ≡ O)) →
        SettlesDevice state S S' O O' (Ok tt)
    settle_done answer its limits names still = record {
      stands = settled_stands;
      settles = settled_done;
      tables = (its.found.noted, its.found.table);
      failed = tt;
      idle = λ none. (refl, (still none).0, (still none).1);
      limits = limits;
      exits = settled_exits;
      moment = moment;
      reads = its.reads;
      first_failed = tt;
      names = names;
    }

-- By what was found
module _ {F : Type 0} (state : F → FlashState) (S : StoreState F) (O : OpenTransactionsState)
    (h : Stands state (device_in state S O))
    (p : Protocol) (rule : S.noted.config.protocol ≡ p) (images : ImageIsSound p) (n' : IndexState) (t' : BlocksState)
    (answer : Settled)
    (its : IsFound (settlement S.noted S.table (state S.flash).image S.unsure) n' t' answer) where
  settles : ImageIsSound S.noted.config.protocol
  settles = subst ImageIsSound (sym rule) images

  kept : BlocksInvariant (state S.flash) S.noted S.table S.unsure O
  kept = from_stands state S O h

  take : CanTake S.noted S.table S.unsure
  take = can_take state (device_in state S O) h

  matched : Matches (state S.flash) n' t' unsure.Nothing
  matched =
      subst (λ m. Matches (state S.flash) m t' unsure.Nothing) (sym its.noted)
      (subst (λ b. Matches (state S.flash) (settlement S.noted S.table (state S.flash).image S.unsure).noted b
      unsure.Nothing) (sym its.table)
      (settles.matches (state S.flash) S.noted S.table S.unsure kept.matches take refl))

  current_now : (page : ℕ) → current_in S.noted.config.protocol S.noted.config.logical (state S.flash).image page
      ≡ current_of n' page
  current_now page = settles.current (state S.flash) S.noted S.table S.unsure page kept.matches take refl
      ∙ ap (λ m. current_of m page) (sym its.noted)

  -- the record of an open transaction is there
  module _ (law : NotingKeeps p) (w : Option ℕ) (writer : (at : Slot) (rec : Rec) → S.unsure ≡ unsure.Own at rec →
      w ≡ position (is_writing rec.page) O.all)
      (present : answer ≡ found.Present) where
    notes : NotingKeeps S.noted.config.protocol
    notes = subst NotingKeeps (sym rule) law

    pub the_own : IsFoundOwn S.noted (state S.flash).image O w n'
    the_own = subst (IsFoundOwn S.noted (state S.flash).image O w) (sym its.noted)
        (present_found (state S.flash) S.noted S.table O settles notes S.unsure w kept writer
        (sym its.answer ∙ present))

    pub own_settled : (i : ℕ) → w ≡ Some i → (O' : OpenTransactionsState) →
        O' ≡ with_transaction O i (with_next (transaction_at O i)) →
        IsSettledAs (state S.flash) S.noted n' t' O O'
    own_settled i is O' next =
        let own = the_own in
        let same : own.place ≡ i = let both = sym own.is_place ∙ is in cc in
        subst (λ o. IsSettledAs (state S.flash) S.noted n' t' O o)
        (ap (λ j. with_transaction O j (with_next (transaction_at O j))) same ∙ sym next)
        (subst (λ m. IsSettledAs (state S.flash) S.noted m t' O
        (with_transaction O own.place (with_next (transaction_at O own.place)))) (sym own.noted)
        (found_settled (state S.flash) S.noted S.table t' S.unsure O notes own.place own.at own.rec kept own.within
        own.next own.calm own.doubt
        (subst (λ m. Matches (state S.flash) m t' unsure.Nothing) own.noted matched)
        (λ page. current_now page ∙ ap (λ m. current_of m page) own.noted)))

    pub own_within : (i : ℕ) → w ≡ Some i → i < length O.all
    own_within i is =
        let own = the_own in
        let same : own.place ≡ i = let both = sym own.is_place ∙ is in cc in
        subst (λ j. j < length O.all) same own.within

    pub own_short : (i : ℕ) → w ≡ Some i → (transaction_at O i).naming.noted_count < length
        (transaction_at O i).entry.writes
    own_short i is =
        let own = the_own in
        let same : own.place ≡ i = let both = sym own.is_place ∙ is in cc in
        subst (λ j. (transaction_at O j).naming.noted_count < length (transaction_at O j).entry.writes) same
        (subst (λ k. k < length (transaction_at O own.place).entry.writes) (sym own.next.due) own.next.named.within)

    pub own_none : w ≡ None → ⊥
    own_none is = let both = sym (the_own).is_place ∙ is in cc

  -- it is not, or there was none
  module _ (arrays : ArrayStays p) (other : answer ≢ found.Present) where
    law : ArrayStays S.noted.config.protocol
    law = subst ArrayStays (sym rule) arrays

    pub doubt_gone : (i : ℕ) → position (λ o. is_doubted o.entry.mark) O.all ≡ Some i → (O' : OpenTransactionsState) →
        O' ≡ with_transaction O i (with_mark (transaction_at O i) Plain) →
        IsSettledAs (state S.flash) S.noted n' t' O O'
    doubt_gone i is O' next =
        let at = position-Some (λ (o : TransactionState). is_doubted o.entry.mark) O.all i no_transaction is in
        let keep = settles.preserves (state S.flash) S.noted S.table S.unsure kept.matches take refl
        (λ e. other (its.answer ∙ e)) in
        subst (λ o. IsSettledAs (state S.flash) S.noted n' t' O o) (sym next)
        (doubt_settled (state S.flash) S.noted n' S.table t' S.unsure O law kept matched
        (subst (Preserves S.noted) (sym its.noted) keep.0) current_now i at.0
        (doubted_beside (state S.flash).image S.noted O S.unsure kept.doubt i at.0 at.1) at.1)

    pub none_gone : position (λ o. is_doubted o.entry.mark) O.all ≡ None → IsSettledAs (state S.flash) S.noted n' t' O O
    none_gone is =
        let keep = settles.preserves (state S.flash) S.noted S.table S.unsure kept.matches take refl
        (λ e. other (its.answer ∙ e)) in
        calm_settled (state S.flash) S.noted n' S.table t' S.unsure O law kept matched
        (subst (Preserves S.noted) (sym its.noted) keep.0) current_now
        (position-all (λ (o : TransactionState). is_doubted o.entry.mark) O.all no_transaction is)

pub not_present : (a : Settled) → (a ≡ found.Missing) ⊎ (a ≡ found.Other) → a ≢ found.Present
not_present a (inl is) e = let both : found.Missing ≡ found.Present = sym is ∙ e in cc
not_present a (inr is) e = let both : found.Other ≡ found.Present = sym is ∙ e in cc

pub failed_machine : {F : Type 0} (state : F → FlashState) (S S' : StoreState F) (O O' : OpenTransactionsState) →
    S' ≡ record S { flash = S'.flash } → O' ≡ O →
    moment_of (state S'.flash) ≡ moment_of (state S.flash) →
    (device_in state S' O').machine ≡ (device_in state S O).machine
failed_machine state S S' O O' same opens moment =
    ap₂ (λ (T : StoreState _) (o : OpenTransactionsState). (device_in state T o).machine) same opens
    ∙ ap (λ image. record { pages = array_known S.noted image; entries = entries_of O })
    (ap (λ (m : Moment). m.image) moment)

-- where nothing was unsure none is in doubt
pub none_doubted : {F : Type 0} (state : F → FlashState) (S : StoreState F) (O : OpenTransactionsState) →
    Stands state (device_in state S O) → S.unsure ≡ unsure.Nothing →
    (i : ℕ) → position (λ o. is_doubted o.entry.mark) O.all ≡ Some i → ⊥
none_doubted state S O h sure i is =
    let k = from_stands state S O h in
    let at = position-Some (λ (o : TransactionState). is_doubted o.entry.mark) O.all i no_transaction is in
    let calm = calm_at O.all (subst (DoubtsAs (state S.flash).image S.noted (entries_of O) (namings_of O)) sure k.doubt)
    i at.0 in
    both_ways (is_doubted (transaction_at O i).entry.mark) calm at.1

-- where all but the flash stays no version rose, and the state did not settle
pub rises_unread : {F : Type 0} (old new : DeviceState F) → new ≡ record old { flash = new.flash } →
    VersionsRise old new []
rises_unread old new stays = record {
  rises = All-nil (λ (w : PageWrite). current_of old.noted w.page < current_of new.noted w.page);
  stays = λ page low others. ap (λ (s : DeviceState _). current_of s.noted page) stays;
}

pub not_settled : {F : Type 0} (there : Bool) (old new : DeviceState F) → new ≡ record old { flash = new.flash } →
    SettlesOrNot there old new
not_settled there old new stays = inl (ap (λ (s : DeviceState _). s.machine.pages) stays, rises_unread old new stays)
