-- An open transaction goes, and its names are pinned no more.
use Rattle.tx_engine.proofs.Common.{◌≡◌, ◌≢◌, ℕ, suc, ◌+◌, ◌<◌, ◌≤◌, List, length, map, get_or, drop, All, Contains, refl, sym, ap, ◌∙◌, subst, inl, inr, arith, remove, ◌↔◌, sum, get_or_default, All-map, All-from_get_or, sum-map, all_remove, Link, FlashState, ShareNoPage, IndexState, current_of, pinned_names, BlocksState, name_of, counted_wanted, found_in, Matches, Entry, pending_pages, StoreState, device_in, Stands, OpenTransactionsState, TransactionState, no_transaction, transaction_at}
use Rattle.std.proofs.Common.{take}
use Rattle.std.proofs.Common.{add-one}
use Rattle.std.specs.List.{sum_by}
use Rattle.std.proofs.lemmas.List.Quantifiers.{all_pairs_remove}
use Rattle.std.proofs.lemmas.List.Sums.{sum_by-append, sum_by-take-drop, sum_by-drop_more}
use Rattle.list_lemmas.proofs.Lists.{map_map}
use Rattle.list_lemmas.proofs.Quantifiers.{any_beside, beside_any}
use Rattle.judged_records.specs.IndexState.{unpinned}
use Rattle.record_list.proofs.OfFacts.Wanted.{wanted_cases, pinned_wanted}
use Rattle.collector.specs.declared.unsure.Unsure.TheVariants as unsure
use Rattle.tx_engine.proofs.OfDevice.Arrays.{as_many_names}
use Rattle.tx_engine.proofs.OfDevice.Kept.{BlocksInvariant, IsTransaction, IsCalm, from_stands, to_stands}
use Rattle.tx_engine.proofs.OfSettle.SettledLists.{calm_at}
use Rattle.tx_engine.proofs.OfSettle.NextNoted.{apart_at}
use Rattle.tx_engine.proofs.OfTables.PinnedNames.{IsPin, pin_of, pin_to}
use Rattle.tx_engine.proofs.OfSubmit.Submitted.{repinned, open_aside}

-- the tables with other pins have the current versions that they had
pub current_pins : (n : IndexState) (pins : List ℕ) (page : ℕ) → current_of (repinned n pins) page ≡ current_of n page
unfolding current_of
current_pins n pins page = refl

pub pages_by : (all : List TransactionState) → pending_pages (map (λ o. o.entry) all)
    ≡ sum_by (λ o. length o.entry.writes) all
pages_by all =
    sym (sum-map (λ (e : Entry). length e.writes) (map (λ (o : TransactionState). o.entry) all))
    ∙ ap sum (map_map (λ (o : TransactionState). o.entry) (λ (e : Entry). length e.writes) all)
    ∙ sum-map (λ (o : TransactionState). length o.entry.writes) all

fewer_pages : (all : List TransactionState) (i : ℕ) → i < length all →
    pending_pages (map (λ o. o.entry) (remove all i)) ≤ pending_pages (map (λ o. o.entry) all)
fewer_pages all i within =
    let f = λ (o : TransactionState). length o.entry.writes in
    let parts = sum_by-append f (take i all) (drop (suc i) all) in
    let whole = sum_by-take-drop f all i in
    let more = sum_by-drop_more f all i no_transaction within in
    let same : sum_by f (drop (i + 1) all) ≡ sum_by f (drop (suc i) all) =
    ap (λ k. sum_by f (drop k all)) (add-one i) in
    let short = pages_by (remove all i) in
    let long = pages_by all in
    omega (arith, parts, whole, more, same, short, long)

pub kept_without : (s : FlashState) (n : IndexState) (t : BlocksState) (o : OpenTransactionsState) (i : ℕ)
    (pins : List ℕ) → BlocksInvariant s n t unsure.Nothing o → i < length o.all →
    ((name : Link) → IsPin pins name ↔ (IsPin n.pins name
    × All (λ (a : Link). a.page ≢ name.page) (transaction_at o i).naming.names)) →
    Matches s (repinned n pins) t unsure.Nothing → BlocksInvariant s (repinned n pins) t unsure.Nothing
    (record o { all = remove o.all i })
kept_without s n t o i pins k within gone m' = record {
  matches = m';
  each = all_remove (IsTransaction s.image (repinned n pins)) o.all i
      (All-from_get_or (IsTransaction s.image (repinned n pins)) o.all no_transaction
      (λ j inside. open_aside s.image n pins (transaction_at o j).entry (transaction_at o j).naming
      (k.each j no_transaction inside)));
  doubt = All-map IsCalm (λ (x : TransactionState). x.entry) (remove o.all i)
      (all_remove (λ (x : TransactionState). IsCalm x.entry) o.all i
      (All-from_get_or (λ (x : TransactionState). IsCalm x.entry) o.all no_transaction (calm_at o.all k.doubt)));
  tags = all_pairs_remove (λ a b. a.entry.tag ≢ b.entry.tag) o.all i within k.tags;
  apart = all_pairs_remove (λ a b. ShareNoPage a.naming.names b.naming.names) o.all i within k.apart;
  few = let fewer = fewer_pages o.all i within in let few = k.few in omega arith;
  pinned = λ name. (
    (λ c.
        let pin = (gone name).0 (pin_of pins name c) in
        let any = (k.pinned name).0 (pin_to n.pins name pin.0) in
        let here : (get_or o.all any.0 no_transaction) ≡ any.1 = get_or_default o.all any.0 no_transaction any.1 any.2
        ∙ any.3 in
        let has : Contains (get_or o.all any.0 no_transaction).naming.names name =
        subst (λ (x : TransactionState). Contains x.naming.names name) (sym here) any.4 in
        any_beside (λ x. Contains x.naming.names name) o.all i any.0 no_transaction within any.2
        (λ same.
        let own : Contains (transaction_at o i).naming.names name =
        subst (λ j. Contains (get_or o.all j no_transaction).naming.names name) same has in
        pin.1 own.0 name own.1 (ap (λ (a : Link). a.page) own.2))
        has),
    (λ a.
        let beside = beside_any (λ x. Contains x.naming.names name) o.all i no_transaction within a in
        let c = beside.3 in
        let share = apart_at o.all i beside.0 k.apart within beside.1 beside.2 in
        pin_to pins name ((gone name).1 (
          pin_of n.pins name
              ((k.pinned name).1 (
                beside.0,
                transaction_at o beside.0,
                beside.1,
                get_or_default o.all beside.0 (transaction_at o beside.0) no_transaction beside.1,
                c,
              )),
          λ j d inside same. share j d inside c.0 name c.1 (same ∙ ap (λ (b : Link). b.page) (sym c.2)),
        ))),
  );
}

-- the tables match with fewer pins
pub matches_pins : (s : FlashState) (n : IndexState) (t : BlocksState) (pins : List ℕ) → Matches s n t unsure.Nothing →
    length pins ≡ length n.pins →
    ((name : Link) → Contains (pinned_names pins) name → Contains (pinned_names n.pins) name) →
    Matches s (repinned n pins) t unsure.Nothing
matches_pins s n t pins m long fewer = record {
  shape = m.shape;
  flash = m.flash;
  sound = m.sound;
  noted = record {
    check = m.noted.check;
    bounds = m.noted.bounds;
    rule = m.noted.rule;
    slots = m.noted.slots;
    pages = long ∙ m.noted.pages;
    mentions = m.noted.mentions;
    spare = m.noted.spare;
    closed = m.noted.closed;
    scanned = m.noted.scanned;
    sound = m.noted.sound;
    mentioned = m.noted.mentioned;
  };
  counts = m.counts;
  table = m.table;
  blocks = m.blocks;
  spare = m.spare;
  sure = m.sure;
  place = tt;
  spared = λ k d h w.
      let f = get_or (found_in n.notes) k d in
      m.spared k d h (elim (wanted_cases n.config.protocol (found_in n.notes) n.config.logical
      (pinned_names pins) f.rec w) [
        | inl current ↦ counted_wanted n.config.protocol (found_in n.notes) n.config.logical (pinned_names n.pins)
            f.rec (inl current)
        | inr (inl held) ↦ counted_wanted n.config.protocol (found_in n.notes) n.config.logical (pinned_names n.pins)
            f.rec (inr held)
        | inr (inr pin) ↦ pinned_wanted n.config.protocol (found_in n.notes) n.config.logical (pinned_names n.pins)
            f.rec (fewer (name_of f.rec) pin)
      ]);
  victim = tt;
  free = m.free;
  shut = record { spare = m.shut.spare; others = m.shut.others };
}

-- one pin after others
pub pins_then : {F : Type 0} (first old new : StoreState F) (page : ℕ) →
    old ≡ record first { noted = record first.noted { pins = old.noted.pins } } →
    new ≡ record old { noted = unpinned old.noted page } →
    new ≡ record first { noted = record first.noted { pins = new.noted.pins } }
pins_then first old new page before after =
    after ∙ ap (λ (s : StoreState _). record s { noted = unpinned s.noted page }) before
    ∙ ap (λ pins. record first { noted = record first.noted { pins = pins } })
    (sym (ap (λ (s : StoreState _). s.noted.pins) after))

module _ {F : Type 0} (state : F → FlashState) (S : StoreState F) (O : OpenTransactionsState)
    (h : Stands state (device_in state S O)) where
  kept : BlocksInvariant (state S.flash) S.noted S.table S.unsure O
  kept = from_stands state S O h

  -- the names of an open transaction are of pages, and it has as many as it writes
  pub names_low : (i : ℕ) → i < length O.all → All (λ (a : Link). a.page < S.noted.config.logical)
      (transaction_at O i).naming.names
  names_low i within k d inside = ((kept.each i no_transaction within).named.transaction.in_range k d inside).0

  pub names_long : (i : ℕ) → i < length O.all → length (transaction_at O i).naming.names
      ≡ length (transaction_at O i).entry.writes
  names_long i within = as_many_names (transaction_at O i).naming.names (transaction_at O i).entry.writes
      (kept.each i no_transaction within).named.pages

  pub closed_stands : (i : ℕ) → i < length O.all → S.unsure ≡ unsure.Nothing →
      (S' : StoreState F) (O' : OpenTransactionsState) →
      S' ≡ record S { noted = record S.noted { pins = S'.noted.pins } } → length S'.noted.pins ≡ length S.noted.pins →
      ((name : Link) →
      Contains (pinned_names S'.noted.pins) name ↔ (Contains (pinned_names S.noted.pins) name
      × All (λ (a : Link). a.page ≢ name.page) (transaction_at O i).naming.names)) →
      O' ≡ record O { all = remove O.all i } → Stands state (device_in state S' O')
  closed_stands i within sure S' O' same long gone opens =
      let k = subst (λ u. BlocksInvariant (state S.flash) S.noted S.table u O) sure kept in
      let pins = S'.noted.pins in
      let after = kept_without (state S.flash) S.noted S.table O i pins k within
      (λ name. (
        (λ pin. let both = (gone name).0 (pin_to pins name pin) in (pin_of S.noted.pins name both.0, both.1)),
        (λ both. pin_of pins name ((gone name).1 (pin_to S.noted.pins name both.0, both.1))),
      ))
      (matches_pins (state S.flash) S.noted S.table pins k.matches long (λ name c. ((gone name).0 c).0)) in
      subst (λ (T : StoreState F). Stands state (device_in state T O')) (sym same)
      (subst (λ o. Stands state (device_in state (record S { noted = record S.noted { pins = pins } }) o)) (sym opens)
      (to_stands state (record S { noted = record S.noted { pins = pins } }) (record O { all = remove O.all i })
      (subst (λ u. BlocksInvariant (state S.flash) (repinned S.noted pins) S.table u
      (record O { all = remove O.all i })) (sym sure) after)))
