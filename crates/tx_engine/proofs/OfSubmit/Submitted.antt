-- A device stands once a transaction is opened.
use Rattle.tx_engine.proofs.Common.{◌≡◌, ◌≢◌, ℕ, ◌+◌, ◌^◌, ◌<◌, ◌≤◌, ◌==◌, false, List, [], ◌∷◌, ◌++◌, length, map, get_or, All, AllPairs, Contains, refl, sym, ap, ap₂, ◌∙◌, subst, inl, inr, arith, AllZip, cases_Bool, le-ltb, cond-true, map_push, length-map, All-push, All-contains, Contains-get_or, all_from, pairs_cons, pairs_head, pairs_tail, PageWrite, bytes_in, Protocol, Link, Rec, FlashState, Contents, Found, mention, mention_at, version_of, is_present, ShareNoPage, found_named, found_in, IndexState, IsNextRecord, current_of, mention_of, pinned_names, Unsure, array_known, Entry, is_doubted, pending_pages, Mark, Plain, Doubt, Whole, with_pins, OpenTransactionsState, TransactionState, entries_of, namings_of, begun, Naming, Stands, DoubtsAs, IsOpenAs, IsNamed, IsAsMarked, IsUnderWay, name_at, limits_of, no_name, StoreState, IsStoreState, DeviceInvariant, device_in, Inside}
use Rattle.std.proofs.Common.{◌↔◌, Any}
use Rattle.std.proofs.Common.{subst₂}
use Rattle.std.proofs.lemmas.Bool.{eq-eqb}
use Rattle.std.proofs.lemmas.List.Sums.{sum_by_push}
use Rattle.std.proofs.lemmas.List.Elements.{Contains-push}
use Rattle.std.proofs.lemmas.List.Quantifiers.{all_pairs_push, Any-push}
use Rattle.std.proofs.lemmas.Option.{slice_get-get_or}
use Rattle.std.proofs.lemmas.Slice.Zip.{AllZip-long}
use Rattle.list_lemmas.proofs.Membership.{in_map, map_in}
use Rattle.list_lemmas.proofs.Quantifiers.{any_before, any_push_cases}
use Rattle.list_lemmas.proofs.Lists.{got_before, got_push}
use Rattle.list_lemmas.proofs.Pairs.{zip_weaker, zip_push, zip_at}
use Rattle.record_list.specs.Transaction.{IsTransaction}
use Rattle.record_list.proofs.OfFacts.Names.{greatest_bound}
use Rattle.record_list.proofs.OfFacts.Asking.{begins}
use Rattle.collector.specs.declared.unsure.Unsure.TheVariants as unsure
use Rattle.array_machine.specs.ArrayState.{new_entry}
use Rattle.open_table.specs.OpenTransactionsState.{IsOpenTransactionsState, next_name}
use Rattle.array_machine.proofs.Accepting.{IsAccepted}
use Rattle.tx_engine.proofs.OfDevice.KeptDevices.{kept_is}
use Rattle.tx_engine.proofs.OfTables.PinnedNames.{pinned_then}

-- a name above all mentions of its page is absent
pub above_mention : (l : List Found) (a : Link) → mention l a.page < a.version → is_present l a ≡ false
above_mention l a above = elim (cases_Bool (is_present l a)) [
  | inr gone ↦ gone
  | inl here ↦ (
      let f = found_named l a here in
      let bound : mention_at a.page f.0.rec ≤ mention l a.page = greatest_bound (mention_at a.page) l f.0 f.1 in
      let page : f.0.rec.page ≡ a.page = ap (λ (b : Link). b.page) f.2 in
      let version : f.0.rec.version ≡ a.version = ap (λ (b : Link). b.version) f.2 in
      let at : version_of a.page f.0.rec ≡ f.0.rec.version = cond-true (f.0.rec.page == a.page) f.0.rec.version 0
      (eq-eqb f.0.rec.page a.page page) in
      absurd (omega (arith, bound, version, at, above)))
]

-- the pins say nothing of open transactions
abbrev pub repinned : IndexState → List ℕ → IndexState
repinned n pins = record n { pins = pins }

under_way_aside : (image : List Contents) (n : IndexState) (pins : List ℕ) (e : Entry) (x : Naming) →
    IsUnderWay image n e x → IsUnderWay image (repinned n pins) e x
under_way_aside image n pins e x u = record {
  in_progress = u.in_progress;
  least = u.least;
  most = u.most;
  short = u.short;
  noted = u.noted;
  texts = u.texts;
}

marked_aside : (image : List Contents) (n : IndexState) (pins : List ℕ) (e : Entry) (x : Naming) (m : Mark) →
    IsAsMarked image n e x m →
    IsAsMarked image (repinned n pins) e x m
unfolding current_of
marked_aside image n pins e x Plain u = under_way_aside image n pins e x u
marked_aside image n pins e x Doubt u = (under_way_aside image n pins e x u.0, u.1)
marked_aside image n pins e x Whole u = u

pub open_aside : (image : List Contents) (n : IndexState) (pins : List ℕ) (e : Entry) (x : Naming) →
    IsOpenAs image n e x → IsOpenAs image (repinned n pins) e x
open_aside image n pins e x o = record { named = o.named; marked = marked_aside image n pins e x e.mark o.marked }

abbrev pub next_aside : (n : IndexState) (pins : List ℕ) (rec : Rec) → IsNextRecord n rec →
    IsNextRecord (repinned n pins) rec
next_aside n pins rec h = record {
  names = h.names;
  in_progress = h.in_progress;
  named = h.named;
  fresh = h.fresh;
  asked = h.asked;
  clear = h.clear;
}

pub array_aside : (n : IndexState) (pins : List ℕ) (image : List Contents) →
    array_known (repinned n pins) image ≡ array_known n image
unfolding array_known current_of
array_aside n pins image = refl

-- what is in doubt stays so beside one that was just opened
pub doubt_push : (image : List Contents) (n : IndexState) (pins : List ℕ) (entries : List Entry) (namings : List Naming)
    (e : Entry) (x : Naming) →
    is_doubted e.mark ≡ false → (u : Unsure) →
    DoubtsAs image n entries namings u → DoubtsAs image (repinned n pins) (entries ++ e ∷ []) (namings ++ x ∷ []) u
doubt_push image n pins entries namings e x plain (unsure.Own at rec) own = record {
  place = own.place;
  entry = own.entry;
  naming = own.naming;
  is_entry = got_before entries e own.place own.entry own.is_entry;
  is_naming = got_before namings x own.place own.naming own.is_naming;
  not_whole = own.not_whole;
  written = own.written;
  next = next_aside n pins rec own.next;
  its = own.its;
  named = own.named;
  text = own.text;
  doubt = own.doubt;
  others = λ k f other got. elim (got_push entries e k f got) [
    | inl before ↦ own.others k f other before
    | inr same ↦ ap (λ (g : Entry). is_doubted g.mark) (sym same) ∙ plain
  ];
}
doubt_push image n pins entries namings e x plain unsure.Nothing all =
    All-push (λ (f : Entry). is_doubted f.mark ≡ false) entries e all plain
doubt_push image n pins entries namings e x plain (unsure.Copy from to) all =
    All-push (λ (f : Entry). is_doubted f.mark ≡ false) entries e all plain
doubt_push image n pins entries namings e x plain unsure.SpareErase all =
    All-push (λ (f : Entry). is_doubted f.mark ≡ false) entries e all plain
doubt_push image n pins entries namings e x plain (unsure.VictimErase block) all =
    All-push (λ (f : Entry). is_doubted f.mark ≡ false) entries e all plain

-- the pages of names and of writes
same_pages_of : (n : IndexState) (ws : List PageWrite) → map (λ (a : Link). a.page) (map (next_name n) ws)
    ≡ map (λ (w : PageWrite). w.page) ws
same_pages_of n [] = refl
same_pages_of n (w ∷ ws) = ap (λ ps. w.page ∷ ps) (same_pages_of n ws)

distinct_names : (n : IndexState) (ws : List PageWrite) →
    AllPairs (λ (v : PageWrite) (w : PageWrite). v.page ≢ w.page) ws →
    AllPairs (λ (a : Link) (b : Link). a.page ≢ b.page) (map (next_name n) ws)
distinct_names n [] all = λ i j d less below. absurd (omega arith)
distinct_names n (w ∷ ws) all =
    pairs_cons (λ (a : Link) (b : Link). a.page ≢ b.page) (next_name n w) (map (next_name n) ws)
    (λ b i. (let of_write = in_map (next_name n) ws b i in
    λ same. pairs_head (λ (v : PageWrite) (u : PageWrite). v.page ≢ u.page) w ws of_write.0 all of_write.1 (same
    ∙ sym (ap (λ (c : Link). c.page) of_write.2))))
    (distinct_names n ws (pairs_tail (λ (v : PageWrite) (u : PageWrite). v.page ≢ u.page) w ws all))

-- a name of an open transaction has the page of one of its writes
write_of_name : (names : List Link) (ws : List PageWrite) →
    map (λ (a : Link). a.page) names ≡ map (λ (w : PageWrite). w.page) ws → (a : Link) →
    Contains names a →
    (w : PageWrite) × Contains ws w × (w.page ≡ a.page)
write_of_name names ws pages a i =
    in_map (λ (w : PageWrite). w.page) ws a.page (subst (λ ps. Contains ps a.page) pages
    (map_in (λ (b : Link). b.page) names a i))

module _ {F : Type 0} (state : F → FlashState) (p : Protocol) (s : StoreState F) (t : OpenTransactionsState)
    (stands : Stands state (device_in state s t))
    (rule : s.noted.config.protocol ≡ p)
    (tag : ℕ) (ws : List PageWrite) (ok : IsAccepted (limits_of s.noted.config) (entries_of t) tag ws)
    (unspent : All (λ w. mention_of s.noted w.page < 2 ^ 62) ws)
    (whole : All (λ w. length (bytes_in s.noted.config.page_bytes w) ≡ s.noted.config.page_bytes) ws) where
  abbrev pub n : IndexState
  n = s.noted

  abbrev pub image : List Contents
  image = (state s.flash).image

  abbrev pub names : List Link
  names = map (next_name n) ws

  abbrev pub the_transaction : TransactionState
  the_transaction = begun n tag ws

  abbrev pub pins : List ℕ
  pins = with_pins n.pins names

  -- a page is mentioned below the version of its new name
  below : (w : PageWrite) → Contains ws w → mention (found_in n.notes) w.page < mention_of n w.page + 1
  below w i =
      let within = All-contains (λ v. v.page < n.config.logical) ws w ok.in_range i in
      let bound = stands.matches.noted.mentioned w.page within in
      omega arith

  pub transaction : IsTransaction n.config.logical names
  transaction = record {
    distinct = distinct_names n ws ok.distinct;
    in_range = all_from (λ a. (a.page < n.config.logical) × (1 ≤ a.version) × (a.version ≤ 2 ^ 62)) names (λ a i.
        let of_write = in_map (next_name n) ws a i in
        let within = All-contains (λ v. v.page < n.config.logical) ws of_write.0 ok.in_range of_write.1 in
        let less = All-contains (λ v. mention_of n v.page < 2 ^ 62) ws of_write.0 unspent of_write.1 in
        subst (λ (b : Link). (b.page < n.config.logical) × (1 ≤ b.version) × (b.version ≤ 2 ^ 62)) of_write.2 (
          within,
          omega arith,
          omega arith,
        ));
    few = let most = stands.matches.noted.bounds.pending_most in omega (arith, length-map ws (next_name n), ok.room);
  }

  all_below : All (λ a. mention (found_in n.notes) a.page < a.version) names
  all_below = all_from (λ a. mention (found_in n.notes) a.page < a.version) names (λ a i.
      let of_write = in_map (next_name n) ws a i in
      subst (λ (b : Link). mention (found_in n.notes) b.page < b.version) of_write.2 (below of_write.0 of_write.1))

  as_many : length names ≡ length ws
  as_many = length-map ws (next_name n)

  pub opened_as : IsOpenAs image (repinned n pins) the_transaction.entry the_transaction.naming
  opened_as = record {
    named = record {
      pages = same_pages_of n ws;
      within = ok.some;
      whole = whole;
      transaction = transaction;
    };
    marked = record {
      in_progress = begins n.config.protocol (found_in n.notes) n.config.logical names transaction
          (omega (arith, as_many, ok.some)) all_below;
      least = omega arith;
      most = omega arith;
      short = omega (arith, as_many, ok.some);
      noted = λ k inside. above_mention (found_in n.notes) (name_at the_transaction.naming k)
          (all_below k no_name inside) ∙ sym (le-ltb k 0 (omega arith));
      texts = λ k less. absurd (omega arith);
    };
  }

  -- a name of an open transaction and a new one are of two pages
  apart_open : (e : Entry) (x : Naming) → Contains (entries_of t) e → IsNamed n.config.page_bytes n.config.logical e x →
      (a b : Link) → Contains x.names a →
      Contains names b → a.page ≢ b.page
  apart_open e x i named a b j k =
      let v = write_of_name x.names e.writes named.pages a j in
      let w = in_map (next_name n) ws b k in
      let of_new = All-contains (λ w. All (λ e. All (λ v. v.page ≢ w.page) e.writes) (entries_of t)) ws w.0
      ok.unowned w.1 in
      let of_entry = All-contains (λ e. All (λ v. v.page ≢ w.0.page) e.writes) (entries_of t) e of_new i in
      let other = All-contains (λ v. v.page ≢ w.0.page) e.writes v.0 of_entry v.1 in
      λ same. other (v.2 ∙ same ∙ sym (ap (λ (c : Link). c.page) w.2))

  apart_at : (k : ℕ) (d : Naming) → k < length (namings_of t) → (a b : Link) →
      Contains (get_or (namings_of t) k d).names a → Contains names b → a.page ≢ b.page
  apart_at k d inside =
      let long = AllZip-long (IsOpenAs image n) (entries_of t) (namings_of t) stands.each in
      let within : k < length (entries_of t) = omega arith in
      let e = get_or (entries_of t) k the_transaction.entry in
      let o = zip_at (IsOpenAs image n) (entries_of t) (namings_of t) k e (get_or (namings_of t) k d) stands.each
      (slice_get-get_or (entries_of t) k the_transaction.entry within) (slice_get-get_or (namings_of t) k d inside) in
      apart_open e (get_or (namings_of t) k d) (Contains-get_or (entries_of t) k the_transaction.entry within) o.named

  -- what was pinned is of other pages
  apart_pinned : (a b : Link) → Contains (pinned_names n.pins) a → Contains names b → a.page ≢ b.page
  apart_pinned a b c j =
      let any = (stands.pinned a).0 c in
      apart_at any.0 any.1 any.2 a b
      (subst (λ (x : Naming). Contains x.names a) (sym any.3) any.4) j

  pub pinned_now : (name : Link) → Contains (pinned_names pins) name
      ↔ Any (λ x. Contains x.names name) (namings_of t ++ the_transaction.naming ∷ [])
  pinned_now name =
      let then = pinned_then names n.pins transaction.distinct
      (all_from (λ a. (a.page < length n.pins) × (1 ≤ a.version)) names (λ a i.
      let range = All-contains (λ a. (a.page < n.config.logical) × (1 ≤ a.version) × (a.version ≤ 2 ^ 62)) names a
      transaction.in_range i in
      let long = stands.matches.noted.pages in
      (omega arith, range.1)))
      apart_pinned name in
      let P : Naming → Type 0 = λ x. Contains x.names name in (
        λ c. elim (then.0 c) [
          | inl before ↦ any_before P (namings_of t) the_transaction.naming ((stands.pinned name).0 before)
          | inr new ↦ Any-push P (namings_of t) the_transaction.naming new
        ],
        λ any. elim (any_push_cases P (namings_of t) the_transaction.naming any) [
          | inl before ↦ then.1 (inl ((stands.pinned name).1 before))
          | inr new ↦ then.1 (inr new)
        ],
      )

  -- the device stands with it, where its store has the tables with these pins
  module _ (stored : IsStoreState state p (record s { noted = repinned n pins })) where
    abbrev pub table : OpenTransactionsState
    table = record t { all = t.all ++ the_transaction ∷ [] }

    entries_are : entries_of table ≡ entries_of t ++ the_transaction.entry ∷ []
    entries_are = map_push (λ (o : TransactionState). o.entry) t.all the_transaction

    namings_are : namings_of table ≡ namings_of t ++ the_transaction.naming ∷ []
    namings_are = map_push (λ (o : TransactionState). o.naming) t.all the_transaction

    pub stands_then : Stands state (device_in state (record s { noted = repinned n pins }) table)
    stands_then = record {
      matches = stored.matches;
      config = refl;
      array = refl;
      each = subst₂ (AllZip (IsOpenAs image (repinned n pins))) (sym entries_are) (sym namings_are)
          (zip_push (IsOpenAs image (repinned n pins)) (entries_of t) (namings_of t) the_transaction.entry
          the_transaction.naming
          (zip_weaker (IsOpenAs image n) (IsOpenAs image (repinned n pins)) (open_aside image n pins) (entries_of t)
          (namings_of t) stands.each) opened_as);
      doubt = subst₂ (λ es xs. DoubtsAs image (repinned n pins) es xs s.unsure) (sym entries_are) (sym namings_are)
          (doubt_push image n pins (entries_of t) (namings_of t) the_transaction.entry the_transaction.naming refl
          s.unsure stands.doubt);
      tags = subst (AllPairs (λ (a : Entry) (b : Entry). a.tag ≢ b.tag)) (sym entries_are)
          (all_pairs_push (λ (a : Entry) (b : Entry). a.tag ≢ b.tag) (entries_of t) the_transaction.entry
          stands.tags ok.unused);
      apart = subst (AllPairs (λ (a : Naming) (b : Naming). ShareNoPage a.names b.names)) (sym namings_are)
          (all_pairs_push (λ (a : Naming) (b : Naming). ShareNoPage a.names b.names) (namings_of t)
          the_transaction.naming stands.apart (λ k d inside.
          all_from (λ a. All (λ b. a.page ≢ b.page) names) (get_or (namings_of t) k d).names (λ a i.
          all_from (λ b. a.page ≢ b.page) names (λ b j. apart_at k d inside a b i j))));
      few = subst (λ es. pending_pages es ≤ n.config.pending) (sym entries_are)
          (omega (
            arith,
            sum_by_push (λ (e : Entry). length e.writes) (entries_of t) the_transaction.entry,
            ok.room,
            ok.some,
            stands.few,
          ));
      pinned = λ name. subst (λ xs. Contains (pinned_names pins) name ↔ Any (λ x. Contains x.names name) xs)
          (sym namings_are) (pinned_now name);
    }

-- the writes of the last transaction of a table are whole
whole_last : (t t' : OpenTransactionsState) (o : TransactionState) → t' ≡ record t { all = t.all ++ o ∷ [] } →
    IsOpenTransactionsState t' →
    All (λ w. length (bytes_in t.page_bytes w) ≡ t.page_bytes) o.entry.writes
whole_last t t' o same kept =
    let is : IsOpenTransactionsState (record t { all = t.all ++ o ∷ [] }) = subst IsOpenTransactionsState same kept in
    All-contains (λ (x : TransactionState). All (λ w. length (bytes_in t.page_bytes w) ≡ t.page_bytes) x.entry.writes)
    (t.all ++ o ∷ []) o is.whole
    (Contains-push t.all o)

-- The device after a batch that is not refused was opened, with the calls that do it.
module _ {F R : Type 0} (state : F → FlashState) (p : Protocol) (d : Inside F R) (h : DeviceInvariant state p d)
    (stands : Stands state (device_in state d.store d.transactions)) (tag : ℕ) (ws : List PageWrite)
    (ok : IsAccepted (limits_of d.store.noted.config) (entries_of d.transactions) tag ws)
    (unspent : All (λ w. mention_of d.store.noted w.page < 2 ^ 62) ws)
    (store : StoreState F) (stored : IsStoreState state p store)
    (pins : store ≡ record d.store {
      noted = repinned d.store.noted
          (with_pins d.store.noted.pins (map (next_name d.store.noted) ws));
    })
    (transactions : OpenTransactionsState) (kept : IsOpenTransactionsState transactions)
    (opens : transactions ≡ record d.transactions { all = d.transactions.all ++ begun d.store.noted tag ws ∷ [] }) where
  abbrev new_store : StoreState F
  new_store = record d.store {
    noted = repinned d.store.noted
        (with_pins d.store.noted.pins (map (next_name d.store.noted) ws));
  }

  abbrev new_table : OpenTransactionsState
  new_table = record d.transactions { all = d.transactions.all ++ begun d.store.noted tag ws ∷ [] }

  pub device_then : DeviceInvariant state p (record d { store = store; transactions = transactions })
  device_then =
      let whole : All (λ w. length (bytes_in d.store.noted.config.page_bytes w) ≡ d.store.noted.config.page_bytes) ws =
      subst (λ size. All (λ (w : PageWrite). length (bytes_in size w) ≡ size) ws) h.page_bytes
      (whole_last d.transactions transactions (begun d.store.noted tag ws) opens kept) in
      subst₂ (λ (s : StoreState F) (t : OpenTransactionsState). DeviceInvariant state p
      (record d { store = s; transactions = t })) (sym pins) (sym opens)
      (kept_is state p d new_store new_table h
      (stands_then state p d.store d.transactions stands h.rule tag ws ok unspent whole
      (subst (IsStoreState state p) pins stored)) refl
      (record { page_bytes = refl; logical = refl; pending = refl }))

  pub machine_then : (device_in state store transactions).machine
      ≡ record (device_in state d.store d.transactions).machine {
        entries = entries_of d.transactions
            ++ new_entry tag ws ∷ [];
      }
  machine_then =
      ap₂ (λ (s : StoreState F) (t : OpenTransactionsState). (device_in state s t).machine) pins opens
      ∙ ap₂ (λ pages es. record { pages = pages; entries = es })
      (array_aside d.store.noted (with_pins d.store.noted.pins (map (next_name d.store.noted) ws))
      (state d.store.flash).image)
      (map_push (λ (o : TransactionState). o.entry) d.transactions.all (begun d.store.noted tag ws))
