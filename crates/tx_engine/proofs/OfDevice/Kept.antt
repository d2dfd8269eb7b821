-- When a device stands for its array, by what is kept of its open transactions; and what stays where one of them is
-- replaced.
use Rattle.tx_engine.proofs.Common.{◌≡◌, ◌≢◌, ℕ, ◌<◌, ◌≤◌, false, List, length, map, get_or, All, AllPairs, Contains, Some, refl, sym, ap, ◌∙◌, subst, inl, inr, arith, Any, slice_set, ◌↔◌, nat_lt, cases_Bool, cases_eq, both_ways, lt-ltb, get_or_default, length-set, get_or-set_same, get_or-set_other, All-from_get_or, Contains-get_or, sum-map, sum, map-set_same, PageWrite, Config, Slot, Link, Rec, FlashState, Contents, is_present, InProgress, ShareNoPage, text_at, written_in, found_in, IndexState, pinned_names, BlocksState, Unsure, Matches, Preserves, KeepsArray, IsThere, Entry, is_doubted, pending_pages, Mark, Plain, Doubt, Whole, Naming, Stands, IsNamed, IsUnderWay, IsAsMarked, IsOpenAs, DoubtsAs, name_at, write_at, text_in, no_name, OpenTransactionsState, TransactionState, no_transaction, transaction_at, entries_of, namings_of, with_transaction, StoreState, device_in, ArrayStays}
use Rattle.list_lemmas.proofs.Quantifiers.{any_from_map, any_to_map}
use Rattle.list_lemmas.proofs.Pairs.{pairs_from, pairs_to}
use Rattle.list_lemmas.proofs.Lists.{map_map}
use Rattle.collector.specs.declared.unsure.Unsure.TheVariants as unsure
use Rattle.open_table.proofs.OfTransactions.OpenList.{each_from, each_to}

abbrev pub IsTransaction : List Contents → IndexState → TransactionState → Type 0
IsTransaction image n o = IsOpenAs image n o.entry o.naming

abbrev pub IsCalm : Entry → Type 0
IsCalm e = is_doubted e.mark ≡ false

-- no program of a record of an open transaction is unsure
abbrev pub IsNoOwn : Unsure → Type 0
IsNoOwn u = (at : Slot) (rec : Rec) → u ≡ unsure.Own at rec → ⊥

pub record BlocksInvariant (s : FlashState) (n : IndexState) (t : BlocksState) (u : Unsure)
    (o : OpenTransactionsState) : Type 0 where
  pub matches : Matches s n t u
  pub each : All (IsTransaction s.image n) o.all
  pub doubt : DoubtsAs s.image n (entries_of o) (namings_of o) u
  pub tags : AllPairs (λ a b. a.entry.tag ≢ b.entry.tag) o.all
  pub apart : AllPairs (λ a b. ShareNoPage a.naming.names b.naming.names) o.all
  pub few : pending_pages (entries_of o) ≤ n.config.pending
  pub pinned : (name : Link) → Contains (pinned_names n.pins) name ↔ Any (λ o. Contains o.naming.names name) o.all

pub from_stands : {F : Type 0} (state : F → FlashState) (s : StoreState F) (o : OpenTransactionsState) →
    Stands state (device_in state s o) →
    BlocksInvariant (state s.flash) s.noted s.table s.unsure o
from_stands state s o h = record {
  matches = h.matches;
  each = each_from (IsOpenAs (state s.flash).image s.noted) o.all h.each;
  doubt = h.doubt;
  tags = pairs_from (λ (x : TransactionState). x.entry) (λ a b. a.tag ≢ b.tag) o.all h.tags;
  apart = pairs_from (λ (x : TransactionState). x.naming) (λ a b. ShareNoPage a.names b.names) o.all h.apart;
  few = h.few;
  pinned = λ name. (
    λ c. any_from_map (λ (x : TransactionState). x.naming) (λ x. Contains x.names name) o.all no_transaction
        ((h.pinned name).0 c),
    λ a. (h.pinned name).1 (any_to_map (λ (x : TransactionState). x.naming) (λ x. Contains x.names name) o.all a),
  );
}

pub to_stands : {F : Type 0} (state : F → FlashState) (s : StoreState F) (o : OpenTransactionsState) →
    BlocksInvariant (state s.flash) s.noted s.table s.unsure o → Stands state (device_in state s o)
to_stands state s o k = record {
  matches = k.matches;
  config = refl;
  array = refl;
  each = each_to (IsOpenAs (state s.flash).image s.noted) o.all k.each;
  doubt = k.doubt;
  tags = pairs_to (λ (x : TransactionState). x.entry) (λ a b. a.tag ≢ b.tag) o.all k.tags;
  apart = pairs_to (λ (x : TransactionState). x.naming) (λ a b. ShareNoPage a.names b.names) o.all k.apart;
  few = k.few;
  pinned = λ name. (
    λ c. any_to_map (λ (x : TransactionState). x.naming) (λ x. Contains x.names name) o.all ((k.pinned name).0 c),
    λ a. (k.pinned name).1 (any_from_map (λ (x : TransactionState). x.naming) (λ x. Contains x.names name) o.all
        no_transaction a),
  );
}

-- where no own program is unsure nothing is in doubt, and the other way round
pub calm_of : (image : List Contents) (n : IndexState) (es : List Entry) (xs : List Naming) (u : Unsure) → IsNoOwn u →
    DoubtsAs image n es xs u → All IsCalm es
calm_of image n es xs (unsure.Own at rec) not_own h = absurd (not_own at rec refl)
calm_of image n es xs unsure.Nothing not_own h = h
calm_of image n es xs (unsure.Copy from to) not_own h = h
calm_of image n es xs unsure.SpareErase not_own h = h
calm_of image n es xs (unsure.VictimErase block) not_own h = h

pub doubt_of : (image : List Contents) (n : IndexState) (es : List Entry) (xs : List Naming) (u : Unsure) → IsNoOwn u →
    All IsCalm es → DoubtsAs image n es xs u
doubt_of image n es xs (unsure.Own at rec) not_own h = absurd (not_own at rec refl)
doubt_of image n es xs unsure.Nothing not_own h = h
doubt_of image n es xs (unsure.Copy from to) not_own h = h
doubt_of image n es xs unsure.SpareErase not_own h = h
doubt_of image n es xs (unsure.VictimErase block) not_own h = h

pub nothing_no_own : IsNoOwn unsure.Nothing
nothing_no_own at rec e = cc

-- a name by its place
pub name_in : (P : Link → Type 0) (x : Naming) (k : ℕ) → All P x.names → k < length x.names → P (name_at x k)
name_in P x k all h = all k no_name h

module _ (s s' : FlashState) (n n' : IndexState) (t t' : BlocksState) (u u' : Unsure)
    (law : ArrayStays n.config.protocol)
    (m : Matches s n t u) (m' : Matches s' n' t' u') (keep : Preserves n n')
    (same : KeepsArray n.config.protocol n.config.logical s.image s'.image) where
  -- a transaction under way stays so
  under_way_stays : (e : Entry) (x : Naming) → All (Contains (pinned_names n.pins)) x.names → IsUnderWay s.image n e x →
      IsUnderWay s'.image n' e x
  under_way_stays e x pins w = record {
    in_progress = subst (λ (c : Config). InProgress c.protocol (found_in n'.notes) c.logical x.names) (sym keep.config)
        (keep.in_progress x.names w.in_progress);
    least = w.least;
    most = w.most;
    short = w.short;
    noted = λ k h. elim (cases_Bool (nat_lt k x.noted_count)) [
      | inl is ↦ keep.pinned (name_at x k) (name_in (Contains (pinned_names n.pins)) x k pins h) (w.noted k h ∙ is)
          ∙ sym is
      | inr is ↦ elim (cases_Bool (is_present (found_in n'.notes) (name_at x k))) [
        | inl there ↦ absurd (both_ways (is_present (found_in n.notes) (name_at x k)) (w.noted k h ∙ is)
            (keep.fewer (name_at x k) there))
        | inr gone ↦ gone ∙ sym is
      ]
    ];
    texts = λ k h.
        let inside : k < length x.names = let short = w.short in omega arith in
        let there : IsThere n (name_at x k) = w.noted k inside ∙ lt-ltb k x.noted_count h in
        subst (λ (c : Config). text_at (written_in c.protocol s'.image) (name_at x k)
        ≡ Some (text_in c.page_bytes (write_at e k))) (sym keep.config)
        (law.texts s s' n n' t t' u u' (name_at x k) m m' refl keep same
        (name_in (Contains (pinned_names n.pins)) x k pins inside) there ∙ w.texts k h);
  }

  marked_stays : (mark : Mark) (e : Entry) (x : Naming) → IsNamed n.config.page_bytes n.config.logical e x →
      All (Contains (pinned_names n.pins)) x.names →
      IsAsMarked s.image n e x mark → IsAsMarked s'.image n' e x mark
  marked_stays Plain e x named pins w = under_way_stays e x pins w
  marked_stays Doubt e x named pins w = (under_way_stays e x pins w.0, w.1)
  marked_stays Whole e x named pins w = λ k d h. keep.current (get_or x.names k d).page
      (named.transaction.in_range k d h).0 ∙ w k d h

  -- and each one is as it is marked
  pub transaction_stays : (o : TransactionState) → All (Contains (pinned_names n.pins)) o.naming.names →
      IsTransaction s.image n o → IsTransaction s'.image n' o
  transaction_stays o pins w = record {
    named = subst (λ (c : Config). IsNamed c.page_bytes c.logical o.entry o.naming) (sym keep.config) w.named;
    marked = marked_stays o.entry.mark o.entry o.naming w.named pins w.marked;
  }

-- the names of an open transaction are pinned
pub own_pinned : (s : FlashState) (n : IndexState) (t : BlocksState) (u : Unsure) (o : OpenTransactionsState) →
    BlocksInvariant s n t u o → (i : ℕ) → i < length o.all →
    All (Contains (pinned_names n.pins)) (transaction_at o i).naming.names
own_pinned s n t u o k i within j d inside =
    let name = get_or (transaction_at o i).naming.names j d in
    (k.pinned name).1 (
      i,
      transaction_at o i,
      within,
      get_or_default o.all i (transaction_at o i) no_transaction within,
      Contains-get_or (transaction_at o i).naming.names j d inside,
    )

-- the transactions stay
pub each_stays : (s s' : FlashState) (n n' : IndexState) (t t' : BlocksState) (u u' : Unsure)
    (o : OpenTransactionsState) → ArrayStays n.config.protocol →
    BlocksInvariant s n t u o → Matches s' n' t' u' → Preserves n n' →
    KeepsArray n.config.protocol n.config.logical s.image s'.image → All (IsTransaction s'.image n') o.all
each_stays s s' n n' t t' u u' o law k m' keep same =
    All-from_get_or (IsTransaction s'.image n') o.all no_transaction (λ i within.
    transaction_stays s s' n n' t t' u u' law k.matches m' keep same (transaction_at o i)
    (own_pinned s n t u o k i within) (k.each i no_transaction within))

-- all stays where blocks are collected
pub kept_still : (s s' : FlashState) (n n' : IndexState) (t t' : BlocksState) (u u' : Unsure)
    (o : OpenTransactionsState) → ArrayStays n.config.protocol →
    BlocksInvariant s n t u o → IsNoOwn u → IsNoOwn u' → Matches s' n' t' u' → Preserves n n' →
    KeepsArray n.config.protocol n.config.logical s.image s'.image → BlocksInvariant s' n' t' u' o
kept_still s s' n n' t t' u u' o law k not_own not_own' m' keep same = record {
  matches = m';
  each = each_stays s s' n n' t t' u u' o law k m' keep same;
  doubt = doubt_of s'.image n' (entries_of o) (namings_of o) u' not_own'
      (calm_of s.image n (entries_of o) (namings_of o) u not_own k.doubt);
  tags = k.tags;
  apart = k.apart;
  few = subst (λ (c : Config). pending_pages (entries_of o) ≤ c.pending) (sym keep.config) k.few;
  pinned = λ name. subst (λ pins. Contains (pinned_names pins) name ↔ Any (λ o. Contains o.naming.names name) o.all)
      (sym keep.pins) (k.pinned name);
}

-- Another transaction in the place of one
pub record HasSameParts (o new : TransactionState) : Type 0 where
  pub tag : new.entry.tag ≡ o.entry.tag
  pub writes : new.entry.writes ≡ o.entry.writes
  pub names : new.naming.names ≡ o.naming.names

pub pages_same : (all all' : List TransactionState) → map (λ o. o.entry.writes) all' ≡ map (λ o. o.entry.writes) all →
    pending_pages (map (λ o. o.entry) all') ≡ pending_pages (map (λ o. o.entry) all)
pages_same all all' same =
    let lengths : (os : List TransactionState) →
    sum (map (λ (ws : List PageWrite). length ws) (map (λ (o : TransactionState). o.entry.writes) os))
    ≡ pending_pages (map
    (λ o. o.entry) os) = λ os.
    ap sum (map_map (λ (o : TransactionState). o.entry.writes) (λ (ws : List PageWrite). length ws) os
    ∙ sym (map_map (λ (o : TransactionState). o.entry) (λ (e : Entry). length e.writes) os))
    ∙ sum-map (λ (e : Entry). length e.writes) (map (λ (o : TransactionState). o.entry) os) in
    sym (lengths all') ∙ ap (λ yss. sum (map (λ (ws : List PageWrite). length ws) yss)) same ∙ lengths all

pub kept_with : (s s' : FlashState) (n n' : IndexState) (t t' : BlocksState) (u u' : Unsure) (o : OpenTransactionsState)
    (i : ℕ) (new : TransactionState) →
    BlocksInvariant s n t u o → i < length o.all → HasSameParts (transaction_at o i) new → Matches s' n' t' u' →
    n'.config ≡ n.config → n'.pins ≡ n.pins →
    ((k : ℕ) → k < length o.all → k ≢ i → IsTransaction s'.image n' (transaction_at o k)) →
    IsTransaction s'.image n' new →
    DoubtsAs s'.image n' (entries_of (with_transaction o i new)) (namings_of (with_transaction o i new)) u' →
    BlocksInvariant s' n' t' u' (with_transaction o i new)
kept_with s s' n n' t t' u u' o i new k within parts m' config pins others own doubt =
    let tags : map (λ (x : TransactionState). x.entry.tag) (slice_set o.all i new)
    ≡ map (λ (x : TransactionState). x.entry.tag) o.all =
    map-set_same (λ (x : TransactionState). x.entry.tag) o.all i new no_transaction parts.tag in
    let names : map (λ (x : TransactionState). x.naming.names) (slice_set o.all i new)
    ≡ map (λ (x : TransactionState). x.naming.names) o.all =
    map-set_same (λ (x : TransactionState). x.naming.names) o.all i new no_transaction parts.names in
    let writes : map (λ (x : TransactionState). x.entry.writes) (slice_set o.all i new)
    ≡ map (λ (x : TransactionState). x.entry.writes) o.all =
    map-set_same (λ (x : TransactionState). x.entry.writes) o.all i new no_transaction parts.writes in
    record {
      matches = m';
      each = All-from_get_or (IsTransaction s'.image n') (slice_set o.all i new) no_transaction (λ j inside.
          elim (cases_eq j i) [
            | inl is ↦ subst (IsTransaction s'.image n')
                (sym (get_or-set_same o.all i new no_transaction within)
                ∙ ap (λ a. get_or (slice_set o.all i new) a no_transaction) (sym is)) own
            | inr other ↦ subst (IsTransaction s'.image n') (sym (get_or-set_other o.all i j new no_transaction other))
                (others j (subst (λ len. j < len) (length-set o.all i new) inside) other)
          ]);
      doubt = doubt;
      tags = pairs_from (λ (x : TransactionState). x.entry.tag) (λ a b. a ≢ b) (slice_set o.all i new)
          (subst (AllPairs (λ a b. a ≢ b)) (sym tags) (pairs_to (λ (x : TransactionState). x.entry.tag) (λ a b. a ≢ b)
          o.all k.tags));
      apart = pairs_from (λ (x : TransactionState). x.naming.names) ShareNoPage (slice_set o.all i new)
          (subst (AllPairs ShareNoPage) (sym names) (pairs_to (λ (x : TransactionState). x.naming.names) ShareNoPage
          o.all k.apart));
      few = subst (λ (c : Config). pending_pages (entries_of (with_transaction o i new)) ≤ c.pending) (sym config)
          (subst (λ pages. pages ≤ n.config.pending) (sym (pages_same o.all (slice_set o.all i new) writes)) k.few);
      pinned = λ name.
          let to : Any (λ (x : TransactionState). Contains x.naming.names name) o.all →
          Any (λ (x : TransactionState). Contains x.naming.names name) (slice_set o.all i new) =
          λ a.
          any_from_map (λ (x : TransactionState). x.naming.names) (λ x. Contains x name) (slice_set o.all i new)
          no_transaction
          (subst (Any (λ x. Contains x name)) (sym names)
          (any_to_map (λ (x : TransactionState). x.naming.names) (λ x. Contains x name) o.all a)) in
          let from : Any (λ (x : TransactionState). Contains x.naming.names name) (slice_set o.all i new) →
          Any (λ (x : TransactionState). Contains x.naming.names name) o.all =
          λ a.
          any_from_map (λ (x : TransactionState). x.naming.names) (λ x. Contains x name) o.all no_transaction
          (subst (Any (λ x. Contains x name)) names (any_to_map (λ (x : TransactionState). x.naming.names)
          (λ x. Contains x name) (slice_set o.all i new) a)) in (
            λ c. to ((k.pinned name).0 (subst (λ p. Contains (pinned_names p) name) pins c)),
            λ a. subst (λ p. Contains (pinned_names p) name) (sym pins) ((k.pinned name).1 (from a)),
          );
    }
