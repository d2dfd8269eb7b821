-- What is kept stays in order where a transaction is opened and where one is taken away.
use Rattle.open_table.proofs.Common.{◌≡◌, ◌≢◌, ℕ, suc, ◌<◌, ◌≤◌, Some, None, List, [], ◌∷◌, ◌++◌, length, map, drop, get_or, set, refl, sym, subst, ap, ap₂, ◌∙◌, All, AllPairs, arith, remove, with_items, length-append, length-map, length-set, map_push, map-append, All-push, all_remove, Writes, PageWrite, ShareNoPage, IndexState, Entry, OpenTransactionsState, TransactionState, transaction_at, with_transaction, begun, transaction_of, write_held, with_owner, IsWhole, Naming, Plain, Transaction, PendingWrite}
use Rattle.std.proofs.Common.{take}
use Rattle.std.specs.Prelude.{Vec, vec_capacity, sum_by}
use Rattle.std.specs.Vec.{with_item}
use Rattle.std.specs.declared.alloc.Global.{Global}
use Rattle.std.proofs.lemmas.List.{take_at, map-set, take-map, drop-map}
use Rattle.std.proofs.lemmas.List.Edits.{length-remove}
use Rattle.std.proofs.lemmas.List.Elements.{All-pop, All-set}
use Rattle.std.proofs.lemmas.List.Sums.{sum_by-remove, sum_by-set, sum_by_push}
use Rattle.list_lemmas.proofs.Quantifiers.{all_mapped}
use Rattle.open_table.specs.OpenTransactions.{table_of, OpenTransactionsInvariant, TransactionInvariant}
use Rattle.open_table.specs.PendingWrites.{pages_of, StoresPages, FreesPages}
use Rattle.open_table.specs.declared.open_transactions.OpenTransactions.TheInside.{Inside}
use Rattle.open_table.proofs.OfTransactions.OpenPages.{transaction_read, length-le-pages}
use Rattle.open_table.proofs.OfTransactions.Owners.{entries_in, length-with_owner, owned_with, owned_without, unowned_free, owner_set}

abbrev as_table : Inside → List TransactionState → OpenTransactionsState
as_table t all = record { page_bytes = t.page_bytes; logical = length t.owners.items; pending = t.pending; all = all }

-- the elements of a Vec after as many others were written over them
pub refilled : {X : Type 0} (v : Vec X Global) (ws : List X) → length ws ≡ length v.items → (with_items v ws).items ≡ ws
refilled v ws same = take_at ws (drop (length ws) v.items) v.len (same ∙ sym v.ok.0)

-- one is taken away: the parts of what is kept, before and after
pub record IsTakenAway (t u : Inside) (k : ℕ) (x : Transaction) (list : Vec PendingWrite Global) : Type 0 where
  pub page_bytes : u.page_bytes ≡ t.page_bytes
  pub pending : u.pending ≡ t.pending
  pub within : k < length t.all.items
  pub its : x ≡ get_or t.all.items k x
  pub apart : AllPairs (λ (a b : Naming). ShareNoPage a.names b.names)
      (map (λ (o : TransactionState). o.naming) (map transaction_of t.all.items))
  pub all : u.all.items ≡ remove t.all.items k
  pub capacity : vec_capacity u.all ≡ vec_capacity t.all
  pub owners : u.owners.items ≡ with_owner t.owners.items None x.pages.items
  pub freed : FreesPages x.pages list t.rooms u.rooms
  pub lists : u.lists.items ≡ t.lists.items ++ list ∷ []
  pub lists_capacity : vec_capacity t.lists ≤ vec_capacity u.lists

same_long : (t u : Inside) (k : ℕ) (x : Transaction) (list : Vec PendingWrite Global) → IsTakenAway t u k x list →
    length u.owners.items ≡ length t.owners.items
same_long t u k x list away = ap length away.owners ∙ length-with_owner t.owners.items None x.pages.items

pub its_kept : (t : Inside) (k : ℕ) (x : Transaction) → OpenTransactionsInvariant t → k < length t.all.items →
    x ≡ get_or t.all.items k x →
    TransactionInvariant t.page_bytes (length t.owners.items) t.pending x
its_kept t k x kept within its =
    subst (TransactionInvariant t.page_bytes (length t.owners.items) t.pending) (sym its) (kept.each k x within)

pub kept_after_removal : (t u : Inside) (k : ℕ) (x : Transaction) (list : Vec PendingWrite Global) →
    OpenTransactionsInvariant t → IsTakenAway t u k x list → OpenTransactionsInvariant u
kept_after_removal t u k x list kept away =
    let os = t.all.items in
    let one = its_kept t k x kept away.within away.its in
    let fewer = sum_by-remove pages_of os k x away.within in
    let same = ap pages_of away.its in
    let sum = ap (sum_by pages_of) away.all in
    let left = ap length away.all in
    let count = length-remove os k away.within in
    let pushed = ap length away.lists ∙ length-append t.lists.items (list ∷ []) in
    let long = same_long t u k x list away in
    record {
      few = rw away.pending kept.few;
      each = rw (away.page_bytes, away.pending, long, away.all)
          (all_remove (TransactionInvariant t.page_bytes (length t.owners.items) t.pending) os k kept.each);
      owned = rw (away.owners, away.all) (owned_without t.owners.items os k x kept.owned away.within
          away.its away.apart);
      rooms = omega (arith, kept.rooms, away.freed.more, away.pending);
      sizes = rw away.page_bytes (away.freed.sizes t.page_bytes kept.sizes one.whole);
      lists = omega (arith, kept.lists, away.pending);
      empty = rw (away.pending, away.lists)
          (All-push (λ (l : Vec PendingWrite Global). (l.items ≡ []) × (t.pending ≤ vec_capacity l)) t.lists.items
          list kept.empty
          (away.freed.none, omega (arith, away.freed.capacity, one.capacity)));
      all_capacity = omega (arith, kept.all_capacity, away.capacity, away.pending);
      rooms_capacity = omega (arith, kept.rooms_capacity, away.freed.rooms_capacity, away.pending);
      lists_capacity = omega (arith, kept.lists_capacity, away.lists_capacity, away.pending);
    }

removed_transactions : (os : List Transaction) (k : ℕ) → map transaction_of (remove os k)
    ≡ remove (map transaction_of os) k
removed_transactions os k = map-append transaction_of (take k os) (drop (suc k) os)
    ∙ ap₂ (λ a b. a ++ b) (sym (take-map transaction_of k os))
    (sym (drop-map transaction_of (suc k) os))

pub table_after_removal : (t u : Inside) (k : ℕ) (x : Transaction) (list : Vec PendingWrite Global) →
    IsTakenAway t u k x list →
    table_of u ≡ record (table_of t) { all = remove (map transaction_of t.all.items) k }
table_after_removal t u k x list away =
    rw (away.page_bytes, away.pending, same_long t u k x list away, away.all)
    (ap (as_table t) (removed_transactions t.all.items k))

-- one is opened: the parts of what is kept, before and after
pub record IsTakenIn (n : IndexState) (t u : Inside) (batch : Writes) (x : Transaction) (list : Vec PendingWrite Global)
    (held : List PendingWrite) : Type 0 where
  pub page_bytes : u.page_bytes ≡ t.page_bytes
  pub pending : u.pending ≡ t.pending
  pub size : batch.page_bytes ≡ t.page_bytes
  pub some : 0 < length batch.entries
  pub exist : All (λ w. w.page < length t.owners.items) batch.entries
  pub apart : All (λ w. All (λ (e : Entry). All (λ (v : PageWrite). v.page ≢ w.page) e.writes) (entries_in t.all.items))
      batch.entries
  pub all : u.all.items ≡ t.all.items ++ x ∷ []
  pub capacity : vec_capacity t.all ≤ vec_capacity u.all
  pub owners : u.owners.items ≡ with_owner t.owners.items (Some x.tag) x.pages.items
  pub holds : StoresPages n list x.pages t.rooms u.rooms batch held
  pub lists : t.lists.items ≡ u.lists.items ++ list ∷ []
  pub lists_capacity : vec_capacity u.lists ≡ vec_capacity t.lists

-- the list that is taken for its pages is empty, and there is room
pub list_empty : (t : Inside) (rest : List (Vec PendingWrite Global)) (list : Vec PendingWrite Global) →
    OpenTransactionsInvariant t → t.lists.items ≡ rest ++ list ∷ [] →
    (list.items ≡ []) × (t.pending ≤ vec_capacity list)
list_empty t rest list kept popped =
    (All-pop (λ (l : Vec PendingWrite Global). (l.items ≡ []) × (t.pending ≤ vec_capacity l)) t.lists.items rest
    (Some list) popped kept.empty).1

-- there is such a list
pub list_left : (t : Inside) → OpenTransactionsInvariant t → sum_by pages_of t.all.items < t.pending →
    0 < length t.lists.items
list_left t kept free =
    let few = length-le-pages t.all.items (λ k d within. (kept.each k d within).some) in
    omega (arith, kept.lists)

-- the pages exist that are taken in
pub pages_low : (n : IndexState) (old new : Vec PendingWrite Global) (rooms rooms' : Vec (Vec ℕ Global) Global)
    (batch : Writes) (held : List PendingWrite)
    (logical : ℕ) →
    StoresPages n old new rooms rooms' batch held → old.items ≡ [] → All (λ w. w.page < logical) batch.entries →
    All (λ p. p.name.page < logical) new.items
pages_low n old new rooms rooms' batch held logical h none low =
    subst (λ ps. All (λ p. p.name.page < logical) ps) (sym (h.behind ∙ ap (λ l. l ++ held) none))
    (all_mapped (λ (w : PageWrite). w.page < logical) write_held held
    (subst (λ ws. All (λ (w : PageWrite). w.page < logical) ws) (sym h.writes) low))

module _ (n : IndexState) (t u : Inside) (batch : Writes) (x : Transaction) (list : Vec PendingWrite Global)
    (held : List PendingWrite)
    (kept : OpenTransactionsInvariant t) (taken : IsTakenIn n t u batch x list held) where
  h : StoresPages n list x.pages t.rooms u.rooms batch held
  h = taken.holds

  left : All (λ l. (l.items ≡ []) × (t.pending ≤ vec_capacity l)) u.lists.items
      × ((list.items ≡ []) × (t.pending ≤ vec_capacity list))
  left = All-pop (λ (l : Vec PendingWrite Global). (l.items ≡ []) × (t.pending ≤ vec_capacity l)) t.lists.items
      u.lists.items (Some list) taken.lists kept.empty

  pages_are : x.pages.items ≡ held
  pages_are = h.behind ∙ ap (λ l. l ++ held) left.1.0

  writes_are : map write_held x.pages.items ≡ batch.entries
  writes_are = ap (map write_held) pages_are ∙ h.writes

  many : length x.pages.items ≡ length batch.entries
  many = sym (length-map x.pages.items write_held) ∙ ap length writes_are

  own_kept : TransactionInvariant t.page_bytes (length t.owners.items) t.pending x
  own_kept = record {
    some = omega (arith, many, taken.some);
    exist = all_mapped (λ (w : PageWrite). w.page < length t.owners.items) write_held x.pages.items
        (rw writes_are taken.exist);
    whole = rw (pages_are, ← taken.size) h.whole;
    capacity = let list_capacity = left.1.1 in omega (arith, h.capacity);
  }

  long : length u.owners.items ≡ length t.owners.items
  long = ap length taken.owners ∙ length-with_owner t.owners.items (Some x.tag) x.pages.items

  pub kept_after_transaction : OpenTransactionsInvariant u
  kept_after_transaction =
      let os = t.all.items in
      let sum = ap (sum_by pages_of) taken.all ∙ sum_by_push pages_of os x in
      let count = ap length taken.all ∙ length-append os (x ∷ []) in
      let popped = ap length taken.lists ∙ length-append u.lists.items (list ∷ []) in
      let held_many = ap length pages_are in
      let free = unowned_free os x.pages.items (rw writes_are taken.apart) in
      record {
        few = rw taken.pending kept.few;
        each = rw (taken.page_bytes, taken.pending, long, taken.all)
            (All-push (TransactionInvariant t.page_bytes (length t.owners.items) t.pending) os x kept.each own_kept);
        owned = rw (taken.owners, taken.all) (owned_with t.owners.items os x kept.owned free);
        rooms = omega (arith, kept.rooms, h.fewer, taken.pending);
        sizes = rw (taken.page_bytes, ← taken.size) h.sizes;
        lists = omega (arith, kept.lists, taken.pending);
        empty = rw taken.pending left.0;
        all_capacity = omega (arith, kept.all_capacity, taken.capacity, taken.pending);
        rooms_capacity = omega (arith, kept.rooms_capacity, h.rooms_capacity, taken.pending);
        lists_capacity = omega (arith, kept.lists_capacity, taken.lists_capacity, taken.pending);
      }

  pub table_after_transaction : x.done ≡ 0 → x.noted_count ≡ 0 → x.mark ≡ Plain →
      table_of u ≡ record (table_of t) { all = map transaction_of t.all.items ++ begun n x.tag batch.entries ∷ [] }
  table_after_transaction done there mark =
      let names_are : map (λ (p : PendingWrite). p.name) x.pages.items ≡ _ =
      ap (map (λ (p : PendingWrite). p.name)) pages_are ∙ h.names in
      let its : transaction_of x ≡ begun n x.tag batch.entries = rw (writes_are, names_are, done, there, mark) refl in
      rw (taken.page_bytes, taken.pending, long, taken.all)
      (ap (as_table t) (map_push transaction_of t.all.items x ∙ ap (λ o. map transaction_of t.all.items ++ o ∷ []) its))

-- one with the same pages in the place of another
module _ (t : Inside) (k : ℕ) (x y : Transaction) (kept : OpenTransactionsInvariant t) (within : k < length t.all.items)
    (is : x ≡ get_or t.all.items k x)
    (pages : y.pages ≡ x.pages) (tag : y.tag ≡ x.tag) where
  same_writes : (transaction_of y).entry.writes ≡ (transaction_of (get_or t.all.items k x)).entry.writes
  same_writes = ap (λ (l : Vec PendingWrite Global). map write_held l.items) pages
      ∙ ap (λ (o : Transaction). (transaction_of o).entry.writes) is

  same_tag : y.tag ≡ (get_or t.all.items k x).tag
  same_tag = tag ∙ ap (λ (o : Transaction). o.tag) is

  own_with : TransactionInvariant t.page_bytes (length t.owners.items) t.pending y
  own_with =
      let its = its_kept t k x kept within is in
      record {
        some = subst (λ (l : Vec PendingWrite Global). 0 < length l.items) (sym pages) its.some;
        exist = subst (λ (l : Vec PendingWrite Global). All (λ p. p.name.page < length t.owners.items) l.items)
            (sym pages) its.exist;
        whole = subst (λ (l : Vec PendingWrite Global). All (IsWhole t.page_bytes) l.items) (sym pages) its.whole;
        capacity = subst (λ (l : Vec PendingWrite Global). t.pending ≤ vec_capacity l) (sym pages) its.capacity;
      }

  pub kept_with : OpenTransactionsInvariant (record t { all = with_item t.all k y })
  kept_with =
      let os = t.all.items in
      let same = sum_by-set pages_of os k y x within in
      let count = length-set os k y in
      let one = ap (λ (l : Vec PendingWrite Global). length l.items) pages in
      let old = ap pages_of is in
      record {
        few = kept.few;
        each = All-set (TransactionInvariant t.page_bytes (length t.owners.items) t.pending) os k y own_with kept.each;
        owned = λ page lt. kept.owned page lt ∙ sym (owner_set os k y x page within same_writes same_tag);
        rooms = omega (arith, kept.rooms);
        sizes = kept.sizes;
        lists = omega (arith, kept.lists);
        empty = kept.empty;
        all_capacity = kept.all_capacity;
        rooms_capacity = kept.rooms_capacity;
        lists_capacity = kept.lists_capacity;
      }

pub table_with : (t : Inside) (k : ℕ) (x y : Transaction) (f : TransactionState → TransactionState) →
    k < length t.all.items → x ≡ get_or t.all.items k x →
    transaction_of y ≡ f (transaction_of x) →
    table_of (record t { all = with_item t.all k y }) ≡ with_transaction (table_of t) k
    (f (transaction_at (table_of t) k))
table_with t k x y f within is same =
    ap (as_table t) (
    map-set transaction_of t.all.items k y
    ∙ ap (set (map transaction_of t.all.items) k) (same ∙ ap f (sym (transaction_read t.all.items k x within is))))
