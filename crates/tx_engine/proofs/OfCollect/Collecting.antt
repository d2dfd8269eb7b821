-- A device whose garbage was collected once it settled.
use Rattle.tx_engine.proofs.Common.{◌≡◌, ℕ, suc, ◌<◌, Bool, true, false, List, [], ◌∷◌, ◌++◌, length, map, get_or, All, sym, ◌∙◌, subst, arith, cond_both, All-append, All-nil, All-from_get_or, PageWrite, no_write, Config, Shape, FlashState, Moment, moment_of, Does, IndexState, current_of, BlocksState, is_doubted, StoreParts, Nothing, VersionsRise, settled_writes, DeviceState, Stands, no_name, OpenTransactionsState, TransactionState, no_transaction, transaction_at, StoreState, device_in}
use Rattle.collector.specs.Collecting.{cleaning, collecting}
use Rattle.collector.specs.Calls.{CollectsIfAny}
use Rattle.tx_engine.specs.Collections.{CollectsTables, answer_of}
use Rattle.array_machine.specs.declared.answers.Collected.{Collected}
use Rattle.array_machine.specs.declared.answers.Collected.TheVariants.{One}
use Rattle.array_machine.specs.Step.{doubted}
use Rattle.tx_engine.proofs.OfDevice.Arrays.{page_of_name, as_many_names}
use Rattle.tx_engine.proofs.OfDevice.Kept.{BlocksInvariant, from_stands}

-- the writes of open transactions are of pages that exist
writes_low : (all : List TransactionState) (logical : ℕ) →
    ((k : ℕ) → k < length all → All (λ w. w.page < logical) (get_or all k no_transaction).entry.writes) →
    All (λ w. w.page < logical) (doubted (map (λ o. o.entry) all))
writes_low [] logical h = All-nil (λ (w : PageWrite). w.page < logical)
writes_low (o ∷ all) logical h =
    let rest = writes_low all logical (λ k inside. h (suc k) (omega arith)) in
    cond_both (is_doubted o.entry.mark) (o.entry.writes ++ doubted (map (λ o. o.entry) all))
    (doubted (map (λ o. o.entry) all)) (All (λ w. w.page < logical))
    (λ is. All-append (λ (w : PageWrite). w.page < logical) o.entry.writes (doubted (map (λ o. o.entry) all))
    (h 0 (omega arith)) rest)
    (λ is. rest)

pub own_writes_low : (s : FlashState) (n : IndexState) (o : OpenTransactionsState) (t : BlocksState) (u : _) →
    BlocksInvariant s n t u o → (k : ℕ) → k < length o.all →
    All (λ w. w.page < n.config.logical) (transaction_at o k).entry.writes
own_writes_low s n o t u h k inside =
    let known = (h.each k no_transaction inside).named in
    All-from_get_or (λ (w : PageWrite). w.page < n.config.logical) (transaction_at o k).entry.writes
    no_write (λ j within.
    let long = as_many_names (transaction_at o k).naming.names (transaction_at o k).entry.writes known.pages in
    let low : j < length (transaction_at o k).naming.names = omega arith in
    subst (λ p. p < n.config.logical) (page_of_name (transaction_at o k).naming.names (transaction_at o k).entry.writes
    j known.pages low)
    (known.transaction.in_range j no_name low).0)

pub settled_low : {F : Type 0} (state : F → FlashState) (S : StoreState F) (O : OpenTransactionsState) (there : Bool) →
    Stands state (device_in state S O) →
    All (λ w. w.page < S.noted.config.logical) (settled_writes there (device_in state S O).machine)
settled_low state S O true h = writes_low O.all S.noted.config.logical
    (own_writes_low (state S.flash) S.noted O S.table S.unsure (from_stands state S O h))
settled_low state S O false h = All-nil (λ (w : PageWrite). w.page < S.noted.config.logical)

-- versions that stay after others rose
pub rises_stay : {F : Type 0} (a b c : DeviceState F) (ws : List PageWrite) → b.config ≡ a.config →
    All (λ w. w.page < a.config.logical) ws → VersionsRise a b ws →
    ((page : ℕ) → page < b.config.logical → current_of c.noted page ≡ current_of b.noted page) → VersionsRise a c ws
rises_stay a b c ws config low first same =
    let inside : (page : ℕ) → page < a.config.logical → page < b.config.logical =
    λ page within. subst (λ (k : Config). page < k.logical) (sym config) within in
    record {
      rises = λ k d h. subst (λ v. current_of a.noted (get_or ws k d).page < v)
          (sym (same (get_or ws k d).page (inside (get_or ws k d).page (low k d h))))
          (first.rises k d h);
      stays = λ page within others. same page (inside page within) ∙ first.stays page within others;
    }

-- the tables of a flash that was only read before
pub collects_from : (a b c : FlashState) (n m n' : IndexState) (t v t' : BlocksState) (answer : Collected) →
    moment_of b ≡ moment_of a → b.shape ≡ a.shape → m ≡ n →
    v ≡ t →
    CollectsTables b c m n' v t' answer → CollectsTables a c n n' t t' answer
collects_from a b c n m n' t v t' answer moment shape noted table h =
    subst (λ k. CollectsTables a c k n' t t' answer) noted
    (subst (λ w. CollectsTables a c m n' w t' answer) table (go answer h))
  where
    go : (answer : Collected) → CollectsTables b c m n' v t' answer → CollectsTables a c m n' v t' answer
    go One x = record {
      victim = x.victim;
      is_victim = x.is_victim;
      does = subst (λ (q : Moment). Does a.shape q (collecting m q.image v.spare x.victim) (moment_of c)) moment
          (subst (λ (sh : Shape). Does sh (moment_of b) (collecting m b.image v.spare x.victim) (moment_of c))
          shape x.does);
      noted = x.noted;
      table = x.table;
    }
    go Nothing x = record {
      none = x.none;
      does = subst (λ (q : Moment). Does a.shape q (cleaning m q.image v.spare) (moment_of c)) moment
          (subst (λ (sh : Shape). Does sh (moment_of b) (cleaning m b.image v.spare) (moment_of c)) shape x.does);
      noted = x.noted;
      table = x.table;
    }

-- what was collected, as the answer says it
pub collects_tables : (a b : StoreParts) (any : Bool) (answer : Collected) → answer ≡ answer_of any →
    CollectsIfAny a b any →
    CollectsTables a.flash b.flash a.noted b.noted a.table b.table answer
collects_tables a b true answer is h = subst (CollectsTables a.flash b.flash a.noted b.noted a.table b.table) (sym is) h
collects_tables a b false answer is h = subst (CollectsTables a.flash b.flash a.noted b.noted a.table b.table) (sym is)
    h
