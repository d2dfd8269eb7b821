-- What submitting a batch asks of the calls that it makes, and what it answers.
use Rattle.tx_engine.proofs.Common.{◌≡◌, ℕ, ◌+◌, ◌-◌, ◌^◌, ◌<◌, Bool, false, List, [], ◌∷◌, ◌++◌, length, map, get_or, set, All, Option, None, Ok, refl, sym, ap, ap₂, ◌∙◌, subst, arith, AllZip, take_more, length-map, All-map, All-cons, All-nil, All-contains, all_from, PageWrite, Writes, Config, Link, Contents, IndexState, mention_of, ArrayState, Entry, with_pins, is_spent, OpenTransactionsState, TransactionState, no_name, no_transaction, transaction_at, begun, entries_of, IsOpenAs, limits_of, spent_page, or_else}
use Rattle.std.proofs.Common.{take}
use Rattle.std.proofs.Common.{leb-false}
use Rattle.std.proofs.lemmas.List.{get_or_push, length_push}
use Rattle.array_machine.specs.ArrayState.{new_entry}
use Rattle.open_table.specs.OpenTransactionsState.{CanOpen, next_name}
use Rattle.array_machine.specs.Submit.{Limits, Submits, first_refusals, refusal, answer, opened}
use Rattle.array_machine.specs.declared.answers.SubmitError.{SubmitError}
use Rattle.array_machine.proofs.Accepting.{IsAccepted, unspent}
use Rattle.tx_engine.specs.Calls.{CanPin}

with_pins_push : (names : List Link) (pins : List ℕ) (a : Link) →
    with_pins pins (names ++ a ∷ []) ≡ set (with_pins pins names) a.page a.version
with_pins_push [] pins a = refl
with_pins_push (b ∷ rest) pins a = with_pins_push rest (set pins b.page b.version) a

-- the next name is pinned
pub pins_more : (pins : List ℕ) (names : List Link) (place : ℕ) (name : Link) → place < length names →
    name ≡ get_or names place no_name →
    set (with_pins pins (take place names)) name.page name.version ≡ with_pins pins (take (place + 1) names)
pins_more pins names place name within is =
    sym (with_pins_push (take place names) pins name)
    ∙ ap (λ (a : Link). with_pins pins (take place names ++ a ∷ [])) is
    ∙ sym (ap (with_pins pins) (take_more names place no_name within))

-- The transaction that was just opened stands last, and its pages may be pinned.
module _ (n : IndexState) (t t' : OpenTransactionsState) (tag : ℕ) (ws : List PageWrite) (count : ℕ)
    (opens : t' ≡ record t { all = t.all ++ begun n tag ws ∷ [] }) (counts : count ≡ length t'.all) where
  one_more : count ≡ length t.all + 1
  one_more = counts ∙ ap (λ (x : OpenTransactionsState). length x.all) opens ∙ length_push t.all (begun n tag ws)

  pub last_open : transaction_at t' (count - 1) ≡ begun n tag ws
  last_open = ap (λ (x : OpenTransactionsState). get_or x.all (count - 1) no_transaction) opens
      ∙ get_or_push t.all (begun n tag ws) no_transaction (count - 1) (omega (arith, one_more))

  pub can_pin : All (λ w. w.page < n.config.logical) ws → CanPin n t' (count - 1)
  can_pin range = record {
    at = omega (arith, one_more, counts);
    range = subst (λ (o : TransactionState). All (λ (a : Link). a.page < n.config.logical) o.naming.names)
        (sym last_open)
        (All-map (λ (a : Link). a.page < n.config.logical) (next_name n) ws range);
    above = subst (λ (o : TransactionState). All (λ (a : Link). mention_of n a.page < a.version) o.naming.names)
        (sym last_open)
        (All-map (λ (a : Link). mention_of n a.page < a.version) (next_name n) ws
        (all_from (λ (w : PageWrite). mention_of n w.page < mention_of n w.page + 1) ws (λ w i. omega arith)));
    named = subst (λ (o : TransactionState). length o.naming.names ≡ length o.entry.writes) (sym last_open)
        (length-map ws (next_name n));
  }

-- each open transaction has a page
pub some_each : (image : List Contents) (n : IndexState) (all : List TransactionState) →
    AllZip (IsOpenAs image n) (map (λ (o : TransactionState). o.entry) all)
    (map (λ (o : TransactionState). o.naming) all) →
    All (λ o. 0 < length o.entry.writes) all
some_each image n [] h = All-nil (λ (o : TransactionState). 0 < length o.entry.writes)
some_each image n (o ∷ rest) h = All-cons (λ (o : TransactionState). 0 < length o.entry.writes) o rest
    (let within = h.0.named.within in omega arith)
    (some_each image n rest h.1)

-- a page that is not spent has a version left
pub version_left : (mentions : List ℕ) (ws : List PageWrite) → spent_page (is_spent mentions) ws ≡ None →
    All (λ w. get_or mentions w.page 0 < 2 ^ 62) ws
version_left mentions ws h =
    let each = unspent (is_spent mentions) ws h in
    all_from (λ w. get_or mentions w.page 0 < 2 ^ 62) ws (λ w i.
    leb-false (2 ^ 62) (get_or mentions w.page 0) (All-contains (λ v. is_spent mentions v.page ≡ false) ws w each i))

both : (a b : Option SubmitError) → a ≡ None → b ≡ None → or_else a b ≡ None
both a b h k = ap (λ o. or_else o b) h ∙ k

-- a batch that is not refused is opened
pub submits : (limits : Limits) (spent : ℕ → Bool) (old new : ArrayState) (tag : ℕ) (ws : List PageWrite) →
    first_refusals limits old.entries tag ws ≡ None →
    spent_page spent ws ≡ None →
    new ≡ record old { entries = old.entries ++ new_entry tag ws ∷ [] } → Submits limits spent old new tag ws (Ok tt)
submits limits spent old new tag ws first second is =
    let none : refusal limits spent old.entries tag ws ≡ None =
    both (first_refusals limits old.entries tag ws) (spent_page spent ws) first second in
    record {
      answers = ap answer (sym none);
      opens = is ∙ ap (λ o. opened o tag ws old) (sym none);
    }

-- the refusals by the configuration are those of the limits that are kept
pub not_refused : (config : Config) (logical pending : ℕ) (entries : List Entry) (tag : ℕ) (ws : List PageWrite)
    (result : Option SubmitError) →
    logical ≡ config.logical → pending ≡ config.pending →
    result ≡ first_refusals (record { logical = logical; pending = pending }) entries tag ws → result ≡ None →
    first_refusals (limits_of config) entries tag ws ≡ None
not_refused config logical pending entries tag ws result same limit is none =
    ap₂ (λ m n. first_refusals (record { logical = m; pending = n }) entries tag ws) (sym same) (sym limit)
    ∙ sym is ∙ none

-- a batch that is not refused may be opened
pub can_open : (n : IndexState) (t : OpenTransactionsState) (tag : ℕ) (batch : Writes) →
    t.page_bytes ≡ n.config.page_bytes → t.logical ≡ n.config.logical →
    t.pending ≡ n.config.pending → batch.page_bytes ≡ n.config.page_bytes → All (λ o. 0 < length o.entry.writes) t.all →
    IsAccepted (limits_of n.config) (entries_of t) tag batch.entries →
    All (λ w. mention_of n w.page < 2 ^ 62) batch.entries → CanOpen t n batch
can_open n t tag batch size logical pending same each accepted unspent = record {
  pages = same ∙ sym size;
  some = accepted.some;
  free = omega (arith, accepted.some, accepted.room, pending);
  each = each;
  range = accepted.in_range;
  logical = logical;
  apart = accepted.unowned;
  unspent = unspent;
}
