-- Who owns a page, where a transaction is opened and where one is taken away.
use Rattle.open_table.proofs.Common.{◌≡◌, ◌≢◌, ℕ, zero, suc, ◌+◌, ◌<◌, ◌≤◌, ◌==◌, ◌||◌, Bool, true, false, cond, Option, Some, None, List, [], ◌∷◌, ◌++◌, length, map, drop, get_or, set, All, AllPairs, Contains, refl, sym, ap, ap₂, ◌∙◌, arith, find, remove, list_any, cond-true, cond-false, eqb-false, drop_more, drop_all, length-set, get_or-set_same, get_or-set_other, map_push, All-contains, All-head, All-tail, all_from, Contains-rest, pairs_head, pairs_tail, PageWrite, Link, ShareNoPage, Entry, TransactionState, transaction_of, write_held, with_owner, Naming, or_else, Transaction, PendingWrite}
use Rattle.std.specs.Prelude.{option_map}
use Rattle.std.specs.Option.{option_or}
use Rattle.std.proofs.lemmas.Bool.{eqb-true}
use Rattle.std.proofs.lemmas.List.Folds.{find-append}
use Rattle.list_lemmas.proofs.Membership.{map_in, Contains-first}
use Rattle.list_lemmas.proofs.Pairs.{pairs_from}
use Rattle.list_lemmas.proofs.Tests.{any_of}
use Rattle.list_lemmas.proofs.Values.{or_first}
use Rattle.open_table.specs.OpenTransactions.{owner_in}
use Rattle.open_table.specs.PendingWrites.{owned_page}
use Rattle.array_machine.specs.Submit.{is_of, is_owner, overlap}
use Rattle.array_machine.specs.declared.answers.SubmitError.TheVariants as refused

-- each page has its owner
abbrev pub IsOwned : List (Option ℕ) → List Transaction → Type 0
IsOwned owners all = (page : ℕ) → page < length owners → get_or owners page None ≡ owner_in all page

abbrev pub entries_in : List Transaction → List Entry
entries_in all = map (λ o. o.entry) (map transaction_of all)

-- a page is among these
abbrev has : ℕ → List PendingWrite → Bool
has page ps = list_any (λ p. p.name.page == page) ps

owns : (page : ℕ) (ps : List PendingWrite) → list_any (is_of page) (map write_held ps) ≡ has page ps
owns page [] = refl
owns page (p ∷ ps) = ap (λ rest. (p.name.page == page) || rest) (owns page ps)

both_false : (a b : Bool) → (a || b) ≡ false → (a ≡ false) × (b ≡ false)
both_false true b fails = cc
both_false false b fails = (refl, fails)

not_true : (b : Bool) → (b ≡ true → ⊥) → b ≡ false
not_true true fails = absurd (fails refl)
not_true false fails = refl

pub length-with_owner : (owners : List (Option ℕ)) (o : Option ℕ) (ps : List PendingWrite) →
    length (with_owner owners o ps) ≡ length owners
unfolding with_owner
length-with_owner owners o [] = refl
length-with_owner owners o (p ∷ ps) = length-with_owner (set owners p.name.page o) o ps
    ∙ length-set owners p.name.page o

stays : (owners : List (Option ℕ)) (o : Option ℕ) (ps : List PendingWrite) (page : ℕ) → has page ps ≡ false →
    get_or (with_owner owners o ps) page None ≡ get_or owners page None
unfolding with_owner
stays owners o [] page fails = refl
stays owners o (p ∷ ps) page fails =
    let parts = both_false (p.name.page == page) (has page ps) fails in
    stays (set owners p.name.page o) o ps page parts.1
    ∙ get_or-set_other owners p.name.page page o None (λ same. eqb-false p.name.page page parts.0 (sym same))

comes_next : (owners : List (Option ℕ)) (o : Option ℕ) (p : PendingWrite) (ps : List PendingWrite) (page : ℕ)
    (later : Bool) → page < length owners →
    has page (p ∷ ps) ≡ true → has page ps ≡ later →
    ((os : List (Option ℕ)) → page < length os → has page ps ≡ true → get_or (with_owner os o ps) page None ≡ o) →
    get_or (with_owner (set owners p.name.page o) o ps) page None ≡ o
comes_next owners o p ps page true lt any is ih = ih (set owners p.name.page o)
    (let long = length-set owners p.name.page o in omega arith) is
comes_next owners o p ps page false lt any is ih =
    let same = eqb-true p.name.page page (or_first (p.name.page == page) (has page ps) any is) in
    stays (set owners p.name.page o) o ps page is
    ∙ ap (λ at. get_or (set owners at o) page None) same
    ∙ get_or-set_same owners page o None lt

comes : (owners : List (Option ℕ)) (o : Option ℕ) (ps : List PendingWrite) (page : ℕ) → page < length owners →
    has page ps ≡ true →
    get_or (with_owner owners o ps) page None ≡ o
unfolding with_owner
comes owners o [] page lt any = cc
comes owners o (p ∷ ps) page lt any = comes_next owners o p ps page (has page ps) lt any refl
    (λ os below later. comes os o ps page below later)

none_or : (o : Option Entry) → option_or o None ≡ o
none_or None = refl
none_or (Some e) = refl

entries_push : (all : List Transaction) (x : Transaction) → entries_in (all ++ x ∷ []) ≡ entries_in all
    ++ (transaction_of x).entry ∷ []
entries_push all x = ap (map (λ (o : TransactionState). o.entry)) (map_push transaction_of all x)
    ∙ map_push (λ (o : TransactionState). o.entry) (map transaction_of all) (transaction_of x)

-- no page of these has an owner
abbrev pub AreFree : List Transaction → List PendingWrite → Type 0
AreFree all ps = All (λ p. find (is_owner p.name.page) (entries_in all) ≡ None) ps

-- one is opened
module _ (owners : List (Option ℕ)) (all : List Transaction) (x : Transaction) (owned : IsOwned owners all)
    (free : AreFree all x.pages.items) where
  abbrev after : List (Option ℕ)
  after = with_owner owners (Some x.tag) x.pages.items

  found_then : (page : ℕ) → find (is_owner page) (entries_in (all ++ x ∷ []))
      ≡ option_or (find (is_owner page) (entries_in all))
      (find (is_owner page) ((transaction_of x).entry ∷ []))
  found_then page = ap (find (is_owner page)) (entries_push all x)
      ∙ find-append (is_owner page) (entries_in all) ((transaction_of x).entry ∷ [])

  opened_at : (page : ℕ) (its : Bool) → page < length owners → has page x.pages.items ≡ its →
      get_or after page None ≡ owner_in (all ++ x ∷ []) page
  opened_at page true lt is =
      let one = any_of (λ (p : PendingWrite). p.name.page == page) x.pages.items is in
      let same = eqb-true one.0.name.page page one.2 in
      let none : find (is_owner page) (entries_in all) ≡ None =
      ap (λ q. find (is_owner q) (entries_in all)) (sym same) ∙ All-contains
      (λ (p : PendingWrite). find (is_owner p.name.page) (entries_in all) ≡ None) x.pages.items one.0 free one.1 in
      let here = cond-true (is_owner page (transaction_of x).entry) (Some (transaction_of x).entry) None
      (owns page x.pages.items ∙ is) in
      comes owners (Some x.tag) x.pages.items page lt is
      ∙ sym (ap (option_map (λ (e : Entry). e.tag)) (found_then page ∙ ap₂ option_or none here))
  opened_at page false lt is =
      let here = cond-false (is_owner page (transaction_of x).entry) (Some (transaction_of x).entry) None
      (owns page x.pages.items ∙ is) in
      stays owners (Some x.tag) x.pages.items page is ∙ owned page lt
      ∙ sym (ap (option_map (λ (e : Entry). e.tag))
      (found_then page ∙ ap (option_or (find (is_owner page) (entries_in all))) here
      ∙ none_or (find (is_owner page) (entries_in all))))

  pub owned_with : IsOwned after (all ++ x ∷ [])
  owned_with page lt =
      opened_at page (has page x.pages.items) (let long = length-with_owner owners (Some x.tag) x.pages.items in
      omega arith) refl

-- two transactions that share no page
abbrev Apart : Transaction → Transaction → Type 0
Apart a b = ShareNoPage (transaction_of a).naming.names (transaction_of b).naming.names

clash : (a b : Transaction) (page : ℕ) → Apart a b → has page a.pages.items ≡ true → has page b.pages.items ≡ true → ⊥
clash a b page apart in_a in_b =
    let p = any_of (λ (p : PendingWrite). p.name.page == page) a.pages.items in_a in
    let q = any_of (λ (p : PendingWrite). p.name.page == page) b.pages.items in_b in
    let others = All-contains (λ (x : Link). All (λ (y : Link). x.page ≢ y.page) (transaction_of b).naming.names)
    (transaction_of a).naming.names p.0.name apart
    (map_in (λ (p : PendingWrite). p.name) a.pages.items p.0 p.1) in
    All-contains (λ (y : Link). p.0.name.page ≢ y.page) (transaction_of b).naming.names q.0.name others
    (map_in (λ (p : PendingWrite). p.name) b.pages.items q.0 q.1)
    (eqb-true p.0.name.page page p.2 ∙ sym (eqb-true q.0.name.page page q.2))

none_own : (page : ℕ) (os : List Transaction) → ((o : Transaction) → Contains os o → has page o.pages.items ≡ false) →
    find (is_owner page) (entries_in os) ≡ None
none_own page [] none = refl
none_own page (o ∷ os) none =
    cond-false (is_owner page (transaction_of o).entry) (Some (transaction_of o).entry)
    (find (is_owner page) (entries_in os))
    (owns page o.pages.items ∙ none o (Contains-first o os))
    ∙ none_own page os (λ x i. none x (Contains-rest o os x i))

-- no other one has a page of this one
others_none : (page : ℕ) (os : List Transaction) (k : ℕ) (x : Transaction) → k < length os → x ≡ get_or os k x →
    AllPairs Apart os →
    has page x.pages.items ≡ true → find (is_owner page) (entries_in (remove os k)) ≡ None
others_none page [] k x lt is apart its = absurd (omega arith)
others_none page (o ∷ os) zero x lt is apart its =
    none_own page os (λ y i. not_true (has page y.pages.items)
    (clash o y page (pairs_head Apart o os y apart i) (ap (λ (x : Transaction). has page x.pages.items) (sym is)
    ∙ its)))
others_none page (o ∷ os) (suc k) x lt is apart its =
    let within : k < length os = omega arith in
    let i : Contains os x = (k, within, sym is) in
    cond-false (is_owner page (transaction_of o).entry) (Some (transaction_of o).entry)
    (find (is_owner page) (entries_in (remove os k)))
    (owns page o.pages.items ∙ not_true (has page o.pages.items)
    (λ both. clash o x page (pairs_head Apart o os x apart i) both its))
    ∙ others_none page os k x within is (pairs_tail Apart o os apart) its

-- the other pages have the owners that they had
others_same : (page : ℕ) (os : List Transaction) (k : ℕ) (x : Transaction) → k < length os → x ≡ get_or os k x →
    has page x.pages.items ≡ false → find (is_owner page) (entries_in (remove os k))
    ≡ find (is_owner page) (entries_in os)
others_same page [] k x lt is fails = absurd (omega arith)
others_same page (o ∷ os) zero x lt is fails =
    sym (cond-false (is_owner page (transaction_of o).entry) (Some (transaction_of o).entry)
    (find (is_owner page) (entries_in os))
    (owns page o.pages.items ∙ ap (λ (x : Transaction). has page x.pages.items) (sym is) ∙ fails))
others_same page (o ∷ os) (suc k) x lt is fails =
    ap (cond (is_owner page (transaction_of o).entry) (Some (transaction_of o).entry))
    (others_same page os k x (omega arith) is fails)

-- one is taken away
module _ (owners : List (Option ℕ)) (all : List Transaction) (k : ℕ) (x : Transaction) (owned : IsOwned owners all)
    (within : k < length all) (is : x ≡ get_or all k x)
    (apart : AllPairs (λ (a b : Naming). ShareNoPage a.names b.names)
    (map (λ (o : TransactionState). o.naming) (map transaction_of all))) where
  abbrev rest : List (Option ℕ)
  rest = with_owner owners None x.pages.items

  pairs : AllPairs Apart all
  pairs =
      pairs_from transaction_of (λ (a b : TransactionState). ShareNoPage a.naming.names b.naming.names) all
      (pairs_from (λ (o : TransactionState). o.naming) (λ (a b : Naming). ShareNoPage a.names b.names)
      (map transaction_of all) apart)

  closed_at : (page : ℕ) (its : Bool) → page < length owners → has page x.pages.items ≡ its →
      get_or rest page None ≡ owner_in (remove all k) page
  closed_at page true lt its =
      comes owners None x.pages.items page lt its
      ∙ sym (ap (option_map (λ (e : Entry). e.tag)) (others_none page all k x within is pairs its))
  closed_at page false lt its =
      stays owners None x.pages.items page its ∙ owned page lt
      ∙ sym (ap (option_map (λ (e : Entry). e.tag)) (others_same page all k x within is its))

  pub owned_without : IsOwned rest (remove all k)
  owned_without page lt =
      closed_at page (has page x.pages.items) (let long = length-with_owner owners None x.pages.items in
      omega arith) refl

mapped_twice : (page : ℕ) (o : Option Entry) →
    option_map (λ tag. refused.Overlap page tag) (option_map (λ (e : Entry). e.tag) o)
    ≡ option_map (λ (e : Entry). refused.Overlap page e.tag) o
mapped_twice page None = refl
mapped_twice page (Some e) = refl

-- the first page that has an owner is the first one of an open transaction
pub owned_refusal : (owners : List (Option ℕ)) (all : List Transaction) (ws : List PageWrite) → IsOwned owners all →
    All (λ w. w.page < length owners) ws → owned_page owners ws ≡ overlap (entries_in all) ws
owned_refusal owners all [] owned within = refl
owned_refusal owners all (w ∷ ws) owned within =
    ap₂ or_else
    (ap (option_map (λ tag. refused.Overlap w.page tag))
    (owned w.page (All-head (λ (w : PageWrite). w.page < length owners) w ws within))
    ∙ mapped_twice w.page (find (is_owner w.page) (entries_in all)))
    (owned_refusal owners all ws owned (All-tail (λ (w : PageWrite). w.page < length owners) w ws within))

-- no entry has the page
none_found_in : (page : ℕ) (es : List Entry) → All (λ (e : Entry). All (λ (v : PageWrite). v.page ≢ page) e.writes) es →
    find (is_owner page) es ≡ None
none_found_in page [] each = refl
none_found_in page (e ∷ es) each =
    cond-false (is_owner page e) (Some e) (find (is_owner page) es)
    (not_true (is_owner page e) (λ yes.
    let one = any_of (is_of page) e.writes yes in
    All-contains (λ (v : PageWrite). v.page ≢ page) e.writes one.0
    (All-head (λ (e : Entry). All (λ (v : PageWrite). v.page ≢ page) e.writes) e es each) one.1
    (eqb-true one.0.page page one.2)))
    ∙ none_found_in page es (All-tail (λ (e : Entry). All (λ (v : PageWrite). v.page ≢ page) e.writes) e es each)

-- pages that no open transaction writes
pub unowned_free : (all : List Transaction) (ps : List PendingWrite) →
    All (λ w. All (λ (e : Entry). All (λ (v : PageWrite). v.page ≢ w.page) e.writes) (entries_in all))
    (map write_held ps) → AreFree all ps
unowned_free all ps apart =
    all_from (λ (p : PendingWrite). find (is_owner p.name.page) (entries_in all) ≡ None) ps (λ p i.
    let each = All-contains (λ (w : PageWrite). All (λ (e : Entry). All (λ (v : PageWrite). v.page ≢ w.page) e.writes)
    (entries_in all)) (map write_held ps)
    (write_held p) apart
    (map_in write_held ps p i) in
    none_found_in p.name.page (entries_in all) each)

picks : (b : Bool) (e f : Entry) (other : Option Entry) → e.tag ≡ f.tag →
    option_map (λ (e : Entry). e.tag) (cond b (Some e) other)
    ≡ option_map (λ (e : Entry). e.tag) (cond b (Some f) other)
picks true e f other same = ap Some same
picks false e f other same = refl

passes : (b : Bool) (e : Entry) (one two : Option Entry) → option_map (λ (e : Entry). e.tag) one
    ≡ option_map (λ (e : Entry). e.tag) two →
    option_map (λ (e : Entry). e.tag) (cond b (Some e) one) ≡ option_map (λ (e : Entry). e.tag) (cond b (Some e) two)
passes true e one two same = refl
passes false e one two same = same

-- one with the same pages and the same tag in the place of another
pub owner_set : (os : List Transaction) (k : ℕ) (y x : Transaction) (page : ℕ) → k < length os →
    (transaction_of y).entry.writes ≡ (transaction_of (get_or os k x)).entry.writes → y.tag ≡ (get_or os k x).tag →
    owner_in (set os k y) page ≡ owner_in os page
owner_set [] k y x page lt writes tag = absurd (omega arith)
owner_set (o ∷ os) zero y x page lt writes tag =
    ap (λ ws. option_map (λ (e : Entry). e.tag) (cond (list_any (is_of page) ws) (Some (transaction_of y).entry)
    (find (is_owner page) (entries_in os)))) writes
    ∙ picks (is_owner page (transaction_of o).entry) (transaction_of y).entry (transaction_of o).entry
    (find (is_owner page) (entries_in os)) tag
owner_set (o ∷ os) (suc k) y x page lt writes tag =
    passes (is_owner page (transaction_of o).entry) (transaction_of o).entry
    (find (is_owner page) (entries_in (set os k y))) (find (is_owner page) (entries_in os))
    (owner_set os k y x page (omega arith) writes tag)

-- one page more has its owner
pub with_more : (owners : List (Option ℕ)) (o : Option ℕ) (ps : List PendingWrite) (i : ℕ) (p : PendingWrite) →
    i < length ps → p ≡ get_or ps i p →
    with_owner owners o (drop i ps) ≡ with_owner (set owners p.name.page o) o (drop (i + 1) ps)
unfolding with_owner
with_more owners o ps i p lt is =
    ap (with_owner owners o) (drop_more ps i p lt ∙ ap (λ (q : PendingWrite). q ∷ drop (i + 1) ps) (sym is))

pub with_all : (owners : List (Option ℕ)) (o : Option ℕ) (ps : List PendingWrite) (i : ℕ) → length ps ≤ i →
    with_owner owners o (drop i ps) ≡ owners
unfolding with_owner
with_all owners o ps i end = rw (drop_all i ps end) refl
