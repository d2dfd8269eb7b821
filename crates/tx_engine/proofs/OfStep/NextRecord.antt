-- The record that an open transaction writes next: it may be programmed once nothing must go before it.
use Rattle.tx_engine.proofs.Common.{◌≡◌, ℕ, zero, suc, ◌+◌, ◌-◌, ◌*◌, ◌^◌, ◌<◌, ◌≤◌, ◌==◌, true, false, List, [], ◌∷◌, length, map, get_or, All, Contains, None, refl, sym, ap, ap₂, ◌∙◌, subst, inl, inr, arith, Any, find, if◌then◌else◌, flat_map, sum, sum-map, cases_eq, both_ways, le-ltb, get_or_default, All-contains, Contains-get_or, all_from, shape_of, blocks_of, Protocol, Link, Rec, FlashState, CanBeSpelled, Found, is_present, name_of, mention_at, cur, must_go, InProgress, ShareNoPage, back_version, found_named, found_in, IndexState, IsNoted, IsNextRecord, current_of, current_name_of, block_to_go, pinned_names, BlocksState, IsNextName, CanTakeOwn, Entry, is_doubted, Mark, Plain, Doubt, Whole, Naming, IsNamed, IsUnderWay, IsAsMarked, name_at, no_name, OpenTransactionsState, TransactionState, no_transaction, transaction_at}
use Rattle.std.specs.List.{sum_by}
use Rattle.std.proofs.lemmas.List.Concat.{length-flat_map}
use Rattle.std.proofs.lemmas.List.Elements.{Contains-append_left, Contains-append_right}
use Rattle.std.proofs.Math.Nat.{mul-le-mul_right}
use Rattle.list_lemmas.proofs.Tests.{none_found}
use Rattle.list_lemmas.proofs.Options.{map_none}
use Rattle.tx_types.specs.declared.config.Protocol.TheVariants.{Scc, Bpcc}
use Rattle.page_record.specs.Spelling.{IsBack}
use Rattle.record_list.specs.Changes.{NothingMustGo}
use Rattle.record_list.proofs.OfFacts.Asking.{asked_at, rounded_at}
use Rattle.record_list.proofs.OfChanges.Progress.{mention_parts}
use Rattle.record_list.proofs.OfWalks.Rounds.{cases_in}
use Rattle.record_list.proofs.OfFacts.Wanted.{dispensable_pinned}
use Rattle.judged_records.proofs.OfChanges.NotedChanges.{next_spelled}
use Rattle.collector.specs.declared.unsure.Unsure.TheVariants as unsure
use Rattle.collector.specs.Going.{IsPinBeside}
use Rattle.tx_engine.proofs.OfDevice.Arrays.{as_many_names}
use Rattle.tx_engine.proofs.OfDevice.ImageMoves.{current_noted}
use Rattle.tx_engine.proofs.OfDevice.Kept.{BlocksInvariant, own_pinned}
use Rattle.tx_engine.proofs.OfSettle.NextNoted.{apart_at, apart_pages}
use Rattle.tx_engine.proofs.OfDevice.Noting.{next_has}
use Rattle.tx_engine.proofs.OfTables.PinnedNames.{pin_to, few_pinned}
use Rattle.tx_engine.proofs.OfAbort.Removal.{pages_by}
use Rattle.tx_engine.proofs.OfSettle.SettledLists.{calm_at}

-- where no block is to go, no record must
pub nothing_goes : (n : IndexState) (rec : Rec) → block_to_go n rec.page rec.version ≡ None →
    NothingMustGo n.config.protocol (found_in n.notes) n.config.logical rec
unfolding block_to_go
nothing_goes n rec h =
    let test = λ (f : Found). must_go n.config.protocol (found_in n.notes) n.config.logical rec.page
    rec.version f.rec in
    all_from (λ f. test f ≡ false) (found_in n.notes)
    (none_found test (found_in n.notes) (map_none (λ (f : Found). f.slot.0) (find test (found_in n.notes))
    (map_none _ _ h)))

-- the current version of its page is below an absent name of a transaction in progress
pub current_below : (n : IndexState) → IsNoted n.config.protocol n → (names : List Link) (name : Link) →
    InProgress n.config.protocol (found_in n.notes) n.config.logical names →
    Contains names name → is_present (found_in n.notes) name ≡ false → current_of n name.page < name.version
current_below n is names name going own absent =
    let range = All-contains (λ (a : Link). (a.page < n.config.logical) × (1 ≤ a.version) × (a.version ≤ 2 ^ 62)) names
    name going.begun.transaction.in_range
    own in
    elim (cases_eq (current_of n name.page) 0) [
      | inl none ↦ omega (arith, range.1)
      | inr some ↦ (
          let q = current_name_of n name.page in
          let there = current_noted n is name.page some in
          let f = found_named (found_in n.notes) q there in
          elim (cases_in names q) [
            | inl also ↦ (
                elim (cases_eq also.0 own.0) [
                  | inl same ↦ (
                      let is_name : q ≡ name = sym also.2 ∙ get_or_default names also.0 q name also.1
                      ∙ ap (λ k. get_or names k name) same ∙ own.2 in
                      absurd (both_ways (is_present (found_in n.notes) name) absent
                      (subst (λ a. is_present (found_in n.notes) a ≡ true) is_name there)))
                  | inr other ↦ absurd (apart_pages names also.0 own.0 going.begun.transaction.distinct
                      also.1 own.1 other
                      (ap (λ (a : Link). a.page) (get_or_default names also.0 no_name q also.1 ∙ also.2)
                      ∙ ap (λ (a : Link). a.page) (sym (get_or_default names own.0 no_name name own.1 ∙ own.2))))
                ])
            | inr foreign ↦ (
                let below = All-contains (λ (g : Found). (Contains names (name_of g.rec) → ⊥) →
                All (λ (a : Link). mention_at a.page g.rec < a.version) names)
                (found_in n.notes) f.0 going.begun.others f.1
                (λ c. foreign (subst (Contains names) f.2 c)) in
                let less = All-contains (λ (a : Link). mention_at a.page f.0.rec < a.version) names name below own in
                let part = (mention_parts f.0.rec name less).0 (ap (λ (a : Link). a.page) f.2) in
                let version : f.0.rec.version ≡ current_of n name.page = ap (λ (a : Link). a.version) f.2 in
                omega (arith, part))
          ])
    ]

is_back : (n : IndexState) (p : Protocol) (rec : Rec) → n.config.protocol ≡ p →
    rec.back ≡ back_version n.config.protocol (found_in n.notes) n.config.logical rec.page →
    current_of n rec.page < rec.version → IsBack p rec.version rec.back
unfolding current_of
is_back n Scc rec is back below = back ∙ ap (λ q. back_version q (found_in n.notes) n.config.logical rec.page) is
is_back n Bpcc rec is back below =
    let now : cur n.config.protocol (found_in n.notes) n.config.logical rec.page
    ≡ cur Bpcc (found_in n.notes) n.config.logical rec.page =
    ap (λ q. cur q (found_in n.notes) n.config.logical rec.page) is in
    let its : rec.back ≡ cur Bpcc (found_in n.notes) n.config.logical rec.page = back
    ∙ ap (λ q. back_version q (found_in n.notes) n.config.logical rec.page) is in
    omega (arith, below, now, its)

in_flat : (all : List TransactionState) (name : Link) → Any (λ o. Contains o.naming.names name) all →
    Contains (flat_map (λ o. o.naming.names) all) name
in_flat all name any =
    let c = any.4 in
    let its = get_or all any.0 no_transaction in
    let own : Contains its.naming.names name = subst (λ (x : TransactionState). Contains x.naming.names name)
    (sym (get_or_default all any.0 no_transaction any.1 any.2 ∙ any.3)) c in
    go all any.0 any.2 own
  where
    go : (os : List TransactionState) (j : ℕ) → j < length os →
        Contains (get_or os j no_transaction).naming.names name → Contains (flat_map (λ o. o.naming.names) os) name
    go [] j h i = absurd (omega arith)
    go (o ∷ os) zero h i = Contains-append_left o.naming.names (flat_map (λ o. o.naming.names) os) name i
    go (o ∷ os) (suc j) h i = Contains-append_right o.naming.names (flat_map (λ o. o.naming.names) os) name
        (go os j (omega arith) i)

sum_same : (all : List TransactionState) (f g : TransactionState → ℕ) →
    ((j : ℕ) → j < length all → f (get_or all j no_transaction) ≡ g (get_or all j no_transaction)) →
    sum_by f all ≡ sum_by g all
sum_same all f g h = sym (sum-map f all) ∙ ap sum (same all h) ∙ sum-map g all
  where
    same : (os : List TransactionState) → ((j : ℕ) → j < length os →
        f (get_or os j no_transaction) ≡ g (get_or os j no_transaction)) → map f os ≡ map g os
    same [] k = refl
    same (o ∷ os) k = ap₂ (λ y ys. y ∷ ys) (k 0 (omega arith)) (same os (λ j inside. k (suc j) (omega arith)))

module _ (s : FlashState) (n : IndexState) (t : BlocksState) (o : OpenTransactionsState) (i : ℕ)
    (k : BlocksInvariant s n t unsure.Nothing o) (within : i < length o.all)
    (plain : (transaction_at o i).entry.mark ≡ Plain)
    (due : (transaction_at o i).naming.noted_count ≡ (transaction_at o i).entry.done) where
  abbrev e : Entry
  e = (transaction_at o i).entry

  abbrev x : Naming
  x = (transaction_at o i).naming

  abbrev name : Link
  name = name_at x e.done

  pub due_named : IsNamed n.config.page_bytes n.config.logical e x
  due_named = (k.each i no_transaction within).named

  pub due_under : IsUnderWay s.image n e x
  due_under = subst (IsAsMarked s.image n e x) plain (k.each i no_transaction within).marked

  pub due_inside : e.done < length x.names
  due_inside = omega (arith, due_named.within, as_many_names x.names e.writes due_named.pages)

  pub due_has : Contains x.names name
  due_has = Contains-get_or x.names e.done no_name due_inside

  pub due_absent : is_present (found_in n.notes) name ≡ false
  due_absent = due_under.noted e.done due_inside ∙ le-ltb e.done x.noted_count (omega (arith, due))

  beside : (q : Link) → Contains (pinned_names n.pins) q → IsPinBeside n x.names q
  beside q pin =
      let any = (k.pinned q).0 pin in
      let its = get_or o.all any.0 no_transaction in
      let own : Contains its.naming.names q = subst (λ (y : TransactionState). Contains y.naming.names q)
      (sym (get_or_default o.all any.0 no_transaction any.1 any.2 ∙ any.3)) any.4 in
      elim (cases_eq any.0 i) [
        | inl same ↦ inr (inl (subst (λ j. Contains (get_or o.all j no_transaction).naming.names q) same own))
        | inr other ↦ by_mark its.entry.mark its own (apart_at o.all i any.0 k.apart within any.2 other)
            (k.each any.0 no_transaction any.2).marked
            (calm_at o.all k.doubt any.0 any.2)
      ]
    where
      by_mark : (m : Mark) (y : TransactionState) → Contains y.naming.names q → ShareNoPage x.names y.naming.names →
          IsAsMarked s.image n y.entry y.naming m →
          is_doubted m ≡ false →
          IsPinBeside n x.names q
      by_mark Plain y own share w calm =
          inr (inr (record { others = y.naming.names; in_progress = w.in_progress; apart = share; named = own }))
      by_mark Doubt y own share w calm = cc
      by_mark Whole y own share w calm = inl (All-contains (λ (a : Link). current_of n a.page ≡ a.version)
          y.naming.names q w own)

  few : length (pinned_names n.pins) ≤ n.config.pending
  few =
      let names = flat_map (λ (y : TransactionState). y.naming.names) o.all in
      let fewer = few_pinned names n.pins (λ q pin. in_flat o.all q ((k.pinned q).0 (pin_to n.pins q pin))) in
      let long = length-flat_map (λ (y : TransactionState). y.naming.names) o.all in
      let same = sum_same o.all (λ y. length y.naming.names) (λ y. length y.entry.writes) (λ j inside.
      as_many_names (get_or o.all j no_transaction).naming.names (get_or o.all j no_transaction).entry.writes
      (k.each j no_transaction inside).named.pages) in
      let pages = pages_by o.all in
      let most = k.few in
      omega (arith, fewer, long, same, pages, most)

  pub next_name : IsNextName n x.names name
  next_name = record {
    in_progress = due_under.in_progress;
    named = due_has;
    absent = due_absent;
    pinned = own_pinned s n t unsure.Nothing o k i within;
    beside = λ j d inside. beside (get_or (pinned_names n.pins) j d) (Contains-get_or (pinned_names n.pins) j d inside);
    few = few;
  }

  module _ (rec : Rec) (own : name_of rec ≡ name)
      (link : rec.next ≡ name_at x (if e.done + 1 == length e.writes then 0 else e.done + 1))
      (back : rec.back ≡ back_version n.config.protocol (found_in n.notes) n.config.logical rec.page)
      (counts : rec.count ≡ length e.writes) where
    abbrev pub next_record : block_to_go n rec.page rec.version ≡ None → IsNextRecord n rec
    next_record clear = record {
      names = x.names;
      in_progress = due_under.in_progress;
      named = subst (Contains x.names) (sym own) due_has;
      fresh = ap (is_present (found_in n.notes)) own ∙ due_absent;
      asked = asked_at n.config.protocol (found_in n.notes) n.config.logical x.names e.done rec no_name
          due_named.transaction due_inside own
          (link ∙ ap (λ len. name_at x (if e.done + 1 == len then 0 else e.done + 1))
          (sym (as_many_names x.names e.writes due_named.pages))
          ∙ sym (rounded_at x.names e.done no_name due_inside)) back
          (counts ∙ sym (as_many_names x.names e.writes due_named.pages));
      clear = nothing_goes n rec clear;
    }

    abbrev pub next_take : block_to_go n rec.page rec.version ≡ None → CanTakeOwn n t rec
    next_take clear = record {
      next = next_record clear;
      outside = λ j d inside here.
          dispensable_pinned n.config.protocol (found_in n.notes) n.config.logical (pinned_names n.pins)
          (shape_of n.config) t.spare k.matches.spared
          (get_or x.names j d)
          (own_pinned s n t unsure.Nothing o k i within j d inside) here;
    }

    pub next_can_be_spelled : block_to_go n rec.page rec.version ≡ None → CanBeSpelled n.config.protocol rec
    next_can_be_spelled clear =
        let next = next_record clear in
        let bounds = k.matches.noted.bounds in
        let most : (blocks_of (shape_of n.config) - 1) * n.config.pages_per_block ≤ blocks_of (shape_of n.config)
        * n.config.pages_per_block =
        mul-le-mul_right n.config.pages_per_block (omega arith) in
        let low : n.config.logical < 2 ^ 32 = omega (arith, bounds.space, bounds.shape.slots_most, most) in
        let spelled = next_spelled n rec next in
        let range = λ (a : Link) (c : Contains x.names a). All-contains (λ (a : Link). (a.page < n.config.logical)
        × (1 ≤ a.version) × (a.version ≤ 2 ^ 62))
        x.names a due_named.transaction.in_range c in
        let link_has : Contains x.names rec.next = next_has n rec next in
        record {
          page = omega (arith, spelled.page);
          next_page = omega (arith, spelled.next_page);
          version_least = spelled.version;
          version_most = (range (name_of rec) next.named).2;
          next_version_least = spelled.next_version;
          next_version_most = (range rec.next link_has).2;
          back = is_back n n.config.protocol rec refl back
              (current_below n k.matches.noted x.names (name_of rec) due_under.in_progress next.named next.fresh);
          count = omega (arith, counts, as_many_names x.names e.writes due_named.pages, due_named.transaction.few);
          discard = λ none. absurd (let inside = due_named.within in omega (arith, counts));
        }

-- the current version is the back version under Back Pointer Cyclic Commit
pub current_back : (n : IndexState) (page version : ℕ) → n.config.protocol ≡ Bpcc → version ≡ current_of n page →
    version ≡ back_version n.config.protocol (found_in n.notes) n.config.logical page
unfolding current_of
current_back n page version is same =
    same ∙ ap (λ q. cur q (found_in n.notes) n.config.logical page) is
    ∙ sym (ap (λ q. back_version q (found_in n.notes) n.config.logical page) is)
