-- The next record of an open transaction is noted: what it leaves of that transaction and of the others, and which
-- versions and mentions rise.
use Rattle.tx_engine.proofs.Common.{◌≡◌, ◌≢◌, ◌⊎◌, ℕ, ◌+◌, ◌<◌, ◌≤◌, ◌==◌, ◌^◌, List, length, get_or, All, Contains, Some, refl, sym, ap, ◌∙◌, subst, inl, inr, arith, eqb-true, cases_Bool, cases_lt, cases_eq, both_ways, lt-ltb, le-ltb, cond_both, eqb-false, zip, All-contains, shape_of, slots_of, Protocol, Link, Rec, Contents, is_present, name_of, version_of, InProgress, ShareNoPage, text_at, Blank, written_in, found_in, note_at, IndexState, IsNoted, IsNextRecord, programmed, current_of, mention_of, Entry, Mark, Plain, Doubt, Whole, Naming, IsOpenAs, IsNamed, IsUnderWay, IsAsMarked, name_at, write_at, text_in, no_name, TransactionState, with_noted_count, with_mark, with_next, NotingKeeps}
use Rattle.std.proofs.Common.{max, Any}
use Rattle.list_lemmas.proofs.Values.{if_positive}
use Rattle.record_list.specs.Records.{linked_at}
use Rattle.record_list.specs.Transaction.{next_names, IsAskedAt}
use Rattle.record_list.proofs.OfWalks.Rounds.{follows_of, follows_in}
use Rattle.judged_records.proofs.OfChanges.Mentions.{raised_at}
use Rattle.tx_engine.proofs.OfDevice.InDoubt.{long, there_then, partly, wholly, partly_stays, wholly_current, wholly_elsewhere}
use Rattle.tx_engine.proofs.OfDevice.Kept.{IsTransaction}

-- an item has the pages and versions of a name
abbrev pub HasName : List Link → ℕ → ℕ → Type 0
HasName names page version = Any (λ name. (name.page ≡ page) × (name.version ≡ version)) names

has_item : (names : List Link) (name : Link) → Contains names name → HasName names name.page name.version
has_item names name i = (i.0, name, i.1, i.2, (refl, refl))

-- the record that a transaction writes next links to one of its names
pub next_named : (n : IndexState) (rec : Rec) (next : IsNextRecord n rec) → Contains next.names (name_of rec)
    × Contains next.names rec.next
next_named n rec next =
    let i = next.named in
    let follows = follows_of next.names (name_of rec) i in
    let asked = All-contains (IsAskedAt n.config.protocol (found_in n.notes) n.config.logical next.names rec)
    (zip next.names (next_names next.names)) (name_of rec, follows.0) next.asked follows.1 refl in
    (i, subst (Contains next.names) (sym asked.0) (follows_in next.names (name_of rec) follows.0 follows.1).1)

-- a mention stays, or rises to that of a name of the transaction
pub raised_mention : (p : Protocol) (n : IndexState) (at : ℕ) (rec : Rec) (next : IsNextRecord n rec) → IsNoted p n →
    (page : ℕ) → page < n.config.logical →
    (mention_of (programmed n at rec) page ≡ mention_of n page)
    ⊎ ((mention_of n page < mention_of (programmed n at rec) page)
    × HasName next.names page (mention_of (programmed n at rec) page))
raised_mention p n at rec next noted page within =
    let names = next_named n rec next in
    let range = λ (a : Link) (i : Contains next.names a).
    (All-contains (λ a. (a.page < n.config.logical) × (1 ≤ a.version) × (a.version ≤ 2 ^ 62)) next.names a
    next.in_progress.begun.transaction.in_range i).0 in
    let own_within : rec.page < length n.mentions = omega (arith, range (name_of rec) names.0, noted.mentions) in
    let next_within : rec.next.page < length n.mentions = omega (arith, range rec.next names.1, noted.mentions) in
    let is = raised_at rec n.mentions page own_within next_within in
    let V = version_of page rec in
    let L = linked_at page rec in
    elim (cases_lt (get_or n.mentions page 0) (max V L)) [
      | inr low ↦ inl (omega (arith, is, low))
      | inl high ↦ elim (cases_lt V L) [
        | inl later ↦ (
            let parts = if_positive (rec.next.page == page) rec.next.version (omega arith) in
            let same = eqb-true rec.next.page page parts.0 in
            let now : rec.next.version ≡ mention_of (programmed n at rec) page = omega (arith, is, parts.1) in
            inr (
              omega (arith, is, high),
              subst (HasName next.names page) now (subst (λ q. HasName next.names q rec.next.version) same
                  (has_item next.names rec.next names.1)),
            ))
        | inr first ↦ (
            let parts = if_positive (rec.page == page) rec.version (omega arith) in
            let same = eqb-true rec.page page parts.0 in
            let now : rec.version ≡ mention_of (programmed n at rec) page = omega (arith, is, parts.1) in
            inr (
              omega (arith, is, high),
              subst (HasName next.names page) now (subst (λ q. HasName next.names q rec.version) same
                  (has_item next.names (name_of rec) names.0)),
            ))
      ]
    ]

module _ (p : Protocol) (notes : NotingKeeps p) (n : IndexState) (is_noted : IsNoted p n) (rule : n.config.protocol ≡ p)
    (at : ℕ) (rec : Rec)
    (next : IsNextRecord n rec) (within : at < slots_of (shape_of n.config)) (was : note_at n.notes at ≡ Blank)
    (image : List Contents) (e : Entry) (x : Naming) (named : IsNamed n.config.page_bytes n.config.logical e x)
    (under : IsUnderWay image n e x)
    (its : next.names ≡ x.names) (there : x.noted_count ≡ e.done) (name : name_of rec ≡ name_at x e.done) where
  abbrev pub then : IndexState
  then = programmed n at rec

  -- another name is there as it was
  other_name : (a : Link) → (a ≡ name_of rec → ⊥) → is_present (found_in then.notes) a ≡ is_present (found_in n.notes) a
  other_name a other = elim (cases_Bool (is_present (found_in n.notes) a)) [
    | inl here ↦ (notes.names n at rec a is_noted within was).1 (inl here) ∙ sym here
    | inr gone ↦ elim (cases_Bool (is_present (found_in then.notes) a)) [
      | inr still ↦ still ∙ sym gone
      | inl here ↦ elim ((notes.names n at rec a is_noted within was).0 here) [
        | inl before ↦ absurd (both_ways (is_present (found_in n.notes) a) gone before)
        | inr same ↦ absurd (other same)
      ]
    ]
  ]

  inside : e.done < length x.names
  inside = omega (
    arith,
    named.within,
    long p notes n is_noted rule at rec next within was image e x named under
        its there name,
  )

  -- Another transaction, which has no page of this one
  module _ (f : Entry) (y : Naming) (share : ShareNoPage x.names y.names) where
    apart : (k : ℕ) → k < length y.names → name_at y k ≡ name_of rec → ⊥
    apart k h same = share e.done no_name inside k no_name h (ap (λ (a : Link). a.page) (sym (same ∙ name)))

    goes_on : InProgress n.config.protocol (found_in n.notes) n.config.logical y.names →
        InProgress n.config.protocol (found_in then.notes) n.config.logical y.names
    goes_on w = subst (λ q. InProgress q (found_in then.notes) n.config.logical y.names) (sym rule)
        (elim (cases_eq (e.done + 1) (length e.writes)) [
          | inl last ↦ (wholly p notes n is_noted rule at rec next within was image e x named under its there name
              last).others y.names
              (subst (λ ns. ShareNoPage ns y.names) (sym its) share)
              (subst (λ q. InProgress q (found_in n.notes) n.config.logical y.names) rule w)
          | inr more ↦ (partly p notes n is_noted rule at rec next within was image e x named under its there name
              more).others y.names
              (subst (λ ns. ShareNoPage ns y.names) (sym its) share)
              (subst (λ q. InProgress q (found_in n.notes) n.config.logical y.names) rule w)
        ])

    other_under : IsUnderWay image n f y → IsUnderWay image then f y
    other_under w = record {
      in_progress = goes_on w.in_progress;
      least = w.least;
      most = w.most;
      short = w.short;
      noted = λ k h. other_name (name_at y k) (apart k h) ∙ w.noted k h;
      texts = w.texts;
    }

    other_current : (page : ℕ) → page < n.config.logical → All (λ (a : Link). a.page ≢ page) x.names → current_of
        then page ≡ current_of n page
    other_current page low others = elim (cases_eq (e.done + 1) (length e.writes)) [
      | inl last ↦ wholly_elsewhere p notes n is_noted rule at rec next within was image e x named under its there name
          last page low others
      | inr more ↦ partly_stays p notes n is_noted rule at rec next within was image e x named under its there
          name more page low
    ]

    other_marked : (mark : Mark) → IsNamed n.config.page_bytes n.config.logical f y → IsAsMarked image n f y mark →
        IsAsMarked image then f y mark
    other_marked Plain known w = other_under w
    other_marked Doubt known w = (other_under w.0, w.1)
    other_marked Whole known w = λ k d h.
        other_current (get_or y.names k d).page (known.transaction.in_range k d h).0 (λ j c low. share j c low k d h)
        ∙ w k d h

    pub other_transaction : IsOpenAs image n f y → IsOpenAs image then f y
    other_transaction w = record { named = w.named; marked = other_marked f.mark w.named w.marked }

  -- The transaction itself, where more records come
  pub more_under : text_at (written_in n.config.protocol image) (name_of rec)
      ≡ Some (text_in n.config.page_bytes (write_at e e.done)) →
      e.done + 1 ≢ length e.writes →
      IsUnderWay image then e (record x { noted_count = x.noted_count + 1 })
  more_under come more =
      let as_many = long p notes n is_noted rule at rec next within was image e x named under its there name in
      record {
        in_progress = subst (λ q. InProgress q (found_in then.notes) n.config.logical x.names) (sym rule)
            (subst (InProgress p (found_in then.notes) n.config.logical) its
            (partly p notes n is_noted rule at rec next within was image e x named under its there name
            more).in_progress);
        least = omega (arith, there);
        most = omega (arith, there);
        short = omega (arith, there, named.within, as_many, more);
        noted = λ k h. elim (cases_lt k (x.noted_count + 1)) [
          | inl less ↦ there_then p notes n is_noted rule at rec next within was image e x named under its there name k
              h (omega (arith, there))
              ∙ sym (lt-ltb k (x.noted_count + 1) less)
          | inr past ↦
              other_name (name_at x k)
              (λ same. named.transaction.distinct e.done k no_name (omega (arith, there)) h
              (ap (λ (a : Link). a.page) (sym (same ∙ name))))
              ∙ under.noted k h ∙ le-ltb k x.noted_count (omega arith) ∙ sym (le-ltb k (x.noted_count + 1) past)
        ];
        texts = λ k h. elim (cases_lt k x.noted_count) [
          | inl less ↦ under.texts k less
          | inr past ↦ (let here : k ≡ e.done = omega (arith, there) in
              ap (λ j. text_at (written_in n.config.protocol image) (name_at x j)) here
              ∙ ap (text_at (written_in n.config.protocol image)) (sym name)
              ∙ come ∙ ap (λ j. Some (text_in n.config.page_bytes (write_at e j))) (sym here))
        ];
      }

-- and the transaction that it makes
pub next_transaction : (p : Protocol) (notes : NotingKeeps p) (n : IndexState) (is_noted : IsNoted p n)
    (rule : n.config.protocol ≡ p) (at : ℕ) (rec : Rec)
    (next : IsNextRecord n rec) (within : at < slots_of (shape_of n.config)) (was : note_at n.notes at ≡ Blank)
    (image : List Contents) (o : TransactionState)
    (named : IsNamed n.config.page_bytes n.config.logical o.entry o.naming)
    (under : IsUnderWay image n o.entry o.naming)
    (its : next.names ≡ o.naming.names) (there : o.naming.noted_count ≡ o.entry.done)
    (name : name_of rec ≡ name_at o.naming o.entry.done) →
    text_at (written_in n.config.protocol image) (name_of rec)
    ≡ Some (text_in n.config.page_bytes (write_at o.entry o.entry.done)) →
    (o.entry.done + 1 ≢ length o.entry.writes → o.entry.mark ≡ Plain) →
    IsTransaction image (programmed n at rec) (with_next o)
next_transaction p notes n is_noted rule at rec next within was image o named under its there name come plain =
    cond_both (o.naming.noted_count + 1 == length o.entry.writes)
    (with_mark (with_noted_count o (o.naming.noted_count + 1)) Whole)
    (with_noted_count o (o.naming.noted_count + 1))
    (IsTransaction image (programmed n at rec))
    (λ is.
    let last : o.entry.done + 1 ≡ length o.entry.writes =
    omega (arith, there, eqb-true (o.naming.noted_count + 1) (length o.entry.writes) is) in
    record {
      named = record {
        pages = named.pages;
        within = named.within;
        whole = named.whole;
        transaction = named.transaction;
      };
      marked = wholly_current p notes n is_noted rule at rec next within was image o.entry o.naming named under its
          there name last;
    })
    (λ is.
    let more : o.entry.done + 1 ≢ length o.entry.writes = λ last. eqb-false (o.naming.noted_count + 1)
    (length o.entry.writes) is
    (ap (λ k. k + 1) there ∙ last) in
    record {
      named = record {
        pages = named.pages;
        within = named.within;
        whole = named.whole;
        transaction = named.transaction;
      };
      marked = subst (IsAsMarked image (programmed n at rec) o.entry
          (record o.naming { noted_count = o.naming.noted_count + 1 })) (sym (plain more))
          (more_under p notes n is_noted rule at rec next within was image o.entry o.naming named under its there
          name come more);
    })

pub next_has : (n : IndexState) (rec : Rec) (next : IsNextRecord n rec) → Contains next.names rec.next
next_has n rec next = (next_named n rec next).1
