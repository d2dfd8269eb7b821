-- Where no slot is garbage each record is current, or held, or the newest of a page of an open transaction.
use Rattle.tx_engine.proofs.Common.{◌≡◌, ◌⊎◌, ℕ, ◌*◌, ◌/◌, ◌<◌, ◌≤◌, eqb, Bool, true, false, List, length, get_or, All, Contains, Ok, Result, refl, sym, ap, ◌∙◌, subst, inl, inr, arith, eqb-true, eq-eqb, Any, cases_eq, cond_both, cond-true, length-map, get_or_default, get_or-map, All-contains, Contains-get_or, no_write, shape_of, blocks_of, Protocol, Link, FlashState, Contents, Found, version_of, mention_at, name_of, cur, InProgress, Blank, records_in, found_in, note_at, IndexState, current_of, pinned_names, BlocksState, Unsure, Matches, Entry, Broken, Nothing, StoreParts, Mark, Plain, Doubt, Whole, Stands, Naming, IsAsMarked, no_name, OpenTransactionsState, TransactionState, no_transaction, entries_of, StoreState, device_in, ImageIsSound}
use Rattle.std.proofs.Math.Nat.{mul_comm}
use Rattle.record_list.specs.Records.{newest}
use Rattle.record_list.specs.Current.{IsCurrent}
use Rattle.record_list.proofs.OfFacts.Names.{greatest_bound, greatest_least}
use Rattle.record_list.proofs.OfChanges.Progress.{mention_parts}
use Rattle.record_list.proofs.OfWalks.Rounds.{cases_in}
use Rattle.collector.specs.declared.unsure.Unsure.TheVariants as unsure
use Rattle.collector.specs.Collecting.{noted_cleaned}
use Rattle.collector.specs.Matches.{AllOfBlock}
use Rattle.collector.specs.Tidy.{IsTidy}
use Rattle.collector.specs.Victim.{HasNoGarbage}
use Rattle.collector.proofs.OfNotes.NotesLeft.{note_at-in}
use Rattle.array_machine.specs.declared.answers.Collected.{Collected}
use Rattle.collector.specs.Calls.{CollectsIfAny}
use Rattle.tx_engine.specs.Collections.{CollectsNothing, HasNothingToCollect, answer_of}
use Rattle.tx_engine.proofs.OfDevice.Arrays.{page_of_name, as_many_names}
use Rattle.tx_engine.proofs.OfDevice.Kept.{BlocksInvariant, from_stands}
use Rattle.tx_engine.proofs.OfSettle.NextNoted.{apart_pages}

-- what the law of tidy images says
abbrev pub TidyLaw : Type 0
TidyLaw = (s : FlashState) (n : IndexState) (t : BlocksState) →
    Matches s n t unsure.Nothing → AllOfBlock n t.spare (λ slot. note_at n.notes slot ≡ Blank) → HasNoGarbage n t →
    IsTidy n.config.protocol n.config.logical s.image (pinned_names n.pins)

-- once the spare is blank each slot of it is noted so
pub cleaned_blank : (s : FlashState) (n : IndexState) (t : BlocksState) (u : Unsure) → Matches s n t u →
    AllOfBlock (noted_cleaned n t.spare) t.spare (λ slot. note_at (noted_cleaned n t.spare).notes slot ≡ Blank)
cleaned_blank s n t u m slot within in_spare =
    let p = n.config.pages_per_block in
    let some : 0 < p = (let b = m.noted.bounds.shape.pages_least in omega arith) in
    let below : t.spare < blocks_of (shape_of n.config) =
    omega (arith, m.table.spare_within, ap blocks_of m.blocks, ap blocks_of m.shape) in
    let parts : p * (slot / p) ≡ t.spare * p = ap (λ q. p * q) in_spare ∙ mul_comm p t.spare in
    note_at-in (shape_of n.config) some n.notes m.noted.slots t.spare below Blank slot (omega arith) (omega arith)

-- a record of a transaction in progress is the newest of its page
pub newest_own : (p : Protocol) (l : List Found) (logical : ℕ) (names : List Link) (f : Found) →
    InProgress p l logical names → Contains l f →
    Contains names (name_of f.rec) →
    f.rec.version ≡ newest l f.rec.page
newest_own p l logical names f going i own =
    let least = greatest_bound (version_of f.rec.page) l f i in
    let its : version_of f.rec.page f.rec ≡ f.rec.version = cond-true (eqb f.rec.page f.rec.page) f.rec.version 0
    (eq-eqb f.rec.page f.rec.page refl) in
    let most : newest l f.rec.page ≤ f.rec.version = greatest_least (version_of f.rec.page) l f.rec.version (λ g j.
    cond_both (eqb g.rec.page f.rec.page) g.rec.version 0 (λ v. v ≤ f.rec.version)
    (λ is.
    let page = eqb-true g.rec.page f.rec.page is in
    elim (cases_in names (name_of g.rec)) [
      | inl also ↦ (
          elim (cases_eq also.0 own.0) [
            | inl same ↦ (
                let name : name_of g.rec ≡ name_of f.rec =
                sym also.2 ∙ get_or_default names also.0 (name_of g.rec) (name_of f.rec) also.1
                ∙ ap (λ k. get_or names k (name_of f.rec)) same ∙ own.2 in
                let version : g.rec.version ≡ f.rec.version = ap (λ (a : Link). a.version) name in omega arith)
            | inr other ↦ absurd (apart_pages names also.0 own.0 going.begun.transaction.distinct also.1 own.1 other
                (ap (λ (a : Link). a.page) (get_or_default names also.0 no_name (name_of g.rec) also.1 ∙ also.2) ∙ page
                ∙ ap (λ (a : Link). a.page) (sym (get_or_default names own.0 no_name (name_of f.rec) own.1 ∙ own.2))))
          ])
      | inr foreign ↦ (
          let below = All-contains (λ (g : Found). (Contains names (name_of g.rec) → ⊥) →
          All (λ (a : Link). mention_at a.page g.rec < a.version) names) l g
          going.begun.others j foreign in
          let less = All-contains (λ (a : Link). mention_at a.page g.rec < a.version) names (name_of f.rec) below own in
          let part : g.rec.version < f.rec.version = (mention_parts g.rec (name_of f.rec) less).0 page in
          omega arith)
    ])
    (λ is. omega arith)) in
    omega (arith, least, its, most)

whole_current : (n : IndexState) (x : Naming) (f : Found) → Contains x.names (name_of f.rec) →
    All (λ (a : Link). current_of n a.page ≡ a.version) x.names →
    f.rec.version ≡ cur n.config.protocol (found_in n.notes) n.config.logical f.rec.page
unfolding current_of
whole_current n x f own all = sym (All-contains (λ (a : Link). current_of n a.page ≡ a.version) x.names
    (name_of f.rec) all own)

current_marked : (image : List Contents) (n : IndexState) (e : Entry) (x : Naming) (m : Mark) (f : Found) →
    IsAsMarked image n e x m →
    Contains (found_in n.notes) f → Contains x.names (name_of f.rec) →
    IsCurrent n.config.protocol (found_in n.notes) n.config.logical f.rec
    ⊎ (f.rec.version ≡ newest (found_in n.notes) f.rec.page)
current_marked image n e x Plain f w i own = inr (newest_own n.config.protocol (found_in n.notes) n.config.logical
    x.names f w.in_progress i own)
current_marked image n e x Doubt f w i own = inr (newest_own n.config.protocol (found_in n.notes) n.config.logical
    x.names f w.0.in_progress i own)
current_marked image n e x Whole f w i own = inl (whole_current n x f own w)

-- a pinned record is current, or the newest of a page of an open transaction
pinned_wanted : (s : FlashState) (n : IndexState) (t : BlocksState) (u : Unsure) (o : OpenTransactionsState) →
    BlocksInvariant s n t u o → (f : Found) → Contains (found_in n.notes) f →
    Contains (pinned_names n.pins) (name_of f.rec) →
    IsCurrent n.config.protocol (found_in n.notes) n.config.logical f.rec
    ⊎ (Any (λ e. Any (λ w. w.page ≡ f.rec.page) e.writes) (entries_of o)
    × (f.rec.version ≡ newest (found_in n.notes) f.rec.page))
pinned_wanted s n t u o k f i pin =
    let any = (k.pinned (name_of f.rec)).0 pin in
    let its = get_or o.all any.0 no_transaction in
    let own : Contains its.naming.names (name_of f.rec) =
    subst (λ (x : TransactionState). Contains x.naming.names (name_of f.rec))
    (sym (get_or_default o.all any.0 no_transaction any.1 any.2 ∙ any.3)) any.4 in
    let open_as = k.each any.0 no_transaction any.2 in
    elim (current_marked s.image n its.entry its.naming its.entry.mark f open_as.marked i own) [
      | inl current ↦ inl current
      | inr newest ↦ inr (
        (
          any.0,
          its.entry,
          subst (λ len. any.0 < len) (sym (length-map o.all (λ (x : TransactionState). x.entry))) any.2,
          get_or-map (λ (x : TransactionState). x.entry) o.all any.0 no_transaction its.entry any.2,
          (let long = as_many_names its.naming.names its.entry.writes open_as.named.pages in
              let inside = own.1 in
              let within : own.0 < length its.entry.writes = omega arith in
              let w = get_or its.entry.writes own.0 no_write in (
                own.0,
                w,
                within,
                get_or_default its.entry.writes own.0 w no_write within,
                sym (page_of_name its.naming.names its.entry.writes own.0 open_as.named.pages own.1)
                    ∙ ap (λ (a : Link). a.page) (get_or_default its.naming.names own.0 no_name (name_of f.rec) own.1
                    ∙ own.2),
              )),
        ),
        newest,
      )
    ]

pub nothing_left : {F : Type 0} (state : F → FlashState) (S S' : StoreState F) (O : OpenTransactionsState) → TidyLaw →
    ImageIsSound S'.noted.config.protocol →
    (t : BlocksState) (u : Unsure) (s : FlashState) → Matches s S.noted t u → t ≡ S.table →
    Stands state (device_in state S' O) → S'.unsure ≡ unsure.Nothing →
    CollectsNothing (state S.flash) (state S'.flash) S.noted S'.noted S.table S'.table →
    HasNothingToCollect S'.noted.config.protocol S'.noted.config.logical (state S'.flash).image (entries_of O)
nothing_left state S S' O tidy settles t u s m table h sure nothing =
    let k = from_stands state S' O h in
    let n' = S'.noted in
    let m' : Matches (state S'.flash) n' S'.table unsure.Nothing = subst (λ v. Matches (state S'.flash) n' S'.table v)
    sure k.matches in
    let blank : AllOfBlock n' S'.table.spare (λ slot. note_at n'.notes slot ≡ Blank) =
    subst (λ n. AllOfBlock n S'.table.spare (λ slot. note_at n.notes slot ≡ Blank)) (sym nothing.noted)
    (subst (λ v. AllOfBlock (noted_cleaned S.noted S.table.spare) v
    (λ slot. note_at (noted_cleaned S.noted S.table.spare).notes slot ≡ Blank))
    (ap (λ (b : BlocksState). b.spare) (sym nothing.table))
    (subst (λ (b : BlocksState). AllOfBlock (noted_cleaned S.noted b.spare) b.spare
    (λ slot. note_at (noted_cleaned S.noted b.spare).notes slot ≡ Blank)) table
    (cleaned_blank s S.noted t u m))) in
    let none : HasNoGarbage n' S'.table =
    subst (λ n. HasNoGarbage n S'.table) (sym nothing.noted)
    (subst (λ b. HasNoGarbage (noted_cleaned S.noted S.table.spare) b) (sym nothing.table) nothing.none) in
    let is = tidy (state S'.flash) n' S'.table m' blank none in
    let records : records_in n'.config.protocol (state S'.flash).image ≡ found_in n'.notes =
    settles.records (state S'.flash) n' S'.table unsure.Nothing m' tt
    refl in
    record {
      whole = is.whole;
      once = is.once;
      wanted = λ j d inside. elim (is.wanted j d inside) [
        | inl current ↦ inl current
        | inr (inl held) ↦ inr (inl held)
        | inr (inr pin) ↦ (
            let f = get_or (records_in n'.config.protocol (state S'.flash).image) j d in
            let there : Contains (found_in n'.notes) f = subst (λ l. Contains l f) records
            (Contains-get_or (records_in n'.config.protocol (state S'.flash).image) j d inside) in
            elim (pinned_wanted (state S'.flash) n' S'.table S'.unsure O k f there pin) [
              | inl current ↦ inl (subst (λ l. IsCurrent n'.config.protocol l n'.config.logical f.rec)
                  (sym records) current)
              | inr own ↦ inr (inr (own.0, subst (λ l. f.rec.version ≡ newest l f.rec.page) (sym records) own.1))
            ])
      ];
    }

-- what a collection ensures where there was nothing to collect
pub nothing_of : (a b : StoreParts) (any : Bool) (answer : Collected) (r : Result Collected Broken) →
    answer ≡ answer_of any → r ≡ Ok answer → r ≡ Ok Nothing →
    CollectsIfAny a b any →
    CollectsNothing a.flash b.flash a.noted b.noted a.table b.table
nothing_of a b true answer r its is nothing h = absurd (let e = its in let k = is in let l = nothing in cc)
nothing_of a b false answer r its is nothing h = h
