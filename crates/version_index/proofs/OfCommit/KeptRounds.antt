-- The records of a whole cycle are current, or answer, one after the other.
use Rattle.version_index.proofs.Common.{◌≡◌, ◌≢◌, ℕ, ◌+◌, ◌<◌, ◌≤◌, eqb, List, length, take, get_or, Option, Some, None, refl, sym, ap, ◌∙◌, subst, inl, inr, arith, eq-eqb, eqb-true, option_map, option_map_or, cases_Bool, cases_lt, cond-true, cond-false, get_or_past, take_all, none-some, same_Some, cases_Option, Link, Rec, name_of, TablesState, record_at, number_at, LinksExist, newest_at, newest_with_name, OnlyDerives, IsTaken, IsRoundIn, name_at, Derived, AreDerived, named, version_at, numbered_of}
use Rattle.std.proofs.Common.{option_and_then}
use Rattle.judged_records.specs.DerivedChanges.{with_current, all_current}
use Rattle.judged_records.proofs.OfNotes.CurrentNames.{IsRested, rested_on}
use Rattle.judged_records.proofs.OfNotes.Derived.{name_at_is, name_at_some}
use Rattle.judged_records.proofs.OfNotes.Numbered.{named_some, made_current}
use Rattle.judged_records.proofs.OfCommit.RoundSteps.{current_more}
use Rattle.version_index.specs.Committing.{with_version, IsTop, Rests, CommitsRound}

-- one change after another
pub derives_then : (k t u : TablesState) → OnlyDerives k t → OnlyDerives t u → OnlyDerives k u
derives_then k t u a b = record {
  rest = b.rest ∙ ap (λ (v : TablesState). record v { current = u.current; answerers = u.answerers; waits = u.waits })
      a.rest;
  unused = λ y none rests. (
      let first = a.unused y none rests in
      let still : record_at t.records y ≡ None = ap (λ (v : TablesState). record_at v.records y) a.rest ∙ none in
      let second = b.unused y still (first.1 ∙ rests) in
      (second.0 ∙ first.0, second.1 ∙ first.1));
}

pub derives_none : (k : TablesState) → OnlyDerives k k
derives_none k = record { rest = refl; unused = λ y none rests. (refl, refl) }

-- what is named is a record of the tables
pub record IsNamed (k : TablesState) (name : Link) (r : Rec) : Type 0 where
  pub number : ℕ
  pub newest : newest_at k name.page ≡ Some number
  pub is : record_at k.records number ≡ Some r
  pub version : r.version ≡ name.version

versioned : (version : ℕ) (s r : Rec) → with_version version s ≡ Some r → (s ≡ r) × (s.version ≡ version)
versioned version s r e = elim (cases_Bool (eqb s.version version)) [
  | inl same ↦ (
    same_Some s r (sym (cond-true (eqb s.version version) (Some s) None same) ∙ e),
    eqb-true s.version version same,
  )
  | inr other ↦ absurd (none-some r (sym (cond-false (eqb s.version version) (Some s) None other) ∙ e))
]

pub named_rec : (k : TablesState) (name : Link) (r : Rec) → newest_with_name k name ≡ Some r → IsNamed k name r
named_rec k name r e =
    let second : Option Rec → Option Rec = option_and_then (with_version name.version) in
    elim (cases_Option (newest_at k name.page)) [
      | inl none ↦ absurd (none-some r (sym (ap (option_and_then (λ x. second (record_at k.records x))) none) ∙ e))
      | inr x ↦ (
          let e' = sym (ap (option_and_then (λ y. second (record_at k.records y))) x.1) ∙ e in
          elim (cases_Option (record_at k.records x.0)) [
            | inl none ↦ absurd (none-some r (sym (ap second none) ∙ e'))
            | inr s ↦ (
                let is = versioned name.version s.0 r (sym (ap second s.1) ∙ e') in
                record {
                  number = x.0;
                  newest = x.1;
                  is = s.1 ∙ ap Some is.0;
                  version = ap (λ (u : Rec). u.version) (sym is.0) ∙ is.1;
                })
          ])
    ]

-- and a top record is the one that is named
pub top_named : (k : TablesState) (name next : Link) (t : IsTop k name next) → newest_with_name k name ≡ Some t.rec
top_named k name next t =
    let second : Option Rec → Option Rec = option_and_then (with_version name.version) in
    let version : t.rec.version ≡ name.version = ap (λ u. u.version) t.its_name in
    ap (option_and_then (λ x. second (record_at k.records x))) t.newest ∙ ap second t.is
    ∙ cond-true (eqb t.rec.version name.version) (Some t.rec) None (eq-eqb t.rec.version name.version version)

-- the newest record of a name stays where only what is derived changes
pub named_still : (k t : TablesState) (name : Link) → OnlyDerives k t →
    newest_with_name t name ≡ newest_with_name k name
named_still k t name h =
    ap (λ (v : TablesState). newest_with_name v name) h.rest

-- the current version that is kept is the derived one
derived_version : (t : TablesState) (pages : ℕ) (j : Derived) (page : ℕ) → AreDerived (numbered_of t) pages j →
    page < pages →
    version_at t (number_at t.current page) ≡ j.current page
derived_version t pages j page judged below =
    let number = number_at t.current page in
    let version : ℕ → ℕ = λ x. option_map_or (λ r. r.version) (record_at t.records x) 0 in
    let is = judged.current page below in
    elim (cases_Option number) [
      | inl none ↦ (
          let zero' : j.current page ≡ 0 = elim (cases_lt 0 (j.current page)) [
            | inl some ↦ absurd (none-some (Some (record { page = page; version = j.current page }))
                (ap (named t.records) (sym none) ∙ is ∙ ap (option_map Some) (name_at_some page (j.current page) some)))
            | inr low ↦ omega arith
          ] in
          ap (λ o. option_map_or version o 0) none ∙ sym zero')
      | inr x ↦ (
          let some = named_some t.records (name_at page (j.current page)) x.0 (ap (named t.records) (sym x.1) ∙ is) in
          ap (λ o. option_map_or version o 0) x.1 ∙ ap (λ o. option_map_or (λ (r : Rec). r.version) o 0) some.1
          ∙ ap (λ u. u.version) (name_at_is page (j.current page) (name_of some.0) some.2).1)
    ]

at_rest : (j : Derived) → Rests j → IsRested j
at_rest j h r low = let both = h r low in record { answerer = both.0; waits = both.1 }

rests : (j : Derived) → IsRested j → Rests j
rests j h r low = let both = h r low in (both.answerer, both.waits)

-- so far a round is taken: at which name it is, and what is derived
pub record IsTakenSo (k t : TablesState) (start link : Link) (n its_pages : ℕ) (j : Derived)
    (round : List Link) : Type 0 where
  pub within : n < length round
  pub at : get_or round n start ≡ link
  pub judged : AreDerived (numbered_of t) its_pages (all_current (take n round) j)
  pub rested : Rests (all_current (take n round) j)

-- the tables while a round is taken
pub record IsTakingRound (k t : TablesState) (start link : Link) (n : ℕ) : Type 0 where
  pub judges : OnlyDerives k t
  pub page : link.page < length k.pages
  pub rounds :
      (its_pages : ℕ) (j : Derived) (round : List Link) → IsRoundIn k start round →
      its_pages ≡ length k.pages → Rests j →
      AreDerived (numbered_of k) its_pages j → IsTakenSo k t start link n its_pages j round

pub start_taking : (k : TablesState) (start : Link) → start.page < length k.pages → IsTakingRound k k start start 0
start_taking k start page = record {
  judges = derives_none k;
  page = page;
  rounds = λ its_pages j round r pages rest judged. record {
    within = r.some;
    at = r.first;
    judged = judged;
    rested = rest;
  };
}

module _ (k t u : TablesState) (start link : Link) (n : ℕ) (h : IsTakingRound k t start link n)
    (judges : OnlyDerives t u)
    (taken : IsTaken t u link.page) where
  -- what is derived once its record is current
  one_current : (its_pages : ℕ) (j : Derived) (round : List Link) → IsRoundIn k start round →
      its_pages ≡ length k.pages → Rests j →
      AreDerived (numbered_of k) its_pages j →
      AreDerived (numbered_of u) its_pages (all_current (take (n + 1) round) j)
      × Rests (all_current (take (n + 1) round) j)
  one_current its_pages j round r pages rest judged =
      let so = h.rounds its_pages j round r pages rest judged in
      let top = r.tops n so.within in
      let now = all_current (take n round) j in
      let name = top.its_name ∙ so.at in
      let own_page : top.rec.page ≡ link.page = ap (λ l. l.page) name in
      let same = ap (λ (v : TablesState). v.records) h.judges.rest in
      let is : record_at t.records top.number ≡ Some top.rec = ap (λ l. record_at l top.number) same ∙ top.is in
      let newest : newest_at t link.page ≡ Some top.number =
      ap (λ (v : TablesState). newest_at v link.page) h.judges.rest
      ∙ ap (newest_at k) (ap (λ (l : Link). l.page) (sym so.at)) ∙ top.newest in
      let low = h.page in
      let version : version_at t (number_at t.current link.page) ≡ now.current link.page =
      derived_version t its_pages now link.page so.judged (omega arith) in
      let rested = at_rest now so.rested in
      let more = current_more round j n start so.within in
      let its : with_current (name_of top.rec) now ≡ all_current (take (n + 1) round) j =
      ap (λ l. with_current l now) top.its_name ∙ sym more in
      let made = made_current (numbered_of t) (numbered_of u) its_pages now top.number top.rec so.judged rested
      top.positive (record {
        records = ap (λ (v : TablesState). v.records) judges.rest;
        own = is;
        current = ap (number_at u.current) own_page ∙ taken.current ∙ newest;
        elsewhere = λ page off. taken.elsewhere page (λ e. off (e ∙ sym own_page));
        let_go = λ y s is_y of_page above. taken.let_go y s is_y (of_page ∙ own_page)
            (subst (λ v. v < s.version) (sym version) (subst (λ p. now.current p < s.version) own_page above));
        others = λ y s is_y off. taken.others y s is_y (elim off [
          | inl other ↦ inl (λ e. other (e ∙ sym own_page))
          | inr under ↦ inr (subst (λ v. s.version ≤ v) (sym version)
              (subst (λ p. s.version ≤ now.current p) own_page under))
        ]);
      }) in (
        subst (AreDerived (numbered_of u) its_pages) its made,
        subst Rests its (rests (with_current (name_of top.rec) now)
            (rested_on (name_of top.rec) now rested)),
      )

  -- the record of the name that it is at
  its_top : (its_pages : ℕ) (j : Derived) (round : List Link) (r : IsRoundIn k start round) →
      its_pages ≡ length k.pages → Rests j →
      AreDerived (numbered_of k) its_pages j → (rec : Rec) × (newest_with_name u link ≡ Some rec)
      × (rec.next ≡ get_or round (n + 1) start)
  its_top its_pages j round r pages rest judged =
      let so = h.rounds its_pages j round r pages rest judged in
      let top = r.tops n so.within in (
        top.rec,
        named_still k u link (derives_then k t u h.judges judges) ∙ ap (newest_with_name k) (sym so.at) ∙
            top_named k (get_or round n start) (get_or round (n + 1) start) top,
        top.link,
      )

  pub taking_ends : (logical : ℕ) (rec : Rec) → newest_with_name u link ≡ Some rec → rec.next.page ≡ start.page →
      CommitsRound k u start logical
  taking_ends logical rec is ends its_pages j round r short pages rest judged =
      let top = its_top its_pages j round r pages rest judged in
      let so = h.rounds its_pages j round r pages rest judged in
      let one : top.0 ≡ rec = same_Some top.0 rec (sym top.1 ∙ is) in
      let page : (get_or round (n + 1) start).page ≡ start.page =
      ap (λ (l : Link). l.page) (sym top.2) ∙ ap (λ (s : Rec). s.next.page) one ∙ ends in
      let whole : length round ≤ n + 1 = elim (cases_lt (n + 1) (length round)) [
        | inl more ↦ absurd (r.before (n + 1) (omega arith) more page)
        | inr done ↦ done
      ] in
      subst (λ l. AreDerived (numbered_of u) its_pages (all_current l j)) (take_all (n + 1) round whole)
      (one_current its_pages j round r pages rest judged).0

  pub taking_fails : (logical : ℕ) → newest_with_name u link ≡ None → CommitsRound k u start logical
  taking_fails logical none its_pages j round r short pages rest judged =
      let top = its_top its_pages j round r pages rest judged in
      absurd (none-some top.0 (sym none ∙ top.1))

  pub taking_more : LinksExist k → (rec : Rec) → newest_with_name u link ≡ Some rec → rec.next.page ≢ start.page →
      IsTakingRound k u start rec.next (n + 1)
  taking_more links rec is goes =
      let all = derives_then k t u h.judges judges in
      let x = named_rec k link rec (sym (named_still k u link all) ∙ is) in
      record {
        judges = all;
        page = links x.number rec x.is;
        rounds = λ its_pages j round r pages rest judged. (
            let top = its_top its_pages j round r pages rest judged in
            let one : top.0 ≡ rec = same_Some top.0 rec (sym top.1 ∙ is) in
            let next : get_or round (n + 1) start ≡ rec.next = sym top.2 ∙ ap (λ (s : Rec). s.next) one in
            let made = one_current its_pages j round r pages rest judged in
            record {
              within = elim (cases_lt (n + 1) (length round)) [
                | inl more ↦ more
                | inr done ↦ absurd (goes (ap (λ (l : Link). l.page) (sym next ∙ get_or_past round (n + 1) start done)))
              ];
              at = next;
              judged = made.0;
              rested = made.1;
            });
      }

-- a round of no more names than turns has an end
pub taking_whole : (k t : TablesState) (start link : Link) (n logical : ℕ) → IsTakingRound k t start link n →
    logical ≤ n → CommitsRound k t start logical
taking_whole k t start link n logical h past its_pages j round r short pages rest judged =
    let so = h.rounds its_pages j round r pages rest judged in
    let within = so.within in
    absurd (omega arith)
