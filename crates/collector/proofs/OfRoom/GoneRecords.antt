-- A record that must go before the next name of a transaction in progress is needed by nobody.
use Rattle.collector.proofs.Common.{◌≡◌, ◌≢◌, ◌⊎◌, ℕ, ◌/◌, ◌<◌, Bool, true, false, ◌&&◌, eqb, eqb-true, List, [], ◌∷◌, All, Contains, find, Option, Some, None, refl, sym, ap, ◌∙◌, subst, inl, inr, arith, option_map, cases_Bool, cond-true, cond-false, and_parts, both_ways, false≢true, false_from_ne_true, none-some, same_Some, All-contains, Contains-cases, Contains-nil, Protocol, Scc, Bpcc, Link, Rec, Found, name_of, cur, IsCurrent, is_held, must_go, first_slot, found_in, IndexState, current_of, needed_of, block_to_go, pinned_names, IsNextName, IsPinBeside}
use Rattle.std.proofs.Common.{ltb, ltb-true, zip}
use Rattle.std.proofs.lemmas.Bool.{or_cases}
use Rattle.record_list.specs.Records.{mentions_below}
use Rattle.record_list.specs.Current.{is_loose}
use Rattle.record_list.specs.Transaction.{next_names, IsAsked, IsBegun, IsAskedAt}
use Rattle.record_list.proofs.OfChanges.Progress.{underway_of, one_name}
use Rattle.record_list.proofs.OfWalks.Rounds.{follows_of, follows_in}
use Rattle.judged_records.proofs.OfNotes.FoundIn.{found_in_ascending}
use Rattle.judged_records.proofs.OfNotes.HomeFacts.{first_stands}
use Rattle.judged_records.proofs.OfNotes.Places.{one_in_slot}
use Rattle.collector.specs.Going.{IsOfOther}
use Rattle.collector.proofs.OfNotes.NeedFacts.{home_needed}

-- a mention of a page below a version, of either kind
abbrev pub Mentions : ℕ → ℕ → Rec → Type 0
Mentions page below r = ((r.page ≡ page) × (r.version < below)) ⊎ ((r.next.page ≡ page) × (r.next.version < below))

mentions_so : (page below : ℕ) (r : Rec) → mentions_below page below r ≡ true → Mentions page below r
mentions_so page below r h = elim (or_cases (eqb r.page page && ltb r.version below)
    (eqb r.next.page page && ltb r.next.version below) h) [
      | inl own ↦ (let parts = and_parts (eqb r.page page) (ltb r.version below) own in
          inl (eqb-true r.page page parts.0, ltb-true r.version below parts.1))
      | inr link ↦ (let parts = and_parts (eqb r.next.page page) (ltb r.next.version below) link in
          inr (eqb-true r.next.page page parts.0, ltb-true r.next.version below parts.1))
    ]

-- what it is to go
pub record Goes (l : List Found) (logical page below : ℕ) (r : Rec) : Type 0 where
  pub loose : cur Scc l logical r.page < r.version
  pub mentions : Mentions page below r

goes_so : (l : List Found) (logical page below : ℕ) (r : Rec) → must_go Scc l logical page below r ≡ true →
    Goes l logical page below r
goes_so l logical page below r h =
    let parts = and_parts (is_loose Scc l logical r) (mentions_below page below r) h in
    record {
      loose = ltb-true (cur Scc l logical r.page) r.version parts.0;
      mentions = mentions_so page below r parts.1;
    }

module _ (p : Protocol) (l : List Found) (logical : ℕ) (name : Link) where
  -- a record of a transaction that names the page at this version alone does not mention it below
  off_transaction : (others : List Link) → IsBegun p l logical others →
      ((a : Link) → Contains others a → a.page ≡ name.page → a.version ≡ name.version) →
      (f : Found) → Contains l f → Contains others (name_of f.rec) → Mentions name.page name.version f.rec → ⊥
  off_transaction others begun only f i own (inl at) = (let same = only (name_of f.rec) own at.0 in
      let low = at.1 in omega arith)
  off_transaction others begun only f i own (inr at) =
      let after = follows_of others (name_of f.rec) own in
      let asks = All-contains (λ g. IsAsked p l logical others g.rec) l f begun.asked i in
      let pair = All-contains (IsAskedAt p l logical others f.rec)
      (zip others (next_names others)) (name_of f.rec, after.0) asks after.1 in
      let link = (pair refl).0 in
      let same = only f.rec.next (subst (Contains others) (sym link)
      (follows_in others (name_of f.rec) after.0 after.1).1) at.0 in
      let low = at.1 in omega arith

module _ (n : IndexState) (names : List Link) (name : Link) (next : IsNextName n names name) where
  abbrev list : List Found
  list = found_in n.notes

  abbrev logical : ℕ
  logical = n.config.logical

  own_only : (a : Link) → Contains names a → a.page ≡ name.page → a.version ≡ name.version
  own_only a i same =
      ap (λ (l : Link). l.version)
      (one_name list logical names (underway_of n.config.protocol list logical names next.in_progress.begun) a name i
      next.named same)

  other_pages : (pin : Link) (other : IsOfOther n names pin) → (a : Link) → Contains other.others a →
      a.page ≡ name.page → a.version ≡ name.version
  other_pages pin other a i same =
      absurd (All-contains (λ b. name.page ≢ b.page) other.others a
      (All-contains (λ c. All (λ b. c.page ≢ b.page) other.others) names name other.apart next.named) i (sym same))

  -- a pinned record that is not current does not mention the page below
  pin_stays : (f : Found) → Contains list f → IsPinBeside n names (name_of f.rec) →
      Mentions name.page name.version f.rec →
      cur n.config.protocol list logical f.rec.page ≢ f.rec.version → ⊥
  unfolding current_of
  pin_stays f i (inl current) mentions other = other current
  pin_stays f i (inr (inl own)) mentions other =
      off_transaction n.config.protocol list logical name names next.in_progress.begun own_only f i own mentions
  pin_stays f i (inr (inr o)) mentions other =
      off_transaction n.config.protocol list logical name o.others o.in_progress.begun (other_pages (name_of f.rec) o) f
      i o.named mentions

  abbrev IsWanted : Found → Type 0
  IsWanted f =
      IsCurrent n.config.protocol list logical f.rec
      ⊎ ((is_held n.config.protocol list logical f.rec ≡ true) ⊎ Contains (pinned_names n.pins) (name_of f.rec))

  by_rule : (q : Protocol) → n.config.protocol ≡ q → (f : Found) → Contains list f →
      must_go q list logical name.page name.version f.rec ≡ true → IsWanted f → ⊥
  by_rule Bpcc rule f i go wanted = false≢true go
  by_rule Scc rule f i go wanted =
      elim wanted [
        | inl current ↦ not_current (sym current)
        | inr (inl held) ↦ false≢true (subst (λ q. is_held q list logical f.rec ≡ true) rule held)
        | inr (inr pin) ↦ pin_stays f i (All-contains (IsPinBeside n names) (pinned_names n.pins) (name_of f.rec)
            next.beside pin) goes.mentions not_current
      ]
    where
      goes : Goes list logical name.page name.version f.rec
      goes = goes_so list logical name.page name.version f.rec go

      not_current : cur n.config.protocol list logical f.rec.page ≢ f.rec.version
      not_current e = (let loose = goes.loose in let same = subst (λ q. cur q list logical f.rec.page ≡ f.rec.version)
          rule e in absurd (omega arith))

  -- it is not current, nothing is held, and it is not pinned
  pub needless : (f : Found) → Contains list f → must_go n.config.protocol list logical name.page name.version f.rec
      ≡ true → IsWanted f → ⊥
  needless f i go wanted = by_rule n.config.protocol refl f i go wanted

  -- so its slot is not needed
  pub slot_needless : (f : Found) → Contains list f → must_go n.config.protocol list logical name.page name.version
      f.rec ≡ true → needed_of n f.slot.0 ≡ false
  slot_needless f i go = false_from_ne_true (needed_of n f.slot.0) (λ needed.
      let x = home_needed n f.slot.0 needed in
      let same = one_in_slot list x.found f (found_in_ascending n.notes) x.is_in i x.slot in
      needless f i go (subst IsWanted same x.wanted))

abbrev goes : IndexState → ℕ → ℕ → Found → Bool
goes n page below f = must_go n.config.protocol (found_in n.notes) n.config.logical page below f.rec

-- the record that must go which `block_to_go` finds
pub record GoesFrom (n : IndexState) (page below block : ℕ) : Type 0 where
  pub found : Found
  pub is_in : Contains (found_in n.notes) found
  pub slot : found.slot.0 / n.config.pages_per_block ≡ block
  pub goes : must_go n.config.protocol (found_in n.notes) n.config.logical page below found.rec ≡ true

pub going_some : (n : IndexState) (page below block : ℕ) → block_to_go n page below ≡ Some block →
    GoesFrom n page below block
unfolding block_to_go
going_some n page below block e = by (first_slot (goes n page below) (found_in n.notes)) refl e
  where
    by : (o : Option ℕ) → first_slot (goes n page below) (found_in n.notes) ≡ o →
        option_map (λ slot. slot / n.config.pages_per_block) o ≡ Some block →
        GoesFrom n page below block
    by None is h = absurd (none-some block h)
    by (Some at) is h =
        let stands = first_stands (goes n page below) (found_in n.notes) at is in
        record {
          found = stands.found;
          is_in = stands.is_in;
          slot = ap (λ slot. slot / n.config.pages_per_block) stands.its_slot
              ∙ same_Some (at / n.config.pages_per_block) block h;
          goes = stands.passes;
        }

first_none : (test : Found → Bool) (l : List Found) → first_slot test l ≡ None → (f : Found) → Contains l f →
    test f ≡ false
first_none test [] e f i = absurd (Contains-nil f i)
first_none test (g ∷ gs) e f i = elim (cases_Bool (test g)) [
  | inl pass ↦ absurd (none-some g.slot.0 (sym e ∙ ap (option_map (λ h. h.slot.0))
      (cond-true (test g) (Some g) (find test gs) pass)))
  | inr fail ↦ elim (Contains-cases g gs f i) [
    | inl same ↦ ap test (sym same) ∙ fail
    | inr later ↦ first_none test gs
        (sym (ap (option_map (λ h. h.slot.0)) (cond-false (test g) (Some g) (find test gs) fail)) ∙ e) f later
  ]
]

-- where there is no such block nothing must go
pub going_none : (n : IndexState) (page below : ℕ) → block_to_go n page below ≡ None →
    (f : Found) → Contains (found_in n.notes) f → must_go n.config.protocol (found_in n.notes) n.config.logical page
    below f.rec ≡ false
unfolding block_to_go
going_none n page below e f i = by (first_slot (goes n page below) (found_in n.notes)) refl e
  where
    by : (o : Option ℕ) → first_slot (goes n page below) (found_in n.notes) ≡ o →
        option_map (λ slot. slot / n.config.pages_per_block) o ≡ None →
        must_go n.config.protocol (found_in n.notes) n.config.logical page below f.rec ≡ false
    by None is h = first_none (goes n page below) (found_in n.notes) is f i
    by (Some at) is h = absurd (none-some (at / n.config.pages_per_block) (sym h))

-- and the other way round
pub none_going : (n : IndexState) (page below : ℕ) →
    ((f : Found) → Contains (found_in n.notes) f → must_go n.config.protocol (found_in n.notes) n.config.logical page
    below f.rec ≡ false) →
    block_to_go n page below ≡ None
none_going n page below none = by (block_to_go n page below) refl
  where
    by : (o : Option ℕ) → block_to_go n page below ≡ o → o ≡ None
    by None is = refl
    by (Some block) is =
        let g = going_some n page below block is in
        absurd (both_ways (must_go n.config.protocol (found_in n.notes) n.config.logical page below g.found.rec)
        (none g.found g.is_in) g.goes)
