-- Transactions that go on at once go on as one after another: first all records were noted, and then each was counted.
use Rattle.tx_engine.proofs.Common.{◌≡◌, ◌≢◌, ℕ, ◌+◌, true, false, List, [], ◌∷◌, ◌++◌, length, map, All, AllPairs, Some, refl, sym, ap, ap₂, ◌∙◌, subst, inl, inr, eq-eqb, ne_eqb, if◌then◌else◌, cases_eq, cond-true, cond-false, append_assoc, All-head, All-tail, All-cons, All-nil, All-append, all_from, pairs_head, pairs_tail, GoInTurn, Progress, Plain, Whole, ArrayState, Entry, Pages, entry_of, has_tag, put, with_entry, without, AcknowledgeInTurn, taken_writes, takes_each, is_plain, Counts, is_at_last, GoesOn}
use Rattle.array_machine.specs.declared.answers.Progress.TheVariants as progress
use Rattle.tx_engine.specs.Exits.{plain_writes}

-- The one with a tag in a list, where none before it has the tag
abbrev pub HaveOthers : ℕ → List Entry → Type 0
HaveOthers tag es = All (λ (x : Entry). x.tag ≢ tag) es

off : (tag : ℕ) (x : Entry) (es : List Entry) → HaveOthers tag (x ∷ es) → has_tag tag x ≡ false
off tag x es h = ne_eqb x.tag tag (All-head (λ (y : Entry). y.tag ≢ tag) x es h)

on : (tag : ℕ) (e : Entry) → e.tag ≡ tag → has_tag tag e ≡ true
on tag e is = eq-eqb e.tag tag is

pub entry_there : (tag : ℕ) (before : List Entry) (e : Entry) (rest : List Entry) →
    HaveOthers tag before → e.tag ≡ tag →
    entry_of tag (before ++ e ∷ rest) ≡ Some e
entry_there tag [] e rest h is = cond-true (has_tag tag e) (Some e) (entry_of tag rest) (on tag e is)
entry_there tag (x ∷ before) e rest h is =
    cond-false (has_tag tag x) (Some x) (entry_of tag (before ++ e ∷ rest)) (off tag x before h)
    ∙ entry_there tag before e rest (All-tail (λ (y : Entry). y.tag ≢ tag) x before h) is

pub with_there : (tag : ℕ) (new : Entry) (before : List Entry) (e : Entry) (rest : List Entry) →
    HaveOthers tag before → e.tag ≡ tag →
    with_entry tag new (before ++ e ∷ rest) ≡ before ++ new ∷ rest
with_there tag new [] e rest h is = cond-true (has_tag tag e) (new ∷ rest) (e ∷ with_entry tag new rest) (on tag e is)
with_there tag new (x ∷ before) e rest h is =
    cond-false (has_tag tag x) (new ∷ before ++ e ∷ rest) (x ∷ with_entry tag new (before ++ e ∷ rest))
    (off tag x before h)
    ∙ ap (λ l. x ∷ l) (with_there tag new before e rest (All-tail (λ (y : Entry). y.tag ≢ tag) x before h) is)

pub without_there : (tag : ℕ) (before : List Entry) (e : Entry) (rest : List Entry) →
    HaveOthers tag before → e.tag ≡ tag →
    without tag (before ++ e ∷ rest) ≡ before ++ rest
without_there tag [] e rest h is = cond-true (has_tag tag e) rest (e ∷ without tag rest) (on tag e is)
without_there tag (x ∷ before) e rest h is =
    cond-false (has_tag tag x) (before ++ e ∷ rest) (x ∷ without tag (before ++ e ∷ rest)) (off tag x before h)
    ∙ ap (λ l. x ∷ l) (without_there tag before e rest (All-tail (λ (y : Entry). y.tag ≢ tag) x before h) is)

-- a plain transaction whose next record is noted: with its last one it is whole
abbrev pub marked : Entry → Entry
marked e = if is_at_last e then record e { mark = Whole } else e

others_push : (tag : ℕ) (before : List Entry) (x : Entry) → HaveOthers tag before → x.tag ≢ tag →
    HaveOthers tag (before ++ x ∷ [])
others_push tag before x h other = All-append (λ (y : Entry). y.tag ≢ tag) before (x ∷ []) h
    (All-cons (λ (y : Entry). y.tag ≢ tag) x [] other (All-nil (λ (y : Entry). y.tag ≢ tag)))

-- the transactions to come have other tags than those that went on already
abbrev pub TagsApart : List Entry → List Entry → Type 0
TagsApart before es = All (λ (e : Entry). HaveOthers e.tag before) es

apart_push : (before : List Entry) (x : Entry) (es : List Entry) → TagsApart before es →
    All (λ (e : Entry). x.tag ≢ e.tag) es →
    TagsApart (before ++ x ∷ []) es
apart_push before x [] h other = All-nil (λ (e : Entry). HaveOthers e.tag (before ++ x ∷ []))
apart_push before x (e ∷ es) h other =
    All-cons (λ (y : Entry). HaveOthers y.tag (before ++ x ∷ [])) e es
    (others_push e.tag before x (All-head (λ (y : Entry). HaveOthers y.tag before) e es h)
    (All-head (λ (y : Entry). x.tag ≢ y.tag) e es other))
    (apart_push before x es (All-tail (λ (y : Entry). HaveOthers y.tag before) e es h)
    (All-tail (λ (y : Entry). x.tag ≢ y.tag) e es other))

abbrev pub state_in : Pages → List Entry → ArrayState
state_in pages es = record { pages = pages; entries = es }

same_state : (pages pages' : Pages) (es es' : List Entry) → pages ≡ pages' → es ≡ es' →
    state_in pages es ≡ state_in pages' es'
same_state pages pages' es es' p e = ap₂ (λ ps l. state_in ps l) p e

-- What the first of them does, where its record was noted, it does by itself.
pub record GoesFirst (pages written : Pages) (before : List Entry) (e : Entry) (es rest : List Entry) (p : Progress)
    (mid : ArrayState) : Type 0 where
  pub pages_now : Pages
  pub before_now : List Entry
  pub goes : GoesOn (state_in pages (before ++ e ∷ (es ++ rest))) e.tag e p
      (state_in pages_now (before_now ++ (es ++ rest)))
  pub mid_is : mid ≡ state_in written (before_now ++ (map marked es ++ rest))
  pub taken : pages_now ≡ put pages (taken_writes e)
  pub apart : TagsApart before es → All (λ (y : Entry). e.tag ≢ y.tag) es → TagsApart before_now es

-- it writes its last page
first_last : (pages written : Pages) (before : List Entry) (e : Entry) (es rest : List Entry) (p : Progress)
    (mid : ArrayState) → e.mark ≡ Plain →
    HaveOthers e.tag before → e.done + 1 ≡ length e.writes →
    Counts (state_in written (before ++ record e { mark = Whole } ∷ (map marked es ++ rest))) e.tag
    (record e { mark = Whole }) p mid →
    GoesFirst pages written before e es rest p mid
first_last pages written before e es rest (progress.Wrote done all) mid plain h last c = absurd
    (let no : Whole ≡ Plain = c.0 in cc)
first_last pages written before e es rest progress.Done mid plain h last c =
    let at_last = eq-eqb (e.done + 1) (length e.writes) last in
    record {
      pages_now = put pages e.writes;
      before_now = before;
      goes = inr (
        plain,
        last,
        same_state (put pages e.writes) (put pages e.writes) _ _ refl
            (sym (without_there e.tag before e (es ++ rest) h refl)),
      );
      mid_is = c.1 ∙ same_state written written _ _ refl (without_there e.tag before (record e { mark = Whole })
          (map marked es ++ rest) h refl);
      taken = ap (put pages) (sym (cond-true (is_at_last e) (plain_writes e) [] at_last
          ∙ ap (λ m. if is_plain m then e.writes else []) plain));
      apart = λ apart others. apart;
    }

-- or one before it
first_more : (pages written : Pages) (before : List Entry) (e : Entry) (es rest : List Entry) (p : Progress)
    (mid : ArrayState) → e.mark ≡ Plain →
    HaveOthers e.tag before → e.done + 1 ≢ length e.writes →
    Counts (state_in written (before ++ e ∷ (map marked es ++ rest))) e.tag e p mid →
    GoesFirst pages written before e es rest p mid
first_more pages written before e es rest progress.Done mid plain h more c = absurd
    (let no : Plain ≡ Whole = sym plain ∙ c.0 in cc)
first_more pages written before e es rest (progress.Wrote done all) mid plain h more c =
    let next = record e { done = e.done + 1 } in
    record {
      pages_now = pages;
      before_now = before ++ next ∷ [];
      goes = (
        c.0,
        c.1,
        c.2,
        c.3,
        same_state pages pages _ _ refl
            (append_assoc before (next ∷ []) (es ++ rest) ∙ sym (with_there e.tag next before e (es ++ rest) h refl)),
      );
      mid_is = c.4 ∙ same_state written written _ _ refl (with_there e.tag next before e (map marked es ++ rest) h refl
          ∙ sym (append_assoc before (next ∷ []) (map marked es ++ rest)));
      taken = ap (put pages) (sym (cond-false (is_at_last e) (plain_writes e) []
          (ne_eqb (e.done + 1) (length e.writes) more)));
      apart = λ apart others. apart_push before next es apart others;
    }

goes_first : (pages written : Pages) (before : List Entry) (e : Entry) (es rest : List Entry) (p : Progress)
    (mid : ArrayState) → e.mark ≡ Plain →
    HaveOthers e.tag before → Counts (state_in written (before ++ marked e ∷ (map marked es ++ rest))) (marked e).tag
    (marked e) p mid →
    GoesFirst pages written before e es rest p mid
goes_first pages written before e es rest p mid plain h c = elim (cases_eq (e.done + 1) (length e.writes)) [
  | inl last ↦ first_last pages written before e es rest p mid plain h last
      (subst (λ (x : Entry). Counts (state_in written (before ++ x ∷ (map marked es ++ rest))) x.tag x p mid)
      (cond-true (is_at_last e) (record e { mark = Whole }) e (eq-eqb (e.done + 1) (length e.writes) last)) c)
  | inr more ↦ first_more pages written before e es rest p mid plain h more
      (subst (λ (x : Entry). Counts (state_in written (before ++ x ∷ (map marked es ++ rest))) x.tag x p mid)
      (cond-false (is_at_last e) (record e { mark = Whole }) e (ne_eqb (e.done + 1) (length e.writes) more)) c)
]

-- Transactions whose records are noted go on without the flash as they do one after another.
pub go_in_turn : (es : List Entry) (pages written : Pages) (before rest : List Entry) (ps : List Progress)
    (new : ArrayState) → All (λ e. e.mark ≡ Plain) es →
    TagsApart before es → AllPairs (λ a b. a.tag ≢ b.tag) es → written ≡ takes_each pages es →
    AcknowledgeInTurn (state_in written (before ++ (map marked es ++ rest))) (map marked es) ps new →
    GoInTurn (state_in pages (before ++ (es ++ rest))) es ps new
go_in_turn [] pages written before rest [] new plain apart pairs is h = h ∙ same_state written pages _ _ is refl
go_in_turn [] pages written before rest (p ∷ ps) new plain apart pairs is h = absurd h
go_in_turn (e ∷ es) pages written before rest [] new plain apart pairs is h = absurd h
go_in_turn (e ∷ es) pages written before rest (p ∷ ps) new plain apart pairs is h =
    let others = All-head (λ (y : Entry). HaveOthers y.tag before) e es apart in
    let g = goes_first pages written before e es rest p h.0 (All-head (λ (y : Entry). y.mark ≡ Plain) e es plain) others
    h.1 in
    let later = g.apart (All-tail (λ (y : Entry). HaveOthers y.tag before) e es apart)
    (all_from (λ (y : Entry). e.tag ≢ y.tag) es
    (λ y i. pairs_head (λ (a b : Entry). a.tag ≢ b.tag) e es y pairs i)) in (
      entry_there e.tag before e (es ++ rest) others refl,
      (
        state_in g.pages_now (g.before_now ++ (es ++ rest)),
        g.goes,
        go_in_turn es g.pages_now written g.before_now rest ps new (All-tail (λ (y : Entry). y.mark ≡ Plain) e es plain)
            later
            (pairs_tail (λ (a b : Entry). a.tag ≢ b.tag) e es pairs) (is ∙ ap (λ qs. takes_each qs es) (sym g.taken))
            (subst (λ (s : ArrayState). AcknowledgeInTurn s (map marked es) ps new) g.mid_is h.2),
      ),
    )
