-- Open transactions that write no page twice, and what the array has of each when it takes one.
use Rattle.array_runs.proofs.Common.{◌≡◌, ◌≢◌, ◌⊎◌, ℕ, Bool, true, false, cond, List, [], ◌∷◌, ◌++◌, length, All, AllPairs, Some, refl, sym, ap, ◌∙◌, subst, inl, inr, Contains, All-nil, All-cons, All-head, All-tail, All-contains, all_from, Contains-cases, Contains-nil, PageWrite, ArrayState, Entry, Pages, entry_of, has_tag, is_doubted, page_at, put, with_entry, without, doubted, settled, settled_entry, settled_mark, Mark, Plain, Doubt, Whole, Avoid, AllAvoid, EntriesAreApart, HasWhole, HasSame, IsConsistent}
use Rattle.std.proofs.lemmas.List.Elements.{All-map}
use Rattle.list_lemmas.proofs.Pairs.{in_order, pairs_head, pairs_tail}
use Rattle.array_runs.proofs.Finishes.{found_is_in}
use Rattle.array_runs.proofs.Taking.{AreWithin, ArePart, put_length, put_other, put_has, put_append, doubted_avoid, within_kept, part_same, part_less}
use Rattle.array_runs.proofs.Taking.{part_all}

pub share_back : (a b : Entry) → EntriesAreApart a b → EntriesAreApart b a
share_back a b h =
    all_from (λ w. Avoid w.page a.writes) b.writes (λ w i.
    all_from (λ v. v.page ≢ w.page) a.writes (λ v j e.
    All-contains (λ w. w.page ≢ v.page) b.writes w (All-contains (λ v. Avoid v.page b.writes) a.writes v h j) i
    (sym e)))

-- two of them are one, or have no page in common
pub apart_two : (es : List Entry) (x y : Entry) → AllPairs EntriesAreApart es → Contains es x → Contains es y →
    (x ≡ y) ⊎ EntriesAreApart x y
apart_two es x y all i j = elim (in_order EntriesAreApart es x y all i j) [
  | inl same ↦ inl same
  | inr (inl share) ↦ inr share
  | inr (inr share) ↦ inr (share_back y x share)
]

-- the array has all that a transaction writes, or what it had at each of its pages
abbrev pub WholeOrSame : Pages → Pages → Entry → Type 0
WholeOrSame old new e = HasWhole new e ⊎ HasSame old new e

pub other_same : (pages : Pages) (e : Entry) (ws : List PageWrite) → All (λ w. Avoid w.page ws) e.writes →
    HasSame pages (put pages ws) e
other_same pages e ws share =
    all_from (λ w. page_at (put pages ws) w.page ≡ page_at pages w.page) e.writes (λ w i.
    put_other w.page ws pages (All-contains (λ w. Avoid w.page ws) e.writes w share i))

pub whole_same : (old new : Pages) (e : Entry) → HasWhole old e → HasSame old new e → HasWhole new e
whole_same old new e whole same = λ k d lt. same k d lt ∙ whole k d lt

pub same_then : (old mid new : Pages) (e : Entry) → HasSame old mid e → HasSame mid new e → HasSame old new e
same_then old mid new e first second = λ k d lt. second k d lt ∙ first k d lt

pub whole_or_then : (old mid new : Pages) (e : Entry) → WholeOrSame old mid e → WholeOrSame mid new e →
    WholeOrSame old new e
whole_or_then old mid new e first (inl whole) = inl whole
whole_or_then old mid new e (inl whole) (inr same) = inl (whole_same mid new e whole same)
whole_or_then old mid new e (inr same) (inr more) = inr (same_then old mid new e same more)

-- ---- a transaction beside others that are taken

-- the writes are those of the transaction, or of none of its pages
abbrev pub SameOrApart : Entry → List PageWrite → Type 0
SameOrApart e ws = (ws ≡ e.writes) ⊎ All (λ w. Avoid w.page ws) e.writes

-- its pages are distinct, and of the array
pub record IsBeside (pages : Pages) (es : List Entry) (e : Entry) : Type 0 where
  pub distinct : AllPairs (λ v w. v.page ≢ w.page) e.writes
  pub within : AreWithin pages e.writes
  pub each : All (λ f. SameOrApart e f.writes) es

pub beside_then : (old new : Pages) (es fs : List Entry) (e : Entry) → length new ≡ length old → ArePart fs es →
    IsBeside old es e → IsBeside new fs e
beside_then old new es fs e long part h = record {
  distinct = h.distinct;
  within = within_kept old new e.writes long h.within;
  each = part_all (SameOrApart e) fs es part h.each;
}

pub beside_taken : (pages : Pages) (es : List Entry) (e : Entry) → IsBeside pages es e → (ws : List PageWrite) →
    SameOrApart e ws →
    WholeOrSame pages (put pages ws) e
beside_taken pages es e h ws (inl same) =
    inl (subst (λ vs. HasWhole (put pages vs) e) (sym same) (put_has e.writes pages h.distinct h.within))
beside_taken pages es e h ws (inr share) = inr (other_same pages e ws share)

beside_first : (x e : Entry) (es : List Entry) (pages : Pages) (b : Bool) → IsBeside pages (x ∷ es) e →
    ((p : Pages) → length p ≡ length pages → WholeOrSame p (put p (doubted es)) e) →
    WholeOrSame pages (put pages (cond b (x.writes ++ doubted es) (doubted es))) e
beside_first x e es pages true h rest =
    rw (put_append x.writes (doubted es) pages)
    (whole_or_then pages (put pages x.writes) (put (put pages x.writes) (doubted es)) e
    (beside_taken pages (x ∷ es) e h x.writes (All-head (λ f. SameOrApart e f.writes) x es h.each))
    (rest (put pages x.writes) (put_length x.writes pages)))
beside_first x e es pages false h rest = rest pages refl

beside_doubted : (es : List Entry) (pages : Pages) (e : Entry) → IsBeside pages es e →
    WholeOrSame pages (put pages (doubted es)) e
beside_doubted [] pages e h = inr (λ k d lt. refl)
beside_doubted (x ∷ es) pages e h =
    beside_first x e es pages (is_doubted x.mark) h (λ p long. beside_doubted es p e
    (beside_then pages p (x ∷ es) es e long (part_less x es es (part_same es)) h))

pub beside_settled : (there : Bool) (s : ArrayState) (e : Entry) → IsBeside s.pages s.entries e →
    WholeOrSame s.pages (settled there s).pages e
beside_settled true s e h = beside_doubted s.entries s.pages e h
beside_settled false s e h = inr (λ k d lt. refl)

pub beside_in : (s : ArrayState) (e : Entry) → IsConsistent s → Contains s.entries e → IsBeside s.pages s.entries e
beside_in s e ok i = record {
  distinct = All-contains (λ (x : Entry). AllPairs (λ v w. v.page ≢ w.page) x.writes) s.entries e ok.distinct i;
  within = All-contains (λ (x : Entry). AreWithin s.pages x.writes) s.entries e ok.within i;
  each = all_from (λ f. SameOrApart e f.writes) s.entries (λ f j. elim (apart_two s.entries e f ok.apart i j) [
    | inl same ↦ inl (ap (λ (x : Entry). x.writes) (sym same))
    | inr share ↦ inr share
  ]);
}

-- ---- what was in doubt is taken

-- of a transaction among these: it was in doubt and the array has it whole, or it was not
abbrev AsDoubted : Pages → Pages → Entry → Type 0
AsDoubted old new e = ((is_doubted e.mark ≡ true) × HasWhole new e) ⊎ ((is_doubted e.mark ≡ false) × HasSame old new e)

others_avoid : (x : Entry) (es : List Entry) → All (λ e. EntriesAreApart x e) es →
    All (λ w. AllAvoid w.page es) x.writes
others_avoid x es h =
    all_from (λ w. AllAvoid w.page es) x.writes (λ w i.
    all_from (λ e. Avoid w.page e.writes) es (λ e j.
    All-contains (λ w. Avoid w.page e.writes) x.writes w (All-contains (λ e. EntriesAreApart x e) es e h j) i))

doubted_same : (x : Entry) (es : List Entry) (pages : Pages) → All (λ e. EntriesAreApart x e) es →
    HasSame pages (put pages (doubted es)) x
doubted_same x es pages h =
    all_from (λ w. page_at (put pages (doubted es)) w.page ≡ page_at pages w.page) x.writes (λ w i.
    put_other w.page (doubted es) pages (doubted_avoid w.page es
    (All-contains (λ w. AllAvoid w.page es) x.writes w (others_avoid x es h) i)))

record AreWell (es : List Entry) (pages : Pages) : Type 0 where
  distinct : All (λ e. AllPairs (λ v w. v.page ≢ w.page) e.writes) es
  apart : AllPairs EntriesAreApart es
  within : All (λ e. AreWithin pages e.writes) es

well_tail : (x : Entry) (es : List Entry) (old new : Pages) → length new ≡ length old → AreWell (x ∷ es) old →
    AreWell es new
well_tail x es old new long h = record {
  distinct = All-tail (λ e. AllPairs (λ v w. v.page ≢ w.page) e.writes) x es h.distinct;
  apart = pairs_tail EntriesAreApart x es h.apart;
  within = all_from (λ e. AreWithin new e.writes) es (λ e i. within_kept old new e.writes long
      (All-contains (λ e. AreWithin old e.writes) es e (All-tail (λ e. AreWithin old e.writes) x es h.within) i));
}

-- with the first of them, and then the others
first_doubted : (x : Entry) (es : List Entry) (pages : Pages) (b : Bool) → is_doubted x.mark ≡ b →
    AreWell (x ∷ es) pages →
    AsDoubted pages (put pages (cond b (x.writes ++ doubted es) (doubted es))) x
first_doubted x es pages b is h =
    let others : All (λ e. EntriesAreApart x e) es = all_from (λ e. EntriesAreApart x e) es
    (λ e i. pairs_head EntriesAreApart x es e h.apart i) in
    by b is others
  where
    by : (b : Bool) → is_doubted x.mark ≡ b → All (λ e. EntriesAreApart x e) es →
        AsDoubted pages (put pages (cond b (x.writes ++ doubted es) (doubted es))) x
    by true is others =
        let taken = put_has x.writes pages (All-head (λ e. AllPairs (λ v w. v.page ≢ w.page) e.writes) x es h.distinct)
        (All-head (λ e. AreWithin pages e.writes) x es h.within) in
        inl (
          is,
          subst (λ (p : Pages). HasWhole p x) (sym (put_append x.writes (doubted es) pages))
              (whole_same (put pages x.writes) (put (put pages x.writes) (doubted es)) x taken
              (doubted_same x es (put pages x.writes) others)),
        )
    by false is others = inr (is, doubted_same x es pages others)

later_doubted : (x e : Entry) (es : List Entry) (pages : Pages) (b : Bool) → EntriesAreApart e x →
    ((p : Pages) → length p ≡ length pages → AsDoubted p (put p (doubted es)) e) →
    AsDoubted pages (put pages (cond b (x.writes ++ doubted es) (doubted es))) e
later_doubted x e es pages true share rest =
    rw (put_append x.writes (doubted es) pages)
    (elim (rest (put pages x.writes) (put_length x.writes pages)) [
      | inl whole ↦ inl whole
      | inr same ↦ inr (
        same.0,
        same_then pages (put pages x.writes) (put (put pages x.writes) (doubted es)) e
            (other_same pages e x.writes share) same.1,
      )
    ])
later_doubted x e es pages false share rest = rest pages refl

each_doubted : (es : List Entry) (pages : Pages) (e : Entry) → AreWell es pages → Contains es e →
    AsDoubted pages (put pages (doubted es)) e
each_doubted [] pages e h c = absurd (Contains-nil e c)
each_doubted (x ∷ es) pages e h c = elim (Contains-cases x es e c) [
  | inl same ↦ subst (λ (y : Entry). AsDoubted pages (put pages (doubted (x ∷ es))) y) same
      (first_doubted x es pages (is_doubted x.mark) refl h)
  | inr i ↦ later_doubted x e es pages (is_doubted x.mark)
      (share_back x e (pairs_head EntriesAreApart x es e h.apart i))
      (λ p long. each_doubted es p e (well_tail x es pages p long h) i)
]

-- ---- a consistent state that settles

well : (s : ArrayState) → IsConsistent s → AreWell s.entries s.pages
well s ok = record { distinct = ok.distinct; apart = ok.apart; within = ok.within }

-- one that is not in doubt is not taken
pub settled_sure_same : (there : Bool) (s : ArrayState) (e : Entry) → IsConsistent s → Contains s.entries e →
    is_doubted e.mark ≡ false →
    HasSame s.pages (settled there s).pages e
settled_sure_same true s e ok i sure = elim (each_doubted s.entries s.pages e (well s ok) i) [
  | inl whole ↦ (let both = sym sure ∙ whole.0 in cc)
  | inr same ↦ same.1
]
settled_sure_same false s e ok i sure = λ k d lt. refl

settled_whole_at : (there : Bool) (s : ArrayState) (e : Entry) (m : Mark) → e.mark ≡ m → IsConsistent s →
    Contains s.entries e → settled_mark there m ≡ Whole →
    HasWhole (settled there s).pages e
settled_whole_at there s e Plain is ok i h = cc
settled_whole_at true s e Doubt is ok i h = elim (each_doubted s.entries s.pages e (well s ok) i) [
  | inl whole ↦ whole.1
  | inr same ↦ (let doubt : is_doubted e.mark ≡ true = ap is_doubted is in let both = sym same.0 ∙ doubt in cc)
]
settled_whole_at false s e Doubt is ok i h = cc
settled_whole_at there s e Whole is ok i h =
    whole_same s.pages (settled there s).pages e (All-contains (λ (e : Entry). e.mark ≡ Whole → HasWhole s.pages e)
    s.entries e ok.whole i is)
    (settled_sure_same there s e ok i (ap is_doubted is))

pub settled_whole : (there : Bool) (s : ArrayState) → IsConsistent s →
    All (λ e. e.mark ≡ Whole → HasWhole (settled there s).pages e) (settled there s).entries
settled_whole there s ok =
    All-map (λ (e : Entry). e.mark ≡ Whole → HasWhole (settled there s).pages e) (settled_entry there) s.entries
    (all_from (λ e. settled_mark there e.mark ≡ Whole → HasWhole (settled there s).pages e) s.entries
    (λ e i. settled_whole_at there s e e.mark refl ok i))

-- ---- the transactions that stay

pub all_without : (P : Entry → Type 0) (tag : ℕ) (es : List Entry) → All P es → All P (without tag es)
all_without P tag [] h = h
all_without P tag (e ∷ es) h = elim (has_tag tag e) as (λ b. All P (cond b es (e ∷ without tag es))) [
  | true ↦ All-tail P e es h
  | false ↦ All-cons P e (without tag es) (All-head P e es h) (all_without P tag es (All-tail P e es h))
]

pub all_with : (P : Entry → Type 0) (tag : ℕ) (new : Entry) (es : List Entry) → P new → All P es →
    All P (with_entry tag new es)
all_with P tag new [] its h = h
all_with P tag new (e ∷ es) its h = elim (has_tag tag e) as
    (λ b. All P (cond b (new ∷ es) (e ∷ with_entry tag new es))) [
      | true ↦ All-cons P new es its (All-tail P e es h)
      | false ↦ All-cons P e (with_entry tag new es) (All-head P e es h) (all_with P tag new es its (All-tail P e es h))
    ]

-- those beside the one with a tag write none of its pages
goes_step : (tag : ℕ) (x e : Entry) (es : List Entry) (b : Bool) → AllPairs EntriesAreApart (x ∷ es) →
    (entry_of tag es ≡ Some e → All (λ f. EntriesAreApart e f) (without tag es)) →
    cond b (Some x) (entry_of tag es) ≡ Some e → All (λ f. EntriesAreApart e f) (cond b es (x ∷ without tag es))
goes_step tag x e es true apart rest h =
    let is : x ≡ e = cc in
    subst (λ (y : Entry). All (λ f. EntriesAreApart y f) es) is
    (all_from (λ f. EntriesAreApart x f) es (λ f i. pairs_head EntriesAreApart x es f apart i))
goes_step tag x e es false apart rest h =
    All-cons (λ f. EntriesAreApart e f) x (without tag es)
    (share_back x e (pairs_head EntriesAreApart x es e apart (found_is_in tag es e h))) (rest h)

without_share : (tag : ℕ) (es : List Entry) (e : Entry) → AllPairs EntriesAreApart es → entry_of tag es ≡ Some e →
    All (λ f. EntriesAreApart e f) (without tag es)
without_share tag [] e apart h = All-nil (λ (f : Entry). EntriesAreApart e f)
without_share tag (x ∷ es) e apart h = goes_step tag x e es (has_tag tag x) apart
    (without_share tag es e (pairs_tail EntriesAreApart x es apart)) h

pub without_avoids : (tag : ℕ) (es : List Entry) (e : Entry) → AllPairs EntriesAreApart es → entry_of tag es ≡ Some e →
    All (λ w. AllAvoid w.page (without tag es)) e.writes
without_avoids tag es e apart h = others_avoid e (without tag es) (without_share tag es e apart h)
