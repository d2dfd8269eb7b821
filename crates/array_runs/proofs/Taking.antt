-- What the array takes, and which transactions stay open.
use Rattle.array_runs.proofs.Common.{◌≡◌, ◌≢◌, ◌⊎◌, ℕ, ◌<◌, Bool, true, false, cond, List, [], ◌∷◌, ◌++◌, length, map, All, AllPairs, Some, None, refl, sym, ap, ◌∙◌, subst, inl, inr, arith, All-nil, All-cons, All-head, All-tail, All-contains, all_from, PageWrite, ArrayState, Entry, Pages, entry_of, has_tag, is_doubted, page_at, put, with_entry, without, doubted, settled, settled_entry, Avoid, AllAvoid, EntriesAreApart}
use Rattle.std.proofs.lemmas.List.{length-set, get_or-set_same, get_or-set_other}
use Rattle.std.proofs.lemmas.List.Elements.{All-append}
use Rattle.list_lemmas.proofs.Pairs.{pairs_head, pairs_tail, pairs_cons}

-- ---- the array with some writes

pub put_length : (ws : List PageWrite) (pages : Pages) → length (put pages ws) ≡ length pages
put_length [] pages = refl
put_length (w ∷ ws) pages = put_length ws _ ∙ length-set pages w.page w.value

pub put_other : (page : ℕ) (ws : List PageWrite) (pages : Pages) → Avoid page ws →
    page_at (put pages ws) page ≡ page_at pages page
put_other page [] pages h = refl
put_other page (w ∷ ws) pages h =
    put_other page ws _ (All-tail (λ w. w.page ≢ page) w ws h)
    ∙ get_or-set_other pages w.page page w.value None (λ e. All-head (λ w. w.page ≢ page) w ws h (sym e))

abbrev pub AreWithin : Pages → List PageWrite → Type 0
AreWithin pages ws = All (λ w. w.page < length pages) ws

pub within_kept : (old new : Pages) (ws : List PageWrite) → length new ≡ length old → AreWithin old ws →
    AreWithin new ws
within_kept old new ws long h = λ k d lt. (let at = h k d lt in omega arith)

-- it has them all
pub put_has : (ws : List PageWrite) (pages : Pages) → AllPairs (λ v w. v.page ≢ w.page) ws → AreWithin pages ws →
    All (λ w. page_at (put pages ws) w.page ≡ w.value) ws
put_has [] pages distinct within = All-nil (λ w. page_at pages w.page ≡ w.value)
put_has (w ∷ ws) pages distinct within =
    let R = λ (v : PageWrite) (w : PageWrite). v.page ≢ w.page in
    let P = λ (w : PageWrite). w.page < length pages in
    let others : Avoid w.page ws = all_from (λ v. v.page ≢ w.page) ws
    (λ v i e. pairs_head R w ws v distinct i (sym e)) in
    All-cons (λ v. page_at (put pages (w ∷ ws)) v.page ≡ v.value) w ws
    (put_other w.page ws _ others ∙ get_or-set_same pages w.page w.value None (All-head P w ws within))
    (put_has ws _ (pairs_tail R w ws distinct) (within_kept pages _ ws (length-set pages w.page w.value)
    (All-tail P w ws within)))

pub put_append : (vs ws : List PageWrite) (pages : Pages) → put pages (vs ++ ws) ≡ put (put pages vs) ws
put_append [] ws pages = refl
put_append (v ∷ vs) ws pages = put_append vs ws _

-- the writes of what is in doubt are those of open transactions
pub doubted_avoid : (page : ℕ) (es : List Entry) → AllAvoid page es → Avoid page (doubted es)
doubted_avoid page [] h = All-nil (λ w. w.page ≢ page)
doubted_avoid page (e ∷ es) h =
    let rest = doubted_avoid page es (All-tail (λ e. Avoid page e.writes) e es h) in
    elim (is_doubted e.mark) as (λ b. Avoid page (cond b (e.writes ++ doubted es) (doubted es))) [
      | true ↦ All-append (λ w. w.page ≢ page) e.writes (doubted es) (All-head (λ e. Avoid page e.writes) e es h) rest
      | false ↦ rest
    ]

pub settled_other : (there : Bool) (page : ℕ) (s : ArrayState) → AllAvoid page s.entries →
    page_at (settled there s).pages page ≡ page_at s.pages page
settled_other true page s h = put_other page (doubted s.entries) s.pages (doubted_avoid page s.entries h)
settled_other false page s h = refl

pub settled_length : (there : Bool) (s : ArrayState) → length (settled there s).pages ≡ length s.pages
settled_length true s = put_length (doubted s.entries) s.pages
settled_length false s = refl

-- ---- the transactions that stay

-- each of the new ones is one of the old ones, in their order, with the same writes
abbrev pub ArePart : List Entry → List Entry → Type 0
ArePart new [] = new ≡ []
ArePart [] (o ∷ os) = Unit {0}
ArePart (n ∷ ns) (o ∷ os) = ((n.writes ≡ o.writes) × ArePart ns os) ⊎ ArePart (n ∷ ns) os

pub part_none : (os : List Entry) → ArePart [] os
part_none [] = refl
part_none (o ∷ os) = tt

pub part_same : (es : List Entry) → ArePart es es
part_same [] = refl
part_same (e ∷ es) = inl (refl, part_same es)

pub part_less : (o : Entry) (ns os : List Entry) → ArePart ns os → ArePart ns (o ∷ os)
part_less o [] os h = tt
part_less o (n ∷ ns) os h = inr h

pub part_then : (a b d : List Entry) → ArePart a b → ArePart b d → ArePart a d
part_then a [] d h k = rw h (part_none d)
part_then a (y ∷ b) [] h k = cc
part_then [] (y ∷ b) (z ∷ d) h k = tt
part_then (x ∷ a) (y ∷ b) (z ∷ d) h (inr k) = inr (part_then (x ∷ a) (y ∷ b) d h k)
part_then (x ∷ a) (y ∷ b) (z ∷ d) (inl h) (inl k) = inl (h.0 ∙ k.0, part_then a b d h.1 k.1)
part_then (x ∷ a) (y ∷ b) (z ∷ d) (inr h) (inl k) = inr (part_then (x ∷ a) b d h k.1)

pub part_settled : (there : Bool) (es : List Entry) → ArePart (map (settled_entry there) es) es
part_settled there [] = refl
part_settled there (e ∷ es) = inl (refl, part_settled there es)

pub part_without : (tag : ℕ) (es : List Entry) → ArePart (without tag es) es
part_without tag [] = refl
part_without tag (e ∷ es) = elim (has_tag tag e) as (λ b. ArePart (cond b es (e ∷ without tag es)) (e ∷ es)) [
  | true ↦ part_less e es es (part_same es)
  | false ↦ inl (refl, part_without tag es)
]

with_step : (tag : ℕ) (new x e : Entry) (es : List Entry) (b : Bool) → new.writes ≡ e.writes →
    (entry_of tag es ≡ Some e → ArePart (with_entry tag new es) es) →
    cond b (Some x) (entry_of tag es) ≡ Some e → ArePart (cond b (new ∷ es) (x ∷ with_entry tag new es)) (x ∷ es)
with_step tag new x e es true same rest h = let is : x ≡ e = cc in
    inl (same ∙ ap (λ (y : Entry). y.writes) (sym is), part_same es)
with_step tag new x e es false same rest h = inl (refl, rest h)

pub part_with : (tag : ℕ) (new e : Entry) (es : List Entry) → new.writes ≡ e.writes → entry_of tag es ≡ Some e →
    ArePart (with_entry tag new es) es
part_with tag new e [] same h = refl
part_with tag new e (x ∷ es) same h = with_step tag new x e es (has_tag tag x) same (part_with tag new e es same) h

-- What is so of the writes of all old ones is so of the new ones.
pub part_all : (P : List PageWrite → Type 0) (ns os : List Entry) → ArePart ns os → All (λ e. P e.writes) os →
    All (λ e. P e.writes) ns
part_all P ns [] h all = rw h (All-nil (λ (e : Entry). P e.writes))
part_all P [] (o ∷ os) h all = All-nil (λ (e : Entry). P e.writes)
part_all P (n ∷ ns) (o ∷ os) (inl h) all =
    All-cons (λ (e : Entry). P e.writes) n ns (subst P (sym h.0) (All-head (λ (e : Entry). P e.writes) o os all))
    (part_all P ns os h.1 (All-tail (λ (e : Entry). P e.writes) o os all))
part_all P (n ∷ ns) (o ∷ os) (inr h) all = part_all P (n ∷ ns) os h (All-tail (λ (e : Entry). P e.writes) o os all)

pub part_pairs : (ns os : List Entry) → ArePart ns os → AllPairs EntriesAreApart os → AllPairs EntriesAreApart ns
part_pairs ns [] h all = rw h all
part_pairs [] (o ∷ os) h all = λ i j d less below. absurd (omega arith)
part_pairs (n ∷ ns) (o ∷ os) (inl h) all =
    let from : All (λ e. All (λ w. Avoid w.page e.writes) n.writes) os =
    all_from (λ e. All (λ w. Avoid w.page e.writes) n.writes) os
    (λ e i. subst (λ (ws : List PageWrite). All (λ w. Avoid w.page e.writes) ws) (sym h.0)
    (pairs_head EntriesAreApart o os e all i)) in
    let kept = part_all (λ vs. All (λ w. Avoid w.page vs) n.writes) ns os h.1 from in
    pairs_cons EntriesAreApart n ns (λ e i. All-contains (λ (e : Entry). EntriesAreApart n e) ns e kept i)
    (part_pairs ns os h.1 (pairs_tail EntriesAreApart o os all))
part_pairs (n ∷ ns) (o ∷ os) (inr h) all = part_pairs (n ∷ ns) os h (pairs_tail EntriesAreApart o os all)
