-- Mentions that a noted record raises.
use Rattle.judged_records.proofs.Common.{◌≡◌, ℕ, ◌<◌, ◌≤◌, ◌+◌, List, length, map, take, get_or, sym, ap, ◌∙◌, subst, inl, inr, arith, eqb, eq-eqb, ne_eqb, if◌then◌else◌, cases_eq, cond-true, cond-false, range_with_len, get_or-map-range_with_len, Link, Rec, Found, name_of, nothing, IsInserted, greatest_least, inserted_in}
use Rattle.std.proofs.Common.{max, ◌==◌}
use Rattle.std.proofs.Math.Nat.{max-eq_left}
use Rattle.std.proofs.lemmas.List.{length-set, get_or-set_same, get_or-set_other, ext_get_or}
use Rattle.std.proofs.lemmas.List.FromFn.{length-map-range_with_len}
use Rattle.record_list.specs.Records.{mention, mention_at, version_of, linked_at}
use Rattle.record_list.proofs.OfFacts.Greatest.{greatest_step}
use Rattle.record_list.proofs.OfFacts.Names.{greatest_bound}
use Rattle.judged_records.specs.IndexState.{raised, raised_to}

-- the version at which a name mentions a page
abbrev named_at : ℕ → Link → ℕ
named_at page name = if name.page == page then name.version else 0

pub length-raised : (rec : Rec) (mentions : List ℕ) → length (raised rec mentions) ≡ length mentions
length-raised rec mentions = length-set (raised_to (name_of rec) mentions) rec.next.page _ ∙ length-set
    mentions rec.page _

pub raised_to_at : (name : Link) (mentions : List ℕ) (page : ℕ) → name.page < length mentions →
    get_or (raised_to name mentions) page 0 ≡ max (get_or mentions page 0) (named_at page name)
raised_to_at name mentions page within = elim (cases_eq name.page page) [
  | inl same ↦ (
      let at : get_or (raised_to name mentions) name.page 0 ≡ max (get_or mentions name.page 0) name.version =
      get_or-set_same mentions name.page _ 0 within in
      subst (λ p. get_or (raised_to name mentions) p 0 ≡ max (get_or mentions p 0) name.version) same at
      ∙ ap (max (get_or mentions page 0))
      (sym (cond-true (eqb name.page page) name.version 0 (eq-eqb name.page page same))))
  | inr other ↦ (
      get_or-set_other mentions name.page page _ 0 (λ e. other (sym e))
      ∙ sym (max-eq_left (omega arith))
      ∙ ap (max (get_or mentions page 0))
      (sym (cond-false (eqb name.page page) name.version 0 (ne_eqb name.page page other))))
]

-- a mention is the greater of what it was and of that by the record
pub raised_at : (rec : Rec) (mentions : List ℕ) (page : ℕ) → rec.page < length mentions →
    rec.next.page < length mentions →
    get_or (raised rec mentions) page 0 ≡ max (get_or mentions page 0) (mention_at page rec)
raised_at rec mentions page within next_within =
    let once = raised_to_at (name_of rec) mentions page within in
    let long : rec.next.page < length (raised_to (name_of rec) mentions) =
    subst (λ k. rec.next.page < k) (sym (length-set mentions rec.page _)) next_within in
    raised_to_at rec.next (raised_to (name_of rec) mentions) page long
    ∙ ap (λ m. max m (named_at page rec.next)) once ∙ assoc (get_or mentions page 0) (version_of page rec)
    (linked_at page rec)
  where
    assoc : (a b c : ℕ) → max (max a b) c ≡ max a (max b c)
    assoc a b c = omega arith

-- with a record more no mention of the records is above the raised ones
pub raised_bounds : (list list' : List Found) (f : Found) (mentions : List ℕ) (page : ℕ) → IsInserted list f list' →
    f.rec.page < length mentions → f.rec.next.page < length mentions → mention list page ≤ get_or mentions page 0 →
    mention list' page ≤ get_or (raised f.rec mentions) page 0
raised_bounds list list' f mentions page ins within next_within before =
    let at = raised_at f.rec mentions page within next_within in
    greatest_least (mention_at page) list' (get_or (raised f.rec mentions) page 0)
    (λ g i. elim (inserted_in list list' f ins g i) [
      | inl new ↦ (let same = ap (λ h. mention_at page h.rec) new in omega arith)
      | inr old ↦ (let bound = greatest_bound (mention_at page) list g old in omega arith)
    ])

-- a mention of an existing page is not raised by the name of one that does not exist
pub unraised_at : (name : Link) (mentions : List ℕ) (page : ℕ) → length mentions ≤ name.page → page < length mentions →
    get_or mentions page 0 ≡ max (get_or mentions page 0) (named_at page name)
unraised_at name mentions page past within =
    let none = cond-false (eqb name.page page) name.version 0 (ne_eqb name.page page (λ e. omega arith)) in
    omega arith

-- the mentions of the records of a list, record by record
pub record AreMentions (list : List Found) (count : ℕ) (mentions : List ℕ) : Type 0 where
  pub size : length mentions ≡ count
  pub each : (page : ℕ) → page < count → get_or mentions page 0 ≡ mention list page

pub mentions_more : (list : List Found) (at count : ℕ) (old once new : List ℕ) → at < length list →
    AreMentions (take at list) count old →
    length once ≡ length old → length new ≡ length once →
    ((page : ℕ) → page < length old → get_or once page 0
    ≡ max (get_or old page 0) (named_at page (name_of (get_or list at nothing).rec))) →
    ((page : ℕ) → page < length once → get_or new page 0
    ≡ max (get_or once page 0) (named_at page (get_or list at nothing).rec.next)) →
    AreMentions (take (at + 1) list) count new
mentions_more list at count old once new within before size_once size_new own linked = record {
  size = size_new ∙ size_once ∙ before.size;
  each = λ page low.
      let s = before.size in
      let a = own page (omega arith) in
      let b = linked page (omega arith) in
      let c = before.each page low in
      let d = greatest_step (mention_at page) list at within in
      omega arith;
}

pub mentions_are : (list some : List Found) (count : ℕ) (mentions : List ℕ) → some ≡ list →
    AreMentions some count mentions →
    mentions ≡ map (mention list) (range_with_len 0 count)
mentions_are list some count mentions all are =
    ext_get_or 0 mentions (map (mention list) (range_with_len 0 count))
    (are.size ∙ sym (length-map-range_with_len (mention list) 0 count))
    (λ page low. (let s = are.size in
    are.each page (omega arith) ∙ ap (λ l. mention l page) all
    ∙ sym (get_or-map-range_with_len (mention list) 0 count page page 0 (omega arith) (omega arith))))
