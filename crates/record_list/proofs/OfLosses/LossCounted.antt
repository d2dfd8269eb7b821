-- Current and held names are present, so that what each current and each held record keeps may be said of names.
use Rattle.record_list.proofs.Common.{◌≡◌, ℕ, ◌<◌, ◌≤◌, ◌⊎◌, ltb, Bool, true, false, ◌&&◌, List, sym, refl, ◌∙◌, subst, inl, inr, ⊎_elim, arith, Contains, cases_lt, and_parts, both_ways, All-contains, all_from, any_of, Link, Rec, Protocol, Scc, Bpcc, Found, name_of, is_present, IsScanned, straddles, record_named, cur, IsCurrent, straddling_upto, responsible, answers_for, is_held, PagesExist, IsSoundList, Pages, left, KeepsCounted}
use Rattle.std.proofs.Common.{◌==◌, leb}
use Rattle.std.proofs.lemmas.Bool.{eqb-true, ltb-true, leb-true}
use Rattle.list_lemmas.proofs.Values.{if_positive}
use Rattle.record_list.proofs.OfFacts.Held.{IsAnswer, answer_of}
use Rattle.record_list.proofs.OfFacts.SoundNames.{IsSoundMap, sound_map}
use Rattle.record_list.proofs.OfFacts.Facts.{cur_present}
use Rattle.record_list.proofs.OfFacts.Names.{named, same_name, greatest_attained, found_named, present_as, named_name}

-- the record that is responsible for loose records with this link
pub record IsResponsible (p : Protocol) (l : List Found) (n : ℕ) (name : Link) : Type 0 where
  pub at : Found
  pub is_in : Contains l at
  pub page : at.rec.page ≡ name.page
  pub version : at.rec.version ≡ responsible p l n name
  pub counts : straddling_upto (cur p l n name.page) name at.rec ≡ responsible p l n name
  pub straddles : straddles at.rec name.version ≡ true
  pub low : at.rec.version ≤ cur p l n name.page

-- it is in the list where there is one
pub responsible_at : (p : Protocol) (l : List Found) (n : ℕ) (name : Link) → 1 ≤ responsible p l n name →
    IsResponsible p l n name
responsible_at p l n name h =
    let g = greatest_attained (straddling_upto (cur p l n name.page) name) l h in
    let r : Rec = g.0.rec in
    let k = if_positive (((r.page == name.page) && straddles r name.version) && leb r.version (cur p l n name.page))
    r.version
    (subst (λ v. 1 ≤ v) (sym g.2) h) in
    let a = and_parts ((r.page == name.page) && straddles r name.version) (leb r.version (cur p l n name.page)) k.0 in
    let b = and_parts (r.page == name.page) (straddles r name.version) a.0 in
    record {
      at = g.0;
      is_in = g.1;
      page = eqb-true r.page name.page b.0;
      version = sym k.1 ∙ g.2;
      counts = g.2;
      straddles = b.1;
      low = leb-true r.version (cur p l n name.page) a.1;
    }

-- no record is responsible for a link at or above the current version
pub responsible_high : (p : Protocol) (l : List Found) (n : ℕ) (name : Link) → cur p l n name.page ≤ name.version →
    responsible p l n name ≡ 0
responsible_high p l n name high = elim (cases_lt 0 (responsible p l n name)) [
  | inl some ↦ (
      let x : IsResponsible p l n name = responsible_at p l n name some in
      let low = x.low in
      let below = ltb-true name.version x.at.rec.version
      (and_parts (ltb x.at.rec.back name.version) (ltb name.version x.at.rec.version) x.straddles).1 in
      absurd (omega arith))
  | inr none ↦ omega arith
]

-- so what a record answers for links below the current version
pub answered_below : (l : List Found) (n : ℕ) (s r : Rec) → IsAnswer l n s r → r.next.version < cur Bpcc l n r.next.page
answered_below l n s r a = elim (cases_lt r.next.version (cur Bpcc l n r.next.page)) [
  | inl below ↦ below
  | inr high ↦ (
      let none = responsible_high Bpcc l n r.next high in
      let version = a.version in
      let under = a.under in
      absurd (omega arith))
]

-- the name of a held record is present
pub held_present : (p : Protocol) (l : List Found) (n : ℕ) (s : Rec) → is_held p l n s ≡ true →
    is_present l (name_of s) ≡ true
held_present Scc l n s held = absurd (both_ways false refl held)
held_present Bpcc l n s held =
    let f = any_of (λ f. answers_for Bpcc l n s f.rec) l held in
    let a : IsAnswer l n s f.0.rec = answer_of l n s f.0.rec f.2 in
    let r : IsResponsible Bpcc l n f.0.rec.next = responsible_at Bpcc l n f.0.rec.next (let version = a.version in
    let under = a.under in omega arith) in
    present_as l r.at (name_of s) r.is_in (same_name (name_of r.at.rec) (name_of s) (r.page ∙ a.page)
    (r.version ∙ a.version))

-- a name is current, or its record held
abbrev pub IsCounted : Protocol → List Found → ℕ → Link → Type 0
IsCounted p l n name = (name.version ≡ cur p l n name.page) ⊎ (is_held p l n (record_named l name) ≡ true)

-- each such name has a slot that passes the test
pub record IsCountedKept (p : Protocol) (l : List Found) (n : ℕ) (keep : ℕ → Bool) : Type 0 where
  pub kept : (name : Link) → name.page < n → 1 ≤ name.version → IsCounted p l n name →
      is_present (left keep l) name ≡ true

-- it is present
pub counted_present : (p : Protocol) (l : List Found) (n : ℕ) → IsSoundMap p l n → (name : Link) → 1 ≤ name.version →
    IsCounted p l n name → is_present l name ≡ true
counted_present p l n sound name h (inl e) =
    ⊎_elim
    (λ none. absurd (omega arith))
    (λ here. subst (λ v. is_present l (named name.page v) ≡ true) (sym e) here)
    (cur_present p l n sound name.page)
counted_present p l n sound name h (inr held) = subst (λ u. is_present l u ≡ true) (named_name l name)
    (held_present p l n (record_named l name) held)

-- what records keep is what their names keep
pub counted_names : (p : Protocol) (l : List Found) (n : ℕ) (keep : ℕ → Bool) → IsSoundMap p l n →
    KeepsCounted p l n keep → IsCountedKept p l n keep
counted_names p l n keep sound k = record {
  kept = λ name low h c.
      let x = found_named l name (counted_present p l n sound name h c) in
      subst (λ m. is_present (left keep l) m ≡ true) x.2
      (All-contains (λ f. IsCurrent p l n f.rec ⊎ (is_held p l n f.rec ≡ true) →
      is_present (left keep l) (name_of f.rec) ≡ true) l x.0 k x.1
      (⊎_elim
      (λ e. inl (subst (λ (m : Link). m.version ≡ cur p l n m.page) (sym x.2) e))
      (λ held. inr (subst (λ r. is_held p l n r ≡ true) (sym x.5) held))
      c));
}

-- and back
pub counted_records : (p : Protocol) (l : List Found) (n : ℕ) (keep : ℕ → Bool) → IsScanned l → IsSoundList p l n →
    IsCountedKept p l n keep →
    KeepsCounted p l n keep
counted_records p l n keep scanned sound k = all_from (λ f. IsCurrent p l n f.rec ⊎ (is_held p l n f.rec ≡ true) →
    is_present (left keep l) (name_of f.rec) ≡ true) l (λ f i h.
    k.kept (name_of f.rec) (All-contains (PagesExist n) l f (sound Pages) i).0 (All-contains (λ f. (1 ≤ f.rec.version) ×
    (1 ≤ f.rec.next.version)) l f scanned.versions i).0
    (⊎_elim inl (λ held. inr (subst (λ r. is_held p l n r ≡ true) ((sound_map p l n sound scanned).copies f i) held))
    h))
