-- The laws of a sound list by names: each name that is present has one link and one back version.
use Rattle.record_list.proofs.Common.{◌≡◌, ◌≢◌, ℕ, ◌<◌, ◌≤◌, Bool, true, false, eqb, ◌⊎◌, List, All, refl, sym, ap, ◌∙◌, subst, inl, inr, arith, eqb-true, eq-eqb, if◌then◌else◌, Contains, All-contains, all_from, in_order, Link, Protocol, Scc, Bpcc, Found, Passed, Straddled, newest, name_of, is_present, IsScanned, newest_name, record_named, link_of, back_of, straddling, is_committed, cur, responsible, Pages, Copies, PagesExist, CopiesAgree, CurrentIsPresent, current_name, follow, IsSoundList}
use Rattle.std.proofs.lemmas.List.Elements.{All-weaker}
use Rattle.record_list.specs.SoundList.{Links, Present, Counted, Loose, Ending, OwnPageExists, LinksDiffer}
use Rattle.record_list.specs.SoundList.{LinkHasCounted, LooseIsShown, LooseEnds}
use Rattle.record_list.proofs.OfFacts.Names.{found_named, present_in, newest_present, named_link, named_back}
use Rattle.record_list.proofs.OfFacts.Safe.{is_clear, IsLinked}

-- law 6 by names
abbrev pub LooseNames : Protocol → List Found → ℕ → Type 0
LooseNames Scc l logical = Unit {0}
LooseNames Bpcc l logical = (u : Link) → is_present l u ≡ true → cur Bpcc l logical u.page < u.version →
    (back_of l u ≡ cur Bpcc l logical u.page)
    × ((link_of l u).version ≢ cur Bpcc l logical (link_of l u).page)
    × ((link_of l u).version < cur Bpcc l logical (link_of l u).page → responsible Bpcc l logical (link_of l u) ≢ 0)

-- law 7 by names
abbrev pub EndingNames : Protocol → List Found → ℕ → Type 0
EndingNames Scc l logical = Unit {0}
EndingNames Bpcc l logical = (u : Link) → is_present l u ≡ true → cur Bpcc l logical u.page < u.version →
    ((n : ℕ) × (is_present l (follow l (link_of l u) n) ≡ false))

-- where each record keeps law 1, its own page exists
pub own_pages : (l : List Found) (logical : ℕ) → All (PagesExist logical) l → All (OwnPageExists logical) l
own_pages l logical all = All-weaker (PagesExist logical) (OwnPageExists logical) (λ f pages. pages.0) l all

-- laws 1 to 7 by names
pub record IsSoundMap (p : Protocol) (l : List Found) (logical : ℕ) : Type 0 where
  pub copies : (f : Found) → Contains l f → f.rec ≡ record_named l (name_of f.rec)
  pub linked : IsLinked l logical
  pub present : (page : ℕ) → 0 < newest l page → (cur p l logical page ≡ 0)
      ⊎ (is_present l (current_name p l logical page) ≡ true)
  pub counted : (u : Link) → is_present l u ≡ true → u.version ≡ cur p l logical u.page →
      ((link_of l u).version ≤ cur p l logical (link_of l u).page) × (is_clear p l (link_of l u) ≡ true)
  pub loose : LooseNames p l logical
  pub ending : EndingNames p l logical

-- each record has the link of its name
pub map_link : {p : Protocol} {l : List Found} {logical : ℕ} → IsSoundMap p l logical → (f : Found) → Contains l f →
    f.rec.next ≡ link_of l (name_of f.rec)
map_link {l = l} m f i = ap (λ r. r.next) (m.copies f i) ∙ named_link l (name_of f.rec)

-- and its back version
pub map_back : {p : Protocol} {l : List Found} {logical : ℕ} → IsSoundMap p l logical → (f : Found) → Contains l f →
    f.rec.back ≡ back_of l (name_of f.rec)
map_back {l = l} m f i = ap (λ r. r.back) (m.copies f i) ∙ named_back l (name_of f.rec)

-- under Back Pointer Cyclic Commit a name is clear exactly where no record straddles it
pub clear_from : (l : List Found) (q : Link) → straddling l q ≡ 0 → is_clear Bpcc l q ≡ true
clear_from l q e = choice (eqb (straddling l q) 0) (straddling l q) (eq-eqb (straddling l q) 0 e)
  where
    choice : (b : Bool) (s : ℕ) → b ≡ true → is_committed (if b then Passed else Straddled s) ≡ true
    choice true s h = refl
    choice false s h = h

-- and the other way round
pub clear_gives : (l : List Found) (q : Link) → is_clear Bpcc l q ≡ true → straddling l q ≡ 0
clear_gives l q h = eqb-true (straddling l q) 0 (choice (eqb (straddling l q) 0) (straddling l q) h)
  where
    choice : (b : Bool) (s : ℕ) → is_committed (if b then Passed else Straddled s) ≡ true → b ≡ true
    choice true s h = refl
    choice false s h = h

module _ (p : Protocol) (l : List Found) (logical : ℕ) (sound : IsSoundList p l logical) (scanned : IsScanned l) where
  -- law 2 by names: each record agrees with its name
  copies_of : (f : Found) → Contains l f → f.rec ≡ record_named l (name_of f.rec)
  copies_of f i =
      let g = found_named l (name_of f.rec) (present_in l f i) in
      let same : f.rec ≡ g.0.rec = elim (in_order (λ x y. x.slot.0 < y.slot.0) l f g.0 scanned.ascending i g.1) [
        | inl e ↦ ap (λ x. x.rec) e
        | inr (inl less) ↦ All-contains (λ h. h.slot.0 < g.0.slot.0 → name_of h.rec ≡ name_of g.0.rec →
            h.rec ≡ g.0.rec) l f (All-contains (CopiesAgree l) l g.0 (sound Copies) g.1) i less (sym g.2)
        | inr (inr more) ↦ sym (All-contains (λ h. h.slot.0 < f.slot.0 → name_of h.rec ≡ name_of f.rec →
            h.rec ≡ f.rec) l g.0 (All-contains (CopiesAgree l) l f (sound Copies) i) g.1 more g.2)
      ] in
      same ∙ g.5

  -- its pages exist, no version is 0, and two names have two links
  linked_of : IsLinked l logical
  linked_of = record {
    pages = λ u h.
        let f = found_named l u h in
        let law = All-contains (PagesExist logical) l f.0 (sound Pages) f.1 in
        (subst (λ n. n.page < logical) f.2 law.0, subst (λ n. n.page < logical) f.3 law.1);
    versions = λ u h.
        let f = found_named l u h in
        let law = All-contains (λ g. (1 ≤ g.rec.version) × (1 ≤ g.rec.next.version)) l f.0 scanned.versions f.1 in
        (subst (λ n. 1 ≤ n.version) f.2 law.0, subst (λ n. 1 ≤ n.version) f.3 law.1);
    once = λ u v hu hv e.
        let f = found_named l u hu in
        let g = found_named l v hv in
        let links : f.0.rec.next ≡ g.0.rec.next = f.3 ∙ e ∙ sym g.3 in
        let names : name_of f.0.rec ≡ name_of g.0.rec =
        elim (in_order (λ x y. x.slot.0 < y.slot.0) l f.0 g.0 scanned.ascending f.1 g.1) [
          | inl same ↦ ap (λ x. name_of x.rec) same
          | inr (inl less) ↦ All-contains (λ h. h.slot.0 < g.0.slot.0 → h.rec.next ≡ g.0.rec.next →
              name_of h.rec ≡ name_of g.0.rec) l f.0 (All-contains (LinksDiffer l) l g.0 (sound Links) g.1)
              f.1 less links
          | inr (inr more) ↦ sym (All-contains (λ h. h.slot.0 < f.0.slot.0 → h.rec.next ≡ f.0.rec.next →
              name_of h.rec ≡ name_of f.0.rec) l g.0 (All-contains (LinksDiffer l) l f.0 (sound Links) f.1) g.1
              more (sym links))
        ] in
        sym f.2 ∙ names ∙ g.2;
  }

  -- law 4 by names
  present_of : (page : ℕ) → 0 < newest l page → (cur p l logical page ≡ 0)
      ⊎ (is_present l (current_name p l logical page) ≡ true)
  present_of page has =
      let f = found_named l (newest_name l page) (newest_present l page has) in
      let law = All-contains (CurrentIsPresent p l logical) l f.0 (sound Present) f.1 in
      let at_page : f.0.rec.page ≡ page = ap (λ n. n.page) f.2 in
      let at : f.0.rec.version ≡ newest l f.0.rec.page = ap (λ n. n.version) f.2 ∙ ap (newest l) (sym at_page) in
      subst (λ q. (cur p l logical q ≡ 0) ⊎ (is_present l (current_name p l logical q) ≡ true)) at_page (law at)

-- law 5 by names, from a record of the name
counted_at : (p : Protocol) (l : List Found) (logical : ℕ) (u : Link) (f : Found) → LinkHasCounted p l logical f →
    name_of f.rec ≡ u →
    f.rec.next ≡ link_of l u →
    u.version ≡ cur p l logical u.page → ((link_of l u).version ≤ cur p l logical (link_of l u).page)
    × (is_clear p l (link_of l u) ≡ true)
unfolding LinkHasCounted
counted_at Scc l logical u f law e k at = (
  subst (λ q. q.version ≤ cur Scc l logical q.page) k
      (law (subst (λ n. n.version ≡ cur Scc l logical n.page) (sym e) at)),
  refl,
)
counted_at Bpcc l logical u f law e k at =
    let h = law (subst (λ n. n.version ≡ cur Bpcc l logical n.page) (sym e) at) in (
      subst (λ q. q.version ≤ cur Bpcc l logical q.page) k h.0,
      clear_from l (link_of l u) (subst (λ q. straddling l q ≡ 0) k h.1),
    )

-- and back to a record
counted_back : (p : Protocol) (l : List Found) (logical : ℕ) (f : Found) → f.rec.next ≡ link_of l (name_of f.rec) →
    (f.rec.version ≡ cur p l logical f.rec.page →
    ((link_of l (name_of f.rec)).version ≤ cur p l logical (link_of l (name_of f.rec)).page) ×
    (is_clear p l (link_of l (name_of f.rec)) ≡ true)) →
    LinkHasCounted p l logical f
unfolding LinkHasCounted
counted_back Scc l logical f k law = λ at. subst (λ q. q.version ≤ cur Scc l logical q.page) (sym k) (law at).0
counted_back Bpcc l logical f k law = λ at. (
  subst (λ q. q.version ≤ cur Bpcc l logical q.page) (sym k) (law at).0,
  subst (λ q. straddling l q ≡ 0) (sym k)
      (clear_gives l (link_of l (name_of f.rec)) (law at).1),
)

-- law 6
loose_names : (p : Protocol) (l : List Found) (logical : ℕ) →
    ((f : Found) → Contains l f → LooseIsShown p l logical f) → LooseNames p l logical
unfolding LooseIsShown
loose_names Scc l logical h = tt
loose_names Bpcc l logical h = λ u here at.
    let f = found_named l u here in
    let law = h f.0 f.1 (subst (λ n. cur Bpcc l logical n.page < n.version) (sym f.2) at) in (
      sym f.4 ∙ law.0 ∙ ap (λ n. cur Bpcc l logical n.page) f.2,
      subst (λ q. q.version ≢ cur Bpcc l logical q.page) f.3 law.1,
      subst (λ q. q.version < cur Bpcc l logical q.page → responsible Bpcc l logical q ≢ 0) f.3 law.2,
    )

-- and back to a record
loose_back : (p : Protocol) (l : List Found) (logical : ℕ) → LooseNames p l logical → (f : Found) → Contains l f →
    f.rec.next ≡ link_of l (name_of f.rec) → f.rec.back ≡ back_of l (name_of f.rec) → LooseIsShown p l logical f
unfolding LooseIsShown
loose_back Scc l logical h f i k b = tt
loose_back Bpcc l logical h f i k b = λ at.
    let law = h (name_of f.rec) (present_in l f i) at in (
      b ∙ law.0,
      subst (λ q. q.version ≢ cur Bpcc l logical q.page) (sym k) law.1,
      subst (λ q. q.version < cur Bpcc l logical q.page → responsible Bpcc l logical q ≢ 0) (sym k) law.2,
    )

-- law 7
ending_names : (p : Protocol) (l : List Found) (logical : ℕ) → ((f : Found) → Contains l f → LooseEnds p l logical f) →
    EndingNames p l logical
unfolding LooseEnds
ending_names Scc l logical h = tt
ending_names Bpcc l logical h = λ u here at.
    let f = found_named l u here in
    subst (λ q. ((n : ℕ) × (is_present l (follow l q n) ≡ false))) f.3
    (h f.0 f.1 (subst (λ n. cur Bpcc l logical n.page < n.version) (sym f.2) at))

-- and back to a record
ending_back : (p : Protocol) (l : List Found) (logical : ℕ) → EndingNames p l logical → (f : Found) → Contains l f →
    f.rec.next ≡ link_of l (name_of f.rec) → LooseEnds p l logical f
unfolding LooseEnds
ending_back Scc l logical h f i k = tt
ending_back Bpcc l logical h f i k = λ at.
    subst (λ q. ((n : ℕ) × (is_present l (follow l q n) ≡ false))) (sym k) (h (name_of f.rec) (present_in l f i) at)

-- a sound list is sound by names
pub sound_map : (p : Protocol) (l : List Found) (logical : ℕ) → IsSoundList p l logical → IsScanned l →
    IsSoundMap p l logical
sound_map p l logical sound scanned = record {
  copies = copies_of p l logical sound scanned;
  linked = linked_of p l logical sound scanned;
  present = present_of p l logical sound scanned;
  counted = λ u here at.
      let f = found_named l u here in
      counted_at p l logical u f.0 (All-contains (LinkHasCounted p l logical) l f.0 (sound Counted) f.1) f.2 f.3 at;
  loose = loose_names p l logical (λ f i. All-contains (LooseIsShown p l logical) l f (sound Loose) i);
  ending = ending_names p l logical (λ f i. All-contains (LooseEnds p l logical) l f (sound Ending) i);
}

-- and back
pub sound_list : (p : Protocol) (l : List Found) (logical : ℕ) → IsSoundMap p l logical → IsSoundList p l logical
sound_list p l logical m Pages = all_from (PagesExist logical) l (λ f i.
    let law = m.linked.pages (name_of f.rec) (present_in l f i) in
    (law.0, subst (λ q. q.page < logical) (sym (map_link m f i)) law.1))
sound_list p l logical m Copies = all_from (CopiesAgree l) l (λ f i.
    all_from (λ g. g.slot.0 < f.slot.0 → name_of g.rec ≡ name_of f.rec → g.rec ≡ f.rec) l (λ g j less e.
    m.copies g j ∙ ap (record_named l) e ∙ sym (m.copies f i)))
sound_list p l logical m Links = all_from (LinksDiffer l) l (λ f i.
    all_from (λ g. g.slot.0 < f.slot.0 → g.rec.next ≡ f.rec.next → name_of g.rec ≡ name_of f.rec) l (λ g j less e.
    m.linked.once (name_of g.rec) (name_of f.rec) (present_in l g j) (present_in l f i) (sym (map_link m g j) ∙ e
    ∙ (map_link m f i))))
sound_list p l logical m Present = all_from (CurrentIsPresent p l logical) l (λ f i at.
    let positive = (m.linked.versions (name_of f.rec) (present_in l f i)).0 in
    m.present f.rec.page (omega arith))
sound_list p l logical m Counted = all_from (LinkHasCounted p l logical) l (λ f i.
    counted_back p l logical f (map_link m f i) (m.counted (name_of f.rec) (present_in l f i)))
sound_list p l logical m Loose = all_from (LooseIsShown p l logical) l (λ f i.
    loose_back p l logical m.loose f i (map_link m f i) (map_back m f i))
sound_list p l logical m Ending = all_from (LooseEnds p l logical) l (λ f i.
    ending_back p l logical m.ending f i (map_link m f i))
