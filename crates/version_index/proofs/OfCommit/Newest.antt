-- The newest record of a page, by the numbers of the page.
use Rattle.version_index.proofs.Common.{◌≡◌, ℕ, ◌≤◌, List, [], ◌∷◌, Contains, Some, None, refl, sym, ap, ◌∙◌, subst, inl, inr, arith, slice_get, none-some, same_Some, Contains-cases, Contains-first, Contains-nil, pairs_head, Rec, newest, TablesState, numbers_at, found_in, rec_at, notes_in, AreHeld}
use Rattle.std.proofs.Common.{AllPairs}
use Rattle.slot_tables.specs.TablesState.{IsNewer, AreVersions}
use Rattle.judged_records.proofs.OfNotes.FoundIn.{found}
use Rattle.judged_records.proofs.OfReadings.Readings.{newest_is, newest_none}
use Rattle.version_index.proofs.OfTables.KeptNotes.{kept_found, found_number}

pub head_of : (xs : List ℕ) (x : ℕ) → slice_get xs 0 ≡ Some x → (ys : List ℕ) × (xs ≡ x ∷ ys)
head_of [] x e = absurd (none-some x e)
head_of (y ∷ ys) x e = (ys, ap (λ z. z ∷ ys) (same_Some y x e))

pub headless : (xs : List ℕ) → slice_get xs 0 ≡ None → xs ≡ []
headless [] e = refl
headless (y ∷ ys) e = absurd (none-some y (sym e))

-- a number of a page stands first or has an older record than the first
pub record IsNewestNumber (k : TablesState) (page x : ℕ) : Type 0 where
  pub rec : Rec
  pub is : rec_at k.records x ≡ Some rec
  pub own_page : rec.page ≡ page
  pub top : newest (found_in (notes_in k)) page ≡ rec.version
  pub most : (y : ℕ) (s : Rec) → rec_at k.records y ≡ Some s → s.page ≡ page → s.version ≤ rec.version

-- the number that stands first at a page, without what was noted
pub record IsHead (k : TablesState) (page x : ℕ) : Type 0 where
  pub rec : Rec
  pub is : rec_at k.records x ≡ Some rec
  pub own_page : rec.page ≡ page
  pub most : (y : ℕ) (s : Rec) → rec_at k.records y ≡ Some s → s.page ≡ page → s.version ≤ rec.version

module _ (k : TablesState) (v : AreVersions k.records k.pages) (page : ℕ) where
  pub head_number : (x : ℕ) → slice_get (numbers_at k.pages page) 0 ≡ Some x → IsHead k page x
  head_number x e =
      let head = head_of (numbers_at k.pages page) x e in
      let own = v.page page x (subst (λ l. Contains l x) (sym head.1) (Contains-first x head.0)) in
      let falls = subst (AllPairs (IsNewer k.records)) head.1 (v.falls page) in
      record {
        rec = own.0;
        is = own.1;
        own_page = own.2;
        most = λ y s is of_page.
            elim (Contains-cases x head.0 y (subst (λ l. Contains l y) head.1
            (subst (λ p. Contains (numbers_at k.pages p) y) of_page (v.listed y s is).1))) [
              | inl same ↦ (
                  let one : s ≡ own.0 = same_Some s own.0 (sym is ∙ ap (rec_at k.records) (sym same) ∙ own.1) in
                  let equal = ap (λ (t : Rec). t.version) one in
                  omega arith)
              | inr later ↦ (let low = pairs_head (IsNewer k.records) x head.0 y falls later own.0 s own.1 is in
                  omega arith)
            ];
      }

  pub no_number : slice_get (numbers_at k.pages page) 0 ≡ None → (y : ℕ) (s : Rec) → rec_at k.records y ≡ Some s →
      s.page ≡ page → ⊥
  no_number e y s is of_page =
      Contains-nil y (subst (λ l. Contains l y) (headless (numbers_at k.pages page) e)
      (subst (λ p. Contains (numbers_at k.pages p) y) of_page (v.listed y s is).1))

module _ (k : TablesState) (h : AreHeld k) (v : AreVersions k.records k.pages) (page : ℕ) where
  pub newest_number : (x : ℕ) → slice_get (numbers_at k.pages page) 0 ≡ Some x → IsNewestNumber k page x
  newest_number x e =
      let head = head_number k v page x e in
      let f = kept_found k h x head.rec head.is in
      record {
        rec = head.rec;
        is = head.is;
        own_page = head.own_page;
        top = ap (newest (found_in (notes_in k))) (sym head.own_page)
            ∙ newest_is (found_in (notes_in k)) (found f.0 head.rec) f.2 (λ g j of_page.
            let number = found_number k h g j in head.most number.number g.rec number.is (of_page ∙ head.own_page));
        most = head.most;
      }

  pub no_newest : slice_get (numbers_at k.pages page) 0 ≡ None → newest (found_in (notes_in k)) page ≡ 0
  no_newest e = newest_none (found_in (notes_in k)) page (λ g j of_page.
      let number = found_number k h g j in no_number k v page e number.number g.rec number.is of_page)
