-- What a device needs to open a transaction and to ask for its records: by the places of the names, and by mentions.
use Rattle.record_list.proofs.Common.{◌≡◌, ℕ, ◌+◌, ◌<◌, false, List, [], ◌∷◌, length, get_or, All, Any, Contains, refl, sym, ap, ◌∙◌, subst, inl, inr, eq-eqb, add-one, arith, cases_order, cases_eq, cases_Bool, cond-true, cond-false, All-contains, all_from, Link, Rec, Protocol, Found, mention_at, name_of, is_present, next_names, back_version, IsAsked, InProgress, IsAskedAt}
use Rattle.std.specs.Prelude.{◌==◌, if◌then◌else◌}
use Rattle.std.specs.List.{zip}
use Rattle.std.proofs.lemmas.Bool.{ne_eqb}
use Rattle.std.proofs.lemmas.List.{get_or_default, get_or_append_left, get_or_push}
use Rattle.std.proofs.lemmas.Slice.Zip.{length-zip, get_or-zip}
use Rattle.record_list.specs.Records.{mention}
use Rattle.record_list.specs.Transaction.{IsTransaction}
use Rattle.record_list.proofs.OfChanges.Progress.{mention_parts}
use Rattle.record_list.proofs.OfFacts.Names.{greatest_bound, found_named}

-- the place of the name that follows the k-th one
abbrev pub following : List Link → ℕ → ℕ
following names k = if k + 1 == length names then 0 else k + 1

-- a place in two lists side by side is one in each
zip_within : (xs ys : List Link) (i : ℕ) → i < length (zip xs ys) → (i < length xs) × (i < length ys)
zip_within xs ys i h = let shorter = length-zip xs ys in (omega arith, omega arith)

-- a record is as a transaction asks where it has the k-th name, the link to the one that follows, the back version and
-- the count
pub asked_at : (p : Protocol) (l : List Found) (logical : ℕ) (names : List Link) (k : ℕ) (r : Rec) (d : Link) →
    IsTransaction logical names →
    k < length names → name_of r ≡ get_or names k d → r.next ≡ get_or (next_names names) k d →
    r.back ≡ back_version p l logical r.page →
    r.count ≡ length names → IsAsked p l logical names r
asked_at p l logical names k r d transaction within named next back count i dd inside =
    let both = zip_within names (next_names names) i inside in
    subst (IsAskedAt p l logical names r)
    (sym (get_or-zip names (next_names names) i dd both.0 both.1))
    (λ same.
    let page : (get_or names i d).page ≡ (get_or names k d).page =
    ap (λ (n : Link). n.page) (get_or_default names i d dd.0 both.0 ∙ sym same ∙ named) in
    let at : i ≡ k = elim (cases_order i k) [
      | inl is ↦ is
      | inr other ↦ elim other [
        | inl before ↦ absurd (transaction.distinct i k d before within page)
        | inr after ↦ absurd (transaction.distinct k i d after both.0 (sym page))
      ]
    ] in (
      next ∙ ap (λ n. get_or (next_names names) n d) (sym at) ∙ get_or_default (next_names names) i d dd.1 both.1,
      back ∙ ap (λ (n : Link). back_version p l logical n.page) same,
      count,
    ))

-- the name that follows, by its place
pub rounded_at : (names : List Link) (k : ℕ) (d : Link) → k < length names →
    get_or (next_names names) k d ≡ get_or names (following names k) d
rounded_at [] k d within = absurd (omega arith)
rounded_at (a ∷ rest) k d within = elim (cases_eq (k + 1) (length (a ∷ rest))) [
  | inl last ↦
      (let at : length rest ≡ k = omega arith in
      get_or_push rest a d k at
      ∙ sym (ap (λ n. get_or (a ∷ rest) n d) (cond-true (k + 1 == length (a ∷ rest)) 0 (k + 1)
      (eq-eqb (k + 1) (length (a ∷ rest)) last))))
  | inr more ↦
      (let inside : k < length rest = omega arith in
      get_or_append_left rest (a ∷ []) d k inside
      ∙ sym (ap (λ n. get_or (a ∷ rest) n d) (cond-false (k + 1 == length (a ∷ rest)) 0 (k + 1)
      (ne_eqb (k + 1) (length (a ∷ rest)) more) ∙ add-one k)))
]

-- a fact that holds of each name of a list that is not empty holds of some
some_of_all : (P : Link → Type 0) (names : List Link) → 0 < length names → All P names → Any P names
some_of_all P [] some all = absurd (omega arith)
some_of_all P (a ∷ rest) some all = (0, a, some, refl, all 0 a some)

-- a transaction whose pages are mentioned only below its versions is in progress: no record of it is written yet
pub begins : (p : Protocol) (l : List Found) (logical : ℕ) (names : List Link) → IsTransaction logical names →
    0 < length names →
    All (λ a. mention l a.page < a.version) names → InProgress p l logical names
begins p l logical names transaction some below =
    let lower : (f : Found) → Contains l f → (a : Link) → Contains names a →
    mention_at a.page f.rec < a.version = λ f i a j.
    let bound = greatest_bound (mention_at a.page) l f i in
    let less = All-contains (λ b. mention l b.page < b.version) names a below j in
    omega arith in
    let no_record : (f : Found) → Contains l f → (a : Link) → Contains names a → name_of f.rec ≡ a → ⊥ = λ f i a j same.
    let less = (mention_parts f.rec a (lower f i a j)).0 (ap (λ (n : Link). n.page) same) in
    let version : f.rec.version ≡ a.version = ap (λ (n : Link). n.version) same in
    omega arith in
    record {
      begun = record {
        transaction = transaction;
        asked = all_from (λ f. IsAsked p l logical names f.rec) l (λ f i k dd inside same.
            let both = zip_within names (next_names names) k inside in
            let a = get_or names k dd.0 in
            let is : (get_or (zip names (next_names names)) k dd).0 ≡ a = ap (λ (pair : Link × Link). pair.0)
            (get_or-zip names (next_names names) k dd both.0 both.1) in
            absurd (no_record f i a (k, both.0, get_or_default names k a dd.0 both.0) (same ∙ is)));
        others = all_from (λ f. (Contains names (name_of f.rec) → ⊥) →
            All (λ a. mention_at a.page f.rec < a.version) names) l
            (λ f i none. all_from (λ a. mention_at a.page f.rec < a.version) names (lower f i));
      };
      absent = some_of_all (λ a. is_present l a ≡ false) names some
          (all_from (λ a. is_present l a ≡ false) names (λ a j.
          elim (cases_Bool (is_present l a)) [
            | inl there ↦ (let f = found_named l a there in absurd (no_record f.0 f.1 a j f.2))
            | inr gone ↦ gone
          ]));
    }
