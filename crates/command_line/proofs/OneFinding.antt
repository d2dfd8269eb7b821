-- A check and a comparison find one thing.
use Rattle.std.proofs.Common.{◌≡◌, ◌⊎◌, inl, inr, ℕ, ◌<◌, List, take, get_or, slice_index, Option, None, Result, Ok, Err, refl, sym, ap, ap₂, subst, ◌∙◌}
use Rattle.std.proofs.lemmas.Bool.{cases_order}
use Rattle.std.proofs.lemmas.List.{get_or-take}
use Rattle.tx_types.specs.declared.config.Config.{Config}
use Rattle.flash_model.specs.Flash.{Contents}
use Rattle.array_machine.specs.ArrayState.{Pages, page_at}
use Rattle.lane_scan.specs.Scans.{DifferFirstAt}
use Rattle.verdict_check.specs.Texts.{IsFirstDifference}
use Rattle.desk_tasks.specs.Checking.{Checks, Comparison, OneArray, Shapes, BlankAt, ByteAt, Compares, IsFirstPage, DifferAtByte}

-- a text differs from another first in one line
one_line : (want given : List ℕ) (j k : ℕ) → IsFirstDifference want given j → IsFirstDifference want given k → j ≡ k
one_line want given j k a b = elim (cases_order j k) [
  | inl same ↦ same
  | inr (inl less) ↦ absurd (a.differs (b.same j a.counted less))
  | inr (inr more) ↦ absurd (b.differs (a.same k b.counted more))
]

not_itself : (text : List ℕ) (k : ℕ) → IsFirstDifference text text k → ⊥
not_itself text k a = a.differs refl

pub one_check : (its : Config) (image : List Contents) (text : List ℕ) (p q : Result ℕ ℕ) → Checks its image text p →
    Checks its image text q → p ≡ q
one_check its image text (Ok m) (Ok n) h k = ap (λ n. Ok n) (h.1 ∙ sym k.1)
one_check its image text (Ok m) (Err k) h d =
    absurd (not_itself text k (subst (λ t. IsFirstDifference t text k) (sym h.0) d))
one_check its image text (Err k) (Ok n) d h =
    absurd (not_itself text k (subst (λ t. IsFirstDifference t text k) (sym h.0) d))
one_check its image text (Err j) (Err k) h d = ap (λ n. Err n) (one_line _ text j k h d)

-- two arrays differ first in one page
one_page : (a b : Pages) (p q : ℕ) → IsFirstPage a b p → IsFirstPage a b q → p ≡ q
one_page a b p q h k = elim (cases_order p q) [
  | inl same ↦ same
  | inr (inl less) ↦ absurd (h.here (k.before p less))
  | inr (inr more) ↦ absurd (k.here (h.before q more))
]

-- and two values of a page in one byte
before_equal : (a b : List ℕ) (at k : ℕ) → take at a ≡ take at b → k < at → slice_index a k ≡ slice_index b k
before_equal a b at k e less = sym (get_or-take at a k 0 less) ∙ ap (λ bs. get_or bs k 0) e ∙ get_or-take at b k 0 less

one_byte : (a b : List ℕ) (i j : ℕ) → DifferFirstAt a b i → DifferFirstAt a b j → i ≡ j
one_byte a b i j h k = elim (cases_order i j) [
  | inl same ↦ same
  | inr (inl less) ↦ absurd (h.here (before_equal a b j i k.before less))
  | inr (inr more) ↦ absurd (k.here (before_equal a b i j h.before more))
]

one_at : (a b : Option (List ℕ)) (i j : ℕ) → DifferAtByte a b i → DifferAtByte a b j → i ≡ j
one_at a b i j h k =
    let first : h.bytes ≡ k.bytes = (let e = h.first in let f = k.first in cc) in
    let second : h.others ≡ k.others = (let e = h.second in let f = k.second in cc) in
    one_byte k.bytes k.others i j (subst (λ x. DifferFirstAt x k.others i) first
    (subst (λ x. DifferFirstAt h.bytes x i) second h.differ)) k.differ

not_blank : (a b : Option (List ℕ)) (i : ℕ) → DifferAtByte a b i → (a ≡ None) ⊎ (b ≡ None) → ⊥
not_blank a b i h (inl none) = absurd (let e = h.first in cc)
not_blank a b i h (inr none) = absurd (let e = h.second in cc)

-- a comparison comes to one thing
pub one_comparison : (a : Config) (image : List Contents) (b : Config) (other : List Contents) (x y : Comparison) →
    Compares a image b other x → Compares a image b other y → x ≡ y
one_comparison a image b other OneArray OneArray h k = refl
one_comparison a image b other OneArray Shapes h k = absurd (k h.0)
one_comparison a image b other OneArray (BlankAt p) h k = absurd (k.2.here (ap (λ pages. page_at pages p) h.1))
one_comparison a image b other OneArray (ByteAt p i) h k = absurd (k.2.here (ap (λ pages. page_at pages p) h.1))
one_comparison a image b other Shapes OneArray h k = absurd (h k.0)
one_comparison a image b other Shapes Shapes h k = refl
one_comparison a image b other Shapes (BlankAt p) h k = absurd (h k.0)
one_comparison a image b other Shapes (ByteAt p i) h k = absurd (h k.0)
one_comparison a image b other (BlankAt p) OneArray h k = absurd (h.2.here (ap (λ pages. page_at pages p) k.1))
one_comparison a image b other (BlankAt p) Shapes h k = absurd (k h.0)
one_comparison a image b other (BlankAt p) (BlankAt q) h k = ap BlankAt (one_page _ _ p q h.2 k.2)
one_comparison a image b other (BlankAt p) (ByteAt q i) h k =
    absurd (let same = one_page _ _ p q h.2 k.2 in not_blank _ _ i k.3 (rw same at h.3))
one_comparison a image b other (ByteAt p i) OneArray h k = absurd (h.2.here (ap (λ pages. page_at pages p) k.1))
one_comparison a image b other (ByteAt p i) Shapes h k = absurd (k h.0)
one_comparison a image b other (ByteAt p i) (BlankAt q) h k =
    absurd (let same = one_page _ _ q p k.2 h.2 in not_blank _ _ i h.3 (rw same at k.3))
one_comparison a image b other (ByteAt p i) (ByteAt q j) h k =
    let same = one_page _ _ p q h.2 k.2 in ap₂ ByteAt same (one_at _ _ i j (rw same at h.3) k.3)
