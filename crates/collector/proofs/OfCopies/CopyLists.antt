-- The slots that are copied, one more at a time: their programs, and what is noted then.
use Rattle.collector.proofs.Common.{◌≡◌, ℕ, ◌+◌, List, [], ◌∷◌, ◌++◌, length, refl, ap, ap₂, ◌∙◌, arith, Contains, Contains-first, Contains-rest, Contents, slot_at, spare_area_of, program, IndexState, copied, copy_program, copies, copied_from}
use Rattle.flash_model.specs.Calls.{page_of}

-- one slot more
pub copied_more : (n : IndexState) (to : ℕ) (list : List ℕ) (x : ℕ) →
    copied_from n to (list ++ x ∷ []) ≡ copied (copied_from n to list) x (to + length list)
copied_more n to [] x = ap (copied n x) (let at : to ≡ to + 0 = omega arith in at)
copied_more n to (y ∷ ys) x =
    copied_more (copied n y to) (to + 1) ys x
    ∙ ap (copied (copied_from (copied n y to) (to + 1) ys) x)
    (let at : to + 1 + length ys ≡ to + length (y ∷ ys) = omega arith in at)

pub copies_more : (size : ℕ) (image : List Contents) (to : ℕ) (list : List ℕ) (x : ℕ) →
    copies size image to (list ++ x ∷ []) ≡ copies size image to list
    ++ copy_program size image (to + length list) x ∷ []
copies_more size image to [] x = ap (λ k. copy_program size image k x ∷ []) (let at : to ≡ to + 0 = omega arith in at)
copies_more size image to (y ∷ ys) x =
    ap (λ l. copy_program size image to y ∷ l)
    (copies_more size image (to + 1) ys x
    ∙ ap (λ k. copies size image (to + 1) ys ++ copy_program size image k x ∷ [])
    (let at : to + 1 + length ys ≡ to + length (y ∷ ys) = omega arith in at))

-- images that agree on the slots give the same programs
pub copies_same : (size : ℕ) (a b : List Contents) (to : ℕ) (list : List ℕ) →
    ((x : ℕ) → Contains list x → slot_at a x ≡ slot_at b x) →
    copies size a to list ≡ copies size b to list
copies_same size a b to [] h = refl
copies_same size a b to (x ∷ xs) h =
    ap₂ (λ o l. o ∷ l) (ap (λ c. program to (page_of size c) (spare_area_of c)) (h x (Contains-first x xs)))
    (copies_same size a b (to + 1) xs (λ y i. h y (Contains-rest x xs y i)))
