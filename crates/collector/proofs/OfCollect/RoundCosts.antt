-- What the copies of a collection cost.
use Rattle.collector.proofs.Common.{◌≡◌, ℕ, ◌+◌, ◌≤◌, List, [], ◌∷◌, length, refl, ap, arith, Shape, FlashState, Contents, Operation, program, erase, Moment, moment_of, Does, copies}
use Rattle.flash_model.specs.Operations.{fire, after}

-- how many of some operations are programs, and how many are erases
programs : List Operation → ℕ
programs [] = 0
programs (program at bytes spare ∷ rest) = 1 + programs rest
programs (erase block ∷ rest) = programs rest
programs (fire loads ∷ rest) = length loads + programs rest

erases : List Operation → ℕ
erases [] = 0
erases (program at bytes spare ∷ rest) = erases rest
erases (erase block ∷ rest) = 1 + erases rest
erases (fire loads ∷ rest) = erases rest

-- the counts rise by no more than that
record Counts (a b : Moment) (list : List Operation) : Type 0 where
  programmed : b.programs ≤ a.programs + programs list
  erased : b.erases ≤ a.erases + erases list

counts : (shape : Shape) (a b : Moment) (list : List Operation) → Does shape a list b → Counts a b list
unfolding programs erases
counts shape a b [] does = record {
  programmed = (let same = ap (λ (m : Moment). m.programs) does in omega arith);
  erased = (let same = ap (λ (m : Moment). m.erases) does in omega arith);
}
counts shape a b (program at bytes spare ∷ rest) does =
    let h = counts shape (after shape a (program at bytes spare)) b rest does.1 in
    record {
      programmed = (let low = h.programmed in omega arith);
      erased = (let low = h.erased in omega arith);
    }
counts shape a b (erase block ∷ rest) does =
    let h = counts shape (after shape a (erase block)) b rest does.1 in
    record {
      programmed = (let low = h.programmed in omega arith);
      erased = (let low = h.erased in omega arith);
    }
counts shape a b (fire loads ∷ rest) does =
    let h = counts shape (after shape a (fire loads)) b rest does.1 in
    record {
      programmed = (let low = h.programmed in omega arith);
      erased = (let low = h.erased in omega arith);
    }

programs-copies : (page_bytes : ℕ) (image : List Contents) (to : ℕ) (slots : List ℕ) →
    programs (copies page_bytes image to slots) ≡ length slots
unfolding programs
programs-copies page_bytes image to [] = refl
programs-copies page_bytes image to (from ∷ rest) = (let h = programs-copies page_bytes image (to + 1) rest in
    omega arith)

erases-copies : (page_bytes : ℕ) (image : List Contents) (to : ℕ) (slots : List ℕ) →
    erases (copies page_bytes image to slots) ≡ 0
unfolding erases
erases-copies page_bytes image to [] = refl
erases-copies page_bytes image to (from ∷ rest) = erases-copies page_bytes image (to + 1) rest

-- what copies cost
module _ (s s' : FlashState) (page_bytes : ℕ) (image : List Contents) (to : ℕ) (slots : List ℕ)
    (does : Does s.shape (moment_of s) (copies page_bytes image to slots) (moment_of s')) where
  pub copies_programs : s'.programs ≤ s.programs + length slots
  copies_programs =
      let count = (counts s.shape (moment_of s) (moment_of s') (copies page_bytes image to slots) does).programmed in
      omega (arith, count, programs-copies page_bytes image to slots)

  pub copies_erases : s'.erases ≤ s.erases
  copies_erases =
      let count = (counts s.shape (moment_of s) (moment_of s') (copies page_bytes image to slots) does).erased in
      omega (arith, count, erases-copies page_bytes image to slots)
