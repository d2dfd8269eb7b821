-- How many of some operations are programs, and how many are erases, by what a flash counts.
use Rattle.cut_replay.proofs.Common.{◌≡◌, ℕ, ◌+◌, ◌<◌, ◌≤◌, Bool, true, false, not, List, [], ◌∷◌, ◌++◌, length, ap, arith, Shape, Moment}
use Rattle.std.proofs.Common.{◌^◌, ◌==◌}
use Rattle.std.specs.Prelude.{if◌then◌else◌}
use Rattle.flash_model.specs.Operations.{Operation, Load, program, erase, fire, after, starts_in}
use Rattle.flash_model.specs.Moves.{Does}

abbrev pub programs_in : List Operation → ℕ
programs_in [] = 0
programs_in (program at bytes spare ∷ rest) = 1 + programs_in rest
programs_in (erase block ∷ rest) = programs_in rest
programs_in (fire loads ∷ rest) = length loads + programs_in rest

abbrev pub erases_in : List Operation → ℕ
erases_in [] = 0
erases_in (program at bytes spare ∷ rest) = erases_in rest
erases_in (erase block ∷ rest) = 1 + erases_in rest
erases_in (fire loads ∷ rest) = erases_in rest

-- of two lists
pub programs_append : (xs ys : List Operation) → programs_in (xs ++ ys) ≡ programs_in xs + programs_in ys
programs_append [] ys = (let e : programs_in ys ≡ 0 + programs_in ys = omega arith in e)
programs_append (program at bytes spare ∷ rest) ys =
    let later = programs_append rest ys in
    let e : 1 + programs_in (rest ++ ys) ≡ 1 + programs_in rest + programs_in ys = omega (arith, later) in
    e
programs_append (erase block ∷ rest) ys = programs_append rest ys
programs_append (fire loads ∷ rest) ys =
    let later = programs_append rest ys in
    let e : length loads + programs_in (rest ++ ys) ≡ length loads + programs_in rest + programs_in ys =
    omega (arith, later) in
    e

pub erases_append : (xs ys : List Operation) → erases_in (xs ++ ys) ≡ erases_in xs + erases_in ys
erases_append [] ys = (let e : erases_in ys ≡ 0 + erases_in ys = omega arith in e)
erases_append (program at bytes spare ∷ rest) ys = erases_append rest ys
erases_append (erase block ∷ rest) ys =
    let later = erases_append rest ys in
    let e : 1 + erases_in (rest ++ ys) ≡ 1 + erases_in rest + erases_in ys = omega (arith, later) in
    e
erases_append (fire loads ∷ rest) ys = erases_append rest ys

-- the counts rise by no more
pub record Counts (old new : Moment) (list : List Operation) : Type 0 where
  pub programs : new.programs ≤ old.programs + programs_in list
  pub erases : new.erases ≤ old.erases + erases_in list

pub counts : (shape : Shape) (old new : Moment) (list : List Operation) → Does shape old list new →
    Counts old new list
counts shape old new [] does = record {
  programs = (let same = ap (λ (m : Moment). m.programs) does in omega (arith, same));
  erases = (let same = ap (λ (m : Moment). m.erases) does in omega (arith, same));
}
counts shape old new (program at bytes spare ∷ rest) does =
    let h = counts shape (after shape old (program at bytes spare)) new rest does.1 in
    record {
      programs = (let low = h.programs in omega (arith, low));
      erases = (let low = h.erases in omega (arith, low));
    }
counts shape old new (erase block ∷ rest) does =
    let h = counts shape (after shape old (erase block)) new rest does.1 in
    record {
      programs = (let low = h.programs in omega (arith, low));
      erases = (let low = h.erases in omega (arith, low));
    }
counts shape old new (fire loads ∷ rest) does =
    let h = counts shape (after shape old (fire loads)) new rest does.1 in
    record {
      programs = (let low = h.programs in omega (arith, low));
      erases = (let low = h.erases in omega (arith, low));
    }

-- and by as much, where they do not come to the end of their type
pub programs_exact : (shape : Shape) (old new : Moment) (list : List Operation) → Does shape old list new →
    new.programs + 1 < 2 ^ 64 → old.programs + programs_in list ≡ new.programs
programs_exact shape old new [] does small =
    (let same = ap (λ (m : Moment). m.programs) does in omega (arith, same))
programs_exact shape old new (program at bytes spare ∷ rest) does small =
    (let h = programs_exact shape (after shape old (program at bytes spare)) new rest does.1 small in
    omega (arith, h, small))
programs_exact shape old new (erase block ∷ rest) does small =
    programs_exact shape (after shape old (erase block)) new rest does.1 small
programs_exact shape old new (fire loads ∷ rest) does small =
    (let h = programs_exact shape (after shape old (fire loads)) new rest does.1 small in
    omega (arith, h, small))

pub erases_exact : (shape : Shape) (old new : Moment) (list : List Operation) → Does shape old list new →
    new.erases + 1 < 2 ^ 64 → old.erases + erases_in list ≡ new.erases
erases_exact shape old new [] does small =
    (let same = ap (λ (m : Moment). m.erases) does in omega (arith, same))
erases_exact shape old new (program at bytes spare ∷ rest) does small =
    erases_exact shape (after shape old (program at bytes spare)) new rest does.1 small
erases_exact shape old new (erase block ∷ rest) does small =
    (let h = erases_exact shape (after shape old (erase block)) new rest does.1 small in
    omega (arith, h, small))
erases_exact shape old new (fire loads ∷ rest) does small =
    erases_exact shape (after shape old (fire loads)) new rest does.1 small

-- a fire of several programs is started once
once_started : (b : Bool) (n : ℕ) → 1 ≤ n → (if b then 1 else 0) ≤ n
once_started true n some = some
once_started false n some = omega arith

fire_starts : (loads : List Load) → (if not (length loads == 0) then 1 else 0) ≤ length loads
fire_starts [] = omega arith
fire_starts (load ∷ loads) =
    once_started (not (length (load ∷ loads) == 0)) (length (load ∷ loads)) (omega arith)

pub starts_counted : (list : List Operation) → starts_in list ≤ programs_in list + erases_in list
starts_counted [] = omega arith
starts_counted (program at bytes spare ∷ rest) = (let later = starts_counted rest in omega (arith, later))
starts_counted (erase block ∷ rest) = (let later = starts_counted rest in omega (arith, later))
starts_counted (fire loads ∷ rest) =
    (let later = starts_counted rest in let first = fire_starts loads in omega (arith, later, first))
