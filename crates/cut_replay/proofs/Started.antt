-- What a command started, by its operations.
use Rattle.cut_replay.proofs.Common.{◌≡◌, inl, inr, ℕ, ◌+◌, ◌<◌, ◌≤◌, Bool, true, false, List, [], ◌∷◌, ◌++◌, refl, sym, ap, ◌∙◌, arith, Config, FlashState, Moment, moment_of, shape_of, Command, Reply, is_break, MovesBy, Point, IsPoint, IsLost, MountsFlash}
use Rattle.std.proofs.Common.{zero, suc, ◌^◌, ◌-◌, ◌*◌}
use Rattle.std.specs.Prelude.{if◌then◌else◌}
use Rattle.tx_types.specs.declared.config.Shape.{Shape}
use Rattle.flash_model.specs.Flash.{counted, counted_times}
use Rattle.flash_model.specs.Operations.{Operation, Load, CanDo, fire, starts, starts_in, started_after}
use Rattle.flash_model.specs.Moves.{Does, Ends, FireEnds, Moves, MovesTogether}
use Rattle.flash_model.specs.declared.outcome.Outcome.{Outcome}
use Rattle.flash_model.proofs.ComingLemmas.{counted_times-then}
use Rattle.flash_model.proofs.MoveLemmas.{Does-started}
use Rattle.host_protocol.specs.declared.reply.Reply.TheVariants as reply
use Rattle.cut_replay.specs.Costs.{CostsAtMost, CostsCollection}
use Rattle.cut_replay.specs.CutsDue.{CutIsDue}
use Rattle.cut_replay.specs.FlashRun.{is_together}
use Rattle.cut_replay.specs.Started.{broken_in, operations_of, operations_by, operations_in}
use Rattle.cut_replay.proofs.Counting.{programs_exact, erases_exact, starts_counted}
use Rattle.cut_replay.proofs.Due.{comes_in_calls}

-- one operation
once : (some : Bool) (n : ℕ) → (if some then counted n else n) ≡ counted_times ((if some then 1 else 0) + 0) n
once true n = refl
once false n = refl

started_once : (o : Operation) (n : ℕ) → started_after o n ≡ counted_times (starts_in (o ∷ [])) n
started_once o n = once (starts o) n

-- two lists
starts_append : (xs ys : List Operation) → starts_in (xs ++ ys) ≡ starts_in xs + starts_in ys
starts_append [] ys = let e : starts_in ys ≡ 0 + starts_in ys = omega arith in e
starts_append (o ∷ rest) ys =
    let later = starts_append rest ys in
    let e : (if starts o then 1 else 0) + starts_in (rest ++ ys)
    ≡ (if starts o then 1 else 0) + starts_in rest + starts_in ys = omega (arith, later) in
    e

started_append : (xs ys : List Operation) (a b c : ℕ) → b ≡ counted_times (starts_in xs) a →
    c ≡ counted_times (starts_in ys) b → c ≡ counted_times (starts_in (xs ++ ys)) a
started_append xs ys a b c first second =
    second ∙ ap (counted_times (starts_in ys)) first ∙ counted_times-then (starts_in xs) (starts_in ys) a
    ∙ ap (λ n. counted_times n a) (sym (starts_append xs ys))

-- the one that was broken
ends_started : (shape : Shape) (old new : Moment) (broken : Bool) → (ends : Ends shape old broken new) →
    new.started ≡ counted_times (starts_in (broken_in shape old broken new ends)) old.started
ends_started shape old new false ends = ap (λ (m : Moment). m.started) ends
ends_started shape old new true (inl same) = ap (λ (m : Moment). m.started) same
ends_started shape old new true (inr torn) = torn.3.1 ∙ started_once torn.0 old.started

moves_started : (shape : Shape) (old new : Moment) (broken : Bool) → (moves : Moves shape old broken new) →
    new.started ≡ counted_times (starts_in (operations_of shape old broken new moves)) old.started
moves_started shape old new broken moves =
    started_append moves.done (broken_in shape moves.between broken new moves.ends) old.started
    moves.between.started new.started (Does-started shape old moves.between moves.done moves.does)
    (ends_started shape moves.between new broken moves.ends)

-- several programs that were started together
fire_started : (shape : Shape) (old new : Moment) (loads : List Load) (broken : Bool) →
    FireEnds shape old loads broken new → new.started ≡ started_after (fire loads) old.started
fire_started shape old new loads false ends = ap (λ (m : Moment). m.started) ends
fire_started shape old new loads true ends = ends.1

together_started : (together : Bool) (shape : Shape) (old new : Moment) (broken : Bool) →
    (moves : MovesTogether together shape old broken new) →
    new.started ≡ counted_times (starts_in (operations_by together shape old broken new moves)) old.started
together_started false shape old new broken moves = moves_started shape old new broken moves
together_started true shape old new broken (inl moves) = moves_started shape old new broken moves
together_started true shape old new broken (inr fires) =
    started_append (operations_of shape old false fires.between fires.moves) (fire fires.loads ∷ []) old.started
    fires.between.started new.started (moves_started shape old fires.between false fires.moves)
    (fire_started shape fires.between new fires.loads broken fires.ends
    ∙ started_once (fire fires.loads) fires.between.started)

pub command_started : (its : Config) (c : Command) (r : Reply) (old new : Moment) → (by : MovesBy its c r old new) →
    new.started ≡ counted_times (starts_in (operations_in its c r old new by)) old.started
command_started its c r old new by = together_started (is_together c) (shape_of its) old new (is_break r) by.moves

-- ---- how many there are, by the programs and erases that are counted

list_few : (shape : Shape) (old new : Moment) (list : List Operation) → Does shape old list new →
    new.programs + 1 < 2 ^ 64 → new.erases + 1 < 2 ^ 64 →
    (old.programs + old.erases + starts_in list ≤ new.programs + new.erases)
    × ((old.programs + 1 < 2 ^ 64) × (old.erases + 1 < 2 ^ 64))
list_few shape old new list does low high =
    let programs = programs_exact shape old new list does low in
    let erases = erases_exact shape old new list does high in
    let most = starts_counted list in (
      omega (arith, programs, erases, most),
      (omega (arith, programs, low), omega (arith, erases, high)),
    )

-- one that is broken is not counted
one_start : (b : Bool) → (if b then 1 else 0) + 0 ≤ 1
one_start true = omega arith
one_start false = omega arith

-- operations that may end in one that was broken
record EndsFew (mid new : Moment) (broken : Bool) (ends : List Operation) : Type 0 where
  programs : new.programs ≡ mid.programs
  erases : new.erases ≡ mid.erases
  few : starts_in ends ≤ (if broken then 1 else 0)

ends_few : (shape : Shape) (old new : Moment) (broken : Bool) → (ends : Ends shape old broken new) →
    EndsFew old new broken (broken_in shape old broken new ends)
ends_few shape old new false ends = record {
  programs = ap (λ (m : Moment). m.programs) ends;
  erases = ap (λ (m : Moment). m.erases) ends;
  few = omega arith;
}
ends_few shape old new true (inl same) = record {
  programs = ap (λ (m : Moment). m.programs) same;
  erases = ap (λ (m : Moment). m.erases) same;
  few = omega arith;
}
ends_few shape old new true (inr torn) = record {
  programs = torn.3.0.programs;
  erases = torn.3.0.erases;
  few = one_start (starts torn.0);
}

moves_few : (shape : Shape) (old new : Moment) (broken : Bool) → (moves : Moves shape old broken new) →
    new.programs + 1 < 2 ^ 64 → new.erases + 1 < 2 ^ 64 →
    (old.programs + old.erases + starts_in (operations_of shape old broken new moves)
    ≤ new.programs + new.erases + (if broken then 1 else 0))
moves_few shape old new broken moves low high =
    let ends = ends_few shape moves.between new broken moves.ends in
    let programs = ends.programs in
    let erases = ends.erases in
    let last = ends.few in
    let first = list_few shape old moves.between moves.done moves.does (omega (arith, low, programs))
    (omega (arith, high, erases)) in
    let done = first.0 in
    let both = starts_append moves.done (broken_in shape moves.between broken new moves.ends) in
    omega (arith, done, programs, erases, last, both)

-- the programs of a fire that was done are counted
fire_few : (shape : Shape) (old new : Moment) (loads : List Load) (broken : Bool) →
    CanDo shape old.image (fire loads) → FireEnds shape old loads broken new →
    new.programs + 1 < 2 ^ 64 → new.erases + 1 < 2 ^ 64 →
    (old.programs + old.erases + starts_in (fire loads ∷ [])
    ≤ new.programs + new.erases + (if broken then 1 else 0))
    × ((old.programs + 1 < 2 ^ 64) × (old.erases + 1 < 2 ^ 64))
fire_few shape old new loads false can ends low high =
    let few = list_few shape old new (fire loads ∷ []) (can, ends) low high in
    let first = few.0 in (omega (arith, first), few.1)
fire_few shape old new loads true can ends low high =
    let programs = ends.0.programs in
    let erases = ends.0.erases in
    let one = one_start (starts (fire loads)) in (
      omega (arith, programs, erases, one),
      (omega (arith, programs, low), omega (arith, erases, high)),
    )

together_few : (together : Bool) (shape : Shape) (old new : Moment) (broken : Bool) →
    (moves : MovesTogether together shape old broken new) → new.programs + 1 < 2 ^ 64 → new.erases + 1 < 2 ^ 64 →
    old.programs + old.erases + starts_in (operations_by together shape old broken new moves)
    ≤ new.programs + new.erases + (if broken then 1 else 0)
together_few false shape old new broken moves low high = moves_few shape old new broken moves low high
together_few true shape old new broken (inl moves) low high = moves_few shape old new broken moves low high
together_few true shape old new broken (inr fires) low high =
    let last = fire_few shape fires.between new fires.loads broken fires.can fires.ends low high in
    let first = moves_few shape old fires.between false fires.moves last.1.0 last.1.1 in
    let fired = last.0 in
    let both = starts_append (operations_of shape old false fires.between fires.moves) (fire fires.loads ∷ []) in
    omega (arith, first, fired, both)

pub command_few : (its : Config) (c : Command) (r : Reply) (old new : Moment) → (by : MovesBy its c r old new) →
    new.programs + 1 < 2 ^ 64 → new.erases + 1 < 2 ^ 64 →
    old.programs + old.erases + starts_in (operations_in its c r old new by)
    ≤ new.programs + new.erases + (if is_break r then 1 else 0)
command_few its c r old new by low high =
    together_few (is_together c) (shape_of its) old new (is_break r) by.moves low high

-- so the costs of a command bound them
most_of : (s pages copies erases b p e p' e' : ℕ) → p + e + s ≤ p' + e' + b →
    p' ≤ p + pages + copies → e' ≤ e + erases → s ≤ pages + copies + erases + b
most_of s pages copies erases b p e p' e' few programs cleared = omega (arith, few, programs, cleared)

pub command_most : (its : Config) (c : Command) (r : Reply) (old new : Moment) → (by : MovesBy its c r old new) →
    new.programs + 1 < 2 ^ 64 → new.erases + 1 < 2 ^ 64 → (pages collections : ℕ) →
    CostsAtMost its pages collections old new →
    starts_in (operations_in its c r old new by)
    ≤ pages + collections * (its.pages_per_block - 1) + collections * 2 + (if is_break r then 1 else 0)
command_most its c r old new by low high pages collections h =
    most_of (starts_in (operations_in its c r old new by)) pages (collections * (its.pages_per_block - 1))
    (collections * 2) (if is_break r then 1 else 0) old.programs old.erases new.programs new.erases
    (command_few its c r old new by low high) h.programs h.erases

-- a collection that breaks off erased a block less
collected_of : (b : Bool) (s copies p e p' e' : ℕ) → p + e + s ≤ p' + e' + (if b then 1 else 0) → p' ≤ p + copies →
    e' ≤ e + (if b then 1 else 2) → s ≤ copies + 2
collected_of true s copies p e p' e' few programs cleared = omega (arith, few, programs, cleared)
collected_of false s copies p e p' e' few programs cleared = omega (arith, few, programs, cleared)

pub collection_most : (its : Config) (c : Command) (r : Reply) (old new : Moment) → (by : MovesBy its c r old new) →
    new.programs + 1 < 2 ^ 64 → new.erases + 1 < 2 ^ 64 → CostsCollection its r old new →
    starts_in (operations_in its c r old new by) ≤ its.pages_per_block - 1 + 2
collection_most its c r old new by low high h =
    collected_of (is_break r) (starts_in (operations_in its c r old new by)) (its.pages_per_block - 1) old.programs
    old.erases new.programs new.erases (command_few its c r old new by low high) h.programs h.erases

-- a count below the end of its type is exact
exact_times : (n count due : ℕ) → counted_times n count ≡ due → due + 1 < 2 ^ 64 → count + n ≡ due
exact_times zero count due is small = omega (arith, is)
exact_times (suc n) count due is small = omega (arith, is, small)

-- so a cut that is due comes at the last of the operations
pub cut_at_last : (due : ℕ) (what : Outcome) → due + 1 < 2 ^ 64 → (its : Config) (c : Command) (old : Point)
    (r : Reply) (met : FlashState) (new : Point) → IsPoint its old → (lost : IsLost its c old r met new) →
    MountsFlash its new.state.up met new.flash → r ≡ reply.Cut → CutIsDue due what old.flash →
    old.flash.started + starts_in (operations_in its c r (moment_of old.flash) (moment_of new.flash) lost.moves) ≡ due
cut_at_last due what small its c old r met new point lost mounts cut is =
    let count = starts_in (operations_in its c r (moment_of old.flash) (moment_of new.flash) lost.moves) in
    let met_at : met.started ≡ due =
    comes_in_calls due what (omega (arith, small)) its c old r met new point lost cut is in
    let last : new.flash.started ≡ counted_times count old.flash.started =
    command_started its c r (moment_of old.flash) (moment_of new.flash) lost.moves in
    let same : new.flash.started ≡ met.started = ap (λ (m : Moment). m.started) mounts.moment in
    exact_times count old.flash.started due (sym last ∙ same ∙ met_at) small
