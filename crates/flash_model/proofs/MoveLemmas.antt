-- From one moment of a flash to another.
use Rattle.std.proofs.Common.{◌≡◌, ◌⊎◌, ℕ, ◌+◌, Bool, true, false, ◌&&◌, List, [], ◌∷◌, ◌++◌, length, map, All, Result, Ok, Err, refl, sym, ap, ◌∙◌, subst, inl, inr, arith}
use Rattle.std.specs.Prelude.{if◌then◌else◌}
use Rattle.std.specs.Result.{is_err}
use Rattle.std.proofs.lemmas.List.Elements.{All-nil, All-cons, All-append, All-head, All-tail}
use Rattle.tx_types.specs.declared.config.Shape.{Shape}
use Rattle.flash_model.specs.declared.flash.Broken.{Broken}
use Rattle.flash_model.specs.declared.flash.Seen.{Seen}
use Rattle.flash_model.specs.Flash.{FlashState, Contents, counted, counted_by, counted_times}
use Rattle.flash_model.specs.declared.outcome.Outcome.TheVariants as outcome
use Rattle.flash_model.specs.Operations.{Operation, Load, program, erase, fire, program_of, Moment, moment_of, starts, starts_in, started_after, CanDo, after, BreaksIn}
use Rattle.flash_model.specs.Moves.{Does, IsLone, Ends, Moves, MovesTogether, FlashMoves, FlashMovesTogether}
use Rattle.flash_model.specs.Calls.{Reads, Operates}
use Rattle.flash_model.proofs.ComingLemmas.{counted_times-then}
use Rattle.flash_model.proofs.FireLemmas.{can_first, can_rest}

-- moments are equal that hold and have counted the same
pub same_moments : (a b : Moment) → a.image ≡ b.image → a.programs ≡ b.programs → a.erases ≡ b.erases
    → a.started ≡ b.started → a ≡ b
same_moments a b image programs erases started =
    let moment : List Contents → ℕ → ℕ → ℕ → Moment =
    λ i p e s. record { image = i; programs = p; erases = e; started = s } in
    let parts : moment a.image a.programs a.erases a.started ≡ moment b.image b.programs b.erases b.started = cc in
    parts

-- a program or an erase has something to do
lone_starts : (o : Operation) → IsLone o → starts o ≡ true
lone_starts (program at bytes spare_area) lone = refl
lone_starts (erase block) lone = refl
lone_starts (fire loads) lone = absurd lone

-- what is counted as started where power is on
started_on : (live some : Bool) (old new : ℕ) → live ≡ true
    → new ≡ (if live && some then counted old else old) → new ≡ (if some then counted old else old)
started_on true some old new on is = is
started_on false some old new on is = cc

-- an operation of a flash with power is counted as started
pub operation_started : (old new : FlashState) (o : Operation) (result : Result (Unit {0}) Broken) → old.live ≡ true
    → Operates old new o result → new.started ≡ started_after o old.started
operation_started old new o result on operates =
    started_on old.live (starts o) old.started new.started on operates.started

-- so one that is done comes to what it does
pub same_done : (old new : FlashState) (o : Operation) (done : Unit {0}) → Operates old new o (Ok done)
    → moment_of new ≡ after old.shape (moment_of old) o
same_done old new o done operates =
    same_moments (moment_of new) (after old.shape (moment_of old) o) operates.done.image operates.done.programs
    operates.done.erases (operation_started old new o (Ok done) operates.powered operates)

-- and one that is broken was started, or power was off and the moment is as before
pub same_or_broken : (old new : FlashState) (o : Operation) (broken : Broken) → Operates old new o (Err broken)
    → (moment_of new ≡ moment_of old) ⊎ BreaksIn old.shape (moment_of old) o (moment_of new)
same_or_broken old new o broken operates = by old.live refl
  where
    by : (live : Bool) → old.live ≡ live
        → (moment_of new ≡ moment_of old) ⊎ BreaksIn old.shape (moment_of old) o (moment_of new)
    by true on = inr (operates.torn, operation_started old new o (Err broken) on operates)
    by false off = inl (ap moment_of (operates.carries.dead off))

-- the moment is the same after a read
pub same_read : (old new : FlashState) (at : ℕ) (bytes spare_area : List ℕ) (result : Result Seen Broken)
    → Reads old new at bytes spare_area result → moment_of new ≡ moment_of old
same_read old new at bytes spare_area result reads =
    same_moments (moment_of new) (moment_of old) reads.image reads.programs reads.erases reads.started

-- what is done in two parts is done
pub Does-append : (shape : Shape) (a b c : Moment) (xs ys : List Operation) → Does shape a xs b → Does shape b ys c
    → Does shape a (xs ++ ys) c
Does-append shape a b c [] ys ab bc = subst (λ (m : Moment). Does shape m ys c) ab bc
Does-append shape a b c (o ∷ rest) ys ab bc = (ab.0, Does-append shape (after shape a o) b c rest ys ab.1 bc)

ends_nothing : (shape : Shape) (m : Moment) (broken : Bool) → Ends shape m broken m
ends_nothing shape m true = inl refl
ends_nothing shape m false = refl

none_lone : All IsLone []
none_lone = All-nil IsLone

-- where nothing was done the moment is the same
pub Moves-nothing : (shape : Shape) (m : Moment) (broken : Bool) → Moves shape m broken m
Moves-nothing shape m broken = record {
  done = [];
  lone = none_lone;
  between = m;
  does = refl;
  ends = ends_nothing shape m broken;
}

-- an operation that is done
pub Moves-done : (shape : Shape) (old new : Moment) (o : Operation) → IsLone o → CanDo shape old.image o →
    new ≡ after shape old o
    → Moves shape old false new
Moves-done shape old new o lone can done = record {
  done = o ∷ [];
  lone = All-cons IsLone o [] lone none_lone;
  between = new;
  does = (can, done);
  ends = refl;
}

-- an operation that is broken, or was not started
pub Moves-torn : (shape : Shape) (old new : Moment) (o : Operation) → IsLone o → CanDo shape old.image o →
    (new ≡ old) ⊎ BreaksIn shape old o new
    → Moves shape old true new
Moves-torn shape old new o lone can (inl same) =
    record { done = []; lone = none_lone; between = old; does = refl; ends = inl same }
Moves-torn shape old new o lone can (inr breaks) =
    record { done = []; lone = none_lone; between = old; does = refl; ends = inr (o, lone, can, breaks) }

-- operations that were done, and what comes after them
pub Moves-after : (shape : Shape) (a b c : Moment) (list : List Operation) (broken : Bool) → All IsLone list →
    Does shape a list b
    → Moves shape b broken c → Moves shape a broken c
Moves-after shape a b c list broken lone does moves = record {
  done = list ++ moves.done;
  lone = All-append IsLone list moves.done lone moves.lone;
  between = moves.between;
  does = Does-append shape a b moves.between list moves.done does moves.does;
  ends = moves.ends;
}

-- a call that was not broken and then another
pub Moves-then : (shape : Shape) (a b c : Moment) (broken : Bool) → Moves shape a false b → Moves shape b broken c
    → Moves shape a broken c
Moves-then shape a b c broken first second =
    Moves-after shape a b c first.done broken first.lone
    (subst (λ (m : Moment). Does shape a first.done m) (sym first.ends) first.does) second

-- the same from one state of a flash to another
pub FlashMoves-nothing : (old new : FlashState) (broken : Bool) → moment_of new ≡ moment_of old →
    FlashMoves old new broken
FlashMoves-nothing old new broken same =
    subst (λ (m : Moment). Moves old.shape (moment_of old) broken m) (sym same)
    (Moves-nothing old.shape (moment_of old) broken)

pub FlashMoves-then : (a b c : FlashState) (broken : Bool) → b.shape ≡ a.shape → FlashMoves a b false →
    FlashMoves b c broken
    → FlashMoves a c broken
FlashMoves-then a b c broken shape first second =
    Moves-then a.shape (moment_of a) (moment_of b) (moment_of c) broken first
    (subst (λ (s : Shape). Moves s (moment_of b) broken (moment_of c)) shape second)

-- a read
pub FlashMoves-reads : (old new : FlashState) (at : ℕ) (bytes spare_area : List ℕ) (result : Result Seen Broken)
    (broken : Bool)
    → Reads old new at bytes spare_area result → FlashMoves old new broken
FlashMoves-reads old new at bytes spare_area result broken reads =
    FlashMoves-nothing old new broken (same_read old new at bytes spare_area result reads)

-- a program or an erase
pub FlashMoves-operates : (old new : FlashState) (o : Operation) (result : Result (Unit {0}) Broken)
    → IsLone o → CanDo old.shape old.image o → Operates old new o result → FlashMoves old new (is_err result)
FlashMoves-operates old new o (Ok done) lone can operates =
    Moves-done old.shape (moment_of old) (moment_of new) o lone can (same_done old new o done operates)
FlashMoves-operates old new o (Err broken) lone can operates =
    Moves-torn old.shape (moment_of old) (moment_of new) o lone can (same_or_broken old new o broken operates)

-- the moment where more was started, and all else is as it is
abbrev pub with_started : Moment → ℕ → Moment
with_started m count = record m { started = count }

-- programs that are started together do what they do one after another, but that each of these is started by itself
pub Does-fire : (shape : Shape) (m : Moment) (load : Load) (loads : List Load) →
    CanDo shape m.image (fire (load ∷ loads))
    → Does shape m (map program_of (load ∷ loads)) (with_started (after shape m (fire (load ∷ loads)))
    (counted_by (length (load ∷ loads)) m.started))
Does-fire shape m load [] can = (can_first shape m.image load [] can, refl)
Does-fire shape m load (next ∷ loads) can =
    let one = after shape m (program_of load) in
    let same : with_started (after shape one (fire (next ∷ loads))) (counted_by (length (next ∷ loads)) one.started)
    ≡ with_started (after shape m (fire (load ∷ next ∷ loads)))
    (counted_by (length (load ∷ next ∷ loads)) m.started) =
    same_moments _ _ refl (omega arith) refl (omega arith)
    in (
      can_first shape m.image load (next ∷ loads) can,
      subst (Does shape one (map program_of (next ∷ loads))) same
          (Does-fire shape one next loads (can_rest shape m.image load (next ∷ loads) outcome.All can)),
    )

-- what may be started together need not be
pub together_of : (together : Bool) (shape : Shape) (old new : Moment) (broken : Bool) → Moves shape old broken new
    → MovesTogether together shape old broken new
together_of false shape old new broken moves = moves
together_of true shape old new broken moves = inl moves

-- operations that were not broken, and then others of which some may be started together
pub together_then : (together : Bool) (shape : Shape) (a b c : Moment) (broken : Bool) → Moves shape a false b
    → MovesTogether together shape b broken c → MovesTogether together shape a broken c
together_then false shape a b c broken first second = Moves-then shape a b c broken first second
together_then true shape a b c broken first (inl moves) = inl (Moves-then shape a b c broken first moves)
together_then true shape a b c broken first (inr fires) = inr (record {
  between = fires.between;
  moves = Moves-then shape a b fires.between false first fires.moves;
  loads = fires.loads;
  can = fires.can;
  ends = fires.ends;
})

pub FlashMovesTogether-then : (a b c : FlashState) (broken : Bool) → b.shape ≡ a.shape → FlashMoves a b false
    → FlashMovesTogether b c broken → FlashMovesTogether a c broken
FlashMovesTogether-then a b c broken shape first second =
    together_then true a.shape (moment_of a) (moment_of b) (moment_of c) broken first
    (subst (λ (s : Shape). MovesTogether true s (moment_of b) broken (moment_of c)) shape second)

-- a fire moves the flash by itself, done or broken
pub FlashMoves-fires : (old new : FlashState) (loads : List Load) (result : Result (Unit {0}) Broken)
    → CanDo old.shape old.image (fire loads) → Operates old new (fire loads) result
    → FlashMovesTogether old new (is_err result)
FlashMoves-fires old new loads (Ok done) can fired = inr (record {
  between = moment_of old;
  moves = Moves-nothing old.shape (moment_of old) false;
  loads = loads;
  can = can;
  ends = same_done old new (fire loads) done fired;
})
FlashMoves-fires old new loads (Err broken) can fired = elim (same_or_broken old new (fire loads) broken fired) [
  | inl same ↦ inl (FlashMoves-nothing old new true same)
  | inr breaks ↦ inr (record {
    between = moment_of old;
    moves = Moves-nothing old.shape (moment_of old) false;
    loads = loads;
    can = can;
    ends = breaks;
  })
]

-- the operations of a list are counted as started, each that has something to do
started_times : (some : Bool) (n : ℕ) → (if some then counted n else n) ≡ counted_times (if some then 1 else 0) n
started_times true n = refl
started_times false n = refl

pub Does-started : (shape : Shape) (old new : Moment) (list : List Operation) → Does shape old list new
    → new.started ≡ counted_times (starts_in list) old.started
Does-started shape old new [] does = ap (λ (m : Moment). m.started) does
Does-started shape old new (o ∷ rest) does =
    Does-started shape (after shape old o) new rest does.1
    ∙ ap (counted_times (starts_in rest)) (started_times (starts o) old.started)
    ∙ counted_times-then (if starts o then 1 else 0) (starts_in rest) old.started

pub lone_started : (list : List Operation) → All IsLone list → starts_in list ≡ length list
lone_started [] lone = refl
lone_started (o ∷ rest) lone =
    let first = lone_starts o (All-head IsLone o rest lone) in
    let later = lone_started rest (All-tail IsLone o rest lone) in
    ap (λ b. (if b then 1 else 0) + starts_in rest) first ∙ ap (λ n. 1 + n) later ∙ omega arith

-- programs and erases, and one more that is broken
pub Moves-started : (shape : Shape) (old new : Moment) (broken : Bool) → (moves : Moves shape old broken new)
    → (new.started ≡ counted_times (length moves.done) old.started)
    ⊎ ((broken ≡ true) × (new.started ≡ counted_times (length moves.done + 1) old.started))
Moves-started shape old new broken moves = by broken moves.ends
  where
    done : moves.between.started ≡ counted_times (length moves.done) old.started
    done = Does-started shape old moves.between moves.done moves.does
        ∙ ap (λ n. counted_times n old.started) (lone_started moves.done moves.lone)

    by : (b : Bool) → Ends shape moves.between b new → (new.started ≡ counted_times (length moves.done) old.started)
        ⊎ ((b ≡ true) × (new.started ≡ counted_times (length moves.done + 1) old.started))
    by false same = inl (ap (λ (m : Moment). m.started) same ∙ done)
    by true (inl same) = inl (ap (λ (m : Moment). m.started) same ∙ done)
    by true (inr torn) = inr (
      refl,
      torn.3.1
          ∙ ap (λ b. if b then counted moves.between.started else moves.between.started) (lone_starts torn.0 torn.1)
          ∙ ap counted done
          ∙ counted_times-then (length moves.done) 1 old.started,
    )
