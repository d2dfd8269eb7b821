-- The calls of a flash that is a list are those of any flash.
use Rattle.std.proofs.Common.{◌≡◌, ℕ, ◌≤◌, true, List, [], ◌∷◌, ◌++◌, length, replicate, Option, Ok, Err, refl, ap, ap₂, sym, ◌∙◌, subst, arith}
use Rattle.std.specs.Prelude.{if◌then◌else◌}
use Rattle.std.proofs.lemmas.Bool.{true≢false}
use Rattle.std.proofs.lemmas.List.{length-replicate}
use Rattle.tx_types.specs.declared.config.Shape.{Shape}
use Rattle.flash_model.specs.declared.flash.Broken.{Broken}
use Rattle.flash_model.specs.declared.flash.Seen.{Seen}
use Rattle.flash_model.specs.declared.outcome.Outcome.TheVariants as outcome
use Rattle.flash_model.specs.Flash.{Contents, slot_at, counted}
use Rattle.flash_model.specs.Operations.{Operation, Load, program, erase, fire, Moment, starts, after, left_each, MayLeave}
use Rattle.flash_model.specs.Calls.{Shows, Reads, Operates}
use Rattle.flash_model.specs.Moves.{Does}
use Rattle.flash_model.proofs.MoveLemmas.{with_started}
use Rattle.list_flash.specs.ListFlashState.{ListFlashState, moment_after, state_of, worked}
use Rattle.list_flash.proofs.Moments.{moment_then}

-- what a fire leaves that does nothing
left_none : (image : List Contents) (loads : List Load)
    → left_each image loads (replicate (length loads) outcome.None) ≡ image
left_none image [] = refl
left_none image (load ∷ loads) = left_none image loads

-- an operation that is broken may leave all as it was
pub leaves_all : (shape : Shape) (image : List Contents) (o : Operation) → MayLeave shape image o image
leaves_all shape image (program at bytes spare_area) = (outcome.None, refl)
leaves_all shape image (erase block) = (outcome.None, refl)
leaves_all shape image (fire loads) = (
  replicate (length loads) outcome.None,
  length-replicate (length loads) outcome.None,
  sym (left_none image loads),
)

module _ (s : ListFlashState) (registers : List (Option Load)) (o : Operation) (some : starts o ≡ true) where
  abbrev now : ListFlashState → ListFlashState
  now t = record t { registers = registers }

  abbrev image : List Contents
  image = (moment_after s.shape s.operations).image

  counts : counted s.started ≡ (if starts o then counted s.started else s.started)
  counts = ap (λ b. if b then counted s.started else s.started) (sym some)

  -- a call that is broken, and does nothing
  operates_broken : (e : Broken) → s.faults ≤ counted s.faults
      → Operates (state_of s) (state_of (now (worked s [] (Err e)))) o (Err e)
  operates_broken e later = record {
    carries = record {
      shape = refl;
      later = later;
      cause = omega arith;
      quiet = tt;
      lives = tt;
      dead = λ off. absurd (true≢false off);
      no_more = tt;
      extras = refl;
      spends = λ on. tt;
      starts = λ on. (1, 0, refl, refl, tt);
    };
    powered = tt;
    done = tt;
    torn = record { left = leaves_all s.shape image o; programs = refl; erases = refl };
    reads = refl;
    started = counts;
  }

  -- and one that comes to what the operation does
  operates_done : (done : List Operation) (count : ℕ)
      → moment_after s.shape (s.operations ++ done)
      ≡ with_started (after s.shape (moment_after s.shape s.operations) o) count
      → Operates (state_of s) (state_of (now (worked s done (Ok tt)))) o (Ok tt)
  operates_done done count is = record {
    carries = record {
      shape = refl;
      later = omega arith;
      cause = tt;
      quiet = refl;
      lives = refl;
      dead = λ off. absurd (true≢false off);
      no_more = tt;
      extras = refl;
      spends = tt;
      starts = λ on. (1, 0, refl, refl, tt);
    };
    powered = refl;
    done = record {
      image = ap (λ (m : Moment). m.image) is;
      programs = ap (λ (m : Moment). m.programs) is;
      erases = ap (λ (m : Moment). m.erases) is;
    };
    torn = tt;
    reads = refl;
    started = counts;
  }

-- so it is after a call that was broken, and had changed no more than the registers
pub operates_err : (s t : ListFlashState) (operations : List Operation) (registers : List (Option Load)) (o : Operation)
    (e : Broken) → starts o ≡ true → operations ≡ s.operations
    → t ≡ worked (record s { operations = operations; registers = registers }) [] (Err e) → s.faults ≤ t.faults
    → Operates (state_of s) (state_of t) o (Err e)
operates_err s t operations registers o e some same next later =
    let with_list : List Operation → ListFlashState =
    λ list. record s { operations = list; registers = registers } in
    let fits : s.faults ≤ counted s.faults = omega (arith, ap (λ (u : ListFlashState). u.faults) next, later) in
    subst (λ (u : ListFlashState). Operates (state_of s) (state_of u) o (Err e))
    (sym (next ∙ ap (λ (list : List Operation). worked (with_list list) [] (Err e)) same))
    (operates_broken s registers o some e fits)

-- and after one that did these operations
pub operates_ok : (s : ListFlashState) (operations done : List Operation) (started count : ℕ)
    (registers : List (Option Load)) (o : Operation) → starts o ≡ true → operations ≡ s.operations ++ done
    → started ≡ counted s.started
    → Does s.shape (moment_after s.shape s.operations) done
    (with_started (after s.shape (moment_after s.shape s.operations) o) count)
    → Operates (state_of s)
    (state_of (record s { operations = operations; started = started; registers = registers })) o (Ok tt)
operates_ok s operations done started count registers o some operations_are started_is does =
    let with_both : List Operation → ℕ → ListFlashState =
    λ list n. record s { operations = list; started = n; registers = registers } in
    subst (λ (u : ListFlashState). Operates (state_of s) (state_of u) o (Ok tt))
    (sym (ap₂ with_both operations_are started_is))
    (operates_done s registers o some done count (moment_then s.shape s.operations done _ does))

-- a read
pub reads_ok : (s : ListFlashState) (reads at : ℕ) (how : Seen) (bytes spare_area : List ℕ) → reads ≡ counted s.reads
    → Shows s.shape.page_bytes (slot_at (moment_after s.shape s.operations).image at) how bytes spare_area
    → Reads (state_of s) (state_of (record s { reads = reads })) at bytes spare_area (Ok how)
reads_ok s reads at how bytes spare_area counted_is shows = record {
  carries = record {
    shape = refl;
    later = omega arith;
    cause = tt;
    quiet = refl;
    lives = refl;
    dead = λ off. absurd (true≢false off);
    no_more = tt;
    extras = refl;
    spends = tt;
    starts = λ on. (0, 1, refl, counted_is, tt);
  };
  powered = refl;
  done = shows;
  image = refl;
  programs = refl;
  erases = refl;
  reads = counted_is;
  started = refl;
}
