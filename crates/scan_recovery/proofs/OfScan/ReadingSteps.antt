-- One reading of slots after another.
use Rattle.scan_recovery.proofs.Common.{ℕ, zero, suc, ◌+◌, ◌≤◌, Bool, false, refl, ◌∙◌, ap, arith, FlashState, ReadsAll, ReadsSome}
use Rattle.flash_model.specs.Flash.{counted_times}
use Rattle.flash_model.proofs.CallLemmas.{Carries-then, Carries-nothing}
use Rattle.flash_model.proofs.ComingLemmas.{counted_times-then}

-- a count that goes up so many times goes up by as much at most
pub counted_times-most : (more n : ℕ) → counted_times more n ≤ n + more
counted_times-most zero n = omega arith
counted_times-most (suc more) n = omega arith

-- no slot is read
pub reads_nothing : (s : FlashState) → ReadsAll s s 0
reads_nothing s = record { carries = Carries-nothing s; moment = refl; reads = refl; started = refl }

module _ (a b c : FlashState) (first then : ℕ) where
  pub reads_all_then : ReadsAll a b first → ReadsAll b c then → ReadsAll a c (first + then)
  reads_all_then ab bc = record {
    carries = Carries-then a b c false ab.carries bc.carries;
    moment = bc.moment ∙ ab.moment;
    reads = bc.reads ∙ ap (counted_times then) ab.reads ∙ counted_times-then first then a.reads;
    started = bc.started ∙ ab.started;
  }

  pub reads_some_then : (broken : Bool) → ReadsAll a b first → ReadsSome b c broken then →
      ReadsSome a c broken (first + then)
  reads_some_then broken ab bc = record {
    carries = Carries-then a b c broken ab.carries bc.carries;
    moment = bc.moment ∙ ab.moment;
    reads = omega (arith, ab.reads, bc.reads, counted_times-most first a.reads);
    started = bc.started ∙ ab.started;
  }

-- at most this many, and so at most more
pub reads_some_within : (a b : FlashState) (broken : Bool) (most more : ℕ) → ReadsSome a b broken most → most ≤ more →
    ReadsSome a b broken more
reads_some_within a b broken most more ab within = record {
  carries = ab.carries;
  moment = ab.moment;
  reads = omega (arith, ab.reads);
  started = ab.started;
}

-- all of them are some of them
pub reads_some_all : (a b : FlashState) (count : ℕ) → ReadsAll a b count → ReadsSome a b false count
reads_some_all a b count ab = record {
  carries = ab.carries;
  moment = ab.moment;
  reads = omega (arith, ab.reads, counted_times-most count a.reads);
  started = ab.started;
}
