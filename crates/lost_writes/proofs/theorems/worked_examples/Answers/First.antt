-- The first transaction on a blank flash, whose record waits.
use Rattle.lost_writes.proofs.Common.{◌<◌, ◌≤◌, false, [], ◌∷◌, All, refl, ap, inl, arith, false≢true, Contains-cases, Contains-nil, written_in, array_in, Scc, Link}
use Rattle.std.proofs.lemmas.List.Elements.{All-from_recursion}
use Rattle.std.proofs.Common.{Some, inr}
use Rattle.tx_types.specs.Batch.{PageWrite}
use Rattle.tx_types.specs.Config.{shape_of}
use Rattle.tx_types.specs.Limits.{max_version}
use Rattle.host_protocol.specs.declared.command.Command.TheVariants as command
use Rattle.page_record.specs.Spelling.{CanBeSpelled}
use Rattle.record_list.specs.Counts.{KeepsCount}
use Rattle.record_list.specs.SoundList.{Keeps}
use Rattle.record_list.specs.Transaction.{IsAskedAt, IsBegun}
use Rattle.record_list.specs.Written.{BytesAgree, IsSoundWritten}
use Rattle.judged_records.specs.Examples.{config, name}
use Rattle.judged_records.specs.Images.{SlotReads, IsSoundImage}
use Rattle.judged_records.specs.ImageChanges.{AsksFor}
use Rattle.array_runs.specs.Run.{MayComplete}
use Rattle.lost_writes.specs.Fired.{IsFired}
use Rattle.lost_writes.specs.Quiet.{is_one_of}
use Rattle.lost_writes.specs.Examples.{blank_flash, started, FirstIsProgramming}

none_in : {X : Type 0} (P : X → Type 0) → All P []
none_in P k d within = absurd (omega arith)

sound_none : IsSoundWritten Scc [] 2 (shape_of (config Scc))
sound_none = record {
  records = λ law. none_in (Keeps Scc [] 2 law);
  bytes = none_in (BytesAgree []);
  counts = none_in (KeepsCount []);
  removable = record { block = 0; exists = omega arith; removable = λ k d within. absurd (omega arith) };
}

sound : IsSoundImage Scc 2 (shape_of (config Scc)) blank_flash
unfolding written_in
sound = record {
  reads = All-from_recursion (SlotReads Scc 2) blank_flash (tt, (tt, tt));
  written = sound_none;
}

spelled : CanBeSpelled Scc started.rec
spelled = record {
  page = omega arith;
  next_page = omega arith;
  version_least = omega arith;
  version_most = omega arith;
  next_version_least = omega arith;
  next_version_most = omega arith;
  back = refl;
  count = omega arith;
  discard = λ none. refl;
}

begun : IsBegun Scc [] 2 started.names
begun = record {
  transaction = record {
    distinct = λ i j d less within. absurd (omega arith);
    in_range = All-from_recursion (λ (x : Link). (x.page < 2) × (1 ≤ x.version) × (x.version ≤ max_version))
        started.names ((omega arith, omega arith, omega arith), tt);
    few = omega arith;
  };
  asked = λ k d within. absurd (omega arith);
  others = λ k d within. absurd (omega arith);
}

asks : AsksFor Scc 2 (shape_of (config Scc)) blank_flash started.names 0 started.rec
unfolding written_in
asks = record {
  sound = sound;
  within = omega arith;
  blank = refl;
  spelled = spelled;
  in_progress = record { begun = begun; absent = (0, name 0 1, omega arith, refl, refl) };
  named = (0, omega arith, refl);
  fresh = refl;
  asked = All-from_recursion (IsAskedAt Scc [] 2 started.names started.rec) ((name 0 1, name 0 1) ∷ [])
      ((λ same. (refl, refl, refl)), tt);
  clear = λ k d within. absurd (omega arith);
}

fired : IsFired Scc 2 (shape_of (config Scc)) (MayComplete (command.Finish 1)) 1 (is_one_of []) blank_flash started
unfolding written_in
fired = record {
  asks = asks;
  pages = refl;
  says = λ a w i j same there. absurd (false≢true there);
  says_own = λ w i same. elim (Contains-cases (record { page = 0; value = Some (7 ∷ []) }) [] w i) [
    | inl is ↦ ap (λ (v : PageWrite). v.value) is
    | inr none ↦ absurd (Contains-nil w none)
  ];
  outside = λ k d within. absurd (omega arith);
  slot = refl;
  last = λ all. refl;
}

pub first_is_programming : FirstIsProgramming
unfolding written_in array_in
first_is_programming = record {
  sound = sound;
  array = (false, refl);
  block = 1;
  exists = omega arith;
  removable = λ k d within. absurd (omega arith);
  quiet = refl;
  each = All-from_recursion (IsFired Scc 2 (shape_of (config Scc)) (MayComplete (command.Finish 1)) 1 (is_one_of [])
      blank_flash) (started ∷ []) (fired, tt);
  apart = λ i j d less within. absurd (omega arith);
  open_entries = inl (refl, tt);
  few = omega arith;
}
