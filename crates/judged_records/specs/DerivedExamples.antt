-- A few slots, and what is derived from them.
use Rattle.std.specs.Prelude.{◌≡◌, true, false, Some, None, [], ◌∷◌}
use Rattle.tx_types.specs.declared.record.Rec.{Rec}
use Rattle.tx_types.specs.declared.config.Protocol.{Protocol}
use Rattle.tx_types.specs.declared.config.Protocol.TheVariants.{Scc, Bpcc}
use Rattle.judged_records.specs.declared.note.Note.TheVariants.{Blank, Holds}
use Rattle.judged_records.specs.IndexState.{IndexState, current_of, programmed}
use Rattle.judged_records.specs.Derived.{loose_of, answerer_of, waits_of, goes_of}
use Rattle.judged_records.specs.DerivedChanges.{completes, derived_of, once_whole}
use Rattle.judged_records.specs.Examples.{name, rec, config}

-- an aborted record of page 2 with an absent link to page 0, and one of two records of a transaction
abbrev pub aborted : Rec
aborted = rec 2 2 0 1 0

abbrev pub second : Rec
second = rec 1 2 0 2 0

abbrev pub begun : Protocol → IndexState
begun protocol = record {
  config = config protocol;
  notes = Holds aborted ∷ Holds second ∷ Blank
      ∷ Blank ∷ Blank ∷ Blank
      ∷ Blank ∷ Blank ∷ Blank
      ∷ Blank ∷ Blank ∷ Blank ∷ [];
  pins = 0 ∷ 0 ∷ 0 ∷ 0 ∷ [];
  spare = Some 3;
  mentions = 2 ∷ 2 ∷ 2 ∷ 0 ∷ [];
  closed = false ∷ false ∷ false ∷ false ∷ [];
}

-- both wait for page 0, and the cycle is open; under Simple Cyclic Commit the aborted one must go first
abbrev pub BegunWaits : Type 0
BegunWaits =
    (waits_of (begun Bpcc) aborted ≡ true) × (answerer_of (begun Bpcc) aborted ≡ None)
    × (waits_of (begun Bpcc) second ≡ true) × (completes (begun Bpcc) second ≡ false)
    × (goes_of (begun Scc) 0 2 aborted ≡ true) × (goes_of (begun Scc) 0 2 second ≡ false)

-- the other record of the transaction
abbrev pub first : Rec
first = rec 0 2 1 2 0

abbrev pub whole : IndexState
whole = programmed (begun Bpcc) 2 first

-- it completes the cycle: both pages are current, and it answers for the aborted record
abbrev pub WholeAnswers : Type 0
WholeAnswers =
    (completes whole first ≡ true)
    × (current_of whole 0 ≡ 2) × (current_of whole 1 ≡ 2) × (current_of whole 2 ≡ 0)
    × (loose_of whole second ≡ false) × (waits_of whole second ≡ false)
    × (loose_of whole aborted ≡ true) × (waits_of whole aborted ≡ false)
    × (answerer_of whole aborted ≡ Some (name 0 2))

-- and so it is name after name
abbrev pub StepsAnswer : Type 0
StepsAnswer =
    let j = once_whole Bpcc (name 0 2 ∷ name 1 2 ∷ []) (derived_of (begun Bpcc)) in
    (j.current 0 ≡ 2) × (j.current 1 ≡ 2) × (j.current 2 ≡ 0)
    × (j.waits second ≡ false) × (j.waits aborted ≡ false)
    × (j.answerer second ≡ None) × (j.answerer aborted ≡ Some (name 0 2))
