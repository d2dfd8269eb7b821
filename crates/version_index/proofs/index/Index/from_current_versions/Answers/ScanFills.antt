-- Blank tables can be filled with the records of a sound list, of which is known how they stand.
use Rattle.version_index.proofs.Common.{◌≡◌, List, refl, sym, ap, ◌∙◌, Contains-permutation, IsPermutation-sym, Config, Protocol, Shape, shape_of, slots_of, Seen, Found}
use Rattle.sorted_records.specs.CurrentVersions as standing
use Rattle.slot_tables.specs.TablesState.{blank_tables}
use Rattle.version_index.specs.Scanned.{AreScanned, CanFill}
use Rattle.version_index.proofs.index.Index.from_current_versions.Answers.ScanSizes.{sorted_agree}

pub can_fill : (protocol : Protocol) (its : Config) (shape : Shape) (scanned : List Seen) (list : List Found)
    (judged : standing.CurrentVersionsState)
    → shape ≡ shape_of its → AreScanned protocol its scanned list judged
    → CanFill its.logical scanned list judged.list (blank_tables shape its.logical)
can_fill protocol its shape scanned list judged same scan =
    record {
      blank = refl;
      reads = scan.reads ∙ sym (ap slots_of same);
      complete = scan.complete;
      agree = sorted_agree protocol list judged.list its.logical scan.sound scan.slots scan.sorts;
      listed = λ f i. Contains-permutation list judged.list f scan.sorts.records i;
      known = λ f i. Contains-permutation judged.list list f (IsPermutation-sym list judged.list scan.sorts.records) i;
    }
