use Rattle.judged_records.proofs.OfLaws.NotedImages.{found_in_notes, scanned_notes}
use Rattle.judged_records.proofs.theorems.noted_images.Goals as goal

pub returns-clause-records : goal.returns-clause-records
returns-clause-records c = found_in_notes

pub returns-clause-scan : goal.returns-clause-scan
returns-clause-scan c = λ protocol config image n reads from. scanned_notes protocol config.logical image n.notes reads
    from.reads from.found
