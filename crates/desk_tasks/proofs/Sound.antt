-- The blank image of a default device is sound.
use Rattle.desk_tasks.proofs.Common.{◌≡◌, ℕ, suc, [], refl, arith, All, Protocol, shape_of, IsSoundImage}
use Rattle.std.proofs.Common.{zero}
use Rattle.std.specs.Prelude.{replicate}
use Rattle.std.proofs.lemmas.List.Elements.{All-cons, All-nil}
use Rattle.flash_model.specs.Flash.{blank}
use Rattle.record_list.specs.SoundList.{Law, Keeps}
use Rattle.record_list.specs.Counts.{KeepsCount}
use Rattle.record_list.specs.Written.{BytesAgree, IsSoundWritten}
use Rattle.judged_records.specs.Images.{SlotReads, written_in}
use Rattle.desk_tasks.specs.Runs.{blank_image, default_config}

no_records : (protocol : Protocol) → written_in protocol (blank_image (default_config protocol)) ≡ []
unfolding written_in
no_records protocol = refl

sound_none : (protocol : Protocol) (logical : ℕ) (law : Law) → All (Keeps protocol [] logical law) []
sound_none protocol logical law = All-nil (Keeps protocol [] logical law)

written_none : (protocol : Protocol) → IsSoundWritten protocol [] 20 (shape_of (default_config protocol))
written_none protocol = record {
  records = λ law. sound_none protocol 20 law;
  bytes = All-nil (BytesAgree []);
  counts = All-nil (KeepsCount []);
  removable = record { block = 0; exists = omega arith; removable = λ k d within. absurd (omega arith) };
}

blank_reads : (protocol : Protocol) (logical n : ℕ) → All (SlotReads protocol logical) (replicate n blank)
blank_reads protocol logical zero = All-nil (SlotReads protocol logical)
blank_reads protocol logical (suc n) =
    All-cons (SlotReads protocol logical) blank (replicate n blank) tt (blank_reads protocol logical n)

-- a blank image is sound
pub blank_sound : (protocol : Protocol) →
    IsSoundImage protocol (default_config protocol).logical (shape_of (default_config protocol))
    (blank_image (default_config protocol))
blank_sound protocol = record {
  reads = blank_reads protocol 20 32;
  written = rw (no_records protocol) (written_none protocol);
}
