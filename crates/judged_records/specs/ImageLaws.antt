-- The four commit laws stated of images, for a protocol that keeps them of lists.
use Rattle.std.specs.Prelude.{◌≡◌, ℕ, ◌<◌, true, false, List, length, slice_set, All, Any}
use Rattle.tx_types.specs.Config.{blocks_of}
use Rattle.tx_types.specs.declared.config.Protocol.{Protocol}
use Rattle.tx_types.specs.declared.config.Shape.{Shape}
use Rattle.tx_types.specs.declared.record.Link.{Link}
use Rattle.tx_types.specs.declared.record.Rec.{Rec}
use Rattle.flash_model.specs.Flash.{Contents, blank, damaged, complete, slot_at, IsImage}
use Rattle.flash_model.specs.Operations.{with_block}
use Rattle.record_list.specs.Records.{is_present}
use Rattle.record_list.specs.Written.{IsRemovable}
use Rattle.record_list.specs.WrittenChanges.{HasRoomAround}
use Rattle.judged_records.specs.Images.{records_in, IsSoundImage}
use Rattle.judged_records.specs.ImageChanges.{image_with, AsksFor, KeepsPartial, KeepsCompleting, KeepsCopied, KeepsLost, KeepsDamaged}

abbrev pub ImagePartialLaw : Protocol → Type 0
ImagePartialLaw protocol =
    (logical : ℕ) (shape : Shape) (image : List Contents) (names : List Link) (at : ℕ)
    (bytes : List ℕ) (rec : Rec) →
    AsksFor protocol logical shape image names at rec →
    Any (λ name. is_present (records_in protocol (image_with protocol image at bytes rec)) name
    ≡ false) names →
    KeepsPartial protocol logical shape image
    (image_with protocol image at bytes rec) names rec bytes

abbrev pub ImageCompletingLaw : Protocol → Type 0
ImageCompletingLaw protocol =
    (logical : ℕ) (shape : Shape) (image : List Contents) (names : List Link) (at : ℕ)
    (bytes : List ℕ) (rec : Rec) →
    AsksFor protocol logical shape image names at rec →
    All (λ name. is_present (records_in protocol (image_with protocol image at bytes rec)) name
    ≡ true) names →
    HasRoomAround protocol (records_in protocol image)
    (records_in protocol (image_with protocol image at bytes rec)) logical shape names →
    KeepsCompleting protocol logical shape image
    (image_with protocol image at bytes rec) names rec bytes

abbrev pub ImageCopyLaw : Protocol → Type 0
ImageCopyLaw protocol =
    (logical : ℕ) (shape : Shape) (image : List Contents) (from to : ℕ) (bytes spare : List ℕ) →
    IsSoundImage protocol logical shape image →
    from < length image → to < length image →
    slot_at image from ≡ complete bytes spare → slot_at image to ≡ blank →
    KeepsCopied protocol logical shape image (slice_set image to (complete bytes spare))

-- the block may become all blank or all damaged
abbrev pub ImageLossLaw : Protocol → Type 0
ImageLossLaw protocol =
    (logical : ℕ) (shape : Shape) (image : List Contents) (block : ℕ) →
    IsSoundImage protocol logical shape image → IsImage shape image → block < blocks_of shape →
    IsRemovable protocol (records_in protocol image) logical shape block →
    KeepsLost protocol logical shape image (with_block shape image block blank)
    × KeepsLost protocol logical shape image (with_block shape image block damaged)

abbrev pub ImageDamageLaw : Protocol → Type 0
ImageDamageLaw protocol =
    (logical : ℕ) (shape : Shape) (image : List Contents) (at : ℕ) →
    IsSoundImage protocol logical shape image → at < length image → slot_at image at ≡ blank →
    KeepsDamaged protocol logical shape image (slice_set image at damaged)
