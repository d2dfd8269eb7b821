-- What a call leaves durable where what waits is made durable before each erase: the moment at which nothing waited
-- last, and what was programmed since.
use Rattle.std.specs.Prelude.{◌≡◌, ◌⊎◌, ℕ, ◌<◌, Bool, true, false, List, All}
use Rattle.tx_types.specs.Config.{blocks_of}
use Rattle.tx_types.specs.declared.config.Protocol.{Protocol}
use Rattle.tx_types.specs.declared.config.Shape.{Shape}
use Rattle.flash_model.specs.Flash.{FlashState, Contents}
use Rattle.flash_model.specs.Moves.{Does, Moves}
use Rattle.flash_model.specs.Operations.{Operation, program, erase, fire, Moment, moment_of, CanDo, after, BreaksIn}
use Rattle.record_list.specs.Written.{IsRemovable}
use Rattle.judged_records.specs.Images.{records_in, IsSoundImage}
use Rattle.collector.specs.Preserves.{KeepsArray}

-- a program, which waits once it is done
abbrev pub IsProgram : Operation → Type 0
IsProgram (program at bytes spare_area) = Unit {0}
IsProgram (erase block) = ⊥
IsProgram (fire loads) = ⊥

-- nothing was done, or operations of which the last one is an erase
abbrev pub EndsInErase : Shape → Moment → Moment → Type 0
EndsInErase shape old new =
    (new ≡ old)
    ⊎ ((between : Moment) × Moves shape old false between
    × (block : ℕ) × (block < blocks_of shape) × (new ≡ after shape between (erase block)))

-- an image is sound, and stands for the same array as the one before, with the same current versions; no record is held
-- that was not
pub record StaysSound (protocol : Protocol) (logical : ℕ) (shape : Shape) (old new : List Contents) : Type 0 where
  pub sound : IsSoundImage protocol logical shape new
  pub keeps : KeepsArray protocol logical old new

-- one program more is broken
pub record ProgramTorn (protocol : Protocol) (logical : ℕ) (shape : Shape) (old new : Moment) : Type 0 where
  pub at : ℕ
  pub bytes : List ℕ
  pub spare_area : List ℕ
  pub can : CanDo shape old.image (program at bytes spare_area)
  pub breaks : BreaksIn shape old (program at bytes spare_area) new
  pub stays : StaysSound protocol logical shape old.image new.image

-- or an erase, of a block that can be removed
pub record EraseTorn (protocol : Protocol) (logical : ℕ) (shape : Shape) (old new : Moment) : Type 0 where
  pub block : ℕ
  pub exists : block < blocks_of shape
  pub removable : IsRemovable protocol (records_in protocol old.image) logical shape block
  pub breaks : BreaksIn shape old (erase block) new
  pub stays : StaysSound protocol logical shape old.image new.image

-- what comes last: nothing more, or, where a call was broken, perhaps one of these
abbrev pub EndsTorn : Protocol → ℕ → Shape → Moment → Bool → Moment → Type 0
EndsTorn protocol logical shape old false new = new ≡ old
EndsTorn protocol logical shape old true new =
    (new ≡ old)
    ⊎ (ProgramTorn protocol logical shape old new ⊎ EraseTorn protocol logical shape old new)

-- What a call does that completes no transaction. At some moment nothing waits that did not wait before: where the call
-- began, or behind its last erase. Since then only programs were done, or broken, until an erase is broken. The image
-- is sound at each of these moments, and stands for the same array.
pub record WorksSinceErase (protocol : Protocol) (logical : ℕ) (shape : Shape) (old : Moment) (broken : Bool)
    (new : Moment) : Type 0 where
  pub base : Moment
  pub durable : EndsInErase shape old base
  pub before : StaysSound protocol logical shape old.image base.image
  pub programs : List Operation
  pub alone : All IsProgram programs
  pub between : Moment
  pub does : Does shape base programs between
  pub stays : StaysSound protocol logical shape base.image between.image
  pub ends : EndsTorn protocol logical shape between broken new

-- from one state of a flash to another
abbrev pub FlashWorksSinceErase : Protocol → ℕ → FlashState → FlashState → Bool → Type 0
FlashWorksSinceErase protocol logical old new broken =
    WorksSinceErase protocol logical old.shape (moment_of old) broken (moment_of new)
