-- What came to an image since no version rose: it may be lost again.
use Rattle.std.specs.Prelude.{◌≡◌, ℕ, ◌<◌, Bool, true, List, All, Contains}
use Rattle.tx_types.specs.declared.config.Protocol.{Protocol}
use Rattle.tx_types.specs.declared.config.Shape.{Shape}
use Rattle.flash_model.specs.Flash.{Contents}
use Rattle.record_list.specs.declared.found.Found.{Found}
use Rattle.record_list.specs.Losses.{IsSpared}
use Rattle.judged_records.specs.Images.{IsSoundImage, current_in, records_in}
use Rattle.tx_engine.specs.Held.{AddsNoHeldIn}

-- each record of an earlier list stands in a later one in its slot, which passes the test
abbrev pub StandStill : List Found → List Found → (ℕ → Bool) → Type 0
StandStill old new keep = All (λ f. Contains new f × (keep f.slot.0 ≡ true)) old

-- Where no version rose since an image, and each of its records stands in its slot, the slots that came since may be
-- lost: outside some block each current and each held record has a slot that stays.
abbrev pub LaterSlotLaw : Protocol → Type 0
LaterSlotLaw protocol =
    (logical : ℕ) (shape : Shape) (old new : List Contents) (keep : ℕ → Bool) →
    IsSoundImage protocol logical shape old → IsSoundImage protocol logical shape new →
    AddsNoHeldIn protocol logical old new →
    ((page : ℕ) → page < logical →
    current_in protocol logical new page ≡ current_in protocol logical old page) →
    StandStill (records_in protocol old) (records_in protocol new) keep →
    IsSpared protocol (records_in protocol new) logical shape keep
