-- How a recovery ends.
use Rattle.std.specs.Prelude.{ℕ, ◌+◌, ◌*◌, ◌==◌, Bool, true, false, List, Result, Ok, Err, if◌then◌else◌}
use Rattle.tx_types.specs.declared.config.Protocol.{Protocol}
use Rattle.tx_types.specs.Config.{slots_of}
use Rattle.flash_model.specs.Flash.{FlashState}
use Rattle.record_list.specs.declared.found.Found.{Found}
use Rattle.record_list.specs.declared.found.Breach.{Breach}
use Rattle.judged_records.specs.Images.{records_in}
use Rattle.scan_recovery.specs.Reading.{ReadsAll, ReadsSome}
use Rattle.scan_recovery.specs.Twins.{compared, compared_upto}
use Rattle.scan_recovery.specs.declared.error.RecoverError.{RecoverError}
use Rattle.scan_recovery.specs.declared.error.RecoverError.TheVariants as error

-- where a law is broken, the breach is such a one
abbrev pub IfUnsound : RecoverError → (Breach → Type 0) → Type 0
IfUnsound error.Fault P = Unit {0}
IfUnsound (error.Unsound law slot) P = P (record { law = law; slot = slot })
IfUnsound error.Memory P = Unit {0}

-- whether a read failed
abbrev pub is_read_failure : {T : Type 0} → Result T RecoverError → Bool
is_read_failure (Ok x) = false
is_read_failure (Err error.Fault) = true
is_read_failure (Err (error.Unsound law slot)) = false
is_read_failure (Err error.Memory) = false

-- this many slots were read: all of them where no read failed and there was memory
abbrev pub ReadsTo : {T : Type 0} → FlashState → FlashState → ℕ → Result T RecoverError → Type 0
ReadsTo old new count (Ok x) = ReadsAll old new count
ReadsTo old new count (Err error.Fault) = ReadsSome old new true count
ReadsTo old new count (Err (error.Unsound law slot)) = ReadsAll old new count
ReadsTo old new count (Err error.Memory) = ReadsSome old new false count

-- how many slots are read again for law 2, two for each slot that is compared with another one: no slot where law 1 is
-- broken, and where law 2 is, those up to the slot that it names
abbrev pub reads_again : List Found → Breach → ℕ
reads_again list b =
    if b.law == 1 then 0
    else if b.law == 2 then 2 * compared_upto list b.slot.0
    else 2 * compared list

-- how many slots a recovery reads: each one once, and again those that law 2 compares
abbrev pub reads_of : {T : Type 0} → Protocol → FlashState → Result T RecoverError → ℕ
reads_of protocol old (Ok x) = slots_of old.shape + 2 * compared (records_in protocol old.image)
reads_of protocol old (Err error.Fault) =
    slots_of old.shape + 2 * compared (records_in protocol old.image)
reads_of protocol old (Err (error.Unsound law slot)) =
    slots_of old.shape + reads_again (records_in protocol old.image)
    (record { law = law; slot = slot })
reads_of protocol old (Err error.Memory) =
    slots_of old.shape + 2 * compared (records_in protocol old.image)

abbrev pub ReadsFor : {T : Type 0} → Protocol → FlashState → FlashState → Result T RecoverError →
    Type 0
ReadsFor protocol old new result = ReadsTo old new (reads_of protocol old result) result
