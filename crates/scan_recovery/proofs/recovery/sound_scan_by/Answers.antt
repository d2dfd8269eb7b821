use Rattle.scan_recovery.proofs.Common.{◌≡◌, ℕ, ◌<◌, List, length, All, sym, subst, Protocol, slots_of, Seen, FlashState, Found, ReadsAll, IsScanOf}
use Rattle.flash_model.specs.Flash.{IsFlash}
use Rattle.scan_recovery.specs.Scans.{WasScanned}
use Rattle.scan_recovery.proofs.OfLaws.LawTwo.{records_within}
use Rattle.scan_recovery.proofs.recovery.sound_scan_by.Goals as goal

-- the slots of the records exist
scan_exists : (p : Protocol) (logical : ℕ) (a b : FlashState) (slots : List Seen) (list : List Found) →
    IsScanOf p logical a.image slots list →
    ReadsAll a b (slots_of a.shape) → IsFlash a → All (λ f. f.slot.0 < slots_of b.shape) list
scan_exists p logical a b slots list scan read whole =
    subst (λ s. All (λ (f : Found). f.slot.0 < slots_of s) list) (sym read.carries.shape)
    (subst (λ n. All (λ (f : Found). f.slot.0 < n) list) whole.slots
    (subst (λ l. All (λ (f : Found). f.slot.0 < length a.image) l) (sym scan.records) (records_within p a.image)))

was_scanned : (p : Protocol) (logical : ℕ) (a b : FlashState) (slots : List Seen) (list own : List Found) → own ≡ list →
    IsScanOf p logical a.image slots list → ReadsAll a b (slots_of a.shape) → WasScanned p logical a b own
was_scanned p logical a b slots list own same scan read = record {
  slots = slots;
  scan = subst (λ l. IsScanOf p logical a.image slots l) (sym same) scan;
  read = read;
}

pub try_law_two-requires-clause-exist : goal.try_law_two-requires-clause-exist
try_law_two-requires-clause-exist g c =
    let a = g.F.Flash.state c.args.flash.now in
    let b = g.F.Flash.state c.scan.new.flash in
    subst (All (λ (f : Found). f.slot.0 < slots_of b.shape)) (sym c.in_ok-charted.ensures.list)
    (scan_exists c.args.config.protocol c.args.config.logical a b c.in_ok-scanned.scanned.seen.items
    c.in_ok-scanned.scanned.list.items
    c.in_ok-scanned.ensures.scan c.in_ok-scanned.ensures.reads c.requires.whole)

pub returns-in-Ok-clause-copies : goal.returns-in-Ok-clause-copies
returns-in-Ok-clause-copies g c =
    let a = g.F.Flash.state c.args.flash.now in
    let b = g.F.Flash.state c.scan.new.flash in
    c.in-Ok.ensures.copies c.args.config.protocol c.args.config.logical a
    (was_scanned _ _ a b _ _ _ c.in_ok-charted.ensures.list c.in_ok-scanned.ensures.scan c.in_ok-scanned.ensures.reads)

pub returns-in-Ok-clause-reads : goal.returns-in-Ok-clause-reads
returns-in-Ok-clause-reads g c =
    let a = g.F.Flash.state c.args.flash.now in
    let b = g.F.Flash.state c.scan.new.flash in
    c.in-Ok.ensures.reads c.args.config.protocol c.args.config.logical a
    (was_scanned _ _ a b _ _ _ c.in_ok-charted.ensures.list c.in_ok-scanned.ensures.scan c.in_ok-scanned.ensures.reads)

pub returns-in-Err-clause-reads : goal.returns-in-Err-clause-reads
returns-in-Err-clause-reads g c =
    let a = g.F.Flash.state c.args.flash.now in
    let b = g.F.Flash.state c.scan.new.flash in
    c.in-Err.ensures.reads c.args.config.protocol c.args.config.logical a
    (was_scanned _ _ a b _ _ _ c.in_ok-charted.ensures.list c.in_ok-scanned.ensures.scan c.in_ok-scanned.ensures.reads)
