-- A scan that keeps law 1, and what its records say of law 2.
use Rattle.scan_recovery.proofs.Common.{◌≡◌, ℕ, ◌+◌, ◌*◌, ◌<◌, true, List, length, get_or, All, Some, refl, sym, ap, ◌∙◌, subst, Protocol, slots_of, Seen, FlashState, Found, nothing, IsScanned, Copies, FindsFirst, KeepsWritten, written_in, records_in, IsLeastImageBreach, records_scanned, ReadsAll, ReadsSome, IsScanOf, AgreesWithLowest, compared, compared_to}
use Rattle.scan_recovery.specs.Twins.{compared_upto}
use Rattle.scan_recovery.proofs.OfScan.ReadingSteps.{reads_all_then, reads_some_then}
use Rattle.scan_recovery.proofs.OfScan.ComparedSteps.{as_before}
use Rattle.scan_recovery.proofs.OfLaws.LawTwo.{two_holds, two_broken}
use Rattle.scan_recovery.proofs.recovery.try_law_two.Answers.Upto.{compared_until}

module _ (p : Protocol) (logical : ℕ) (a b c : FlashState) (slots : List Seen) (list : List Found)
    (scan : IsScanOf p logical a.image slots list) (read : ReadsAll a b (slots_of a.shape)) where
  -- where each record agrees with the lowest of its name, law 2 holds
  pub scan_copies : All (AgreesWithLowest b.shape.page_bytes b.image list) list →
      All (KeepsWritten p (written_in p a.image) logical Copies) (written_in p a.image)
  scan_copies agrees =
      two_holds p logical a.shape.page_bytes a.image
      (subst (λ l. All (AgreesWithLowest a.shape.page_bytes a.image l) l) scan.records
      (as_before a b (slots_of a.shape) (λ s i. All (AgreesWithLowest s.page_bytes i list) list) read agrees))

  -- and the first that does not breaks it
  pub scan_breach : (at : ℕ) (found : Found) → FindsFirst (AgreesWithLowest b.shape.page_bytes b.image list) list
      (Some at) → get_or list at nothing ≡ found →
      IsLeastImageBreach p logical a.shape a.image (record { law = 2; slot = found.slot })
  scan_breach at found first here =
      let all : FindsFirst (AgreesWithLowest a.shape.page_bytes a.image (records_in p a.image))
      (records_in p a.image) (Some at) =
      subst (λ l. FindsFirst (AgreesWithLowest a.shape.page_bytes a.image l) l (Some at)) scan.records
      (as_before a b (slots_of a.shape) (λ s i. FindsFirst (AgreesWithLowest s.page_bytes i list) list (Some at))
      read first) in
      two_broken p logical a.shape.page_bytes a.image a.shape at (record { law = 2; slot = found.slot })
      scan.reads all refl
      (ap (λ (f : Found). f.slot) (sym here ∙ ap (λ l. get_or l at nothing) scan.records))

  -- the reads of both
  pub reads_whole : ReadsAll b c (2 * compared list) →
      ReadsAll a c (slots_of a.shape + 2 * compared (records_in p a.image))
  reads_whole then =
      subst (λ l. ReadsAll a c (slots_of a.shape + 2 * compared l)) scan.records
      (reads_all_then a b c (slots_of a.shape) (2 * compared list) read then)

  pub reads_until : (at : ℕ) (found : Found) → at < length list → get_or list at nothing ≡ found →
      ReadsAll b c (2 * compared_to list (Some at)) →
      ReadsAll a c (slots_of a.shape + 2 * compared_upto (records_in p a.image) found.slot.0)
  reads_until at found within here then =
      let up = subst (λ l. IsScanned l) (sym scan.records) (records_scanned p a.image) in
      subst (λ l. ReadsAll a c (slots_of a.shape + 2 * compared_upto l found.slot.0)) scan.records
      (subst (λ (f : Found). ReadsAll a c (slots_of a.shape + 2 * compared_upto list f.slot.0)) here
      (subst (λ n. ReadsAll a c (slots_of a.shape + 2 * n)) (compared_until list at up.ascending within)
      (reads_all_then a b c (slots_of a.shape) (2 * compared_to list (Some at)) read then)))

  pub reads_fault : ReadsSome b c true (2 * compared list) →
      ReadsSome a c true (slots_of a.shape + 2 * compared (records_in p a.image))
  reads_fault then =
      subst (λ l. ReadsSome a c true (slots_of a.shape + 2 * compared l)) scan.records
      (reads_some_then a b c (slots_of a.shape) (2 * compared list) true read then)
