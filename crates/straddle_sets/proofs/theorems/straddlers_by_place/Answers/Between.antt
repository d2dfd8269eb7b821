-- Back Pointer Cyclic Commit: which records of a sound list straddle a name, by where its version lies.
use Rattle.std.proofs.Common.{◌≡◌, ℕ, ◌<◌, ◌≤◌, true, List, ap, ◌∙◌, inl, inr, arith, Contains}
use Rattle.std.proofs.lemmas.Bool.{cases_lt}
use Rattle.tx_types.specs.declared.record.Link.{Link}
use Rattle.tx_types.specs.declared.config.Protocol.TheVariants.{Bpcc}
use Rattle.record_list.specs.declared.found.Found.{Found}
use Rattle.record_list.specs.Records.{newest, name_of}
use Rattle.record_list.specs.Verdict.{straddling_version, straddling}
use Rattle.record_list.specs.Current.{cur, straddling_upto, responsible}
use Rattle.record_list.proofs.OfFacts.Names.{greatest_least, present_in}
use Rattle.record_list.proofs.OfFacts.Safe.{is_clear}
use Rattle.record_list.proofs.OfFacts.SoundNames.{IsSoundMap, map_back, clear_from}
use Rattle.straddle_sets.proofs.Straddle.{Straddles, straddling_cases, straddling_none, upto_is, upto_below, greatest_more}
use Rattle.straddle_sets.proofs.BpccLinks.{clear_low}

module _ (l : List Found) (logical : ℕ) (m : IsSoundMap Bpcc l logical) where
  -- a loose record begins to straddle at the current version of its page
  pub loose_back_is : (f : Found) → Contains l f → cur Bpcc l logical f.rec.page < f.rec.version →
      f.rec.back ≡ cur Bpcc l logical f.rec.page
  loose_back_is f i at = map_back m f i ∙ (m.loose (name_of f.rec) (present_in l f i) at).0

  -- so a record that straddles a name at most the current version there is itself at most that
  pub straddles_low : (f : Found) (q : Link) → Contains l f → Straddles f.rec q →
      q.version ≤ cur Bpcc l logical q.page →
      f.rec.version ≤ cur Bpcc l logical q.page
  straddles_low f q i h le = elim (cases_lt (cur Bpcc l logical q.page) f.rec.version) [
    | inl loose ↦ (
        let page = ap (cur Bpcc l logical) h.0 in
        let low = h.1 in
        let back = loose_back_is f i (omega arith) in
        absurd (omega arith))
    | inr at ↦ at
  ]

  -- nothing straddles the current version
  pub current_clear : (q : Link) → q.version ≡ cur Bpcc l logical q.page → is_clear Bpcc l q ≡ true
  current_clear q e =
      let none : straddling l q ≤ 0 = greatest_least (straddling_version q) l 0 (λ f i.
      let off = straddling_none f.rec q (λ h. (let le = straddles_low f q i h (omega arith) in let high = h.2 in
      omega arith)) in
      omega arith) in
      clear_from l q (omega arith)

  -- a name above the current version is clear exactly where it is not below the newest
  pub clear_high : (q : Link) → cur Bpcc l logical q.page < q.version → is_clear Bpcc l q ≡ true →
      newest l q.page ≤ q.version
  clear_high q above clear = elim (cases_lt q.version (newest l q.page)) [
    | inl behind ↦ (let le = clear_low l logical q behind clear in absurd (omega arith))
    | inr at ↦ at
  ]

  -- below the current version, what the verdict names is the record that answers
  pub answers_straddle : (q : Link) → q.version < cur Bpcc l logical q.page →
      straddling l q ≡ responsible Bpcc l logical q
  answers_straddle q below =
      let top = cur Bpcc l logical q.page in
      let up : straddling l q ≤ responsible Bpcc l logical q =
      greatest_more (straddling_version q) (straddling_upto top q) l
      (λ f i. elim (straddling_cases f.rec q) [
        | inl h ↦ (let at = h.1 in let same = upto_is top q f.rec h.0 (straddles_low f q i h.0 (omega arith)) in
            omega arith)
        | inr none ↦ omega arith
      ]) in
      let down : responsible Bpcc l logical q ≤ straddling l q = upto_below top q l in
      omega arith
