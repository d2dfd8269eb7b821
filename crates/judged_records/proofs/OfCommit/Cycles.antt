-- The names of a complete cycle are current.
use Rattle.judged_records.proofs.Common.{◌≡◌, ℕ, ◌<◌, true, List, length, zip, All, refl, sym, ap, ◌∙◌, subst, inr, arith, Contains, All-contains, all_from, Link, Rec, Protocol, shape_of, slots_of, newest, is_present, link_of, cur, next_names, same_name, Follows, follows_of, follows_in, name_newest, step_underway, step_of, Blank, note_at, found_in, IndexState, IsNoted, IsNextRecord, programmed, current_of}
use Rattle.record_list.specs.Verdict.{newest_name}
use Rattle.record_list.proofs.OfFacts.Safe.{top_link, Goes, IsSafe, counts_from}
use Rattle.record_list.proofs.OfFacts.Facts.{cur_committed}
use Rattle.judged_records.specs.IndexState.{IsCompleteCycle}
use Rattle.judged_records.proofs.OfNotes.FoundIn.{found}
use Rattle.judged_records.proofs.OfNotes.NotedFacts.{noted_map}
use Rattle.judged_records.proofs.OfChanges.NotedChanges.{next_write}

module _ (protocol : Protocol) (n : IndexState) (k : IsNoted protocol n) (names : List Link)
    (cycle : IsCompleteCycle n names) where
  -- what the cycle says of a name and the one that follows
  pub record IsClosed (a b : Link) : Type 0 where
    pub here : is_present (found_in n.notes) a ≡ true
    pub top : newest (found_in n.notes) a.page ≡ a.version
    pub link : link_of (found_in n.notes) a ≡ b

  closed : (a b : Link) → Follows names a b → IsClosed a b
  closed a b i =
      let parts = All-contains (λ (x : Link × Link).
      (is_present (found_in n.notes) x.0 ≡ true) × (newest (found_in n.notes) x.0.page ≡ x.0.version)
      × (link_of (found_in n.notes) x.0 ≡ x.1))
      (zip names (next_names names)) (a, b) cycle i in
      record { here = parts.0; top = parts.1; link = parts.2 }

  abbrev pub OnCycle : ℕ → Type 0
  OnCycle page = (a : Link) × Contains names a × (a.page ≡ page)

  cycle_safe : IsSafe protocol (found_in n.notes) n.config.logical OnCycle
  cycle_safe = record {
    written = λ page x. (
        let after = follows_of names x.0 x.1 in
        let c = closed x.0 after.0 after.1 in
        let positive = ((noted_map protocol n k).linked.versions x.0 c.here).0 in
        let top = c.top in
        subst (λ q. 0 < newest (found_in n.notes) q) x.2 (omega arith));
    goes = λ page x.
        let after = follows_of names x.0 x.1 in
        let c = closed x.0 after.0 after.1 in
        let i = (follows_in names x.0 after.0 after.1).1 in
        let beyond = follows_of names after.0 i in
        let d = closed after.0 beyond.0 beyond.1 in
        let name : newest_name (found_in n.notes) x.0.page ≡ x.0 = same_name (newest_name (found_in n.notes) x.0.page)
        x.0 refl c.top in
        let link : top_link (found_in n.notes) x.0.page ≡ after.0 = ap (link_of (found_in n.notes)) name ∙ c.link in
        subst (λ q. Goes protocol (found_in n.notes) OnCycle (top_link (found_in n.notes) q)) x.2
        (subst (Goes protocol (found_in n.notes) OnCycle) (sym link) (inr (sym d.top, (after.0, i, refl))));
  }

  pub cycle_current : All (λ name. current_of n name.page ≡ name.version) names
  unfolding current_of
  cycle_current = all_from (λ name. cur n.config.protocol (found_in n.notes) n.config.logical name.page
      ≡ name.version) names (λ a i.
      let after = follows_of names a i in
      let c = closed a after.0 after.1 in
      let counts = counts_from protocol (found_in n.notes) n.config.logical (noted_map protocol n k).linked OnCycle
      cycle_safe a.page (a, i, refl) in
      ap (λ p. cur p (found_in n.notes) n.config.logical a.page) k.rule
      ∙ cur_committed protocol (found_in n.notes) n.config.logical a.page counts.1 ∙ c.top)

-- Once its last record is noted, the names of a transaction in progress are a complete cycle.
pub cycle_written : (protocol : Protocol) (n : IndexState) → IsNoted protocol n → (at : ℕ) (rec : Rec) →
    at < slots_of (shape_of n.config) →
    note_at n.notes at ≡ Blank → (next : IsNextRecord n rec) →
    All (λ name. is_present (found_in (programmed n at rec).notes) name ≡ true) next.names →
    IsCompleteCycle (programmed n at rec) next.names
cycle_written protocol n k at rec exists was next all =
    let list' = found_in (programmed n at rec).notes in
    let within : at < length n.notes = (let slots = k.slots in omega arith) in
    let write = next_write protocol n k at rec within was next in
    let t = step_underway (found_in n.notes) list' n.config.logical next.names rec
    (step_of n.config.protocol (found_in n.notes) list' n.config.logical next.names (found at rec) write) in
    all_from (λ (x : Link × Link). (is_present list' x.0 ≡ true) × (newest list' x.0.page ≡ x.0.version) ×
    (link_of list' x.0 ≡ x.1)) (zip next.names (next_names next.names)) (λ x i.
    let own = (follows_in next.names x.0 x.1 i).0 in
    let here = All-contains (λ name. is_present list' name ≡ true) next.names x.0 all own in
    (here, name_newest list' n.config.logical next.names t x.0 own here, t.asked x.0 x.1 i here))
