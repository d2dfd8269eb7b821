-- Back Pointer Cyclic Commit: old links into the page that is written, and that page's own current version.
use Rattle.std.proofs.Common.{◌≡◌, ℕ, ◌<◌, ◌≤◌, true, false, List, refl, sym, ap, ◌∙◌, inl, inr, arith, Contains}
use Rattle.std.proofs.lemmas.Bool.{cases_Bool, cases_lt, cases_order, false_from_ne_true}
use Rattle.tx_types.specs.declared.record.Link.{Link}
use Rattle.tx_types.specs.declared.record.Rec.{Rec}
use Rattle.tx_types.specs.declared.config.Protocol.TheVariants.{Bpcc}
use Rattle.record_list.specs.declared.found.Found.{Found}
use Rattle.record_list.specs.Records.{newest, name_of, is_present}
use Rattle.record_list.specs.Verdict.{newest_name, back_of, straddling_version, why, is_committed}
use Rattle.record_list.specs.Current.{cur}
use Rattle.record_list.proofs.OfFacts.Names.{same_name, newest_present}
use Rattle.record_list.proofs.OfFacts.Safe.{top_link, is_clear}
use Rattle.record_list.proofs.OfFacts.SoundNames.{IsSoundMap, clear_from, clear_gives}
use Rattle.record_list.proofs.OfFacts.Facts.{cur_le, cur_committed, cur_uncommitted, current_counts}
use Rattle.record_list.proofs.OfChanges.Progress.{name_uncounted}
use Rattle.record_list.proofs.OfChanges.OneMore.{its_back, IsStep, newest_own, step_underway, step_linked}
use Rattle.record_list.proofs.OfChanges.Untouched.{OldLinks}
use Rattle.record_list.proofs.OfChanges.Completing.{clear_at_newest}
use Rattle.straddle_sets.proofs.Straddle.{straddling_is, straddling_none, blocks}

-- an uncommitted newest record has the current version of its page as its back version, so it straddles what lies
-- between
pub clear_low : (l : List Found) (logical : ℕ) (q : Link) → q.version < newest l q.page → is_clear Bpcc l q ≡ true →
    q.version ≤ cur Bpcc l logical q.page
clear_low l logical q behind clear = elim (cases_lt (cur Bpcc l logical q.page) q.version) [
  | inl above ↦ elim (cases_Bool (is_committed (why Bpcc l logical q.page))) [
    | inl yes' ↦ (let e = cur_committed Bpcc l logical q.page yes' in absurd (omega arith))
    | inr not' ↦ (
        let e = cur_uncommitted Bpcc l logical q.page not' in
        absurd (blocks l (newest_name l q.page) q (newest_present l q.page (omega arith)) refl (omega arith) behind
        (clear_gives l q clear)))
  ]
  | inr at ↦ at
]

module _ (l l' : List Found) (logical : ℕ) (names : List Link) (r : Rec) (s : IsStep l l' logical names r)
    (m : IsSoundMap Bpcc l logical)
    (back : r.back ≡ cur Bpcc l logical r.page) where
  -- a link into the page that is written is clear afterwards exactly where it was clear and is at most the current
  -- version
  clear_after : (q : Link) → q.page ≡ r.page → q.version < r.version → is_clear Bpcc l q ≡ true →
      q.version ≤ cur Bpcc l logical r.page →
      is_clear Bpcc l' q ≡ true
  clear_after q into low clear le =
      let e = s.one.greatest_is (straddling_version q) in
      let was = clear_gives l q clear in
      let none = straddling_none r q (λ h. (let between = h.1 in omega arith)) in
      clear_from l' q (omega arith)

  -- the other way round
  clear_before : (q : Link) → q.page ≡ r.page → q.version < r.version → is_clear Bpcc l' q ≡ true →
      (is_clear Bpcc l q ≡ true) ×
      (q.version ≤ cur Bpcc l logical r.page)
  clear_before q into low clear =
      let e = s.one.greatest_is (straddling_version q) in
      let none = clear_gives l' q clear in (
        clear_from l q (omega arith),
        elim (cases_lt (cur Bpcc l logical r.page) q.version) [
          | inl above ↦ (let is = straddling_is r q (sym into, omega arith, low) in absurd (omega arith))
          | inr at ↦ at
        ],
      )

  -- so each old link into that page goes on exactly where it is clear afterwards
  pub bpcc_old_links : OldLinks Bpcc l l' logical names r
  bpcc_old_links page k into =
      let q = top_link l page in
      let n = newest_name l page in
      let here = newest_present l page k.0 in
      let low : q.version < r.version = (s.underway.lower n here k.2 (name_of r) s.of_names).1 into in
      let positive = (m.linked.versions n here).1 in
      let there = ap (newest l) into in
      let same = ap (cur Bpcc l logical) into in (
        λ goes. elim goes [
          | inl passes ↦ (let le = clear_low l logical q passes.0 passes.1 in
              clear_after q into low passes.1 (omega arith))
          | inr on ↦ (
              let at = on.0 in
              let e = cur_committed Bpcc l logical q.page on.1.1 in
              clear_after q into low (clear_at_newest Bpcc l q (omega arith)) (omega arith))
        ],
        λ clear.
            let was = clear_before q into low clear in
            let bound = cur_le Bpcc l logical m r.page in
            let at_most = was.1 in
            elim (cases_order q.version (newest l q.page)) [
              | inl at ↦ inr (at, current_counts Bpcc l logical m q.page (omega arith) (omega arith))
              | inr (inl behind) ↦ inl (behind, was.0)
              | inr (inr ahead) ↦ absurd (omega arith)
            ],
      )

  -- the page that is written keeps its current version while a name is absent: the new record's back version
  pub bpcc_own_cur : (gone : Link) → Contains names gone → is_present l' gone ≡ false →
      cur Bpcc l' logical r.page ≡ cur Bpcc l logical r.page
  bpcc_own_cur gone j absent' =
      let top = newest_own l l' logical names r s in
      let positive = (s.underway.range (name_of r) s.of_names).1 in
      let not' : is_committed (why Bpcc l' logical r.page) ≡ false =
      false_from_ne_true (is_committed (why Bpcc l' logical r.page)) (λ h.
      name_uncounted l' logical names (step_underway l l' logical names r s) Bpcc
      (step_linked l l' logical names r s m.linked) gone j absent'
      (name_of r) s.of_names s.one.own (omega arith, h)) in
      cur_uncommitted Bpcc l' logical r.page not'
      ∙ ap (back_of l') (same_name (newest_name l' r.page) (name_of r) refl top) ∙ its_back s.one ∙ back
