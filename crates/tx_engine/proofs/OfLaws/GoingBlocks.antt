-- Which blocks hold records that must go before a page is written.
use Rattle.tx_engine.proofs.Common.{◌≡◌, ℕ, ◌≤◌, false, List, refl, inl, inr, arith, cases_Bool, Protocol, IndexState}
use Rattle.std.specs.Prelude.{count_by}
use Rattle.std.specs.List.{range_with_len}
use Rattle.std.proofs.lemmas.Bool.{both_ways}
use Rattle.std.proofs.lemmas.List.Sums.{count_by-le-length}
use Rattle.std.proofs.lemmas.List.FromFn.{length-range_with_len}
use Rattle.list_lemmas.proofs.Membership.{all_from}
use Rattle.list_lemmas.proofs.Tests.{none_counted}
use Rattle.tx_types.specs.Config.{shape_of, blocks_of}
use Rattle.tx_types.specs.declared.config.Protocol.TheVariants.{Scc, Bpcc}
use Rattle.tx_types.specs.declared.record.Rec.{Rec}
use Rattle.record_list.specs.Current.{must_go}
use Rattle.record_list.specs.declared.found.Found.{Found}
use Rattle.judged_records.specs.Notes.{found_in}
use Rattle.collector.specs.Going.{is_going}
unfoldable use Rattle.collector.specs.Going.{blocks_to_go}
use Rattle.collector.proofs.OfRoom.GoingCounts.{going_at}
use Rattle.tx_engine.specs.Costs.{most_to_go}

none_goes : (p : Protocol) → p ≡ Bpcc → (list : List Found) (logical page below : ℕ) (r : Rec) →
    must_go p list logical page below r ≡ false
none_goes Scc is list logical page below r = (let no : Scc ≡ Bpcc = is in absurd cc)
none_goes Bpcc is list logical page below r = refl

stays : (n : IndexState) (page below block : ℕ) → n.config.protocol ≡ Bpcc → is_going n page below block ≡ false
stays n page below block is = elim (cases_Bool (is_going n page below block)) [
  | inr off ↦ off
  | inl going ↦ (
      let at = going_at n page below block going in
      absurd (both_ways (must_go n.config.protocol (found_in n.notes) n.config.logical page below at.0.rec)
      (none_goes n.config.protocol is (found_in n.notes) n.config.logical page below at.0.rec) at.1.goes))
]

-- no more blocks hold such a record than may
pub few_to_go : (n : IndexState) (page below : ℕ) →
    blocks_to_go n page below ≤ most_to_go n.config.protocol (blocks_of (shape_of n.config))
unfolding blocks_to_go
few_to_go n page below = by n.config.protocol refl
  where
    by : (p : Protocol) → n.config.protocol ≡ p →
        count_by (is_going n page below) (range_with_len 0 (blocks_of (shape_of n.config)))
        ≤ most_to_go p (blocks_of (shape_of n.config))
    by Scc is =
        let most = count_by-le-length (is_going n page below) (range_with_len 0 (blocks_of (shape_of n.config))) in
        let long = length-range_with_len 0 (blocks_of (shape_of n.config)) in
        omega (arith, most, long)
    by Bpcc is =
        let none = none_counted (is_going n page below) (range_with_len 0 (blocks_of (shape_of n.config)))
        (all_from (λ k. is_going n page below k ≡ false) (range_with_len 0 (blocks_of (shape_of n.config)))
        (λ k i. stays n page below k is)) in
        omega (arith, none)
