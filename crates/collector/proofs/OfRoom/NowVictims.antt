-- The block with the most garbage as it is noted is the victim, where the tables match.
use Rattle.collector.proofs.Common.{◌≡◌, ℕ, ◌<◌, true, None, sym, ap, ◌∙◌, inl, inr, arith, eq-eqb, cases_eq, shape_of, blocks_of, FlashState, is_slot, IndexState, BlocksState, block_state, Unsure, Matches, IsVictim, HasNoGarbage, is_shut}
use Rattle.judged_records.specs.IndexState.{garbage_of, garbage_now, is_shut_now, FindsMostGarbageNow, HasMostGarbageNow}
use Rattle.judged_records.proofs.OfNotes.NotedFacts.{spare_garbage}
use Rattle.collector.specs.Victim.{garbage_in}

module _ (s : FlashState) (n : IndexState) (t : BlocksState) (u : Unsure) (m : Matches s n t u) where
  -- the garbage of a block is as it is noted
  pub now_same : (block : ℕ) → block < blocks_of (shape_of n.config) → garbage_now n block ≡ garbage_in n t block
  now_same block low = elim (cases_eq block t.spare) [
    | inl spare ↦
        let its : is_slot block n.spare ≡ true = ap (is_slot block) m.spare ∙ eq-eqb t.spare block (sym spare) in
        spare_garbage n block (is_shut_now n block) its
        ∙ sym (spare_garbage n block (is_shut (block_state t block)) its)
    | inr apart ↦ ap (garbage_of n block) (m.shut.others block low apart)
  ]

  pub none_now : FindsMostGarbageNow n None → HasNoGarbage n t
  none_now none block low = sym (now_same block low) ∙ none block low

  pub victim_now : (block : ℕ) → HasMostGarbageNow n block → IsVictim n t block
  victim_now block h =
      let own = now_same block h.exists in
      record {
        exists = h.exists;
        some = (let some = h.some in omega (arith, own, some));
        most = λ other low.
            let its = now_same other low in
            let less = h.most other low in
            omega (arith, own, its, less);
        lowest = λ other lower.
            let exists = h.exists in
            let its = now_same other (omega (arith, exists, lower)) in
            let less = h.lowest other lower in
            omega (arith, own, its, less);
      }
