-- The slots of some records, and those of one record more.
use Rattle.version_index.proofs.Common.{◌≡◌, ◌≢◌, ℕ, ◌+◌, ◌≤◌, ◌⊎◌, List, [], ◌∷◌, ◌++◌, length, map, sym, ap, ◌∙◌, subst, inl, inr, arith, length-append, length-map, Contains-nil, Contains-here, Block, TablesState, copies_of, AreGathered}
use Rattle.std.specs.List.{AllPairs}
use Rattle.std.proofs.lemmas.Grind.{flat_map-append}
use Rattle.std.proofs.lemmas.List.{append-nil, map-append}
use Rattle.std.proofs.lemmas.List.Elements.{Contains-append_left, Contains-append_right, Contains-append_cases}
use Rattle.list_lemmas.proofs.Membership.{Contains-one}
use Rattle.list_lemmas.proofs.Pairs.{pairs_cons}
use Rattle.slot_tables.specs.Gathered.{block_at, blocks_of_copies, copies_of_all}
use Rattle.slot_tables.proofs.OfSlots.GatheredSlots.{pairs_append, few_gathered}

module _ (k : TablesState) (Such : ℕ → Type 0) (blocks : List Block) (g : AreGathered k Such blocks) (number : ℕ)
    (other : Such number → ⊥) where
  once_more : AllPairs (λ x y. x ≢ y) (g.numbers ++ number ∷ [])
  once_more =
      pairs_append (λ x y. x ≢ y) g.numbers (number ∷ []) g.once
      (pairs_cons (λ x y. x ≢ y) number [] (λ y has. absurd (Contains-nil y has))
      (λ i j d less within. absurd (omega arith)))
      (λ x y near far same. other (subst Such (same ∙ sym (Contains-one number y far)) ((g.such x).0 near)))

  all_more : copies_of_all k (g.numbers ++ number ∷ []) ≡ copies_of_all k g.numbers ++ copies_of k.slots number
  all_more =
      flat_map-append (copies_of k.slots) g.numbers (number ∷ [])
      ∙ ap (λ r. copies_of_all k g.numbers ++ r) (append-nil (copies_of k.slots number))

  -- have room with those before
  pub room_more : length blocks + length (copies_of k.slots number) ≤ length k.slots
  room_more =
      let b = block_at k.shape.pages_per_block in
      let long = ap length g.are ∙ length-map (copies_of_all k g.numbers) b in
      let all = ap length all_more ∙ length-append (copies_of_all k g.numbers) (copies_of k.slots number) in
      let few = few_gathered k (g.numbers ++ number ∷ []) once_more in
      omega (arith, long, all, few)

  -- and are gathered behind them
  pub gathered_more : (More : ℕ → Type 0) → ((x : ℕ) → Such x → More x) → More number →
      ((x : ℕ) → More x → Such x ⊎ (number ≡ x))
      → AreGathered k More (blocks ++ blocks_of_copies k number)
  gathered_more More such more from =
      let b = block_at k.shape.pages_per_block in
      record {
        numbers = g.numbers ++ number ∷ [];
        once = once_more;
        such = λ x. (
          λ has. elim (Contains-append_cases g.numbers (number ∷ []) x has) [
            | inl near ↦ such x ((g.such x).0 near)
            | inr far ↦ subst More (Contains-one number x far) more
          ],
          λ h. elim (from x h) [
            | inl old ↦ Contains-append_left g.numbers (number ∷ []) x ((g.such x).1 old)
            | inr same ↦ Contains-append_right g.numbers (number ∷ []) x (Contains-here number [] x same)
          ],
        );
        are = ap (λ bs. bs ++ blocks_of_copies k number) g.are
            ∙ sym (map-append b (copies_of_all k g.numbers) (copies_of k.slots number)) ∙ ap (map b) (sym all_more);
      }
