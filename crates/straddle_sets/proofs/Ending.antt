-- Back Pointer Cyclic Commit: links that led to an absent name do so after a write.
use Rattle.std.proofs.Common.{◌≡◌, ℕ, zero, suc, true, false, List, refl, sym, subst, inl, inr, arith, Contains}
use Rattle.std.proofs.lemmas.Bool.{cases_Bool}
use Rattle.tx_types.specs.declared.record.Link.{Link}
use Rattle.tx_types.specs.declared.record.Rec.{Rec}
use Rattle.record_list.specs.declared.found.Found.{Found}
use Rattle.record_list.specs.Records.{name_of, is_present}
use Rattle.record_list.specs.Verdict.{link_of}
use Rattle.record_list.specs.SoundList.{follow}
use Rattle.record_list.proofs.OfFacts.Names.{absent_link}
use Rattle.record_list.proofs.OfWalks.Rounds.{follows_in, round_back, follows_of}
use Rattle.record_list.proofs.OfChanges.OneMore.{links_else, IsStep, step_underway}
use Rattle.record_list.proofs.OfChanges.Keeping.{absent_still}

-- this many links lead from a name to an absent one
abbrev pub Ends : List Found → Link → Type 0
Ends l u = (n : ℕ) × (is_present l (follow l u n) ≡ false)

module _ (l l' : List Found) (logical : ℕ) (names : List Link) (r : Rec) (s : IsStep l l' logical names r) where
  -- a link of a record that is no name leads to no name
  pub link_out : (u : Link) → is_present l u ≡ true → (Contains names u → ⊥) → Contains names (link_of l u) → ⊥
  link_out u here out i = (let low = (s.underway.lower u here out (link_of l u) i).1 refl in omega arith)

  -- what is no name of the transaction is not the new name
  out_new : (u : Link) → (Contains names u → ⊥) → u ≡ name_of r → ⊥
  out_new u out e = out (subst (Contains names) (sym e) s.of_names)

  -- links from a name that is none of the transaction's lead as far as before
  follow_out : (n : ℕ) (u : Link) → (Contains names u → ⊥) → is_present l (follow l u n) ≡ false →
      is_present l' (follow l' u n) ≡ false
  follow_out zero u out h = absent_still l l' logical names r s u (out_new u out) h
  follow_out (suc n) u out h =
      let step = follow_out n in
      let e : link_of l' u ≡ link_of l u = links_else s.one u (out_new u out) in
      let next_out : Contains names (link_of l u) → ⊥ = elim (cases_Bool (is_present l u)) [
        | inl here ↦ link_out u here out
        | inr gone ↦ (λ i. out (subst (Contains names) (absent_link l u gone) i))
      ] in
      subst (λ z. is_present l' (follow l' z n) ≡ false) (sym e) (step (link_of l u) next_out h)

  -- from a record that is no name
  pub ends_out : (u : Link) → is_present l u ≡ true → (Contains names u → ⊥) → Ends l (link_of l u) →
      Ends l' (link_of l' u)
  ends_out u here out h = (
    h.0,
    subst (λ z. is_present l' (follow l' z h.0) ≡ false) (sym (links_else s.one u (out_new u out)))
        (follow_out h.0 (link_of l u) (link_out u here out) h.1),
  )

  -- from each name, where one is absent
  pub ends_names : (gone : Link) → Contains names gone → is_present l' gone ≡ false → (a : Link) → Contains names a →
      is_present l' a ≡ true →
      Ends l' (link_of l' a)
  ends_names gone j absent' a i here =
      let t = step_underway l l' logical names r s in
      let all = round_back (Ends l') names (λ c d k h. elim (cases_Bool (is_present l' c)) [
        | inl there ↦ (suc h.0, subst (λ z. is_present l' (follow l' z h.0) ≡ false) (sym (t.asked c d k there)) h.1)
        | inr none ↦ (0, none)
      ]) gone j (0, absent') in
      let after = follows_of names a i in
      subst (Ends l') (sym (t.asked a after.0 after.1 here)) (all after.0 (follows_in names a after.0 after.1).1)
