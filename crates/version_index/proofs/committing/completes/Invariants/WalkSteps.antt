-- The steps of the walk that finds whether a record completes its cycle, from newest record to newest record.
use Rattle.version_index.proofs.Common.{◌≡◌, ℕ, suc, true, false, eqb, Any, sym, ap, ◌∙◌, subst, inl, inr, eq-eqb, eqb-true, cases_Bool, and_parts, and_from, in_any, Link, Rec, Protocol, newest, name_of, link_of, same_name, found_in, IndexState, IsNoted, comes_back}
use Rattle.record_list.specs.Records.{is_same}
use Rattle.record_list.proofs.OfFacts.SoundNames.{map_link}
use Rattle.judged_records.proofs.OfCommit.Closing.{back_closes, back_goes}
use Rattle.judged_records.proofs.OfNotes.NotedFacts.{noted_map}

-- the link that is followed names the newest record of its page
pub record LeadsTo (m : IndexState) (q : Link) (s : Rec) : Type 0 where
  pub noted : Any (λ f. f.rec ≡ s) (found_in m.notes)
  pub page : s.page ≡ q.page
  pub version : s.version ≡ q.version
  pub top : newest (found_in m.notes) q.page ≡ s.version

module _ (protocol : Protocol) (m : IndexState) (k : IsNoted protocol m) (r s : Rec) (q : Link) (turns : ℕ)
    (to : LeadsTo m q s) where
  its_name : name_of s ≡ q
  its_name = same_name (name_of s) q to.page to.version

  its_link : link_of (found_in m.notes) q ≡ s.next
  its_link =
      let f = in_any (λ f. f.rec ≡ s) (found_in m.notes) to.noted in
      let link = map_link (noted_map protocol m k) f.0 f.1 in
      ap (link_of (found_in m.notes)) (sym its_name)
      ∙ sym (subst (λ (u : Rec). u.next ≡ link_of (found_in m.notes) (name_of u)) f.2 link)

  -- where this is the record itself the walk comes back
  pub walk_closes : name_of s ≡ name_of r → comes_back (found_in m.notes) (name_of r) (suc turns) q ≡ true
  walk_closes same =
      let is = sym its_name ∙ same in
      back_closes (found_in m.notes) (name_of r) turns q (to.top ∙ to.version)
      (and_from (eqb q.page r.page) (eqb q.version r.version) (eq-eqb q.page r.page (ap (λ u. u.page) is))
      (eq-eqb q.version r.version (ap (λ u. u.version) is)))

  -- and from another one it goes on by its link
  pub walk_goes : (name_of s ≡ name_of r → ⊥) → comes_back (found_in m.notes) (name_of r) (suc turns) q
      ≡ comes_back (found_in m.notes)
      (name_of r) turns s.next
  walk_goes other =
      let off : is_same q (name_of r) ≡ false = elim (cases_Bool (is_same q (name_of r))) [
        | inl same ↦ (
            let parts = and_parts (eqb q.page r.page) (eqb q.version r.version) same in
            absurd (other (its_name ∙ same_name q (name_of r) (eqb-true q.page r.page parts.0)
            (eqb-true q.version r.version parts.1))))
        | inr differs ↦ differs
      ] in
      back_goes (found_in m.notes) (name_of r) turns q (to.top ∙ to.version) off
      ∙ ap (comes_back (found_in m.notes) (name_of r) turns) its_link
