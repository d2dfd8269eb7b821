-- Links followed from a name: if they ever lead to an absent name, they do within as many links as there are records.
use Rattle.std.proofs.Common.{◌≡◌, ◌↔◌, ℕ, ◌+◌, ◌<◌, ◌≤◌, Bool, true, false, not, List, length, sym, ap, ◌∙◌, inl, inr, arith, add-one}
use Rattle.std.specs.Prelude.{IsTrue}
use Rattle.std.proofs.lemmas.Bool.{false≢true, cases_Bool, true_from_ne_false, not-true, not_from_false}
use Rattle.tx_types.specs.declared.record.Link.{Link}
use Rattle.record_list.specs.declared.found.Found.{Found}
use Rattle.record_list.specs.Records.{is_present}
use Rattle.record_list.specs.Verdict.{link_of}
use Rattle.record_list.specs.SoundList.{follow}
use Rattle.record_list.proofs.OfWalks.Follow.{follow_last, stays_absent, never_absent, few_met}
use Rattle.straddle_sets.proofs.Ending.{Ends}

module _ (l : List Found) (u : Link) (ends : Ends l u) where
  -- while all names are present they are distinct
  apart : (m i j : ℕ) → ((k : ℕ) → k ≤ m → is_present l (follow l u k) ≡ true) → i < j → j ≤ m →
      follow l u i ≡ follow l u j → ⊥
  apart m i j here less le same =
      let never = never_absent l u i j less same (λ k lk. here k (omega arith)) ends.0 ends.0 (omega arith) in
      false≢true (sym ends.1 ∙ never)

  -- so an absent name is met within as many links as there are records
  ends_in_time : is_present l (follow l u (length l)) ≡ false
  ends_in_time = elim (cases_Bool (is_present l (follow l u (length l)))) [
    | inr gone ↦ gone
    | inl at_last ↦ (
        let here : (k : ℕ) → k ≤ length l → is_present l (follow l u k) ≡ true =
        λ k le. true_from_ne_false (is_present l (follow l u k)) (λ gone.
        false≢true (sym (stays_absent l u k (length l) le gone) ∙ at_last)) in
        let few = few_met l u (length l) here (λ i j less le. apart (length l) i j here less le) in
        absurd (omega arith))
  ]

-- the name that a loop has in hand, a link later
pub follow_more : (l : List Found) (u v : Link) (n : ℕ) → v ≡ follow l u n → link_of l v ≡ follow l u (n + 1)
follow_more l u v n e = ap (link_of l) e ∙ sym (follow_last l u n) ∙ ap (follow l u) (sym (add-one n))

-- after as many links as there are records the name in hand decides
pub reached : (l : List Found) (u v : Link) (n : ℕ) (here : Bool) → v ≡ follow l u n → length l ≤ n → n ≤ length l →
    here ≡ is_present l v →
    IsTrue (not here) ↔ Ends l u
reached l u v n here at low high is =
    let all : n ≡ length l = omega arith in
    let same : here ≡ is_present l (follow l u (length l)) = is ∙ ap (is_present l) (at ∙ ap (follow l u) all) in (
      λ gone. (length l, sym same ∙ not-true here gone),
      λ ends. not_from_false here (same ∙ ends_in_time l u ends),
    )
