-- The steps of the one transaction that is open.
use Rattle.page_keys.proofs.Common.{◌≡◌, ◌⊎◌, ℕ, zero, suc, ◌+◌, ◌<◌, get_or, Bool, true, false, List, [], ◌∷◌, length, Ok, Err, refl, sym, ap, subst, ◌∙◌, inl, inr, arith, PageWrite, ArrayState, Pages, Represents, put, idle, StepsAs, writing}
use Rattle.array_machine.specs.ArrayState.{Entry}
use Rattle.array_machine.specs.declared.mark.Mark.{Mark}
use Rattle.array_machine.specs.declared.mark.Mark.TheVariants.{Plain, Doubt, Whole}
use Rattle.array_machine.specs.declared.answers.Progress.TheVariants as progress
use Rattle.array_machine.specs.declared.answers.StepError.TheVariants as failed

module _ (array : Pages) (writes : List PageWrite) (done : ℕ) (new : ArrayState) where
  pub wrote : (there : Bool) (k all : ℕ) →
      StepsAs there (writing array writes done) new 0 (Ok (progress.Wrote k all)) →
      (new ≡ writing array writes (done + 1)) × (done + 1 < length writes)
  wrote true k all steps = (steps.4, steps.1)
  wrote false k all steps = (steps.4, steps.1)

  finished : {a : Pages} → a ≡ array →
      ((Plain ≡ Whole) × (new ≡ idle a)) ⊎ ((Plain ≡ Plain) × (done + 1 ≡ length writes)
      × (new ≡ idle (put a writes))) → new ≡ idle (put array writes)
  finished same (inl h) = let clash = h.0 in cc
  finished same (inr h) = h.2 ∙ ap (λ (a : Pages). idle (put a writes)) same

  pub done_writing : (there : Bool) →
      StepsAs there (writing array writes done) new 0 (Ok progress.Done) →
      new ≡ idle (put array writes)
  done_writing true steps = finished refl steps
  done_writing false steps = finished refl steps

  at_last : {a : Pages} →
      ((Plain ≡ Whole) × (new ≡ idle a)) ⊎ ((Plain ≡ Plain) × (done + 1 ≡ length writes)
      × (new ≡ idle (put a writes))) → done + 1 ≡ length writes
  at_last (inl h) = let clash = h.0 in cc
  at_last (inr h) = h.1

  -- it was the last page
  pub last_page : (there : Bool) →
      StepsAs there (writing array writes done) new 0 (Ok progress.Done) → done + 1 ≡ length writes
  last_page true steps = at_last steps
  last_page false steps = at_last steps

  pub not_unknown : (there : Bool) →
      StepsAs there (writing array writes done) new 0 (Err failed.Unknown) → ⊥
  not_unknown true steps = steps
  not_unknown false steps = steps

module _ (array : Pages) (writes : List PageWrite) (done : ℕ) (new : ArrayState) where
  -- the transaction is open still
  pub fault_marks : (there : Bool) → StepsAs there (writing array writes done) new 0 (Err failed.Fault) →
      (mark : Mark)
      × (new.entries ≡ record { tag = 0; writes = writes; done = done; mark = mark } ∷ [])
  fault_marks true (inl h) = (Plain, ap (λ (s : ArrayState). s.entries) h)
  fault_marks true (inr h) = elim h.1 [
    | inl p ↦ (Plain, ap (λ (s : ArrayState). s.entries) p)
    | inr p ↦ (Doubt, ap (λ (s : ArrayState). s.entries) p.1)
  ]
  fault_marks false (inl h) = (Plain, ap (λ (s : ArrayState). s.entries) h)
  fault_marks false (inr h) = elim h.1 [
    | inl p ↦ (Plain, ap (λ (s : ArrayState). s.entries) p)
    | inr p ↦ (Doubt, ap (λ (s : ArrayState). s.entries) p.1)
  ]

-- what the image may have where one transaction is open
only_one : (e x : Entry) (k : ℕ) → k < 1 → get_or (e ∷ []) k x ≡ x → e ≡ x
only_one e x zero within is = is
only_one e x (suc k) within is = absurd (omega arith)

stands_single : (array arr : Pages) (e : Entry) →
    Represents (record { pages = array; entries = e ∷ [] }) arr →
    (arr ≡ array) ⊎ (arr ≡ put array e.writes)
stands_single array arr e (inl h) = inl h
stands_single array arr e (inr h) =
    let same = only_one e h.0 h.1.0 h.1.1 h.1.2 in
    inr (h.3 ∙ ap (λ (x : Entry). put array x.writes) (sym same))

module _ (array : Pages) (writes : List PageWrite) (done : ℕ) (new : ArrayState) (arr : Pages)
    (stands : Represents new arr) where
  one_left : (mark : Mark) →
      new ≡ record { pages = array; entries = record { tag = 0; writes = writes; done = done; mark = mark } ∷ [] } →
      (arr ≡ array) ⊎ (arr ≡ put array writes)
  one_left mark is =
      stands_single array arr (record { tag = 0; writes = writes; done = done; mark = mark })
      (subst (λ (s : ArrayState). Represents s arr) is stands)

  -- a fault leaves the array, or that with all writes
  pub fault_leaves : (there : Bool) →
      StepsAs there (writing array writes done) new 0 (Err failed.Fault) →
      (arr ≡ array) ⊎ (arr ≡ put array writes)
  fault_leaves true (inl h) = one_left Plain h
  fault_leaves true (inr h) = elim h.1 [
    | inl p ↦ one_left Plain p
    | inr p ↦ one_left Doubt p.1
  ]
  fault_leaves false (inl h) = one_left Plain h
  fault_leaves false (inr h) = elim h.1 [
    | inl p ↦ one_left Plain p
    | inr p ↦ one_left Doubt p.1
  ]
