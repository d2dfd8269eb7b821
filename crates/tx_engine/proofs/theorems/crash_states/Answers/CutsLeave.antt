-- What a power cut in a call leaves of the array machine.
use Rattle.tx_engine.proofs.Common.{◌≡◌, ◌≢◌, ◌⊎◌, ℕ, Bool, true, false, cond, zero, suc, List, [], ◌∷◌, ◌++◌, map, get_or, All, Contains, Option, Some, None, Result, Err, refl, sym, ap, ◌∙◌, subst, inl, inr, arith, eqb-true, cases_eq, cond-true, cond-false, append-nil, All-head, All-tail, All-contains, Contains-cases, Contains-nil, Contains-rest, Contents, IndexState, Unsure, ArrayState, Entry, Pages, put, is_doubted, has_tag, entry_of, with_entry, idle, Mark, Plain, Doubt, Whole, Progress, StepError, Represents, Naming, DoubtsAs, settled_mark, settled_entry, settled, IsAtLast, CutLeaves}
use Rattle.std.proofs.Common.{suc-ne-zero, slice_get}
use Rattle.std.proofs.Common.{MatchOption}
use Rattle.std.proofs.lemmas.Option.{slice_get-get_or}
use Rattle.list_lemmas.proofs.Tests.{find_stands}
use Rattle.list_lemmas.proofs.Membership.{Contains-here, in_map}
use Rattle.collector.specs.declared.unsure.Unsure.TheVariants as unsure
use Rattle.array_machine.specs.declared.answers.StepError.TheVariants as failed
use Rattle.array_machine.specs.Step.{doubted, FaultLeaves}

-- nothing is in doubt once it settled
settled_sure : (there : Bool) (m : Mark) → settled_mark there m ≡ Doubt → ⊥
settled_sure there Plain h = cc
settled_sure true Doubt h = cc
settled_sure false Doubt h = cc
settled_sure there Whole h = cc

settled_entries : (there : Bool) (es : List Entry) (e : Entry) → Contains (map (settled_entry there) es) e →
    e.mark ≡ Doubt → ⊥
settled_entries there es e c h =
    let at = in_map (settled_entry there) es e c in
    settled_sure there at.0.mark (ap (λ (y : Entry). y.mark) at.2 ∙ h)

-- an entry that is in doubt in place of the one with a tag is the new one
replaced_step : (b : Bool) (new x e : Entry) (xs rest : List Entry) → (Contains xs e → ⊥) → (x ≡ e → ⊥) →
    (Contains rest e → new ≡ e) →
    Contains (cond b (new ∷ xs) (x ∷ rest)) e → new ≡ e
replaced_step true new x e xs rest no_tail no_head by c = elim (Contains-cases new xs e c) [
  | inl same ↦ same
  | inr i ↦ absurd (no_tail i)
]
replaced_step false new x e xs rest no_tail no_head by c =
    elim (Contains-cases x rest e c) [ inl same ↦ absurd (no_head same) | inr i ↦ by i ]

replaced : (tag : ℕ) (new : Entry) (es : List Entry) (e : Entry) → (Contains es e → ⊥) →
    Contains (with_entry tag new es) e → new ≡ e
replaced tag new [] e none i = absurd (Contains-nil e i)
replaced tag new (x ∷ xs) e none i =
    replaced_step (has_tag tag x) new x e xs (with_entry tag new xs) (λ j. none (Contains-rest x xs e j))
    (λ same. none (Contains-here x xs e same))
    (replaced tag new xs e (λ j. none (Contains-rest x xs e j))) i

-- the open transaction with a tag is one of them, and has the tag
pub found_entry : (tag : ℕ) (es : List Entry) (e : Entry) → entry_of tag es ≡ Some e →
    Contains es e × (has_tag tag e ≡ true)
found_entry tag es e h = find_stands (has_tag tag) es e h

-- Where at most one transaction is in doubt, the writes in doubt are its writes.
none_doubted : (es : List Entry) → All (λ e. is_doubted e.mark ≡ false) es → doubted es ≡ []
none_doubted [] h = refl
none_doubted (x ∷ xs) h =
    cond-false (is_doubted x.mark) (x.writes ++ doubted xs) (doubted xs)
    (All-head (λ (e : Entry). is_doubted e.mark ≡ false) x xs h)
    ∙ none_doubted xs (All-tail (λ (e : Entry). is_doubted e.mark ≡ false) x xs h)

one_doubted : (es : List Entry) (place : ℕ) (e : Entry) → slice_get es place ≡ Some e → is_doubted e.mark ≡ true →
    ((k : ℕ) (f : Entry) → k ≢ place → slice_get es k ≡ Some f → is_doubted f.mark ≡ false) → doubted es ≡ e.writes
one_doubted [] place e is doubt others = cc
one_doubted (x ∷ xs) zero e is doubt others =
    let same : x ≡ e = cc in
    let rest : All (λ (f : Entry). is_doubted f.mark ≡ false) xs =
    λ k d inside. others (suc k) (get_or xs k d) (λ z. suc-ne-zero k z)
    (slice_get-get_or xs k d inside) in
    cond-true (is_doubted x.mark) (x.writes ++ doubted xs) (doubted xs)
    (ap (λ (f : Entry). is_doubted f.mark) same ∙ doubt)
    ∙ ap (λ ws. x.writes ++ ws) (none_doubted xs rest) ∙ append-nil x.writes ∙ ap (λ (f : Entry). f.writes) same
one_doubted (x ∷ xs) (suc place) e is doubt others =
    cond-false (is_doubted x.mark) (x.writes ++ doubted xs) (doubted xs)
    (others zero x (λ z. suc-ne-zero place (sym z)) refl)
    ∙ one_doubted xs place e is doubt (λ k f other got. others (suc k) f (λ same. other (omega arith)) got)

not_doubted : (e : Entry) → e.mark ≡ Doubt → is_doubted e.mark ≡ false → ⊥
not_doubted e h k = let both = sym (ap is_doubted h) ∙ k in cc

pub the_doubted : (image : List Contents) (n : IndexState) (es : List Entry) (namings : List Naming) (u : Unsure) →
    DoubtsAs image n es namings u →
    (e : Entry) → Contains es e → e.mark ≡ Doubt → doubted es ≡ e.writes
the_doubted image n es namings (unsure.Own at rec) own e c h =
    let got : slice_get es c.0 ≡ Some e = slice_get-get_or es c.0 e c.1 ∙ ap Some c.2 in
    elim (cases_eq c.0 own.place) [
      | inl same ↦ one_doubted es c.0 e got (ap is_doubted h) (λ k f other. own.others k f (λ z. other (z ∙ sym same)))
      | inr other ↦ absurd (not_doubted e h (own.others c.0 e other got))
    ]
the_doubted image n es namings unsure.Nothing none e c h =
    absurd (not_doubted e h (All-contains (λ (f : Entry). is_doubted f.mark ≡ false) es e none c))
the_doubted image n es namings (unsure.Copy from to) none e c h =
    absurd (not_doubted e h (All-contains (λ (f : Entry). is_doubted f.mark ≡ false) es e none c))
the_doubted image n es namings unsure.SpareErase none e c h =
    absurd (not_doubted e h (All-contains (λ (f : Entry). is_doubted f.mark ≡ false) es e none c))
the_doubted image n es namings (unsure.VictimErase block) none e c h = absurd
    (not_doubted e h (All-contains (λ (f : Entry). is_doubted f.mark ≡ false) es e none c))

-- The array of an image, where the state is as before the call, or has settled in it
module _ (Q : Entry → Type 0) (s : ArrayState) (pages : Pages) where
  as_before : (image : List Contents) (n : IndexState) (namings : List Naming) (u : Unsure) →
      DoubtsAs image n s.entries namings u → Represents s pages →
      CutLeaves Q s (idle pages)
  as_before image n namings u doubt (inl same) = (false, inl same, refl)
  as_before image n namings u doubt (inr (e, c, h, taken)) = (
    true,
    inl (taken ∙ ap (put s.pages) (sym (the_doubted image n s.entries namings u doubt e c h))),
    refl,
  )

  as_settled : (there : Bool) → Represents (settled there s) pages → CutLeaves Q s (idle pages)
  as_settled there (inl same) = (there, inl same, refl)
  as_settled there (inr (e, c, h, taken)) = absurd (settled_entries there s.entries e c h)

  pub cut_settled : (there : Bool) (new : ArrayState) (image : List Contents) (n : IndexState) (namings : List Naming)
      (u : Unsure) →
      DoubtsAs image n new.entries namings u → Represents new pages →
      (new ≡ s) ⊎ (new ≡ settled there s) → CutLeaves Q s (idle pages)
  cut_settled there new image n namings u doubt stands (inl same) =
      as_before image n namings u (subst (λ (m : ArrayState). DoubtsAs image n m.entries namings u) same doubt)
      (subst (λ (m : ArrayState). Represents m pages) same stands)
  cut_settled there new image n namings u doubt stands (inr same) =
      as_settled there (subst (λ (m : ArrayState). Represents m pages) same stands)

-- the transaction of the step
abbrev pub AtLastOf : ℕ → Entry → Type 0
AtLastOf tag e = (e.tag ≡ tag) × IsAtLast e

-- or has the transaction of the step in doubt, which was writing its last page
last_doubted : (old : ArrayState) (there : Bool) (tag : ℕ) (pages : Pages) (e : Entry) →
    entry_of tag old.entries ≡ Some e → IsAtLast e →
    Represents (record (settled there old) {
      entries = with_entry tag (record (settled_entry there e) { mark = Doubt })
          (settled there old).entries;
    }) pages →
    CutLeaves (AtLastOf tag) old (idle pages)
last_doubted old there tag pages e found last (inl same) = (there, inl same, refl)
last_doubted old there tag pages e found last (inr (f, c, h, taken)) =
    let new : Entry = record (settled_entry there e) { mark = Doubt } in
    let is = replaced tag new (map (settled_entry there) old.entries) f
    (λ i. settled_entries there old.entries f i h)
    c in
    let at = found_entry tag old.entries e found in
    let writes : f.writes ≡ e.writes = sym (ap (λ (g : Entry). g.writes) is) in
    (there, inr (e, (at.0, (eqb-true e.tag tag at.1, last)), taken ∙ ap (put (settled there old).pages) writes), refl)

-- the answer to a step that met a fault
abbrev pub faulted : Result Progress StepError
faulted = Err failed.Fault

pub cut_step : (old new : ArrayState) (there : Bool) (tag : ℕ) (pages : Pages) (image : List Contents) (n : IndexState)
    (namings : List Naming) (u : Unsure) →
    DoubtsAs image n new.entries namings u → Represents new pages → (o : Option Entry) → entry_of tag old.entries ≡ o →
    MatchOption o ((faulted ≡ Err failed.Unknown) × (new ≡ old))
    (λ e. FaultLeaves old (settled there old) tag (settled_entry there e) new) →
    CutLeaves (AtLastOf tag) old (idle pages)
cut_step old new there tag pages image n namings u doubt stands None found h = let no_fault = h.0 in cc
cut_step old new there tag pages image n namings u doubt stands (Some e) found (inl same) =
    cut_settled (AtLastOf tag) old pages there new image n namings u doubt stands (inl same)
cut_step old new there tag pages image n namings u doubt stands (Some e) found (inr (plain, inl same)) =
    cut_settled (AtLastOf tag) old pages there new image n namings u doubt stands (inr same)
cut_step old new there tag pages image n namings u doubt stands (Some e) found (inr (plain, inr (last, same))) =
    last_doubted old there tag pages e found last (subst (λ (m : ArrayState). Represents m pages) same stands)
