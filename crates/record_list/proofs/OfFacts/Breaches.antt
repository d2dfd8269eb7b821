-- From the first record that breaks a law to the least breach of a list.
use Rattle.record_list.proofs.Common.{◌≡◌, ℕ, ◌+◌, ◌<◌, List, length, get_or, refl, sym, subst, ap, ◌∙◌, arith, inl, inr, cases_order, Protocol, Found, nothing, IsScanned, Pages, Copies, PagesExist, CopiesAgree, CurrentIsPresent, KeepsCount}
use Rattle.std.proofs.Common.{Some}
use Rattle.std.specs.Prelude.{◌==◌, if◌then◌else◌, All, Any}
use Rattle.std.proofs.lemmas.List.{get_or_default}
use Rattle.record_list.specs.declared.found.Breach.{Breach}
use Rattle.record_list.specs.SoundList.{Law, Links, Present, Counted, Loose, Ending, number, Keeps, LinksDiffer}
use Rattle.record_list.specs.SoundList.{LinkHasCounted, IsLeastBreach}
use Rattle.record_list.specs.Search.{FindsFirst}
use Rattle.record_list.specs.Counts.{IsLeastMiscount}

-- an earlier slot stands at an earlier index
pub earlier_index : (list : List Found) (k i : ℕ) (d : Found) → IsScanned list → k < length list →
    (get_or list k d).slot.0 < (get_or list i d).slot.0 → k < i
earlier_index list k i d scanned inside below = elim (cases_order k i) [
  | inl same ↦
      let equal : (get_or list k d).slot.0 ≡ (get_or list i d).slot.0 = ap (λ n. (get_or list n d).slot.0) same in
      absurd (omega arith)
  | inr other ↦ elim other [
    | inl earlier ↦ earlier
    | inr later ↦
        let above : (get_or list i d).slot.0 < (get_or list k d).slot.0 = scanned.ascending i k d later inside in
        absurd (omega arith)
  ]
]

-- the first record that breaks a law breaks it at the least slot
least_slot : (P : Found → Type 0) (list : List Found) (i slot : ℕ) → IsScanned list → FindsFirst P list (Some i) →
    slot ≡ (get_or list i nothing).slot.0 →
    Any (λ f. (f.slot.0 ≡ slot) × (P f → ⊥)) list × All (λ f. f.slot.0 < slot → P f) list
least_slot P list i slot scanned (inside, fails, before) at = (
  (
    i,
    get_or list i nothing,
    inside,
    get_or_default list i (get_or list i nothing) nothing inside,
    (sym at, fails nothing),
  ),
  λ k d within below.
      let same : (get_or list i d).slot.0 ≡ slot = ap (λ f. f.slot.0) (get_or_default list i d nothing inside)
      ∙ sym at in
      let above : (get_or list k d).slot.0 < (get_or list i d).slot.0 = omega arith in
      before k d (earlier_index list k i d scanned within above),
)

pub least_breach : (protocol : Protocol) (list : List Found) (logical : ℕ) (law : Law) (i : ℕ) (b : Breach) →
    IsScanned list → FindsFirst (Keeps protocol list logical law) list (Some i) →
    number law ≡ b.law → b.slot ≡ (get_or list i nothing).slot →
    ((l : Law) → number l < number law → All (Keeps protocol list logical l) list) →
    IsLeastBreach protocol list logical b
least_breach protocol list logical law i b scanned finds law_number at earlier =
    let least = least_slot (Keeps protocol list logical law) list i b.slot.0 scanned finds (ap (λ s. s.0) at) in
    record { law = law; law_number = law_number; breaks = least.0; earlier_laws = earlier; earlier_slots = least.1 }

-- the law of a number
law_of : ℕ → Law
law_of n =
    if n == 1 then Pages
    else if n == 2 then Copies
    else if n == 3 then Links
    else if n == 4 then Present
    else if n == 5 then Counted
    else if n == 6 then Loose
    else Ending

law_of_number : (l : Law) → law_of (number l) ≡ l
unfolding law_of
law_of_number Pages = refl
law_of_number Copies = refl
law_of_number Links = refl
law_of_number Present = refl
law_of_number Counted = refl
law_of_number Loose = refl
law_of_number Ending = refl

-- no law has a number below that of the first
pub no_law_before : (P : Law → Type 0) (l : Law) → number l < 1 → P l
no_law_before P Pages h = absurd (omega arith)
no_law_before P Copies h = absurd (omega arith)
no_law_before P Links h = absurd (omega arith)
no_law_before P Present h = absurd (omega arith)
no_law_before P Counted h = absurd (omega arith)
no_law_before P Loose h = absurd (omega arith)
no_law_before P Ending h = absurd (omega arith)

-- what holds of the laws before a law, and of it, holds of those before the next
pub one_law_more : (P : Law → Type 0) (law : Law) → ((l : Law) → number l < number law → P l) → P law →
    (l : Law) → number l < number law + 1 → P l
one_law_more P law before this l h = elim (cases_order (number l) (number law)) [
  | inl same ↦ subst (λ m. P m) (sym (law_of_number law) ∙ sym (ap law_of same) ∙ law_of_number l) this
  | inr other ↦ elim other [ inl below ↦ before l below | inr above ↦ absurd (omega arith) ]
]

-- the laws before each law
pub before_copies : (P : Law → Type 0) → P Pages → (l : Law) → number l < number Copies → P l
before_copies P pages = one_law_more P Pages (no_law_before P) pages

pub before_links : (P : Law → Type 0) → P Pages → P Copies → (l : Law) → number l < number Links → P l
before_links P pages copies = one_law_more P Copies (before_copies P pages) copies

pub before_present : (P : Law → Type 0) → P Pages → P Copies → P Links → (l : Law) → number l < number Present → P l
before_present P pages copies links = one_law_more P Links (before_links P pages copies) links

pub before_counted : (P : Law → Type 0) → P Pages → P Copies → P Links → P Present → (l : Law) →
    number l < number Counted → P l
before_counted P pages copies links present = one_law_more P Present (before_present P pages copies links) present

-- the breach of a law by the record at an index
abbrev pub breach : ℕ → List Found → ℕ → Breach
breach law list at = record { law = law; slot = (get_or list at nothing).slot }

-- the least breach of law 9
pub miscount_at : (list : List Found) (at : ℕ) → IsScanned list → FindsFirst (KeepsCount list) list (Some at) →
    IsLeastMiscount list (breach 9 list at)
miscount_at list at scanned finds =
    let least = least_slot (KeepsCount list) list at (get_or list at nothing).slot.0 scanned finds refl in
    record { law = refl; breaks = least.0; earlier_slots = least.1 }

-- the least breach, law by law
pub breach_of_pages : (p : Protocol) (list : List Found) (logical at : ℕ) → IsScanned list →
    FindsFirst (PagesExist logical) list (Some at) → IsLeastBreach p list logical (breach 1 list at)
breach_of_pages p list logical at scanned finds =
    least_breach p list logical Pages at (breach 1 list at) scanned finds refl refl
    (no_law_before (λ l. All (Keeps p list logical l) list))

pub breach_of_copies : (p : Protocol) (list : List Found) (logical at : ℕ) → IsScanned list →
    All (PagesExist logical) list →
    FindsFirst (CopiesAgree list) list (Some at) → IsLeastBreach p list logical (breach 2 list at)
breach_of_copies p list logical at scanned pages finds =
    least_breach p list logical Copies at (breach 2 list at) scanned finds refl refl
    (before_copies (λ l. All (Keeps p list logical l) list) pages)

pub breach_of_links : (p : Protocol) (list : List Found) (logical at : ℕ) → IsScanned list →
    All (PagesExist logical) list →
    All (CopiesAgree list) list → FindsFirst (LinksDiffer list) list (Some at) →
    IsLeastBreach p list logical (breach 3 list at)
breach_of_links p list logical at scanned pages copies finds =
    least_breach p list logical Links at (breach 3 list at) scanned finds refl refl
    (before_links (λ l. All (Keeps p list logical l) list) pages copies)

pub breach_of_current : (p : Protocol) (list : List Found) (logical at : ℕ) → IsScanned list →
    All (PagesExist logical) list →
    All (CopiesAgree list) list → All (LinksDiffer list) list →
    FindsFirst (CurrentIsPresent p list logical) list (Some at) →
    IsLeastBreach p list logical (breach 4 list at)
breach_of_current p list logical at scanned pages copies links finds =
    least_breach p list logical Present at (breach 4 list at) scanned finds refl refl
    (before_present (λ l. All (Keeps p list logical l) list) pages copies links)

pub breach_of_counted : (p : Protocol) (list : List Found) (logical at : ℕ) → IsScanned list →
    All (PagesExist logical) list →
    All (CopiesAgree list) list → All (LinksDiffer list) list → All (CurrentIsPresent p list logical) list →
    FindsFirst (LinkHasCounted p list logical) list (Some at) → IsLeastBreach p list logical (breach 5 list at)
breach_of_counted p list logical at scanned pages copies links current finds =
    least_breach p list logical Counted at (breach 5 list at) scanned finds refl refl
    (before_counted (λ l. All (Keeps p list logical l) list) pages copies links current)

-- the least breach, whichever law is broken first
pub ruleset first_breaches = (breach_of_pages, breach_of_copies, breach_of_links, breach_of_current, breach_of_counted)
