-- The greatest versions that straddle the links of newest records, noted record by record along the chains.
use Rattle.verdict_check.proofs.Common.{◌≡◌, ◌≢◌, ℕ, ◌+◌, ◌<◌, ◌≤◌, Option, None, Some, List, length, set, get_or, refl, sym, ap, ◌∙◌, subst, inl, inr, arith, get_or-set_same, if◌then◌else◌, cases_eq, cond-true, cond-false, nat_tests, Contains-get_or, Rec, Protocol, Scc, Found, newest, record_at, nothing, Why, Absent, is_ahead, is_behind, IsNewestAt}
use Rattle.std.proofs.Common.{max}
use Rattle.std.proofs.Common.{le-ltb, lt-ltb}
use Rattle.std.specs.Prelude.{All}
use Rattle.std.proofs.lemmas.Bool.{cases_order}
use Rattle.list_lemmas.proofs.Lists.{take_whole}
use Rattle.tx_types.specs.declared.config.Protocol.TheVariants.{Bpcc}
use Rattle.record_list.specs.Records.{name_of}
use Rattle.record_list.specs.Verdict.{straddling, straddling_version, why_below_newest}
use Rattle.record_list.proofs.OfFacts.Greatest.{greatest_step}
use Rattle.record_list.proofs.OfFacts.Names.{newest_bound, present_in}
use Rattle.sorted_records.specs.SortedRecords.{ending}
use Rattle.verdict_check.specs.Older.{version_at}
use Rattle.verdict_check.specs.Straddlers.{newest_link, page_behind, IsLastInto, AreStraddlersOf, TakesIn, TakesInFrom, AreStraddlers, behind_shows}
use Rattle.verdict_check.proofs.ChainLemmas.{leads_behind}
use Rattle.verdict_check.proofs.PlaceLemmas.{link_there}

module _ (list : List Found) (r : Rec) where
  -- a record straddles no link but one that leads behind into its page
  no_straddler : (page : ℕ) → r.version ≤ newest list r.page → page_behind list page ≢ Some r.page →
      straddling_version (newest_link list page) r ≡ 0
  no_straddler page known other = elim (cases_eq r.page (newest_link list page).page) [
    | inl same ↦ elim (cases_order (newest_link list page).version r.version) [
      | inl equal ↦ grind (arith, nat_tests)
      | inr (inl low) ↦ absurd (other (leads_behind list page (let e = ap (newest list) same in omega arith)
          ∙ ap Some (sym same)))
      | inr (inr high) ↦ grind (arith, nat_tests)
    ]
    | inr ne ↦ grind (arith, nat_tests)
  ]

  stays : (was now : List ℕ) (page : ℕ) → r.version ≤ newest list r.page → page_behind list page ≢ Some r.page →
      version_at now page ≡ version_at was page →
      TakesIn list r was now page
  stays was now page known other same = let none = no_straddler page known other in
      same ∙ sym (ap (max (version_at was page)) none ∙ omega arith)

  -- a walk along a chain begins
  pub begins : (logical : ℕ) (table : List ℕ) (o : Option ℕ) → r.version ≤ newest list r.page →
      IsLastInto list r.page logical o →
      TakesInFrom list logical r table table o
  begins logical table None known none = λ page low. stays table table page known (none page low) refl
  begins logical table (Some at) known (within, leads, top) =
      (within, leads, (λ page high low. stays table table page known (top page high low) refl), (λ page low. refl))

  -- and goes on
  pub goes_on : (logical at : ℕ) (was now new : List ℕ) (o : Option ℕ) → r.version ≤ newest list r.page →
      TakesInFrom list logical r was now (Some at) →
      IsLastInto list r.page at o → TakesIn list r now new at →
      ((p : ℕ) → p ≢ at → version_at new p ≡ version_at now p) →
      TakesInFrom list logical r was new o
  goes_on logical at was now new None known (within, leads, above, below) none here others =
      λ page low. elim (cases_order page at) [
        | inl same ↦ subst (TakesIn list r was new) (sym same) (here
            ∙ ap (λ n. max n (straddling_version (newest_link list at) r)) (below at (omega arith)))
        | inr (inl less) ↦ stays was new page known (none page less) (others page (omega arith)
            ∙ below page (omega arith))
        | inr (inr more) ↦ others page (omega arith) ∙ above page more low
      ]
  goes_on logical at was now new (Some next) known (within, leads, above, below) (lower, into, top) here others = (
    omega arith,
    into,
    (λ page high low. elim (cases_order page at) [
      | inl same ↦ subst (TakesIn list r was new) (sym same) (here
          ∙ ap (λ n. max n (straddling_version (newest_link list at) r)) (below at (omega arith)))
      | inr (inl less) ↦ stays was new page known (top page high less) (others page (omega arith)
          ∙ below page (omega arith))
      | inr (inr more) ↦ others page (omega arith) ∙ above page more low
    ]),
    (λ page low. others page (omega arith) ∙ below page (omega arith)),
  )

  -- a version is taken in where it straddles the link, and only there
  pub taken_in : (table : List ℕ) (page : ℕ) → page < length table → r.page ≡ (newest_link list page).page →
      r.back < (newest_link list page).version → (newest_link list page).version < r.version →
      TakesIn list r table (set table page (max (version_at table page) r.version)) page
  taken_in table page within same low high =
      let v : straddling_version (newest_link list page) r ≡ r.version = grind (arith, nat_tests) in
      get_or-set_same table page (max (version_at table page) r.version) 0 within
      ∙ sym (ap (max (version_at table page)) v)

-- no version of the list is above the newest of its page
pub known : (list : List Found) (i : ℕ) → i < length list →
    (record_at list i).version ≤ newest list (record_at list i).page
known list i within = newest_bound list (name_of (record_at list i))
    (present_in list (get_or list i nothing) (Contains-get_or list i nothing within))

-- with one record more
pub straddlers_more : (list : List Found) (i logical : ℕ) (before after : List ℕ) → i < length list →
    AreStraddlersOf list i logical before →
    ((page : ℕ) → page < logical → TakesIn list (record_at list i) before after page) →
    AreStraddlersOf list (i + 1) logical after
straddlers_more list i logical before after within was now page low =
    now page low ∙ ap (λ n. max n (straddling_version (newest_link list page) (record_at list i))) (was page low)
    ∙ sym (greatest_step (straddling_version (newest_link list page)) list i within)

-- with all of them
pub all_straddlers : (list : List Found) (count logical : ℕ) (straddlers : List ℕ) → count ≡ length list →
    All (λ f. f.rec.page < logical) list →
    AreStraddlersOf list count logical straddlers → AreStraddlers list straddlers
all_straddlers list count logical straddlers end pages are at within newest_at =
    are (record_at list at).page (pages at nothing within)
    ∙ ap (λ l. straddling l (newest_link list (record_at list at).page)) (take_whole count list (sym end))
    ∙ ap (straddling list) (sym (link_there list (record_at list at).page at (sym newest_at)))

-- what the link of a newest record shows, by the table
pub shows_behind : (protocol : Protocol) (list : List Found) (straddlers : List ℕ) (at : ℕ) → at < length list →
    IsNewestAt list at →
    (protocol ≡ Bpcc → AreStraddlers list straddlers) →
    behind_shows protocol (version_at straddlers (record_at list at).page)
    ≡ why_below_newest protocol list (record_at list at).next
shows_behind Scc list straddlers at within newest_at are = refl
shows_behind Bpcc list straddlers at within newest_at are = ap (behind_shows Bpcc) (are refl at within newest_at)

pub shows_ending : (protocol : Protocol) (list : List Found) (straddlers : List ℕ) (at : ℕ) (why : Why) →
    at < length list → IsNewestAt list at →
    (protocol ≡ Bpcc → AreStraddlers list straddlers) →
    (record_at list at).next.version < newest list (record_at list at).next.page →
    why ≡ behind_shows protocol (version_at straddlers (record_at list at).page) →
    why ≡ ending protocol list (record_at list at).next
shows_ending protocol list straddlers at why within newest_at are behind is =
    let link = (record_at list at).next in
    is ∙ shows_behind protocol list straddlers at within newest_at are
    ∙ sym (cond-false (is_ahead list link) Absent (if is_behind list link
    then why_below_newest protocol list link else Absent)
    (le-ltb (newest list link.page) link.version (omega arith))
    ∙ cond-true (is_behind list link) (why_below_newest protocol list link) Absent
    (lt-ltb link.version (newest list link.page) behind))
