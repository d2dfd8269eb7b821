-- The pages whose newest records lead behind, chained by the pages to which they lead.
use Rattle.verdict_check.proofs.Common.{◌≡◌, ◌≢◌, ℕ, suc, ◌+◌, ◌<◌, ◌≤◌, ◌==◌, eqb-true, Option, None, Some, List, length, set, get_or, sym, ap, ◌∙◌, subst, inl, inr, arith, get_or-set_same, get_or-set_other, cases_eq, cond-true, cond-false, get_or_default, length-set, Found, newest, version_of, nothing, is_behind, place_at}
use Rattle.std.proofs.Common.{lt-ltb, le-ltb}
use Rattle.std.specs.Prelude.{All}
use Rattle.list_lemmas.proofs.Values.{if_positive}
use Rattle.record_list.proofs.OfFacts.Names.{greatest_attained}
use Rattle.verdict_check.specs.Straddlers.{newest_link, page_behind, IsLastInto, AreLast, AreBefore}

-- a page that has a version has a record in the list
pub page_within : (list : List Found) (page count : ℕ) → All (λ f. f.rec.page < count) list →
    0 < newest list page → page < count
page_within list page count pages some =
    let (f, in_list, top) = greatest_attained (version_of page) list some in
    let own = if_positive (f.rec.page == page) f.rec.version (omega arith) in
    let e : get_or list in_list.0 nothing ≡ f = get_or_default list in_list.0 nothing f in_list.1 ∙ in_list.2 in
    let p = eqb-true f.rec.page page own.0 in
    let low : f.rec.page < count = subst (λ g. g.rec.page < count) e (pages in_list.0 nothing in_list.1) in
    omega arith

-- how many pages are left of a chain, at most
abbrev pub above : Option ℕ → ℕ
above None = 0
above (Some page) = suc page

module _ (list : List Found) where
  pub leads_behind : (page : ℕ) → (newest_link list page).version < newest list (newest_link list page).page →
      page_behind list page ≡ Some (newest_link list page).page
  leads_behind page low =
      cond-true (is_behind list (newest_link list page)) (Some (newest_link list page).page) None
      (lt-ltb (newest_link list page).version (newest list (newest_link list page).page) low)

  pub leads_on : (page : ℕ) → newest list (newest_link list page).page ≤ (newest_link list page).version →
      page_behind list page ≡ None
  leads_on page high =
      cond-false (is_behind list (newest_link list page)) (Some (newest_link list page).page) None
      (le-ltb (newest_link list page).version (newest list (newest_link list page).page) high)

  -- one page more
  longer : (into count : ℕ) (o : Option ℕ) → page_behind list count ≢ Some into → IsLastInto list into count o →
      IsLastInto list into (count + 1) o
  longer into count None other none = λ page low. elim (cases_eq page count) [
    | inl same ↦ λ e. other (subst (λ p. page_behind list p ≡ Some into) same e)
    | inr ne ↦ none page (omega arith)
  ]
  longer into count (Some last) other (within, leads, top) = (
    omega arith,
    leads,
    λ page high low. elim (cases_eq page count) [
      | inl same ↦ λ e. other (subst (λ p. page_behind list p ≡ Some into) same e)
      | inr ne ↦ top page high (omega arith)
    ],
  )

  -- one that leads behind
  pub last_more : (page into : ℕ) (last : List (Option ℕ)) → into < length last → page_behind list page ≡ Some into →
      AreLast list page last →
      AreLast list (page + 1) (set last into (Some page))
  last_more page into last within leads are other low = let size = length-set last into (Some page) in
      elim (cases_eq other into) [
        | inl same ↦ subst (IsLastInto list other (page + 1)) (sym (ap (place_at (set last into (Some page))) same ∙
            get_or-set_same last into (Some page) None within))
            (omega arith, rw same leads, λ p high less. absurd (omega arith))
        | inr ne ↦ subst (IsLastInto list other (page + 1)) (sym (get_or-set_other last into other (Some page) None ne))
            (longer other page (place_at last other) (λ e. ne (let f : Some other ≡ Some into = cc in cc))
            (are other (omega arith)))
      ]

  pub before_more : (page into : ℕ) (before : List (Option ℕ)) (o : Option ℕ) → page < length before →
      page_behind list page ≡ Some into →
      IsLastInto list into page o → AreBefore list page before → AreBefore list (page + 1) (set before page o)
  before_more page into before o within leads last are p other low e = elim (cases_eq p page) [
    | inl same ↦ (
        let f : page_behind list page ≡ Some other = subst (λ q. page_behind list q ≡ Some other) same e in
        let g : into ≡ other = cc in
        subst (IsLastInto list other p) (sym (ap (place_at (set before page o)) same
        ∙ get_or-set_same before page o None within))
        (subst (λ q. IsLastInto list other q o) (sym same) (subst (λ q. IsLastInto list q page o) g last)))
    | inr ne ↦ subst (IsLastInto list other p) (sym (get_or-set_other before page p o None ne))
        (are p other (omega arith) e)
  ]

  -- what comes before is lower
  pub above_less : (into at : ℕ) (o : Option ℕ) → IsLastInto list into at o → above o < suc at
  above_less into at None none = omega arith
  above_less into at (Some last) (within, leads, top) = omega arith

  -- at first there is none
  pub none_last : (last : List (Option ℕ)) → ((page : ℕ) → place_at last page ≡ None) → AreLast list 0 last
  none_last last empty into low = subst (IsLastInto list into 0) (sym (empty into)) (λ page less. absurd (omega arith))
