-- The pages to which walks lead: a page more that is looked at.
use Rattle.flash_picture.proofs.Common.{◌≡◌, ℕ, zero, suc, ◌+◌, ◌<◌, Bool, true, false, ◌==◌, ◌||◌, nat_lt, Option, None, Some, List, length, get_or, refl, sym, ap, ap₂, ◌∙◌, inl, inr, arith, lt-ltb, list_any, range_with_len, false≢true, cases_Bool, cond-true, cond-false, Protocol, Link, Found, is_same, link_of, newest_name}
use Rattle.std.proofs.Common.{◌&&◌, not, eq-eqb, replicate, set}
use Rattle.std.proofs.lemmas.Bool.{and_cases, and_from, and_left, and_parts, and_right, cases_eq, eqb-true, ne_eqb, or_right}
use Rattle.std.proofs.lemmas.List.{get_or-replicate, get_or-set_other, get_or-set_same, length-replicate, length-set}
use Rattle.list_lemmas.proofs.Values.{one_test}
use Rattle.record_list.specs.Records.{newest}
use Rattle.record_list.specs.Verdict.{is_committed, why}
use Rattle.flash_picture.specs.Walks.{AreLedTo, leads_to, marked, page_behind, page_of_newest}

-- a test of one number more at the end of a range
or_false : (a : Bool) → (a || false) ≡ a
or_false true = refl
or_false false = refl

or_assoc : (a b c : Bool) → (a || (b || c)) ≡ ((a || b) || c)
or_assoc true b c = refl
or_assoc false b c = refl

any_push : (test : ℕ → Bool) (a n at : ℕ) → a + n ≡ at → list_any test (range_with_len a (n + 1))
    ≡ (list_any test (range_with_len a n) || test at)
any_push test a zero at is = or_false (test a) ∙ ap test (let same : a ≡ at = omega arith in same)
any_push test a (suc n) at is =
    ap (λ k. list_any test (range_with_len a k)) (let more : suc n + 1 ≡ suc (n + 1) = omega arith in more)
    ∙ ap (λ b. test a || b) (any_push test (a + 1) n at (omega arith))
    ∙ or_assoc (test a) (list_any test (range_with_len (a + 1) n)) (test at)

-- whether a page is the one of several, if there is one
abbrev is_at : ℕ → Option ℕ → Bool
is_at page None = false
is_at page (Some other) = other == page

size_marked : (o : Option ℕ) (led : List Bool) → length (marked o led) ≡ length led
size_marked None led = refl
size_marked (Some page) led = length-set led page true

mark_at : (o : Option ℕ) (led : List Bool) (page : ℕ) (none : Bool) → page < length led →
    get_or (marked o led) page none ≡ (get_or led page none || is_at page o)
mark_at None led page none low = sym (or_false (get_or led page none))
mark_at (Some other) led page none low = elim (cases_eq other page) [
  | inl same ↦ ap (λ k. get_or (set led k true) page none) same ∙ get_or-set_same led page true none low
      ∙ sym (or_right (get_or led page none) (other == page) (eq-eqb other page same))
  | inr apart ↦ get_or-set_other led other page true none (λ e. apart (sym e))
      ∙ sym (ap (λ b. get_or led page none || b) (ne_eqb other page apart) ∙ or_false (get_or led page none))
]

module _ (list : List Found) (logical : ℕ) where
  -- a link is that to the newest record of a page
  abbrev leads : Link → Bool
  leads link = nat_lt link.page logical && (link.version == newest list link.page)

  abbrev meets : Link → ℕ → Bool
  meets link page = is_same link (newest_name list page)

  met : (link : Link) (page : ℕ) → leads link ≡ true → meets link page ≡ (link.page == page)
  met link page holds = one_test (meets link page) (link.page == page)
      (λ same. (and_parts (link.page == page) (link.version == newest list page) same).0)
      (λ same. and_from (link.page == page) (link.version == newest list page) same
      (ap (λ p. link.version == newest list p) (sym (eqb-true link.page page same))
      ∙ (and_parts (nat_lt link.page logical) (link.version == newest list link.page) holds).1))

  missed : (link : Link) (page : ℕ) → page < logical → leads link ≡ false → meets link page ≡ false
  missed link page low fails = elim (cases_eq link.page page) [
    | inr apart ↦ and_left (link.page == page) (link.version == newest list page) (ne_eqb link.page page apart)
    | inl same ↦ elim (and_cases (nat_lt link.page logical) (link.version == newest list link.page) fails) [
      | inl past ↦ absurd (false≢true (sym past ∙ lt-ltb link.page logical (omega arith)))
      | inr other ↦ and_right (link.page == page) (link.version == newest list page)
          (ap (λ p. link.version == newest list p) (sym same) ∙ other)
    ]
  ]

  newest_at : (link : Link) (page : ℕ) → page < logical →
      meets link page ≡ is_at page (page_of_newest list logical link)
  newest_at link page low = elim (cases_Bool (leads link)) [
    | inl holds ↦ met link page holds ∙ sym (ap (is_at page) (cond-true (leads link) (Some link.page) None holds))
    | inr fails ↦ missed link page low fails
        ∙ sym (ap (is_at page) (cond-false (leads link) (Some link.page) None fails))
  ]

  module _ (protocol : Protocol) where
    leads_at : (other page : ℕ) → page < logical → leads_to protocol list logical (newest_name list page) other
        ≡ is_at page (page_behind protocol list logical other)
    leads_at other page low = elim (cases_Bool (is_committed (why protocol list logical other))) [
      | inl counts ↦ ap (λ b. not b && meets (link_of list (newest_name list other)) page) counts
          ∙ sym (ap (is_at page) (cond-true (is_committed (why protocol list logical other)) None
          (page_of_newest list logical (link_of list (newest_name list other))) counts))
      | inr away ↦ ap (λ b. not b && meets (link_of list (newest_name list other)) page) away
          ∙ newest_at (link_of list (newest_name list other)) page low
          ∙ sym (ap (is_at page) (cond-false (is_committed (why protocol list logical other)) None
          (page_of_newest list logical (link_of list (newest_name list other))) away))
    ]

-- at first no page is marked
pub led_first : (protocol : Protocol) (list : List Found) (logical : ℕ) (led : List Bool) →
    led ≡ replicate logical false → AreLedTo protocol list logical 0 led
led_first protocol list logical led is = record {
  size = ap length is ∙ length-replicate logical false;
  each = λ page none low. ap (λ l. get_or l page none) is ∙ get_or-replicate logical page false none low;
}

pub led_more : (protocol : Protocol) (list : List Found) (logical other : ℕ) (led : List Bool) →
    AreLedTo protocol list logical other led →
    AreLedTo protocol list logical (other + 1) (marked (page_behind protocol list logical other) led)
led_more protocol list logical other led before =
    let behind = page_behind protocol list logical other in
    record {
      size = size_marked behind led ∙ before.size;
      each = λ page none low. mark_at behind led page none (let size = before.size in omega arith)
          ∙ ap₂ (λ a b. a || b) (before.each page none low) (sym (leads_at list logical protocol other page low))
          ∙ sym (any_push (leads_to protocol list logical (newest_name list page)) 0 other other (omega arith));
    }
