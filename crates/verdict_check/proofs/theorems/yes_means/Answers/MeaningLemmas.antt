-- The line of a page tells what it says.
use Rattle.verdict_check.proofs.Common.{◌≡◌, ℕ, zero, suc, ◌-◌, ◌<◌, ◌≤◌, ◌==◌, Bool, true, false, List, [], ◌∷◌, ◌++◌, length, get_or, map, refl, sym, ap, ◌∙◌, subst, inl, inr, arith, append-nil, codes, decimal, if◌then◌else◌, list_all, concat, cases_Bool, and_parts, Link, Rec, Protocol, Scc, Found, Why, Cycle, Absent, version_of, newest, has_name, newest_name, link_of, is_ahead, is_behind, why, verdict_of, cur, links_of, reason_words, verdict_word, verdict_line, walk_words, last_line}
use Rattle.std.proofs.Common.{◌^◌, drop, All, Contains}
use Rattle.std.specs.List.{join_with_byte, slice_split}
use Rattle.std.proofs.lemmas.Fmt.{decimal_injective}
use Rattle.std.proofs.lemmas.List.{append_cancel_right}
use Rattle.std.proofs.lemmas.List.Elements.{Contains-append_cases, Contains-append_left, All-contains}
use Rattle.std.proofs.lemmas.List.Splits.{slice_split_none, slice_split_at}
use Rattle.list_lemmas.proofs.Membership.{Contains-one, in_map, map_in}
use Rattle.tx_types.specs.declared.config.Protocol.TheVariants.{Bpcc}
use Rattle.record_list.specs.declared.found.Why.TheVariants.{Passed, Straddled}
use Rattle.record_list.specs.Records.{greatest, version_below, next_older}
use Rattle.record_list.specs.Verdict.{back_of, why_below_newest, straddling, straddling_version, walk}
use Rattle.record_list.specs.Verdict.{is_committed}
use Rattle.record_list.specs.Records.{is_same}
use Rattle.record_list.specs.Current.{fallback}
use Rattle.record_list.proofs.OfFacts.Names.{greatest_least}
use Rattle.verdict_report.specs.Report.{line_of, has_record, pages, page_line, report_lines}
use Rattle.verdict_report.specs.Report.{report}
use Rattle.verdict_report.specs.Lines.{IsReason}
use Rattle.verdict_report.proofs.PageLemmas.{pages_each}
use Rattle.verdict_check.specs.Texts.{text_lines}
use Rattle.verdict_check.specs.Meaning.{HaveVersions, AreNumbers, IsMeant}
use Rattle.verdict_check.proofs.DifferenceLemmas.{first_lines}
use Rattle.verdict_check.proofs.PlainLemmas.{is_plain, ArePlain, plain_page, plain_walk, last_is_line}
use Rattle.verdict_check.proofs.ReportLemmas.{lines_of, lines_and_last}

-- ---- a line tells its words

plain_is : (b : ℕ) → is_plain b ≡ true → (b == 32) ≡ false
plain_is b h = elim (cases_Bool (b == 32)) [
  | inl t ↦ absurd (let e : is_plain b ≡ false = rw t refl in cc)
  | inr f ↦ f
]

no_space : (word : List ℕ) → list_all is_plain word ≡ true → All (λ b. (b == 32) ≡ false) word
no_space [] h k d within = absurd (omega arith)
no_space (b ∷ bs) h zero d within = plain_is b (and_parts (is_plain b) (list_all is_plain bs) h).0
no_space (b ∷ bs) h (suc k) d within = no_space bs (and_parts (is_plain b) (list_all is_plain bs) h).1 k d (omega arith)

-- words that are cut apart at their spaces are themselves
cut_words : (word : List ℕ) (words : List (List ℕ)) → ArePlain (word ∷ words) →
    slice_split (λ b. b == 32) (join_with_byte 32 (word ∷ words)) ≡ word ∷ words
cut_words word [] h = slice_split_none (λ b. b == 32) word (no_space word h.0)
cut_words word (next ∷ words) h =
    slice_split_at (λ b. b == 32) word 32 (join_with_byte 32 (next ∷ words)) (no_space word h.0) refl
    ∙ ap (λ ws. word ∷ ws) (cut_words next words h.1)

same_words : (word other : List ℕ) (words others : List (List ℕ)) → ArePlain (word ∷ words) →
    ArePlain (other ∷ others) →
    line_of (word ∷ words) ≡ line_of (other ∷ others) → word ∷ words ≡ other ∷ others
same_words word other words others h k e =
    sym (cut_words word words h)
    ∙ ap (slice_split (λ b. b == 32)) (append_cancel_right (join_with_byte 32 (word ∷ words))
    (join_with_byte 32 (other ∷ others)) (10 ∷ []) e)
    ∙ cut_words other others k

-- ---- the words tell what they say

abbrev first_byte : List (List ℕ) → ℕ
first_byte [] = 0
first_byte (word ∷ words) = get_or word 0 0

pub record Told (r s : Why) (X Y : List (List ℕ)) : Type 0 where
  reason : r ≡ s
  rest : X ≡ Y

reason_told : (r s : Why) (X Y : List (List ℕ)) → IsReason r → IsReason s →
    reason_words r ++ X ≡ reason_words s ++ Y → Told r s X Y
reason_told Cycle Cycle X Y h k e = record { reason = refl; rest = cc }
reason_told Passed Passed X Y h k e = record { reason = refl; rest = cc }
reason_told Absent Absent X Y h k e = record { reason = refl; rest = cc }
reason_told (Straddled m) (Straddled n) X Y h k e =
    let number : decimal m ≡ decimal n = cc in
    record { reason = ap Straddled (decimal_injective m n h k number); rest = cc }
reason_told Cycle Passed X Y h k e = absurd (let n : 99 ≡ 112 = ap first_byte e in omega arith)
reason_told Cycle Absent X Y h k e = absurd (let n : 99 ≡ 97 = ap first_byte e in omega arith)
reason_told Cycle (Straddled n) X Y h k e = absurd (let n : 99 ≡ 115 = ap first_byte e in omega arith)
reason_told Passed Cycle X Y h k e = absurd (let n : 112 ≡ 99 = ap first_byte e in omega arith)
reason_told Passed Absent X Y h k e = absurd (let n : 112 ≡ 97 = ap first_byte e in omega arith)
reason_told Passed (Straddled n) X Y h k e = absurd (let n : 112 ≡ 115 = ap first_byte e in omega arith)
reason_told Absent Cycle X Y h k e = absurd (let n : 97 ≡ 99 = ap first_byte e in omega arith)
reason_told Absent Passed X Y h k e = absurd (let n : 97 ≡ 112 = ap first_byte e in omega arith)
reason_told Absent (Straddled n) X Y h k e = absurd (let n : 97 ≡ 115 = ap first_byte e in omega arith)
reason_told (Straddled m) Cycle X Y h k e = absurd (let n : 115 ≡ 99 = ap first_byte e in omega arith)
reason_told (Straddled m) Passed X Y h k e = absurd (let n : 115 ≡ 112 = ap first_byte e in omega arith)
reason_told (Straddled m) Absent X Y h k e = absurd (let n : 115 ≡ 97 = ap first_byte e in omega arith)

-- ---- the numbers that the definitions give are those of their types

module _ (list : List Found) (fit : HaveVersions list) where
  bounded : (of : Rec → ℕ) → ((r : Rec) → of r ≤ r.version) → greatest of list < 2 ^ 64
  bounded of below =
      let top = greatest_least of list (2 ^ 64 - 1) (λ f c. let low = below f.rec in
      let v = (All-contains (λ f. (f.rec.version < 2 ^ 64) × (f.rec.back < 2 ^ 64)) list f fit c).0 in omega arith) in
      omega arith

  cond_low : (b : Bool) (n : ℕ) → (if b then n else 0) ≤ n
  cond_low true n = omega arith
  cond_low false n = omega arith

  pub newest_fits : (page : ℕ) → newest list page < 2 ^ 64
  newest_fits page = bounded (version_of page) (λ r. cond_low _ r.version)

  older_fits : (page below : ℕ) → next_older list page below < 2 ^ 64
  older_fits page below = bounded (version_below page below) (λ r. cond_low _ r.version)

  straddling_fits : (link : Link) → straddling list link < 2 ^ 64
  straddling_fits link = bounded (straddling_version link) (λ r. cond_low _ r.version)

back_fits : (list : List Found) → HaveVersions list → (name : Link) → back_of list name < 2 ^ 64
back_fits [] fit name = omega arith
back_fits (f ∷ fs) fit name =
    both (has_name name f.rec) f.rec.back (back_of fs name) (fit 0 f (omega arith)).1
    (back_fits fs (λ k d within. fit (suc k) d (omega arith)) name)
  where
    both : (b : Bool) (m n : ℕ) → m < 2 ^ 64 → n < 2 ^ 64 → (if b then m else n) < 2 ^ 64
    both true m n h k = h
    both false m n h k = k

pub current_fits : (protocol : Protocol) (list : List Found) (logical page : ℕ) → HaveVersions list →
    cur protocol list logical page < 2 ^ 64
current_fits protocol list logical page fit = chosen (is_committed (why protocol list logical page))
  where
    fallback_fits : (p : Protocol) → fallback p list page < 2 ^ 64
    fallback_fits Scc = older_fits list fit page (newest list page)
    fallback_fits Bpcc = back_fits list fit (newest_name list page)

    chosen : (b : Bool) → (if b then newest list page else fallback protocol list page) < 2 ^ 64
    chosen true = newest_fits list fit page
    chosen false = fallback_fits protocol

reason_if : (b : Bool) (r s : Why) → IsReason r → IsReason s → IsReason (if b then r else s)
reason_if true r s h k = h
reason_if false r s h k = k

walk_fits : (protocol : Protocol) (list : List Found) → HaveVersions list → (start : Link) (turns : ℕ) (link : Link) →
    IsReason (walk protocol list start turns link)
walk_fits protocol list fit start zero link = tt
walk_fits protocol list fit start (suc turns) link =
    reason_if (is_ahead list link) Absent _ tt (reason_if (is_behind list link) (why_below_newest protocol list link)
    _ (passed_fits protocol)
    (reason_if (is_same link start) Cycle (walk protocol list start turns (link_of list link)) tt
    (walk_fits protocol list fit start turns (link_of list link))))
  where
    passed_fits : (p : Protocol) → IsReason (why_below_newest p list link)
    passed_fits Scc = tt
    passed_fits Bpcc = reason_if (straddling list link == 0) Passed (Straddled (straddling list link)) tt
        (straddling_fits list fit link)

-- ---- a true report

report_text : (protocol : Protocol) (list : List Found) (logical : ℕ) (text : List ℕ) →
    text ≡ report protocol list logical →
    text_lines text ≡ report_lines protocol list logical
unfolding report text_lines
report_text protocol list logical text is =
    let lines = report_lines protocol list logical in
    ap text_lines (is ∙ sym (append-nil (concat lines)))
    ∙ first_lines lines [] (lines_and_last _ _ (lines_of protocol list logical (pages list logical))
    (last_is_line (length (pages list logical))))
    ∙ append-nil lines

-- the words of a line behind its first
abbrev words_behind : ℕ → ℕ → Why → ℕ → List (List ℕ) → List (List ℕ)
words_behind page version reason current walk =
    decimal page ∷ codes "newest" ∷ decimal version ∷ verdict_word (verdict_of reason)
    ∷ (reason_words reason ++ codes "current" ∷ decimal current ∷ codes "walk" ∷ walk)

line_tells : (protocol : Protocol) (list : List Found) (logical page version : ℕ) (reason : Why) (current : ℕ)
    (links : List Link) (p : ℕ) →
    HaveVersions list → p < 2 ^ 64 → AreNumbers page version reason current →
    (p < logical) × (has_record list p ≡ true) →
    verdict_line protocol list logical p ≡ page_line page version reason current (walk_words links) →
    IsMeant protocol list logical page version reason current links
line_tells protocol list logical page version reason current links p fit low numbers (exists, recorded) e =
    let mine = walk_words (links_of list logical p) in
    let newest_is = newest list p in
    let why_is = why protocol list logical p in
    let cur_is = cur protocol list logical p in
    let all = same_words (codes "verdict") (codes "verdict") (words_behind p newest_is why_is cur_is mine)
    (words_behind page version reason current (walk_words links))
    (plain_page p newest_is why_is cur_is mine (plain_walk (links_of list logical p)))
    (plain_page page version reason current (walk_words links) (plain_walk links)) e in
    let page_e : decimal p ≡ decimal page = ap (λ ws. get_or ws 1 []) all in
    let version_e : decimal newest_is ≡ decimal version = ap (λ ws. get_or ws 3 []) all in
    let rest : reason_words why_is ++ codes "current" ∷ decimal cur_is ∷ codes "walk" ∷ mine
    ≡ reason_words reason ++ codes "current" ∷ decimal current ∷ codes "walk" ∷ walk_words links = ap (drop 5) all in
    let told = reason_told why_is reason _ _ (walk_fits protocol list fit (newest_name list p) (suc logical)
    (link_of list (newest_name list p)))
    numbers.reason_fits rest in
    let current_e : decimal cur_is ≡ decimal current = ap (λ ws. get_or ws 1 []) told.rest in
    let walk_e : mine ≡ walk_words links = ap (drop 3) told.rest in
    let same : p ≡ page = decimal_injective p page low numbers.page_fits page_e in
    let v = decimal_injective newest_is version (newest_fits list fit p) numbers.version_fits version_e in
    let c = decimal_injective cur_is current (current_fits protocol list logical p fit)
    numbers.current_fits current_e in
    subst (λ n. IsMeant protocol list logical n version reason current links) same
    (record {
      exists = exists;
      recorded = recorded;
      newest_is = sym v;
      reason_is = sym told.reason;
      current_is = sym c;
      walk_is = sym walk_e;
    })

pub says : (protocol : Protocol) (list : List Found) (logical : ℕ) (text : List ℕ) → logical ≤ 65536 →
    HaveVersions list → text ≡ report protocol list logical →
    (page version : ℕ) (reason : Why) (current : ℕ) (links : List Link) → AreNumbers page version reason current →
    Contains (text_lines text) (page_line page version reason current (walk_words links)) →
    IsMeant protocol list logical page version reason current links
says protocol list logical text few fit is page version reason current links numbers there =
    let line = verdict_line protocol list logical in
    let ps = pages list logical in
    let here = subst (λ ls. Contains ls (page_line page version reason current (walk_words links)))
    (report_text protocol list logical text is) there in
    elim (Contains-append_cases (map line ps) (last_line (length ps) ∷ []) _ here) [
      | inl one ↦ (
          let (p, in_pages, e) = in_map line ps _ one in
          let found = (pages_each list logical p).0 in_pages in
          let low = found.0 in
          line_tells protocol list logical page version reason current links p fit (omega arith) numbers found e)
      | inr last ↦ absurd (let e = Contains-one _ _ last in let n : 101 ≡ 118 = ap (λ t. get_or t 0 0) e in omega arith)
    ]

pub all_said : (protocol : Protocol) (list : List Found) (logical : ℕ) (text : List ℕ) →
    text ≡ report protocol list logical →
    (page : ℕ) → page < logical → has_record list page ≡ true →
    (version : ℕ) × (reason : Why) × (current : ℕ) × (links : List Link)
    × Contains (text_lines text) (page_line page version reason current (walk_words links))
all_said protocol list logical text is page low has =
    let line = verdict_line protocol list logical in
    let ps = pages list logical in
    let in_pages = (pages_each list logical page).1 (low, has) in (
      newest list page,
      why protocol list logical page,
      cur protocol list logical page,
      links_of list logical page,
      subst (λ ls. Contains ls (line page)) (sym (report_text protocol list logical text is))
          (Contains-append_left (map line ps) (last_line (length ps) ∷ []) (line page) (map_in line ps page in_pages)),
    )
