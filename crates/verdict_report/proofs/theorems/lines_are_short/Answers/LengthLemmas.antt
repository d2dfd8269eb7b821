-- The line of a page is short.
use Rattle.verdict_report.proofs.Common.{ℕ, zero, suc, ◌<◌, ◌≤◌, Bool, true, false, cond, List, [], ◌∷◌, ◌++◌, length, map, take, sym, subst, arith, Link, after_spaces, verdict_word, link_word, walk_words, page_line}
use Rattle.std.proofs.Common.{◌*◌, ◌-◌, ◌^◌}
use Rattle.std.proofs.Common.{length-append, codes}
use Rattle.std.specs.Prelude.{nat_lt}
use Rattle.std.specs.List.{AllByRecursion}
use Rattle.std.specs.Fmt.{decimal}
use Rattle.list_lemmas.proofs.Values.{digits_64, digits_32}
use Rattle.record_list.specs.declared.found.Verdict.{Verdict}
use Rattle.record_list.specs.declared.found.Verdict.TheVariants.{Committed, Uncommitted}
use Rattle.record_list.specs.declared.found.Why.{Why}
use Rattle.record_list.specs.declared.found.Why.TheVariants.{Cycle, Passed, Absent, Straddled}
use Rattle.record_list.specs.Verdict.{verdict_of}
use Rattle.verdict_report.specs.Lines.{FitTypes, IsReason, max_report_line_bytes}
use Rattle.verdict_report.specs.Report.{reason_words, more_words, most_links}
use Rattle.verdict_report.proofs.LineLemmas.{line_parts}

page_short : (page version : ℕ) → page < 2 ^ 32 → version < 2 ^ 64 →
    length (after_spaces (decimal page ∷ codes "newest" ∷ decimal version ∷ [])) ≤ 39
page_short page version p v =
    let first = digits_32 page p in
    let second = digits_64 version v in
    simp length-append (omega arith)

verdict_short : (verdict : Verdict) → length (after_spaces (verdict_word verdict ∷ [])) ≤ 12
verdict_short Committed = omega arith
verdict_short Uncommitted = omega arith

reason_short : (reason : Why) → IsReason reason → length (after_spaces (reason_words reason)) ≤ 31
reason_short Cycle h = omega arith
reason_short Passed h = omega arith
reason_short Absent h = omega arith
reason_short (Straddled version) h = let digits = digits_64 version h in simp length-append (omega arith)

current_short : (current : ℕ) → current < 2 ^ 64 →
    length (after_spaces (codes "current" ∷ decimal current ∷ codes "walk" ∷ [])) ≤ 34
current_short current h = let digits = digits_64 current h in simp length-append (omega arith)

-- a link has at most 31 bytes, and a space before it
links_short : (n : ℕ) (links : List Link) → AllByRecursion (λ link. (link.page < 2 ^ 32)
    × (link.version < 2 ^ 64)) links →
    length (after_spaces (map link_word (take n links))) ≤ 32 * n
links_short zero links h = omega arith
links_short (suc n) [] h = omega arith
links_short (suc n) (link ∷ links) h =
    let page = digits_32 link.page h.0.0 in
    let version = digits_64 link.version h.0.1 in
    let rest = links_short n links h.1 in
    simp length-append (omega arith)

others_short : (b : Bool) (n : ℕ) → n < 2 ^ 64 →
    length (after_spaces (cond b (codes "more" ∷ decimal n ∷ []) [])) ≤ 26
others_short true n h = let digits = digits_64 n h in simp length-append (omega arith)
others_short false n h = omega arith

more_short : (count : ℕ) → count < 2 ^ 64 → length (after_spaces (more_words count)) ≤ 26
more_short count h = others_short (nat_lt most_links count) (count - most_links) (omega arith)

-- seven parts and a line feed
parts_short : (first a b c d e f : List ℕ) →
    length first ≤ 7 → length a ≤ 39 → length b ≤ 12 → length c ≤ 31 → length d ≤ 34 → length e ≤ 512 → length f ≤ 26 →
    length ((first ++ (a ++ (b ++ (c ++ (d ++ (e ++ f)))))) ++ 10 ∷ []) ≤ max_report_line_bytes
parts_short first a b c d e f h0 h1 h2 h3 h4 h5 h6 = simp length-append (omega arith)

pub line_short : (page version : ℕ) (reason : Why) (current : ℕ) (links : List Link) →
    FitTypes page version reason current links →
    length (page_line page version reason current (walk_words links)) ≤ max_report_line_bytes
line_short page version reason current links fit =
    let shown = map link_word (take most_links links) in
    let others = more_words (length links) in
    subst (λ (text : List ℕ). length text ≤ max_report_line_bytes)
    (sym (line_parts page version reason current shown others))
    (parts_short (codes "verdict") (after_spaces (decimal page ∷ codes "newest" ∷ decimal version ∷ []))
    (after_spaces (verdict_word (verdict_of reason) ∷ [])) (after_spaces (reason_words reason))
    (after_spaces (codes "current" ∷ decimal current ∷ codes "walk" ∷ [])) (after_spaces shown) (after_spaces others)
    (omega arith) (page_short page version fit.page_fits fit.version_fits) (verdict_short (verdict_of reason))
    (reason_short reason fit.reason_fits) (current_short current fit.current_fits)
    (links_short most_links links fit.links_fit) (more_short (length links) fit.count_fits))
