use Rattle.host_protocol.proofs.Common.{◌≡◌, ℕ, Option, Some, None, sym, refl, ◌∙◌}
use Rattle.host_protocol.proofs.LeadingLemmas.{entry_first, other_first}
use Rattle.host_protocol.proofs.WordLemmas.{word_none}
use Rattle.host_protocol.proofs.entry.first_entry.Goals as goal

never : (o : Option ℕ) → ((x : ℕ) → o ≡ Some x → ⊥) → o ≡ None
never None h = refl
never (Some x) h = absurd (h x refl)

pub returns-in_default-clause-none : goal.returns-in_default-clause-none
returns-in_default-clause-none c = word_none c.args.line.now (sym c.first_filled.ensures
    ∙ never c.first_filled.result c.in_default.not-Some)

pub returns-in_err-page-clause-bad : goal.returns-in_err-page-clause-bad
returns-in_err-page-clause-bad c = λ _.
    let gone : c.leading_page.result ≡ None = rw c.in_err-page.was at c.ok_or.ensures.ok_part in
    other_first c.args.line.now _ c.in-Some.start (sym c.in-Some.ensures) refl (rw gone at c.leading_page.ensures.none)

pub returns-clause-entry : goal.returns-clause-entry
returns-clause-entry c =
    let begins = rw c.in_ok-page.ensures.ok_part at c.leading_page.ensures.some in
    rw (c.split_at.ensures.front, c.split_at.ensures.back)
    (entry_first _ c.in_ok-page.page c.in_ok-page.behind.now begins c.args.line.now c.in-Some.start
    c.find_end-end.result.0 (sym c.in-Some.ensures) refl c.find_end-end.ensures.end)
