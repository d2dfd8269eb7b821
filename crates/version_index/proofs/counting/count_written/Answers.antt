-- Where no record discards its page, the pages with a current one are filled.
use Rattle.version_index.proofs.Common.{◌≡◌, ℕ, ◌<◌, true, false, not, length, count_by, Option, Some, None, sym, ap, ◌∙◌, inl, inr, arith, option_map_or, cases_Option, Rec, TablesState, number_at, rec_at}
use Rattle.std.specs.Prelude.{IsSomeAnd}
use Rattle.std.proofs.lemmas.List.Sums.{count_by-le-length}
use Rattle.slot_tables.specs.TablesState.{is_some_number}
use Rattle.version_index.specs.Written.{fills, pages_written}
use Rattle.version_index.proofs.OfWritten.CountedPages.{count_places, count_range}
use Rattle.version_index.proofs.counting.count_written.Goals as goal

-- the record of a current number fills its page
fills_page : (o : Option Rec) → IsSomeAnd o (λ r. r.discard ≡ false) →
    option_map_or (λ (r : Rec). not r.discard) o false ≡ true
fills_page None kept = absurd kept
fills_page (Some r) kept = ap not kept

all_fill : (k : TablesState) → length k.current ≡ length k.pages →
    ((page x : ℕ) → page < length k.pages → number_at k.current page ≡ Some x →
    IsSomeAnd (rec_at k.records x) (λ r. r.discard ≡ false)) →
    pages_written k ≡ count_by is_some_number k.current
all_fill k long kept =
    count_places (fills k.records) k.current
    ∙ count_range (λ page. fills k.records (number_at k.current page))
    (λ page. is_some_number (number_at k.current page)) 0 (length k.current)
    (λ page low high. alike page (omega arith))
    ∙ sym (count_places is_some_number k.current)
  where
    alike : (page : ℕ) → page < length k.pages →
        fills k.records (number_at k.current page) ≡ is_some_number (number_at k.current page)
    alike page within = elim (cases_Option (number_at k.current page)) [
      | inl none ↦ ap (fills k.records) none ∙ sym (ap is_some_number none)
      | inr some ↦ ap (fills k.records) some.1
          ∙ fills_page (rec_at k.records some.0) (kept page some.0 within some.1)
          ∙ sym (ap is_some_number some.1)
    ]

pub overflow_cast-result : goal.overflow_cast-result
overflow_cast-result c = omega (
  arith,
  c.count_written.ensures,
  count_by-le-length is_some_number c.args.tables.now.current,
  c.shape.ensures.kept.current,
  c.requires.pages,
)

pub returns : goal.returns
returns c =
    c.count_written.ensures
    ∙ sym (all_fill c.args.tables.now c.shape.ensures.kept.current (c.requires.kept c.if-discards.false))
