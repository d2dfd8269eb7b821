-- The report on a list of records: a line for each page that has a record, with the verdict and the walk
-- that decides it, and a last line.
use Rattle.std.specs.Prelude.{ℕ, ◌-◌, ◌==◌, nat_lt, Bool, if◌then◌else◌, List, [], ◌∷◌, ◌++◌, length, map, filter, take, codes}
use Rattle.std.specs.List.{list_any, range_with_len, join_with_byte, concat}
use Rattle.std.specs.Fmt.{decimal}
use Rattle.tx_types.specs.declared.record.Link.{Link}
use Rattle.tx_types.specs.declared.config.Protocol.{Protocol}
use Rattle.record_list.specs.declared.found.Found.{Found}
use Rattle.record_list.specs.declared.found.Why.{Why}
use Rattle.record_list.specs.declared.found.Why.TheVariants.{Cycle, Passed, Absent, Straddled}
use Rattle.record_list.specs.declared.found.Verdict.{Verdict}
use Rattle.record_list.specs.declared.found.Verdict.TheVariants.{Committed, Uncommitted}
use Rattle.record_list.specs.Records.{newest}
use Rattle.record_list.specs.Verdict.{why, verdict_of}
use Rattle.record_list.specs.Current.{cur}
use Rattle.verdict_report.specs.Walks.{links_of}

-- whether a page has a record
abbrev pub has_record : List Found → ℕ → Bool
has_record list page = list_any (λ f. f.rec.page == page) list

-- the pages below `logical` that have a record, ascending
abbrev pub pages : List Found → ℕ → List ℕ
pages list logical = filter (has_record list) (range_with_len 0 logical)

-- the line of these words: a space between each two, and a line feed at the end
abbrev pub line_of : List (List ℕ) → List ℕ
line_of words = join_with_byte 32 words ++ 10 ∷ []

abbrev pub verdict_word : Verdict → List ℕ
verdict_word Committed = codes "committed"
verdict_word Uncommitted = codes "uncommitted"

-- the words of what decides a verdict
abbrev pub reason_words : Why → List (List ℕ)
reason_words Cycle = codes "cycle" ∷ []
reason_words Passed = codes "passed" ∷ []
reason_words Absent = codes "absent" ∷ []
reason_words (Straddled version) = codes "straddled" ∷ decimal version ∷ []

-- a link is written as page, colon and version
abbrev pub link_word : Link → List ℕ
link_word link = decimal link.page ++ 58 ∷ decimal link.version

-- how many links of a walk a line names at most
abbrev pub most_links : ℕ
most_links = 16

-- the words for the others of this many links
abbrev pub more_words : ℕ → List (List ℕ)
more_words count =
    if nat_lt most_links count then codes "more" ∷ decimal (count - most_links) ∷ [] else []

-- the words of the links of a walk
abbrev pub walk_words : List Link → List (List ℕ)
walk_words links = map link_word (take most_links links) ++ more_words (length links)

-- the line of a page, from its newest version, what decides the verdict on that, its current version, and
-- the words of the walk that decides
abbrev pub page_line : ℕ → ℕ → Why → ℕ → List (List ℕ) → List ℕ
page_line page version reason current walk =
    line_of (codes "verdict" ∷ decimal page ∷ codes "newest" ∷ decimal version
    ∷ verdict_word (verdict_of reason)
    ∷ (reason_words reason ++ codes "current" ∷ decimal current ∷ codes "walk" ∷ walk))

-- the line of a page that has a record
abbrev pub verdict_line : Protocol → List Found → ℕ → ℕ → List ℕ
verdict_line protocol list logical page =
    page_line page (newest list page) (why protocol list logical page)
    (cur protocol list logical page) (walk_words (links_of list logical page))

-- the last line, with the number of the others
abbrev pub last_line : ℕ → List ℕ
last_line count = line_of (codes "explained" ∷ decimal count ∷ [])

-- the lines of the report
abbrev pub report_lines : Protocol → List Found → ℕ → List (List ℕ)
report_lines protocol list logical =
    map (verdict_line protocol list logical) (pages list logical)
    ++ last_line (length (pages list logical)) ∷ []

-- its text
unfoldable pub report : Protocol → List Found → ℕ → List ℕ
report protocol list logical = concat (report_lines protocol list logical)
