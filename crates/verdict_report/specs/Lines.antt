-- What the parts of a line are made of.
use Rattle.std.specs.Prelude.{◌≡◌, ℕ, ◌^◌, ◌<◌, List, ◌∷◌, ◌++◌, length, map, take}
use Rattle.std.specs.List.{flat_map, AllByRecursion}
use Rattle.tx_types.specs.declared.record.Link.{Link}
use Rattle.record_list.specs.declared.found.Why.{Why}
use Rattle.record_list.specs.declared.found.Why.TheVariants.{Straddled}
use Rattle.verdict_report.specs.declared.line.Line.{Line}
use Rattle.verdict_report.specs.declared.walk.Walk.{Walk}
use Rattle.verdict_report.specs.Report.{link_word, most_links, more_words, page_line}

-- words with a space before each
abbrev pub after_spaces : List (List ℕ) → List ℕ
after_spaces words = flat_map (λ word. 32 ∷ word) words

-- what a report says of the links of a walk
pub record IsWalk (walk : Walk) (links : List Link) : Type 0 where
  pub shown : walk.shown.items ≡ take most_links links
  pub count : walk.count ≡ length links

-- the words of its links
abbrev pub shown_words : Walk → List (List ℕ)
shown_words walk = map link_word walk.shown.items ++ more_words walk.count

-- the text of a line
abbrev pub line_text : Line → List ℕ
line_text line = page_line line.page line.newest line.why line.current (shown_words line.walk)

-- the version in a reason is one of its type
abbrev pub IsReason : Why → Type 0
IsReason (Straddled version) = version < 2 ^ 64
IsReason reason = Unit {0}

-- the numbers in the line of a page are those of their types
pub record FitTypes (page version : ℕ) (reason : Why) (current : ℕ)
    (links : List Link) : Type 0 where
  pub page_fits : page < 2 ^ 32
  pub version_fits : version < 2 ^ 64
  pub reason_fits : IsReason reason
  pub current_fits : current < 2 ^ 64
  pub links_fit : AllByRecursion (λ link. (link.page < 2 ^ 32) × (link.version < 2 ^ 64)) links
  pub count_fits : length links < 2 ^ 64

-- the most bytes of such a line with its line feed
abbrev pub max_report_line_bytes : ℕ
max_report_line_bytes = 662
