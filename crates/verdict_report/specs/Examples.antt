-- Lists of a few records, and their reports.
use Rattle.std.specs.Prelude.{◌≡◌, List, [], ◌∷◌, ◌++◌, codes}
use Rattle.tx_types.specs.declared.config.Protocol.{Protocol}
use Rattle.tx_types.specs.declared.config.Protocol.TheVariants.{Scc, Bpcc}
use Rattle.record_list.specs.declared.found.Found.{Found}
use Rattle.record_list.specs.Examples.{found}
use Rattle.verdict_report.specs.Report.{report, report_lines}

-- no record at all
abbrev pub EmptyReport : Type 0
EmptyReport = (protocol : Protocol) → report protocol [] 20 ≡ codes "explained 0\n"

-- an aborted write of pages 0 and 1, and later writes of single pages, the first of them copied
abbrev pub later : List Found
later =
    found 0 0 1 1 1 0 ∷ found 1 1 3 1 3 2 ∷ found 2 3 1 3 1 0 ∷ found 3 4 1 4 1 0
    ∷ found 28 1 2 1 2 0 ∷ found 29 2 3 2 3 2 ∷ []

abbrev pub StraddledReport : Type 0
StraddledReport =
    report_lines Bpcc later 20 ≡
    codes "verdict 0 newest 1 uncommitted straddled 2 current 0 walk 1:1\n"
    ∷ codes "verdict 1 newest 3 committed cycle current 3 walk 1:3\n"
    ∷ codes "verdict 2 newest 3 committed cycle current 3 walk 2:3\n"
    ∷ codes "verdict 3 newest 1 committed cycle current 1 walk 3:1\n"
    ∷ codes "verdict 4 newest 1 committed cycle current 1 walk 4:1\n"
    ∷ codes "explained 5\n" ∷ []

-- a link that two records straddle, and one that is passed
abbrev pub twice : List Found
twice =
    found 0 0 7 1 3 4 ∷ found 1 1 4 1 4 2 ∷ found 2 1 6 1 6 1 ∷ found 3 1 8 1 8 6
    ∷ found 4 2 1 1 6 0 ∷ []

abbrev pub TwiceStraddledReport : Type 0
TwiceStraddledReport =
    report_lines Bpcc twice 3 ≡
    codes "verdict 0 newest 7 uncommitted straddled 6 current 4 walk 1:3\n"
    ∷ codes "verdict 1 newest 8 committed cycle current 8 walk 1:8\n"
    ∷ codes "verdict 2 newest 1 committed passed current 1 walk 1:6\n"
    ∷ codes "explained 3\n" ∷ []

-- a cycle that page 0 leads to and is no part of
abbrev pub aside : List Found
aside = found 0 0 1 1 1 0 ∷ found 1 1 1 2 1 0 ∷ found 2 2 1 1 1 0 ∷ []

-- the walk from page 0 takes one link more than there are pages, and of 17 links 16 are named
abbrev pub EndlessReport : Type 0
EndlessReport =
    report_lines Scc aside 16 ≡
    (codes "verdict 0 newest 1 uncommitted absent current 0 walk 1:1 2:1 1:1 2:1 1:1 2:1 1:1 2:1"
    ++ codes " 1:1 2:1 1:1 2:1 1:1 2:1 1:1 2:1 more 1\n")
    ∷ codes "verdict 1 newest 1 committed cycle current 1 walk 2:1 1:1\n"
    ∷ codes "verdict 2 newest 1 committed cycle current 1 walk 1:1 2:1\n"
    ∷ codes "explained 3\n" ∷ []
