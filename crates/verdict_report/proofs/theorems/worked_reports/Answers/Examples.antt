-- The reports of a few records, by computation.
use Rattle.verdict_report.proofs.Common.{refl, report}
use Rattle.std.specs.Fmt.{digits}
use Rattle.verdict_report.specs.Examples.{EmptyReport, StraddledReport, TwiceStraddledReport, EndlessReport}

pub empty_report : EmptyReport
unfolding report digits
empty_report protocol = refl

pub straddled_report : StraddledReport
unfolding digits
straddled_report = refl

pub twice_straddled_report : TwiceStraddledReport
unfolding digits
twice_straddled_report = refl

pub endless_report : EndlessReport
unfolding digits
endless_report = refl
