-- How the lines of replies are kept.
use Rattle.std.specs.Prelude.{ℕ, List}
use Rattle.cut_replay.specs.declared.lines.Lines.TheInside.{Inside}

abbrev pub text_in : Inside → List ℕ
text_in l = l.text.items
