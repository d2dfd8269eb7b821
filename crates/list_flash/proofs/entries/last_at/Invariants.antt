use Rattle.std.proofs.Common.{◌≡◌, take}
use Rattle.std.specs.Prelude.{MatchOption}
use Rattle.flash_model.specs.Flash.{blank}
use Rattle.list_flash.specs.Entries.{leaves, contents_in}
use Rattle.list_flash.proofs.entries.last_at.Given as goal

abbrev pub invariant-loop-entry : goal.invariant-loop-entry
invariant-loop-entry l =
    MatchOption l.last (contents_in l.shape (take l.entry-index l.list) l.at.0 ≡ blank)
    (λ entry. contents_in l.shape (take l.entry-index l.list) l.at.0 ≡ leaves entry.now)
