use Rattle.durable_folder.proofs.Common.{◌≡◌, AtNow, IsLater, Runs}
use Rattle.durable_folder.specs.Causes.{TakenBelow}
use Rattle.durable_folder.proofs.new_file.new_file.Given as goal

-- No file was made so far, and all names so far are taken.
abbrev pub invariant-loop-number : goal.invariant-loop-number
invariant-loop-number g l =
    Runs (λ s t. t ≡ s) (λ h k. k.now ≡ h.now) (g.F.Folder.told l.fn.folder) (g.F.Folder.told l.folder) ×
    IsLater (g.F.Folder.told l.fn.folder) (g.F.Folder.told l.folder) ×
    AtNow (TakenBelow l.number l.name) (g.F.Folder.told l.fn.folder)
