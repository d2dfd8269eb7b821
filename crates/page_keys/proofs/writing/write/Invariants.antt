use Rattle.page_keys.proofs.Common.{◌≡◌, ◌<◌, ℕ, None, false, length, spent_page, IsSeen, HoldsAlways, is_spent, writing, Moved}
use Rattle.array_runs.specs.Run.{pages_left}
use Rattle.flash_model.specs.Operations.{moment_of}
use Rattle.page_keys.specs.PutCosts.{CostsPages}
use Rattle.page_keys.specs.Writing.{seen_more}
use Rattle.page_keys.proofs.OfStore.Turns.{Turning}
use Rattle.page_keys.proofs.writing.write.Given as goal

abbrev pub decreases-steps : goal.decreases-steps
decreases-steps g l = pages_left 0 l.device.machine

abbrev pub invariant-steps : goal.invariant-steps
invariant-steps g l =
    (done : ℕ) × record {
      machine : l.device.machine ≡ writing l.fn.device.machine.pages l.batch.entries done;
      less : done < length l.batch.entries;
      unspent : spent_page (is_spent l.fn.device.noted.mentions) l.batch.entries ≡ None;
      moved : Moved g.F.Flash.state l.fn.device l.device false;
      seen : (seen : ℕ → ℕ) → IsSeen seen l.fn.device →
          IsSeen (seen_more seen l.batch.entries) l.device;
      always : HoldsAlways g.F.Flash.state g.R.CommitRule.protocol l.device;
      costs : CostsPages l.fn.device.config done (moment_of (g.F.Flash.state l.fn.device.flash))
          (moment_of (g.F.Flash.state l.device.flash));
      turning : Turning g.F.Flash.state l.fn.device l.device l.batch.entries done;
    }
