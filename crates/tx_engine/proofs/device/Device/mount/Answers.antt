use Rattle.tx_engine.proofs.Common.{false, ◌≡◌, ◌+◌, ◌≤◌, sym, ap, ◌∙◌, subst, Carries, moment_of, OpenTransactionsState, Stands, device_in}
use Rattle.scan_recovery.proofs.OfScan.ReadingSteps.{counted_times-most}
use Rattle.tx_engine.specs.Opens.{Mounts, mount_reads}
use Rattle.tx_engine.proofs.OfMount.Mounted.{empty_table, opened_stands, opened_mounts}
use Rattle.tx_engine.proofs.device.Device.mount.Goals as goal

pub invariant_of-result : goal.invariant_of-result
invariant_of-result g c =
    let store = c.in_ok-store.store in
    let is : c.in-Ok.transactions ≡ empty_table store.noted.config = c.in-Ok.ensures
    ∙ ap empty_table c.config.ensures.config in
    record {
      stands = λ kept. subst (λ (t : OpenTransactionsState). Stands g.F.Flash.state (device_in g.F.Flash.state store t))
          (sym is)
          (opened_stands g.F.Flash.state g.R.CommitRule.protocol c.args.flash c.args.config store
          c.in_ok-store.ensures.opened c.in_ok-store.ensures.stored);
      rule = c.in_ok-store.ensures.stored.rule;
      page_bytes = ap (λ (t : OpenTransactionsState). t.page_bytes) is;
      logical = ap (λ (t : OpenTransactionsState). t.logical) is;
      pending = ap (λ (t : OpenTransactionsState). t.pending) is;
    }

pub returns-in-Ok : goal.returns-in-Ok
returns-in-Ok g c =
    let store = c.in_ok-store.store in
    let is : c.in-Ok.transactions ≡ empty_table store.noted.config = c.in-Ok.ensures
    ∙ ap empty_table c.config.ensures.config in
    record {
      mounted = subst (λ (t : OpenTransactionsState). Mounts g.F.Flash.state c.args.flash c.args.config
          (device_in g.F.Flash.state store t)) (sym is)
          (opened_mounts g.F.Flash.state g.R.CommitRule.protocol c.args.flash c.args.config store
          c.in_ok-store.ensures.opened
          c.in_ok-store.ensures.stored c.image_is_sound.ensures);
      failed = tt;
      reads = tt;
      started = tt;
    }

pub returns-in-Err : goal.returns-in-Err
returns-in-Err g c =
    let before = g.F.Flash.state c.args.flash in
    let most = mount_reads c.args.config before in
    record {
      mounted = tt;
      failed = subst (λ f. (moment_of (g.F.Flash.state f) ≡ moment_of before)
          × Carries before (g.F.Flash.state f) false) (sym c.close.ensures)
          (c.in_ok-store.ensures.opened.moment, c.in_ok-store.ensures.opened.carries);
      reads = subst (λ f. (g.F.Flash.state f).reads ≤ before.reads + most) (sym c.close.ensures)
          (subst (λ n. n ≤ before.reads + most) (sym c.in_ok-store.ensures.opened.reads)
          (counted_times-most most before.reads));
      started = subst (λ f. (g.F.Flash.state f).started ≡ before.started) (sym c.close.ensures)
          c.in_ok-store.ensures.opened.started;
    }
