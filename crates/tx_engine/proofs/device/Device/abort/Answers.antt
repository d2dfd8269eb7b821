use Rattle.tx_engine.proofs.Common.{ap, sym, ◌∙◌, subst, refl, inl, inr, Ok, Err, arith, Config, moment_of, Carries-nothing, FlashMoves-nothing, ArrayState, is_there, settled_writes, OpenTransactionsState, transaction_at, settlement_of, DeviceState, StoreState, device_in}
use Rattle.std.specs.Prelude.{false}
use Rattle.array_machine.specs.declared.answers.StepError.TheVariants as failed
use Rattle.tx_engine.specs.DeviceCalls.{AbortsDevice}
use Rattle.array_machine.specs.Step.{AbortsAs}
use Rattle.tx_engine.proofs.OfDevice.ExitsThen.{exits_still, exits_then}
use Rattle.tx_engine.proofs.OfAbort.Aborting.{entry_found, entry_missing, entry_settled, closed_machine, closed_exits, closed_current, rises_on, abort_missing}
use Rattle.tx_engine.proofs.OfAbort.Aborting.{abort_failed, abort_done, not_whole}
use Rattle.tx_engine.proofs.OfSettle.SettleExits.{failed_machine, failed_stays, rises_unread}
use Rattle.tx_engine.proofs.OfStep.StepWrites.{has_tables}
use Rattle.tx_engine.proofs.OfDevice.KeptDevices.{as_kept, by_kept, kept_is, kept_stands, limits_then}
use Rattle.tx_engine.proofs.device.Device.abort.Goals as goal
use Rattle.tx_engine.proofs.device.Device.abort.Goals.{in-Whole, in-Plain}

pub returns-in_default : goal.returns-in_default
returns-in_default g c =
    let state = g.F.Flash.state in
    let now = c.args.self.now in
    let flash = state now.flash in
    record {
      aborts = subst (λ (s : DeviceState _). AbortsAs (is_there state s) s.machine s.machine c.args.tag
          (Err failed.Unknown))
          (as_kept state c.self.inside _ c.self.view_is c.requires.kept)
          (let s = device_in state c.self.inside.store c.self.inside.transactions in
          abort_missing (is_there state s) s.machine c.args.tag
          (entry_missing c.args.tag c.self.inside.transactions (sym c.position.ensures ∙ c.in_default.is)));
      exits = exits_still state now now.flash _ now c.requires.kept refl refl (FlashMoves-nothing flash flash _ refl)
          (Carries-nothing flash);
      moment = refl;
      rises = rises_unread now now refl;
      sure = tt;
      tables = tt;
      reads = tt;
      unknown = λ is. refl;
      failed = refl;
      first_failed = (0, omega arith, refl);
    }

pub mark-requires : goal.mark-requires
mark-requires g c =
    (entry_settled _ c.self.inside.transactions c.settle.new.transactions c.in-Some.at
    (ap (λ (m : ArrayState). m.entries) c.in-Ok.ensures.settles.machine)
    (entry_found c.args.tag c.self.inside.transactions c.in-Some.at (sym c.position.ensures ∙ c.in-Some.is)).0).0

pub close-requires : goal.close-requires
close-requires g c = record {
  ready = record {
    stands = c.in-Ok.ensures.stands;
    rule = ap (λ (k : Config). k.protocol) c.in-Ok.ensures.exits.tables.config ∙ c.self.invariant.rule;
    sure = c.in-Ok.ensures.settles.sure;
  };
  at = (entry_settled _ c.self.inside.transactions c.settle.new.transactions c.in-Some.at
      (ap (λ (m : ArrayState). m.entries) c.in-Ok.ensures.settles.machine)
      (entry_found c.args.tag c.self.inside.transactions c.in-Some.at (sym c.position.ensures ∙ c.in-Some.is)).0).0;
}

pub settle-requires-clause-stands : goal.settle-requires-clause-stands
settle-requires-clause-stands g c =
    kept_stands g.F.Flash.state c.self.inside _ c.self.view_is c.requires.kept g.R.CommitRule.protocol c.self.invariant

pub invariant_of-self : goal.invariant_of-self
invariant_of-self g c =
    kept_is g.F.Flash.state g.R.CommitRule.protocol c.self.inside c.settle.new.store c.settle.new.transactions
    c.self.invariant
    c.settle.ensures.stands c.settle.ensures.exits.tables.config c.settle.ensures.limits

pub invariant_of-self-2 : goal.invariant_of-self-2
invariant_of-self-2 g c =
    let config = ap (λ (s : StoreState _). s.noted.config) c.close.ensures.pins
    ∙ c.settle.ensures.exits.tables.config in
    kept_is g.F.Flash.state g.R.CommitRule.protocol c.self.inside c.close.new.store c.close.new.transactions
    c.self.invariant c.close.ensures.stands config
    (limits_then _ _ _ c.settle.ensures.limits (record {
      page_bytes = ap (λ (o : OpenTransactionsState). o.page_bytes) c.close.ensures.gone;
      logical = ap (λ (o : OpenTransactionsState). o.logical) c.close.ensures.gone;
      pending = ap (λ (o : OpenTransactionsState). o.pending) c.close.ensures.gone;
    }))

pub returns : goal.returns
returns g c =
    let state = g.F.Flash.state in
    let S = c.self.inside.store in let O = c.self.inside.transactions in
    let S1 = c.settle.new.store in let O1 = c.settle.new.transactions in let i = c.in-Some.at in
    let S2 = c.close.new.store in let O2 = c.close.new.transactions in
    let old = device_in state S O in
    let mid = device_in state S1 O1 in
    let new = device_in state S2 O2 in
    let there = is_there state old in
    let settles = c.in-Ok.ensures in let pins = c.close.ensures.pins in let gone = c.close.ensures.gone in
    let found = entry_found c.args.tag O i (sym c.position.ensures ∙ c.in-Some.is) in
    let at = entry_settled there O O1 i (ap (λ (m : ArrayState). m.entries) settles.settles.machine) found.0 in
    let machine = closed_machine state S1 S2 O1 O2 i pins gone settles.stands at.0 c.args.tag (found.2
    ∙ sym (ap (λ e. e.tag) at.1)) in
    by_kept state c.self.inside _ c.self.view_is c.requires.kept S2 O2
    (λ (s t : DeviceState _). AbortsDevice state s t c.args.tag (Ok c.match-mark.aborted))
    (record {
      aborts = abort_done there old.machine mid.machine new.machine c.args.tag (transaction_at O i).entry
          (transaction_at O1 i).entry c.match-mark.aborted found.1
          settles.settles.machine at.1 machine
          (elim c.match-mark.branch [
            | in-Whole w ↦ inl (sym c.mark.ensures ∙ w.in-Whole.is, w.aborted-is)
            | in-Plain w ↦ inr ((λ e. not_whole c.mark.result w.in-Plain.is (c.mark.ensures ∙ e)), w.aborted-is)
          ]);
      exits = exits_then state old mid new false refl refl settles.exits (closed_exits state S1 S2 O1 O2 i pins gone);
      moment = ap (λ (s : StoreState _). moment_of (state s.flash)) pins ∙ c.settle.ensures.moment;
      rises = rises_on old mid new (settled_writes there old.machine) settles.settles.rises
          (closed_current state S1 S2 O1 O2 i pins gone);
      sure = ap (λ (s : StoreState _). s.unsure) pins ∙ settles.settles.sure;
      tables = has_tables state (settlement_of state old) S1 S2 O2 settles.tables.0 settles.tables.1 pins;
      reads = ap (λ (s : StoreState _). (state s.flash).reads) pins ∙ settles.reads;
      unknown = λ is. cc;
      failed = tt;
      first_failed = tt;
    })

pub returns-in_default-settle : goal.returns-in_default-settle
returns-in_default-settle g c =
    let state = g.F.Flash.state in
    let S = c.self.inside.store in let O = c.self.inside.transactions in
    let old = device_in state S O in
    let new = device_in state c.settle.new.store c.settle.new.transactions in
    let its = c.in_default-settle.ensures in
    let stays = failed_stays state S c.settle.new.store O c.settle.new.transactions its.failed.0 its.failed.1
    c.settle.ensures.moment in
    by_kept state c.self.inside _ c.self.view_is c.requires.kept c.settle.new.store c.settle.new.transactions
    (λ (s t : DeviceState _). AbortsDevice state s t c.args.tag (Err failed.Fault))
    (record {
      aborts = abort_failed (is_there state old) old.machine new.machine c.args.tag
          (transaction_at O c.in-Some.at).entry
          (entry_found c.args.tag O c.in-Some.at (sym c.position.ensures ∙ c.in-Some.is)).1
          (failed_machine state S c.settle.new.store O c.settle.new.transactions its.failed.0 its.failed.1
          c.settle.ensures.moment);
      exits = its.exits;
      moment = c.settle.ensures.moment;
      rises = rises_unread old new stays;
      sure = tt;
      tables = tt;
      reads = tt;
      unknown = λ is. cc;
      failed = stays;
      first_failed = its.first_failed;
    })
