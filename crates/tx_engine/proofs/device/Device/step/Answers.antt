use Rattle.tx_engine.proofs.Common.{◌≡◌, ◌<◌, ◌++◌, All, ap, sym, ◌∙◌, subst, refl, inl, inr, Ok, Err, Some, arith, is_err, Config, moment_of, IndexState, IsThere, Preserves, Carries-nothing, FlashMoves-nothing, ArrayState, Entry, entry_of, StepCosts, StepsDevice, VersionsRise, is_there, settled_writes, done_writes, transaction_at, entries_of, DeviceState, AddsOnly, settlement_of, with_settlement, StepsAs, settled, device_in, WritingBreaks, BringsPage}
use Rattle.std.specs.Prelude.{false, true}
use Rattle.array_machine.specs.declared.answers.StepError.TheVariants as failed
use Rattle.tx_engine.specs.Settling.{StaysUnread}
use Rattle.tx_engine.specs.Writing.{next_of}
use Rattle.tx_engine.proofs.OfAbort.Aborting.{entry_found, entry_missing, entry_settled}
use Rattle.tx_engine.proofs.OfCollect.Collecting.{settled_low, own_writes_low}
use Rattle.tx_engine.proofs.OfDevice.ExitsThen.{exits_still, exits_then, rises_then}
use Rattle.tx_engine.proofs.OfDevice.Kept.{from_stands}
use Rattle.open_table.proofs.OfTransactions.OpenList.{first_position, first_of_own, entry_first}
use Rattle.tx_engine.proofs.OfSettle.SettleExits.{failed_machine, failed_stays, not_settled, rises_unread, since_unread}
use Rattle.tx_engine.proofs.OfStep.CostFacts.{costs_still}
use Rattle.tx_engine.proofs.OfStep.StepExits.{step_missing, step_unsettled, step_settled, done_low, fault_rises, for_next, for_open, of_each, ok_as, step_since}
use Rattle.tx_engine.proofs.OfStep.StepWrites.{costs_then, found_then, brings_then, notes_then, breaks_then, works_then}
use Rattle.tx_engine.proofs.OfDevice.KeptDevices.{as_kept, by_kept, kept_is, kept_stands, limits_then}
use Rattle.tx_engine.proofs.device.Device.step.Goals as goal

pub returns-in_default : goal.returns-in_default
returns-in_default g c =
    let state = g.F.Flash.state in
    let now = c.args.self.now in
    let flash = state now.flash in
    record {
      steps = subst (λ (s : DeviceState _). StepsAs (is_there state s) s.machine s.machine c.args.tag
          (Err failed.Unknown))
          (as_kept state c.self.inside _ c.self.view_is c.requires.kept)
          (let s = device_in state c.self.inside.store c.self.inside.transactions in
          step_missing (is_there state s) s.machine c.args.tag
          (entry_missing c.args.tag c.self.inside.transactions (sym c.position.ensures ∙ c.in_default.is)));
      exits = exits_still state now now.flash _ now c.requires.kept refl refl (FlashMoves-nothing flash flash _ refl)
          (Carries-nothing flash);
      rises = rises_unread now now refl;
      sure = tt;
      unknown = λ is. refl;
      costs = of_each (next_of now c.args.tag) (StepCosts state (with_settlement state now) now)
          (λ name. costs_still state (with_settlement state now) now name refl);
      found = of_each (next_of now c.args.tag)
          (λ name. IsThere (settlement_of state now).noted name →
          moment_of (state now.flash) ≡ moment_of (state now.flash)) (λ name here. refl);
      brings = tt;
      fresh = inl (record { stays = refl; moment = refl; reads = (0, omega arith, refl) });
      failed = λ is. cc;
      since = λ other. absurd (other refl);
    }

pub settle-requires-clause-stands : goal.settle-requires-clause-stands
settle-requires-clause-stands g c =
    kept_stands g.F.Flash.state c.self.inside _ c.self.view_is c.requires.kept g.R.CommitRule.protocol c.self.invariant

pub invariant_of-self : goal.invariant_of-self
invariant_of-self g c =
    kept_is g.F.Flash.state g.R.CommitRule.protocol c.self.inside c.settle.new.store c.settle.new.transactions
    c.self.invariant
    c.settle.ensures.stands c.settle.ensures.exits.tables.config c.settle.ensures.limits

pub returns-in_default-settle : goal.returns-in_default-settle
returns-in_default-settle g c =
    let state = g.F.Flash.state in
    let S = c.self.inside.store in let O = c.self.inside.transactions in
    let old = device_in state S O in
    let new = device_in state c.settle.new.store c.settle.new.transactions in
    let its = c.in_default-settle.ensures in
    let stays = failed_stays state S c.settle.new.store O c.settle.new.transactions its.failed.0 its.failed.1
    c.settle.ensures.moment in
    let unread : StaysUnread state old new = record {
      stays = stays;
      moment = c.settle.ensures.moment;
      reads = its.first_failed;
    } in
    by_kept state c.self.inside _ c.self.view_is c.requires.kept c.settle.new.store c.settle.new.transactions
    (λ (s t : DeviceState _). StepsDevice state s t c.args.tag (Err failed.Fault))
    (record {
      steps = step_unsettled (is_there state old) old.machine new.machine c.args.tag
          (transaction_at O c.in-Some.at).entry
          (entry_found c.args.tag O c.in-Some.at (sym c.position.ensures ∙ c.in-Some.is)).1
          (failed_machine state S c.settle.new.store O c.settle.new.transactions its.failed.0 its.failed.1
          c.settle.ensures.moment);
      exits = its.exits;
      rises = not_settled (is_there state old) old new stays;
      sure = tt;
      unknown = λ is. cc;
      costs = of_each (next_of old c.args.tag) (StepCosts state (with_settlement state old) new)
          (λ name. costs_still state (with_settlement state old) new name c.settle.ensures.moment);
      found = of_each (next_of old c.args.tag)
          (λ name. IsThere (settlement_of state old).noted name →
          moment_of (state new.flash) ≡ moment_of (state old.flash))
          (λ name here. c.settle.ensures.moment);
      brings = tt;
      fresh = inl unread;
      failed = λ fault. inl unread;
      since = λ other. step_since state S O c.args.tag c.in-Some.at true (with_settlement state old) new
          (first_position c.args.tag O.all c.in-Some.at (sym c.position.ensures ∙ c.in-Some.is))
          (inl (since_unread state S c.settle.new.store O c.settle.new.transactions
          (kept_stands state c.self.inside _ c.self.view_is c.requires.kept g.R.CommitRule.protocol c.self.invariant)
          c.settle.ensures.moment));
    })

pub advance-requires : goal.advance-requires
advance-requires g c = record {
  ready = record {
    stands = c.in-Ok.ensures.stands;
    rule = ap (λ (k : Config). k.protocol) c.in-Ok.ensures.exits.tables.config ∙ c.self.invariant.rule;
    sure = c.in-Ok.ensures.settles.sure;
  };
  at = (entry_settled _ c.self.inside.transactions c.settle.new.transactions c.in-Some.at
      (ap (λ (m : ArrayState). m.entries) c.in-Ok.ensures.settles.machine)
      (entry_found c.args.tag c.self.inside.transactions c.in-Some.at (sym c.position.ensures ∙ c.in-Some.is)).0).0;
  size = c.in-Ok.ensures.limits.page_bytes ∙ c.self.invariant.page_bytes
      ∙ ap (λ (k : Config). k.page_bytes) (sym c.in-Ok.ensures.exits.tables.config);
}

pub invariant_of-self-in_default-advance : goal.invariant_of-self-in_default-advance
invariant_of-self-in_default-advance g c =
    kept_is g.F.Flash.state g.R.CommitRule.protocol c.self.inside c.advance.new.store c.advance.new.transactions
    c.self.invariant
    c.advance.ensures.stands (c.advance.ensures.exits.tables.config ∙ c.settle.ensures.exits.tables.config)
    (limits_then _ _ _ c.settle.ensures.limits c.advance.ensures.limits)

pub invariant_of-self-2 : goal.invariant_of-self-2
invariant_of-self-2 g c =
    kept_is g.F.Flash.state g.R.CommitRule.protocol c.self.inside c.advance.new.store c.advance.new.transactions
    c.self.invariant
    c.advance.ensures.stands (c.advance.ensures.exits.tables.config ∙ c.settle.ensures.exits.tables.config)
    (limits_then _ _ _ c.settle.ensures.limits c.advance.ensures.limits)

pub returns-in_default-advance : goal.returns-in_default-advance
returns-in_default-advance g c =
    let state = g.F.Flash.state in
    let S = c.self.inside.store in let O = c.self.inside.transactions in
    let S1 = c.settle.new.store in let O1 = c.settle.new.transactions in let i = c.in-Some.at in
    let old = device_in state S O in
    let mid = device_in state S1 O1 in
    let new = device_in state c.advance.new.store c.advance.new.transactions in
    let there = is_there state old in
    let settles = c.in-Ok.ensures in let advances = c.in_default-advance.ensures in
    let found = entry_found c.args.tag O i (sym c.position.ensures ∙ c.in-Some.is) in
    let first = first_position c.args.tag O.all i (sym c.position.ensures ∙ c.in-Some.is) in
    let at = entry_settled there O O1 i (ap (λ (m : ArrayState). m.entries) settles.settles.machine) found.0 in
    let tags : (transaction_at O1 i).entry.tag ≡ c.args.tag = ap (λ (e : Entry). e.tag) at.1 ∙ sym found.2 in
    let stands = kept_stands state c.self.inside _ c.self.view_is c.requires.kept g.R.CommitRule.protocol
    c.self.invariant in
    by_kept state c.self.inside _ c.self.view_is c.requires.kept c.advance.new.store c.advance.new.transactions
    (λ (s t : DeviceState _). StepsDevice state s t c.args.tag (Err failed.Fault))
    (record {
      steps = step_settled there old.machine mid.machine new.machine c.args.tag (transaction_at O i).entry
          (transaction_at O1 i).entry c.advance.result
          (Err failed.Fault) found.1 settles.settles.machine at.1 tags c.advance.ensures.advances
          (λ p is. let no = sym c.in_default-advance.is ∙ is in cc) (λ is. refl);
      exits = exits_then state old mid new true refl refl settles.exits advances.exits;
      rises = fault_rises there old mid new c.args.tag (transaction_at O1 i).entry.tag (transaction_at O1 i).entry
          c.advance.result (Err failed.Fault)
          (ap is_err c.in_default-advance.is) refl settles.exits.tables.config (settled_low state S O there stands)
          settles.settles.machine settles.settles.rises c.advance.ensures.advances c.advance.ensures.rises;
      sure = tt;
      unknown = λ is. cc;
      costs = for_next state S O c.args.tag i (StepCosts state (with_settlement state old) new) first
          (costs_then state S S1 O O1 i there settles.tables.0 settles.tables.1 c.settle.ensures.moment
          c.settle.ensures.names first.within at.1 new
          settles.exits.tables.config c.advance.ensures.costs);
      found = for_next state S O c.args.tag i
          (λ name. IsThere (settlement_of state old).noted name →
          moment_of (state new.flash) ≡ moment_of (state old.flash)) first
          (found_then state S S1 O O1 i there settles.tables.0 settles.tables.1 c.settle.ensures.moment
          c.settle.ensures.names first.within at.1
          c.advance.new.store c.advance.ensures.found);
      brings = tt;
      fresh = inr (subst (λ (n : IndexState). Preserves n c.advance.new.store.noted) settles.tables.0 advances.kept);
      failed = λ fault. inr (for_next state S O c.args.tag i (WritingBreaks state (with_settlement state old) new) first
          (breaks_then state S S1 O O1 i there settles.tables.0 settles.tables.1 c.settle.ensures.moment
          c.settle.ensures.names first.within at.1
          c.advance.new.store c.advance.new.transactions c.settle.ensures.exits.carries.shape advances.breaks));
      since = λ other. step_since state S O c.args.tag i true (with_settlement state old) new first
          (works_then state S S1 O O1 i there settles.tables.0 settles.tables.1 c.settle.ensures.moment
          c.settle.ensures.names first.within at.1
          c.advance.new.store c.advance.new.transactions true settles.exits.tables.config
          c.settle.ensures.exits.carries.shape advances.since);
    })

pub returns : goal.returns
returns g c =
    let state = g.F.Flash.state in
    let S = c.self.inside.store in let O = c.self.inside.transactions in
    let S1 = c.settle.new.store in let O1 = c.settle.new.transactions in let i = c.in-Some.at in
    let old = device_in state S O in
    let mid = device_in state S1 O1 in
    let new = device_in state c.advance.new.store c.advance.new.transactions in
    let there = is_there state old in
    let settles = c.in-Ok.ensures in let advances = c.in-Ok-advance.ensures in
    let progress = c.in-Ok-advance.progress in
    let found = entry_found c.args.tag O i (sym c.position.ensures ∙ c.in-Some.is) in
    let first = first_position c.args.tag O.all i (sym c.position.ensures ∙ c.in-Some.is) in
    let at = entry_settled there O O1 i (ap (λ (m : ArrayState). m.entries) settles.settles.machine) found.0 in
    let tags : (transaction_at O1 i).entry.tag ≡ c.args.tag = ap (λ (e : Entry). e.tag) at.1 ∙ sym found.2 in
    let kept = from_stands state S1 O1 settles.stands in
    let mine : entry_of c.args.tag (settled there old.machine).entries ≡ Some (transaction_at O1 i).entry =
    ap (λ (m : ArrayState). entry_of c.args.tag m.entries) (sym settles.settles.machine)
    ∙ ap (λ t. entry_of t (entries_of O1)) (sym tags)
    ∙ entry_first (transaction_at O1 i).entry.tag O1.all i (first_of_own O1.all i kept.tags at.0) in
    let stands = kept_stands state c.self.inside _ c.self.view_is c.requires.kept g.R.CommitRule.protocol
    c.self.invariant in
    by_kept state c.self.inside _ c.self.view_is c.requires.kept c.advance.new.store c.advance.new.transactions
    (λ (s t : DeviceState _). StepsDevice state s t c.args.tag (Ok progress))
    (record {
      steps = step_settled there old.machine mid.machine new.machine c.args.tag (transaction_at O i).entry
          (transaction_at O1 i).entry c.advance.result
          (Ok progress) found.1 settles.settles.machine at.1 tags c.advance.ensures.advances
          (λ p is. ok_as progress p c.advance.result c.in-Ok-advance.is is)
          (λ is. let no = sym (ap is_err c.in-Ok-advance.is) ∙ is in cc);
      exits = exits_then state old mid new false refl refl settles.exits advances.exits;
      rises = subst (λ o. VersionsRise old new (settled_writes there old.machine ++ done_writes o (Ok progress)))
          (sym mine)
          (rises_then state old mid new (settled_writes there old.machine)
          (done_writes (Some (transaction_at O1 i).entry) (Ok progress))
          settles.exits.tables.config (settled_low state S O there stands)
          (subst (λ (k : Config). All (λ w. w.page < k.logical)
          (done_writes (Some (transaction_at O1 i).entry) (Ok progress))) settles.exits.tables.config
          (done_low S1.noted.config.logical (transaction_at O1 i).entry progress
          (own_writes_low (state S1.flash) S1.noted O1 S1.table S1.unsure kept i at.0)))
          settles.exits.tables.versions advances.exits.tables.versions settles.settles.rises advances.rises);
      sure = advances.sure;
      unknown = λ is. cc;
      costs = for_next state S O c.args.tag i (StepCosts state (with_settlement state old) new) first
          (costs_then state S S1 O O1 i there settles.tables.0 settles.tables.1 c.settle.ensures.moment
          c.settle.ensures.names first.within at.1 new
          settles.exits.tables.config c.advance.ensures.costs);
      found = for_next state S O c.args.tag i
          (λ name. IsThere (settlement_of state old).noted name →
          moment_of (state new.flash) ≡ moment_of (state old.flash)) first
          (found_then state S S1 O O1 i there settles.tables.0 settles.tables.1 c.settle.ensures.moment
          c.settle.ensures.names first.within at.1
          c.advance.new.store c.advance.ensures.found);
      brings = for_open state S O c.args.tag i (BringsPage state old new) first
          (brings_then state S S1 O O1 i there settles.tables.0 settles.tables.1 c.settle.ensures.moment
          c.settle.ensures.names first.within at.1
          c.advance.new.store c.advance.new.transactions settles.exits.tables.config
          c.settle.ensures.exits.carries.shape advances.found
          settles.reads advances.writes);
      fresh = for_next state S O c.args.tag i (λ name. AddsOnly name (settlement_of state old).noted new.noted) first
          (notes_then state S S1 O O1 i there settles.tables.0 settles.tables.1 c.settle.ensures.moment
          c.settle.ensures.names first.within at.1
          c.advance.new.store.noted advances.fresh);
      failed = λ is. cc;
      since = λ other. step_since state S O c.args.tag i false (with_settlement state old) new first
          (works_then state S S1 O O1 i there settles.tables.0 settles.tables.1 c.settle.ensures.moment
          c.settle.ensures.names first.within at.1
          c.advance.new.store c.advance.new.transactions false settles.exits.tables.config
          c.settle.ensures.exits.carries.shape advances.since);
    })
