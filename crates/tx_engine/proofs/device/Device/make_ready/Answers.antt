mod Readied
use Rattle.tx_engine.proofs.Common.{◌≡◌, ap, sym, ◌∙◌, refl, inl, inr, Ok, Err, subst, Config, ArrayState, Entry, Carries-nothing, FlashMoves-nothing, IsThere, is_there, settled_writes, transaction_at, DeviceState, device_in, with_settlement, WritingBreaks}
use Rattle.std.specs.Prelude.{false, true}
use Rattle.array_machine.specs.declared.answers.StepError.TheVariants as failed
use Rattle.open_table.proofs.OfTransactions.OpenList.{IsFirstTagged, first_of_own, first_position}
use Rattle.tx_engine.specs.Readying.{IsReadyToWrite, ReadiesAs, ReadiesDevice}
use Rattle.tx_engine.proofs.OfAbort.Aborting.{entry_found, entry_missing, entry_settled}
use Rattle.tx_engine.proofs.OfCollect.Collecting.{rises_stay, settled_low}
use Rattle.tx_engine.proofs.OfDevice.ExitsThen.{exits_still, exits_then, since_still}
use Rattle.tx_engine.proofs.OfDevice.Kept.{from_stands}
use Rattle.tx_engine.proofs.OfDevice.KeptDevices.{as_kept, by_kept, kept_is, kept_stands}
use Rattle.tx_engine.proofs.OfSettle.SettleExits.{failed_machine, failed_stays, not_settled, rises_unread, since_unread}
use Rattle.tx_engine.proofs.OfStep.StepExits.{for_next}
use Rattle.tx_engine.proofs.OfStep.StepWrites.{breaks_then}
use Rattle.tx_engine.proofs.device.Device.make_ready.Answers.Readied.{readies_found, readies_missing}
use Rattle.tx_engine.proofs.device.Device.make_ready.Goals as goal

pub returns-in_default : goal.returns-in_default
returns-in_default g c =
    let state = g.F.Flash.state in
    let now = c.args.self.now in
    let flash = state now.flash in
    record {
      settles = subst (λ (s : DeviceState _). ReadiesAs (is_there state s) s.machine s.machine c.args.tag
          (Err failed.Unknown))
          (as_kept state c.self.inside _ c.self.view_is c.requires.kept)
          (let s = device_in state c.self.inside.store c.self.inside.transactions in
          readies_missing (is_there state s) s.machine c.args.tag
          (entry_missing c.args.tag c.self.inside.transactions (sym c.position.ensures ∙ c.in_default.is)));
      exits = exits_still state now now.flash _ now c.requires.kept refl refl (FlashMoves-nothing flash flash _ refl)
          (Carries-nothing flash);
      rises = rises_unread now now refl;
      sure = tt;
      unknown = λ is. refl;
      ready = tt;
      failed = λ is. cc;
      since = λ other. absurd (other refl);
    }

pub settle-requires-clause-stands : goal.settle-requires-clause-stands
settle-requires-clause-stands g c =
    kept_stands g.F.Flash.state c.self.inside _ c.self.view_is c.requires.kept g.R.CommitRule.protocol c.self.invariant

pub invariant_of-self : goal.invariant_of-self
invariant_of-self g c =
    kept_is g.F.Flash.state g.R.CommitRule.protocol c.self.inside c.settle.new.store c.settle.new.transactions
    c.self.invariant
    c.settle.ensures.stands c.settle.ensures.exits.tables.config c.settle.ensures.limits

pub returns-in_default-settle : goal.returns-in_default-settle
returns-in_default-settle g c =
    let state = g.F.Flash.state in
    let S = c.self.inside.store in let O = c.self.inside.transactions in
    let old = device_in state S O in
    let new = device_in state c.settle.new.store c.settle.new.transactions in
    let its = c.in_default-settle.ensures in
    let stays = failed_stays state S c.settle.new.store O c.settle.new.transactions its.failed.0 its.failed.1
    c.settle.ensures.moment in
    by_kept state c.self.inside _ c.self.view_is c.requires.kept c.settle.new.store c.settle.new.transactions
    (λ (s t : DeviceState _). ReadiesDevice state s t c.args.tag (Err failed.Fault))
    (record {
      settles = readies_found (is_there state old) old.machine new.machine c.args.tag
          (transaction_at O c.in-Some.at).entry
          (entry_found c.args.tag O c.in-Some.at (sym c.position.ensures ∙ c.in-Some.is)).1 (Err failed.Fault)
          (inl (failed_machine state S c.settle.new.store O c.settle.new.transactions its.failed.0 its.failed.1
          c.settle.ensures.moment));
      exits = its.exits;
      rises = not_settled (is_there state old) old new stays;
      sure = tt;
      unknown = λ is. cc;
      ready = tt;
      failed = λ fault. inl (record {
        stays = stays;
        moment = c.settle.ensures.moment;
        reads = its.first_failed;
      });
      since = λ other. since_unread state S c.settle.new.store O c.settle.new.transactions
          (kept_stands state c.self.inside _ c.self.view_is c.requires.kept g.R.CommitRule.protocol c.self.invariant)
          c.settle.ensures.moment;
    })

pub make_ready_settled-requires : goal.make_ready_settled-requires
make_ready_settled-requires g c = record {
  ready = record {
    stands = c.in-Ok.ensures.stands;
    rule = ap (λ (k : Config). k.protocol) c.in-Ok.ensures.exits.tables.config ∙ c.self.invariant.rule;
    sure = c.in-Ok.ensures.settles.sure;
  };
  at = (entry_settled _ c.self.inside.transactions c.settle.new.transactions c.in-Some.at
      (ap (λ (m : ArrayState). m.entries) c.in-Ok.ensures.settles.machine)
      (entry_found c.args.tag c.self.inside.transactions c.in-Some.at (sym c.position.ensures ∙ c.in-Some.is)).0).0;
  size = c.in-Ok.ensures.limits.page_bytes ∙ c.self.invariant.page_bytes
      ∙ ap (λ (k : Config). k.page_bytes) (sym c.in-Ok.ensures.exits.tables.config);
}

pub invariant_of-self-in_default-make_ready_settled : goal.invariant_of-self-in_default-make_ready_settled
invariant_of-self-in_default-make_ready_settled g c =
    kept_is g.F.Flash.state g.R.CommitRule.protocol c.self.inside c.make_ready_settled.new.store
    c.settle.new.transactions c.self.invariant
    c.make_ready_settled.ensures.left.stands (c.make_ready_settled.ensures.left.exits.tables.config
    ∙ c.settle.ensures.exits.tables.config) c.settle.ensures.limits

pub invariant_of-self-2 : goal.invariant_of-self-2
invariant_of-self-2 g c =
    kept_is g.F.Flash.state g.R.CommitRule.protocol c.self.inside c.make_ready_settled.new.store
    c.settle.new.transactions c.self.invariant
    c.make_ready_settled.ensures.left.stands (c.make_ready_settled.ensures.left.exits.tables.config
    ∙ c.settle.ensures.exits.tables.config) c.settle.ensures.limits

pub returns-in_default-make_ready_settled : goal.returns-in_default-make_ready_settled
returns-in_default-make_ready_settled g c =
    let state = g.F.Flash.state in
    let S = c.self.inside.store in let O = c.self.inside.transactions in
    let S1 = c.settle.new.store in let O1 = c.settle.new.transactions in let i = c.in-Some.at in
    let S2 = c.make_ready_settled.new.store in
    let old = device_in state S O in
    let mid = device_in state S1 O1 in
    let new = device_in state S2 O1 in
    let there = is_there state old in
    let settles = c.in-Ok.ensures in let its = c.in_default-make_ready_settled.ensures in
    let found = entry_found c.args.tag O i (sym c.position.ensures ∙ c.in-Some.is) in
    let first = first_position c.args.tag O.all i (sym c.position.ensures ∙ c.in-Some.is) in
    let at = entry_settled there O O1 i (ap (λ (m : ArrayState). m.entries) settles.settles.machine) found.0 in
    let stands = kept_stands state c.self.inside _ c.self.view_is c.requires.kept g.R.CommitRule.protocol
    c.self.invariant in
    by_kept state c.self.inside _ c.self.view_is c.requires.kept S2 O1
    (λ (s t : DeviceState _). ReadiesDevice state s t c.args.tag (Err failed.Fault))
    (record {
      settles = readies_found there old.machine new.machine c.args.tag (transaction_at O i).entry found.1
          (Err failed.Fault) (inr (its.left.machine ∙ settles.settles.machine));
      exits = exits_then state old mid new true refl refl settles.exits its.left.exits;
      rises = inr (
        ap (λ (m : ArrayState). m.pages) (its.left.machine ∙ settles.settles.machine),
        rises_stay old mid new (settled_writes there old.machine) settles.exits.tables.config
            (settled_low state S O there stands) settles.settles.rises its.left.versions,
      );
      sure = tt;
      unknown = λ is. cc;
      ready = tt;
      failed = λ fault. inr (for_next state S O c.args.tag i (WritingBreaks state (with_settlement state old) new) first
          (breaks_then state S S1 O O1 i there settles.tables.0 settles.tables.1 c.settle.ensures.moment
          c.settle.ensures.names first.within at.1 S2 O1 c.settle.ensures.exits.carries.shape its.breaks));
      since = λ other. since_still state old mid new true settles.exits.tables.config settles.exits.carries.shape
          its.left.since c.settle.ensures.moment;
    })

pub returns : goal.returns
returns g c =
    let state = g.F.Flash.state in
    let S = c.self.inside.store in let O = c.self.inside.transactions in
    let S1 = c.settle.new.store in let O1 = c.settle.new.transactions in let i = c.in-Some.at in
    let S2 = c.make_ready_settled.new.store in
    let old = device_in state S O in
    let mid = device_in state S1 O1 in
    let new = device_in state S2 O1 in
    let there = is_there state old in
    let settles = c.in-Ok.ensures in let its = c.in-Ok-make_ready_settled.ensures in
    let found = entry_found c.args.tag O i (sym c.position.ensures ∙ c.in-Some.is) in
    let at = entry_settled there O O1 i (ap (λ (m : ArrayState). m.entries) settles.settles.machine) found.0 in
    let tags : (transaction_at O1 i).entry.tag ≡ c.args.tag = ap (λ (e : Entry). e.tag) at.1 ∙ sym found.2 in
    let kept = from_stands state S1 O1 settles.stands in
    let first : IsFirstTagged c.args.tag O1.all i =
    subst (λ t. IsFirstTagged t O1.all i) tags (first_of_own O1.all i kept.tags at.0) in
    let stands = kept_stands state c.self.inside _ c.self.view_is c.requires.kept g.R.CommitRule.protocol
    c.self.invariant in
    by_kept state c.self.inside _ c.self.view_is c.requires.kept S2 O1
    (λ (s t : DeviceState _). ReadiesDevice state s t c.args.tag (Ok tt))
    (record {
      settles = readies_found there old.machine new.machine c.args.tag (transaction_at O i).entry found.1 (Ok tt)
          (its.left.machine ∙ settles.settles.machine);
      exits = exits_then state old mid new false refl refl settles.exits its.left.exits;
      rises = rises_stay old mid new (settled_writes there old.machine) settles.exits.tables.config
          (settled_low state S O there stands) settles.settles.rises its.left.versions;
      sure = its.sure;
      unknown = λ is. cc;
      ready = for_next state S2 O1 c.args.tag i
          (λ name. (IsThere S2.noted name → ⊥) → IsReadyToWrite S2.noted S2.table name) first its.ready;
      failed = λ is. cc;
      since = λ other. since_still state old mid new false settles.exits.tables.config settles.exits.carries.shape
          its.left.since c.settle.ensures.moment;
    })
