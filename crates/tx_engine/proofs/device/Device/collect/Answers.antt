use Rattle.tx_engine.proofs.Common.{◌≡◌, ap, ◌∙◌, subst, refl, inl, inr, Ok, Err, Config, IndexState, Preserves, Nothing, is_there, settled_writes, entries_of, settlement_of, DeviceState, device_in}
use Rattle.std.specs.Prelude.{false, true}
use Rattle.collector.specs.BreakingOff.{RoomBreaksOff}
use Rattle.tx_engine.specs.Collections.{HasNothingToCollect}
use Rattle.tx_engine.specs.DeviceCalls.{CollectsDevice}
use Rattle.tx_engine.specs.Settling.{StaysUnread}
use Rattle.tx_engine.proofs.OfWrite.Breaking.{broke_then}
use Rattle.tx_engine.proofs.OfSettle.SettleExits.{failed_machine, failed_stays, not_settled, since_unread}
use Rattle.tx_engine.proofs.OfDevice.ExitsThen.{exits_then, since_still}
use Rattle.tx_engine.proofs.OfCollect.Collecting.{settled_low, rises_stay, collects_from}
use Rattle.tx_engine.proofs.OfDevice.KeptDevices.{by_kept, kept_is, kept_stands}
use Rattle.tx_engine.proofs.device.Device.collect.Goals as goal

pub settle-requires-clause-stands : goal.settle-requires-clause-stands
settle-requires-clause-stands g c =
    kept_stands g.F.Flash.state c.self.inside _ c.self.view_is c.requires.kept g.R.CommitRule.protocol c.self.invariant

pub invariant_of-self : goal.invariant_of-self
invariant_of-self g c =
    kept_is g.F.Flash.state g.R.CommitRule.protocol c.self.inside c.settle.new.store c.settle.new.transactions
    c.self.invariant
    c.settle.ensures.stands c.settle.ensures.exits.tables.config c.settle.ensures.limits

pub invariant_of-self-in_default-collect_settled : goal.invariant_of-self-in_default-collect_settled
invariant_of-self-in_default-collect_settled g c =
    kept_is g.F.Flash.state g.R.CommitRule.protocol c.self.inside c.collect_settled.new.store c.settle.new.transactions
    c.self.invariant
    c.collect_settled.ensures.left.stands (c.collect_settled.ensures.left.exits.tables.config
    ∙ c.settle.ensures.exits.tables.config) c.settle.ensures.limits

pub invariant_of-self-2 : goal.invariant_of-self-2
invariant_of-self-2 g c =
    kept_is g.F.Flash.state g.R.CommitRule.protocol c.self.inside c.collect_settled.new.store c.settle.new.transactions
    c.self.invariant
    c.collect_settled.ensures.left.stands (c.collect_settled.ensures.left.exits.tables.config
    ∙ c.settle.ensures.exits.tables.config) c.settle.ensures.limits

pub returns-in_default : goal.returns-in_default
returns-in_default g c =
    let state = g.F.Flash.state in
    let S = c.self.inside.store in let O = c.self.inside.transactions in
    let old = device_in state S O in
    let new = device_in state c.settle.new.store c.settle.new.transactions in
    let its = c.in_default.ensures in
    let stays = failed_stays state S c.settle.new.store O c.settle.new.transactions its.failed.0 its.failed.1
    c.settle.ensures.moment in
    let unread : StaysUnread state old new = record {
      stays = stays;
      moment = c.settle.ensures.moment;
      reads = its.first_failed;
    } in
    by_kept state c.self.inside _ c.self.view_is c.requires.kept c.settle.new.store c.settle.new.transactions
    (λ (s t : DeviceState _). CollectsDevice state s t (Err (record {})))
    (record {
      collects = inl (failed_machine state S c.settle.new.store O c.settle.new.transactions its.failed.0 its.failed.1
          c.settle.ensures.moment);
      exits = its.exits;
      rises = not_settled (is_there state old) old new stays;
      sure = tt;
      tables = tt;
      failed = inl unread;
      breaks = inl unread;
      nothing = λ is. cc;
      since = since_unread state S c.settle.new.store O c.settle.new.transactions
          (kept_stands state c.self.inside _ c.self.view_is c.requires.kept g.R.CommitRule.protocol c.self.invariant)
          c.settle.ensures.moment;
    })

pub returns-in_default-collect_settled : goal.returns-in_default-collect_settled
returns-in_default-collect_settled g c =
    let state = g.F.Flash.state in
    let S = c.self.inside.store in let O = c.self.inside.transactions in
    let old = device_in state S O in
    let mid = device_in state c.settle.new.store c.settle.new.transactions in
    let new = device_in state c.collect_settled.new.store c.settle.new.transactions in
    let there = is_there state old in
    let settles = c.in-Ok.ensures in let its = c.in_default-collect_settled.ensures in
    let stands = kept_stands state c.self.inside _ c.self.view_is c.requires.kept g.R.CommitRule.protocol
    c.self.invariant in
    by_kept state c.self.inside _ c.self.view_is c.requires.kept c.collect_settled.new.store c.settle.new.transactions
    (λ (s t : DeviceState _). CollectsDevice state s t (Err (record {})))
    (record {
      collects = inr (its.left.machine ∙ settles.settles.machine);
      exits = exits_then state old mid new true refl refl settles.exits its.left.exits;
      rises = inr (
        ap (λ m. m.pages) (its.left.machine ∙ settles.settles.machine),
        rises_stay old mid new (settled_writes there old.machine) settles.exits.tables.config
            (settled_low state S O there stands)
            settles.settles.rises its.left.versions,
      );
      sure = tt;
      tables = tt;
      failed = inr (
        its.stays ∙ settles.tables.1,
        subst (λ (n : IndexState). Preserves n new.noted) settles.tables.0
            its.left.kept,
      );
      breaks = inr (broke_then state S c.settle.new.store O settles.exits.carries.shape c.settle.ensures.moment
          settles.reads settles.tables.0
          settles.tables.1 (λ between n t. RoomBreaksOff n t between (state new.flash) new.noted new.unsure)
          its.broken);
      nothing = λ is. cc;
      since = since_still state old mid new true settles.exits.tables.config settles.exits.carries.shape
          its.left.since c.settle.ensures.moment;
    })

pub returns : goal.returns
returns g c =
    let state = g.F.Flash.state in
    let S = c.self.inside.store in let O = c.self.inside.transactions in
    let S1 = c.settle.new.store in let O1 = c.settle.new.transactions in
    let collected = c.in-Ok-collect_settled.collected in
    let old = device_in state S O in
    let mid = device_in state S1 O1 in
    let new = device_in state c.collect_settled.new.store O1 in
    let there = is_there state old in
    let settles = c.in-Ok.ensures in let its = c.in-Ok-collect_settled.ensures in
    let config : new.noted.config ≡ S.noted.config = its.left.exits.tables.config ∙ settles.exits.tables.config in
    let stands = kept_stands state c.self.inside _ c.self.view_is c.requires.kept g.R.CommitRule.protocol
    c.self.invariant in
    by_kept state c.self.inside _ c.self.view_is c.requires.kept c.collect_settled.new.store O1
    (λ (s t : DeviceState _). CollectsDevice state s t (Ok collected))
    (record {
      collects = its.left.machine ∙ settles.settles.machine;
      exits = exits_then state old mid new false refl refl settles.exits its.left.exits;
      rises = rises_stay old mid new (settled_writes there old.machine) settles.exits.tables.config
          (settled_low state S O there stands)
          settles.settles.rises its.left.versions;
      sure = its.sure;
      tables = collects_from (state S.flash) (state S1.flash) (state new.flash) (settlement_of state old).noted
          S1.noted new.noted
          (settlement_of state old).table S1.table new.table collected c.settle.ensures.moment
          settles.exits.carries.shape settles.tables.0 settles.tables.1
          its.tables;
      failed = tt;
      breaks = tt;
      nothing = λ is.
          let same : Ok collected ≡ Ok Nothing = (let its : collected ≡ Nothing = cc in ap (λ x. Ok x) its) in
          subst (λ (k : Config). HasNothingToCollect k.protocol k.logical (state new.flash).image (entries_of O1))
          config (its.nothing same);
      since = since_still state old mid new false settles.exits.tables.config settles.exits.carries.shape
          its.left.since c.settle.ensures.moment;
    })
