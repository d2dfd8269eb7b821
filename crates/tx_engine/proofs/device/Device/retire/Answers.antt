mod Retirements
use Rattle.tx_engine.proofs.Common.{◌≡◌, ◌<◌, true, false, Option, Ok, Err, sym, ap, ◌∙◌, subst, refl, inl, inr, arith, option_map, shape_of, blocks_of, Config, Shape, is_there, settled_writes, DeviceState, device_in}
use Rattle.std.specs.Prelude.{IsSomeAnd}
use Rattle.flash_model.specs.Flash.{Extras}
use Rattle.flash_model.specs.Retiring.{one_more}
use Rattle.flash_model.proofs.RetireLemmas.{CarriesRetiring-carries, CarriesRetiring-then}
use Rattle.tx_engine.specs.DeviceCalls.{RetiresDevice}
use Rattle.tx_engine.specs.Retire.{AnswersRetire}
use Rattle.tx_engine.specs.declared.device.retire.RetireError.{RetireError}
use Rattle.tx_engine.specs.declared.device.retire.RetireError.TheVariants.{Fault}
use Rattle.tx_engine.proofs.OfCollect.Collecting.{settled_low, rises_stay}
use Rattle.tx_engine.proofs.OfDevice.ExitsThen.{images_then, tables_then}
use Rattle.tx_engine.proofs.device.Device.retire.Answers.Retirements.{broke_after, refused, retired_after, retired_blank, retired_known, retiring_broke}
use Rattle.tx_engine.proofs.device.Device.retire.Answers.Retirements.{retiring_fails}
use Rattle.tx_engine.proofs.OfSettle.SettleExits.{failed_machine, failed_stays, not_settled}
use Rattle.tx_engine.proofs.OfDevice.KeptDevices.{as_kept, by_kept, kept_is, kept_stands}
use Rattle.tx_engine.proofs.device.Device.retire.Goals as goal

pub returns-in-Some : goal.returns-in-Some
returns-in-Some g c =
    let state = g.F.Flash.state in
    subst (λ (s : DeviceState _). RetiresDevice state s s c.args.block.0 (Err c.in-Some.refusal))
    (as_kept state c.self.inside _ c.self.view_is c.requires.kept)
    (refused state (device_in state c.self.inside.store c.self.inside.transactions) c.args.block.0 c.in-Some.refusal
    refl (sym c.in-Some.ensures.refusal))

pub settle-requires-clause-stands : goal.settle-requires-clause-stands
settle-requires-clause-stands g c =
    kept_stands g.F.Flash.state c.self.inside _ c.self.view_is c.requires.kept g.R.CommitRule.protocol c.self.invariant

pub invariant_of-self : goal.invariant_of-self
invariant_of-self g c =
    kept_is g.F.Flash.state g.R.CommitRule.protocol c.self.inside c.settle.new.store c.settle.new.transactions
    c.self.invariant
    c.settle.ensures.stands c.settle.ensures.exits.tables.config c.settle.ensures.limits

pub invariant_of-self-in_default-retire_settled : goal.invariant_of-self-in_default-retire_settled
invariant_of-self-in_default-retire_settled g c =
    kept_is g.F.Flash.state g.R.CommitRule.protocol c.self.inside c.retire_settled.new.store c.settle.new.transactions
    c.self.invariant
    c.retire_settled.ensures.left.stands (c.retire_settled.ensures.left.tables.config
    ∙ c.settle.ensures.exits.tables.config) c.settle.ensures.limits

pub invariant_of-self-2 : goal.invariant_of-self-2
invariant_of-self-2 g c =
    kept_is g.F.Flash.state g.R.CommitRule.protocol c.self.inside c.retire_settled.new.store c.settle.new.transactions
    c.self.invariant
    c.retire_settled.ensures.left.stands (c.retire_settled.ensures.left.tables.config
    ∙ c.settle.ensures.exits.tables.config) c.settle.ensures.limits

pub retire_settled-requires : goal.retire_settled-requires
retire_settled-requires g c =
    let settles = c.in-Ok.ensures in
    record {
      ready = record {
        stands = settles.stands;
        rule = ap (λ (k : Config). k.protocol) settles.exits.tables.config ∙ c.self.invariant.rule;
        sure = settles.settles.sure;
      };
      exists = subst (λ (sh : Shape). c.args.block.0 < blocks_of sh) (sym settles.exits.carries.shape
          ∙ settles.stands.matches.shape)
          c.in_default.ensures.exists;
      left = subst (λ (o : Option Extras). IsSomeAnd o (λ extras. extras.retired < extras.allowance))
          (sym settles.exits.carries.extras)
          c.in_default.ensures.left;
    }

pub returns-in_default-settle : goal.returns-in_default-settle
returns-in_default-settle g c =
    let state = g.F.Flash.state in
    let S = c.self.inside.store in let O = c.self.inside.transactions in
    let old = device_in state S O in
    let new = device_in state c.settle.new.store c.settle.new.transactions in
    let its = c.in_default-settle.ensures in
    let stays = failed_stays state S c.settle.new.store O c.settle.new.transactions its.failed.0 its.failed.1
    c.settle.ensures.moment in
    by_kept state c.self.inside _ c.self.view_is c.requires.kept c.settle.new.store c.settle.new.transactions
    (λ (s t : DeviceState _). RetiresDevice state s t c.args.block.0 (Err Fault))
    (record {
      refusal = subst (λ (r : Option RetireError). AnswersRetire r old new (Err Fault)) c.in_default.ensures.refusal tt;
      retires = inl (failed_machine state S c.settle.new.store O c.settle.new.transactions its.failed.0 its.failed.1
          c.settle.ensures.moment);
      exits = record {
        tables = its.exits.tables;
        ends = inl (its.exits.moves, its.exits.carries.extras);
        carries = CarriesRetiring-carries (state S.flash) (state new.flash) true its.exits.carries;
        held = its.exits.held;
      };
      rises = not_settled (is_there state old) old new stays;
      sure = tt;
      tables = inl (record { stays = stays; moment = c.settle.ensures.moment; reads = its.first_failed });
      blank = tt;
      told = tt;
    })

pub returns-in_default-retire_settled : goal.returns-in_default-retire_settled
returns-in_default-retire_settled g c =
    let state = g.F.Flash.state in
    let S = c.self.inside.store in let O = c.self.inside.transactions in
    let S1 = c.settle.new.store in let O1 = c.settle.new.transactions in let S2 = c.retire_settled.new.store in
    let old = device_in state S O in
    let mid = device_in state S1 O1 in
    let new = device_in state S2 O1 in
    let there = is_there state old in
    let settles = c.in-Ok.ensures in let its = c.in_default-retire_settled.ensures in
    let stands = kept_stands state c.self.inside _ c.self.view_is c.requires.kept g.R.CommitRule.protocol
    c.self.invariant in
    by_kept state c.self.inside _ c.self.view_is c.requires.kept S2 O1
    (λ (s t : DeviceState _). RetiresDevice state s t c.args.block.0 (Err Fault))
    (record {
      refusal = subst (λ (r : Option RetireError). AnswersRetire r old new (Err Fault)) c.in_default.ensures.refusal tt;
      retires = inr (its.left.machine ∙ settles.settles.machine);
      exits = record {
        tables = tables_then state old mid new refl refl settles.exits.tables its.left.tables;
        ends = broke_after (state old.flash) (state mid.flash) (state new.flash) settles.exits.carries
            settles.exits.moves c.args.block.0
            (retiring_broke _ _ _ _ _ _ _ its.retires.broken);
        carries = CarriesRetiring-then (state old.flash) (state mid.flash) (state new.flash) true settles.exits.carries
            its.retires.keeps.carries;
        held = images_then old.config mid.config (state old.flash).image (state mid.flash).image (state new.flash).image
            settles.exits.tables.config settles.exits.held its.left.held;
      };
      rises = inr (
        ap (λ m. m.pages) (its.left.machine ∙ settles.settles.machine),
        rises_stay old mid new (settled_writes there old.machine) settles.exits.tables.config
            (settled_low state S O there stands)
            settles.settles.rises its.left.versions,
      );
      sure = tt;
      tables = inr (retiring_fails state S S1 S2 O O1 _ c.args.block.0 settles.exits.carries.shape
          c.settle.ensures.moment settles.reads
          settles.tables.0 settles.tables.1 _ its.retires its.left.kept);
      blank = tt;
      told = tt;
    })

pub returns : goal.returns
returns g c =
    let state = g.F.Flash.state in
    let S = c.self.inside.store in let O = c.self.inside.transactions in
    let S1 = c.settle.new.store in let O1 = c.settle.new.transactions in let S2 = c.retire_settled.new.store in
    let old = device_in state S O in
    let mid = device_in state S1 O1 in
    let new = device_in state S2 O1 in
    let there = is_there state old in
    let settles = c.in-Ok.ensures in let its = c.in-Ok-retire_settled.ensures in let done = its.retires.done in
    let config : new.noted.config ≡ mid.noted.config = its.left.tables.config in
    let stands = kept_stands state c.self.inside _ c.self.view_is c.requires.kept g.R.CommitRule.protocol
    c.self.invariant in
    by_kept state c.self.inside _ c.self.view_is c.requires.kept S2 O1
    (λ (s t : DeviceState _). RetiresDevice state s t c.args.block.0 (Ok tt))
    (record {
      refusal = subst (λ (r : Option RetireError). AnswersRetire r old new (Ok tt)) c.in_default.ensures.refusal tt;
      retires = its.left.machine ∙ settles.settles.machine;
      exits = record {
        tables = tables_then state old mid new refl refl settles.exits.tables its.left.tables;
        ends = retired_after (state old.flash) (state mid.flash) (state new.flash) settles.exits.carries
            settles.exits.moves c.args.block.0
            c.settle.ensures.moment _ mid.noted _ mid.table settles.tables.0 settles.tables.1 done;
        carries = CarriesRetiring-then (state old.flash) (state mid.flash) (state new.flash) false settles.exits.carries
            its.retires.keeps.carries;
        held = images_then old.config mid.config (state old.flash).image (state mid.flash).image (state new.flash).image
            settles.exits.tables.config settles.exits.held its.left.held;
      };
      rises = rises_stay old mid new (settled_writes there old.machine) settles.exits.tables.config
          (settled_low state S O there stands)
          settles.settles.rises its.left.versions;
      sure = its.retires.keeps.tables.sure;
      tables = retired_known state S S1 S2 O O1 _ c.args.block.0 settles.exits.carries.shape
          c.settle.ensures.moment settles.reads
          settles.tables.0 settles.tables.1 its.retires;
      blank = retired_blank (state mid.flash) (state new.flash) new.noted _ c.args.block.0 settles.stands.matches.flash
          (settles.stands.matches.shape ∙ ap (λ (k : Config). shape_of k) (sym config))
          (omega (arith, c.in_default.ensures.exists, ap blocks_of settles.exits.carries.shape)) done;
      told = done.replaced.extras ∙ ap (option_map one_more) (done.carries.extras ∙ settles.exits.carries.extras);
    })
