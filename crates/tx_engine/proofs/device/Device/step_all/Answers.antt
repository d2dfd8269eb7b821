mod DeviceMoves
mod Movings
mod AllDone
mod FirstSteps
mod AllMoved
mod Dropping
mod KnownChoice
use Rattle.tx_engine.proofs.Common.{◌≡◌, true, sym, ap, ◌∙◌, subst, Config, DropsDevice, MovesDevice, DeviceState, device_in}
use Rattle.tx_engine.proofs.OfDevice.KeptDevices.{as_kept, by_kept, kept_is, kept_stands, limits_then}
use Rattle.tx_engine.proofs.device.Device.step_all.Answers.DeviceMoves.{all_dropped, all_moved}
use Rattle.tx_engine.proofs.device.Device.step_all.Answers.Dropping.{drops_unsettled}
use Rattle.tx_engine.proofs.device.Device.step_all.Goals as goal

pub returns-in_default : goal.returns-in_default
returns-in_default g c =
    let state = g.F.Flash.state in let p = g.R.CommitRule.protocol in
    let S = c.self.inside.store in let O = c.self.inside.transactions in
    let S1 = c.settle.new.store in let O1 = c.settle.new.transactions in
    record {
      moves = tt;
      dropped = subst (λ (s : DeviceState _). DropsDevice state s (record (device_in state S1 O1) { dropped = true }))
          (as_kept state c.self.inside _ c.self.view_is c.requires.kept)
          (drops_unsettled state p S S1 O O1 _ c.device_invariant.ensures c.crash_states.ensures c.self.invariant.rule
          c.in_default.ensures);
    }

pub invariant_of-self-in-Ok-step_together : goal.invariant_of-self-in-Ok-step_together
invariant_of-self-in-Ok-step_together g c =
    let state = g.F.Flash.state in let p = g.R.CommitRule.protocol in
    let S = c.self.inside.store in let O = c.self.inside.transactions in
    let S1 = c.settle.new.store in let O1 = c.settle.new.transactions in
    let S2 = c.step_together.new.store in let O2 = c.step_together.new.transactions in
    let stands = kept_stands state c.self.inside _ c.self.view_is c.requires.kept p c.self.invariant in
    let st = c.in-Ok.ensures in
    let size = st.limits.page_bytes ∙ c.self.invariant.page_bytes
    ∙ ap (λ (k : Config). k.page_bytes) (sym st.exits.tables.config) in
    let its = all_moved state p S S1 S2 O O1 O2 _ stands c.self.invariant.rule st size c.in-Ok-step_together.moved
    c.in-Ok-step_together.ensures.moves in
    let kept = kept_is state p c.self.inside S2 O2 c.self.invariant its.still its.moves.exits.tables.config
    (limits_then O O1 O2 st.limits its.limits) in
    record {
      stands = kept.stands;
      rule = kept.rule;
      page_bytes = kept.page_bytes;
      logical = kept.logical;
      pending = kept.pending;
    }

pub invariant_of-self-in_default-step_together : goal.invariant_of-self-in_default-step_together
invariant_of-self-in_default-step_together g c =
    let state = g.F.Flash.state in let p = g.R.CommitRule.protocol in
    let S = c.self.inside.store in let O = c.self.inside.transactions in
    let S1 = c.settle.new.store in let O1 = c.settle.new.transactions in
    let S2 = c.step_together.new.store in let O2 = c.step_together.new.transactions in
    let stands = kept_stands state c.self.inside _ c.self.view_is c.requires.kept p c.self.invariant in
    let st = c.in-Ok.ensures in
    let size = st.limits.page_bytes ∙ c.self.invariant.page_bytes
    ∙ ap (λ (k : Config). k.page_bytes) (sym st.exits.tables.config) in
    let its = all_dropped state p S S1 S2 O O1 O2 _ stands c.self.invariant.rule st size _ c.device_invariant.ensures
    c.crash_states.ensures
    c.in_default-step_together.ensures.moves in
    let limits = limits_then O O1 O2 st.limits its.limits in
    let config = its.drops.config in
    record {
      stands = λ kept. cc;
      rule = ap (λ (k : Config). k.protocol) config ∙ c.self.invariant.rule;
      page_bytes = limits.page_bytes ∙ c.self.invariant.page_bytes ∙ ap (λ (k : Config). k.page_bytes) (sym config);
      logical = limits.logical ∙ c.self.invariant.logical ∙ ap (λ (k : Config). k.logical) (sym config);
      pending = limits.pending ∙ c.self.invariant.pending ∙ ap (λ (k : Config). k.pending) (sym config);
    }

pub returns-in_default-step_together : goal.returns-in_default-step_together
returns-in_default-step_together g c =
    let state = g.F.Flash.state in let p = g.R.CommitRule.protocol in
    let S = c.self.inside.store in let O = c.self.inside.transactions in
    let S1 = c.settle.new.store in let O1 = c.settle.new.transactions in
    let S2 = c.step_together.new.store in let O2 = c.step_together.new.transactions in
    let stands = kept_stands state c.self.inside _ c.self.view_is c.requires.kept p c.self.invariant in
    let st = c.in-Ok.ensures in
    let size = st.limits.page_bytes ∙ c.self.invariant.page_bytes
    ∙ ap (λ (k : Config). k.page_bytes) (sym st.exits.tables.config) in
    let its = all_dropped state p S S1 S2 O O1 O2 _ stands c.self.invariant.rule st size _ c.device_invariant.ensures
    c.crash_states.ensures
    c.in_default-step_together.ensures.moves in
    record {
      moves = tt;
      dropped = subst (λ (s : DeviceState _). DropsDevice state s (record (device_in state S2 O2) { dropped = true }))
          (as_kept state c.self.inside _ c.self.view_is c.requires.kept) its.drops;
    }

pub returns : goal.returns
returns g c =
    let state = g.F.Flash.state in let p = g.R.CommitRule.protocol in
    let S = c.self.inside.store in let O = c.self.inside.transactions in
    let S1 = c.settle.new.store in let O1 = c.settle.new.transactions in
    let S2 = c.step_together.new.store in let O2 = c.step_together.new.transactions in
    let stands = kept_stands state c.self.inside _ c.self.view_is c.requires.kept p c.self.invariant in
    let st = c.in-Ok.ensures in
    let size = st.limits.page_bytes ∙ c.self.invariant.page_bytes
    ∙ ap (λ (k : Config). k.page_bytes) (sym st.exits.tables.config) in
    let its = all_moved state p S S1 S2 O O1 O2 _ stands c.self.invariant.rule st size c.in-Ok-step_together.moved
    c.in-Ok-step_together.ensures.moves in
    record {
      moves = by_kept state c.self.inside _ c.self.view_is c.requires.kept S2 O2
          (λ (s t : DeviceState _). MovesDevice state s t c.in-Ok-step_together.moved) its.moves;
      dropped = tt;
    }
