use Rattle.page_keys.proofs.OfServe.KeyCallLemmas.{got_fault, got_none, got_value}
use Rattle.page_keys.proofs.key_calls.get.Goals as goal

pub returns-in-Ok-Some : goal.returns-in-Ok-Some
returns-in-Ok-Some g c m shows =
    got_value g.F.Flash.state g.R.CommitRule.protocol c.args.store.now c.get.new.self
    c.config.ensures.always c.args.key.now m shows (c.config.ensures.keys c.requires.usable)
    c.get.ensures.usable c.new.result c.in-Ok-Some.len _ c.get.new.into c.new-in-Ok-Some.result
    c.new.ensures c.in-Ok-Some.ensures.reads
    (rw c.in-Ok-Some.field-0-is at (c.in-Ok-Some.ensures.gives m shows)) c.new-in-Ok-Some.ensures

pub returns-in-Ok-None : goal.returns-in-Ok-None
returns-in-Ok-None g c m shows =
    got_none g.F.Flash.state g.R.CommitRule.protocol c.args.store.now c.get.new.self
    c.config.ensures.always c.args.key.now m shows (c.config.ensures.keys c.requires.usable)
    c.get.ensures.usable c.new-in-Ok-None.result _ c.get.new.into c.new-in-Ok-None.ensures
    c.in-Ok-None.ensures.reads
    (rw c.in-Ok-None.field-0-is at (c.in-Ok-None.ensures.gives m shows))

pub returns-in-Err : goal.returns-in-Err
returns-in-Err g c m shows =
    got_fault g.F.Flash.state g.R.CommitRule.protocol c.args.store.now c.get.new.self
    c.config.ensures.always c.args.key.now m shows (c.config.ensures.keys c.requires.usable)
    c.get.ensures.usable c.in-Err.ensures.reads
