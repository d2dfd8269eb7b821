use Rattle.page_keys.proofs.Common.{List, length, sym, ap, ◌∙◌, Change}
use Rattle.page_keys.specs.KeySessions.{reply_of}
use Rattle.page_keys.proofs.OfPut.Existing.{shows_some}
use Rattle.page_keys.proofs.OfServe.KeyCallLemmas.{memory_here, put_here, stored_here}
use Rattle.page_keys.proofs.key_calls.put.Goals as goal

pub returns-in-Ok-clause-ok : goal.returns-in-Ok-clause-ok
returns-in-Ok-clause-ok g c m shows =
    stored_here g.F.Flash.state g.R.CommitRule.protocol c.args.store.now c.put.new.self
    c.config.ensures.always (c.config.ensures.keys c.requires.usable)
    c.args.changes.now m shows _
    (ap length c.as_slice.ensures) (c.in-Ok.ensures.gives m shows)

pub returns-in-Some-clause-ok : goal.returns-in-Some-clause-ok
returns-in-Some-clause-ok g c m shows =
    put_here g.F.Flash.state g.R.CommitRule.protocol c.args.store.now c.put.new.self
    c.config.ensures.always (c.config.ensures.keys c.requires.usable)
    c.args.changes.now m shows c.in-Err.refusal c.in-Some.reply
    (c.in-Err.ensures.gives m shows)
    (ap (λ (cs : List Change). reply_of cs c.in-Err.refusal) (sym c.as_slice-in-Err.ensures)
    ∙ sym c.put_reply.ensures ∙ c.in-Some.is)

pub returns-in-None-clause-err : goal.returns-in-None-clause-err
returns-in-None-clause-err g c =
    let its = c.args.store.now.device.config in
    let pages = c.args.store.now.device.machine.pages in
    let shown = shows_some its pages (c.config.ensures.keys c.requires.usable).buckets in
    memory_here g.F.Flash.state g.R.CommitRule.protocol c.args.store.now c.put.new.self
    c.config.ensures.always (c.config.ensures.keys c.requires.usable)
    c.args.changes.now shown.0 shown.1 c.in-Err.refusal
    (c.in-Err.ensures.gives shown.0 shown.1)
    (ap (λ (cs : List Change). reply_of cs c.in-Err.refusal) (sym c.as_slice-in-Err.ensures)
    ∙ sym c.put_reply.ensures ∙ c.in-None.is)
