mod WriteSteps
mod Steps
use Rattle.page_keys.proofs.Common.{ℕ, ◌+◌, length, arith, Ok, Some, false, ap, subst, ◌∙◌, IndexState, IsSeen, is_spent, limits_of, SubmitError, ArrayState, StepsAs}
use Rattle.array_machine.specs.declared.answers.Progress.TheVariants as progress
use Rattle.tx_engine.specs.Exits.{is_there}
use Rattle.tx_engine.proofs.OfDevice.Seen.{exits_seen}
use Rattle.flash_model.specs.Operations.{moment_of}
use Rattle.judged_records.specs.Images.{records_in}
use Rattle.judged_records.specs.IndexState.{mention_of}
use Rattle.page_keys.specs.Writing.{seen_more}
use Rattle.page_keys.proofs.OfStore.Mentions.{submitted_seen}
use Rattle.page_keys.specs.PutCosts.{CostsPages}
use Rattle.page_keys.proofs.OfStore.BrokenTurns.{writes_first}
use Rattle.page_keys.proofs.OfStore.PutSteps.{costs_more, costs_none, step_costs}
use Rattle.page_keys.proofs.OfStore.Turns.{adds_next, all_above, last_there, mentioned, seen_closed, turned, turning_first, turning_more}
use Rattle.page_keys.proofs.writing.write.Answers.Steps.{wrote, done_writing, last_page}
use Rattle.page_keys.proofs.writing.write.Answers.WriteSteps.{accepted, array_done, moved_nothing, moved_then, breaks_off, named_spent, some_write}
use Rattle.page_keys.proofs.writing.write.Goals as goal

pub steps-preserved : goal.steps-preserved
steps-preserved g c =
    let i = c.steps.invariant.1 in
    let k = c.steps.invariant.0 in
    let steps = subst (λ (m : ArrayState).
    StepsAs (is_there g.F.Flash.state c.steps.device) m c.step.new.self.machine 0
    (Ok (progress.Wrote c.in-Ok-Wrote.field-0-0 c.in-Ok-Wrote.field-0-1))) i.machine
    (rw c.in-Ok-Wrote.field-0-is at c.in-Ok-Wrote.ensures.steps) in
    let exits = c.in-Ok-Wrote.ensures.exits in
    let next = wrote c.args.device.now.machine.pages c.args.batch.now.entries k
    c.step.new.self.machine _ _ _ steps in (
      k + 1,
      record {
        machine = next.0;
        less = next.1;
        unspent = i.unspent;
        moved = moved_then g.F.Flash.state c.args.device.now c.steps.device c.step.new.self false
            i.moved exits;
        seen = λ seen h. exits_seen g.F.Flash.state g.R.CommitRule.protocol c.steps.device
            c.step.new.self (seen_more seen c.args.batch.now.entries) i.always
            c.standing_facts-in-Ok-Wrote.ensures.always exits.tables (i.seen seen h);
        always = c.standing_facts-in-Ok-Wrote.ensures.always;
        costs = step_costs g.F.Flash.state g.R.CommitRule.protocol c.args.device.now c.steps.device
            c.step.new.self c.args.batch.now.entries k i.turning i.always i.moved.config i.machine i.costs
            c.in-Ok-Wrote.ensures.costs;
        turning = turning_more g.F.Flash.state g.R.CommitRule.protocol c.args.device.now c.steps.device
            c.step.new.self c.args.batch.now.entries k i.turning i.always
            c.standing_facts-in-Ok-Wrote.ensures.always i.moved.config i.machine
            c.standing_facts-in-Ok-Wrote.ensures.stands exits.tables exits.moves c.in-Ok-Wrote.ensures.sure
            c.image_is_sound.ensures c.in-Ok-Wrote.ensures.fresh next.0 next.1;
      },
    )

pub returns-in-Ok-Done-clause-written : goal.returns-in-Ok-Done-clause-written
returns-in-Ok-Done-clause-written g c =
    let i = c.steps.invariant.1 in
    let k = c.steps.invariant.0 in
    let steps = subst (λ (m : ArrayState).
    StepsAs (is_there g.F.Flash.state c.steps.device) m c.step.new.self.machine 0
    (Ok progress.Done)) i.machine
    (rw c.in-Ok-Done.field-0-is at c.in-Ok-Done.ensures.steps) in
    let exits = c.in-Ok-Done.ensures.exits in
    let state = g.F.Flash.state in
    let protocol = g.R.CommitRule.protocol in
    let old = c.args.device.now in
    let prev = c.steps.device in
    let new = c.step.new.self in
    let ws = c.args.batch.now.entries in
    let always = c.standing_facts-in-Ok-Done.ensures.always in
    let stands = c.standing_facts-in-Ok-Done.ensures.stands in
    let sure = c.in-Ok-Done.ensures.sure in
    let machine = done_writing old.machine.pages ws k new.machine _ steps in
    let moved = moved_then state old prev new false i.moved exits in
    let last = last_page old.machine.pages ws k new.machine _ steps in
    let there = last_there state protocol old prev new ws k i.turning i.always always i.moved.config i.machine
    stands exits.tables exits.moves sure last c.in-Ok-Done.ensures.found c.in-Ok-Done.ensures.brings in
    let seen : (seen : ℕ → ℕ) → IsSeen seen old → IsSeen (seen_more seen ws) new = λ seen h.
    exits_seen state protocol prev new (seen_more seen ws) i.always always exits.tables (i.seen seen h) in
    record {
      unspent = i.unspent;
      machine = machine;
      array = array_done state protocol old new ws always machine moved.config;
      moved = moved;
      seen = seen;
      mentions = mentioned state protocol old prev new ws k i.turning i.always always i.moved.config i.machine
          stands exits.tables exits.moves sure i.less there last
          (seen (mention_of old.noted) (seen_closed state old c.standing_facts.ensures.stands c.requires.closed));
      above = all_above old.noted ws (records_in old.config.protocol (state old.flash).image) i.turning.above;
      turns = turned state protocol old prev new ws k i.turning i.always always i.moved.config i.machine
          stands exits.tables exits.moves sure i.less there last
          (adds_next state protocol old prev new ws k i.turning i.always always i.moved.config i.machine stands
          exits.tables exits.moves sure c.image_is_sound.ensures c.in-Ok-Done.ensures.fresh);
      costs = subst (λ (n : ℕ). CostsPages old.config n (moment_of (state old.flash)) (moment_of (state new.flash)))
          last
          (step_costs state protocol old prev new ws k i.turning i.always i.moved.config i.machine i.costs
          c.in-Ok-Done.ensures.costs);
    }

pub returns-in-Err-step-clause-not_written : goal.returns-in-Err-step-clause-not_written
returns-in-Err-step-clause-not_written g c =
    let i = c.steps.invariant.1 in
    let exits = c.in-Err-step.ensures.exits in
    let steps = c.in-Err-step.ensures.steps in
    let state = g.F.Flash.state in
    let protocol = g.R.CommitRule.protocol in
    let old = c.args.device.now in
    let prev = c.steps.device in
    let new = c.step.new.self in
    let ws = c.args.batch.now.entries in
    let k = c.steps.invariant.0 in
    let always = c.standing_facts-in-Err-step.ensures.always in
    breaks_off g.F.Flash.state c.args.device.now c.steps.device c.step.new.self
    c.args.batch.now.entries c.steps.invariant.0 (is_there g.F.Flash.state c.steps.device)
    c.in-Err-step.field-0
    (λ seen h. exits_seen g.F.Flash.state g.R.CommitRule.protocol c.steps.device
    c.step.new.self (seen_more seen c.args.batch.now.entries) i.always
    always exits.tables (i.seen seen h)) i.machine i.unspent i.moved
    steps exits always.array (all_above old.noted ws (records_in old.config.protocol (state old.flash).image)
    i.turning.above)
    (let less = i.less in
    costs_more old.config (k + 1) (length ws) (moment_of (state old.flash)) (moment_of (state new.flash))
    (omega (arith, less))
    (step_costs state protocol old prev new ws k i.turning i.always i.moved.config i.machine i.costs
    c.in-Err-step.ensures.costs))
    (λ mark after fault. writes_first state protocol old prev new ws k i.turning i.less i.always always i.moved.config
    i.machine c.standing_facts-in-Err-step.ensures.stands c.image_is_sound.ensures c.noting_keeps.ensures
    c.in-Err-step.ensures.fresh fault mark after)

pub spent_refusal-requires : goal.spent_refusal-requires
spent_refusal-requires g c =
    (named_spent (limits_of c.args.device.now.config) (is_spent c.args.device.now.noted.mentions)
    c.args.device.now.machine c.submit.new.self.machine c.args.batch.now.entries
    c.requires.closed c.requires.fits c.in-Err.refusal c.in-Err.ensures.submits).0

pub returns-in-Err-clause-not_written : goal.returns-in-Err-clause-not_written
returns-in-Err-clause-not_written g c =
    let named = named_spent (limits_of c.args.device.now.config)
    (is_spent c.args.device.now.noted.mentions) c.args.device.now.machine
    c.submit.new.self.machine c.args.batch.now.entries c.requires.closed c.requires.fits
    c.in-Err.refusal c.in-Err.ensures.submits in
    let keeps = c.in-Err.ensures.keeps in
    rw (c.spent_refusal.ensures named.0.0 named.0.1) (
      named.1 ∙ ap (λ (e : SubmitError). Some e) named.0.1,
      record {
        config = keeps.config;
        machine = named.2;
        flash = keeps.flash;
        mentions = ap (λ (n : IndexState). n.mentions) keeps.noted;
        namings = c.in-Err.ensures.named;
      },
    )

pub steps-init : goal.steps-init
steps-init g c =
    let ws = c.args.batch.now.entries in
    let keeps = c.in_default.ensures.keeps in
    let opened = accepted (limits_of c.args.device.now.config)
    (is_spent c.args.device.now.noted.mentions) c.args.device.now.machine
    c.submit.new.self.machine ws c.requires.closed c.requires.fits c.in_default.field-0
    c.in_default.ensures.submits in (
      0,
      record {
        machine = opened.1;
        less = some_write (limits_of c.args.device.now.config) ws c.requires.fits;
        unspent = opened.0;
        moved = moved_nothing g.F.Flash.state c.args.device.now c.submit.new.self keeps.config
            keeps.flash;
        seen = λ seen h. submitted_seen c.args.device.now c.submit.new.self seen ws
            c.in_default.field-0 c.in_default.ensures.named keeps h;
        always = c.standing_facts-2.ensures.always;
        costs = costs_none g.F.Flash.state c.args.device.now.config c.args.device.now.flash c.submit.new.self.flash
            keeps.flash;
        turning = turning_first g.F.Flash.state g.R.CommitRule.protocol c.args.device.now c.submit.new.self ws
            c.in_default.field-0 c.standing_facts.ensures.always c.standing_facts.ensures.stands c.requires.closed
            c.standing_facts-2.ensures.stands (ap (λ (m : ArrayState). m.entries) opened.1)
            c.in_default.ensures.named keeps;
      },
    )
