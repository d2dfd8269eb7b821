mod Firing
mod BatchLeaves
mod Wholes
use Rattle.tx_engine.proofs.Common.{◌≡◌, List, Ok, Err, refl, sym, ◌∙◌, subst, FlashState, CanDo, Load, fire, by_err, CanNoteEach, StoreState}
use Rattle.flash_model.specs.Firing.{loads_in}
use Rattle.tx_engine.specs.BatchCalls.{WritesAll}
use Rattle.tx_engine.proofs.batches.write_all.Answers.Firing.{can_fire_all, can_load_all, can_note_all, dropped_all, fired, laws_of, same_tables, then_is}
use Rattle.tx_engine.proofs.batches.write_all.Answers.Firing.{written_all}
use Rattle.tx_engine.proofs.batches.write_all.Goals as goal

pub load_all-requires : goal.load_all-requires
load_all-requires g c =
    let met = g.met.R.CommitRule in
    let laws = laws_of g.R.CommitRule.protocol c.image_is_sound.ensures c.noting_keeps.ensures c.array_stays.ensures
    met.written_partial_write
    met.written_completing_write in
    can_load_all g.F.Flash.state g.R.CommitRule.protocol c.args.store.now c.args.store.now c.args.transactions.now
    c.args.jobs.now laws c.requires

pub fire-requires : goal.fire-requires
fire-requires g c =
    let met = g.met.R.CommitRule in
    let laws = laws_of g.R.CommitRule.protocol c.image_is_sound.ensures c.noting_keeps.ensures c.array_stays.ensures
    met.written_partial_write
    met.written_completing_write in
    let loads : List Load = loads_in (g.F.Wide.registers c.load_all.new.store.flash) in
    subst (λ (s : FlashState). CanDo s.shape s.image (fire loads)) (sym c.load_all.ensures.keeps.same)
    (subst (λ (loads : List Load). CanDo (g.F.Flash.state c.args.store.now.flash).shape
    (g.F.Flash.state c.args.store.now.flash).image (fire loads))
    (sym c.load_all.ensures.loaded)
    (can_fire_all g.F.Flash.state g.R.CommitRule.protocol c.args.store.now c.args.store.now c.args.transactions.now
    c.args.jobs.now laws c.requires))

pub returns-in_err-fire : goal.returns-in_err-fire
returns-in_err-fire g c =
    let state = g.F.Flash.state in let S = c.args.store.now in let S' = c.fire.new.self in
    let O = c.args.transactions.now in let jobs = c.args.jobs.now in
    let met = g.met.R.CommitRule in
    let laws = laws_of g.R.CommitRule.protocol c.image_is_sound.ensures c.noting_keeps.ensures c.array_stays.ensures
    met.written_partial_write
    met.written_completing_write in
    let broken = c.in_err-fire.field-0.0 in
    let torn = fired state g.R.CommitRule.protocol S S' O jobs laws c.requires g.F.Wide.registers c.load_all.new.store
    c.load_all.ensures c.fire.result
    c.fire.ensures (Err broken) c.in_err-fire.was in
    let same = same_tables state g.R.CommitRule.protocol S S' O jobs laws c.requires g.F.Wide.registers
    c.load_all.new.store c.load_all.ensures c.fire.result
    c.fire.ensures in
    by_err c.from_residual.result (WritesAll state S S' O O jobs) c.from_residual.ensures.0 (λ y. record {
      written = tt;
      broken = dropped_all state g.R.CommitRule.protocol S S' O jobs laws c.requires broken torn same;
      kept = refl;
    })

pub note_all-requires : goal.note_all-requires
note_all-requires g c =
    let state = g.F.Flash.state in let S = c.args.store.now in let S' = c.fire.new.self in
    let O = c.args.transactions.now in let jobs = c.args.jobs.now in
    let met = g.met.R.CommitRule in
    let laws = laws_of g.R.CommitRule.protocol c.image_is_sound.ensures c.noting_keeps.ensures c.array_stays.ensures
    met.written_partial_write
    met.written_completing_write in
    let done = fired state g.R.CommitRule.protocol S S' O jobs laws c.requires g.F.Wide.registers c.load_all.new.store
    c.load_all.ensures c.fire.result
    c.fire.ensures (Ok tt) c.in_ok-fire.was in
    let same = same_tables state g.R.CommitRule.protocol S S' O jobs laws c.requires g.F.Wide.registers
    c.load_all.new.store c.load_all.ensures c.fire.result
    c.fire.ensures in
    subst (λ (T : StoreState _). CanNoteEach T.noted T.table O 0 jobs) (sym same)
    (can_note_all state g.R.CommitRule.protocol S S' O jobs laws c.requires tt done)

pub returns : goal.returns
returns g c =
    let state = g.F.Flash.state in let S = c.args.store.now in let S' = c.fire.new.self in
    let O = c.args.transactions.now in let jobs = c.args.jobs.now in
    let met = g.met.R.CommitRule in
    let laws = laws_of g.R.CommitRule.protocol c.image_is_sound.ensures c.noting_keeps.ensures c.array_stays.ensures
    met.written_partial_write
    met.written_completing_write in
    let done = fired state g.R.CommitRule.protocol S S' O jobs laws c.requires g.F.Wide.registers c.load_all.new.store
    c.load_all.ensures c.fire.result
    c.fire.ensures (Ok tt) c.in_ok-fire.was in
    let same = same_tables state g.R.CommitRule.protocol S S' O jobs laws c.requires g.F.Wide.registers
    c.load_all.new.store c.load_all.ensures c.fire.result
    c.fire.ensures in
    record {
      written = written_all state g.R.CommitRule.protocol S S' O jobs laws c.requires tt done c.note_all.new.store
          c.note_all.new.transactions
          (then_is state g.R.CommitRule.protocol S S' O jobs laws c.requires tt done c.note_all.new.store same
          c.note_all.ensures.stored)
          c.note_all.ensures.opens;
      broken = tt;
      kept = tt;
    }
