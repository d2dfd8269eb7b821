use Rattle.desk_tasks.proofs.Common.{refl, Keyed, OpensStore, Opening}
use Rattle.desk_tasks.specs.Stops.{RefusesStore}
use Rattle.desk_tasks.proofs.KeyEndings.{keys_held, opening_done, opening_store}
use Rattle.desk_tasks.proofs.Works.{stopped}
use Rattle.desk_tasks.proofs.keying.run_keys.Goals as goal

pub returns-in_err-flash : goal.returns-in_err-flash
returns-in_err-flash c =
    let its = c.args.config in
    let image = c.args.flash.image in
    let done = Keyed c.args.name.now its image c.args.flash.extras c.args.list.now in
    stopped (RefusesStore its image) (Opening its image (OpensStore its image done)) c.from_residual.result
    c.in_err-flash.field-0.0
    c.from_residual.ensures.1 (opening_store its image done) c.in_err-flash.ensures.err

pub returns : goal.returns
returns c =
    let its = c.args.config in
    let image = c.args.flash.image in
    let run = c.in_ok-flash.ensures.run in
    let held = keys_held its image c.args.list.now _ _ run in
    let done = Keyed c.args.name.now its image c.args.flash.extras c.args.list.now in (
      done,
      opening_done its image done held.0 held.1,
      refl,
      record {
        bytes = c.in_ok-saved.saved.items;
        saves = refl;
        left = c.in_ok-flash.field-0.flash.image;
        run = run;
        spelled = rw c.in_ok-flash.ensures.extras at c.in_ok-saved.ensures;
      },
    )
