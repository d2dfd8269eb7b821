use Rattle.std.proofs.Common.{◌≡◌, ◌∙◌, ap, sym, subst}
use Rattle.tx_types.specs.Config.{shape_of}
use Rattle.die_alloc.specs.BlocksState.{BlocksState}
use Rattle.mem_flash.specs.MemFlashState.{MemFlashState}
use Rattle.judged_records.specs.Opening.{IsChosenSpare}
use Rattle.view_command_line.proofs.opening.open_by.Goals as goal

pub returns-in-Ok : goal.returns-in-Ok
returns-in-Ok g c =
    let opened = c.in-Ok.ensures.tables in
    let shape_is : c.args.flash.now.shape ≡ shape_of c.args.config =
    ap (λ (m : MemFlashState). m.shape) c.requires.ready in
    let sound = rw (shape_is, ← c.requires.rule) at c.in-Ok.ensures.sound in
    let spare_is = c.spare-spare.ensures.spare ∙ ap (λ (t : BlocksState). t.spare) opened.table_is in
    (sound, subst (λ spare. IsChosenSpare c.args.config c.args.flash.now.image spare) (sym spare_is) opened.chosen)
