use Rattle.desk_tasks.proofs.Common.{◌≡◌, false, refl, sym, ap, ◌∙◌, shape_of}
use Rattle.std.proofs.Common.{nat_lt}
use Rattle.std.proofs.lemmas.Bool.{le-ltb}
use Rattle.flash_model.specs.Retiring.{max_allowance}
use Rattle.tx_types.specs.Config.{slots_of}
use Rattle.tx_types.proofs.ConfigLemmas.{checked_config}
use Rattle.desk_tasks.specs.Ending.{Formatted}
use Rattle.desk_tasks.proofs.tasks.do_format.Goals as goal

pub returns : goal.returns
returns c =
    let check = c.in-Ok.ensures.exact in
    let shape_is = (checked_config c.args.config c.in-Ok.shape (sym check)).1 in
    let few : nat_lt max_allowance c.args.allowance ≡ false =
    le-ltb max_allowance c.args.allowance c.if-allowance-gt-MAX_ALLOWANCE.false in
    let slots : c.slots.result ≡ slots_of (shape_of c.args.config) = c.slots.ensures ∙ ap slots_of shape_is in (
      Formatted c.args.name.now c.args.config c.args.allowance,
      rw (← check, few) refl,
      refl,
      record {
        bytes = c.in_ok-bytes.bytes.items;
        saves = refl;
        spelled = rw shape_is at c.in_ok-bytes.ensures;
        said = rw slots at c.in_ok-line.ensures;
      },
    )
