use Rattle.std.proofs.Common.{◌+◌, List, [], ◌∷◌, map, drop, subst, arith}
use Rattle.flash_model.specs.Operations.{Operation, Load, program, program_of}
use Rattle.list_flash.specs.Entries.{Grows}
use Rattle.list_flash.specs.Registers.{loads_of}
use Rattle.list_flash.proofs.Loaded.{load_at, loads-none, loads-some, IsPart, IsPart-more}
use Rattle.list_flash.proofs.registers.append_all.Goals as goal
use Rattle.list_flash.proofs.registers.append_all.Goals.{in-Some+else-not-append_program, in_default}

pub loop-register-preserved : goal.loop-register-preserved
loop-register-preserved c =
    let all = c.args.registers.now in
    let old = c.args.list.now.items in
    let i = c.loop-register.register-index in
    let r = c.register-item.result in
    let before = c.loop-register.list.items in
    let rest : List Operation = map program_of (loads_of (drop (i + 1) all)) in
    let whole : List Operation = map program_of (loads_of all) in
    elim c.match-register.branch [
      | in-Some+else-not-append_program w ↦
          let at = w.in-Some.at in
          let more = loads-some all i r (omega arith) c.register-item.is at w.in-Some.is in
          let part = subst (λ (loads : List Load). IsPart old before (map program_of loads) whole) more
          c.loop-register.invariant.part in
          rw w.list-is (record {
            part =
                IsPart-more old before w.append_program.new.list.items rest whole (program_of (load_at r at)) part
                (subst (λ bytes. Grows before (program at.0 bytes r.page.spare_area ∷ []) w.append_program.new.list.items)
                w.deref.ensures.value w.if-not-append_program.ensures.grows);
            within = w.append_program.ensures.within;
          })
      | in_default w ↦
          let same = loads-none all i r (omega arith) c.register-item.is w.in_default.is in
          rw w.list-is (record {
            part =
                subst (λ (loads : List Load). IsPart old before (map program_of loads) whole) same
                c.loop-register.invariant.part;
            within = c.loop-register.invariant.within;
          })
    ]
