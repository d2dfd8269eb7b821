use Rattle.mem_flash.proofs.Common.{◌+◌, ◌<◌, drop, All, sym, ap, ap₂, ◌∙◌, subst, arith, slots_of, Load, loads_of, SlotsState}
use Rattle.std.proofs.lemmas.List.Elements.{All-head, All-tail}
use Rattle.flash_model.specs.Operations.{program, image_left}
use Rattle.mem_flash.proofs.Loaded.{load_at, loads-none, loads-some, left_from, left_from-more}
use Rattle.mem_flash.proofs.registers.write_loaded.Goals as goal
use Rattle.mem_flash.proofs.registers.write_loaded.Goals.{in-Some, in_default}

pub program-requires-clause-exists : goal.program-requires-clause-exists
program-requires-clause-exists c =
    let exists = λ (load : Load). load.at < slots_of c.args.slots.now.shape in
    let more = loads-some c.args.registers.now c.loop-register.register-index c.register-item.result
    (omega arith) c.register-item.is c.in-Some.at c.in-Some.is in
    rw c.loop-register.invariant.shape (All-head exists _ _ (subst (All exists) more c.loop-register.invariant.exist))

pub loop-register-preserved : goal.loop-register-preserved
loop-register-preserved c =
    let all = c.args.registers.now in
    let i = c.loop-register.register-index in
    let r = c.register-item.result in
    let before = c.loop-register.slots in
    let rest = loads_of (drop (i + 1) all) in
    let exists = λ (load : Load). load.at < slots_of c.args.slots.now.shape in
    elim c.match-register.branch [
      | in-Some w ↦
          let more = loads-some all i r (omega arith) c.register-item.is w.in-Some.at w.in-Some.is in
          record {
            shape = cc;
            exist = All-tail exists _ _ (subst (All exists) more c.loop-register.invariant.exist);
            left =
                ap₂ (λ image how. left_from image how rest)
                (ap (λ (s : SlotsState). s.image) (w.slots-is ∙ w.program.ensures)
                ∙ ap (λ bytes. image_left before.shape before.image (program w.in-Some.at.0 bytes r.spare_area)
                c.loop-register.how) w.deref.ensures.value)
                (w.how-is ∙ w.outcome_after-how.ensures)
                ∙ sym (left_from-more before.shape before.image c.loop-register.how (load_at r w.in-Some.at) rest)
                ∙ sym (ap (left_from before.image c.loop-register.how) more) ∙ c.loop-register.invariant.left;
          }
      | in_default w ↦
          let same = loads-none all i r (omega arith) c.register-item.is w.in_default.is in
          record {
            shape = cc;
            exist = subst (All exists) same c.loop-register.invariant.exist;
            left =
                ap₂ (λ image how. left_from image how rest) (ap (λ (s : SlotsState). s.image) w.slots-is) w.how-is
                ∙ sym (ap (left_from before.image c.loop-register.how) same) ∙ c.loop-register.invariant.left;
          }
    ]
