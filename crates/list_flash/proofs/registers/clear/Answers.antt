use Rattle.std.proofs.Common.{◌≡◌, ◌+◌, ◌++◌, map, take, drop, set, ap, sym, ◌∙◌, subst, arith}
use Rattle.std.proofs.lemmas.List.Edits.{map_over_more}
use Rattle.list_flash.specs.Registers.{load_in, AreRegisters}
use Rattle.list_flash.proofs.Loaded.{emptied, emptied_all, map-emptied, AreRegisters-emptied}
use Rattle.list_flash.proofs.registers.clear.Goals as goal

pub loop-register-preserved : goal.loop-register-preserved
loop-register-preserved c =
    let all = c.args.registers.now in
    let now = c.loop-register.registers in
    let i = c.loop-register.register-index in
    subst (λ r. set now i (emptied r) ≡ map emptied (take (i + 1) all) ++ drop (i + 1) all) c.register-item.is
    (map_over_more emptied all now i c.register-item.result (omega arith) c.loop-register.invariant c.register-item.is)

pub returns-clause-empty : goal.returns-clause-empty
returns-clause-empty c =
    ap (map load_in) (emptied_all c.args.registers.now c.loop-register.registers c.loop-register.register-index
    (omega arith) c.loop-register.invariant)
    ∙ map-emptied c.args.registers.now

pub returns-clause-room : goal.returns-clause-room
returns-clause-room c shape are =
    subst (AreRegisters shape)
    (sym (emptied_all c.args.registers.now c.loop-register.registers c.loop-register.register-index (omega arith)
    c.loop-register.invariant))
    (AreRegisters-emptied shape c.args.registers.now are)
