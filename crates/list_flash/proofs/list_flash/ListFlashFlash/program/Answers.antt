use Rattle.std.proofs.Common.{[], ◌∷◌, map, refl, ap, ◌∙◌, arith}
use Rattle.std.proofs.lemmas.List.{append-nil}
use Rattle.flash_model.specs.Flash.{counted}
use Rattle.flash_model.specs.Operations.{Operation, program, after}
use Rattle.list_flash.specs.Entries.{operations_in}
use Rattle.list_flash.specs.ListFlash.{list_flash_of}
use Rattle.list_flash.specs.ListFlashState.{moment_after}
use Rattle.list_flash.specs.Registers.{load_in}
use Rattle.list_flash.proofs.Moments.{operations_grown, IsDone-grown}
use Rattle.list_flash.proofs.Operating.{operates_err, operates_ok}
use Rattle.list_flash.proofs.list_flash.ListFlashFlash.program.Goals as goal

pub returns-then-not-append_program-clause-programs : goal.returns-then-not-append_program-clause-programs
returns-then-not-append_program-clause-programs c =
    let f = c.self.inside in
    let old = f.list.items in
    let new = c.append_program.new.list.items in
    let o : Operation = program c.args.at.0 c.args.bytes.now c.args.spare_area.now in
    rw (← c.self.view_is)
    (operates_err (list_flash_of f) c.count_fault.new.self (operations_in new) (map load_in f.registers.items) o
    c.count_fault.result refl
    (operations_grown old [] new c.if-not-append_program.ensures.grows ∙ append-nil (operations_in old))
    c.count_fault.ensures.next c.count_fault.ensures.later)

pub invariant_of-self-2 : goal.invariant_of-self-2
invariant_of-self-2 c =
    let f = c.self.inside in
    let h = c.self.invariant in
    let o : Operation = program c.args.at.0 c.args.bytes.now c.args.spare_area.now in
    let blank = rw (← c.self.view_is) at c.requires.blank in
    let page = rw (← c.self.view_is) at c.requires.page in
    record {
      done =
          IsDone-grown f.shape f.list.items c.append_program.new.list.items (o ∷ [])
          (after f.shape (moment_after f.shape (operations_in f.list.items)) o) f.programs f.erases
          c.saturating_add-self-inside-2.result f.erases h.done c.if-not-append_program.ensures.grows
          ((blank, page, omega arith), refl) (c.saturating_add-self-inside-2.ensures ∙ ap counted h.done.programs)
          h.done.erases;
      within = c.append_program.ensures.within;
      registers = h.registers;
    }

pub returns-clause-programs : goal.returns-clause-programs
returns-clause-programs c =
    let f = c.self.inside in
    let o : Operation = program c.args.at.0 c.args.bytes.now c.args.spare_area.now in
    let blank = rw (← c.self.view_is) at c.requires.blank in
    let page = rw (← c.self.view_is) at c.requires.page in
    rw (← c.self.view_is)
    (operates_ok (list_flash_of f) (operations_in c.append_program.new.list.items) (o ∷ [])
    c.saturating_add-self-inside.result (counted (moment_after f.shape (operations_in f.list.items)).started)
    (map load_in f.registers.items) o refl
    (operations_grown f.list.items (o ∷ []) c.append_program.new.list.items c.if-not-append_program.ensures.grows)
    c.saturating_add-self-inside.ensures ((blank, page, omega arith), refl))
