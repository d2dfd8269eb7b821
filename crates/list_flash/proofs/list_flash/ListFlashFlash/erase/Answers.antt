use Rattle.std.proofs.Common.{[], ◌∷◌, map, refl, ap, ◌∙◌}
use Rattle.std.proofs.lemmas.List.{append-nil}
use Rattle.flash_model.specs.Flash.{counted}
use Rattle.flash_model.specs.Operations.{Operation, erase, after}
use Rattle.list_flash.specs.Entries.{operations_in}
use Rattle.list_flash.specs.ListFlash.{list_flash_of}
use Rattle.list_flash.specs.ListFlashState.{moment_after}
use Rattle.list_flash.specs.Registers.{load_in}
use Rattle.list_flash.proofs.Moments.{operations_grown, IsDone-grown}
use Rattle.list_flash.proofs.Operating.{operates_err, operates_ok}
use Rattle.list_flash.proofs.list_flash.ListFlashFlash.erase.Goals as goal

pub returns-then-not-append-clause-erases : goal.returns-then-not-append-clause-erases
returns-then-not-append-clause-erases c =
    let f = c.self.inside in
    let old = f.list.items in
    let new = c.append.new.list.items in
    let o : Operation = erase c.args.block.0 in
    rw (← c.self.view_is)
    (operates_err (list_flash_of f) c.count_fault.new.self (operations_in new) (map load_in f.registers.items) o
    c.count_fault.result refl
    (operations_grown old [] new c.if-not-append.ensures.grows ∙ append-nil (operations_in old))
    c.count_fault.ensures.next c.count_fault.ensures.later)

pub invariant_of-self-2 : goal.invariant_of-self-2
invariant_of-self-2 c =
    let f = c.self.inside in
    let h = c.self.invariant in
    let o : Operation = erase c.args.block.0 in
    let can = rw (← c.self.view_is) at c.requires in
    record {
      done =
          IsDone-grown f.shape f.list.items c.append.new.list.items (o ∷ [])
          (after f.shape (moment_after f.shape (operations_in f.list.items)) o) f.programs f.erases
          f.programs c.saturating_add-self-inside-2.result h.done c.if-not-append.ensures.grows (can, refl)
          h.done.programs (c.saturating_add-self-inside-2.ensures ∙ ap counted h.done.erases);
      within = c.append.ensures.within;
      registers = h.registers;
    }

pub returns-clause-erases : goal.returns-clause-erases
returns-clause-erases c =
    let f = c.self.inside in
    let o : Operation = erase c.args.block.0 in
    let can = rw (← c.self.view_is) at c.requires in
    rw (← c.self.view_is)
    (operates_ok (list_flash_of f) (operations_in c.append.new.list.items) (o ∷ [])
    c.saturating_add-self-inside.result (counted (moment_after f.shape (operations_in f.list.items)).started)
    (map load_in f.registers.items) o refl
    (operations_grown f.list.items (o ∷ []) c.append.new.list.items c.if-not-append.ensures.grows)
    c.saturating_add-self-inside.ensures (can, refl))
