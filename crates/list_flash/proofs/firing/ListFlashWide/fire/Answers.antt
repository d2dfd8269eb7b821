use Rattle.std.proofs.Common.{◌≡◌, List, [], length, map, replicate, None, ap, ap₂, sym, ◌∙◌, subst, arith}
use Rattle.std.specs.Prelude.{true, not, ◌==◌}
use Rattle.std.proofs.lemmas.Bool.{ne_eqb}
use Rattle.std.proofs.lemmas.List.{append-nil, length-map, with_items_is}
use Rattle.std.specs.Vec.{with_items}
use Rattle.flash_model.specs.Flash.{counted_by}
use Rattle.flash_model.specs.Operations.{Load, fire, program_of, after}
use Rattle.list_flash.specs.Entries.{operations_in, Grows}
use Rattle.list_flash.specs.ListFlash.{list_flash_of}
use Rattle.list_flash.specs.ListFlashState.{moment_after}
use Rattle.list_flash.specs.Registers.{load_in, loads_of, AreRegisters}
use Rattle.list_flash.specs.declared.registers.Register.{Register}
use Rattle.list_flash.proofs.Loaded.{none_in}
use Rattle.flash_model.proofs.MoveLemmas.{with_started}
use Rattle.list_flash.proofs.Moments.{Does-loads, operations_grown, IsDone-grown, IsDone-still}
use Rattle.list_flash.proofs.Operating.{operates_err, operates_ok}
use Rattle.list_flash.proofs.firing.ListFlashWide.fire.Goals as goal

-- a fire of something has something to do
some_loaded : (loads : List Load) → (length loads ≡ 0 → ⊥) → not (length loads == 0) ≡ true
some_loaded loads some = ap not (ne_eqb (length loads) 0 some)

pub returns-then-count-eq0-clause-empty : goal.returns-then-count-eq0-clause-empty
returns-then-count-eq0-clause-empty c =
    let all = c.self.inside.registers.items in
    let none : length (loads_of all) ≡ 0 =
    ap (λ xs. length (loads_of xs)) (sym c.deref.ensures.value) ∙ sym c.count_loaded-count.ensures ∙ c.if-count-eq0.true
    in
    rw (← c.self.view_is)
    (none_in (map load_in all) none ∙ ap (λ n. replicate n None) (length-map all load_in
    ∙ c.self.invariant.registers.dies))

pub invariant_of-self : goal.invariant_of-self
invariant_of-self c =
    let f = c.self.inside in
    let h = c.self.invariant in
    let items = with_items_is f.registers c.clear.new.registers (omega arith) in
    record {
      done =
          IsDone-still f.shape f.list.items c.append_loaded-is_done.new.list.items f.programs f.erases h.done
          c.if-not-is_done.ensures.grows;
      within = c.append_loaded-is_done.ensures.within;
      registers =
          subst (AreRegisters f.shape) (sym items)
          (c.clear.ensures.room f.shape (subst (AreRegisters f.shape) (sym c.deref_mut.ensures.value) h.registers));
    }

pub returns-then-not-is_done-clause-fires : goal.returns-then-not-is_done-clause-fires
returns-then-not-is_done-clause-fires c =
    let f = c.self.inside in
    let all = f.registers.items in
    let old = f.list.items in
    let new = c.append_loaded-is_done.new.list.items in
    let count : c.count_loaded-count.result ≡ length (loads_of all) =
    c.count_loaded-count.ensures ∙ ap (λ xs. length (loads_of xs)) c.deref.ensures.value in
    rw (← c.self.view_is)
    (operates_err (list_flash_of f) c.count_fault.new.self (operations_in new)
    (map load_in (with_items f.registers c.clear.new.registers).items) (fire (loads_of all)) c.count_fault.result
    (some_loaded (loads_of all) (λ none. c.if-count-eq0.false (count ∙ none)))
    (operations_grown old [] new c.if-not-is_done.ensures.grows ∙ append-nil (operations_in old))
    c.count_fault.ensures.next c.count_fault.ensures.later)

pub invariant_of-self-2 : goal.invariant_of-self-2
invariant_of-self-2 c =
    let f = c.self.inside in
    let h = c.self.invariant in
    let all = f.registers.items in
    let old = f.list.items in
    let new = c.append_loaded-is_done.new.list.items in
    let loads = loads_of all in
    let moment = moment_after f.shape (operations_in old) in
    let can = rw (← c.self.view_is) at c.requires in
    let count : c.count_loaded-count.result ≡ length loads =
    c.count_loaded-count.ensures ∙ ap (λ xs. length (loads_of xs)) c.deref.ensures.value in
    let grows = subst (λ (xs : List Register). Grows old (map program_of (loads_of xs)) new) c.deref-2.ensures.value
    c.if-not-is_done.ensures.grows in
    let items = with_items_is f.registers c.clear.new.registers (omega arith) in
    record {
      done =
          IsDone-grown f.shape old new (map program_of loads)
          (with_started (after f.shape moment (fire loads)) (counted_by (length loads) moment.started)) f.programs
          f.erases
          c.saturating_add-self-inside-2.result f.erases h.done grows
          (Does-loads f.shape moment loads (λ none. c.if-count-eq0.false (count ∙ none)) can)
          (c.saturating_add-self-inside-2.ensures ∙ ap₂ counted_by count h.done.programs) h.done.erases;
      within = c.append_loaded-is_done.ensures.within;
      registers =
          subst (AreRegisters f.shape) (sym items)
          (c.clear.ensures.room f.shape (subst (AreRegisters f.shape) (sym c.deref_mut.ensures.value) h.registers));
    }

pub returns-clause-fires : goal.returns-clause-fires
returns-clause-fires c =
    let f = c.self.inside in
    let all = f.registers.items in
    let old = f.list.items in
    let new = c.append_loaded-is_done.new.list.items in
    let loads = loads_of all in
    let moment = moment_after f.shape (operations_in old) in
    let can = rw (← c.self.view_is) at c.requires in
    let count : c.count_loaded-count.result ≡ length loads =
    c.count_loaded-count.ensures ∙ ap (λ xs. length (loads_of xs)) c.deref.ensures.value in
    let grows = subst (λ (xs : List Register). Grows old (map program_of (loads_of xs)) new) c.deref-2.ensures.value
    c.if-not-is_done.ensures.grows in
    rw (← c.self.view_is)
    (operates_ok (list_flash_of f) (operations_in new) (map program_of loads) c.saturating_add-self-inside.result
    (counted_by (length loads) moment.started)
    (map load_in (with_items f.registers c.clear.new.registers).items) (fire loads)
    (some_loaded loads (λ none. c.if-count-eq0.false (count ∙ none)))
    (operations_grown old (map program_of loads) new grows) c.saturating_add-self-inside.ensures
    (Does-loads f.shape moment loads (λ none. c.if-count-eq0.false (count ∙ none)) can))
