use Rattle.std.proofs.Common.{◌≡◌, ◌<◌, Option, None, length, sym, ◌∙◌, ap, subst, inl, inr, arith}
use Rattle.std.specs.Option.{IfSome}
use Rattle.std.proofs.lemmas.Bool.{cases_lt}
use Rattle.std.proofs.lemmas.List.{get_or_past}
use Rattle.tx_types.specs.declared.record.Rec.{Rec}
use Rattle.tx_types.specs.Config.{slots_of}
use Rattle.slot_tables.specs.TablesState.{record_at}
use Rattle.unit_tests.proofs.slot_tables_tests.are_above.Goals as goal

abbrev Above : Option Rec → Type 0
Above o = IfSome o (λ r. 0 < r.version)

pub loop-number-preserved : goal.loop-number-preserved
loop-number-preserved c = λ number low. elim (cases_lt number c.loop-number.number) [
  | inl before ↦ c.loop-number.invariant number before
  | inr here ↦ (
      let same : number ≡ c.loop-number.number = omega arith in
      subst Above (c.record.ensures ∙ ap (record_at c.args.tables.now.records) (sym same))
      (c.is_above.ensures c.if-not-is_above.false))
]

pub returns : goal.returns
returns c = λ all number. elim (cases_lt number (length c.args.tables.now.records)) [
  | inl within ↦ c.loop-number.invariant number
      (omega (
        arith,
        within,
        c.shape.ensures.kept.records,
        c.slots-number-end.ensures,
        ap slots_of c.shape.ensures.shape,
        c.loop-number-test.false,
      ))
  | inr past ↦ subst Above (sym (get_or_past c.args.tables.now.records number None past)) tt
]
