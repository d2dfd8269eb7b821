use Rattle.std.proofs.Common.{◌≡◌, ◌<◌, Option, Some, None, length, sym, ◌∙◌, ap, subst, inl, inr, arith}
use Rattle.std.specs.Option.{IfSome}
use Rattle.std.proofs.lemmas.Bool.{cases_lt}
use Rattle.std.proofs.lemmas.List.{get_or_past}
use Rattle.tx_types.specs.declared.record.Rec.{Rec}
use Rattle.tx_types.specs.Config.{slots_of}
use Rattle.slot_tables.specs.TablesState.{record_at}
use Rattle.unit_tests.proofs.slot_tables_tests.is_newest.Goals as goal

older_at : (rec r : Rec) (o : Option Rec) → IfSome o (λ s. s.page ≡ rec.page → s.version < rec.version) → o ≡ Some r →
    r.page ≡ rec.page →
    r.version < rec.version
older_at rec r o h e = let P : Option Rec → Type 0 = λ q. IfSome q (λ s. s.page ≡ rec.page → s.version < rec.version) in
    subst P e h

pub loop-number-preserved : goal.loop-number-preserved
loop-number-preserved c = λ number low r e page. elim (cases_lt number c.loop-number.number) [
  | inl before ↦ c.loop-number.invariant number before r e page
  | inr here ↦ (
      let same : number ≡ c.loop-number.number = omega arith in
      older_at c.args.rec r c.record.result (c.is_older.ensures c.if-not-is_older.false)
      (c.record.ensures ∙ ap (record_at c.args.tables.now.records) (sym same) ∙ e) page)
]

pub returns : goal.returns
returns c = λ all number r e page. elim (cases_lt number (length c.args.tables.now.records)) [
  | inl within ↦ c.loop-number.invariant number
      (omega (
        arith,
        within,
        c.shape.ensures.kept.records,
        c.slots-number-end.ensures,
        ap slots_of c.shape.ensures.shape,
        c.loop-number-test.false,
      )) r e page
  | inr past ↦ (let none = get_or_past c.args.tables.now.records number None past in let no : None ≡ Some r = sym none
      ∙ e in absurd (cc))
]
