use Rattle.std.proofs.Common.{◌≡◌, refl, None, Some, sym, ap, ◌∙◌}
use Rattle.list_lemmas.proofs.Bytes.{IsBytes}
use Rattle.page_record.specs.Spelling.{spelling}
use Rattle.page_record.specs.Rules.{first_broken}
use Rattle.page_record.proofs.Spellings.{BreaksNone-spelling, fields_of-spelling, breaks_none, none_broken, can_be_spelled, is_spelled, record_of-fields}
use Rattle.page_record.proofs.Spellings.{record_of-broken}
use Rattle.page_record.proofs.reading.read_spare.Goals as goal

pub returns-in-Some-clause-only : goal.returns-in-Some-clause-only
returns-in-Some-clause-only c = λ rec can is_spelling.
    let none : first_broken c.args.protocol c.args.spare_area.now ≡ None = ap (first_broken c.args.protocol) is_spelling
    ∙
    none_broken c.args.protocol (spelling c.args.protocol rec) (BreaksNone-spelling c.args.protocol rec can) in
    let broken : first_broken c.args.protocol c.args.spare_area.now ≡ Some c.in-Some.rule = sym c.broken_rule.ensures
    ∙ c.in-Some.is in
    absurd cc

pub returns-in-Some-clause-found : goal.returns-in-Some-clause-found
returns-in-Some-clause-found c = sym (record_of-broken c.args.protocol c.args.spare_area.now c.in-Some.rule
    (sym c.broken_rule.ensures ∙ c.in-Some.is))

pub returns-in-None-clause-spelled : goal.returns-in-None-clause-spelled
returns-in-None-clause-spelled c =
    let fits : IsBytes c.args.spare_area.now = record { at = c.fits-spare_area } in
    let none = breaks_none c.args.protocol c.args.spare_area.now (sym c.broken_rule.ensures ∙ c.in-None.is) in
    rw c.fields-rec.ensures (
      can_be_spelled c.args.protocol c.args.spare_area.now c.told-spare_area fits none,
      is_spelled c.args.protocol c.args.spare_area.now c.told-spare_area fits none,
    )

pub returns-in-None-clause-only : goal.returns-in-None-clause-only
returns-in-None-clause-only c = λ rec can is_spelling. rw (
  c.fields-rec.ensures,
  is_spelling,
  fields_of-spelling c.args.protocol rec can,
) refl

pub returns-in-None-clause-found : goal.returns-in-None-clause-found
returns-in-None-clause-found c =
    let fits : IsBytes c.args.spare_area.now = record { at = c.fits-spare_area } in
    rw c.fields-rec.ensures (sym (record_of-fields c.args.protocol c.args.spare_area.now c.told-spare_area fits
    (sym c.broken_rule.ensures ∙ c.in-None.is)))
