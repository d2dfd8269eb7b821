use Rattle.durable_folder.proofs.Common.{◌∙◌, ap, refl, arith, path_buf_bytes, beside_of, handle_of}
use Rattle.std.specs.Str.{bytes_eq}
use Rattle.durable_folder.proofs.Causing.{later_then, try_later, may_pass_over, taken_skipped, taken_tried}
use Rattle.durable_folder.proofs.Making.{made_tried, failed_tried, still_untaken, not_refused, differ, same}
use Rattle.durable_folder.proofs.new_file.new_file.Goals as goal

pub loop-number-preserved : goal.loop-number-preserved
loop-number-preserved g c =
    let handle = handle_of g.F.Folder.handle in
    let text = path_buf_bytes c.in-Ok.beside in
    let before = g.F.Folder.told c.args.folder.now in
    let mid = g.F.Folder.told c.loop-number.folder in
    let after = g.F.Folder.told c.try_name.new.folder in
    let taken = rw c.in-Ok-None.field-0-is at c.in-Ok-None.ensures in (
      still_untaken handle beside_of text before mid after c.loop-number.invariant.0 taken,
      later_then before mid after c.loop-number.invariant.1
          (try_later handle beside_of text c.try_name.result mid after c.try_name.ensures),
      taken_tried handle beside_of c.loop-number.number c.args.name.now text before mid after c.loop-number.invariant.2
          c.in-Ok.ensures
          c.loop-number.invariant.0 taken,
    )

pub loop-number-preserved-then-eq : goal.loop-number-preserved-then-eq
loop-number-preserved-then-eq g c = (
  c.loop-number.invariant.0,
  c.loop-number.invariant.1,
  taken_skipped c.loop-number.number c.args.name.now (path_buf_bytes c.in-Ok.beside) (g.F.Folder.told c.args.folder.now)
      c.loop-number.invariant.2
      c.in-Ok.ensures (same (path_buf_bytes c.in-Ok.beside) c.args.name.now
      (c.if-eq.ensures ∙ ap (λ xs. bytes_eq xs c.args.name.now) c.as_str.ensures)),
)

pub returns-in-Err-clause-cause : goal.returns-in-Err-clause-cause
returns-in-Err-clause-cause g c =
    may_pass_over _ (handle_of g.F.Folder.handle) beside_of (path_buf_bytes c.in-Ok.beside) c.in-Err.error
    (g.F.Folder.told c.args.folder.now)
    (g.F.Folder.told c.loop-number.folder) (g.F.Folder.told c.try_name.new.folder) c.loop-number.invariant.1
    c.in-Err.ensures

pub returns-in-Err-clause-makes : goal.returns-in-Err-clause-makes
returns-in-Err-clause-makes g c =
    failed_tried (handle_of g.F.Folder.handle) beside_of c.args.name.now (path_buf_bytes c.in-Ok.beside) c.in-Err.error
    (g.F.Folder.told c.args.folder.now) (g.F.Folder.told c.loop-number.folder) (g.F.Folder.told c.try_name.new.folder)
    (record {
      number = c.loop-number.number;
      least = c.loop-number.auto.number;
      most = omega (arith, c.loop-number-test.true);
      beside = c.in-Ok.ensures;
    })
    c.loop-number.invariant.0 c.in-Err.ensures

pub returns-in-Ok-Some-clause-makes : goal.returns-in-Ok-Some-clause-makes
returns-in-Ok-Some-clause-makes g c =
    made_tried (handle_of g.F.Folder.handle) beside_of c.in-Ok-Some.new c.args.name.now (path_buf_bytes c.in-Ok.beside)
    (g.F.Folder.told c.args.folder.now) (g.F.Folder.told c.loop-number.folder) (g.F.Folder.told c.try_name.new.folder)
    (differ (path_buf_bytes c.in-Ok.beside) c.args.name.now (c.if-eq.ensures
    ∙ ap (λ xs. bytes_eq xs c.args.name.now) c.as_str.ensures))
    (record {
      number = c.loop-number.number;
      least = c.loop-number.auto.number;
      most = omega (arith, c.loop-number-test.true);
      beside = c.in-Ok.ensures;
    })
    c.loop-number.invariant.0 (rw c.in-Ok-Some.field-0-is at c.in-Ok-Some.ensures)

pub returns-clause-makes : goal.returns-clause-makes
returns-clause-makes g c = not_refused c.args.name.now c.from-2.result (g.F.Folder.told c.args.folder.now)
    (g.F.Folder.told c.loop-number.folder)
    c.loop-number.invariant.0 (rw c.from-2.ensures refl)
