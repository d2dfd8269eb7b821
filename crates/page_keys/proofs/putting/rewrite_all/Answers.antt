mod PutLoop
use Rattle.page_keys.proofs.Common.{◌<◌, false, get_or, length, ap, sym, subst, ◌∙◌, arith, AllByRecursion, IsErrAnd, Config, IsFull, PutError, DeviceState, KeyMap, apply, is_in, EncodesMap, IsKeyChange, is_over, Bool, ◌≡◌, OnlyReads}
use Rattle.std.proofs.Common.{rules}
use Rattle.std.specs.Prelude.{Result, Ok, Err, IfErr}
use Rattle.std.specs.List.Sorted.{IsNonDecreasingBy}
use Rattle.tx_types.specs.Batch.{Writes}
use Rattle.page_keys.proofs.OfBucket.BucketChanges.{all_filtered}
use Rattle.page_keys.proofs.OfPut.PlacedChanges.{page_in, group_is}
use Rattle.page_keys.proofs.OfStore.StoreReads.{keeps_keys, reads_nothing, reads_then}
use Rattle.page_keys.proofs.putting.rewrite_all.Answers.PutLoop.{page_exists, find_past, is_full, all_written, entry_added, shows_there, bytes_back}
use Rattle.page_keys.proofs.putting.rewrite_all.Answers.PutLoop.{much_back}
use Rattle.page_keys.specs.Putting.{is_failed, is_put_fault}
use Rattle.page_keys.proofs.putting.rewrite_all.Goals as goal

if_err : {X E : Type 0} (r : Result X E) (P Q : E → Type 0) → IsErrAnd r P →
    ((e : E) → P e → Q e) → IfErr r Q
if_err (Ok x) P Q h f = tt
if_err (Err e) P Q h f = f e h

-- whether a put failed is told by its error
failed_by : {X : Type 0} (r : Result X PutError) (e : PutError) → IsErrAnd r (λ x. x ≡ e) →
    is_put_fault e ≡ is_failed r
failed_by (Ok x) e is = absurd is
failed_by (Err y) e is = ap is_put_fault (sym is)

pub rewrite-requires-clause-keys : goal.rewrite-requires-clause-keys
rewrite-requires-clause-keys g c =
    keeps_keys c.args.device.now c.loop-page.device c.loop-page.invariant.reads.stays
    c.requires.keys

pub rewrite-requires-clause-exists : goal.rewrite-requires-clause-exists
rewrite-requires-clause-exists g c =
    let same = ap (λ (s : DeviceState g.row.F.Denot). s.config.logical)
    c.loop-page.invariant.reads.stays in
    subst (λ k. get_or c.args.pages.now c.loop-page.page-index 0 < k) (sym same)
    (page_exists c.args.device.now.config.logical c.args.changes.now c.args.pages.now
    c.loop-page.page-index c.requires.pages c.loop-page-test.true)

pub of_page-requires : goal.of_page-requires
of_page-requires g c =
    subst (IsNonDecreasingBy page_in) (sym c.deref.ensures.value) c.in_ok-placed.ensures.ascends

pub rewrite-requires-clause-valid : goal.rewrite-requires-clause-valid
rewrite-requires-clause-valid g c =
    let p = get_or c.args.pages.now c.loop-page.page-index 0 in
    let logical = c.loop-page.device.config.logical in
    subst (AllByRecursion IsKeyChange) (group_is c.device_facts-config.result.logical c.loop-page.device.config.logical
    (get_or c.args.pages.now c.loop-page.page-index 0) c.args.changes.now
    c.in_ok-placed.placed.items c.deref.result.now c.of_page.result.now
    (ap (λ (x : DeviceState g.row.F.Denot). x.config.logical) c.loop-page.invariant.reads.stays
    ∙ sym (ap (λ (x : Config). x.logical) c.device_facts-config.ensures.config))
    c.in_ok-placed.ensures c.deref.ensures.value c.of_page.ensures)
    (all_filtered IsKeyChange (λ x. is_in logical p x.key) c.args.changes.now c.requires.valid)

pub add-requires : goal.add-requires
add-requires g c =
    let same = ap (λ (s : DeviceState g.row.F.Denot). s.config.page_bytes)
    c.loop-page.invariant.reads.stays in
    let size = ap length c.deref-in-loop-page.ensures.value in
    omega (arith, size, c.in_ok-rewrite.ensures.within, same, c.loop-page.invariant.size)

pub returns-in_err-rewrite-clause-refused : goal.returns-in_err-rewrite-clause-refused
returns-in_err-rewrite-clause-refused g c =
    let i = c.loop-page.invariant in
    let s = c.args.device.now in
    let t = c.loop-page.device in
    let e = c.in_err-rewrite.field-0.0 in
    let F : PutError → Type 0 = λ x. (m : KeyMap) → EncodesMap s.config s.machine.pages m →
    IsFull s.config m c.args.changes.now x in
    let one : F e = λ m shows.
    is_full s.config m c.args.changes.now c.args.pages.now c.loop-page.page-index
    c.requires.pages (i.writes m shows).1 c.loop-page-test.true e
    (much_back s t i.reads.stays m c.args.changes.now _ e
    (c.in_err-rewrite.ensures.refused m c.args.changes.now
    (group_is c.device_facts-config.result.logical c.loop-page.device.config.logical
    (get_or c.args.pages.now c.loop-page.page-index 0) c.args.changes.now
    c.in_ok-placed.placed.items c.deref.result.now c.of_page.result.now
    (ap (λ (x : DeviceState g.row.F.Denot). x.config.logical) c.loop-page.invariant.reads.stays
    ∙ sym (ap (λ (x : Config). x.logical) c.device_facts-config.ensures.config))
    c.in_ok-placed.ensures c.deref.ensures.value c.of_page.ensures)
    c.requires.differ
    (shows_there s t i.reads.stays m shows))) in
    if_err c.from_residual-in_err-rewrite.result _ F c.from_residual-in_err-rewrite.ensures.1
    (λ x is. subst F (sym is) one)

pub loop-page-preserved : goal.loop-page-preserved
loop-page-preserved g c =
    let i = c.loop-page.invariant in
    let s = c.args.device.now in
    let t = c.loop-page.device in
    let p = get_or c.args.pages.now c.loop-page.page-index 0 in
    let added = c.in_ok-add.ensures.ok in
    record {
      size = ap (λ (b : Writes). b.page_bytes) added ∙ i.size;
      reads = reads_then g.F.Flash.state s t c.rewrite.new.device false i.reads
          c.in_ok-rewrite.ensures.reads;
      count = omega (arith, i.count, c.in_ok-rewrite.ensures.once);
      writes = λ m shows.
          let before = i.writes m shows in
          let made = bytes_back s t i.reads.stays m c.args.changes.now p _
          (c.in_ok-rewrite.ensures.bytes m c.args.changes.now
          (group_is c.device_facts-config.result.logical c.loop-page.device.config.logical
          (get_or c.args.pages.now c.loop-page.page-index 0) c.args.changes.now
          c.in_ok-placed.placed.items c.deref.result.now c.of_page.result.now
          (ap (λ (x : DeviceState g.row.F.Denot). x.config.logical) c.loop-page.invariant.reads.stays
          ∙ sym (ap (λ (x : Config). x.logical) c.device_facts-config.ensures.config))
          c.in_ok-placed.ensures c.deref.ensures.value c.of_page.ensures)
          (shows_there s t i.reads.stays m shows)) in (
            ap (λ (b : Writes). b.entries) added
                ∙ entry_added s.config (apply m c.args.changes.now) c.loop-page.batch c.args.pages.now
                c.loop-page.page-index c.deref-in-loop-page.result.now c.loop-page-test.true i.size
                (c.deref-in-loop-page.ensures.value ∙ made.bytes_are) before.0,
            before.1 ∙ find_past (is_over s.config (apply m c.args.changes.now)) c.args.pages.now
                c.loop-page.page-index c.loop-page-test.true made.fits,
          );
    }

pub returns-clause-writes : goal.returns-clause-writes
returns-clause-writes g c m shows =
    let before = c.loop-page.invariant.writes m shows in
    all_written c.args.device.now.config m c.args.changes.now c.args.pages.now
    c.loop-page.page-index c.requires.pages before.1 c.loop-page.batch.entries
    c.loop-page-test.false c.loop-page.auto.page-index-end before.0

pub returns-in_err-placed-clause-reads : goal.returns-in_err-placed-clause-reads
returns-in_err-placed-clause-reads g c =
    let s = c.args.device.now in
    let calm : false ≡ is_failed c.from_residual.result = search rules in
    subst (OnlyReads g.F.Flash.state s s) calm (reads_nothing g.F.Flash.state s)

pub returns-in_err-batch-clause-reads : goal.returns-in_err-batch-clause-reads
returns-in_err-batch-clause-reads g c =
    let s = c.args.device.now in
    let calm : false ≡ is_failed c.from_residual-in_err-batch.result = search rules in
    subst (OnlyReads g.F.Flash.state s s) calm (reads_nothing g.F.Flash.state s)

pub loop-page-init : goal.loop-page-init
loop-page-init g c = record {
  size = search rules;
  reads = reads_nothing g.F.Flash.state c.args.device.now;
  count = omega arith;
  writes = λ m shows. search rules;
}

pub returns-in_err-rewrite-clause-reads : goal.returns-in_err-rewrite-clause-reads
returns-in_err-rewrite-clause-reads g c =
    let s = c.args.device.now in
    let e = c.in_err-rewrite.field-0.0 in
    subst (OnlyReads g.F.Flash.state s c.rewrite.new.device)
    (failed_by c.from_residual-in_err-rewrite.result e c.from_residual-in_err-rewrite.ensures.1)
    (reads_then g.F.Flash.state s c.loop-page.device c.rewrite.new.device (is_put_fault e) c.loop-page.invariant.reads
    c.in_err-rewrite.ensures.reads)

pub returns-in_err-add-clause-reads : goal.returns-in_err-add-clause-reads
returns-in_err-add-clause-reads g c =
    let s = c.args.device.now in
    let calm : false ≡ is_failed c.from_residual-in_err-add.result = search rules in
    subst (OnlyReads g.F.Flash.state s c.rewrite.new.device) calm
    (reads_then g.F.Flash.state s c.loop-page.device c.rewrite.new.device false c.loop-page.invariant.reads
    c.in_ok-rewrite.ensures.reads)
