use Rattle.scan_recovery.proofs.Common.{◌≡◌, ◌<◌, ◌≤◌, ◌+◌, true, length, sym, ap, ◌∙◌, subst, arith, slots_of, slot_at}
use Rattle.std.proofs.Common.{vec_capacity}
use Rattle.scan_recovery.specs.Scans.{IsNote}
use Rattle.std.proofs.lemmas.Result.{err_from_is_err_and}
use Rattle.scan_recovery.proofs.OfScan.ReadingSteps.{reads_nothing, reads_all_then, reads_some_then, reads_some_within}
use Rattle.scan_recovery.proofs.OfScan.ComparedSteps.{as_before}
use Rattle.scan_recovery.proofs.scan.scan_slots.Invariants.ScanSteps.{scan_first, found_note, found_unread}
use Rattle.scan_recovery.proofs.scan.scan_slots.Goals as goal
use Rattle.scan_recovery.proofs.scan.scan_slots.Goals.{in-Some, in-None}

pub loop-at-init : goal.loop-at-init
loop-at-init g c =
    let a = g.F.Flash.state c.args.flash.now in
    let slots : c.slots-slots.result ≡ slots_of a.shape = c.slots-slots.ensures ∙ ap slots_of c.shape.ensures.shape in
    record {
      reads = reads_nothing a;
      found = scan_first c.args.config.protocol c.args.config.logical a.image c.args.seen.now.items
          c.args.list.now.items c.requires.no_seen c.requires.no_list;
      seen_len = omega (arith, c.args.seen.now.ok.0, ap length c.requires.no_seen);
      list_len = omega (arith, c.args.list.now.ok.0, ap length c.requires.no_list);
      seen_room = c.requires.seen_room ∙ sym slots;
      list_room = c.requires.list_room ∙ sym slots;
    }

pub loop-at-preserved : goal.loop-at-preserved
loop-at-preserved g c =
    let a = g.F.Flash.state c.args.flash.now in
    let b = g.F.Flash.state c.loop-at.flash in
    let p = c.args.config.protocol in
    let logical = c.args.config.logical in
    let at = c.loop-at.at in
    let whole = c.shape.ensures.whole.slots in
    let slots : c.slots-slots.result ≡ slots_of a.shape = c.slots-slots.ensures ∙ ap slots_of c.shape.ensures.shape in
    let within : at < length a.image = omega (arith, whole) in
    let note = as_before a b at (λ shape image. IsNote p logical (slot_at image at) c.in_ok-note.field-0)
    c.loop-at.invariant.reads c.in_ok-note.ensures.note in
    record {
      reads = reads_all_then a b (g.F.Flash.state c.read_note.new.flash) at 1 c.loop-at.invariant.reads
          c.in_ok-note.ensures.reads;
      found = elim c.match-branch-2.branch [
        | in-Some w ↦ rw (w.unread-is, w.seen-is, w.list-is, w.add.ensures.seen, w.add.ensures.list)
            (found_note p logical a.image at within c.loop-at.unread c.loop-at.seen.items c.loop-at.list.items
            w.in-Some.note c.loop-at.invariant.found
            (subst (IsNote p logical (slot_at a.image at)) w.in-Some.is note))
        | in-None w ↦ rw (w.unread-is, w.first_of-unread.ensures)
            (found_unread p logical a.image at within c.loop-at.unread c.loop-at.seen.items c.loop-at.list.items
            c.loop-at.invariant.found
            (subst (IsNote p logical (slot_at a.image at)) w.in-None.is note))
      ];
      seen_len = let h = c.loop-at.invariant.seen_len in elim c.match-branch-2.branch [
        | in-Some w ↦ rw w.seen-is (omega (arith, w.add.ensures.seen_len))
        | in-None w ↦ rw w.seen-is (omega arith)
      ];
      list_len = let h = c.loop-at.invariant.list_len in elim c.match-branch-2.branch [
        | in-Some w ↦ rw w.list-is (omega (arith, w.add.ensures.list_len))
        | in-None w ↦ rw w.list-is (omega arith)
      ];
      seen_room = elim c.match-branch-2.branch [
        | in-Some w ↦ ap vec_capacity w.seen-is ∙ w.add.ensures.seen_room ∙ c.loop-at.invariant.seen_room
        | in-None w ↦ ap vec_capacity w.seen-is ∙ c.loop-at.invariant.seen_room
      ];
      list_room = elim c.match-branch-2.branch [
        | in-Some w ↦ ap vec_capacity w.list-is ∙ w.add.ensures.list_room ∙ c.loop-at.invariant.list_room
        | in-None w ↦ ap vec_capacity w.list-is ∙ c.loop-at.invariant.list_room
      ];
    }

pub returns-in_err-note-clause-reads : goal.returns-in_err-note-clause-reads
returns-in_err-note-clause-reads g c =
    let p = err_from_is_err_and c.from_residual.result c.from_residual.ensures.1 in
    let a = g.F.Flash.state c.args.flash.now in
    let b = g.F.Flash.state c.loop-at.flash in
    let last = g.F.Flash.state c.read_note.new.flash in
    let at = c.loop-at.at in
    let slots : c.slots-slots.result ≡ slots_of a.shape = c.slots-slots.ensures ∙ ap slots_of c.shape.ensures.shape in
    let within : at + 1 ≤ slots_of a.shape = omega (arith, slots, c.loop-at-test.true) in
    rw (p.1, p.2) (reads_some_within a last true (at + 1) (slots_of a.shape)
    (reads_some_then a b last at 1 true c.loop-at.invariant.reads c.in_err-note.ensures.reads) within)
