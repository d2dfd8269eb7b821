use Rattle.lossy_store.proofs.Common.{◌≡◌, ◌+◌, ◌≤◌, length, false, refl, arith, file_of}
use Rattle.lossy_store.proofs.Places.{long}
use Rattle.lossy_store.proofs.Calls.{wrote, wrote_some}
use Rattle.lossy_store.proofs.store.LossyStoreStore.write_at.Goals as goal

pub returns-in-Some-clause-writes : goal.returns-in-Some-clause-writes
returns-in-Some-clause-writes c =
    let self = c.args.self.now in
    let within
    : c.args.offset + length c.args.bytes.now
    ≤ length (file_of self.durable.items self.writes.items self.copies).values = c.requires.within in
    rw (c.fail.ensures.counts, c.fail.ensures.answer, c.begin.ensures.durable, c.begin.ensures.copies)
    (wrote_some self.durable.items self.writes.items c.note.new.writes.items self.copies c.args.offset c.args.bytes.now
    c.min.result c.note.result (rw (← c.begin.ensures.writes) c.note.ensures.ok)
    (rw (← c.begin.ensures.writes) c.note.ensures.err)
    (omega (arith, within, long self.durable.items self.writes.items self.copies)))

pub returns-clause-writes : goal.returns-clause-writes
returns-clause-writes c =
    let self = c.args.self.now in
    let within
    : c.args.offset + length c.args.bytes.now
    ≤ length (file_of self.durable.items self.writes.items self.copies).values = c.requires.within in
    let same : length c.begin.new.self.durable.items ≡ length self.durable.items = rw c.begin.ensures.durable refl in
    let known : length c.begin.new.self.durable.items ≡ c.len.result =
    omega (arith, c.len.ensures, c.begin.new.self.durable.ok.0) in
    let kept : self.copies ≡ false → c.may_hold-self.result ≡ false =
    λ none. c.may_hold-self.ensures.none (rw c.begin.ensures.copies none) in
    rw c.begin.ensures.durable (wrote self.durable.items self.writes.items c.note-2.new.writes.items self.copies
    c.may_hold-self.result c.args.offset c.args.bytes.now (rw (← c.begin.ensures.writes) c.in-Ok.ensures.ok)
    (omega (arith, within, long self.durable.items self.writes.items self.copies)) kept
    (λ all. c.may_hold-self.ensures.all (omega (arith, all, same, known))))
