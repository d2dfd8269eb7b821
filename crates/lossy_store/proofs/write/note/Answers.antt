use Rattle.lossy_store.proofs.Common.{refl}
use Rattle.lossy_store.proofs.write.note.Goals as goal
use Rattle.lossy_store.proofs.write.note.Goals.{in-Ok-push, in-Err}

pub returns-clause-ok : goal.returns-clause-ok
returns-clause-ok c = elim c.match-push.branch [
  | in-Ok-push w ↦ rw w.result-is (record {
    write = record { offset = c.args.offset; bytes = c.in-Ok.copy };
    offset_is = refl;
    bytes_are = c.in-Ok.ensures.items;
    behind = w.in-Ok-push.ensures.items;
  })
  | in-Err w ↦ rw w.result-is tt
]
