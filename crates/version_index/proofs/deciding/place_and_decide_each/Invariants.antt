pub mod PutSoFar
use Rattle.version_index.proofs.Common.{AreDecided}
use Rattle.version_index.proofs.deciding.place_and_decide_each.Invariants.PutSoFar.{ArePutSoFar}
use Rattle.version_index.proofs.deciding.place_and_decide_each.Given as goal

abbrev pub invariant-loop-at : goal.invariant-loop-at
invariant-loop-at l = record {
  put : ArePutSoFar l.standing.list l.numbers l.initial.tables.slots l.at l.tables.slots;
  decided : AreDecided l.standing.protocol l.standing.list l.numbers l.logical
      (record l.initial.tables { slots = l.tables.slots }) l.tables l.at;
}
