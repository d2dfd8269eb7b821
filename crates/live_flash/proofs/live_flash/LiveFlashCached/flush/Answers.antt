use Rattle.std.proofs.Common.{rules}
use Rattle.live_flash.proofs.Common.{◌≡◌, [], IfSome, refl, sym, ◌∙◌, IsOpened, Follows, subst, AreProgrammed, IsProgrammed}
use Rattle.std.proofs.lemmas.Bool.{both_ways}
use Rattle.std.proofs.lemmas.List.Elements.{All-nil}
use Rattle.std.specs.Vec.{vec_capacity}
use Rattle.mem_flash.specs.MemFlashState.{MemFlashState}
use Rattle.file_flash.proofs.Keeping.{Stays}
use Rattle.live_file.specs.Spelling.{live_header}
use Rattle.live_flash.specs.Waiting.{HasRoom}
use Rattle.live_flash.proofs.Counting.{counted_err, same_ok, same_if, some_fault}
use Rattle.live_flash.proofs.Kept.{still_follows, has_failed}
use Rattle.live_flash.proofs.OfTold.{none_in, loses_now, only_counted}
use Rattle.file_flash.proofs.Programming.{on_ok}
use Rattle.live_flash.proofs.live_flash.LiveFlashCached.flush.Goals as goal

pub returns-clause-flushes : goal.returns-clause-flushes
returns-clause-flushes g c =
    let m = c.self.inside.memory in
    let new = g.S.Store.told c.flush-flushed.new.self.store in
    let ok = sym c.is_err.ensures.value ∙ c.if-is_err.false in
    rw (← c.self.view_is) (record {
      stays = refl;
      config = refl;
      answer = search rules;
      counts = λ live. same_ok c.flush-flushed.result (g.S.Store.faults c.self.inside.follower.store)
          (g.S.Store.faults c.flush-flushed.new.self.store) ok c.flush-flushed.ensures.counts
          ∙ same_if c.self.inside.failed (g.S.Store.faults c.self.inside.follower.store) c.if-self.false;
      none = on_ok (c.flush-flushed.new.self.waiting.items ≡ []) c.flush-flushed.result ok c.flush-flushed.ensures.none;
      durable = loses_now m.shape m.image [] [] [] new c.shape.ensures.whole (none_in []) (none_in [])
          (on_ok (IfSome new (IsOpened m.shape)) c.flush-flushed.result ok c.flush-flushed.ensures.opened)
          (on_ok (IfSome new (Follows m.shape m.image [] [])) c.flush-flushed.result ok
          c.flush-flushed.ensures.follows);
      loses = search rules;
      frozen = search rules;
    })

same_memory : (m : MemFlashState) → Stays m m
same_memory m = record { shape = refl; extras = refl; registers = refl }

pub invariant_of-self : goal.invariant_of-self
invariant_of-self g c =
    let f = c.self.inside in
    let m = f.memory in
    let new = g.S.Store.told c.flush-flushed.new.self.store in
    has_failed g.S.Store.told g.S.Store.faults f _ c.self.invariant refl refl (same_memory m)
    c.flush-flushed.ensures.room
    (only_counted m.shape m.image f.follower.waiting.items new c.flush-flushed.ensures.loses)
    (c.flush-flushed.ensures.kept (live_header f.config m.extras) c.self.invariant.file)
    refl
    (some_fault (g.S.Store.faults f.follower.store) (g.S.Store.faults c.flush-flushed.new.self.store)
    (counted_err c.flush-flushed.result (g.S.Store.faults f.follower.store)
    (g.S.Store.faults c.flush-flushed.new.self.store) (sym c.is_err.ensures.value ∙ c.if-is_err.true)
    c.flush-flushed.ensures.counts))

pub invariant_of-self-else-is_err : goal.invariant_of-self-else-is_err
invariant_of-self-else-is_err g c =
    let f = c.self.inside in
    let m = f.memory in
    let new = g.S.Store.told c.flush-flushed.new.self.store in
    let ok = sym c.is_err.ensures.value ∙ c.if-is_err.false in
    let none = on_ok (c.flush-flushed.new.self.waiting.items ≡ []) c.flush-flushed.result ok
    c.flush-flushed.ensures.none in
    still_follows g.S.Store.told g.S.Store.faults f _ c.self.invariant refl refl (same_memory m)
    c.flush-flushed.ensures.room
    (only_counted m.shape m.image f.follower.waiting.items new c.flush-flushed.ensures.loses)
    (c.flush-flushed.ensures.kept (live_header f.config m.extras) c.self.invariant.file)
    (λ x. on_ok (IfSome new (IsOpened m.shape)) c.flush-flushed.result ok c.flush-flushed.ensures.opened)
    (λ x. subst (λ w. IfSome new (Follows m.shape m.image [] w)) (sym none)
    (on_ok (IfSome new (Follows m.shape m.image [] [])) c.flush-flushed.result ok c.flush-flushed.ensures.follows))
    (λ x. subst (λ w. AreProgrammed m.image w) (sym none) (All-nil (IsProgrammed m.image)))
    (λ x. absurd (both_ways f.failed c.if-self.false x))
    (λ x. on_ok (HasRoom m.shape (vec_capacity c.flush-flushed.new.self.waiting) c.flush-flushed.new.self.waiting.items)
    c.flush-flushed.result ok c.flush-flushed.ensures.places)
