use Rattle.live_flash.proofs.Common.{◌≡◌, ◌⊎◌, ℕ, ◌+◌, ◌*◌, ◌<◌, ◌≤◌, Option, FileState, [], IfSome, refl, sym, ap, subst, inl, inr, ◌∙◌, slots_of, Shape, IsOpened, IsLiveFile, IsProgrammed, AreProgrammed, Follows, LosesOnly, LosesBetween, LeavesCounted}
use Rattle.std.specs.Prelude.{unwrap_or}
use Rattle.std.specs.Result.{is_err}
use Rattle.std.specs.Vec.{vec_capacity}
use Rattle.std.proofs.lemmas.Bool.{both_ways}
use Rattle.std.proofs.lemmas.List.Elements.{All-nil}
use Rattle.tx_types.specs.Config.{blocks_of}
use Rattle.flash_model.specs.declared.outcome.Outcome.TheVariants as outcome
use Rattle.flash_model.specs.Flash.{IsImage}
use Rattle.flash_model.specs.Calls.{Operates}
use Rattle.flash_model.specs.Operations.{erase}
use Rattle.flash_model.proofs.ImageLemmas.{block_within}
use Rattle.mem_flash.specs.Breaking.{broken_by, operated}
use Rattle.mem_flash.specs.MemFlashState.{MemFlashState}
use Rattle.live_file.specs.Spelling.{live_header}
use Rattle.file_flash.specs.Clearing.{IsCleared}
use Rattle.file_flash.specs.FileFlashState.{untold, powerless}
use Rattle.file_flash.proofs.Told.{weaken}
use Rattle.file_flash.proofs.Breaking.{operates_powerless}
use Rattle.file_flash.proofs.Clearing.{erase_clears}
use Rattle.file_flash.proofs.Keeping.{operated_stays, powerless_stays}
use Rattle.live_flash.specs.Waiting.{HasRoom, room_bytes}
use Rattle.live_flash.proofs.Counting.{counted_err, some_fault}
use Rattle.live_flash.proofs.Kept.{still_follows, has_failed}
use Rattle.file_flash.proofs.Programming.{on_ok}
use Rattle.live_flash.proofs.OfTold.{only_counted, between_counted}
use Rattle.live_flash.proofs.live_flash.LiveFlashFlash.erase.Goals as goal

-- what an erase in memory leaves of the image
cleared : (s m : MemFlashState) (shape : Shape) (block : ℕ) → shape ≡ s.shape → m ≡ operated s (erase block) →
    IsImage s.shape s.image →
    block < blocks_of s.shape → IsCleared s.image m.image (block * shape.pages_per_block) shape.pages_per_block
cleared s m shape block same e is low =
    subst (λ (x : Shape). IsCleared s.image m.image (block * x.pages_per_block) x.pages_per_block) (sym same)
    (subst (λ (x : MemFlashState). IsCleared s.image x.image (block * s.shape.pages_per_block) s.shape.pages_per_block)
    (sym e)
    (erase_clears s.shape s.image block (unwrap_or (broken_by s) outcome.All) is low))

pub rewrite-rewritten-requires-clause-exist : goal.rewrite-rewritten-requires-clause-exist
rewrite-rewritten-requires-clause-exist g c =
    let s = c.self.inside.memory in
    let low = (rw (← c.self.view_is) at c.requires) in
    let p = c.shape-shape.result.pages_per_block in
    subst (λ (x : MemFlashState). c.args.block.0 * p + p ≤ slots_of x.shape) (sym c.erase-done.ensures.next)
    (subst (λ (x : Shape). c.args.block.0 * x.pages_per_block + x.pages_per_block ≤ slots_of s.shape)
    (sym c.shape-shape.ensures.shape)
    (block_within s.shape c.args.block.0 low))

pub invariant_of-self-then-is_err-2 : goal.invariant_of-self-then-is_err-2
invariant_of-self-then-is_err-2 g c =
    let f = c.self.inside in
    let s = f.memory in
    let m = c.erase-done.new.self in
    let e = c.erase-done.ensures.next in
    let head = live_header f.config s.extras in
    let same = ap (λ (x : MemFlashState). x.shape) e in
    let lost = c.lose_power.ensures.lost s c.programs-programs.ensures c.erases-erases.ensures in
    let flushed = c.flush.ensures.kept head c.self.invariant.file in
    let room_kept = c.rewrite-rewritten.ensures.room ∙ c.flush.ensures.room in
    let its_low = (rw (← c.self.view_is) at c.requires) in
    let fine = sym c.is_err.ensures.value ∙ c.if-is_err.false in
    let was = on_ok (IfSome (g.S.Store.told c.flush.new.self.store) (Follows s.shape s.image [] [])) c.flush.result
    fine c.flush.ensures.follows in
    let between = c.rewrite-rewritten.ensures.loses s.image
    (subst (λ (x : Shape). IsImage x s.image) (sym same) c.shape-shape.ensures.whole)
    (cleared s m c.shape-shape.result c.args.block.0 c.shape-shape.ensures.shape e c.shape-shape.ensures.whole its_low)
    (subst (λ x. IfSome (g.S.Store.told c.flush.new.self.store) (Follows x s.image [] [])) (sym same) was) in
    let counts = subst (λ x. IfSome (g.S.Store.told c.rewrite-rewritten.new.self.store) (LeavesCounted x)) same
    (between_counted m.shape s.image m.image (g.S.Store.told c.rewrite-rewritten.new.self.store) between) in
    has_failed g.S.Store.told g.S.Store.faults f _ c.self.invariant refl refl
    (powerless_stays s m c.lose_power.new.memory (erase c.args.block.0) e lost) room_kept counts
    (subst (λ x. IfSome (g.S.Store.told c.rewrite-rewritten.new.self.store) (IsLiveFile x head)) same
    (c.rewrite-rewritten.ensures.kept head
    (subst (λ x. IfSome (g.S.Store.told c.flush.new.self.store) (IsLiveFile x head)) (sym same) flushed)))
    refl
    (some_fault (g.S.Store.faults c.flush.new.self.store) (g.S.Store.faults c.rewrite-rewritten.new.self.store)
    (counted_err c.rewrite-rewritten.result (g.S.Store.faults c.flush.new.self.store)
    (g.S.Store.faults c.rewrite-rewritten.new.self.store) (sym c.is_err-2.ensures.value ∙ c.if-is_err-2.true)
    c.rewrite-rewritten.ensures.counts))

pub returns-then-is_err-2-clause-erases : goal.returns-then-is_err-2-clause-erases
returns-then-is_err-2-clause-erases g c =
    let s = c.self.inside.memory in
    let m = c.erase-done.new.self in
    let o = erase c.args.block.0 in
    let lost = c.lose_power.ensures.lost s c.programs-programs.ensures c.erases-erases.ensures in
    rw (← c.self.view_is)
    (subst (λ (x : MemFlashState). Operates (untold s) (untold x) o c.lose_power.result) (sym lost)
    (subst (λ r. Operates (untold s) (untold (powerless s m)) o r) (sym c.lose_power.ensures.broken)
    (operates_powerless s m o c.erase-done.result c.erase-done.ensures.erases c.lose_power.ensures.later)))

-- the second of two
second : (P Q : FileState → Type 0) (file : Option FileState) →
    IfSome file Q → IfSome file (λ f. P f ⊎ Q f)
second P Q file q = weaken Q (λ f. P f ⊎ Q f) file q (λ a it. inr it)

-- the first of two
first : (P Q : FileState → Type 0) (file : Option FileState) →
    IfSome file P → IfSome file (λ f. P f ⊎ Q f)
first P Q file p = weaken P (λ f. P f ⊎ Q f) file p (λ a it. inl it)

pub returns-then-is_err-clause-loses : goal.returns-then-is_err-clause-loses
returns-then-is_err-clause-loses g c = λ live.
    let f = c.self.inside in
    let s = f.memory in
    rw (← c.self.view_is)
    (first (LosesOnly s.shape s.image f.follower.waiting.items)
    (LosesBetween s.shape s.image c.cut_erase-then-is_err.new.memory.image)
    (g.S.Store.told c.flush.new.self.store) c.flush.ensures.loses)

pub returns-then-is_err-2-clause-loses : goal.returns-then-is_err-2-clause-loses
returns-then-is_err-2-clause-loses g c = λ live.
    let f = c.self.inside in
    let s = f.memory in
    let m = c.erase-done.new.self in
    let e = c.erase-done.ensures.next in
    let low = (rw (← c.self.view_is) at c.requires) in
    let shape = c.shape-shape.result in
    let ok = sym c.is_err.ensures.value ∙ c.if-is_err.false in
    let same = ap (λ (x : MemFlashState). x.shape) e in
    let lost = c.lose_power.ensures.lost s c.programs-programs.ensures c.erases-erases.ensures in
    let new = g.S.Store.told c.rewrite-rewritten.new.self.store in
    let follows = on_ok (IfSome (g.S.Store.told c.flush.new.self.store) (Follows s.shape s.image [] [])) c.flush.result
    ok c.flush.ensures.follows in
    let whole = subst (λ (x : Shape). IsImage x s.image) (sym same)
    c.shape-shape.ensures.whole in
    let between = c.rewrite-rewritten.ensures.loses s.image whole
    (cleared s m shape c.args.block.0 c.shape-shape.ensures.shape e c.shape-shape.ensures.whole low)
    (subst (λ x. IfSome (g.S.Store.told c.flush.new.self.store) (Follows x s.image [] [])) (sym same) follows) in
    rw (← c.self.view_is)
    (second (LosesOnly s.shape s.image f.follower.waiting.items)
    (LosesBetween s.shape s.image c.lose_power.new.memory.image) new
    (subst (λ (x : MemFlashState). IfSome new (LosesBetween s.shape s.image x.image)) (sym lost)
    (subst (λ x. IfSome new (LosesBetween x s.image m.image)) same between)))

pub returns-then-is_err-2-clause-power : goal.returns-then-is_err-2-clause-power
returns-then-is_err-2-clause-power g c = λ failed.
    let s = c.self.inside.memory in
    let lost = c.lose_power.ensures.lost s c.programs-programs.ensures c.erases-erases.ensures in
    (ap is_err c.lose_power.ensures.broken, ap (λ (x : MemFlashState). x.live) lost)

pub invariant_of-self-else-is_err-2 : goal.invariant_of-self-else-is_err-2
invariant_of-self-else-is_err-2 g c =
    let f = c.self.inside in
    let s = f.memory in
    let m = c.erase-done.new.self in
    let e = c.erase-done.ensures.next in
    let low = (rw (← c.self.view_is) at c.requires) in
    let shape = c.shape-shape.result in
    let ok = sym c.is_err.ensures.value ∙ c.if-is_err.false in
    let same = ap (λ (x : MemFlashState). x.shape) e in
    let head = live_header f.config s.extras in
    let new = g.S.Store.told c.rewrite-rewritten.new.self.store in
    let flushed = c.flush.ensures.kept head c.self.invariant.file in
    let room_kept = c.rewrite-rewritten.ensures.room ∙ c.flush.ensures.room in
    let none = on_ok (c.flush.new.self.waiting.items ≡ []) c.flush.result ok c.flush.ensures.none in
    let empty : c.rewrite-rewritten.new.self.waiting.items ≡ [] = ap (λ v. v.items) c.rewrite-rewritten.ensures.same
    ∙ none in
    let follows = on_ok (IfSome (g.S.Store.told c.flush.new.self.store) (Follows s.shape s.image [] [])) c.flush.result
    ok c.flush.ensures.follows in
    let done = sym c.is_err-2.ensures.value ∙ c.if-is_err-2.false in
    let rewritten = c.rewrite-rewritten.ensures.follows s.image
    (cleared s m shape c.args.block.0 c.shape-shape.ensures.shape e c.shape-shape.ensures.whole low)
    (subst (λ x. IfSome (g.S.Store.told c.flush.new.self.store) (Follows x s.image [] [])) (sym same) follows) in
    let its_low = (rw (← c.self.view_is) at c.requires) in
    let fine = sym c.is_err.ensures.value ∙ c.if-is_err.false in
    let was = on_ok (IfSome (g.S.Store.told c.flush.new.self.store) (Follows s.shape s.image [] [])) c.flush.result
    fine c.flush.ensures.follows in
    let between = c.rewrite-rewritten.ensures.loses s.image
    (subst (λ (x : Shape). IsImage x s.image) (sym same) c.shape-shape.ensures.whole)
    (cleared s m c.shape-shape.result c.args.block.0 c.shape-shape.ensures.shape e c.shape-shape.ensures.whole its_low)
    (subst (λ x. IfSome (g.S.Store.told c.flush.new.self.store) (Follows x s.image [] [])) (sym same) was) in
    let counts = subst (λ x. IfSome (g.S.Store.told c.rewrite-rewritten.new.self.store) (LeavesCounted x)) same
    (between_counted m.shape s.image m.image (g.S.Store.told c.rewrite-rewritten.new.self.store) between) in
    still_follows g.S.Store.told g.S.Store.faults f _ c.self.invariant refl refl
    (operated_stays s m (erase c.args.block.0) e) room_kept counts
    (subst (λ x. IfSome new (IsLiveFile x head)) same
    (c.rewrite-rewritten.ensures.kept head
    (subst (λ x. IfSome (g.S.Store.told c.flush.new.self.store) (IsLiveFile x head)) (sym same) flushed)))
    (λ x. on_ok (IfSome new (IsOpened m.shape)) c.rewrite-rewritten.result done c.rewrite-rewritten.ensures.opened)
    (λ x. subst (λ w. IfSome new (Follows m.shape m.image [] w)) (sym empty)
    (on_ok (IfSome new (Follows m.shape m.image [] [])) c.rewrite-rewritten.result done rewritten))
    (λ x. subst (λ w. AreProgrammed m.image w) (sym empty) (All-nil (IsProgrammed m.image)))
    (λ x. absurd (both_ways f.failed c.if-self.false x))
    (λ x. subst (λ (y : Shape). HasRoom y (vec_capacity c.rewrite-rewritten.new.self.waiting)
    c.rewrite-rewritten.new.self.waiting.items) (sym same)
    (subst (λ w. HasRoom s.shape (vec_capacity w) w.items) (sym c.rewrite-rewritten.ensures.same)
    (on_ok (HasRoom s.shape (vec_capacity c.flush.new.self.waiting) c.flush.new.self.waiting.items) c.flush.result
    ok c.flush.ensures.places)))

pub returns-clause-loses : goal.returns-clause-loses
returns-clause-loses g c = λ live.
    let f = c.self.inside in
    let s = f.memory in
    let m = c.erase-done.new.self in
    let e = c.erase-done.ensures.next in
    let low = (rw (← c.self.view_is) at c.requires) in
    let shape = c.shape-shape.result in
    let ok = sym c.is_err.ensures.value ∙ c.if-is_err.false in
    let same = ap (λ (x : MemFlashState). x.shape) e in
    let new = g.S.Store.told c.rewrite-rewritten.new.self.store in
    let follows = on_ok (IfSome (g.S.Store.told c.flush.new.self.store) (Follows s.shape s.image [] [])) c.flush.result
    ok c.flush.ensures.follows in
    let whole = subst (λ (x : Shape). IsImage x s.image) (sym same)
    c.shape-shape.ensures.whole in
    let between = c.rewrite-rewritten.ensures.loses s.image whole
    (cleared s m shape c.args.block.0 c.shape-shape.ensures.shape e c.shape-shape.ensures.whole low)
    (subst (λ x. IfSome (g.S.Store.told c.flush.new.self.store) (Follows x s.image [] [])) (sym same) follows) in
    rw (← c.self.view_is)
    (second (LosesOnly s.shape s.image f.follower.waiting.items) (LosesBetween s.shape s.image m.image) new
    (subst (λ x. IfSome new (LosesBetween x s.image m.image)) same between))

pub rewrite-rewritten-requires-clause-room : goal.rewrite-rewritten-requires-clause-room
rewrite-rewritten-requires-clause-room g c =
    c.flush.ensures.room ∙ c.self.invariant.room
    ∙ ap (λ (x : MemFlashState). room_bytes x.shape) (sym c.erase-done.ensures.next)

pub invariant_of-self-then-is_err : goal.invariant_of-self-then-is_err
invariant_of-self-then-is_err g c =
    let f = c.self.inside in
    let s = f.memory in
    let head = live_header f.config s.extras in
    let new = g.S.Store.told c.flush.new.self.store in
    has_failed g.S.Store.told g.S.Store.faults f _ c.self.invariant refl refl
    (record {
      shape = c.cut_erase-then-is_err.ensures.cut.shape;
      extras = c.cut_erase-then-is_err.ensures.cut.extras;
      registers = c.cut_erase-then-is_err.ensures.registers;
    })
    c.flush.ensures.room
    (only_counted s.shape s.image f.follower.waiting.items new c.flush.ensures.loses)
    (c.flush.ensures.kept head c.self.invariant.file)
    refl
    (some_fault (g.S.Store.faults f.follower.store) (g.S.Store.faults c.flush.new.self.store)
    (counted_err c.flush.result (g.S.Store.faults f.follower.store) (g.S.Store.faults c.flush.new.self.store)
    (sym c.is_err.ensures.value ∙ c.if-is_err.true) c.flush.ensures.counts))
