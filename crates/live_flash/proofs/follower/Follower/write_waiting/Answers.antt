use Rattle.live_flash.proofs.Common.{[], refl, sym, ◌∙◌, Result, Ok, Err, OnOk, IfSome, StoreError, IsProgrammed, Follows}
use Rattle.std.proofs.lemmas.List.Sorted.{All-permutation}
use Rattle.live_flash.proofs.OfTold.{same_told, lose_more}
use Rattle.live_flash.proofs.Once.{once_of, still_once, same_in}
use Rattle.live_flash.proofs.follower.Follower.write_waiting.Goals as goal

-- what follows from what comes after an Ok comes after it
on_then : (P Q : Type 0) (r : Result (Unit {0}) StoreError) → OnOk r P → (P → Q) → OnOk r Q
on_then P Q (Ok u) p step = step p
on_then P Q (Err e) p step = tt

pub write_runs-requires-clause-programmed : goal.write_runs-requires-clause-programmed
write_runs-requires-clause-programmed g c =
    All-permutation (IsProgrammed c.args.memory.now.image) c.args.self.now.waiting.items
    c.sort_unstable.new.self.items c.sort_unstable.ensures.permutation c.requires.programmed

pub write_runs-requires-clause-once : goal.write_runs-requires-clause-once
write_runs-requires-clause-once g c =
    still_once c.args.self.now.waiting.items c.sort_unstable.new.self.items c.sort_unstable.ensures.permutation
    (once_of c.args.self.now.waiting.items c.requires.places.once)

pub write_runs-requires-clause-follows : goal.write_runs-requires-clause-follows
write_runs-requires-clause-follows g c =
    let m = c.args.memory.now in
    same_told m.shape m.image [] c.args.self.now.waiting.items [] c.sort_unstable.new.self.items
    (g.S.Store.told c.args.self.now.store) (λ k. refl)
    (same_in c.args.self.now.waiting.items c.sort_unstable.new.self.items c.sort_unstable.ensures.permutation)
    c.requires.follows

pub returns-clause-follows : goal.returns-clause-follows
returns-clause-follows g c =
    let m = c.args.memory.now in
    let old = c.args.self.now.waiting.items in
    let new = c.sort_unstable.new.self.items in
    let told = g.S.Store.told c.write_runs.new.self.store in
    on_then (IfSome told (Follows m.shape m.image new [])) (IfSome told (Follows m.shape m.image old []))
    c.write_runs.result c.write_runs.ensures.follows
    (λ f. same_told m.shape m.image new [] old [] told
    (λ k. sym (same_in old new c.sort_unstable.ensures.permutation k)) (λ k. refl) f)

pub returns-clause-loses : goal.returns-clause-loses
returns-clause-loses g c =
    let m = c.args.memory.now in
    let old = c.args.self.now.waiting.items in
    let new = c.sort_unstable.new.self.items in
    lose_more m.shape m.image new old (g.S.Store.told c.write_runs.new.self.store)
    (λ k here. sym (same_in old new c.sort_unstable.ensures.permutation k) ∙ here) c.write_runs.ensures.loses
