-- The tables know the garbage of each block.
use Rattle.tx_engine.proofs.Common.{◌≡◌, ℕ, ◌<◌, sym, ap, ◌∙◌, arith, range_with_len, shape_of, blocks_of}
use Rattle.std.specs.Prelude.{sum, sum_by}
use Rattle.std.proofs.lemmas.List.Sums.{sum-map}
use Rattle.list_lemmas.proofs.Ranges.{map_range}
use Rattle.judged_records.specs.IndexState.{garbage_now}
use Rattle.collector.specs.Victim.{garbage_in}
use Rattle.collector.proofs.OfRoom.NowVictims.{now_same}
use Rattle.tx_engine.proofs.store.Store.garbage.Goals as goal

-- two sums of numbers that are the same
same_sums : (f g : ℕ → ℕ) (n : ℕ) → ((k : ℕ) → k < n → f k ≡ g k) →
    sum_by f (range_with_len 0 n) ≡ sum_by g (range_with_len 0 n)
same_sums f g n same =
    sym (sum-map f (range_with_len 0 n))
    ∙ ap sum (map_range f g 0 n (λ k first last. same k (omega arith)))
    ∙ sum-map g (range_with_len 0 n)

pub returns : goal.returns
returns g c =
    let s = g.F.Flash.state c.args.self.now.flash in
    let n = c.args.self.now.noted in
    let t = c.args.self.now.table in
    c.all_garbage.ensures
    ∙ ap (λ own. sum_by (garbage_now own.noted) (range_with_len 0 (blocks_of (shape_of own.noted.config))))
    c.self.view_is
    ∙ same_sums (garbage_now n) (garbage_in n t) (blocks_of (shape_of n.config))
    (now_same s n t c.args.self.now.unsure c.requires.stored.matches)
