-- States of the generator, one after the other, and what is drawn from them.
use Rattle.drive_gen.proofs.Common.{◌≡◌, ℕ, suc, ◌+◌, ◌∷◌, length, refl, next_state, generator_after, drawn_batch, drawn_write, page_count, Config}
use Rattle.std.proofs.Common.{add-one}
use Rattle.std.proofs.lemmas.List.FromFn.{length-map-range_with_len}
use Rattle.drive_gen.specs.declared.kind.Kind.TheVariants as kind
use Rattle.drive_gen.specs.Work.{aborted, drawn_cut, drawn_kind, written_at_once, state_behind, state_behind_all}
use Rattle.drive_gen.specs.Work.{transaction}

next_is : (x k : ℕ) → next_state (generator_after x k) ≡ generator_after x (suc k)
unfolding generator_after
next_is x k = refl

-- one draw more
pub state_more : (x k j : ℕ) → k + 1 ≡ j → next_state (generator_after x k) ≡ generator_after x j
state_more x k j e = rw (← e, add-one) (next_is x k)

-- the first draw
pub state_first : (x : ℕ) → next_state x ≡ generator_after x 1
unfolding generator_after
state_first x = refl

behind_is : (c : Config) (start i : ℕ) → state_behind c (state_behind_all c start i) ≡ state_behind_all c start (suc i)
unfolding state_behind_all
behind_is c start i = refl

-- one transaction more
pub behind_more : (c : Config) (start i : ℕ) → state_behind c (state_behind_all c start i)
    ≡ state_behind_all c start (i + 1)
behind_more c start i = rw add-one (behind_is c start i)

pub behind_none : (c : Config) (start : ℕ) → state_behind_all c start 0 ≡ start
unfolding state_behind_all
behind_none c start = refl

-- ---- the kinds of transactions

-- a cut is armed first
pub kind_cut : (c : Config) (x tag : ℕ) → drawn_kind c x ≡ kind.Cut
    → (transaction c x tag ≡ drawn_cut c x ∷ written_at_once tag (drawn_batch c x))
    × (state_behind c x ≡ generator_after x (page_count c x + 5))
unfolding transaction state_behind
kind_cut c x tag e = (rw e refl, rw e refl)

-- it is aborted
pub kind_abort : (c : Config) (x tag : ℕ) → drawn_kind c x ≡ kind.Abort
    → (transaction c x tag ≡ aborted tag (drawn_batch c x) (length (drawn_batch c x).entries))
    × (state_behind c x ≡ generator_after x (page_count c x + 3))
unfolding transaction state_behind
kind_abort c x tag e = (rw (e, length-map-range_with_len (drawn_write c x) 0 (page_count c x)) refl, rw e refl)

-- it is finished
pub kind_finish : (c : Config) (x tag : ℕ) → drawn_kind c x ≡ kind.Finish
    → (transaction c x tag ≡ written_at_once tag (drawn_batch c x))
    × (state_behind c x ≡ generator_after x (page_count c x + 3))
unfolding transaction state_behind
kind_finish c x tag e = (rw e refl, rw e refl)
