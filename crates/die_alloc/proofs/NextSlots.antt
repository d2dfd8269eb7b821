-- What is known of the slot that is programmed next.
use Rattle.std.proofs.Common.{◌≡◌, ℕ, ◌+◌, ◌*◌, ◌-◌, ◌/◌, ◌<◌, ◌≤◌, ◌↔◌, inl, inr, Option, Some, None, refl, sym, ap, ◌∙◌, arith}
use Rattle.std.specs.List.{range_with_len}
use Rattle.std.specs.Option.{IsNone, option_or}
use Rattle.std.proofs.Math.Nat.{mul_comm, div-eq_of_lt-le}
use Rattle.std.proofs.lemmas.Bool.{cases_lt}
use Rattle.std.proofs.lemmas.Nat.{div_below, div-add-mod', mod_below, mul-add-lt, div-mul-add, mod-mul-add}
use Rattle.list_lemmas.proofs.Options.{option_or_some, option_or_none}
use Rattle.tx_types.specs.Config.{IsShape, blocks_of}
use Rattle.tx_types.specs.declared.config.Shape.{Shape}
use Rattle.flash_model.specs.Operations.{die_of}
use Rattle.die_alloc.specs.BlocksState.{BlocksState, IsBlocksState, used_of, HasRoom, IsFull, IsFullIn, IsFirstFree, block_of_slot}
use Rattle.die_alloc.specs.NextSlot.{first_answer, open_block, next_block, first_unused, die_after}
use Rattle.die_alloc.proofs.FirstAnswers.{first_answer-append, answer_of_one, no_answer}
use Rattle.die_alloc.proofs.OpenBlocks.{die_lies, open_block_has_room, no_open_block}

-- the block with room in the first die from the cursor on that has one, and in the first one before the cursor
abbrev pub from_cursor : BlocksState → Option ℕ
from_cursor t = first_answer (open_block t) (range_with_len t.cursor (t.shape.dies - t.cursor))

abbrev pub before_cursor : BlocksState → Option ℕ
before_cursor t = first_answer (open_block t) (range_with_len 0 t.cursor)

pub next_block_split : (t : BlocksState) → next_block t ≡ option_or (from_cursor t) (before_cursor t)
unfolding next_block
next_block_split t = first_answer-append (open_block t) (range_with_len t.cursor (t.shape.dies - t.cursor))
    (range_with_len 0 t.cursor)

-- the open block of a die is one of the table, lies in the die, and has room
pub record Stands (t : BlocksState) (die block : ℕ) : Type 0 where
  pub within : block < blocks_of t.shape
  pub lies : block / t.shape.blocks_per_die ≡ die
  pub room : HasRoom t block

pub open_block_stands : (t : BlocksState) → IsBlocksState t → (die block : ℕ) → die < t.shape.dies →
    open_block t die ≡ Some block
    → Stands t die block
open_block_stands t h die block below e =
    let found = open_block_has_room t h die block below e in
    record {
      within = omega (arith, found.1, rw h.count at (die_lies t h die below));
      lies = div-eq_of_lt-le t.shape.blocks_per_die found.0 (omega (arith, found.1));
      room = found.2;
    }

-- a die has none exactly where no block of it has room
pub no_open_block_where_full : (t : BlocksState) → IsBlocksState t → (die : ℕ) → die < t.shape.dies →
    IsNone (open_block t die) ↔ IsFullIn t die
no_open_block_where_full t h die below = by_block (open_block t die) refl
  where
    by_block : (o : Option ℕ) → open_block t die ≡ o → IsNone o ↔ IsFullIn t die
    by_block None e = (
      λ _ block within lies room.
          let size = t.shape.blocks_per_die in
          let split = div-add-mod' block size in
          let rest = mod_below block size (omega (arith, h.numbers.blocks_least)) in
          let low : die * size ≡ block / size * size = ap (λ d. d * size) (sym lies) in
          no_open_block t h die block below e (omega (arith, split, low)) (omega (arith, split, rest, low)) room,
      λ _. refl,
    )
    by_block (Some block) e =
        let stands = open_block_stands t h die block below e in
        (λ no. cc, λ full. absurd (full block stands.within stands.lies stands.room))

-- the block that is programmed next is one of the table, and has room
pub next_block_has_room : (t : BlocksState) → IsBlocksState t → (block : ℕ) → next_block t ≡ Some block
    → (block < blocks_of t.shape) × HasRoom t block
next_block_has_room t h block e =
    elim (option_or_some (from_cursor t) (before_cursor t) block (sym (next_block_split t) ∙ e)) [
      | inl later ↦
          let die = answer_of_one (open_block t) t.cursor (t.shape.dies - t.cursor) block later in
          let below : die.0 < t.shape.dies = omega (arith, h.die, die.2) in
          from_die die.0 below die.3
      | inr sooner ↦
          let die = answer_of_one (open_block t) 0 t.cursor block sooner.1 in
          let below : die.0 < t.shape.dies = omega (arith, h.die, die.2) in
          from_die die.0 below die.3
    ]
  where
    from_die : (die : ℕ) → die < t.shape.dies → open_block t die ≡ Some block → (block < blocks_of t.shape)
        × HasRoom t block
    from_die die below e = let stands = open_block_stands t h die block below e in (stands.within, stands.room)

-- where there is none, no block has room
pub no_next_block : (t : BlocksState) → IsBlocksState t → next_block t ≡ None → IsFull t
no_next_block t h e block within room =
    let none = option_or_none (from_cursor t) (before_cursor t) (sym (next_block_split t) ∙ e) in
    let size = t.shape.blocks_per_die in
    let die = block / size in
    let below : die < t.shape.dies = div_below block size t.shape.dies (omega (arith, h.numbers.blocks_least))
    (omega (arith, within, mul_comm size t.shape.dies)) in
    let split = div-add-mod' block size in
    let rest = mod_below block size (omega (arith, h.numbers.blocks_least)) in
    let gives_none : open_block t die ≡ None =
    elim (cases_lt die t.cursor) [
      | inl sooner ↦ no_answer (open_block t) 0 t.cursor none.1 die (omega arith) (omega arith)
      | inr later ↦ no_answer (open_block t) t.cursor (t.shape.dies - t.cursor) none.0 die later (omega arith)
    ]
    in
    no_open_block t h die block below gives_none (omega (arith, split)) (omega (arith, split, rest)) room

-- a block with room has fewer used slots than it has slots
pub room_left : (t : BlocksState) → IsBlocksState t → (block : ℕ) → block < blocks_of t.shape → HasRoom t block
    → used_of t block < t.shape.pages_per_block
room_left t h block within room =
    let may = h.bounds block within in
    elim room [
      | inl clean ↦ let none = rw clean at may in omega (arith, none, h.numbers.pages_least)
      | inr part ↦ let some = rw part at may in some.1
    ]

-- so the slot that follows the used ones is the first free slot of the block
pub first_unused_is_free : (t : BlocksState) → IsBlocksState t → (block : ℕ) → block < blocks_of t.shape →
    HasRoom t block
    → IsFirstFree t (first_unused t block).0
first_unused_is_free t h block within room =
    let left = room_left t h block within room in
    let lies : block_of_slot t.shape (first_unused t block).0 ≡ block =
    div-mul-add block t.shape.pages_per_block _ left in
    let place = mod-mul-add block t.shape.pages_per_block _ left in
    record {
      free = record {
        within = mul-add-lt block t.shape.pages_per_block _ (blocks_of t.shape) within left;
        room = rw lies room;
        unused = rw (lies, place) (omega arith);
      };
      first = rw (lies, place) refl;
    }

-- and lies in the die of its block
pub die_of-first_unused : (t : BlocksState) → IsBlocksState t → (die block : ℕ) → Stands t die block
    → die_of t.shape (first_unused t block).0 ≡ die
die_of-first_unused t h die block stands =
    ap (λ n. n / t.shape.blocks_per_die)
    (div-mul-add block t.shape.pages_per_block _ (room_left t h block stands.within stands.room))
    ∙ stands.lies

-- no block is programmed next exactly where none has room
pub no_block_where_full : (t : BlocksState) → IsBlocksState t → IsNone (next_block t) ↔ IsFull t
no_block_where_full t h = by_block (next_block t) refl
  where
    by_block : (o : Option ℕ) → next_block t ≡ o → IsNone o ↔ IsFull t
    by_block None e = (λ _. no_next_block t h e, λ _. refl)
    by_block (Some block) e =
        let found = next_block_has_room t h block e in
        (λ no. cc, λ full. absurd (full block found.0 found.1))

-- the cursor plays no part in what is free
pub is_first_free_moved : (t : BlocksState) (at die : ℕ) → IsFirstFree t at → IsFirstFree (record t { cursor = die }) at
is_first_free_moved t at die h = record {
  free = record {
    within = h.free.within;
    room = h.free.room;
    unused = h.free.unused;
  };
  first = h.first;
}

pub ruleset next_blocks = (next_block_split, next_block_has_room, no_block_where_full)

-- the first die comes after the last one
pub first_die : (s : Shape) (block : ℕ) → IsShape s → block < blocks_of s → s.dies ≤ block / s.blocks_per_die + 1 →
    die_after s block ≡ 0
first_die s block shape within past =
    let below : block / s.blocks_per_die < s.dies =
    div_below block s.blocks_per_die s.dies (omega (arith, shape.blocks_least))
    (omega (arith, within, mul_comm s.blocks_per_die s.dies)) in
    let place : block / s.blocks_per_die + 1 ≡ 1 * s.dies + 0 = omega arith in
    rw place (mod-mul-add 1 s.dies 0 (omega arith))
