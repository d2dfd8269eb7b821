-- Marks in groups, and how many are set in each.
use Rattle.std.specs.Prelude.{ℕ, ◌+◌, ◌-◌, ◌*◌, Bool, false, not, ◌||◌, List, Option, map, count_by, slice_index_or, if◌then◌else◌}
use Rattle.std.specs.List.{range_with_len}
use Rattle.record_list.specs.Written.{is_slot}

-- the marks of places, and how many places each group has
pub record BlockCountsState : Type 0 where
  pub marks : List Bool
  pub size : ℕ

abbrev pub is_marked : List Bool → ℕ → Bool
is_marked marks at = slice_index_or marks at false

-- how many marks are set in a group
unfoldable pub marked_in : List Bool → ℕ → ℕ → ℕ
marked_in marks size group = count_by (is_marked marks) (range_with_len (group * size) size)

-- which slots are needed, and which are blank; which blocks are closed, how many slots a block has, how many blocks
-- there are, and the spare block
pub record LiveSlotsState : Type 0 where
  pub needed : List Bool
  pub blanks : List Bool
  pub closed : List Bool
  pub size : ℕ
  pub blocks : ℕ
  pub spare : Option ℕ

-- how many slots of a block are not needed, none where it is the spare
abbrev pub unmarked_in : LiveSlotsState → ℕ → ℕ
unmarked_in n block =
    if is_slot block n.spare then 0 else n.size - marked_in n.needed n.size block

-- of each block
abbrev pub unmarked_numbers : LiveSlotsState → List ℕ
unmarked_numbers n = map (unmarked_in n) (range_with_len 0 n.blocks)

-- whether no program goes to a block: it is closed, or its last slot is not blank
abbrev pub is_shut_in : List Bool → List Bool → ℕ → ℕ → Bool
is_shut_in blanks closed size block =
    is_marked closed block || not (is_marked blanks (block * size + (size - 1)))

-- how many slots of a block that is not the spare are garbage: those that are not needed, but the blank ones where
-- programs go to it
abbrev pub counted_in : List Bool → List Bool → List Bool → ℕ → ℕ → ℕ
counted_in needed blanks closed size block =
    size - marked_in needed size block
    - (if is_shut_in blanks closed size block then 0 else marked_in blanks size block)

-- the spare has none
abbrev pub garbage_in : LiveSlotsState → ℕ → ℕ
garbage_in n block =
    if is_slot block n.spare then 0 else counted_in n.needed n.blanks n.closed n.size block

-- of each block
abbrev pub garbage_counts : LiveSlotsState → List ℕ
garbage_counts n = map (garbage_in n) (range_with_len 0 n.blocks)
