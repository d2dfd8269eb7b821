use Rattle.mem_flash.proofs.Common.{◌≡◌, ℕ, ◌+◌, ◌-◌, ◌≤◌, List, ◌++◌, length, arith, rules, overwritten}
use Rattle.std.proofs.lemmas.List.{places, same_lists}
use borrow.Rule.Slice.PartMut.{put_mid}
use Rattle.mem_flash.proofs.cells.write_cell.Goals as goal

-- two parts written one behind the other are one part
two_parts : (cells : List ℕ) (from m : ℕ) (xs ys : List ℕ) → length ys ≡ m → from + length xs + m ≤ length cells
    → put_mid (from + length xs) (from + length xs + m - (from + length xs))
    (put_mid from (from + length xs - from) cells xs) ys
    ≡ overwritten cells from (xs ++ ys)
two_parts cells from m xs ys long within = same_lists _ _ (search (rules, places)) (λ k d h. grind (arith, places))

pub returns : goal.returns
returns c =
    let whole = two_parts c.args.cells.now c.args.from 64 c.args.bytes.now c.args.spare_area.now
    (omega arith) c.requires in
    rw (c.copy_from_slice.ensures.after, c.copy_from_slice-2.ensures.after) (cc)
