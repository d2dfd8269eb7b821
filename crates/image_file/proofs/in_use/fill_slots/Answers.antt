use Rattle.image_file.proofs.Common.{◌≡◌, ℕ, ◌-◌, ◌≤◌, List, ◌++◌, length, take, drop, sym, subst, arith, cell_bytes}
use Rattle.std.proofs.Common.{rules}
use Rattle.std.proofs.lemmas.List.{places, same_lists, length-take, length-drop}
use borrow.Rule.Slice.PartMut.{post_of}
use Rattle.image_file.proofs.BehindLemmas.{IsBehind, cells_fit, rest_is, slots_filled}
use Rattle.image_file.proofs.InUseLemmas.{AreFilledAs}
use Rattle.image_file.proofs.in_use.fill_slots.Goals as goal

-- what is behind the head, once it is written over
behind_is : (old cells : List ℕ) (head : ℕ) → head ≤ length old → length cells ≡ length old - head →
    drop head (take head old ++ (cells ++ post_of head (length old - head) old)) ≡ cells
behind_is old cells head within long = same_lists _ _ (search (rules, places)) (λ k d h. grind (arith, places))

long_is : (old cells : List ℕ) (head : ℕ) → head ≤ length old → length cells ≡ length old - head →
    length (take head old ++ (cells ++ post_of head (length old - head) old)) ≡ length old
long_is old cells head within long = search (rules, places)

pub fill_bare-requires : goal.fill_bare-requires
fill_bare-requires c =
    let bytes = c.args.bytes.now in
    let head = c.head_bytes-head.result in
    let h : IsBehind bytes c.args.shape head c.in_ok-seen.seen.items = record {
      is_shape = c.requires.shape;
      is_head = c.head_bytes-head.ensures;
      long = omega (arith, c.image_bytes.ensures);
      known = c.in_ok-seen.ensures.0;
      read = c.in_ok-seen.ensures.1;
    } in
    rw (c.deref.ensures.value, rest_is head bytes) (cells_fit bytes c.args.shape head c.in_ok-seen.seen.items h)

pub returns-clause-ok : goal.returns-clause-ok
returns-clause-ok c =
    let bytes = c.args.bytes.now in
    let head = c.head_bytes-head.result in
    let seen = c.in_ok-seen.seen.items in
    let cells = c.fill_bare.new.cells in
    let h : IsBehind bytes c.args.shape head seen = record {
      is_shape = c.requires.shape;
      is_head = c.head_bytes-head.ensures;
      long = omega (arith, c.image_bytes.ensures);
      known = c.in_ok-seen.ensures.0;
      read = c.in_ok-seen.ensures.1;
    } in
    let fit = cells_fit bytes c.args.shape head seen h in
    let within : head ≤ length bytes = omega (arith, h.long, h.is_head) in
    let same : length cells ≡ length bytes - head =
    omega (arith, c.fill_bare.auto.cells, length-take (length bytes - head) (drop head bytes), length-drop head bytes) in
    let filled = rw (c.deref.ensures.value, rest_is head bytes) at c.fill_bare.ensures in
    let new = take head bytes ++ (cells ++ post_of head (length bytes - head) bytes) in
    slots_filled bytes c.args.shape head seen h new (long_is bytes cells head within same)
    (subst (AreFilledAs (cell_bytes c.args.shape.page_bytes) seen (drop head bytes)) (sym (behind_is bytes cells head within same)) filled)
