use Rattle.image_file.proofs.Common.{sym, ◌∙◌, arith}
use Rattle.image_file.proofs.BehindLemmas.{IsBehind, cells_fit, rest_is, slots_read}
use Rattle.image_file.proofs.image.read_slots.Goals as goal

pub wrong_bytes-requires : goal.wrong_bytes-requires
wrong_bytes-requires c =
    let bytes = c.args.bytes.now in
    let head = c.head_bytes-head.result in
    let h : IsBehind bytes c.args.shape head c.in_ok-seen.seen.items = record {
      is_shape = c.requires.shape;
      is_head = c.head_bytes-head.ensures;
      long = omega (arith, c.image_bytes.ensures);
      known = c.in_ok-seen.ensures.0;
      read = c.in_ok-seen.ensures.1;
    } in
    rw (c.deref.ensures.value, rest_is head bytes) (cells_fit bytes c.args.shape head c.in_ok-seen.seen.items h)

pub returns-clause-ok : goal.returns-clause-ok
returns-clause-ok c =
    let bytes = c.args.bytes.now in
    let head = c.head_bytes-head.result in
    let seen = c.in_ok-seen.seen.items in
    let h : IsBehind bytes c.args.shape head seen = record {
      is_shape = c.requires.shape;
      is_head = c.head_bytes-head.ensures;
      long = omega (arith, c.image_bytes.ensures);
      known = c.in_ok-seen.ensures.0;
      read = c.in_ok-seen.ensures.1;
    } in
    let tested = rw (c.deref.ensures.value, rest_is head bytes) at c.wrong_bytes.ensures.first in
    slots_read bytes c.args.shape head seen h (sym tested ∙ c.in_default.is)
