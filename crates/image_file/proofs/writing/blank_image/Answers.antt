mod BlankLemmas
use Rattle.image_file.proofs.Common.{length, ap, arith, Extras, header_of}
use Rattle.image_file.proofs.writing.blank_image.Answers.BlankLemmas.{blank_parts, checked_shape, IsImage-blank}
use Rattle.image_file.proofs.HeaderLemmas.{length-header_of}
use Rattle.image_file.proofs.SpellingLemmas.{written}
use Rattle.image_file.proofs.writing.blank_image.Goals as goal

pub image_bytes-requires : goal.image_bytes-requires
image_bytes-requires c = checked_shape c.args.config.now c.args.shape c.requires.checks

pub head_bytes-requires : goal.head_bytes-requires
head_bytes-requires c = checked_shape c.args.config.now c.args.shape c.requires.checks

pub image_bytes-requires-2 : goal.image_bytes-requires-2
image_bytes-requires-2 c = checked_shape c.args.config.now c.args.shape c.requires.checks

pub returns : goal.returns
returns c =
    let extras : Extras = record { allowance = c.args.allowance; retired = 0 } in
    let header = rw (c.in_ok-bytes.ensures.items, c.header_of.ensures) at c.in_ok-extend_from_slice.ensures.items in
    let states = rw (header, c.state.ensures) at c.in_ok-resize.ensures.items in
    written c.resize-2.new.self.items c.args.config.now c.args.shape _ extras c.requires.checks
    (IsImage-blank c.args.shape (checked_shape c.args.config.now c.args.shape c.requires.checks)) (omega arith)
    c.requires.few
    (blank_parts (header_of c.args.config.now extras) c.resize.new.self.items c.resize-2.new.self.items
    c.head_bytes.result c.image_bytes-2.result
    _ _ c.args.shape (length-header_of c.args.config.now extras (omega arith)) c.head_bytes.ensures
    c.image_bytes-2.ensures (omega (arith, ap length header))
    (omega arith)
    states c.in_ok-resize-2.ensures.items)
