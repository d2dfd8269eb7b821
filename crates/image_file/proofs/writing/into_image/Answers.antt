use Rattle.image_file.proofs.Common.{◌≡◌, ◌++◌, length, ap, ◌∙◌, arith, flat_map, cell_of}
use Rattle.std.proofs.lemmas.List.{with_items_is}
use Rattle.image_file.proofs.SpellingLemmas.{written}
use Rattle.image_file.proofs.writing.into_image.Goals as goal

pub returns : goal.returns
returns c =
    let whole = with_items_is c.in_ok-bytes.bytes c.write_head.new.bytes (omega arith) in
    let head = c.in_ok-head.head.items in
    let long : c.len.result ≡ length head = omega arith in
    let cells = rw long at c.in_ok-bytes.ensures.cells in
    let over = rw (c.deref_mut.ensures.value, c.deref.ensures.value, cells) at c.write_head.ensures in
    let bounds = c.in_ok-head.ensures.bounds in
    written _ c.args.config.now c.args.flash.shape c.args.flash.image c.args.flash.extras c.requires bounds.0
    bounds.1 bounds.2
    (whole ∙ over ∙ ap (λ front. front ++ flat_map (cell_of c.args.flash.shape.page_bytes) c.args.flash.image)
    c.in_ok-head.ensures.head)
