use Rattle.live_file.proofs.AsImage.{image_made}
use Rattle.live_file.proofs.reading.as_image.Goals as goal

pub returns : goal.returns
returns c =
    image_made c.args.bytes.now c.args.size c.args.count c.in_ok-image.image.items c.add_header.new.image.items
    c.add_states.new.image.items c.add_cells.new.image.items c.requires.size c.in_ok-image.ensures.items
    c.in_ok-add_header.ensures c.in_ok-add_states.ensures c.in_ok-add_cells.ensures
