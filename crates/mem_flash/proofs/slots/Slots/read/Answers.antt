use Rattle.mem_flash.proofs.Common.{arith, rules}
use Rattle.mem_flash.proofs.Kept.{cell_within, seen_of-slot, page_of-slot, spare_area_of-slot}
use Rattle.mem_flash.proofs.slots.Slots.read.Goals as goal

pub cell_at-cell-requires : goal.cell_at-cell-requires
cell_at-cell-requires c =
    let below = rw (← c.self.view_is) at c.requires.exists in
    rw (c.cell_bytes.ensures, c.deref.ensures.value)
    (omega (arith, cell_within c.self.inside c.self.invariant c.args.at.0 below))

pub returns : goal.returns
returns c =
    let below = rw (← c.self.view_is) at c.requires.exists in
    let page = rw (← c.self.view_is) at c.requires.page in
    let its_page = page_of-slot c.self.inside c.self.invariant c.args.at.0 below in
    let its_spare_area = spare_area_of-slot c.self.inside c.self.invariant c.args.at.0 below in
    rw (← c.self.view_is)
    (record {
      how_it_reads = seen_of-slot c.self.inside c.self.invariant c.args.at.0 below _ (search rules);
      its_page = cc;
      its_spare_area = cc;
    })
