use Rattle.std.proofs.Common.{◌≡◌, length}
use Rattle.list_flash.specs.ListFlash.{list_flash_of}
use Rattle.list_flash.proofs.Operating.{reads_ok}
use Rattle.list_flash.proofs.Shown.{contents_are, IsWhole-contents}
use Rattle.list_flash.proofs.list_flash.ListFlashFlash.read.Goals as goal

pub show_at-requires-clause-whole : goal.show_at-requires-clause-whole
show_at-requires-clause-whole c =
    let f = c.self.inside in
    let exists = rw (← c.self.view_is) at c.requires.exists in
    let page : length c.args.into.now ≡ f.shape.page_bytes = rw (← c.self.view_is) at c.requires.page in
    rw (c.deref.ensures.value, page)
    (IsWhole-contents f.shape f.list.items f.programs f.erases c.args.at.0 c.self.invariant.done exists)

pub returns-clause-reads : goal.returns-clause-reads
returns-clause-reads c =
    let f = c.self.inside in
    let exists = rw (← c.self.view_is) at c.requires.exists in
    let page : length c.args.into.now ≡ f.shape.page_bytes = rw (← c.self.view_is) at c.requires.page in
    let are = contents_are f.shape f.list.items f.programs f.erases c.args.at.0 c.self.invariant.done exists in
    let shows = rw (c.deref.ensures.value, page, are) at c.show_at.ensures in
    rw (← c.self.view_is)
    (reads_ok (list_flash_of f) c.saturating_add-self-inside.result c.args.at.0 c.show_at.result c.show_at.new.into
    c.show_at.new.spare_area c.saturating_add-self-inside.ensures shows)
