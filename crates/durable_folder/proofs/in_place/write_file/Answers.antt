use Rattle.durable_folder.proofs.Common.{◌∙◌, length}
use Rattle.durable_folder.proofs.Overwriting.{head_cleared, not_cleared, rest_put, rest_not_put, head_put}
use Rattle.durable_folder.proofs.in_place.write_file.Goals as goal

pub returns-in_err-clear_head-clause-writes : goal.returns-in_err-clear_head-clause-writes
returns-in_err-clear_head-clause-writes g c start =
    let file = g.F.Folder.handle c.args.file.now in
    let before = g.F.Folder.told c.args.folder.now in
    let clear = g.F.Folder.told c.clear_head.new.folder in
    not_cleared file c.args.bytes.now c.clear_head.result c.from_residual.result before clear c.from_residual.ensures.0
    (head_cleared file c.args.bytes.now c.clear_head.result before clear (c.clear_head.ensures.clears start))

pub returns-in_err-write_rest-clause-writes : goal.returns-in_err-write_rest-clause-writes
returns-in_err-write_rest-clause-writes g c start =
    let file = g.F.Folder.handle c.args.file.now in
    let head = length c.split_at.result.0.now in
    let before = g.F.Folder.told c.args.folder.now in
    let clear = g.F.Folder.told c.clear_head.new.folder in
    let rest = g.F.Folder.told c.write_rest.new.folder in
    rest_not_put file head c.args.bytes.now c.write_rest.result c.from_residual-in_err-write_rest.result before rest
    c.from_residual-in_err-write_rest.ensures.0
    (rest_put file (g.F.Folder.handle c.clear_head.new.file) head c.args.bytes.now c.clear_head.result
    c.write_rest.result before clear rest
    c.clear_head.ensures.same
    c.in_ok-clear_head.was
    (head_cleared file c.args.bytes.now c.clear_head.result before clear (c.clear_head.ensures.clears start))
    (c.write_rest.ensures.writes c.args.bytes.now (c.split_at.ensures.front_len ∙ c.min.ensures)
    (rw (← c.split_at.ensures.front_len) at c.split_at.ensures.back)))

pub returns-clause-writes : goal.returns-clause-writes
returns-clause-writes g c start =
    let file = g.F.Folder.handle c.args.file.now in
    let head = length c.split_at.result.0.now in
    let before = g.F.Folder.told c.args.folder.now in
    let clear = g.F.Folder.told c.clear_head.new.folder in
    let rest = g.F.Folder.told c.write_rest.new.folder in
    head_put file (g.F.Folder.handle c.write_rest.new.file) head c.args.bytes.now c.write_rest.result
    c.write_head.result before rest
    (g.F.Folder.told c.write_head.new.folder)
    (c.write_rest.ensures.same ∙ c.clear_head.ensures.same) c.in_ok-write_rest.was
    (rest_put file (g.F.Folder.handle c.clear_head.new.file) head c.args.bytes.now c.clear_head.result
    c.write_rest.result before clear rest
    c.clear_head.ensures.same
    c.in_ok-clear_head.was
    (head_cleared file c.args.bytes.now c.clear_head.result before clear (c.clear_head.ensures.clears start))
    (c.write_rest.ensures.writes c.args.bytes.now (c.split_at.ensures.front_len ∙ c.min.ensures)
    (rw (← c.split_at.ensures.front_len) at c.split_at.ensures.back)))
    (c.write_head.ensures.writes c.args.bytes.now (c.split_at.ensures.front_len ∙ c.min.ensures)
    (rw (← c.split_at.ensures.front_len) at c.split_at.ensures.front))
