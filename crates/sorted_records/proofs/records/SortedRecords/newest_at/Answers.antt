-- The record at the place has the name.
use Rattle.sorted_records.proofs.Common.{◌≡◌, length, get_or, ap, ◌∙◌, arith, position-Some, get_or_default, has_name, has_name_true, nothing, Link, Found}
use Rattle.record_list.specs.Verdict.{newest_name}
use Rattle.sorted_records.proofs.records.SortedRecords.newest_at.Goals as goal

pub returns : goal.returns
returns c =
    let now = c.args.self.now in
    let name = newest_name now c.args.page in
    let named = position-Some (λ f. has_name name f.rec) now c.args.place nothing c.requires in
    let long = ap length c.self.view_is in
    let item = c.index.ensures
    ∙ get_or_default c.self.inside.records.items c.args.place c.index.result.now nothing
    (let within = named.0 in omega arith) in
    ap (λ (f : Found). f.rec.version) (rw c.self.view_is at item)
    ∙ ap (λ (u : Link). u.version) (has_name_true name (get_or now c.args.place nothing).rec named.1)
