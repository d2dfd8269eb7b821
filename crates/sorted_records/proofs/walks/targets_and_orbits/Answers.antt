-- Each record is of the newest version of its page, or the newest are found.
use Rattle.sorted_records.proofs.Common.{◌≡◌, ◌∙◌, link_graph}
use Rattle.sorted_records.proofs.OfWalk.WalkOrbits.{link_graph_is, kept_links}
use Rattle.sorted_records.proofs.OfGroup.OneVersion.{one_version, own_links}
use Rattle.sorted_records.proofs.walks.targets_and_orbits.Goals as goal

pub from_lone_nodes-requires-clause-graph : goal.from_lone_nodes-requires-clause-graph
from_lone_nodes-requires-clause-graph c =
    let l = c.args.records.now in
    let one = one_version l c.requires.order (c.requires.names.one_version c.if-names.true) in
    let graph : c.in_ok-targets.field-0.targets.items ≡ link_graph l = c.in_ok-targets.ensures.targets
    ∙ own_links l one in
    rw (c.deref.ensures.value, graph) (link_graph_is l)

pub returns-then-names-clause-orbits : goal.returns-then-names-clause-orbits
returns-then-names-clause-orbits c =
    let l = c.args.records.now in
    let one = one_version l c.requires.order (c.requires.names.one_version c.if-names.true) in
    let graph : c.in_ok-targets.field-0.targets.items ≡ link_graph l = c.in_ok-targets.ensures.targets
    ∙ own_links l one in
    rw (c.deref.ensures.value, graph) at c.in_ok-orbits.ensures

pub from_lone_nodes-requires-2-clause-graph : goal.from_lone_nodes-requires-2-clause-graph
from_lone_nodes-requires-2-clause-graph c =
    let l = c.args.records.now in
    let graph : c.in_ok-targets-2.field-0.links.items ≡ link_graph l =
    (rw c.in_ok-targets-2.ensures.targets at c.in_ok-targets-2.ensures.links) ∙ kept_links l in
    rw (c.deref-2.ensures.value, graph) (link_graph_is l)

pub returns-clause-orbits : goal.returns-clause-orbits
returns-clause-orbits c =
    let l = c.args.records.now in
    let graph : c.in_ok-targets-2.field-0.links.items ≡ link_graph l =
    (rw c.in_ok-targets-2.ensures.targets at c.in_ok-targets-2.ensures.links) ∙ kept_links l in
    rw (c.deref-2.ensures.value, graph) at c.in_ok-orbits-2.ensures
