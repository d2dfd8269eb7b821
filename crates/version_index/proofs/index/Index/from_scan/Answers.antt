use Rattle.version_index.proofs.index.Index.from_scan.Goals as goal

pub from_current_versions-requires-clause-scan : goal.from_current_versions-requires-clause-scan
from_current_versions-requires-clause-scan g c = (
  c.args.list.now,
  record {
    reads = c.requires.seen;
    complete = c.requires.complete;
    slots = c.requires.scanned;
    sound = c.requires.sound;
    sorts = c.in_ok-standing.ensures.sorts;
  },
)

pub returns : goal.returns
returns g c = c.from_current_versions.ensures c.args.list.now (record {
  reads = c.requires.seen;
  complete = c.requires.complete;
  slots = c.requires.scanned;
  sound = c.requires.sound;
  sorts = c.in_ok-standing.ensures.sorts;
})
