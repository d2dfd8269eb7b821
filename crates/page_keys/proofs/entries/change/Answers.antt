use Rattle.page_keys.proofs.OfBucket.EntryLists.{set_found, remove_found, insert_gap, gap_stays}
use Rattle.page_keys.proofs.entries.change.Goals as goal

pub returns-in-Some : goal.returns-in-Some
returns-in-Some c =
    let found = rw c.deref.ensures.value at c.in-Ok.ensures.found in
    rw (c.copy.ensures, c.copy-in-Some.ensures, c.in-Some.is, ← c.as_slice-key.ensures.bytes)
    (set_found c.args.entries.now.items c.as_slice-key.result.now c.in-Ok.at c.in-Some.value found)

pub returns-in-None : goal.returns-in-None
returns-in-None c =
    let found = rw c.deref.ensures.value at c.in-Ok.ensures.found in
    rw (c.remove.ensures.items, c.in-None.is, ← c.as_slice-key.ensures.bytes)
    (remove_found c.args.entries.now.items c.as_slice-key.result.now c.in-Ok.at found c.requires)

pub returns-in_ok-insert-in-Err : goal.returns-in_ok-insert-in-Err
returns-in_ok-insert-in-Err c =
    let gap = rw c.deref.ensures.value at c.in-Err.ensures.gap in
    rw (
      c.in_ok-insert-in-Err.ensures.items,
      c.copy-in-Some-value.ensures,
      c.copy-in-Some-value-2.ensures,
      c.in-Some-value.is,
      ← c.as_slice-key.ensures.bytes,
    )
    (insert_gap c.args.entries.now.items c.as_slice-key.result.now c.in-Err.at
    c.in-Some-value.value gap)

pub returns-in_default : goal.returns-in_default
returns-in_default c =
    let gap = rw c.deref.ensures.value at c.in-Err.ensures.gap in
    rw (c.in_default.is, ← c.as_slice-key.ensures.bytes)
    (gap_stays c.args.entries.now.items c.as_slice-key.result.now c.in-Err.at gap c.requires)
