-- The list that stands is that of the sorted records.
use Rattle.scan_recovery.proofs.opening.open_tables.Goals as goal

pub open_current_versions-requires-clause-complete : goal.open_current_versions-requires-clause-complete
open_current_versions-requires-clause-complete g c = rw c.in_ok-standing.ensures c.requires.complete

pub open_current_versions-requires-clause-scanned : goal.open_current_versions-requires-clause-scanned
open_current_versions-requires-clause-scanned g c = rw c.in_ok-standing.ensures c.requires.scanned

pub open_current_versions-requires-clause-pages : goal.open_current_versions-requires-clause-pages
open_current_versions-requires-clause-pages g c = rw c.in_ok-standing.ensures c.requires.pages

pub open_current_versions-requires-clause-copies : goal.open_current_versions-requires-clause-copies
open_current_versions-requires-clause-copies g c = rw c.in_ok-standing.ensures c.requires.copies

pub open_current_versions-requires-clause-sorts : goal.open_current_versions-requires-clause-sorts
open_current_versions-requires-clause-sorts g c = rw c.in_ok-standing.ensures c.requires.sorts

pub returns-clause-sound : goal.returns-clause-sound
returns-clause-sound g c = rw c.in_ok-standing.ensures at c.open_current_versions.ensures.sound

pub returns-clause-tables : goal.returns-clause-tables
returns-clause-tables g c = rw c.in_ok-standing.ensures at c.open_current_versions.ensures.tables

pub returns-clause-unsound : goal.returns-clause-unsound
returns-clause-unsound g c = rw c.in_ok-standing.ensures at c.open_current_versions.ensures.unsound
