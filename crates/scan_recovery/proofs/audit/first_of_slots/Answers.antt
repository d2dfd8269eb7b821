use Rattle.scan_recovery.proofs.OfLaws.LeastBreaches.{least_current, least_counted, least_loose, least_ending, sound_list}
use Rattle.scan_recovery.proofs.audit.first_of_slots.Goals as goal

pub returns-in-Some : goal.returns-in-Some
returns-in-Some c =
    let s = c.args.standing.now in
    let r = c.requires in
    rw c.breach_at.ensures
    (least_current s.protocol c.args.list.now s.list s.logical r.scanned r.sorts r.pages r.copies c.in-Some.at r.links
    c.in-Some.ensures)

pub returns-in-Some-first_early_link : goal.returns-in-Some-first_early_link
returns-in-Some-first_early_link c =
    let s = c.args.standing.now in
    let r = c.requires in
    rw c.breach_at-in-Some-first_early_link.ensures
    (least_counted s.protocol c.args.list.now s.list s.logical r.scanned r.sorts r.pages r.copies r.links
    c.in_default.ensures
    c.in-Some-first_early_link.at c.in-Some-first_early_link.ensures)

pub returns-in-Some-first_unshown : goal.returns-in-Some-first_unshown
returns-in-Some-first_unshown c =
    let s = c.args.standing.now in
    let r = c.requires in
    rw c.breach_at-in-Some-first_unshown.ensures
    (least_loose s.protocol c.args.list.now s.list s.logical r.scanned r.sorts r.pages r.copies r.links
    c.in_default.ensures
    c.in_default-first_early_link.ensures c.in-Some-first_unshown.at c.in-Some-first_unshown.ensures)

pub returns-in-Some-first_endless : goal.returns-in-Some-first_endless
returns-in-Some-first_endless c =
    let s = c.args.standing.now in
    let r = c.requires in
    rw c.breach_at-in-Some-first_endless.ensures
    (least_ending s.protocol c.args.list.now s.list s.logical r.scanned r.sorts r.pages r.copies r.links
    c.in_default.ensures
    c.in_default-first_early_link.ensures c.in_default-first_unshown.ensures c.in-Some-first_endless.at c.in-Some-first_endless.ensures)

pub returns : goal.returns
returns c =
    let s = c.args.standing.now in
    let r = c.requires in
    sound_list s.protocol c.args.list.now s.list s.logical r.scanned r.sorts r.pages r.copies r.links
    c.in_default.ensures
    c.in_default-first_early_link.ensures c.in_default-first_unshown.ensures c.in_default-first_endless.ensures
