use Rattle.scan_recovery.proofs.Common.{All, Found, CurrentIsPresent, LinkHasCounted, LooseIsShown, LooseEnds, LinksDiffer, all_from}
use Rattle.scan_recovery.proofs.OfLaws.LawsAlike.{all_back}
use Rattle.scan_recovery.proofs.OfLaws.LeastBreaches.{least_links, sound_list}
use Rattle.scan_recovery.proofs.OfLinks.OwnLinks.{own_links_differ}
use Rattle.scan_recovery.proofs.audit.first_breach.Goals as goal

pub returns-in-Some : goal.returns-in-Some
returns-in-Some c =
    let s = c.args.standing.now in
    let r = c.requires in
    least_links s.protocol c.args.list.now s.list s.logical r.scanned r.sorts r.pages r.copies c.in-Some.slot
    (rw c.in-Some.is at c.in_ok-slot.ensures)

pub returns-then-kept : goal.returns-then-kept
returns-then-kept c =
    let s = c.args.standing.now in
    let list = c.args.list.now in
    let r = c.requires in
    let all = r.kept c.if-kept.true in
    let kept = all.laws in
    let back = (λ (P : Found → Type 0) (all : All P s.list). all_back list s.list r.sorts P all) in
    sound_list s.protocol list s.list s.logical r.scanned r.sorts r.pages r.copies
    (all_from (LinksDiffer list) list (own_links_differ list s.list r.sorts all.links))
    (back (CurrentIsPresent s.protocol s.list s.logical) (λ k d within. (kept k d within).present))
    (back (LinkHasCounted s.protocol s.list s.logical) (λ k d within. (kept k d within).counted))
    (back (LooseIsShown s.protocol s.list s.logical) (λ k d within. (kept k d within).shown))
    (back (LooseEnds s.protocol s.list s.logical) (λ k d within. (kept k d within).ends))
