use Rattle.durable_folder.proofs.Common.{refl, Err, IsStale}
use Rattle.durable_folder.proofs.Claiming.{cause_after, claims_after, free_known, looks_rests, nothing_claimed}
use Rattle.durable_folder.proofs.Sighting.{claimed_after, claimed_unseen, nothing_seen}
use Rattle.durable_folder.proofs.locking.claim.Goals as goal

pub returns-in-Ok-Some-clause-claims : goal.returns-in-Ok-Some-clause-claims
returns-in-Ok-Some-clause-claims g c =
    let before = g.F.Folder.told c.args.folder.now in
    let looked = g.F.Folder.told c.stat.new.folder in
    claims_after g.F.Folder.handle c.args.loaded.now c.args.name.now c.claim_there.result before looked
    (g.F.Folder.told c.claim_there.new.folder)
    (looks_rests c.args.name.now c.stat.result before looked c.stat.ensures.looks) c.claim_there.ensures.claims

pub returns-in-Ok-Some-clause-cause : goal.returns-in-Ok-Some-clause-cause
returns-in-Ok-Some-clause-cause g c =
    let before = g.F.Folder.told c.args.folder.now in
    let looked = g.F.Folder.told c.stat.new.folder in
    cause_after (IsStale c.args.loaded.now c.args.name.now) c.claim_there.result before looked
    (g.F.Folder.told c.claim_there.new.folder)
    c.stat.ensures.fault.0 (looks_rests c.args.name.now c.stat.result before looked c.stat.ensures.looks)
    c.claim_there.ensures.cause

pub returns-in-Ok-None-clause-claims : goal.returns-in-Ok-None-clause-claims
returns-in-Ok-None-clause-claims g c =
    let before = g.F.Folder.told c.args.folder.now in
    let looked = g.F.Folder.told c.stat.new.folder in
    nothing_claimed g.F.Folder.handle c.args.loaded.now c.args.name.now c.nothing_there.result before looked
    (free_known c.args.name.now before looked (rw c.in-Ok-None.field-0-is at c.in-Ok-None.ensures.looks))
    c.nothing_there.ensures

pub returns-in-Ok-Some-clause-order : goal.returns-in-Ok-Some-clause-order
returns-in-Ok-Some-clause-order g c =
    let before = g.F.Folder.told c.args.folder.now in
    let looked = g.F.Folder.told c.stat.new.folder in
    claimed_after c.args.name.now c.claim_there.result before looked (g.F.Folder.told c.claim_there.new.folder)
    (looks_rests c.args.name.now c.stat.result before looked c.stat.ensures.looks) c.claim_there.ensures.order

pub returns-in-Ok-None-clause-order : goal.returns-in-Ok-None-clause-order
returns-in-Ok-None-clause-order g c =
    nothing_seen c.args.loaded.now c.args.name.now c.nothing_there.result (g.F.Folder.told c.args.folder.now)
    (g.F.Folder.told c.stat.new.folder)
    c.nothing_there.ensures

pub returns-in-Err-clause-order : goal.returns-in-Err-clause-order
returns-in-Err-clause-order g c =
    claimed_unseen g.F.Folder.handle c.args.name.now (Err c.in-Err.error) (g.F.Folder.told c.args.folder.now)
    (g.F.Folder.told c.stat.new.folder) refl
