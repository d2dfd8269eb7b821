use Rattle.durable_folder.proofs.Common.{refl, Err, AtNow, IsStale}
use Rattle.durable_folder.proofs.Causing.{cause_later}
use Rattle.durable_folder.proofs.Claiming.{claimed_first, held_cause, taken_back}
use Rattle.durable_folder.proofs.Leading.{nothing_saved, saves_after, TakenThere}
use Rattle.durable_folder.proofs.Learning.{rests_known}
use Rattle.durable_folder.proofs.Linking.{first_anew}
use Rattle.durable_folder.proofs.locking.save_held.Goals as goal

pub returns-in-Ok-clause-saves : goal.returns-in-Ok-clause-saves
returns-in-Ok-clause-saves g c =
    saves_after _ c.args.name.now c.args.bytes.now c.save_claimed.result (g.F.Folder.told c.args.folder.now)
    (g.F.Folder.told c.claim.new.folder)
    (g.F.Folder.told c.save_claimed.new.folder) c.in-Ok.ensures.claims c.save_claimed.ensures.saves

pub returns-in-Ok-clause-refuses : goal.returns-in-Ok-clause-refuses
returns-in-Ok-clause-refuses g c =
    claimed_first g.F.Folder.handle c.args.loaded.now c.args.name.now c.in-Ok.file _ (g.F.Folder.told c.args.folder.now)
    (g.F.Folder.told c.claim.new.folder) c.in-Ok.ensures.claims

pub returns-in-Ok-clause-cause : goal.returns-in-Ok-clause-cause
returns-in-Ok-clause-cause g c =
    let before = g.F.Folder.told c.args.folder.now in
    let claimed = g.F.Folder.told c.claim.new.folder in
    let last = g.F.Folder.told c.save_claimed.new.folder in
    let there = TakenThere c.args.name.now in
    held_cause (AtNow there before) (IsStale c.args.loaded.now c.args.name.now) c.save_claimed.result before last
    (cause_later (AtNow there claimed) (AtNow there before) c.save_claimed.result before claimed last
    c.in-Ok.ensures.cause.0
    (taken_back _ there before claimed c.in-Ok.ensures.claims) c.save_claimed.ensures.cause)

pub returns-in-Err-clause-saves : goal.returns-in-Err-clause-saves
returns-in-Err-clause-saves g c =
    let before = g.F.Folder.told c.args.folder.now in
    let after = g.F.Folder.told c.claim.new.folder in
    nothing_saved (λ s. Unit {0}) c.args.name.now c.args.bytes.now (Err c.in-Err.error) before after refl
    (rests_known before after c.in-Err.ensures.claims)

pub returns-in-Ok-clause-order : goal.returns-in-Ok-clause-order
returns-in-Ok-clause-order g c ok = (
  g.F.Folder.told c.claim.new.folder,
  rw (c.save_claimed.ensures.keeps ok) c.in-Ok.ensures.order,
  rw ok at c.save_claimed.ensures.saves,
)

pub returns-in-Ok-clause-anew : goal.returns-in-Ok-clause-anew
returns-in-Ok-clause-anew g c ok =
    first_anew c.args.name.now (g.F.Folder.told c.args.folder.now) (g.F.Folder.told c.claim.new.folder)
    (g.F.Folder.told c.save_claimed.new.folder) c.in-Ok.ensures.claims (c.save_claimed.ensures.anew ok)
