use Rattle.durable_folder.proofs.Common.{◌∙◌, inl, refl, sym, Err, AtNow, AllTaken}
use Rattle.durable_folder.specs.Causes.{IsNamed}
use Rattle.durable_folder.specs.Renewing.{HasSame}
use Rattle.durable_folder.proofs.Causing.{cause_later, fault_cause, later_then, named_not_found, then_failed, turn_later}
use Rattle.durable_folder.proofs.Filling.{finds_still}
use Rattle.durable_folder.proofs.Learning.{rests_then}
use Rattle.durable_folder.proofs.Renewals.{compared_same, failed_saves, found_at, keeps_after, locked_saves, no_lock, none_saved, not_first, not_so, rests_back, rests_now, so_first}
use Rattle.durable_folder.proofs.renewing.save_locked.Goals as goal

pub returns-in_err-has_name-clause-saves : goal.returns-in_err-has_name-clause-saves
returns-in_err-has_name-clause-saves g c =
    failed_saves g.F.Folder.handle c.args.name.now c.args.bytes.now c.from_residual.result (g.F.Folder.told c.args.folder.now)
    (g.F.Folder.told c.has_name.new.folder) c.from_residual.ensures.0 c.has_name.ensures.rests

pub returns-then-not-branch-clause-saves : goal.returns-then-not-branch-clause-saves
returns-then-not-branch-clause-saves g c =
    failed_saves g.F.Folder.handle c.args.name.now c.args.bytes.now (Err c.from.result) (g.F.Folder.told c.args.folder.now)
    (g.F.Folder.told c.has_name.new.folder) refl c.has_name.ensures.rests

pub returns-in_err-found-clause-saves : goal.returns-in_err-found-clause-saves
returns-in_err-found-clause-saves g c =
    let before = g.F.Folder.told c.args.folder.now in
    let looked = g.F.Folder.told c.has_name.new.folder in
    let found = g.F.Folder.told c.find.new.self in
    failed_saves g.F.Folder.handle c.args.name.now c.args.bytes.now c.from_residual-in_err-found.result before found
    c.from_residual-in_err-found.ensures.0
    (rests_then before looked found c.has_name.ensures.rests
    (finds_still c.args.name.now c.find.result _ looked found c.find.ensures))

pub returns-in-Some-clause-saves : goal.returns-in-Some-clause-saves
returns-in-Some-clause-saves g c =
    let before = g.F.Folder.told c.args.folder.now in
    let looked = g.F.Folder.told c.has_name.new.folder in
    let found = g.F.Folder.told c.find.new.self in
    locked_saves c.args.name.now c.args.bytes.now c.in_ok-found.found c.in-Some.owner c.renew.result before found
    (g.F.Folder.told c.renew.new.folder) c.in-Some.ensures
    (found_at c.args.name.now c.in_ok-found.found before looked found c.has_name.ensures.rests c.in_ok-found.ensures)
    c.renew.ensures.replaces

pub returns-in-None-clause-saves : goal.returns-in-None-clause-saves
returns-in-None-clause-saves g c =
    let before = g.F.Folder.told c.args.folder.now in
    let looked = g.F.Folder.told c.has_name.new.folder in
    let found = g.F.Folder.told c.find.new.self in
    none_saved g.F.Folder.handle c.args.name.now c.args.bytes.now c.in_ok-found.found before found c.in-None.ensures
    (found_at c.args.name.now c.in_ok-found.found before looked found c.has_name.ensures.rests c.in_ok-found.ensures)

pub returns-in_err-has_name-clause-keeps : goal.returns-in_err-has_name-clause-keeps
returns-in_err-has_name-clause-keeps g c =
    no_lock g.F.Folder.handle c.args.name.now c.args.bytes.now (g.F.Folder.handle c.args.held.now)
    c.from_residual.result (g.F.Folder.told c.args.folder.now) (g.F.Folder.told c.has_name.new.folder)
    c.from_residual.ensures.0

pub returns-in_err-found-clause-keeps : goal.returns-in_err-found-clause-keeps
returns-in_err-found-clause-keeps g c =
    no_lock g.F.Folder.handle c.args.name.now c.args.bytes.now (g.F.Folder.handle c.args.held.now)
    c.from_residual-in_err-found.result (g.F.Folder.told c.args.folder.now) (g.F.Folder.told c.find.new.self)
    c.from_residual-in_err-found.ensures.0

pub returns-in-Some-clause-keeps : goal.returns-in-Some-clause-keeps
returns-in-Some-clause-keeps g c =
    let before = g.F.Folder.told c.args.folder.now in
    let looked = g.F.Folder.told c.has_name.new.folder in
    let found = g.F.Folder.told c.find.new.self in
    keeps_after g.F.Folder.handle c.args.name.now c.args.bytes.now (g.F.Folder.handle c.args.held.now)
    c.renew.result before found (g.F.Folder.told c.renew.new.folder)
    (rests_then before looked found c.has_name.ensures.rests
    (finds_still c.args.name.now c.find.result _ looked found c.find.ensures)) c.renew.ensures.keeps

pub returns-in_err-has_name-clause-refuses : goal.returns-in_err-has_name-clause-refuses
returns-in_err-has_name-clause-refuses g c =
    so_first _ _ (g.F.Folder.told c.args.folder.now) (c.from_residual.ensures.0, c.has_name.ensures.rests)

pub returns-then-not-branch-clause-refuses : goal.returns-then-not-branch-clause-refuses
returns-then-not-branch-clause-refuses g c =
    so_first _ _ (g.F.Folder.told c.args.folder.now) (refl, c.has_name.ensures.rests)

pub returns-in_err-found-clause-refuses : goal.returns-in_err-found-clause-refuses
returns-in_err-found-clause-refuses g c =
    let old = g.F.Folder.handle c.args.held.now in
    not_first (HasSame old.file c.args.name.now) _ (g.F.Folder.told c.args.folder.now)
    (compared_same old c.args.name.now c.in_ok-has_name.field-0 (g.F.Folder.told c.args.folder.now)
    (g.F.Folder.told c.has_name.new.folder) c.if-not-branch.false c.in_ok-has_name.ensures.looks)

pub returns-in-Some-clause-refuses : goal.returns-in-Some-clause-refuses
returns-in-Some-clause-refuses g c =
    let old = g.F.Folder.handle c.args.held.now in
    not_first (HasSame old.file c.args.name.now) _ (g.F.Folder.told c.args.folder.now)
    (compared_same old c.args.name.now c.in_ok-has_name.field-0 (g.F.Folder.told c.args.folder.now)
    (g.F.Folder.told c.has_name.new.folder) c.if-not-branch.false c.in_ok-has_name.ensures.looks)

pub returns-in-None-clause-refuses : goal.returns-in-None-clause-refuses
returns-in-None-clause-refuses g c =
    let old = g.F.Folder.handle c.args.held.now in
    not_first (HasSame old.file c.args.name.now) _ (g.F.Folder.told c.args.folder.now)
    (compared_same old c.args.name.now c.in_ok-has_name.field-0 (g.F.Folder.told c.args.folder.now)
    (g.F.Folder.told c.has_name.new.folder) c.if-not-branch.false c.in_ok-has_name.ensures.looks)

pub returns-in_err-found-clause-later : goal.returns-in_err-found-clause-later
returns-in_err-found-clause-later g c =
    let looked = g.F.Folder.told c.has_name.new.folder in
    let found = g.F.Folder.told c.find.new.self in
    later_then (g.F.Folder.told c.args.folder.now) looked found c.has_name.ensures.later
    (turn_later _ _ looked found c.find.ensures)

pub returns-in-Some-clause-later : goal.returns-in-Some-clause-later
returns-in-Some-clause-later g c =
    let before = g.F.Folder.told c.args.folder.now in
    let looked = g.F.Folder.told c.has_name.new.folder in
    let found = g.F.Folder.told c.find.new.self in
    later_then before found (g.F.Folder.told c.renew.new.folder)
    (later_then before looked found c.has_name.ensures.later (turn_later _ _ looked found c.find.ensures))
    c.renew.ensures.later

pub returns-in-None-clause-later : goal.returns-in-None-clause-later
returns-in-None-clause-later g c =
    let looked = g.F.Folder.told c.has_name.new.folder in
    let found = g.F.Folder.told c.find.new.self in
    later_then (g.F.Folder.told c.args.folder.now) looked found c.has_name.ensures.later
    (turn_later _ _ looked found c.find.ensures)

pub returns-in_err-has_name-clause-cause : goal.returns-in_err-has_name-clause-cause
returns-in_err-has_name-clause-cause g c named =
    let before = g.F.Folder.told c.args.folder.now in
    let looked = g.F.Folder.told c.has_name.new.folder in
    fault_cause _ c.from_residual.result before looked (
      c.has_name.ensures.later,
      λ err. not_so c.has_name.result before looked
          (λ is_so. let both = sym c.in_err-has_name.was ∙ is_so in absurd (cc)) (c.has_name.ensures.named named),
    )

pub returns-then-not-branch-clause-cause : goal.returns-then-not-branch-clause-cause
returns-then-not-branch-clause-cause g c named =
    let before = g.F.Folder.told c.args.folder.now in
    let looked = g.F.Folder.told c.has_name.new.folder in (
      c.has_name.ensures.later,
      inl (not_so c.has_name.result before looked
          (λ is_so. let both = sym c.in_ok-has_name.was ∙ is_so in absurd (cc)) (c.has_name.ensures.named named)),
    )

pub returns-in_err-found-clause-cause : goal.returns-in_err-found-clause-cause
returns-in_err-found-clause-cause g c named =
    let before = g.F.Folder.told c.args.folder.now in
    let looked = g.F.Folder.told c.has_name.new.folder in
    let found = g.F.Folder.told c.find.new.self in
    let held = (g.F.Folder.handle c.args.held.now).file in
    fault_cause _ c.from_residual-in_err-found.result before found (
      later_then before looked found c.has_name.ensures.later (turn_later _ _ looked found c.find.ensures),
      λ err. then_failed before looked found c.has_name.ensures.later
          (named_not_found c.args.name.now held c.in_err-found.field-0.0 looked found
          (rests_now (IsNamed held c.args.name.now) before looked c.has_name.ensures.rests named)
          c.in_err-found.ensures),
    )

pub returns-in-Some-clause-cause : goal.returns-in-Some-clause-cause
returns-in-Some-clause-cause g c named =
    let before = g.F.Folder.told c.args.folder.now in
    let looked = g.F.Folder.told c.has_name.new.folder in
    let found = g.F.Folder.told c.find.new.self in
    let held = (g.F.Folder.handle c.args.held.now).file in
    let taken = AllTaken c.args.name.now in
    let rests = rests_then before looked found c.has_name.ensures.rests
    (finds_still c.args.name.now c.find.result _ looked found c.find.ensures) in
    cause_later (AtNow taken found) (AtNow taken before) c.renew.result before found
    (g.F.Folder.told c.renew.new.folder)
    (later_then before looked found c.has_name.ensures.later (turn_later _ _ looked found c.find.ensures))
    (rests_back taken before found rests)
    (c.renew.ensures.cause (rests_now (IsNamed held c.args.name.now) before found rests named))
