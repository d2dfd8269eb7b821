use Rattle.durable_folder.proofs.Common.{◌∙◌, sym, AtNow, AllTaken, IsSeen}
use Rattle.durable_folder.proofs.Causing.{cause_later, now_back}
use Rattle.durable_folder.proofs.Leading.{nothing_saved, saved_here, is_a_link, TakenThere, here_taken}
use Rattle.durable_folder.proofs.Learning.{learned_now}
use Rattle.durable_folder.proofs.Linking.{link_not_free, looked_anew}
use Rattle.durable_folder.proofs.saving.save.Goals as goal

pub returns-in_err-found-clause-saves : goal.returns-in_err-found-clause-saves
returns-in_err-found-clause-saves g c =
    nothing_saved (IsSeen c.args.name.now c.stat.result) c.args.name.now c.args.bytes.now c.from_residual.result
    (g.F.Folder.told c.args.folder.now) (g.F.Folder.told c.stat.new.folder) c.from_residual.ensures.0
    c.stat.ensures.looks

pub returns-then-is_link-clause-saves : goal.returns-then-is_link-clause-saves
returns-then-is_link-clause-saves g c =
    let before = g.F.Folder.told c.args.folder.now in
    c.save_through.ensures.saves before (is_a_link c.args.name.now c.in_ok-found.found c.stat.result before
    (g.F.Folder.told c.stat.new.folder)
    c.in_ok-found.was (sym c.is_link.ensures ∙ c.if-is_link.true) c.stat.ensures.looks)

pub returns-clause-saves : goal.returns-clause-saves
returns-clause-saves g c =
    saved_here c.args.name.now c.args.bytes.now c.in_ok-found.found c.stat.result c.save_at.result
    (g.F.Folder.told c.args.folder.now) (g.F.Folder.told c.stat.new.folder) (g.F.Folder.told c.save_at.new.folder)
    c.in_ok-found.was (sym c.is_link.ensures ∙ c.if-is_link.false) c.stat.ensures.looks c.save_at.ensures.saves

pub returns-then-is_link-clause-cause : goal.returns-then-is_link-clause-cause
returns-then-is_link-clause-cause g c =
    let before = g.F.Folder.told c.args.folder.now in
    let found = g.F.Folder.told c.stat.new.folder in
    cause_later (AtNow (TakenThere c.args.name.now) found) (AtNow (TakenThere c.args.name.now) before)
    c.save_through.result before found
    (g.F.Folder.told c.save_through.new.folder) c.stat.ensures.fault.0
    (now_back (TakenThere c.args.name.now) before found c.stat.ensures.looks)
    c.save_through.ensures.cause

pub returns-clause-cause : goal.returns-clause-cause
returns-clause-cause g c =
    let before = g.F.Folder.told c.args.folder.now in
    let found = g.F.Folder.told c.stat.new.folder in
    cause_later (AtNow (AllTaken c.args.name.now) found) (AtNow (TakenThere c.args.name.now) before)
    c.save_at.result before found
    (g.F.Folder.told c.save_at.new.folder) c.stat.ensures.fault.0
    (here_taken c.args.name.now c.in_ok-found.found c.stat.result before found c.in_ok-found.was
    (sym c.is_link.ensures ∙ c.if-is_link.false) c.stat.ensures.looks) c.save_at.ensures.cause

pub returns-then-is_link-clause-anew : goal.returns-then-is_link-clause-anew
returns-then-is_link-clause-anew g c ok =
    let before = g.F.Folder.told c.args.folder.now in
    link_not_free c.args.name.now _ before (learned_now _ before (g.F.Folder.told c.stat.new.folder)
    (is_a_link c.args.name.now c.in_ok-found.found c.stat.result before (g.F.Folder.told c.stat.new.folder)
    c.in_ok-found.was (sym c.is_link.ensures ∙ c.if-is_link.true) c.stat.ensures.looks))

pub returns-clause-anew : goal.returns-clause-anew
returns-clause-anew g c ok =
    looked_anew c.args.name.now c.in_ok-found.found c.stat.result (g.F.Folder.told c.args.folder.now)
    (g.F.Folder.told c.stat.new.folder) (g.F.Folder.told c.save_at.new.folder) c.in_ok-found.was c.stat.ensures.looks
    (λ none. c.save_at.ensures.anew none ok)
