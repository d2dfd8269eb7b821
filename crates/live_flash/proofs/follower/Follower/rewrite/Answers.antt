use Rattle.live_flash.proofs.OfTold.{kept_synced, cleared_told, cleared_loses_told}
use Rattle.live_flash.proofs.follower.Follower.rewrite.Goals as goal

pub returns-clause-kept : goal.returns-clause-kept
returns-clause-kept g c = λ head f.
    kept_synced c.args.memory.now.shape (g.S.Store.told c.write_anew.new.self.store) (g.S.Store.told c.sync.new.self)
    head c.sync.result c.sync.ensures.syncs (c.in_ok-write_anew.ensures.kept head f)

pub returns-clause-follows : goal.returns-clause-follows
returns-clause-follows g c = λ old cleared f.
    let m = c.args.memory.now in
    cleared_told m.shape old m.image c.args.first c.args.count cleared c.sync.result
    (g.S.Store.told c.write_anew.new.self.store) (g.S.Store.told c.sync.new.self) c.sync.ensures.syncs
    c.in_ok-write_anew.ensures.opened (c.in_ok-write_anew.ensures.tears old cleared f)

pub returns-clause-loses : goal.returns-clause-loses
returns-clause-loses g c = λ old is cleared f.
    let m = c.args.memory.now in
    cleared_loses_told m.shape old m.image c.args.first c.args.count is cleared c.sync.result
    (g.S.Store.told c.write_anew.new.self.store) (g.S.Store.told c.sync.new.self) c.sync.ensures.syncs
    c.in_ok-write_anew.ensures.opened (c.in_ok-write_anew.ensures.tears old cleared f)
