use Rattle.tx_engine.proofs.Common.{◌≡◌, List, None, sym, ap, ◌∙◌, subst, Link, block_to_go, IsNextName, HasPlace, transaction_at, name_at, store_in, is_err}
use Rattle.collector.specs.Calls.{EvictsBlocksToGo}
use Rattle.tx_engine.proofs.OfWrite.Leaving.{left_by}
use Rattle.tx_engine.proofs.OfWrite.PageWrites.{place, next_of_due}
use Rattle.tx_engine.proofs.OfDevice.KeptDevices.{ready_sure}
use Rattle.tx_engine.proofs.writing.evict_blocks_to_go.Goals as goal

pub name-name-requires : goal.name-name-requires
name-name-requires g c =
    subst (HasPlace c.args.transactions.now c.args.at) (sym c.done_count.ensures)
    (place g.F.Flash.state g.R.CommitRule.protocol c.args.store.now c.args.transactions.now c.args.at c.requires.ready
    c.requires.due)

pub evict_blocks_to_go-requires : goal.evict_blocks_to_go-requires
evict_blocks_to_go-requires g c = record {
  sure = ready_sure g.F.Flash.state g.R.CommitRule.protocol c.args.store.now c.args.transactions.now c.requires.ready;
  next = (let is = c.name-name.ensures ∙ ap (name_at (transaction_at c.args.transactions.now c.args.at).naming)
      c.done_count.ensures in
      subst (λ (a : Link). (names : List Link) × IsNextName c.args.store.now.noted names a) (sym is)
      (next_of_due g.F.Flash.state g.R.CommitRule.protocol c.args.store.now c.args.transactions.now c.args.at
      c.requires.ready c.requires.due));
}

pub returns : goal.returns
returns g c =
    let state = g.F.Flash.state in
    let is = c.name-name.ensures ∙ ap (name_at (transaction_at c.args.transactions.now c.args.at).naming)
    c.done_count.ensures in
    record {
      left = left_by state c.args.store.now c.evict_blocks_to_go.new.self c.args.transactions.now
          _ g.R.CommitRule.protocol c.array_stays.ensures c.image_is_sound.ensures
          c.requires.ready.rule c.requires.ready.stands c.evict_blocks_to_go.ensures.clears.keeps c.requires.ready.sure;
      clears = subst (λ (a : Link). EvictsBlocksToGo g.R.CommitRule.protocol (store_in state c.args.store.now)
          (store_in state c.evict_blocks_to_go.new.self) a.page a.version
          c.evict_blocks_to_go.result) is c.evict_blocks_to_go.ensures.clears;
      idle = λ none. let d = c.evict_blocks_to_go.ensures.idle
          (subst (λ (a : Link). block_to_go c.args.store.now.noted a.page a.version ≡ None) (sym is) none) in
          (ap is_err d.0, d.1);
    }
