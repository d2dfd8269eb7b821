use Rattle.tx_engine.proofs.Common.{by_err, name_due}
use Rattle.tx_engine.specs.Readying.{MakesRoom}
use Rattle.tx_engine.proofs.OfWrite.PageWrites.{ready_cleared}
use Rattle.tx_engine.proofs.OfWrite.RoomMaking.{clear_still, room_found, room_there, room_unclear, room_unfound}
use Rattle.tx_engine.proofs.writing.make_room.Goals as goal

pub evict_blocks_to_go-requires : goal.evict_blocks_to_go-requires
evict_blocks_to_go-requires g c = c.requires

pub returns-in_err-evict_blocks_to_go : goal.returns-in_err-evict_blocks_to_go
returns-in_err-evict_blocks_to_go g c =
    let S = c.args.store.now in let O = c.args.transactions.now in
    by_err c.from_residual.result (MakesRoom g.F.Flash.state S c.evict_blocks_to_go.new.store O (name_due O c.args.at))
    c.from_residual.ensures.0 (λ y.
    room_unclear g.F.Flash.state g.R.CommitRule.protocol S O c.args.at c.requires.ready c.requires.due
    c.evict_blocks_to_go.new.store _ y c.in_err-evict_blocks_to_go.ensures)

pub has_room-requires : goal.has_room-requires
has_room-requires g c =
    let ready = ready_cleared g.F.Flash.state g.R.CommitRule.protocol c.args.store.now c.args.transactions.now c.args.at
    c.requires.ready c.requires.due c.evict_blocks_to_go.new.store c.in_ok-evict_blocks_to_go.ensures in
    record { stored = record { matches = ready.stands.matches; rule = ready.rule } }

pub returns-then-has_room : goal.returns-then-has_room
returns-then-has_room g c =
    room_there g.F.Flash.state g.R.CommitRule.protocol c.args.store.now c.args.transactions.now c.args.at
    c.requires.ready c.requires.due c.evict_blocks_to_go.new.store c.in_ok-evict_blocks_to_go.ensures c.has_room.new.self
    c.has_room.ensures.stays (c.has_room.ensures.room c.if-has_room.true)

pub find_slot-requires : goal.find_slot-requires
find_slot-requires g c =
    clear_still g.F.Flash.state g.R.CommitRule.protocol c.args.store.now c.args.transactions.now c.args.at
    c.requires.ready c.requires.due c.evict_blocks_to_go.new.store c.in_ok-evict_blocks_to_go.ensures c.has_room.new.self
    c.has_room.ensures.stays

pub returns-in_err-_slot : goal.returns-in_err-_slot
returns-in_err-_slot g c =
    let S = c.args.store.now in let O = c.args.transactions.now in
    by_err c.from_residual-in_err-_slot.result
    (MakesRoom g.F.Flash.state S c.find_slot.new.store O (name_due O c.args.at))
    c.from_residual-in_err-_slot.ensures.0 (λ y.
    room_unfound g.F.Flash.state g.R.CommitRule.protocol S O c.args.at c.requires.ready c.requires.due
    c.evict_blocks_to_go.new.store c.in_ok-evict_blocks_to_go.ensures c.has_room.new.self c.has_room.ensures.stays
    c.find_slot.new.store _ y c.in_err-_slot.ensures)

pub returns : goal.returns
returns g c =
    room_found g.F.Flash.state g.R.CommitRule.protocol c.args.store.now c.args.transactions.now c.args.at
    c.requires.ready c.requires.due c.evict_blocks_to_go.new.store c.in_ok-evict_blocks_to_go.ensures c.has_room.new.self
    c.has_room.ensures.stays c.find_slot.new.store c.in_ok-_slot._slot c.in_ok-_slot.ensures
