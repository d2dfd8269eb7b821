mod Rereading
use Rattle.cut_replay.proofs.Telling.{reads_serve}
use Rattle.cut_replay.proofs.reading.read.Answers.Rereading.{reads_once, page_left, size_left}
use Rattle.cut_replay.proofs.reading.read.Goals as goal

pub returns-clause-ok : goal.returns-clause-ok
returns-clause-ok g c =
    let answer = c.read_through-answer.ensures in
    reads_serve g.F.Flash.state g.R.CommitRule.protocol c.args.device.now c.read_through-answer.new.device c.args.page
    c.read_through-answer.new.room c.read_through-answer.result.0 c.read_reply.result
    c.device_facts.ensures.always answer.reads answer.moment answer.carries answer.stays c.read_reply.ensures.reply

pub returns-clause-once : goal.returns-clause-once
returns-clause-once g c =
    reads_once g.F.Flash.state c.args.device.now c.read_through-answer.new.device c.args.cache.now.entries c.args.page
    c.args.room.now c.read_through-answer.new.room c.read_through-answer.result.0
    c.read_through-answer.ensures.reads c.read_through-answer.ensures.through

pub returns-clause-keeps : goal.returns-clause-keeps
returns-clause-keeps g c =
    page_left g.F.Flash.state c.args.device.now c.read_through-answer.new.device c.args.cache.now
    c.read_through-answer.new.cache
    c.args.page c.args.room.now c.read_through-answer.new.room c.read_through-answer.result.0
    c.read_through-answer.result.1
    c.read_through-answer.ensures.reads c.read_through-answer.ensures.through c.read_through-answer.ensures.keeps

pub returns-clause-size : goal.returns-clause-size
returns-clause-size g c =
    size_left c.args.device.now c.args.cache.now c.read_through-answer.new.cache c.args.page
    (page_left g.F.Flash.state c.args.device.now c.read_through-answer.new.device c.args.cache.now
    c.read_through-answer.new.cache
    c.args.page c.args.room.now c.read_through-answer.new.room c.read_through-answer.result.0
    c.read_through-answer.result.1
    c.read_through-answer.ensures.reads c.read_through-answer.ensures.through c.read_through-answer.ensures.keeps)
