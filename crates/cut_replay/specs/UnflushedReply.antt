-- What a reply is that is not to be said yet.
use Rattle.host_protocol.specs.declared.reply.Reply.{Reply}
use Rattle.cut_replay.specs.declared.unflushed.Unflushed.TheInside.{Inside}

abbrev pub reply_in : Inside → Reply
reply_in u = u.reply
