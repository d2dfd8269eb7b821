use Rattle.cut_replay.proofs.Common.{sym, refl, ◌∙◌}
use Rattle.cut_replay.proofs.Flushes.{ends_durably, is_done, not_durable, serves_durably}
use Rattle.cut_replay.proofs.server.Server.serve_next.Goals as goal

pub returns-then-is_err : goal.returns-then-is_err
returns-then-is_err g c =
    not_durable g.F.Flash.state g.F.Cached.flushes c.args.self.now.config c.args.command.now c.args.self.now
    c.make_durable-earlier.new.self c.make_durable-earlier.ensures.stays refl c.make_durable-earlier.result c.make_durable-earlier.ensures.flushes
    (sym c.is_err.ensures.value ∙ c.if-is_err.true)

pub returns-in-Ok : goal.returns-in-Ok
returns-in-Ok g c =
    serves_durably g.F.Flash.state g.F.Cached.flushes c.args.self.now.config c.args.command.now c.args.self.now
    c.make_durable-earlier.new.self c.make_durable-earlier.ensures.stays refl c.make_durable-earlier.result c.make_durable-earlier.ensures.flushes
    c.in-Ok.reply c.answer_next-answered.new.self (is_done c.make_durable-earlier.result (sym c.is_err.ensures.value ∙ c.if-is_err.false))
    c.in-Ok.ensures

pub returns-in-Err : goal.returns-in-Err
returns-in-Err g c =
    ends_durably g.F.Flash.state g.F.Cached.flushes c.args.self.now.config c.args.command.now c.args.self.now
    c.make_durable-earlier.new.self c.make_durable-earlier.ensures.stays refl c.make_durable-earlier.result c.make_durable-earlier.ensures.flushes
    c.in-Err.why c.answer_next-answered.new.self (is_done c.make_durable-earlier.result (sym c.is_err.ensures.value ∙ c.if-is_err.false))
    c.in-Err.ensures
