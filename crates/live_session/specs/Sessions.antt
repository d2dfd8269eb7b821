-- How a session stops, and how it ends.
use Rattle.std.specs.Prelude.{Bool, true, false, Result, Ok, Err}
use Rattle.cut_replay.specs.declared.server.NextError.{NextError}
use Rattle.cut_replay.specs.declared.server.NextError.TheVariants as unserved
use Rattle.cut_replay.specs.declared.serving.ServeError.{ServeError}
use Rattle.cut_replay.specs.declared.serving.ServeError.TheVariants as serving
use Rattle.program_base.specs.Refusals.{Unsound}
use Rattle.live_session.specs.declared.answering.Stop.{Stop}
use Rattle.live_session.specs.declared.answering.Stop.TheVariants as stop
use Rattle.live_session.specs.declared.desk.CallError.{CallError}
use Rattle.live_session.specs.declared.desk.CallError.TheVariants as call
use Rattle.live_session.specs.Endings.{LiveEnding, Closed, BadLine, Refused, Fault, Starved}

abbrev pub stop_of_call : CallError → Stop
stop_of_call call.Failed = stop.Fault
stop_of_call call.Memory = stop.Memory

abbrev pub stop_of_serving : NextError → Stop
stop_of_serving unserved.NotDurable = stop.Fault
stop_of_serving (unserved.Ended (serving.Unsound law slot)) = stop.Fault
stop_of_serving (unserved.Ended serving.Memory) = stop.Memory

-- how a session ends whose flash was not mounted, and was closed
abbrev pub ending_unmounted : ServeError → Result (Unit {0}) Stop → LiveEnding
ending_unmounted (serving.Unsound law slot) (Ok done) = Refused (Unsound (record { law = law; slot = slot }))
ending_unmounted (serving.Unsound law slot) (Err stop.Fault) = Refused (Unsound (record { law = law; slot = slot }))
ending_unmounted (serving.Unsound law slot) (Err stop.Memory) = Starved
ending_unmounted serving.Memory closed = Starved

-- how it ends after its lines were answered, and the file was closed, with the configuration that was opened or not:
-- want of memory decides, and else a fault
abbrev pub ending_after : Result Bool Stop → Result (Unit {0}) Stop → Bool → LiveEnding
ending_after (Err stop.Memory) closed same = Starved
ending_after (Err stop.Fault) (Ok done) same = Fault
ending_after (Err stop.Fault) (Err stop.Fault) same = Fault
ending_after (Err stop.Fault) (Err stop.Memory) same = Starved
ending_after (Ok good) (Err stop.Fault) same = Fault
ending_after (Ok good) (Err stop.Memory) same = Starved
ending_after (Ok good) (Ok done) false = Fault
ending_after (Ok true) (Ok done) true = Closed
ending_after (Ok false) (Ok done) true = BadLine
