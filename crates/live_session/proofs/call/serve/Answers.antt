use Rattle.std.proofs.Common.{◌≡◌, ℕ, List, Option, None, Some, Bor, option_copied, refl, sym, ◌∙◌}
use Rattle.live_session.specs.Endings.{ending_of}
use Rattle.live_session.specs.Top.{not_named, not_opened}
use Rattle.live_session.specs.Words.{name_by}
use Rattle.live_session.proofs.Durably.{begins_durably, not_opened_durably}
use Rattle.live_session.proofs.Faulting.{file_fault, not_opened_fault}
use Rattle.live_session.proofs.Stopping.{calls_held}
use Rattle.live_session.proofs.Talking.{serves_file}
use Rattle.live_session.proofs.call.serve.Goals as goal

pub returns-in-Ok-clause-serves : goal.returns-in-Ok-clause-serves
returns-in-Ok-clause-serves g c =
    serves_file (g.D.LineDesk.state c.args.desk.now) (g.D.LineDesk.state c.open_flash.new.desk)
    (g.D.LineDesk.state c.serve_flash.new.desk) (name_by c.args.words.now) c.in-Some.name.now c.in-Ok.flash
    (ending_of c.serve_flash.result) (sym c.in-Some.ensures) c.in-Ok.ensures.0 c.in-Ok.ensures.1
    c.serve_flash.ensures.session

never : (r : Option (Bor (List ℕ))) → ((x : Bor (List ℕ)) → r ≡ Some x → ⊥) → option_copied r ≡ None
never None none = refl
never (Some x) none = absurd (none x refl)

pub returns-in_default-clause-calls : goal.returns-in_default-clause-calls
returns-in_default-clause-calls g c =
    not_named (sym c.parse_words.ensures ∙ never c.parse_words.result c.in_default.not-Some) refl

pub returns-in-Err-clause-calls : goal.returns-in-Err-clause-calls
returns-in-Err-clause-calls g c =
    not_opened c.in-Some.name.now (ending_of c.in-Err.ending) (sym c.in-Some.ensures) c.in-Err.ensures

pub returns-in-Ok-clause-calls : goal.returns-in-Ok-clause-calls
returns-in-Ok-clause-calls g c =
    calls_held (g.D.LineDesk.state c.args.desk.now) (g.D.LineDesk.state c.open_flash.new.desk)
    (g.D.LineDesk.state c.serve_flash.new.desk) (name_by c.args.words.now) c.in-Some.name.now c.in-Ok.flash
    (ending_of c.serve_flash.result) (sym c.in-Some.ensures) c.in-Ok.ensures.0 c.in-Ok.ensures.1
    c.serve_flash.ensures.session c.serve_flash.ensures.stops

pub returns-in-Ok-clause-durable : goal.returns-in-Ok-clause-durable
returns-in-Ok-clause-durable g c = λ said.
    c.serve_flash.ensures.durable
    (begins_durably c.in-Some.name.now c.in-Ok.flash (g.D.LineDesk.state c.args.desk.now)
    (g.D.LineDesk.state c.open_flash.new.desk) c.in-Ok.ensures.0 said)

pub returns-in-Err-clause-durable : goal.returns-in-Err-clause-durable
returns-in-Err-clause-durable g c = λ said.
    not_opened_durably c.in-Some.name.now (ending_of c.in-Err.ending) (g.D.LineDesk.state c.args.desk.now)
    (g.D.LineDesk.state c.open_flash.new.desk) c.in-Err.ensures said

pub returns-in-Ok-clause-fault : goal.returns-in-Ok-clause-fault
returns-in-Ok-clause-fault g c =
    file_fault (g.D.LineDesk.state c.args.desk.now) (g.D.LineDesk.state c.open_flash.new.desk)
    (g.D.LineDesk.state c.serve_flash.new.desk) (name_by c.args.words.now) c.in-Some.name.now c.in-Ok.flash
    (ending_of c.serve_flash.result) (sym c.in-Some.ensures) c.in-Ok.ensures.0 c.in-Ok.ensures.1
    c.serve_flash.ensures.fault

pub returns-in-Err-clause-fault : goal.returns-in-Err-clause-fault
returns-in-Err-clause-fault g c =
    not_opened_fault (name_by c.args.words.now) c.in-Some.name.now (ending_of c.in-Err.ending)
    (g.D.LineDesk.state c.args.desk.now) (g.D.LineDesk.state c.open_flash.new.desk) (sym c.in-Some.ensures)
    c.in-Err.ensures
