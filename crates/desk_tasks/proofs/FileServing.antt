-- How the commands of a file are served one at a time.
use Rattle.desk_tasks.proofs.Common.{◌≡◌, ℕ, List, [], ◌∷◌, length, None, Some, Result, Ok, Err, refl, ap, sym, subst, ◌∙◌, Config, Extras, MemFlashState, RefusesDevice, RefusesLine, inl, inr, loaded, shape_of, state_of, IsSoundImage}
use Rattle.std.proofs.Common.{◌++◌}
use Rattle.std.specs.Result.{IsErrAnd}
use Rattle.host_protocol.specs.Files.{IsFile}
use Rattle.host_protocol.specs.Reading.{EndsAt}
use Rattle.host_protocol.specs.Replies.{text_of}
use Rattle.host_protocol.specs.declared.command.Command.{Command}
use Rattle.host_protocol.specs.declared.reply.Reply.{Reply}
use Rattle.cut_replay.specs.ServerRuns.{IsServed, RunsOn}
use Rattle.cut_replay.specs.Served.{ServesRun, Watched}
use Rattle.cut_replay.specs.Sessions.{DeviceSession, flash_in, point_of}
use Rattle.cut_replay.specs.Watching.{Grew}
use Rattle.cut_replay.proofs.Progress.{HasServed, all_served}
use Rattle.cut_replay.proofs.Runs.{text_more}
use Rattle.mounted_session.proofs.Mounting.{nothing_done}
use Rattle.cut_replay.specs.Served.{RefusesUnsound}
use Rattle.cut_replay.specs.ServerCalls.{OpensServer}
use Rattle.cut_replay.specs.ServerState.{ServerState}
use Rattle.cut_replay.specs.Sessions.{IsSoundOrSame}
use Rattle.cut_replay.specs.declared.serving.ServeError.{ServeError}
use Rattle.host_protocol.specs.declared.error.TextError.{TextError}
use Rattle.desk_tasks.specs.CommandReading.{HasRead}
use Rattle.desk_tasks.specs.FileServing.{HasRun, IsServedFile, IsUnderway, RefusesFile, ServesFile}
use Rattle.desk_tasks.specs.Runs.{IsRun}
use Rattle.desk_tasks.specs.Stops.{StopsBy, lines_failure, serving_failure}
use Rattle.desk_tasks.specs.declared.output.Failure.{Failure}
use Rattle.desk_tasks.specs.declared.reading.CommandReader.{CommandReader}
use Rattle.desk_tasks.proofs.RunLemmas.{is_run, is_steady, unserved}
use Rattle.desk_tasks.proofs.Works.{stops_by, unparsed}

-- nothing was served
pub none_run : (its : Config) (flash : MemFlashState) (s : DeviceSession MemFlashState) (text : List ℕ) → text ≡ [] →
    IsServed state_of its (state_of flash) [] [] [] s → HasRun its flash [] s text
none_run its flash s text none run = record { replies = []; points = []; run = run; said = none }

-- the text grew by that of a reply
pub told_more : (before after more : List ℕ) → Grew (Some before) (Some after) more → after ≡ before ++ more
told_more before after more h = cc (h)

-- what a flash in memory tells of its retired blocks is what it has
pub same_extras : (old new : Extras) → Some old ≡ Some new → old ≡ new
same_extras old new h = cc (h)

-- a command more was served, and its reply was told
pub one_run : (its : Config) (flash : MemFlashState) (commands : List Command) (c : Command) (r : Reply)
    (s t : DeviceSession MemFlashState) (before after : List ℕ) →
    HasRun its flash commands s before → RunsOn state_of its c s r t → after ≡ before ++ text_of r →
    HasRun its flash (commands ++ c ∷ []) t after
one_run its flash commands c r s t before after h on told = record {
  replies = h.replies ++ r ∷ [];
  points = h.points ++ point_of state_of its t ∷ [];
  run = on (state_of flash) commands h.replies h.points h.run;
  said = told ∙ ap (λ x. x ++ text_of r) h.said ∙ sym (text_more h.replies r);
}

-- what was served is a run from the image on
pub file_run : (its : Config) (flash left : MemFlashState) (commands : List Command) (s : DeviceSession MemFlashState)
    (text : List ℕ) →
    flash ≡ loaded (shape_of its) flash.image flash.extras →
    IsSoundImage its.protocol its.logical (shape_of its) flash.image → left ≡ flash_in s →
    HasRun its flash commands s text → IsRun its flash.image commands left.image text
file_run its flash left commands s text ready sound closed h =
    let before : Watched = record { text = Some []; kept = None; flashes = None } in
    let after : Watched = record { text = Some text; kept = None; flashes = None } in
    let served : HasServed state_of its (state_of flash) commands s before after = record {
      replies = h.replies;
      points = h.points;
      runs = h.run;
      text = ap (λ x. Some x) h.said;
      kept = refl;
      flashes = refl;
    } in
    let run : ServesRun its commands (length commands) (state_of flash) (state_of left) before after =
    rw closed (all_served state_of its (state_of flash) commands s (state_of (flash_in s)) before after served
    (nothing_done (state_of (flash_in s)))) in
    is_run its flash left commands [] text ready refl sound run

-- serving ended as it does of a device
pub device_stops : (its : Config) (flash : MemFlashState) (bytes : List ℕ) (left : MemFlashState) (why : ServeError)
    (stopped : Failure) → stopped ≡ serving_failure why →
    RefusesUnsound its (state_of flash) (state_of left) (Err why) → StopsBy (RefusesFile its flash bytes) stopped
device_stops its flash bytes left why stopped same h =
    stops_by (RefusesDevice its flash.image) (RefusesFile its flash bytes) (λ ending refuses. inr refuses) stopped
    (unserved its flash left why stopped same h)

-- nothing was read and served yet
pub begins_file : (its : Config) (flash : MemFlashState) (bytes : List ℕ) (server : ServerState MemFlashState)
    (reader : CommandReader) (text : List ℕ) → flash ≡ loaded (shape_of its) flash.image flash.extras →
    OpensServer state_of its flash server → reader.page_bytes ≡ its.page_bytes → HasRead bytes [] reader → text ≡ [] →
    IsUnderway its flash bytes [] server reader text
begins_file its flash bytes server reader text ready opens size read none = record {
  config = opens.config;
  size = size;
  read = read;
  run = none_run its flash server.session text none (opens.served (opens.steady (is_steady its flash ready)));
  kept = opens.kept;
  extras = opens.extras;
}

-- one command more was read and served
pub goes_on : (its : Config) (flash : MemFlashState) (bytes : List ℕ) (commands : List Command) (c : Command)
    (server next : ServerState MemFlashState) (reader behind : CommandReader) (before after : List ℕ) →
    IsUnderway its flash bytes commands server reader before → HasRead bytes (commands ++ c ∷ []) behind →
    behind.page_bytes ≡ reader.page_bytes → next.config ≡ server.config →
    (HasRun server.config flash commands server.session before →
    HasRun server.config flash (commands ++ c ∷ []) next.session after) →
    (IsSoundOrSame server.config (state_of flash) (state_of (flash_in server.session)) →
    IsSoundOrSame server.config (state_of flash) (state_of (flash_in next.session))) →
    (state_of (flash_in next.session)).extras ≡ (state_of (flash_in server.session)).extras →
    IsUnderway its flash bytes (commands ++ c ∷ []) next behind after
goes_on its flash bytes commands c server next reader behind before after u read size config run kept extras = record {
  config = config ∙ u.config;
  size = size ∙ u.size;
  read = read;
  run = subst (λ (x : Config). HasRun x flash (commands ++ c ∷ []) next.session after) u.config
      (run (subst (λ (x : Config). HasRun x flash commands server.session before) (sym u.config) u.run));
  kept = subst (λ (x : Config). IsSoundOrSame x (state_of flash) (state_of (flash_in next.session))) u.config
      (kept (subst (λ (x : Config). IsSoundOrSame x (state_of flash) (state_of (flash_in server.session)))
      (sym u.config) u.kept));
  extras = extras ∙ u.extras;
}

-- the last command was read and served
pub ends_file : (its : Config) (flash : MemFlashState) (bytes : List ℕ) (commands : List Command)
    (server : ServerState MemFlashState) (reader : CommandReader) (text : List ℕ) →
    IsUnderway its flash bytes commands server reader text → IsFile reader.page_bytes bytes commands →
    IsServedFile its flash bytes server text
ends_file its flash bytes commands server reader text u file = record {
  commands = commands;
  file = subst (λ size. IsFile size bytes commands) u.size file;
  run = u.run;
  extras = u.extras;
}

-- a line was bad, or there was no memory to read it
pub stops_reading : (its : Config) (flash : MemFlashState) (bytes : List ℕ) (commands : List Command)
    (server next : ServerState MemFlashState) (reader : CommandReader) (before after : List ℕ)
    (result : Result (Unit {0}) Failure) (e : TextError) →
    IsUnderway its flash bytes commands server reader before → IsErrAnd result (λ x. x ≡ lines_failure e) →
    EndsAt reader.page_bytes bytes e → ServesFile its flash bytes next after result
stops_reading its flash bytes commands server next reader before after (Ok done) e u same h = absurd same
stops_reading its flash bytes commands server next reader before after (Err x) e u same h =
    let stop : Result (Unit {0}) Failure = Err x in
    stops_by (RefusesLine its.page_bytes bytes) (RefusesFile its flash bytes) (λ ending h. inl h) x
    (unparsed its.page_bytes bytes stop e same (subst (λ size. EndsAt size bytes e) u.size h))

-- serving a command ended
pub stops_serving : (its : Config) (flash : MemFlashState) (bytes : List ℕ) (commands : List Command)
    (server next : ServerState MemFlashState) (reader : CommandReader) (before after : List ℕ)
    (result : Result (Unit {0}) Failure) (why : ServeError) →
    IsUnderway its flash bytes commands server reader before → IsErrAnd result (λ x. x ≡ serving_failure why) →
    (IsSoundOrSame server.config (state_of flash) (state_of (flash_in server.session)) →
    RefusesUnsound server.config (state_of flash) (state_of (flash_in next.session)) (Err why)) →
    ServesFile its flash bytes next after result
stops_serving its flash bytes commands server next reader before after (Ok done) why u same h = absurd same
stops_serving its flash bytes commands server next reader before after (Err x) why u same h =
    device_stops its flash bytes (flash_in next.session) why x same
    (subst (λ (y : Config). RefusesUnsound y (state_of flash) (state_of (flash_in next.session)) (Err why)) u.config
    (h (subst (λ (y : Config). IsSoundOrSame y (state_of flash) (state_of (flash_in server.session)))
    (sym u.config) u.kept)))
