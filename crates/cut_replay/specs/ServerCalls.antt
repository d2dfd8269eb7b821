-- What the calls of a server come to.
use Rattle.std.specs.Prelude.{◌≡◌, true, false, List, [], IfOk, IfErr, OnErr, Result, Ok, Err}
use Rattle.std.specs.Result.{is_err}
use Rattle.tx_types.specs.declared.config.Config.{Config}
use Rattle.flash_model.specs.declared.cached.NotDurable.{NotDurable}
use Rattle.flash_model.specs.Flash.{FlashState, IsSteady}
use Rattle.mounted_session.specs.Sessions.{BothOf, is_mounted}
use Rattle.tx_engine.specs.DeviceCalls.{FlushesDevice}
use Rattle.host_protocol.specs.declared.command.Command.{Command}
use Rattle.host_protocol.specs.declared.reply.Reply.{Reply}
use Rattle.cut_replay.specs.Beginning.{MountsFirst}
use Rattle.cut_replay.specs.Bounds.{CountsBreaks}
use Rattle.cut_replay.specs.FlashCalls.{BeginsFlash}
use Rattle.cut_replay.specs.FlashRun.{Point}
use Rattle.cut_replay.specs.ServerRuns.{IsServed, RunsOn}
use Rattle.cut_replay.specs.ServerState.{ServerState}
use Rattle.cut_replay.specs.Sessions.{DeviceSession, flash_in, ServesSession, CachesSession, EndsServing, IsSoundFlash, IsSoundOrSame}
use Rattle.cut_replay.specs.declared.serving.ServeError.{ServeError}
use Rattle.cut_replay.specs.declared.server.NextError.{NextError}
use Rattle.cut_replay.specs.declared.server.NextError.TheVariants as unserved

-- A flash on which no command was served yet. A live flash was mounted, unless that met a fault; any other is as it
-- was. On an image that is not sound nothing is mounted.
pub record OpensServer {F : Type 0} (state : F → FlashState) (its : Config) (flash : F) (s : ServerState F) :
    Type 0 where
  pub config : s.config ≡ its
  pub first : MountsFirst state its flash s.session
  pub served : IsSoundFlash its (state flash) → IsServed state its (state flash) [] [] [] s.session
  pub steady : IsSteady (state flash) → IsSoundFlash its (state flash)
  pub mounted : is_mounted s.session ≡ true → IsSoundFlash its (state flash)
  pub kept : IsSoundOrSame its (state flash) (state (flash_in s.session))
  pub faults : CountsBreaks [] (state flash) (state (flash_in s.session))
  pub unsound : (IsSoundFlash its (state flash) → ⊥) →
      BeginsFlash its (state flash) false (state (flash_in s.session))
  pub extras : (state (flash_in s.session)).extras ≡ (state flash).extras

-- The next command was served, with this reply: each run goes on by it. Or serving ended for this error: the flash is
-- alone then, and what was open is lost.
pub record ServesNext {F : Type 0} (state : F → FlashState) (its : Config) (c : Command) (old : ServerState F)
    (result : Result Reply ServeError) (new : ServerState F) : Type 0 where
  pub config : new.config ≡ old.config
  pub serves : IfOk result (λ r. ServesSession state its c old.session r new.session)
  pub served : IfOk result (λ r. RunsOn state its c old.session r new.session)
  pub caches : IfOk result (λ r. CachesSession state its c old.session r new.session old.cache new.cache)
  pub ends : IfErr result (λ why. EndsServing state its c old.session (flash_in new.session) why)
  pub alone : OnErr result (is_mounted new.session ≡ false)

-- A flush leaves the session as it was but for its flash, which shows what it showed.
abbrev pub FlushesSession : {F : Type 0} → (F → FlashState) → DeviceSession F → DeviceSession F → Type 0
FlushesSession state old new = BothOf (FlushesDevice state) (λ a b. state b ≡ state a) old new

-- what a flush came to, without the reply that it opened
abbrev pub flush_of : Result Reply NotDurable → Result (Unit {0}) NotDurable
flush_of (Ok reply) = Ok tt
flush_of (Err failed) = Err failed

-- So the run is as it was, whether what was done is durable then or not.
pub record FlushesServer {F : Type 0} (state : F → FlashState) (its : Config) (old new : ServerState F) : Type 0 where
  pub config : new.config ≡ old.config
  pub session : FlushesSession state old.session new.session
  pub cache : new.cache ≡ old.cache
  pub shows : state (flash_in new.session) ≡ state (flash_in old.session)
  pub served : (init : FlashState) → (cs : List Command) → (rs : List Reply) → (ps : List Point) →
      IsServed state its init cs rs ps old.session → IsServed state its init cs rs ps new.session

-- Why the next command has no reply: what an earlier one left was not made durable, and nothing more was done; or it
-- was, and then serving ended.
abbrev pub EndsNext : {F : Type 0} → (F → FlashState) → Config → Command → ServerState F →
    Result (Unit {0}) NotDurable → ServerState F → NextError → Type 0
EndsNext state its c first flushed new unserved.NotDurable = (is_err flushed ≡ true) × (new ≡ first)
EndsNext state its c first flushed new (unserved.Ended why) =
    (flushed ≡ Ok tt) × ServesNext state its c first (Err why) new

-- The flash was flushed, and this is what that did to what waited. Then the next command was served, on what the flush
-- left. So each run goes on by it, and what waits then is of this command alone.
pub record ServesDurably {F : Type 0} (state : F → FlashState)
    (flushes : F → F → Result (Unit {0}) NotDurable → Type 0) (its : Config) (c : Command) (old : ServerState F)
    (result : Result Reply NextError) (new : ServerState F) : Type 0 where
  pub first : ServerState F
  pub flushed : Result (Unit {0}) NotDurable
  pub stays : FlushesServer state its old first
  pub durable : flushes (flash_in old.session) (flash_in first.session) flushed
  pub config : new.config ≡ old.config
  pub next : IfOk result (λ r. (flushed ≡ Ok tt) × ServesNext state its c first (Ok r) new)
  pub served : IfOk result (λ r. RunsOn state its c old.session r new.session)
  pub ends : IfErr result (EndsNext state its c first flushed new)
