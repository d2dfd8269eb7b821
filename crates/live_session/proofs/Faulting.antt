-- Why a call ends with status 5.
use Rattle.std.proofs.Common.{◌≡◌, ℕ, Bool, true, false, List, take, Option, None, Some, Result, Ok, Err, IfSome, IfErr, OnSome, IsErrAnd, MatchBool, is_err, refl, sym, subst, ap, ◌∙◌, option_map, inl, inr, arith, codes}
use Rattle.std.proofs.lemmas.Bool.{false≢true}
use Rattle.tx_types.specs.Config.{shape_of}
use Rattle.tx_types.specs.declared.config.Config.{Config}
use Rattle.tx_types.specs.declared.config.Slot.{Slot}
use Rattle.record_list.specs.declared.found.Breach.{Breach}
use Rattle.judged_records.proofs.OfNotes.OneBreach.{sound_unbroken}
use Rattle.flash_model.specs.declared.cached.NotDurable.{NotDurable}
use Rattle.host_protocol.specs.declared.command.Command.{Command}
use Rattle.mounted_session.specs.Devices.{MountsIn}
use Rattle.mounted_session.specs.Mounting.{MeetsFault}
use Rattle.mounted_session.specs.Sessions as first
use Rattle.mounted_session.specs.Sessions.{is_mounted}
use Rattle.mounted_session.specs.declared.session.Session.TheVariants as session
use Rattle.cut_replay.specs.ServerCalls.{EndsNext, FlushesServer, OpensServer}
use Rattle.cut_replay.specs.ServerState.{ServerState}
use Rattle.cut_replay.specs.Sessions.{EndsServing, Refuses, flash_in}
use Rattle.cut_replay.specs.declared.server.NextError.{NextError}
use Rattle.cut_replay.specs.declared.server.NextError.TheVariants as unanswered
use Rattle.cut_replay.specs.declared.serving.ServeError.{ServeError}
use Rattle.cut_replay.specs.declared.serving.ServeError.TheVariants as ended
use Rattle.desk_io.specs.Desk.{Rose, counted}
use Rattle.program_base.specs.Refusals as refusal
use Rattle.program_base.specs.Refusals.{ImageEnding, image_line, image_status, line}
use Rattle.file_flash.specs.FileFlashState.{FileFlashState}
use Rattle.live_flash.specs.Flushes.{Flushes}
use Rattle.live_session.specs.declared.answering.Stop.{Stop}
use Rattle.live_session.specs.declared.answering.Stop.TheVariants as stop
use Rattle.live_session.specs.declared.desk.CallError.{CallError}
use Rattle.live_session.specs.declared.desk.CallError.TheVariants as call
use Rattle.live_session.specs.declared.ending.TheConstants.{IN_USE}
use Rattle.live_session.specs.Closing.{ClosesFlash}
use Rattle.live_session.specs.Endings.{LiveEnding, Closed, BadLine, Refused, BadCount, InUse, Fault, Starved, Attempts, EndsSo, Speaks, count_line}
use Rattle.live_session.specs.Faults.{FailsFile, FailsFlash, FaultsClosing, FaultsCommand, FaultsLeft, FaultsLines, FaultsSession, HasFailed, IsFaulted, IsUnserved, IsUnstarted, WhereFailed, WhereFault}
use Rattle.live_session.specs.Hearing.{FileSession, Hears, StopsAndCloses, WhereStopped}
use Rattle.live_session.specs.LineDesk.{BothTell, DeskTold, LineDeskState, ReadsLine, Saying, Says, with_claim, with_put, with_saying}
use Rattle.live_session.specs.Opening.{IsNotOpened, OpensFile, begun}
use Rattle.live_session.specs.Saying.{IsClosed, IsLeft, live_bytes, with_closed}
use Rattle.live_session.specs.Sessions.{ending_after, ending_unmounted, stop_of_call, stop_of_serving}
use Rattle.live_session.specs.Talks.{serving, shown}

abbrev Told : Type 0
Told = Option DeskTold

-- ---- an error that is passed on

pub by_error : {A : Type 0} (r : Result A Stop) (why : Stop) (P : Type 0) → IsErrAnd r (λ e. e ≡ why) →
    WhereFault P why → IfErr r (WhereFault P)
by_error (Ok a) why P is h = absurd is
by_error (Err e) why P is h = subst (WhereFault P) (sym is) h

fault_weaker : (P Q : Type 0) → (P → Q) → (why : Stop) → WhereFault P why → WhereFault Q why
fault_weaker P Q to stop.Fault h = to h
fault_weaker P Q to stop.Memory h = tt

-- ---- a call of the desk

pub says_fault : (flash : Option FileFlashState) (old new : LineDeskState) (text : List ℕ) (error : CallError) →
    Says flash old new text (Err error) → WhereFault (new.faults ≡ counted old.faults) (stop_of_call error)
says_fault flash old new text call.Failed says = ap (λ (d : LineDeskState). d.faults) says.1
says_fault flash old new text call.Memory says = absurd says

pub reads_fault : (old new : LineDeskState) (bytes : List ℕ) (error : CallError) →
    ReadsLine old new bytes (Err error) → WhereFault (new.faults ≡ counted old.faults) (stop_of_call error)
reads_fault old new bytes call.Failed reads = ap (λ (d : LineDeskState). d.faults) reads.1
reads_fault old new bytes call.Memory reads = tt

-- ---- a command

unserved : (its : Config) (s : FileSession) (flash : FileFlashState) (law : ℕ) (slot : Slot) →
    Refuses shown its s flash law slot → IsUnserved its s
unserved its (session.Mounted d) flash law slot h = absurd h
unserved its (session.Unmounted old) flash law slot h = λ init cs rs ps served.
    let breach : Breach = record { law = law; slot = slot } in
    sound_unbroken its.protocol its.logical (shape_of its) (shown old).image breach served.stands.sound h.1

-- what an earlier command left could not be made durable, or serving was ended by this one
pub serving_fault : (its : Config) (c : Command) (before now : LineDeskState)
    (old first new : ServerState FileFlashState) (flushed : Result (Unit {0}) NotDurable) (e : NextError) →
    FlushesServer shown its old first → Flushes (flash_in old.session) (flash_in first.session) flushed →
    EndsNext shown its c first flushed new e →
    WhereFault (FaultsCommand its before now old.session new.session) (stop_of_serving e)
serving_fault its c before now old first new flushed unanswered.NotDurable stays durable h =
    inr (inl (ap (λ (s : ServerState FileFlashState). (flash_in {F = FileFlashState} s.session).failed) h.1
    ∙ (sym durable.answer ∙ h.0)))
serving_fault its c before now old first new flushed (unanswered.Ended (ended.Unsound law slot)) stays durable h =
    let ends : EndsServing shown its c first.session (flash_in new.session) (ended.Unsound law slot) = h.1.ends in
    inr (inr (λ init cs rs ps served. unserved its first.session (flash_in new.session) law slot ends.cause
    init cs rs ps (stays.served init cs rs ps served)))
serving_fault its c before now old first new flushed (unanswered.Ended ended.Memory) stays durable h = tt

-- what it did could not be made durable
pub flush_fault : (its : Config) (before now : LineDeskState) (s t u : FileSession)
    (result : Result (Unit {0}) NotDurable) → Flushes (flash_in t) (flash_in u) result → is_err result ≡ true →
    FaultsCommand its before now s u
flush_fault its before now s t u result f failed = inr (inl (sym f.answer ∙ failed))

-- a text could not be said, once other calls had met no fault
pub say_fault : (its : Config) (before mid now : LineDeskState) (s t : FileSession) (why : Stop) →
    mid.faults ≡ before.faults → WhereFault (now.faults ≡ counted mid.faults) why →
    WhereFault (FaultsCommand its before now s t) why
say_fault its before mid now s t why same h =
    fault_weaker (now.faults ≡ counted mid.faults) (FaultsCommand its before now s t)
    (λ e. inl (e ∙ ap counted same)) why h

-- ---- the lines

pub lines_fault : (its : Config) (before mid now : LineDeskState) (s t : FileSession) (why : Stop) →
    mid.faults ≡ before.faults → WhereFault (now.faults ≡ counted mid.faults) why →
    WhereFault (FaultsLines its before now s t) why
lines_fault its before mid now s t why same h =
    fault_weaker (now.faults ≡ counted mid.faults) (FaultsLines its before now s t)
    (λ e. inl (e ∙ ap counted same)) why h

unstarted : (its : Config) (good : Bool) (s t : FileSession) (n : ℕ) (told now : Told) →
    BothTell (Hears its good s t n) (option_map (with_saying serving) told) now → IsUnserved its t →
    OnSome told (IsUnstarted its s)
unstarted its good s t n None now h none = tt
unstarted its good s t n (Some a) None h none = absurd h
unstarted its good s t n (Some a) (Some b) h none = λ init begun. none init h.cs h.rs h.ps (h.runs init begun)

of_piece : (its : Config) (good : Bool) (s t u : FileSession) (n : ℕ) (before mid now : LineDeskState)
    (first heard : Told) → is_mounted s ≡ true → first ≡ option_map (with_saying serving) before.told →
    BothTell (Hears its good s t n) first heard → mid.faults ≡ before.faults → FaultsCommand its mid now t u →
    FaultsLines its before now s u
of_piece its good s t u n before mid now first heard up begun h same (inl e) = inl (e ∙ ap counted same)
of_piece its good s t u n before mid now first heard up begun h same (inr (inl failed)) = inr (inl failed)
of_piece its good s t u n before mid now first heard up begun h same (inr (inr none)) =
    inr (inr (inr (
      up,
      unstarted its good s t n before.told heard (subst (λ x. BothTell (Hears its good s t n) x heard) begun h) none,
    )))

-- a piece of the input was read, and answering it stopped
pub piece_fault : (its kept : Config) (good : Bool) (s t u : FileSession) (n : ℕ) (before mid now : LineDeskState)
    (first heard : Told) (why : Stop) → kept ≡ its → is_mounted s ≡ true →
    first ≡ option_map (with_saying serving) before.told → BothTell (Hears its good s t n) first heard →
    mid.faults ≡ before.faults → WhereFault (FaultsCommand kept mid now t u) why →
    WhereFault (FaultsLines its before now s u) why
piece_fault its kept good s t u n before mid now first heard why is up begun h same w =
    fault_weaker (FaultsCommand its mid now t u) (FaultsLines its before now s u)
    (of_piece its good s t u n before mid now first heard up begun h same) why
    (subst (λ x. WhereFault (FaultsCommand x mid now t u) why) is w)

-- ---- closing

leaves_it : (left : FileFlashState) (put : Bool) (told : Told) →
    IfSome (option_map (with_closed put left) told) (λ b. b.left ≡ Some left)
leaves_it left put None = tt
leaves_it left put (Some a) = refl

leaves_alone : (left : FileFlashState) (put : Bool) (told : Told) →
    BothTell (λ a b. b ≡ with_closed put left a) told (option_map (with_closed put left) told)
leaves_alone left put None = tt
leaves_alone left put (Some a) = refl

module _ (flash : FileFlashState) (its config : Config) (s t : FileSession) (before mid now : LineDeskState)
    (closed : Result (Unit {0}) Stop) (at : flash ≡ flash_in t) (c : ClosesFlash flash mid now closed config) where
  -- why a flash is left so
  left_so : FaultsLeft its before.told now.told s c.left → FaultsClosing its before now s
  left_so why = inr (
    c.left,
    subst (λ (x : Told). IfSome x (λ b. b.left ≡ Some c.left)) (sym c.leaves) (leaves_it c.left c.put mid.told),
    why,
  )

  fails_by : c.left.failed ≡ true → HasFailed c.left
  fails_by failed = (failed, c.cause failed)

  closing : FaultsLines its before mid s t → FaultsClosing its before now s
  closing (inl e) = inl (c.faults ∙ e)
  closing (inr (inl failed)) = left_so (inl (fails_by (c.frozen (ap (λ (f : FileFlashState). f.failed) at ∙ failed))))
  closing (inr (inr (inl w))) =
      let same = ap (λ (d : LineDeskState). option_map (with_closed c.put c.left) d.told) w.1 in
      left_so (inr (inr (inl (
        w.0,
        (
          c.put,
          subst (BothTell (λ a b. b ≡ with_closed c.put c.left a) before.told) (sym (c.leaves ∙ same))
              (leaves_alone c.left c.put before.told),
        ),
        c.stays ∙ ap (λ (f : FileFlashState). f.memory) at
            ∙ ap (λ (x : FileSession). (flash_in {F = FileFlashState} x).memory) w.2,
      ))))
  closing (inr (inr (inr w))) = left_so (inr (inr (inr w)))

pub closing_fault : (flash : FileFlashState) (its config : Config) (s t : FileSession) (before mid now : LineDeskState)
    (answered : Result Bool Stop) (closed : Result (Unit {0}) Stop) (same : Bool) (Q : Type 0) →
    IfErr answered (WhereFault (FaultsLines its before mid s t)) → flash ≡ flash_in t →
    (config ≡ its → same ≡ true) → ClosesFlash flash mid now closed config →
    WhereFailed (FaultsClosing its before now s) Q (ending_after answered closed same)
closing_fault flash its config s t before mid now (Err stop.Memory) closed same Q h at is c = tt
closing_fault flash its config s t before mid now (Err stop.Fault) (Ok done) same Q h at is c =
    closing flash its config s t before mid now (Ok done) at c h
closing_fault flash its config s t before mid now (Err stop.Fault) (Err stop.Fault) same Q h at is c =
    closing flash its config s t before mid now (Err stop.Fault) at c h
closing_fault flash its config s t before mid now (Err stop.Fault) (Err stop.Memory) same Q h at is c = tt
closing_fault flash its config s t before mid now (Ok good) (Err stop.Fault) same Q h at is c =
    left_so flash its config s t before mid now (Err stop.Fault) at c (inl (c.fails refl, c.cause (c.fails refl)))
closing_fault flash its config s t before mid now (Ok good) (Err stop.Memory) same Q h at is c = tt
closing_fault flash its config s t before mid now (Ok good) (Ok done) false Q h at is c =
    left_so flash its config s t before mid now (Ok done) at c
    (inr (inl (λ other. false≢true (is (sym c.same ∙ other)))))
closing_fault flash its config s t before mid now (Ok true) (Ok done) true Q h at is c = tt
closing_fault flash its config s t before mid now (Ok false) (Ok done) true Q h at is c = tt

-- ---- the session of a flash

-- the session of a flash that is alone
abbrev alone : FileFlashState → FileSession
alone flash = session.Unmounted flash

meets_rose : (flash met left : FileFlashState) (live : Bool) →
    MatchBool live (MeetsFault (shown flash) (shown met)) (alone met ≡ alone flash) → left.memory ≡ met.memory →
    live ≡ true → Rose flash.memory.faults left.memory.faults
meets_rose flash met left true h stays up = subst (λ m. Rose flash.memory.faults m.faults) (sym stays) h.rose
meets_rose flash met left false h stays up = absurd (false≢true up)

rose_at : (flash left : FileFlashState) (s : ServerState FileFlashState) (t : FileSession) → t ≡ s.session →
    OpensServer shown flash.config flash s → is_mounted t ≡ false → left.memory ≡ (flash_in t).memory →
    flash.memory.live ≡ true → Rose flash.memory.faults left.memory.faults
rose_at flash left s (session.Mounted d) e opens down stays live = absurd (false≢true (sym down))
rose_at flash left s (session.Unmounted met) e opens down stays live =
    meets_rose flash met left (shown flash).live
    (subst (λ x. first.MountsFirst shown (MountsIn shown flash.config) flash x) (sym e) opens.first.mounts) stays live

told_fault : (old new : Told) (flash left : FileFlashState) (s : ServerState FileFlashState) →
    OpensServer shown flash.config flash s → BothTell (StopsAndCloses IsClosed flash.config s.session) old new →
    IfSome new (λ b. b.left ≡ Some left) → FaultsLeft flash.config old new s.session left →
    BothTell (FailsFlash flash) old new
told_fault None None flash left s opens h leaves w = tt
told_fault None (Some b) flash left s opens h leaves w = absurd h
told_fault (Some a) None flash left s opens h leaves w = absurd h
told_fault (Some a) (Some b) flash left s opens h leaves (inl failed) = (left, leaves, inl failed)
told_fault (Some a) (Some b) flash left s opens h leaves (inr (inl other)) = (left, leaves, inr (inl other))
told_fault (Some a) (Some b) flash left s opens h leaves (inr (inr (inl w))) = (
  left,
  leaves,
  inr (inr (ap (λ (d : DeskTold). d.input) w.1.1, rose_at flash left s s.session refl opens w.0 w.2)),
)
told_fault (Some a) (Some b) flash left s opens h leaves (inr (inr (inr w))) =
    absurd (w.1 (shown flash) (opens.served (opens.mounted w.0)))

stopped_fault : (before now : LineDeskState) (flash : FileFlashState) (s : ServerState FileFlashState) →
    OpensServer shown flash.config flash s →
    BothTell (StopsAndCloses IsClosed flash.config s.session) before.told now.told →
    FaultsClosing flash.config before now s.session → FaultsSession flash before now
stopped_fault before now flash s opens h (inl e) = inl e
stopped_fault before now flash s opens h (inr w) =
    inr (told_fault before.told now.told flash w.0 s opens h w.1 w.2)

with_config : (before now : LineDeskState) (flash : FileFlashState) (s : ServerState FileFlashState) (it : LiveEnding) →
    OpensServer shown flash.config flash s →
    WhereStopped (λ breach. ⊥) (BothTell (StopsAndCloses IsClosed flash.config s.session) before.told now.told)
    (BothTell (StopsAndCloses IsLeft flash.config s.session) before.told now.told) it →
    WhereFailed (FaultsClosing flash.config before now s.session) (now.faults ≡ before.faults) it →
    WhereFailed (FaultsSession flash before now) (now.faults ≡ before.faults) it
with_config before now flash s Closed opens stops h = tt
with_config before now flash s BadLine opens stops h = tt
with_config before now flash s (Refused why) opens stops h = h
with_config before now flash s (BadCount at) opens stops h = h
with_config before now flash s InUse opens stops h = h
with_config before now flash s Fault opens stops h = stopped_fault before now flash s opens stops h
with_config before now flash s Starved opens stops h = tt

pub session_fault : (before now : LineDeskState) (flash : FileFlashState) (its : Config)
    (s : ServerState FileFlashState) (it : LiveEnding) → its ≡ flash.config → OpensServer shown its flash s →
    WhereStopped (λ breach. ⊥) (BothTell (StopsAndCloses IsClosed s.config s.session) before.told now.told)
    (BothTell (StopsAndCloses IsLeft s.config s.session) before.told now.told) it →
    WhereFailed (FaultsClosing s.config before now s.session) (now.faults ≡ before.faults) it →
    WhereFailed (FaultsSession flash before now) (now.faults ≡ before.faults) it
session_fault before now flash its s it same opens stops h =
    let opened : OpensServer shown flash.config flash s = subst (λ x. OpensServer shown x flash s) same opens in
    with_config before now flash s it opened
    (subst
    (λ x. WhereStopped (λ breach. ⊥) (BothTell (StopsAndCloses IsClosed x s.session) before.told now.told)
    (BothTell (StopsAndCloses IsLeft x s.session) before.told now.told) it)
    opened.config stops)
    (subst
    (λ x. WhereFailed (FaultsClosing x before now s.session) (now.faults ≡ before.faults) it)
    opened.config h)

-- a flash that could not be served was closed
pub unopened_fault : (P : Type 0) (why : ServeError) (closed : Result (Unit {0}) Stop) (old new : LineDeskState) →
    new.faults ≡ old.faults → WhereFailed P (new.faults ≡ old.faults) (ending_unmounted why closed)
unopened_fault P (ended.Unsound law slot) (Ok done) old new same = same
unopened_fault P (ended.Unsound law slot) (Err stop.Fault) old new same = same
unopened_fault P (ended.Unsound law slot) (Err stop.Memory) old new same = tt
unopened_fault P ended.Memory closed old new same = tt

-- ---- the file

fails_told : (path : List ℕ) (flash : FileFlashState) (old new : Told) → IfSome old (OpensFile path flash) →
    BothTell (FailsFlash flash) (option_map (with_put (live_bytes flash)) (option_map (with_claim path) old)) new →
    BothTell (FailsFile (Some path)) old new
fails_told path flash None None opens h = tt
fails_told path flash None (Some b) opens h = absurd h
fails_told path flash (Some a) None opens h = absurd h
fails_told path flash (Some a) (Some b) opens h = (path, refl, inr (flash, opens, h))

held_fault : (path : List ℕ) (flash : FileFlashState) (old new : LineDeskState) →
    IfSome old.told (OpensFile path flash) → FaultsSession flash (begun path flash old) new → IsFaulted (Some path) old new
held_fault path flash old new opens (inl e) = let same : new.faults ≡ counted old.faults = e in inl (omega arith)
held_fault path flash old new opens (inr h) = inr (fails_told path flash old.told new.told opens h)

held_failed : (path : List ℕ) (flash : FileFlashState) (it : LiveEnding) (old new : LineDeskState) →
    IfSome old.told (OpensFile path flash) →
    WhereFailed (FaultsSession flash (begun path flash old) new) (new.faults ≡ (begun path flash old).faults) it →
    WhereFailed (IsFaulted (Some path) old new) (new.faults ≡ old.faults) it
held_failed path flash Closed old new opens h = tt
held_failed path flash BadLine old new opens h = tt
held_failed path flash (Refused why) old new opens h = h
held_failed path flash (BadCount at) old new opens h = h
held_failed path flash InUse old new opens h = h
held_failed path flash Fault old new opens h = held_fault path flash old new opens h
held_failed path flash Starved old new opens h = tt

-- a session was held on the flash of the file
pub file_fault : (old mid new : LineDeskState) (name : Option (List ℕ)) (path : List ℕ) (flash : FileFlashState)
    (it : LiveEnding) → name ≡ Some path → mid ≡ begun path flash old → IfSome old.told (OpensFile path flash) →
    WhereFailed (FaultsSession flash mid new) (new.faults ≡ mid.faults) it →
    WhereFailed (IsFaulted name old new) (new.faults ≡ old.faults) it
file_fault old mid new name path flash it named same opens h =
    subst (λ x. WhereFailed (IsFaulted x old new) (new.faults ≡ old.faults) it) (sym named)
    (held_failed path flash it old new opens
    (subst (λ (x : LineDeskState). WhereFailed (FaultsSession flash x new) (new.faults ≡ x.faults) it) same h))

store_failed : (path : List ℕ) (told : Told) →
    BothTell (FailsFile (Some path)) told (option_map (with_claim path) told)
store_failed path None = tt
store_failed path (Some a) = (path, refl, inl (refl, refl))

-- also where a live file was to be put there
put_failed : (path bytes : List ℕ) (told : Told) →
    BothTell (FailsFile (Some path)) told (option_map (with_put bytes) (option_map (with_claim path) told))
put_failed path bytes None = tt
put_failed path bytes (Some a) = (path, refl, inl (refl, refl))

not_opened_at : (path : List ℕ) (it : LiveEnding) (old new : LineDeskState) → IsNotOpened path it old new →
    WhereFailed (IsFaulted (Some path) old new) (new.faults ≡ old.faults) it
not_opened_at path Closed old new h = tt
not_opened_at path BadLine old new h = tt
not_opened_at path (Refused refusal.BadWords) old new h = absurd h
not_opened_at path (Refused (refusal.Missing name)) old new h = ap (λ (d : LineDeskState). d.faults) h.1
not_opened_at path (Refused (refusal.TooLong name)) old new h = ap (λ (d : LineDeskState). d.faults) h.1
not_opened_at path (Refused (refusal.BadImage rule)) old new h = ap (λ (d : LineDeskState). d.faults) h.0
not_opened_at path (Refused (refusal.Unsound breach)) old new h = absurd h
not_opened_at path (BadCount at) old new h = ap (λ (d : LineDeskState). d.faults) h.0
not_opened_at path InUse old new h = ap (λ (d : LineDeskState). d.faults) h.0
not_opened_at path Fault old new (inl h) =
    let same : new.faults ≡ counted old.faults = ap (λ (d : LineDeskState). d.faults) h in inl (omega arith)
not_opened_at path Fault old new (inr (inl h)) =
    inr (subst (BothTell (FailsFile (Some path)) old.told) (sym (ap (λ (d : LineDeskState). d.told) h))
    (store_failed path old.told))
not_opened_at path Fault old new (inr (inr h)) =
    inr (subst (BothTell (FailsFile (Some path)) old.told) (sym (ap (λ (d : LineDeskState). d.told) h.1))
    (put_failed path (live_bytes h.0) old.told))
not_opened_at path Starved old new h = tt

-- the file was not opened
pub not_opened_fault : (name : Option (List ℕ)) (path : List ℕ) (it : LiveEnding) (old new : LineDeskState) →
    name ≡ Some path → IsNotOpened path it old new →
    WhereFailed (IsFaulted name old new) (new.faults ≡ old.faults) it
not_opened_fault name path it old new named h =
    subst (λ x. WhereFailed (IsFaulted x old new) (new.faults ≡ old.faults) it) (sym named)
    (not_opened_at path it old new h)

-- ---- the status

-- a line that is tried leaves the count risen
tried : (n : ℕ) (mid new : LineDeskState) (text : List ℕ) → mid.faults ≡ counted n → Attempts mid new text →
    Rose n new.faults
tried n mid new text rose (result, says) = by_result result says
  where
    by_result : (result : Result (Unit {0}) CallError) → Says None mid new text result → Rose n new.faults
    by_result (Ok done) says = let same = ap (λ (d : LineDeskState). d.faults) says in omega arith
    by_result (Err call.Failed) says = let same = ap (λ (d : LineDeskState). d.faults) says.1 in omega arith
    by_result (Err call.Memory) says = absurd says

rose_tried : (n : ℕ) (mid new : LineDeskState) (text : List ℕ) → Rose n mid.faults → Attempts mid new text →
    Rose n new.faults
rose_tried n mid new text rose (result, says) = by_result result says
  where
    by_result : (result : Result (Unit {0}) CallError) → Says None mid new text result → Rose n new.faults
    by_result (Ok done) says = let same = ap (λ (d : LineDeskState). d.faults) says in omega arith
    by_result (Err call.Failed) says = let same = ap (λ (d : LineDeskState). d.faults) says.1 in omega arith
    by_result (Err call.Memory) says = absurd says

said_fails : (name : Option (List ℕ)) (it : Saying) (old mid : Told) → BothTell (FailsFile name) old mid →
    BothTell (FailsFile name) old (option_map (with_saying it) mid)
said_fails name it None None h = tt
said_fails name it None (Some b) h = absurd h
said_fails name it (Some a) None h = absurd h
said_fails name it (Some a) (Some b) h = h

fails_tried : (name : Option (List ℕ)) (old : Told) (mid new : LineDeskState) (text : List ℕ) →
    BothTell (FailsFile name) old mid.told → Attempts mid new text → BothTell (FailsFile name) old new.told
fails_tried name old mid new text h (result, says) = by_result result says
  where
    by_result : (result : Result (Unit {0}) CallError) → Says None mid new text result →
        BothTell (FailsFile name) old new.told
    by_result (Ok done) says =
        subst (BothTell (FailsFile name) old) (sym (ap (λ (d : LineDeskState). d.told) says))
        (said_fails name (record { text = text; flash = None }) old mid.told h)
    by_result (Err call.Failed) says =
        subst (BothTell (FailsFile name) old) (sym (ap (λ (d : LineDeskState). d.told) says.1))
        (said_fails name (record { text = take says.0 text; flash = None }) old mid.told h)
    by_result (Err call.Memory) says = absurd says

faulted_tried : (name : Option (List ℕ)) (old mid new : LineDeskState) (text : List ℕ) → IsFaulted name old mid →
    Attempts mid new text → IsFaulted name old new
faulted_tried name old mid new text (inl rose) a = inl (rose_tried old.faults mid new text rose a)
faulted_tried name old mid new text (inr h) a = inr (fails_tried name old.told mid new text h a)

speaks_fault : (name : Option (List ℕ)) (old mid new : LineDeskState) (text : List ℕ) (status answer : ℕ) →
    (status ≡ 5 → ⊥) → mid.faults ≡ old.faults → Speaks mid new text status answer → answer ≡ 5 →
    IsFaulted name old new
speaks_fault name old mid new text status answer other same (inl s) five = absurd (other (sym s.0 ∙ five))
speaks_fault name old mid new text status answer other same (inr (inl s)) five =
    inl (tried old.faults s.0 new (line (codes "desk fault"))
    (ap (λ (d : LineDeskState). d.faults) s.1.1 ∙ ap counted same) s.2.1)
speaks_fault name old mid new text status answer other same (inr (inr s)) five = absurd s.1

image_not_five : (why : ImageEnding) → image_status why ≡ 5 → ⊥
image_not_five refusal.BadWords h = absurd (omega (arith, h))
image_not_five (refusal.Missing name) h = absurd (omega (arith, h))
image_not_five (refusal.TooLong name) h = absurd (omega (arith, h))
image_not_five (refusal.BadImage rule) h = absurd (omega (arith, h))
image_not_five (refusal.Unsound breach) h = absurd (omega (arith, h))

in_use_fault : (name : Option (List ℕ)) (old mid new : LineDeskState) (answer : ℕ) → mid.faults ≡ old.faults →
    Speaks mid new (line (codes "in use")) IN_USE answer → answer ≡ 5 → IsFaulted name old new
in_use_fault name old mid new answer same s five =
    speaks_fault name old mid new (line (codes "in use")) IN_USE answer (λ z. absurd (omega (arith, z))) same s five

pub ends_fault : (name : Option (List ℕ)) (it : LiveEnding) (old mid new : LineDeskState) (answer : ℕ) →
    EndsSo it mid new answer → WhereFailed (IsFaulted name old mid) (mid.faults ≡ old.faults) it → answer ≡ 5 →
    IsFaulted name old new
ends_fault name Closed old mid new answer e h five = absurd (omega (arith, e.0, five))
ends_fault name BadLine old mid new answer e h five = absurd (omega (arith, e.0, five))
ends_fault name (Refused why) old mid new answer (inl e) h five =
    speaks_fault name old mid new (image_line why) (image_status why) answer (image_not_five why) h e five
ends_fault name (Refused why) old mid new answer (inr e) h five = absurd (omega (arith, e.0, five))
ends_fault name (BadCount at) old mid new answer (inl e) h five =
    speaks_fault name old mid new (count_line at.0) 3 answer (λ z. absurd (omega (arith, z))) h e five
ends_fault name (BadCount at) old mid new answer (inr e) h five = absurd (omega (arith, e.0, five))
ends_fault name InUse old mid new answer e h five = in_use_fault name old mid new answer h e five
ends_fault name Fault old mid new answer e h five = faulted_tried name old mid new (line (codes "desk fault")) h e.1
ends_fault name Starved old mid new answer e h five = absurd (omega (arith, e.0, five))
