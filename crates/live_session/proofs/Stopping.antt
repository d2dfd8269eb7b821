-- What was said where a session was stopped.
use Rattle.std.proofs.Common.{◌≡◌, ℕ, ◌+◌, Bool, true, false, ◌&&◌, List, [], ◌∷◌, Option, None, Some, Result, Ok, Err, IfSome, IfOk, OnErr, MatchBool, refl, sym, subst, ap, ◌∙◌, option_map, inl, inr, ◌⊎◌, ◌++◌, slice_get}
use Rattle.std.proofs.lemmas.Bool.{false≢true}
use denote.Enum.Bare.{sameb}
use Rattle.tx_types.specs.Config.{shape_of}
use Rattle.tx_types.specs.declared.config.Config.{Config}
use Rattle.record_list.specs.declared.found.Breach.{Breach}
use Rattle.judged_records.specs.Images.{IsLeastImageBreach}
use Rattle.flash_model.specs.Flash.{FlashState}
use Rattle.flash_model.specs.Operations.{moment_of}
use Rattle.flash_model.specs.declared.cached.NotDurable.{NotDurable}
use Rattle.host_protocol.specs.Files.{IsFile}
use Rattle.host_protocol.specs.Replies.{text_of}
use Rattle.host_protocol.specs.declared.command.Command.{Command}
use Rattle.host_protocol.specs.declared.reply.Reply.{Reply}
use Rattle.mounted_session.specs.Devices.{MountsIn}
use Rattle.mounted_session.specs.Mounting.{MeetsFault, StaysQuiet}
use Rattle.mounted_session.specs.Sessions as first
use Rattle.mounted_session.specs.Sessions.{is_mounted}
use Rattle.mounted_session.specs.declared.session.Session.TheVariants as session
use Rattle.tx_types.specs.declared.config.Slot.{Slot}
use Rattle.cut_replay.specs.EndsLost.{EndsLost}
use Rattle.cut_replay.specs.FlashCalls.{MountsFlash}
use Rattle.cut_replay.specs.FlashRun.{Point, first_point, last_point}
use Rattle.cut_replay.specs.ServerCalls.{EndsNext, FlushesServer, OpensServer}
use Rattle.cut_replay.specs.ServerRuns.{IsServed, RunsOn}
use Rattle.cut_replay.specs.ServerState.{ServerState}
use Rattle.cut_replay.specs.Sessions.{EndsFor, EndsForMemory, EndsServing, Refuses, Unmounted, flash_in, point_of}
use Rattle.cut_replay.specs.declared.server.NextError.{NextError}
use Rattle.cut_replay.specs.declared.server.NextError.TheVariants as unserved
use Rattle.cut_replay.specs.declared.serving.ServeError.{ServeError}
use Rattle.cut_replay.specs.declared.serving.ServeError.TheVariants as ended
use Rattle.cut_replay.proofs.Flushes.{flushed_ends}
use Rattle.program_base.specs.Refusals as refusal
use Rattle.file_flash.specs.FileFlashState.{FileFlashState, untold}
use Rattle.live_session.specs.declared.answering.Stop.{Stop}
use Rattle.live_session.specs.declared.answering.Stop.TheVariants as stop
use Rattle.live_session.specs.declared.desk.CallError.{CallError}
use Rattle.live_session.specs.declared.desk.CallError.TheVariants as call
use Rattle.live_session.specs.contracts.desk.Next.{the_type}
use Rattle.live_session.specs.declared.desk.Next.{Next}
use Rattle.live_session.specs.declared.desk.Next.TheVariants as next
use Rattle.live_session.specs.Endings.{LiveEnding, Closed, BadLine, Refused, BadCount, InUse, Fault, Starved}
use Rattle.live_session.specs.LineDesk.{BothTell, DeskTold, LineDeskState, ReadsLine, Saying, Says, after, with_input, with_saying}
use Rattle.live_session.specs.Closing.{ClosesFlash}
use Rattle.live_session.specs.Opening.{OpensFile, begun}
use Rattle.live_session.specs.Saying.{IsClosed, IsLeft, put_if, with_closed}
use Rattle.live_session.specs.Sessions.{ending_after, ending_unmounted}
use Rattle.live_session.specs.Talks.{IsHeld, IsSession, IsStoppedOrNone, IsUnbegun, IsUnsound, Rests, begins, plain, bad_line, serving, shorter, shown}
use Rattle.live_session.specs.Hearing.{AnswersCommand, AnswersFirst, AnswersLine, FileSession, Hears, HearsAll, HearsPartOrNone, IsCutOff, RestsBy, StopsAndCloses, StopsCommand, StopsLine, StopsPiece, StopsSaying, WhereClosed, WhereStopped}
use Rattle.live_session.specs.Top.{Calls, held}
use Rattle.live_session.proofs.Talking.{answers_command, goes_on, heard_piece, leads, point_shows}

abbrev Told : Type 0
Told = Option DeskTold

pub on_err : {A E : Type 0} (r : Result A E) (P : Type 0) → P → OnErr r P
on_err (Ok a) P h = tt
on_err (Err e) P h = h

-- ---- a saying

pub says_stops : (flash : Option FileFlashState) (old new : LineDeskState) (text : List ℕ) (error : CallError) →
    Says flash old new text (Err error) → StopsSaying (record { text = text; flash = flash }) old.told new.told
says_stops flash old new text call.Failed says = inr (says.0, ap (λ d. d.told) says.1)
says_stops flash old new text call.Memory says = absurd says

-- ---- a command

-- a command was not served
pub rests_unserved : (its : Config) (c : Command) (old first new : ServerState FileFlashState)
    (flushed : Result (Unit {0}) NotDurable) (e : NextError) → FlushesServer shown its old first →
    EndsNext shown its c first flushed new e → RestsBy its old.session new.session
rests_unserved its c old first new flushed unserved.NotDurable stays h =
    inl (ap (λ (s : ServerState FileFlashState). shown (flash_in s.session)) h.1 ∙ stays.shows)
rests_unserved its c old first new flushed (unserved.Ended why) stays h =
    inr (inr (
      c,
      why,
      flushed_ends shown its c old.session first.session (flash_in new.session) why stays.session
          h.1.ends,
    ))

-- a command was served, and its reply was not said
pub rests_served : (its kept : Config) (c : Command) (old mid new : FileSession) (served : Reply) → kept ≡ its →
    RunsOn shown its c old served mid →
    ((init : FlashState) (cs : List Command) (rs : List Reply) (ps : List Point) →
    IsServed shown kept init cs rs ps mid → IsServed shown kept init cs rs ps new) → RestsBy its old new
rests_served its kept c old mid new served same runs flushes =
    inr (inl (c, served, point_of shown its mid, goes_on its kept c old mid new served same runs flushes))

-- a command ended serving
pub rests_ended : (its : Config) (c : Command) (old new : FileSession) (why : ServeError) →
    EndsServing shown its c old (flash_in new) why → RestsBy its old new
rests_ended its c old new why ends = inr (inr (c, why, ends))

pub stops_command : (its kept : Config) (c : Command) (old mid new : FileSession) (served reply : Reply)
    (text : List ℕ) (flash : FileFlashState) (before said : LineDeskState) (error : CallError) → kept ≡ its →
    RunsOn shown its c old served mid →
    ((init : FlashState) (cs : List Command) (rs : List Reply) (ps : List Point) →
    IsServed shown kept init cs rs ps mid → IsServed shown kept init cs rs ps new) →
    shown (flash_in new) ≡ shown (flash_in mid) → reply ≡ served → flash ≡ flash_in new → text ≡ text_of reply →
    Says (Some flash) before said text (Err error) → StopsCommand its c before.told old said.told new
stops_command its kept c old mid new served reply text flash before said call.Failed same runs flushes shows opens is
    says h =
    let it : Saying = record { text = text; flash = Some flash } in
    let all = after (with_saying it) before in
    inr (
      all.told,
      answers_command its kept c old mid new served reply text flash before all same runs flushes shows opens is says
          refl,
      (it, h.0, refl, ap (λ d. d.told) h.1),
    )
stops_command its kept c old mid new served reply text flash before said call.Memory same runs flushes shows opens is
    says h =
    absurd h

-- ---- a line

abbrev or_one : Command → Option Command → Command
or_one c None = c
or_one c (Some d) = d

abbrev is_some_one : Option Command → Bool
is_some_one None = false
is_some_one (Some c) = true

none_some : (c : Command) → Some c ≡ None → ⊥
none_some c e = false≢true (sym (ap is_some_one e))

first_answered : (its : Config) (cs : List Command) (c : Command) (told told' : Told) (old new : FileSession) →
    Some c ≡ slice_get cs 0 → AnswersCommand its c told old told' new → AnswersFirst its cs told old told' new
first_answered its [] c told told' old new e w = absurd (none_some c e)
first_answered its (d ∷ cs) c told told' old new e w =
    subst (λ x. AnswersCommand its x told old told' new) (ap (or_one c) e) w

pub stops_line : (its : Config) (line : List ℕ) (cs : List Command) (c : Command) (told told' : Told)
    (old new : FileSession) → IsFile its.page_bytes line cs → Some c ≡ slice_get cs 0 →
    StopsCommand its c told old told' new → StopsLine its line told old told' new
stops_line its line cs c told told' old new file e (inl same) = inl same
stops_line its line cs c told told' old new file e (inr w) =
    inr (w.0, (cs, file, first_answered its cs c told w.0 old new e w.1), w.2)

-- ---- a piece

pub is_line : (it : Next) → true ≡ sameb the_type it next.Line → it ≡ next.Line
is_line next.Line h = refl
is_line next.LongLine h = absurd (false≢true (sym h))
is_line next.Part h = absurd (false≢true (sym h))
is_line next.End h = absurd (false≢true (sym h))

pub not_line : (it : Next) → false ≡ sameb the_type it next.Line → it ≡ next.Line → ⊥
not_line it h e = false≢true (h ∙ ap (λ x. sameb the_type x next.Line) e)

-- a line that is bad was left as it was
pub answered_bad : (its : Config) (line : List ℕ) (good : Bool) (told : Told) (old : FileSession) (told' : Told)
    (new : FileSession) → good ≡ false → AnswersLine its line good told old told' new →
    ((cs : List Command) → IsFile its.page_bytes line cs → ⊥) × (told' ≡ told) × (new ≡ old)
answered_bad its line true told old told' new bad h = absurd (false≢true (sym bad))
answered_bad its line false told old told' new bad h = h

pub stops_good : (its : Config) (it : Next) (line : List ℕ) (n : ℕ) (told told' : Told) (old new : FileSession) →
    it ≡ next.Line → StopsLine its line told old told' new → StopsPiece its it line n told old told' new
stops_good its it line n told told' old new is (inl same) = inl same
stops_good its it line n told told' old new is (inr w) = inr (true, w.0, (is, w.1), w.2)

pub stops_bad : (its : Config) (it : Next) (line : List ℕ) (n : ℕ) (told told' : Told) (old new : FileSession) →
    (it ≡ next.Line → (cs : List Command) → IsFile its.page_bytes line cs → ⊥) → new ≡ old →
    StopsSaying (plain (bad_line n)) told told' → StopsPiece its it line n told old told' new
stops_bad its it line n told told' old new none stays (inl same) = inl (same, inl (ap (λ s. shown (flash_in s)) stays))
stops_bad its it line n told told' old new none stays (inr cut) =
    inr (
      false,
      option_map (with_saying (plain (bad_line n))) told,
      (none, refl, stays),
      (plain (bad_line n), cut.0, refl, cut.1),
    )

-- ---- all lines

none_said : (its : Config) (s : FileSession) (told : Told) → BothTell (HearsPartOrNone its s s) told told
none_said its s None = tt
none_said its s (Some a) = inl (refl, refl, refl, refl)

pub part_none : (its : Config) (s : FileSession) (old new : Told) → new ≡ old →
    BothTell (HearsPartOrNone its s s) old new
part_none its s old new same = subst (BothTell (HearsPartOrNone its s s) old) (sym same) (none_said its s old)

part_begun : (its : Config) (s : FileSession) (old : Told) (n : ℕ) → is_mounted s ≡ true →
    BothTell (HearsPartOrNone its s s) old (option_map (with_saying (shorter n serving)) old)
part_begun its s None n up = tt
part_begun its s (Some a) n up = inr (record {
  number = 1;
  good = true;
  end = s;
  reached = with_saying serving a;
  hears = record { cs = []; rs = []; ps = []; talk = begins; claims = refl; puts = refl; runs = λ init h. h };
  mounted = up;
  said = inr (a.sayings, serving, n, refl, inr refl);
  claims = refl;
  puts = refl;
  rests = inl refl;
})

pub part_begins : (its : Config) (s : FileSession) (old new : Told) → is_mounted s ≡ true →
    StopsSaying serving old new → BothTell (HearsPartOrNone its s s) old new
part_begins its s old new up (inl same) = part_none its s old new same
part_begins its s old new up (inr cut) =
    subst (BothTell (HearsPartOrNone its s s) old) (sym cut.1) (part_begun its s old cut.0 up)

part_at : (its : Config) (good : Bool) (s t u : FileSession) (n : ℕ) (old a : Told) → is_mounted s ≡ true →
    BothTell (Hears its good s t n) (option_map (with_saying serving) old) a → RestsBy its t u →
    BothTell (HearsPartOrNone its s u) old a
part_at its good s t u n None None up h rests = tt
part_at its good s t u n None (Some b) up h rests = absurd h
part_at its good s t u n (Some a) None up h rests = absurd h
part_at its good s t u n (Some a) (Some b) up h rests = inr (record {
  number = n;
  good = good;
  end = t;
  reached = b;
  hears = h;
  mounted = up;
  said = inl refl;
  claims = h.claims;
  puts = h.puts;
  rests = rests;
})

part_read : (its : Config) (s t : FileSession) (old a : Told) (rest : List ℕ) →
    BothTell (HearsPartOrNone its s t) old a → BothTell (HearsPartOrNone its s t) old (option_map (with_input rest) a)
part_read its s t None None rest h = tt
part_read its s t None (Some b) rest h = absurd h
part_read its s t (Some a) None rest h = absurd h
part_read its s t (Some a) (Some b) rest (inl same) = inl same
part_read its s t (Some a) (Some b) rest (inr h) = inr (record {
  number = h.number;
  good = h.good;
  end = h.end;
  reached = h.reached;
  hears = h.hears;
  mounted = h.mounted;
  said = h.said;
  claims = h.claims;
  puts = h.puts;
  rests = h.rests;
})

part_left : (IsShut : FileFlashState → Type 0) (its : Config) (s t : FileSession) (old a : Told)
    (left : FileFlashState) (put : Bool) → left.memory ≡ (flash_in t).memory → IsShut left →
    BothTell (HearsPartOrNone its s t) old a →
    BothTell (StopsAndCloses IsShut its s) old (option_map (with_closed put left) a)
part_left IsShut its s t None None left put stays closed h = tt
part_left IsShut its s t None (Some b) left put stays closed h = absurd h
part_left IsShut its s t (Some a) None left put stays closed h = absurd h
part_left IsShut its s t (Some a) (Some b) left put stays closed h = record {
  end = t;
  left = left;
  reached = b;
  part = h;
  put = put;
  closes = refl;
  stays = stays;
  closed = closed;
}

part_cut_at : (its : Config) (good : Bool) (s u : FileSession) (n k : ℕ) (old mid : Told) (it : Saying) →
    is_mounted s ≡ true →
    BothTell (Hears its good s u n) (option_map (with_saying serving) old) (option_map (with_saying it) mid) →
    BothTell (HearsPartOrNone its s u) old (option_map (with_saying (shorter k it)) mid)
part_cut_at its good s u n k None None it up h = tt
part_cut_at its good s u n k None (Some m) it up h = absurd h
part_cut_at its good s u n k (Some a) None it up h = absurd h
part_cut_at its good s u n k (Some a) (Some m) it up h = inr (record {
  number = n;
  good = good;
  end = u;
  reached = with_saying it m;
  hears = h;
  mounted = up;
  said = inr (m.sayings, it, k, refl, inr refl);
  claims = h.claims;
  puts = h.puts;
  rests = inl refl;
})

part_cut : (its : Config) (good : Bool) (s u : FileSession) (n : ℕ) (old mid all told : Told) → is_mounted s ≡ true →
    BothTell (Hears its good s u n) (option_map (with_saying serving) old) all → IsCutOff mid all told →
    BothTell (HearsPartOrNone its s u) old told
part_cut its good s u n old mid all told up h cut =
    subst (BothTell (HearsPartOrNone its s u) old) (sym cut.3)
    (part_cut_at its good s u n cut.1 old mid cut.0 up
    (subst (BothTell (Hears its good s u n) (option_map (with_saying serving) old)) cut.2 h))

part_now : (its : Config) (good : Bool) (s t u : FileSession) (n : ℕ) (old first a : Told) → is_mounted s ≡ true →
    first ≡ option_map (with_saying serving) old → BothTell (Hears its good s t n) first a → RestsBy its t u →
    BothTell (HearsPartOrNone its s u) old a
part_now its good s t u n old first a up begun h rests =
    part_at its good s t u n old a up (subst (λ x. BothTell (Hears its good s t n) x a) begun h) rests

-- no line came any more
pub part_here : (its : Config) (good : Bool) (s t : FileSession) (n : ℕ) (old first a : Told) → is_mounted s ≡ true →
    first ≡ option_map (with_saying serving) old → BothTell (Hears its good s t n) first a →
    BothTell (HearsPartOrNone its s t) old a
part_here its good s t n old first a up begun h = part_now its good s t t n old first a up begun h (inl refl)

-- the next line could not be read
pub part_unread : (its : Config) (good : Bool) (s t : FileSession) (n : ℕ) (old first : Told) (a now : LineDeskState)
    (line : List ℕ) (error : CallError) → is_mounted s ≡ true → first ≡ option_map (with_saying serving) old →
    BothTell (Hears its good s t n) first a.told → ReadsLine a now line (Err error) →
    BothTell (HearsPartOrNone its s t) old now.told
part_unread its good s t n old first a now line call.Failed up begun h reads =
    subst (BothTell (HearsPartOrNone its s t) old) (sym (ap (λ d. d.told) reads.1))
    (part_read its s t old a.told reads.0 (part_here its good s t n old first a.told up begun h))
part_unread its good s t n old first a now line call.Memory up begun h reads =
    subst (BothTell (HearsPartOrNone its s t) old) (sym (ap (λ d. d.told) reads.1))
    (part_read its s t old a.told reads.0 (part_here its good s t n old first a.told up begun h))

-- it was read, and answering it stopped
pub part_piece : (its : Config) (good : Bool) (s t u : FileSession) (n : ℕ) (old first : Told) (a mid : LineDeskState)
    (told : Told) (it : Next) (line : List ℕ) → is_mounted s ≡ true → first ≡ option_map (with_saying serving) old →
    BothTell (Hears its good s t n) first a.told → ReadsLine a mid line (Ok it) → (it ≡ next.End → ⊥) →
    StopsPiece its it line n mid.told t told u → BothTell (HearsPartOrNone its s u) old told
part_piece its good s t u n old first a mid told it line up begun h reads more (inl w) =
    subst (BothTell (HearsPartOrNone its s u) old) (sym (w.0 ∙ ap (λ d. d.told) reads.1))
    (part_read its s u old a.told reads.0 (part_now its good s t u n old first a.told up begun h w.1))
part_piece its good s t u n old first a mid told it line up begun h reads more (inr w) =
    part_cut its (w.0 && good) s u (n + 1) old mid.told w.1 told up
    (subst (λ x. BothTell (Hears its (w.0 && good) s u (n + 1)) x w.1) begun
    (heard_piece first a mid w.1 its good w.0 s t u n it line h reads more w.2))
    w.3

-- ---- closing

all_part : (its : Config) (good : Bool) (s t : FileSession) (old a : Told) → BothTell (HearsAll its good s t) old a →
    BothTell (HearsPartOrNone its s t) old a
all_part its good s t None None h = tt
all_part its good s t None (Some b) h = absurd h
all_part its good s t (Some a) None h = absurd h
all_part its good s t (Some a) (Some b) h = inr (record {
  number = h.number;
  good = good;
  end = t;
  reached = b;
  hears = h.hears;
  mounted = h.mounted;
  said = inl refl;
  claims = h.hears.claims;
  puts = h.hears.puts;
  rests = inl refl;
})

closed_part : (IsShut : FileFlashState → Type 0) (flash : FileFlashState) (old : Told) (its config : Config)
    (s t : FileSession) (closed : Result (Unit {0}) Stop) (mid new : LineDeskState) → flash ≡ flash_in t →
    (c : ClosesFlash flash mid new closed config) → IsShut c.left → BothTell (HearsPartOrNone its s t) old mid.told →
    BothTell (StopsAndCloses IsShut its s) old new.told
closed_part IsShut flash old its config s t closed mid new at c shut h =
    subst (BothTell (StopsAndCloses IsShut its s) old) (sym c.leaves)
    (part_left IsShut its s t old mid.told c.left c.put (c.stays ∙ ap (λ (f : FileFlashState). f.memory) at) shut h)

-- no call was stopped for want of memory
not_starved : (closed : Result (Unit {0}) Stop) → closed ≡ Ok tt ⊎ closed ≡ Err stop.Fault → closed ≡ Err stop.Memory → ⊥
not_starved closed (inl e) h = absurd (cc)
not_starved closed (inr e) h = absurd (cc)

pub heard_part : (flash : FileFlashState) (old : Told) (its config : Config) (s t : FileSession)
    (answered : Result Bool Stop) (closed : Result (Unit {0}) Stop) (same : Bool) (mid new : LineDeskState) →
    IfOk answered (λ good. BothTell (HearsAll its good s t) old mid.told) →
    OnErr answered (BothTell (HearsPartOrNone its s t) old mid.told) → flash ≡ flash_in t →
    ClosesFlash flash mid new closed config →
    WhereStopped (λ breach. ⊥) (BothTell (StopsAndCloses IsClosed its s) old new.told)
    (BothTell (StopsAndCloses IsLeft its s) old new.told) (ending_after answered closed same)
heard_part flash old its config s t (Err stop.Memory) closed same mid new h stops at c =
    closed_part IsLeft flash old its config s t closed mid new at c c.kept stops
heard_part flash old its config s t (Err stop.Fault) (Ok done) same mid new h stops at c =
    closed_part IsClosed flash old its config s t (Ok done) mid new at c (c.closed (not_starved (Ok done) (inl refl)))
    stops
heard_part flash old its config s t (Err stop.Fault) (Err stop.Fault) same mid new h stops at c =
    closed_part IsClosed flash old its config s t (Err stop.Fault) mid new at c
    (c.closed (not_starved (Err stop.Fault) (inr refl))) stops
heard_part flash old its config s t (Err stop.Fault) (Err stop.Memory) same mid new h stops at c =
    closed_part IsLeft flash old its config s t (Err stop.Memory) mid new at c c.kept stops
heard_part flash old its config s t (Ok good) (Err stop.Fault) same mid new h stops at c =
    closed_part IsClosed flash old its config s t (Err stop.Fault) mid new at c
    (c.closed (not_starved (Err stop.Fault) (inr refl))) (all_part its good s t old mid.told h)
heard_part flash old its config s t (Ok good) (Err stop.Memory) same mid new h stops at c =
    closed_part IsLeft flash old its config s t (Err stop.Memory) mid new at c c.kept
    (all_part its good s t old mid.told h)
heard_part flash old its config s t (Ok good) (Ok done) false mid new h stops at c =
    closed_part IsClosed flash old its config s t (Ok done) mid new at c (c.closed (not_starved (Ok done) (inl refl)))
    (all_part its good s t old mid.told h)
heard_part flash old its config s t (Ok true) (Ok done) true mid new h stops at c = tt
heard_part flash old its config s t (Ok false) (Ok done) true mid new h stops at c = tt

-- ---- the session of a flash

where_stopped_too : (U V : Breach → Type 0) (P Q R S : Type 0) → ((breach : Breach) → U breach → V breach) →
    (P → R) → (Q → S) → (it : LiveEnding) → WhereStopped U P Q it → WhereStopped V R S it
where_stopped_too U V P Q R S at to too Closed h = tt
where_stopped_too U V P Q R S at to too BadLine h = tt
where_stopped_too U V P Q R S at to too (Refused refusal.BadWords) h = absurd h
where_stopped_too U V P Q R S at to too (Refused (refusal.Missing name)) h = absurd h
where_stopped_too U V P Q R S at to too (Refused (refusal.TooLong name)) h = absurd h
where_stopped_too U V P Q R S at to too (Refused (refusal.BadImage rule)) h = absurd h
where_stopped_too U V P Q R S at to too (Refused (refusal.Unsound breach)) h = at breach h
where_stopped_too U V P Q R S at to too (BadCount slot) h = absurd h
where_stopped_too U V P Q R S at to too InUse h = absurd h
where_stopped_too U V P Q R S at to too Fault h = to h
where_stopped_too U V P Q R S at to too Starved h = too h

-- and no line was read
abbrev IsUnread : (FileFlashState → Type 0) → FileFlashState → DeskTold → DeskTold → Type 0
IsUnread IsShut flash old new = IsUnbegun IsShut flash old new × (new.input ≡ old.input)

unbegun_at : (IsShut : FileFlashState → Type 0) (flash left : FileFlashState) (put : Bool) (old : Told) →
    moment_of (shown left) ≡ moment_of (shown flash) → IsShut left →
    BothTell (IsUnread IsShut flash) old (option_map (with_closed put left) old)
unbegun_at IsShut flash left put None rests closed = tt
unbegun_at IsShut flash left put (Some a) rests closed = (
  record {
    said = refl;
    left = left;
    leaves = refl;
    rests = rests;
    closed = closed;
    claims = refl;
    put = put;
    puts = refl;
  },
  refl,
)

also_told : (P Q : DeskTold → DeskTold → Type 0) (old new : Told) →
    ((a b : DeskTold) → P a b → Q a b) → BothTell P old new → BothTell Q old new
also_told P Q None None to h = tt
also_told P Q None (Some b) to h = absurd h
also_told P Q (Some a) None to h = absurd h
also_told P Q (Some a) (Some b) to h = to a b h

refused_still : (its : Config) (flash met : FileFlashState) (why : ServeError) → Unmounted shown its flash met why →
    moment_of (shown met) ≡ moment_of (shown flash)
refused_still its flash met (ended.Unsound law slot) h = h.0.still.moment
refused_still its flash met ended.Memory h = h.still.moment

module _ (its : Config) (flash met : FileFlashState) (old : LineDeskState) (same : its ≡ flash.config) where
  unread : (IsShut : FileFlashState → Type 0) (why : ServeError) (closed : Result (Unit {0}) Stop) (config : Config)
      (new : LineDeskState) → Unmounted shown its flash met why → (c : ClosesFlash met old new closed config) →
      IsShut c.left → BothTell (IsUnread IsShut flash) old.told new.told
  unread IsShut why closed config new unmounted c shut =
      subst (BothTell (IsUnread IsShut flash) old.told) (sym c.leaves)
      (unbegun_at IsShut flash c.left c.put old.told
      (ap (λ m. moment_of (untold m)) c.stays ∙ refused_still its flash met why unmounted) shut)

  unsound : (law : ℕ) (slot : Slot) (new : Told) → Unmounted shown its flash met (ended.Unsound law slot) →
      BothTell (IsUnread IsClosed flash) old.told new →
      BothTell (IsUnsound flash (record { law = law; slot = slot })) old.told new
  unsound law slot new h begun =
      let breach : Breach = record { law = law; slot = slot } in
      also_told (IsUnread IsClosed flash) (IsUnsound flash breach) old.told new
      (λ a b u. (
        u.0,
        u.1,
        subst (λ x. IsLeastImageBreach x.protocol x.logical (shape_of x) flash.memory.image breach) same h.1,
      ))
      begun

  none : (IsShut : FileFlashState → Type 0) (new : Told) → BothTell (IsUnread IsShut flash) old.told new →
      BothTell (IsStoppedOrNone IsShut flash) old.told new
  none IsShut new begun =
      also_told (IsUnread IsShut flash) (IsStoppedOrNone IsShut flash) old.told new (λ a b u. inl u.0) begun

  -- a flash that could not be served was closed, and nothing was said
  pub unopened_said : (why : ServeError) (closed : Result (Unit {0}) Stop) (config : Config) (new : LineDeskState) →
      Unmounted shown its flash met why → ClosesFlash met old new closed config →
      WhereStopped (λ breach. BothTell (IsUnsound flash breach) old.told new.told)
      (BothTell (IsStoppedOrNone IsClosed flash) old.told new.told)
      (BothTell (IsStoppedOrNone IsLeft flash) old.told new.told) (ending_unmounted why closed)
  unopened_said (ended.Unsound law slot) (Ok done) config new h c =
      unsound law slot new.told h
      (unread IsClosed (ended.Unsound law slot) (Ok done) config new h c
      (c.closed (not_starved (Ok done) (inl refl))))
  unopened_said (ended.Unsound law slot) (Err stop.Fault) config new h c =
      unsound law slot new.told h
      (unread IsClosed (ended.Unsound law slot) (Err stop.Fault) config new h c
      (c.closed (not_starved (Err stop.Fault) (inr refl))))
  unopened_said (ended.Unsound law slot) (Err stop.Memory) config new h c =
      none IsLeft new.told (unread IsLeft (ended.Unsound law slot) (Err stop.Memory) config new h c c.kept)
  unopened_said ended.Memory closed config new h c =
      none IsLeft new.told (unread IsLeft ended.Memory closed config new h c c.kept)

-- ---- what is left

moment_begun : (its : Config) (old first : FlashState) (up live : Bool) →
    MatchBool live (MountsFlash its up old first) ((up ≡ false) × (first ≡ old)) → moment_of first ≡ moment_of old
moment_begun its old first up true h = h.moment
moment_begun its old first up false h = ap moment_of h.1

-- the session of a flash that is alone
abbrev alone : FileFlashState → FileSession
alone flash = session.Unmounted flash

moment_alone : (its : Config) (flash new : FileFlashState) (live : Bool) →
    MatchBool live (MeetsFault (shown flash) (shown new))
    (alone new ≡ alone flash) → moment_of (shown new) ≡ moment_of (shown flash)
moment_alone its flash new true h = h.still.moment
moment_alone its flash new false h = ap (λ s. moment_of (shown (flash_in s))) h

moment_served : (its : Config) (flash : FileFlashState) (t : FileSession) →
    IsServed shown its (shown flash) [] [] [] t → moment_of (shown (flash_in t)) ≡ moment_of (shown flash)
moment_served its flash t served =
    ap moment_of (sym (point_shows its t) ∙ ap (λ p. p.flash) served.last)
    ∙ moment_begun its (shown flash) served.run.flash served.run.up (shown flash).live served.begins

-- opening leaves the flash as it was but for reads
moment_opened : (flash : FileFlashState) (s : ServerState FileFlashState) (t : FileSession) → t ≡ s.session →
    OpensServer shown flash.config flash s → moment_of (shown (flash_in t)) ≡ moment_of (shown flash)
moment_opened flash s (session.Mounted d) e opens =
    moment_served flash.config flash (session.Mounted d)
    (subst (IsServed shown flash.config (shown flash) [] [] []) (sym e)
    (opens.served (opens.mounted (sym (ap is_mounted e)))))
moment_opened flash s (session.Unmounted new) e opens =
    moment_alone flash.config flash new (shown flash).live
    (subst (λ x. first.MountsFirst shown (MountsIn shown flash.config) flash x) (sym e) opens.first.mounts)

ends_in : (its : Config) (flash left : FileFlashState) (cs : List Command) (rs : List Reply) (ps : List Point)
    (c : Command) (t : FileSession) → (served : IsServed shown its (shown flash) cs rs ps t) →
    EndsForMemory shown its c t left →
    StaysQuiet (last_point (first_point its served.run.up served.run.flash) ps).flash (shown left)
    ⊎ EndsLost its c (last_point (first_point its served.run.up served.run.flash) ps) (shown left)
ends_in its flash left cs rs ps c t served (inl still) =
    inl (subst (λ x. StaysQuiet x (shown left)) (sym (point_shows its t) ∙ ap (λ p. p.flash) served.last) still)
ends_in its flash left cs rs ps c t served (inr lost) =
    inr (subst (λ x. EndsLost its c x (shown left)) served.last lost)

still_refused : (its : Config) (s : FileSession) (flash : FileFlashState) (law : ℕ) (slot : Slot) →
    Refuses shown its s flash law slot → StaysQuiet (shown (flash_in s)) (shown flash)
still_refused its (session.Mounted d) flash law slot h = absurd h
still_refused its (session.Unmounted old) flash law slot h = h.0

ends_for : (its : Config) (c : Command) (s : FileSession) (flash : FileFlashState) (why : ServeError) →
    EndsFor shown its c s flash why → EndsForMemory shown its c s flash
ends_for its c s flash (ended.Unsound law slot) h = inl (still_refused its s flash law slot h)
ends_for its c s flash ended.Memory h = h

rests_at : (its : Config) (flash left : FileFlashState) (cs : List Command) (rs : List Reply) (ps : List Point)
    (s t : FileSession) → IsServed shown its (shown flash) cs rs ps s → left.memory ≡ (flash_in t).memory →
    RestsBy its s t → Rests its (shown flash) (shown left) cs rs ps
rests_at its flash left cs rs ps s t served stays (inl same) = inl (record {
  run = served.run;
  begins = served.begins;
  last = sym (ap (λ p. p.flash) served.last) ∙ (point_shows its s ∙ (sym same ∙ sym (ap untold stays)));
})
rests_at its flash left cs rs ps s t served stays (inr (inl w)) = inr (inl (record {
  c = w.0;
  r = w.1;
  p = w.2;
  leads = leads its flash left (cs ++ w.0 ∷ []) (rs ++ w.1 ∷ []) (ps ++ w.2 ∷ []) t
      (w.3 (shown flash) cs rs ps served) stays;
}))
rests_at its flash left cs rs ps s t served stays (inr (inr w)) = inr (inr (record {
  run = served.run;
  begins = served.begins;
  c = w.0;
  ends = subst
      (λ m. StaysQuiet (last_point (first_point its served.run.up served.run.flash) ps).flash (untold m)
      ⊎ EndsLost its w.0 (last_point (first_point its served.run.up served.run.flash) ps) (untold m))
      (sym stays)
      (ends_in its flash (flash_in t) cs rs ps w.0 s served
      (ends_for its w.0 s (flash_in t) w.1 w.2.cause));
}))

stopped_part : (IsShut : FileFlashState → Type 0) (old mid : DeskTold) (flash left : FileFlashState) (put : Bool)
    (s : ServerState FileFlashState) (t : FileSession) → OpensServer shown flash.config flash s →
    left.memory ≡ (flash_in t).memory → IsShut left → HearsPartOrNone flash.config s.session t old mid →
    IsStoppedOrNone IsShut flash old (with_closed put left mid)
stopped_part IsShut old mid flash left put s t opens stays closed (inl none) = inl (record {
  said = none.0;
  left = left;
  leaves = refl;
  rests = ap (λ m. moment_of (untold m)) stays ∙ moment_opened flash s t none.2 opens;
  closed = closed;
  claims = none.1;
  put = put;
  puts = ap (put_if put left) none.3;
})
stopped_part IsShut old mid flash left put s t opens stays closed (inr h) =
    let heard = h.hears in
    let served = heard.runs (shown flash) (opens.served (opens.mounted h.mounted)) in
    inr (record {
      number = h.number;
      good = h.good;
      cs = heard.cs;
      rs = heard.rs;
      ps = heard.ps;
      reached = h.reached;
      talk = heard.talk;
      said = h.said;
      left = left;
      leaves = refl;
      rests = rests_at flash.config flash left heard.cs heard.rs heard.ps h.end t served stays h.rests;
      closed = closed;
      claims = h.claims;
      put = put;
      puts = ap (put_if put left) h.puts;
    })

stopped_told : (IsShut : FileFlashState → Type 0) (old new : Told) (flash : FileFlashState)
    (s : ServerState FileFlashState) → OpensServer shown flash.config flash s →
    BothTell (StopsAndCloses IsShut flash.config s.session) old new → BothTell (IsStoppedOrNone IsShut flash) old new
stopped_told IsShut None None flash s opens h = tt
stopped_told IsShut None (Some b) flash s opens h = absurd h
stopped_told IsShut (Some a) None flash s opens h = absurd h
stopped_told IsShut (Some a) (Some b) flash s opens h =
    subst (IsStoppedOrNone IsShut flash a) (sym h.closes)
    (stopped_part IsShut a h.reached flash h.left h.put s h.end opens h.stays h.closed h.part)

stopped_as : (IsShut : FileFlashState → Type 0) (old new : Told) (flash : FileFlashState)
    (s : ServerState FileFlashState) → OpensServer shown flash.config flash s → s.config ≡ flash.config →
    BothTell (StopsAndCloses IsShut s.config s.session) old new → BothTell (IsStoppedOrNone IsShut flash) old new
stopped_as IsShut old new flash s opens same w =
    stopped_told IsShut old new flash s opens
    (subst (λ x. BothTell (StopsAndCloses IsShut x s.session) old new) same w)

pub is_stopped : (old new : Told) (flash : FileFlashState) (its : Config) (s : ServerState FileFlashState)
    (it : LiveEnding) → its ≡ flash.config → OpensServer shown its flash s →
    WhereStopped (λ breach. ⊥) (BothTell (StopsAndCloses IsClosed s.config s.session) old new)
    (BothTell (StopsAndCloses IsLeft s.config s.session) old new) it →
    WhereStopped (λ breach. BothTell (IsUnsound flash breach) old new)
    (BothTell (IsStoppedOrNone IsClosed flash) old new) (BothTell (IsStoppedOrNone IsLeft flash) old new) it
is_stopped old new flash its s it same opens h =
    let opened : OpensServer shown flash.config flash s = subst (λ x. OpensServer shown x flash s) same opens in
    where_stopped_too (λ breach. ⊥) (λ breach. BothTell (IsUnsound flash breach) old new)
    (BothTell (StopsAndCloses IsClosed s.config s.session) old new)
    (BothTell (StopsAndCloses IsLeft s.config s.session) old new)
    (BothTell (IsStoppedOrNone IsClosed flash) old new) (BothTell (IsStoppedOrNone IsLeft flash) old new)
    (λ breach w. absurd w) (λ w. stopped_as IsClosed old new flash s opened opened.config w)
    (λ w. stopped_as IsLeft old new flash s opened opened.config w) it h

-- ---- the call

is_held : (flash : FileFlashState) (it : LiveEnding) (old new : Told) →
    WhereClosed (λ good. BothTell (IsSession flash good) old new) it →
    WhereStopped (λ breach. BothTell (IsUnsound flash breach) old new)
    (BothTell (IsStoppedOrNone IsClosed flash) old new) (BothTell (IsStoppedOrNone IsLeft flash) old new) it →
    IsHeld flash it old new
is_held flash Closed old new h stops = h
is_held flash BadLine old new h stops = h
is_held flash (Refused refusal.BadWords) old new h stops = absurd stops
is_held flash (Refused (refusal.Missing name)) old new h stops = absurd stops
is_held flash (Refused (refusal.TooLong name)) old new h stops = absurd stops
is_held flash (Refused (refusal.BadImage rule)) old new h stops = absurd stops
is_held flash (Refused (refusal.Unsound breach)) old new h stops = stops
is_held flash (BadCount at) old new h stops = absurd stops
is_held flash InUse old new h stops = absurd stops
is_held flash Fault old new h stops = stops
is_held flash Starved old new h stops = stops

pub calls_held : (old mid new : LineDeskState) (name : Option (List ℕ)) (path : List ℕ) (flash : FileFlashState)
    (it : LiveEnding) → name ≡ Some path → mid ≡ begun path flash old → IfSome old.told (OpensFile path flash) →
    WhereClosed (λ good. BothTell (IsSession flash good) mid.told new.told) it →
    WhereStopped (λ breach. BothTell (IsUnsound flash breach) mid.told new.told)
    (BothTell (IsStoppedOrNone IsClosed flash) mid.told new.told)
    (BothTell (IsStoppedOrNone IsLeft flash) mid.told new.told) it → Calls name old new it
calls_held old mid new name path flash it named same opens h stops =
    held path flash it named opens
    (subst (λ (x : LineDeskState). IsHeld flash it x.told new.told) same
    (is_held flash it mid.told new.told h stops))
