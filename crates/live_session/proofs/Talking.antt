-- How a talk goes on, line by line, and what a whole session comes to.
use Rattle.std.proofs.Common.{◌≡◌, ℕ, ◌+◌, Bool, true, false, ◌&&◌, List, [], ◌∷◌, ◌++◌, Option, None, Some, Result, Ok, Err, IfSome, IfOk, refl, sym, subst, ap, ◌∙◌, option_map}
use Rattle.std.proofs.lemmas.Bool.{false≢true}
use denote.Enum.Bare.{sameb}
use Rattle.tx_types.specs.declared.config.Config.{Config}
use Rattle.flash_model.specs.Flash.{FlashState}
use Rattle.host_protocol.specs.Files.{IsFile}
use Rattle.host_protocol.specs.Replies.{text_of}
use Rattle.host_protocol.specs.declared.command.Command.{Command}
use Rattle.host_protocol.specs.declared.reply.Reply.{Reply}
use Rattle.mounted_session.specs.Sessions.{is_mounted}
use Rattle.mounted_session.specs.declared.session.Session.TheVariants as session
use Rattle.cut_replay.specs.FlashRun.{Point}
use Rattle.cut_replay.specs.declared.serving.ServeError.{ServeError}
use Rattle.cut_replay.specs.declared.serving.ServeError.TheVariants as ended
use Rattle.cut_replay.specs.ServerCalls.{OpensServer}
use Rattle.cut_replay.specs.ServerRuns.{IsServed, RunsOn}
use Rattle.cut_replay.specs.ServerState.{ServerState}
use Rattle.cut_replay.specs.Sessions.{flash_in, point_of}
use Rattle.file_flash.specs.FileFlashState.{FileFlashState, untold}
use Rattle.live_session.specs.declared.answering.Stop.{Stop}
use Rattle.live_session.specs.declared.answering.Stop.TheVariants as stop
use Rattle.live_session.specs.contracts.desk.Next.{the_type}
use Rattle.live_session.specs.declared.desk.Next.{Next}
use Rattle.live_session.specs.declared.desk.Next.TheVariants as next
use Rattle.live_session.specs.Endings.{LiveEnding, Closed, BadLine, Refused, BadCount, InUse, Fault, Starved}
use Rattle.live_session.specs.LineDesk.{BothTell, DeskTold, LineDeskState, ReadsLine, TakesNext, after, with_claim, with_input, with_put, with_saying}
use Rattle.live_session.specs.Closing.{ClosesFlash}
use Rattle.live_session.specs.Opening.{IsNotOpened, OpensFile, begun}
use Rattle.live_session.specs.Saying.{live_bytes, put_if, with_closed}
use Rattle.live_session.specs.Sessions.{ending_after, ending_unmounted}
use Rattle.live_session.specs.Talks.{IsBad, IsSession, LeadsTo, ServesFile, bad_line, begins, complains, passes, plain, replies, reply_said, serving, shown}
use Rattle.live_session.specs.Hearing.{AnswersCommand, AnswersFirst, AnswersPiece, FileSession, GoesOn, Hears, HearsAll, HearsAndCloses, WhereClosed}
use Rattle.live_session.proofs.OneLine.{one_command}

abbrev Told : Type 0
Told = Option DeskTold

-- ---- a command

pub point_shows : (its : Config) (s : FileSession) → (point_of shown its s).flash ≡ shown (flash_in s)
point_shows its (session.Mounted s) = refl
point_shows its (session.Unmounted flash) = refl

-- a command was served, and what it did was made durable
pub goes_on : (its kept : Config) (c : Command) (old mid new : FileSession) (served : Reply) → kept ≡ its →
    RunsOn shown its c old served mid →
    ((init : FlashState) (cs : List Command) (rs : List Reply) (ps : List Point) →
    IsServed shown kept init cs rs ps mid → IsServed shown kept init cs rs ps new) →
    GoesOn its c old served (point_of shown its mid) new
goes_on its kept c old mid new served same runs flushes = λ init cs rs ps h.
    let cs' = cs ++ c ∷ [] in
    let rs' = rs ++ served ∷ [] in
    let ps' = ps ++ point_of shown its mid ∷ [] in
    subst (λ x. IsServed shown x init cs' rs' ps' new) same
    (flushes init cs' rs' ps'
    (subst (λ x. IsServed shown x init cs' rs' ps' mid) (sym same) (runs init cs rs ps h)))

-- and its reply was said
pub answers_command : (its kept : Config) (c : Command) (old mid new : FileSession) (served reply : Reply)
    (text : List ℕ) (flash : FileFlashState) (before said : LineDeskState) → kept ≡ its →
    RunsOn shown its c old served mid →
    ((init : FlashState) (cs : List Command) (rs : List Reply) (ps : List Point) →
    IsServed shown kept init cs rs ps mid → IsServed shown kept init cs rs ps new) →
    shown (flash_in new) ≡ shown (flash_in mid) → reply ≡ served → flash ≡ flash_in new → text ≡ text_of reply →
    said ≡ after (with_saying (record { text = text; flash = Some flash })) before →
    AnswersCommand its c before.told old said.told new
answers_command its kept c old mid new served reply text flash before said same runs flushes shows opens is says call =
    record {
      reply = served;
      point = point_of shown its mid;
      flash = flash;
      shows = point_shows its mid ∙ (sym shows ∙ sym (ap shown is));
      says = ap (λ d. d.told) call
          ∙ ap (λ t. option_map (with_saying (record { text = t; flash = Some flash })) before.told)
          (says ∙ ap text_of opens);
      runs = goes_on its kept c old mid new served same runs flushes;
    }

-- ---- beginning

pub hears_none : (told : Told) (its : Config) (s : FileSession) → BothTell (Hears its true s s 1) told told
hears_none None its s = tt
hears_none (Some c) its s = record { cs = []; rs = []; ps = []; talk = begins; claims = refl; puts = refl; runs = λ init h. h }

-- ---- a line

heard_passes : (first a : Told) (its : Config) (good : Bool) (s t : FileSession) (n : ℕ) (line rest : List ℕ) →
    BothTell (Hears its good s t n) first a → IfSome a (TakesNext next.Line line rest) → IsFile its.page_bytes line [] →
    BothTell (Hears its good s t (n + 1)) first (option_map (with_input rest) a)
heard_passes None None its good s t n line rest h takes file = tt
heard_passes None (Some b) its good s t n line rest h takes file = absurd h
heard_passes (Some a) None its good s t n line rest h takes file = absurd h
heard_passes (Some a) (Some b) its good s t n line rest h takes file = record {
  cs = h.cs;
  rs = h.rs;
  ps = h.ps;
  talk = passes b n good h.cs h.rs h.ps line rest h.talk takes file;
  claims = h.claims;
  puts = h.puts;
  runs = h.runs;
}

heard_replies : (first a : Told) (its : Config) (good : Bool) (s t u : FileSession) (n : ℕ) (line rest : List ℕ)
    (c : Command) (more : List Command) (mid told : Told) →
    BothTell (Hears its good s t n) first a → IfSome a (TakesNext next.Line line rest) →
    IsFile its.page_bytes line (c ∷ more) → mid ≡ option_map (with_input rest) a →
    AnswersCommand its c mid t told u → BothTell (Hears its good s u (n + 1)) first told
heard_replies None None its good s t u n line rest c more mid told h takes file at w =
    subst (BothTell (Hears its good s u (n + 1)) None)
    (sym (w.says ∙ ap (option_map (with_saying (reply_said w.reply w.flash))) at)) tt
heard_replies None (Some b) its good s t u n line rest c more mid told h takes file at w = absurd h
heard_replies (Some a) None its good s t u n line rest c more mid told h takes file at w = absurd h
heard_replies (Some a) (Some b) its good s t u n line rest c more mid told h takes file at w =
    let one = subst (λ l. IsFile its.page_bytes line (c ∷ l))
    (one_command its.page_bytes line c more takes.2.0.feeds file) file in
    subst (BothTell (Hears its good s u (n + 1)) (Some a))
    (sym (w.says ∙ ap (option_map (with_saying (reply_said w.reply w.flash))) at))
    (record {
      cs = h.cs ++ c ∷ [];
      rs = h.rs ++ w.reply ∷ [];
      ps = h.ps ++ w.point ∷ [];
      talk = replies b n good h.cs h.rs h.ps line rest h.talk takes c one w.reply w.point w.flash w.shows;
      claims = h.claims;
      puts = h.puts;
      runs = λ init begun. w.runs init h.cs h.rs h.ps (h.runs init begun);
    })

heard_complains : (first a : Told) (its : Config) (good : Bool) (s t : FileSession) (n : ℕ) (it : Next)
    (line rest : List ℕ) → BothTell (Hears its good s t n) first a → IfSome a (TakesNext it line rest) →
    IsBad its.page_bytes it line →
    BothTell (Hears its false s t (n + 1)) first
    (option_map (with_saying (plain (bad_line n))) (option_map (with_input rest) a))
heard_complains None None its good s t n it line rest h takes bad = tt
heard_complains None (Some b) its good s t n it line rest h takes bad = absurd h
heard_complains (Some a) None its good s t n it line rest h takes bad = absurd h
heard_complains (Some a) (Some b) its good s t n it line rest h takes bad = record {
  cs = h.cs;
  rs = h.rs;
  ps = h.ps;
  talk = complains b n good h.cs h.rs h.ps line rest h.talk it takes bad;
  claims = h.claims;
  puts = h.puts;
  runs = h.runs;
}

bad_piece : (page_bytes : ℕ) (it : Next) (line : List ℕ) → (it ≡ next.End → ⊥) →
    (it ≡ next.Line → (cs : List Command) → IsFile page_bytes line cs → ⊥) → IsBad page_bytes it line
bad_piece page_bytes next.Line line more none = none refl
bad_piece page_bytes next.LongLine line more none = tt
bad_piece page_bytes next.Part line more none = tt
bad_piece page_bytes next.End line more none = absurd (more refl)

heard_line : (first a : Told) (its : Config) (good : Bool) (s t u : FileSession) (n : ℕ) (line rest : List ℕ)
    (cs : List Command) (mid told : Told) →
    BothTell (Hears its good s t n) first a → IfSome a (TakesNext next.Line line rest) →
    IsFile its.page_bytes line cs → mid ≡ option_map (with_input rest) a → AnswersFirst its cs mid t told u →
    BothTell (Hears its good s u (n + 1)) first told
heard_line first a its good s t u n line rest [] mid told h takes file at w =
    subst (λ x. BothTell (Hears its good s x (n + 1)) first told) (sym w.1)
    (subst (BothTell (Hears its good s t (n + 1)) first) (sym (w.0 ∙ at))
    (heard_passes first a its good s t n line rest h takes file))
heard_line first a its good s t u n line rest (c ∷ more) mid told h takes file at w =
    heard_replies first a its good s t u n line rest c more mid told h takes file at w

heard_told : (first a : Told) (its : Config) (good is_good : Bool) (s t u : FileSession) (n : ℕ) (it : Next)
    (line rest : List ℕ) (mid told : Told) →
    BothTell (Hears its good s t n) first a → IfSome a (TakesNext it line rest) → (it ≡ next.End → ⊥) →
    mid ≡ option_map (with_input rest) a → AnswersPiece its it line n is_good mid t told u →
    BothTell (Hears its (is_good && good) s u (n + 1)) first told
heard_told first a its good true s t u n it line rest mid told h takes more at w =
    heard_line first a its good s t u n line rest w.1.0 mid told h
    (subst (λ x. IfSome a (TakesNext x line rest)) w.0 takes) w.1.1 at w.1.2
heard_told first a its good false s t u n it line rest mid told h takes more at w =
    subst (λ x. BothTell (Hears its false s x (n + 1)) first told) (sym w.2)
    (subst (BothTell (Hears its false s t (n + 1)) first)
    (sym (w.1 ∙ ap (option_map (with_saying (plain (bad_line n)))) at))
    (heard_complains first a its good s t n it line rest h takes (bad_piece its.page_bytes it line more w.0)))

-- a piece of the input was read and answered
pub heard_piece : (first : Told) (old mid : LineDeskState) (told : Told) (its : Config) (good is_good : Bool)
    (s t u : FileSession) (n : ℕ) (it : Next) (line : List ℕ) →
    BothTell (Hears its good s t n) first old.told → ReadsLine old mid line (Ok it) → (it ≡ next.End → ⊥) →
    AnswersPiece its it line n is_good mid.told t told u →
    BothTell (Hears its (is_good && good) s u (n + 1)) first told
heard_piece first old mid told its good is_good s t u n it line h reads more w =
    heard_told first old.told its good is_good s t u n it line reads.0 mid.told told h reads.2 more
    (ap (λ d. d.told) reads.1) w

pub is_end : (it : Next) → true ≡ sameb the_type it next.End → it ≡ next.End
is_end next.Line h = absurd (false≢true (sym h))
is_end next.LongLine h = absurd (false≢true (sym h))
is_end next.Part h = absurd (false≢true (sym h))
is_end next.End h = refl

pub not_end : (it : Next) → false ≡ sameb the_type it next.End → it ≡ next.End → ⊥
not_end it h e = false≢true (h ∙ ap (λ x. sameb the_type x next.End) e)

-- all lines are good so far where this one is and those before it are
pub and_true : (is_good good both : Bool) → is_good ≡ true → both ≡ good → both ≡ (is_good && good)
and_true is_good good both h e = e ∙ sym (ap (λ b. b && good) h)

pub and_false : (is_good good both : Bool) → is_good ≡ false → both ≡ is_good → both ≡ (is_good && good)
and_false is_good good both h e = e ∙ (h ∙ sym (ap (λ b. b && good) h))

-- ---- the end

same_input : (c : DeskTold) (line rest : List ℕ) → TakesNext next.End line rest c → with_input rest c ≡ c
same_input c line rest takes =
    let read : c.input ≡ rest = subst (λ p. c.input ≡ p ++ rest) takes.2.0 takes.1 in
    ap (λ x. with_input x c) (sym read)

ended_at : (old a : Told) (its : Config) (good : Bool) (s t : FileSession) (n : ℕ) (line rest : List ℕ) →
    is_mounted s ≡ true → BothTell (Hears its good s t n) (option_map (with_saying serving) old) a →
    IfSome a (TakesNext next.End line rest) → BothTell (HearsAll its good s t) old (option_map (with_input rest) a)
ended_at None None its good s t n line rest up h takes = tt
ended_at None (Some b) its good s t n line rest up h takes = absurd h
ended_at (Some a) None its good s t n line rest up h takes = absurd h
ended_at (Some a) (Some b) its good s t n line rest up h takes = record {
  number = n;
  hears = subst (Hears its good s t n (with_saying serving a)) (sym (same_input b line rest takes)) h;
  mounted = up;
}

-- the input ended
pub heard_all : (old : Told) (first a now : LineDeskState) (its : Config) (good : Bool) (s t : FileSession) (n : ℕ)
    (line : List ℕ) → is_mounted s ≡ true → first.told ≡ option_map (with_saying serving) old →
    BothTell (Hears its good s t n) first.told a.told → ReadsLine a now line (Ok next.End) →
    BothTell (HearsAll its good s t) old now.told
heard_all old first a now its good s t n line up begun h reads =
    subst (BothTell (HearsAll its good s t) old) (sym (ap (λ d. d.told) reads.1))
    (ended_at old a.told its good s t n line reads.0 up
    (subst (λ x. BothTell (Hears its good s t n) x a.told) begun h) reads.2)

-- ---- closing

closed_told : (old a : Told) (its : Config) (good : Bool) (s t : FileSession) (left : FileFlashState) →
    BothTell (HearsAll its good s t) old a → left.memory ≡ (flash_in t).memory → left.config ≡ its →
    BothTell (HearsAndCloses its good s) old (option_map (with_closed true left) a)
closed_told None None its good s t left h stays config = tt
closed_told None (Some b) its good s t left h stays config = absurd h
closed_told (Some a) None its good s t left h stays config = absurd h
closed_told (Some a) (Some b) its good s t left h stays config =
    record { end = t; ended = b; left = left; all = h; stays = stays; config = config; closes = refl }

closed_at : (old : Told) (its : Config) (good : Bool) (s t : FileSession) (left : FileFlashState) (put : Bool)
    (mid new : LineDeskState) → BothTell (HearsAll its good s t) old mid.told → left.memory ≡ (flash_in t).memory →
    left.config ≡ its → put ≡ true → new.told ≡ option_map (with_closed put left) mid.told →
    BothTell (HearsAndCloses its good s) old new.told
closed_at old its good s t left put mid new h stays config is leaves =
    subst (BothTell (HearsAndCloses its good s) old)
    (sym (leaves ∙ ap (λ b. option_map (with_closed b left) mid.told) is))
    (closed_told old mid.told its good s t left h stays config)

pub heard_and_closed : (flash : FileFlashState) (old : Told) (its config : Config) (s t : FileSession)
    (answered : Result Bool Stop) (closed : Result (Unit {0}) Stop) (same : Bool) (mid new : LineDeskState) →
    IfOk answered (λ good. BothTell (HearsAll its good s t) old mid.told) → flash ≡ flash_in t →
    (same ≡ true → config ≡ its) → ClosesFlash flash mid new closed config →
    WhereClosed (λ good. BothTell (HearsAndCloses its good s) old new.told) (ending_after answered closed same)
heard_and_closed flash old its config s t (Err stop.Memory) closed same mid new h at is c = tt
heard_and_closed flash old its config s t (Err stop.Fault) (Ok done) same mid new h at is c = tt
heard_and_closed flash old its config s t (Err stop.Fault) (Err stop.Fault) same mid new h at is c = tt
heard_and_closed flash old its config s t (Err stop.Fault) (Err stop.Memory) same mid new h at is c = tt
heard_and_closed flash old its config s t (Ok good) (Err stop.Fault) same mid new h at is c = tt
heard_and_closed flash old its config s t (Ok good) (Err stop.Memory) same mid new h at is c = tt
heard_and_closed flash old its config s t (Ok good) (Ok done) false mid new h at is c = tt
heard_and_closed flash old its config s t (Ok true) (Ok done) true mid new h at is c =
    closed_at old its true s t c.left c.put mid new h (c.stays ∙ ap (λ (f : FileFlashState). f.memory) at)
    (c.same ∙ is refl) c.done.0 c.leaves
heard_and_closed flash old its config s t (Ok false) (Ok done) true mid new h at is c =
    closed_at old its false s t c.left c.put mid new h (c.stays ∙ ap (λ (f : FileFlashState). f.memory) at)
    (c.same ∙ is refl) c.done.0 c.leaves

pub where_unmounted : (P : Bool → Type 0) (why : ServeError) (closed : Result (Unit {0}) Stop) →
    WhereClosed P (ending_unmounted why closed)
where_unmounted P (ended.Unsound law slot) (Ok done) = tt
where_unmounted P (ended.Unsound law slot) (Err stop.Fault) = tt
where_unmounted P (ended.Unsound law slot) (Err stop.Memory) = tt
where_unmounted P ended.Memory closed = tt

pub where_weaker : (P Q : Bool → Type 0) → ((good : Bool) → P good → Q good) → (it : LiveEnding) → WhereClosed P it →
    WhereClosed Q it
where_weaker P Q to Closed h = to true h
where_weaker P Q to BadLine h = to false h
where_weaker P Q to (Refused why) h = tt
where_weaker P Q to (BadCount at) h = tt
where_weaker P Q to InUse h = tt
where_weaker P Q to Fault h = tt
where_weaker P Q to Starved h = tt

-- ---- the session of a flash

pub leads : (its : Config) (flash left : FileFlashState) (cs : List Command) (rs : List Reply) (ps : List Point)
    (t : FileSession) → IsServed shown its (shown flash) cs rs ps t → left.memory ≡ (flash_in t).memory →
    LeadsTo its (shown flash) (shown left) cs rs ps
leads its flash left cs rs ps t served stays = record {
  run = served.run;
  begins = served.begins;
  last = sym (ap (λ p. p.flash) served.last) ∙ (point_shows its t ∙ sym (ap untold stays));
}

session_told : (old new : Told) (flash : FileFlashState) (good : Bool) (s : ServerState FileFlashState) →
    OpensServer shown flash.config flash s → BothTell (HearsAndCloses flash.config good s.session) old new →
    BothTell (IsSession flash good) old new
session_told None None flash good s opens h = tt
session_told None (Some b) flash good s opens h = absurd h
session_told (Some a) None flash good s opens h = absurd h
session_told (Some a) (Some b) flash good s opens h =
    let heard = h.all.hears in record {
      number = h.all.number;
      cs = heard.cs;
      rs = heard.rs;
      ps = heard.ps;
      ended = h.ended;
      left = h.left;
      talk = heard.talk;
      run = leads flash.config flash h.left heard.cs heard.rs heard.ps h.end
          (heard.runs (shown flash) (opens.served (opens.mounted h.all.mounted))) h.stays;
      closes = h.closes;
      config = h.config;
      claims = ap (λ d. d.claims) h.closes ∙ heard.claims;
      puts = ap (λ d. d.puts) h.closes ∙ ap (put_if true h.left) heard.puts;
    }

pub is_session : (old new : Told) (flash : FileFlashState) (its : Config) (s : ServerState FileFlashState)
    (it : LiveEnding) → its ≡ flash.config → OpensServer shown its flash s →
    WhereClosed (λ good. BothTell (HearsAndCloses s.config good s.session) old new) it →
    WhereClosed (λ good. BothTell (IsSession flash good) old new) it
is_session old new flash its s it same opens h =
    let opened : OpensServer shown flash.config flash s = subst (λ x. OpensServer shown x flash s) same opens in
    where_weaker (λ good. BothTell (HearsAndCloses s.config good s.session) old new)
    (λ good. BothTell (IsSession flash good) old new)
    (λ good w. session_told old new flash good s opened
    (subst (λ x. BothTell (HearsAndCloses x good s.session) old new) opened.config w)) it h

-- ---- the call

file_told : (old new : Told) (path : List ℕ) (flash : FileFlashState) (good : Bool) →
    IfSome old (OpensFile path flash) →
    BothTell (IsSession flash good) (option_map (with_put (live_bytes flash)) (option_map (with_claim path) old)) new →
    BothTell (ServesFile (Some path) good) old new
file_told None None path flash good opens h = tt
file_told None (Some b) path flash good opens h = absurd h
file_told (Some a) None path flash good opens h = absurd h
file_told (Some a) (Some b) path flash good opens h =
    record { path = path; named = refl; flash = flash; opens = opens; session = h }

pub serves_file : (old mid new : LineDeskState) (name : Option (List ℕ)) (path : List ℕ) (flash : FileFlashState)
    (it : LiveEnding) → name ≡ Some path → mid ≡ begun path flash old → IfSome old.told (OpensFile path flash) →
    WhereClosed (λ good. BothTell (IsSession flash good) mid.told new.told) it →
    WhereClosed (λ good. BothTell (ServesFile name good) old.told new.told) it
serves_file old mid new name path flash it named same opens h =
    subst (λ x. WhereClosed (λ good. BothTell (ServesFile x good) old.told new.told) it) (sym named)
    (where_weaker (λ good. BothTell (IsSession flash good) (begun path flash old).told new.told)
    (λ good. BothTell (ServesFile (Some path) good) old.told new.told)
    (λ good w. file_told old.told new.told path flash good opens w) it
    (subst (λ x. WhereClosed (λ good. BothTell (IsSession flash good) x.told new.told) it) same h))

pub where_not_opened : (P : Bool → Type 0) (name : List ℕ) (it : LiveEnding) (old new : LineDeskState) →
    IsNotOpened name it old new → WhereClosed P it
where_not_opened P name Closed old new h = absurd h
where_not_opened P name BadLine old new h = absurd h
where_not_opened P name (Refused why) old new h = tt
where_not_opened P name (BadCount at) old new h = tt
where_not_opened P name InUse old new h = tt
where_not_opened P name Fault old new h = tt
where_not_opened P name Starved old new h = tt
