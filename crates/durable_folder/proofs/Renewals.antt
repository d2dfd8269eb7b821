-- A new file, whose lock is held, takes the place of one whose lock is held.
use Rattle.durable_folder.proofs.Common.{◌≡◌, ◌≢◌, ◌⊎◌, inl, inr, ℕ, Bool, true, false, List, [], ◌∷◌, Option, None, Some, Result, Ok, Err, refl, sym, ap, ◌∙◌, IsErr, Error, Replaced, Found, FolderState, file_of, newest, Handle, OfFile, Finds, FindsOpen, refusal_of, quiet, History, Turns, Runs, Learns, Rests, HasFile, IsSaved, AtNow, IsMade, Fills, Prepares, KeepsOrReplaces, ReplacesOrNot, folder_of}
use Rattle.std.specs.Prelude.{IfOk}
use Rattle.durable_folder.specs.declared.answers.Replaced.TheVariants as replaced
use Rattle.durable_folder.specs.declared.replacing.Owner.{Owner}
use Rattle.durable_folder.specs.Calls.{IsFound}
use Rattle.durable_folder.specs.Causes.{HasCause, HasFailed, IsNamed}
use Rattle.durable_folder.specs.Histories.{Held, Seen, KeepsRefusals}
use Rattle.durable_folder.specs.Locking.{IsLocked, WhereFirst}
use Rattle.durable_folder.specs.Renewing.{AtLast, Compared, HasSame, IsLast, IsLocking, IsOwned, IsReady, IsRenewed, KeepsLock, LockedEnds, LooksSame, Renews, SavesLocked, replaced_of}
use Rattle.durable_folder.specs.Saving.{Ends, FillEnds, IsGiving, Mounted, ReplaceOrNotEnds, ReplacesBy}
use Rattle.durable_folder.specs.Sights.{Sees}
use Rattle.durable_folder.specs.Ways.{MustStay}
use Rattle.durable_folder.proofs.Finishing.{made_bytes, made_new_file, no_change_keeps, steps_none, still_named}
use Rattle.durable_folder.proofs.Leading.{must_from}
use Rattle.durable_folder.proofs.Learning.{learns_then, rests_known}
use Rattle.durable_folder.proofs.Linking.{not_done}
use Rattle.durable_folder.proofs.Passing.{runs_of, runs_weaker, runs_then, runs_counted, runs_ended, runs_none}
use Rattle.durable_folder.proofs.Refusing.{kept_none, refused_kept}
use Rattle.durable_folder.proofs.Replacements.{differs, new_filled, prepares_keeps}
use Rattle.durable_folder.proofs.Tearing.{IsGivenBy, found_reason, hindered_reason}
use Rattle.durable_folder.proofs.Writing.{of_file_stays, of_file_weaker}

-- ---- a name and an open file are looked at

same_there : (handle : Handle) (name : List ℕ) (found other : Found) (s t u : FolderState) →
    Finds name (Ok found) s t → FindsOpen handle (Ok other) t u →
    (other.device ≡ found.device) × (other.inode ≡ found.inode) → HasSame handle.file name s
same_there handle name found other s t u first last is =
    let fixed = ap (λ x. x.fixed) first.0 in
    record {
      file = first.1;
      there = first.2.there;
      device = λ f opened.
          sym ((last.2 f opened).device ∙ ap (λ x. x.device f) fixed) ∙ is.0 ∙ first.2.device;
      inode = λ f opened. sym ((last.2 f opened).inode ∙ ap (λ x. x.inode f) fixed) ∙ is.1 ∙ first.2.inode;
    }

-- what a look at an open file told
seen_runs : (handle : Handle) (other : Found) (a b : Option History) → Turns (FindsOpen handle (Ok other)) quiet a b →
    Sees {T = Found} (λ it. Seen handle.file) (Ok other) a b →
    Runs (λ s t. t ≡ s) (λ h k. FindsOpen handle (Ok other) h.now k.now × (k.sights ≡ Seen handle.file ∷ h.sights)
    × (k.unsynced ≡ h.unsynced)) a b
seen_runs handle other None None turn sees = record { run = tt }
seen_runs handle other None (Some k) turn sees = absurd turn
seen_runs handle other (Some h) None turn sees = absurd turn
seen_runs handle other (Some h) (Some k) turn sees =
    record {
      run = (
        k.now ∷ [],
        ap (λ before. k.now ∷ before) turn.1,
        (turn.0.0, tt),
        record { since = []; are = turn.2 },
        (turn.0, sees, turn.4),
      );
    }

pub looked_same : (handle : Handle) (name : List ℕ) (found other : Found) (is : Bool) (a b c : Option History) →
    Turns (Finds name (Ok found)) quiet a b → Turns (FindsOpen handle (Ok other)) quiet b c →
    Sees {T = Found} (λ it. Seen handle.file) (Ok other) b c →
    (is ≡ true → (other.device ≡ found.device) × (other.inode ≡ found.inode)) → Compared handle name is a c
looked_same handle name found other is a b c first last sees is_so =
    runs_then a b c (runs_of (Finds name (Ok found)) quiet a b first) (seen_runs handle other b c last sees)
    (λ s t x. x.0) (λ h k u x y. y ∙ x.0.0)
    (λ h k l x y. record {
      stays = y.0.0 ∙ x.0.0;
      same = λ ok. same_there handle name found other h.now k.now l.now x.0 y.0 (is_so ok);
      last = record { earlier = k.sights; are = y.1 };
      noted = y.2 ∙ x.2;
    })

compared_last : (handle : Handle) (name : List ℕ) (is : Bool) (a b : Option History) → Compared handle name is a b →
    AtLast (IsLast (Seen handle.file)) b
compared_last handle name is a None looked = tt
compared_last handle name is None (Some k) looked = absurd looked.run
compared_last handle name is (Some h) (Some k) looked = looked.run.4.last

pub compared_same : (handle : Handle) (name : List ℕ) (is : Bool) (a b : Option History) → is ≡ true →
    Compared handle name is a b → AtNow (HasSame handle.file name) a
compared_same handle name is None b is_so looked = tt
compared_same handle name is (Some h) None is_so looked = absurd looked.run
compared_same handle name is (Some h) (Some k) is_so looked = looked.run.4.same is_so

-- what holds of a state holds of the same one later
pub rests_now : (P : FolderState → Type 0) (a b : Option History) → Rests a b → AtNow P a → AtNow P b
rests_now P a None rests at = tt
rests_now P None (Some k) rests at = absurd rests.run
rests_now P (Some h) (Some k) rests at = rw rests.run.4 at

pub rests_back : (P : FolderState → Type 0) (a b : Option History) → Rests a b → AtNow P b → AtNow P a
rests_back P None b rests at = tt
rests_back P (Some h) None rests at = absurd rests.run
rests_back P (Some h) (Some k) rests at = rw rests.run.4 at at

-- a name that still has its file, of which a look says otherwise
pub not_so : (r : Result Bool Error) (a b : Option History) → (r ≡ Ok true → ⊥) → (r ≡ Ok true) ⊎ HasFailed a b →
    HasFailed a b
not_so r a b never_so (inl is_so) = absurd (never_so is_so)
not_so r a b never_so (inr failed) = failed

-- ---- the new file is filled, and locked

pub so_last : (P : Type 0) (a : Option History) → P → AtLast (λ k. P) a
so_last P None p = tt
so_last P (Some h) p = p

pub then_last : (P Q : Type 0) (a : Option History) → (P → Q) → AtLast (λ k. P) a → AtLast (λ k. Q) a
then_last P Q None f at = tt
then_last P Q (Some h) f at = f at

locking : (old before after : Handle) (a b : Option History) → AtLast (IsLast (Seen old.file)) a →
    Learns (IsLocked before after) a b → Sees {T = Unit {0}} (λ done. Held before.file) (Ok tt) a b →
    AtLast (IsLocking old after) b
locking old before after a None last locks sees = tt
locking old before after None (Some k) last locks sees = absurd locks.run
locking old before after (Some h) (Some k) last locks sees =
    let is = locks.run.4.1 in
    let same : after.file ≡ before.file = ap (λ i. i.file) is.is in
    record {
      is_held = ap (λ i. i.is_held) is.is;
      is_free = λ f opened. ap (λ s. s.fixed.is_taken f) locks.run.4.0 ∙ is.is_free f (sym same ∙ opened);
      earlier = last.earlier;
      sights = sees ∙ ap (λ all. Held before.file ∷ all) last.are
          ∙ ap (λ f. Held f ∷ Seen old.file ∷ last.earlier) (sym same);
    }

pub looked_locking : (old before after : Handle) (name : List ℕ) (is : Bool) (a b c : Option History) →
    Compared old name is a b → Learns (IsLocked before after) b c →
    Sees {T = Unit {0}} (λ done. Held before.file) (Ok tt) b c → AtLast (IsLocking old after) c
looked_locking old before after name is a b c looked =
    locking old before after b c (compared_last old name is a b looked)

fill_steps : (handle : Handle) (beside : List ℕ) (owner : Option Owner) (bytes : List ℕ)
    (filled : Result Replaced Error) (h k : History) → FillEnds handle beside owner bytes filled h k →
    OfFile (λ old new. Unit {0}) handle.file h.now k.now
fill_steps handle beside owner bytes (Ok replaced.Done) h k x =
    of_file_weaker (λ old new. handle.offset ≡ 0 → old ≡ [] ∷ [] → new ≡ bytes ∷ []) (λ old new. Unit {0}) handle.file
    h.now k.now x (λ vs ws y. tt)
fill_steps handle beside owner bytes (Ok replaced.Refused) h k x =
    of_file_stays (λ old new. Unit {0}) handle.file h.now k.now x.0 (λ vs. tt)
fill_steps handle beside owner bytes (Err e) h k x = x

fill_ends_after : (handle : Handle) (beside : List ℕ) (owner : Option Owner) (bytes : List ℕ)
    (filled : Result Replaced Error) (h k l : History) → l.now ≡ k.now → KeepsRefusals k l →
    FillEnds handle beside owner bytes filled h k → FillEnds handle beside owner bytes filled h l
fill_ends_after handle beside owner bytes (Ok replaced.Done) h k l same kept x = rw same x
fill_ends_after handle beside owner bytes (Ok replaced.Refused) h k l same kept x =
    (same ∙ x.0, refused_kept (IsGiving beside handle.file owner h.now) h k l x.1 kept)
fill_ends_after handle beside owner bytes (Err e) h k l same kept x = rw same x

pub fills_after : (handle : Handle) (beside : List ℕ) (owner : Option Owner) (bytes : List ℕ)
    (filled : Result Replaced Error) (a b c : Option History) → Fills handle beside owner bytes filled a b →
    Rests b c → Fills handle beside owner bytes filled a c
fills_after handle beside owner bytes filled a b c fills rests =
    runs_then a b c fills (runs_counted b c rests) (λ s t x. x)
    (λ h k u x y. rw y (fill_steps handle beside owner bytes filled h k x))
    (λ h k l x y. fill_ends_after handle beside owner bytes filled h k l y.1 y.0 x)

fill_err : (handle : Handle) (beside : List ℕ) (owner : Option Owner) (bytes : List ℕ)
    (result : Result Replaced Error) (h k : History) → IsErr result →
    OfFile (λ old new. Unit {0}) handle.file h.now k.now → FillEnds handle beside owner bytes result h k
fill_err handle beside owner bytes (Ok answer) h k err x = absurd (cc)
fill_err handle beside owner bytes (Err e) h k err x = x

pub fills_failed : (handle : Handle) (beside : List ℕ) (owner : Option Owner) (bytes : List ℕ)
    (filled result : Result Replaced Error) (a b : Option History) → IsErr result →
    Fills handle beside owner bytes filled a b → Fills handle beside owner bytes result a b
fills_failed handle beside owner bytes filled result a b err fills =
    runs_weaker a b fills (λ s t x. x)
    (λ h k x. fill_err handle beside owner bytes result h k err (fill_steps handle beside owner bytes filled h k x))

-- ---- the new file comes to the name

runs_at : {P : FolderState → FolderState → Type 0} {E : History → History → Type 0} (Q : History → Type 0)
    (a b : Option History) → Runs P E a b → AtLast Q b → Runs P (λ h k. E h k × Q k) a b
runs_at Q None None r at = record { run = tt }
runs_at Q None (Some k) r at = absurd r.run
runs_at Q (Some h) None r at = absurd r.run
runs_at Q (Some h) (Some k) r at = record { run = (r.run.0, r.run.1, r.run.2, r.run.3, (r.run.4, at)) }

runs_from : {P : FolderState → FolderState → Type 0} {E : History → History → Type 0} (Q : History → Type 0)
    (a b : Option History) → AtLast Q a → Runs P E a b → Runs P (λ h k. Q h × E h k) a b
runs_from Q None None at r = record { run = tt }
runs_from Q None (Some k) at r = absurd r.run
runs_from Q (Some h) None at r = absurd r.run
runs_from Q (Some h) (Some k) at r = record { run = (r.run.0, r.run.1, r.run.2, r.run.3, (at, r.run.4)) }

-- the new file has its own name, and no file has both
record IsBesideSo (name beside : List ℕ) (new : Handle) (s : FolderState) : Type 0 where
  pub file : ℕ
  pub is_open : new.file ≡ Some file
  pub named : file_of s beside ≡ Some file
  pub apart : file_of s beside ≢ file_of s name

abbrev Waits : List ℕ → List ℕ → Handle → Handle → History → Type 0
Waits name beside old new k = IsLocking old new k × IsBesideSo name beside new k.now

abbrev Made : Handle → List ℕ → List ℕ → Option History → Option History → Type 0
Made handle name beside =
    Runs (Prepares name) (λ h k. (f : ℕ) × IsMade handle name beside f h.now k.now)

readied : (handle old new : Handle) (name beside : List ℕ) (owner : Option Owner) (bytes : List ℕ)
    (first a b : Option History) → AtLast (λ k. new.file ≡ handle.file) b → Made handle name beside first a →
    Fills handle beside owner bytes (Ok replaced.Done) a b → AtLast (IsLocking old new) b →
    Runs (Prepares name) (λ h k. IsReady name bytes old new h.now k × Waits name beside old new k) first b
readied handle old new name beside owner bytes first a b same makes fills locks =
    runs_then first a b makes
    (runs_at (λ k. new.file ≡ handle.file) a b (runs_at (IsLocking old new) a b fills locks) same) (λ s t x. x)
    (λ h k u x y. inr (
      beside,
      x.0,
      new_filled name beside x.0 h.now k.now u x.1.new (made_new_file handle name beside x.0 h.now k.now u x.1 y),
    ))
    (λ h k l x y.
    let b = made_bytes handle name beside bytes x.0 h.now k.now l.now x.1 y.0.0 in
    let is = new_filled name beside x.0 h.now k.now l.now x.1.new b.0 in
    let named = still_named handle name beside x.0 h.now k.now l.now x.1 b.0 in
    let opened = y.1 ∙ ap (λ i. i.file) x.1.opened in (
      record { beside = beside; file = x.0; is_new = is; is_open = opened; whole = b.1; locking = y.0.1 },
      (
        y.0.1,
        record { file = x.0; is_open = opened; named = named; apart = differs name beside x.0 h.now l.now is named },
      ),
    ))

waiting : (old new : Handle) (name beside bytes : List ℕ) (a b : Option History) →
    Runs (Prepares name) (λ h k. IsReady name bytes old new h.now k × Waits name beside old new k) a b →
    AtLast (Waits name beside old new) b
waiting old new name beside bytes a None run = tt
waiting old new name beside bytes None (Some k) run = absurd run.run
waiting old new name beside bytes (Some h) (Some k) run = run.run.4.1

arrived : (old new : Handle) (name beside : List ℕ) (b c d : Option History) → AtLast (Waits name beside old new) b →
    Ends beside name (Ok replaced.Done) (Ok replaced.Done) b c → Compared new name true c d →
    Runs (λ s t. Unit {0}) (λ h k. IsRenewed name new k) b d
arrived old new name beside b c d waits ends looked =
    runs_then b c d
    (runs_from (Waits name beside old new) b c waits
    (runs_ended b c (steps_none beside name (Ok replaced.Done)) ends))
    looked (λ s t x. tt) (λ h k u x y. tt)
    (λ h k l x y.
    let so = x.0.1 in
    let put : HasFile name (file_of h.now beside) k = x.1.1 so.apart in
    let shifts = x.1.0 so.apart in
    record {
      file = so.file;
      is_open = so.is_open;
      there = ap (λ s. file_of s name) y.stays ∙ put.0 ∙ so.named;
      is_held = x.0.0.is_held;
      is_free = ap (λ s. s.fixed.is_taken so.file) y.stays ∙ ap (λ i. i.is_taken so.file) shifts.files.fixed
          ∙ x.0.0.is_free so.file so.is_open;
      last = y.last;
    })

pub renewed : (handle old new : Handle) (name beside : List ℕ) (owner : Option Owner) (bytes : List ℕ)
    (first a b c d : Option History) → AtLast (λ k. new.file ≡ handle.file) b → Made handle name beside first a →
    Fills handle beside owner bytes (Ok replaced.Done) a b → AtLast (IsLocking old new) b →
    Ends beside name (Ok replaced.Done) (Ok replaced.Done) b c → Compared new name true c d →
    Renews name bytes old new first d
renewed handle old new name beside owner bytes first a b c d same makes fills locks ends looked =
    let run = readied handle old new name beside owner bytes first a b same makes fills locks in (
      b,
      runs_weaker first b run (λ s t x. x) (λ h k x. x.0),
      arrived old new name beside b c d (waiting old new name beside bytes first b run) ends looked,
    )

put_named : (old new : Handle) (name beside : List ℕ) (b c : Option History) → AtLast (Waits name beside old new) b →
    Ends beside name (Ok replaced.Done) (Ok replaced.Done) b c → AtNow (IsNamed new.file name) c
put_named old new name beside b None waits ends = tt
put_named old new name beside None (Some k) waits ends = absurd ends.run
put_named old new name beside (Some h) (Some k) waits ends =
    let put : HasFile name (file_of h.now beside) k = ends.run.4 waits.1.apart in
    (waits.1.file, waits.1.is_open, put.0 ∙ waits.1.named)

pub arrived_named : (handle old new : Handle) (name beside : List ℕ) (owner : Option Owner) (bytes : List ℕ)
    (first a b c : Option History) → AtLast (λ k. new.file ≡ handle.file) b → Made handle name beside first a →
    Fills handle beside owner bytes (Ok replaced.Done) a b → AtLast (IsLocking old new) b →
    Ends beside name (Ok replaced.Done) (Ok replaced.Done) b c → AtNow (IsNamed new.file name) c
arrived_named handle old new name beside owner bytes first a b c same makes fills locks ends =
    let run = readied handle old new name beside owner bytes first a b same makes fills locks in
    put_named old new name beside b c (waiting old new name beside bytes first b run) ends

pub named_same : (handle new : Handle) (name : List ℕ) (a : Option History) → AtLast (λ k. new.file ≡ handle.file) a →
    AtNow (IsNamed handle.file name) a → AtNow (IsNamed new.file name) a
named_same handle new name None same at = tt
named_same handle new name (Some h) same at = (at.0, same ∙ at.1, at.2)

-- a name that is saved keeps its file while a new one is made beside it
pub kept_named : (handle : Handle) (name beside : List ℕ) (opened : Option ℕ) (a b : Option History) →
    Made handle name beside a b → AtNow (IsNamed opened name) a → AtNow (IsNamed opened name) b
kept_named handle name beside opened a None makes at = tt
kept_named handle name beside opened None (Some k) makes at = absurd makes.run
kept_named handle name beside opened (Some h) (Some k) makes at =
    let new = makes.run.4.1.new in
    (at.0, at.1, ap (newest None) (new.spares.names name (λ is. new.apart (sym is))) ∙ at.2)

-- ---- the file that is given

saved_after : (name bytes : List ℕ) (h k : History) → k.now ≡ h.now → k.unsynced ≡ h.unsynced →
    IsSaved name bytes h → IsSaved name bytes k
saved_after name bytes h k same noted x =
    (rw same x.0, elim x.1 [ inl durable ↦ inl (rw same durable) | inr cannot ↦ inr (rw noted cannot) ])

made_keeps : (handle : Handle) (name beside bytes : List ℕ) (t s : FolderState) (f : ℕ) →
    IsMade handle name beside f s t → KeepsOrReplaces name bytes s t
made_keeps handle name beside bytes t s f made = prepares_keeps name bytes s t (inr (beside, f, made.new))

pub by_looked : {H : Type 0} (handle new : Handle) (name beside : List ℕ) (owner : Option Owner) (bytes : List ℕ)
    (file : H) (result : Result (Option H) Error) (a b c : Option History) →
    ReplacesBy handle beside name owner bytes (Ok replaced.Done) a b → Rests b c →
    IfOk result (λ given. given ≡ Some file) → IsErr result ⊎ Compared new name true b c →
    ReplacesBy handle beside name owner bytes (replaced_of result) a c
by_looked handle new name beside owner bytes file (Ok None) a b c by rests given looks = absurd (cc)
by_looked handle new name beside owner bytes file (Ok (Some it)) a b c by rests given (inl err) = absurd (cc)
by_looked handle new name beside owner bytes file (Ok (Some it)) a b c by rests given (inr looked) =
    runs_then a b c (runs_ended a b (made_keeps handle name beside bytes) by) looked (λ s t x. x)
    (λ h k u x y s f made. rw y (x.0 s f made))
    (λ h k l x y s f made. saved_after name bytes k l y.stays y.noted (x.1 s f made))
by_looked handle new name beside owner bytes file (Err e) a b c by rests given looks =
    runs_then a b c (runs_ended a b (made_keeps handle name beside bytes) by) rests (λ s t x. x)
    (λ h k u x y s f made. rw y (x.0 s f made))
    (λ h k l x y s f made. tt)

pub keeps_looked : {H : Type 0} (handle : H → Handle) (name bytes : List ℕ) (old : Handle) (file : H)
    (result : Result (Option H) Error) (a b c : Option History) → IfOk result (λ given. given ≡ Some file) →
    IsErr result ⊎ Compared (handle file) name true b c →
    (Compared (handle file) name true b c → Renews name bytes old (handle file) a c) →
    KeepsLock handle name bytes old result a c
keeps_looked handle name bytes old file (Ok None) a b c given looks f = absurd (cc)
keeps_looked handle name bytes old file (Ok (Some it)) a b c given (inl err) f = absurd (cc)
keeps_looked handle name bytes old file (Ok (Some it)) a b c given (inr looked) f =
    let same : it ≡ file = cc in rw same (f looked)
keeps_looked handle name bytes old file (Err e) a b c given looks f = tt

pub none_given : {H : Type 0} (handle : H → Handle) (name bytes : List ℕ) (old : Handle) (e : Error)
    (result : Result (Option H) Error) (a b : Option History) → replaced_of result ≡ refusal_of e →
    KeepsLock handle name bytes old result a b
none_given handle name bytes old e (Ok None) a b is = tt
none_given handle name bytes old e (Ok (Some it)) a b is = absurd (not_done e (sym is))
none_given handle name bytes old e (Err error) a b is = tt

pub cause_of : {H : Type 0} (taken : Type 0) (result : Result (Option H) Error) (a b : Option History) →
    HasCause taken (replaced_of result) a b → HasCause taken result a b
cause_of taken (Ok None) a b cause = (cause.0, tt)
cause_of taken (Ok (Some it)) a b cause = (cause.0, tt)
cause_of taken (Err e) a b cause = cause

renews_after : (name bytes : List ℕ) (old new : Handle) (a b c : Option History) → Rests a b →
    Renews name bytes old new b c → Renews name bytes old new a c
renews_after name bytes old new a b c rests renews = (
  renews.0,
  runs_then a b renews.0 rests renews.1 (λ s t x. inl x) (λ h k u x y. rw x at y) (λ h k l x y. rw x at y),
  renews.2,
)

pub keeps_after : {H : Type 0} (handle : H → Handle) (name bytes : List ℕ) (old : Handle)
    (result : Result (Option H) Error) (a b c : Option History) → Rests a b →
    KeepsLock handle name bytes old result b c → KeepsLock handle name bytes old result a c
keeps_after handle name bytes old (Ok None) a b c rests keeps = tt
keeps_after handle name bytes old (Ok (Some it)) a b c rests keeps =
    renews_after name bytes old (handle it) a b c rests keeps
keeps_after handle name bytes old (Err e) a b c rests keeps = tt

-- ---- the whole save

pub not_mounted : (name : List ℕ) (owner : Option Owner) (a : Option History) →
    Mounted (folder_of name) owner (Ok false) a a
not_mounted name owner a = runs_none a (λ h. (refl, λ is. absurd (cc)))

abbrev IsFoundAt : List ℕ → Found → FolderState → Type 0
IsFoundAt name found s = (file : ℕ) × IsFound s name file found

pub found_at : (name : List ℕ) (found : Found) (a b c : Option History) → Rests a b →
    Turns (Finds name (Ok found)) quiet b c → Learns (IsFoundAt name found) a c
found_at name found a b c rests turn =
    learns_then (λ s. Unit {0}) (IsFoundAt name found) (IsFoundAt name found) a b c (rests_known a b rests)
    (runs_weaker b c (runs_of (Finds name (Ok found)) quiet b c turn) (λ s t x. x.0)
    (λ h k x. (x.0.0, (x.0.1, x.0.2)))) (λ s x y. y)

locked_ends : {H : Type 0} (name bytes : List ℕ) (found : Found) (owner : Owner) (result : Result (Option H) Error)
    (h k l : History) → IsOwned found owner → KeepsRefusals h k → k.now ≡ h.now → IsFoundAt name found h.now →
    ReplaceOrNotEnds name (Some owner) bytes (replaced_of result) k l → LockedEnds name bytes result h l
locked_ends name bytes found owner (Ok (Some it)) h k l owns kept same at x = x
locked_ends name bytes found owner (Ok None) h k l owns kept same at x =
    let given : IsGivenBy owner found = record { user = owns.user; group = owns.group; device = owns.device } in
    let there : IsFound k.now name at.0 found = rw same at.1 in (
      rw same at x.0,
      must_from name h k l kept same (hindered_reason name found owner k l l at.0 there given (kept_none l) x.1),
    )
locked_ends name bytes found owner (Err e) h k l owns kept same at x = tt

pub locked_saves : {H : Type 0} (name bytes : List ℕ) (found : Found) (owner : Owner)
    (result : Result (Option H) Error) (a b c : Option History) → IsOwned found owner →
    Learns (IsFoundAt name found) a b → ReplacesOrNot name (Some owner) bytes (replaced_of result) b c →
    SavesLocked name bytes result a c
locked_saves name bytes found owner result a b c owns learned replaces =
    runs_then a b c (runs_counted a b learned) replaces (no_change_keeps name bytes) (λ h k u x y. rw x.1.0 at y)
    (λ h k l x y. locked_ends name bytes found owner result h k l owns x.0 x.1.0 x.1.1 y)

pub none_saved : {H : Type 0} (handle : H → Handle) (name bytes : List ℕ) (found : Found) (a b : Option History) → MustStay found →
    Learns (IsFoundAt name found) a b → SavesLocked {H = H} name bytes (Ok None) a b
none_saved handle name bytes found a b stays learned =
    runs_weaker a b learned (no_change_keeps name bytes)
    (λ h k x. (inl x.0, found_reason name found h k x.1.0 x.1.1 stays))

locked_err : {H : Type 0} (name bytes : List ℕ) (result : Result (Option H) Error) (h k : History) → IsErr result →
    LockedEnds name bytes result h k
locked_err name bytes (Ok given) h k err = absurd (cc)
locked_err name bytes (Err e) h k err = tt

pub failed_saves : {H : Type 0} (handle : H → Handle) (name bytes : List ℕ) (result : Result (Option H) Error) (a b : Option History) →
    IsErr result → Rests a b → SavesLocked name bytes result a b
failed_saves handle name bytes result a b err rests =
    runs_weaker a b rests (no_change_keeps name bytes) (λ h k x. locked_err name bytes result h k err)

pub no_lock : {H : Type 0} (handle : H → Handle) (name bytes : List ℕ) (old : Handle)
    (result : Result (Option H) Error) (a b : Option History) → IsErr result →
    KeepsLock handle name bytes old result a b
no_lock handle name bytes old (Ok given) a b err = absurd (cc)
no_lock handle name bytes old (Err e) a b err = tt

-- where it is refused
pub so_first : (P : FolderState → Type 0) (Q : Type 0) (a : Option History) → Q → WhereFirst P Q a
so_first P Q None q = tt
so_first P Q (Some h) q = λ p. q

pub not_first : (P : FolderState → Type 0) (Q : Type 0) (a : Option History) → AtNow P a →
    WhereFirst (λ s. P s → ⊥) Q a
not_first P Q None at = tt
not_first P Q (Some h) at = λ never_so. absurd (never_so at)
