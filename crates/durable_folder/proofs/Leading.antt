-- A save from the name to where it leads.
use Rattle.durable_folder.proofs.Common.{◌≡◌, ◌≢◌, ◌⊎◌, inl, inr, ℕ, true, false, List, Option, None, Some, Result, Ok, Err, refl, sym, ap, ◌∙◌, IsErr, error_kind, Error, Found, FolderState, file_of, target, Handle, Finds, Opens, AtNow, AllTaken, History, Answer, Turns, Runs, Learns, IsSaved, AfterOk, WritesOver, KeepsOrReplaces, IsInPlace, SavesAt, IsSeen, WasFound}
use Rattle.std.specs.declared.io.ErrorKind.TheVariants as kind
use Rattle.durable_folder.specs.Calls.{Resolves}
use Rattle.durable_folder.specs.Counting.{not_given}
use Rattle.durable_folder.specs.Histories.{Leading, KeepsRefusals, RefusedSince, end_at}
use Rattle.durable_folder.specs.Saving.{IsReason}
use Rattle.durable_folder.specs.Ways.{IsOwnedBy, IsUntold, MustBeInPlace, Looks, is_link, MakesThrough, LeadsNowhere, LeadsTo, Saves}
use Rattle.durable_folder.proofs.Heads.{after_err, after_ok_map}
use Rattle.durable_folder.proofs.Learning.{learns, learns_then}
use Rattle.durable_folder.proofs.Passing.{runs_of, runs_none, runs_weaker, runs_then, runs_counted}
use Rattle.durable_folder.proofs.Refusing.{kept_refused, refused_at, refused_kept, refused_one}
use Rattle.durable_folder.proofs.Replacements.{prepares_keeps}
use Rattle.durable_folder.proofs.Bearing.{resolves_stays}
use Rattle.durable_folder.proofs.Tearing.{OpenedFor, opens_stays, tears_less, over_opened, over_arrived}

-- at a name that is no link
pub saves_less : (K L : FolderState → Type 0) (name bytes : List ℕ) (result : Result (Unit {0}) Error)
    (a b : Option History) →
    ((s : FolderState) → L s → K s) → SavesAt K name bytes result a b → SavesAt L name bytes result a b
saves_less K L name bytes result a b f (inl x) = inl x
saves_less K L name bytes result a b f (inr x) =
    inr (runs_weaker a b x (λ s t y known. y (f s known)) (λ h k y known. y (f h.now known)))

pub saves_nothing : (K : FolderState → Type 0) (name bytes : List ℕ) (result : Result (Unit {0}) Error)
    (a : Option History) → IsErr result →
    SavesAt K name bytes result a a
saves_nothing K name bytes result a err = inl (runs_none a (λ h. after_err result _ err))

-- looking at a name
pub looks_found : (name : List ℕ) (found : Found) (n : Answer) (a b : Option History) →
    Turns (Finds name (Ok found)) n a b →
    Looks name (Ok (Some found)) a b
looks_found name found n a b turn = runs_weaker a b (runs_of (Finds name (Ok found)) n a b turn) (λ s t x. x.0)
    (λ h k x. (x.0.0, (x.0.1, x.0.2)))

pub looks_free : (name : List ℕ) (e : Error) (n : Answer) (a b : Option History) → error_kind e ≡ kind.NotFound →
    Turns (Finds name (Err e)) n a b →
    Looks name (Ok None) a b
looks_free name e n a b absent turn =
    runs_weaker a b (runs_of (Finds name (Err e)) n a b turn) (λ s t x. x.0) (λ h k x. (x.0.0, x.0.1 absent))

pub looks_failed : (name : List ℕ) (e : Error) (n : Answer) (a b : Option History) → Turns (Finds name (Err e)) n a b →
    Looks name (Err e) a b
looks_failed name e n a b turn = runs_weaker a b (runs_of (Finds name (Err e)) n a b turn) (λ s t x. x.0)
    (λ h k x. (x.0.0, tt))

pub seen_no_link : (name : List ℕ) (found : Option Found) (s : FolderState) → is_link found ≡ false →
    IsSeen name (Ok found) s → target s name ≡ name
seen_no_link name None s is seen = seen.no_link
seen_no_link name (Some found) s is seen = seen.1.no_link is

pub seen_link : (name : List ℕ) (found : Option Found) (s : FolderState) → is_link found ≡ true →
    IsSeen name (Ok found) s → target s name ≢ name
seen_link name None s is seen = absurd (cc)
seen_link name (Some found) s is seen = seen.1.link is

keeps_none : (name bytes : List ℕ) (s t : FolderState) → t ≡ s → KeepsOrReplaces name bytes s t
keeps_none name bytes s t same = prepares_keeps name bytes s t (inl same)

pub nothing_saved : (P : FolderState → Type 0) (name bytes : List ℕ) (result : Result (Unit {0}) Error)
    (a b : Option History) → IsErr result →
    Learns P a b → Saves name bytes result a b
nothing_saved P name bytes result a b err known =
    inl (runs_weaker a b known (λ s t x. keeps_none (target s name) bytes s t x) (λ h k x. after_err result _ err))

pub must_from : (name : List ℕ) (h k l : History) → KeepsRefusals h k → k.now ≡ h.now → MustBeInPlace name k l →
    MustBeInPlace name h l
must_from name h k l more same (inl special) = inl (rw same at special)
must_from name h k l more same (inr (inl shared)) = inr (inl (rw same at shared))
must_from name h k l more same (inr (inr (inl mounted))) = inr (inr (inl (rw same at mounted)))
must_from name h k l more same (inr (inr (inr why))) =
    inr (inr (inr (kept_refused (IsReason name (IsOwnedBy h.now name) h.now) h k l more
    (refused_at (λ s. IsReason name (IsOwnedBy s name) s) h.now k.now k l same why))))

in_place_from : (name bytes : List ℕ) (h k l : History) → k.now ≡ h.now → IsInPlace name bytes k l →
    IsInPlace name bytes h l
in_place_from name bytes h k l same x = record {
  over = λ g is plain. x.over g (ap (λ s. file_of s name) same ∙ is) (ap (λ s. s.fixed.is_plain g) same ∙ plain);
  stays = λ g is. x.stays g (ap (λ s. file_of s name) same ∙ is) ∙ ap (λ s. s.names name) same;
  anew = λ none. x.anew (ap (λ s. file_of s name) same ∙ none);
}

-- what was found, and then the save there
pub saved_there : (P K : FolderState → Type 0) (name at bytes : List ℕ) (result : Result (Unit {0}) Error)
    (a b c : Option History) → Learns P a b →
    ((s : FolderState) → P s → (at ≡ target s name) × K s) → SavesAt K at bytes result b c → Saves name bytes result a c
saved_there P K name at bytes result a b c known f (inl x) =
    inl (runs_then a b c known x (λ s t y. keeps_none (target s name) bytes s t y)
    (λ h k u y z. rw (y.0, (f h.now y.1).0) at z)
    (λ h k l y z. rw (f h.now y.1).0 at z))
saved_there P K name at bytes result a b c known f (inr x) =
    inr (runs_then a b c (runs_counted a b known) x (λ s t y. tears_less (target s name) bytes s t
    (keeps_none (target s name) bytes s t y))
    (λ h k u y z. let there = f h.now y.1.1 in rw (y.1.0, there.0) at (z (rw (sym y.1.0) at there.1)))
    (λ h k l y z.
    let there = f h.now y.1.1 in
    let w = z (rw (sym y.1.0) at there.1) in (
      inl (rw there.0 at (must_from at h k l y.0 y.1.0 w.0)),
      rw there.0 at (after_ok_map result (IsInPlace at bytes k l) (IsInPlace at bytes h l)
          (in_place_from at bytes h k l y.1.0) w.1),
    )))

-- a save at a name that is no link
pub saved_here : (name bytes : List ℕ) (found : Option Found) (looked : Result (Option Found) Error)
    (result : Result (Unit {0}) Error)
    (a b c : Option History) → looked ≡ Ok found → is_link found ≡ false → Looks name looked a b →
    SavesAt (WasFound name found) name bytes result b c → Saves name bytes result a c
saved_here name bytes found looked result a b c ok no_link looks saves =
    let at : Learns (IsSeen name (Ok found)) a b = rw ok at looks in
    saved_there (IsSeen name (Ok found)) (WasFound name found) name name bytes result a b c at
    (λ s seen. let leads = seen_no_link name found s no_link seen in
    (sym leads, record { no_link = leads; seen = seen })) saves

-- a link that is opened
pub is_a_link : (name : List ℕ) (found : Option Found) (looked : Result (Option Found) Error) (a b : Option History) →
    looked ≡ Ok found →
    is_link found ≡ true → Looks name looked a b → Learns (λ s. target s name ≢ name) a b
is_a_link name found looked a b ok link looks =
    let at : Looks name (Ok found) a b = rw ok at looks in
    runs_weaker a b at (λ s t x. x) (λ h k x. (x.0, seen_link name found h.now link x.1))

pub leads_nowhere : {X : Type 0} (handle : X → Handle) (name : List ℕ) (e : Error) (n : Answer)
    (a b c : Option History) →
    error_kind e ≡ kind.NotFound → Learns (λ s. target s name ≢ name) a b → Turns (Opens handle name (Err e)) n b c →
    Learns (λ s. LeadsNowhere s name) a c
leads_nowhere handle name e n a b c absent link turn =
    learns_then (λ s. target s name ≢ name) (λ s. file_of s (target s name) ≡ None)
    (λ s. LeadsNowhere s name) a b c link
    (learns (Opens handle name (Err e)) (λ s. file_of s (target s name) ≡ None) n b c turn (λ s t x. (x.0, x.1 absent)))
    (λ s x y. record { link = x; nothing = y })

pub saved_nowhere : (name bytes : List ℕ) (result : Result (Unit {0}) Error) (a b c : Option History) →
    Learns (λ s. LeadsNowhere s name) a b →
    MakesThrough name bytes result b c → Saves name bytes result a c
saved_nowhere name bytes result a b c known makes =
    inr (runs_then a b c known makes (λ s t y. tears_less (target s name) bytes s t
    (keeps_none (target s name) bytes s t y))
    (λ h k u y z. let nowhere : LeadsNowhere k.now name = rw (sym y.0) at y.1 in rw y.0 at (z nowhere.nothing))
    (λ h k l y z.
    let nowhere : LeadsNowhere k.now name = rw (sym y.0) at y.1 in (
      inr (inl y.1),
      after_ok_map result (IsSaved (target k.now name) bytes l) (IsInPlace (target h.now name) bytes h l)
          (λ there. record {
            over = λ g is plain. let both : None ≡ Some g = sym y.1.nothing ∙ is in absurd (cc);
            stays = λ g is. let both : None ≡ Some g = sym y.1.nothing ∙ is in absurd (cc);
            anew = λ nothing. rw y.0 at there;
          }) (z nowhere.nothing),
    )))

pub not_opened : {X : Type 0} (handle : X → Handle) (name bytes : List ℕ) (r : Result X Error)
    (result : Result (Unit {0}) Error) (n : Answer)
    (a b c : Option History) → IsErr result → Learns (λ s. target s name ≢ name) a b →
    Turns (Opens handle name r) n b c →
    Saves name bytes result a c
not_opened handle name bytes r result n a b c err link turn =
    nothing_saved (λ s. target s name ≢ name) name bytes result a c err
    (learns_then (λ s. target s name ≢ name) (λ s. Unit {0}) (λ s. target s name ≢ name) a b c link
    (learns (Opens handle name r) (λ s. Unit {0}) n b c turn (λ s t x. (opens_stays handle name r s t x, tt)))
    (λ s x y. x))

-- the file to which it leads is open
pub opened : {X : Type 0} (handle : X → Handle) (name : List ℕ) (file : X) (n : Answer) (a b c : Option History) →
    Learns (λ s. target s name ≢ name) a b → Turns (Opens handle name (Ok file)) n b c →
    Learns (λ s. Opens handle name (Ok file) s s) a c
opened handle name file n a b c link turn =
    learns_then (λ s. target s name ≢ name) (λ s. Opens handle name (Ok file) s s)
    (λ s. Opens handle name (Ok file) s s) a b c link
    (learns (Opens handle name (Ok file)) (λ s. Opens handle name (Ok file) s s) n b c turn
    (λ s t x. (x.0, (refl, x.1, x.2, x.3)))) (λ s x y. y)

pub resolved : {P : Type 0} (text : P → List ℕ) (Known : FolderState → Type 0) (name : List ℕ) (path : P) (n : Answer)
    (a b c : Option History) →
    Learns Known a b → Turns (Resolves text name (Ok path)) n b c → Learns (LeadsTo name (text path)) a c
resolved text Known name path n a b c known turn =
    learns_then Known (LeadsTo name (text path)) (LeadsTo name (text path)) a b c known
    (learns (Resolves text name (Ok path)) (LeadsTo name (text path)) n b c turn (λ s t x. (x.0, (x.1, x.2))))
    (λ s x y. y)

pub resolved_only : {P : Type 0} (text : P → List ℕ) (name : List ℕ) (path : P) (n : Answer) (a b : Option History) →
    Turns (Resolves text name (Ok path)) n a b → Learns (LeadsTo name (text path)) a b
resolved_only text name path n a b turn =
    learns (Resolves text name (Ok path)) (LeadsTo name (text path)) n a b turn (λ s t x. (x.0, (x.1, x.2)))

pub not_resolved : {P : Type 0} (text : P → List ℕ) (Known : FolderState → Type 0) (name bytes : List ℕ)
    (r : Result P Error)
    (result : Result (Unit {0}) Error) (n : Answer) (a b c : Option History) → IsErr result →
    Learns Known a b → Turns (Resolves text name r) n b c → Saves name bytes result a c
not_resolved text Known name bytes r result n a b c err known turn =
    nothing_saved Known name bytes result a c err (learns_then Known (λ s. Unit {0}) Known a b c known
    (learns (Resolves text name r) (λ s. Unit {0}) n b c turn (λ s t x. (resolves_stays text name r s t x, tt)))
    (λ s x y. x))

pub not_looked : (name at bytes : List ℕ) (looked : Result (Option Found) Error) (result : Result (Unit {0}) Error)
    (a b c : Option History) →
    IsErr result → Learns (LeadsTo name at) a b → Looks at looked b c → Saves name bytes result a c
not_looked name at bytes looked result a b c err known looks =
    nothing_saved (LeadsTo name at) name bytes result a c err
    (learns_then (LeadsTo name at) (IsSeen at looked) (LeadsTo name at) a b c known looks (λ s x y. x))

pub saved_target : (name at bytes : List ℕ) (found : Option Found) (looked : Result (Option Found) Error)
    (result : Result (Unit {0}) Error)
    (a b c d : Option History) → looked ≡ Ok found → Learns (LeadsTo name at) a b → Looks at looked b c →
    SavesAt (WasFound at found) at bytes result c d → Saves name bytes result a d
saved_target name at bytes found looked result a b c d ok known looks saves =
    let seen : Learns (IsSeen at (Ok found)) b c = rw ok at looks in
    saved_there (λ s. (at ≡ target s name) × WasFound at found s) (WasFound at found) name at bytes result a c d
    (learns_then (LeadsTo name at) (IsSeen at (Ok found)) (λ s. (at ≡ target s name) × WasFound at found s) a
    b c known seen
    (λ s x y. (x.0, record { no_link = ap (λ m. target s m) x.0 ∙ x.1 ∙ sym x.0; seen = y }))) (λ s x. x) saves

-- a link whose end cannot be told
leading_runs : {P : Type 0} (text : P → List ℕ) (name : List ℕ) (e : Error) (a b : Option History) →
    Turns (Resolves text name (Err e)) (not_given (Leading (end_at name a))) a b →
    Runs (λ s t. t ≡ s) (λ h k. (k.now ≡ h.now) × IsUntold name h k) a b
leading_runs text name e None None turn = record { run = tt }
leading_runs text name e None (Some k) turn = absurd turn
leading_runs text name e (Some h) None turn = absurd turn
leading_runs text name e (Some h) (Some k) turn =
    let end = Leading (file_of h.now (target h.now name)) in
    let once = (runs_of (Resolves text name (Err e)) (not_given end) (Some h) (Some k) turn).run in
    record { run = (once.0, once.1, once.2, once.3, (turn.0, refused_one (λ r. r ≡ end) end h k turn.2 refl)) }

pub saved_unresolved : {X P : Type 0} (handle : X → Handle) (text : P → List ℕ) (name bytes : List ℕ)
    (file : X) (e : Error)
    (result : Result (Unit {0}) Error) (a b c d : Option History) →
    Learns (λ s. Opens handle name (Ok file) s s) a b →
    Turns (Resolves text name (Err e)) (not_given (Leading (end_at name b))) b c →
    WritesOver (handle file) bytes result c d → Saves name bytes result a d
saved_unresolved handle text name bytes file e result a b c d known turn writes =
    let first : Runs (λ s t. t ≡ s) (λ h k. IsUntold name h k × OpenedFor handle name file h k) a c =
    runs_then a b c (runs_counted a b known) (leading_runs text name e b c turn) (λ s t x. x) (λ h k u x y. y ∙ x.1.0)
    (λ h k l x y. (
      kept_refused (λ r. r ≡ Leading (file_of h.now (target h.now name))) h k l x.0
          (refused_at (λ s r. r ≡ Leading (file_of s (target s name))) h.now k.now k l x.1.0 y.1),
      record { opens = x.1.1; prepares = inl (y.0 ∙ x.1.0) },
    )) in
    inr (runs_then a c d first (runs_counted c d writes.run)
    (λ s t y. tears_less (target s name) bytes s t (keeps_none (target s name) bytes s t y))
    (λ h k u x y. over_opened handle name file bytes h k u x.1 y)
    (λ h k l x y. (
      inr (inr (refused_kept (λ r. r ≡ Leading (file_of h.now (target h.now name))) h k l x.0 y.0)),
      over_arrived handle name file bytes result h k l x.1 y.1,
    )))

-- what is taken where the name leads
abbrev pub TakenThere : List ℕ → FolderState → Type 0
TakenThere name s = AllTaken (target s name) s

pub here_taken : (name : List ℕ) (found : Option Found) (looked : Result (Option Found) Error) (a b : Option History) →
    looked ≡ Ok found →
    is_link found ≡ false → Looks name looked a b → AtNow (AllTaken name) b → AtNow (TakenThere name) a
here_taken name found looked None b ok no_link looks taken = tt
here_taken name found looked (Some h) None ok no_link looks taken = absurd looks.run
here_taken name found looked (Some h) (Some k) ok no_link looks taken =
    let seen : IsSeen name (Ok found) h.now = rw ok at looks.run.4.1 in
    let at : AllTaken name h.now = rw looks.run.4.0 at taken in rw (seen_no_link name found h.now no_link seen) at

pub there_taken : (name at : List ℕ) (a b : Option History) → Learns (LeadsTo name at) a b → AtNow (AllTaken at) b →
    AtNow (TakenThere name) a
there_taken name at None b known taken = tt
there_taken name at (Some h) None known taken = absurd known.run
there_taken name at (Some h) (Some k) known taken =
    let there : AllTaken at h.now = rw known.run.4.0 at taken in rw known.run.4.1.0 at there

-- a save after calls that have changed nothing
links_from : (name : List ℕ) (h k : History) → k.now ≡ h.now → LeadsNowhere k.now name → LeadsNowhere h.now name
links_from name h k same x = rw same at x

reason_from : (name : List ℕ) (h k l : History) → KeepsRefusals h k → k.now ≡ h.now →
    MustBeInPlace (target k.now name) k l ⊎ (LeadsNowhere k.now name ⊎ IsUntold name k l) →
    MustBeInPlace (target h.now name) h l ⊎ (LeadsNowhere h.now name ⊎ IsUntold name h l)
reason_from name h k l more same (inl must) =
    let leads : target k.now name ≡ target h.now name = ap (λ s. target s name) same in
    let at : MustBeInPlace (target h.now name) k l = rw leads at must in
    inl (must_from (target h.now name) h k l more same at)
reason_from name h k l more same (inr (inl nowhere)) = inr (inl (links_from name h k same nowhere))
reason_from name h k l more same (inr (inr untold)) =
    inr (inr (kept_refused (λ r. r ≡ Leading (file_of h.now (target h.now name))) h k l more
    (refused_at (λ s r. r ≡ Leading (file_of s (target s name))) h.now k.now k l same untold)))

pub saves_after : (P : FolderState → Type 0) (name bytes : List ℕ) (result : Result (Unit {0}) Error)
    (a b c : Option History) → Learns P a b →
    Saves name bytes result b c → Saves name bytes result a c
saves_after P name bytes result a b c known (inl x) =
    inl (runs_then a b c known x (λ s t y. keeps_none (target s name) bytes s t y)
    (λ h k u y z. rw y.0 at z)
    (λ h k l y z. rw y.0 at z))
saves_after P name bytes result a b c known (inr x) =
    inr (runs_then a b c (runs_counted a b known) x (λ s t y. tears_less (target s name) bytes s t
    (keeps_none (target s name) bytes s t y))
    (λ h k u y z. rw y.1.0 at z)
    (λ h k l y z.
    let leads : target k.now name ≡ target h.now name = ap (λ s. target s name) y.1.0 in
    let there : AfterOk result (IsInPlace (target h.now name) bytes k l) = rw leads at z.1 in (
      reason_from name h k l y.0 y.1.0 z.0,
      after_ok_map result (IsInPlace (target h.now name) bytes k l) (IsInPlace (target h.now name) bytes h l)
          (in_place_from (target h.now name) bytes h k l y.1.0) there,
    )))
