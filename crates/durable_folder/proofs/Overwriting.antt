-- A save in place, part after part.
use Rattle.durable_folder.proofs.Common.{◌≡◌, inl, inr, ℕ, false, List, [], ◌∷◌, Option, None, Some, Result, Ok, Err, refl, ap, ◌∙◌, IsErr, Error, Found, FolderState, Handle, OfFile, FindsOpen, Written, Writes, Synced, SyncsFile, History, Turns, Answer, AfterOk, OneSuch, MayTear, AllTorn, WholeOrTorn, Overwrites, IsCleared, IsHeadless, FileRuns, WritesOver}
use Rattle.durable_folder.specs.InPlace.{ClearsHead, WritesRest}
use Rattle.durable_folder.specs.InPlace.{IsNoFile, WritesHead}
use Rattle.durable_folder.proofs.Heads.{after_err}
use Rattle.durable_folder.proofs.Passing.{runs_of, runs_weaker, runs_then}
use Rattle.durable_folder.proofs.Writing.{Change, of_file_stays, file_stays, file_weaker, file_then}

finds_stays : (handle : Handle) (result : Result Found Error) (s t : FolderState) → FindsOpen handle result s t → t ≡ s
finds_stays handle (Ok found) s t x = x.0
finds_stays handle (Err error) s t x = x

still : (bytes : List ℕ) (vs : List (List ℕ)) → Overwrites bytes vs vs
still bytes vs c h = inl h

pub not_found : (handle : Handle) (n : Answer) (bytes : List ℕ) (found : Result Found Error)
    (result : Result (Unit {0}) Error) (a b : Option History) →
    IsErr result →
    Turns (FindsOpen handle found) n a b → WritesOver handle bytes result a b
not_found handle n bytes found result a b err turn =
    file_stays (FindsOpen handle found) (Overwrites bytes) (λ vs ws. Overwrites bytes vs ws
    × AfterOk result (ws ≡ bytes ∷ [])) handle.file n a b
    turn (finds_stays handle found)
    (still bytes) (λ s t x vs. (still bytes vs, after_err result (vs ≡ bytes ∷ []) err))

-- what is no plain file has no bytes
found_none : (handle : Handle) (result : Result Found Error) (found : Found) (s t : FolderState) →
    FindsOpen handle result s t → result ≡ Ok found →
    found.is_file ≡ false → handle.file ≡ None
found_none handle (Ok other) found s t x ok no_file = let same : other ≡ found = cc in
    x.1 (ap (λ f. f.is_file) same ∙ no_file)
found_none handle (Err error) found s t x ok no_file = absurd (cc)

pub no_file_found : (handle : Handle) (n : Answer) (result : Result Found Error) (found : Found)
    (a b : Option History) → result ≡ Ok found →
    found.is_file ≡ false →
    Turns (FindsOpen handle result) n a b → IsNoFile handle.file a b
no_file_found handle n result found a b ok no_file turn =
    runs_weaker a b (runs_of (FindsOpen handle result) n a b turn) (finds_stays handle result)
    (λ h k x. (finds_stays handle result h.now k.now x.0, found_none handle result found h.now k.now x.0 ok no_file))

none_of : (P : Change) (file : Option ℕ) (s t : FolderState) → file ≡ None → OfFile P file s t → t ≡ s
none_of P None s t none x = x
none_of P (Some f) s t none x = absurd (cc)

of_none : (P : Change) (file : Option ℕ) (s t : FolderState) → file ≡ None → t ≡ s → OfFile P file s t
of_none P None s t none x = x
of_none P (Some f) s t none x = absurd (cc)

no_file_then : (P : Change) (file other : Option ℕ) (n : Answer) (a b c : Option History) → other ≡ file →
    IsNoFile file a b →
    Turns (OfFile P other) n b c → IsNoFile file a c
no_file_then P file other n a b c same run turn =
    runs_then a b c run (runs_of (OfFile P other) n b c turn) (λ s t x. x)
    (λ h k u x y. none_of P other k.now u (same ∙ x.1) y ∙ x.0)
    (λ h k l x y. (none_of P other k.now l.now (same ∙ x.1) y.0 ∙ x.0, x.1))

pub no_file_over : (handle : Handle) (bytes : List ℕ) (result : Result (Unit {0}) Error) (a b : Option History) →
    IsNoFile handle.file a b →
    WritesOver handle bytes result a b
no_file_over handle bytes result a b run = record {
  run = runs_weaker a b run (λ s t x. of_file_stays (Overwrites bytes) handle.file s t x (still bytes))
      (λ h k x. of_none (λ vs ws. Overwrites bytes vs ws × AfterOk result (ws ≡ bytes ∷ [])) handle.file h.now
      k.now x.1 x.0);
}

-- the head is cleared
abbrev pub Cleared : List ℕ → Result (Unit {0}) Error → Change
Cleared bytes result old new = Overwrites bytes old new × AfterOk result (OneSuch IsCleared new)

tears_over : (bytes : List ℕ) (vs ws : List (List ℕ)) → MayTear vs ws → Overwrites bytes vs ws
tears_over bytes vs ws tears c h = elim (tears c h) [ inl old ↦ inl old | inr torn ↦ inr (inl torn) ]

torn_over : (bytes : List ℕ) (vs ws : List (List ℕ)) → AllTorn ws → Overwrites bytes vs ws
torn_over bytes vs ws torn c h = inr (inl (torn c h))

whole_over : (bytes : List ℕ) (vs ws : List (List ℕ)) → WholeOrTorn bytes ws → Overwrites bytes vs ws
whole_over bytes vs ws whole c h = elim (whole c h) [ inl is ↦ inr (inr is) | inr torn ↦ inr (inl torn) ]

pub head_cleared : (handle : Handle) (bytes : List ℕ) (cleared : Result (Unit {0}) Error) (a b : Option History) →
    ClearsHead handle cleared a b →
    FileRuns handle.file (Overwrites bytes) (Cleared bytes cleared) a b
head_cleared handle bytes cleared a b clears = file_weaker a b clears (tears_over bytes)
    (λ vs ws x. (tears_over bytes vs ws x.0, x.1))

-- what is written once it was looked at
pub over_after : (handle : Handle) (n : Answer) (bytes : List ℕ) (found : Result Found Error)
    (result : Result (Unit {0}) Error) (a b c : Option History) →
    Turns (FindsOpen handle found) n a b → WritesOver handle bytes result b c → WritesOver handle bytes result a c
over_after handle n bytes found result a b c turn writes =
    file_then a b c
    (file_stays (FindsOpen handle found) (λ vs ws. ws ≡ vs) (λ vs ws. ws ≡ vs) handle.file n a b turn
    (finds_stays handle found) (λ vs. refl)
    (λ s t x vs. refl)) writes
    (λ vs ws same. rw same (still bytes vs)) (λ vs ws us same over. rw same at over) (λ vs ws us same x. rw same at x)

pub not_cleared : (handle : Handle) (bytes : List ℕ) (cleared result : Result (Unit {0}) Error) (a c : Option History) →
    IsErr result →
    FileRuns handle.file (Overwrites bytes) (Cleared bytes cleared) a c → WritesOver handle bytes result a c
not_cleared handle bytes cleared result a c err runs =
    file_weaker a c runs (λ vs ws x. x) (λ vs ws x. (x.0, after_err result (ws ≡ bytes ∷ []) err))

-- the rest is there
abbrev pub Headless : ℕ → List ℕ → Result (Unit {0}) Error → Change
Headless head bytes result old new = Overwrites bytes old new × AfterOk result (OneSuch (IsHeadless head bytes) new)

after_ok : (r : Result (Unit {0}) Error) (P : Type 0) → r ≡ Ok tt → AfterOk r P → P
after_ok (Ok done) P ok x = x
after_ok (Err error) P ok x = absurd (cc)

pub rest_put : (handle mid : Handle) (head : ℕ) (bytes : List ℕ) (cleared rested : Result (Unit {0}) Error)
    (a c d : Option History) →
    mid.file ≡ handle.file → cleared ≡ Ok tt →
    FileRuns handle.file (Overwrites bytes) (Cleared bytes cleared) a c → WritesRest mid head bytes rested c d →
    FileRuns handle.file (Overwrites bytes) (Headless head bytes rested) a d
rest_put handle mid head bytes cleared rested a c d same ok runs rests =
    let more : WritesRest handle head bytes rested c d = rw same at rests in
    file_then a c d runs more (λ vs ws x. x)
    (λ vs ws us x y. torn_over bytes vs us (y (after_ok cleared (OneSuch IsCleared ws) ok x.1)))
    (λ vs ws us x y. let last = y (after_ok cleared (OneSuch IsCleared ws) ok x.1) in
    (torn_over bytes vs us last.0, last.1))

pub rest_not_put : (handle : Handle) (head : ℕ) (bytes : List ℕ) (rested result : Result (Unit {0}) Error)
    (a d : Option History) → IsErr result →
    FileRuns handle.file (Overwrites bytes) (Headless head bytes rested) a d → WritesOver handle bytes result a d
rest_not_put handle head bytes rested result a d err runs =
    file_weaker a d runs (λ vs ws x. x) (λ vs ws x. (x.0, after_err result (ws ≡ bytes ∷ []) err))

pub head_put : (handle mid : Handle) (head : ℕ) (bytes : List ℕ) (rested result : Result (Unit {0}) Error)
    (a d e : Option History) →
    mid.file ≡ handle.file → rested ≡ Ok tt →
    FileRuns handle.file (Overwrites bytes) (Headless head bytes rested) a d → WritesHead mid head bytes result d e →
    WritesOver handle bytes result a e
head_put handle mid head bytes rested result a d e same ok runs heads =
    let more : WritesHead handle head bytes result d e = rw same at heads in
    file_then a d e runs more (λ vs ws x. x)
    (λ vs ws us x y. whole_over bytes vs us (y (after_ok rested (OneSuch (IsHeadless head bytes) ws) ok x.1)))
    (λ vs ws us x y. let last = y (after_ok rested (OneSuch (IsHeadless head bytes) ws) ok x.1) in
    (whole_over bytes vs us last.0, last.1))

pub no_file_written : (file : Option ℕ) (handle : Handle) (bytes : List ℕ) (wrote : Result (Unit {0}) Error)
    (n : Answer) (a b c : Option History) →
    handle.file ≡ file → IsNoFile file a b →
    Turns (Writes handle bytes wrote) n b c → IsNoFile file a c
no_file_written file handle bytes wrote n a b c same run turn = no_file_then (Written handle.offset bytes wrote) file
    handle.file n a b c same run
    turn

pub no_file_synced : (file : Option ℕ) (handle : Handle) (result : Result (Unit {0}) Error) (n : Answer)
    (a b c : Option History) → handle.file ≡ file →
    IsNoFile file a b →
    Turns (SyncsFile handle.file result) n b c → IsNoFile file a c
no_file_synced file handle result n a b c same run turn = no_file_then (λ old new. Synced old result new) file
    handle.file n a b c same run turn
