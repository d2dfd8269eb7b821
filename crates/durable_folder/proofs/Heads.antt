-- The parts of a save in place, call after call.
use Rattle.durable_folder.proofs.Common.{◌≡◌, ◌⊎◌, inl, inr, ℕ, ◌+◌, ◌<◌, ◌≤◌, List, [], ◌∷◌, length, take, drop, Option, Result, Ok, Err, refl, ap, ◌∙◌, arith, cases_lt, IsErr, Error, byte_at, Handle, Written, Writes, Synced, SyncsFile, History, Turns, Answer, AfterOk, OneSuch, MayTear, AllTorn, WholeOrTorn, IsCleared, IsHeadless, FileRuns}
use Rattle.std.proofs.Common.{replicate}
use Rattle.std.proofs.Common.{length-drop}
use Rattle.std.proofs.Math.ListN.{get_or-eq_default}
use Rattle.std.proofs.lemmas.List.{get_or-replicate}
use Rattle.durable_folder.specs.Calls.{Lengthened, ResizesFile, Seeks}
use Rattle.durable_folder.specs.InPlace.{IsHead, ClearsHead, WritesRest}
use Rattle.durable_folder.specs.InPlace.{WritesHead}
use Rattle.durable_folder.proofs.Versions.{zeros_written, zeros_synced, cleared_torn, rest_written, rest_sized, rest_synced, headless_torn, head_written}
use Rattle.durable_folder.proofs.Versions.{head_synced}
use Rattle.durable_folder.proofs.Writing.{Change, file_turn, file_weaker, file_then, file_sought}

-- after an error nothing is said
pub after_err : (r : Result (Unit {0}) Error) (P : Type 0) → IsErr r → AfterOk r P
after_err (Ok done) P err = cc
after_err (Err error) P err = tt

pub after_ok_map : (result : Result (Unit {0}) Error) (P Q : Type 0) → (P → Q) → AfterOk result P → AfterOk result Q
after_ok_map (Ok done) P Q f x = f x
after_ok_map (Err e) P Q f x = tt

abbrev pub zeros : List ℕ
zeros = replicate 64 0

zeros_all : (i : ℕ) → byte_at zeros i ≡ 0
zeros_all i = elim (cases_lt i 64) [
  | inl within ↦ get_or-replicate 64 i 0 0 within
  | inr past ↦ get_or-eq_default zeros 0 past
]

pub clear_failed : (file : Handle) (n : Answer) (wrote result : Result (Unit {0}) Error) (a b : Option History) →
    file.offset ≡ 0 → IsErr result →
    Turns (Writes file zeros wrote) n a b → ClearsHead file result a b
clear_failed file n wrote result a b start err turn =
    let tears : (vs ws : List (List ℕ)) → Written file.offset zeros wrote vs ws → MayTear vs ws =
    λ vs ws w. zeros_written zeros refl zeros_all vs wrote ws (rw start at w) in
    file_weaker a b (file_turn (Written file.offset zeros wrote) file.file n a b turn) tears
    (λ vs ws w. (tears vs ws w, after_err result (OneSuch IsCleared ws) err))

-- a file that is synced after a call
pub then_synced : (file : Option ℕ) (mid : Handle) (m : Answer) (result : Result (Unit {0}) Error)
    (b c : Option History) → mid.file ≡ file →
    Turns (SyncsFile mid.file result) m b c → FileRuns file (λ old new. Synced old result new)
    (λ old new. Synced old result new) b c
then_synced file mid m result b c same sync =
    rw same at (file_turn (λ old new. Synced old result new) mid.file m b c sync)

pub clear_done : (file mid : Handle) (n m : Answer) (wrote result : Result (Unit {0}) Error) (a b c : Option History) →
    file.offset ≡ 0 → wrote ≡ Ok tt →
    mid.file ≡ file.file →
    Turns (Writes file zeros wrote) n a b → Turns (SyncsFile mid.file result) m b c → ClearsHead file result a c
clear_done file mid n m wrote result a b c start ok same turn sync =
    let both : (vs ws us : List (List ℕ)) → Written file.offset zeros wrote vs ws → Synced ws result us →
    MayTear vs us × AfterOk result (OneSuch IsCleared us) =
    λ vs ws us w s. zeros_synced zeros refl zeros_all vs ws result us (rw (start, ok) at w) s in
    file_then a b c (file_turn (Written file.offset zeros wrote) file.file n a b turn)
    (then_synced file.file mid m result b c same sync)
    (λ vs ws w. zeros_written zeros refl zeros_all vs wrote ws (rw start at w))
    (λ vs ws us w s. (both vs ws us w s).0) both

-- a seek and a write
abbrev pub MayWrite : ℕ → List ℕ → Result (Unit {0}) Error → Change
MayWrite offset bytes result old new = (new ≡ old) ⊎ Written offset bytes result old new

pub seek_write : (file : Option ℕ) (mid : Handle) (offset : ℕ) (n m : Answer) (bytes : List ℕ)
    (sought wrote : Result (Unit {0}) Error) (a b c : Option History)
    →
    mid.file ≡ file → sought ≡ Ok tt → Turns (Seeks mid offset sought) n a b → Turns (Writes mid bytes wrote) m b c →
    FileRuns file (MayWrite offset bytes wrote) (Written offset bytes wrote) a c
seek_write file mid offset n m bytes sought wrote a b c same ok seek write =
    let writes : FileRuns file (Written mid.offset bytes wrote) (Written mid.offset bytes wrote) b c = rw same at
    (file_turn (Written mid.offset bytes wrote) mid.file m b c write) in
    let both : (vs ws us : List (List ℕ)) → (ws ≡ vs) × (sought ≡ Ok tt → mid.offset ≡ offset) →
    Written mid.offset bytes wrote ws us →
    Written offset bytes wrote vs us =
    λ vs ws us x w. rw (x.0, x.1 ok) at w in
    file_then a b c (file_sought file mid offset n sought a b seek) writes (λ vs ws x. inl x)
    (λ vs ws us x w. inr (both vs ws us x w)) both

-- the rest
pub rest_not_sought : (file mid : Handle) (head : ℕ) (n : Answer) (bytes : List ℕ)
    (sought result : Result (Unit {0}) Error) (a b : Option History) →
    IsErr result →
    Turns (Seeks mid head sought) n a b → WritesRest file head bytes result a b
rest_not_sought file mid head n bytes sought result a b err seek =
    file_weaker a b (file_sought file.file mid head n sought a b seek)
    (λ vs ws x one. rw x (cleared_torn vs one))
    (λ vs ws x one. (rw x.0 (cleared_torn vs one), after_err result (OneSuch (IsHeadless head bytes) ws) err))

rest_size : (head : ℕ) (bytes rest : List ℕ) → IsHead head bytes → rest ≡ drop head bytes →
    (head ≤ 64) × (head < 64 → length rest ≡ 0)
rest_size head bytes rest is_head is_rest =
    (omega arith, λ below. ap length is_rest ∙ length-drop head bytes ∙ omega arith)

may_write_torn : (head : ℕ) (bytes rest : List ℕ) (wrote : Result (Unit {0}) Error) → IsHead head bytes →
    rest ≡ drop head bytes →
    (vs ws : List (List ℕ)) → MayWrite head rest wrote vs ws → OneSuch IsCleared vs → AllTorn ws
may_write_torn head bytes rest wrote is_head is_rest vs ws (inl same) one = rw same (cleared_torn vs one)
may_write_torn head bytes rest wrote is_head is_rest vs ws (inr w) one =
    let size = rest_size head bytes rest is_head is_rest in rest_written head rest size.0 size.1 vs wrote ws one w

pub rest_not_written : (file mid : Handle) (head : ℕ) (n m : Answer) (bytes rest : List ℕ)
    (sought wrote result : Result (Unit {0}) Error)
    (a b c : Option History) →
    IsHead head bytes → rest ≡ drop head bytes → mid.file ≡ file.file → sought ≡ Ok tt → IsErr result →
    Turns (Seeks mid head sought) n a b → Turns (Writes mid rest wrote) m b c → WritesRest file head bytes result a c
rest_not_written file mid head n m bytes rest sought wrote result a b c is_head is_rest same ok err seek write =
    file_weaker a c (seek_write file.file mid head n m rest sought wrote a b c same ok seek write)
    (may_write_torn head bytes rest wrote is_head is_rest)
    (λ vs ws w one. (
      may_write_torn head bytes rest wrote is_head is_rest vs ws (inr w) one,
      after_err result (OneSuch (IsHeadless head bytes) ws)
          err,
    ))

-- the rest, and the length
abbrev pub RestSized : ℕ → List ℕ → Result (Unit {0}) Error → Result (Unit {0}) Error → Change
RestSized head rest wrote sized old new =
    (mid : List (List ℕ)) × Written head rest wrote old mid × Lengthened (head + length rest) sized mid new

pub rest_and_length : (file mid more : Handle) (head : ℕ) (n m p : Answer) (bytes rest : List ℕ)
    (sought wrote sized : Result (Unit {0}) Error)
    (a b c d : Option History) →
    IsHead head bytes → rest ≡ drop head bytes → mid.file ≡ file.file → more.file ≡ mid.file → sought ≡ Ok tt →
    wrote ≡ Ok tt →
    Turns (Seeks mid head sought) n a b → Turns (Writes mid rest wrote) m b c →
    Turns (ResizesFile more.file (head + length rest) sized) p c d →
    FileRuns file.file (λ old new. OneSuch IsCleared old → AllTorn new) (RestSized head rest wrote sized) a d
rest_and_length file mid more head n m p bytes rest sought wrote sized a b c d is_head is_rest same again ok done seek
    write resize =
    let size = rest_size head bytes rest is_head is_rest in
    let resizes : FileRuns file.file (Lengthened (head + length rest) sized)
    (Lengthened (head + length rest) sized) c d =
    rw (again, same) at (file_turn (Lengthened (head + length rest) sized) more.file p c d resize) in
    file_then a c d (seek_write file.file mid head n m rest sought wrote a b c same ok seek write) resizes
    (may_write_torn head bytes rest wrote is_head is_rest)
    (λ vs ws us w r one. rest_sized head rest size.0 size.1 vs ws (head + length rest) sized us one (rw done at w) r)
    (λ vs ws us w r. (ws, w, r))

pub rest_not_sized : (file : Handle) (head : ℕ) (bytes rest : List ℕ) (wrote sized result : Result (Unit {0}) Error)
    (a d : Option History) →
    IsHead head bytes → rest ≡ drop head bytes → wrote ≡ Ok tt → IsErr result →
    FileRuns file.file (λ old new. OneSuch IsCleared old → AllTorn new) (RestSized head rest wrote sized) a d →
    WritesRest file head bytes result a d
rest_not_sized file head bytes rest wrote sized result a d is_head is_rest done err runs =
    let size = rest_size head bytes rest is_head is_rest in
    file_weaker a d runs (λ vs ws x. x)
    (λ vs us x one. (
      rest_sized head rest size.0 size.1 vs x.0 (head + length rest) sized us one (rw done at x.1) x.2,
      after_err result (OneSuch (IsHeadless head bytes) us) err,
    ))

pub rest_done : (file more : Handle) (head : ℕ) (q : Answer) (bytes rest : List ℕ)
    (wrote sized result : Result (Unit {0}) Error) (a d e : Option History) →
    IsHead head bytes → rest ≡ drop head bytes → wrote ≡ Ok tt → sized ≡ Ok tt → more.file ≡ file.file →
    FileRuns file.file (λ old new. OneSuch IsCleared old → AllTorn new) (RestSized head rest wrote sized) a d →
    Turns (SyncsFile more.file result) q d e → WritesRest file head bytes result a e
rest_done file more head q bytes rest wrote sized result a d e is_head is_rest done whole same runs sync =
    let both : (vs ws us : List (List ℕ)) → RestSized head rest wrote sized vs ws → Synced ws result us →
    OneSuch IsCleared vs →
    AllTorn us × AfterOk result (OneSuch (IsHeadless head bytes) us) =
    λ vs ws us x s one. rest_synced head bytes rest is_head is_rest vs x.0 ws result us one (rw done at x.1)
    (rw whole at x.2) s in
    file_then a d e runs (then_synced file.file more q result d e same sync) (λ vs ws x. x)
    (λ vs ws us x s one. (both vs ws us x s one).0) both

-- the head
pub head_not_sought : (file mid : Handle) (head : ℕ) (n : Answer) (bytes : List ℕ)
    (sought result : Result (Unit {0}) Error) (a b : Option History) →
    IsHead head bytes → IsErr result →
    Turns (Seeks mid 0 sought) n a b → WritesHead file head bytes result a b
head_not_sought file mid head n bytes sought result a b is_head err seek =
    let torn : (vs ws : List (List ℕ)) → ws ≡ vs → OneSuch (IsHeadless head bytes) vs → WholeOrTorn bytes ws =
    λ vs ws x one c h. inr (headless_torn head bytes vs is_head one c (rw x at h)) in
    file_weaker a b (file_sought file.file mid 0 n sought a b seek) torn
    (λ vs ws x one. (torn vs ws x.0 one, after_err result (ws ≡ bytes ∷ []) err))

may_write_head : (bytes head : List ℕ) (wrote : Result (Unit {0}) Error) → IsHead (length head) bytes →
    head ≡ take (length head) bytes →
    (vs ws : List (List ℕ)) → MayWrite 0 head wrote vs ws → OneSuch (IsHeadless (length head) bytes) vs →
    WholeOrTorn bytes ws
may_write_head bytes head wrote is_head is_front vs ws (inl same) one =
    λ c h. inr (headless_torn (length head) bytes vs is_head one c (rw same at h))
may_write_head bytes head wrote is_head is_front vs ws (inr w) one =
    head_written bytes head is_head is_front vs wrote ws one w

pub head_not_written : (file mid : Handle) (n m : Answer) (bytes head : List ℕ)
    (sought wrote result : Result (Unit {0}) Error) (a b c : Option History) →
    IsHead (length head) bytes → head ≡ take (length head) bytes → mid.file ≡ file.file → sought ≡ Ok tt →
    IsErr result →
    Turns (Seeks mid 0 sought) n a b → Turns (Writes mid head wrote) m b c →
    WritesHead file (length head) bytes result a c
head_not_written file mid n m bytes head sought wrote result a b c is_head is_front same ok err seek write =
    file_weaker a c (seek_write file.file mid 0 n m head sought wrote a b c same ok seek write)
    (may_write_head bytes head wrote is_head is_front)
    (λ vs ws w one. (
      may_write_head bytes head wrote is_head is_front vs ws (inr w) one,
      after_err result (ws ≡ bytes ∷ []) err,
    ))

pub head_done : (file mid more : Handle) (n m p : Answer) (bytes head : List ℕ)
    (sought wrote result : Result (Unit {0}) Error) (a b c d : Option History)
    →
    IsHead (length head) bytes → head ≡ take (length head) bytes → mid.file ≡ file.file → more.file ≡ mid.file →
    sought ≡ Ok tt → wrote ≡ Ok tt →
    Turns (Seeks mid 0 sought) n a b → Turns (Writes mid head wrote) m b c → Turns (SyncsFile more.file result) p c d →
    WritesHead file (length head) bytes result a d
head_done file mid more n m p bytes head sought wrote result a b c d is_head is_front same again ok done
    seek write sync =
    let both : (vs ws us : List (List ℕ)) → Written 0 head wrote vs ws → Synced ws result us →
    OneSuch (IsHeadless (length head) bytes) vs →
    WholeOrTorn bytes us × AfterOk result (us ≡ bytes ∷ []) =
    λ vs ws us w s one. head_synced bytes head is_head is_front vs ws result us one (rw done at w) s in
    file_then a c d (seek_write file.file mid 0 n m head sought wrote a b c same ok seek write)
    (then_synced file.file more p result c d (again ∙ same) sync)
    (may_write_head bytes head wrote is_head is_front) (λ vs ws us w s one. (both vs ws us w s one).0) both
