-- Reading a file.
use Rattle.durable_folder.proofs.Common.{◌≡◌, inl, inr, refl, ℕ, List, take, drop, Option, None, Some, Result, Ok, Err, ap, ◌∙◌, Global, IsErr, error_kind, Error, Found, Handle, Opens, FindsOpen, FolderState, file_of, target, History, Answer, Turns, Rests, is_absence, error_answer}
use Rattle.std.proofs.Common.{Vec}
use Rattle.std.specs.declared.io.ErrorKind.TheVariants as kind
use Rattle.durable_folder.specs.declared.loading.Loaded.{Loaded}
use Rattle.durable_folder.specs.Calls.{Reads}
use Rattle.durable_folder.specs.FolderState.{bytes_of}
use Rattle.durable_folder.specs.Causes.{HasFault}
use Rattle.durable_folder.specs.Locking.{IsLoaded, Loads, HasLoadCause, IsRead, ReadsWhole, IsOnceOpen}
use Rattle.durable_folder.proofs.Causing.{turn_later, then_failed, unless_failed, not_absent}
use Rattle.durable_folder.proofs.Learning.{learns, learns_then, rests_then, rests_learns, turn_rests, opens_learns, finds_learns}
use Rattle.durable_folder.proofs.Learning.{finds_rests, Tells}
use Rattle.durable_folder.proofs.Tearing.{opened_plain}

reads_rests : (handle : Handle) (most : ℕ) (r : Result (Vec ℕ Global) Error) (n : Answer) (a b : Option History) →
    Turns (Reads handle most r) n a b →
    Rests a b
reads_rests handle most (Ok bytes) n a b turn = turn_rests (Reads handle most (Ok bytes)) n a b turn (λ s t x. x.0)
reads_rests handle most (Err e) n a b turn = turn_rests (Reads handle most (Err e)) n a b turn (λ s t x. x)

pub not_read : (handle : Handle) (most : ℕ) (result : Result Loaded Error) (a b : Option History) →
    IsErr result → Rests a b →
    ReadsWhole handle most result a b
not_read handle most (Ok loaded) a b err rests = absurd (cc)
not_read handle most (Err e) a b err rests = rests

pub found_not_read : (handle : Handle) (most : ℕ) (found : Result Found Error) (r : Result (Vec ℕ Global) Error)
    (l m : Answer) (a b c : Option History) →
    Turns (FindsOpen handle found) l a b → Turns (Reads handle most r) m b c → Rests a c
found_not_read handle most found r l m a b c x y =
    rests_then a b c (finds_rests handle found l a b x) (reads_rests handle most r m b c y)

from_start : (handle : Handle) (most : ℕ) (bytes : List ℕ) (s : FolderState) (file : ℕ) → handle.offset ≡ 0 →
    bytes ≡ take most (drop handle.offset (bytes_of s file)) → bytes ≡ take most (bytes_of s file)
from_start handle most bytes s file start is = is ∙ ap (λ n. take most (drop n (bytes_of s file))) start

pub read : (handle : Handle) (most : ℕ) (found : Found) (bytes : Vec ℕ Global) (loaded : Loaded) (l m : Answer)
    (a b c : Option History) →
    handle.offset ≡ 0 → loaded.found ≡ found → loaded.bytes ≡ bytes → Turns (FindsOpen handle (Ok found)) l a b →
    Turns (Reads handle most (Ok bytes)) m b c → ReadsWhole handle most (Ok loaded) a c
read handle most found bytes loaded l m a b c start is_found is_bytes x y =
    learns_then (Tells handle found) (λ s. (file : ℕ) → handle.file ≡ Some file →
    bytes.items ≡ take most (drop handle.offset (bytes_of s file)))
    (IsRead handle most loaded) a b c (finds_learns handle found l a b x)
    (learns (Reads handle most (Ok bytes)) (λ s. (file : ℕ) → handle.file ≡ Some file →
    bytes.items ≡ take most (drop handle.offset (bytes_of s file)))
    m b c y (λ s t z. z))
    (λ s u v. record {
      bytes = λ file opening. rw is_bytes (from_start handle most bytes.items s file start (v file opening));
      found = λ file opening. rw is_found (u.is file opening);
    })

-- from the name on
pub not_opened : {X : Type 0} (handle : X → Handle) (name : List ℕ) (most : ℕ) (e : Error) (n : Answer)
    (a b : Option History) →
    Turns (Opens handle name (Err e)) n a b → Loads name most (Err e) a b
not_opened handle name most e n a b turn =
    learns (Opens handle name (Err e)) (λ s. error_kind e ≡ kind.NotFound → file_of s (target s name) ≡ None) n a b
    turn (λ s t x. x)

pub opened_read : {X : Type 0} (handle : X → Handle) (name : List ℕ) (most : ℕ) (file : X)
    (r result : Result Loaded Error) (n : Answer)
    (a b c : Option History) → Turns (Opens handle name (Ok file)) n a b → ReadsWhole (handle file) most r b c →
    IsOnceOpen r result →
    Loads name most result a c
opened_read handle name most file (Ok loaded) (Ok other) n a b c turn reads is =
    let same : loaded ≡ other = cc in
    learns_then (λ s. Opens handle name (Ok file) s s) (IsRead (handle file) most loaded)
    (IsLoaded name most other) a b c
    (opens_learns handle name file n a b turn) reads
    (λ s x y. rw (← same) (record {
      there = (x.1, x.2);
      bytes = λ f leads. y.bytes f (opened_plain handle name file s s x f leads.there leads.is_plain);
      found = λ f leads. y.found f (opened_plain handle name file s s x f leads.there leads.is_plain);
    }))
opened_read handle name most file (Ok loaded) (Err e) n a b c turn reads is = absurd (cc)
opened_read handle name most file (Err e) (Ok other) n a b c turn reads is = absurd is
opened_read handle name most file (Err e) (Err other) n a b c turn reads is =
    learns_then (λ s. Opens handle name (Ok file) s s) (λ s. Unit {0}) (λ s. error_kind other ≡ kind.NotFound →
    file_of s (target s name) ≡ None) a b c
    (opens_learns handle name file n a b turn) (rests_learns (λ s. Unit {0}) b c reads (λ s. tt))
    (λ s x y absent. absurd (is absent))

-- why it fails
pub not_opened_why : {X : Type 0} (handle : X → Handle) (name : List ℕ) (e : Error) (a b : Option History) →
    Turns (Opens handle name (Err e)) (error_answer is_absence e) a b → HasLoadCause {T = Loaded} name (Err e) a b
not_opened_why handle name e a b turn =
    elim (not_absent (is_absence (error_kind e)) (error_kind e) refl) [
      | inl absent ↦ inr (
        absent,
        learns (Opens handle name (Err e)) (λ s. file_of s (target s name) ≡ None) (error_answer is_absence e) a b turn
            (λ s t x. (x.0, x.1 absent)),
      )
      | inr fails ↦ inl (unless_failed (Opens handle name (Err e)) (error_answer is_absence e)
          (is_absence (error_kind e)) a b turn refl fails)
    ]

pub not_read_why : {X : Type 0} (handle : X → Handle) (name : List ℕ) (file : X) (r result : Result Loaded Error)
    (n : Answer) (a b c : Option History) →
    Turns (Opens handle name (Ok file)) n a b → HasFault r b c → IsOnceOpen r result → HasLoadCause name result a c
not_read_why handle name file r (Ok loaded) n a b c turn fault is = tt
not_read_why handle name file (Ok loaded) (Err e) n a b c turn fault is = absurd (cc)
not_read_why handle name file (Err first) (Err e) n a b c turn fault is =
    inl (then_failed a b c (turn_later (Opens handle name (Ok file)) n a b turn) (fault.1 refl))
