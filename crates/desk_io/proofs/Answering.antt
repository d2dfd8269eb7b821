-- What a desk makes of a load and a save of durable_folder.
use Rattle.std.proofs.Common.{◌≡◌, inl, inr, ℕ, ◌<◌, ◌≤◌, Bool, true, false, if◌then◌else◌, List, length, take, Option, None, Some, Result, Ok, Err, refl, sym, ap, ◌∙◌, arith}
use Rattle.std.specs.Prelude.{IfErr, IfOk, IsErr, OnOk, Vec, nat_le}
use Rattle.std.specs.Result.{IsErrAnd}
use Rattle.std.specs.Global.{Global}
use Rattle.std.specs.IoError.{error_kind}
use Rattle.std.specs.declared.io.Error.{Error}
use Rattle.std.specs.declared.io.ErrorKind.{ErrorKind}
use Rattle.std.specs.declared.io.ErrorKind.TheVariants as kind
use Rattle.std.proofs.lemmas.List.{length-take, take_all}
use Rattle.std.proofs.lemmas.Bool.{cases_lt}
use Rattle.std.proofs.lemmas.Bool.Decides.{nat_tests}
use Rattle.durable_folder.specs.Calls.{IsUnchanged}
use Rattle.durable_folder.specs.Causes.{AllTaken, AtNow, HasFailed}
use Rattle.durable_folder.specs.FolderState.{FolderState, bytes_of, target}
use Rattle.durable_folder.specs.Histories.{History, Learns}
use Rattle.durable_folder.specs.Locking.{HasLoadCause, HasSaveCause, IsStale, LeadsToFile, Loads, WhereFirst}
use Rattle.durable_folder.specs.declared.loading.Loaded.{Loaded}
use Rattle.durable_folder.proofs.Learning.{learns_rests, learns_weaker}
use Rattle.desk_io.specs.Causes.{FailsWithCause, LoadHasCause}
use Rattle.desk_io.specs.Desk.{max_file_bytes}
use Rattle.desk_io.specs.Disk.{LeadsSomewhere, LoadsOnDisk}
use Rattle.desk_io.specs.Noted.{IsNoted, noted}
use Rattle.desk_io.specs.System.{load_answer, load_error, save_answer, save_error}
use Rattle.desk_io.specs.declared.desk.LoadError.{LoadError}
use Rattle.desk_io.specs.declared.desk.LoadError.TheVariants as load
use Rattle.desk_io.specs.declared.desk.SinkError.{SinkError}
use Rattle.desk_io.specs.declared.desk.SinkError.TheVariants as sink
use Rattle.desk_io.specs.declared.findings.Findings.{Findings}

-- ---- loading

-- this is the plain file to which the name leads, and what is found of it is so
pub record IsWhole (name : List ℕ) (loaded : Loaded) (s : FolderState) : Type 0 where
  pub there : LeadsSomewhere name s
  pub bytes : (file : ℕ) → LeadsToFile name file s → loaded.bytes.items ≡ bytes_of s file
  pub found : (file : ℕ) → LeadsToFile name file s → IsUnchanged loaded.found file s

-- what a load comes to that is answered so
abbrev pub Answers : List ℕ → Result Loaded LoadError → Option History → Option History → Type 0
Answers name (Ok loaded) a b = Learns (IsWhole name loaded) a b
Answers name (Err error) a b = LoadsOnDisk name (Err error) a b

-- a list is whole where it is short, and longer than the most where its start is
whole_of : (most : ℕ) (all start : List ℕ) → max_file_bytes < most → start ≡ take most all →
    length start ≤ max_file_bytes → start ≡ all
whole_of most all start above is short =
    let size = ap length is ∙ length-take most all in is ∙ take_all most all (omega arith)

long_of : (most : ℕ) (all start : List ℕ) → start ≡ take most all → max_file_bytes < length start →
    max_file_bytes < length all
long_of most all start is long = let size = ap length is ∙ length-take most all in omega arith

file_answers : (name : List ℕ) (most : ℕ) (loaded : Loaded) (a b : Option History) → max_file_bytes < most →
    Loads name most (Ok loaded) a b →
    Answers name (load_answer (Ok loaded)) a b
file_answers name most loaded a b above loads = elim (cases_lt max_file_bytes (length loaded.bytes.items)) [
  | inl long ↦
      let no : nat_le (length loaded.bytes.items) max_file_bytes ≡ false = grind (arith, nat_tests) in
      rw no (learns_weaker _ _ a b loads (λ s is. (
        is.there,
        λ file leads. long_of most (bytes_of s file) loaded.bytes.items (is.bytes file leads) long,
      )))
  | inr short ↦
      let yes : nat_le (length loaded.bytes.items) max_file_bytes ≡ true = grind (arith, nat_tests) in
      rw yes (learns_weaker _ _ a b loads (λ s is. record {
        there = is.there;
        bytes = λ file leads. whole_of most (bytes_of s file) loaded.bytes.items above (is.bytes file leads)
            (omega arith);
        found = is.found;
      }))
]

error_answers : (name : List ℕ) (most : ℕ) (error : Error) (a b : Option History) → Loads name most (Err error) a b →
    Answers name (load_answer (Err error)) a b
error_answers name most error a b loads = by_kind (error_kind error) refl
  where
    by_kind : (k : ErrorKind) → error_kind error ≡ k → Answers name (Err (load_error k)) a b
    by_kind kind.NotFound is = learns_weaker _ _ a b loads (λ s free. free is)
    by_kind kind.OutOfMemory is = learns_rests _ a b loads
    by_kind _ is = learns_rests _ a b loads

-- the answer of a desk says what the answer of the folder does
pub load_answers : (name : List ℕ) (most : ℕ) (read : Result Loaded Error) (answer : Result Loaded LoadError)
    (a b : Option History) → max_file_bytes < most →
    Loads name most read a b → answer ≡ load_answer read → Answers name answer a b
load_answers name most (Ok loaded) answer a b above loads is = rw is (file_answers name most loaded a b above loads)
load_answers name most (Err error) answer a b above loads is = rw is (error_answers name most error a b loads)

-- an error is passed on
pub error_passed : (name : List ℕ) (error : LoadError) (result : Result (Vec ℕ Global) LoadError)
    (a b : Option History) →
    IsErrAnd result (λ other. other ≡ error) → Answers name (Err error) a b → LoadsOnDisk name result a b
error_passed name error (Ok bytes) a b passed answers = absurd passed
error_passed name error (Err other) a b passed answers = rw passed answers

-- the bytes of a file are given once what was found of it is noted
pub bytes_given : (name : List ℕ) (loaded : Loaded) (result : Result (Vec ℕ Global) LoadError) (a b : Option History) →
    Answers name (Ok loaded) a b → IfOk result (λ bytes. bytes ≡ loaded.bytes) →
    IfErr result (λ error. error ≡ load.Memory) → LoadsOnDisk name result a b
bytes_given name loaded (Ok bytes) a b answers is memory =
    rw is (learns_weaker (IsWhole name loaded) _ a b answers (λ s whole. (whole.there, whole.bytes)))
bytes_given name loaded (Err error) a b answers is memory = rw memory (learns_rests (IsWhole name loaded) a b answers)

-- what was found of a file is noted, and so it is still
noted_now : (name : List ℕ) (loaded : Loaded) (findings : Findings) (a b : Option History) →
    Answers name (Ok loaded) a b →
    noted findings name ≡ Some loaded.found → AtNow (IsNoted name findings) b
noted_now name loaded findings a None answers is = tt
noted_now name loaded findings None (Some k) answers is = absurd answers.run
noted_now name loaded findings (Some h) (Some k) answers is =
    (loaded.found, is, rw (sym answers.run.4.0) at answers.run.4.1.found)

pub loaded_noted : (name : List ℕ) (loaded : Loaded) (findings : Findings) (result : Result (Vec ℕ Global) LoadError)
    (a b : Option History) →
    Answers name (Ok loaded) a b → OnOk result (noted findings name ≡ Some loaded.found) →
    OnOk result (AtNow (IsNoted name findings) b)
loaded_noted name loaded findings (Ok bytes) a b answers is = noted_now name loaded findings a b answers is
loaded_noted name loaded findings (Err error) a b answers is = tt

-- a load that failed met a fault: of the errors of the folder that one alone is passed on so
load_failed : (name : List ℕ) (error : Error) (a b : Option History) → HasLoadCause {T = Loaded} name (Err error) a b →
    load_error (error_kind error) ≡ load.Failed → HasFailed a b
load_failed name error a b cause failed = elim cause [
  | inl fault ↦ fault
  | inr absent ↦ let both : load.Missing ≡ load.Failed = ap load_error (sym absent.0) ∙ failed in absurd (cc)
]

load_fails : (name : List ℕ) (read : Result Loaded Error) (a b : Option History) → HasLoadCause name read a b →
    LoadHasCause (load_answer read) a b
load_fails name (Err error) a b cause failed = load_failed name error a b cause (let is = failed in cc)
load_fails name (Ok loaded) a b cause failed = by_size (nat_le (length loaded.bytes.items) max_file_bytes) failed
  where
    by_size : (short : Bool) → (if short then Ok loaded else Err load.TooLong) ≡ Err load.Failed → HasFailed a b
    by_size true is = absurd (cc)
    by_size false is = absurd (cc)

pub load_cause : (name : List ℕ) (read : Result Loaded Error) (result : Result (Vec ℕ Global) LoadError)
    (error : LoadError) (a b : Option History) →
    HasLoadCause name read a b → Err error ≡ load_answer read → IsErrAnd result (λ other. other ≡ error) →
    LoadHasCause result a b
load_cause name read (Ok bytes) error a b cause is passed failed = absurd passed
load_cause name read (Err other) error a b cause is passed failed =
    load_fails name read a b cause (sym is ∙ (let same : other ≡ load.Failed = cc in
    ap (λ e. Err e) (sym passed ∙ same)))

-- nothing else fails
pub memory_alone : (result : Result (Vec ℕ Global) LoadError) (a b : Option History) →
    IfErr result (λ error. error ≡ load.Memory) →
    LoadHasCause result a b
memory_alone (Ok bytes) a b memory failed = absurd (cc)
memory_alone (Err error) a b memory failed = absurd (let is = memory in cc)

-- ---- saving

pub refused_too : (P : FolderState → Type 0) (Q : Type 0) (done : Result (Unit {0}) Error)
    (result : Result (Unit {0}) SinkError) (a : Option History) →
    result ≡ save_answer done → WhereFirst P (IsErr done × Q) a → WhereFirst P (IsErr result × Q) a
refused_too P Q done result None is refuses = tt
refused_too P Q done result (Some h) is refuses = λ holds. (by_done done is (refuses holds).0, (refuses holds).1)
  where
    by_done : (done : Result (Unit {0}) Error) → result ≡ save_answer done → IsErr done → IsErr result
    by_done (Ok done) is err = absurd (cc)
    by_done (Err error) is err = rw is refl

-- a desk fails for the reason that the folder has
pub fails_too : (findings : Findings) (name : List ℕ) (done : Result (Unit {0}) Error)
    (result : Result (Unit {0}) SinkError) (a b : Option History) →
    result ≡ save_answer done → HasSaveCause (AtNow (λ s. AllTaken (target s name) s) a)
    (IsStale (noted findings name) name) done a b →
    FailsWithCause findings name result a b
fails_too findings name (Ok done) result a b is cause = (cause.0, λ failed. absurd (cc))
fails_too findings name (Err error) result a b is cause = (
  cause.0,
  λ failed. elim cause.1 [
    | inl why ↦ elim why [
      | inl fault ↦ inl fault
      | inr rest ↦ elim rest [
        | inl memory ↦
            let both : Err sink.Memory ≡ Err sink.Failed = ap (λ k. Err (save_error k)) (sym memory) ∙ sym is
            ∙ failed in absurd (cc)
        | inr taken ↦ inr (inl taken.1)
      ]
    ]
    | inr stale ↦ inr (inr stale.1)
  ],
)
