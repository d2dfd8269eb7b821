-- What the answers of the system count as.
use Rattle.std.specs.Prelude.{ℕ, Bool, true, false, ◌||◌, List, [], ◌∷◌, Result, Ok, Err}
use Rattle.std.specs.IoError.{error_kind}
use Rattle.std.specs.declared.io.Error.{Error}
use Rattle.std.specs.declared.io.ErrorKind.{ErrorKind}
use Rattle.std.specs.declared.io.ErrorKind.TheVariants as kind
use Rattle.durable_folder.specs.declared.folder.Lock.{Lock}
use Rattle.durable_folder.specs.declared.folder.Lock.TheVariants as lock
use Rattle.durable_folder.specs.Histories.{Answer, Refusal, Linking, Making, Moving, Opening, Replacing}

-- by the kind of an error, whether the system gave no leave
abbrev pub is_refusal : ErrorKind → Bool
is_refusal kind.PermissionDenied = true
is_refusal kind.ReadOnlyFilesystem = true
is_refusal kind.InvalidFilename = true
is_refusal kind.ResourceBusy = true
is_refusal kind.CrossesDevices = true
is_refusal _ = false

-- whether it cannot sync this at all, or gave no leave to open it
abbrev pub is_unable : ErrorKind → Bool
is_unable kind.InvalidInput = true
is_unable _ = false

abbrev pub is_denied : ErrorKind → Bool
is_denied kind.PermissionDenied = true
is_denied _ = false

-- whether it says that there is nothing of a name, or that there is something
abbrev pub is_absence : ErrorKind → Bool
is_absence kind.NotFound = true
is_absence _ = false

abbrev pub is_presence : ErrorKind → Bool
is_presence kind.AlreadyExists = true
is_presence _ = false

abbrev pub unless_so : Bool → ℕ
unless_so true = 0
unless_so false = 1

abbrev pub refused_if : Bool → Refusal → List Refusal
refused_if true refusal = refusal ∷ []
refused_if false refusal = []

abbrev pub these_if : Bool → List ℕ → List (List ℕ)
these_if true place = place ∷ []
these_if false place = []

-- an answer that is no error
abbrev pub quiet : Answer
quiet = record { refusals = []; failures = 0; unsynced = [] }

-- an error, of which this says whether it is no fault
abbrev pub error_answer : (ErrorKind → Bool) → Error → Answer
error_answer excuses error =
    record { refusals = []; failures = unless_so (excuses (error_kind error)); unsynced = [] }

-- the same where this may have been refused
abbrev pub refused_answer : (ErrorKind → Bool) → Refusal → Error → Answer
refused_answer excuses refusal error =
    record {
      refusals = refused_if (is_refusal (error_kind error)) refusal;
      failures = unless_so (excuses (error_kind error));
      unsynced = [];
    }

abbrev pub never : ErrorKind → Bool
never k = false

-- what an answer counts as
abbrev pub answer_to : {T : Type 0} → Result T Error → Answer
answer_to (Ok x) = quiet
answer_to (Err error) = error_answer never error

-- that there is nothing of a name is no fault of a call that asks
abbrev pub answer_to_find : {T : Type 0} → Result T Error → Answer
answer_to_find (Ok x) = quiet
answer_to_find (Err error) = error_answer is_absence error

-- another program that holds the lock gives no leave for what has to be, and where there are no locks none is needed
abbrev pub answer_to_lock : Result Lock Error → Answer
answer_to_lock (Ok lock.Elsewhere) = record { refusals = []; failures = 1; unsynced = [] }
answer_to_lock _ = quiet

-- A new file is not needed where there is no leave for it, and another name is tried where there is something.
abbrev pub is_passed_over : ErrorKind → Bool
is_passed_over k = is_presence k || is_refusal k

abbrev pub answer_to_create : {T : Type 0} → List ℕ → Result T Error → Answer
answer_to_create name (Ok x) = quiet
answer_to_create name (Err error) = refused_answer is_passed_over (Making name) error

abbrev pub answer_to_rename : {T : Type 0} → List ℕ → List ℕ → Result T Error → Answer
answer_to_rename from to (Ok x) = quiet
answer_to_rename from to (Err error) = refused_answer is_refusal (Moving from to) error

-- an error of a call that only makes a file what it is to be, or tells where a link leads: it counts as a refusal
abbrev pub not_given : Refusal → Answer
not_given refusal = record { refusals = refusal ∷ []; failures = 0; unsynced = [] }

abbrev pub answer_to_give : {T : Type 0} → Refusal → Result T Error → Answer
answer_to_give refusal (Ok x) = quiet
answer_to_give refusal (Err error) = not_given refusal

-- whether an error of giving a file a second name is taken to say that files have none: it says neither that something
-- is of that name nor that memory ran out
abbrev pub is_unlinkable : ErrorKind → Bool
is_unlinkable kind.AlreadyExists = false
is_unlinkable kind.OutOfMemory = false
is_unlinkable _ = true

-- A file that gets a name where nothing is replaces nothing.
abbrev pub not_linked_answer : Bool → List ℕ → Answer
not_linked_answer true to = not_given (Linking to)
not_linked_answer false to = record { refusals = []; failures = 1; unsynced = [] }

abbrev pub answer_to_link : {T : Type 0} → List ℕ → Result T Error → Answer
answer_to_link to (Ok x) = not_given (Replacing to)
answer_to_link to (Err error) = not_linked_answer (is_unlinkable (error_kind error)) to

-- a folder that may not be opened is noted
abbrev pub not_opened_answer : List ℕ → Error → Answer
not_opened_answer folder error =
    record {
      refusals = refused_if (is_refusal (error_kind error)) (Opening folder);
      failures = unless_so (is_denied (error_kind error));
      unsynced = these_if (is_denied (error_kind error)) folder;
    }

-- and so is one that cannot be synced
abbrev pub not_synced_answer : List ℕ → Error → Answer
not_synced_answer folder error =
    record {
      refusals = [];
      failures = unless_so (is_unable (error_kind error));
      unsynced = these_if (is_unable (error_kind error)) folder;
    }

abbrev pub answer_to_open_folder : {T : Type 0} → List ℕ → Result T Error → Answer
answer_to_open_folder folder (Ok x) = quiet
answer_to_open_folder folder (Err error) = not_opened_answer folder error

abbrev pub answer_to_sync_folder : {T : Type 0} → List ℕ → Result T Error → Answer
answer_to_sync_folder folder (Ok x) = quiet
answer_to_sync_folder folder (Err error) = not_synced_answer folder error
