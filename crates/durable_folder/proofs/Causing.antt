-- Why a call failed, call after call.
use Rattle.durable_folder.proofs.Common.{◌≡◌, ◌≢◌, ◌⊎◌, inl, inr, ℕ, ◌+◌, Bool, true, false, cond, List, [], ◌∷◌, Option, None, Some, Result, Ok, Err, refl, sym, ap, ◌∙◌, arith, IsErr, error_kind, Error, Replaced, Found, FolderState, file_of, newest, Handle, Finds, FindsOpen, refusal_of, IsLate, is_refusal, is_absence, quiet, error_answer, never, History, Turns, Runs, Answer, IsMade, Fills, IsLater, AtNow, cases_lt}
use Rattle.std.proofs.Common.{◌||◌}
use Rattle.std.specs.Result.{IsErrAnd}
use Rattle.std.specs.declared.io.ErrorKind.{ErrorKind}
use Rattle.std.specs.declared.io.ErrorKind.TheVariants as kind
use Rattle.durable_folder.specs.declared.answers.Replaced.TheVariants as replaced
use Rattle.durable_folder.specs.Calls.{Creates}
use Rattle.durable_folder.specs.Answers.{sync_answer, unless_unable, IsNamesSyncAnswer}
use Rattle.durable_folder.specs.Counting.{unless_so, is_unable, is_denied, is_presence, is_passed_over}
use Rattle.durable_folder.specs.Counting.{answer_to, answer_to_sync_folder, not_opened_answer, not_synced_answer, refused_answer}
use Rattle.durable_folder.specs.Histories.{Refusal, Making}
use Rattle.durable_folder.specs.declared.replacing.Owner.{Owner}
use Rattle.durable_folder.specs.Saving.{Tries, FillEnds}
use Rattle.durable_folder.specs.Causes.{HasFailed, HasFault, HasCause, IsNamed, TakenBelow, IsCause, IsPassedOver}
use Rattle.durable_folder.specs.Places.{IsBeside}
use Rattle.durable_folder.proofs.Writing.{of_file_names}

-- a call, by what its answer counts as
pub turn_later : (S : FolderState → FolderState → Type 0) (n : Answer) (a b : Option History) →
    Turns S n a b → IsLater a b
turn_later S n None None turn = (refl, omega arith)
turn_later S n None (Some k) turn = absurd turn
turn_later S n (Some h) None turn = absurd turn
turn_later S n (Some h) (Some k) turn = (refl, omega (arith, turn.3))

pub turn_failed : (S : FolderState → FolderState → Type 0) (n : Answer) (a b : Option History) → Turns S n a b →
    n.failures ≡ 1 → HasFailed a b
turn_failed S n None None turn one = omega arith
turn_failed S n None (Some k) turn one = absurd turn
turn_failed S n (Some h) None turn one = absurd turn
turn_failed S n (Some h) (Some k) turn one = omega (arith, turn.3, one)

pub unless_failed : (S : FolderState → FolderState → Type 0) (n : Answer) (t : Bool) (a b : Option History) →
    Turns S n a b →
    n.failures ≡ unless_so t → t ≡ false → HasFailed a b
unless_failed S n t a b turn counts fails = turn_failed S n a b turn (counts ∙ ap unless_so fails)

-- a call after others
pub later_then : (a b c : Option History) → IsLater a b → IsLater b c → IsLater a c
later_then a b c x y = (y.0 ∙ x.0, omega (arith, x.1, y.1))

pub then_failed : (a b c : Option History) → IsLater a b → HasFailed b c → HasFailed a c
then_failed a b c x y = omega (arith, x.1, y)

pub failed_then : (a b c : Option History) → HasFailed a b → IsLater b c → HasFailed a c
failed_then a b c x y = omega (arith, x, y.0, y.1)

-- what is synced, as far as it can be
sync_err : (t : Bool) (e : Error) → IsErr (unless_unable t e) → t ≡ false
sync_err true e err = absurd (cc)
sync_err false e err = refl

pub sync_failed : (S : FolderState → FolderState → Type 0) (place : List ℕ) (r : Result (Unit {0}) Error)
    (a b : Option History) →
    Turns S (answer_to_sync_folder place r) a b → IsErr (sync_answer r) → HasFailed a b
sync_failed S place (Ok done) a b turn err = absurd (cc)
sync_failed S place (Err e) a b turn err =
    unless_failed S (not_synced_answer place e) (is_unable (error_kind e)) a b turn refl
    (sync_err (is_unable (error_kind e)) e err)

pub file_sync_failed : (S : FolderState → FolderState → Type 0) (r : Result (Unit {0}) Error) (a b : Option History) →
    Turns S (answer_to r) a b → IsErr (sync_answer r) → HasFailed a b
file_sync_failed S (Ok done) a b turn err = absurd (cc)
file_sync_failed S (Err e) a b turn err = turn_failed S (error_answer never e) a b turn refl

pub late_was_err : (done result : Result (Unit {0}) Error) → IsLate done result → IsErr result → IsErr done
late_was_err (Ok done) (Ok answer) late err = absurd (cc)
late_was_err (Ok done) (Err e) late err = absurd late
late_was_err (Err e) result late err = refl

pub synced_fault : (S : FolderState → FolderState → Type 0) (place : List ℕ) (r result : Result (Unit {0}) Error)
    (a b : Option History) →
    IsNamesSyncAnswer r result → Turns S (answer_to_sync_folder place r) a b → HasFault result a b
synced_fault S place r result a b settles turn = (
  turn_later S (answer_to_sync_folder place r) a b turn,
  λ err. sync_failed S place r a b turn (late_was_err (sync_answer r) result settles.is err),
)

-- a refusal is no error
refusal_err : (t : Bool) (e : Error) → IsErr (cond t (Ok replaced.Refused) (Err e)) → t ≡ false
refusal_err true e err = absurd (cc)
refusal_err false e err = refl

pub refused_failed : (S : FolderState → FolderState → Type 0) (q : Refusal) (e : Error) (a b : Option History) →
    Turns S (refused_answer is_refusal q e) a b →
    IsErr (refusal_of e) → HasFailed a b
refused_failed S q e a b turn err =
    unless_failed S (refused_answer is_refusal q e) (is_refusal (error_kind e)) a b turn refl
    (refusal_err (is_refusal (error_kind e)) e err)

pub refused_fault : (S R : FolderState → FolderState → Type 0) (q : Refusal) (e : Error) (m : Answer)
    (a b c : Option History) →
    Turns S (refused_answer is_refusal q e) a b → Turns R m b c → HasFault (refusal_of e) a c
refused_fault S R q e m a b c first last =
    let later = turn_later R m b c last in (
      later_then a b c (turn_later S (refused_answer is_refusal q e) a b first) later,
      λ err. failed_then a b c (refused_failed S q e a b first err) later,
    )

-- a folder that may not be opened
not_denied : (k : ErrorKind) → k ≢ kind.PermissionDenied → is_denied k ≡ false
not_denied kind.PermissionDenied apart = absurd (apart refl)
not_denied _ apart = refl

denied_refused : (k : ErrorKind) → is_refusal k ≡ false → is_denied k ≡ false
denied_refused kind.PermissionDenied is = absurd (cc)
denied_refused _ is = refl

pub not_opened_failed : (S : FolderState → FolderState → Type 0) (folder : List ℕ) (e : Error) (a b : Option History) →
    Turns S (not_opened_answer folder e) a b → error_kind e ≢ kind.PermissionDenied → HasFailed a b
not_opened_failed S folder e a b turn apart =
    unless_failed S (not_opened_answer folder e) (is_denied (error_kind e)) a b turn refl
    (not_denied (error_kind e) apart)

pub not_opened_cause : (S : FolderState → FolderState → Type 0) (folder : List ℕ) (e : Error) (a b : Option History) →
    Turns S (not_opened_answer folder e) a b → HasFault (refusal_of e) a b
not_opened_cause S folder e a b turn = (
  turn_later S (not_opened_answer folder e) a b turn,
  λ err. unless_failed S (not_opened_answer folder e) (is_denied (error_kind e)) a b turn refl
      (denied_refused (error_kind e) (refusal_err (is_refusal (error_kind e)) e err)),
)

-- a fault is a cause
pub fault_cause : {T : Type 0} (taken : Type 0) (result : Result T Error) (a b : Option History) → HasFault result a b →
    HasCause taken result a b
fault_cause taken (Ok x) a b fault = (fault.0, tt)
fault_cause taken (Err e) a b fault = (fault.0, inl (fault.1 refl))

pub cause_later : {T : Type 0} (P Q : Type 0) (result : Result T Error) (a b c : Option History) →
    IsLater a b → (P → Q) →
    HasCause P result b c → HasCause Q result a c
cause_later P Q (Ok x) a b c later f cause = (later_then a b c later cause.0, tt)
cause_later P Q (Err e) a b c later f cause = (
  later_then a b c later cause.0,
  elim cause.1 [
    | inl failed ↦ inl (then_failed a b c later failed)
    | inr rest ↦ elim rest [ inl memory ↦ inr (inl memory) | inr taken ↦ inr (inr (taken.0, f taken.1)) ]
  ],
)

-- an error that is passed on
passed_on : {T : Type 0} (P : Type 0) (r : Result T Error) (other e : Error) (a b : Option History) →
    r ≡ Err e → other ≡ e →
    HasCause P r a b → IsLater a b × IsCause P other a b
passed_on P (Ok x) other e a b is passed cause = absurd (cc)
passed_on P (Err first) other e a b is passed cause =
    let same : first ≡ other = cc in (cause.0, rw same at cause.1)

pub cause_passed : {T U : Type 0} (P : Type 0) (r : Result T Error) (result : Result U Error) (e : Error)
    (a b : Option History) → r ≡ Err e →
    IsErrAnd result (λ error. error ≡ e) → HasCause P r a b → HasCause P result a b
cause_passed P r (Ok x) e a b is passed cause = absurd passed
cause_passed P r (Err other) e a b is passed cause =
    passed_on P r other e a b is passed cause

-- what holds of a state holds of the same one before
pub now_back : {P : FolderState → FolderState → Type 0} {X : History → History → Type 0} (Q : FolderState → Type 0)
    (a b : Option History) →
    Runs P (λ h k. (k.now ≡ h.now) × X h k) a b → AtNow Q b → AtNow Q a
now_back Q None b run at = tt
now_back Q (Some h) None run at = absurd run.run
now_back Q (Some h) (Some k) run at = rw run.run.4.0 at at

pub turn_back : (S : FolderState → FolderState → Type 0) (Q : FolderState → Type 0) (n : Answer)
    (a b : Option History) → Turns S n a b →
    ((s t : FolderState) → S s t → t ≡ s) → AtNow Q b → AtNow Q a
turn_back S Q n None b turn same at = tt
turn_back S Q n (Some h) None turn same at = absurd turn
turn_back S Q n (Some h) (Some k) turn same at = rw (same h.now k.now turn.0) at at

-- the new file has its name
same_name : (handle : Handle) (beside : List ℕ) (found other : Found) (s t u : FolderState) →
    IsNamed handle.file beside s →
    Finds beside (Ok found) s t → FindsOpen handle (Ok other) t u → (other.device ≡ found.device)
    × (other.inode ≡ found.inode)
same_name handle beside found other s t u named first last =
    let both : Some first.1 ≡ Some named.0 = sym first.2.there ∙ named.2 in
    let same : first.1 ≡ named.0 = cc in
    let is = last.2 named.0 named.1 in
    let fixed = ap (λ x. x.fixed) first.0 in (
      is.device ∙ ap (λ x. x.device named.0) fixed ∙ ap (λ f. s.fixed.device f) (sym same) ∙ sym first.2.device,
      is.inode ∙ ap (λ x. x.inode named.0) fixed ∙ ap (λ f. s.fixed.inode f) (sym same) ∙ sym first.2.inode,
    )

pub named_found : (handle : Handle) (beside : List ℕ) (found other : Found) (n m : Answer) (a b c : Option History) →
    AtNow (IsNamed handle.file beside) a → Turns (Finds beside (Ok found)) n a b →
    Turns (FindsOpen handle (Ok other)) m b c →
    ((other.device ≡ found.device) × (other.inode ≡ found.inode)) ⊎ HasFailed a c
named_found handle beside found other n m None None None named first last = inr (omega arith)
named_found handle beside found other n m None None (Some l) named first last = absurd last
named_found handle beside found other n m None (Some k) c named first last = absurd first
named_found handle beside found other n m (Some h) None c named first last = absurd first
named_found handle beside found other n m (Some h) (Some k) None named first last = absurd last
named_found handle beside found other n m (Some h) (Some k) (Some l) named first last =
    inl (same_name handle beside found other h.now k.now l.now named first.0 last.0)

absent : (k : ErrorKind) → k ≢ kind.NotFound → is_absence k ≡ false
absent kind.NotFound apart = absurd (apart refl)
absent _ apart = refl

pub not_absent : (t : Bool) (k : ErrorKind) → is_absence k ≡ t → (k ≡ kind.NotFound) ⊎ (is_absence k ≡ false)
not_absent true kind.NotFound is = inl refl
not_absent true _ is = inr refl
not_absent false k is = inr is

pub named_not_found : (beside : List ℕ) (opened : Option ℕ) (e : Error) (a b : Option History) →
    AtNow (IsNamed opened beside) a →
    Turns (Finds beside (Err e)) (error_answer is_absence e) a b → HasFailed a b
named_not_found beside opened e None None named turn = omega arith
named_not_found beside opened e None (Some k) named turn = absurd turn
named_not_found beside opened e (Some h) None named turn = absurd turn
named_not_found beside opened e (Some h) (Some k) named turn =
    elim (not_absent (is_absence (error_kind e)) (error_kind e) refl) [
      | inl is ↦
          let free = turn.0.1 is in
          let both : None ≡ Some named.0 = sym free.nothing ∙ named.2 in absurd (cc)
      | inr fails ↦ unless_failed (Finds beside (Err e)) (error_answer is_absence e) (is_absence (error_kind e))
          (Some h) (Some k) turn refl fails
    ]

-- a new file that is not made
not_present : (k : ErrorKind) → k ≢ kind.AlreadyExists → is_presence k ≡ false
not_present kind.AlreadyExists apart = absurd (apart refl)
not_present _ apart = refl

pub try_later : {F : Type 0} (handle : F → Handle) (beside : F → List ℕ) (text : List ℕ) (r : Result (Option F) Error)
    (a b : Option History) →
    Tries handle beside text r a b → IsLater a b
try_later handle beside text (Ok (Some new)) a b tries = turn_later (Creates handle text (Ok new)) quiet a b tries.1
try_later handle beside text (Ok None) a b tries =
    turn_later (Creates handle text (Err tries.0)) (refused_answer is_passed_over (Making text) tries.0) a b tries.2
try_later handle beside text (Err e) a b tries = turn_later (Creates handle text (Err e))
    (refused_answer is_passed_over (Making text) e) a b tries.1

passes_over : {F : Type 0} (taken : Type 0) (handle : F → Handle) (beside : F → List ℕ) (text : List ℕ) (e : Error)
    (t : Bool) (a b c : Option History) →
    IsLater a b → Tries handle beside text (Err e) b c → is_refusal (error_kind e) ≡ t →
    IsLater a c × IsPassedOver taken e a c
passes_over taken handle beside text e true a b c later tries is =
    (later_then a b c later (try_later handle beside text (Err e) b c tries), inl is)
passes_over taken handle beside text e false a b c later tries is = (
  later_then a b c later (try_later handle beside text (Err e) b c tries),
  inr (inl (then_failed a b c later (turn_failed (Creates handle text (Err e))
      (refused_answer is_passed_over (Making text) e) b c tries.1
      (ap (λ p. unless_so (p || is_refusal (error_kind e))) (not_present (error_kind e) tries.0) ∙ ap unless_so is)))),
)

pub may_pass_over : {F : Type 0} (taken : Type 0) (handle : F → Handle) (beside : F → List ℕ) (text : List ℕ)
    (e : Error) (a b c : Option History) →
    IsLater a b → Tries handle beside text (Err e) b c → IsLater a c × IsPassedOver taken e a c
may_pass_over taken handle beside text e a b c later tries =
    passes_over taken handle beside text e (is_refusal (error_kind e)) a b c later tries refl

refuses : (taken : Type 0) (t : Bool) (e : Error) (a b : Option History) → IsLater a b → IsPassedOver taken e a b →
    is_refusal (error_kind e) ≡ t →
    HasCause taken (cond t (Ok replaced.Refused) (Err e)) a b
refuses taken true e a b later why is = (later, tt)
refuses taken false e a b later (inl refused) is = absurd (cc)
refuses taken false e a b later (inr rest) is = (later, rest)

-- Where it is refused, there is another way.
pub refused_cause : (taken : Type 0) (e : Error) (a b : Option History) → IsLater a b × IsPassedOver taken e a b →
    HasCause taken (refusal_of e) a b
refused_cause taken e a b x = refuses taken (is_refusal (error_kind e)) e a b x.0 x.1 refl

-- the new file keeps its name while it is filled
fill_names : (handle : Handle) (beside : List ℕ) (owner : Option Owner) (bytes : List ℕ)
    (filled : Result Replaced Error) (h k : History) → FillEnds handle beside owner bytes filled h k → (n : List ℕ) →
    k.now.names n ≡ h.now.names n
fill_names handle beside owner bytes (Ok replaced.Done) h k x n =
    of_file_names (λ old new. handle.offset ≡ 0 → old ≡ [] ∷ [] → new ≡ bytes ∷ []) handle.file h.now k.now x n
fill_names handle beside owner bytes (Ok replaced.Refused) h k x n = ap (λ u. u.names n) x.0
fill_names handle beside owner bytes (Err e) h k x n = of_file_names (λ old new. Unit {0}) handle.file h.now k.now x n

pub fills_named : (handle : Handle) (beside name : List ℕ) (owner : Option Owner) (bytes : List ℕ)
    (filled : Result Replaced Error) (opened : Option ℕ) (a b : Option History) →
    Fills handle beside owner bytes filled a b → AtNow (IsNamed opened name) a → AtNow (IsNamed opened name) b
fills_named handle beside name owner bytes filled opened a None fills named = tt
fills_named handle beside name owner bytes filled opened None (Some k) fills named = absurd fills.run
fills_named handle beside name owner bytes filled opened (Some h) (Some k) fills named =
    (named.0, named.1, ap (newest None) (fill_names handle beside owner bytes filled h k fills.run.4 name) ∙ named.2)

pub made_named : {P : FolderState → FolderState → Type 0} (handle : Handle) (name beside : List ℕ)
    (a b : Option History) →
    Runs P (λ h k. (f : ℕ) × IsMade handle name beside f h.now k.now) a b → AtNow (IsNamed handle.file beside) b
made_named handle name beside a None makes = tt
made_named handle name beside None (Some k) makes = absurd makes.run
made_named handle name beside (Some h) (Some k) makes =
    let made = makes.run.4 in (made.0, ap (λ i. i.file) made.1.opened, made.1.named)

-- a name more is taken
taken_more : (number : ℕ) (name text : List ℕ) (s : FolderState) → TakenBelow number name s →
    IsBeside name number text →
    (text ≡ name) ⊎ (file_of s text ≢ None) → TakenBelow (number + 1) name s
taken_more number name text s below is taken m least most = elim (cases_lt m number) [
  | inl less ↦ below m least less
  | inr more ↦ let same : number ≡ m = omega arith in (text, rw (← same) is, taken)
]

pub taken_skipped : (number : ℕ) (name text : List ℕ) (a : Option History) → AtNow (TakenBelow number name) a →
    IsBeside name number text →
    text ≡ name → AtNow (TakenBelow (number + 1) name) a
taken_skipped number name text None below is same = tt
taken_skipped number name text (Some h) below is same = taken_more number name text h.now below is (inl same)

pub taken_tried : {F : Type 0} (handle : F → Handle) (beside : F → List ℕ) (number : ℕ) (name text : List ℕ)
    (a b c : Option History) →
    AtNow (TakenBelow number name) a → IsBeside name number text → Runs (λ s t. t ≡ s) (λ h k. k.now ≡ h.now) a b →
    Tries handle beside text (Ok None) b c → AtNow (TakenBelow (number + 1) name) a
taken_tried handle beside number name text None b c below is run tries = tt
taken_tried handle beside number name text (Some h) None c below is run tries = absurd run.run
taken_tried handle beside number name text (Some h) (Some k) None below is run tries = absurd tries.2
taken_tried handle beside number name text (Some h) (Some k) (Some l) below is run tries =
    let there : file_of k.now text ≢ None = tries.2.0.1 tries.1 in
    taken_more number name text h.now below is (inr (rw run.run.4 at there))

pub none_taken : (name : List ℕ) (a : Option History) → AtNow (TakenBelow 1 name) a
none_taken name None = tt
none_taken name (Some h) = λ number least most. absurd (omega (arith, least, most))
