-- What a save leaves at a name that has a file.
use Rattle.durable_folder.proofs.Common.{◌≡◌, ◌≢◌, ◌⊎◌, inl, inr, ℕ, ◌<◌, ◌≤◌, Bool, true, false, List, [], ◌∷◌, Option, None, Some, Result, Ok, Err, refl, sym, ap, ◌∙◌, arith, IsErr, Error, Replaced, Found, FolderState, SomeOf, MayHold, LeavesOf, file_of, target, Handle, SparesNames, OfFile, Opens, History, Turns, Runs, Answer, IsSaved, AfterOk, Overwrites, WritesOver, folder_of, KeepsOrReplaces, Prepares, ReplaceOrNotEnds, ReplacesOrNot, IsInPlace, SavesAt, WasFound, cases_lt}
use Rattle.durable_folder.specs.declared.answers.Replaced.TheVariants as replaced
use Rattle.durable_folder.specs.declared.replacing.Owner.{Owner}
use Rattle.durable_folder.specs.FolderState.{IsShared}
use Rattle.durable_folder.specs.Calls.{IsFound, if_plain}
use Rattle.durable_folder.specs.Histories.{KeepsRefusals, RefusedSince}
use Rattle.durable_folder.specs.Saving.{IsOther, IsOwner, IsReason}
use Rattle.durable_folder.specs.Ways.{IsTornLeft, KeepsOrTears, IsSpecial, IsOwnedBy, MustBeInPlace, MustStay, ReplacesFound}
use Rattle.durable_folder.proofs.Heads.{after_ok_map, after_err}
use Rattle.durable_folder.proofs.Passing.{runs_of, runs_weaker, runs_then, runs_counted}
use Rattle.durable_folder.proofs.Reasons.{reason_owned}
use Rattle.durable_folder.proofs.Refusing.{kept_refused, refused_at, refused_kept, refused_weaker}
use Rattle.durable_folder.proofs.Replacements.{taken_apart, prepares_keeps}
use Rattle.durable_folder.proofs.Writing.{of_file_names}

same_or_not : (f g : ℕ) → (f ≡ g) ⊎ (f ≢ g)
same_or_not f g = elim (cases_lt f g) [
  | inl below ↦ inr (λ same. omega arith)
  | inr from ↦ elim (cases_lt g f) [ inl above ↦ inr (λ same. omega arith) | inr to ↦ inl (omega arith) ]
]

-- what one entry leaves after its file was written over
entry_torn : (bytes : List ℕ) (g : ℕ) (t u : FolderState) (left : Option (List ℕ)) → SparesNames g t u →
    Overwrites bytes (t.files g) (u.files g) →
    (e : Option ℕ) → LeavesOf u left e →
    LeavesOf t left e ⊎ ((e ≡ Some g) × ((left ≡ Some bytes) ⊎ IsTornLeft left))
entry_torn bytes g t u left spares over None x = inl x
entry_torn bytes g t u left spares over (Some f) x =
    elim (same_or_not f g) [
      | inl same ↦
          let at : MayHold (u.files g) x.0 = rw same at x.1 in
          elim (over x.0 at) [
            | inl old ↦ let back : MayHold (t.files f) x.0 = rw (sym same) at old in inl (x.0, back, x.2)
            | inr rest ↦ elim rest [
              | inl torn ↦ inr (ap Some same, inr (rw x.2 torn))
              | inr new ↦ inr (ap Some same, inl (x.2 ∙ ap Some new))
            ]
          ]
      | inr other ↦ let back : MayHold (t.files f) x.0 = rw (spares.files f other) at x.1 in inl (x.0, back, x.2)
    ]

some_torn : (bytes : List ℕ) (g : ℕ) (t u : FolderState) (left : Option (List ℕ)) → SparesNames g t u →
    Overwrites bytes (t.files g) (u.files g) →
    (es : List (Option ℕ)) →
    SomeOf (LeavesOf u left) es → SomeOf (LeavesOf t left) es
    ⊎ (SomeOf (λ e. e ≡ Some g) es × ((left ≡ Some bytes) ⊎ IsTornLeft left))
some_torn bytes g t u left spares over [] none = absurd none
some_torn bytes g t u left spares over (e ∷ es) (inl x) =
    elim (entry_torn bytes g t u left spares over e x) [ inl old ↦ inl (inl old) | inr new ↦ inr (inl new.0, new.1) ]
some_torn bytes g t u left spares over (e ∷ es) (inr x) =
    elim (some_torn bytes g t u left spares over es x) [ inl old ↦ inl (inr old) | inr new ↦ inr (inr new.0, new.1) ]

pub prepared_names : (name : List ℕ) (s t : FolderState) → Prepares name s t → (n : List ℕ) →
    (n ≡ name) ⊎ IsOther name s n → t.names n ≡ s.names n
prepared_names name s t (inl same) n is = ap (λ x. x.names n) same
prepared_names name s t (inr p) n (inl is) = p.2.spares.names n (λ away. p.2.apart (sym away ∙ is))
prepared_names name s t (inr p) n (inr taken) = p.2.spares.names n (taken_apart name p.0 p.1 s t p.2 n taken)

over_some : (name bytes : List ℕ) (g : ℕ) (s t u : FolderState) → file_of s name ≡ Some g → Prepares name s t →
    SparesNames g t u →
    Overwrites bytes (t.files g) (u.files g) → KeepsOrTears name bytes s u
over_some name bytes g s t u is prepares spares over =
    let keeps = prepares_keeps name bytes s t prepares in
    record {
      here = λ left x.
          let at : SomeOf (LeavesOf u left) (t.names name) = rw (spares.names name) at x in
          elim (some_torn bytes g t u left spares over (t.names name) at) [
            | inl old ↦ elim (keeps.here left old) [ inl y ↦ inl y | inr y ↦ inr (inl y) ]
            | inr new ↦ inr new.1
          ];
      others = λ n apart taken left x.
          let at : SomeOf (LeavesOf u left) (t.names n) = rw (spares.names n) at x in
          elim (some_torn bytes g t u left spares over (t.names n) at) [
            | inl old ↦ inl (keeps.others n apart taken left old)
            | inr new ↦
                let shared : SomeOf (λ e. e ≡ Some g) (s.names n) =
                rw (prepared_names name s t prepares n (inr taken)) at new.0 in
                inr ((g, is, shared), new.1)
          ];
    }

-- what keeps or replaces does not tear
pub tears_less : (name bytes : List ℕ) (s t : FolderState) → KeepsOrReplaces name bytes s t →
    KeepsOrTears name bytes s t
tears_less name bytes s t keeps = record {
  here = λ left x. elim (keeps.here left x) [ inl y ↦ inl y | inr y ↦ inr (inl y) ];
  others = λ n apart taken left x. inl (keeps.others n apart taken left x);
}

no_tear : (name bytes : List ℕ) (s t : FolderState) → Prepares name s t → KeepsOrTears name bytes s t
no_tear name bytes s t prepares = tears_less name bytes s t (prepares_keeps name bytes s t prepares)

over_keeps : (name bytes : List ℕ) (file : Option ℕ) (s t u : FolderState) →
    ((g : ℕ) → file ≡ Some g → file_of s name ≡ Some g) →
    Prepares name s t → OfFile (Overwrites bytes) file t u → KeepsOrTears name bytes s u
over_keeps name bytes None s t u is prepares x = rw x (no_tear name bytes s t prepares)
over_keeps name bytes (Some g) s t u is prepares x = over_some name bytes g s t u (is g refl) prepares x.0 x.1

over_bytes : (bytes : List ℕ) (result : Result (Unit {0}) Error) (file : Option ℕ) (t u : FolderState) →
    OfFile (λ old new. Overwrites bytes old new × AfterOk result (new ≡ bytes ∷ [])) file t u →
    OfFile (Overwrites bytes) file t u × AfterOk result ((g : ℕ) → file ≡ Some g → u.files g ≡ bytes ∷ [])
over_bytes bytes (Ok done) None t u x = (x, λ g is. absurd (cc))
over_bytes bytes (Ok done) (Some f) t u x = (
  (x.0, x.1.0),
  λ g is. let same : f ≡ g = cc in
      ap (λ i. u.files i) (sym same) ∙ x.1.1,
)
over_bytes bytes (Err e) None t u x = (x, tt)
over_bytes bytes (Err e) (Some f) t u x = ((x.0, x.1.0), tt)

pub opens_stays : {X : Type 0} (handle : X → Handle) (name : List ℕ) (r : Result X Error) (s t : FolderState) →
    Opens handle name r s t → t ≡ s
opens_stays handle name (Ok f) s t x = x.0
opens_stays handle name (Err e) s t x = x.0

keeps_none : (name bytes : List ℕ) (s t : FolderState) → t ≡ s → KeepsOrReplaces name bytes s t
keeps_none name bytes s t same = prepares_keeps name bytes s t (inl same)

pub not_opened : {X : Type 0} (handle : X → Handle) (name : List ℕ) (Known : FolderState → Type 0) (bytes : List ℕ)
    (r : Result X Error)
    (result : Result (Unit {0}) Error) (n : Answer) (a b : Option History) → IsErr result →
    Turns (Opens handle name r) n a b → SavesAt Known name bytes result a b
not_opened handle name Known bytes r result n a b err turn =
    inl (runs_weaker a b (runs_of (Opens handle name r) n a b turn)
    (λ s t x. keeps_none name bytes s t (opens_stays handle name r s t x))
    (λ h k x. after_err result (IsSaved name bytes k) err))

-- a replacement that comes to an end
by_new : {X : Type 0} (handle : X → Handle) (name : List ℕ) (Known : FolderState → Type 0) (bytes : List ℕ)
    (r : Result X Error)
    (owner : Option Owner) (replaced : Result Replaced Error) (result : Result (Unit {0}) Error)
    (n : Answer) (a b c : Option History) →
    ((h k : History) → ReplaceOrNotEnds name owner bytes replaced h k → AfterOk result (IsSaved name bytes k)) →
    Turns (Opens handle name r) n a b → ReplacesOrNot name owner bytes replaced b c →
    SavesAt Known name bytes result a c
by_new handle name Known bytes r owner replaced result n a b c ends turn replaces =
    inl (runs_then a b c (runs_of (Opens handle name r) n a b turn) replaces
    (λ s t x. keeps_none name bytes s t (opens_stays handle name r s t x))
    (λ h k u x y. let at : KeepsOrReplaces name bytes h.now u = rw (opens_stays handle name r h.now k.now x.0) at y in
    at)
    (λ h k l x y. ends k l y))

-- what was found was replaced, or is not to be
over_new : {X : Type 0} (handle : X → Handle) (name : List ℕ) (Known : FolderState → Type 0) (old : Found)
    (bytes : List ℕ) (r : Result X Error)
    (outcome : Result Replaced Error) (result : Result (Unit {0}) Error) (n : Answer) (a b c : Option History) →
    ((owner : Owner) (h k : History) → ReplaceOrNotEnds name (Some owner) bytes outcome h k →
    AfterOk result (IsSaved name bytes k)) →
    (outcome ≡ Ok replaced.Refused → ⊥) → Turns (Opens handle name r) n a b → ReplacesFound name old bytes outcome b c →
    SavesAt Known name bytes result a c
over_new handle name Known old bytes r outcome result n a b c ends not turn (inl x) =
    by_new handle name Known bytes r (Some x.owner) outcome result n a b c (ends x.owner) turn x.replaces
over_new handle name Known old bytes r outcome result n a b c ends not turn (inr x) = absurd (not x.1)

pub over_done : {X : Type 0} (handle : X → Handle) (name : List ℕ) (Known : FolderState → Type 0) (old : Found)
    (bytes : List ℕ) (r : Result X Error)
    (n : Answer) (a b c : Option History) → Turns (Opens handle name r) n a b →
    ReplacesFound name old bytes (Ok replaced.Done) b c →
    SavesAt Known name bytes (Ok tt) a c
over_done handle name Known old bytes r n a b c =
    over_new handle name Known old bytes r (Ok replaced.Done) (Ok tt) n a b c (λ owner h k x. x) (λ is. absurd (cc))

pub over_failed : {X : Type 0} (handle : X → Handle) (name : List ℕ) (Known : FolderState → Type 0) (old : Found)
    (bytes : List ℕ) (r : Result X Error)
    (e : Error) (n : Answer) (a b c : Option History) → Turns (Opens handle name r) n a b →
    ReplacesFound name old bytes (Err e) b c →
    SavesAt Known name bytes (Err e) a c
over_failed handle name Known old bytes r e n a b c =
    over_new handle name Known old bytes r (Err e) (Err e) n a b c (λ owner h k x. tt) (λ is. absurd (cc))

-- the file that was opened
plain_is : (b : Bool) (f g : ℕ) → if_plain b f ≡ Some g → f ≡ g
plain_is true f g is = cc
plain_is false f g is = absurd (cc)

opened_file : {X : Type 0} (handle : X → Handle) (name : List ℕ) (opened : X) (s t : FolderState) →
    Opens handle name (Ok opened) s t →
    (g : ℕ) → (handle opened).file ≡ Some g → file_of s (target s name) ≡ Some g
opened_file handle name opened s t x g is =
    let at : if_plain (s.fixed.is_plain x.1) x.1 ≡ Some g = sym (ap (λ h. h.file) x.3) ∙ is in
    x.2 ∙ ap Some (plain_is (s.fixed.is_plain x.1) x.1 g at)

pub opened_plain : {X : Type 0} (handle : X → Handle) (name : List ℕ) (opened : X) (s t : FolderState) →
    Opens handle name (Ok opened) s t →
    (g : ℕ) → file_of s (target s name) ≡ Some g → s.fixed.is_plain g ≡ true → (handle opened).file ≡ Some g
opened_plain handle name opened s t x g is plain =
    let both : Some x.1 ≡ Some g = sym x.2 ∙ is in
    let same : x.1 ≡ g = cc in
    ap (λ h. h.file) x.3 ∙ ap (λ f. if_plain (s.fixed.is_plain f) f) same ∙ ap (λ b. if_plain b g) plain

-- it was opened, so it is in place
pub arrived : {X : Type 0} (handle : X → Handle) (name : List ℕ) (opened : X) (bytes : List ℕ) (h k : History) →
    Opens handle name (Ok opened) h.now h.now → k.now.names (target h.now name) ≡ h.now.names (target h.now name) →
    ((g : ℕ) → (handle opened).file ≡ Some g → k.now.files g ≡ bytes ∷ []) → IsInPlace (target h.now name) bytes h k
arrived handle name opened bytes h k x same has = record {
  over = λ g is plain. has g (opened_plain handle name opened h.now h.now x g is plain);
  stays = λ g is. same;
  anew = λ none. let no : None ≡ Some x.1 = sym none ∙ x.2 in absurd (cc);
}

-- what is known of a file that was opened, and of which nothing else has changed but for a new file
pub record OpenedFor {X : Type 0} (handle : X → Handle) (name : List ℕ) (opened : X) (h k : History) : Type 0 where
  pub opens : Opens handle name (Ok opened) h.now h.now
  pub prepares : Prepares (target h.now name) h.now k.now

-- a file that was opened is written over
pub over_opened : {X : Type 0} (handle : X → Handle) (name : List ℕ) (opened : X) (bytes : List ℕ) (h k : History)
    (u : FolderState) →
    OpenedFor handle name opened h k → OfFile (Overwrites bytes) (handle opened).file k.now u →
    KeepsOrTears (target h.now name) bytes h.now u
over_opened handle name opened bytes h k u x y =
    over_keeps (target h.now name) bytes (handle opened).file h.now k.now u
    (opened_file handle name opened h.now h.now x.opens) x.prepares y

pub over_arrived : {X : Type 0} (handle : X → Handle) (name : List ℕ) (opened : X) (bytes : List ℕ)
    (result : Result (Unit {0}) Error)
    (h k l : History) → OpenedFor handle name opened h k →
    OfFile (λ old new. Overwrites bytes old new × AfterOk result (new ≡ bytes ∷ [])) (handle opened).file k.now l.now →
    AfterOk result (IsInPlace (target h.now name) bytes h l)
over_arrived handle name opened bytes result h k l x y =
    let both = over_bytes bytes result (handle opened).file k.now l.now y in
    let at = target h.now name in
    let same = of_file_names (Overwrites bytes) (handle opened).file k.now l.now both.0 at
    ∙ prepared_names at h.now k.now x.prepares at (inl refl) in
    after_ok_map result ((g : ℕ) → (handle opened).file ≡ Some g → l.now.files g ≡ bytes ∷ []) (IsInPlace at bytes h l)
    (λ has. arrived handle name opened bytes h l x.opens same has) both.1

pub opened_for : {X : Type 0} (handle : X → Handle) (name : List ℕ) (opened : X) (h k : History) →
    Opens handle name (Ok opened) h.now k.now → OpenedFor handle name opened h k
opened_for handle name opened h k x = record { opens = (refl, x.1, x.2, x.3); prepares = inl x.0 }

-- the reason to write in place what was found
found_special : (name : List ℕ) (old : Found) (s : FolderState) (file : ℕ) → IsFound s name file old →
    old.is_file ≡ false → IsSpecial s name
found_special name old s file found is = (file, found.there, sym found.is_plain ∙ is)

found_shared : (name : List ℕ) (old : Found) (s : FolderState) (file : ℕ) → IsFound s name file old → (b : Bool) →
    old.is_file ≡ b → 1 < old.names →
    IsSpecial s name ⊎ IsShared s name
found_shared name old s file found true is several = inr (found.shared is several)
found_shared name old s file found false is several = inl (found_special name old s file found is)

pub found_reason : (name : List ℕ) (old : Found) (h k : History) (file : ℕ) → IsFound h.now name file old →
    MustStay old → MustBeInPlace name h k
found_reason name old h k file found (inl is) = inl (found_special name old h.now file found is)
found_reason name old h k file found (inr several) =
    elim (found_shared name old h.now file found old.is_file refl several) [
      | inl special ↦ inl special
      | inr shared ↦ inr (inl shared)
    ]

in_place : {X : Type 0} (handle : X → Handle) (name : List ℕ) (old : Found) (bytes : List ℕ) (opened : X)
    (result : Result (Unit {0}) Error)
    (n : Answer) (a b c : Option History) →
    MustStay old → Turns (Opens handle name (Ok opened)) n a b → WritesOver (handle opened) bytes result b c →
    SavesAt (WasFound name (Some old)) name bytes result a c
in_place handle name old bytes opened result n a b c why turn writes =
    inr (runs_then a b c (runs_of (Opens handle name (Ok opened)) n a b turn) writes.run
    (λ s t x known. no_tear name bytes s t (inl x.0))
    (λ h k u x y known. rw known.no_link at (over_opened handle name opened bytes h k u
    (opened_for handle name opened h k x.0) y))
    (λ h k l x y known. (
      found_reason name old h l known.seen.0 known.seen.1 why,
      rw known.no_link at (over_arrived handle name opened bytes result h k l
          (opened_for handle name opened h k x.0) y),
    )))

-- why a replacement was refused: the file is a mount point, or so was one of its calls
abbrev pub IsHindered : List ℕ → Owner → History → History → Type 0
IsHindered name owner h k =
    (owner.device ≢ h.now.fixed.folder_device (folder_of name))
    ⊎ RefusedSince (IsReason name (IsOwner (Some owner)) h.now) h k

-- a replacement that was refused, and then the file in place
refused_ends : (name : List ℕ) (owner : Owner) (bytes : List ℕ) (r : Result Replaced Error) (answer : Replaced) →
    r ≡ Ok answer →
    answer ≡ replaced.Refused → (h k : History) →
    ReplaceOrNotEnds name (Some owner) bytes r h k → Prepares name h.now k.now × IsHindered name owner h k
refused_ends name owner bytes (Ok replaced.Done) answer is refused h k x = absurd (cc)
refused_ends name owner bytes (Ok replaced.Refused) answer is refused h k x = x
refused_ends name owner bytes (Err e) answer is refused h k x = absurd (cc)

-- the owner is that of what was found, on its device
pub record IsGivenBy (owner : Owner) (found : Found) : Type 0 where
  pub user : owner.user ≡ found.user
  pub group : owner.group ≡ found.group
  pub device : owner.device ≡ found.device

-- what is known once a replacement was refused
abbrev pub WasRefusedFor : {X : Type 0} → (X → Handle) → List ℕ → X → Owner → History → History → Type 0
WasRefusedFor handle name opened owner h k =
    (target h.now name ≡ name → OpenedFor handle name opened h k) × IsHindered name owner h k

was_refused : {X : Type 0} (handle : X → Handle) (name bytes : List ℕ) (opened : X) (owner : Owner)
    (r : Result Replaced Error) (answer : Replaced) →
    r ≡ Ok answer → answer ≡ replaced.Refused → (h k l : History) → KeepsRefusals h k →
    Opens handle name (Ok opened) h.now k.now →
    ReplaceOrNotEnds name (Some owner) bytes r k l → WasRefusedFor handle name opened owner h l
was_refused handle name bytes opened owner r answer is refused h k l kept x y =
    let ends = refused_ends name owner bytes r answer is refused k l y in
    let prepares : Prepares name h.now l.now = rw x.0 at ends.0 in (
      λ no_link. record { opens = (refl, x.1, x.2, x.3); prepares = rw (← no_link) at prepares },
      elim ends.1 [
        | inl other ↦ inl (λ same. other (same ∙ ap (λ s. s.fixed.folder_device (folder_of name)) (sym x.0)))
        | inr why ↦ inr (kept_refused (IsReason name (IsOwner (Some owner)) h.now) h k l kept
            (refused_at (IsReason name (IsOwner (Some owner))) h.now k.now k l x.0 why))
      ],
    )

pub hindered_reason : (name : List ℕ) (old : Found) (owner : Owner) (h k l : History) (file : ℕ) →
    IsFound h.now name file old → IsGivenBy owner old →
    KeepsRefusals k l → IsHindered name owner h k → MustBeInPlace name h l
hindered_reason name old owner h k l file found given later (inl other) =
    inr (inr (inl (file, found.there, λ same. other (given.device ∙ found.device ∙ same))))
hindered_reason name old owner h k l file found given later (inr why) =
    let owned = reason_owned name (IsOwner (Some owner)) (IsOwnedBy h.now name) h.now (λ user group is. (
      file,
      found.there,
      sym found.user ∙ sym given.user ∙ is.0,
      sym found.group ∙ sym given.group ∙ is.1,
    )) in
    let reason = IsReason name (IsOwnedBy h.now name) h.now in
    inr (inr (inr (refused_kept reason h k l (refused_weaker (IsReason name (IsOwner (Some owner)) h.now) reason h k
    owned why) later)))

after_refusal : {X : Type 0} (handle : X → Handle) (name : List ℕ) (old : Found) (bytes : List ℕ) (opened : X)
    (owner : Owner)
    (r : Result Replaced Error) (answer : Replaced)
    (result : Result (Unit {0}) Error) (n : Answer) (a b c d : Option History) → IsGivenBy owner old → r ≡ Ok answer →
    answer ≡ replaced.Refused →
    Turns (Opens handle name (Ok opened)) n a b →
    ReplacesOrNot name (Some owner) bytes r b c → WritesOver (handle opened) bytes result c d →
    SavesAt (WasFound name (Some old)) name bytes result a d
after_refusal handle name old bytes opened owner r answer result n a b c d given is refused turn replaces writes =
    let first : Runs (KeepsOrReplaces name bytes) (WasRefusedFor handle name opened owner) a c =
    runs_then a b c (runs_counted a b (runs_of (Opens handle name (Ok opened)) n a b turn)) replaces
    (λ s t x. keeps_none name bytes s t x.0) (λ h k u x y. let at : KeepsOrReplaces name bytes h.now u = rw
    x.1.0.0 at y in at)
    (λ h k l x y. was_refused handle name bytes opened owner r answer is refused h k l x.0 x.1.0 y) in
    inr (runs_then a c d first (runs_counted c d writes.run) (λ s t x known. tears_less name bytes s t x)
    (λ h k u x y known. rw known.no_link at (over_opened handle name opened bytes h k u (x.0 known.no_link) y))
    (λ h k l x y known. (
      hindered_reason name old owner h k l known.seen.0 known.seen.1 given y.0 x.1,
      rw known.no_link at (over_arrived handle name opened bytes result h k l (x.0 known.no_link) y.1),
    )))

-- a replacement of what was found that was refused, and then the file in place
pub over_refused : {X : Type 0} (handle : X → Handle) (name : List ℕ) (old : Found) (bytes : List ℕ) (opened : X)
    (result : Result (Unit {0}) Error)
    (n : Answer) (a b c d : Option History) → Turns (Opens handle name (Ok opened)) n a b →
    ReplacesFound name old bytes (Ok replaced.Refused) b c →
    WritesOver (handle opened) bytes result c d → SavesAt (WasFound name (Some old)) name bytes result a d
over_refused handle name old bytes opened result n a b c d turn (inl x) writes =
    after_refusal handle name old bytes opened x.owner (Ok replaced.Refused) replaced.Refused result n a b c d
    (record { user = x.user; group = x.group; device = x.device }) refl refl turn x.replaces writes
over_refused handle name old bytes opened result n a b c d turn (inr x) writes =
    in_place handle name old bytes opened result n a b d x.0 turn (rw x.2 at writes)
