-- A file that is made in place, where there was nothing.
use Rattle.durable_folder.proofs.Common.{◌≡◌, ◌≢◌, ◌⊎◌, inl, inr, ℕ, ◌++◌, Bool, true, false, List, [], ◌∷◌, Option, None, Some, Result, Ok, Err, refl, sym, ap, ◌∙◌, IsErr, error_kind, Error, Replaced, FolderState, SomeOf, MayHold, LeavesOf, IsFree, file_of, newest, target, Handle, SparesNames, OfFile, quiet, IsLate, History, Answer, Turns, Runs, HasFile, IsSaved, AfterOk, Overwrites, WritesOver, folder_of, Prepares, ReplaceOrNotEnds, ReplacesOrNot, IsInPlace, SavesAt}
use Rattle.durable_folder.specs.declared.answers.Replaced.TheVariants as replaced
use Rattle.durable_folder.specs.FolderState.{Leaves}
use Rattle.durable_folder.specs.Calls.{Makes, OpensOrCreates, OpensFolder, SyncsNames, Resolves, opened_at}
use Rattle.durable_folder.specs.Counting.{is_denied, these_if}
use Rattle.durable_folder.specs.Histories.{CannotSync, RefusedSince}
use Rattle.durable_folder.specs.Saving.{IsReason, IsOwner, MaySyncNames, SyncsNamesOf}
use Rattle.durable_folder.specs.Ways.{IsOwnedBy, KeepsOrTears, IsTornLeft, IsBorn, Bears, WritesNew, AddsNoName, SyncsFolderOf, MakesThrough}
use Rattle.durable_folder.proofs.Blocks.{holds_one}
use Rattle.durable_folder.proofs.Heads.{after_err, after_ok_map}
use Rattle.durable_folder.proofs.Passing.{runs_of, runs_weaker, runs_then, runs_counted}
use Rattle.durable_folder.proofs.Putting.{synced_file}
use Rattle.durable_folder.proofs.Refusing.{refused_kept, refused_weaker}
use Rattle.durable_folder.proofs.Reasons.{reason_owned}
use Rattle.durable_folder.proofs.Replacements.{some_entry, entry_some, leaves_of_files, saved_file, prepares_keeps}
use Rattle.durable_folder.proofs.Tearing.{tears_less}

-- what opening or making a file does, where there was nothing
created : {X : Type 0} (handle : X → Handle) (name : List ℕ) (opened : X) (s t : FolderState) →
    file_of s (target s name) ≡ None →
    OpensOrCreates handle name (Ok opened) s t →
    (file : ℕ) × (handle opened ≡ opened_at (Some file)) × Makes file (target s name) s t
created handle name opened s t nothing (inl x) = let both : None ≡ Some x.1 = sym nothing ∙ x.2 in absurd (cc)
created handle name opened s t nothing (inr x) = x

makes_born : (name bytes : List ℕ) (file : ℕ) (s t : FolderState) → Makes file name s t → IsBorn name bytes file s t
makes_born name bytes file s t m = record {
  is_fresh = m.is_fresh;
  named = m.named;
  over = λ c h. inl (rw m.empty at h);
  spares = m.spares;
}

opened_bears : {X : Type 0} (handle : X → Handle) (name bytes : List ℕ) (r : Result X Error) (s t : FolderState) →
    file_of s (target s name) ≡ None → OpensOrCreates handle name r s t → Bears (target s name) bytes s t
opened_bears handle name bytes (Ok opened) s t nothing x =
    let m = created handle name opened s t nothing x in inr (m.0, makes_born (target s name) bytes m.0 s t m.2)
opened_bears handle name bytes (Err error) s t nothing (inl x) = inl x.0
opened_bears handle name bytes (Err error) s t nothing (inr x) = inl x.0

written_born : (name bytes : List ℕ) (file : ℕ) (s t u : FolderState) → Makes file name s t → SparesNames file t u →
    Overwrites bytes (t.files file) (u.files file) → IsBorn name bytes file s u
written_born name bytes file s t u m x over = record {
  is_fresh = m.is_fresh;
  named = x.names name ∙ m.named;
  over = rw m.empty at over;
  spares = record {
    names = λ n away. x.names n ∙ m.spares.names n away;
    files = λ f other. x.files f other ∙ m.spares.files f other;
    fixed = x.fixed ∙ m.spares.fixed;
  };
}

pub new_not_opened : {X : Type 0} (handle : X → Handle) (name bytes : List ℕ) (r : Result X Error)
    (result : Result (Unit {0}) Error) (n : Answer)
    (a b : Option History) → IsErr result → Turns (OpensOrCreates handle name r) n a b → WritesNew name bytes result a b
new_not_opened handle name bytes r result n a b err turn =
    runs_weaker a b (runs_of (OpensOrCreates handle name r) n a b turn)
    (λ s t x nothing. opened_bears handle name bytes r s t nothing x)
    (λ h k x nothing. (opened_bears handle name bytes r h.now k.now nothing x.0, after_err result _ err))

written_of : (file : Option ℕ) (g : ℕ) (P : List (List ℕ) → List (List ℕ) → Type 0) (s t : FolderState) →
    file ≡ Some g → OfFile P file s t →
    SparesNames g s t × P (s.files g) (t.files g)
written_of None g P s t is x = absurd (cc)
written_of (Some f) g P s t is x = let same : f ≡ g = cc in rw same at x

-- what was made and written
pub record WasWritten (name bytes : List ℕ) (result : Result (Unit {0}) Error) (s t : FolderState) : Type 0 where
  pub file : ℕ
  pub born : IsBorn name bytes file s t
  pub whole : AfterOk result (t.files file ≡ bytes ∷ [])

was_written : {X : Type 0} (handle : X → Handle) (name bytes : List ℕ) (opened : X) (result : Result (Unit {0}) Error)
    (s t u : FolderState) →
    file_of s (target s name) ≡ None → OpensOrCreates handle name (Ok opened) s t →
    OfFile (λ old new. Overwrites bytes old new × AfterOk result (new ≡ bytes ∷ [])) (handle opened).file t u →
    WasWritten (target s name) bytes result s u
was_written handle name bytes opened result s t u nothing x y =
    let m = created handle name opened s t nothing x in
    let at = written_of (handle opened).file m.0 (λ old new. Overwrites bytes old new
    × AfterOk result (new ≡ bytes ∷ [])) t u
    (ap (λ h. h.file) m.1) y in
    record { file = m.0; born = written_born (target s name) bytes m.0 s t u m.2 at.0 at.1.0; whole = at.1.1 }

pub new_written : {X : Type 0} (handle : X → Handle) (name bytes : List ℕ) (opened : X)
    (result : Result (Unit {0}) Error) (n : Answer)
    (a b c : Option History) → Turns (OpensOrCreates handle name (Ok opened)) n a b →
    WritesOver (handle opened) bytes result b c →
    WritesNew name bytes result a c
new_written handle name bytes opened result n a b c turn writes =
    runs_then a b c (runs_of (OpensOrCreates handle name (Ok opened)) n a b turn) writes.run
    (λ s t x nothing. opened_bears handle name bytes (Ok opened) s t nothing x)
    (λ h k u x y nothing.
    let m = created handle name opened h.now k.now nothing x.0 in
    let at = written_of (handle opened).file m.0 (Overwrites bytes) k.now u (ap (λ i. i.file) m.1) y in
    inr (m.0, written_born (target h.now name) bytes m.0 h.now k.now u m.2 at.0 at.1))
    (λ h k l x y nothing.
    let w = was_written handle name bytes opened result h.now k.now l.now nothing x.0 y in (
      inr (w.file, w.born),
      after_ok_map result (l.now.files w.file ≡ bytes ∷ [])
          ((file : ℕ) × (file_of l.now (target h.now name) ≡ Some file) × (l.now.files file ≡ bytes ∷ []))
          (λ whole. (w.file, ap (newest None) w.born.named, whole)) w.whole,
    ))

-- a new file that was written leaves what is torn, or the new bytes
born_here : (bytes : List ℕ) (g : ℕ) (t v : FolderState) (left : Option (List ℕ)) →
    Overwrites bytes ([] ∷ []) (v.files g) → (e : Option ℕ) →
    e ≡ Some g → LeavesOf v left e → (left ≡ Some bytes) ⊎ IsTornLeft left
born_here bytes g t v left over None is x = absurd (cc)
born_here bytes g t v left over (Some f) is x =
    let same : f ≡ g = cc in
    let at : MayHold (v.files g) x.0 = rw same at x.1 in
    elim (over x.0 at) [
      | inl empty ↦ let none : x.0 ≡ [] = holds_one [] x.0 empty in inr (rw (x.2, none) (inl refl))
      | inr rest ↦ elim rest [ inl torn ↦ inr (rw x.2 torn) | inr new ↦ inl (x.2 ∙ ap Some new) ]
    ]

-- what was there before is as it was
old_entry : (g : ℕ) (t v : FolderState) (left : Option (List ℕ)) (es : List (Option ℕ)) →
    (SomeOf (λ e. e ≡ Some g) es → ⊥) →
    ((f : ℕ) → f ≢ g → v.files f ≡ t.files f) → (e : Option ℕ) → SomeOf (λ x. x ≡ e) es → LeavesOf v left e →
    SomeOf (LeavesOf t left) es
old_entry g t v left es fresh same None among x = entry_some (LeavesOf t left) None es among x
old_entry g t v left es fresh same (Some f) among x =
    let other : f ≢ g = λ is. fresh (rw (ap Some is) at among) in
    let at : MayHold (t.files f) x.0 = rw (same f other) at x.1 in
    entry_some (LeavesOf t left) (Some f) es among (x.0, at, x.2)

born_name : (name bytes : List ℕ) (g : ℕ) (t u v : FolderState) → IsBorn name bytes g t u → AddsNoName u v →
    (left : Option (List ℕ)) →
    Leaves v name left → Leaves t name left ⊎ ((left ≡ Some bytes) ⊎ IsTornLeft left)
born_name name bytes g t u v born settles left x =
    let e = some_entry (LeavesOf v left) (v.names name) x in
    let among : SomeOf (λ f. f ≡ e.0) (Some g ∷ t.names name) = rw born.named at (settles.names name e.0 e.1) in
    elim among [
      | inl is ↦ inr (born_here bytes g t v left (λ c h. born.over c (rw (settles.files.files g) at h))
          e.0 (sym is) e.2)
      | inr old ↦ inl (old_entry g t v left (t.names name) (born.is_fresh name)
          (λ f other. settles.files.files f ∙ born.spares.files f other) e.0 old e.2)
    ]

born_other : (name bytes : List ℕ) (g : ℕ) (t u v : FolderState) → IsBorn name bytes g t u → AddsNoName u v →
    (n : List ℕ) → n ≢ name →
    (left : Option (List ℕ)) → Leaves v n left → Leaves t n left
born_other name bytes g t u v born settles n apart left x =
    let e = some_entry (LeavesOf v left) (v.names n) x in
    let among : SomeOf (λ f. f ≡ e.0) (t.names n) = rw (born.spares.names n apart) at (settles.names n e.0 e.1) in
    old_entry g t v left (t.names n) (born.is_fresh n) (λ f other. settles.files.files f
    ∙ born.spares.files f other) e.0 among e.2

synced_keeps : (name bytes : List ℕ) (s t v : FolderState) → Prepares name s t → AddsNoName t v →
    KeepsOrTears name bytes s v
synced_keeps name bytes s t v prepares settles =
    let keeps = tears_less name bytes s t (prepares_keeps name bytes s t prepares) in
    let back : (n : List ℕ) (left : Option (List ℕ)) → Leaves v n left → Leaves t n left = λ n left x.
    let e = some_entry (LeavesOf v left) (v.names n) x in
    entry_some (LeavesOf t left) e.0 (t.names n) (settles.names n e.0 e.1)
    (leaves_of_files t v left e.0 settles.files.files e.2) in
    record {
      here = λ left x. keeps.here left (back name left x);
      others = λ n apart taken left x. keeps.others n apart taken left (back n left x);
    }

pub grown_keeps : (name bytes : List ℕ) (s t u v : FolderState) → Prepares name s t → Bears name bytes t u →
    AddsNoName u v → KeepsOrTears name bytes s v
grown_keeps name bytes s t u v prepares (inl same) settles =
    let at : AddsNoName t v = rw same at settles in synced_keeps name bytes s t v prepares at
grown_keeps name bytes s t u v prepares (inr b) settles =
    let keeps = prepares_keeps name bytes s t prepares in
    record {
      here = λ left x. elim (born_name name bytes b.0 t u v b.1 settles left x) [
        | inl old ↦ elim (keeps.here left old) [ inl y ↦ inl y | inr y ↦ inr (inl y) ]
        | inr new ↦ inr new
      ];
      others = λ n apart taken left x. inl (keeps.others n apart taken left
          (born_other name bytes b.0 t u v b.1 settles n apart left x));
    }

pub syncs_none : (s : FolderState) → AddsNoName s s
syncs_none s = record { names = λ n f x. x; files = record { files = λ f. refl; fixed = refl } }

-- the folder of a name that was made
may_sync_syncs : (place : List ℕ) (s t : FolderState) → MaySyncNames place s t → AddsNoName s t
may_sync_syncs place s t (inl same) = rw same (syncs_none s)
may_sync_syncs place s t (inr x) = record { names = x.others; files = x.files }

still_syncs : (s t : FolderState) → t ≡ s → AddsNoName s t
still_syncs s t same = rw same (syncs_none s)

opens_folder_stays : {X : Type 0} (place : X → List ℕ) (folder : List ℕ) (r : Result X Error) (s t : FolderState) →
    OpensFolder place folder r s t →
    t ≡ s
opens_folder_stays place folder (Ok p) s t x = x.0
opens_folder_stays place folder (Err e) s t x = x

pub folder_not_opened : {X : Type 0} (place : X → List ℕ) (name folder : List ℕ) (r : Result X Error)
    (result : Result (Unit {0}) Error) (n : Answer)
    (a b : Option History) → IsErr result → Turns (OpensFolder place folder r) n a b → SyncsFolderOf name result a b
folder_not_opened place name folder r result n a b err turn =
    runs_weaker a b (runs_of (OpensFolder place folder r) n a b turn)
    (λ s t x. still_syncs s t (opens_folder_stays place folder r s t x))
    (λ h k x. (still_syncs h.now k.now (opens_folder_stays place folder r h.now k.now x.0), after_err result _ err))

denied_notes : (denied : Bool) (name folder : List ℕ) (before : List (List ℕ)) (k : History) → folder ≡ folder_of name →
    denied ≡ true →
    k.unsynced ≡ these_if denied folder ++ before → CannotSync name k
denied_notes true name folder before k is denied x = rw x (inl is)
denied_notes false name folder before k is denied x = absurd (cc)

pub folder_denied : {X : Type 0} (place : X → List ℕ) (name folder : List ℕ) (e : Error) (n : Answer)
    (a b : Option History) →
    folder ≡ folder_of name → is_denied (error_kind e) ≡ true →
    n.unsynced ≡ these_if (is_denied (error_kind e)) folder →
    Turns (OpensFolder place folder (Err e)) n a b → SyncsFolderOf name (Ok tt) a b
folder_denied place name folder e n a b is denied counts turn =
    runs_weaker a b (runs_of (OpensFolder place folder (Err e)) n a b turn) (λ s t x. still_syncs s t x)
    (λ h k x.
    let noted = denied_notes (is_denied (error_kind e)) name folder h.unsynced k is denied (x.2
    ∙ ap (λ places. places ++ h.unsynced) counts) in
    let has : HasFile name (file_of h.now name) k = (ap (λ s. file_of s name) x.0, inr noted) in
    (still_syncs h.now k.now x.0, has))

pub folder_synced : {X : Type 0} (place : X → List ℕ) (name folder : List ℕ) (opened : X)
    (result : Result (Unit {0}) Error) (a b c : Option History)
    → folder ≡ folder_of name → Turns (OpensFolder place folder (Ok opened)) quiet a b →
    SyncsNamesOf (place opened) result b c →
    SyncsFolderOf name result a c
folder_synced place name folder opened result a b c is turn settles =
    runs_then a b c (runs_of (OpensFolder place folder (Ok opened)) quiet a b turn) settles.run
    (λ s t x. still_syncs s t x.0)
    (λ h k u x y. let at : MaySyncNames (place opened) h.now u = rw x.0.0 at y in
    may_sync_syncs (place opened) h.now u at)
    (λ h k l x y. let at : MaySyncNames (place opened) h.now l.now = rw x.0.0 at y.0 in (
      may_sync_syncs (place opened) h.now l.now at,
      after_ok_map result (SyncsNames (place opened) k.now l.now ⊎ SomeOf (λ p. p ≡ place opened) l.unsynced)
          (HasFile name (file_of h.now name) l)
          (λ there. rw x.0.0 at (synced_file name (place opened) k.now l (x.0.1 ∙ is) y.0 there)) y.1,
    ))

-- after a refusal the name is still free
free_still : (name : List ℕ) (s t : FolderState) → Prepares name s t → IsFree s name → IsFree t name
free_still name s t (inl same) free = rw same free
free_still name s t (inr p) free = record {
  no_link = ap (λ f. f.leads name) p.2.spares.fixed ∙ free.no_link;
  nothing = ap (newest None) (p.2.spares.names name (λ is. p.2.apart (sym is))) ∙ free.nothing;
}

none_refused : (name bytes : List ℕ) (r : Result Replaced Error) (answer : Replaced) → r ≡ Ok answer →
    answer ≡ replaced.Refused → (h k : History) →
    ReplaceOrNotEnds name None bytes r h k →
    Prepares name h.now k.now × RefusedSince (IsReason name (IsOwnedBy h.now name) h.now) h k
none_refused name bytes (Ok replaced.Done) answer is refused h k x = absurd (cc)
none_refused name bytes (Ok replaced.Refused) answer is refused h k x = (
  x.0,
  elim x.1 [
    | inl mounted ↦ absurd mounted
    | inr why ↦ refused_weaker (IsReason name (IsOwner None) h.now) (IsReason name (IsOwnedBy h.now name) h.now) h k
        (reason_owned name (IsOwner None) (IsOwnedBy h.now name) h.now (λ user group none. absurd none)) why
  ],
)
none_refused name bytes (Err e) answer is refused h k x = absurd (cc)

pub made_new : (name bytes : List ℕ) (Known : FolderState → Type 0) (r : Result Replaced Error)
    (result : Result (Unit {0}) Error) (a b : Option History)
    → ((h k : History) → ReplaceOrNotEnds name None bytes r h k → AfterOk result (IsSaved name bytes k)) →
    ReplacesOrNot name None bytes r a b → SavesAt Known name bytes result a b
made_new name bytes Known r result a b ends replaces = inl (runs_weaker a b replaces (λ s t x. x) ends)

-- a refusal, and a new file in place
pub record IsMaking (name bytes : List ℕ) (w : Result (Unit {0}) Error) (h k : History) : Type 0 where
  pub refused : RefusedSince (IsReason name (IsOwnedBy h.now name) h.now) h k
  pub keeps : IsFree h.now name → (v : FolderState) → AddsNoName k.now v → KeepsOrTears name bytes h.now v
  pub whole : IsFree h.now name → AfterOk w ((file : ℕ) × (file_of k.now name ≡ Some file)
      × (k.now.files file ≡ bytes ∷ []))

bears_here : (name bytes : List ℕ) (t u : FolderState) → IsFree t name →
    (file_of t (target t name) ≡ None → Bears (target t name) bytes t u) →
    Bears name bytes t u
bears_here name bytes t u free f = rw free.no_link at (f (ap (λ m. file_of t m) free.no_link ∙ free.nothing))

pub making : (name bytes : List ℕ) (r : Result Replaced Error) (answer : Replaced) (w : Result (Unit {0}) Error)
    (a b c : Option History) →
    r ≡ Ok answer → answer ≡ replaced.Refused → ReplacesOrNot name None bytes r a b → WritesNew name bytes w b c →
    Runs (λ s t. IsFree s name → KeepsOrTears name bytes s t) (IsMaking name bytes w) a c
making name bytes r answer w a b c is refused replaces writes =
    runs_then a b c replaces (runs_counted b c writes) (λ s t x free. tears_less name bytes s t x)
    (λ h k u x y free.
    let p = none_refused name bytes r answer is refused h k x in
    grown_keeps name bytes h.now k.now u u p.0 (bears_here name bytes k.now u (free_still name h.now k.now p.0 free) y)
    (syncs_none u))
    (λ h k l x y.
    let p = none_refused name bytes r answer is refused h k x in
    record {
      refused = refused_kept (IsReason name (IsOwnedBy h.now name) h.now) h k l p.1 y.0;
      keeps = λ free v settles.
          let still = free_still name h.now k.now p.0 free in
          grown_keeps name bytes h.now k.now l.now v p.0
          (bears_here name bytes k.now l.now still (λ nothing. (y.1 nothing).0)) settles;
      whole = λ free.
          let still = free_still name h.now k.now p.0 free in
          rw still.no_link at (y.1 (ap (λ m. file_of k.now m) still.no_link ∙ still.nothing)).1;
    })

pub not_making : (name bytes : List ℕ) (w result : Result (Unit {0}) Error) (a c : Option History) → IsErr result →
    Runs (λ s t. IsFree s name → KeepsOrTears name bytes s t) (IsMaking name bytes w) a c →
    SavesAt (λ s. IsFree s name) name bytes result a c
not_making name bytes w result a c err runs =
    inr (runs_weaker a c runs (λ s t x. x) (λ h k x free. (
      inr (inr (inr x.refused)),
      after_err result (IsInPlace name bytes h k) err,
    )))

-- a name that was made, once its folder is synced
saved_made : (name bytes : List ℕ) (g : ℕ) (k l : History) → AddsNoName k.now l.now → file_of k.now name ≡ Some g →
    k.now.files g ≡ bytes ∷ [] →
    HasFile name (file_of k.now name) l → IsSaved name bytes l
saved_made name bytes g k l settles named whole has =
    let at : HasFile name (Some g) l = rw named at has in saved_file name bytes g l at (settles.files.files g ∙ whole)

after_ok : (w : Result (Unit {0}) Error) (P : Type 0) → w ≡ Ok tt → AfterOk w P → P
after_ok (Ok done) P ok x = x
after_ok (Err e) P ok x = absurd (cc)

pub made : (name bytes : List ℕ) (w result : Result (Unit {0}) Error) (a c d : Option History) → w ≡ Ok tt →
    Runs (λ s t. IsFree s name → KeepsOrTears name bytes s t) (IsMaking name bytes w) a c →
    SyncsFolderOf name result c d →
    SavesAt (λ s. IsFree s name) name bytes result a d
made name bytes w result a c d ok runs syncs =
    inr (runs_then a c d runs (runs_counted c d syncs) (λ s t x. x) (λ h k u x y free. x.keeps free u y)
    (λ h k l x y free. (
      inr (inr (inr (refused_kept (IsReason name (IsOwnedBy h.now name) h.now) h k l x.refused y.0))),
      after_ok_map result (HasFile name (file_of k.now name) l) (IsInPlace name bytes h l)
          (λ synced.
          let f = after_ok w ((file : ℕ) × (file_of k.now name ≡ Some file) × (k.now.files file ≡ bytes ∷ [])) ok
          (x.whole free) in
          record {
            over = λ g is plain. let both : None ≡ Some g = sym free.nothing ∙ is in absurd (cc);
            stays = λ g is. let both : None ≡ Some g = sym free.nothing ∙ is in absurd (cc);
            anew = λ nothing. saved_made name bytes f.0 k l y.1.0 f.1 f.2 synced;
          }) y.1.1,
    )))

-- through a link
fixed_on : (name bytes : List ℕ) (s t : FolderState) → Bears name bytes s t → t.fixed ≡ s.fixed
fixed_on name bytes s t (inl same) = ap (λ x. x.fixed) same
fixed_on name bytes s t (inr b) = b.1.spares.fixed

pub through_not_written : (name bytes : List ℕ) (w result : Result (Unit {0}) Error) (a b : Option History) →
    IsErr result →
    WritesNew name bytes w a b → MakesThrough name bytes result a b
through_not_written name bytes w result a b err writes =
    runs_weaker a b writes (λ s t x nothing. grown_keeps (target s name) bytes s s t t (inl refl) (x nothing)
    (syncs_none t))
    (λ h k x nothing. after_err result _ err)

pub resolves_stays : {P : Type 0} (text : P → List ℕ) (name : List ℕ) (r : Result P Error) (s t : FolderState) →
    Resolves text name r s t → t ≡ s
resolves_stays text name (Ok path) s t x = x.0
resolves_stays text name (Err e) s t x = x

-- what was written, and where it leads
abbrev pub ThroughAt : {P : Type 0} → (P → List ℕ) → List ℕ → List ℕ → Result (Unit {0}) Error → Result P Error →
    History → History → Type 0
ThroughAt text name bytes w r h k =
    (mid : FolderState) × (k.now ≡ mid) × Resolves text name r mid k.now × (file_of h.now (target h.now name) ≡ None →
    Bears (target h.now name) bytes h.now mid ×
    AfterOk w ((file : ℕ) × (file_of mid (target h.now name) ≡ Some file) × (mid.files file ≡ bytes ∷ [])))

pub through_resolved : {P : Type 0} (text : P → List ℕ) (name bytes : List ℕ) (w : Result (Unit {0}) Error)
    (r : Result P Error) (n : Answer)
    (a b c : Option History) → WritesNew name bytes w a b → Turns (Resolves text name r) n b c →
    Runs (λ s t. file_of s (target s name) ≡ None → KeepsOrTears (target s name) bytes s t)
    (ThroughAt text name bytes w r) a c
through_resolved text name bytes w r n a b c writes turn =
    runs_then a b c writes (runs_of (Resolves text name r) n b c turn)
    (λ s t x nothing. grown_keeps (target s name) bytes s s t t (inl refl) (x nothing) (syncs_none t))
    (λ h k u x y nothing.
    let same : AddsNoName k.now u = still_syncs k.now u (resolves_stays text name r k.now u y) in
    grown_keeps (target h.now name) bytes h.now h.now k.now u (inl refl) (x nothing).0 same)
    (λ h k l x y. (k.now, resolves_stays text name r k.now l.now y.0, y.0, x))

pub through_not_resolved : {P : Type 0} (text : P → List ℕ) (name bytes : List ℕ) (w : Result (Unit {0}) Error)
    (r : Result P Error)
    (result : Result (Unit {0}) Error) (a c : Option History) → IsErr result →
    Runs (λ s t. file_of s (target s name) ≡ None → KeepsOrTears (target s name) bytes s t)
    (ThroughAt text name bytes w r) a c →
    MakesThrough name bytes result a c
through_not_resolved text name bytes w r result a c err runs =
    runs_weaker a c runs (λ s t x. x) (λ h k x nothing. after_err result _ err)

pub late_err : (e : Error) (result : Result (Unit {0}) Error) → IsLate (Err e) result → IsErr result
late_err e (Ok done) late = absurd late
late_err e (Err other) late = refl

pub through_synced : {P : Type 0} (text : P → List ℕ) (name bytes : List ℕ) (path : P)
    (w result : Result (Unit {0}) Error) (a c d : Option History) →
    w ≡ Ok tt → Runs (λ s t. file_of s (target s name) ≡ None → KeepsOrTears (target s name) bytes s t)
    (ThroughAt text name bytes w (Ok path)) a c →
    SyncsFolderOf (text path) result c d → MakesThrough name bytes result a d
through_synced text name bytes path w result a c d ok runs syncs =
    runs_then a c d runs syncs (λ s t x. x)
    (λ h k u x y nothing.
    let at : AddsNoName x.0 u = rw x.1 at y in
    grown_keeps (target h.now name) bytes h.now h.now x.0 u (inl refl) (x.3 nothing).0 at)
    (λ h k l x y nothing.
    let b = x.3 nothing in
    let leads : text path ≡ target h.now name = x.2.1
    ∙ ap (λ f. f.leads name) (fixed_on (target h.now name) bytes h.now x.0 b.0) in
    after_ok_map result (HasFile (text path) (file_of k.now (text path)) l) (IsSaved (target h.now name) bytes l)
    (λ synced.
    let f = after_ok w ((file : ℕ) × (file_of x.0 (target h.now name) ≡ Some file)
    × (x.0.files file ≡ bytes ∷ [])) ok b.1 in
    let at : HasFile (target h.now name) (file_of k.now (target h.now name)) l = rw leads at synced in
    saved_made (target h.now name) bytes f.0 k l y.0 (ap (λ s. file_of s (target h.now name)) x.1 ∙ f.1)
    (ap (λ s. s.files f.0) x.1 ∙ f.2) at) y.1)
