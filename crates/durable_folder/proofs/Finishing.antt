-- A replacement, part after part.
use Rattle.durable_folder.proofs.Common.{◌≡◌, ◌≢◌, inl, inr, ℕ, ◌++◌, Bool, true, false, cond, List, [], ◌∷◌, Option, None, Some, Result, Ok, Err, refl, sym, ap, ◌∙◌, IsErr, error_kind, Error, Replaced, FolderState, SomeOf, file_of, newest, Handle, SparesNames, SparesFiles, OfFile, is_refusal, refusal_of, History, Turns, Runs, Answer, Rests, HasFile, folder_of, Found, KeepsOrReplaces, IsNew, IsMade, Prepares, Fills, Shifts, ReplaceOrNotEnds, ReplacesOrNot}
use Rattle.std.proofs.Common.{not, nat_eq, eq-eqb}
use Rattle.durable_folder.specs.declared.answers.Replaced.TheVariants as replaced
use Rattle.durable_folder.specs.Calls.{Removes, OpensFolder, FindsFolder}
use Rattle.durable_folder.specs.Counting.{refused_if}
use Rattle.durable_folder.specs.Histories.{Refusal, Making, Moving, Opening, KeepsRefusals, RefusedSince, IsPlaceOf, IsTold}
use Rattle.durable_folder.specs.declared.replacing.Owner.{Owner}
use Rattle.durable_folder.specs.Saving.{IsReason, IsOwner, IsNotMade, IsGiving, WasRefused, FillEnds, PutEnds, Puts, Aside, FinishSteps}
use Rattle.durable_folder.specs.Saving.{FinishEnds, Ends, ReplaceEnds, ReplacesBy, Replaces, Mounted}
use Rattle.durable_folder.proofs.Passing.{runs_of, runs_weaker, runs_then, runs_counted, runs_ended}
use Rattle.durable_folder.proofs.Putting.{put_err}
use Rattle.durable_folder.proofs.Refusing.{refused_at, refused_kept, kept_refused, refused_weaker, refused_one}
use Rattle.durable_folder.proofs.Replacements.{prepares_keeps, shifts_keeps, saved_file, aside_prepares, new_filled, differs}

aside_none : (beside : List ℕ) (s t : FolderState) → t ≡ s → Aside beside s t
aside_none beside s t same = rw same (record {
  names = λ n away. refl;
  files = record { files = λ f. refl; fixed = refl };
})

aside_shifts : (beside name : List ℕ) (s t : FolderState) → beside ≢ name → Aside beside s t → Shifts beside name s t
aside_shifts beside name s t apart aside = record {
  here = λ e x. let at : SomeOf (λ f. f ≡ e) (s.names name) = rw (aside.names name (λ is. apart (sym is))) at x in
      inr at;
  others = λ n p q e x. let at : SomeOf (λ f. f ≡ e) (s.names n) = rw (aside.names n p) at x in at;
  files = aside.files;
}

steps_aside : (beside name : List ℕ) (filled : Result Replaced Error) (s t : FolderState) → beside ≢ name →
    Aside beside s t →
    FinishSteps beside name filled s t
steps_aside beside name (Ok replaced.Done) s t apart aside = λ differ. aside_shifts beside name s t apart aside
steps_aside beside name (Ok replaced.Refused) s t apart aside = aside
steps_aside beside name (Err e) s t apart aside = aside

pub ends_err : (beside name : List ℕ) (filled result : Result Replaced Error) (h k : History) → IsErr result →
    FinishEnds beside name filled result h k
ends_err beside name (Ok replaced.Done) result h k err = λ differ. put_err beside name result h k err
ends_err beside name (Ok replaced.Refused) (Ok answer) h k err = absurd (cc)
ends_err beside name (Ok replaced.Refused) (Err e) h k err = tt
ends_err beside name (Err e) (Ok answer) h k err = absurd (cc)
ends_err beside name (Err e) (Err other) h k err = tt

pub steps_none : (beside name : List ℕ) (filled : Result Replaced Error) (s : FolderState) →
    FinishSteps beside name filled s s
steps_none beside name (Ok replaced.Done) s = λ differ. record {
  here = λ e y. inr y;
  others = λ n p q e y. y;
  files = record
      { files = λ f. refl; fixed = refl };
}
steps_none beside name (Ok replaced.Refused) s = aside_none beside s s refl
steps_none beside name (Err e) s = aside_none beside s s refl

pub rests_ends : (beside name : List ℕ) (filled result : Result Replaced Error) (a b : Option History) → beside ≢ name →
    IsErr result → Rests a b →
    Ends beside name filled result a b
rests_ends beside name filled result a b apart err rests =
    runs_weaker a b rests (λ s t x. steps_aside beside name filled s t apart (aside_none beside s t x))
    (λ h k x. ends_err beside name filled result h k err)

pub put_from : (beside name : List ℕ) (result : Result Replaced Error) (h k l : History) → KeepsRefusals h k →
    k.now ≡ h.now →
    PutEnds beside name result k l → PutEnds beside name result h l
put_from beside name (Ok replaced.Done) h k l kept same x = rw same at x
put_from beside name (Ok replaced.Refused) h k l kept same x =
    (λ n away. x.0 n away ∙ ap (λ s. s.names n) same, kept_refused (λ r. r ≡ Moving beside name) h k l kept x.1)
put_from beside name (Err e) h k l kept same x = tt

steps_still : (beside name : List ℕ) (filled : Result Replaced Error) (s t : FolderState) → t ≡ s →
    FinishSteps beside name filled s t
steps_still beside name filled s t same = rw same (steps_none beside name filled s)

ends_from : (beside name : List ℕ) (filled result : Result Replaced Error) (h k l : History) → KeepsRefusals h k →
    k.now ≡ h.now →
    FinishEnds beside name filled result k l → FinishEnds beside name filled result h l
ends_from beside name (Ok replaced.Done) result h k l kept same x =
    λ differ. let there : file_of k.now beside ≢ file_of k.now name = rw same differ in
    put_from beside name result h k l kept same (x there)
ends_from beside name (Ok replaced.Refused) (Ok answer) h k l kept same x = (x.0, rw same at x.1)
ends_from beside name (Ok replaced.Refused) (Err e) h k l kept same x = tt
ends_from beside name (Err e) (Ok answer) h k l kept same x = (x.0, rw same at x.1)
ends_from beside name (Err e) (Err other) h k l kept same x = tt

pub ends_after : (beside name : List ℕ) (filled result : Result Replaced Error) (a b c : Option History) →
    beside ≢ name → Rests a b →
    Ends beside name filled result b c → Ends beside name filled result a c
ends_after beside name filled result a b c apart rests ends =
    runs_then a b c (runs_counted a b rests) ends (steps_still beside name filled)
    (λ h k u x y. let at : FinishSteps beside name filled h.now u = rw x.1 at y in at)
    (λ h k l x y. ends_from beside name filled result h k l x.0 x.1 y)

pub put_ends : (beside name : List ℕ) (result : Result Replaced Error) (a b c : Option History) → Rests a b →
    Puts beside name result b c →
    Ends beside name (Ok replaced.Done) result a c
put_ends beside name result a b c rests puts =
    runs_then a b c (runs_counted a b rests) puts.run
    (λ s t x differ. rw x (record {
      here = λ e y. inr y;
      others = λ n p q e y. y;
      files = record { files = λ f. refl; fixed = refl };
    }))
    (λ h k u x y differ. let at : file_of h.now beside ≢ file_of h.now name →
    Shifts beside name h.now u = rw x.1 at y in at differ)
    (λ h k l x y differ. let there : file_of k.now beside ≢ file_of k.now name = rw x.1 differ in let both = y there in
    put_from beside name result h
    k l x.0 x.1 both.1)

removes_aside : (beside : List ℕ) (r : Result (Unit {0}) Error) (s t u : FolderState) → t ≡ s → Removes beside r t u →
    Aside beside s u
removes_aside beside (Ok done) s t u same d = rw (sym same) (record { names = d.others; files = d.files })
removes_aside beside (Err e) s t u same x = aside_none beside s u (x ∙ same)

pub removed_ends : (beside name : List ℕ) (filled result : Result Replaced Error) (r : Result (Unit {0}) Error)
    (n : Answer) (a b c : Option History) →
    beside ≢ name →
    ((h k : History) → Aside beside h.now k.now → FinishEnds beside name filled result h k) → Rests a b →
    Turns (Removes beside r) n b c →
    Ends beside name filled result a c
removed_ends beside name filled result r n a b c apart ends rests turn =
    runs_then a b c rests (runs_of (Removes beside r) n b c turn)
    (λ s t x. steps_aside beside name filled s t apart (aside_none beside s t x))
    (λ h k u x y. steps_aside beside name filled h.now u apart (removes_aside beside r h.now k.now u x y))
    (λ h k l x y. ends h l (removes_aside beside r h.now k.now l.now x y.0))

-- from the new file on
pub made_new_file : (handle : Handle) (name beside : List ℕ) (f : ℕ) (s t u : FolderState) →
    IsMade handle name beside f s t →
    OfFile (λ old new. Unit {0}) handle.file t u → SparesNames f t u
made_new_file handle name beside f s t u made x =
    let at : OfFile (λ old new. Unit {0}) (Some f) t u = rw (ap (λ h. h.file) made.opened) at x in at.0

pub made_bytes : (handle : Handle) (name beside bytes : List ℕ) (f : ℕ) (s t u : FolderState) →
    IsMade handle name beside f s t →
    OfFile (λ old new. handle.offset ≡ 0 → old ≡ [] ∷ [] → new ≡ bytes ∷ []) handle.file t u → SparesNames f t u
    × (u.files f ≡ bytes ∷ [])
made_bytes handle name beside bytes f s t u made x =
    let at : OfFile (λ old new. handle.offset ≡ 0 → old ≡ [] ∷ [] → new ≡ bytes ∷ []) (Some f) t u =
    rw (ap (λ h. h.file) made.opened) at x in
    (at.0, at.1 (ap (λ h. h.offset) made.opened) made.empty)

pub still_named : (handle : Handle) (name beside : List ℕ) (f : ℕ) (s t u : FolderState) → IsMade handle name beside f s t →
    SparesNames f t u →
    file_of u beside ≡ Some f
still_named handle name beside f s t u made same = ap (newest None) (same.names beside) ∙ made.named

finish_keeps : (handle : Handle) (name beside : List ℕ) (owner : Option Owner) (bytes : List ℕ)
    (filled : Result Replaced Error) (f : ℕ) (s : FolderState) (h k : History)
    (u : FolderState) → IsMade handle name beside f s h.now →
    FillEnds handle beside owner bytes filled h k → FinishSteps beside name filled k.now u →
    KeepsOrReplaces name bytes s u
finish_keeps handle name beside owner bytes (Ok replaced.Done) f s h k u made x y =
    let b = made_bytes handle name beside bytes f s h.now k.now made x in
    let new = new_filled name beside f s h.now k.now made.new b.0 in
    let named = still_named handle name beside f s h.now k.now made b.0 in
    shifts_keeps name beside bytes f s k.now u new named b.1 (y (differs name beside f s k.now new named))
finish_keeps handle name beside owner bytes (Ok replaced.Refused) f s h k u made x y =
    let new : IsNew name beside f s k.now = rw x.0 made.new in
    prepares_keeps name bytes s u (aside_prepares name beside f s k.now u new y.names y.files)
finish_keeps handle name beside owner bytes (Err e) f s h k u made x y =
    let new = new_filled name beside f s h.now k.now made.new
    (made_new_file handle name beside f s h.now k.now made x) in
    prepares_keeps name bytes s u (aside_prepares name beside f s k.now u new y.names y.files)

finish_shifts : (handle : Handle) (name beside : List ℕ) (owner : Option Owner) (bytes : List ℕ) (f : ℕ)
    (s : FolderState) (h k : History) (u : FolderState) →
    IsMade handle name beside f s h.now →
    FillEnds handle beside owner bytes (Ok replaced.Done) h k → FinishSteps beside name (Ok replaced.Done) k.now u →
    SparesFiles k.now u
finish_shifts handle name beside owner bytes f s h k u made x y =
    let b = made_bytes handle name beside bytes f s h.now k.now made x in
    let new = new_filled name beside f s h.now k.now made.new b.0 in
    let shifts = y (differs name beside f s k.now new (still_named handle name beside f s h.now k.now made b.0)) in
    shifts.files

-- what giving a new file to its owner refused is a reason, and so is what putting it in its place refused
giving_reason : (handle : Handle) (name beside : List ℕ) (owner : Option Owner) (f : ℕ) (s t : FolderState) →
    IsMade handle name beside f s t →
    (r : Refusal) → IsGiving beside handle.file owner t r → IsReason name (IsOwner owner) s r
giving_reason handle name beside owner f s t made r (inl is) =
    rw is (f, ap (λ h. h.file) made.opened, made.new.is_fresh)
giving_reason handle name beside owner f s t made r (inr x) = rw x.3 ((f, made.named, made.new.is_fresh), x.2)

moving_reason : (name beside : List ℕ) (owner : Option Owner) (f : ℕ) (s t : FolderState) → IsNew name beside f s t →
    (r : Refusal) →
    r ≡ Moving beside name → IsReason name (IsOwner owner) s r
moving_reason name beside owner f s t new r is = rw is (new.leftover, refl)

making_reason : (name : List ℕ) (owner : Option Owner) (s : FolderState) (r : Refusal) → IsNotMade name r →
    IsReason name (IsOwner owner) s r
making_reason name owner s r x = rw x.1 x.2

finish_ends : (handle : Handle) (name beside : List ℕ) (owner : Option Owner) (bytes : List ℕ)
    (filled result : Result Replaced Error) (f : ℕ) (s : FolderState) (h k l : History) →
    IsMade handle name beside f s h.now →
    FillEnds handle beside owner bytes filled h k → KeepsRefusals h k → FinishSteps beside name filled k.now l.now →
    FinishEnds beside name filled result k l → KeepsRefusals k l → ReplaceEnds name owner bytes result s h l
finish_ends handle name beside owner bytes filled (Err e) f s h k l made x more y z last = tt
finish_ends handle name beside owner bytes (Ok replaced.Done) (Ok replaced.Done) f s h k l made x more y z last =
    let b = made_bytes handle name beside bytes f s h.now k.now made x in
    let new = new_filled name beside f s h.now k.now made.new b.0 in
    let named = still_named handle name beside f s h.now k.now made b.0 in
    let put : HasFile name (file_of k.now beside) l = z (differs name beside f s k.now new named) in
    let has : HasFile name (Some f) l = rw named at put in
    let files = finish_shifts handle name beside owner bytes f s h k l.now made x y in
    saved_file name bytes f l has (files.files f ∙ b.1)
finish_ends handle name beside owner bytes (Ok replaced.Done) (Ok replaced.Refused) f s h k l made x more y z last =
    let b = made_bytes handle name beside bytes f s h.now k.now made x in
    let new = new_filled name beside f s h.now k.now made.new b.0 in
    let ends = z (differs name beside f s k.now new (still_named handle name beside f s h.now k.now made b.0)) in (
      aside_prepares name beside f s k.now l.now new ends.0
          (finish_shifts handle name beside owner bytes f s h k l.now made x y),
      kept_refused (IsReason name (IsOwner owner) s) h k l more
          (refused_weaker (λ r. r ≡ Moving beside name) (IsReason name (IsOwner owner) s) k l
          (moving_reason name beside owner f s k.now new) ends.1),
    )
finish_ends handle name beside owner bytes (Ok replaced.Refused) (Ok replaced.Done) f s h k l made x more y z last =
    absurd (cc)
finish_ends handle name beside owner bytes (Ok replaced.Refused) (Ok replaced.Refused) f s h k l made x more y z last =
    let new : IsNew name beside f s k.now = rw x.0 made.new in (
      aside_prepares name beside f s k.now l.now new y.names y.files,
      refused_kept (IsReason name (IsOwner owner) s) h k l
          (refused_weaker (IsGiving beside handle.file owner h.now) (IsReason name (IsOwner owner) s) h k
          (giving_reason handle name beside owner f s h.now made) x.1) last,
    )
finish_ends handle name beside owner bytes (Err e) (Ok answer) f s h k l made x more y z last = absurd (cc)

pub replaced_by : (handle : Handle) (name beside : List ℕ) (owner : Option Owner) (bytes : List ℕ)
    (filled result : Result Replaced Error) (a b c : Option History) →
    Fills handle beside owner bytes filled a b → Ends beside name filled result b c →
    ReplacesBy handle beside name owner bytes result a c
replaced_by handle name beside owner bytes filled result a b c fills ends =
    runs_then a b c (runs_counted a b fills) (runs_counted b c (runs_ended b c (steps_none beside name filled) ends))
    (λ t u x s f made. prepares_keeps name bytes s u (inr (
      beside,
      f,
      new_filled name beside f s t u made.new
          (made_new_file handle name beside f s t u made x),
    )))
    (λ h k u x y s f made. finish_keeps handle name beside owner bytes filled f s h k u made x.1 y)
    (λ h k l x y s f made. finish_ends handle name beside owner bytes filled result f s h k l made x.1 x.0
    y.1.0 y.1.1 y.0)

-- from before the new file on
prepared_first : (name bytes : List ℕ) (s t : FolderState) → Prepares name s t → KeepsOrReplaces name bytes s t
prepared_first name bytes s t p = prepares_keeps name bytes s t p

kept_ends : (name : List ℕ) (owner : Option Owner) (bytes : List ℕ) (result : Result Replaced Error) (s : FolderState)
    (h k l : History) →
    KeepsRefusals h k → ReplaceEnds name owner bytes result s k l → ReplaceEnds name owner bytes result s h l
kept_ends name owner bytes (Ok replaced.Done) s h k l kept x = x
kept_ends name owner bytes (Ok replaced.Refused) s h k l kept x =
    (x.0, kept_refused (IsReason name (IsOwner owner) s) h k l kept x.1)
kept_ends name owner bytes (Err e) s h k l kept x = tt

pub replaced_in : (handle : Handle) (name beside : List ℕ) (owner : Option Owner) (bytes : List ℕ)
    (result : Result Replaced Error) (a b c : Option History) →
    Runs (Prepares name) (λ h k. (f : ℕ) × IsMade handle name beside f h.now k.now) a b →
    ReplacesBy handle beside name owner bytes result b c →
    Replaces name owner bytes result a c
replaced_in handle name beside owner bytes result a b c makes by =
    runs_then a b c (runs_counted a b makes) by (prepared_first name bytes) (λ h k u x y. y h.now x.1.0 x.1.1)
    (λ h k l x y. kept_ends name owner bytes result h.now h k l x.0 (y h.now x.1.0 x.1.1))

refused_ends : (name : List ℕ) (owner : Option Owner) (bytes : List ℕ) (refuses : Bool) (e : Error) (h k : History) →
    k.now ≡ h.now →
    (refuses ≡ true → RefusedSince (IsNotMade name) h k) →
    ReplaceEnds name owner bytes (cond refuses (Ok replaced.Refused) (Err e)) h.now h k
refused_ends name owner bytes true e h k same why = (
  inl same,
  refused_weaker (IsNotMade name) (IsReason name (IsOwner owner) h.now) h k
      (making_reason name owner h.now) (why refl),
)
refused_ends name owner bytes false e h k same why = tt

pub not_made : (name : List ℕ) (owner : Option Owner) (bytes : List ℕ) (e : Error) (a b : Option History) →
    Runs (Prepares name) (λ h k. (k.now ≡ h.now) × WasRefused name e h k) a b →
    Replaces name owner bytes (refusal_of e) a b
not_made name owner bytes e a b makes =
    runs_weaker a b makes (prepared_first name bytes)
    (λ h k x. refused_ends name owner bytes (is_refusal (error_kind e)) e h k x.0 x.1)

pub is_error : (e : Error) → IsErr {T = Replaced} {E = Error} (Err e)
is_error e = refl

pub same_refused : (beside name : List ℕ) (filled : Result Replaced Error) → filled ≡ Ok replaced.Refused →
    (h k : History) →
    Aside beside h.now k.now →
    FinishEnds beside name filled (Ok replaced.Refused) h k
same_refused beside name (Ok replaced.Done) is h k aside = absurd (cc)
same_refused beside name (Ok replaced.Refused) is h k aside = (refl, aside)
same_refused beside name (Err e) is h k aside = absurd (cc)

-- opening the folder and looking for a mount point
opens_stays : {X : Type 0} (place : X → List ℕ) (folder : List ℕ) (r : Result X Error) (s t : FolderState) →
    OpensFolder place folder r s t → t ≡ s
opens_stays place folder (Ok p) s t x = x.0
opens_stays place folder (Err e) s t x = x

pub opened_place : {X : Type 0} (place : X → List ℕ) (folder : List ℕ) (opened : X) (n : Answer)
    (a b : Option History) →
    Turns (OpensFolder place folder (Ok opened)) n a b → IsTold b → place opened ≡ folder
opened_place place folder opened n None None turn told = absurd told
opened_place place folder opened n None (Some k) turn told = absurd turn
opened_place place folder opened n (Some h) None turn told = absurd told
opened_place place folder opened n (Some h) (Some k) turn told = turn.0.1

pub no_change_keeps : (name bytes : List ℕ) (s t : FolderState) → t ≡ s → KeepsOrReplaces name bytes s t
no_change_keeps name bytes s t same = prepares_keeps name bytes s t (inl same)

by_refusal : (name : List ℕ) (owner : Option Owner) (bytes : List ℕ) (refuses : Bool) (e : Error) (h k : History) →
    k.now ≡ h.now →
    (place : List ℕ) → place ≡ folder_of name → k.refusals ≡ refused_if refuses (Opening place) ++ h.refusals →
    ReplaceOrNotEnds name owner bytes (cond refuses (Ok replaced.Refused) (Err e)) h k
by_refusal name owner bytes true e h k same place is more =
    (inl same, inr (refused_one (IsReason name (IsOwner owner) h.now) (Opening place) h k more is))
by_refusal name owner bytes false e h k same place is more = tt

pub not_opened : {X : Type 0} (place : X → List ℕ) (folder name : List ℕ) (owner : Option Owner) (bytes : List ℕ)
    (e : Error) (n : Answer)
    (a b : Option History) →
    folder ≡ folder_of name → n.refusals ≡ refused_if (is_refusal (error_kind e)) (Opening folder) →
    Turns (OpensFolder place folder (Err e)) n a b → ReplacesOrNot name owner bytes (refusal_of e) a b
not_opened place folder name owner bytes e n a b is counts turn =
    runs_weaker a b (runs_of (OpensFolder place folder (Err e)) n a b turn) (no_change_keeps name bytes)
    (λ h k x. by_refusal name owner bytes (is_refusal (error_kind e)) e h k x.0 folder is
    (x.1 ∙ ap (λ i. i ++ h.refusals) counts))

-- a folder of the name, of which it is told whether the file is mounted
pub mounted_at : (place name : List ℕ) (owner : Option Owner) (r : Result Bool Error) (a b : Option History) →
    IsPlaceOf place name a →
    Mounted place owner r a b → Mounted (folder_of name) owner r a b
mounted_at place name owner r None None at mounted = record { run = tt }
mounted_at place name owner r None (Some k) at mounted = absurd mounted.run
mounted_at place name owner r (Some h) b at mounted = rw (at.is tt) at mounted

or_not_from : (name : List ℕ) (owner : Option Owner) (bytes : List ℕ) (result : Result Replaced Error)
    (h k l : History) → KeepsRefusals h k →
    k.now ≡ h.now → ReplaceOrNotEnds name owner bytes result k l → ReplaceOrNotEnds name owner bytes result h l
or_not_from name owner bytes (Ok replaced.Done) h k l kept same x = x
or_not_from name owner bytes (Ok replaced.Refused) h k l kept same x = (
  rw same at x.0,
  elim x.1 [
    | inl mounted ↦ inl (rw same at mounted)
    | inr again ↦
        inr (kept_refused (IsReason name (IsOwner owner) h.now) h k l kept
        (refused_at (IsReason name (IsOwner owner)) h.now k.now k l same again))
  ],
)
or_not_from name owner bytes (Err e) h k l kept same x = tt

-- a replacement in a folder that was opened
pub opened_replaced : {X : Type 0} (place : X → List ℕ) (folder : List ℕ) (opened : X) (name : List ℕ)
    (owner : Option Owner) (bytes : List ℕ)
    (result : Result Replaced Error) (n : Answer) (a b c : Option History) →
    Turns (OpensFolder place folder (Ok opened)) n a b →
    ReplacesOrNot name owner bytes result b c → ReplacesOrNot name owner bytes result a c
opened_replaced place folder opened name owner bytes result n a b c turn replaces =
    runs_then a b c (runs_counted a b (runs_of (OpensFolder place folder (Ok opened)) n a b turn)) replaces
    (λ s t x. no_change_keeps name bytes s t x.0) (λ h k u x y. rw x.1.0.0 at y)
    (λ h k l x y. or_not_from name owner bytes result h k l x.0 x.1.0.0 y)

not_or_ends : (name : List ℕ) (owner : Option Owner) (bytes : List ℕ) (result : Result Replaced Error)
    (h k l : History) → KeepsRefusals h k →
    k.now ≡ h.now →
    ReplaceEnds name owner bytes result k.now k l → ReplaceOrNotEnds name owner bytes result h l
not_or_ends name owner bytes (Ok replaced.Done) h k l more same x = x
not_or_ends name owner bytes (Ok replaced.Refused) h k l more same x = (
  rw same at x.0,
  inr (kept_refused (IsReason name (IsOwner owner) h.now) h k l more
      (refused_at (IsReason name (IsOwner owner)) h.now k.now k l same x.1)),
)
not_or_ends name owner bytes (Err e) h k l more same x = tt

err_or_not : (name : List ℕ) (owner : Option Owner) (bytes : List ℕ) (result : Result Replaced Error) (h k : History) →
    IsErr result →
    ReplaceOrNotEnds name owner bytes result h k
err_or_not name owner bytes (Ok answer) h k err = absurd (cc)
err_or_not name owner bytes (Err e) h k err = tt

pub not_looked : (name : List ℕ) (owner : Option Owner) (bytes : List ℕ) (r : Result Bool Error)
    (result : Result Replaced Error)
    (a b : Option History) → IsErr result →
    Mounted (folder_of name) owner r a b → ReplacesOrNot name owner bytes result a b
not_looked name owner bytes r result a b err mounted =
    runs_weaker a b mounted (no_change_keeps name bytes) (λ h k x. err_or_not name owner bytes result h k err)

pub mounted_refused : (name : List ℕ) (owner : Option Owner) (bytes : List ℕ) (r : Result Bool Error)
    (a b : Option History) → r ≡ Ok true →
    Mounted (folder_of name) owner r a b → ReplacesOrNot name owner bytes (Ok replaced.Refused) a b
mounted_refused name owner bytes r a b is mounted =
    runs_weaker a b mounted (no_change_keeps name bytes) (λ h k x. (inl x.0, inl (x.1 is)))

pub then_replaced : (name : List ℕ) (owner : Option Owner) (bytes : List ℕ) (r : Result Bool Error)
    (result : Result Replaced Error)
    (a b c : Option History) →
    Mounted (folder_of name) owner r a b → Replaces name owner bytes result b c →
    ReplacesOrNot name owner bytes result a c
then_replaced name owner bytes r result a b c mounted replaces =
    runs_then a b c (runs_counted a b mounted) replaces (no_change_keeps name bytes)
    (λ h k u x y. rw x.1.0 at y) (λ h k l x y. not_or_ends name owner bytes result h k l x.0 x.1.0 y)

pub put_ends_at : (beside name : List ℕ) (filled result : Result Replaced Error) (answer : Replaced)
    (a b c : Option History) → filled ≡ Ok answer →
    answer ≡ replaced.Done → Rests a b →
    Puts beside name result b c → Ends beside name filled result a c
put_ends_at beside name (Ok replaced.Done) result answer a b c is done rests puts =
    put_ends beside name result a b c rests puts
put_ends_at beside name (Ok replaced.Refused) result answer a b c is done rests puts = absurd (cc)
put_ends_at beside name (Err e) result answer a b c is done rests puts = absurd (cc)

-- a file that gives its owner, by its device
finds_folder_stays : (folder : List ℕ) (r : Result Found Error) (s t : FolderState) → FindsFolder folder r s t → t ≡ s
finds_folder_stays folder (Ok f) s t x = x.0
finds_folder_stays folder (Err e) s t x = x

pub folder_not_found : (place : List ℕ) (owner : Option Owner) (r : Result Found Error) (result : Result Bool Error)
    (n : Answer) (a b : Option History) →
    IsErr result → Turns (FindsFolder place r) n a b →
    Mounted place owner result a b
folder_not_found place owner r (Ok answer) n a b err turn = absurd (cc)
folder_not_found place owner r (Err e) n a b err turn =
    runs_weaker a b (runs_of (FindsFolder place r) n a b turn) (finds_folder_stays place r)
    (λ h k x. (finds_folder_stays place r h.now k.now x.0, λ no_such. absurd (cc)))

device_differs : (x y : ℕ) (r : Result Bool Error) → r ≡ Ok (not (nat_eq x y)) → r ≡ Ok true → x ≢ y
device_differs x y r here is same =
    let yes : nat_eq x y ≡ true = eq-eqb x y same in
    let test : not (nat_eq x y) ≡ true = cc in
    let no_such : false ≡ true = rw yes at test in absurd (cc)

pub folder_found : (place : List ℕ) (old : Owner) (owner : Option Owner) (found : Found) (r : Result Found Error)
    (n : Answer) (a b : Option History) →
    owner ≡ Some old → r ≡ Ok found →
    Turns (FindsFolder place r) n a b → Mounted place owner (Ok (not (nat_eq found.device old.device))) a b
folder_found place old owner found r n a b is ok turn =
    let at : Turns (FindsFolder place (Ok found)) n a b = rw ok at turn in
    runs_weaker a b (runs_of (FindsFolder place (Ok found)) n a b at) (λ s t x. x.0)
    (λ h k x. (
      x.0.0,
      λ yes. rw is (λ same. device_differs found.device old.device (Ok (not (nat_eq found.device old.device))) refl yes
          (x.0.1 ∙ sym same)),
    ))

pub same_refused_at : (beside name : List ℕ) (filled : Result Replaced Error) (answer : Replaced) → filled ≡ Ok answer →
    answer ≡ replaced.Refused →
    (h k : History) → Aside beside h.now k.now →
    FinishEnds beside name filled (Ok replaced.Refused) h k
same_refused_at beside name filled answer is refused h k aside =
    same_refused beside name filled (is ∙ ap Ok refused) h k aside
