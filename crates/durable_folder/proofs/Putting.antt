-- Putting a new file in its place.
use Rattle.durable_folder.proofs.Common.{◌≡◌, ◌≢◌, ◌⊎◌, inl, inr, ℕ, Bool, true, false, cond, List, [], ◌∷◌, Option, None, Some, Result, Ok, Err, refl, sym, ap, ◌∙◌, ◌++◌, IsErr, error_kind, Error, Replaced, FolderState, SomeOf, file_of, newest, SparesFiles, is_refusal, refusal_of, IsLate, folder_of, History, Turns, Answer, HasFile, AfterOk, Shifts}
use Rattle.durable_folder.specs.declared.answers.Replaced.TheVariants as replaced
use Rattle.durable_folder.specs.Calls.{Moves, Renames, Drops, Removes, SyncsFolder, SyncsNames}
use Rattle.durable_folder.specs.Counting.{is_unable, refused_answer, refused_if, these_if, answer_to_sync_folder}
use Rattle.durable_folder.specs.Answers.{sync_answer, unless_unable, IsNamesSyncAnswer}
use Rattle.durable_folder.specs.Histories.{Moving, KeepsRefusals, IsPlaceOf, CannotSync}
use Rattle.durable_folder.specs.Saving.{PutEnds, Puts, MaySyncNames, SyncsNamesOf}
use Rattle.durable_folder.proofs.Heads.{after_ok_map}
use Rattle.durable_folder.proofs.Passing.{runs_of, runs_weaker, runs_then, runs_counted}
use Rattle.durable_folder.proofs.Refusing.{refused_kept, refused_one}

no_files_change : (s : FolderState) → SparesFiles s s
no_files_change s = record { files = λ f. refl; fixed = refl }

pub files_then : (s t u : FolderState) → SparesFiles s t → SparesFiles t u → SparesFiles s u
files_then s t u x y = record { files = λ f. y.files f ∙ x.files f; fixed = y.fixed ∙ x.fixed }

-- nothing shifts
pub stays_shifts : (beside name : List ℕ) (s t : FolderState) → t ≡ s → Shifts beside name s t
stays_shifts beside name s t same = rw same (record {
  here = λ e x. inr x;
  others = λ n p q e x. x;
  files = no_files_change s;
})

moves_shifts : (beside name : List ℕ) (s t : FolderState) → Moves beside name s t → Shifts beside name s t
moves_shifts beside name s t m = record {
  here = λ e x. let at : SomeOf (λ f. f ≡ e) (file_of s beside ∷ s.names name) = rw m.arrives at x in elim at
      [ inl is ↦ inl (sym is) | inr rest ↦ inr rest ];
  others = λ n p q e x. let at : SomeOf (λ f. f ≡ e) (s.names n) = rw (m.others n p q) at x in at;
  files = m.files;
}

drops_shifts : (beside name : List ℕ) (s t : FolderState) → beside ≢ name → Drops beside s t → Shifts beside name s t
drops_shifts beside name s t apart d = record {
  here = λ e x. let at : SomeOf (λ f. f ≡ e) (s.names name) = rw (d.others name (λ is. apart (sym is))) at x in inr at;
  others = λ n p q e x. let at : SomeOf (λ f. f ≡ e) (s.names n) = rw (d.others n p) at x in at;
  files = d.files;
}

renames_shifts : (beside name : List ℕ) (r : Result (Unit {0}) Error) (s t : FolderState) → Renames beside name r s t →
    file_of s beside ≢ file_of s name → Shifts beside name s t
renames_shifts beside name (Ok done) s t x differ = moves_shifts beside name s t (x.0 differ)
renames_shifts beside name (Err error) s t x differ = stays_shifts beside name s t x

-- a folder that is synced, or is not
pub synced_shifts : (beside name place : List ℕ) (s t u : FolderState) → Shifts beside name s t → MaySyncNames place t u →
    Shifts beside name s u
synced_shifts beside name place s t u x (inl same) = rw (sym same) at x
synced_shifts beside name place s t u x (inr y) = record {
  here = λ e z. x.here e (y.others name e z);
  others = λ n p q e z. x.others n p q e (y.others n e z);
  files = files_then s t u x.files y.files;
}

may_sync : (place : List ℕ) (r : Result (Unit {0}) Error) (s t : FolderState) → SyncsFolder place r s t →
    MaySyncNames place s t
may_sync place (Ok done) s t x = inr x
may_sync place (Err error) s t x = inl x

-- the answer Ok after a folder that is not synced
unable_noted : (unable : Bool) (error : Error) (place : List ℕ) (before : List (List ℕ)) (k : History) →
    k.unsynced ≡ these_if unable place ++ before → unless_unable unable error ≡ Ok tt →
    SomeOf (λ p. p ≡ place) k.unsynced
unable_noted true error place before k x ok = rw x (inl refl)
unable_noted false error place before k x ok = absurd (cc)

synced_ok : (place : List ℕ) (r : Result (Unit {0}) Error) (s : FolderState) (before : List (List ℕ)) (k : History) →
    SyncsFolder place r s k.now →
    k.unsynced ≡ (answer_to_sync_folder place r).unsynced ++ before → sync_answer r ≡ Ok tt →
    SyncsNames place s k.now ⊎ SomeOf (λ p. p ≡ place) k.unsynced
synced_ok place (Ok done) s before k y x ok = inl y
synced_ok place (Err error) s before k y x ok =
    inr (unable_noted (is_unable (error_kind error)) error place before k x ok)

if_ok : (result : Result (Unit {0}) Error) (P : Type 0) → (result ≡ Ok tt → P) → AfterOk result P
if_ok (Ok done) P f = f refl
if_ok (Err e) P f = tt

late_ok : (done result : Result (Unit {0}) Error) → IsLate done result → result ≡ Ok tt → done ≡ Ok tt
late_ok (Ok done) result late ok = refl
late_ok (Err error) (Ok done) late ok = absurd late
late_ok (Err error) (Err other) late ok = absurd (cc)

pub names_synced : (place : List ℕ) (r result : Result (Unit {0}) Error) (a b : Option History) →
    IsNamesSyncAnswer r result →
    Turns (SyncsFolder place r) (answer_to_sync_folder place r) a b → SyncsNamesOf place result a b
names_synced place r result a b settles turn = record {
  run = runs_weaker a b (runs_of (SyncsFolder place r) (answer_to_sync_folder place r) a b turn)
      (λ s t x. may_sync place r s t x)
      (λ h k x. (
        may_sync place r h.now k.now x.0,
        if_ok result (SyncsNames place h.now k.now ⊎ SomeOf (λ p. p ≡ place) k.unsynced)
            (λ ok. synced_ok place r h.now h.unsynced k x.0 x.2 (late_ok (sync_answer r) result settles.is ok)),
      ));
}

-- a name of a folder that is synced, or is not, has the file that it had
synced_now : (name place : List ℕ) (s t : FolderState) → place ≡ folder_of name → MaySyncNames place s t →
    file_of t name ≡ file_of s name
synced_now name place s t is (inl same) = ap (λ u. file_of u name) same
synced_now name place s t is (inr y) = ap (newest None) (y.here name (sym is))

synced_sync : (name place : List ℕ) (s : FolderState) (l : History) → place ≡ folder_of name →
    SyncsNames place s l.now ⊎ SomeOf (λ p. p ≡ place) l.unsynced → (l.now.names name ≡ file_of s name ∷ [])
    ⊎ CannotSync name l
synced_sync name place s l is (inl y) = inl (y.here name (sym is))
synced_sync name place s l is (inr cannot) = inr (rw is at cannot)

pub synced_file : (name place : List ℕ) (s : FolderState) (l : History) → place ≡ folder_of name →
    MaySyncNames place s l.now →
    SyncsNames place s l.now ⊎ SomeOf (λ p. p ≡ place) l.unsynced → HasFile name (file_of s name) l
synced_file name place s l is may synced = (synced_now name place s l.now is may, synced_sync name place s l is synced)

-- what is at the name then
done_put : (beside name place : List ℕ) (s t : FolderState) (l : History) → place ≡ folder_of name →
    Moves beside name s t → MaySyncNames place t l.now →
    SyncsNames place t l.now ⊎ SomeOf (λ p. p ≡ place) l.unsynced → HasFile name (file_of s beside) l
done_put beside name place s t l is m may synced =
    let arrived : file_of t name ≡ file_of s beside = ap (newest None) m.arrives in
    let has : HasFile name (file_of t name) l = synced_file name place t l is may synced in
    rw arrived at has

pub put_err : (beside name : List ℕ) (r : Result Replaced Error) (h k : History) → IsErr r → PutEnds beside name r h k
put_err beside name (Ok done) h k err = absurd (cc)
put_err beside name (Err error) h k err = tt

pub ends_put : (beside name : List ℕ) (r : Result (Unit {0}) Error) (result : Result Replaced Error) (h k : History) →
    IsErr result ⊎ ((r ≡ Ok tt) × (result ≡ Ok replaced.Done)) → AfterOk r (HasFile name (file_of h.now beside) k) →
    PutEnds beside name result h k
ends_put beside name r result h k (inl err) x = put_err beside name result h k err
ends_put beside name (Ok done) result h k (inr ok) x = rw ok.1 x
ends_put beside name (Err e) result h k (inr ok) x = absurd (cc)

put_synced_told : (beside name place : List ℕ) (n : Answer) (r : Result (Unit {0}) Error)
    (result : Result Replaced Error) (a b c : Option History) →
    IsErr result ⊎ ((r ≡ Ok tt) × (result ≡ Ok replaced.Done)) → place ≡ folder_of name →
    Turns (Renames beside name (Ok tt)) n a b →
    SyncsNamesOf place r b c → Puts beside name result a c
put_synced_told beside name place n r result a b c why is first last = record {
  run = runs_then a b c (runs_of (Renames beside name (Ok tt)) n a b first) last.run
      (λ s t x differ. renames_shifts beside name (Ok tt) s t x differ)
      (λ h k u x y differ. synced_shifts beside name place h.now k.now u
      (renames_shifts beside name (Ok tt) h.now k.now x.0 differ) y)
      (λ h k l x y differ. (
        synced_shifts beside name place h.now k.now l.now (renames_shifts beside name (Ok tt) h.now k.now x.0 differ)
            y.0,
        ends_put beside name r result h l why
            (after_ok_map r (SyncsNames place k.now l.now ⊎ SomeOf (λ p. p ≡ place) l.unsynced)
            (HasFile name (file_of h.now beside) l)
            (λ synced. done_put beside name place h.now k.now l is (x.0.0 differ) y.0 synced) y.1),
      ));
}

put_synced : (beside name place : List ℕ) (n : Answer) (r : Result (Unit {0}) Error) (result : Result Replaced Error)
    (a b c : Option History) →
    IsErr result ⊎ ((r ≡ Ok tt) × (result ≡ Ok replaced.Done)) → IsPlaceOf place name a →
    Turns (Renames beside name (Ok tt)) n a b →
    SyncsNamesOf place r b c → Puts beside name result a c
put_synced beside name place n r result None None None why is first last = record { run = record { run = tt } }
put_synced beside name place n r result None None (Some l) why is first last = absurd last.run.run
put_synced beside name place n r result None (Some k) c why is first last = absurd first
put_synced beside name place n r result (Some h) b c why is first last =
    put_synced_told beside name place n r result (Some h) b c why (is.is tt) first last

pub put_not_synced : (beside name place : List ℕ) (n : Answer) (r : Result (Unit {0}) Error)
    (result : Result Replaced Error) (a b c : Option History) →
    IsErr result → IsPlaceOf place name a → Turns (Renames beside name (Ok tt)) n a b → SyncsNamesOf place r b c →
    Puts beside name result a c
put_not_synced beside name place n r result a b c err is first last =
    put_synced beside name place n r result a b c (inl err) is first last

pub put_done : (beside name place : List ℕ) (n : Answer) (r : Result (Unit {0}) Error) (a b c : Option History) →
    r ≡ Ok tt →
    IsPlaceOf place name a → Turns (Renames beside name (Ok tt)) n a b → SyncsNamesOf place r b c →
    Puts beside name (Ok replaced.Done) a c
put_done beside name place n r a b c ok is first last =
    put_synced beside name place n r (Ok replaced.Done) a b c (inr (ok, refl)) is first last

pub removes_shifts : (beside name : List ℕ) (r : Result (Unit {0}) Error) (s t : FolderState) → beside ≢ name →
    Removes beside r s t →
    Shifts beside name s t
removes_shifts beside name (Ok done) s t apart x = drops_shifts beside name s t apart x
removes_shifts beside name (Err error) s t apart x = stays_shifts beside name s t x

pub removes_others : (beside : List ℕ) (r : Result (Unit {0}) Error) (s t : FolderState) → Removes beside r s t →
    (n : List ℕ) → n ≢ beside →
    t.names n ≡ s.names n
removes_others beside (Ok done) s t x n apart = x.others n apart
removes_others beside (Err error) s t x n apart = ap (λ u. u.names n) x

pub refusal_ends : (beside name : List ℕ) (refuses : Bool) (e : Error) (h k l : History) →
    ((n : List ℕ) → n ≢ beside → l.now.names n ≡ h.now.names n) →
    k.refusals ≡ refused_if refuses (Moving beside name) ++ h.refusals → KeepsRefusals k l →
    PutEnds beside name (cond refuses (Ok replaced.Refused) (Err e)) h l
refusal_ends beside name true e h k l same more last = (
  same,
  refused_kept (λ r. r ≡ Moving beside name) h k l
      (refused_one (λ r. r ≡ Moving beside name) (Moving beside name) h k more refl) last,
)
refusal_ends beside name false e h k l same more last = tt

pub put_refused : (beside name : List ℕ) (e : Error) (r : Result (Unit {0}) Error) (m : Answer)
    (a b c : Option History) → beside ≢ name →
    Turns (Renames beside name (Err e)) (refused_answer is_refusal (Moving beside name) e) a b →
    Turns (Removes beside r) m b c →
    Puts beside name (refusal_of e) a c
put_refused beside name e r m a b c apart first last =
    record {
      run = runs_then a b c (runs_of (Renames beside name (Err e)) (refused_answer is_refusal (Moving beside name) e) a
          b first)
          (runs_counted b c (runs_of (Removes beside r) m b c last))
          (λ s t x differ. stays_shifts beside name s t x)
          (λ h k u x y differ. let at : Removes beside r h.now u = rw x.0 at y in
          removes_shifts beside name r h.now u apart at)
          (λ h k l x y differ. let at : Removes beside r h.now l.now = rw x.0 at y.1.0 in (
            removes_shifts beside name r h.now l.now apart at,
            refusal_ends beside name (is_refusal (error_kind e)) e h k l
                (removes_others beside r h.now l.now at) x.1 y.0,
          ));
    }

pub put_failed : (beside name : List ℕ) (e : Error) (result : Result Replaced Error) (r : Result (Unit {0}) Error)
    (n m : Answer) (a b c : Option History)
    → beside ≢ name → IsErr result →
    Turns (Renames beside name (Err e)) n a b → Turns (Removes beside r) m b c → Puts beside name result a c
put_failed beside name e result r n m a b c apart err first last =
    record {
      run = runs_then a b c (runs_of (Renames beside name (Err e)) n a b first) (runs_of (Removes beside r) m b c last)
          (λ s t x differ. stays_shifts beside name s t x)
          (λ h k u x y differ. let at : Removes beside r h.now u = rw x.0 at y in
          removes_shifts beside name r h.now u apart at)
          (λ h k l x y differ. let at : Removes beside r h.now l.now = rw x.0 at y.0 in
          (removes_shifts beside name r h.now l.now apart at, put_err beside name result h l err));
    }

pub put_refused_so : (beside name : List ℕ) (e : Error) (result : Result Replaced Error)
    (r : Result (Unit {0}) Error) (m : Answer)
    (a b c : Option History) → beside ≢ name → result ≡ refusal_of e →
    Turns (Renames beside name (Err e)) (refused_answer is_refusal (Moving beside name) e) a b →
    Turns (Removes beside r) m b c → Puts beside name result a c
put_refused_so beside name e result r m a b c apart is first last =
    rw is (put_refused beside name e r m a b c apart first last)
