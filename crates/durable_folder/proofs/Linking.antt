-- A new file that comes to its name where nothing is.
use Rattle.durable_folder.proofs.Common.{◌≡◌, ◌≢◌, ◌⊎◌, inl, inr, ℕ, Bool, true, false, List, [], ◌∷◌, ◌++◌, Option, None, Some, Result, Ok, Err, refl, sym, ap, ◌∙◌, IsErr, Error, Replaced, FolderState, SomeOf, file_of, newest, IsFree, SparesFiles, target, AtNow, History, Turns, Runs, Answer, HasFile, folder_of, Found, Shifts, ReplacesOrNot, IsLate, cond, is_refusal, error_kind, error_answer, never, refusal_of}
use Rattle.std.proofs.Common.{not}
use Rattle.std.specs.Option.{is_some}
use Rattle.durable_folder.specs.declared.answers.Replaced.TheVariants as replaced
use Rattle.durable_folder.specs.Calls.{Adds, Links, Removes, SyncsNames}
use Rattle.durable_folder.specs.Causes.{HasFailed, HasFault}
use Rattle.durable_folder.specs.Counting.{answer_to, not_linked_answer}
use Rattle.durable_folder.specs.Histories.{Refusal, Linking, IsPlaceOf}
use Rattle.durable_folder.specs.Locking.{WhereFirst}
use Rattle.durable_folder.specs.Saving.{IsOwner, IsPutAnew, IsReason, IsSavedAnew, Puts, PutsAnew, SavesAnew, SyncsNamesOf}
use Rattle.durable_folder.specs.Ways.{Looks}
use Rattle.durable_folder.proofs.Causing.{later_then, then_failed, turn_failed, turn_later}
use Rattle.durable_folder.proofs.Finishing.{put_from}
use Rattle.durable_folder.proofs.Heads.{after_ok_map}
use Rattle.durable_folder.proofs.Passing.{runs_of, runs_weaker, runs_then, runs_counted}
use Rattle.durable_folder.proofs.Putting.{ends_put, files_then, put_err, removes_others, removes_shifts, stays_shifts, synced_file, synced_shifts}
use Rattle.durable_folder.proofs.Refusing.{kept_refused, refused_at, refused_kept, refused_one, refused_weaker}

-- what a second name is for a file that is put there
adds_shifts : (beside name : List ℕ) (s t : FolderState) → Adds beside name s t → Shifts beside name s t
adds_shifts beside name s t m = record {
  here = λ e x. let at : SomeOf (λ f. f ≡ e) (file_of s beside ∷ s.names name) = rw m.arrives at x in elim at
      [ inl is ↦ inl (sym is) | inr rest ↦ inr rest ];
  others = λ n p q e x. let at : SomeOf (λ f. f ≡ e) (s.names n) = rw (m.others n q) at x in at;
  files = m.files;
}

-- the name has the file, and nothing else has but shifted
abbrev Arrives : List ℕ → List ℕ → FolderState → FolderState → Type 0
Arrives beside name s t = (file_of t name ≡ file_of s beside) × Shifts beside name s t

removed_files : (beside : List ℕ) (r : Result (Unit {0}) Error) (s t : FolderState) → Removes beside r s t →
    SparesFiles s t
removed_files beside (Ok done) s t x = x.files
removed_files beside (Err error) s t x = rw x (record { files = λ f. refl; fixed = refl })

then_removed : (beside name : List ℕ) (r : Result (Unit {0}) Error) (s t u : FolderState) → beside ≢ name →
    Adds beside name s t → Removes beside r t u → Arrives beside name s u
then_removed beside name r s t u apart m x =
    let same = removes_others beside r t u x in
    let first = adds_shifts beside name s t m in (
      ap (newest None) (same name (λ is. apart (sym is)) ∙ m.arrives),
      record {
        here = λ e y. first.here e (rw (same name (λ is. apart (sym is))) at y);
        others = λ n p q e y. first.others n p q e (rw (same n p) at y);
        files = files_then s t u m.files (removed_files beside r t u x);
      },
    )

pub linked_removed : (beside name : List ℕ) (r : Result (Unit {0}) Error) (n m : Answer) (a b c : Option History) →
    beside ≢ name → Turns (Links beside name (Ok tt)) n a b → Turns (Removes beside r) m b c →
    Runs (λ s t. Shifts beside name s t) (λ h k. Arrives beside name h.now k.now) a c
linked_removed beside name r n m a b c apart first last =
    runs_then a b c (runs_of (Links beside name (Ok tt)) n a b first) (runs_of (Removes beside r) m b c last)
    (λ s t x. adds_shifts beside name s t x.1)
    (λ h k u x y. (then_removed beside name r h.now k.now u apart x.0.1 y).1)
    (λ h k l x y. then_removed beside name r h.now k.now l.now apart x.0.1 y.0)

pub linked_failed : (beside name : List ℕ) (result : Result Replaced Error) (a b : Option History) → IsErr result →
    Runs (λ s t. Shifts beside name s t) (λ h k. Arrives beside name h.now k.now) a b → Puts beside name result a b
linked_failed beside name result a b err runs = record {
  run = runs_weaker a b runs (λ s t x differ. x) (λ h k x differ. (x.1, put_err beside name result h k err));
}

linked_told : (beside name place : List ℕ) (r : Result (Unit {0}) Error) (result : Result Replaced Error)
    (a b c : Option History) → IsErr result ⊎ ((r ≡ Ok tt) × (result ≡ Ok replaced.Done)) → place ≡ folder_of name →
    Runs (λ s t. Shifts beside name s t) (λ h k. Arrives beside name h.now k.now) a b → SyncsNamesOf place r b c →
    Puts beside name result a c
linked_told beside name place r result a b c why is first last = record {
  run = runs_then a b c first last.run (λ s t x differ. x)
      (λ h k u x y differ. synced_shifts beside name place h.now k.now u x.1 y)
      (λ h k l x y differ. (
        synced_shifts beside name place h.now k.now l.now x.1 y.0,
        ends_put beside name r result h l why
            (after_ok_map r (SyncsNames place k.now l.now ⊎ SomeOf (λ p. p ≡ place) l.unsynced)
            (HasFile name (file_of h.now beside) l)
            (λ synced. rw x.0 at (synced_file name place k.now l is y.0 synced)) y.1),
      ));
}

pub linked_synced : (beside name place : List ℕ) (r : Result (Unit {0}) Error) (result : Result Replaced Error)
    (a b c : Option History) → IsErr result ⊎ ((r ≡ Ok tt) × (result ≡ Ok replaced.Done)) → IsPlaceOf place name a →
    Runs (λ s t. Shifts beside name s t) (λ h k. Arrives beside name h.now k.now) a b → SyncsNamesOf place r b c →
    Puts beside name result a c
linked_synced beside name place r result None None None why is first last = record { run = record { run = tt } }
linked_synced beside name place r result None None (Some l) why is first last = absurd last.run.run
linked_synced beside name place r result None (Some k) c why is first last = absurd first.run
linked_synced beside name place r result (Some h) b c why is first last =
    linked_told beside name place r result (Some h) b c why (is.is tt) first last

-- where something is at the name
pub not_linked : (beside name : List ℕ) (e : Error) (result : Result Replaced Error) (r : Result (Unit {0}) Error)
    (n m : Answer) (a b c : Option History) → beside ≢ name → IsErr result →
    Turns (Links beside name (Err e)) n a b → Turns (Removes beside r) m b c → Puts beside name result a c
not_linked beside name e result r n m a b c apart err first last = record {
  run = runs_then a b c (runs_of (Links beside name (Err e)) n a b first) (runs_of (Removes beside r) m b c last)
      (λ s t x differ. stays_shifts beside name s t x)
      (λ h k u x y differ. let at : Removes beside r h.now u = rw x.0 at y in
      removes_shifts beside name r h.now u apart at)
      (λ h k l x y differ. let at : Removes beside r h.now l.now = rw x.0 at y.0 in
      (removes_shifts beside name r h.now l.now apart at, put_err beside name result h l err));
}

-- where there are no second names
pub put_after : (beside name : List ℕ) (e : Error) (result : Result Replaced Error) (n : Answer)
    (a b c : Option History) → Turns (Links beside name (Err e)) n a b → Puts beside name result b c →
    Puts beside name result a c
put_after beside name e result n a b c turn puts = record {
  run = runs_then a b c (runs_counted a b (runs_of (Links beside name (Err e)) n a b turn)) puts.run
      (λ s t x differ. stays_shifts beside name s t x)
      (λ h k u x y differ.
      let at : file_of h.now beside ≢ file_of h.now name → Shifts beside name h.now u = rw x.1.0 at y in at differ)
      (λ h k l x y differ.
      let there : file_of k.now beside ≢ file_of k.now name = rw x.1.0 differ in
      let both = y there in
      let shifts : Shifts beside name h.now l.now = rw x.1.0 at both.0 in
      (shifts, put_from beside name result h k l x.0 x.1.0 both.1));
}

pub place_after : (beside name place : List ℕ) (r : Result (Unit {0}) Error) (n : Answer) (a b : Option History) →
    IsPlaceOf place name a → Turns (Links beside name r) n a b → IsPlaceOf place name b
place_after beside name place r n a None is turn = record { is = λ told. absurd told }
place_after beside name place r n None (Some k) is turn = absurd turn
place_after beside name place r n (Some h) (Some k) is turn = record { is = λ told. is.is tt }

-- ---- why it fails

pub fault_after : {T : Type 0} (S : FolderState → FolderState → Type 0) (n : Answer) (result : Result T Error)
    (a b c : Option History) → Turns S n a b → HasFault result b c → HasFault result a c
fault_after S n result a b c turn fault =
    let later = turn_later S n a b turn in
    (later_then a b c later fault.0, λ err. then_failed a b c later (fault.1 err))

pub late_failed : (S : FolderState → FolderState → Type 0) (r late : Result (Unit {0}) Error) (a b : Option History) →
    IsLate r late → IsErr late → Turns S (answer_to r) a b → HasFailed a b
late_failed S (Ok done) (Ok answer) a b is err turn = absurd (cc)
late_failed S (Ok done) (Err e) a b is err turn = absurd is
late_failed S (Err e) late a b is err turn = turn_failed S (error_answer never e) a b turn refl

pub not_done : (e : Error) → refusal_of e ≡ Ok replaced.Done → ⊥
not_done e is = by_answer (is_refusal (error_kind e)) is
  where
    by_answer : (t : Bool) → cond t (Ok replaced.Refused) (Err e) ≡ Ok replaced.Done → ⊥
    by_answer true is = absurd (cc)
    by_answer false is = absurd (cc)

-- ---- that nothing was replaced

-- one call that says so
pub anew_told : (S : FolderState → FolderState → Type 0) (name : List ℕ) (r : Refusal) (n : Answer)
    (a b : Option History) → n.refusals ≡ r ∷ [] → IsPutAnew name r → Turns S n a b → PutsAnew name a b
anew_told S name r n None b is holds turn = tt
anew_told S name r n (Some h) None is holds turn = tt
anew_told S name r n (Some h) (Some k) is holds turn =
    refused_one (IsPutAnew name) r h k (turn.2 ∙ ap (λ i. i ++ h.refusals) is) holds

-- calls after it
pub anew_then : {Q : FolderState → FolderState → Type 0} {E : History → History → Type 0} (name : List ℕ)
    (a b c : Option History) → PutsAnew name a b → Runs Q E b c → PutsAnew name a c
anew_then name None b c anew runs = tt
anew_then name (Some h) b None anew runs = tt
anew_then name (Some h) None (Some l) anew runs = absurd runs.run
anew_then name (Some h) (Some k) (Some l) anew runs = refused_kept (IsPutAnew name) h k l anew runs.run.3

pub when_none : {T : Type 0} (o : Option T) (r : Bool) → is_some o ≡ not r → o ≡ None → r ≡ true
when_none None true is none = refl
when_none None false is none = absurd (cc)
when_none (Some x) r is none = absurd (cc)

-- calls before it
pub anew_after : {Q : FolderState → FolderState → Type 0} {E : History → History → Type 0} (name : List ℕ)
    (a b c : Option History) → Runs Q E a b → PutsAnew name b c → PutsAnew name a c
anew_after name None b c runs anew = tt
anew_after name (Some h) b None runs anew = tt
anew_after name (Some h) None (Some l) runs anew = absurd runs.run
anew_after name (Some h) (Some k) (Some l) runs anew = kept_refused (IsPutAnew name) h k l runs.run.3 anew

pub no_names : (t : Bool) (name : List ℕ) → t ≡ true → (not_linked_answer t name).refusals ≡ Linking name ∷ []
no_names true name is = refl
no_names false name is = absurd (cc)

pub has_names : (t : Bool) (name : List ℕ) → t ≡ false → (not_linked_answer t name).failures ≡ 1
has_names true name is = absurd (cc)
has_names false name is = refl

-- a save of a new file
pub saved_so : (name : List ℕ) (a b : Option History) → PutsAnew name a b → SavesAnew name a b
saved_so name None b anew = tt
saved_so name (Some h) None anew = tt
saved_so name (Some h) (Some k) anew = refused_weaker (IsPutAnew name) (IsSavedAnew name h.now) h k (λ r x. inl x) anew

-- a new file that did not come to the name
pub saved_refused : {Q R : FolderState → FolderState → Type 0} {E F : History → History → Type 0}
    (name bytes : List ℕ) (r : Result Replaced Error) (answer : Replaced) (a b c d : Option History) → r ≡ Ok answer →
    answer ≡ replaced.Refused → ReplacesOrNot name None bytes r a b → Runs Q E b c → Runs R F c d → SavesAnew name a d
saved_refused name bytes r answer None b c d is refused replaces second third = tt
saved_refused name bytes r answer (Some h) b c None is refused replaces second third = tt
saved_refused name bytes r answer (Some h) None c (Some m) is refused replaces second third = absurd replaces.run
saved_refused name bytes r answer (Some h) (Some k) None (Some m) is refused replaces second third = absurd second.run
saved_refused name bytes r answer (Some h) (Some k) (Some l) (Some m) is refused replaces second third =
    let at : ReplacesOrNot name None bytes (Ok replaced.Refused) (Some h) (Some k) = rw (is, refused) at replaces in
    let P = IsSavedAnew name h.now in
    elim at.run.4.1 [
      | inl mounted ↦ absurd mounted
      | inr why ↦
          refused_kept P h l m
          (refused_kept P h k l (refused_weaker (IsReason name (IsOwner None) h.now) P h k (λ q x. inr x) why)
          second.run.3) third.run.3
    ]

-- a save at a name at which this was found
pub looked_anew : (name : List ℕ) (found : Option Found) (looked : Result (Option Found) Error) (a b c : Option History) →
    looked ≡ Ok found → Looks name looked a b → (found ≡ None → SavesAnew name b c) →
    WhereFirst (λ s. IsFree s name) (SavesAnew name a c) a
looked_anew name found looked None b c is looks anew = tt
looked_anew name (Some it) looked (Some h) None c is looks anew = absurd looks.run
looked_anew name (Some it) looked (Some h) (Some k) c is looks anew = λ free.
    let at : Looks name (Ok (Some it)) (Some h) (Some k) = rw is at looks in
    let both : None ≡ Some at.run.4.1.0 = sym free.nothing ∙ at.run.4.1.1.there in absurd (cc)
looked_anew name None looked (Some h) b None is looks anew = λ free. tt
looked_anew name None looked (Some h) None (Some l) is looks anew = absurd looks.run
looked_anew name None looked (Some h) (Some k) (Some l) is looks anew = λ free.
    kept_refused (IsSavedAnew name h.now) h k l looks.run.3
    (refused_at (IsSavedAnew name) h.now k.now k l looks.run.4.0 (anew refl))

-- a link
pub link_not_free : (name : List ℕ) (Q : Type 0) (a : Option History) → AtNow (λ s. target s name ≢ name) a →
    WhereFirst (λ s. IsFree s name) Q a
link_not_free name Q None link = tt
link_not_free name Q (Some h) link = λ free. absurd (link free.no_link)

-- after what changes nothing
pub first_anew : {E : History → History → Type 0} (name : List ℕ) (a b c : Option History) →
    Runs (λ s t. t ≡ s) (λ h k. (k.now ≡ h.now) × E h k) a b →
    WhereFirst (λ s. IsFree s name) (SavesAnew name b c) b → WhereFirst (λ s. IsFree s name) (SavesAnew name a c) a
first_anew name None b c rests anew = tt
first_anew name (Some h) b None rests anew = λ free. tt
first_anew name (Some h) None (Some l) rests anew = absurd rests.run
first_anew name (Some h) (Some k) (Some l) rests anew = λ free.
    kept_refused (IsSavedAnew name h.now) h k l rests.run.3
    (refused_at (IsSavedAnew name) h.now k.now k l rests.run.4.0 (anew (rw rests.run.4.0 free)))
