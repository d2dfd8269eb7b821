-- What a replacement leaves.
use Rattle.durable_folder.proofs.Common.{◌≡◌, ◌≢◌, inl, inr, ℕ, List, [], ◌∷◌, Option, None, Some, refl, sym, ap, ◌∙◌, FolderState, SomeOf, MayHold, LeavesOf, file_of, newest, SparesNames, SparesFiles, History, HasFile, IsSaved, KeepsOrReplaces, IsNew, Prepares, Shifts}
use Rattle.durable_folder.specs.FolderState.{Leaves}
use Rattle.durable_folder.specs.Saving.{IsOther}
use Rattle.durable_folder.proofs.Blocks.{holds_one}

-- one of them, as a value
pub some_entry : {X : Type 0} (P : X → Type 0) (xs : List X) → SomeOf P xs → (x : X) × SomeOf (λ y. y ≡ x) xs × P x
some_entry P [] none = absurd none
some_entry P (x ∷ xs) (inl p) = (x, inl refl, p)
some_entry P (x ∷ xs) (inr rest) = let e = some_entry P xs rest in (e.0, inr e.1, e.2)

pub entry_some : {X : Type 0} (P : X → Type 0) (x : X) (xs : List X) → SomeOf (λ y. y ≡ x) xs → P x → SomeOf P xs
entry_some P x [] none p = absurd none
entry_some P x (y ∷ ys) (inl same) p = inl (rw same p)
entry_some P x (y ∷ ys) (inr rest) p = inr (entry_some P x ys rest p)

newest_some : (f : ℕ) (es : List (Option ℕ)) → newest None es ≡ Some f → SomeOf (λ e. e ≡ Some f) es
newest_some f [] is = absurd (cc)
newest_some f (e ∷ es) is = inl is

-- a file that no name had matters to none
some_spared : (f : ℕ) (s t : FolderState) (left : Option (List ℕ)) → ((g : ℕ) → g ≢ f → t.files g ≡ s.files g) →
    (es : List (Option ℕ)) →
    (SomeOf (λ e. e ≡ Some f) es → ⊥) →
    SomeOf (LeavesOf t left) es → SomeOf (LeavesOf s left) es
some_spared f s t left same [] fresh none = absurd none
some_spared f s t left same (None ∷ es) fresh (inl x) = inl x
some_spared f s t left same (Some g ∷ es) fresh (inl x) =
    let at : MayHold (s.files g) x.0 = rw (same g (λ is. fresh (inl (ap Some is)))) at x.1 in inl (x.0, at, x.2)
some_spared f s t left same (e ∷ es) fresh (inr rest) = inr (some_spared f s t left same es (λ x. fresh (inr x)) rest)

leaves_spared : (name beside : List ℕ) (f : ℕ) (s t : FolderState) → IsNew name beside f s t → (n : List ℕ) →
    n ≢ beside → (left : Option (List ℕ)) →
    Leaves t n left → Leaves s n left
leaves_spared name beside f s t new n apart left x =
    let at : SomeOf (LeavesOf t left) (s.names n) = rw (new.spares.names n apart) at x in
    some_spared f s t left new.spares.files (s.names n) (new.is_fresh n) at

-- a name that has a file is not the new one
pub taken_apart : (name beside : List ℕ) (f : ℕ) (s t : FolderState) → IsNew name beside f s t → (n : List ℕ) →
    IsOther name s n → n ≢ beside
taken_apart name beside f s t new n (inl taken) same = taken (ap (λ m. file_of s m) same ∙ new.is_free)
taken_apart name beside f s t new n (inr away) same = away (rw same new.leftover)

pub prepares_keeps : (name bytes : List ℕ) (s t : FolderState) → Prepares name s t → KeepsOrReplaces name bytes s t
prepares_keeps name bytes s t (inl same) =
    rw same (record { here = λ left x. inl x; others = λ n apart taken left x. x })
prepares_keeps name bytes s t (inr p) = record {
  here = λ left x. inl (leaves_spared name p.0 p.1 s t p.2 name (λ is. p.2.apart (sym is)) left x);
  others = λ n apart taken left x. leaves_spared name p.0 p.1 s t p.2 n
      (taken_apart name p.0 p.1 s t p.2 n taken) left x;
}

pub leaves_of_files : (s t : FolderState) (left : Option (List ℕ)) (e : Option ℕ) → ((f : ℕ) → t.files f ≡ s.files f) →
    LeavesOf t left e →
    LeavesOf s left e
leaves_of_files s t left None same x = x
leaves_of_files s t left (Some f) same x = let at : MayHold (s.files f) x.0 = rw (same f) at x.1 in (x.0, at, x.2)

-- a file that has its bytes durably
pub leaves_bytes : (t : FolderState) (f : ℕ) (bytes : List ℕ) (left : Option (List ℕ)) (e : Option ℕ) → e ≡ Some f →
    t.files f ≡ bytes ∷ [] →
    LeavesOf t left e → left ≡ Some bytes
leaves_bytes t f bytes left None is whole x = absurd (cc)
leaves_bytes t f bytes left (Some g) is whole x =
    let same : g ≡ f = cc in
    let at : MayHold (bytes ∷ []) x.0 = rw (same, whole) at x.1 in
    x.2 ∙ ap Some (holds_one bytes x.0 at)

pub differs : (name beside : List ℕ) (f : ℕ) (s t : FolderState) → IsNew name beside f s t → file_of t beside ≡ Some f →
    file_of t beside ≢ file_of t name
differs name beside f s t new named same =
    new.is_fresh name (newest_some f (s.names name)
    (ap (newest None) (sym (new.spares.names name (λ is. new.apart (sym is)))) ∙ sym same ∙ named))

pub shifts_keeps : (name beside bytes : List ℕ) (f : ℕ) (s t u : FolderState) → IsNew name beside f s t →
    file_of t beside ≡ Some f →
    t.files f ≡ bytes ∷ [] → Shifts beside name t u →
    KeepsOrReplaces name bytes s u
shifts_keeps name beside bytes f s t u new named whole shifts = record {
  here = λ left x.
      let e = some_entry (LeavesOf u left) (u.names name) x in
      elim (shifts.here e.0 e.1) [
        | inl is ↦ inr (leaves_bytes u f bytes left e.0 (is ∙ named) (shifts.files.files f ∙ whole) e.2)
        | inr old ↦ inl (leaves_spared name beside f s t new name (λ is. new.apart (sym is)) left
            (entry_some (LeavesOf t left) e.0 (t.names name) old (leaves_of_files t u left e.0 shifts.files.files e.2)))
      ];
  others = λ n apart taken left x.
      let e = some_entry (LeavesOf u left) (u.names n) x in
      let away = taken_apart name beside f s t new n taken in
      leaves_spared name beside f s t new n away left
      (entry_some (LeavesOf t left) e.0 (t.names n) (shifts.others n away apart e.0 e.1)
      (leaves_of_files t u left e.0 shifts.files.files e.2));
}

-- a name that has a file which was synced with these bytes
pub saved_file : (name bytes : List ℕ) (f : ℕ) (k : History) → HasFile name (Some f) k → k.now.files f ≡ bytes ∷ [] →
    IsSaved name bytes k
saved_file name bytes f k has whole = (
  (f, has.0, whole),
  elim has.1 [
    | inl is ↦ inl (λ left x.
        let at : SomeOf (LeavesOf k.now left) (Some f ∷ []) = rw is at x in
        elim at [ inl y ↦ leaves_bytes k.now f bytes left (Some f) refl whole y | inr none ↦ absurd none ])
    | inr cannot ↦ inr cannot
  ],
)

-- a new file that is put aside is only a new file
pub aside_prepares : (name beside : List ℕ) (f : ℕ) (s t u : FolderState) → IsNew name beside f s t →
    ((n : List ℕ) → n ≢ beside → u.names n ≡ t.names n) → SparesFiles t u → Prepares name s u
aside_prepares name beside f s t u new names files = inr (
  beside,
  f,
  record {
    apart = new.apart;
    leftover = new.leftover;
    is_free = new.is_free;
    is_fresh = new.is_fresh;
    spares = record {
      names = λ n away. names n away ∙ new.spares.names n away;
      files = λ g other. files.files g ∙ new.spares.files g other;
      fixed =
          files.fixed ∙ new.spares.fixed;
    };
  },
)

-- a new file whose bytes change is still that
pub new_filled : (name beside : List ℕ) (f : ℕ) (s t u : FolderState) → IsNew name beside f s t → SparesNames f t u →
    IsNew name beside f s u
new_filled name beside f s t u new same = record {
  apart = new.apart;
  leftover = new.leftover;
  is_free = new.is_free;
  is_fresh = new.is_fresh;
  spares = record {
    names = λ n away. same.names n ∙ new.spares.names n away;
    files = λ g other. same.files g other ∙ new.spares.files g other;
    fixed
        = same.fixed ∙ new.spares.fixed;
  };
}
