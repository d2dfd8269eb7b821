-- Runs of calls follow one another.
use Rattle.durable_folder.proofs.Common.{◌≡◌, List, [], ◌∷◌, ◌++◌, Option, None, Some, refl, sym, ap, ◌∙◌, FolderState, newest, History, Turns, Runs, Answer}
use Rattle.std.proofs.Common.{append_assoc}
use Rattle.std.specs.List.{AllByRecursion}
use Rattle.durable_folder.specs.Histories.{KeepsRefusals, IsTold}
use Rattle.durable_folder.proofs.Refusing.{kept_none, kept_then}

-- what holds of each of two lists holds of both
all_of_both : {X : Type 0} (P : X → Type 0) (xs ys : List X) → AllByRecursion P xs → AllByRecursion P ys →
    AllByRecursion P (xs ++ ys)
all_of_both P [] ys hs ks = ks
all_of_both P (x ∷ xs) ys hs ks = (hs.0, all_of_both P xs ys hs.1 ks)

all_weaker : {X : Type 0} (P Q : X → Type 0) (xs : List X) → ((x : X) → P x → Q x) → AllByRecursion P xs →
    AllByRecursion Q xs
all_weaker P Q [] f hs = tt
all_weaker P Q (x ∷ xs) f hs = (f x hs.0, all_weaker P Q xs f hs.1)

-- what a call says of two histories
abbrev pub Turned : (FolderState → FolderState → Type 0) → Answer → History → History → Type 0
Turned step answer h k =
    step h.now k.now × (k.refusals ≡ answer.refusals ++ h.refusals) × (k.unsynced ≡ answer.unsynced ++ h.unsynced)

-- one call is a run
pub runs_of : (step : FolderState → FolderState → Type 0) (n : Answer) (a b : Option History) → Turns step n a b →
    Runs step (Turned step n) a b
runs_of step n None None t = record { run = tt }
runs_of step n None (Some k) t = absurd t
runs_of step n (Some h) None t = absurd t
runs_of step n (Some h) (Some k) t =
    record {
      run = (
        k.now ∷ [],
        ap (λ before. k.now ∷ before) t.1,
        (t.0, tt),
        record { since = n.refusals; are = t.2 },
        (t.0, t.2, t.4),
      );
    }

-- no call is a run
pub runs_none : {P : FolderState → FolderState → Type 0} {E : History → History → Type 0} (a : Option History) →
    ((h : History) → E h h) →
    Runs P E a a
runs_none None e = record { run = tt }
runs_none (Some h) e = record { run = ([], refl, tt, kept_none h, e h) }

-- a run of which less is said
pub runs_weaker : {P Q : FolderState → FolderState → Type 0} {E F : History → History → Type 0} (a b : Option History) →
    Runs P E a b →
    ((s t : FolderState) → P s t → Q s t) → ((h k : History) → E h k → F h k) → Runs Q F a b
runs_weaker None None r p e = record { run = tt }
runs_weaker None (Some k) r p e = absurd r.run
runs_weaker (Some h) None r p e = absurd r.run
runs_weaker {P} {Q} (Some h) (Some k) r p e =
    record {
      run = (
        r.run.0,
        r.run.1,
        all_weaker (P h.now) (Q h.now) r.run.0 (p h.now) r.run.2,
        r.run.3,
        e h k r.run.4,
      );
    }

-- a run after a run
pub runs_then : {P Q R : FolderState → FolderState → Type 0} {E F G : History → History → Type 0}
    (a b c : Option History) →
    Runs P E a b → Runs Q F b c → ((s t : FolderState) → P s t → R s t) →
    ((h k : History) (u : FolderState) → E h k → Q k.now u → R h.now u) →
    ((h k l : History) → E h k → F k l → G h l) → Runs R G a c
runs_then None None None x y p q e = record { run = tt }
runs_then None None (Some l) x y p q e = absurd y.run
runs_then None (Some k) c x y p q e = absurd x.run
runs_then (Some h) None c x y p q e = absurd x.run
runs_then (Some h) (Some k) None x y p q e = absurd y.run
runs_then {P} {Q} {R} (Some h) (Some k) (Some l) x y p q e =
    let more = y.run.0 in
    let first = x.run.0 in
    record {
      run = (
        more ++ first,
        y.run.1 ∙ ap (λ before. more ++ before) x.run.1 ∙ sym (append_assoc more first (h.now ∷ h.before)),
        all_of_both (R h.now) more first
            (all_weaker (Q k.now) (R h.now) more (λ u. q h k u x.run.4) y.run.2)
            (all_weaker (P h.now) (R h.now) first (p h.now) x.run.2),
        kept_then h k l x.run.3 y.run.3,
        e h k l x.run.4 y.run.4,
      );
    }

-- a run in which refusals are counted
pub runs_counted : {P : FolderState → FolderState → Type 0} {E : History → History → Type 0} (a b : Option History) →
    Runs P E a b →
    Runs P (λ h k. KeepsRefusals h k × E h k) a b
runs_counted None None r = record { run = tt }
runs_counted None (Some k) r = absurd r.run
runs_counted (Some h) None r = absurd r.run
runs_counted (Some h) (Some k) r = record { run = (r.run.0, r.run.1, r.run.2, r.run.3, (r.run.3, r.run.4)) }

ended : (P : FolderState → Type 0) (x y : FolderState) (xs ys since : List FolderState) → x ∷ xs ≡ since ++ y ∷ ys →
    AllByRecursion P since → P y →
    P x
ended P x y xs ys [] same all first = let is : x ≡ y = ap (newest x) same in rw is first
ended P x y xs ys (z ∷ since) same all first = let is : x ≡ z = ap (newest x) same in rw is all.0

-- the last state stands in the relation of every state
pub runs_ended : {P : FolderState → FolderState → Type 0} {E : History → History → Type 0} (a b : Option History) →
    ((s : FolderState) → P s s) →
    Runs P E a b →
    Runs P (λ h k. P h.now k.now × E h k) a b
runs_ended None None same r = record { run = tt }
runs_ended None (Some k) same r = absurd r.run
runs_ended (Some h) None same r = absurd r.run
runs_ended {P} (Some h) (Some k) same r =
    record {
      run = (
        r.run.0,
        r.run.1,
        r.run.2,
        r.run.3,
        (
          ended (P h.now) k.now h.now k.before h.before r.run.0 r.run.1 r.run.2 (same h.now),
          r.run.4,
        ),
      );
    }

-- what tells its states told them before
pub told_before : {P : FolderState → FolderState → Type 0} {E : History → History → Type 0} (a b : Option History) →
    Runs P E a b → IsTold b →
    IsTold a
told_before a None r told = absurd told
told_before None (Some k) r told = absurd r.run
told_before (Some h) (Some k) r told = tt
