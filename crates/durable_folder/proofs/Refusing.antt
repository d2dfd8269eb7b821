-- What was refused since a history.
use Rattle.durable_folder.proofs.Common.{◌≡◌, inl, inr, Bool, true, false, List, [], ◌∷◌, ◌++◌, refl, sym, ap, ◌∙◌, FolderState, SomeOf, History}
use Rattle.std.proofs.Common.{append_assoc}
use Rattle.durable_folder.specs.Counting.{refused_if}
use Rattle.durable_folder.specs.Histories.{Refusal, KeepsRefusals, RefusedSince}

some_weaker : {X : Type 0} (P Q : X → Type 0) (xs : List X) → ((x : X) → P x → Q x) → SomeOf P xs → SomeOf Q xs
some_weaker P Q [] f none = none
some_weaker P Q (x ∷ xs) f (inl p) = inl (f x p)
some_weaker P Q (x ∷ xs) f (inr rest) = inr (some_weaker P Q xs f rest)

some_first : {X : Type 0} (P : X → Type 0) (xs ys : List X) → SomeOf P xs → SomeOf P (xs ++ ys)
some_first P [] ys none = absurd none
some_first P (x ∷ xs) ys (inl p) = inl p
some_first P (x ∷ xs) ys (inr rest) = inr (some_first P xs ys rest)

some_last : {X : Type 0} (P : X → Type 0) (xs ys : List X) → SomeOf P ys → SomeOf P (xs ++ ys)
some_last P [] ys some = some
some_last P (x ∷ xs) ys some = inr (some_last P xs ys some)

-- what the last of three histories has refused since the first
since_then : (h k l : History) (first last : List Refusal) → k.refusals ≡ first ++ h.refusals →
    l.refusals ≡ last ++ k.refusals →
    l.refusals ≡ (last ++ first) ++ h.refusals
since_then h k l first last x y = y ∙ ap (λ all. last ++ all) x ∙ sym (append_assoc last first h.refusals)

pub kept_none : (h : History) → KeepsRefusals h h
kept_none h = record { since = []; are = refl }

pub kept_then : (h k l : History) → KeepsRefusals h k → KeepsRefusals k l → KeepsRefusals h l
kept_then h k l x y = record { since = y.since ++ x.since; are = since_then h k l x.since y.since x.are y.are }

pub refused_kept : (P : Refusal → Type 0) (h k l : History) → RefusedSince P h k → KeepsRefusals k l →
    RefusedSince P h l
refused_kept P h k l x y = record {
  since = y.since ++ x.since;
  are = since_then h k l x.since y.since x.are y.are;
  some = some_last P y.since x.since x.some;
}

pub kept_refused : (P : Refusal → Type 0) (h k l : History) → KeepsRefusals h k → RefusedSince P k l →
    RefusedSince P h l
kept_refused P h k l x y = record {
  since = y.since ++ x.since;
  are = since_then h k l x.since y.since x.are y.are;
  some = some_first P y.since x.since y.some;
}

pub refused_weaker : (P Q : Refusal → Type 0) (h k : History) → ((r : Refusal) → P r → Q r) → RefusedSince P h k →
    RefusedSince Q h k
refused_weaker P Q h k f x = record { since = x.since; are = x.are; some = some_weaker P Q x.since f x.some }

-- one answer that refuses
pub refused_one : (P : Refusal → Type 0) (r : Refusal) (h k : History) → k.refusals ≡ r ∷ h.refusals → P r →
    RefusedSince P h k
refused_one P r h k is holds = record { since = r ∷ []; are = is; some = inl holds }

-- one that may refuse
pub refused_where : (P : Refusal → Type 0) (t : Bool) (r : Refusal) (h k : History) →
    k.refusals ≡ refused_if t r ++ h.refusals → t ≡ true → P r →
    RefusedSince P h k
refused_where P true r h k are is holds = refused_one P r h k are holds
refused_where P false r h k are is holds = absurd (cc)

-- what was refused, by a state that is another one's
pub refused_at : (P : FolderState → Refusal → Type 0) (s t : FolderState) (h k : History) → t ≡ s →
    RefusedSince (P t) h k → RefusedSince (P s) h k
refused_at P s t h k same x = rw same at x
