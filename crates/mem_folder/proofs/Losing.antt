-- What a loss of power leaves of a folder in memory.
use Rattle.mem_folder.proofs.Common.{inl, inr, ℕ, ◌≤◌, List, [], ◌∷◌, ◌++◌, Option, None, Some, length, ◌∙◌, FolderState, MayHold, SomeOf, alone, named, state_of, IsLeft, Left, Change}
use Rattle.durable_folder.specs.FolderState.{HasBlock, LeavesOf}
use Rattle.mem_folder.specs.Changes.{held}
use Rattle.mem_folder.specs.declared.change.Change.TheVariants as change
use Rattle.mem_folder.proofs.Filled.{held_filled, named_filled, one_alone}
use Rattle.mem_folder.proofs.Numbers.{of_alone}
use Rattle.mem_folder.proofs.Steps.{held-append, named-append}

some_map : {A : Type 0} (P Q : A → Type 0) (xs : List A) → ((x : A) → P x → Q x) → SomeOf P xs → SomeOf Q xs
some_map P Q [] f h = h
some_map P Q (x ∷ xs) f (inl h) = inl (f x h)
some_map P Q (x ∷ xs) f (inr h) = inr (some_map P Q xs f h)

-- what one of the versions holds may be left of all
holds_alone : (which : Left) (vs : List (List ℕ)) (c : List ℕ) → MayHold (alone which vs) c → MayHold vs c
holds_alone which vs c h = record {
  blocks = λ k. of_alone (HasBlock c k) which vs (h.blocks k);
  least = of_alone (λ v. length v ≤ length c) which vs h.least;
  most = of_alone (λ v. length c ≤ length v) which vs h.most;
}

leaves_before : (cs : List Change) (names bytes : Left) (left : Option (List ℕ)) (f : Option ℕ) →
    LeavesOf (state_of (cs ++ change.Lost names bytes ∷ [])) left f → LeavesOf (state_of cs) left f
leaves_before cs names bytes left None h = h
leaves_before cs names bytes left (Some file) h =
    (h.0, holds_alone bytes (held cs file) h.0 (rw (held-append cs (change.Lost names bytes) file) at h.1), h.2)

pub is_left : (cs : List Change) (names bytes : Left) →
    IsLeft (state_of cs) (state_of (cs ++ change.Lost names bytes ∷ []))
is_left cs names bytes =
    let t : FolderState = state_of (cs ++ change.Lost names bytes ∷ []) in
    record {
      names = λ n. let one = one_alone names (named cs n) (named_filled cs n) in
          (one.0, named-append cs (change.Lost names bytes) n ∙ one.1);
      files = λ f. let one = one_alone bytes (held cs f) (held_filled cs f) in
          (one.0, held-append cs (change.Lost names bytes) f ∙ one.1);
      before = λ n left h.
          some_map (LeavesOf t left) (LeavesOf (state_of cs) left) (named cs n) (leaves_before cs names bytes left)
          (of_alone (LeavesOf t left) names (named cs n) (rw (named-append cs (change.Lost names bytes) n) at h));
    }
