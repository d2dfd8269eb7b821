-- What was saved in a folder in memory is there after a loss of power.
use Rattle.mem_folder.proofs.Common.{◌≡◌, inl, inr, ℕ, ◌≤◌, List, [], ◌∷◌, None, Some, Ok, Vec, length, take, refl, sym, ap, ◌∙◌, arith, Global, FolderState, MayHold, SomeOf, newest, named, state_of, IsLeft, unsynced_of, Change, MemPlace}
use Rattle.std.proofs.lemmas.List.{take_all}
use Rattle.durable_folder.specs.FolderState.{IsDurable, Leaves, LeavesOf, file_of}
use Rattle.durable_folder.specs.Histories.{IsSaved}
use Rattle.durable_folder.specs.Locking.{IsLoaded, Loads}
use Rattle.durable_folder.specs.Places.{folder_of}
use Rattle.durable_folder.specs.Ways.{Saves}
use Rattle.durable_folder.specs.declared.loading.Loaded.{Loaded}
use Rattle.mem_folder.specs.Changes.{held}
use Rattle.mem_folder.specs.Telling.{history_of}
use Rattle.mem_folder.specs.declared.glance.Glance.{Glance}
use Rattle.mem_folder.specs.declared.note.Note.{Note}

-- of no folder it was said that it cannot be synced
none_noted : (name : List ℕ) (noted : List MemPlace) → noted ≡ [] →
    SomeOf (λ place. place ≡ folder_of name) (unsynced_of noted) → ⊥
none_noted name noted none some = rw none at some

durable_of : (name bytes : List ℕ) (ds : List Change) (befores : List (Vec Change Global)) (notes : List Note)
    (noted : List MemPlace) (seen : List Glance) →
    noted ≡ [] → IsSaved name bytes (history_of ds befores notes noted seen) → IsDurable (state_of ds) name bytes
durable_of name bytes ds befores notes noted seen none saved = elim saved.1 [
  | inl durable ↦ durable
  | inr cannot ↦ absurd (none_noted name noted none cannot)
]

-- a save where there was nothing
pub saved_anew : (name bytes : List ℕ) (cs ds : List Change) (befores befores' : List (Vec Change Global))
    (notes notes' : List Note)
    (noted noted' : List MemPlace) (seen seen' : List Glance) → newest None (named cs name) ≡ None → noted' ≡ [] →
    Saves name bytes (Ok tt) (Some (history_of cs befores notes noted seen))
    (Some (history_of ds befores' notes' noted' seen')) → IsDurable (state_of ds) name bytes
saved_anew name bytes cs ds befores befores' notes notes' noted noted' seen seen' nothing none (inl by_new) =
    durable_of name bytes ds befores' notes' noted' seen' none by_new.run.4
saved_anew name bytes cs ds befores befores' notes notes' noted noted' seen seen' nothing none (inr in_place) =
    durable_of name bytes ds befores' notes' noted' seen' none (in_place.run.4.1.anew nothing)

-- what is left of durable bytes
pub durable_left : (name bytes : List ℕ) (s t : FolderState) → IsDurable s name bytes → IsLeft s t →
    IsDurable t name bytes
durable_left name bytes s t durable is left after = durable left (is.before name left after)

-- a file of one content may be left with that
holds_itself : (bytes : List ℕ) → MayHold (bytes ∷ []) bytes
holds_itself bytes = record {
  blocks = λ k. inl (λ i from to within. refl);
  least = inl (omega arith);
  most = inl (omega arith);
}

same_some : {A : Type 0} (x y : A) → Some x ≡ Some y → x ≡ y
same_some x y e = grind arith

-- once power was lost, the file of a name has the bytes that are left there
left_bytes : (name bytes : List ℕ) (s t : FolderState) (file : ℕ) → IsLeft s t → IsDurable t name bytes →
    file_of t name ≡ Some file →
    newest [] (t.files file) ≡ bytes
left_bytes name bytes s t file is durable there =
    let one = is.names name in
    let content = is.files file in
    let its : one.0 ≡ Some file = sym (ap (newest None) one.1) ∙ there in
    let names : t.names name ≡ Some file ∷ [] = one.1 ∙ ap (λ f. f ∷ []) its in
    let left : LeavesOf t (Some content.0) (Some file) = (content.0, rw content.1 (holds_itself content.0), refl) in
    let leaves : Leaves t name (Some content.0) = rw names (inl left) in
    ap (newest []) content.1 ∙ same_some content.0 bytes (durable (Some content.0) leaves)

-- what is loaded once power was lost
pub loaded_left : (name bytes : List ℕ) (s : FolderState) (cs ds : List Change)
    (befores befores' : List (Vec Change Global)) (notes notes' : List Note)
    (noted noted' : List MemPlace) (seen seen' : List Glance) (most : ℕ) (loaded : Loaded) → length bytes ≤ most →
    IsLeft s (state_of cs) → IsDurable (state_of cs) name bytes →
    Loads name most (Ok loaded) (Some (history_of cs befores notes noted seen))
    (Some (history_of ds befores' notes' noted' seen')) → loaded.bytes.items ≡ bytes
loaded_left name bytes s cs ds befores befores' notes notes' noted noted' seen seen' most loaded fits is durable loads =
    let read : IsLoaded name most loaded (state_of cs) = loads.run.4.1 in
    let file = read.there.0 in
    let there : file_of (state_of cs) name ≡ Some file = read.there.1 in
    let now : newest [] (held cs file) ≡ bytes = left_bytes name bytes s (state_of cs) file is durable there in
    read.bytes file (record { there = there; is_plain = refl }) ∙ ap (take most) now ∙ take_all most bytes fits
