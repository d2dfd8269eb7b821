-- What a name and a file had after one change more.
use Rattle.mem_folder.proofs.Common.{◌≡◌, ℕ, ◌+◌, ◌<◌, List, [], ◌∷◌, ◌++◌, Option, None, length, take, refl, ap, ◌∙◌, named_after, named, held_after, Change}
use Rattle.std.proofs.Common.{get_or}
use Rattle.std.proofs.lemmas.List.{take_more}
use Rattle.mem_folder.specs.Changes.{named_from, held_from, held}

-- one change more
pub named_from-append : (name : List ℕ) (had : List (Option ℕ)) (cs : List Change) (c : Change) →
    named_from name had (cs ++ c ∷ []) ≡ named_after name c (named_from name had cs)
named_from-append name had [] c = refl
named_from-append name had (x ∷ cs) c = named_from-append name (named_after name x had) cs c

pub held_from-append : (file : ℕ) (had : List (List ℕ)) (cs : List Change) (c : Change) →
    held_from file had (cs ++ c ∷ []) ≡ held_after file c (held_from file had cs)
held_from-append file had [] c = refl
held_from-append file had (x ∷ cs) c = held_from-append file (held_after file x had) cs c

pub named-more : (cs : List Change) (i : ℕ) (d : Change) (name : List ℕ) → i < length cs →
    named (take (i + 1) cs) name ≡ named_after name (get_or cs i d) (named (take i cs) name)
named-more cs i d name within =
    ap (λ xs. named xs name) (take_more cs i d within) ∙ named_from-append name (None ∷ []) (take i cs) (get_or cs i d)

pub held-more : (cs : List Change) (i : ℕ) (d : Change) (file : ℕ) → i < length cs →
    held (take (i + 1) cs) file ≡ held_after file (get_or cs i d) (held (take i cs) file)
held-more cs i d file within =
    ap (λ xs. held xs file) (take_more cs i d within) ∙ held_from-append file ([] ∷ []) (take i cs) (get_or cs i d)
