-- The files of a desk in memory, as a map from texts keeps them.
use Rattle.std.proofs.Common.{◌≡◌, ℕ, List, [], ◌∷◌, Bool, true, false, cond, Option, Some, map, refl, sym, ap, ◌∙◌, string_bytes, Vec, String}
use Rattle.std.specs.Global.{Global}
use Rattle.std.specs.Option.{option_map}
use Rattle.std.specs.Ordering.{nat_cmp, is_eq}
use Rattle.std.specs.Cmp.{eq_by_cmp_equiv}
use Rattle.std.specs.Cmp.Lexicographic.{slice_cmp, nat_list_cmp_total}
use Rattle.std.specs.Map.{lookup}
use Rattle.std.specs.BTreeMap.{BTreeMap, is_at, get_by_text, Updates}
use Rattle.std.specs.String.{string_cmp}
use Rattle.std.specs.Str.{bytes_eq}
use Rattle.std.specs.FinMap as files
use Rattle.std.proofs.lemmas.Map.Text.{btree_map_updates_text, is_eq-slice_cmp}
use Rattle.desk_io.specs.Desk.{Files, file_at}
use Rattle.desk_io.specs.Kept.{kept_file}

-- names to bytes, with what a `Vec` keeps beside them
abbrev pub Kept : Type 0
Kept = BTreeMap (String Global) (Vec ℕ Global)

abbrev bytes_of : Vec ℕ Global → List ℕ
bytes_of v = v.items

find-kept_file : (name : List ℕ) (es : List (String Global × Vec ℕ Global))
    → files.find (slice_cmp nat_cmp) name (map kept_file es)
    ≡ option_map bytes_of (lookup (is_at (λ k. slice_cmp nat_cmp name (string_bytes k))) es)
find-kept_file name [] = refl
find-kept_file name (e ∷ es) =
    elim (is_eq (slice_cmp nat_cmp name (string_bytes e.0))) as (λ b.
    cond b (Some e.1.items) (files.find (slice_cmp nat_cmp) name (map kept_file es))
    ≡ option_map bytes_of (cond b (Some e.1) (lookup (is_at (λ k. slice_cmp nat_cmp name (string_bytes k))) es))) [
      | true ↦ refl
      | false ↦ find-kept_file name es
    ]

-- a file is what the map has at its name
pub file_at-kept : (m : Kept) (name : List ℕ)
    → file_at (files.from_entries (map kept_file m.entries)) name ≡ option_map bytes_of (get_by_text m name)
file_at-kept m name = files.get-from_entries nat_list_cmp_total (map kept_file m.entries) name
    ∙ find-kept_file name m.entries

option_map-cond : (b : Bool) (v : Vec ℕ Global) (o : Option (Vec ℕ Global))
    → option_map bytes_of (cond b (Some v) o) ≡ cond b (Some v.items) (option_map bytes_of o)
option_map-cond true v o = refl
option_map-cond false v o = refl

-- texts tie in their order where their bytes are equal
ties : (name q : List ℕ) → bytes_eq name q ≡ is_eq (slice_cmp nat_cmp q name)
ties name q = sym (is_eq-slice_cmp name q) ∙ (eq_by_cmp_equiv nat_list_cmp_total).symm name q

-- a new value in the map is a new file
pub insert-kept : (m n : Kept) (key : String Global) (v : Vec ℕ Global) (name : List ℕ) → string_bytes key ≡ name
    → Updates string_cmp m n key (Some v)
    → ◌≡◌ {A = Files} (files.from_entries (map kept_file n.entries))
    (files.insert (files.from_entries (map kept_file m.entries)) name v.items)
insert-kept m n key v name is updates =
    files.same_map nat_list_cmp_total (files.slice_cmp-IsAntisymmetric files.nat_cmp-IsAntisymmetric) _ _ (λ q.
    file_at-kept n q ∙ ap (option_map bytes_of) (btree_map_updates_text (string_bytes key) m n (Some v) updates q)
    ∙ option_map-cond (bytes_eq (string_bytes key) q) v (get_by_text m q)
    ∙ ap (λ b. cond b (Some v.items) (option_map bytes_of (get_by_text m q))) (ap (λ k. bytes_eq k q) is ∙ ties name q)
    ∙ ap (cond (is_eq (slice_cmp nat_cmp q name)) (Some v.items)) (sym (file_at-kept m q))
    ∙ sym (files.get-insert nat_list_cmp_total (files.from_entries (map kept_file m.entries)) name v.items q))
