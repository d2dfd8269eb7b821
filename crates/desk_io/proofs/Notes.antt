-- What a change to the note of one name leaves of the others.
use Rattle.std.proofs.Common.{◌≡◌, ◌≢◌, ℕ, Bool, true, false, List, Option, None, refl, String, BTreeMap, string_bytes, string_cmp, sym, ap, ◌∙◌}
use Rattle.std.specs.Prelude.{unwrap_or}
use Rattle.std.specs.Bool.{Decides}
use Rattle.std.specs.Global.{Global}
use Rattle.std.specs.Ordering.{nat_cmp}
use Rattle.std.specs.Cmp.Lexicographic.{slice_cmp}
use Rattle.std.specs.Str.{bytes_eq}
use Rattle.std.specs.BTreeMap.{get_by_text, UpdatesBy}
use Rattle.std.proofs.lemmas.Map.{update_other}
use Rattle.std.proofs.lemmas.Map.Text.{btree_map_updates_text}
use Rattle.std.proofs.lemmas.Slice.Eq.{bytes_eq-Decides}
use Rattle.durable_folder.specs.declared.folder.Found.{Found}

refuted : {P : Type 0} (r : Bool) → Decides r P → ¬ P → r ≡ false
refuted true decides refutes = absurd (refutes (decides.0 refl))
refuted false decides refutes = refl

pub others_stay : (key name : List ℕ) (old new : BTreeMap (String Global) (Option Found))
    (change : Option (Option Found)) → key ≡ name →
    UpdatesBy string_cmp (λ k. slice_cmp nat_cmp key (string_bytes k)) old new change → (other : List ℕ) →
    other ≢ name →
    unwrap_or (get_by_text new other) None ≡ unwrap_or (get_by_text old other) None
others_stay key name old new change is updates other apart =
    let differs = refuted (bytes_eq key other) (bytes_eq-Decides key other) (λ same. apart (sym same ∙ is)) in
    ap (λ found. unwrap_or found None) (btree_map_updates_text key old new change updates other
    ∙ update_other bytes_eq (get_by_text old) key change other differs)
