-- A put that breaks off before it writes.
use Rattle.page_keys.proofs.Common.{◌≡◌, ℕ, ◌+◌, ◌<◌, true, false, List, [], ◌∷◌, length, map, drop, get_or, refl, sym, ap, subst, arith, inl, Config, Moment, pages_of, Change}
use Rattle.std.proofs.Common.{All}
use Rattle.std.proofs.lemmas.List.{get_or-map, length-map}
use Rattle.std.proofs.lemmas.List.Elements.{All-drop, All-from_get_or, All-nil}
use Rattle.tx_types.specs.declared.record.Link.{Link}
use Rattle.flash_model.specs.Moves.{IsLone}
use Rattle.record_list.specs.Records.{is_present, mention}
use Rattle.record_list.specs.declared.found.Found.{Found}
use Rattle.judged_records.specs.Images.{records_in}
use Rattle.open_table.specs.OpenTransactionsState.{no_name}
use Rattle.tx_engine.proofs.OfSubmit.Submitted.{above_mention}
use Rattle.page_keys.specs.BucketWrites.{AreAbsent, BreaksBuckets}
use Rattle.page_keys.specs.PutCosts.{CostsPut}

-- the name of a page one version above its mention
abbrev above_of : List Found → ℕ → Link
above_of l page = record { page = page; version = mention l page + 1 }

pages_same : (l : List Found) (ps : List ℕ) → map (λ (name : Link). name.page) (map (above_of l) ps) ≡ ps
pages_same l [] = refl
pages_same l (p ∷ ps) = ap (λ (rest : List ℕ). p ∷ rest) (pages_same l ps)

module _ (l : List Found) (ps : List ℕ) where
  above : (k : ℕ) → k < length (map (above_of l) ps) →
      mention l (get_or (map (above_of l) ps) k no_name).page < (get_or (map (above_of l) ps) k no_name).version
  above k lt =
      let long : length (map (above_of l) ps) ≡ length ps = length-map ps (above_of l) in
      let is = get_or-map (above_of l) ps k 0 no_name (omega (arith, long, lt)) in
      subst (λ (name : Link). mention l name.page < name.version) (sym is) (omega arith)

  all_above : All (λ (name : Link). mention l name.page < name.version) (map (above_of l) ps)
  all_above = All-from_get_or (λ (name : Link). mention l name.page < name.version) (map (above_of l) ps) no_name above

  all_absent : All (λ (name : Link). is_present l name ≡ false) (map (above_of l) ps)
  all_absent = All-from_get_or (λ (name : Link). is_present l name ≡ false) (map (above_of l) ps) no_name
      (λ k lt. above_mention l (get_or (map (above_of l) ps) k no_name) (above k lt))

-- nothing was programmed or erased
pub none_cost : (its : Config) (cs : List Change) (old new : Moment) → new ≡ old → CostsPut its cs old new
none_cost its cs old new same = record {
  programs = (let e = ap (λ (m : Moment). m.programs) same in omega (arith, e));
  erases = (let e = ap (λ (m : Moment). m.erases) same in omega (arith, e));
}

pub none_written : (its : Config) (cs : List Change) (old new : Moment) → new ≡ old → BreaksBuckets its cs old new
none_written its cs old new same =
    let l = records_in its.protocol old.image in
    let ps = pages_of its.logical cs in
    let absent : (k : ℕ) → AreAbsent its old (drop k (map (above_of l) ps)) = λ k.
    All-drop (λ (name : Link). is_present l name ≡ false) k (map (above_of l) ps) (all_absent l ps) in
    record {
      names = map (above_of l) ps;
      pages = pages_same l ps;
      above = all_above l ps;
      first = record {
        written = 0;
        mid = old;
        turns = refl;
        due = absent 0;
        moves = record { done = []; lone = All-nil IsLone; between = old; does = refl; ends = inl same };
        next = λ name here. inl (subst (λ (m : Moment). is_present (records_in its.protocol m.image) name ≡ true) same
            here);
        later = subst (λ (m : Moment). AreAbsent its m (drop 1 (map (above_of l) ps))) (sym same) (absent 1);
      };
    }
