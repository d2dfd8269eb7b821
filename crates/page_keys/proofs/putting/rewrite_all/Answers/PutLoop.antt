-- Collecting what a put writes, page by page.
use Rattle.page_keys.proofs.Common.{◌≡◌, ℕ, zero, suc, ◌+◌, ◌<◌, ◌≤◌, Bool, true, false, List, [], ◌∷◌, ◌++◌, length, take, drop, map, flat_map, get_or, Option, Some, None, option_map, refl, sym, ap, subst, ◌∙◌, arith, AllByRecursion, find, take_more, drop-cons, take-length, PageWrite, Config, DeviceState, EncodesMap, entry_bytes, KeyMap, apply, part, pages_of, is_touched, is_over, write_of, IsFull, Change, PutError}
use Rattle.std.specs.FinMap as keys
use Rattle.std.proofs.lemmas.List.{map-append}
use Rattle.tx_types.specs.Batch.{Writes, padded, with_entry}
use Rattle.page_keys.specs.Puts.{full}
use Rattle.page_keys.specs.Putting.{HasNewBytes, IsTooMuch, HasWrites}
use Rattle.page_keys.specs.declared.answers.PutError.TheVariants as refused
use Rattle.page_keys.proofs.OfPut.PutWrites.{all_within}

all_at : {X : Type 0} (P : X → Type 0) (xs : List X) (k : ℕ) (d : X) → AllByRecursion P xs →
    k < length xs → P (get_or xs k d)
all_at P [] k d each within = absurd (omega arith)
all_at P (x ∷ xs) zero d each within = each.0
all_at P (x ∷ xs) (suc k) d each within = all_at P xs k d each.1 (omega arith)

pub page_exists : (logical : ℕ) (cs : List Change) (pages : List ℕ) (k : ℕ) →
    pages ≡ pages_of logical cs → k < length pages → get_or pages k 0 < logical
page_exists logical cs pages k are within =
    all_at (λ p. p < logical) pages k 0
    (subst (AllByRecursion (λ p. p < logical)) (sym are)
    (all_within (is_touched logical cs) 0 logical logical (omega arith))) within

module _ (t : ℕ → Bool) (pages : List ℕ) (i : ℕ) (within : i < length pages) where
  here : drop i pages ≡ get_or pages i 0 ∷ drop (i + 1) pages
  here =
      let later : suc i ≡ i + 1 = omega arith in
      drop-cons pages i 0 within ∙ ap (λ k. get_or pages i 0 ∷ drop k pages) later

  pub find_past : t (get_or pages i 0) ≡ false → find t (drop i pages) ≡ find t (drop (i + 1) pages)
  find_past fails = ap (find t) here ∙ rw fails refl

  pub find_here : t (get_or pages i 0) ≡ true → find t (drop i pages) ≡ Some (get_or pages i 0)
  find_here passes = ap (find t) here ∙ rw passes refl

module _ (its : Config) (m : KeyMap) (cs : List Change) (pages : List ℕ) (i : ℕ)
    (are : pages ≡ pages_of its.logical cs)
    (past : find (is_over its (apply m cs)) pages ≡ find (is_over its (apply m cs)) (drop i pages)) where
  full_by : (o : Option ℕ) → find (is_over its (apply m cs)) (drop i pages) ≡ o →
      full its m cs ≡ option_map (λ page. refused.Bucket page) o
  full_by o is =
      ap (λ (ps : List ℕ). option_map (λ page. refused.Bucket page)
      (find (is_over its (apply m cs)) ps)) (sym are)
      ∙ ap (option_map (λ page. refused.Bucket page)) (past ∙ is)

  pub is_full : i < length pages → (e : PutError) → IsTooMuch its m cs (get_or pages i 0) e →
      IsFull its m cs e
  is_full within (refused.Bucket page) much =
      full_by _ (find_here (is_over its (apply m cs)) pages i within much.1)
      ∙ ap (λ k. Some (refused.Bucket k)) (sym much.0)
  is_full within refused.Fault much = tt
  is_full within refused.Memory much = tt
  is_full within refused.Empty much = much
  is_full within (refused.Repeated k) much = much
  is_full within (refused.Wide k) much = much
  is_full within (refused.Spent k) much = much

  pub all_written : (writes : List PageWrite) → length pages ≤ i → i ≤ length pages →
      writes ≡ map (write_of its (apply m cs)) (take i pages) → HasWrites its m cs writes
  all_written writes most least made =
      let end : i ≡ length pages = omega arith in
      record {
        writes_are = made
            ∙ ap (λ k. map (write_of its (apply m cs)) (take k pages)) end
            ∙ ap (map (write_of its (apply m cs))) (take-length pages ∙ are);
        fits = full_by None (ap (λ k. find (is_over its (apply m cs)) (drop k pages)) end
            ∙ ap (find (is_over its (apply m cs))) (drop_all pages));
      }
    where
      drop_all : (xs : List ℕ) → drop (length xs) xs ≡ []
      drop_all [] = refl
      drop_all (x ∷ xs) = drop_all xs

-- the write of a page more
pub entry_added : (its : Config) (n : KeyMap) (batch : Writes) (pages : List ℕ) (i : ℕ)
    (bytes : List ℕ) → i < length pages → batch.page_bytes ≡ its.page_bytes →
    bytes ≡ flat_map entry_bytes (keys.entries (part its.logical (get_or pages i 0) n)) →
    batch.entries ≡ map (write_of its n) (take i pages) →
    (with_entry batch (get_or pages i 0) bytes).entries
    ≡ map (write_of its n) (take (i + 1) pages)
entry_added its n batch pages i bytes within size are made =
    let p = get_or pages i 0 in
    let w = write_of its n in
    let one : Some (padded batch.page_bytes bytes) ≡ (w p).value =
    ap (λ k. Some (padded k bytes)) size ∙ ap (λ b. Some (padded its.page_bytes b)) are in
    ap (λ (l : List PageWrite). l ++ record { page = p; value = Some (padded batch.page_bytes bytes) } ∷ []) made
    ∙ ap (λ (v : Option (List ℕ)). map w (take i pages) ++ record { page = p; value = v } ∷ []) one
    ∙ sym (ap (map w) (take_more pages i 0 within) ∙ map-append w (take i pages) (p ∷ []))

module _ {F : Type 0} (s t : DeviceState F) (stays : t ≡ record s { flash = t.flash }) (m : KeyMap) where
  pub shows_there : EncodesMap s.config s.machine.pages m → EncodesMap t.config t.machine.pages m
  shows_there h = subst (λ (x : DeviceState F). EncodesMap x.config x.machine.pages m) (sym stays) h

  pub bytes_back : (cs : List Change) (page : ℕ) (bytes : List ℕ) →
      HasNewBytes t.config m cs page bytes → HasNewBytes s.config m cs page bytes
  bytes_back cs page bytes h =
      subst (λ (x : DeviceState F). HasNewBytes x.config m cs page bytes) stays h

  pub much_back : (cs : List Change) (page : ℕ) (e : PutError) →
      IsTooMuch t.config m cs page e → IsTooMuch s.config m cs page e
  much_back cs page e h = subst (λ (x : DeviceState F). IsTooMuch x.config m cs page e) stays h
