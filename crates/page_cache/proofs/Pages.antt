-- What is known of the pages that a cache holds.
use Rattle.std.proofs.Common.{◌≡◌, ℕ, ◌+◌, ◌≤◌, suc, zero, Bool, true, false, ◌&&◌, cond, List, [], ◌∷◌, length, take, Option, Some, None, refl, ap, ◌∙◌, arith}
use Rattle.std.specs.List.{list_all}
use Rattle.std.specs.Option.{is_some, option_map, option_map_or}
use Rattle.std.proofs.lemmas.Bool.Decides.{nat_tests}
use Rattle.std.proofs.lemmas.List.{length-take}
use Rattle.std.proofs.lemmas.Bool.{and_parts}
use Rattle.page_cache.specs.PageCacheState.{CachedPage, has_key, has_page_size, cached_page, without_page, promoted, kept}

turned : (a b c : Bool) → (a && (b && c)) ≡ (b && (a && c))
turned true true c = refl
turned true false c = refl
turned false true c = refl
turned false false c = refl

list_all-take : {A : Type 0} (p : A → Bool) (n : ℕ) (xs : List A) → list_all p xs ≡ true → list_all p (take n xs) ≡ true
list_all-take p zero xs h = refl
list_all-take p (suc n) [] h = refl
list_all-take p (suc n) (x ∷ xs) h = let parts = and_parts (p x) (list_all p xs) h in
    rw (parts.0) (list_all-take p n xs parts.1)

take_most : {A : Type 0} (n : ℕ) (xs : List A) → length (take n xs) ≤ n
take_most n xs = omega (arith, length-take n xs)

module _ (page version : ℕ) where
  -- the entries without one of them are one fewer
  pub length-without : (es : List CachedPage) (e : CachedPage) → cached_page page version es ≡ Some e →
      length (without_page page version es) + 1 ≡ length es
  unfolding cached_page without_page
  length-without [] e h = cc
  length-without (x ∷ es) e h = (elim (has_key page version x) as (λ b. has_key page version x ≡ b →
      length (without_page page version (x ∷ es)) + 1 ≡ length (x ∷ es)) [
        | true ↦ λ t. rw t (omega arith)
        | false ↦ λ t. let rest = length-without es e (rw t at h) in rw t (omega arith)
      ]) refl

  -- a look-up of a page that is not held leaves the entries
  pub promoted-missing : (es : List CachedPage) → is_some (cached_page page version es) ≡ false →
      promoted page version es ≡ es
  unfolding promoted
  promoted-missing es missing = by_entry (cached_page page version es) missing
    where
      by_entry : (o : Option CachedPage) → is_some o ≡ false →
          option_map_or (λ e. e ∷ without_page page version es) o es ≡ es
      by_entry None h = refl
      by_entry (Some e) h = cc

  -- a look-up leaves as many entries
  pub length-promoted : (es : List CachedPage) → length (promoted page version es) ≡ length es
  unfolding promoted
  length-promoted es = by_entry (cached_page page version es) refl
    where
      by_entry : (o : Option CachedPage) → cached_page page version es ≡ o →
          length (option_map_or (λ e. e ∷ without_page page version es) o es) ≡ length es
      by_entry None is = refl
      by_entry (Some e) is = omega (arith, length-without es e is)

  -- at most 16 pages are kept
  pub length-kept : (its_bytes : List ℕ) (es : List CachedPage) → length (kept page version its_bytes es) ≤ 16
  unfolding kept
  length-kept its_bytes es = take_most 16 (record { page = page; version = version; bytes = its_bytes }
      ∷ without_page page version es)

  module _ (p : CachedPage → Bool) where
    list_all-without : (es : List CachedPage) (e : CachedPage) → cached_page page version es ≡ Some e →
        (p e && list_all p (without_page page version es)) ≡ list_all p es
    unfolding cached_page without_page
    list_all-without [] e h = cc
    list_all-without (x ∷ es) e h = (elim (has_key page version x) as (λ b. has_key page version x ≡ b →
        (p e && list_all p (without_page page version (x ∷ es))) ≡ list_all p (x ∷ es)) [
          | true ↦ λ t. let same : Some x ≡ Some e = rw t at h in let it : x ≡ e = cc in rw (t, it) refl
          | false ↦ λ t. let rest = list_all-without es e (rw t at h) in
              rw t (turned (p e) (p x) (list_all p (without_page page version es)) ∙
              ap (λ b. p x && b) rest)
        ]) refl

    -- a look-up keeps each entry
    pub list_all-promoted : (es : List CachedPage) → list_all p (promoted page version es) ≡ list_all p es
    unfolding promoted
    list_all-promoted es = by_entry (cached_page page version es) refl
      where
        by_entry : (o : Option CachedPage) → cached_page page version es ≡ o → list_all p
            (option_map_or (λ e. e ∷ without_page page version es) o es) ≡ list_all p es
        by_entry None is = refl
        by_entry (Some e) is = list_all-without es e is

    all_without : (es : List CachedPage) → list_all p es ≡ true → list_all p (without_page page version es) ≡ true
    unfolding without_page
    all_without [] h = refl
    all_without (x ∷ es) h = let parts = and_parts (p x) (list_all p es) h in elim (has_key page version x) as
        (λ b. list_all p (cond b es (x ∷ without_page page version es)) ≡ true) [
          | true ↦ parts.1
          | false ↦ rw parts.0 (all_without es parts.1)
        ]

    -- what holds of each entry, and of a page that is kept, holds of each then
    pub list_all-kept : (its_bytes : List ℕ) (es : List CachedPage) →
        p (record { page = page; version = version; bytes = its_bytes }) ≡ true →
        list_all p es ≡ true
        → list_all p (kept page version its_bytes es) ≡ true
    unfolding kept
    list_all-kept its_bytes es new h =
        list_all-take p 16 (record { page = page; version = version; bytes = its_bytes } ∷ without_page page version es)
        (rw new (all_without es h))

  -- bytes that are found are those of a whole page, where each entry has them
  pub size_found : (es : List CachedPage) (size : ℕ) (bytes : List ℕ) →
      Some bytes ≡ option_map (λ e. e.bytes) (cached_page page version es)
      → list_all (has_page_size size) es ≡ true → length bytes ≡ size
  unfolding cached_page
  size_found [] size bytes is h = cc
  size_found (x ∷ es) size bytes is h =
      let parts = and_parts (has_page_size size x) (list_all (has_page_size size) es) h in
      (elim (has_key page version x) as (λ b. has_key page version x ≡ b → length bytes ≡ size) [
        | true ↦ λ t. let same : Some bytes ≡ Some x.bytes = rw t at is in let own = parts.0 in grind (arith, nat_tests)
        | false ↦ λ t. size_found es size bytes (rw t at is) parts.1
      ]) refl

  -- a page that was kept is found, with its bytes
  pub cached_page-kept : (its_bytes : List ℕ) (es : List CachedPage)
      → cached_page page version (kept page version its_bytes es)
      ≡ Some (record { page = page; version = version; bytes = its_bytes })
  unfolding kept cached_page
  cached_page-kept its_bytes es = grind (arith, nat_tests)

pub ruleset look_ups = (promoted-missing, length-promoted, list_all-promoted, size_found)

pub ruleset puts = (length-kept, list_all-kept)
