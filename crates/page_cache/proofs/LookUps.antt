-- What a map in the order of use does, as the pages that it holds.
use Rattle.std.proofs.Common.{◌≡◌, ℕ, ◌+◌, ◌≤◌, Bool, true, false, cond, List, [], ◌∷◌, length, take, Option, Some, None, refl, sym, ap, arith}
use Rattle.std.specs.Prelude.{◌&&◌, ◌==◌, map, Vec}
use Rattle.std.specs.Option.{is_some, option_map, option_map_or}
use Rattle.std.specs.Map.{lookup, lookup_entry, remove_entry}
use Rattle.std.specs.declared.alloc.Global.{Global}
use Rattle.std.proofs.lemmas.Bool.Decides.{nat_tests}
use Rattle.std.proofs.lemmas.List.{take_all, take-map, length-map}
use Rattle.lru.specs.LruCache as lru
use Rattle.page_cache.specs.declared.entries.Key.{Key}
use Rattle.page_cache.specs.PageCacheState.{cached_page, without_page, promoted, kept}
use Rattle.page_cache.specs.Entries.{page_in, pages_in}
use Rattle.page_cache.proofs.Pages.{length-without}

-- two keys are equal
abbrev pub same_key : Key → Key → Bool
same_key a b = (a.page == b.page) && (a.version == b.version)

abbrev Entry : Type 0
Entry = Key × Vec ℕ Global

module _ (page version : ℕ) where
  abbrev key : Key
  key = record { page = page; version = version }

  -- the key of a page at a version
  abbrev is_key : Key → Bool
  is_key = same_key key

  cached_page-map : (es : List Entry) → cached_page page version (map page_in es)
      ≡ option_map page_in (lookup_entry is_key es)
  unfolding cached_page
  cached_page-map [] = refl
  cached_page-map (e ∷ es) =
      elim (is_key e.0) as (λ b. cond b (Some (page_in e)) (cached_page page version (map page_in es))
      ≡ option_map page_in
      (cond b (Some e) (lookup_entry is_key es)))
      [ true ↦ refl | false ↦ cached_page-map es ]

  value_of-map : (es : List Entry) → option_map (λ e. e.bytes) (cached_page page version (map page_in es))
      ≡ option_map (λ v. v.items) (lookup is_key es)
  unfolding cached_page
  value_of-map [] = refl
  value_of-map (e ∷ es) =
      elim (is_key e.0) as (λ b. option_map (λ e. e.bytes)
      (cond b (Some (page_in e)) (cached_page page version (map page_in es))) ≡ option_map (λ v. v.items)
      (cond b (Some e.1) (lookup is_key es)))
      [ true ↦ refl | false ↦ value_of-map es ]

  is_some-map : (es : List Entry) → is_some (cached_page page version (map page_in es)) ≡ is_some (lookup is_key es)
  unfolding cached_page
  is_some-map [] = refl
  is_some-map (e ∷ es) =
      elim (is_key e.0) as (λ b. is_some (cond b (Some (page_in e)) (cached_page page version (map page_in es)))
      ≡ is_some
      (cond b (Some e.1) (lookup is_key es)))
      [ true ↦ refl | false ↦ is_some-map es ]

  without-map : (es : List Entry) → without_page page version (map page_in es) ≡ map page_in (remove_entry is_key es)
  unfolding without_page
  without-map [] = refl
  without-map (e ∷ es) =
      elim (is_key e.0) as (λ b. cond b (map page_in es) (page_in e ∷ without_page page version (map page_in es))
      ≡ map page_in
      (cond b es (e ∷ remove_entry is_key es)))
      [ true ↦ refl | false ↦ ap (λ l. page_in e ∷ l) (without-map es) ]

  promoted_as : (es : List Entry) (o : Option Entry)
      → option_map_or (λ p. p ∷ without_page page version (map page_in es)) (option_map page_in o) (map page_in es)
      ≡ map page_in (option_map_or (λ e. e ∷ remove_entry is_key es) o es)
  promoted_as es None = refl
  promoted_as es (Some e) = ap (λ l. page_in e ∷ l) (without-map es)

  -- an entry that a look-up finds has the key
  found_key : (es : List Entry) (e : Entry) → lookup_entry is_key es ≡ Some e → (page ≡ e.0.page)
      × (version ≡ e.0.version)
  found_key [] e h = cc
  found_key (x ∷ es) e h = (elim (is_key x.0) as (λ b. is_key x.0 ≡ b → (page ≡ e.0.page) × (version ≡ e.0.version)) [
    | true ↦ λ t. let same : Some x ≡ Some e = rw t at h in let it : x ≡ e = cc in
        (grind (arith, nat_tests), grind (arith, nat_tests))
    | false ↦ λ t. found_key es e (rw t at h)
  ]) refl

  -- where a look-up finds nothing, there is nothing to take out
  nothing_out : (es : List Entry) → lookup_entry is_key es ≡ None → remove_entry is_key es ≡ es
  nothing_out [] h = refl
  nothing_out (x ∷ es) h = (elim (is_key x.0) as (λ b. is_key x.0 ≡ b → remove_entry is_key (x ∷ es) ≡ x ∷ es) [
    | true ↦ λ t. let no = rw t at h in cc
    | false ↦ λ t. rw t (ap (λ l. x ∷ l) (nothing_out es (rw t at h)))
  ]) refl

  -- what a map of n + 1 entries has after a value was put
  put_as : (n : ℕ) (es : List Entry) (value : Vec ℕ Global) (o : Option Entry) → length es ≤ n + 1 →
      lookup_entry is_key es ≡ o
      → map page_in (option_map_or (λ e. (e.0, value) ∷ remove_entry is_key es) o ((key, value) ∷ take n es))
      ≡ page_in (key, value) ∷ take n (without_page page version (map page_in es))
  put_as n es value None most h =
      rw (without-map es, nothing_out es h) (ap (λ l. page_in (key, value) ∷ l) (sym (take-map page_in n es)))
  put_as n es value (Some e) most h =
      let same = found_key es e h in
      let there : cached_page page version (map page_in es) ≡ Some (page_in e) = rw (cached_page-map es, h) refl in
      let fewer = length-without page version (map page_in es) (page_in e) there in
      let fits : length (without_page page version (map page_in es)) ≤ n =
      omega (arith, fewer, length-map es page_in) in
      let it : page_in (e.0, value) ≡ page_in (key, value) = rw (same.0, same.1) refl in
      rw (take_all n (without_page page version (map page_in es)) fits, without-map es)
      (ap (λ p. p ∷ map page_in (remove_entry is_key es)) it)

  module _ (c : lru.LruCache Key (Vec ℕ Global)) where
    -- an entry is there where a look-up finds a value
    pub is_some-pages_in : is_some (cached_page page version (pages_in c)) ≡ is_some (lookup is_key c.entries)
    unfolding pages_in
    is_some-pages_in = is_some-map c.entries

    -- and has the bytes of the value
    pub bytes-pages_in : option_map (λ e. e.bytes) (cached_page page version (pages_in c))
        ≡ option_map (λ v. v.items) (lookup is_key c.entries)
    unfolding pages_in
    bytes-pages_in = value_of-map c.entries

    -- a look-up brings the entry to the front
    pub promoted-pages_in : promoted page version (pages_in c)
        ≡ pages_in (lru.lru_cache (lru.promoted is_key c.entries) c.cap)
    unfolding pages_in promoted
    promoted-pages_in = rw (cached_page-map c.entries) (promoted_as c.entries (lookup_entry is_key c.entries))

    -- a value that is put in a map of 16 entries is a page that is kept
    pub kept-pages_in : (value : Vec ℕ Global) → c.cap ≡ 16 → length (pages_in c) ≤ 16
        → kept page version value.items (pages_in c)
        ≡ pages_in (lru.lru_cache (lru.put_entries same_key c key value) c.cap)
    unfolding pages_in kept
    kept-pages_in value full most =
        rw full (sym (put_as 15 c.entries value (lookup_entry is_key c.entries)
        (omega (arith, most, length-map c.entries page_in)) refl))

pub ruleset entries = (is_some-pages_in, bytes-pages_in, promoted-pages_in, kept-pages_in)
