-- A cache that holds nothing out of date.
use Rattle.cut_replay.proofs.Common.{◌≡◌, ℕ, ◌<◌, Bool, true, false, cond, List, [], ◌∷◌, Option, Some, None, Result, Ok, Err, refl, sym, ap, ◌∙◌, subst, arith, OnOk, Memory, CachedPage, PageCacheState, page_at, DeviceState, IsCachedAs, IsCached}
use Rattle.std.proofs.Common.{eqb-true}
use Rattle.std.specs.Prelude.{All, ◌==◌, find, is_some, OnErr}
use Rattle.std.specs.Option.{option_map_or}
use Rattle.std.proofs.lemmas.Bool.{and_parts}
use Rattle.std.proofs.lemmas.List.Elements.{All-head, All-tail, All-cons, All-take}
use Rattle.judged_records.specs.IndexState.{current_of}
use Rattle.page_cache.specs.PageCacheState.{has_key, cached_page, without_page, promoted, kept}
use Rattle.page_cache.proofs.Pages.{promoted-missing}

-- the entry of a key is an entry, and has the key
found_step : {F : Type 0} (s : DeviceState F) (page version : ℕ) (x e : CachedPage) (es : List CachedPage) (b : Bool) →
    has_key page version x ≡ b →
    All (IsCachedAs s) (x ∷ es) →
    (All (IsCachedAs s) es → find (has_key page version) es ≡ Some e →
    IsCachedAs s e × (has_key page version e ≡ true)) →
    cond b (Some x) (find (has_key page version) es) ≡ Some e → IsCachedAs s e × (has_key page version e ≡ true)
found_step s page version x e es true is h rest found =
    let same : x ≡ e = cc in (
      subst (λ (y : CachedPage). IsCachedAs s y) same (All-head (IsCachedAs s) x es h),
      ap (has_key page version) (sym same) ∙ is,
    )
found_step s page version x e es false is h rest found = rest (All-tail (IsCachedAs s) x es h) found

found_cached : {F : Type 0} (s : DeviceState F) (page version : ℕ) (e : CachedPage) (es : List CachedPage) →
    All (IsCachedAs s) es →
    find (has_key page version) es ≡ Some e →
    IsCachedAs s e × (has_key page version e ≡ true)
found_cached s page version e [] h found = cc
found_cached s page version e (x ∷ es) h found = found_step s page version x e es (has_key page version x) refl h
    (found_cached s page version e es) found

entry_cached : {F : Type 0} (s : DeviceState F) (page version : ℕ) (e : CachedPage) (es : List CachedPage) →
    IsCached s es → cached_page page version es ≡ Some e →
    IsCachedAs s e × (has_key page version e ≡ true)
unfolding cached_page
entry_cached s page version e es h found = found_cached s page version e es h found

-- so its bytes are those of the array, where the version is the current one
pub held_bytes : {F : Type 0} (s : DeviceState F) (page : ℕ) (e : CachedPage) (es : List CachedPage) → IsCached s es →
    cached_page page (current_of s.noted page) es ≡ Some e → page_at s.machine.pages page ≡ Some e.bytes
held_bytes s page e es h found =
    let both = entry_cached s page (current_of s.noted page) e es h found in
    let keys = and_parts (page == e.page) (current_of s.noted page == e.version) both.1 in
    let here : page ≡ e.page = eqb-true page e.page keys.0 in
    let version : current_of s.noted page ≡ e.version = eqb-true (current_of s.noted page) e.version keys.1 in
    ap (page_at s.machine.pages) here ∙ both.0.current (sym version ∙ ap (current_of s.noted) here)

-- what is left without a key is cached still
without_cached : (P : CachedPage → Type 0) (page version : ℕ) (es : List CachedPage) → All P es →
    All P (without_page page version es)
unfolding without_page
without_cached P page version [] h = h
without_cached P page version (e ∷ es) h = elim (has_key page version e) as
    (λ b. All P (cond b es (e ∷ without_page page version es))) [
      | true ↦ All-tail P e es h
      | false ↦ All-cons P e (without_page page version es) (All-head P e es h)
          (without_cached P page version es (All-tail P e es h))
    ]

promoted_from : {F : Type 0} (s : DeviceState F) (page version : ℕ) (es : List CachedPage) (o : Option CachedPage) →
    cached_page page version es ≡ o →
    IsCached s es → IsCached s (option_map_or (λ e. e ∷ without_page page version es) o es)
promoted_from s page version es None is h = h
promoted_from s page version es (Some e) is h = All-cons (IsCachedAs s) e (without_page page version es)
    (entry_cached s page version e es h is).0
    (without_cached (IsCachedAs s) page version es h)

pub promoted_cached : {F : Type 0} (s : DeviceState F) (page version : ℕ) (es : List CachedPage) → IsCached s es →
    IsCached s (promoted page version es)
unfolding promoted
promoted_cached s page version es h = promoted_from s page version es (cached_page page version es) refl h

-- the current bytes of a page may be kept
pub kept_cached : {F : Type 0} (s : DeviceState F) (page : ℕ) (bytes : List ℕ) (es : List CachedPage) →
    page < s.config.logical →
    page_at s.machine.pages page ≡ Some bytes → IsCached s es →
    IsCached s (kept page (current_of s.noted page) bytes es)
unfolding kept
kept_cached s page bytes es exists at h =
    let version = current_of s.noted page in
    let new : CachedPage = record { page = page; version = version; bytes = bytes } in
    let mine : IsCachedAs s new = record { exists = exists; least = omega arith; current = λ is. at } in
    All-take (IsCachedAs s) 16 (new ∷ without_page page version es)
    (All-cons (IsCachedAs s) new (without_page page version es) mine
    (without_cached (IsCachedAs s) page version es h))

-- what a look-up under the current version copies
copied_from : {F : Type 0} (s : DeviceState F) (page : ℕ) (es : List CachedPage) (o : Option CachedPage)
    (before : List ℕ) → IsCached s es →
    cached_page page (current_of s.noted page) es ≡ o →
    is_some o ≡ true → page_at s.machine.pages page ≡ Some (option_map_or (λ e. e.bytes) o before)
copied_from s page es None before h is held = cc
copied_from s page es (Some e) before h is held = held_bytes s page e es h is

pub look_up : {F : Type 0} (s : DeviceState F) (page version : ℕ) (es : List CachedPage) (before after : List ℕ)
    (held : Bool) → IsCached s es →
    version ≡ current_of s.noted page →
    held ≡ is_some (cached_page page version es) → after ≡ option_map_or (λ e. e.bytes) (cached_page page version es)
    before → held ≡ true →
    page_at s.machine.pages page ≡ Some after
look_up s page version es before after held h is found copied there_is =
    let now = current_of s.noted page in
    let at : cached_page page version es ≡ cached_page page now es = ap (λ v. cached_page page v es) is in
    let there : is_some (cached_page page now es) ≡ true = ap is_some (sym at) ∙ sym found ∙ there_is in
    copied_from s page es (cached_page page now es) before h refl there
    ∙ ap (λ o. Some (option_map_or (λ e. e.bytes) o before)) (sym at) ∙ ap (λ (x : List ℕ). Some x) (sym copied)

-- what the cache is after it
pub look_up_cached : {F : Type 0} (s : DeviceState F) (page version : ℕ) (old new : PageCacheState) →
    IsCached s old.entries →
    new ≡ record old { entries = promoted page version old.entries } → IsCached s new.entries
look_up_cached s page version old new h is = subst (λ (c : PageCacheState). IsCached s c.entries) (sym is)
    (promoted_cached s page version old.entries h)

-- and after a page was kept, or was not
pub keep_cached : {F : Type 0} (s : DeviceState F) (page version : ℕ) (bytes : List ℕ) (old new : PageCacheState)
    (result : Result (Unit {0}) Memory) →
    page < s.config.logical →
    page_at s.machine.pages page ≡ Some bytes → IsCached s old.entries → version ≡ current_of s.noted page →
    OnOk result (new ≡ record old { entries = kept page version bytes old.entries }) → OnErr result (new ≡ old) →
    IsCached s new.entries
keep_cached s page version bytes old new (Ok u) exists at h is ok err =
    subst (λ (c : PageCacheState). IsCached s c.entries) (sym ok)
    (subst (λ v. IsCached s (kept page v bytes old.entries)) (sym is)
    (kept_cached s page bytes old.entries exists at h))
keep_cached s page version bytes old new (Err e) exists at h is ok err =
    subst (λ (c : PageCacheState). IsCached s c.entries) (sym err) h

-- a look-up that found nothing leaves the cache
pub missed_stays : (page version : ℕ) (old new : PageCacheState) →
    is_some (cached_page page version old.entries) ≡ false →
    new ≡ record old { entries = promoted page version old.entries } → new ≡ old
missed_stays page version old new none is =
    is ∙ ap (λ (es : List CachedPage). record old { entries = es }) (promoted-missing page version old.entries none)
