-- How often a read command reads the flash, and what it leaves in the cache.
use Rattle.cut_replay.proofs.Common.{◌≡◌, ℕ, ◌<◌, ◌⊎◌, Bool, true, false, cond, List, Option, Some, None, Result, Ok, Err, refl, sym, ap, ◌∙◌, subst, inl, inr, MatchBool, Memory, FlashState, CachedPage, PageCacheState, page_at, DeviceState}
use Rattle.std.specs.Prelude.{◌&&◌, not, nat_lt, is_some, IsSome}
use Rattle.std.proofs.lemmas.Bool.{lt-ltb, le-ltb}
use Rattle.std.proofs.Math.Bool.{and-true, and-false}
use Rattle.flash_model.specs.Flash.{counted}
use Rattle.array_machine.specs.ArrayState.{Pages}
use Rattle.tx_engine.specs.Read.{ReadsFlash, read_place}
use Rattle.array_machine.specs.Read.{ReadsPage}
use Rattle.array_machine.specs.declared.answers.ReadAnswer.{ReadAnswer}
use Rattle.array_machine.specs.declared.answers.ReadAnswer.TheVariants as answer
use Rattle.array_machine.specs.declared.answers.ReadError.{ReadError}
use Rattle.array_machine.specs.declared.answers.ReadError.TheVariants as unread
use Rattle.cut_replay.specs.Mounted.{is_cached, ReadsThrough, ReadsPageOnce, CachesRead, CachesPage, KeepsPage, brought_forward, with_page}

-- one read more where it is counted
abbrev CountsOne : Bool → FlashState → FlashState → Type 0
CountsOne b old new = old.live ≡ true → new.reads ≡ cond b (counted old.reads) old.reads

unread_counts : (b : Bool) (old new : FlashState) → b ≡ false → new ≡ old → CountsOne b old new
unread_counts b old new is same = λ live. rw is (ap (λ (s : FlashState). s.reads) same)

read_counts : (b : Bool) (old new : FlashState) → b ≡ true → new.reads ≡ cond old.live (counted old.reads) old.reads →
    CountsOne b old new
read_counts b old new taken is = λ live. rw taken (is ∙ ap (λ (l : Bool). cond l (counted old.reads) old.reads) live)

-- whether a page is written
abbrev is_written : ℕ → Pages → ℕ → Bool
is_written logical pages page = nat_lt page logical && is_some (page_at pages page)

blank_page : (logical : ℕ) (pages : Pages) (page : ℕ) → page_at pages page ≡ None →
    is_written logical pages page ≡ false
blank_page logical pages page none = rw none (and-false (nat_lt page logical))

written_page : (logical : ℕ) (pages : Pages) (page : ℕ) → page < logical → IsSome (page_at pages page) →
    is_written logical pages page ≡ true
written_page logical pages page lt some = rw (lt-ltb page logical lt) some

-- a read of the device
device_counts : {F : Type 0} (state : F → FlashState) (place : Option ℕ) (old new : F) (logical : ℕ) (pages : Pages)
    (page : ℕ) (before after : List ℕ)
    (result : Result ReadAnswer ReadError) →
    ReadsPage logical pages page after result → ReadsFlash state place old new before after result →
    CountsOne (is_written logical pages page) (state old) (state new)
device_counts state place old new logical pages page before after (Ok answer.Blank) reads flash =
    unread_counts (is_written logical pages page) (state old) (state new) (blank_page logical pages page reads.1)
    (ap state flash.0)
device_counts state place old new logical pages page before after (Ok answer.Page) reads flash =
    let some : IsSome (page_at pages page) = subst (λ (o : Option (List ℕ)). IsSome o) (sym reads.1) refl in
    read_counts (is_written logical pages page) (state old) (state new)
    (written_page logical pages page reads.0 some) flash.4.reads
device_counts state place old new logical pages page before after (Err unread.Range) reads flash =
    unread_counts (is_written logical pages page) (state old) (state new) (rw (le-ltb page logical reads) refl)
    (ap state flash.0)
device_counts state place old new logical pages page before after (Err unread.Fault) reads flash =
    read_counts (is_written logical pages page) (state old) (state new)
    (written_page logical pages page reads.0 reads.1) flash.4.reads

-- and one through the cache
through_counts : {F : Type 0} (state : F → FlashState) (old new : DeviceState F) (page : ℕ) (before after : List ℕ)
    (result : Result ReadAnswer ReadError)
    (held : Bool) →
    ReadsPage old.config.logical old.machine.pages page after result → MatchBool held ((new ≡ old) ×
    (result ≡ Ok answer.Page)) (ReadsFlash state (read_place old.noted old.unsure page) old.flash new.flash before
    after result) →
    CountsOne (is_written old.config.logical old.machine.pages page && not held) (state old.flash) (state new.flash)
through_counts {F = F} state old new page before after result true reads same =
    unread_counts _ (state old.flash) (state new.flash)
    (and-false (is_written old.config.logical old.machine.pages page))
    (ap (λ (s : DeviceState F). state s.flash) same.0)
through_counts state old new page before after result false reads flash =
    subst (λ (b : Bool). CountsOne b (state old.flash) (state new.flash))
    (sym (and-true (is_written old.config.logical old.machine.pages page)))
    (device_counts state (read_place old.noted old.unsure page) old.flash new.flash old.config.logical old.machine.pages
    page before after result reads flash)

pub reads_once : {F : Type 0} (state : F → FlashState) (old new : DeviceState F) (entries : List CachedPage) (page : ℕ)
    (before after : List ℕ)
    (result : Result ReadAnswer ReadError) →
    ReadsPage old.config.logical old.machine.pages page after result →
    ReadsThrough state old new entries page before after result →
    ReadsPageOnce state old new entries page
reads_once state old new entries page before after result reads through =
    through_counts state old new page before after result
    (is_cached old entries page) reads through

-- What is left in the cache
abbrev Leaves : {F : Type 0} → DeviceState F → PageCacheState → PageCacheState → ℕ → Bool → Type 0
Leaves s before after page held =
    MatchBool held (after ≡ brought_forward s page before)
    (((bytes : List ℕ) × (page_at s.machine.pages page ≡ Some bytes) × (after ≡ with_page s page bytes before))
    ⊎ (after ≡ before))

left_in : {F : Type 0} (s : DeviceState F) (before after : PageCacheState) (page : ℕ) (bytes : List ℕ)
    (memory : Result (Unit {0}) Memory) (held : Bool) →
    page_at s.machine.pages page ≡ Some bytes →
    MatchBool held (after ≡ brought_forward s page before) (KeepsPage s before after page bytes memory) →
    Leaves s before after page held
left_in s before after page bytes memory true at h = h
left_in s before after page bytes (Ok u) false at h = inl (bytes, at, h)
left_in s before after page bytes (Err e) false at h = inr h

-- where nothing was read that may be kept
left_alone : {F : Type 0} (s : DeviceState F) (before after : PageCacheState) (page : ℕ) (held : Bool) → held ≡ false →
    after ≡ before →
    Leaves s before after page held
left_alone s before after page true unheld same = cc
left_alone s before after page false unheld same = inr same

not_held : {F : Type 0} (state : F → FlashState) (old new : DeviceState F) (page : ℕ) (before after : List ℕ)
    (result : Result ReadAnswer ReadError)
    (held : Bool) →
    MatchBool held ((new ≡ old) × (result ≡ Ok answer.Page))
    (ReadsFlash state (read_place old.noted old.unsure page) old.flash new.flash before after result) →
    (result ≡ Ok answer.Page → ⊥) → held ≡ false
not_held state old new page before after result true through other = absurd (other through.1)
not_held state old new page before after result false through other = refl

pub page_left : {F : Type 0} (state : F → FlashState) (old new : DeviceState F) (cache left : PageCacheState) (page : ℕ)
    (before after : List ℕ)
    (result : Result ReadAnswer ReadError) (memory : Result (Unit {0}) Memory) →
    ReadsPage old.config.logical old.machine.pages page after result →
    ReadsThrough state old new cache.entries page before after result →
    CachesRead old cache left page after result memory →
    CachesPage old cache left page
page_left state old new cache left page before after (Ok answer.Page) memory reads through keeps =
    left_in old cache left page after memory (is_cached old cache.entries page) reads.1 keeps
page_left state old new cache left page before after (Ok answer.Blank) memory reads through keeps =
    left_alone old cache left page _ (not_held state old new page before after (Ok answer.Blank) _ through (λ is. cc))
    keeps
page_left state old new cache left page before after (Err e) memory reads through keeps =
    left_alone old cache left page _ (not_held state old new page before after (Err e) _ through (λ is. cc)) keeps

size_in : {F : Type 0} (s : DeviceState F) (cache left : PageCacheState) (page : ℕ) (held : Bool) →
    Leaves s cache left page held → left.page_bytes ≡ cache.page_bytes
size_in s cache left page true h = ap (λ (c : PageCacheState). c.page_bytes) h
size_in s cache left page false (inl h) = ap (λ (c : PageCacheState). c.page_bytes) h.2
size_in s cache left page false (inr h) = ap (λ (c : PageCacheState). c.page_bytes) h

pub size_left : {F : Type 0} (s : DeviceState F) (cache left : PageCacheState) (page : ℕ) →
    CachesPage s cache left page → left.page_bytes ≡ cache.page_bytes
size_left s cache left page h = size_in s cache left page (is_cached s cache.entries page) h
