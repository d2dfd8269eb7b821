-- The refusals of a batch: the later ones where the earlier ones are none.
use Rattle.open_table.proofs.Common.{◌≡◌, ℕ, ◌<◌, Bool, true, false, cond, Option, Some, None, List, [], ◌∷◌, All, refl, ◌∙◌, list_any, All-cons, All-nil, PageWrite, Entry, has_tag, or_else}
use Rattle.std.proofs.Common.{if◌then◌else◌, nat_lt, ltb-true}
use Rattle.array_machine.specs.Submit.{first_refusals, empty, tag_used, full, free_of, range, repeated, overlap}
use Rattle.array_machine.specs.declared.answers.SubmitError.{SubmitError}
use Rattle.array_machine.specs.declared.answers.SubmitError.TheVariants as refused

then_rest : (a b c rest : Option SubmitError) → or_else a (or_else b c) ≡ None →
    or_else a (or_else b (or_else c rest)) ≡ rest
then_rest (Some x) b c rest is = cc
then_rest None (Some x) c rest is = cc
then_rest None None (Some x) rest is = cc
then_rest None None None rest is = refl

abbrev pub batch_refused : ℕ → List PageWrite → Option SubmitError
batch_refused logical ws = or_else (empty ws) (or_else (range logical ws) (repeated [] ws))

-- what is refused where the batch by itself is not
abbrev then_refused : ℕ → List Entry → ℕ → List PageWrite → Option SubmitError
then_refused pending es tag ws = or_else (tag_used tag es) (or_else (overlap es ws) (full (free_of pending es) ws))

after_batch : (logical pending tag : ℕ) (es : List Entry) (ws : List PageWrite) → batch_refused logical ws ≡ None →
    first_refusals (record { logical = logical; pending = pending }) es tag ws ≡ then_refused pending es tag ws
after_batch logical pending tag es ws none =
    then_rest (empty ws) (range logical ws) (repeated [] ws) (then_refused pending es tag ws) none

pub refused_by_tag : (logical pending tag : ℕ) (es : List Entry) (ws : List PageWrite) →
    batch_refused logical ws ≡ None →
    list_any (has_tag tag) es ≡ true → first_refusals (record { logical = logical; pending = pending }) es tag ws
    ≡ Some refused.Tag
refused_by_tag logical pending tag es ws none used = after_batch logical pending tag es ws none ∙ rw used refl

pub refused_behind : (logical pending tag : ℕ) (es : List Entry) (ws : List PageWrite) →
    batch_refused logical ws ≡ None →
    list_any (has_tag tag) es ≡ false →
    first_refusals (record { logical = logical; pending = pending }) es tag ws
    ≡ or_else (overlap es ws) (full (free_of pending es) ws)
refused_behind logical pending tag es ws none unused = after_batch logical pending tag es ws none ∙ rw unused refl

both_none : (a b : Option SubmitError) → or_else a b ≡ None → (a ≡ None) × (b ≡ None)
both_none None b h = (refl, h)
both_none (Some e) b h = cc

cond_none : (b : Bool) (e : SubmitError) → cond b None (Some e) ≡ None → b ≡ true
cond_none true e h = refl
cond_none false e h = cc

all_in_range : (logical : ℕ) (ws : List PageWrite) → range logical ws ≡ None → All (λ w. w.page < logical) ws
all_in_range logical [] h = All-nil (λ (w : PageWrite). w.page < logical)
all_in_range logical (w ∷ ws) h =
    let parts = both_none (if nat_lt w.page logical then None else Some (refused.Range w.page)) (range logical ws) h in
    All-cons (λ (w : PageWrite). w.page < logical) w ws
    (ltb-true w.page logical (cond_none (nat_lt w.page logical) (refused.Range w.page) parts.0))
    (all_in_range logical ws parts.1)

-- the pages of a batch that is not refused by itself exist
pub pages_exist : (logical : ℕ) (ws : List PageWrite) → batch_refused logical ws ≡ None → All (λ w. w.page < logical) ws
pages_exist logical ws none =
    let rest = (both_none (empty ws) (or_else (range logical ws) (repeated [] ws)) none).1 in
    all_in_range logical ws (both_none (range logical ws) (repeated [] ws) rest).0
