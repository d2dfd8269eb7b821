-- A file that was closed, and the statuses that tell that it was.
use Rattle.std.proofs.Common.{◌≡◌, ◌⊎◌, ℕ, List, [], Bool, true, false, Option, None, Some, Result, Ok, Err, IfSome, sym, ap, refl, subst, ◌∙◌, option_map, inl, inr, arith, OnOk, codes}
use Rattle.file_flash.specs.FileFlashState.{FileFlashState}
use Rattle.file_flash.specs.Losing.{LeavesSpelling}
use Rattle.cut_replay.specs.declared.serving.ServeError.{ServeError}
use Rattle.cut_replay.specs.declared.serving.ServeError.TheVariants as serving
use Rattle.program_base.specs.Refusals as image
use Rattle.program_base.specs.Refusals.{ImageEnding, image_line, image_status, line}
use Rattle.live_session.specs.declared.answering.Stop.{Stop}
use Rattle.live_session.specs.declared.answering.Stop.TheVariants as stop
use Rattle.live_session.specs.declared.ending.TheConstants.{IN_USE}
use Rattle.live_session.specs.declared.desk.Next.TheVariants as next
use Rattle.tx_types.specs.declared.config.Config.{Config}
use Rattle.tx_types.specs.declared.config.Slot.{Slot}
use Rattle.live_session.specs.Closing.{ClosesFlash}
use Rattle.live_session.specs.Endings.{LiveEnding, Closed, BadLine, Refused, BadCount, InUse, Fault, Starved, EndsSo, Speaks, count_line}
use Rattle.live_session.specs.Hearing.{WhereClosed}
use Rattle.live_session.specs.Opening.{IsNotOpened}
use Rattle.live_session.specs.LineDesk.{DeskTold, LineDeskState, ReadsLine, TakesNext, with_input}
use Rattle.live_session.specs.Saying.{HasNoInput, IsSpelledLeft, SpellsLeft, SpellsWhereClosed, with_closed}
use Rattle.live_session.specs.Sessions.{ending_after, ending_unmounted}

-- ---- the end of the input

none_left : (told : Option DeskTold) (bytes rest : List ℕ) → IfSome told (TakesNext next.End bytes rest) →
    IfSome (option_map (with_input rest) told) (λ c. c.input ≡ [])
none_left None bytes rest h = tt
none_left (Some c) bytes rest h = h.2.1

pub input_ended : (old new : LineDeskState) (bytes : List ℕ) → ReadsLine old new bytes (Ok next.End) → HasNoInput new
input_ended old new bytes h = subst HasNoInput (sym h.1) (none_left old.told bytes h.0 h.2)

-- ---- closing

left_spelled : (told : Option DeskTold) (f : FileFlashState) → f.failed ≡ false →
    IfSome f.file (LeavesSpelling f.config f.memory.image f.memory.extras) → IfSome told (λ c. c.input ≡ []) →
    IfSome (option_map (with_closed true f) told) (λ c. c.input ≡ [])
    × IfSome (option_map (with_closed true f) told) IsSpelledLeft
left_spelled None f live spelled none = (tt, tt)
left_spelled (Some c) f live spelled none = (none, (f, refl, live, spelled, (c.puts, refl)))

all_read : (old new : LineDeskState) (f : FileFlashState) (put : Bool) → put ≡ true → f.failed ≡ false →
    IfSome f.file (LeavesSpelling f.config f.memory.image f.memory.extras) → HasNoInput old →
    new.told ≡ option_map (with_closed put f) old.told → SpellsLeft new
all_read old new f put is live spelled ended leaves =
    let told : new.told ≡ option_map (with_closed true f) old.told =
    leaves ∙ ap (λ b. option_map (with_closed b f) old.told) is in
    subst (λ (t : Option DeskTold). IfSome t (λ c. c.input ≡ []) × IfSome t IsSpelledLeft) (sym told)
    (left_spelled old.told f live spelled ended)

pub closes : (flash : FileFlashState) (old new : LineDeskState) (config : Config) (answered : Result Bool Stop)
    (closed : Result (Unit {0}) Stop) (same : Bool) → OnOk answered (HasNoInput old) →
    ClosesFlash flash old new closed config → SpellsWhereClosed (ending_after answered closed same) new
closes flash old new config (Err stop.Memory) closed same ended h = tt
closes flash old new config (Err stop.Fault) (Ok done) same ended h = tt
closes flash old new config (Err stop.Fault) (Err stop.Fault) same ended h = tt
closes flash old new config (Err stop.Fault) (Err stop.Memory) same ended h = tt
closes flash old new config (Ok good) (Err stop.Fault) same ended h = tt
closes flash old new config (Ok good) (Err stop.Memory) same ended h = tt
closes flash old new config (Ok good) (Ok done) false ended h = tt
closes flash old new config (Ok true) (Ok done) true ended h =
    all_read old new h.left h.put h.done.0 h.done.1 h.spelled ended h.leaves
closes flash old new config (Ok false) (Ok done) true ended h =
    all_read old new h.left h.put h.done.0 h.done.1 h.spelled ended h.leaves

pub unmounted_open : (why : ServeError) (closed : Result (Unit {0}) Stop) (new : LineDeskState) →
    SpellsWhereClosed (ending_unmounted why closed) new
unmounted_open (serving.Unsound law slot) (Ok done) new = tt
unmounted_open (serving.Unsound law slot) (Err stop.Fault) new = tt
unmounted_open (serving.Unsound law slot) (Err stop.Memory) new = tt
unmounted_open serving.Memory closed new = tt

-- ---- the statuses

abbrev IsClosing : ℕ → Type 0
IsClosing answer = (answer ≡ 0) ⊎ (answer ≡ 4)

no_closing : (answer n : ℕ) → answer ≡ n → (n ≡ 0 → ⊥) → (n ≡ 4 → ⊥) → IsClosing answer → ⊥
no_closing answer n e zero four (inl h) = zero (sym e ∙ h)
no_closing answer n e zero four (inr h) = four (sym e ∙ h)

image_not_zero : (why : ImageEnding) → image_status why ≡ 0 → ⊥
image_not_zero image.BadWords h = absurd (omega (arith, h))
image_not_zero (image.Missing name) h = absurd (omega (arith, h))
image_not_zero (image.TooLong name) h = absurd (omega (arith, h))
image_not_zero (image.BadImage rule) h = absurd (omega (arith, h))
image_not_zero (image.Unsound breach) h = absurd (omega (arith, h))

image_not_four : (why : ImageEnding) → image_status why ≡ 4 → ⊥
image_not_four image.BadWords h = absurd (omega (arith, h))
image_not_four (image.Missing name) h = absurd (omega (arith, h))
image_not_four (image.TooLong name) h = absurd (omega (arith, h))
image_not_four (image.BadImage rule) h = absurd (omega (arith, h))
image_not_four (image.Unsound breach) h = absurd (omega (arith, h))

five_not : (answer : ℕ) → answer ≡ 5 → IsClosing answer → ⊥
five_not answer e h = no_closing answer 5 e (λ z. absurd (omega (arith, z))) (λ z. absurd (omega (arith, z))) h

six_not : (answer : ℕ) → answer ≡ 6 → IsClosing answer → ⊥
six_not answer e h = no_closing answer 6 e (λ z. absurd (omega (arith, z))) (λ z. absurd (omega (arith, z))) h

speaks_not : (old new : LineDeskState) (text : List ℕ) (status answer : ℕ) → (status ≡ 0 → ⊥) → (status ≡ 4 → ⊥) →
    Speaks old new text status answer → IsClosing answer → ⊥
speaks_not old new text status answer zero four (inl s) h = no_closing answer status s.0 zero four h
speaks_not old new text status answer zero four (inr (inl s)) h = five_not answer s.2.0 h
speaks_not old new text status answer zero four (inr (inr s)) h = six_not answer s.2.0 h

in_use_not : (old new : LineDeskState) (answer : ℕ) → Speaks old new (line (codes "in use")) IN_USE answer →
    IsClosing answer → ⊥
in_use_not old new answer e h = speaks_not old new (line (codes "in use")) IN_USE answer
    (λ z. absurd (omega (arith, z))) (λ z. absurd (omega (arith, z))) e h

count_not : (old new : LineDeskState) (at : Slot) (answer : ℕ) → Speaks old new (count_line at.0) 3 answer →
    IsClosing answer → ⊥
count_not old new at answer e h = speaks_not old new (count_line at.0) 3 answer (λ z. absurd (omega (arith, z)))
    (λ z. absurd (omega (arith, z))) e h

-- a status that tells of a file that was closed comes of an ending that does
pub closing_ending : (it : LiveEnding) (old new : LineDeskState) (answer : ℕ) → EndsSo it old new answer →
    SpellsWhereClosed it old → IsClosing answer → SpellsLeft new
closing_ending Closed old new answer e s h = subst SpellsLeft (sym e.1) s
closing_ending BadLine old new answer e s h = subst SpellsLeft (sym e.1) s
closing_ending (Refused why) old new answer (inl e) s h =
    absurd (speaks_not old new (image_line why) (image_status why) answer (image_not_zero why) (image_not_four why) e h)
closing_ending (Refused why) old new answer (inr e) s h = absurd (six_not answer e.0 h)
closing_ending (BadCount at) old new answer (inl e) s h = absurd (count_not old new at answer e h)
closing_ending (BadCount at) old new answer (inr e) s h = absurd (six_not answer e.0 h)
closing_ending InUse old new answer e s h = absurd (in_use_not old new answer e h)
closing_ending Fault old new answer e s h = absurd (five_not answer e.0 h)
closing_ending Starved old new answer e s h = absurd (six_not answer e.0 h)

-- status 0 comes of an ending with no bad line, and status 4 of one with a bad line
pub good_ending : (P : LineDeskState → Bool → Type 0) (it : LiveEnding) (old new : LineDeskState) (answer : ℕ) →
    EndsSo it old new answer → WhereClosed (P old) it → answer ≡ 0 → P new true
good_ending P Closed old new answer e s h = subst (λ d. P d true) (sym e.1) s
good_ending P BadLine old new answer e s h = absurd (omega (arith, e.0, h))
good_ending P (Refused why) old new answer (inl e) s h =
    absurd (speaks_not old new (image_line why) (image_status why) answer (image_not_zero why) (image_not_four why) e
    (inl h))
good_ending P (Refused why) old new answer (inr e) s h = absurd (six_not answer e.0 (inl h))
good_ending P (BadCount at) old new answer (inl e) s h = absurd (count_not old new at answer e (inl h))
good_ending P (BadCount at) old new answer (inr e) s h = absurd (six_not answer e.0 (inl h))
good_ending P InUse old new answer e s h = absurd (in_use_not old new answer e (inl h))
good_ending P Fault old new answer e s h = absurd (five_not answer e.0 (inl h))
good_ending P Starved old new answer e s h = absurd (six_not answer e.0 (inl h))

pub bad_ending : (P : LineDeskState → Bool → Type 0) (it : LiveEnding) (old new : LineDeskState) (answer : ℕ) →
    EndsSo it old new answer → WhereClosed (P old) it → answer ≡ 4 → P new false
bad_ending P Closed old new answer e s h = absurd (omega (arith, e.0, h))
bad_ending P BadLine old new answer e s h = subst (λ d. P d false) (sym e.1) s
bad_ending P (Refused why) old new answer (inl e) s h =
    absurd (speaks_not old new (image_line why) (image_status why) answer (image_not_zero why) (image_not_four why) e
    (inr h))
bad_ending P (Refused why) old new answer (inr e) s h = absurd (six_not answer e.0 (inr h))
bad_ending P (BadCount at) old new answer (inl e) s h = absurd (count_not old new at answer e (inr h))
bad_ending P (BadCount at) old new answer (inr e) s h = absurd (six_not answer e.0 (inr h))
bad_ending P InUse old new answer e s h = absurd (in_use_not old new answer e (inr h))
bad_ending P Fault old new answer e s h = absurd (five_not answer e.0 (inr h))
bad_ending P Starved old new answer e s h = absurd (six_not answer e.0 (inr h))

-- a file that is not opened is not closed
pub not_opened_open : (name : List ℕ) (it : LiveEnding) (old new : LineDeskState) → IsNotOpened name it old new →
    SpellsWhereClosed it new
not_opened_open name Closed old new h = absurd h
not_opened_open name BadLine old new h = absurd h
not_opened_open name (Refused why) old new h = tt
not_opened_open name (BadCount at) old new h = tt
not_opened_open name InUse old new h = tt
not_opened_open name Fault old new h = tt
not_opened_open name Starved old new h = tt
