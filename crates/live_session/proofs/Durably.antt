-- What is said leaves all that was said durable, as it was when it was said.
use Rattle.std.proofs.Common.{◌≡◌, ℕ, Bool, List, [], ◌∷◌, All, Option, None, Some, Result, Ok, Err, IfSome, take, sym, subst, option_map, inl, inr, codes}
use Rattle.std.proofs.lemmas.List.Elements.{All-append, All-cons, All-nil}
use Rattle.program_base.specs.Refusals.{image_line, image_status, line}
use Rattle.file_flash.specs.FileFlashState.{FileFlashState}
use Rattle.live_session.specs.declared.desk.CallError.{CallError}
use Rattle.live_session.specs.declared.ending.TheConstants.{IN_USE}
use Rattle.live_session.specs.declared.desk.CallError.TheVariants as call
use Rattle.live_session.specs.declared.desk.Next.{Next}
use Rattle.live_session.specs.Endings.{LiveEnding, Closed, BadLine, Refused, BadCount, InUse, Fault, Starved, Attempts, EndsSo, Speaks, count_line}
use Rattle.live_session.specs.Opening.{IsNotOpened, begun}
use Rattle.program_base.specs.Refusals as refusal
use Rattle.live_session.specs.LineDesk.{DeskTold, LineDeskState, ReadsLine, Saying, Says, claimed, with_claim, with_input, with_put, with_saying}
use Rattle.live_session.specs.Saying.{IsDurable, IsDurableSaying, SaidDurably, live_bytes, with_closed}

abbrev AllDurable : DeskTold → Type 0
AllDurable c = All IsDurableSaying c.sayings

said_more : (told : Option DeskTold) (it : Saying) → IsDurableSaying it → IfSome told AllDurable →
    IfSome (option_map (with_saying it) told) AllDurable
said_more None it h p = tt
said_more (Some c) it h p =
    All-append IsDurableSaying c.sayings (it ∷ []) p
    (All-cons IsDurableSaying it [] h (All-nil IsDurableSaying))

input_gone : (told : Option DeskTold) (rest : List ℕ) → IfSome told AllDurable →
    IfSome (option_map (with_input rest) told) AllDurable
input_gone None rest p = tt
input_gone (Some c) rest p = p

closed_so : (told : Option DeskTold) (put : Bool) (flash : FileFlashState) → IfSome told AllDurable →
    IfSome (option_map (with_closed put flash) told) AllDurable
closed_so None put flash p = tt
closed_so (Some c) put flash p = p

bytes_put : (told : Option DeskTold) (bytes : List ℕ) → IfSome told AllDurable →
    IfSome (option_map (with_put bytes) told) AllDurable
bytes_put None bytes p = tt
bytes_put (Some c) bytes p = p

file_claimed : (told : Option DeskTold) (name : List ℕ) → IfSome told AllDurable →
    IfSome (option_map (with_claim name) told) AllDurable
file_claimed None name p = tt
file_claimed (Some c) name p = p

pub claims_durably : (name : List ℕ) (old new : LineDeskState) → new ≡ claimed name old → SaidDurably old →
    SaidDurably new
claims_durably name old new s p = subst SaidDurably (sym s) (file_claimed old.told name p)

pub says_durably : (flash : Option FileFlashState) (old new : LineDeskState) (text : List ℕ)
    (result : Result (Unit {0}) CallError) → IfSome flash IsDurable → Says flash old new text result →
    SaidDurably old → SaidDurably new
says_durably flash old new text (Ok done) h s p =
    subst SaidDurably (sym s) (said_more old.told (record { text = text; flash = flash }) h p)
says_durably flash old new text (Err call.Failed) h s p =
    subst SaidDurably (sym s.1) (said_more old.told (record { text = take s.0 text; flash = flash }) h p)
says_durably flash old new text (Err call.Memory) h s p = absurd s

pub reads_durably : (old new : LineDeskState) (bytes : List ℕ) (result : Result Next CallError) →
    ReadsLine old new bytes result → SaidDurably old → SaidDurably new
reads_durably old new bytes (Ok next) s p = subst SaidDurably (sym s.1) (input_gone old.told s.0 p)
reads_durably old new bytes (Err call.Failed) s p = subst SaidDurably (sym s.1) (input_gone old.told s.0 p)
reads_durably old new bytes (Err call.Memory) s p = subst SaidDurably (sym s.1) (input_gone old.told s.0 p)

pub begins_durably : (name : List ℕ) (f : FileFlashState) (old new : LineDeskState) → new ≡ begun name f old →
    SaidDurably old → SaidDurably new
begins_durably name f old new s p =
    subst SaidDurably (sym s)
    (bytes_put (option_map (with_claim name) old.told) (live_bytes f) (file_claimed old.told name p))

pub leaves_durably : (old new : LineDeskState) (put : Bool) (flash : FileFlashState) →
    new.told ≡ option_map (with_closed put flash) old.told → SaidDurably old → SaidDurably new
leaves_durably old new put flash s p =
    subst (λ (t : Option DeskTold). IfSome t AllDurable) (sym s) (closed_so old.told put flash p)

attempts_durably : (old new : LineDeskState) (text : List ℕ) → Attempts old new text → SaidDurably old → SaidDurably new
attempts_durably old new text a p = says_durably None old new text a.0 tt a.1 p

speaks_durably : (old new : LineDeskState) (text : List ℕ) (status answer : ℕ) → Speaks old new text status answer →
    SaidDurably old → SaidDurably new
speaks_durably old new text status answer (inl s) p = says_durably None old new text (Ok tt) tt s.1 p
speaks_durably old new text status answer (inr (inl s)) p =
    attempts_durably s.0 new (line (codes "desk fault")) s.2.1
    (says_durably None old s.0 text (Err call.Failed) tt s.1 p)
speaks_durably old new text status answer (inr (inr s)) p =
    attempts_durably s.0 new (line (codes "no memory")) s.2.1
    (says_durably None old s.0 text (Err call.Memory) tt s.1 p)

pub ends_durably : (it : LiveEnding) (old new : LineDeskState) (answer : ℕ) → EndsSo it old new answer →
    SaidDurably old → SaidDurably new
ends_durably Closed old new answer e p = subst SaidDurably (sym e.1) p
ends_durably BadLine old new answer e p = subst SaidDurably (sym e.1) p
ends_durably (Refused why) old new answer (inl e) p =
    speaks_durably old new (image_line why) (image_status why) answer e p
ends_durably (Refused why) old new answer (inr e) p = attempts_durably old new (line (codes "no memory")) e.1 p
ends_durably (BadCount at) old new answer (inl e) p = speaks_durably old new (count_line at.0) 3 answer e p
ends_durably (BadCount at) old new answer (inr e) p = attempts_durably old new (line (codes "no memory")) e.1 p
ends_durably InUse old new answer e p = speaks_durably old new (line (codes "in use")) IN_USE answer e p
ends_durably Fault old new answer e p = attempts_durably old new (line (codes "desk fault")) e.1 p
ends_durably Starved old new answer e p = attempts_durably old new (line (codes "no memory")) e.1 p

pub not_opened_durably : (name : List ℕ) (it : LiveEnding) (old new : LineDeskState) → IsNotOpened name it old new →
    SaidDurably old → SaidDurably new
not_opened_durably name Closed old new h p = absurd h
not_opened_durably name BadLine old new h p = absurd h
not_opened_durably name (Refused refusal.BadWords) old new h p = absurd h
not_opened_durably name (Refused (refusal.Unsound breach)) old new h p = absurd h
not_opened_durably name (Refused (refusal.Missing missing)) old new h p = claims_durably name old new h.1 p
not_opened_durably name (Refused (refusal.TooLong long)) old new h p = claims_durably name old new h.1 p
not_opened_durably name (Refused (refusal.BadImage rule)) old new h p = claims_durably name old new h.0 p
not_opened_durably name (BadCount at) old new h p = claims_durably name old new h.0 p
not_opened_durably name InUse old new h p = claims_durably name old new h.0 p
not_opened_durably name Fault old new (inl h) p = subst SaidDurably (sym h) (file_claimed old.told name p)
not_opened_durably name Fault old new (inr (inl h)) p = claims_durably name old new h p
not_opened_durably name Fault old new (inr (inr h)) p = begins_durably name h.0 old new h.1 p
not_opened_durably name Starved old new (inl h) p = claims_durably name old new h p
not_opened_durably name Starved old new (inr h) p = begins_durably name h.0 old new h.1 p
