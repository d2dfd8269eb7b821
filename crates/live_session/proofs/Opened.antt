-- How a file is opened, and why it is not.
use Rattle.std.proofs.Common.{◌≡◌, ◌⊎◌, ℕ, List, [], true, false, nat_eq, Option, None, Some, Result, Ok, Err, IfSome, IfOk, refl, sym, ap, subst, subst₂, ◌∙◌, inl, inr, String, Global, string_bytes}
use Rattle.std.specs.List.{starts_with}
use Rattle.std.specs.declared.alloc.AllocError.{AllocError}
use Rattle.tx_types.specs.Config.{shape_of}
use Rattle.tx_types.specs.declared.config.Config.{Config}
use Rattle.mem_flash.specs.MemFlashState.{MemFlashState, loaded}
use Rattle.image_file.specs.InUse.{IsInUse, broken_in_use}
use Rattle.image_file.specs.Rules.{IsRefusal}
use Rattle.image_file.specs.declared.error.ImageError.{ImageError}
use Rattle.image_file.specs.declared.error.ImageError.TheVariants as image
use Rattle.file_flash.specs.Files.{FileState, ReadsFile}
use Rattle.file_flash.specs.FileFlashState.{FileFlashState}
use Rattle.live_file.specs.Reading.{RefusesLive}
use Rattle.live_file.specs.Spelling.{IsLive, third_magic}
use Rattle.live_file.specs.declared.error.LiveError.{LiveError}
use Rattle.live_file.specs.declared.error.LiveError.TheVariants as error
use Rattle.program_base.specs.Refusals as refusal
use Rattle.program_base.specs.Refusals.{ImageEnding, image_line, image_status}
use Rattle.live_session.specs.declared.desk.CallError.{CallError}
use Rattle.live_session.specs.declared.desk.CallError.TheVariants as call
use Rattle.live_session.specs.declared.desk.ClaimError.{ClaimError}
use Rattle.live_session.specs.declared.desk.ClaimError.TheVariants as claim
use Rattle.live_session.specs.declared.ending.Ending.{Ending}
use Rattle.live_session.specs.Endings as live
use Rattle.live_session.specs.Endings.{LiveEnding, MemoryTold, Speaks, ending_of}
use Rattle.live_session.specs.LineDesk.{Claims, DeskTold, LineDeskState, OpensFree, after, claimed, with_put}
use Rattle.live_session.specs.Opening.{IsBegun, IsFreeFile, IsHeldBegun, IsNotBegun, IsNotOpened, Opens, OpensFlash, OpensHeld, RefusesHeld, RefusesBytes, SaysHeld, PutsLiveFile, ending_of_claim, ending_of_opening, ending_of_put}
use Rattle.live_session.specs.Saying.{live_bytes}

-- ---- a file that was claimed

freed : (P : Option FileState → Type 0) (told : Option DeskTold) (file : Option FileState) (name : List ℕ) →
    IfSome told (OpensFree name file) → P file → IfSome told (IsFreeFile P name)
freed P None file name h o = tt
freed P (Some c) file name h o = (h.0, h.1, subst P h.2 o)

begun_too : (old mid new : LineDeskState) (file : Option FileState) (name : List ℕ) → mid ≡ claimed name old →
    IfSome old.told (OpensFree name file) → IsHeldBegun file mid new → IsBegun name old new
begun_too old mid new file name same free h = (
  h.0,
  h.1 ∙ ap (after (with_put (live_bytes h.0))) same,
  freed (λ x. SaysHeld x h.0) old.told file name free h.2,
)

not_begun : (old mid new : LineDeskState) (file : Option FileState) (name : List ℕ) (it : LiveEnding) →
    mid ≡ claimed name old → IfSome old.told (OpensFree name file) → IsNotBegun file it mid new →
    IsNotOpened name it old new
not_begun old mid new file name live.Closed same free h = absurd h
not_begun old mid new file name live.BadLine same free h = absurd h
not_begun old mid new file name (live.Refused refusal.BadWords) same free h = absurd h
not_begun old mid new file name (live.Refused (refusal.Missing missing)) same free h = absurd h
not_begun old mid new file name (live.Refused (refusal.TooLong long)) same free h = absurd h
not_begun old mid new file name (live.Refused (refusal.BadImage rule)) same free h =
    (h.0 ∙ same, freed (λ x. RefusesHeld x (error.Image rule)) old.told file name free h.1)
not_begun old mid new file name (live.Refused (refusal.Unsound breach)) same free h = absurd h
not_begun old mid new file name (live.BadCount at) same free h =
    (h.0 ∙ same, freed (λ x. RefusesHeld x (error.Count at)) old.told file name free h.1)
not_begun old mid new file name live.InUse same free h = absurd h
not_begun old mid new file name live.Fault same free (inl h) = inr (inl (h ∙ same))
not_begun old mid new file name live.Fault same free (inr h) =
    inr (inr (begun_too old mid new file name same free h))
not_begun old mid new file name live.Starved same free (inl h) = inl (h ∙ same)
not_begun old mid new file name live.Starved same free (inr h) =
    inr (begun_too old mid new file name same free h)

pub claimed_opens : (old mid new : LineDeskState) (file : Option FileState) (name : List ℕ)
    (result : Result FileFlashState Ending) → mid ≡ claimed name old → IfSome old.told (OpensFree name file) →
    OpensHeld file mid new result → OpensFlash name old new result
claimed_opens old mid new file name (Ok f) same free h = (
  h.0 ∙ ap (after (with_put (live_bytes f))) same,
  freed (λ x. Opens x f) old.told file name free h.1,
)
claimed_opens old mid new file name (Err why) same free h =
    not_begun old mid new file name (ending_of why) same free h

pub not_claimed : {F : Type 0} (told : F → Option FileState) (old new : LineDeskState) (name : List ℕ)
    (error : ClaimError) → Claims told old new name (Err error) → IsNotOpened name (ending_of_claim name error) old new
not_claimed told old new name claim.Missing h = (refl, h.0, h.1)
not_claimed told old new name claim.TooLong h = (refl, h.0, h.1)
not_claimed told old new name claim.InUse h = h
not_claimed told old new name claim.Failed h = inl h
not_claimed told old new name claim.Memory h = inl h

-- ---- a file that is refused

live_refused : (file : Option FileState) (bytes : List ℕ) (rule : LiveError) → IfSome file (ReadsFile bytes) →
    starts_with nat_eq bytes third_magic ≡ true → RefusesLive bytes rule → RefusesHeld file rule
live_refused file bytes rule reads begins why =
    record { bytes = bytes; reads = reads; refusal = subst (λ b. RefusesBytes bytes b rule) (sym begins) why }

image_refused : (file : Option FileState) (bytes : List ℕ) (rule : ImageError) → IfSome file (ReadsFile bytes) →
    starts_with nat_eq bytes third_magic ≡ false → IsRefusal (broken_in_use bytes) rule →
    RefusesHeld file (error.Image rule)
image_refused file bytes rule reads begins why = record {
  bytes = bytes;
  reads = reads;
  refusal = subst (λ b. RefusesBytes bytes b (error.Image rule)) (sym begins) why;
}

refused : (file : Option FileState) (desk : LineDeskState) (rule : LiveError) → RefusesHeld file rule →
    IsNotBegun file (ending_of_opening rule) desk desk
refused file desk (error.Image image.Memory) why = inl refl
refused file desk (error.Image image.Short) why = (refl, why)
refused file desk (error.Image image.Magic) why = (refl, why)
refused file desk (error.Image image.Protocol) why = (refl, why)
refused file desk (error.Image image.Reserved) why = (refl, why)
refused file desk (error.Image image.Allowance) why = (refl, why)
refused file desk (error.Image (image.Config e)) why = (refl, why)
refused file desk (error.Image image.Length) why = (refl, why)
refused file desk (error.Image (image.SlotState at)) why = (refl, why)
refused file desk (error.Image (image.SlotBytes at)) why = (refl, why)
refused file desk (error.Count at) why = (refl, why)

-- it begins as a live file, and is none
pub refused_live : (file : Option FileState) (desk : LineDeskState) (bytes read : List ℕ) (rule : LiveError) →
    read ≡ bytes → IfSome file (ReadsFile bytes) → starts_with nat_eq bytes third_magic ≡ true →
    RefusesLive read rule → IsNotBegun file (ending_of_opening rule) desk desk
refused_live file desk bytes read rule same reads begins why =
    refused file desk rule
    (live_refused file bytes rule reads begins (subst (λ b. RefusesLive b rule) same why))

-- or does not, and is no image file in use
pub refused_image : (file : Option FileState) (desk : LineDeskState) (bytes : List ℕ) (rule : ImageError) →
    IfSome file (ReadsFile bytes) → starts_with nat_eq bytes third_magic ≡ false →
    IsRefusal (broken_in_use bytes) rule →
    IsNotBegun file (ending_of_opening (error.Image rule)) desk desk
refused_image file desk bytes rule reads begins why =
    refused file desk (error.Image rule) (image_refused file bytes rule reads begins why)

-- ---- a file whose bytes say a flash

module _ (file now : Option FileState) (faults : ℕ) (bytes : List ℕ) (config : Config) (memory : MemFlashState)
    (old new : LineDeskState) (reads : IfSome file (ReadsFile bytes))
    (said : IsInUse bytes config memory.image memory.extras ⊎ IsLive bytes config memory.image memory.extras) where
  abbrev flash : FileFlashState
  flash = record { config = config; memory = memory; waiting = []; failed = false; faults = faults; file = now }

  says : SaysHeld file flash
  says = record { bytes = bytes; reads = reads; said = said }

  -- its live file took its place
  pub begins : (f : FileFlashState) → f ≡ flash → memory ≡ loaded (shape_of config) memory.image memory.extras →
      faults ≡ 0 → PutsLiveFile file now old new (live_bytes flash) (Ok tt) → OpensHeld file old new (Ok f)
  begins f is load fresh turned = subst (λ (x : FileFlashState). OpensHeld file old new (Ok x)) (sym is) (
    turned.0,
    record { says = says; memory = load; waiting = refl; failed = refl; fresh = fresh; durable = turned.1 },
  )

  -- and then there was no memory
  pub begins_starved : PutsLiveFile file now old new (live_bytes flash) (Ok tt) → IsNotBegun file live.Starved old new
  begins_starved turned = inr (flash, turned.0, says)

  -- no file took its place
  pub not_put : (why : CallError) → PutsLiveFile file now old new (live_bytes flash) (Err why) →
      IsNotBegun file (ending_of_put why) old new
  not_put call.Failed (inl same) = inl same
  not_put call.Failed (inr put) = inr (flash, put, says)
  not_put call.Memory (inl same) = inl same
  not_put call.Memory (inr put) = inr (flash, put, says)

-- ---- the line

-- the line of a refusal was said, or there was no memory for it
pub refused_ends : (old new : LineDeskState) (why : ImageEnding) (text : Result (String Global) AllocError)
    (status answer : ℕ) → live.Refuses old new text status answer → IfOk text (λ l. string_bytes l ≡ image_line why) →
    status ≡ image_status why → Speaks old new (image_line why) (image_status why) answer ⊎ MemoryTold old new answer
refused_ends old new why (Ok text) status answer r is code = inl (subst₂ (λ t n. Speaks old new t n answer) is code r)
refused_ends old new why (Err none) status answer r is code = inr r

-- and that of a live file whose slot has too many zero bits
pub counted_ends : (old new : LineDeskState) (said : List ℕ) (text : Result (String Global) AllocError)
    (status answer : ℕ) → live.Refuses old new text status answer → IfOk text (λ l. string_bytes l ≡ said) →
    Speaks old new said status answer ⊎ MemoryTold old new answer
counted_ends old new said (Ok text) status answer r is = inl (subst (λ t. Speaks old new t status answer) is r)
counted_ends old new said (Err none) status answer r is = inr r
