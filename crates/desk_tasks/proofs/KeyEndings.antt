-- The ending of a key script, from what its parts come to.
use Rattle.desk_tasks.proofs.Common.{◌≡◌, inl, inr, ℕ, List, [], length, Ok, Err, refl, ap, subst, ◌∙◌, shape_of, Config, Contents, Extras, MemFlashState, loaded, state_of, IsSoundImage, array_in, ReadsImage, Ending, Image, Keyed, OpensStore, Keying, Opening}
use Rattle.std.specs.Prelude.{Result, IfErr}
use Rattle.std.specs.Result.{IsErrAnd}
use Rattle.tx_types.specs.declared.config.Slot.{Slot}
use Rattle.flash_model.specs.Flash.{FlashState}
use Rattle.flash_model.specs.Operations.{Moment, moment_of}
use Rattle.mem_flash.specs.MemFlashState.{told_of}
use Rattle.page_keys.proofs.OfServe.KeyRunLemmas.{as_many}
use Rattle.page_keys.proofs.OfBucket.Parts.{shown_buckets}
use Rattle.page_keys.specs.Buckets.{AreBuckets, EncodesMap}
use Rattle.page_keys.specs.KeyRuns.{AreFewBreaks, mentions_in}
use Rattle.page_keys.specs.KeyServed.{RefusesKeys, ServesKeyRun, ServesScript}
use Rattle.page_keys.specs.KeySessions.{IsKeyImage}
use Rattle.page_keys.specs.ScriptReading.{EndsAt}
use Rattle.page_keys.specs.Scripts.{IsScript}
use Rattle.page_keys.specs.declared.command.KeyCommand.{KeyCommand}
use Rattle.page_keys.specs.declared.key_error.KeyServeError.{KeyServeError}
use Rattle.page_keys.specs.declared.key_error.KeyServeError.TheVariants as failed
use Rattle.host_protocol.specs.declared.error.TextError.{TextError}
use Rattle.host_protocol.specs.declared.error.TextError.TheVariants as parse
use Rattle.list_lemmas.proofs.Lists.{take_whole}
use Rattle.program_base.specs.Refusals.{Unsound}
use Rattle.desk_tasks.specs.Ending.{BadBucket}
use Rattle.desk_tasks.specs.KeyWork.{IsKeysRun}
use Rattle.desk_tasks.specs.Stops.{RefusesScript, RefusesStore, StopsBy, key_serving_failure, lines_failure}
use Rattle.desk_tasks.specs.declared.output.Failure.{Failure}
use Rattle.desk_tasks.proofs.RunLemmas.{keys_unarmed, starts}

-- ---- the ending, from its parts

module _ (name bytes lines : List ℕ) (its : Config) (image : List Contents) (extras : Extras)
    (read : ReadsImage bytes (Ok (its, image, extras))) where
  pub keying_line : (ending : Ending) → RefusesScript lines ending → Keying name bytes lines ending
  keying_line ending h = (Ok (its, image, extras), read, ((Err h.0, h.1, h.2), refl))

  pub keying_on : (cs : List KeyCommand) → IsScript lines cs → (ending : Ending) →
      Opening its image (OpensStore its image (Keyed name its image extras cs)) ending → Keying name bytes lines ending
  keying_on cs script ending h = (Ok (its, image, extras), read, ((Ok cs, script, h), refl))

-- what asks for commands stops where a script has none
pub unscripted : {T : Type 0} → (bytes : List ℕ) (result : Result T Failure) (e : TextError) →
    IsErrAnd result (λ x. x ≡ lines_failure e) → EndsAt bytes e → IfErr result (StopsBy (RefusesScript bytes))
unscripted bytes (Ok list) e same h = absurd same
unscripted bytes (Err x) (parse.Line n) same h = rw same (n, h, refl)
unscripted bytes (Err x) parse.Memory same h = rw same tt

-- what the store of an image comes to
module _ (its : Config) (image : List Contents) (done : Ending) where
  pub opening_store : (ending : Ending) → RefusesStore its image ending →
      Opening its image (OpensStore its image done) ending
  opening_store ending (inl h) = (Err h.0, h.1, h.2)
  opening_store ending (inr h) = (Ok tt, h.0, (Err h.1.0, h.1.1, h.1.2))

  pub opening_done : IsSoundImage its.protocol its.logical (shape_of its) image →
      AreBuckets its (array_in its.protocol its.logical image) →
      Opening its image (OpensStore its image done) done
  opening_done sound buckets = (Ok tt, sound, (Ok tt, buckets, refl))

-- ---- serving

-- what serving a flash gives that was just loaded
pub is_keys_run : (its : Config) (flash left : MemFlashState) (cs : List KeyCommand) (before after : List ℕ) →
    flash ≡ loaded (shape_of its) flash.image flash.extras → before ≡ [] →
    ServesKeyRun its cs (length cs) (state_of flash) (state_of left) before after →
    IsKeysRun its flash.image cs left.image after
is_keys_run its flash left cs before after e none served =
    let whole = take_whole (length cs) served.replies
    (as_many its (mentions_in its (moment_of served.first.flash)) served.first cs served.replies
    served.points served.run.runs) in
    let first = keys_unarmed its flash served.first.flash served.first.up e served.opened in
    record {
      first = served.first;
      begins = served.begins.moment ∙ starts its flash e;
      up = first.0;
      unarmed = first.1;
      replies = served.replies;
      points = served.points;
      run = served.run;
      last = ap (λ (s : FlashState). s.image) served.last;
      said = served.text ∙ rw (none, whole) refl;
      few = subst (λ armed. AreFewBreaks (told_of armed).cuts (told_of armed).breaks cs served.replies)
          (ap (λ (s : MemFlashState). s.armed) e) served.few;
    }

-- why it was refused
refuses_store : (its : Config) (flash : MemFlashState) (law : ℕ) (slot : Slot) →
    RefusesKeys its (state_of flash) (Err (failed.Unsound law slot)) →
    RefusesStore its flash.image (Image (Unsound (record { law = law; slot = slot })))
refuses_store its flash law slot h = inl (record { law = law; slot = slot }, h, refl)

refuses_bucket : (its : Config) (flash : MemFlashState) (page : ℕ) →
    RefusesKeys its (state_of flash) (Err (failed.Bucket page)) →
    RefusesStore its flash.image (BadBucket page)
refuses_bucket its flash page h = inr (h.0, (page, h.1, refl))

pub keys_unserved : (its : Config) (flash left : MemFlashState) (cs : List KeyCommand) (before after : List ℕ)
    (e : KeyServeError) (stopped : Failure) → stopped ≡ key_serving_failure e →
    (IsKeyImage its (state_of flash) → ServesScript its cs (state_of flash) (state_of left) before after (Err e)) →
    ((IsKeyImage its (state_of flash) → ⊥) → RefusesKeys its (state_of flash) (Err e)) →
    StopsBy (RefusesStore its flash.image) stopped
keys_unserved its flash left cs before after (failed.Unsound law slot) stopped same serves refuses =
    rw same (refuses_store its flash law slot (refuses serves))
keys_unserved its flash left cs before after (failed.Bucket page) stopped same serves refuses =
    rw same (refuses_bucket its flash page (refuses serves))
keys_unserved its flash left cs before after failed.Memory stopped same serves refuses = rw same tt

-- the image with which such a run begins
pub keys_held : (its : Config) (image : List Contents) (cs : List KeyCommand) (left : List Contents)
    (text : List ℕ) → IsKeysRun its image cs left text →
    IsSoundImage its.protocol its.logical (shape_of its) image
    × AreBuckets its (array_in its.protocol its.logical image)
keys_held its image cs left text run = (
  subst (λ (m : Moment). IsSoundImage its.protocol its.logical (shape_of its) m.image) run.begins
      run.run.begins.sound,
  shown_buckets its (array_in its.protocol its.logical image) run.first.keys
      (subst (λ (m : Moment).
      EncodesMap its (array_in its.protocol its.logical m.image) run.first.keys) run.begins
      run.run.begins.shows),
)
