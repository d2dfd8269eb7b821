-- An image file takes the place of a live file when a session is closed.
use Rattle.std.proofs.Common.{◌≡◌, ◌<◌, ℕ, true, false, List, [], Option, None, Some, Result, Ok, Err, IfSome, OnOk, is_err, refl, sym, ap, subst, ◌∙◌, option_map, inl, inr, arith}
use Rattle.std.proofs.lemmas.Bool.{false≢true}
use Rattle.std.proofs.lemmas.List.{ext_get_or}
use Rattle.tx_types.specs.declared.config.Config.{Config}
use Rattle.desk_io.specs.Desk.{counted}
use Rattle.flash_model.specs.Flash.{Contents, Extras}
use Rattle.flash_model.specs.declared.cached.NotDurable.{NotDurable}
use Rattle.image_file.specs.Spelling.{Spells}
use Rattle.file_flash.specs.Files as store
use Rattle.file_flash.specs.Files.{FileState, LeavesBytes}
use Rattle.file_flash.specs.FileFlashState.{FileFlashState}
use Rattle.file_flash.specs.Losing.{LeavesSpelling}
use Rattle.file_flash.specs.Opening as durable
use Rattle.file_flash.proofs.Losing.{left_one}
use Rattle.live_flash.specs.Flushes.{Flushes}
use Rattle.live_flash.specs.Losing.{LeavesLive, LosesOnly}
use Rattle.live_session.specs.declared.answering.Stop.{Stop}
use Rattle.live_session.specs.declared.answering.Stop.TheVariants as stop
use Rattle.live_session.specs.Closing.{ClosesFlash, IsStoppedBy, PutsImage}
use Rattle.live_session.specs.LineDesk.{LineDeskState, after, with_failure, with_left, with_put}
use Rattle.live_session.specs.Saying.{IsClosed, IsDurable, image_bytes, with_closed}

-- ---- a loss leaves what is durable

left_bytes : (bytes left : List ℕ) (file : FileState) → durable.IsDurable bytes file → LeavesBytes file left →
    left ≡ bytes
left_bytes bytes left file d l =
    ext_get_or 0 left bytes (l.long ∙ d.long)
    (λ k inside. left_one file left k _ l inside (d.each k (omega (arith, l.long, d.long, inside))))

leaves_spelling : (bytes : List ℕ) (config : Config) (image : List Contents) (extras : Extras)
    (held now : Option FileState) → Spells bytes config image extras →
    store.BothTell (λ before. durable.IsDurable bytes) held now → IfSome now (LeavesSpelling config image extras)
leaves_spelling bytes config image extras None None s told = tt
leaves_spelling bytes config image extras (Some a) (Some b) s told = λ left l.
    subst (λ x. Spells x config image extras) (sym (left_bytes bytes left b told l)) s
leaves_spelling bytes config image extras None (Some b) s told = absurd told
leaves_spelling bytes config image extras (Some a) None s told = absurd told

-- ---- the file is closed

at_least_one : (n : ℕ) → 0 < counted n
at_least_one n = omega arith

module _ (flash f : FileFlashState) (flushed : Result (Unit {0}) NotDurable) (config : Config)
    (old new : LineDeskState) (h : Flushes flash f flushed)
    (opens : IfSome f.file (LeavesLive f.config f.memory.shape f.memory.extras))
    (cause : f.failed ≡ true → 0 < f.faults) (same : config ≡ f.config) where
  frozen : flash.failed ≡ true → f.failed ≡ true
  frozen bad = (h.frozen bad).failed

  -- what was flushed is durable
  flushed_durable : flushed ≡ Ok tt → IsDurable f
  flushed_durable done = record {
    failed = sym h.answer ∙ ap is_err done;
    loses = subst (λ r. OnOk r (IfSome f.file (LosesOnly f.memory.shape f.memory.image []))) done h.durable;
    opens = opens;
  }

  told_closed : (left : FileFlashState) (bytes : List ℕ) → bytes ≡ image_bytes left →
      new ≡ after (λ c. with_left left (with_put bytes c)) old →
      new.told ≡ option_map (with_closed true left) old.told
  told_closed left bytes is e =
      ap (λ (d : LineDeskState). d.told) e ∙ ap (λ b. option_map (λ c. with_left left (with_put b c)) old.told) is

  faults_closed : (left : FileFlashState) (bytes : List ℕ) →
      new ≡ after (λ c. with_left left (with_put bytes c)) old → new.faults ≡ old.faults
  faults_closed left bytes e = ap (λ (d : LineDeskState). d.faults) e

  -- its image file was put there, or was to be
  pub closes_by : (bytes : List ℕ) (result : Result (Unit {0}) Stop) → flushed ≡ Ok tt →
      Spells bytes f.config f.memory.image f.memory.extras → PutsImage f bytes old new result →
      ClosesFlash flash old new result config
  closes_by bytes (Ok done) flat s put =
      let left : FileFlashState = record f { file = put.0 } in
      let live = flushed_durable flat in
      let spelled = leaves_spelling bytes f.config f.memory.image f.memory.extras f.file put.0 s put.2 in
      record {
        left = left;
        put = true;
        same = sym same;
        stays = h.stays;
        frozen = frozen;
        cause = cause;
        fails = λ e. absurd (cc);
        done = (refl, live.failed);
        spelled = spelled;
        closed = λ other up. spelled;
        kept = inl (λ up. spelled);
        leaves = told_closed left bytes s.same put.1;
        faults = faults_closed left bytes put.1;
      }
  closes_by bytes (Err stop.Fault) flat s put =
      let left : FileFlashState = with_failure f put.0 in
      let shut : IsClosed left = λ up. absurd (false≢true (sym up)) in
      record {
        left = left;
        put = true;
        same = sym same;
        stays = h.stays;
        frozen = λ bad. refl;
        cause = λ bad. at_least_one f.faults;
        fails = λ e. refl;
        done = tt;
        spelled = tt;
        closed = λ other. shut;
        kept = inl shut;
        leaves = told_closed left bytes s.same put.1;
        faults = faults_closed left bytes put.1;
      }
  closes_by bytes (Err stop.Memory) flat s put = record {
    left = f;
    put = true;
    same = sym same;
    stays = h.stays;
    frozen = frozen;
    cause = cause;
    fails = λ e. absurd (cc);
    done = tt;
    spelled = tt;
    closed = λ other. absurd (other refl);
    kept = inr (flushed_durable flat);
    leaves = told_closed f bytes s.same put;
    faults = faults_closed f bytes put;
  }

  -- there was none
  pub closes_without : (why : Stop) → IsStoppedBy flushed why → new ≡ after (with_left f) old →
      ClosesFlash flash old new (Err why) config
  closes_without stop.Fault bad e =
      let failed : f.failed ≡ true = sym h.answer ∙ bad in
      let shut : IsClosed f = λ up. absurd (false≢true (sym up ∙ failed)) in
      record {
        left = f;
        put = false;
        same = sym same;
        stays = h.stays;
        frozen = frozen;
        cause = cause;
        fails = λ e. failed;
        done = tt;
        spelled = tt;
        closed = λ other. shut;
        kept = inl shut;
        leaves = ap (λ (d : LineDeskState). d.told) e;
        faults = ap (λ (d : LineDeskState). d.faults) e;
      }
  closes_without stop.Memory flat e = record {
    left = f;
    put = false;
    same = sym same;
    stays = h.stays;
    frozen = frozen;
    cause = cause;
    fails = λ e. absurd (cc);
    done = tt;
    spelled = tt;
    closed = λ other. absurd (other refl);
    kept = inr (flushed_durable flat);
    leaves = ap (λ (d : LineDeskState). d.told) e;
    faults = ap (λ (d : LineDeskState). d.faults) e;
  }
