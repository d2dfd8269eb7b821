-- A flash that was flushed is durable.
use Rattle.std.proofs.Common.{◌≡◌, [], IfSome, Result, Ok, ap, sym, subst, ◌∙◌}
use Rattle.flash_model.specs.declared.cached.NotDurable.{NotDurable}
use Rattle.file_flash.specs.FileFlashState.{FileFlashState}
use Rattle.live_flash.specs.Flushes.{Flushes}
use Rattle.live_flash.specs.Losing.{LeavesLive, LosesOnly}
use Rattle.live_session.specs.Saying.{IsDurable}

pub flushed_durably : (old new lent : FileFlashState) (result : Result (Unit {0}) NotDurable) → Flushes old new result →
    result ≡ Ok tt → lent ≡ new → IfSome lent.file (LeavesLive lent.config lent.memory.shape lent.memory.extras) →
    IsDurable lent
flushed_durably old new lent result f done is opens =
    let well = subst (Flushes old new) done f in
    record {
      failed = ap (λ (x : FileFlashState). x.failed) is ∙ sym well.answer;
      loses = subst (λ (x : FileFlashState). IfSome x.file (LosesOnly x.memory.shape x.memory.image [])) (sym is)
          well.durable;
      opens = opens;
    }
