-- A command that ended on a store which was opened for it.
use Rattle.page_keys.proofs.Common.{◌≡◌, Bool, true, false, Result, Ok, Err, subst, shape_of, Config, FlashState, Moment, moment_of, IsSoundImage, array_in, Ends, KeyServeError, KeySession, flash_in}
use Rattle.std.specs.Prelude.{IfErr}
use Rattle.judged_records.specs.Images.{IsLeastImageBreach}
use Rattle.mounted_session.specs.Sessions.{is_mounted}
use Rattle.mounted_session.specs.declared.session.Session.TheVariants as session
use Rattle.mounted_session.proofs.Mounting.{quiet_twice}
use Rattle.page_keys.specs.KeySessions.{IsWhy, Mounts}
use Rattle.page_keys.specs.Stores.{IsFirstBad}
use Rattle.page_keys.specs.declared.key_error.KeyServeError.TheVariants as failed
use Rattle.page_keys.specs.declared.key_reply.KeyReply.{KeyReply}

-- the cause is one of the image
why_still : (its : Config) (a b : FlashState) (why : KeyServeError) → moment_of b ≡ moment_of a → IsWhy its b why →
    IsWhy its a why
why_still its a b (failed.Unsound law slot) same h =
    subst (λ (m : Moment). IsLeastImageBreach its.protocol its.logical (shape_of its) m.image
    (record { law = law; slot = slot })) same h
why_still its a b (failed.Bucket page) same h =
    subst (λ (m : Moment). IsSoundImage its.protocol its.logical (shape_of its) m.image
    × IsFirstBad its (array_in its.protocol its.logical m.image) page) same h
why_still its a b failed.Memory same h = tt

pub ends_opened : {F : Type 0} (state : F → FlashState) (its : Config) (old mid new : KeySession F)
    (result : Result KeyReply KeyServeError) → is_mounted mid ≡ true → Mounts state its (flash_in old) mid →
    IfErr result (Ends its (state (flash_in mid)) (state (flash_in new))) →
    IfErr result (Ends its (state (flash_in old)) (state (flash_in new)))
ends_opened state its old mid new (Ok r) on opens ends = tt
ends_opened state its old (session.Unmounted b) new (Err why) on opens ends =
    (let no : false ≡ true = on in absurd cc)
ends_opened state its old (session.Mounted k) new (Err why) on opens ends = record {
  cause = why_still its (state (flash_in old)) (state k.device.flash) why opens.still.still.moment ends.cause;
  still = quiet_twice (state (flash_in old)) (state k.device.flash) (state (flash_in new)) opens.still ends.still;
}
