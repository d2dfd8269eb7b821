-- What serving a key script comes to.
use Rattle.std.specs.Prelude.{◌≡◌, ◌⊎◌, ◌+◌, ◌<◌, ℕ, Bool, true, false, List, ◌++◌, length, take, IfSome, MatchBool, Result, Ok, Err}
use Rattle.tx_types.specs.declared.config.Config.{Config}
use Rattle.flash_model.specs.Calls.{BothTell, Carries, NoMoreToCome}
use Rattle.flash_model.specs.Flash.{FlashState, IsSteady}
use Rattle.flash_model.specs.Operations.{moment_of}
use Rattle.mounted_session.specs.Mounting.{StaysQuiet}
use Rattle.mounted_session.specs.Sessions.{is_mounted}
use Rattle.page_keys.specs.KeyMaps.{KeyMap}
use Rattle.page_keys.specs.KeyReplies.{key_texts}
use Rattle.page_keys.specs.KeyRuns.{KeyPoint, IsKeyRun, AreFewBreaks, OpensFlash, UnopenedRun, last_point, mentions_in}
use Rattle.page_keys.specs.KeySessions.{IsKeyImage, IsWhy, KeySession, StandsAt, flash_in}
use Rattle.page_keys.specs.declared.command.KeyCommand.{KeyCommand}
use Rattle.page_keys.specs.declared.key_error.KeyServeError.{KeyServeError}
use Rattle.page_keys.specs.declared.key_error.KeyServeError.TheVariants as failed
use Rattle.page_keys.specs.declared.key_reply.KeyReply.{KeyReply}

-- where a run begins: the flash is as it was handed in, but for reads. A flash that is live and tells that no break is
-- to come has met none.
pub record IsFirstFlash (init first : FlashState) : Type 0 where
  pub moment : moment_of first ≡ moment_of init
  pub told : BothTell NoMoreToCome init.told first.told
  pub steady : IsSteady init → (first.live ≡ true) × (first.faults ≡ init.faults)

-- a flash with power is opened first, and another one is as it was handed in
abbrev pub BeginsFlash : Config → FlashState → Bool → FlashState → Type 0
BeginsFlash its old up first =
    MatchBool old.live (OpensFlash its up old first) ((up ≡ false) × (first ≡ old))

-- the session that serving begins with stands for a map
pub record BeginsKeys {F : Type 0} (state : F → FlashState) (its : Config) (init : FlashState)
    (s : KeySession F) : Type 0 where
  pub image : IsKeyImage its init
  pub first : IsFirstFlash init (state (flash_in s))
  pub opened : BeginsFlash its init (is_mounted s) (state (flash_in s))
  pub keys : KeyMap
  pub stands : StandsAt state its (mentions_in its (moment_of init)) keys s

-- There is one run over these commands, before which a flash with power was opened. It leaves this flash, that of its
-- last point. Of its replies the first `told` were told.
pub record ServesKeyRun (its : Config) (cs : List KeyCommand) (told : ℕ) (old left : FlashState)
    (before after : List ℕ) : Type 0 where
  pub first : KeyPoint
  pub begins : IsFirstFlash old first.flash
  pub opened : BeginsFlash its old first.up first.flash
  pub replies : List KeyReply
  pub points : List KeyPoint
  pub run : IsKeyRun its first cs replies points
  pub last : left ≡ (last_point first points).flash
  pub text : after ≡ before ++ key_texts (take told replies)
  pub few : IfSome old.told (λ t. AreFewBreaks t.cuts t.breaks cs replies)

-- No command was served: the store could not be opened, for want of memory or since the image is no image of keys. The
-- flash is as it was handed in, but for reads, and has the power that it had.
pub record ServesNone (old new : FlashState) (before after : List ℕ) : Type 0 where
  pub still : StaysQuiet old new
  pub calls : Carries old new false
  pub text : after ≡ before

-- What serving comes to where the image handed in is sound and its pages are buckets: the flash comes back as the run
-- leaves it, and where no memory was left power may have been turned on after that, and it was read at most.
abbrev pub ServesScript : Config → List KeyCommand → FlashState → FlashState → List ℕ → List ℕ →
    Result (Unit {0}) KeyServeError → Type 0
ServesScript its cs old new before after (Ok u) =
    ServesKeyRun its cs (length cs) old new before after
ServesScript its cs old new before after (Err failed.Memory) =
    ServesNone old new before after
    ⊎ ((told : ℕ) × (told < length cs) × (left : FlashState) × StaysQuiet left new
    × (ServesKeyRun its (take told cs) told old left before after
    ⊎ ServesKeyRun its (take (told + 1) cs) told old left before after))
ServesScript its cs old new before after (Err _) = ⊥

-- There is one run over these commands in which the store was never open, nor was it opened before them. It leaves this
-- flash. Of its replies the first `told` were told.
pub record ServesUnopenedRun (its : Config) (cs : List KeyCommand) (told : ℕ) (old left : FlashState)
    (before after : List ℕ) : Type 0 where
  pub first : FlashState
  pub opened : BeginsFlash its old false first
  pub replies : List KeyReply
  pub run : UnopenedRun its first cs replies left
  pub text : after ≡ before ++ key_texts (take told replies)

-- What serving comes to where it is another one: the store is never open. The flash comes back as the run leaves it,
-- and where the run ends early power may have been turned on after that, and it was read at most.
abbrev pub ServesUnopened : Config → List KeyCommand → FlashState → FlashState → List ℕ → List ℕ →
    Result (Unit {0}) KeyServeError → Type 0
ServesUnopened its cs old new before after (Ok u) =
    ServesUnopenedRun its cs (length cs) old new before after
ServesUnopened its cs old new before after (Err why) =
    ServesNone old new before after
    ⊎ ((told : ℕ) × (told < length cs) × (left : FlashState) × StaysQuiet left new
    × (ServesUnopenedRun its (take told cs) told old left before after
    ⊎ ((why ≡ failed.Memory) × ServesUnopenedRun its (take (told + 1) cs) told old left before after)))

-- and why it ends where it is another one
abbrev pub RefusesKeys : Config → FlashState → Result (Unit {0}) KeyServeError → Type 0
RefusesKeys its old (Ok u) = Unit {0}
RefusesKeys its old (Err why) = IsWhy its old why
