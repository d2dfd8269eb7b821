-- The session that serving a key script begins with.
use Rattle.page_keys.proofs.Common.{◌≡◌, ◌≤◌, ℕ, true, false, List, Result, Ok, Err, refl, sym, ap, ◌∙◌, subst, inl, arith, OnOk, Config, Shape, checked, shape_of, FlashState, Carries, Moment, moment_of, ArrayState, Pages, IsSoundImage, array_in, AreBuckets, EncodesMap, KeyMap, mentions_in, BeginsKeys, Ends, IsKeyImage, KeyCommand, KeyServeError, KeySession}
use Rattle.std.specs.Prelude.{◌<◌, MatchBool}
use Rattle.flash_model.specs.Flash.{IsSteady}
use Rattle.page_keys.specs.KeyRuns.{OpensFlash}
use Rattle.page_keys.specs.KeyServed.{BeginsFlash, ServesScript}
use Rattle.page_keys.specs.KeySessions.{Mounts, StandsUnmounted}
use Rattle.mounted_session.specs.declared.session.Session.TheVariants as session
use Rattle.mounted_session.specs.Mounting.{MeetsFault, MomentStays}
use Rattle.mounted_session.specs.Sessions.{MountsFirst}
use Rattle.mounted_session.proofs.Beginning.{first_by, first_still}
use Rattle.mounted_session.proofs.Telling.{none_spent}
use Rattle.flash_model.proofs.CallLemmas.{no_more_same}
use Rattle.page_keys.specs.KeySessions.{Fits, flash_in, Opens}
use Rattle.page_keys.specs.Stores.{KeyStoreState}
use Rattle.page_keys.proofs.OfPut.Existing.{shows_some}
use Rattle.page_keys.proofs.OfServe.KeyAllLemmas.{never_for}
use Rattle.page_keys.proofs.OfServe.KeyServeLemmas.{key_image, opens_flash, opens_not}

module _ {F : Type 0} (state : F → FlashState) (its : Config) (flash : F) where
  -- an image that stays is an image of keys before and after
  stays_image : (new : FlashState) → moment_of new ≡ moment_of (state flash) → IsKeyImage its new →
      IsKeyImage its (state flash)
  stays_image new same image = record {
    sound = subst (λ (x : Moment). IsSoundImage its.protocol its.logical (shape_of its) x.image)
        same image.sound;
    buckets = subst (λ (x : Moment). AreBuckets its (array_in its.protocol its.logical x.image))
        same image.buckets;
  }

  stands_still : (new : FlashState) → moment_of new ≡ moment_of (state flash) →
      IsKeyImage its (state flash) → (m : KeyMap) →
      EncodesMap its (array_in its.protocol its.logical (state flash).image) m →
      StandsUnmounted its (mentions_in its (moment_of (state flash))) m new
  stands_still new same image m shows = record {
    sound = subst (λ (x : Moment). IsSoundImage its.protocol its.logical (shape_of its) x.image)
        (sym same) image.sound;
    shows = subst (λ (x : Moment). EncodesMap its (array_in its.protocol its.logical x.image) m)
        (sym same) shows;
    mentions = subst (λ (x : Moment). (page : ℕ) → page < its.logical →
        mentions_in its x page ≤ mentions_in its (moment_of (state flash)) page) (sym same)
        (λ page lt. omega arith);
  }

module _ {F : Type 0} (state : F → FlashState) (its : Config) (flash : F) where
  -- a flash with power on which the store is not opened
  meets_begins : (new : F) → (state flash).live ≡ true → MeetsFault (state flash) (state new) →
      BeginsFlash its (state flash) false (state new)
  meets_begins new on meets =
      subst (λ b. MatchBool b (OpensFlash its false (state flash) (state new))
      ((false ≡ false) × (state new ≡ state flash))) (sym on) (opens_not its (state flash) (state new) meets)

  -- and one without
  alone_begins : (state flash).live ≡ false → BeginsFlash its (state flash) false (state flash)
  alone_begins off =
      subst (λ b. MatchBool b (OpensFlash its false (state flash) (state flash))
      ((false ≡ false) × (state flash ≡ state flash))) (sym off) (refl, refl)

  begins : (s : KeySession F) → (state flash).live ≡ true → Mounts state its flash s →
      IsKeyImage its (state flash) → BeginsKeys state its (state flash) s
  begins (session.Mounted k) on opens image =
      let shown = shows_some its (array_in its.protocol its.logical (state flash).image) image.buckets in
      record {
        image = image;
        first = record {
          moment = opens.still.still.moment;
          told = opens.still.still.told;
          steady = λ steady. (opens.fits.live, opens.still.quiet);
        };
        opened = subst (λ b. MatchBool b (OpensFlash its true (state flash) (state k.device.flash))
            ((true ≡ false) × (state k.device.flash ≡ state flash))) (sym on) (opens_flash state its flash k opens);
        keys = shown.0;
        stands = record {
          shows = subst (λ (p : Pages). EncodesMap its p shown.0)
              (sym (ap (λ (s : ArrayState). s.pages) opens.machine)) shown.1;
          mentions = opens.seen (mentions_in its (moment_of (state flash))) (λ page lt. omega arith);
        };
      }
  begins (session.Unmounted new) on meets image =
      let shown = shows_some its (array_in its.protocol its.logical (state flash).image) image.buckets in
      record {
        image = image;
        first = record {
          moment = meets.still.moment;
          told = meets.still.told;
          steady = λ steady. absurd (none_spent (state flash).told (state new).told
              (state new).live steady.none meets.spends);
        };
        opened = meets_begins new on meets;
        keys = shown.0;
        stands = stands_still state its flash (state new) meets.still.moment image shown.0 shown.1;
      }

  -- a flash without power, which is not opened
  stands_alone : (state flash).live ≡ false → IsKeyImage its (state flash) →
      BeginsKeys state its (state flash) (session.Unmounted flash)
  stands_alone off image =
      let shown = shows_some its (array_in its.protocol its.logical (state flash).image) image.buckets in
      record {
        image = image;
        first = record {
          moment = refl;
          told = no_more_same (state flash).told;
          steady = λ steady. (steady.live, refl);
        };
        opened = alone_begins off;
        keys = shown.0;
        stands = stands_still state its flash (state flash) refl image shown.0 shown.1;
      }

  unopened_begins : (s : KeySession F) → (state flash).live ≡ true → Mounts state its flash s →
      (IsKeyImage its (state flash) → ⊥) → BeginsFlash its (state flash) false (state (flash_in s))
  unopened_begins (session.Mounted k) on opens not =
      absurd (not (stays_image state its flash (state k.device.flash) opens.still.still.moment
      (key_image state its k opens.fits)))
  unopened_begins (session.Unmounted new) on meets not = meets_begins new on meets

  steady_begun : (s : KeySession F) → Mounts state its flash s → IsSteady (state flash) →
      IsKeyImage its (state flash)
  steady_begun (session.Mounted k) opens steady =
      stays_image state its flash (state k.device.flash) opens.still.still.moment (key_image state its k opens.fits)
  steady_begun (session.Unmounted new) meets steady =
      absurd (none_spent (state flash).told (state new).told (state new).live steady.none meets.spends)

  mounts_fits : (s : KeySession F) → checked its ≡ Ok (state flash).shape → Mounts state its flash s → Fits state its s
  mounts_fits (session.Mounted k) check opens = opens.fits
  mounts_fits (session.Unmounted new) check meets = check ∙ ap (λ (x : Shape). Ok x) (sym meets.still.shape)

  -- the session that serving begins with
  module _ (s : KeySession F) (first : MountsFirst state (Opens state its) flash s) where
    pub first_begins : IsKeyImage its (state flash) → BeginsKeys state its (state flash) s
    first_begins image = first_by state (Opens state its) flash (λ t. BeginsKeys state its (state flash) t)
        (λ t on h. begins t on h image) (λ off. stands_alone off image) s first

    pub first_unopened : (IsKeyImage its (state flash) → ⊥) →
        BeginsFlash its (state flash) false (state (flash_in s))
    first_unopened not = first_by state (Opens state its) flash
        (λ t. BeginsFlash its (state flash) false (state (flash_in t)))
        (λ t on h. unopened_begins t on h not) (λ off. alone_begins off) s first

    pub first_steady : IsSteady (state flash) → IsKeyImage its (state flash)
    first_steady steady = first_by state (Opens state its) flash (λ t. IsKeyImage its (state flash))
        (λ t on h. steady_begun t h steady) (λ off. let both = sym off ∙ steady.live in cc) s first

    pub first_fits : checked its ≡ Ok (state flash).shape → Fits state its s
    first_fits check = first_by state (Opens state its) flash (λ t. Fits state its t)
        (λ t on h. mounts_fits t check h) (λ off. check) s first

    pub first_stays : MomentStays (state flash) (state (flash_in s))
    first_stays = first_still state (Opens state its) flash (λ (k : KeyStoreState F). k.device.flash)
        (λ k h. h.still) s first

-- nothing was served, for want of memory
pub begin_ended : (its : Config) (list : List KeyCommand) (old new : FlashState) (why : KeyServeError)
    (out : List ℕ) → IsKeyImage its old → Ends its old new why → Carries old new false →
    ServesScript its list old new out out (Err why)
begin_ended its list old new why out image ends calls =
    subst (λ (w : KeyServeError). ServesScript its list old new out out (Err w))
    (sym (never_for its old why image ends.cause))
    (inl (record { still = ends.still; calls = calls; text = refl }))

pub on_each : {A E : Type 0} (P : Type 0) (r : Result A E) → P → OnOk r P
on_each P (Ok a) h = h
on_each P (Err e) h = tt

pub same_shape : (its : Config) (old new : Shape) → checked its ≡ Ok old → checked its ≡ Ok new →
    new ≡ old
same_shape its old new was is = cc
