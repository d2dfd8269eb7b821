-- How serving a key script goes on, command by command.
use Rattle.page_keys.proofs.Common.{◌≡◌, ℕ, ◌+◌, ◌<◌, ◌≤◌, true, false, List, [], ◌∷◌, ◌++◌, length, take, Ok, Err, Result, refl, sym, ap, subst, ◌∙◌, inl, inr, arith, append_assoc, get_or, OnOk, append-nil, take_more, take-length, take-append_seam, checked, shape_of, Config, Shape, FlashState, Contents, Moment, moment_of, IsSoundImage, array_in, AreBuckets, EncodesMap, KeyMap, IsKeyPoint, KeyPoint, ServesKeys, mentions_in, BeginsKeys, Ends, Fits, IsKeyImage, ServesOne, flash_in, KeyCommand, KeyServeError, KeyReply, KeySession}
use Rattle.std.specs.Prelude.{OnErr}
use Rattle.std.specs.Result.{is_err}
use Rattle.std.proofs.lemmas.List.{take_all, length-take-le}
use Rattle.std.proofs.lemmas.Grind.{flat_map-append}
use Rattle.judged_records.specs.Images.{IsLeastImageBreach}
use Rattle.judged_records.proofs.OfNotes.OneBreach.{sound_unbroken}
use Rattle.page_keys.specs.KeyReplies.{key_text, key_texts}
use Rattle.page_keys.specs.KeyRuns.{IsKeyRun, MentionsUpTo, last_point, seen_after, seen_next}
use Rattle.mounted_session.specs.Mounting.{StaysQuiet}
use Rattle.mounted_session.proofs.Mounting.{nothing_done}
use Rattle.tx_engine.proofs.OfDevice.Seen.{image_seen}
use Rattle.page_keys.specs.KeyServed.{BeginsFlash, IsFirstFlash, RefusesKeys, ServesKeyRun, ServesScript}
use Rattle.page_keys.specs.KeySessions.{IsWhy, StandsAt, point_of}
use Rattle.page_keys.specs.Stores.{IsFirstBad}
use Rattle.page_keys.specs.declared.key_error.KeyServeError.TheVariants as failed
use Rattle.mounted_session.specs.declared.session.Session.TheVariants as session
use Rattle.page_keys.proofs.OfServe.KeyRunLemmas.{as_many, few_first, last_is_point, last_more, run_more, seen_more_over, seen_over}
use Rattle.page_keys.proofs.OfServe.KeyServeLemmas.{mounted_point}
use Rattle.page_keys.proofs.OfBucket.Parts.{shown_buckets}

-- an image that is served does not end the run
pub never_for : (its : Config) (s : FlashState) (why : KeyServeError) → IsKeyImage its s → IsWhy its s why →
    why ≡ failed.Memory
never_for its s (failed.Unsound law slot) image cause =
    absurd (sound_unbroken its.protocol its.logical (shape_of its) s.image
    (record { law = law; slot = slot }) image.sound cause)
never_for its s (failed.Bucket page) image cause =
    absurd (cause.1.bad (image.buckets page cause.1.exists))
never_for its s failed.Memory image cause = refl

pub text_more : (rs : List KeyReply) (r : KeyReply) (before between after : List ℕ) →
    between ≡ before ++ key_texts rs → after ≡ between ++ key_text r →
    after ≡ before ++ key_texts (rs ++ r ∷ [])
text_more rs r before between after was is =
    let more : key_texts (rs ++ r ∷ []) ≡ key_texts rs ++ key_text r =
    flat_map-append key_text rs (r ∷ []) ∙ ap (λ (l : List ℕ). key_texts rs ++ l) (append-nil (key_text r)) in
    is ∙ ap (λ (l : List ℕ). l ++ key_text r) was ∙ append_assoc before (key_texts rs) (key_text r)
    ∙ ap (λ (l : List ℕ). before ++ l) (sym more)

pub taken_more : (list : List KeyCommand) (at : ℕ) (c : KeyCommand) → at < length list →
    c ≡ get_or list at c → take (at + 1) list ≡ take at list ++ c ∷ []
taken_more list at c lt read =
    take_more list at c lt ∙ ap (λ (x : KeyCommand). take at list ++ x ∷ []) (sym read)

pub taken : (list : List KeyCommand) (at : ℕ) → at < length list → length (take at list) ≡ at
taken list at lt = length-take-le at list (omega arith)

-- an image that is no image of keys stays
pub other_image : (its : Config) (init : FlashState) (s : FlashState) → (IsKeyImage its init → ⊥) →
    moment_of s ≡ moment_of init → IsKeyImage its s → ⊥
other_image its init s not same image = not (record {
  sound = subst (λ (x : Moment). IsSoundImage its.protocol its.logical (shape_of its) x.image) same
      image.sound;
  buckets = subst (λ (x : Moment). AreBuckets its (array_in its.protocol its.logical x.image)) same
      image.buckets;
})

module _ {F : Type 0} (state : F → FlashState) (its : Config) where
  -- the point that a session is at
  point_is : (s : KeySession F) (seen : ℕ → ℕ) (m : KeyMap) → Fits state its s →
      StandsAt state its seen m s → IsKeyPoint its (point_of state m s)
  point_is (session.Mounted k) seen m fits stands = mounted_point state its k fits m stands.shows
  point_is (session.Unmounted flash) seen m fits stands =
      record { sound = stands.sound; shows = stands.shows; live = λ up. cc }

  -- and its image
  image_is : (s : KeySession F) (seen : ℕ → ℕ) (m : KeyMap) → Fits state its s →
      StandsAt state its seen m s → IsKeyImage its (state (flash_in s))
  image_is s seen m fits stands =
      let point = point_is s seen m fits stands in
      record {
        sound = point.sound;
        buckets = shown_buckets its
            (array_in its.protocol its.logical (state (flash_in s)).image) m point.shows;
      }

  -- what its image mentions
  mentions_are : (s : KeySession F) (seen : ℕ → ℕ) (m : KeyMap) → Fits state its s →
      StandsAt state its seen m s → MentionsUpTo its seen (point_of state m s)
  mentions_are (session.Mounted k) seen m fits stands page lt =
      subst (λ (c : Config). mentions_in c (moment_of (state k.device.flash)) page ≤ seen page) fits.config
      (image_seen state its.protocol seen k.device page fits.always stands.mentions
      (subst (λ (c : Config). page < c.logical) (sym fits.config) lt))
  mentions_are (session.Unmounted flash) seen m fits stands page lt = stands.mentions page lt

  -- and what is known of it then
  stands_next : (s : KeySession F) (seen : ℕ → ℕ) (c : KeyCommand) (r : KeyReply) (m : KeyMap) →
      StandsAt state its (seen_after its seen c r) m s →
      StandsAt state its (seen_next its seen c r (point_of state m s)) m s
  stands_next (session.Mounted k) seen c r m stands = stands
  stands_next (session.Unmounted flash) seen c r m stands = record {
    sound = stands.sound;
    shows = stands.shows;
    mentions = λ page lt. omega arith;
  }

  pub shape_is : (s : KeySession F) → Fits state its s →
      checked its ≡ Ok (state (flash_in s)).shape
  shape_is (session.Mounted k) fits = fits.check
  shape_is (session.Unmounted flash) fits = fits

  -- these commands were served, and their replies told
  pub record HasServed (init : FlashState) (cs : List KeyCommand) (s : KeySession F)
      (before after : List ℕ) : Type 0 where
    pub first : KeyPoint
    pub begins : IsFirstFlash init first.flash
    pub opened : BeginsFlash its init first.up first.flash
    pub replies : List KeyReply
    pub points : List KeyPoint
    pub run : IsKeyRun its first cs replies points
    pub left : KeyMap
    pub stands : StandsAt state its
        (seen_over its (mentions_in its (moment_of first.flash)) cs replies points) left s
    pub last : last_point first points ≡ point_of state left s
    pub text : after ≡ before ++ key_texts replies

  pub served_none : (init : FlashState) (s : KeySession F) (before : List ℕ) → Fits state its s →
      BeginsKeys state its init s → HasServed init [] s before before
  served_none init s before fits begins =
      let seen = mentions_in its (moment_of init) in
      let point = point_is s seen begins.keys fits begins.stands in
      let same : mentions_in its (moment_of (state (flash_in s))) ≡ seen =
      ap (mentions_in its) begins.first.moment in
      record {
        first = point_of state begins.keys s;
        begins = begins.first;
        opened = begins.opened;
        replies = [];
        points = [];
        run = record { begins = point; runs = tt };
        left = begins.keys;
        stands = subst (λ (x : ℕ → ℕ). StandsAt state its x begins.keys s) (sym same) begins.stands;
        last = refl;
        text = sym (append-nil before);
      }

  module _ (init : FlashState) (cs : List KeyCommand) (c : KeyCommand) (r : KeyReply)
      (s t : KeySession F) (before between : List ℕ) (served : HasServed init cs s before between)
      (one : ServesOne state its c s r t) where
    pub served_more : (after : List ℕ) → after ≡ between ++ key_text r →
        HasServed init (cs ++ c ∷ []) t before after
    served_more after told =
        let seen = mentions_in its (moment_of served.first.flash) in
        let over = seen_over its seen cs served.replies served.points in
        let inside = one.in_run over served.left served.stands in
        let point = point_is t _ inside.left one.fits inside.stands in
        let mentions = mentions_are t _ inside.left one.fits inside.stands in
        record {
          first = served.first;
          begins = served.begins;
          opened = served.opened;
          replies = served.replies ++ r ∷ [];
          points = served.points ++ point_of state inside.left t ∷ [];
          run = record {
            begins = served.run.begins;
            runs = run_more its c r (point_of state inside.left t) inside.spent seen served.first cs
                served.replies served.points served.run.runs inside.may
                (subst (λ (p : KeyPoint). ServesKeys its inside.spent c p r
                (point_of state inside.left t)) (sym served.last) inside.serves) (point, mentions);
          };
          left = inside.left;
          stands = subst (λ (x : ℕ → ℕ). StandsAt state its x inside.left t)
              (sym (seen_more_over its c r (point_of state inside.left t) seen served.first cs
              served.replies served.points served.run.runs)) (stands_next t over c r inside.left inside.stands);
          last = last_more its c r (point_of state inside.left t) served.first served.points;
          text = text_more served.replies r before between after served.text told;
        }

  -- what was served is a run, of whose replies all or all but the last were told
  module _ (init : FlashState) (cs : List KeyCommand) (s : KeySession F) (before after : List ℕ)
      (served : HasServed init cs s before after) (new : FlashState) (still : new ≡ state (flash_in s)) where
    pub run_of : (told : ℕ) (now : List ℕ) → now ≡ before ++ key_texts (take told served.replies) →
        ServesKeyRun its cs told init new before now
    run_of told now text = record {
      first = served.first;
      begins = served.begins;
      opened = served.opened;
      replies = served.replies;
      points = served.points;
      run = served.run;
      last = still ∙ ap (λ (p : KeyPoint). p.flash) (sym served.last);
      text = text;
      few = few_first its (mentions_in its (moment_of served.first.flash)) served.first cs
          served.replies served.points init.told served.begins.told served.run.runs;
    }

    many : length served.replies ≡ length cs
    many = as_many its (mentions_in its (moment_of served.first.flash)) served.first cs
        served.replies served.points served.run.runs

    pub run_told : ServesKeyRun its cs (length cs) init new before after
    run_told =
        run_of (length cs) after (served.text
        ∙ ap (λ (l : List KeyReply). before ++ key_texts l)
        (sym (ap (λ n. take n served.replies) (sym many) ∙ take-length served.replies)))

  -- a reply that was not told
  pub untold : (init : FlashState) (cs : List KeyCommand) (c : KeyCommand) (r : KeyReply)
      (s t : KeySession F) (before between : List ℕ) (new : FlashState) →
      HasServed init cs s before between → ServesOne state its c s r t →
      new ≡ state (flash_in t) →
      ServesKeyRun its (cs ++ c ∷ []) (length cs) init new before between
  unfolding served_more
  untold init cs c r s t before between new served one still =
      let more = served_more init cs c r s t before between served one (between ++ key_text r) refl in
      let count : length served.replies ≡ length cs =
      as_many its (mentions_in its (moment_of served.first.flash)) served.first cs
      served.replies served.points served.run.runs in
      run_of init (cs ++ c ∷ []) t before (between ++ key_text r) more new still (length cs) between
      (served.text ∙ ap (λ (l : List KeyReply). before ++ key_texts l)
      (sym (ap (λ n. take n (served.replies ++ r ∷ [])) (sym count)
      ∙ take-append_seam served.replies (r ∷ []))))

  -- ---- how serving ends

  -- one command more in the list
  pub served_next : (init : FlashState) (list : List KeyCommand) (at : ℕ) (c : KeyCommand)
      (r : KeyReply) (s t : KeySession F) (before between after : List ℕ) → at < length list →
      c ≡ get_or list at c → HasServed init (take at list) s before between →
      ServesOne state its c s r t → after ≡ between ++ key_text r →
      HasServed init (take (at + 1) list) t before after
  served_next init list at c r s t before between after lt read served one told =
      subst (λ (cs : List KeyCommand). HasServed init cs t before after)
      (sym (taken_more list at c lt read))
      (served_more init (take at list) c r s t before between served one after told)

  -- no memory for the line of a reply
  pub ended_untold : (init : FlashState) (list : List KeyCommand) (at : ℕ) (c : KeyCommand)
      (r : KeyReply) (s t : KeySession F) (new : F) (before between after : List ℕ) →
      at < length list → c ≡ get_or list at c → HasServed init (take at list) s before between →
      ServesOne state its c s r t → new ≡ flash_in t → after ≡ between →
      ServesScript its list init (state new) before after (Err failed.Memory)
  ended_untold init list at c r s t new before between after lt read served one is same =
      let run = untold init (take at list) c r s t before between (state new) served one
      (ap state is) in
      inr (
        at,
        lt,
        state new,
        nothing_done (state new),
        inr (subst (λ (x : List ℕ). ServesKeyRun its (take (at + 1) list) at init (state new) before x)
            (sym same)
            (subst (λ (cs : List KeyCommand).
            ServesKeyRun its cs at init (state new) before between)
            (sym (taken_more list at c lt read))
            (subst (λ n. ServesKeyRun its (take at list ++ c ∷ []) n init (state new) before between)
            (taken list at lt) run))),
      )

  -- no more is served
  pub ended_in : (init : FlashState) (list : List KeyCommand) (at : ℕ) (s : KeySession F)
      (t : KeySession F) (new : F) (why : KeyServeError) (before after : List ℕ) →
      at < length list → Fits state its s → HasServed init (take at list) s before after →
      Ends its (state (flash_in s)) (state (flash_in t)) why → new ≡ flash_in t →
      ServesScript its list init (state new) before after (Err why)
  ended_in init list at s t new why before after lt fits served ends is =
      let image = image_is s _ served.left fits served.stands in
      let memory = never_for its (state (flash_in s)) why image ends.cause in
      let run = run_told init (take at list) s before after served (state (flash_in s)) refl in
      subst (λ (w : KeyServeError). ServesScript its list init (state new) before after (Err w))
      (sym memory) (inr (
        at,
        lt,
        state (flash_in s),
        subst (λ (f : F). StaysQuiet (state (flash_in s)) (state f)) (sym is) ends.still,
        inl (subst (λ n. ServesKeyRun its (take at list) n init (state (flash_in s)) before after)
            (taken list at lt) run),
      ))

  -- all is served
  pub served_all : (init : FlashState) (list : List KeyCommand) (at : ℕ) (s : KeySession F)
      (new : F) (before after : List ℕ) → length list ≤ at →
      HasServed init (take at list) s before after → new ≡ flash_in s →
      ServesScript its list init (state new) before after (Ok tt)
  served_all init list at s new before after most served is =
      run_told init list s before after
      (subst (λ (cs : List KeyCommand). HasServed init cs s before after) (take_all at list most) served)
      (state new) (ap state is)

  -- where the image is another one
  pub refuses : (init : FlashState) (s : KeySession F) (new : FlashState) (why : KeyServeError) →
      moment_of (state (flash_in s)) ≡ moment_of init → Ends its (state (flash_in s)) new why →
      RefusesKeys its init (Err why)
  refuses init s new (failed.Unsound law slot) same ends =
      subst (λ (x : Moment). IsLeastImageBreach its.protocol its.logical (shape_of its) x.image
      (record { law = law; slot = slot })) same ends.cause
  refuses init s new (failed.Bucket page) same ends = (
    subst (λ (x : Moment). IsSoundImage its.protocol its.logical (shape_of its) x.image) same
        ends.cause.0,
    subst (λ (x : Moment).
        IsFirstBad its (array_in its.protocol its.logical x.image) page) same ends.cause.1,
  )
  refuses init s new failed.Memory same ends = tt

  pub moment_stays : (init : FlashState) (c : KeyCommand) (r : KeyReply) (s t : KeySession F) →
      (IsKeyImage its init → ⊥) →
      moment_of (state (flash_in s)) ≡ moment_of init → ServesOne state its c s r t →
      moment_of (state (flash_in t)) ≡ moment_of init
  moment_stays init c r s t not same one =
      (one.unopened (other_image its init (state (flash_in s)) not same)).0 ∙ same

  pub shape_here : (s : KeySession F) (new : F) → Fits state its s → new ≡ flash_in s →
      checked its ≡ Ok (state new).shape
  shape_here s new fits is =
      shape_is s fits ∙ ap (λ (x : Shape). Ok x) (sym (ap (λ f. (state f).shape) is))

pub is_ok : {E : Type 0} (P : Type 0) (r : Result (Unit {0}) E) → is_err r ≡ false → OnOk r P → P
is_ok P (Ok u) whole h = h
is_ok P (Err e) whole h = cc

pub is_not_ok : {E : Type 0} (P : Type 0) (r : Result (Unit {0}) E) → is_err r ≡ true →
    OnErr r P → P
is_not_ok P (Ok u) whole h = cc
is_not_ok P (Err e) whole h = h

-- ---- the image that is left

run_keeps : (its : Config) (cs : List KeyCommand) (told : ℕ) (old left new : FlashState)
    (before after : List ℕ) → moment_of new ≡ moment_of left → ServesKeyRun its cs told old left before after →
    IsKeyImage its new
run_keeps its cs told old left new before after still serves =
    let p = last_is_point its (mentions_in its (moment_of serves.first.flash)) serves.first cs
    serves.replies serves.points serves.run.begins serves.run.runs in
    let same : (last_point serves.first serves.points).flash.image ≡ new.image =
    sym (ap (λ (m : Moment). m.image) still ∙ ap (λ (s : FlashState). s.image) serves.last) in
    record {
      sound = subst (IsSoundImage its.protocol its.logical (shape_of its)) same p.sound;
      buckets = shown_buckets its (array_in its.protocol its.logical new.image)
          (last_point serves.first serves.points).keys
          (subst (λ (i : List Contents). EncodesMap its (array_in its.protocol its.logical i)
          (last_point serves.first serves.points).keys) same p.shows);
    }

-- what was served leaves a sound image with buckets
pub script_keeps : (its : Config) (cs : List KeyCommand) (old new : FlashState)
    (before after : List ℕ) (r : Result (Unit {0}) KeyServeError) →
    IsKeyImage its old → ServesScript its cs old new before after r → IsKeyImage its new
script_keeps its cs old new before after (Ok u) image serves =
    run_keeps its cs (length cs) old new new before after refl serves
script_keeps its cs old new before after (Err failed.Memory) image (inl none) = record {
  sound = subst (λ (x : Moment). IsSoundImage its.protocol its.logical (shape_of its) x.image)
      (sym none.still.still.moment) image.sound;
  buckets = subst (λ (x : Moment). AreBuckets its (array_in its.protocol its.logical x.image))
      (sym none.still.still.moment) image.buckets;
}
script_keeps its cs old new before after (Err failed.Memory) image (inr some) =
    let told = some.0 in
    let moment = some.3.still.moment in
    elim some.4 [
      | inl run ↦ run_keeps its (take told cs) told old some.2 new before after moment run
      | inr run ↦ run_keeps its (take (told + 1) cs) told old some.2 new before after moment run
    ]
script_keeps its cs old new before after (Err (failed.Unsound law slot)) image serves = absurd serves
script_keeps its cs old new before after (Err (failed.Bucket page)) image serves = absurd serves
