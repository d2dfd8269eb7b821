-- How serving a key script goes on over an image whose store cannot be opened.
use Rattle.page_keys.proofs.Common.{◌≡◌, ℕ, ◌+◌, ◌<◌, ◌≤◌, false, List, [], ◌∷◌, ◌++◌, length, take, Ok, Err, refl, sym, ap, subst, ◌∙◌, inl, inr, append-nil, get_or, suc, take-append_seam, take-length, Config, FlashState, moment_of, IsKeyImage, ServesOne, flash_in, KeyCommand, KeyServeError, KeyReply, KeySession}
use Rattle.std.proofs.lemmas.List.{take_all}
use Rattle.mounted_session.specs.Mounting.{StaysQuiet}
use Rattle.mounted_session.proofs.Mounting.{nothing_done}
use Rattle.page_keys.specs.KeyReplies.{key_text, key_texts}
use Rattle.page_keys.specs.KeyRuns.{RepliesUnopened, UnopenedRun}
use Rattle.page_keys.specs.KeyServed.{BeginsFlash, ServesUnopened, ServesUnopenedRun}
use Rattle.page_keys.specs.declared.key_error.KeyServeError.TheVariants as failed
use Rattle.page_keys.proofs.OfServe.KeyAllLemmas.{other_image, taken, taken_more, text_more}

-- one command more
unopened_more : (its : Config) (c : KeyCommand) (r : KeyReply) (old mid new : FlashState) (cs : List KeyCommand)
    (rs : List KeyReply) → UnopenedRun its old cs rs mid → RepliesUnopened its c mid r new →
    UnopenedRun its old (cs ++ c ∷ []) (rs ++ r ∷ []) new
unopened_more its c r old mid new [] [] run one =
    (new, subst (λ (x : FlashState). RepliesUnopened its c x r new) run one, refl)
unopened_more its c r old mid new [] (s ∷ rs) run one = absurd run
unopened_more its c r old mid new (d ∷ cs) [] run one = absurd run
unopened_more its c r old mid new (d ∷ cs) (s ∷ rs) run one =
    (run.0, run.1, unopened_more its c r run.0 mid new cs rs run.2 one)

-- there are as many replies as commands
unopened_many : (its : Config) (old new : FlashState) (cs : List KeyCommand) (rs : List KeyReply) →
    UnopenedRun its old cs rs new → length rs ≡ length cs
unopened_many its old new [] [] run = refl
unopened_many its old new [] (s ∷ rs) run = absurd run
unopened_many its old new (d ∷ cs) [] run = absurd run
unopened_many its old new (d ∷ cs) (s ∷ rs) run = ap suc (unopened_many its run.0 new cs rs run.2)

module _ {F : Type 0} (state : F → FlashState) (its : Config) where
  -- these commands were served, and their replies told
  pub record HasUnopened (init : FlashState) (cs : List KeyCommand) (s : KeySession F)
      (before after : List ℕ) : Type 0 where
    pub first : FlashState
    pub opened : BeginsFlash its init false first
    pub replies : List KeyReply
    pub run : UnopenedRun its first cs replies (state (flash_in s))
    pub text : after ≡ before ++ key_texts replies

  pub unopened_none : (init : FlashState) (s : KeySession F) (before : List ℕ) →
      BeginsFlash its init false (state (flash_in s)) → HasUnopened init [] s before before
  unopened_none init s before begins = record {
    first = state (flash_in s);
    opened = begins;
    replies = [];
    run = refl;
    text = sym (append-nil before);
  }

  -- what a command does
  pub replies_unopened : (init : FlashState) (c : KeyCommand) (r : KeyReply) (s t : KeySession F) →
      (IsKeyImage its init → ⊥) → moment_of (state (flash_in s)) ≡ moment_of init → ServesOne state its c s r t →
      RepliesUnopened its c (state (flash_in s)) r (state (flash_in t))
  replies_unopened init c r s t not same one =
      (one.unopened (other_image its init (state (flash_in s)) not same)).1

  module _ (init : FlashState) (cs : List KeyCommand) (c : KeyCommand) (r : KeyReply) (s t : KeySession F)
      (before between : List ℕ) (served : HasUnopened init cs s before between)
      (one : RepliesUnopened its c (state (flash_in s)) r (state (flash_in t))) where
    run_more : UnopenedRun its served.first (cs ++ c ∷ []) (served.replies ++ r ∷ []) (state (flash_in t))
    run_more = unopened_more its c r served.first (state (flash_in s)) (state (flash_in t)) cs served.replies
        served.run one

    served_more : (after : List ℕ) → after ≡ between ++ key_text r → HasUnopened init (cs ++ c ∷ []) t before after
    served_more after told = record {
      first = served.first;
      opened = served.opened;
      replies = served.replies ++ r ∷ [];
      run = run_more;
      text = text_more served.replies r before between after served.text told;
    }

    -- its reply was not told
    more_untold : ServesUnopenedRun its (cs ++ c ∷ []) (length cs) init (state (flash_in t)) before between
    more_untold =
        let count = unopened_many its served.first (state (flash_in s)) cs served.replies served.run in
        record {
          first = served.first;
          opened = served.opened;
          replies = served.replies ++ r ∷ [];
          run = run_more;
          text = served.text ∙ ap (λ (l : List KeyReply). before ++ key_texts l)
              (sym (ap (λ n. take n (served.replies ++ r ∷ [])) (sym count)
              ∙ take-append_seam served.replies (r ∷ [])));
        }

  -- all replies were told
  all_told : (init : FlashState) (cs : List KeyCommand) (s : KeySession F) (before after : List ℕ) →
      HasUnopened init cs s before after →
      ServesUnopenedRun its cs (length cs) init (state (flash_in s)) before after
  all_told init cs s before after served =
      let count = unopened_many its served.first (state (flash_in s)) cs served.replies served.run in
      record {
        first = served.first;
        opened = served.opened;
        replies = served.replies;
        run = served.run;
        text = served.text ∙ ap (λ (l : List KeyReply). before ++ key_texts l)
            (sym (ap (λ n. take n served.replies) (sym count) ∙ take-length served.replies));
      }

  -- one command more in the list
  pub unopened_next : (init : FlashState) (list : List KeyCommand) (at : ℕ) (c : KeyCommand)
      (r : KeyReply) (s t : KeySession F) (before between after : List ℕ) → at < length list →
      c ≡ get_or list at c → HasUnopened init (take at list) s before between →
      RepliesUnopened its c (state (flash_in s)) r (state (flash_in t)) → after ≡ between ++ key_text r →
      HasUnopened init (take (at + 1) list) t before after
  unopened_next init list at c r s t before between after lt read served one told =
      subst (λ (cs : List KeyCommand). HasUnopened init cs t before after)
      (sym (taken_more list at c lt read))
      (served_more init (take at list) c r s t before between served one after told)

  -- ---- how serving ends

  -- no memory for the line of a reply
  pub unopened_untold : (init : FlashState) (list : List KeyCommand) (at : ℕ) (c : KeyCommand)
      (r : KeyReply) (s t : KeySession F) (new : F) (before between after : List ℕ) →
      at < length list → c ≡ get_or list at c → HasUnopened init (take at list) s before between →
      RepliesUnopened its c (state (flash_in s)) r (state (flash_in t)) → new ≡ flash_in t → after ≡ between →
      ServesUnopened its list init (state new) before after (Err failed.Memory)
  unopened_untold init list at c r s t new before between after lt read served one is same =
      let run = more_untold init (take at list) c r s t before between served one in
      inr (
        at,
        lt,
        state (flash_in t),
        subst (λ (f : F). StaysQuiet (state (flash_in t)) (state f)) (sym is) (nothing_done (state (flash_in t))),
        inr (
          refl,
          (subst (λ (x : List ℕ). ServesUnopenedRun its (take (at + 1) list) at init (state (flash_in t)) before x)
              (sym same)
              (subst (λ (cs : List KeyCommand).
              ServesUnopenedRun its cs at init (state (flash_in t)) before between)
              (sym (taken_more list at c lt read))
              (subst (λ n. ServesUnopenedRun its (take at list ++ c ∷ []) n init (state (flash_in t)) before between)
              (taken list at lt) run))),
        ),
      )

  -- no more is served
  pub unopened_in : (init : FlashState) (list : List KeyCommand) (at : ℕ) (s t : KeySession F)
      (new : F) (why : KeyServeError) (before after : List ℕ) → at < length list →
      HasUnopened init (take at list) s before after →
      StaysQuiet (state (flash_in s)) (state (flash_in t)) → new ≡ flash_in t →
      ServesUnopened its list init (state new) before after (Err why)
  unopened_in init list at s t new why before after lt served still is =
      let run = all_told init (take at list) s before after served in
      inr (
        at,
        lt,
        state (flash_in s),
        subst (λ (f : F). StaysQuiet (state (flash_in s)) (state f)) (sym is) still,
        inl (subst (λ n. ServesUnopenedRun its (take at list) n init (state (flash_in s)) before after)
            (taken list at lt) run),
      )

  -- all is served
  pub unopened_all : (init : FlashState) (list : List KeyCommand) (at : ℕ) (s : KeySession F)
      (new : F) (before after : List ℕ) → length list ≤ at →
      HasUnopened init (take at list) s before after → new ≡ flash_in s →
      ServesUnopened its list init (state new) before after (Ok tt)
  unopened_all init list at s new before after most served is =
      subst (λ (f : F). ServesUnopenedRun its list (length list) init (state f) before after) (sym is)
      (all_told init list s before after
      (subst (λ (cs : List KeyCommand). HasUnopened init cs s before after) (take_all at list most) served))
