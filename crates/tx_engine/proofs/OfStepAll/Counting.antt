-- The first transactions, whose next pages are noted, go on without the flash, one after another.
use Rattle.tx_engine.proofs.Common.{◌≡◌, ℕ, ◌+◌, ◌-◌, ◌<◌, ◌≤◌, false, List, [], ◌∷◌, ◌++◌, length, get_or, refl, sym, ap, ap₂, ◌∙◌, subst, arith, if◌then◌else◌, get_or-map, get_or-set_other, length-map, length-set, take_more, Protocol, FlashState, Carries-nothing, FlashMoves-nothing, Progress, ArrayState, Entry, CanAcknowledgeAll, AcknowledgeInTurn, IsReady, Exits, OpenTransactionsState, TransactionState, HasLimitsOf, entries_of, no_transaction, transaction_at, with_done, Counts, StoreState, device_in}
use Rattle.std.specs.Prelude.{count_by, take}
use Rattle.std.proofs.lemmas.List.Edits.{get_or-remove_above, length-remove}
use Rattle.std.proofs.lemmas.List.Sums.{sum_by-append}
use Rattle.array_machine.specs.Batches.{is_done}
use Rattle.array_machine.specs.declared.answers.Progress.TheVariants as progress
use Rattle.tx_engine.specs.BatchCalls.{finished_by}
use Rattle.tx_engine.specs.Calls.{CountsNext, counted_on}
use Rattle.tx_engine.proofs.OfDevice.ExitsThen.{exits_still, exits_then}

in_turn_push : (es : List Entry) (ps : List Progress) (old mid new : ArrayState) (e : Entry) (p : Progress) →
    AcknowledgeInTurn old es ps mid →
    Counts mid e.tag e p new → AcknowledgeInTurn old (es ++ e ∷ []) (ps ++ p ∷ []) new
in_turn_push [] [] old mid new e p h c = (new, subst (λ (s : ArrayState). Counts s e.tag e p new) h c, refl)
in_turn_push [] (q ∷ ps) old mid new e p h c = absurd h
in_turn_push (x ∷ es) [] old mid new e p h c = absurd h
in_turn_push (x ∷ es) (q ∷ ps) old mid new e p h c = (h.0, h.1, in_turn_push es ps h.0 mid new e p h.2 c)

pub one_finished : (p : Progress) → count_by is_done (p ∷ []) ≡ finished_by p
one_finished progress.Done = refl
one_finished (progress.Wrote done all) = refl

pub finished_least : (p : Progress) → finished_by p ≤ 1
finished_least progress.Done = omega arith
finished_least (progress.Wrote done all) = omega arith

-- how many are open afterwards, and those behind it
counted_long : (O : OpenTransactionsState) (i : ℕ) (p : Progress) → i < length O.all →
    length (counted_on O i p).all + finished_by p ≡ length O.all
counted_long O i progress.Done within = length-remove O.all i within
counted_long O i (progress.Wrote done all) within =
    let same = length-set O.all i (with_done (transaction_at O i) done) in omega (arith, same)

counted_later : (O : OpenTransactionsState) (i k : ℕ) (p : Progress) → i < length O.all → i < k →
    get_or (counted_on O i p).all (k - finished_by p) no_transaction ≡ get_or O.all k no_transaction
counted_later O i k progress.Done within behind =
    get_or-remove_above O.all i no_transaction (k - 1) (omega arith) within
    ∙ ap (λ j. get_or O.all j no_transaction) (omega arith)
counted_later O i k (progress.Wrote done all) within behind =
    ap (λ j. get_or (counted_on O i (progress.Wrote done all)).all j no_transaction) (omega arith)
    ∙ get_or-set_other O.all i k (with_done (transaction_at O i) done) no_transaction (λ same. absurd (omega arith))

-- this many of them went on
pub record CountedTo {F : Type 0} (state : F → FlashState) (p : Protocol) (S0 S : StoreState F)
    (O0 O : OpenTransactionsState) (gone turn : ℕ) : Type 0 where
  pub low : gone ≤ turn
  pub ready : IsReady state p S O
  pub each : List Progress
  pub counts : AcknowledgeInTurn (device_in state S0 O0).machine (take turn (entries_of O0)) each
      (device_in state S O).machine
  pub finished : gone ≡ count_by is_done each
  pub exits : Exits state (device_in state S0 O0) (device_in state S O) false
  pub stays : S ≡ record S0 { noted = record S0.noted { pins = S.noted.pins } }
  pub limits : HasLimitsOf O0 O
  pub long : length O.all + gone ≡ length O0.all
  pub later : (k : ℕ) → turn ≤ k → k < length O0.all → get_or O.all (k - gone) no_transaction ≡ transaction_at O0 k

module _ {F : Type 0} (state : F → FlashState) (p : Protocol) (S0 : StoreState F) (O0 : OpenTransactionsState) where
  pub counted_none : IsReady state p S0 O0 → CountedTo state p S0 S0 O0 O0 0 0
  counted_none ready = record {
    low = omega arith;
    ready = ready;
    each = [];
    counts = refl;
    finished = refl;
    exits = exits_still state (device_in state S0 O0) S0.flash false (device_in state S0 O0) refl refl refl
        (FlashMoves-nothing (state S0.flash) (state S0.flash) false refl)
        (Carries-nothing (state S0.flash));
    stays = refl;
    limits = record { page_bytes = refl; logical = refl; pending = refl };
    long = omega arith;
    later = λ k low inside. ap (λ j. get_or O0.all j no_transaction) (omega arith);
  }

  module _ (S S' : StoreState F) (O O' : OpenTransactionsState) (gone turn at moved : ℕ)
      (h : CountedTo state p S0 S O0 O gone turn) (less : turn < moved)
      (can : CanAcknowledgeAll state p S0 O0 moved) (is : at ≡ turn - gone) where
    same_transaction : transaction_at O at ≡ transaction_at O0 turn
    same_transaction = ap (transaction_at O) is ∙ h.later turn (omega arith) (let w = can.within in omega arith)

    pub at_within : at < length O.all
    at_within = let w = can.within in let l = h.long in let low = h.low in omega (arith, is)

    module _ (progress : Progress) (next : CountsNext state S S' O O' at progress) (gone' : ℕ)
        (sum : gone' ≡ gone + finished_by progress) where
      abbrev its : Entry
      its = (transaction_at O0 turn).entry

      step : Counts (device_in state S O).machine its.tag its progress (device_in state S' O').machine
      step = subst (λ (o : TransactionState). Counts (device_in state S O).machine o.entry.tag o.entry progress
          (device_in state S' O').machine) same_transaction
          next.counts

      its_at : take (turn + 1) (entries_of O0) ≡ take turn (entries_of O0) ++ its ∷ []
      its_at =
          let within : turn < length O0.all = let w = can.within in omega arith in
          let inside : turn < length (entries_of O0) =
          subst (λ len. turn < len) (sym (length-map O0.all (λ (o : TransactionState). o.entry))) within in
          take_more (entries_of O0) turn no_transaction.entry inside
          ∙ ap (λ e. take turn (entries_of O0) ++ e ∷ []) (get_or-map (λ (o : TransactionState). o.entry) O0.all turn
          no_transaction no_transaction.entry within)

      pub counted_more : CountedTo state p S0 S' O0 O' gone' (turn + 1)
      counted_more = record {
        low = let low = h.low in let one = finished_least progress in omega (arith, sum);
        ready = record {
          stands = next.stands;
          rule = ap (λ (T : StoreState F). T.noted.config.protocol) next.stays ∙ h.ready.rule;
          sure = next.sure;
        };
        each = h.each ++ progress ∷ [];
        counts = subst (λ es. AcknowledgeInTurn (device_in state S0 O0).machine es (h.each ++ progress ∷ [])
            (device_in state S' O').machine) (sym its_at)
            (in_turn_push (take turn (entries_of O0)) h.each (device_in state S0 O0).machine
            (device_in state S O).machine (device_in state S' O').machine
            its progress h.counts step);
        finished =
            let push = sum_by-append (λ q. if is_done q then 1 else 0) h.each (progress ∷ []) in
            sum ∙ ap₂ (λ a b. a + b) h.finished (sym (one_finished progress)) ∙ sym push;
        exits = exits_then state (device_in state S0 O0) (device_in state S O) (device_in state S' O') false refl refl
            h.exits next.exits;
        stays = next.stays ∙ ap (λ (T : StoreState F). record T { noted = record T.noted { pins = S'.noted.pins } })
            h.stays;
        limits = record {
          page_bytes = next.limits.page_bytes ∙ h.limits.page_bytes;
          logical = next.limits.logical ∙ h.limits.logical;
          pending = next.limits.pending ∙ h.limits.pending;
        };
        long =
            let long = counted_long O at progress at_within in
            let was = h.long in
            let same : length O'.all ≡ length (counted_on O at progress).all =
            ap (λ (o : OpenTransactionsState). length o.all) next.opens in
            omega (arith, long, was, same, sum);
        later = λ k from inside.
            let low = h.low in
            let one = finished_least progress in
            ap (λ (o : OpenTransactionsState). get_or o.all (k - gone') no_transaction) next.opens
            ∙ ap (λ j. get_or (counted_on O at progress).all j no_transaction)
            (let same : k - gone' ≡ k - gone - finished_by progress = omega (arith, sum) in same)
            ∙ counted_later O at (k - gone) progress at_within (omega (arith, is)) ∙ h.later k (omega arith) inside;
      }
