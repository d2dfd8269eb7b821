-- Several open transactions that go on together: from what is planned to what is counted.
use Rattle.tx_engine.proofs.Common.{◌≡◌, ◌≢◌, ℕ, ◌<◌, ◌==◌, false, eq-eqb, List, [], ◌∷◌, length, Ok, Err, refl, sym, ap, ◌∙◌, subst, arith, both_ways, length-map, Config, Protocol, Slot, FlashState, Broken, Moved, CanAcknowledgeAll, CanWriteAll, AcknowledgesAll, DroppedAll, StepsTogether, WrittenAll, chosen_now, jobs_of, OpenTransactionsState, TransactionState, transaction_at, CountsOn, StoreState, Job}
use Rattle.tx_engine.proofs.OfStep.AdvanceExits.{next_ready}
use Rattle.tx_engine.proofs.OfStepAll.Nexts.{AreDue, are_due, next_at, nexts_long}

-- what was written at once may be counted
pub written_counts : {F : Type 0} (state : F → FlashState) (p : Protocol) (S S1 : StoreState F)
    (O O1 : OpenTransactionsState) (jobs : List Job) →
    CanWriteAll state p S O jobs → WrittenAll state S S1 O O1 jobs → CanAcknowledgeAll state p S1 O1 (length jobs)
written_counts state p S S1 O O1 jobs can w =
    let due : AreDue O (length jobs) = are_due S.noted S.table O jobs can.due in
    record {
      ready = record {
        stands = w.stands;
        rule = ap (λ (c : Config). c.protocol) w.exits.tables.config ∙ can.ready.rule;
        sure = w.sure;
      };
      within =
          let long : length O1.all ≡ length O.all = ap (λ (o : OpenTransactionsState). length o.all) w.opens
          ∙ nexts_long O jobs due in
          let within = due.within in omega (arith, long, within);
      counts = λ k less. subst CountsOn (sym (ap (λ (o : OpenTransactionsState). transaction_at o k) w.opens
          ∙ next_at O jobs due k less))
          (next_ready (transaction_at O k) (due.plain k less) (due.unnoted k less));
    }

pub some_by : (jobs : List Job) (long : ℕ) → length jobs ≡ long → (long == 0) ≡ false → jobs ≢ []
some_by jobs long is other none = let zero : long ≡ 0 = sym is ∙ ap length none in
    both_ways (long == 0) other (eq-eqb long 0 zero)

-- nothing was chosen where there is no program
pub none_chosen : (n : _) (chosen : List (Slot × TransactionState)) → jobs_of n chosen ≡ [] → chosen ≡ []
none_chosen n [] is = refl
none_chosen n (x ∷ chosen) is = absurd (let long = ap length is in omega (arith, long))

pub some_chosen : (n : _) (chosen : List (Slot × TransactionState)) → chosen ≢ [] → jobs_of n chosen ≢ []
some_chosen n chosen some is = some (none_chosen n chosen is)

module _ {F : Type 0} (state : F → FlashState) (S T W : StoreState F) (O OW : OpenTransactionsState) (jobs : List Job)
    (same : T ≡ S)
    (its : jobs ≡ jobs_of S.noted (chosen_now S O)) (some : jobs ≢ []) (any_open : 0 < length O.all) where
  not_none : O.all ≢ []
  not_none is = absurd (let long = ap length is in omega (arith, long, any_open))

  not_first : chosen_now S O ≢ []
  not_first is = some (its ∙ ap (jobs_of S.noted) is)

  pub moved_chosen : (S' : StoreState F) (O' : OpenTransactionsState) (moved : ℕ) (answer : Moved) →
      WrittenAll state T W O OW jobs →
      AcknowledgesAll state W S' OW O' moved answer → moved ≡ length jobs → StepsTogether state S S' O O' (Ok answer)
  moved_chosen S' O' moved answer w counts is = record {
    none = λ none. absurd (not_none none);
    first = λ any none. absurd (not_first none);
    chosen = λ any chosen. record {
      between = W;
      opens = OW;
      moved = (
        subst (λ (X : StoreState F). WrittenAll state X W O OW (jobs_of S.noted (chosen_now S O))) same
            (subst (WrittenAll state T W O OW) its w),
        subst (λ m. AcknowledgesAll state W S' OW O' m answer) (is ∙ ap length its ∙ length-map (chosen_now S O) _) counts,
      );
      broken = tt;
      kept = tt;
    };
  }

  pub moved_broken : (b : Broken) → DroppedAll state T W O jobs → OW ≡ O → StepsTogether state S W O OW (Err b)
  moved_broken b broken kept = record {
    none = λ none. absurd (not_none none);
    first = λ any none. absurd (not_first none);
    chosen = λ any chosen. record {
      between = W;
      opens = OW;
      moved = tt;
      broken = subst (λ (X : StoreState F). DroppedAll state X W O (jobs_of S.noted (chosen_now S O))) same
          (subst (DroppedAll state T W O) its broken);
      kept = kept;
    };
  }
