-- Several transactions that go on at once: one by itself, none, and worked examples.
use Rattle.array_machine.proofs.Common.{◌≡◌, ◌+◌, Bool, List, [], ◌∷◌, map, take, Some, Ok, refl, sym, ap, ◌∙◌, subst, inl, inr, arith, count_by, MatchOption, ArrayState, Entry, entry_of, has_tag, GoInTurn, GoesOn, StepGives, settled, settled_entry, Moved, Progress}
use Rattle.std.specs.Prelude.{Err}
use Rattle.std.proofs.lemmas.Bool.{cond-true, eq-eqb}
use Rattle.array_machine.specs.Batches.{StepsAllAs, is_done}
use Rattle.array_machine.specs.BatchExamples.{FirstTwoMove, SecondMoves, NoneMoves, SecondIsTaken, UnfinishedStays, second, second_open}
use Rattle.array_machine.specs.BatchExamples.{all_done}
use Rattle.array_machine.specs.Step.{StepsAs}
use Rattle.array_machine.specs.declared.answers.Progress.TheVariants as progress
use Rattle.array_machine.specs.declared.answers.StepError.TheVariants as failed

-- the first of the open transactions is the one with its tag
pub entry_head : (e : Entry) (es : List Entry) → entry_of e.tag (e ∷ es) ≡ Some e
entry_head e es = cond-true (has_tag e.tag e) (Some e) (entry_of e.tag es) (eq-eqb e.tag e.tag refl)

in_turn_one : (old new : ArrayState) (e : Entry) (ps : List Progress) → GoInTurn old (e ∷ []) ps new →
    (p : Progress) × GoesOn old e.tag e p new
in_turn_one old new e [] h = absurd h
in_turn_one old new e (p ∷ []) h = (p, subst (GoesOn old e.tag e p) (sym h.1.2) h.1.1)
in_turn_one old new e (p ∷ q ∷ ps) h = absurd h.1.2

in_turn_none : (old new : ArrayState) (ps : List Progress) → GoInTurn old [] ps new → (ps ≡ []) × (new ≡ old)
in_turn_none old new [] h = (refl, h)
in_turn_none old new (p ∷ ps) h = absurd h

pub one_is_step : (there : Bool) (old new : ArrayState) (e : Entry) (es : List Entry) (answer : Moved) →
    old.entries ≡ e ∷ es → answer.moved ≡ 1 →
    StepsAllAs there old new answer → (p : Progress) × StepsAs there old new e.tag (Ok p)
one_is_step there old new e es answer is one h =
    let mid = settled there old in
    let taken : take answer.moved mid.entries ≡ settled_entry there e ∷ [] = ap (λ m. take m mid.entries) one ∙
    ap (λ l. take 1 (map (settled_entry there) l)) is in
    let went = in_turn_one mid new (settled_entry there e) h.each (subst (λ l. GoInTurn mid l h.each new) taken h.go) in
    let found : entry_of e.tag old.entries ≡ Some e = ap (entry_of e.tag) is ∙ entry_head e es in (
      went.0,
      subst (λ o. MatchOption o ((Ok went.0 ≡ Err failed.Unknown) × (new ≡ old))
          (λ x. StepGives old mid e.tag (settled_entry there x) (Ok went.0) new))
          (sym found) went.1,
    )

pub none_moves : (there : Bool) (old new : ArrayState) (answer : Moved) → old.entries ≡ [] →
    StepsAllAs there old new answer →
    (answer.moved ≡ 0) × (answer.finished ≡ 0) × (new ≡ settled there old)
none_moves there old new answer is h =
    let mid = settled there old in
    let zero_moved : answer.moved ≡ 0 = h.none.1 is in
    let taken : take answer.moved mid.entries ≡ [] = ap (λ m. take m mid.entries) zero_moved in
    let stays = in_turn_none mid new h.each (subst (λ l. GoInTurn mid l h.each new) taken h.go) in
    (zero_moved, h.finished ∙ ap (count_by is_done) stays.0, stays.1)

pub first_two_move : FirstTwoMove
first_two_move = record {
  each = progress.Done ∷ progress.Wrote 1 2 ∷ [];
  go = (
    refl,
    (
      record { pages = second_open.pages; entries = second ∷ [] },
      inr (refl, refl, refl),
      (refl, (second_open, (refl, omega arith, refl, refl, refl), refl)),
    ),
  );
  within = omega arith;
  finished = refl;
  none = (λ is. absurd (omega arith), λ is. cc);
}

pub second_moves : SecondMoves
second_moves = record {
  each = progress.Done ∷ [];
  go = (refl, (all_done, inr (refl, refl, refl), refl));
  within = omega arith;
  finished = refl;
  none = (λ is. absurd (omega arith), λ is. cc);
}

pub none_move : NoneMoves
none_move = record { each = []; go = refl; within = omega arith; finished = refl; none = (λ is. refl, λ is. refl) }

pub second_is_taken : SecondIsTaken
second_is_taken pages a b last_a last_b = inl (inr (last_b, refl))

pub unfinished_stays : UnfinishedStays
unfinished_stays new (inl same) = same
unfinished_stays new (inr taken) = absurd (let last : 0 + 1 ≡ 2 = taken.0 in omega (arith, last))
