-- What making ready makes of the array machine, by whether there is a transaction with the tag.
use Rattle.tx_engine.proofs.Common.{◌≡◌, ℕ, Bool, Option, Some, None, Result, Err, refl, sym, subst, ArrayState, Entry, entry_of, settled, StepError}
use Rattle.std.specs.Prelude.{MatchOption}
use Rattle.array_machine.specs.declared.answers.StepError.TheVariants as failed
use Rattle.tx_engine.specs.Readying.{ReadiesAs, ReadyGives}

abbrev pub ReadiesFor : Bool → ArrayState → ArrayState → Option Entry → Result (Unit {0}) StepError → Type 0
ReadiesFor there old new o result =
    MatchOption o ((result ≡ Err failed.Unknown) × (new ≡ old)) (λ e. ReadyGives old (settled there old) result new)

pub readies_missing : (there : Bool) (old : ArrayState) (tag : ℕ) → entry_of tag old.entries ≡ None →
    ReadiesAs there old old tag (Err failed.Unknown)
readies_missing there old tag is = subst (λ o. ReadiesFor there old old o (Err failed.Unknown)) (sym is) (refl, refl)

pub readies_found : (there : Bool) (old new : ArrayState) (tag : ℕ) (e : Entry) → entry_of tag old.entries ≡ Some e →
    (result : Result (Unit {0}) StepError) → ReadyGives old (settled there old) result new →
    ReadiesAs there old new tag result
readies_found there old new tag e is result h = subst (λ o. ReadiesFor there old new o result) (sym is) h
