use Rattle.drive_gen.proofs.Common.{◌≡◌, ℕ, Bool, true, false, List, [], ◌∷◌, ◌++◌, length, refl, sym, ap, ◌∙◌, arith}
use Rattle.std.proofs.Common.{◌==◌, inl, inr}
use Rattle.std.proofs.lemmas.Bool.Decides.{eqb_tells}
use Rattle.std.proofs.lemmas.Bool.{false≢true}
use Rattle.std.specs.Prelude.{Result, Ok, Err, IfOk, vec_len}
use Rattle.tx_types.specs.declared.memory.Memory.{Memory}
use Rattle.host_protocol.specs.Replies.{text_of}
use Rattle.host_protocol.specs.declared.reply.Reply.{Reply}
use Rattle.drive_gen.specs.Counting.{AddsLine, AreCounted}
use Rattle.drive_gen.specs.declared.running_tally.RunningTally.{RunningTally}
use Rattle.drive_gen.specs.declared.tally.Tally.{Tally}
use Rattle.drive_gen.proofs.LineJoins.{line_counted}
use Rattle.drive_gen.proofs.running_tally.RunningTally.count_frequent.Goals as goal

frequent : (r : Result Bool Memory) (what : Reply) (old new : Tally) (bytes stats rest : List ℕ) →
    IfOk r (λ counted. counted ≡ true → AddsLine what old new) → AreCounted bytes old stats rest → rest ≡ [] →
    IfOk r (λ counted. counted ≡ true → AreCounted (bytes ++ text_of what) new stats rest)
frequent (Err e) what old new bytes stats rest adds h closed = tt
frequent (Ok counted) what old new bytes stats rest adds h closed = λ yes.
    let line = adds yes in
    line_counted bytes (text_of what) old new stats rest h closed line.counts line.none line.ends

same_tally : (r : Result Bool Memory) (t : RunningTally) (new : Tally) →
    IfOk r (λ counted. counted ≡ false → new ≡ t.tally) →
    IfOk r (λ counted. counted ≡ false → record t { tally = new } ≡ t)
same_tally (Err e) t new same = tt
same_tally (Ok counted) t new same = λ no. ap (λ x. record t { tally = x }) (same no)

none_in : (text : List ℕ) (n : ℕ) (none : Bool) → n ≡ length text → none ≡ (n == 0) → none ≡ true → text ≡ []
none_in [] n none long tests h = refl
none_in (b ∷ text) n none long tests h = elim (eqb_tells n 0) [
  | inl same ↦ absurd (let zero = same.1 in omega arith)
  | inr other ↦ absurd (false≢true (sym (tests ∙ other.0) ∙ h))
]

pub returns-clause-counted : goal.returns-clause-counted
returns-clause-counted c = λ bytes h.
    frequent c.add_frequent.result c.args.reply.now c.args.self.now.tally c.add_frequent.new.self bytes
    c.args.self.now.stats.items c.args.self.now.open_text.items c.add_frequent.ensures.counted h
    (none_in c.args.self.now.open_text.items (vec_len c.args.self.now.open_text) c.is_empty.result
    c.args.self.now.open_text.ok.0 c.is_empty.ensures c.if-not-is_empty.false)

pub returns-clause-other : goal.returns-clause-other
returns-clause-other c =
    same_tally c.add_frequent.result c.args.self.now c.add_frequent.new.self c.add_frequent.ensures.other
