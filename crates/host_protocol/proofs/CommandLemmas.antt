-- A line is at most one command.
use Rattle.host_protocol.proofs.Common.{◌≡◌, ℕ, ◌≤◌, List, [], ◌∷◌, map, refl, sym, ap, ◌∙◌, arith, Some, page_write_of, number_of}
use Rattle.std.specs.Prelude.{sum, nat_le, All}
use Rattle.std.specs.List.{AllZip, AllByRecursion}
use Rattle.std.proofs.lemmas.Bool.{leb-true}
use Rattle.std.proofs.lemmas.List.Elements.{All-from_recursion}
use Rattle.std.proofs.lemmas.Option.{cond_some, option_and_then_some}
use Rattle.list_lemmas.proofs.Lists.{same_somes}
use Rattle.flash_model.specs.declared.outcome.Outcome.{Outcome}
use Rattle.flash_model.specs.declared.outcome.Outcome.TheVariants as outcome
use Rattle.tx_types.specs.Batch.{PageWrite, Writes}
use Rattle.host_protocol.specs.Commands.{IsCommand, AreOperands, AreWriteOperands, IsArm, verb_of, outcome_word, alone, Suits}
use Rattle.host_protocol.specs.Numbers.{count_of, positive}
use Rattle.host_protocol.specs.Verbs.{word_of}
use Rattle.host_protocol.specs.declared.command.Command.{Command}
use Rattle.host_protocol.specs.declared.command.Command.TheVariants as command
use Rattle.host_protocol.specs.declared.verb.Verb.{Verb}
use Rattle.host_protocol.specs.declared.verb.Verb.TheVariants as verb

-- the sum of the bytes of a word, which tells the words of this grammar apart
abbrev key : List ℕ → ℕ
key word = sum word

-- verbs of one name are one
pub same_verb : (v w : Verb) → word_of v ≡ word_of w → v ≡ w
same_verb verb.Read verb.Read h = refl
same_verb verb.Write verb.Write h = refl
same_verb verb.Step verb.Step h = refl
same_verb verb.Finish verb.Finish h = refl
same_verb verb.Abort verb.Abort h = refl
same_verb verb.StepAll verb.StepAll h = refl
same_verb verb.Collect verb.Collect h = refl
same_verb verb.Stats verb.Stats h = refl
same_verb verb.Explain verb.Explain h = refl
same_verb verb.Cut verb.Cut h = refl
same_verb verb.Fault verb.Fault h = refl
same_verb verb.BadRead verb.BadRead h = refl
same_verb v w h = let keys : key (word_of v) ≡ key (word_of w) = ap key h in absurd (omega arith)

-- outcomes of one word are one
same_outcome : (a b : Outcome) → outcome_word a ≡ outcome_word b → a ≡ b
same_outcome outcome.None outcome.None h = refl
same_outcome outcome.All outcome.All h = refl
same_outcome outcome.Bad outcome.Bad h = refl
same_outcome a b h = let keys : key (outcome_word a) ≡ key (outcome_word b) = ap key h in absurd (omega arith)

same_writes : (a b : Writes) → a.page_bytes ≡ b.page_bytes → a.entries ≡ b.entries → a ≡ b
same_writes a b sizes entries =
    let Sized : ℕ → Writes = λ n. record { page_bytes = n; entries = a.entries } in
    let Filled : List PageWrite → Writes = λ es. record { page_bytes = b.page_bytes; entries = es } in
    ap Sized sizes ∙ ap Filled entries

-- the words behind `write` are one tag and one batch
pub same_write : (size : ℕ) (words : List (List ℕ)) (t u : ℕ) (a b : Writes) → AreWriteOperands size words t a →
    AreWriteOperands size words u b → (t ≡ u) ×
    (a ≡ b)
same_write size words t u a b x y =
    let both = sym x.all ∙ y.all in
    let first : x.first ≡ y.first = cc in
    let others : x.others ≡ y.others = cc in
    let tags : Some t ≡ Some u = sym x.tagged ∙ (ap number_of first ∙ y.tagged) in
    let entries : map Some a.entries ≡ map Some b.entries = sym x.each
    ∙ (ap (λ ws. map (page_write_of size) ws) others ∙ y.each) in
    (cc, same_writes a b (x.size ∙ sym y.size) (same_somes a.entries b.entries entries))

-- the words of an arm are one count and one outcome
pub same_arm : (words : List (List ℕ)) (m n : ℕ) (a b : Outcome) → IsArm words m a → IsArm words n b → (m ≡ n) × (a ≡ b)
same_arm words m n a b x y =
    let both = sym x.both ∙ y.both in
    let first : x.first ≡ y.first = cc in
    let second : outcome_word a ≡ outcome_word b = cc in
    let counts : Some m ≡ Some n = sym x.counted ∙ (ap count_of first ∙ y.counted) in
    (cc, same_outcome a b second)

-- the words behind one verb are one command
same_operands : (size : ℕ) (words : List (List ℕ)) (c d : Command) → verb_of c ≡ verb_of d → AreOperands size words c →
    AreOperands size words d → c ≡ d
same_operands size words (command.Read p) (command.Read q) e x y = let h : Some p ≡ Some q = sym x ∙ y in cc
same_operands size words (command.Write t a) (command.Write u b) e x y = let h = same_write size words t u a b x y in
    cc (h.0, h.1)
same_operands size words (command.Step p) (command.Step q) e x y = let h : Some p ≡ Some q = sym x ∙ y in cc
same_operands size words (command.Finish p) (command.Finish q) e x y = let h : Some p ≡ Some q = sym x ∙ y in cc
same_operands size words (command.Abort p) (command.Abort q) e x y = let h : Some p ≡ Some q = sym x ∙ y in cc
same_operands size words command.StepAll command.StepAll e x y = refl
same_operands size words command.Collect command.Collect e x y = refl
same_operands size words command.Stats command.Stats e x y = refl
same_operands size words command.Explain command.Explain e x y = refl
same_operands size words (command.Cut m a) (command.Cut n b) e x y = let h = same_arm words m n a b x y in cc (h.0, h.1)
same_operands size words (command.Fault m a) (command.Fault n b) e x y = let h = same_arm words m n a b x y in
    cc (h.0, h.1)
same_operands size words (command.BadRead p) (command.BadRead q) e x y = let h : Some p ≡ Some q = sym x ∙ y in cc
same_operands size words c d e x y = absurd (cc)

-- a line is at most one command
pub one_command : (size : ℕ) (line : List ℕ) (c d : Command) → IsCommand size line c → IsCommand size line d → c ≡ d
one_command size line c d x y =
    let both = sym x.words ∙ y.words in
    let names : word_of (verb_of c) ≡ word_of (verb_of d) = cc in
    let operands : x.operands ≡ y.operands = cc in
    same_operands size y.operands c d (same_verb (verb_of c) (verb_of d) names) (rw operands at x.follow) y.follow

-- a count is at least 1
counted : (word : List ℕ) (n : ℕ) → count_of word ≡ Some n → 1 ≤ n
counted word n h = option_and_then_some positive (number_of word) n h (λ x found e.
    let both = cond_some (nat_le 1 x) x n e in rw both.1 at (leb-true 1 x both.0))

lone_counted : (words : List (List ℕ)) (n : ℕ) → alone count_of words ≡ Some n → 1 ≤ n
lone_counted [] n h = absurd (cc)
lone_counted (word ∷ []) n h = counted word n h
lone_counted (word ∷ next ∷ words) n h = absurd (cc)

-- the command of a line suits the device
pub suits : (size : ℕ) (line : List ℕ) (what : Command) → IsCommand size line what → Suits size what
suits size line (command.Write tag batch) h = h.follow.size
suits size line (command.Cut count what) h = counted h.follow.first count h.follow.counted
suits size line (command.Fault count what) h = counted h.follow.first count h.follow.counted
suits size line (command.BadRead count) h = lone_counted h.operands count h.follow
suits size line what h = tt

all_suit : (size : ℕ) (lines : List (List ℕ)) (commands : List Command) → AllZip (IsCommand size) lines commands →
    AllByRecursion (Suits size) commands
all_suit size lines [] all = tt
all_suit size [] (what ∷ commands) all = absurd all
all_suit size (line ∷ lines) (what ∷ commands) all = (suits size line what all.0, all_suit size lines commands all.1)

-- so do those of a file
pub file_suits : (size : ℕ) (lines : List (List ℕ)) (commands : List Command) → AllZip (IsCommand size) lines commands →
    All (Suits size) commands
file_suits size lines commands all = All-from_recursion (Suits size) commands (all_suit size lines commands all)
