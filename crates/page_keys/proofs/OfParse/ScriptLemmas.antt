-- How the commands of a key script grow, line by line.
use Rattle.page_keys.proofs.Common.{◌≡◌, ℕ, ◌+◌, ◌-◌, ◌<◌, ◌≤◌, ◌⊎◌, inl, inr, Bool, true, false, cond, ◌==◌, List, [], ◌∷◌, ◌++◌, length, map, take, drop, refl, sym, ap, subst, ◌∙◌, arith, Option, Some, None, length-append, length-take, IfSome, AllByRecursion, append-nil, take-append-drop, take-length, lines_of, IsKeyChange, change_of, Change, KeyCommand}
use Rattle.std.proofs.Common.{◌^◌}
use Rattle.std.specs.Prelude.{filter, position, slice_index, sum, All, IfNone}
use Rattle.std.specs.List.{AllZip}
use Rattle.std.specs.Option.{option_to_list}
use Rattle.std.specs.Str.Lines.{strip_carriage_return}
use Rattle.std.proofs.lemmas.Bool.{cases_order}
use Rattle.std.proofs.lemmas.List.Elements.{filter-append, All-push}
use Rattle.list_lemmas.proofs.Lists.{Next, take_shorter, same_somes}
use Rattle.list_lemmas.proofs.Pairs.{zip_front, zip_same, zip_push}
use Rattle.host_protocol.specs.declared.command.Command.TheVariants as host
use Rattle.host_protocol.specs.Files.{AreGoodLines, is_command_line}
use Rattle.host_protocol.specs.Lines.{is_line_feed}
use Rattle.host_protocol.specs.Reading.{text_error}
use Rattle.host_protocol.specs.declared.error.LineError.{LineError}
use Rattle.host_protocol.specs.declared.error.LineError.TheVariants.{Bad, Memory}
use Rattle.host_protocol.specs.declared.error.TextError.{TextError}
use Rattle.host_protocol.specs.declared.error.TextError.TheVariants as text
use Rattle.host_protocol.specs.declared.file.TheConstants.{MAX_COMMANDS}
use Rattle.host_protocol.proofs.CommandLemmas.{same_arm}
use Rattle.host_protocol.proofs.CommandLemmas.{suits as host_suits}
use Rattle.host_protocol.proofs.LineLemmas.{line_first, line_last, lines_none}
use Rattle.page_keys.specs.Scripts.{IsKeyCommand, AreKeyOperands, AreKeyCommands, IsScript, IsFirstBadScriptLine, SuitsKeys, key_of, verb_of}
use Rattle.page_keys.specs.Scripts.{word_of}
use Rattle.page_keys.specs.ScriptReading.{AddsKeyCommand, AddsNoKeyCommand, EndsAt, HasFewChanges}
use Rattle.page_keys.specs.declared.command.KeyCommand.TheVariants as command
use Rattle.page_keys.specs.declared.key_verb.KeyVerb.{KeyVerb}
use Rattle.page_keys.specs.declared.key_verb.KeyVerb.TheVariants as verb
use Rattle.page_keys.proofs.OfParse.KeyWordLemmas.{change_sized, key_sized}

-- ---- a line is at most one command

same_verb : (v w : KeyVerb) → word_of v ≡ word_of w → v ≡ w
same_verb verb.Put verb.Put h = refl
same_verb verb.Get verb.Get h = refl
same_verb verb.Cut verb.Cut h = refl
same_verb v w h = let sums : sum (word_of v) ≡ sum (word_of w) = ap sum h in absurd (omega arith)

same_operands : (words : List (List ℕ)) (c d : KeyCommand) → verb_of c ≡ verb_of d →
    AreKeyOperands words c → AreKeyOperands words d → c ≡ d
same_operands words (command.Put xs) (command.Put ys) e x y =
    ap (λ (l : List Change). command.Put l) (same_somes xs ys (sym x ∙ y))
same_operands words (command.Get k) (command.Get l) e x y =
    let both = sym x.only ∙ y.only in
    let word : x.word ≡ y.word = cc in
    let keys : Some k ≡ Some l = sym x.told ∙ ap key_of word ∙ y.told in
    let same : k ≡ l = cc in
    ap (λ (key : List ℕ). command.Get key) same
same_operands words (command.Cut m a) (command.Cut n b) e x y =
    let h = same_arm words m n a b x y in cc (h.0, h.1)
same_operands words c d e x y = absurd (cc)

one_command : (line : List ℕ) (c d : KeyCommand) → IsKeyCommand line c → IsKeyCommand line d → c ≡ d
one_command line c d x y =
    let both = sym x.words ∙ y.words in
    let names : word_of (verb_of c) ≡ word_of (verb_of d) = cc in
    let operands : x.operands ≡ y.operands = cc in
    same_operands y.operands c d (same_verb (verb_of c) (verb_of d) names)
    (subst (λ (w : List (List ℕ)). AreKeyOperands w c) operands x.follow) y.follow

-- ---- and suits a store

each_sized : (words : List (List ℕ)) (cs : List Change) → map change_of words ≡ map Some cs →
    AllByRecursion IsKeyChange cs
each_sized words [] h = tt
each_sized [] (c ∷ cs) h = absurd (cc)
each_sized (word ∷ words) (c ∷ cs) h =
    let first : change_of word ≡ Some c = cc in
    let later : map change_of words ≡ map Some cs = cc in
    (change_sized word c first, each_sized words cs later)

suits : (line : List ℕ) (n : ℕ) (c : KeyCommand) → IsKeyCommand line c → HasFewChanges n c →
    n < 2 ^ 32 → SuitsKeys c
suits line n (command.Put cs) is few most = (each_sized is.operands cs is.follow, omega (arith, few, most))
suits line n (command.Get key) is few most = key_sized is.follow.word key is.follow.told
suits line n (command.Cut count what) is few most =
    host_suits 0 line (host.Cut count what)
    (record { operands = is.operands; words = is.words; follow = is.follow })

-- ---- the lines so far

filter_idle : (lines : List (List ℕ)) (line : List ℕ) → is_command_line line ≡ false →
    filter is_command_line (lines ++ line ∷ []) ≡ filter is_command_line lines
filter_idle lines line h =
    filter-append is_command_line lines (line ∷ []) ∙ rw h (append-nil (filter is_command_line lines))

filter_more : (lines : List (List ℕ)) (line : List ℕ) → is_command_line line ≡ true →
    filter is_command_line (lines ++ line ∷ []) ≡ filter is_command_line lines ++ line ∷ []
filter_more lines line h = filter-append is_command_line lines (line ∷ []) ∙ rw h refl

add_idle : (lines : List (List ℕ)) (line : List ℕ) (commands : List KeyCommand) →
    is_command_line line ≡ false → AreKeyCommands lines commands →
    AreKeyCommands (lines ++ line ∷ []) commands
add_idle lines line commands idle good =
    record { each = rw (filter_idle lines line idle) good.each; most_commands = good.most_commands }

add_command : (lines : List (List ℕ)) (line : List ℕ) (commands : List KeyCommand)
    (what : KeyCommand) → AddsKeyCommand line (length commands) what →
    AreKeyCommands lines commands → AreKeyCommands (lines ++ line ∷ []) (commands ++ what ∷ [])
add_command lines line commands what adds good = record {
  each = rw (filter_more lines line adds.asks)
      (zip_push IsKeyCommand (filter is_command_line lines) commands line what good.each adds.is);
  most_commands = let h = adds.one_more in omega (arith, length-append {A = KeyCommand});
}

-- a line, with the command that it has, if it has one
pub add_line : (lines : List (List ℕ)) (line : List ℕ) (commands : List KeyCommand)
    (found : Option KeyCommand) → IfNone found (is_command_line line ≡ false) →
    IfSome found (AddsKeyCommand line (length commands)) → AreKeyCommands lines commands →
    AreKeyCommands (lines ++ line ∷ []) (commands ++ option_to_list found)
add_line lines line commands None idle adds good =
    rw append-nil (add_idle lines line commands idle good)
add_line lines line commands (Some what) idle adds good =
    add_command lines line commands what adds good

-- and suits a store, as those before it do
pub add_suits : (line : List ℕ) (n : ℕ) (commands : List KeyCommand) (found : Option KeyCommand) →
    IfSome found (AddsKeyCommand line (length commands)) → IfSome found (HasFewChanges n) →
    n < 2 ^ 32 → All SuitsKeys commands → All SuitsKeys (commands ++ option_to_list found)
add_suits line n commands None adds few most all = rw append-nil all
add_suits line n commands (Some what) adds few most all =
    All-push SuitsKeys commands what all (suits line n what adds.is few most)

last_past : (line : List ℕ) (commands : List KeyCommand) → AddsNoKeyCommand line (length commands) →
    (back : List KeyCommand) → AllZip IsKeyCommand (line ∷ []) back →
    length (commands ++ back) ≤ MAX_COMMANDS → ⊥
last_past line commands none [] is most = absurd is
last_past line commands none (what ∷ []) is most =
    let fits : length commands < MAX_COMMANDS = omega (arith, length-append {A = KeyCommand}) in
    none.past what is.0 fits
last_past line commands none (what ∷ more ∷ others) is most = absurd is.1

add_none : (lines : List (List ℕ)) (line : List ℕ) (commands : List KeyCommand) →
    AddsNoKeyCommand line (length commands) → AreKeyCommands lines commands →
    (others : List KeyCommand) → AreKeyCommands (lines ++ line ∷ []) others → ⊥
add_none lines line commands none good others all =
    let each = rw (filter_more lines line none.asks) at all.each in
    let parts = zip_front IsKeyCommand (filter is_command_line lines) (line ∷ []) others each in
    let before : parts.front ≡ commands =
    zip_same IsKeyCommand one_command (filter is_command_line lines) parts.front commands
    parts.fronts good.each in
    last_past line commands none parts.back parts.backs
    (rw (parts.whole, before) at all.most_commands)

-- ---- the whole script

good_shorter : (bytes : List ℕ) (n m : ℕ) → n ≤ m → AreGoodLines AreKeyCommands bytes m →
    AreGoodLines AreKeyCommands bytes n
good_shorter bytes n m le (commands, good) =
    let all = lines_of bytes in
    let whole : take n all ++ drop n (take m all) ≡ take m all =
    rw (take_shorter n m all le) at (take-append-drop n (take m all)) in
    let each = rw (← whole, filter-append) at good.each in
    let parts = zip_front IsKeyCommand (filter is_command_line (take n all))
    (filter is_command_line (drop n (take m all))) commands each in
    let most = rw parts.whole at good.most_commands in (
      parts.front,
      record { each = parts.fronts; most_commands = omega (arith, length-append {A = KeyCommand}) },
    )

pub script_bad : (bytes : List ℕ) (commands : List KeyCommand) (n : ℕ) → IsScript bytes commands →
    IsFirstBadScriptLine bytes n → ⊥
script_bad bytes commands n script bad =
    let all = lines_of bytes in
    bad.bad (good_shorter bytes n (length all) bad.most (commands, rw (take-length all) script))

pub script_same : (bytes : List ℕ) (commands others : List KeyCommand) → IsScript bytes commands →
    IsScript bytes others → commands ≡ others
script_same bytes commands others a b =
    zip_same IsKeyCommand one_command (filter is_command_line (lines_of bytes)) commands others
    a.each b.each

pub first_same : (bytes : List ℕ) (m n : ℕ) → IsFirstBadScriptLine bytes m →
    IsFirstBadScriptLine bytes n → m ≡ n
first_same bytes m n a b = elim (cases_order m n) [
  | inl same ↦ same
  | inr (inl less) ↦ absurd (a.bad (good_shorter bytes m (n - 1) (omega arith) b.before))
  | inr (inr more) ↦ absurd (b.bad (good_shorter bytes n (m - 1) (omega arith) a.before))
]

pub first_bad : (bytes : List ℕ) (i : ℕ) (line : List ℕ) (more : List (List ℕ))
    (commands : List KeyCommand) → Next (lines_of bytes) i line more →
    AddsNoKeyCommand line (length commands) → AreKeyCommands (take i (lines_of bytes)) commands →
    IsFirstBadScriptLine bytes (i + 1)
first_bad bytes i line more commands n none good = record {
  least = omega arith;
  most = let within = n.within in omega arith;
  before = let back : i + 1 - 1 ≡ i = omega arith in rw back (commands, good);
  bad = λ (others, all).
      add_none (take i (lines_of bytes)) line commands none good others (rw n.front at all);
}

pub ends : (bytes : List ℕ) (n : ℕ) (e : LineError) → (e ≡ Bad → IsFirstBadScriptLine bytes n) →
    EndsAt bytes (text_error n e)
ends bytes n Bad h = h refl
ends bytes n Memory h = tt

pub only_memory : (bytes : List ℕ) (e : TextError) (commands : List KeyCommand) → EndsAt bytes e →
    IsScript bytes commands → e ≡ text.Memory
only_memory bytes (text.Line n) commands at script = absurd (script_bad bytes commands n script at)
only_memory bytes text.Memory commands at script = refl

pub only_first : (bytes : List ℕ) (e : TextError) (n : ℕ) → EndsAt bytes e →
    IsFirstBadScriptLine bytes n → (e ≡ text.Line n) ⊎ (e ≡ text.Memory)
only_first bytes (text.Line m) n at bad = inl (ap (λ k. text.Line k) (first_same bytes m n at bad))
only_first bytes text.Memory n at bad = inr refl

-- ---- a line is no longer than the file

strip_short : (line : List ℕ) → length (strip_carriage_return line) ≤ length line
strip_short line = by (slice_index line (length line - 1) == 13)
  where
    by : (b : Bool) → length (cond b (take (length line - 1) line) line) ≤ length line
    by true = omega (arith, length-take {A = ℕ})
    by false = omega arith

pub line_short : (bytes line : List ℕ) (more : List (List ℕ)) → lines_of bytes ≡ line ∷ more →
    length line ≤ length bytes
line_short [] line more is = let none = lines_none [] refl in absurd (cc)
line_short (b ∷ bytes) line more is = by (position is_line_feed (b ∷ bytes)) refl
  where
    some : 0 < length (b ∷ bytes)
    some = omega arith

    by : (o : Option ℕ) → position is_line_feed (b ∷ bytes) ≡ o → length line ≤ length (b ∷ bytes)
    by None at =
        let same = sym is ∙ line_last (b ∷ bytes) some at in
        let first : line ≡ strip_carriage_return (b ∷ bytes) = cc in
        subst (λ (l : List ℕ). length l ≤ length (b ∷ bytes)) (sym first) (strip_short (b ∷ bytes))
    by (Some end) at =
        let same = sym is ∙ line_first (b ∷ bytes) end at in
        let first : line ≡ strip_carriage_return (take end (b ∷ bytes)) = cc in
        let less = strip_short (take end (b ∷ bytes)) in
        let size : length (take end (b ∷ bytes)) ≤ length (b ∷ bytes) =
        omega (arith, length-take {A = ℕ}) in
        subst (λ (l : List ℕ). length l ≤ length (b ∷ bytes)) (sym first) (omega (arith, less, size))
