-- A line that begins with a verb and a space.
use Rattle.host_protocol.proofs.Common.{◌≡◌, ℕ, true, false, List, [], ◌∷◌, ◌++◌, take, drop, refl, ap, ◌∙◌, arith, append_assoc, position_or_len, words_of, is_space_or_tab}
use Rattle.host_protocol.specs.Files.{is_command_line}
use Rattle.host_protocol.specs.Reading.{BeginsWithVerb}
use Rattle.host_protocol.specs.Verbs.{word_of}
use Rattle.host_protocol.specs.declared.verb.Verb.{Verb}
use Rattle.host_protocol.specs.declared.verb.Verb.TheVariants as verb
use Rattle.host_protocol.proofs.WordLemmas.{word_take, long_start}

-- a line that begins with no blank begins with a word
by_word : (line : List ℕ) (b : ℕ) (bs : List ℕ) → line ≡ b ∷ bs → is_space_or_tab b ≡ false →
    words_of line ≡ take (position_or_len is_space_or_tab line) line
    ∷ words_of (drop (position_or_len is_space_or_tab line) line)
by_word line b bs e filled = word_take line (rw e (omega arith)) (rw e (long_start b bs filled))

-- a space before the words is none of them
blank_first : (behind : List ℕ) → words_of (32 ∷ behind) ≡ words_of behind
unfolding words_of
blank_first behind = refl

spaced : (verb : Verb) (behind : List ℕ) → words_of (word_of verb ++ 32 ∷ behind) ≡ word_of verb ∷ words_of behind
spaced verb.Read behind = by_word (word_of verb.Read ++ 32 ∷ behind) 114
    (101 ∷ 97 ∷ 100 ∷ 32 ∷ behind) refl refl ∙ ap (λ w. word_of verb.Read ∷ w) (blank_first behind)
spaced verb.Write behind = by_word (word_of verb.Write ++ 32 ∷ behind) 119
    (114 ∷ 105 ∷ 116 ∷ 101 ∷ 32 ∷ behind) refl refl ∙ ap (λ w. word_of verb.Write ∷ w) (blank_first behind)
spaced verb.Step behind = by_word (word_of verb.Step ++ 32 ∷ behind) 115
    (116 ∷ 101 ∷ 112 ∷ 32 ∷ behind) refl refl ∙ ap (λ w. word_of verb.Step ∷ w) (blank_first behind)
spaced verb.Finish behind = by_word (word_of verb.Finish ++ 32 ∷ behind) 102
    (105 ∷ 110 ∷ 105 ∷ 115 ∷ 104 ∷ 32 ∷ behind) refl refl ∙ ap (λ w. word_of verb.Finish ∷ w) (blank_first behind)
spaced verb.Abort behind = by_word (word_of verb.Abort ++ 32 ∷ behind) 97
    (98 ∷ 111 ∷ 114 ∷ 116 ∷ 32 ∷ behind) refl refl ∙ ap (λ w. word_of verb.Abort ∷ w) (blank_first behind)
spaced verb.StepAll behind = by_word (word_of verb.StepAll ++ 32 ∷ behind) 115
    (116 ∷ 101 ∷ 112 ∷ 97 ∷ 108 ∷ 108 ∷ 32 ∷ behind) refl refl ∙ ap (λ w. word_of verb.StepAll ∷ w) (blank_first behind)
spaced verb.Collect behind = by_word (word_of verb.Collect ++ 32 ∷ behind) 99
    (111 ∷ 108 ∷ 108 ∷ 101 ∷ 99 ∷ 116 ∷ 32 ∷ behind) refl refl ∙ ap (λ w. word_of verb.Collect ∷ w) (blank_first behind)
spaced verb.Stats behind = by_word (word_of verb.Stats ++ 32 ∷ behind) 115
    (116 ∷ 97 ∷ 116 ∷ 115 ∷ 32 ∷ behind) refl refl ∙ ap (λ w. word_of verb.Stats ∷ w) (blank_first behind)
spaced verb.Explain behind = by_word (word_of verb.Explain ++ 32 ∷ behind) 101
    (120 ∷ 112 ∷ 108 ∷ 97 ∷ 105 ∷ 110 ∷ 32 ∷ behind) refl refl ∙ ap (λ w. word_of verb.Explain ∷ w) (blank_first behind)
spaced verb.Cut behind = by_word (word_of verb.Cut ++ 32 ∷ behind) 99
    (117 ∷ 116 ∷ 32 ∷ behind) refl refl ∙ ap (λ w. word_of verb.Cut ∷ w) (blank_first behind)
spaced verb.Fault behind = by_word (word_of verb.Fault ++ 32 ∷ behind) 102
    (97 ∷ 117 ∷ 108 ∷ 116 ∷ 32 ∷ behind) refl refl ∙ ap (λ w. word_of verb.Fault ∷ w) (blank_first behind)
spaced verb.BadRead behind = by_word (word_of verb.BadRead ++ 32 ∷ behind) 98
    (97 ∷ 100 ∷ 114 ∷ 101 ∷ 97 ∷ 100 ∷ 32 ∷ behind) refl refl ∙ ap (λ w. word_of verb.BadRead ∷ w) (blank_first behind)

-- no verb begins as a comment does
asks_verb : (line : List ℕ) (verb : Verb) (others : List (List ℕ)) → words_of line ≡ word_of verb ∷ others →
    is_command_line line ≡ true
asks_verb line verb.Read others h = rw h refl
asks_verb line verb.Write others h = rw h refl
asks_verb line verb.Step others h = rw h refl
asks_verb line verb.Finish others h = rw h refl
asks_verb line verb.Abort others h = rw h refl
asks_verb line verb.StepAll others h = rw h refl
asks_verb line verb.Collect others h = rw h refl
asks_verb line verb.Stats others h = rw h refl
asks_verb line verb.Explain others h = rw h refl
asks_verb line verb.Cut others h = rw h refl
asks_verb line verb.Fault others h = rw h refl
asks_verb line verb.BadRead others h = rw h refl

pub begins : (line : List ℕ) (verb : Verb) (behind : List ℕ) → words_of line ≡ word_of verb ∷ words_of behind →
    BeginsWithVerb line verb behind
begins line verb behind h = record { words = h; asks = asks_verb line verb (words_of behind) h }

pub begins_behind : (line text : List ℕ) (verb : Verb) (behind : List ℕ) → text ≡ word_of verb ++ 32 ∷ [] →
    line ≡ text ++ behind → BeginsWithVerb line verb behind
begins_behind line text verb behind e h =
    let all : line ≡ word_of verb ++ 32 ∷ behind =
    h ∙ ap (λ t. t ++ behind) e ∙ append_assoc (word_of verb) (32 ∷ []) behind in
    begins line verb behind (ap words_of all ∙ spaced verb behind)
