use Rattle.host_protocol.proofs.Common.{◌≡◌, ℕ, List, [], ◌∷◌, ◌++◌, map, take, sym, ap, ◌∙◌, append_assoc, arith, flat_map, decimal, line_of}
use Rattle.std.proofs.lemmas.List.{append-nil, take_all}
use Rattle.host_protocol.proofs.numbers_line.add_line.Goals as goal

abbrev spaced : List ℕ → List ℕ
spaced numbers = flat_map (λ n. 32 ∷ decimal n) numbers

-- a space before each number, and a line feed at the end
line-numbers : (words : List ℕ) (numbers : List ℕ) → words ++ spaced numbers ++ 10 ∷ []
    ≡ line_of (words ∷ map decimal numbers)
line-numbers words [] = ap (λ front. front ++ 10 ∷ []) (append-nil words)
line-numbers words (n ∷ numbers) =
    append_assoc words (spaced (n ∷ numbers)) (10 ∷ [])
    ∙ ap (λ rest. words ++ 32 ∷ rest) (line-numbers (decimal n) numbers)

pub returns-clause-ok : goal.returns-clause-ok
returns-clause-ok c =
    let old = c.args.out.now.items in
    let words = c.args.words.now in
    let numbers = c.args.numbers.now in
    let all : take c.loop-number.number-index numbers ≡ numbers = take_all _ _ (omega arith) in
    let before = rw all at c.loop-number.invariant.items in
    rw (c.push_reserved.ensures.items, before)
    (append_assoc (old ++ words) (spaced numbers) (10 ∷ []) ∙ append_assoc old words (spaced numbers ++ 10 ∷ [])
    ∙ ap (λ line. old ++ line) (sym (append_assoc words (spaced numbers) (10 ∷ [])) ∙ line-numbers words numbers))
