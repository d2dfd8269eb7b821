-- The commands that work has to give, before and after a part.
use Rattle.drive_gen.proofs.Common.{◌≡◌, ℕ, suc, ◌+◌, ◌<◌, ◌≤◌, List, [], ◌++◌, false, true, refl, ap, sym, ◌∙◌, append_assoc, arith, flat_map, range_with_len, Config, fill, generated, numbered}
use Rattle.std.proofs.Common.{zero, ◌-◌, append-nil, if◌then◌else◌}
use Rattle.host_protocol.specs.declared.command.Command.{Command}
use Rattle.drive_gen.specs.Parts.{fills_from, drawn_from, last_part, left_of, parts_left}
use Rattle.drive_gen.specs.Work.{fills, transactions, state_behind, state_behind_all, transaction}
use Rattle.drive_gen.specs.declared.generator.Generator.{Generator}
use Rattle.drive_gen.specs.declared.work.Work.{Work}
use Rattle.drive_gen.proofs.DrawLemmas.{behind_more, behind_none}

-- ---- the pages that are filled

fills_none : (c : Config) (page : ℕ) → c.logical ≤ page → fills_from c page ≡ []
fills_none c page h =
    let none : c.logical - page ≡ 0 = omega arith in
    ap (λ n. flat_map (fill c) (range_with_len page n)) none

fills_more : (c : Config) (page : ℕ) → page < c.logical → fills_from c page ≡ fill c page ++ fills_from c (page + 1)
fills_more c page h =
    let more : c.logical - page ≡ suc (c.logical - (page + 1)) = omega arith in
    ap (λ n. flat_map (fill c) (range_with_len page n)) more

-- ---- the transactions that are drawn

drawn_none : (c : Config) (x i n : ℕ) → n ≡ 0 → drawn_from c x i n ≡ []
unfolding drawn_from
drawn_none c x i n none = ap (λ k. drawn_from c x i k) none

drawn_next : (c : Config) (x i n : ℕ) →
    drawn_from c x i (suc n) ≡ transaction c x (i + 1) ++ drawn_from c (state_behind c x) (i + 1) n
unfolding drawn_from
drawn_next c x i n = refl

drawn_more : (c : Config) (x i count : ℕ) → i < count → drawn_from c x i (count - i)
    ≡ transaction c x (i + 1) ++ drawn_from c (state_behind c x) (i + 1) (count - (i + 1))
drawn_more c x i count h =
    let more : count - i ≡ suc (count - (i + 1)) = omega arith in
    ap (λ n. drawn_from c x i n) more ∙ drawn_next c x i (count - (i + 1))

drawn_is : (c : Config) (start i n : ℕ) →
    drawn_from c (state_behind_all c start i) i n ≡ flat_map (numbered c start) (range_with_len i n)
drawn_is c start i zero = drawn_none c (state_behind_all c start i) i 0 refl
drawn_is c start i (suc n) =
    let x = state_behind_all c start i in
    drawn_next c x i n
    ∙ ap (λ y. transaction c x (i + 1) ++ drawn_from c y (i + 1) n) (behind_more c start i)
    ∙ ap (λ l. transaction c x (i + 1) ++ l) (drawn_is c start (i + 1) n)

-- ---- all of them

pub all_left : (start count : ℕ) (c : Config) →
    fills_from c 0 ++ (drawn_from c start 0 (count - 0) ++ last_part c) ≡ generated start count c
unfolding generated
all_left start count c =
    let pages : c.logical - 0 ≡ c.logical = omega arith in
    let works : count - 0 ≡ count = omega arith in
    let drawn : drawn_from c start 0 count ≡ transactions start count c =
    ap (λ x. drawn_from c x 0 count) (sym (behind_none c start)) ∙ drawn_is c start 0 count in
    let joined : fills c ++ (transactions start count c ++ last_part c)
    ≡ (fills c ++ transactions start count c) ++ last_part c =
    sym (append_assoc (fills c) (transactions start count c) (last_part c)) in
    let whole : (fills c ++ transactions start count c) ++ last_part c ≡ generated start count c =
    sym (append_assoc (fills c ++ transactions start count c) _ _) in
    ap (λ n. flat_map (fill c) (range_with_len 0 n) ++ (drawn_from c start 0 (count - 0) ++ last_part c)) pages
    ∙ ap (λ n. fills c ++ (drawn_from c start 0 n ++ last_part c)) works
    ∙ ap (λ l. fills c ++ (l ++ last_part c)) drawn ∙ joined ∙ whole

-- ---- part by part

-- the next page is filled
pub fill_given : (w : Work) (old new : List Command) → w.filled < w.config.logical →
    new ≡ old ++ fill w.config w.filled →
    new ++ left_of (record w { filled = w.filled + 1 }) ≡ old ++ left_of w
fill_given w old new h is =
    let c = w.config in
    let page = w.filled in
    let rest : List Command = drawn_from c w.generator.state w.drawn (w.count - w.drawn)
    ++ (if w.ended then [] else last_part c) in
    let regroup : (old ++ fill c page) ++ (fills_from c (page + 1) ++ rest)
    ≡ old ++ ((fill c page ++ fills_from c (page + 1)) ++ rest) = simp append_assoc in
    ap (λ l. l ++ (fills_from c (page + 1) ++ rest)) is ∙ regroup
    ∙ ap (λ l. old ++ (l ++ rest)) (sym (fills_more c page h))

-- the next transaction is drawn
pub drawn_given : (w : Work) (g : Generator) (old new : List Command) → w.config.logical ≤ w.filled →
    w.drawn < w.count → g.state ≡ state_behind w.config w.generator.state →
    new ≡ old ++ transaction w.config w.generator.state (w.drawn + 1) →
    new ++ left_of (record w { generator = g; drawn = w.drawn + 1 }) ≡ old ++ left_of w
drawn_given w g old new filled h state is =
    let c = w.config in
    let page = w.filled in
    let i = w.drawn in
    let one = transaction c w.generator.state (i + 1) in
    let more = drawn_from c (state_behind c w.generator.state) (i + 1) (w.count - (i + 1)) in
    let end : List Command = if w.ended then [] else last_part c in
    let none = fills_none c page filled in
    let regroup : (old ++ one) ++ (more ++ end) ≡ old ++ ((one ++ more) ++ end) = simp append_assoc in
    ap (λ l. l ++ left_of (record w { generator = g; drawn = i + 1 })) is
    ∙ ap (λ f. (old ++ one) ++ (f ++ (drawn_from c g.state (i + 1) (w.count - (i + 1)) ++ end))) none
    ∙ ap (λ x. (old ++ one) ++ (drawn_from c x (i + 1) (w.count - (i + 1)) ++ end)) state
    ∙ regroup
    ∙ ap (λ l. old ++ (l ++ end)) (sym (drawn_more c w.generator.state i w.count h))
    ∙ ap (λ f. old ++ (f ++ (drawn_from c w.generator.state i (w.count - i) ++ end))) (sym none)

-- where nothing but the last part is left
ending : (w : Work) (end : List Command) → w.config.logical ≤ w.filled → w.count ≤ w.drawn →
    fills_from w.config w.filled ++ (drawn_from w.config w.generator.state w.drawn (w.count - w.drawn) ++ end) ≡ end
ending w end filled drawn =
    let c = w.config in
    let none : w.count - w.drawn ≡ 0 = omega arith in
    ap (λ f. f ++ (drawn_from c w.generator.state w.drawn (w.count - w.drawn) ++ end))
    (fills_none c w.filled filled)
    ∙ ap (λ d. d ++ end) (drawn_none c w.generator.state w.drawn (w.count - w.drawn) none)

pub end_given : (w : Work) (old new : List Command) → w.config.logical ≤ w.filled → w.count ≤ w.drawn →
    w.ended ≡ false → new ≡ old ++ last_part w.config →
    new ++ left_of (record w { ended = true }) ≡ old ++ left_of w
end_given w old new filled drawn first is =
    let c = w.config in
    let left = ending w (if w.ended then [] else last_part c) filled drawn in
    let last = ap (λ b. if b then [] else last_part c) first in
    ap (λ l. new ++ l) (ending w [] filled drawn) ∙ append-nil new ∙ is
    ∙ ap (λ l. old ++ l) (sym (left ∙ last))

-- the last part was given
pub none_left : (w : Work) → w.config.logical ≤ w.filled → w.count ≤ w.drawn → w.ended ≡ true → left_of w ≡ []
none_left w filled drawn ended =
    ending w (if w.ended then [] else last_part w.config) filled drawn
    ∙ ap (λ b. if b then [] else last_part w.config) ended

pub end_fewer : (w : Work) → w.ended ≡ false → parts_left (record w { ended = true }) < parts_left w
end_fewer w first = rw first (omega arith)
