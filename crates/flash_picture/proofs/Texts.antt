-- Texts that grow, and words with spaces between them.
use Rattle.flash_picture.proofs.Common.{◌≡◌, ℕ, ◌+◌, ◌<◌, ◌≤◌, List, length, get_or, take, [], ◌∷◌, ◌++◌, sym, ap, ◌∙◌, append-nil, append_assoc, codes, flat_map, join_with_byte, range_with_len, name_of, Cell, Blank, Damaged, Holds, cell_words, name_word, word_if, on_ok_weaker}
use mathlib.Core.Path.{subst}
use Rattle.std.proofs.lemmas.List.{take_all, take_more}
use Rattle.std.proofs.lemmas.List.Concat.{flat_map-append}
use Rattle.std.specs.Result.{OnOk, result_and}
use Rattle.std.specs.declared.result.Result.{Result}
use Rattle.std.specs.declared.result.Result.TheVariants.{Ok, Err}
use Rattle.list_lemmas.proofs.Ranges.{flat_more}
use Rattle.flash_picture.specs.Cells.{after_spaces, rank_word}

-- words with a space between each two are the first, and the others with a space before each
pub joined : (word : List ℕ) (words : List (List ℕ)) → join_with_byte 32 (word ∷ words) ≡ word ++ after_spaces words
joined word [] = sym (append-nil word)
joined word (next ∷ words) = ap (λ text. word ++ 32 ∷ text) (joined next words)

joined_more : (word : List ℕ) (words more : List (List ℕ)) →
    join_with_byte 32 ((word ∷ words) ++ more) ≡ join_with_byte 32 (word ∷ words) ++ after_spaces more
joined_more word words more =
    joined word (words ++ more) ∙ ap (λ text. word ++ text) (flat_map-append (λ w. 32 ∷ w) words more)
    ∙ sym (append_assoc word (after_spaces words) (after_spaces more))
    ∙ ap (λ text. text ++ after_spaces more) (sym (joined word words))

-- the words of a cell, and more
pub cell_joined : (cell : Cell) (more : List (List ℕ)) →
    join_with_byte 32 (cell_words cell ++ more) ≡ join_with_byte 32 (cell_words cell) ++ after_spaces more
cell_joined Blank more = joined_more (codes "blank") [] more
cell_joined Damaged more = joined_more (codes "damaged") [] more
cell_joined (Holds rec rank held) more =
    joined_more (name_word (name_of rec)) (rank_word rank
    ∷ (word_if held (codes "held") ++ word_if rec.discard (codes "discard"))) more

-- a text that has grown by a piece, and grows by one more
pub then : (old piece text more all : List ℕ) → text ≡ old ++ piece → all ≡ text ++ more → all ≡ old ++ (piece ++ more)
then old piece text more all before after = after ∙ ap (λ t. t ++ more) before ∙ append_assoc old piece more

module _ {E : Type 0} where
  -- what holds where each of two calls is well, where what became of them is joined
  pub both : (A B : Type 0) (first second all : Result (Unit {0}) E) → OnOk first A → OnOk second B →
      all ≡ result_and first second → OnOk all (A × B)
  both A B first second all before after is = subst (λ r. OnOk r (A × B)) (sym is) (joined_by first before)
    where
      joined_by : (r : Result (Unit {0}) E) → OnOk r A → OnOk (result_and r second) (A × B)
      joined_by (Ok _) a = on_ok_weaker second (λ b. (a, b)) after
      joined_by (Err _) a = tt

  -- a text that has grown by a piece, and grows by one more, where what became of both is joined
  pub and_then : (old piece text more all : List ℕ) (first second whole : Result (Unit {0}) E) →
      OnOk first (text ≡ old ++ piece) → OnOk second (all ≡ text ++ more) → whole ≡ result_and first second →
      OnOk whole (all ≡ old ++ (piece ++ more))
  and_then old piece text more all first second whole before after is =
      on_ok_weaker whole (λ (p : (text ≡ old ++ piece) × (all ≡ text ++ more)). then old piece text more all p.0 p.1)
      (both (text ≡ old ++ piece) (all ≡ text ++ more) first second whole before after is)

  -- a piece in other words
  pub with_piece : (old new piece other : List ℕ) (r : Result (Unit {0}) E) → piece ≡ other →
      OnOk r (new ≡ old ++ piece) → OnOk r (new ≡ old ++ other)
  with_piece old new piece other r same said =
      on_ok_weaker r (λ (end : new ≡ old ++ piece). end ∙ ap (λ t. old ++ t) same) said

-- what is within a group and ends with a piece of its own
pub closed_both : (begun within end close : List ℕ) →
    (begun ++ within) ++ (end ++ close) ≡ (begun ++ (within ++ end)) ++ close
closed_both begun within end close =
    sym (append_assoc (begun ++ within) end close) ∙ ap (λ t. t ++ close) (append_assoc begun within end)

-- the same where the last of what is within ends so
pub closed_last : (begun first last end close : List ℕ) →
    (begun ++ (first ++ last)) ++ (end ++ close) ≡ (begun ++ (first ++ (last ++ end))) ++ close
closed_last begun first last end close =
    closed_both begun (first ++ last) end close ∙ ap (λ t. (begun ++ t) ++ close) (append_assoc first last end)

-- a text grows by that of one number more
pub text_more : (f : ℕ → List ℕ) (k : ℕ) (old text new : List ℕ) → text ≡ old ++ flat_map f (range_with_len 0 k) →
    new ≡ text ++ f k →
    new ≡ old ++ flat_map f (range_with_len 0 (k + 1))
text_more f k old text new before after =
    after ∙ ap (λ t. t ++ f k) before ∙ append_assoc old (flat_map f (range_with_len 0 k)) (f k)
    ∙ ap (λ t. old ++ t) (sym (flat_more f k))

-- a text grows by that of one item more
pub items_more : {X : Type 0} (f : X → List ℕ) (items : List X) (i : ℕ) (none : X) (old text new : List ℕ) →
    i < length items → text ≡ old ++ flat_map f (take i items) → new ≡ text ++ f (get_or items i none) →
    new ≡ old ++ flat_map f (take (i + 1) items)
items_more f items i none old text new within before after =
    let one = get_or items i none in
    after ∙ ap (λ t. t ++ f one) before ∙ append_assoc old (flat_map f (take i items)) (f one)
    ∙ ap (λ t. old ++ t)
    (sym (ap (flat_map f) (take_more items i none within) ∙ flat_map-append f (take i items) (one ∷ [])
    ∙ ap (λ t. flat_map f (take i items) ++ t) (append-nil (f one))))

-- no text yet, and all of them
pub text_none : (f : ℕ → List ℕ) (old : List ℕ) → old ≡ old ++ flat_map f (range_with_len 0 0)
text_none f old = sym (append-nil old)

pub text_all : (f : ℕ → List ℕ) (k n : ℕ) (old new : List ℕ) → new ≡ old ++ flat_map f (range_with_len 0 k) → k ≡ n →
    new ≡ old ++ flat_map f (range_with_len 0 n)
text_all f k n old new all is = all ∙ ap (λ n. old ++ flat_map f (range_with_len 0 n)) is

pub items_none : {X : Type 0} (f : X → List ℕ) (items : List X) (old : List ℕ) → old ≡ old ++ flat_map f (take 0 items)
items_none f items old = sym (append-nil old)

pub items_all : {X : Type 0} (f : X → List ℕ) (items : List X) (i : ℕ) (old new : List ℕ) →
    new ≡ old ++ flat_map f (take i items) → length items ≤ i → new ≡ old ++ flat_map f items
items_all f items i old new all whole = all ∙ ap (λ l. old ++ flat_map f l) (take_all i items whole)
