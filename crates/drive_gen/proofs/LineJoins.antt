-- The lines of bytes behind lines.
use Rattle.drive_gen.proofs.Common.{◌≡◌, ℕ, ◌<◌, Bool, true, false, cond, List, [], ◌∷◌, ◌++◌, length, refl, sym, ap, ◌∙◌, append_assoc, arith, map, lines_of}
use Rattle.std.proofs.Common.{append-nil, inl, inr, subst}
use Rattle.std.specs.List.{slice_split, onto_first}
use Rattle.std.specs.Str.Lines.{strip_carriage_return}
use Rattle.std.proofs.lemmas.Bool.{cases_lt}
use Rattle.std.proofs.lemmas.List.{map-append}
use Rattle.std.proofs.lemmas.List.Splits.{slice_split-cons_yes, length-slice_split}
use Rattle.host_protocol.specs.Lines.{ended_parts, is_line_feed}
use Rattle.host_protocol.proofs.LineLemmas.{lines_none}
use Rattle.drive_gen.specs.Counting.{AreCounted, AreLines, EndsLine, IsTally}
use Rattle.drive_gen.specs.Summary.{last_stats}
use Rattle.drive_gen.specs.Tally.{plus, tally_of}
use Rattle.drive_gen.specs.declared.tally.Tally.{Tally}
use Rattle.drive_gen.proofs.TallyLemmas.{stats_found, stats_kept, tally_join}

some_parts : (bytes : List ℕ) → 0 < length (slice_split is_line_feed bytes)
some_parts bytes = omega (arith, length-slice_split is_line_feed bytes)

onto_join : (v : Bool) (b : ℕ) (parts more : List (List ℕ)) → 0 < length parts →
    cond v ([] ∷ (parts ++ more)) (onto_first b (parts ++ more)) ≡ cond v ([] ∷ parts) (onto_first b parts) ++ more
onto_join true b parts more h = refl
onto_join false b [] more h = absurd (omega arith)
onto_join false b (part ∷ parts) more h = refl

-- the parts before and behind a line feed
split_join : (front behind : List ℕ) →
    slice_split is_line_feed (front ++ 10 ∷ behind)
    ≡ slice_split is_line_feed front ++ slice_split is_line_feed behind
split_join [] behind = slice_split-cons_yes is_line_feed 10 behind refl
split_join (b ∷ front) behind =
    ap (λ parts. cond (is_line_feed b) ([] ∷ parts) (onto_first b parts)) (split_join front behind)
    ∙ onto_join (is_line_feed b) b (slice_split is_line_feed front) (slice_split is_line_feed behind)
    (some_parts front)

ended_join : (parts more : List (List ℕ)) → 0 < length more → ended_parts (parts ++ more) ≡ parts ++ ended_parts more
ended_join [] more h = refl
ended_join (part ∷ []) [] h = absurd (omega arith)
ended_join (part ∷ []) (first ∷ more) h = refl
ended_join (part ∷ next ∷ parts) more h = ap (λ l. part ∷ l) (ended_join (next ∷ parts) more h)

-- the lines up to a line feed, and those behind it
feed_join : (front behind : List ℕ) →
    lines_of (front ++ 10 ∷ behind) ≡ map strip_carriage_return (slice_split is_line_feed front) ++ lines_of behind
unfolding lines_of
feed_join front behind =
    ap (λ parts. map strip_carriage_return (ended_parts parts)) (split_join front behind)
    ∙ ap (λ parts. map strip_carriage_return parts)
    (ended_join (slice_split is_line_feed front) (slice_split is_line_feed behind) (some_parts behind))
    ∙ map-append strip_carriage_return (slice_split is_line_feed front) (ended_parts (slice_split is_line_feed behind))

-- the lines of two texts, the first of which ends with its last line
pub lines_join : (bytes more : List ℕ) → AreLines bytes → lines_of (bytes ++ more) ≡ lines_of bytes ++ lines_of more
lines_join bytes more (inl none) =
    ap (λ l. lines_of (l ++ more)) none
    ∙ sym (ap (λ l. l ++ lines_of more) (ap lines_of none ∙ lines_none [] refl))
lines_join bytes more (inr ends) =
    let first = map strip_carriage_return (slice_split is_line_feed ends.front) in
    let alone : lines_of bytes ≡ first =
    ap lines_of ends.all ∙ feed_join ends.front [] ∙ ap (λ l. first ++ l) (lines_none [] refl) ∙ append-nil first in
    ap (λ l. lines_of (l ++ more)) ends.all
    ∙ ap lines_of (append_assoc ends.front (10 ∷ []) more)
    ∙ feed_join ends.front more
    ∙ sym (ap (λ l. l ++ lines_of more) alone)

-- a text behind others ends as it does
pub ends_later : (bytes more : List ℕ) → EndsLine more → EndsLine (bytes ++ more)
ends_later bytes more ends = record {
  front = bytes ++ ends.front;
  all = ap (λ l. bytes ++ l) ends.all ∙ sym (append_assoc bytes ends.front (10 ∷ []));
}

-- what lines count to, and more text behind them
pub tally_more_text : (bytes more : List ℕ) (old new : Tally) (stats last : List ℕ) → AreLines bytes →
    IsTally bytes old stats → new ≡ plus old (tally_of (lines_of more)) →
    (0 < length (last_stats (lines_of more)) → last ≡ last_stats (lines_of more)) →
    (length (last_stats (lines_of more)) ≡ 0 → last ≡ stats) →
    IsTally (bytes ++ more) new last
tally_more_text bytes more old new stats last whole h counts found kept =
    let lines = lines_join bytes more whole in
    record {
      counts = counts ∙ ap (λ t. plus t (tally_of (lines_of more))) h.counts
          ∙ sym (tally_join (lines_of bytes) (lines_of more)) ∙ sym (ap tally_of lines);
      last = last_is (lines_of bytes) (lines_of more) stats last h.last found kept ∙ sym (ap last_stats lines);
    }
  where
    last_is : (xs ys : List (List ℕ)) (stats last : List ℕ) → stats ≡ last_stats xs →
        (0 < length (last_stats ys) → last ≡ last_stats ys) → (length (last_stats ys) ≡ 0 → last ≡ stats) →
        last ≡ last_stats (xs ++ ys)
    last_is xs ys stats last before found kept = elim (cases_lt 0 (length (last_stats ys))) [
      | inl some ↦ found some ∙ sym (stats_found xs ys some)
      | inr none ↦
          let no : length (last_stats ys) ≡ 0 = omega arith in
          kept no ∙ before ∙ sym (stats_kept xs ys no)
    ]

-- ---- a reply more

-- its text is open behind the lines that were counted
pub text_open : (bytes text : List ℕ) (tally : Tally) (stats rest all : List ℕ) → AreCounted bytes tally stats rest →
    all ≡ rest ++ text → AreCounted (bytes ++ text) tally stats all
text_open bytes text tally stats rest all h is = record {
  before = h.before;
  all = ap (λ l. l ++ text) h.all ∙ append_assoc h.before rest text ∙ ap (λ l. h.before ++ l) (sym is);
  whole = h.whole;
  counted = h.counted;
}

-- the open text is counted
pub open_counted : (bytes : List ℕ) (old new : Tally) (stats last rest text : List ℕ) →
    AreCounted bytes old stats rest →
    text ≡ rest → new ≡ plus old (tally_of (lines_of text)) →
    (0 < length (last_stats (lines_of text)) → last ≡ last_stats (lines_of text)) →
    (length (last_stats (lines_of text)) ≡ 0 → last ≡ stats) → IsTally bytes new last
open_counted bytes old new stats last rest text h same counts found kept =
    subst (λ (l : List ℕ). IsTally l new last) (ap (λ l. h.before ++ l) same ∙ sym h.all)
    (tally_more_text h.before text old new stats last h.whole h.counted counts found kept)

-- so nothing is open any more, where it ended with a line feed
pub all_counted : (bytes : List ℕ) (old new : Tally) (stats last rest none : List ℕ) → AreCounted bytes old stats rest →
    EndsLine rest → IsTally bytes new last → none ≡ [] → AreCounted bytes new last none
all_counted bytes old new stats last rest none h ends counted closed = record {
  before = bytes;
  all = sym (ap (λ l. bytes ++ l) closed ∙ append-nil bytes);
  whole = inr (subst EndsLine (sym h.all) (ends_later h.before rest ends));
  counted = counted;
}

-- nothing was open, and the text is a line without the numbers of a device
pub line_counted : (bytes text : List ℕ) (old new : Tally) (stats rest : List ℕ) → AreCounted bytes old stats rest →
    rest ≡ [] → new ≡ plus old (tally_of (lines_of text)) → length (last_stats (lines_of text)) ≡ 0 → EndsLine text →
    AreCounted (bytes ++ text) new stats rest
line_counted bytes text old new stats rest h closed counts none ends =
    let all : bytes ≡ h.before = h.all ∙ ap (λ l. h.before ++ l) closed ∙ append-nil h.before in
    let whole : AreLines bytes = subst AreLines (sym all) h.whole in
    let counted : IsTally bytes old stats = subst (λ (l : List ℕ). IsTally l old stats) (sym all) h.counted in
    record {
      before = bytes ++ text;
      all = sym (ap (λ l. (bytes ++ text) ++ l) closed ∙ append-nil (bytes ++ text));
      whole = inr (ends_later bytes text ends);
      counted = tally_more_text bytes text old new stats stats whole counted counts
          (λ some. absurd (omega arith)) (λ no. refl);
    }
