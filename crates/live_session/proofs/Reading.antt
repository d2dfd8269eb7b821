-- What is taken of an input, buffer by buffer, and what that comes to.
use Rattle.std.proofs.Common.{◌≡◌, ◌≢◌, ◌⊎◌, ℕ, ◌+◌, ◌<◌, ◌≤◌, ◌==◌, Bool, true, false, List, [], ◌∷◌, ◌++◌, length, take, Option, None, Some, IfSome, OnSome, Result, Ok, Err, IfOk, refl, sym, subst, ap, ◌∙◌, inl, inr, arith, append_assoc, append-nil, length-append, get_or, get_or-take, length-take, if◌then◌else◌, eqb-true, eq-eqb, take_all}
use Rattle.std.proofs.KnownBytes.{Consumes-nil, Consumes-kept, Consumes-trans}
use Rattle.std.proofs.BufReadLemmas.{Consumes_shown}
use Rattle.std.proofs.lemmas.List.{take_more}
use Rattle.std.proofs.lemmas.Bool.{false≢true}
use Rattle.std.proofs.lemmas.Option.{none-some}
use Rattle.std.proofs.lemmas.List.Elements.{All-nil, All-cons, All-append, All-from_get_or}
use Rattle.std.specs.Io.{StartsWith}
use Rattle.std.specs.Io.KnownBytes.{Consumes, IsAtEnd, Keeps}
use Rattle.std.specs.Io.BufRead.{DropsConsumable, DropsThrough, drop_through}
use Rattle.memchr.specs.Find.{IsFirstByte, is_byte}
use Rattle.host_protocol.specs.Lines.{HasNoFeed}
use Rattle.live_session.specs.Lines.{FindsFeed, IsLong, IsNext, ReadsOver, TakesBuffered, TakesPiece}
use Rattle.live_session.specs.declared.desk.Next.{Next}
use Rattle.live_session.specs.declared.desk.Next.TheVariants as next
use Rattle.live_session.specs.declared.lines.Taken.{Taken}
use Rattle.live_session.specs.declared.lines.Taken.TheVariants as taken
use Rattle.live_session.specs.declared.lines.TheConstants.{MAX_LINE_BYTES}

-- ---- a line feed

feed_of : (b : ℕ) → (b == 10) ≡ true → b ≡ 10
feed_of b is = eqb-true b 10 is

pub finds_feed : (bytes : List ℕ) (found : Option ℕ) → IsFirstByte (is_byte 10) bytes found → FindsFeed bytes found
finds_feed bytes None h =
    All-from_get_or (λ b. b ≢ 10) bytes 0 (λ k inside is. h k (omega arith) inside (eq-eqb (get_or bytes k 0) 10 is))
finds_feed bytes (Some at) h =
    let inside : at < length bytes = h.0.high in
    let size = length-take at bytes in (
      inside,
      All-from_get_or (λ b. b ≢ 10) (take at bytes) 0 (λ k before is.
          let near : k < at = omega (arith, before, size) in
          h.0.before k (omega arith) near
          (eq-eqb (get_or bytes k 0) 10 (sym (get_or-take at bytes k 0 near) ∙ is))),
      take_more bytes at 0 inside ∙ ap (λ b. take at bytes ++ b ∷ []) (feed_of (get_or bytes at 0) h.1),
    )

-- ---- what is buffered

-- bytes that are shown are taken up to the line feed, and with it
pub takes_feed : (a b c : Option (List ℕ)) (buffered : Option ℕ) (shown old new : List ℕ) (at : ℕ) →
    FindsFeed shown (Some at) → new ≡ old ++ take at shown →
    IfSome a (λ xs. StartsWith xs shown) → IfSome a (λ xs. length shown ≡ 0 → xs ≡ []) → Keeps a b →
    IfSome a (λ _. IfSome buffered (λ k. length shown ≤ k)) → DropsConsumable b c buffered (at + 1) →
    TakesBuffered a c taken.WithFeed old new
takes_feed a b c buffered shown old new at found is front end kept fits drops =
    let moved = Consumes_shown a b c buffered shown (at + 1) (omega (arith, found.0)) front end kept fits drops in
    (take at shown, is, found.1, subst (Consumes a c) found.2 moved.0)

-- or all of them, where there is none
pub takes_shown : (a b c : Option (List ℕ)) (buffered : Option ℕ) (shown old new : List ℕ) (n : ℕ) →
    HasNoFeed shown → new ≡ old ++ shown → n ≡ length shown →
    IfSome a (λ xs. StartsWith xs shown) → IfSome a (λ xs. length shown ≡ 0 → xs ≡ []) → Keeps a b →
    IfSome a (λ _. IfSome buffered (λ k. length shown ≤ k)) → DropsConsumable b c buffered n →
    TakesBuffered a c taken.WithoutFeed old new
takes_shown a b c buffered shown old new n none is size front end kept fits drops =
    let moved = Consumes_shown a b c buffered shown n (omega (arith, size)) front end kept fits drops in
    (shown, is, none, subst (Consumes a c) (take_all n shown (omega (arith, size))) moved.0)

keeps_end : (a b : Option (List ℕ)) → IfSome a (λ xs. xs ≡ []) → Keeps a b → OnSome a (IsAtEnd b)
keeps_end None b end kept = tt
keeps_end (Some x) None end kept = absurd kept
keeps_end (Some x) (Some y) end kept = kept ∙ end

shown_none : (a : Option (List ℕ)) (shown : List ℕ) → IfSome a (λ xs. length shown ≡ 0 → xs ≡ []) →
    length shown ≡ 0 → IfSome a (λ xs. xs ≡ [])
shown_none None shown end none = tt
shown_none (Some x) shown end none = end none

-- or none, since there are none
pub takes_none : (a b : Option (List ℕ)) (shown old : List ℕ) →
    IfSome a (λ xs. length shown ≡ 0 → xs ≡ []) → Keeps a b → length shown ≡ 0 →
    TakesBuffered a b taken.Nothing old old
takes_none a b shown old end kept none =
    (refl, Consumes-kept a a b [] (Consumes-nil a) kept, keeps_end a b (shown_none a shown end none) kept)

-- or none, since the read was interrupted
pub takes_later : (a b : Option (List ℕ)) (old : List ℕ) → Keeps a b → TakesBuffered a b taken.WithoutFeed old old
takes_later a b old kept =
    ([], sym (append-nil old), All-nil (λ b. b ≢ 10), Consumes-kept a a b [] (Consumes-nil a) kept)

-- ---- a line

-- no line feed was met so far
pub record IsUnended (known left : Option (List ℕ)) (line : List ℕ) : Type 0 where
  pub takes : Consumes known left line
  pub feeds : HasNoFeed line

pub unended_none : (a : Option (List ℕ)) (line : List ℕ) → line ≡ [] → IsUnended a a line
unended_none a line is =
    subst (IsUnended a a) (sym is) (record { takes = Consumes-nil a; feeds = All-nil (λ b. b ≢ 10) })

pub unended_more : (a b c : Option (List ℕ)) (old new : List ℕ) (it : Taken) → IsUnended a b old →
    TakesBuffered b c it old new → it ≡ taken.WithoutFeed → IsUnended a c new
unended_more a b c old new it before takes is =
    let now = subst (λ x. TakesBuffered b c x old new) is takes in
    subst (IsUnended a c) (sym now.1) (record {
      takes = Consumes-trans a b c old now.0 before.takes now.3;
      feeds = All-append (λ b. b ≢ 10) old now.0 before.feeds now.2;
    })

took : (a c : Option (List ℕ)) (it : Next) (line piece : List ℕ) → Consumes a c piece →
    ((all rest : List ℕ) → a ≡ Some all → c ≡ Some rest → IsNext it line piece rest) → TakesPiece a c it line
took None c it line piece h next = tt
took (Some all) None it line piece h next = absurd h
took (Some all) (Some rest) it line piece h next = (piece, h, next all rest refl refl)

rest_none : (a b c : Option (List ℕ)) (bytes all rest : List ℕ) → Consumes a b bytes → OnSome b (IsAtEnd c) →
    a ≡ Some all → c ≡ Some rest → rest ≡ []
rest_none None b c bytes all rest h end known left = absurd (none-some all known)
rest_none (Some x) None c bytes all rest h end known left = absurd h
rest_none (Some x) (Some y) c bytes all rest h end known left = subst IsAtEnd left end

-- with its line feed
with_feed : (a b c : Option (List ℕ)) (old new front : List ℕ) → IsUnended a b old → new ≡ old ++ front →
    Consumes b c (front ++ 10 ∷ []) → Consumes a c (new ++ 10 ∷ [])
with_feed a b c old new front before is now =
    subst (Consumes a c)
    (sym (append_assoc old front (10 ∷ [])) ∙ ap (λ l. l ++ 10 ∷ []) (sym is))
    (Consumes-trans a b c old (front ++ 10 ∷ []) before.takes now)

feeds_none : (old new front : List ℕ) → HasNoFeed old → HasNoFeed front → new ≡ old ++ front → HasNoFeed new
feeds_none old new front h k is = subst HasNoFeed (sym is) (All-append (λ b. b ≢ 10) old front h k)

-- of what was taken, none is a line feed
pub taken_feeds : (b c : Option (List ℕ)) (old new : List ℕ) (it : Taken) → HasNoFeed old →
    TakesBuffered b c it old new → HasNoFeed new
taken_feeds b c old new taken.WithFeed before takes = feeds_none old new takes.0 before takes.2 takes.1
taken_feeds b c old new taken.WithoutFeed before takes = feeds_none old new takes.0 before takes.2 takes.1
taken_feeds b c old new taken.Nothing before takes = subst HasNoFeed (sym takes.0) before

pub takes_line : (a b c : Option (List ℕ)) (old new : List ℕ) (it : Taken) → IsUnended a b old →
    TakesBuffered b c it old new → it ≡ taken.WithFeed → length new ≤ MAX_LINE_BYTES → TakesPiece a c next.Line new
takes_line a b c old new it before takes is most =
    let now = subst (λ x. TakesBuffered b c x old new) is takes in
    took a c next.Line new (new ++ 10 ∷ []) (with_feed a b c old new now.0 before now.1 now.3) (λ all rest known left. (
      record { feeds = feeds_none old new now.0 before.feeds now.2 now.1; most = most },
      refl,
    ))

empty_of : (bytes : List ℕ) → length bytes ≡ 0 → bytes ≡ []
empty_of [] none = refl
empty_of (byte ∷ bytes) none = absurd (omega (arith, none))

-- at its end
at_end : (a b c : Option (List ℕ)) (old new : List ℕ) → IsUnended a b old → new ≡ old → Consumes b c [] →
    Consumes a c new
at_end a b c old new before is now =
    subst (Consumes a c) (append-nil old ∙ sym is) (Consumes-trans a b c old [] before.takes now)

pub takes_end : (a b c : Option (List ℕ)) (old new : List ℕ) (it : Taken) → IsUnended a b old →
    TakesBuffered b c it old new → it ≡ taken.Nothing → length new ≡ 0 → TakesPiece a c next.End new
takes_end a b c old new it before takes is none =
    let now = subst (λ x. TakesBuffered b c x old new) is takes in
    took a c next.End new new (at_end a b c old new before now.0 now.1)
    (λ all rest known left. (empty_of new none, rest_none a b c old all rest before.takes now.2 known left))

pub takes_part : (a b c : Option (List ℕ)) (old new : List ℕ) (it : Taken) → IsUnended a b old →
    TakesBuffered b c it old new → it ≡ taken.Nothing → length new ≢ 0 → TakesPiece a c next.Part new
takes_part a b c old new it before takes is some =
    let now = subst (λ x. TakesBuffered b c x old new) is takes in
    took a c next.Part new new (at_end a b c old new before now.0 now.1) (λ all rest known left. record {
      feeds = subst HasNoFeed (sym now.0) before.feeds;
      some = λ none. some (ap length none);
      last = rest_none a b c old all rest before.takes now.2 known left;
    })

-- ---- a line with too many bytes

-- What is read over: up to the first line feed, or to the end.
record IsRest (bytes rest : List ℕ) : Type 0 where
  pub front : List ℕ
  pub feeds : HasNoFeed front
  pub whole : (bytes ≡ front ++ 10 ∷ rest) ⊎ ((bytes ≡ front) × (rest ≡ []))

over_byte : (byte : ℕ) (bytes : List ℕ) (feed : Bool) → (byte == 10) ≡ feed → IsRest bytes (drop_through 10 bytes) →
    IsRest (byte ∷ bytes) (if feed then bytes else drop_through 10 bytes)
over_byte byte bytes true is over = record {
  front = [];
  feeds = All-nil (λ b. b ≢ 10);
  whole = inl (ap (λ k. k ∷ bytes) (eqb-true byte 10 is));
}
over_byte byte bytes false is over = record {
  front = byte ∷ over.front;
  feeds = All-cons (λ b. b ≢ 10) byte over.front (λ h. false≢true (sym is ∙ eq-eqb byte 10 h)) over.feeds;
  whole = elim over.whole [
    | inl h ↦ inl (ap (λ l. byte ∷ l) h)
    | inr h ↦ inr (ap (λ l. byte ∷ l) h.0, h.1)
  ];
}

over : (bytes : List ℕ) → IsRest bytes (drop_through 10 bytes)
over [] = record { front = []; feeds = All-nil (λ b. b ≢ 10); whole = inr (refl, refl) }
over (byte ∷ bytes) = over_byte byte bytes (byte == 10) refl (over bytes)

long_piece : (line mid rest : List ℕ) → HasNoFeed line → MAX_LINE_BYTES < length line → IsRest mid rest →
    (piece : List ℕ) × (line ++ mid ≡ piece ++ rest) × IsLong piece rest
long_piece line mid rest feeds long over =
    let longer : MAX_LINE_BYTES < length (line ++ over.front) =
    omega (arith, long, length-append line over.front) in
    elim over.whole [
      | inl h ↦ (
        (line ++ over.front) ++ 10 ∷ [],
        ap (λ l. line ++ l) h ∙ sym (append_assoc line over.front (10 ∷ rest))
            ∙ sym (append_assoc (line ++ over.front) (10 ∷ []) rest),
        record {
          line = line ++ over.front;
          feeds = All-append (λ b. b ≢ 10) line over.front feeds over.feeds;
          long = longer;
          whole = inl refl;
        },
      )
      | inr h ↦ (
        line ++ over.front,
        ap (λ l. line ++ l) h.0 ∙ sym (append-nil (line ++ over.front)) ∙ ap (λ l. (line ++ over.front) ++ l) (sym h.1),
        record {
          line = line ++ over.front;
          feeds = All-append (λ b. b ≢ 10) line over.front feeds over.feeds;
          long = longer;
          whole = inr (refl, h.1);
        },
      )
    ]

dropped : (a b c : Option (List ℕ)) (line left : List ℕ) → Consumes a b line → HasNoFeed line →
    MAX_LINE_BYTES < length line → DropsThrough b c 10 → TakesPiece a c next.LongLine left
dropped None b c line left before feeds long drops = tt
dropped (Some all) None c line left before feeds long drops = absurd before
dropped (Some all) (Some mid) c line left before feeds long drops =
    let it = long_piece line mid (drop_through 10 mid) feeds long (over mid) in
    subst (λ x. TakesPiece (Some all) x next.LongLine left) (sym drops) (it.0, before ∙ it.1, it.2)

long_taken : (a b c d : Option (List ℕ)) (old new left : List ℕ) (it : Taken) → IsUnended a b old →
    TakesBuffered b c it old new → MAX_LINE_BYTES < length new → ReadsOver c d it → TakesPiece a d next.LongLine left
long_taken a b c d old new left taken.WithFeed before takes long same =
    subst (λ x. TakesPiece a x next.LongLine left) (sym same)
    (took a c next.LongLine left (new ++ 10 ∷ []) (with_feed a b c old new takes.0 before takes.1 takes.3)
    (λ all rest known last. record {
      line = new;
      feeds = feeds_none old new takes.0 before.feeds takes.2 takes.1;
      long = long;
      whole = inl refl;
    }))
long_taken a b c d old new left taken.WithoutFeed before takes long drops =
    dropped a c d new left
    (subst (Consumes a c) (sym takes.1) (Consumes-trans a b c old takes.0 before.takes takes.3))
    (feeds_none old new takes.0 before.feeds takes.2 takes.1) long drops
long_taken a b c d old new left taken.Nothing before takes long same =
    subst (λ x. TakesPiece a x next.LongLine left) (sym same)
    (took a c next.LongLine left new (at_end a b c old new before takes.0 takes.1) (λ all rest known last. record {
      line = new;
      feeds = subst HasNoFeed (sym takes.0) before.feeds;
      long = long;
      whole = inr (refl, rest_none a b c old all rest before.takes takes.2 known last);
    }))

takes_long : (a b c d : Option (List ℕ)) (old new left : List ℕ) (it : Taken) (next' : Next) → IsUnended a b old →
    TakesBuffered b c it old new → MAX_LINE_BYTES < length new → (next' ≡ next.LongLine) × ReadsOver c d it →
    TakesPiece a d next' left
takes_long a b c d old new left it next' before takes long over =
    subst (λ x. TakesPiece a d x left) (sym over.0) (long_taken a b c d old new left it before takes long over.1)

pub reads_long : {E : Type 0} (a b c d : Option (List ℕ)) (old new left : List ℕ) (it : Taken) (r : Result Next E) →
    IsUnended a b old → TakesBuffered b c it old new → MAX_LINE_BYTES < length new →
    IfOk r (λ next'. (next' ≡ next.LongLine) × ReadsOver c d it) → IfOk r (λ next'. TakesPiece a d next' left)
reads_long a b c d old new left it (Ok next') before takes long over =
    takes_long a b c d old new left it next' before takes long over
reads_long a b c d old new left it (Err e) before takes long over = tt
