-- A record that its transaction asks for is added to an image: the image stays sound, its array stays or takes the
-- transaction, and each other transaction still asks for its record.
use Rattle.lost_writes.proofs.Common.{◌≡◌, ◌≢◌, ℕ, ◌<◌, ◌≤◌, ◌⊎◌, Bool, true, false, ◌&&◌, List, map, All, Any, Contains, None, refl, sym, ap, ◌∙◌, subst, inl, inr, arith, ⊎_elim, cases_Bool, and_parts, and_from, both_ways, false≢true, length-set, get_or-set_other, All-contains, all_from, from_filter, in_filter, in_map, map_in, Contents, blank, records_in, written_in, array_in, left, KeepsCounted, PartialWriteLaw, CompletingWriteLaw, cur, name_of, is_present, found_of, is_outside, Found, blocks_of, Protocol, Scc, Bpcc, Shape, Link, Rec}
use Rattle.std.proofs.Common.{option_and_then, ◌||◌, eqb, nat_lt, ne_eqb, ◌^◌, ltb-true, lt-ltb, zip}
use Rattle.tx_types.specs.Batch.{PageWrite}
use Rattle.array_machine.specs.ArrayState.{Entry, put}
use Rattle.record_list.specs.Changes.{NothingMustGo, OthersStay}
use Rattle.record_list.specs.Current.{must_go, is_loose}
use Rattle.record_list.specs.Records.{mentions_below}
use Rattle.record_list.specs.SoundList.{PagesExist, Pages}
use Rattle.record_list.specs.Transaction.{IsAskedAt, next_names}
use Rattle.record_list.specs.Verdict.{record_named}
use Rattle.record_list.specs.Written.{page_at, text_at, value_of, value_at}
use Rattle.record_list.proofs.OfChanges.Arrays.{page_committed}
use Rattle.record_list.proofs.OfChanges.Keeping.{asked_same}
use Rattle.record_list.proofs.OfChanges.OneMore.{inserted_in, in_inserted, new_in}
use Rattle.record_list.proofs.OfChanges.WrittenChange.{written_partial_write, written_completing_write}
use Rattle.record_list.proofs.OfChanges.WrittenLists.{left_more}
use Rattle.record_list.proofs.OfFacts.Names.{cases_present, found_named, named_name, present_as, same_name}
use Rattle.record_list.proofs.OfFacts.SoundNames.{IsSoundMap, sound_map}
use Rattle.record_list.proofs.OfLosses.LossAmong.{among_of, among_present}
use Rattle.record_list.proofs.OfLosses.LossCounted.{IsCounted}
use Rattle.record_list.proofs.OfWalks.Rounds.{cases_page, follows_of, follows_in}
use Rattle.judged_records.specs.Images.{IsSoundImage}
use Rattle.judged_records.specs.ImageChanges.{AsksFor, TextsStay, KeepsPartial, KeepsCompleting}
use Rattle.judged_records.proofs.OfLaws.ImageScans.{records_scanned, written}
use Rattle.judged_records.proofs.OfLaws.ImageLaws.{Writes, writes, image_partial_law, image_completing_law}
use Rattle.lost_writes.specs.Fired.{Fired, with_record, IsFired, AreApart}
use Rattle.lost_writes.proofs.Arrays.{at_page, put_is}
use Rattle.lost_writes.specs.Waiting.{is_spared}
use Rattle.lost_writes.proofs.Grows.{held_more, counted_grows}
use Rattle.lost_writes.proofs.Slots.{none_waits}

-- a name of a page is a write of it, and back
name_written : (names : List Link) (ws : List PageWrite) →
    map (λ (name : Link). name.page) names ≡ map (λ (w : PageWrite). w.page) ws →
    (name : Link) → Contains names name → (w : PageWrite) × Contains ws w × (w.page ≡ name.page)
name_written names ws pages name i =
    in_map (λ (w : PageWrite). w.page) ws name.page
    (subst (λ l. Contains l name.page) pages (map_in (λ (a : Link). a.page) names name i))

write_named : (names : List Link) (ws : List PageWrite) →
    map (λ (name : Link). name.page) names ≡ map (λ (w : PageWrite). w.page) ws →
    (w : PageWrite) → Contains ws w → (name : Link) × Contains names name × (name.page ≡ w.page)
write_named names ws pages w i =
    in_map (λ (a : Link). a.page) names w.page
    (subst (λ l. Contains l w.page) (sym pages) (map_in (λ (v : PageWrite). v.page) ws w i))

-- a record that mentions another page
not_below : (page below : ℕ) (r : Rec) → r.page ≢ page → r.next.page ≢ page → mentions_below page below r ≡ false
not_below page below r own link = elim (cases_Bool (mentions_below page below r)) [
  | inr none ↦ none
  | inl yes' ↦ absurd (of_parts (eqb r.page page) (nat_lt r.version below) (eqb r.next.page page)
      (nat_lt r.next.version below) (ne_eqb r.page page own) (ne_eqb r.next.page page link) yes')
]
  where
    of_parts : (a b d e : Bool) → a ≡ false → d ≡ false → ((a && b) || (d && e)) ≡ true → ⊥
    of_parts true b d e h k is = false≢true (sym h)
    of_parts false b true e h k is = false≢true (sym k)
    of_parts false b false e h k is = false≢true is

-- a record that is loose no less than before, and need not go
not_more : (low high version : ℕ) (mentions : Bool) → low ≤ high → (nat_lt low version && mentions) ≡ false →
    (nat_lt high version && mentions) ≡ false
not_more low high version mentions le none = elim (cases_Bool (nat_lt high version && mentions)) [
  | inr off ↦ off
  | inl yes' ↦ (
      let parts = and_parts (nat_lt high version) mentions yes' in
      let above = ltb-true high version parts.0 in
      absurd (both_ways (nat_lt low version && mentions) none
      (and_from (nat_lt low version) mentions (lt-ltb low version (omega arith)) parts.1)))
]

-- what the image with the record keeps
pub record Moves (p : Protocol) (logical : ℕ) (shape : Shape) (Q : Entry → Type 0) (block : ℕ)
    (image image' : List Contents) (f : Fired) : Type 0 where
  pub sound : IsSoundImage p logical shape image'
  pub removable : KeepsCounted p (records_in p image') logical (is_outside shape block)
  pub rises : (page : ℕ) → page < logical →
      cur p (records_in p image) logical page ≤ cur p (records_in p image') logical page
  pub elsewhere : (page : ℕ) → page < logical → All (λ (name : Link). name.page ≢ page) f.names →
      cur p (records_in p image') logical page ≡ cur p (records_in p image) logical page
  pub others : OthersStay p (records_in p image) (records_in p image') logical f.names
  pub texts : TextsStay p image image'
  pub array : (array_in p logical image' ≡ array_in p logical image)
      ⊎ (Q f.entry × (array_in p logical image' ≡ put (array_in p logical image) f.entry.writes))

module _ (p : Protocol) (partial : PartialWriteLaw p) (completing : CompletingWriteLaw p) (logical : ℕ) (shape : Shape)
    (Q : Entry → Type 0) (block : ℕ) (exists : block < blocks_of shape) (image : List Contents) (f : Fired)
    (removable : KeepsCounted p (records_in p image) logical (is_outside shape block))
    (is : IsFired p logical shape Q block none_waits image f) where
  abbrev image' : List Contents
  image' = with_record p image f

  abbrev l : List Found
  l = records_in p image

  abbrev m : List Found
  m = records_in p image'

  abbrev out : ℕ → Bool
  out = is_outside shape block

  abbrev its : Found
  its = found_of (written f.at f.rec f.bytes)

  how : Writes p logical image f.names f.at f.bytes f.rec
  how = writes p logical shape image f.names f.at f.bytes f.rec is.asks

  pub stays_in : (g : Found) → Contains l g → Contains m g
  stays_in g i = in_inserted l m its how.write.added g i

  pub new_or_old : (g : Found) → Contains m g → (its ≡ g) ⊎ Contains l g
  new_or_old g i = inserted_in l m its how.write.added g i

  its_in : Contains m its
  its_in = new_in l m its how.write.added

  -- a name that is there is the new one, or was there
  pub name_case : (name : Link) → is_present m name ≡ true → (name ≡ name_of f.rec) ⊎ (is_present l name ≡ true)
  name_case name h =
      let g = found_named m name h in
      elim (new_or_old g.0 g.1) [
        | inl new ↦ inl (sym g.2 ∙ ap (λ (x : Found). name_of x.rec) (sym new))
        | inr old ↦ inr (present_as l g.0 name old g.2)
      ]

  -- a record of the transaction has a slot outside the block
  name_outside : (name : Link) → Contains f.names name → is_present m name ≡ true →
      is_present (left out m) name ≡ true
  name_outside name i h =
      let g = found_named m name h in
      elim (new_or_old g.0 g.1) [
        | inl new ↦ lies_out g.0 g.1 (subst (λ (x : Found). out x.slot.0 ≡ true) new is.slot) g.2
        | inr old ↦ elim (All-contains (λ (x : Found). Contains f.names (name_of x.rec) →
            (out x.slot.0 ≡ true) ⊎ (is_present (left (is_spared none_waits shape block) l) (name_of x.rec) ≡ true))
            l g.0 is.outside old (subst (Contains f.names) (sym g.2) i)) [
              | inl here ↦ lies_out g.0 g.1 here g.2
              | inr other ↦ (
                  let k = found_named (left (is_spared none_waits shape block) l) (name_of g.0.rec) other in
                  let parts = from_filter (λ (x : Found). is_spared none_waits shape block x.slot.0) k.0 l k.1 in
                  lies_out k.0 (stays_in k.0 parts.0) parts.1 (k.2 ∙ g.2))
            ]
      ]
    where
      lies_out : (x : Found) → Contains m x → out x.slot.0 ≡ true → name_of x.rec ≡ name →
          is_present (left out m) name ≡ true
      lies_out x there lies same =
          present_as (left out m) x name (in_filter (λ (y : Found). out y.slot.0) x m there lies) same

  map_old : IsSoundMap p l logical
  map_old = sound_map p l logical is.asks.sound.written.records (records_scanned p image)

  -- the block stays removable
  grows : (sound' : IsSoundImage p logical shape image') →
      ((name : Link) → name.page < logical → IsCounted p m logical name → IsCounted p l logical name
      ⊎ (is_present (left out m) name ≡ true)) →
      KeepsCounted p m logical out
  grows sound' was =
      counted_grows p l m logical out out map_old (records_scanned p image') sound'.written.records
      (left_more out l m stays_in) was removable

  map_new : IsSoundImage p logical shape image' → IsSoundMap p m logical
  map_new sound' = sound_map p m logical sound'.written.records (records_scanned p image')

  -- a name stays absent
  partly : Any (λ name. is_present m name ≡ false) f.names → Moves p logical shape Q block image image' f
  partly some =
      let k : KeepsPartial p logical shape image image' f.names f.rec f.bytes =
      image_partial_law p (written_partial_write p partial) logical shape image f.names f.at f.bytes f.rec is.asks
      some in
      record {
        sound = k.sound;
        removable = grows k.sound (λ name low c. inl (⊎_elim
            (λ e. inl (e ∙ k.records.same_current name.page low))
            (λ h. inr (held_more p l m logical (map_new k.sound) stays_in name
            (sym (k.records.same_held (record_named m name)) ∙ h))) c));
        rises = λ page low. let same = k.records.same_current page low in omega arith;
        elsewhere = λ page low others. k.records.same_current page low;
        others = k.records.others;
        texts = k.old_texts;
        array = inl k.array;
      }

  -- all names are there
  module _ (all : All (λ name. is_present m name ≡ true) f.names) where
    all_outside : All (λ name. is_present (left out m) name ≡ true) f.names
    all_outside = all_from (λ name. is_present (left out m) name ≡ true) f.names
        (λ name i. name_outside name i (All-contains (λ name. is_present m name ≡ true) f.names name all i))

    whole : KeepsCompleting p logical shape image image' f.names f.rec f.bytes
    whole = image_completing_law p (written_completing_write p completing) logical shape image f.names f.at f.bytes
        f.rec is.asks all
        (record { block = block; exists = exists; removable = removable; outside = all_outside })

    committed : (name : Link) → Contains f.names name → cur p m logical name.page ≡ name.version
    committed name i = All-contains (λ (a : Link). cur p m logical a.page ≡ a.version) f.names name
        whole.records.committed i

    case_of_page : (page : ℕ) → ((a : Link) × Contains f.names a × (a.page ≡ page))
        ⊎ All (λ (a : Link). a.page ≢ page) f.names
    case_of_page page = elim (cases_page f.names page) [
      | inl t ↦ inl t
      | inr other ↦ inr (all_from (λ (a : Link). a.page ≢ page) f.names other)
    ]

    -- what a write writes is there then
    takes : (w : PageWrite) → Contains f.entry.writes w → page_at p (written_in p image') logical w.page ≡ w.value
    takes w i =
        let a = write_named f.names f.entry.writes is.pages w i in
        let here : is_present m a.0 ≡ true =
        All-contains (λ name. is_present m name ≡ true) f.names a.0 all a.1 in
        let said : value_at (written_in p image') a.0 ≡ w.value = elim (name_case a.0 here) [
          | inl new ↦ ap (λ name. option_and_then value_of (text_at (written_in p image') name)) new
              ∙ ap (option_and_then value_of) whole.new_text
              ∙ is.says_own w i (sym a.2 ∙ ap (λ (n : Link). n.page) new)
          | inr old ↦ ap (option_and_then value_of) (whole.old_texts a.0 old)
              ∙ is.says a.0 w a.1 i (sym a.2) old
        ] in
        ap (page_at p (written_in p image') logical) (sym a.2)
        ∙ page_committed p (written_in p image') logical a.0 (committed a.0 a.1) ∙ said

    page_stays : (page : ℕ) → page < logical → All (λ (w : PageWrite). w.page ≢ page) f.entry.writes →
        page_at p (written_in p image') logical page ≡ page_at p (written_in p image) logical page
    unfolding array_in
    page_stays page low others =
        sym (at_page (page_at p (written_in p image') logical) logical page None low)
        ∙ whole.elsewhere page low (all_from (λ (a : Link). a.page ≢ page) f.names (λ a i same.
        let w = name_written f.names f.entry.writes is.pages a i in
        All-contains (λ (w : PageWrite). w.page ≢ page) f.entry.writes w.0 others w.1 (w.2 ∙ same)))
        ∙ at_page (page_at p (written_in p image) logical) logical page None low

    array_takes : array_in p logical image' ≡ put (array_in p logical image) f.entry.writes
    unfolding array_in
    array_takes = put_is f.entry.writes (page_at p (written_in p image) logical)
        (page_at p (written_in p image') logical) logical
        (all_from (λ w. page_at p (written_in p image') logical w.page ≡ w.value) f.entry.writes takes) page_stays

    wholly : Moves p logical shape Q block image image' f
    wholly = record {
      sound = whole.sound;
      removable = grows whole.sound (λ name low c. elim c [
        | inl e ↦ elim (case_of_page name.page) [
          | inl t ↦ inr (subst (λ a. is_present (left out m) a ≡ true)
              (same_name t.0 name t.2 (sym (committed t.0 t.1) ∙ ap (cur p m logical) t.2 ∙ sym e))
              (All-contains (λ a. is_present (left out m) a ≡ true) f.names t.0 all_outside t.1))
          | inr other ↦ inl (inl (e ∙ whole.records.elsewhere name.page low other))
        ]
        | inr h ↦ elim (whole.records.held (record_named m name) h) [
          | inl old ↦ inl (inr (held_more p l m logical (map_new whole.sound) stays_in name old))
          | inr t ↦ inr (All-contains (λ a. is_present (left out m) a ≡ true) f.names name all_outside
              (subst (Contains f.names) (named_name m name) t))
        ]
      ]);
      rises = λ page low. elim (case_of_page page) [
        | inl t ↦ (
            let less : cur p l logical t.0.page < t.0.version =
            All-contains (λ (a : Link). cur p l logical a.page < a.version) f.names t.0 whole.records.rises t.1 in
            let is_now = committed t.0 t.1 in
            subst (λ k. cur p l logical k ≤ cur p m logical k) t.2 (omega arith))
        | inr other ↦ (let same = whole.records.elsewhere page low other in omega arith)
      ];
      elsewhere = whole.records.elsewhere;
      others = whole.records.others;
      texts = whole.old_texts;
      array = inr (is.last all, array_takes);
    }

  pub moves : Moves p logical shape Q block image image' f
  moves = elim (cases_present m f.names) [ inl some ↦ partly some | inr all ↦ wholly all ]

  -- ---- another transaction asks for its record yet

  -- a record that was there outside the block is there yet
  spared_in : (x : Found) → Contains (left (is_spared none_waits shape block) l) x →
      Contains (left (is_spared none_waits shape block) m) x
  spared_in x i =
      let parts = from_filter (λ (y : Found). is_spared none_waits shape block y.slot.0) x l i in
      in_filter (λ (y : Found). is_spared none_waits shape block y.slot.0) x m (stays_in x parts.0) parts.1

  module _ (g : Fired) (apart : AreApart f g) (other : IsFired p logical shape Q block none_waits image g) where
    pages_apart : (a b : Link) → Contains f.names a → Contains g.names b → a.page ≢ b.page
    pages_apart a b i j =
        All-contains (λ (y : Link). a.page ≢ y.page) g.names b
        (All-contains (λ (x : Link). All (λ (y : Link). x.page ≢ y.page) g.names) f.names a apart.pages i) j

    own_low : (b : Link) → Contains g.names b → b.page < logical
    own_low b j = (All-contains (λ (x : Link). (x.page < logical) × (1 ≤ x.version) × (x.version ≤ 2 ^ 62)) g.names b
        other.asks.in_progress.begun.transaction.in_range j).0

    others_of : (b : Link) → Contains g.names b → All (λ (a : Link). a.page ≢ b.page) f.names
    others_of b j = all_from (λ (a : Link). a.page ≢ b.page) f.names (λ a i. pages_apart a b i j)

    -- a name of it that is there was there
    was_there : (b : Link) → Contains g.names b → is_present m b ≡ true → is_present l b ≡ true
    was_there b j h = elim (name_case b h) [
      | inl new ↦ absurd (pages_apart (name_of f.rec) b is.asks.named j (ap (λ (n : Link). n.page) (sym new)))
      | inr old ↦ old
    ]

    link_of_f : Contains f.names f.rec.next
    link_of_f =
        let b = follows_of f.names (name_of f.rec) is.asks.named in
        let pair = All-contains (IsAskedAt p l logical f.names f.rec) (zip f.names (next_names f.names))
        (name_of f.rec, b.0) is.asks.asked b.1 refl in
        subst (Contains f.names) (sym pair.0) (follows_in f.names (name_of f.rec) b.0 b.1).1

    nothing_goes : (q : Protocol) → q ≡ p → NothingMustGo q m logical g.rec
    nothing_goes Bpcc e = all_from (λ h. must_go Bpcc m logical g.rec.page g.rec.version h.rec ≡ false) m (λ h i. refl)
    nothing_goes Scc e =
        let k : Moves p logical shape Q block image image' f = moves in
        all_from (λ h. must_go Scc m logical g.rec.page g.rec.version h.rec ≡ false) m (λ h i.
        elim (new_or_old h i) [
          | inl new ↦ subst (λ (x : Found). must_go Scc m logical g.rec.page g.rec.version x.rec ≡ false) new
              (no_and (is_loose Scc m logical f.rec) (mentions_below g.rec.page g.rec.version f.rec)
              (not_below g.rec.page g.rec.version f.rec
              (pages_apart (name_of f.rec) (name_of g.rec) is.asks.named other.asks.named)
              (pages_apart f.rec.next (name_of g.rec) link_of_f other.asks.named)))
          | inr old ↦ (
              let low : h.rec.page < logical =
              (All-contains (PagesExist logical) l h (is.asks.sound.written.records Pages) old).0 in
              let le : cur Scc l logical h.rec.page ≤ cur Scc m logical h.rec.page =
              subst (λ q. cur q l logical h.rec.page ≤ cur q m logical h.rec.page) (sym e) (k.rises h.rec.page low) in
              let none : must_go Scc l logical g.rec.page g.rec.version h.rec ≡ false =
              All-contains (λ x. must_go Scc l logical g.rec.page g.rec.version x.rec ≡ false) l h
              (subst (λ q. NothingMustGo q l logical g.rec) (sym e) other.asks.clear) old in
              not_more (cur Scc l logical h.rec.page) (cur Scc m logical h.rec.page) h.rec.version
              (mentions_below g.rec.page g.rec.version h.rec) le none)
        ])
      where
        no_and : (a b : Bool) → b ≡ false → (a && b) ≡ false
        no_and true b h = h
        no_and false b h = refl

    asks_yet : AsksFor p logical shape image' g.names g.at g.rec
    asks_yet =
        let k : Moves p logical shape Q block image image' f = moves in
        record {
          sound = k.sound;
          within = subst (λ n. g.at < n) (sym (length-set image f.at _)) other.asks.within;
          blank = get_or-set_other image f.at g.at _ blank (λ e. apart.slots (sym e)) ∙ other.asks.blank;
          spelled = other.asks.spelled;
          in_progress = k.others g.names apart.pages other.asks.in_progress;
          named = other.asks.named;
          fresh = elim (cases_Bool (is_present m (name_of g.rec))) [
            | inr gone ↦ gone
            | inl here ↦ absurd (both_ways (is_present l (name_of g.rec)) other.asks.fresh
                (was_there (name_of g.rec) other.asks.named here))
          ];
          asked = asked_same p l m logical g.names (λ b j. k.elsewhere b.page (own_low b j) (others_of b j)) g.rec
              other.asks.asked;
          clear = nothing_goes p refl;
        }

    new_other : (b : Link) → is_present (records_in p (with_record p image' g)) b ≡ true →
        (b ≡ name_of g.rec) ⊎ (is_present m b ≡ true)
    new_other b h =
        let k = writes p logical shape image' g.names g.at g.bytes g.rec asks_yet in
        let x = found_named (records_in p (with_record p image' g)) b h in
        elim (inserted_in m (records_in p (with_record p image' g)) (found_of (written g.at g.rec g.bytes))
        k.write.added x.0 x.1) [
          | inl new ↦ inl (sym x.2 ∙ ap (λ (y : Found). name_of y.rec) (sym new))
          | inr old ↦ inr (present_as m x.0 b old x.2)
        ]

    then_old : (b : Link) → (b ≡ name_of g.rec) ⊎ (is_present l b ≡ true) →
        is_present (records_in p (with_record p image g)) b ≡ true
    then_old b h =
        let k = writes p logical shape image g.names g.at g.bytes g.rec other.asks in
        let more = records_in p (with_record p image g) in
        let new = found_of (written g.at g.rec g.bytes) in
        elim h [
          | inl own ↦ present_as more new b (new_in l more new k.write.added) (sym own)
          | inr old ↦ (let x = found_named l b old in
              present_as more x.0 b (in_inserted l more new k.write.added x.0 x.1) x.2)
        ]

    pub fired_yet : IsFired p logical shape Q block none_waits image' g
    fired_yet =
        let k : Moves p logical shape Q block image image' f = moves in
        record {
          asks = asks_yet;
          pages = other.pages;
          says = λ name w i j same h.
              let old = was_there name i h in
              ap (option_and_then value_of) (k.texts name old) ∙ other.says name w i j same old;
          says_own = other.says_own;
          outside = all_from (λ (x : Found). Contains g.names (name_of x.rec) →
              (out x.slot.0 ≡ true) ⊎ (is_present (left (is_spared none_waits shape block) m) (name_of x.rec) ≡ true))
              m (λ x i own.
              elim (new_or_old x i) [
                | inl new ↦ absurd (pages_apart (name_of f.rec) (name_of x.rec) is.asks.named own
                    (ap (λ (y : Found). y.rec.page) new))
                | inr old ↦ elim (All-contains (λ (y : Found). Contains g.names (name_of y.rec) →
                    (out y.slot.0 ≡ true)
                    ⊎ (is_present (left (is_spared none_waits shape block) l) (name_of y.rec) ≡ true)) l x
                    other.outside old own) [
                      | inl here ↦ inl here
                      | inr there ↦ inr (among_present (left (is_spared none_waits shape block) l)
                          (left (is_spared none_waits shape block) m)
                          (among_of (left (is_spared none_waits shape block) l)
                          (left (is_spared none_waits shape block) m) spared_in) (name_of x.rec) there)
                    ]
              ]);
          slot = other.slot;
          last = λ all. other.last (all_from (λ b. is_present (records_in p (with_record p image g)) b ≡ true) g.names
              (λ b j. then_old b (⊎_elim inl (λ there. inr (was_there b j there))
              (new_other b (All-contains (λ b. is_present (records_in p (with_record p image' g)) b ≡ true) g.names b
              all j)))));
        }
