-- What a put writes, and the map that it makes.
use Rattle.page_keys.proofs.Common.{◌≡◌, ℕ, zero, suc, ◌+◌, ◌-◌, ◌<◌, ◌≤◌, Bool, true, false, ◌||◌, cond, List, [], ◌∷◌, ◌++◌, length, map, filter, set, ◌==◌, nat_lt, nat_le, Option, Some, None, if◌then◌else◌, option_map, refl, sym, ap, subst, ◌∙◌, inl, inr, arith, AllByRecursion, list_any, range_with_len, cases_lt, nat_tests, PageWrite, Config, Pages, page_at, put, limits_of, first_refusals, spent_page, SubmitError, HoldsEntries, EncodesMap, encodes, KeyMap, apply, part, is_in, is_touched, pages_of, bucket_of, IsKeyChange, is_over, write_of, put_writes, early_refusal, Change, changed}
use Rattle.std.proofs.Common.{find}
use Rattle.std.specs.Option.{option_or}
use Rattle.std.specs.FinMap as keys
use Rattle.std.proofs.lemmas.Bool.Decides.{eqb_tells}
use Rattle.std.proofs.lemmas.List.{get_or-set_other, length-set}
use Rattle.std.proofs.lemmas.Grind.{get_or-set_at}
use Rattle.array_machine.specs.Submit.{first_refusal, or_else, empty, repeated, full, is_of}
use Rattle.array_machine.specs.declared.answers.SubmitError.TheVariants as submit
use Rattle.page_keys.specs.Puts as puts
use Rattle.page_keys.specs.Puts.{wide}
use Rattle.page_keys.specs.declared.answers.PutError.TheVariants as refused
use Rattle.page_keys.proofs.OfBucket.BucketChanges.{each_after, all_filtered}
use Rattle.page_keys.proofs.OfBucket.Parts.{entries_change}

not_over : (size n : ℕ) → nat_lt size n ≡ false → n ≤ size
not_over size n h = grind (arith, nat_tests)

not_wide : (pending : ℕ) (ps : List ℕ) → wide pending ps ≡ None →
    nat_le (length ps) pending ≡ true
not_wide pending ps none = by (nat_le (length ps) pending) none
  where
    by : (b : Bool) → (if b then None else Some (refused.Wide (length ps))) ≡ None → b ≡ true
    by true h = refl
    by false h = cc

-- whether a page is among these
abbrev pub among : ℕ → List ℕ → Bool
among page pages = list_any (λ p. p == page) pages

or_true : (b : Bool) → (b || true) ≡ true
or_true true = refl
or_true false = refl

module _ (t : ℕ → Bool) where
  not_among : (q a n : ℕ) → q < a → among q (filter t (range_with_len a n)) ≡ false
  not_among q a zero below = refl
  not_among q a (suc n) below =
      let rest = not_among q (a + 1) n (omega arith) in
      let other : (a == q) ≡ false = grind (arith, nat_tests) in
      elim (t a) as (λ b. among q (cond b (a ∷ filter t (range_with_len (a + 1) n))
      (filter t (range_with_len (a + 1) n))) ≡ false) [
        | true ↦ rw (other, rest) refl
        | false ↦ rest
      ]

  head_among : (q n : ℕ) (b : Bool) →
      among q (cond b (q ∷ filter t (range_with_len (q + 1) n))
      (filter t (range_with_len (q + 1) n))) ≡ b
  head_among q n true =
      let same : (q == q) ≡ true = grind (arith, nat_tests) in
      rw same refl
  head_among q n false = not_among q (q + 1) n (omega arith)

  -- a number is among those of a range that pass where it passes
  pub among_passing : (q a n : ℕ) → a ≤ q → q < a + n →
      among q (filter t (range_with_len a n)) ≡ t q
  among_passing q a zero least most = absurd (omega arith)
  among_passing q a (suc n) least most =
      elim (cases_lt a q) [
        | inl below ↦
            let rest = among_passing q (a + 1) n (omega arith) (omega arith) in
            let other : (a == q) ≡ false = grind (arith, nat_tests) in
            elim (t a) as (λ b. among q (cond b (a ∷ filter t (range_with_len (a + 1) n))
            (filter t (range_with_len (a + 1) n))) ≡ t q) [
              | true ↦ rw (other, rest) refl
              | false ↦ rest
            ]
        | inr over ↦
            let same : a ≡ q = omega arith in
            rw same (head_among q n (t q))
      ]

  pub all_within : (a n most : ℕ) → a + n ≤ most →
      AllByRecursion (λ p. p < most) (filter t (range_with_len a n))
  all_within a zero most within = tt
  all_within a (suc n) most within =
      let rest = all_within (a + 1) n most (omega arith) in
      let here : a < most = omega arith in
      elim (t a) as (λ b. AllByRecursion (λ p. p < most)
      (cond b (a ∷ filter t (range_with_len (a + 1) n)) (filter t (range_with_len (a + 1) n)))) [
        | true ↦ (here, rest)
        | false ↦ rest
      ]

pick : (b a : Bool) (x y z : Option (List ℕ)) → y ≡ (if b then x else z) →
    (if a then x else y) ≡ (if b || a then x else z)
pick true true x y z is = refl
pick true false x y z is = is
pick false true x y z is = refl
pick false false x y z is = is

module _ (its : Config) (n : KeyMap) where
  set_written : (pages : Pages) (p q : ℕ) → p < length pages →
      page_at (set pages p (write_of its n p).value) q
      ≡ (if p == q then (write_of its n q).value else page_at pages q)
  set_written pages p q within =
      elim (eqb_tells p q) [
        | inl same ↦
            rw same.0 (get_or-set_at pages p q (write_of its n p).value None (sym same.1) within
            ∙ ap (λ k. (write_of its n k).value) same.1)
        | inr other ↦
            rw other.0
            (get_or-set_other pages p q (write_of its n p).value None (λ e. other.1 (sym e)))
      ]

  -- what an array has after the writes of some pages
  put_at : (ps : List ℕ) (pages : Pages) (q : ℕ) →
      AllByRecursion (λ p. p < length pages) ps →
      page_at (put pages (map (write_of its n) ps)) q
      ≡ (if among q ps then (write_of its n q).value else page_at pages q)
  put_at [] pages q within = refl
  put_at (p ∷ ps) pages q within =
      let v = (write_of its n p).value in
      let sized = subst (λ k. AllByRecursion (λ r. r < k) ps) (sym (length-set pages p v)) within.1 in
      put_at ps (set pages p v) q sized
      ∙ pick (p == q) (among q ps) ((write_of its n q).value) (page_at (set pages p v) q)
      (page_at pages q) (set_written pages p q within.0)

find_head : (b : Bool) (p : ℕ) (r : Option ℕ) → (if b then Some p else r) ≡ None →
    (b ≡ false) × (r ≡ None)
find_head true p r none = cc
find_head false p r none = (refl, none)

-- where nothing is found, each fails
none_found : (t : ℕ → Bool) (ps : List ℕ) (q : ℕ) → find t ps ≡ None → among q ps ≡ true →
    t q ≡ false
none_found t [] q none there = cc
none_found t (p ∷ ps) q none there =
    let h = find_head (t p) p (find t ps) none in
    elim (eqb_tells p q) [
      | inl same ↦ ap t (sym same.1) ∙ h.0
      | inr other ↦ none_found t ps q h.1 (rw other.0 at there)
    ]

pub map_none : {X Y : Type 0} (f : X → Y) (o : Option X) → option_map f o ≡ None → o ≡ None
map_none f None h = refl
map_none f (Some x) h = cc

or_false_parts : (a b : Bool) → (a || b) ≡ false → (a ≡ false) × (b ≡ false)
or_false_parts true b h = cc
or_false_parts false b h = (refl, h)

none_pass : {X : Type 0} (p : X → Bool) (xs : List X) → list_any p xs ≡ false → filter p xs ≡ []
none_pass p [] none = refl
none_pass p (x ∷ xs) none =
    let h = or_false_parts (p x) (list_any p xs) none in
    rw (h.0, none_pass p xs h.1) refl

-- the array that a put leaves shows the map with all its changes
module _ (its : Config) (m : KeyMap) (cs : List Change) (pages : Pages)
    (shows : EncodesMap its pages m) (valid : AllByRecursion IsKeyChange cs)
    (size : length pages ≡ its.logical) (fits : puts.full its m cs ≡ None) where
  written : (page : ℕ) (b : Bool) → page < its.logical → is_touched its.logical cs page ≡ b →
      HoldsEntries its.page_bytes
      (encodes its.page_bytes (if b then (write_of its (apply m cs) page).value
      else page_at pages page))
      (keys.entries (part its.logical page (apply m cs)))
  written page true exists touched =
      let there : among page (pages_of its.logical cs) ≡ true =
      among_passing (is_touched its.logical cs) page 0 its.logical (omega arith) (omega arith)
      ∙ touched in
      let room = none_found (is_over its (apply m cs)) (pages_of its.logical cs) page
      (map_none _ _ fits) there in
      record {
        each = each_after its m cs page _ (shows page exists)
            (all_filtered IsKeyChange (λ c. is_in its.logical page c.key) cs valid);
        fits = not_over its.page_bytes _ room;
        spelled = refl;
      }
  written page false exists touched =
      let none = none_pass (λ c. is_in its.logical page c.key) cs touched in
      let same = entries_change its.logical page m cs
      ∙ ap (changed (keys.entries (part its.logical page m))) none in
      subst (HoldsEntries its.page_bytes (encodes its.page_bytes (page_at pages page))) (sym same)
      (shows page exists)

  pub shows_after : EncodesMap its (put pages (put_writes its m cs)) (apply m cs)
  shows_after page exists =
      let t = is_touched its.logical cs in
      let within = subst (λ k. AllByRecursion (λ p. p < k) (pages_of its.logical cs)) (sym size)
      (all_within t 0 its.logical its.logical (omega arith)) in
      let value = put_at its (apply m cs) (pages_of its.logical cs) pages page within in
      let there = among_passing t page 0 its.logical (omega arith) (omega arith) in
      rw (value, there) (written page (t page) exists refl)

or_none : {X : Type 0} (a b : Option X) → option_or a b ≡ None → (a ≡ None) × (b ≡ None)
or_none None b h = (refl, h)
or_none (Some x) b h = cc

none_of : (refusal : PageWrite → Option SubmitError) (its : Config) (n : KeyMap) (ps : List ℕ) →
    AllByRecursion (λ p. refusal (write_of its n p) ≡ None) ps →
    first_refusal refusal (map (write_of its n) ps) ≡ None
none_of refusal its n [] none = refl
none_of refusal its n (p ∷ ps) none = rw none.0 (none_of refusal its n ps none.1)

all_of : {X : Type 0} (P Q : X → Type 0) → ((x : X) → P x → Q x) → (xs : List X) →
    AllByRecursion P xs → AllByRecursion Q xs
all_of P Q f [] each = tt
all_of P Q f (x ∷ xs) each = (f x each.0, all_of P Q f xs each.1)

always : {X : Type 0} (Q : X → Type 0) → ((x : X) → Q x) → (xs : List X) → AllByRecursion Q xs
always Q f [] = tt
always Q f (x ∷ xs) = (f x, always Q f xs)

module _ (its : Config) (n : KeyMap) where
  not_before : (a : ℕ) (earlier : List PageWrite) → AllByRecursion (λ w. w.page < a) earlier →
      list_any (is_of a) earlier ≡ false
  not_before a [] below = refl
  not_before a (w ∷ ws) below =
      let rest = not_before a ws below.1 in
      let less : w.page < a = below.0 in
      let other : (w.page == a) ≡ false = grind (arith, nat_tests) in
      rw (other, rest) refl

  one_later : (a : ℕ) (earlier : List PageWrite) → AllByRecursion (λ w. w.page < a) earlier →
      AllByRecursion (λ w. w.page < a + 1) (earlier ++ write_of its n a ∷ [])
  one_later a [] below = (omega arith, tt)
  one_later a (w ∷ ws) below =
      let less : w.page < a = below.0 in
      (omega arith, one_later a ws below.1)

  no_repeat : (t : ℕ → Bool) (a count : ℕ) (earlier : List PageWrite) →
      AllByRecursion (λ w. w.page < a) earlier →
      repeated earlier (map (write_of its n) (filter t (range_with_len a count))) ≡ None
  no_repeat t a zero earlier below = refl
  no_repeat t a (suc count) earlier below =
      let added = no_repeat t (a + 1) count (earlier ++ write_of its n a ∷ [])
      (one_later a earlier below) in
      let same = no_repeat t (a + 1) count earlier
      (all_of (λ w. w.page < a) (λ w. w.page < a + 1) (λ w h. omega arith) earlier below) in
      elim (t a) as (λ b. repeated earlier (map (write_of its n)
      (cond b (a ∷ filter t (range_with_len (a + 1) count))
      (filter t (range_with_len (a + 1) count)))) ≡ None) [
        | true ↦ rw (not_before a earlier below) added
        | false ↦ same
      ]

  -- a page of which none is spent is not found, and the first spent one is
  pub spent_pages : (spent : ℕ → Bool) (ps : List ℕ) →
      spent_page spent (map (write_of its n) ps)
      ≡ option_map (λ p. submit.Spent p) (find spent ps)
  spent_pages spent [] = refl
  spent_pages spent (p ∷ ps) =
      let rest = spent_pages spent ps in
      elim (spent p) as (λ b. or_else (if b then Some (submit.Spent p) else None)
      (spent_page spent (map (write_of its n) ps))
      ≡ option_map (λ q. submit.Spent q) (if b then Some p else find spent ps)) [
        | true ↦ refl
        | false ↦ rest
      ]

some_among : (q : ℕ) (ps : List ℕ) → among q ps ≡ true → 1 ≤ length ps
some_among q [] there = cc
some_among q (p ∷ ps) there = omega arith

not_empty : (its : Config) (n : KeyMap) (ps : List ℕ) → 1 ≤ length ps →
    empty (map (write_of its n) ps) ≡ None
not_empty its n [] some = absurd (omega arith)
not_empty its n (p ∷ ps) some = refl

some_touched : (logical : ℕ) (cs : List Change) → 0 < logical → puts.empty cs ≡ None →
    1 ≤ length (pages_of logical cs)
some_touched logical [] exist none = cc
some_touched logical (c ∷ cs) exist none =
    let page = bucket_of logical c.key in
    let here : page < logical = omega arith in
    let same : (page == page) ≡ true = grind (arith, nat_tests) in
    let touched : is_touched logical (c ∷ cs) page ≡ true = rw same refl in
    some_among page _
    (among_passing (is_touched logical (c ∷ cs)) page 0 logical (omega arith) (omega arith) ∙ touched)

full_none : (free : ℕ) (ws : List PageWrite) → nat_le (length ws) free ≡ true →
    full free ws ≡ None
full_none free ws few = rw few refl

length_mapped : (its : Config) (n : KeyMap) (ps : List ℕ) →
    length (map (write_of its n) ps) ≡ length ps
length_mapped its n [] = refl
length_mapped its n (p ∷ ps) = ap suc (length_mapped its n ps)

-- the device refuses none but spent pages, where the changes alone are not refused
pub only_spent : (its : Config) (m : KeyMap) (cs : List Change) → 0 < its.logical →
    early_refusal its cs ≡ None →
    first_refusals (limits_of its) [] 0 (put_writes its m cs) ≡ None
only_spent its m cs exist taken =
    let n = apply m cs in
    let ps = pages_of its.logical cs in
    let early = or_none (puts.empty cs) _ taken in
    let later = or_none (puts.repeated [] cs) _ early.1 in
    let some = not_empty its n ps (some_touched its.logical cs exist early.0) in
    let in_range = none_of (λ w. if nat_lt w.page its.logical then None else Some (submit.Range w.page))
    its n ps
    (all_of (λ p. p < its.logical)
    (λ p. (if nat_lt p its.logical then None else Some (submit.Range p)) ≡ None)
    (λ p h. below p h) ps
    (all_within (is_touched its.logical cs) 0 its.logical its.logical (omega arith))) in
    let once = no_repeat its n (is_touched its.logical cs) 0 its.logical [] tt in
    let alone = none_of (λ w. None) its n ps (always _ (λ p. refl) ps) in
    let sized : nat_le (length (map (write_of its n) ps)) its.pending ≡ true =
    ap (λ k. nat_le k its.pending) (length_mapped its n ps) ∙ not_wide its.pending ps later.1 in
    let free : its.pending - 0 ≡ its.pending = omega arith in
    rw (some, in_range, once, alone)
    (full_none (its.pending - 0) (map (write_of its n) ps)
    (ap (λ k. nat_le (length (map (write_of its n) ps)) k) free ∙ sized))
  where
    below : (p : ℕ) → p < its.logical →
        (if nat_lt p its.logical then None else Some (submit.Range p)) ≡ None
    below p h =
        let less : nat_lt p its.logical ≡ true = grind (arith, nat_tests) in
        rw less refl
