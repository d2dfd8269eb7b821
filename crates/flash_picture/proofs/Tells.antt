-- What the words of cells and labels tell.
use Rattle.flash_picture.proofs.Common.{◌≡◌, ℕ, ◌<◌, Bool, true, false, ◌==◌, ◌||◌, nat_lt, cond, List, [], ◌∷◌, ◌++◌, get_or, Option, Some, None, codes, refl, sym, ap, ◌∙◌, inl, inr, arith, list_any, cases_Bool, cases_lt, cond-true, cond-false, false≢true, Config, Protocol, Link, Rec, Found, Note, found_in, note_at, is_held, Cell, Blank, Damaged, Holds, Marks, cell_at, cell_of, cell_words, is_named, name_word, word_if, cells_of}
use Rattle.std.proofs.Common.{◌⊎◌, ◌↔◌, Contains}
use Rattle.std.proofs.Common.{subst}
use Rattle.std.specs.Fmt.{decimal}
use Rattle.std.proofs.lemmas.Bool.{lt-ltb, ltb-true}
use Rattle.std.proofs.lemmas.Bool.Decides.{eqb_tells}
use Rattle.list_lemmas.proofs.Membership.{Contains-nil, Contains-here, Contains-rest, Contains-cases, Contains-one}
use Rattle.std.proofs.lemmas.List.Elements.{Contains-append_left, Contains-append_right, Contains-append_cases}
use Rattle.std.proofs.Math.ListN.{get_or-map}
use Rattle.tx_types.specs.declared.config.Block.{Block}
use Rattle.record_list.specs.declared.found.Breach.{Breach}
use Rattle.judged_records.specs.declared.note.Note.TheVariants as note
use Rattle.record_list.specs.Current.{cur}
use Rattle.flash_picture.specs.declared.cell.Rank.{Rank}
use Rattle.flash_picture.specs.declared.cell.Rank.TheVariants.{Current, Loose, Stale}
use Rattle.flash_picture.specs.Cells.{rank_by, rank_word}
use Rattle.flash_picture.specs.Map.{is_spare}
use Rattle.flash_picture.specs.Laws.{CellTells, IsNamed, LabelTells, WordsTell}

-- a name is no word without a dot
has_dot : (xs ys : List ℕ) → list_any (λ b. b == 46) (xs ++ 46 ∷ ys) ≡ true
has_dot [] ys = refl
has_dot (x ∷ xs) ys = elim (cases_Bool (x == 46)) [
  | inl e ↦ ap (λ b. b || list_any (λ c. c == 46) (xs ++ 46 ∷ ys)) e
  | inr e ↦ ap (λ b. b || list_any (λ c. c == 46) (xs ++ 46 ∷ ys)) e ∙ has_dot xs ys
]

no_name : (name : Link) (word : List ℕ) → list_any (λ b. b == 46) word ≡ false → name_word name ≡ word → ⊥
no_name name word none e =
    false≢true (sym none ∙ ap (list_any (λ b. b == 46)) (sym e) ∙ has_dot (decimal name.page) (decimal name.version))

-- words that begin otherwise differ
abbrev head : List ℕ → ℕ
head word = get_or word 0 0

-- a word that is there or not
in_flag : (there : Bool) (x word : List ℕ) → Contains (word_if there x) word → (there ≡ true) × (x ≡ word)
in_flag true x word c = (refl, Contains-one x word c)
in_flag false x word c = absurd (Contains-nil word c)

of_flag : (there : Bool) (x : List ℕ) → there ≡ true → Contains (word_if there x) x
of_flag there x e = subst (λ b. Contains (word_if b x) x) (sym e) (Contains-here x [] x refl)

module _ (r : Rec) (rank : Rank) (held : Bool) where
  abbrev words : List (List ℕ)
  words = cell_words (Holds r rank held)

  abbrev flags : List (List ℕ)
  flags = word_if held (codes "held") ++ word_if r.discard (codes "discard")

  -- a word of the cell that is no name is that of the rank, or a flag
  said : (word : List ℕ) → list_any (λ b. b == 46) word ≡ false → Contains words word →
      (rank_word rank ≡ word) ⊎ (((held ≡ true) × (codes "held" ≡ word))
      ⊎ ((r.discard ≡ true) × (codes "discard" ≡ word)))
  said word none c = elim (Contains-cases _ (rank_word rank ∷ flags) word c) [
    | inl e ↦ absurd (no_name _ word none e)
    | inr d ↦ elim (Contains-cases (rank_word rank) flags word d) [
      | inl e ↦ inl e
      | inr f ↦ elim (Contains-append_cases (word_if held (codes "held"))
          (word_if r.discard (codes "discard")) word f) [
            | inl g ↦ inr (inl (in_flag held (codes "held") word g))
            | inr g ↦ inr (inr (in_flag r.discard (codes "discard") word g))
          ]
    ]
  ]

  says_rank : Contains words (rank_word rank)
  says_rank = Contains-rest _ (rank_word rank ∷ flags) _ (Contains-here (rank_word rank) flags _ refl)

  says_held : held ≡ true → Contains words (codes "held")
  says_held e = Contains-rest _ (rank_word rank ∷ flags) _ (Contains-rest (rank_word rank) flags _
      (Contains-append_left _ (word_if r.discard (codes "discard")) _ (of_flag held (codes "held") e)))

  says_discard : r.discard ≡ true → Contains words (codes "discard")
  says_discard e = Contains-rest _ (rank_word rank ∷ flags) _ (Contains-rest (rank_word rank) flags _
      (Contains-append_right (word_if held (codes "held")) _ _ (of_flag r.discard (codes "discard") e)))

  -- a word that begins as no flag does is that of the rank
  only_rank : (word : List ℕ) → list_any (λ b. b == 46) word ≡ false → (head word ≡ 104 → ⊥) → (head word ≡ 100 → ⊥) →
      Contains words word → rank_word rank ≡ word
  only_rank word none a b c = elim (said word none c) [
    | inl e ↦ e
    | inr f ↦ elim f [ inl g ↦ absurd (a (sym (ap head g.1))) | inr g ↦ absurd (b (sym (ap head g.1))) ]
  ]

-- a rank by its word
no_flag : (rank : Rank) → (rank_word rank ≡ codes "held" → ⊥) × (rank_word rank ≡ codes "discard" → ⊥)
no_flag Current = (
  (λ e. let n : 99 ≡ 104 = ap head e in absurd (omega arith)),
  (λ e. let n : 99 ≡ 100 = ap head e in absurd (omega arith)),
)
no_flag Loose = (
  (λ e. let n : 108 ≡ 104 = ap head e in absurd (omega arith)),
  (λ e. let n : 108 ≡ 100 = ap head e in absurd (omega arith)),
)
no_flag Stale = (
  (λ e. let n : 115 ≡ 104 = ap head e in absurd (omega arith)),
  (λ e. let n : 115 ≡ 100 = ap head e in absurd (omega arith)),
)

abbrev rank_head : Rank → ℕ
rank_head rank = head (rank_word rank)

is_current : (rank : Rank) → rank_head rank ≡ 99 → rank ≡ Current
is_current Current e = refl
is_current Loose e = absurd (omega arith)
is_current Stale e = absurd (omega arith)

is_loose : (rank : Rank) → rank_head rank ≡ 108 → rank ≡ Loose
is_loose Current e = absurd (omega arith)
is_loose Loose e = refl
is_loose Stale e = absurd (omega arith)

is_stale : (rank : Rank) → rank_head rank ≡ 115 → rank ≡ Stale
is_stale Current e = absurd (omega arith)
is_stale Loose e = absurd (omega arith)
is_stale Stale e = refl

-- the rank that two versions give
pub data Ranked (current version : ℕ) (rank : Rank) : Type 0 where
  At : version ≡ current → rank ≡ Current → Ranked current version rank
  Above : current < version → rank ≡ Loose → Ranked current version rank
  Below : version < current → rank ≡ Stale → Ranked current version rank

ranked : (current version : ℕ) → Ranked current version (rank_by current version)
ranked current version = elim (eqb_tells version current) [
  | inl h ↦ At h.1 (cond-true (version == current) Current _ h.0)
  | inr h ↦ elim (cases_lt current version) [
    | inl less ↦ Above less (cond-false (version == current) Current _ h.0
        ∙ cond-true (nat_lt current version) Loose Stale (lt-ltb current version less))
    | inr le ↦ Below (let differ = h.1 in omega arith) (cond-false (version == current) Current _ h.0
        ∙ elim (cases_Bool (nat_lt current version)) [
          | inl e ↦ absurd (let l = ltb-true current version e in omega arith)
          | inr e ↦ cond-false (nat_lt current version) Loose Stale e
        ])
  ]
]

module _ (current version : ℕ) where
  pub rank_current : (rank_by current version ≡ Current) ↔ (version ≡ current)
  rank_current = elim (ranked current version) [
    | At h e ↦ (λ _. h, λ _. e)
    | Above h e ↦ (λ f. absurd (let g = sym e ∙ f in cc), λ f. absurd (omega arith))
    | Below h e ↦ (λ f. absurd (let g = sym e ∙ f in cc), λ f. absurd (omega arith))
  ]

  pub rank_loose : (rank_by current version ≡ Loose) ↔ (current < version)
  rank_loose = elim (ranked current version) [
    | At h e ↦ (λ f. absurd (let g = sym e ∙ f in cc), λ f. absurd (omega arith))
    | Above h e ↦ (λ _. h, λ _. e)
    | Below h e ↦ (λ f. absurd (let g = sym e ∙ f in cc), λ f. absurd (omega arith))
  ]

  pub rank_stale : (rank_by current version ≡ Stale) ↔ (version < current)
  rank_stale = elim (ranked current version) [
    | At h e ↦ (λ f. absurd (let g = sym e ∙ f in cc), λ f. absurd (omega arith))
    | Above h e ↦ (λ f. absurd (let g = sym e ∙ f in cc), λ f. absurd (omega arith))
    | Below h e ↦ (λ _. h, λ _. e)
  ]

pub cell_tells : (protocol : Protocol) (list : List Found) (logical : ℕ) (r : Rec) → CellTells protocol list logical r
cell_tells protocol list logical r =
    let c = cur protocol list logical r.page in
    let rank = rank_by c r.version in
    let held = is_held protocol list logical r in
    record {
      current = (
        λ s. (rank_current c r.version).0 (is_current rank
            (ap head (only_rank r rank held (codes "current") refl (λ e. absurd (omega arith))
            (λ e. absurd (omega arith)) s))),
        λ h. subst (λ k. Contains (cell_words (Holds r rank held)) (rank_word k)) ((rank_current c r.version).1 h)
            (says_rank r rank held),
      );
      loose = (
        λ s. (rank_loose c r.version).0
            (is_loose rank (ap head (only_rank r rank held (codes "loose") refl (λ e. absurd (omega arith))
            (λ e. absurd (omega arith)) s))),
        λ h. subst (λ k. Contains (cell_words (Holds r rank held)) (rank_word k)) ((rank_loose c r.version).1 h)
            (says_rank r rank held),
      );
      stale = (
        λ s. (rank_stale c r.version).0
            (is_stale rank (ap head (only_rank r rank held (codes "stale") refl (λ e. absurd (omega arith))
            (λ e. absurd (omega arith)) s))),
        λ h. subst (λ k. Contains (cell_words (Holds r rank held)) (rank_word k)) ((rank_stale c r.version).1 h)
            (says_rank r rank held),
      );
      held = (
        λ s. elim (said r rank held (codes "held") refl s) [
          | inl e ↦ absurd ((no_flag rank).0 e)
          | inr f ↦ elim f [ inl g ↦ g.0 | inr g ↦ absurd (let n : 100 ≡ 104 = ap head g.1 in omega arith) ]
        ],
        says_held r rank held,
      );
      discard = (
        λ s. elim (said r rank held (codes "discard") refl s) [
          | inl e ↦ absurd ((no_flag rank).1 e)
          | inr f ↦ elim f [ inl g ↦ absurd (let n : 104 ≡ 100 = ap head g.1 in omega arith) | inr g ↦ g.0 ]
        ],
        says_discard r rank held,
      );
    }

-- the label of a block
label_spare : (spare : Option Block) (block : ℕ) →
    (cond (is_spare spare block) (codes "spare") (codes "block") ≡ codes "spare") ↔ (spare ≡ Some
    (record { 0 = block }))
label_spare None block = (λ e. absurd (let n : 98 ≡ 115 = ap head e in omega arith), λ e. absurd cc)
label_spare (Some spare) block = elim (eqb_tells spare.0 block) [
  | inl h ↦ (λ _. ap (λ n. Some (record { 0 = n })) h.1, λ _. ap (λ b. cond b (codes "spare") (codes "block")) h.0)
  | inr h ↦ (
    λ e. absurd (let n : 98 ≡ 115 = sym (ap (λ b. head (cond b (codes "spare") (codes "block"))) h.0)
        ∙ ap head e in omega arith),
    λ e. absurd (h.1 (ap (λ o. elim o [ Some b ↦ b.0 | None ↦ block ]) e)),
  )
]

pub label_tells : (marks : Marks) (block : ℕ) → LabelTells marks block
label_tells marks block = label_spare marks.spare block

-- ---- the words of any slot

pub is_mark : (breach : Option Breach) (slot : ℕ) → (is_named breach slot ≡ true) ↔ IsNamed breach slot
is_mark None slot = (λ e. absurd (false≢true e), λ (b, e, at). absurd cc)
is_mark (Some b) slot = elim (eqb_tells b.slot.0 slot) [
  | inl h ↦ (λ _. (b, refl, h.1), λ _. h.0)
  | inr h ↦ (
    λ e. absurd (false≢true (sym h.0 ∙ e)),
    λ (other, e, at). absurd (h.1 (ap (λ (o : Option Breach). elim o [ Some x ↦ x.slot.0 | None ↦ slot ]) e ∙ at)),
  )
]

-- no word of a cell is a `!`
other : (n : ℕ) (word : List ℕ) → nat_lt 33 n ≡ true → head word ≡ n → word ≡ codes "!" → ⊥
other n word far first e =
    let k : n ≡ 33 = sym first ∙ ap head e in
    let l : 33 < n = ltb-true 33 n far in
    absurd (omega arith)

no_mark : (cell : Cell) → Contains (cell_words cell) (codes "!") → ⊥
no_mark Blank c = other 98 (codes "blank") refl refl (Contains-one (codes "blank") (codes "!") c)
no_mark Damaged c = other 100 (codes "damaged") refl refl (Contains-one (codes "damaged") (codes "!") c)
no_mark (Holds r rank held) c = no_rank rank (only_rank r rank held (codes "!") refl (λ e. absurd (omega arith))
    (λ e. absurd (omega arith)) c)
  where
    no_rank : (rank : Rank) → rank_word rank ≡ codes "!" → ⊥
    no_rank Current e = other 99 (codes "current") refl refl e
    no_rank Loose e = other 108 (codes "loose") refl refl e
    no_rank Stale e = other 115 (codes "stale") refl refl e

-- the cell of a slot is that of what is noted of it
pub cell_noted : (its : Config) (notes : List Note) (slot : ℕ) →
    cell_at (cells_of its notes) slot ≡ cell_of its.protocol (found_in notes) its.logical (note_at notes slot)
cell_noted its notes slot = get_or-map (cell_of its.protocol (found_in notes) its.logical) notes slot note.Blank

pub words_tell : (its : Config) (notes : List Note) (marks : Marks) (slot : ℕ) → WordsTell its notes marks slot
words_tell its notes marks slot =
    let cell = cell_at (cells_of its notes) slot in
    let there = is_named marks.breach slot in
    record {
      blank = λ e. ap cell_words (cell_noted its notes slot ∙ ap (cell_of its.protocol (found_in notes) its.logical) e);
      damaged = λ e. ap cell_words (cell_noted its notes slot
          ∙ ap (cell_of its.protocol (found_in notes) its.logical) e);
      mark = (
        λ c. (is_mark marks.breach slot).0
            (elim (Contains-append_cases (cell_words cell) (word_if there (codes "!")) (codes "!") c) [
              | inl d ↦ absurd (no_mark cell d)
              | inr d ↦ (in_flag there (codes "!") (codes "!") d).0
            ]),
        λ named. Contains-append_right (cell_words cell) (word_if there (codes "!")) (codes "!")
            (of_flag there (codes "!") ((is_mark marks.breach slot).1 named)),
      );
    }
