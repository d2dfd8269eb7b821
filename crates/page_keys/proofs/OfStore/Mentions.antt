-- How often pages were mentioned, over a put.
use Rattle.page_keys.proofs.Common.{◌≡◌, ℕ, ◌+◌, ◌≤◌, Bool, true, false, cond, ◌||◌, List, [], ◌∷◌, ◌++◌, map, filter, Ok, refl, sym, ap, subst, ◌∙◌, inl, inr, arith, list_any, AllByRecursion, range_with_len, nat_tests, PageWrite, Config, IndexState, IsSeen, DeviceState, KeyMap, apply, is_touched, pages_of, put_writes, write_of, Change}
use Rattle.std.proofs.Common.{eq-eqb, Contains}
use Rattle.std.specs.Prelude.{Any}
use Rattle.std.proofs.lemmas.List.Elements.{Contains-push_cases}
use Rattle.list_lemmas.proofs.Membership.{in_any, any_in, Contains-cases, Contains-nil}
use Rattle.tx_types.specs.declared.record.Link.{Link}
use Rattle.judged_records.specs.IndexState.{mention_of}
use Rattle.tx_engine.specs.Exits.{IsNamedAt}
use Rattle.tx_engine.specs.Naming.{named_after, KeepsTables}
use Rattle.open_table.specs.OpenTransactionsState.{next_name, Naming}
use Rattle.array_machine.specs.Submit.{is_of}
use Rattle.page_keys.specs.KeyMaps.{seen_by}
use Rattle.page_keys.specs.Writing.{seen_more}

or_true : (a b : Bool) → b ≡ true → (a || b) ≡ true
or_true true b h = refl
or_true false b h = h

or_left : (a b : Bool) → a ≡ true → (a || b) ≡ true
or_left a b h = rw h refl

-- a name that is written now is one above the mention of its page, which is one of these
named_in : (n : IndexState) (ws : List PageWrite) (page version : ℕ) (name : Link) →
    Contains (map (next_name n) ws) name → name.page ≡ page → name.version ≡ version →
    (version ≡ mention_of n page + 1) × (list_any (is_of page) ws ≡ true)
named_in n [] page version name c same at = absurd (Contains-nil name c)
named_in n (w ∷ ws) page version name c same at =
    elim (Contains-cases (next_name n w) (map (next_name n) ws) name c) [
      | inl e ↦ (
          let here : w.page ≡ page = ap (λ (x : Link). x.page) e ∙ same in (
            sym at ∙ ap (λ (x : Link). x.version) (sym e) ∙ ap (λ p. mention_of n p + 1) here,
            or_left _ _ (eq-eqb w.page page here),
          ))
      | inr i ↦ (
          let rest = named_in n ws page version name i same at in
          (rest.0, or_true (is_of page w) _ rest.1))
    ]

more_least : (b : Bool) (n : ℕ) → n ≤ cond b (n + 1) n
more_least true n = omega arith
more_least false n = omega arith

one_more : (b : Bool) (n version : ℕ) → b ≡ true → version ≤ n + 1 → version ≤ cond b (n + 1) n
one_more true n version h most = most
one_more false n version h most = cc

module _ {F : Type 0} (old new : DeviceState F) (seen : ℕ → ℕ) where
  -- tables with the same mentions and names
  pub seen_same : new.noted.mentions ≡ old.noted.mentions → new.namings ≡ old.namings →
      IsSeen seen old → IsSeen seen new
  seen_same mentions namings h = record {
    mentions = λ page.
        subst (λ (l : List ℕ). mention_of (record old.noted { mentions = l }) page ≤ seen page)
        (sym mentions) (h.mentions page);
    names = λ page version named. h.names page version
        (subst (λ (x : List Naming). IsNamedAt x page version) namings named);
  }

  -- more may be seen
  pub seen_later : (later : ℕ → ℕ) → ((page : ℕ) → seen page ≤ later page) → IsSeen seen old →
      IsSeen later old
  seen_later later least h = record {
    mentions = λ page.
        (let a = least page in let b = h.mentions page in omega arith);
    names = λ page version named.
        (let a = least page in let b = h.names page version named in omega arith);
  }

  named_now : (ws : List PageWrite) → IsSeen seen old →
      new.namings ≡ old.namings ++ record { names = map (next_name old.noted) ws; noted_count = 0 } ∷ [] →
      (page version : ℕ) → IsNamedAt new.namings page version → version ≤ seen_more seen ws page
  named_now ws h names page version named =
      let P : Naming → Type 0 = λ x.
      Any (λ (name : Link). (name.page ≡ page) × (name.version ≡ version)) x.names in
      let at = in_any P new.namings named in
      let mine : Naming = record { names = map (next_name old.noted) ws; noted_count = 0 } in
      elim (Contains-push_cases old.namings mine at.0
      (subst (λ (x : List Naming). Contains x at.0) names at.1)) [
        | inl before ↦ (
            let most = h.names page version (any_in P old.namings at.0 before at.2) in
            let least = more_least (list_any (is_of page) ws) (seen page) in omega arith)
        | inr same ↦ (
            let name = in_any (λ (name : Link). (name.page ≡ page) × (name.version ≡ version))
            (map (next_name old.noted) ws) (subst P (sym same) at.2) in
            let both = named_in old.noted ws page version name.0 name.1 name.2.0 name.2.1 in
            let most = h.mentions page in
            let up : version ≤ seen page + 1 = omega (arith, both.0, most) in
            one_more (list_any (is_of page) ws) (seen page) version both.1 up)
      ]

  -- a transaction was opened
  pub submitted_seen : (ws : List PageWrite) (u : Unit {0}) →
      new.namings ≡ named_after old.noted ws (Ok u) old.namings → KeepsTables old new →
      IsSeen seen old → IsSeen (seen_more seen ws) new
  submitted_seen ws u names keeps h = record {
    mentions = λ page. (
        let same : mention_of new.noted page ≡ mention_of old.noted page =
        ap (λ (n : IndexState). mention_of n page) keeps.noted in
        let least = more_least (list_any (is_of page) ws) (seen page) in
        let most = h.mentions page in omega arith);
    names = named_now ws h names;
  }

-- what a put writes are pages of its keys
all_touched : (t : ℕ → Bool) (ps : List ℕ) → AllByRecursion (λ p. t p ≡ true) (filter t ps)
all_touched t [] = tt
all_touched t (p ∷ ps) = head (t p) refl (all_touched t ps)
  where
    head : (b : Bool) → t p ≡ b → AllByRecursion (λ q. t q ≡ true) (filter t ps) →
        AllByRecursion (λ q. t q ≡ true) (cond b (p ∷ filter t ps) (filter t ps))
    head true is rest = (is, rest)
    head false is rest = rest

any_touched : (its : Config) (n : KeyMap) (t : ℕ → Bool) (page : ℕ) (ps : List ℕ) →
    AllByRecursion (λ p. t p ≡ true) ps →
    list_any (is_of page) (map (write_of its n) ps) ≡ true → t page ≡ true
any_touched its n t page [] all any = cc
any_touched its n t page (p ∷ ps) all any =
    head (is_of page (write_of its n p)) refl any (any_touched its n t page ps all.1)
  where
    head : (b : Bool) → is_of page (write_of its n p) ≡ b →
        (b || list_any (is_of page) (map (write_of its n) ps)) ≡ true →
        (list_any (is_of page) (map (write_of its n) ps) ≡ true → t page ≡ true) → t page ≡ true
    head true is h rest =
        let same : p ≡ page = grind (arith, nat_tests) in
        subst (λ q. t q ≡ true) same all.0
    head false is h rest = rest h

more_of : (a b : Bool) (n : ℕ) → (a ≡ true → b ≡ true) → cond a (n + 1) n ≤ cond b (n + 1) n
more_of true b n h = rw (h refl) (omega arith)
more_of false b n h = more_least b n

-- the pages of a put are mentioned once more at most
pub put_seen : (its : Config) (m : KeyMap) (cs : List Change) (seen : ℕ → ℕ) (page : ℕ) →
    seen_more seen (put_writes its m cs) page ≤ seen_by its.logical cs seen page
put_seen its m cs seen page =
    more_of (list_any (is_of page) (put_writes its m cs)) (is_touched its.logical cs page) (seen page)
    (any_touched its (apply m cs) (is_touched its.logical cs) page (pages_of its.logical cs)
    (all_touched (is_touched its.logical cs) (range_with_len 0 its.logical)))

pub seen_by_least : (logical : ℕ) (cs : List Change) (seen : ℕ → ℕ) (page : ℕ) →
    seen page ≤ seen_by logical cs seen page
seen_by_least logical cs seen page = more_least (is_touched logical cs page) (seen page)
