-- What is so of a batch that is not refused.
use Rattle.array_machine.proofs.Common.{◌≡◌, ◌≢◌, ℕ, ◌<◌, ◌≤◌, Bool, true, false, cond, List, [], ◌∷◌, ◌++◌, length, All, AllPairs, Option, Some, None, refl, sym, ap, ◌∙◌, inl, inr, arith, Contains, All-cons, All-nil, All-contains, all_from, Contains-cases, Contains-nil, PageWrite, Entry, has_tag, Limits, spent_page, first_refusals, SubmitError}
use Rattle.std.proofs.Common.{◌-◌, find}
use Rattle.std.proofs.Common.{nat_lt, nat_le, ltb-true, leb-true}
use Rattle.std.specs.Prelude.{option_map}
use Rattle.std.specs.List.{list_any}
use Rattle.std.proofs.lemmas.Bool.{eqb-false}
use Rattle.std.proofs.lemmas.List.Elements.{Contains-append_left, Contains-push}
use Rattle.list_lemmas.proofs.Pairs.{pairs_cons}
use Rattle.list_lemmas.proofs.Options.{map_none}
use Rattle.list_lemmas.proofs.Tests.{any_none, none_parts, none_found}
use Rattle.array_machine.specs.ArrayState.{pending_pages}
use Rattle.array_machine.specs.Submit.{is_of, is_owner, or_else, first_refusal, empty, range, repeated, tag_used, overlap, free_of}
use Rattle.array_machine.specs.declared.answers.SubmitError.TheVariants as refused

-- what is so of a batch for which the limits and the open transactions are enough
pub record IsAccepted (limits : Limits) (entries : List Entry) (tag : ℕ) (ws : List PageWrite) : Type 0 where
  pub some : 0 < length ws
  pub in_range : All (λ w. w.page < limits.logical) ws
  pub distinct : AllPairs (λ v w. v.page ≢ w.page) ws
  pub unused : All (λ e. e.tag ≢ tag) entries
  pub unowned : All (λ w. All (λ e. All (λ v. v.page ≢ w.page) e.writes) entries) ws
  pub room : length ws ≤ limits.pending - pending_pages entries

both_none : (a b : Option SubmitError) → or_else a b ≡ None → (a ≡ None) × (b ≡ None)
both_none None b h = (refl, h)
both_none (Some e) b h = cc

-- no write is refused alone
none_refused : (f : PageWrite → Option SubmitError) (ws : List PageWrite) → first_refusal f ws ≡ None →
    All (λ w. f w ≡ None) ws
none_refused f [] h = All-nil (λ w. f w ≡ None)
none_refused f (w ∷ ws) h = let parts = both_none (f w) (first_refusal f ws) h in
    All-cons (λ v. f v ≡ None) w ws parts.0 (none_refused f ws parts.1)

not_empty : (ws : List PageWrite) → empty ws ≡ None → 0 < length ws
not_empty [] h = cc
not_empty (w ∷ ws) h = omega arith

cond_none : (b : Bool) (e : SubmitError) → cond b None (Some e) ≡ None → b ≡ true
cond_none true e h = refl
cond_none false e h = cc

none_cond : (b : Bool) (e : SubmitError) → cond b (Some e) None ≡ None → b ≡ false
none_cond true e h = cc
none_cond false e h = refl

-- no page stood earlier
none_earlier : (earlier ws : List PageWrite) → repeated earlier ws ≡ None → (v w : PageWrite) → Contains earlier v →
    Contains ws w → v.page ≢ w.page
none_earlier earlier [] h v w i j = absurd (Contains-nil w j)
none_earlier earlier (x ∷ xs) h v w i j =
    let parts = none_parts (list_any (is_of x.page) earlier) (refused.Repeated x.page)
    (repeated (earlier ++ x ∷ []) xs) h in
    elim (Contains-cases x xs w j) [
      | inl same ↦ λ e. eqb-false v.page x.page (any_none (is_of x.page) earlier parts.0 v i) (e
          ∙ ap (λ (y : PageWrite). y.page) (sym same))
      | inr later ↦ none_earlier (earlier ++ x ∷ []) xs parts.1 v w (Contains-append_left earlier (x ∷ []) v i) later
    ]

none_repeated : (earlier ws : List PageWrite) → repeated earlier ws ≡ None → AllPairs (λ v w. v.page ≢ w.page) ws
none_repeated earlier [] h = λ i j d less below. absurd (omega arith)
none_repeated earlier (x ∷ xs) h =
    let parts = none_parts (list_any (is_of x.page) earlier) (refused.Repeated x.page)
    (repeated (earlier ++ x ∷ []) xs) h in
    pairs_cons (λ (v : PageWrite) (w : PageWrite). v.page ≢ w.page) x xs
    (λ w i. none_earlier (earlier ++ x ∷ []) xs parts.1 x w (Contains-push earlier x) i)
    (none_repeated (earlier ++ x ∷ []) xs parts.1)

-- no open transaction has the page
none_owned : (entries : List Entry) (ws : List PageWrite) → overlap entries ws ≡ None →
    All (λ w. All (λ e. All (λ v. v.page ≢ w.page) e.writes) entries) ws
none_owned entries ws h =
    let refusals = none_refused (λ w. option_map (λ e. refused.Overlap w.page e.tag) (find (is_owner w.page) entries))
    ws h in
    all_from (λ w. All (λ e. All (λ v. v.page ≢ w.page) e.writes) entries) ws (λ w i.
    all_from (λ e. All (λ v. v.page ≢ w.page) e.writes) entries (λ e j.
    all_from (λ v. v.page ≢ w.page) e.writes (λ v k.
    let none = map_none (λ f. refused.Overlap w.page f.tag) (find (is_owner w.page) entries)
    (All-contains (λ w. option_map (λ e. refused.Overlap w.page e.tag) (find (is_owner w.page) entries) ≡ None) ws w
    refusals i) in
    eqb-false v.page w.page (any_none (is_of w.page) e.writes (none_found (is_owner w.page) entries none e j) v k))))

pub accepted : (limits : Limits) (entries : List Entry) (tag : ℕ) (ws : List PageWrite) →
    first_refusals limits entries tag ws ≡ None →
    IsAccepted limits entries tag ws
accepted limits entries tag ws h =
    let first = both_none (empty ws) _ h in
    let second = both_none (range limits.logical ws) _ first.1 in
    let third = both_none (repeated [] ws) _ second.1 in
    let fourth = both_none (tag_used tag entries) _ third.1 in
    let fifth = both_none (overlap entries ws) _ fourth.1 in
    record {
      some = not_empty ws first.0;
      in_range = all_from (λ w. w.page < limits.logical) ws (λ w i.
          ltb-true w.page limits.logical (cond_none (nat_lt w.page limits.logical) (refused.Range w.page)
          (All-contains (λ v. cond (nat_lt v.page limits.logical) None (Some (refused.Range v.page)) ≡ None) ws w
          (none_refused (λ v. cond (nat_lt v.page limits.logical) None (Some (refused.Range v.page))) ws second.0) i)));
      distinct = none_repeated [] ws third.0;
      unused = all_from (λ e. e.tag ≢ tag) entries (λ e i.
          eqb-false e.tag tag (any_none (has_tag tag) entries
          (none_cond (list_any (has_tag tag) entries) refused.Tag fourth.0) e i));
      unowned = none_owned entries ws fifth.0;
      room = leb-true (length ws) (limits.pending - pending_pages entries)
          (cond_none (nat_le (length ws) (free_of limits.pending entries))
          (refused.Full (free_of limits.pending entries)) fifth.1);
    }

-- and of one whose pages have versions left
pub unspent : (spent : ℕ → Bool) (ws : List PageWrite) → spent_page spent ws ≡ None → All (λ w. spent w.page ≡ false) ws
unspent spent ws h = all_from (λ w. spent w.page ≡ false) ws (λ w i.
    none_cond (spent w.page) (refused.Spent w.page)
    (All-contains (λ v. cond (spent v.page) (Some (refused.Spent v.page)) None ≡ None) ws w
    (none_refused (λ v. cond (spent v.page) (Some (refused.Spent v.page)) None) ws h) i))
