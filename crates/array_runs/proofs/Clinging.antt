-- A transaction that is given up: its pages have what they had while it was open.
use Rattle.array_runs.proofs.Common.{◌≡◌, ◌≢◌, ℕ, ◌+◌, ◌≤◌, Bool, true, false, cond, List, [], ◌∷◌, ◌++◌, map, All, Some, None, refl, sym, ap, ◌∙◌, subst, inl, inr, arith, eqb-true, Contains, count_by, cases_Bool, sum_by-cons, ArrayState, Entry, entry_of, has_tag, is_doubted, page_at, put, with_entry, without, settled, settled_entry, settled_mark, Mark, Plain, Doubt, Whole, HasSame, IsConsistent}
use Rattle.std.proofs.Common.{◌==◌}
use Rattle.std.proofs.lemmas.Bool.{eqb-false}
use Rattle.array_runs.specs.Promises.{HasOneOf}
use Rattle.array_runs.proofs.Apart.{apart_two, other_same, same_then, settled_sure_same}
use Rattle.array_runs.proofs.Finishes.{found_is_in}
use Rattle.array_machine.proofs.UnbrokenCalls.{tagged, again}

abbrev count_of : ℕ → List Entry → ℕ
count_of tag es = count_by (has_tag tag) es

pub count_cons : (tag : ℕ) (e : Entry) (es : List Entry) →
    count_of tag (e ∷ es) ≡ cond (has_tag tag e) 1 0 + count_of tag es
count_cons tag e es = sum_by-cons (λ x. cond (has_tag tag x) 1 0) e es

-- ---- how many have a tag

pub count_settled : (there : Bool) (tag : ℕ) (es : List Entry) →
    count_of tag (map (settled_entry there) es) ≡ count_of tag es
count_settled there tag [] = refl
count_settled there tag (e ∷ es) =
    count_cons tag (settled_entry there e) (map (settled_entry there) es) ∙ ap (λ n. cond (has_tag tag e) 1 0 + n)
    (count_settled there tag es) ∙ sym (count_cons tag e es)

pub count_without : (tag own : ℕ) (es : List Entry) → count_of tag (without own es) ≤ count_of tag es
count_without tag own [] = omega arith
count_without tag own (e ∷ es) = elim (has_tag own e) as (λ b. count_of tag (cond b es (e ∷ without own es)) ≤ count_of
    tag (e ∷ es)) [
      | true ↦ (let split = count_cons tag e es in omega (arith, split))
      | false ↦ (let split = count_cons tag e es in let other = count_cons tag e
          (without own es) in let rest = count_without tag own es in omega (arith, split, other, rest))
    ]

-- two of one tag are of the same tags
same_tests : (tag own : ℕ) (a b : Entry) → has_tag own a ≡ true → has_tag own b ≡ true → has_tag tag a ≡ has_tag tag b
same_tests tag own a b h k = ap (λ t. t == tag) (eqb-true a.tag own h ∙ sym (eqb-true b.tag own k))

count_with_step : (tag own : ℕ) (new e : Entry) (es : List Entry) (b : Bool) → has_tag own e ≡ b →
    has_tag own new ≡ true → count_of tag (with_entry own new es) ≡ count_of tag es →
    count_of tag (cond b (new ∷ es) (e ∷ with_entry own new es)) ≡ count_of tag (e ∷ es)
count_with_step tag own new e es true is t rest =
    count_cons tag new es ∙ ap (λ (b : Bool). cond b 1 0 + count_of tag es) (same_tests tag own new e t is)
    ∙ sym (count_cons tag e es)
count_with_step tag own new e es false is t rest =
    count_cons tag e (with_entry own new es) ∙ ap (λ n. cond (has_tag tag e) 1 0 + n) rest ∙ sym (count_cons tag e es)

pub count_with : (tag own : ℕ) (new : Entry) (es : List Entry) → has_tag own new ≡ true →
    count_of tag (with_entry own new es) ≡ count_of tag es
count_with tag own new [] t = refl
count_with tag own new (e ∷ es) t = count_with_step tag own new e es (has_tag own e) refl t
    (count_with tag own new es t)

-- none has it, so none is found
none_found : (tag : ℕ) (es : List Entry) → count_of tag es ≤ 0 → entry_of tag es ≡ None
none_found tag [] h = refl
none_found tag (e ∷ es) h = elim (has_tag tag e) as (λ b. cond b 1 0 + count_of tag es ≤ 0 →
    cond b (Some e) (entry_of tag es) ≡ None) [
      | true ↦ λ k. absurd (omega (arith, k))
      | false ↦ λ k. none_found tag es (omega (arith, k))
    ] (let split = count_cons tag e es in omega (arith, split, h))

gone_step : (tag : ℕ) (e : Entry) (es : List Entry) (b : Bool) → cond b 1 0 + count_of tag es ≤ 1 → has_tag tag e ≡ b →
    (count_of tag es ≤ 1 → entry_of tag (without tag es) ≡ None) →
    entry_of tag (cond b es (e ∷ without tag es)) ≡ None
gone_step tag e es true h is rest = none_found tag es (omega (arith, h))
gone_step tag e es false h is rest = rw is (rest (omega (arith, h)))

pub gone : (tag : ℕ) (es : List Entry) → count_of tag es ≤ 1 → entry_of tag (without tag es) ≡ None
gone tag [] h = refl
gone tag (e ∷ es) h = gone_step tag e es (has_tag tag e) (let split = count_cons tag e es in omega (arith, split, h))
    refl (gone tag es)

-- ---- another tag

differs : (tag own : ℕ) (e : Entry) → tag ≢ own → has_tag own e ≡ true → has_tag tag e ≡ false
differs tag own e other h = elim (cases_Bool (has_tag tag e)) [
  | inl both ↦ absurd (other (sym (eqb-true e.tag tag both) ∙ eqb-true e.tag own h))
  | inr not ↦ not
]

other_without_step : (tag own : ℕ) (e : Entry) (es : List Entry) (b : Bool) → tag ≢ own → has_tag own e ≡ b →
    entry_of tag (without own es) ≡ entry_of tag es →
    entry_of tag (cond b es (e ∷ without own es)) ≡ entry_of tag (e ∷ es)
other_without_step tag own e es true other is rest = rw (differs tag own e other is) refl
other_without_step tag own e es false other is rest = ap (λ o. cond (has_tag tag e) (Some e) o) rest

pub other_without : (tag own : ℕ) (es : List Entry) → tag ≢ own → entry_of tag (without own es) ≡ entry_of tag es
other_without tag own [] other = refl
other_without tag own (e ∷ es) other = other_without_step tag own e es (has_tag own e) other refl
    (other_without tag own es other)

other_with_step : (tag own : ℕ) (new e : Entry) (es : List Entry) (b : Bool) → tag ≢ own → has_tag own new ≡ true →
    has_tag own e ≡ b → entry_of tag (with_entry own new es) ≡ entry_of tag es →
    entry_of tag (cond b (new ∷ es) (e ∷ with_entry own new es)) ≡ entry_of tag (e ∷ es)
other_with_step tag own new e es true other t is rest = rw (
  differs tag own new other t,
  differs tag own e other is,
) refl
other_with_step tag own new e es false other t is rest = ap (λ o. cond (has_tag tag e) (Some e) o) rest

pub other_with : (tag own : ℕ) (new : Entry) (es : List Entry) → tag ≢ own → has_tag own new ≡ true →
    entry_of tag (with_entry own new es) ≡ entry_of tag es
other_with tag own new [] other t = refl
other_with tag own new (e ∷ es) other t = other_with_step tag own new e es (has_tag own e) other t refl
    (other_with tag own new es other t)

pub other_pushed : (tag : ℕ) (e : Entry) (es : List Entry) → has_tag tag e ≡ false →
    entry_of tag (es ++ e ∷ []) ≡ entry_of tag es
other_pushed tag e [] h = rw h refl
other_pushed tag e (x ∷ es) h = ap (λ o. cond (has_tag tag x) (Some x) o) (other_pushed tag e es h)

-- ---- an open transaction that is not whole

-- The transaction that has the tag now had it before, with the same writes. Where it is not whole it was not whole, and
-- its pages are as they were.
pub record Clings (tag : ℕ) (old new : ArrayState) (f : Entry) : Type 0 where
  pub before : Entry
  pub found : entry_of tag old.entries ≡ Some before
  pub writes : f.writes ≡ before.writes
  pub plain : f.mark ≢ Whole → (before.mark ≢ Whole) × HasSame old.pages new.pages before

abbrev pub Cling : ℕ → ArrayState → ArrayState → Type 0
Cling tag old new = (f : Entry) → entry_of tag new.entries ≡ Some f → Clings tag old new f

pub cling_same : (tag : ℕ) (old new : ArrayState) → new ≡ old → Cling tag old new
cling_same tag old new same = rw same (λ f found. record {
  before = f;
  found = found;
  writes = refl;
  plain = λ h. (h, λ k d lt. refl);
})

pub cling_then : (tag : ℕ) (old mid new : ArrayState) → Cling tag old mid → Cling tag mid new → Cling tag old new
cling_then tag old mid new first second f found =
    let b = second f found in
    let a = first b.before b.found in
    record {
      before = a.before;
      found = a.found;
      writes = b.writes ∙ a.writes;
      plain = λ h.
          let later = b.plain h in
          let earlier = a.plain later.0 in (
            earlier.0,
            same_then old.pages mid.pages new.pages a.before earlier.1
                (subst (λ ws. All (λ w. page_at new.pages w.page ≡ page_at mid.pages w.page) ws) a.writes later.1),
          );
    }

pub cling_none : (tag : ℕ) (old new : ArrayState) → entry_of tag new.entries ≡ None → Cling tag old new
cling_none tag old new none f found = (let both = sym none ∙ found in cc)

-- the found one before settling
unsettled_step : (there : Bool) (tag : ℕ) (e f : Entry) (es : List Entry) (b : Bool) →
    (entry_of tag (map (settled_entry there) es) ≡ Some f → (g : Entry) × (entry_of tag es ≡ Some g)
    × (f ≡ settled_entry there g)) →
    cond b (Some (settled_entry there e)) (entry_of tag (map (settled_entry there) es)) ≡ Some f →
    (g : Entry) × (cond b (Some e) (entry_of tag es) ≡ Some g) × (f ≡ settled_entry there g)
unsettled_step there tag e f es true rest h = (e, refl, (let is = h in cc))
unsettled_step there tag e f es false rest h = rest h

unsettled : (there : Bool) (tag : ℕ) (es : List Entry) (f : Entry) →
    entry_of tag (map (settled_entry there) es) ≡ Some f →
    (g : Entry) × (entry_of tag es ≡ Some g) × (f ≡ settled_entry there g)
unsettled there tag [] f h = cc
unsettled there tag (e ∷ es) f h = unsettled_step there tag e f es (has_tag tag e) (unsettled there tag es f) h

pub settled_plain : (there : Bool) (s : ArrayState) (g : Entry) (m : Mark) → g.mark ≡ m → IsConsistent s →
    Contains s.entries g → settled_mark there m ≢ Whole →
    (g.mark ≢ Whole) × HasSame s.pages (settled there s).pages g
settled_plain there s g Plain is ok i h = (
  (λ whole. (let both = sym is ∙ whole in cc)),
  settled_sure_same there s g ok i (ap is_doubted is),
)
settled_plain true s g Doubt is ok i h = absurd (h refl)
settled_plain false s g Doubt is ok i h = ((λ whole. (let both = sym is ∙ whole in cc)), λ k d lt. refl)
settled_plain there s g Whole is ok i h = absurd (h refl)

pub cling_settled : (tag : ℕ) (there : Bool) (s : ArrayState) → IsConsistent s → Cling tag s (settled there s)
cling_settled tag there s ok f found =
    let from = unsettled there tag s.entries f found in
    let g = from.0 in
    record {
      before = g;
      found = from.1;
      writes = ap (λ (e : Entry). e.writes) from.2;
      plain = λ h. settled_plain there s g g.mark refl ok (found_is_in tag s.entries g from.1)
          (λ whole. h (ap (λ (e : Entry). e.mark) from.2 ∙ whole));
    }

-- the transaction of a tag has another place in its writing
pub cling_with : (tag own : ℕ) (e new : Entry) (s : ArrayState) → entry_of own s.entries ≡ Some e →
    has_tag own new ≡ true → new.writes ≡ e.writes → e.mark ≢ Whole →
    Cling tag s (record s { entries = with_entry own new s.entries })
cling_with tag own e new s has t writes plain f found = elim (cases_Bool (own == tag)) [
  | inl same ↦ (
      let one : own ≡ tag = eqb-true own tag same in
      let its : entry_of tag (with_entry own new s.entries) ≡ Some new = subst
      (λ t. entry_of t (with_entry own new s.entries) ≡ Some new) one (again own new e s.entries t has) in
      let is : f ≡ new = (let both = sym found ∙ its in cc) in
      record {
        before = e;
        found = subst (λ t. entry_of t s.entries ≡ Some e) one has;
        writes = ap (λ (x : Entry). x.writes) is ∙ writes;
        plain = λ h. (plain, λ k d lt. refl);
      })
  | inr not ↦ (
      let other : tag ≢ own = λ e. eqb-false own tag not (sym e) in
      let its = sym (other_with tag own new s.entries other t) ∙ found in
      record { before = f; found = its; writes = refl; plain = λ h. (h, λ k d lt. refl) })
]

-- the transaction of a tag is gone, and the array took it, or nothing
pub cling_without : (tag own : ℕ) (s : ArrayState) → HasOneOf tag s →
    Cling tag s (record s { entries = without own s.entries })
cling_without tag own s one f found = elim (cases_Bool (own == tag)) [
  | inl same ↦ (
      let is : own ≡ tag = eqb-true own tag same in
      cling_none tag s (record s { entries = without own s.entries })
      (subst (λ t. entry_of tag (without t s.entries) ≡ None) (sym is) (gone tag s.entries one)) f found)
  | inr not ↦ (
      let other : tag ≢ own = λ e. eqb-false own tag not (sym e) in
      record {
        before = f;
        found = sym (other_without tag own s.entries other) ∙ found;
        writes = refl;
        plain = λ h. (h, λ k d lt. refl);
      })
]

pub cling_taken : (tag own : ℕ) (e : Entry) (s : ArrayState) → IsConsistent s → HasOneOf tag s →
    entry_of own s.entries ≡ Some e →
    Cling tag s (record { pages = put s.pages e.writes; entries = without own s.entries })
cling_taken tag own e s ok one has f found = elim (cases_Bool (own == tag)) [
  | inl same ↦ (
      let is : own ≡ tag = eqb-true own tag same in
      cling_none tag s (record { pages = put s.pages e.writes; entries = without own s.entries })
      (subst (λ t. entry_of tag (without t s.entries) ≡ None) (sym is) (gone tag s.entries one)) f found)
  | inr not ↦ (
      let other : tag ≢ own = λ e. eqb-false own tag not (sym e) in
      let its = sym (other_without tag own s.entries other) ∙ found in
      record {
        before = f;
        found = its;
        writes = refl;
        plain = λ h. (
          h,
          elim (apart_two s.entries f e ok.apart (found_is_in tag s.entries f its) (found_is_in own s.entries e has)) [
            | inl one ↦ absurd (other
                (sym (eqb-true f.tag tag (tagged tag s.entries f its)) ∙ ap (λ (x : Entry). x.tag) one
                ∙ eqb-true e.tag own (tagged own s.entries e has)))
            | inr share ↦ other_same s.pages f e.writes share
          ],
        );
      })
]
