-- Lists of records with bytes: their records, one item more, and the slots that a loss leaves.
use Rattle.record_list.proofs.Common.{◌≡◌, ℕ, ◌<◌, Bool, true, false, cond, List, [], ◌∷◌, length, All, inl, inr, sym, refl, ap, ◌∙◌, subst, ◌&&◌, arith, Contains, and_parts, All-contains, all_from, from_filter, Rec, Protocol, Found, name_of, IsScanned, record_named, IsSoundList, IsInserted, left, Written, found_of, records_of, BytesAgree}
use Rattle.std.proofs.Common.{filter, AllPairs, subst₂}
use Rattle.std.proofs.lemmas.List.{map-append, get_or-map, length-map}
use Rattle.list_lemmas.proofs.Membership.{in_filter, map_in}
use Rattle.list_lemmas.proofs.Pairs.{of_any_two}
use Rattle.record_list.specs.Written.{text_of}
use Rattle.record_list.proofs.OfChanges.OneMore.{inserted_in}
use Rattle.record_list.proofs.OfFacts.SoundNames.{sound_map}

-- an item's record is among the records
pub in_records : (l : List Written) (w : Written) → Contains l w → Contains (records_of l) (found_of w)
in_records l w c = map_in found_of l w c

-- one item more is one record more
pub inserted_records : (l m : List Written) (w : Written) → IsInserted l w m →
    IsInserted (records_of l) (found_of w) (records_of m)
inserted_records l m w i = record {
  before = records_of i.before;
  after = records_of i.after;
  was = ap records_of i.was ∙ map-append found_of i.before i.after;
  now = ap records_of i.now ∙ map-append found_of i.before (w ∷ i.after);
}

-- slots ascend among the items as among their records
pub ascending_written : (l : List Written) → IsScanned (records_of l) → AllPairs (λ v w. v.slot.0 < w.slot.0) l
ascending_written l s i j d lt lj =
    let low : i < length (records_of l) = subst (λ n. i < n) (sym (length-map l found_of)) (omega arith) in
    let high : j < length (records_of l) = subst (λ n. j < n) (sym (length-map l found_of)) lj in
    subst₂ (λ (f g : Found). f.slot.0 < g.slot.0) (get_or-map found_of l i d (found_of d) (omega arith))
    (get_or-map found_of l j d (found_of d) lj)
    (s.ascending i j (found_of d) lt high)

-- items of one name have the same bytes, whatever their slots, in a list that keeps the law on bytes
pub same_bytes : (l : List Written) → IsScanned (records_of l) → All (BytesAgree l) l →
    (v w : Written) → Contains l v → Contains l w → name_of v.rec ≡ name_of w.rec → v.bytes ≡ w.bytes
same_bytes l s b =
    of_any_two (λ w. w.slot.0) l (ascending_written l s) (λ v w. name_of v.rec ≡ name_of w.rec → v.bytes ≡ w.bytes)
    (λ v w h e. sym (h (sym e))) (λ v e. refl)
    (λ v w cv cw lt e. sym (All-contains (λ u. u.slot.0 < v.slot.0 → name_of u.rec ≡ name_of v.rec →
    u.bytes ≡ v.bytes) l w (All-contains (BytesAgree l) l v b cv) cw lt (sym e)))

-- items of one name have one text, whatever their slots
pub record IsOneText (l : List Written) : Type 0 where
  pub same : (v w : Written) → Contains l v → Contains l w → name_of v.rec ≡ name_of w.rec → text_of v ≡ text_of w

-- records that are equal and have the same bytes have one text
pub same_text : (v w : Written) → v.rec ≡ w.rec → v.bytes ≡ w.bytes → text_of v ≡ text_of w
same_text v w rec bytes =
    ap (λ (r : Rec). record { discard = r.discard; bytes = v.bytes }) rec
    ∙ ap (λ (b : List ℕ). record { discard = w.rec.discard; bytes = b }) bytes

-- in a list that keeps law 2 on records and on bytes
pub one_text : (p : Protocol) (l : List Written) (logical : ℕ) → IsSoundList p (records_of l) logical →
    IsScanned (records_of l) →
    All (BytesAgree l) l → IsOneText l
one_text p l logical sound scanned bytes = record {
  same = λ v w cv cw e.
      let copies = (sound_map p (records_of l) logical sound scanned).copies in
      same_text v w
      (copies (found_of v) (in_records l v cv) ∙ ap (record_named (records_of l)) e
      ∙ sym (copies (found_of w) (in_records l w cw)))
      (same_bytes l scanned bytes v w cv cw e);
}

-- with one item more the bytes agree, if they agree with it
pub bytes_inserted : (l m : List Written) (w : Written) → IsInserted l w m → All (BytesAgree l) l →
    ((v : Written) → Contains l v → name_of v.rec ≡ name_of w.rec → v.bytes ≡ w.bytes) → All (BytesAgree m) m
bytes_inserted l m w i b new = all_from (BytesAgree m) m (λ u cu. all_from (λ v. v.slot.0 < u.slot.0 →
    name_of v.rec ≡ name_of u.rec →
    v.bytes ≡ u.bytes) m (λ v cv lt e.
    elim (inserted_in l m w i u cu) [
      | inl wu ↦ elim (inserted_in l m w i v cv) [
        | inl wv ↦ ap (λ (x : Written). x.bytes) (sym wv ∙ wu)
        | inr old ↦ new v old (e ∙ ap (λ (x : Written). name_of x.rec) (sym wu)) ∙ ap (λ (x : Written). x.bytes) wu
      ]
      | inr ou ↦ elim (inserted_in l m w i v cv) [
        | inl wv ↦ ap (λ (x : Written). x.bytes) (sym wv)
            ∙ sym (new u ou (sym e ∙ ap (λ (x : Written). name_of x.rec) (sym wv)))
        | inr ov ↦ All-contains (λ x. x.slot.0 < u.slot.0 → name_of x.rec ≡ name_of u.rec →
            x.bytes ≡ u.bytes) l v (All-contains (BytesAgree l) l u b ou) ov lt e
      ]
    ]))

-- fewer items agree in their bytes as before
pub bytes_filtered : (p : Written → Bool) (l : List Written) → All (BytesAgree l) l →
    All (BytesAgree (filter p l)) (filter p l)
bytes_filtered p l b = all_from (BytesAgree (filter p l)) (filter p l)
    (λ u cu. all_from (λ v. v.slot.0 < u.slot.0 → name_of v.rec ≡ name_of u.rec →
    v.bytes ≡ u.bytes) (filter p l) (λ v cv.
    All-contains (λ x. x.slot.0 < u.slot.0 → name_of x.rec ≡ name_of u.rec → x.bytes ≡ u.bytes) l v
    (All-contains (BytesAgree l) l u b (from_filter p u l cu).0) (from_filter p v l cv).0))

-- the records of a chosen list
map_cond : (b : Bool) (w : Written) (us vs : List Written) →
    records_of (cond b (w ∷ us) vs) ≡ cond b (found_of w ∷ records_of us) (records_of vs)
map_cond true w us vs = refl
map_cond false w us vs = refl

-- the records of the items that are left are the records that are left
pub records_left : (keep : ℕ → Bool) (l : List Written) → records_of (filter (λ w. keep w.slot.0) l)
    ≡ left keep (records_of l)
records_left keep [] = refl
records_left keep (w ∷ ws) =
    map_cond (keep w.slot.0) w (filter (λ w. keep w.slot.0) ws) (filter (λ w. keep w.slot.0) ws)
    ∙ ap (λ z. cond (keep w.slot.0) (found_of w ∷ z) z) (records_left keep ws)

-- more records leave more, and what is left once is left twice
pub left_more : (keep : ℕ → Bool) (l m : List Found) → ((f : Found) → Contains l f → Contains m f) → (f : Found) →
    Contains (left keep l) f →
    Contains (left keep m) f
left_more keep l m sub f c = let k = from_filter (λ f. keep f.slot.0) f l c in
    in_filter (λ f. keep f.slot.0) f m (sub f k.0) k.1

pub left_twice : (keep : ℕ → Bool) (l : List Found) (f : Found) → Contains (left keep l) f →
    Contains (left keep (left keep l)) f
left_twice keep l f c = in_filter (λ f. keep f.slot.0) f (left keep l) c (from_filter (λ f. keep f.slot.0) f l c).1

-- and what two tests leave together, the second leaves of what the first does
pub left_both : (keep out : ℕ → Bool) (l : List Found) (f : Found) → Contains (left (λ s. keep s && out s) l) f →
    Contains (left out (left keep l)) f
left_both keep out l f c =
    let k = from_filter (λ g. keep g.slot.0 && out g.slot.0) f l c in
    let b = and_parts (keep f.slot.0) (out f.slot.0) k.1 in
    in_filter (λ g. out g.slot.0) f (left keep l) (in_filter (λ g. keep g.slot.0) f l k.0 b.0) b.1
