-- Lists of which one has its records among those of the other: what the other shares with it. A list counts as the set
-- of its records, where records of one name are equal.
use Rattle.record_list.proofs.Common.{◌≡◌, ℕ, ◌≤◌, true, false, List, refl, sym, ap, ◌∙◌, ⊎_elim, arith, Contains, cases_Bool, false_from_ne_true, both_ways, Link, Rec, Protocol, Found, greatest, name_of, is_present, record_named, link_of, back_of}
use Rattle.record_list.specs.Changes.{IsCopy}
use Rattle.record_list.proofs.OfFacts.SoundNames.{IsSoundMap}
use Rattle.record_list.proofs.OfChanges.OneMore.{inserted_in}
use Rattle.record_list.proofs.OfFacts.Names.{greatest_bound, greatest_least, found_named, present_as, links_from, backs_from, absent_record}

-- a record of the list that is equal to this one
pub record IsEqual (l : List Found) (r : Rec) : Type 0 where
  pub at : Found
  pub is_in : Contains l at
  pub is : at.rec ≡ r

-- each record of the first list is equal to one of the second
pub record IsAmong (l m : List Found) : Type 0 where
  pub among : (f : Found) → Contains l f → IsEqual m f.rec

-- as where each record of the first is in the second
pub among_of : (l m : List Found) → ((f : Found) → Contains l f → Contains m f) → IsAmong l m
among_of l m sub = record { among = λ f i. record { at = f; is_in = sub f i; is = refl } }

-- and where a copy is added to the second
pub copied_among : (l l' : List Found) (f : Found) → IsCopy l l' f → IsAmong l' l
copied_among l l' f c = record {
  among = λ g i. ⊎_elim
      (λ e. record {
        at = c.source.1;
        is_in = (c.source.0, c.source.2, c.source.3);
        is = c.source.4
            ∙ ap (λ (x : Found). x.rec) e;
      })
      (λ old. record { at = g; is_in = old; is = refl })
      (inserted_in l l' f c.added g i);
}

-- records of one name are equal, whatever their slots
pub record IsOneEach (l : List Found) : Type 0 where
  pub same : (f g : Found) → Contains l f → Contains l g → name_of f.rec ≡ name_of g.rec → f.rec ≡ g.rec

-- in a sound list
pub one_each : (p : Protocol) (l : List Found) (n : ℕ) → IsSoundMap p l n → IsOneEach l
one_each p l n sound = record {
  same = λ f g i j e.
      sound.copies f i ∙ ap (record_named l) e ∙ sym (sound.copies g j);
}

-- and in a list whose records are among its records
pub one_each_among : (l m : List Found) → IsAmong m l → IsOneEach l → IsOneEach m
one_each_among l m a o = record {
  same = λ f g cf cg e.
      let x : IsEqual l f.rec = a.among f cf in
      let y : IsEqual l g.rec = a.among g cg in
      sym x.is ∙ (o.same x.at y.at x.is_in y.is_in (ap name_of x.is ∙ (e ∙ sym (ap name_of y.is))) ∙ y.is);
}

-- records of one name in both lists are equal
pub among_named : (l m : List Found) → IsAmong m l → IsOneEach l → (name : Link) (f g : Found) → Contains m f →
    name_of f.rec ≡ name → Contains l g →
    name_of g.rec ≡ name → f.rec ≡ g.rec
among_named l m a o name f g cf ef cg eg =
    let x : IsEqual l f.rec = a.among f cf in
    sym x.is ∙ o.same x.at g x.is_in cg (ap name_of x.is ∙ (ef ∙ sym eg))

module _ (l m : List Found) (a : IsAmong l m) where
  -- the greatest number
  pub among_greatest : (of : Rec → ℕ) → greatest of l ≤ greatest of m
  among_greatest of = greatest_least of l (greatest of m) (λ f c.
      let x : IsEqual m f.rec = a.among f c in
      let b : of x.at.rec ≤ greatest of m = greatest_bound of m x.at x.is_in in
      let e : of x.at.rec ≡ of f.rec = ap of x.is in omega arith)

  -- present names
  pub among_present : (name : Link) → is_present l name ≡ true → is_present m name ≡ true
  among_present name h =
      let f = found_named l name h in
      let x : IsEqual m f.0.rec = a.among f.0 f.1 in
      present_as m x.at name x.is_in (ap name_of x.is ∙ f.2)

  -- absent names
  pub among_absent : (name : Link) → is_present m name ≡ false → is_present l name ≡ false
  among_absent name h = false_from_ne_true (is_present l name)
      (λ t. both_ways (is_present m name) h (among_present name t))

  -- the records of present names
  pub among_record : IsOneEach m → (name : Link) → is_present l name ≡ true → record_named l name ≡ record_named m name
  among_record o name h =
      let f = found_named l name h in
      let x : IsEqual m f.0.rec = a.among f.0 f.1 in
      let g = found_named m name (among_present name h) in
      let e : x.at.rec ≡ g.0.rec = o.same x.at g.0 x.is_in g.1 (ap name_of x.is ∙ (f.2 ∙ sym g.2)) in
      sym f.5 ∙ (sym x.is ∙ (e ∙ g.5))

-- each of two lists has the records of the other
pub record IsSame (l m : List Found) : Type 0 where
  pub there : IsAmong l m
  pub back : IsAmong m l

module _ (l m : List Found) (s : IsSame l m) where
  -- they have the same greatest numbers, present names, records, links and back versions
  pub same_greatest : (of : Rec → ℕ) → greatest of l ≡ greatest of m
  same_greatest of =
      let x : greatest of l ≤ greatest of m = among_greatest l m s.there of in
      let y : greatest of m ≤ greatest of l = among_greatest m l s.back of in omega arith

  pub same_present : (name : Link) → is_present l name ≡ is_present m name
  same_present name =
      ⊎_elim
      (λ e. e ∙ sym (among_present l m s.there name e))
      (λ e. e ∙ sym (among_absent m l s.back name e))
      (cases_Bool (is_present l name))

  same_named : IsOneEach m → (name : Link) → record_named l name ≡ record_named m name
  same_named o name =
      ⊎_elim
      (λ e. among_record l m s.there o name e)
      (λ e. absent_record l name e ∙ sym (absent_record m name (among_absent m l s.back name e)))
      (cases_Bool (is_present l name))

  pub same_link : IsOneEach m → (name : Link) → link_of l name ≡ link_of m name
  same_link o name = links_from l m name name (same_named o name)

  pub same_back : IsOneEach m → (name : Link) → back_of l name ≡ back_of m name
  same_back o name = backs_from l m name name (same_named o name)
