-- Two changes one after the other: what both keep, the whole keeps.
use Rattle.collector.proofs.Common.{◌≡◌, ℕ, ◌+◌, ◌-◌, ◌*◌, ◌≤◌, refl, ◌∙◌, arith, Contains, All-contains, all_from, FlashState, Found, found_in, IndexState, CostsAtMost, HasNoNewRecord}
use Rattle.std.proofs.Common.{Any}
use Rattle.std.proofs.Math.Nat.{mul-le-mul_right}

-- costs of this many rounds and of this many more
more_rounds : (d k j a b c : ℕ) → b ≤ a + k * d → c ≤ b + j * d → c ≤ a + (k + j) * d
more_rounds d k j a b c low high = omega arith

pub CostsAtMost-nothing : (pages : ℕ) (a : FlashState) → CostsAtMost pages 0 a a
CostsAtMost-nothing pages a = record { programs = omega arith; erases = omega arith }

pub CostsAtMost-then : (pages k j : ℕ) (a b c : FlashState) → CostsAtMost pages k a b → CostsAtMost pages j b c →
    CostsAtMost pages (k + j) a c
CostsAtMost-then pages k j a b c ab bc = record {
  programs = more_rounds (pages - 1) k j a.programs b.programs c.programs ab.programs bc.programs;
  erases = more_rounds 2 k j a.erases b.erases c.erases ab.erases bc.erases;
}

pub CostsAtMost-more : (pages k j : ℕ) (a b : FlashState) → k ≤ j → CostsAtMost pages k a b → CostsAtMost pages j a b
CostsAtMost-more pages k j a b le h = record {
  programs = (let more : k * (pages - 1) ≤ j * (pages - 1) = mul-le-mul_right (pages - 1) le in
      let low = h.programs in omega arith);
  erases = (let low = h.erases in omega arith);
}

-- the record that a noted record was before
pub record WasThere (n : IndexState) (f : Found) : Type 0 where
  pub was : Found
  pub is_in : Contains (found_in n.notes) was
  pub same : was.rec ≡ f.rec

pub no_new : (a b : IndexState) → ((f : Found) → Contains (found_in b.notes) f → WasThere a f) → HasNoNewRecord a b
no_new a b h = all_from (λ f. Any (λ g. g.rec ≡ f.rec) (found_in a.notes)) (found_in b.notes) (λ f i.
    let w = h f i in (w.is_in.0, w.was, w.is_in.1, w.is_in.2, w.same))

pub was_there : (a b : IndexState) → HasNoNewRecord a b → (f : Found) → Contains (found_in b.notes) f → WasThere a f
was_there a b h f i =
    let any = All-contains (λ f. Any (λ g. g.rec ≡ f.rec) (found_in a.notes)) (found_in b.notes) f h i in
    record { was = any.1; is_in = (any.0, any.2, any.3); same = any.4 }

pub HasNoNewRecord-nothing : (a : IndexState) → HasNoNewRecord a a
HasNoNewRecord-nothing a = no_new a a (λ f i. record { was = f; is_in = i; same = refl })

pub HasNoNewRecord-then : (a b c : IndexState) → HasNoNewRecord a b → HasNoNewRecord b c → HasNoNewRecord a c
HasNoNewRecord-then a b c ab bc = no_new a c (λ f i.
    let w = was_there b c bc f i in let v = was_there a b ab w.was w.is_in in
    record { was = v.was; is_in = v.is_in; same = v.same ∙ w.same })
