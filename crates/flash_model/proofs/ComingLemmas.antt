-- What comes in one call after another.
use Rattle.std.proofs.Common.{◌≡◌, inl, inr, ℕ, zero, suc, ◌+◌, ◌-◌, ◌<◌, Bool, true, false, Option, None, Some, refl, ap, ◌∙◌, subst, arith}
use Rattle.flash_model.specs.declared.outcome.Arm.{Arm}
use Rattle.flash_model.specs.Flash.{FlashState, Told, counted_by, counted_times}
use Rattle.flash_model.specs.Coming.{number, Waits, Comes, ReadWaits, ReadComes, ComesTo}
use Rattle.flash_model.specs.Calls.{BothTell, Starts}

-- a count that goes up so many times, and then more
pub counted_times-then : (more most n : ℕ) → counted_times most (counted_times more n) ≡ counted_times (more + most) n
counted_times-then zero most n = let e : most ≡ zero + most = omega arith in ap (λ k. counted_times k n) e
counted_times-then (suc more) zero n = let e : suc more ≡ suc more + zero = omega arith in ap (λ k. counted_times k n) e
counted_times-then (suc more) (suc most) n =
    let e : suc (more + suc most) ≡ suc more + suc most = omega arith in
    let twice : counted_by (suc most) (counted_by (suc more) n) ≡ counted_by (suc (more + suc most)) n = omega arith in
    twice ∙ ap (λ k. counted_times k n) e

-- an arm that waits counts on, and comes at the number that is left of its own
module _ (n m : ℕ) (c : Option Arm) where
  waits_some : (x : Arm) → n < number x.count → Waits m (Some (record x { count = x.count - n })) c →
      Waits (n + m) (Some x) c
  waits_some x later next = (
    omega (arith, later, next.0),
    let e : x.count - n - m ≡ x.count - (n + m) = omega arith in
        next.1 ∙ ap (λ (k : ℕ). Some (record x { count = k })) e,
  )

  waits_then : (a b : Option Arm) → Waits n a b → Waits m b c → Waits (n + m) a c
  waits_then None b ab bc = subst (λ o. Waits m o c) ab bc
  waits_then (Some x) b ab bc = waits_some x ab.0 (subst (λ o. Waits m o c) ab.1 bc)

  comes_some : (x : Arm) → n < number x.count → Comes m (Some (record x { count = x.count - n })) c →
      Comes (n + m) (Some x) c
  comes_some x later next = (omega (arith, later, next.0), next.1)

  comes_then : (a b : Option Arm) → Waits n a b → Comes m b c → Comes (n + m) a c
  comes_then None b ab bc = subst (λ o. Comes m o c) ab bc
  comes_then (Some x) b ab bc = comes_some x ab.0 (subst (λ o. Comes m o c) ab.1 bc)

-- and so does the count of the failing read
module _ (n m : ℕ) (c : Option ℕ) where
  read_waits_then : (a b : Option ℕ) → ReadWaits n a b → ReadWaits m b c → ReadWaits (n + m) a c
  read_waits_then None b ab bc = subst (λ o. ReadWaits m o c) ab bc
  read_waits_then (Some x) b ab bc = read_waits_some x ab.0 (subst (λ o. ReadWaits m o c) ab.1 bc)
    where
      read_waits_some : (x : ℕ) → n < number x → ReadWaits m (Some (x - n)) c → ReadWaits (n + m) (Some x) c
      read_waits_some x later next = (
        omega (arith, later, next.0),
        let e : x - n - m ≡ x - (n + m) = omega arith in next.1 ∙ ap Some e,
      )

  read_comes_then : (a b : Option ℕ) → ReadWaits n a b → ReadComes m b c → ReadComes (n + m) a c
  read_comes_then None b ab bc = subst (λ o. ReadComes m o c) ab bc
  read_comes_then (Some x) b ab bc = read_comes_some x ab.0 (subst (λ o. ReadComes m o c) ab.1 bc)
    where
      read_comes_some : (x : ℕ) → n < number x → ReadComes m (Some (x - n)) c → ReadComes (n + m) (Some x) c
      read_comes_some x later next = (omega (arith, later, next.0), next.1)

-- nothing comes where nothing is called
pub waits_nothing : (a : Option Arm) → Waits 0 a a
waits_nothing None = refl
waits_nothing (Some x) = (
  omega arith,
  let e : x.count ≡ x.count - 0 = omega arith in ap (λ (k : ℕ). Some (record x { count = k })) e,
)

pub read_waits_nothing : (a : Option ℕ) → ReadWaits 0 a a
read_waits_nothing None = refl
read_waits_nothing (Some x) = (omega arith, let e : x ≡ x - 0 = omega arith in ap Some e)

module _ (n m i j : ℕ) (a b c : Told) (here : Waits n a.cut b.cut × Waits n a.fault b.fault
    × ReadWaits m a.bad_read b.bad_read) where
  fault_then : Waits i b.fault c.fault → Waits (n + i) a.fault c.fault
  fault_then waits = waits_then n i c.fault a.fault b.fault here.1 waits

  fault_comes : Comes i b.fault c.fault → Comes (n + i) a.fault c.fault
  fault_comes comes = comes_then n i c.fault a.fault b.fault here.1 comes

  read_then : ReadWaits j b.bad_read c.bad_read → ReadWaits (m + j) a.bad_read c.bad_read
  read_then waits = read_waits_then m j c.bad_read a.bad_read b.bad_read here.2 waits

  read_comes : ReadComes j b.bad_read c.bad_read → ReadComes (m + j) a.bad_read c.bad_read
  read_comes comes = read_comes_then m j c.bad_read a.bad_read b.bad_read here.2 comes

  come_then : (broken live : Bool) → ComesTo broken live i j b c → ComesTo broken live (n + i) (m + j) a c
  come_then false live next = (waits_then n i c.cut a.cut b.cut here.0 next.0, fault_then next.1, read_then next.2)
  come_then true false next = (
    comes_then n i c.cut a.cut b.cut here.0 next.0,
    elim next.1 [ inl waits ↦ inl (fault_then waits) | inr comes ↦ inr (fault_comes comes) ],
    read_then next.2,
  )
  come_then true true next = (
    waits_then n i c.cut a.cut b.cut here.0 next.0,
    elim next.1 [
      | inl fault ↦ inl (fault_comes fault.0, read_then fault.1)
      | inr read ↦ inr (fault_then read.0, read_comes read.1)
    ],
  )

told_then : (n m i j : ℕ) (broken live on : Bool) (a b c : Option Told) → BothTell (ComesTo false on n m) a b
    → BothTell (ComesTo broken live i j) b c → BothTell (ComesTo broken live (n + i) (m + j)) a c
told_then n m i j broken live on None None None ab bc = tt
told_then n m i j broken live on None None (Some z) ab bc = absurd bc
told_then n m i j broken live on None (Some y) c ab bc = absurd ab
told_then n m i j broken live on (Some x) None c ab bc = absurd ab
told_then n m i j broken live on (Some x) (Some y) None ab bc = absurd bc
told_then n m i j broken live on (Some x) (Some y) (Some z) ab bc = come_then n m i j x y z ab broken live bc

pub Starts-then : (a b c : FlashState) (broken : Bool) → Starts a b false → Starts b c broken → Starts a c broken
Starts-then a b c broken ab bc = (
  ab.0 + bc.0,
  ab.1 + bc.1,
  bc.2 ∙ ap (counted_times bc.0) ab.2 ∙ counted_times-then ab.0 bc.0 a.started,
  bc.3 ∙ ap (counted_times bc.1) ab.3 ∙ counted_times-then ab.1 bc.1 a.reads,
  told_then ab.0 ab.1 bc.0 bc.1 broken c.live b.live a.told b.told c.told ab.4 bc.4,
)

told_nothing : (live : Bool) (a : Option Told) → BothTell (ComesTo false live 0 0) a a
told_nothing live None = tt
told_nothing live (Some x) = (waits_nothing x.cut, waits_nothing x.fault, read_waits_nothing x.bad_read)

pub Starts-nothing : (s : FlashState) → Starts s s false
Starts-nothing s = (0, 0, refl, refl, told_nothing s.live s.told)
