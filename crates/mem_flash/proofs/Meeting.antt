-- What comes of the arms of a flash in memory where a call meets them.
use Rattle.std.proofs.Common.{◌≡◌, ℕ, ◌-◌, ◌<◌, Bool, true, false, Option, None, Some, refl, ap, sym, subst, arith, inl, inr, is_some, is_none}
use Rattle.std.specs.Prelude.{not, if◌then◌else◌}
use Rattle.std.specs.Option.{option_or}
use Rattle.std.proofs.lemmas.Bool.Decides.{nat_tests}
use Rattle.flash_model.specs.declared.outcome.Arm.{Arm}
use Rattle.flash_model.specs.declared.outcome.Outcome.{Outcome}
use Rattle.flash_model.specs.Coming.{number, Waits, Comes, ReadWaits, ReadComes, ComesTo}
use Rattle.flash_model.specs.Calls.{Starts}
use Rattle.flash_model.proofs.ComingLemmas.{waits_nothing, read_waits_nothing}
use Rattle.mem_flash.specs.MemFlashState.{MemFlashState, state_of, told_of}
use Rattle.mem_flash.specs.Breaking.{is_next, due, counted_down, comes_due, read_down, operation_down, is_read_broken, after_read}
use Rattle.mem_flash.specs.declared.armed.Armed.{Armed}

-- an arm that is not the next one's waits, and one that is comes
is_later : (count : ℕ) → is_next count ≡ false → 1 < number count
is_later count later = grind (arith, nat_tests)

is_now : (count : ℕ) → is_next count ≡ true → 1 ≡ number count
is_now count next = grind (arith, nat_tests)

waits : (arm : Option Arm) → due arm ≡ None → Waits 1 arm (counted_down arm)
waits None none = refl
waits (Some x) none = by (is_next x.count) refl none
  where
    by : (next : Bool) → is_next x.count ≡ next → (if next then Some x.outcome else None) ≡ None
        → Waits 1 (Some x) (if next then None else Some (record x { count = x.count - 1 }))
    by true is none = cc
    by false is none = (is_later x.count is, refl)

comes : (arm : Option Arm) (how : Outcome) → due arm ≡ Some how → Comes 1 arm (counted_down arm)
comes None how some = cc
comes (Some x) how some = by (is_next x.count) refl some
  where
    by : (next : Bool) → is_next x.count ≡ next → (if next then Some x.outcome else None) ≡ Some how
        → Comes 1 (Some x) (if next then None else Some (record x { count = x.count - 1 }))
    by true is some = (is_now x.count is, refl)
    by false is some = cc

read_waits : (count : Option ℕ) → comes_due count ≡ false → ReadWaits 1 count (read_down count)
read_waits None later = refl
read_waits (Some x) later = by (is_next x) refl later
  where
    by : (next : Bool) → is_next x ≡ next → next ≡ false → ReadWaits 1 (Some x) (if next then None else Some (x - 1))
    by true is later = cc
    by false is later = (is_later x is, refl)

read_comes : (count : Option ℕ) → comes_due count ≡ true → ReadComes 1 count (read_down count)
read_comes None now = cc
read_comes (Some x) now = by (is_next x) refl now
  where
    by : (next : Bool) → is_next x ≡ next → next ≡ true → ReadComes 1 (Some x) (if next then None else Some (x - 1))
    by true is now = (is_now x is, refl)
    by false is now = cc

-- what comes where an operation meets the arms
operation_comes : (armed : Armed) (cut fault : Option Outcome) → due armed.cut ≡ cut → due armed.fault ≡ fault
    → ComesTo (is_some (option_or cut fault)) (is_none cut) 1 0 (told_of armed) (told_of (operation_down armed))
operation_comes armed None None cut_is fault_is =
    (waits armed.cut cut_is, waits armed.fault fault_is, read_waits_nothing armed.bad_read)
operation_comes armed None (Some what) cut_is fault_is =
    (waits armed.cut cut_is, inl (comes armed.fault what fault_is, read_waits_nothing armed.bad_read))
operation_comes armed (Some how) None cut_is fault_is =
    (comes armed.cut how cut_is, inl (waits armed.fault fault_is), read_waits_nothing armed.bad_read)
operation_comes armed (Some how) (Some what) cut_is fault_is =
    (comes armed.cut how cut_is, inr (comes armed.fault what fault_is), read_waits_nothing armed.bad_read)

live_is : (cut : Option Outcome) (live : Bool) → is_some cut ≡ not live → is_none cut ≡ live
live_is None true is = refl
live_is None false is = cc
live_is (Some how) true is = cc
live_is (Some how) false is = refl

-- the same where these are the outcomes with which the arms come due, and the arms once they have counted
pub operation_met : (armed now : Armed) (cut fault broken : Option Outcome) (live : Bool) → cut ≡ due armed.cut →
    fault ≡ due armed.fault
    → broken ≡ option_or cut fault → is_some cut ≡ not live → now ≡ operation_down armed
    → ComesTo (is_some broken) live 1 0 (told_of armed) (told_of now)
operation_met armed now cut fault broken live cut_is fault_is broken_is dead now_is =
    subst (λ (a : Armed). ComesTo (is_some broken) live 1 0 (told_of armed) (told_of a)) (sym now_is)
    (subst (λ b. ComesTo (is_some b) live 1 0 (told_of armed) (told_of (operation_down armed))) (sym broken_is)
    (subst (λ l. ComesTo (is_some (option_or cut fault)) l 1 0 (told_of armed) (told_of (operation_down armed)))
    (live_is cut live dead)
    (operation_comes armed cut fault (sym cut_is) (sym fault_is))))

-- what comes where a read does
read_comes_to : (armed : Armed) (broken : Bool) → comes_due armed.bad_read ≡ broken
    → ComesTo broken true 0 1 (told_of armed) (told_of (record armed { bad_read = read_down armed.bad_read }))
read_comes_to armed false is = (waits_nothing armed.cut, waits_nothing armed.fault, read_waits armed.bad_read is)
read_comes_to armed true is = (waits_nothing armed.cut, inr (waits_nothing armed.fault, read_comes armed.bad_read is))

-- so a read is started
read_on : (s : MemFlashState) → let t : MemFlashState = record s { live = true } in
    Starts (state_of t) (state_of (after_read t)) (is_read_broken t)
read_on s = (0, 1, refl, refl, read_comes_to s.armed (comes_due s.armed.bad_read) refl)

is_on : (s : MemFlashState) → s.live ≡ true → record s { live = true } ≡ s
is_on s on = ap (λ (live : Bool). let t : MemFlashState = record s { live = live } in t) (sym on)

pub starts_read : (s t : MemFlashState) (broken : Bool) → t ≡ after_read s → broken ≡ is_read_broken s → s.live ≡ true
    → Starts (state_of s) (state_of t) broken
starts_read s t broken met_is broken_is on =
    subst (λ (t : MemFlashState). Starts (state_of s) (state_of t) broken) (sym met_is)
    (subst (λ b. Starts (state_of s) (state_of (after_read s)) b) (sym broken_is)
    (subst (λ (s : MemFlashState). Starts (state_of s) (state_of (after_read s)) (is_read_broken s))
    (is_on s on) (read_on s)))
