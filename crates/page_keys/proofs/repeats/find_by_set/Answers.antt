mod RepeatedKeys
use Rattle.page_keys.proofs.Common.{◌≡◌, ℕ, Bool, true, false, not, List, take, sym, ap, subst, ◌∙◌, list_any, has_key, Change}
use Rattle.page_keys.proofs.repeats.find_by_set.Answers.RepeatedKeys.{seen_more, repeated_here, repeated_later}
use Rattle.page_keys.proofs.repeats.find_by_set.Goals as goal

-- a key is new where the set lacks it
old_is : (new has stood : Bool) → new ≡ not has → has ≡ stood → new ≡ false → stood ≡ true
old_is new true stood is same old = sym same
old_is new false stood is same old = cc

new_is : (new has stood : Bool) → new ≡ not has → has ≡ stood → new ≡ true → stood ≡ false
new_is new false stood is same fresh = sym same
new_is new true stood is same fresh = cc

pub returns-then-not-branch : goal.returns-then-not-branch
returns-then-not-branch c =
    let d = c.index-changes-i.result in
    let cs = take c.loop-i.i c.args.changes.now in
    let read = c.as_slice.ensures.bytes ∙ sym (ap (λ (x : Change). x.key) c.index-changes-i.is) in
    repeated_here c.args.changes.now c.loop-i.i d c.loop-i-test.true c.index-changes-i.is
    c.loop-i.invariant.left
    (subst (λ (k : List ℕ). list_any (has_key k) cs ≡ true) read
    (old_is _ _ _ c.in_ok-insert.ensures.added (c.loop-i.invariant.keys c.as_slice.result.now)
    c.if-not-branch.true))

pub loop-i-preserved : goal.loop-i-preserved
loop-i-preserved c =
    let d = c.index-changes-i.result in
    let cs = take c.loop-i.i c.args.changes.now in
    let read = c.as_slice.ensures.bytes ∙ sym (ap (λ (x : Change). x.key) c.index-changes-i.is) in
    record {
      left = repeated_later c.args.changes.now c.loop-i.i d c.loop-i-test.true
          c.index-changes-i.is c.loop-i.invariant.left
          (subst (λ (k : List ℕ). list_any (has_key k) cs ≡ false) read
          (new_is _ _ _ c.in_ok-insert.ensures.added (c.loop-i.invariant.keys c.as_slice.result.now)
          c.if-not-branch.false));
      keys = λ q. c.in_ok-insert.ensures.updates.0 (record { ref_ptr = (0, 0); now = q })
          ∙ seen_more c.args.changes.now c.loop-i.i d c.loop-i-test.true c.index-changes-i.is
          c.as_slice.result.now q _ read (c.loop-i.invariant.keys q);
    }
