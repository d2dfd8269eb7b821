use Rattle.host_protocol.proofs.Common.{rules, ◌≡◌, false, sym, inl, inr, length, codes, ◌≢◌, eqb-true, bytes_eq}
use Rattle.host_protocol.proofs.EntryLemmas.{contents_dash, contents_as, contents_out, contents_within}
use Rattle.host_protocol.proofs.entry.contents.Goals as goal
use Rattle.host_protocol.proofs.entry.contents.Goals.{then-is_empty-via-then-is_empty, then-is_empty-via-else-is_empty+then-text-page_bytes}

pub returns-then-eq-clause-contents : goal.returns-then-eq-clause-contents
returns-then-eq-clause-contents c = contents_dash c.args.page_bytes c.args.text.now
    (rw c.as_slice.ensures at (sym c.if-eq.ensures))

pub returns-then-is_empty-clause-contents : goal.returns-then-is_empty-clause-contents
returns-then-is_empty-clause-contents c =
    let other : bytes_eq c.args.text.now (codes "-") ≡ false = rw c.as_slice.ensures at (sym c.if-eq.ensures) in
    elim c.then-is_empty.branch [
      | then-is_empty-via-then-is_empty w ↦ contents_out c.args.page_bytes c.args.text.now other
          (inl (eqb-true (length c.args.text.now) 0 (sym w.if-is_empty.ensures)))
      | then-is_empty-via-else-is_empty+then-text-page_bytes w ↦ contents_out c.args.page_bytes c.args.text.now other
          (inr w.if-text-page_bytes.true)
    ]

pub returns-clause-contents : goal.returns-clause-contents
returns-clause-contents c =
    let other : bytes_eq c.args.text.now (codes "-") ≡ false = rw c.as_slice.ensures at (sym c.if-eq.ensures) in
    let some : length c.args.text.now ≢ 0 = search rules in
    contents_as (λ v. v.now) c.args.page_bytes c.args.text.now c.decode.result other some c.if-text-page_bytes.false
    c.decode.ensures

pub returns-clause-within : goal.returns-clause-within
returns-clause-within c = contents_within (λ v. v.now) c.args.page_bytes c.args.text.now c.decode.result
    c.if-text-page_bytes.false c.decode.ensures
