use Rattle.host_protocol.proofs.Common.{rules, ◌≤◌, ◌*◌, refl, length, arith, length-take}
use Rattle.host_protocol.proofs.LeadingLemmas.{digits_end}
use Rattle.host_protocol.proofs.entry.read_digits.Goals as goal

pub returns-clause-digits : goal.returns-clause-digits
returns-clause-digits c = λ yes.
    let some : 1 ≤ c.args.count = search rules in
    let few : c.args.count ≤ c.args.page_bytes = search rules in
    let inside : 2 * c.args.count ≤ length c.args.behind.now = search rules in
    let size = length-take (2 * c.args.count) c.args.behind.now in
    record {
      some = omega (arith, some, inside, size);
      most = omega (arith, few, size);
      digits = c.decode_digits.ensures yes;
    }

pub returns-clause-end : goal.returns-clause-end
returns-clause-end c = λ yes.
    let inside : 2 * c.args.count ≤ length c.args.behind.now = search rules in
    digits_end (2 * c.args.count) c.args.behind.now c.decode_digits.new.room.items (c.decode_digits.ensures yes) inside
    (c.if-not-ends_at.ensures.blank refl)
