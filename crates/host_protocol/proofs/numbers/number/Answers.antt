use Rattle.host_protocol.proofs.Common.{◌<◌, ◌≤◌, length, sym, ◌∙◌, arith, prefix_len-le-length, is_digit, digits_in}
use Rattle.host_protocol.proofs.NumberLemmas.{number_none, number_other, number_whole}
use Rattle.host_protocol.proofs.numbers.number.Goals as goal

pub returns-in_err-number : goal.returns-in_err-number
returns-in_err-number c = c.from_residual.ensures
    ∙ sym (number_none c.args.word.now (sym c.in_err-number.ensures.number))

pub returns-then-digits-word : goal.returns-then-digits-word
returns-then-digits-word c =
    let same = c.if-digits-word.true in
    let all : length c.args.word.now ≤ digits_in c.args.word.now = omega (arith, same, c.in_ok-number.ensures.digits) in
    c.in_ok-number.ensures.number ∙ number_whole c.args.word.now all

pub returns-else-digits-word : goal.returns-else-digits-word
returns-else-digits-word c =
    let other = c.if-digits-word.false in
    let less : digits_in c.args.word.now < length c.args.word.now =
    omega (arith, other, c.in_ok-number.ensures.digits, prefix_len-le-length is_digit c.args.word.now) in
    sym (number_other c.args.word.now less)
