use Rattle.host_protocol.proofs.Common.{words_of}
use Rattle.host_protocol.proofs.line.write.Goals as goal

-- no first word is a number
pub returns-in_err-tag-clause-bad : goal.returns-in_err-tag-clause-bad
returns-in_err-tag-clause-bad c = λ is tag batch are.
    let gone = rw c.in_err-tag.was at c.ok_or.ensures.ok_part in
    let none = rw gone at c.first_number.ensures.none in
    let no = none are.first are.others are.all in
    absurd (let yes = are.tagged in cc)

pub returns-clause-ok : goal.returns-clause-ok
returns-clause-ok c =
    let begins = rw c.in_ok-tag.ensures.ok_part at c.first_number.ensures.some in
    let has = c.in_ok-batch.ensures.ok in (
      record {
        first = begins.word;
        others = words_of c.in_ok-tag.behind.now;
        all = begins.words;
        tagged = begins.number_is;
        size = has.0;
        each = has.1;
      },
      has.2,
    )
