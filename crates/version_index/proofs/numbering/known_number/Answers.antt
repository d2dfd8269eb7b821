use Rattle.version_index.proofs.Common.{ap, sym, ◌∙◌, arith, none-some, same_Some, Rec, name_of, same_name}
use Rattle.version_index.proofs.OfCommit.Newest.{head_number}
use Rattle.version_index.proofs.numbering.known_number.Goals as goal

pub returns-in-None-record-clause-none : goal.returns-in-None-record-clause-none
returns-in-None-record-clause-none c =
    let head = head_number c.args.tables.now c.shape.ensures.kept.versions c.args.rec.now.page c.in-Some.number
    (sym c.in-Some.ensures.newest) in
    absurd (none-some head.rec (c.in-None-record.ensures ∙ head.is))

pub returns-then-newest-rec-clause-known : goal.returns-then-newest-rec-clause-known
returns-then-newest-rec-clause-known c =
    let head = head_number c.args.tables.now c.shape.ensures.kept.versions c.args.rec.now.page c.in-Some.number
    (sym c.in-Some.ensures.newest) in
    let newest = c.in-Some-record.newest in
    let one = same_Some head.rec newest (sym head.is ∙ sym c.in-Some-record.ensures) in
    record {
      known = newest;
      is = sym c.in-Some-record.ensures;
      its_name = same_name (name_of newest) (name_of c.args.rec.now) (ap (λ (r : Rec). r.page) (sym one)
          ∙ head.own_page) c.if-newest-rec.true;
    }

pub returns-else-newest-rec-clause-none : goal.returns-else-newest-rec-clause-none
returns-else-newest-rec-clause-none c y s is of_page =
    let head = head_number c.args.tables.now c.shape.ensures.kept.versions c.args.rec.now.page c.in-Some.number
    (sym c.in-Some.ensures.newest) in
    let newest = c.in-Some-record.newest in
    let one = same_Some head.rec newest (sym head.is ∙ sym c.in-Some-record.ensures) in
    let version = ap (λ (r : Rec). r.version) one in
    let most = head.most y s is of_page in
    let order = c.requires.order c.in-Some.number newest (sym c.in-Some-record.ensures)
    (ap (λ (r : Rec). r.page) (sym one) ∙ head.own_page) in
    let other = c.if-newest-rec.false in
    omega arith
