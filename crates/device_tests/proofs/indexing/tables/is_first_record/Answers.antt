use Rattle.std.proofs.Common.{◌<◌, subst, eqb-true}
use Rattle.record_list.proofs.OfFacts.Names.{same_name}
use Rattle.record_list.specs.Records.{name_of}
use Rattle.judged_records.proofs.OfLaws.FirstRecord.{first_next}
use Rattle.device_tests.proofs.indexing.tables.is_first_record.Goals as goal

pub returns : goal.returns
returns c none =
    let config = c.config-config.ensures.config in
    first_next c.args.index.now c.args.rec c.config-config.ensures.noted.rule
    (c.has_no_record.ensures c.if-not-has_no_record.false) (record {
      page = subst (λ its. c.args.rec.page < its.logical) config c.if-rec-config.false;
      low = c.if-rec-lt1.false;
      high = c.if-rec-gt-MAX_VERSION.false;
      own = same_name c.args.rec.next (name_of c.args.rec) c.if-rec.false c.if-rec-2.false;
      back = eqb-true c.args.rec.back 0 none;
      count = c.if-rec-ne1.false;
    })
