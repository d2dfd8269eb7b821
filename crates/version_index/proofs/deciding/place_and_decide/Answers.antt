-- Where records share a number, all are held before anything is decided.
use Rattle.version_index.proofs.Common.{◌<◌, All, length, ap, sym, subst, ◌∙◌, slots_of, TablesState, number_at, AreNumbered, AreDecided}
use Rattle.version_index.specs.Filling.{ArePut}
use Rattle.version_index.proofs.OfOpening.ScanDecided.{numbered_in}
use Rattle.version_index.proofs.deciding.place_and_decide.Goals as goal

pub place_records-requires-clause-whole : goal.place_records-requires-clause-whole
place_records-requires-clause-whole c =
    c.requires.whole ∙ sym (ap length (c.records.ensures.records ∙ c.sorted_records.ensures))

pub place_records-requires-clause-within : goal.place_records-requires-clause-within
place_records-requires-clause-within c =
    subst (All (λ f. f.slot.0 < slots_of c.args.tables.now.shape))
    (sym (c.records.ensures.records ∙ c.sorted_records.ensures)) c.requires.within

pub place_records-requires-clause-numbered : goal.place_records-requires-clause-numbered
place_records-requires-clause-numbered c =
    subst (λ l. AreNumbered l c.args.numbers.now c.args.tables.now)
    (sym (c.records.ensures.records ∙ c.sorted_records.ensures)) c.requires.numbered

pub decide_records-requires-clause-numbered : goal.decide_records-requires-clause-numbered
decide_records-requires-clause-numbered c =
    numbered_in c.args.standing.now.list c.args.numbers.now c.args.tables.now c.place_records.new.tables
    c.requires.numbered (ap (λ (t : TablesState). t.records) c.place_records.ensures.rest)

pub decide_records-requires-clause-pages : goal.decide_records-requires-clause-pages
decide_records-requires-clause-pages c =
    ap (λ (t : TablesState). length t.pages) c.place_records.ensures.rest ∙ c.requires.pages

pub decide_records-requires-clause-undecided : goal.decide_records-requires-clause-undecided
decide_records-requires-clause-undecided c =
    let rest = c.place_records.ensures.rest in
    let none = c.requires.undecided in
    record {
      current = λ page. ap (λ (t : TablesState). number_at t.current page) rest ∙ none.current page;
      answerers = λ x. ap (λ (t : TablesState). number_at t.answerers x) rest ∙ none.answerers x;
      waits = λ x. ap (λ (t : TablesState). number_at t.waits x) rest ∙ none.waits x;
    }

pub returns-then-share_numbers-clause-put : goal.returns-then-share_numbers-clause-put
returns-then-share_numbers-clause-put c =
    let list = c.args.standing.now.list in
    let numbers = c.args.numbers.now in
    let before = c.args.tables.now.slots in
    let held = c.place_records.new.tables in
    let stays = ap (λ (t : TablesState). t.slots) c.decide_records.ensures.rest in
    subst (ArePut list numbers before (length list)) (sym stays)
    (subst (λ l. ArePut l numbers before (length l) held.slots) (c.records.ensures.records ∙ c.sorted_records.ensures)
    c.place_records.ensures.put)

pub returns-then-share_numbers-clause-decided : goal.returns-then-share_numbers-clause-decided
returns-then-share_numbers-clause-decided c =
    let s = c.args.standing.now in
    let numbers = c.args.numbers.now in
    let k = c.args.tables.now in
    let t = c.decide_records.new.tables in
    let held = c.place_records.new.tables in
    let stays = ap (λ (t : TablesState). t.slots) c.decide_records.ensures.rest in
    subst (λ v. AreDecided s.protocol s.list numbers c.args.logical v t (length s.list))
    (c.place_records.ensures.rest ∙ ap (λ u. record k { slots = u }) (sym stays))
    c.decide_records.ensures
