use Rattle.version_index.proofs.Common.{◌+◌, ◌<◌, length, set, get_or, IfSome, ap, sym, subst, ◌∙◌, All-contains, Contains-get_or, slots_of, nothing, PagesExist, TablesState, derived_by, number_by, AreDecided, answerer, awaited}
use Rattle.record_list.specs.Records as records
use Rattle.version_index.proofs.OfOpening.ScanDecided.{place_below, name_below, awaited_exists, loose_decided}
use Rattle.version_index.proofs.deciding.decide_loose.Goals as goal

pub set_answerer-requires-clause-number : goal.set_answerer-requires-clause-number
set_answerer-requires-clause-number c =
    place_below c.args.standing.now.list c.args.numbers.now c.args.tables.now c.requires.numbered c.requires.whole
    c.shape.ensures.kept c.args.at c.requires.within

pub set_answerer-requires-clause-answerer : goal.set_answerer-requires-clause-answerer
set_answerer-requires-clause-answerer c =
    let s = c.args.standing.now in
    name_below s.list c.args.numbers.now c.args.tables.now c.requires.numbered c.requires.whole c.shape.ensures.kept
    (answerer s.protocol s.list s.logical (records.record_at c.records.result.now c.args.at))
    c.decide-decided.result.answerer
    c.decide-decided.ensures.answerer

pub set_waits-requires-clause-number : goal.set_waits-requires-clause-number
set_waits-requires-clause-number c =
    let shape = ap (λ (t : TablesState). t.shape) c.set_answerer.ensures in
    subst (λ s. get_or c.args.numbers.now c.args.at 0 < slots_of s) (sym shape)
    (place_below c.args.standing.now.list c.args.numbers.now c.args.tables.now c.requires.numbered c.requires.whole
    c.shape.ensures.kept c.args.at c.requires.within)

pub set_waits-requires-clause-page : goal.set_waits-requires-clause-page
set_waits-requires-clause-page c =
    let list = c.args.standing.now.list in
    let at = c.args.at in
    let rec = records.record_at list at in
    let pages = ap (λ (t : TablesState). length t.pages) c.set_answerer.ensures ∙ c.requires.pages in
    let exist = All-contains (PagesExist c.args.logical) list (get_or list at nothing) c.requires.exist
    (Contains-get_or list at nothing c.requires.within) in
    let protocol = c.args.standing.now.protocol in
    let is = c.decide-decided.ensures.awaited
    ∙ ap (λ g. awaited (derived_by protocol list g) (records.record_at c.records.result.now at)) c.requires.logical
    ∙ ap (λ l. awaited (derived_by protocol list c.args.logical) (records.record_at l at))
    (c.records.ensures.records ∙ c.sorted_records.ensures) in
    subst (λ count. IfSome c.decide-decided.result.awaited (λ page. page < count)) (sym pages)
    (awaited_exists (derived_by c.args.standing.now.protocol list c.args.logical) rec c.args.logical
    c.decide-decided.result.awaited is exist.1)

pub returns : goal.returns
returns c k h =
    let t = c.args.tables.now in
    let list = c.args.standing.now.list in
    let numbers = c.args.numbers.now in
    let protocol = c.args.standing.now.protocol in
    let logical = c.args.logical in
    let at = c.args.at in
    let same = c.records.ensures.records ∙ c.sorted_records.ensures in
    let a = c.decide-decided.result.answerer in
    let w = c.decide-decided.result.awaited in
    let is_a = c.decide-decided.ensures.answerer ∙ ap (number_by list numbers)
    (ap (λ g. answerer protocol list g (records.record_at c.records.result.now at)) c.requires.logical
    ∙ ap (λ l. answerer protocol list logical (records.record_at l at)) same) in
    let is_w = c.decide-decided.ensures.awaited
    ∙ ap (λ g. awaited (derived_by protocol list g) (records.record_at c.records.result.now at)) c.requires.logical
    ∙ ap (λ l. awaited (derived_by protocol list logical) (records.record_at l at)) same in
    let both = c.set_waits.ensures ∙ ap (λ (u : TablesState). record u { waits = set u.waits (get_or numbers at 0) w })
    c.set_answerer.ensures in
    subst (λ u. AreDecided protocol list numbers logical k u (at + 1)) (sym both)
    (loose_decided protocol list numbers logical k t c.requires.numbered c.requires.whole c.shape.ensures.kept at h
    c.requires.within a w c.requires.loose is_a is_w)
