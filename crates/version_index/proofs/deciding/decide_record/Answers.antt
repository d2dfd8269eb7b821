-- A record is loose, stale or current.
use Rattle.version_index.proofs.Common.{◌+◌, set, get_or, Some, ap, sym, subst, ◌∙◌, arith, All-contains, Contains-get_or, nothing, cur, PagesExist, AreDecided}
use Rattle.std.proofs.lemmas.Bool.{le-ltb}
use Rattle.record_list.specs.Records as records
use Rattle.version_index.proofs.OfOpening.ScanDecided.{place_below, stale_decided, current_decided}
use Rattle.version_index.proofs.deciding.decide_record.Goals as goal

pub decide_loose-requires-clause-loose : goal.decide_loose-requires-clause-loose
decide_loose-requires-clause-loose c =
    let list = c.args.standing.now.list in
    let protocol = c.args.standing.now.protocol in
    let logical = c.args.logical in
    let at = c.args.at in
    let same = c.records.ensures.records ∙ c.sorted_records.ensures in
    let current = c.current-current.ensures
    ∙ ap (λ g. cur protocol list g (records.record_at c.records.result.now at).page) c.requires.logical
    ∙ ap (λ l. cur protocol list logical (records.record_at l at).page) same in
    let version = ap (λ l. (records.record_at l at).version) same in
    let above = c.if-current-rec.true in
    omega (arith, current)

pub returns-then-current-rec : goal.returns-then-current-rec
returns-then-current-rec c = c.decide_loose.ensures

pub set_current-requires-clause-page : goal.set_current-requires-clause-page
set_current-requires-clause-page c =
    let list = c.args.standing.now.list in
    let at = c.args.at in
    let exist = All-contains (PagesExist c.args.logical) list (get_or list at nothing) c.requires.exist
    (Contains-get_or list at nothing c.requires.within) in
    let own = exist.0 in
    let same = ap (λ l. (records.record_at l at).page) (c.records.ensures.records ∙ c.sorted_records.ensures) in
    let pages = c.requires.pages in
    omega arith

pub set_current-requires-clause-number : goal.set_current-requires-clause-number
set_current-requires-clause-number c =
    place_below c.args.standing.now.list c.args.numbers.now c.args.tables.now c.requires.numbered c.requires.whole
    c.shape.ensures.kept c.args.at c.requires.within

pub returns-then-rec-current : goal.returns-then-rec-current
returns-then-rec-current c k h =
    let list = c.args.standing.now.list in
    let protocol = c.args.standing.now.protocol in
    let logical = c.args.logical in
    let at = c.args.at in
    let same = c.records.ensures.records ∙ c.sorted_records.ensures in
    let current = c.current-current.ensures
    ∙ ap (λ g. cur protocol list g (records.record_at c.records.result.now at).page) c.requires.logical
    ∙ ap (λ l. cur protocol list logical (records.record_at l at).page) same in
    let version = ap (λ l. (records.record_at l at).version) same in
    let less = c.if-rec-current.true in
    let fixed = le-ltb (cur protocol list logical (records.record_at list at).page)
    (records.record_at list at).version (omega (arith, current)) in
    stale_decided protocol list c.args.numbers.now logical k c.args.tables.now c.requires.numbered c.requires.whole
    c.shape.ensures.kept at h c.requires.within fixed (λ some is. omega (arith, current))

pub returns-then-current-eq0 : goal.returns-then-current-eq0
returns-then-current-eq0 c k h =
    let list = c.args.standing.now.list in
    let protocol = c.args.standing.now.protocol in
    let logical = c.args.logical in
    let at = c.args.at in
    let same = c.records.ensures.records ∙ c.sorted_records.ensures in
    let current = c.current-current.ensures
    ∙ ap (λ g. cur protocol list g (records.record_at c.records.result.now at).page) c.requires.logical
    ∙ ap (λ l. cur protocol list logical (records.record_at l at).page) same in
    let version = ap (λ l. (records.record_at l at).version) same in
    let not_above = c.if-current-rec.false in
    let fixed = le-ltb (cur protocol list logical (records.record_at list at).page)
    (records.record_at list at).version (omega (arith, current)) in
    let zero = c.if-current-eq0.true in
    stale_decided protocol list c.args.numbers.now logical k c.args.tables.now c.requires.numbered c.requires.whole
    c.shape.ensures.kept at h c.requires.within fixed (λ some is. omega (arith, current))

pub returns : goal.returns
returns c k h =
    let t = c.args.tables.now in
    let list = c.args.standing.now.list in
    let numbers = c.args.numbers.now in
    let protocol = c.args.standing.now.protocol in
    let logical = c.args.logical in
    let at = c.args.at in
    let same = c.records.ensures.records ∙ c.sorted_records.ensures in
    let current = c.current-current.ensures
    ∙ ap (λ g. cur protocol list g (records.record_at c.records.result.now at).page) c.requires.logical
    ∙ ap (λ l. cur protocol list logical (records.record_at l at).page) same in
    let version = ap (λ l. (records.record_at l at).version) same in
    let page = ap (λ l. (records.record_at l at).page) same in
    let most = c.if-current-rec.false in
    let least = c.if-rec-current.false in
    let some = c.if-current-eq0.false in
    let fixed = le-ltb (cur protocol list logical (records.record_at list at).page)
    (records.record_at list at).version (omega (arith, current)) in
    let exist = All-contains (PagesExist logical) list (get_or list at nothing) c.requires.exist
    (Contains-get_or list at nothing c.requires.within) in
    let own = exist.0 in
    let pages = c.requires.pages in
    let set_there = c.set_current.ensures ∙ ap (λ p. record t {
      current = set t.current p
          (Some (get_or numbers at 0));
    }) page in
    subst (λ u. AreDecided protocol list numbers logical k u (at + 1)) (sym set_there)
    (current_decided protocol list numbers logical k t c.requires.numbered c.requires.whole c.shape.ensures.kept at h
    c.requires.within fixed (omega arith) (omega (arith, current)) (omega (arith, current)))
