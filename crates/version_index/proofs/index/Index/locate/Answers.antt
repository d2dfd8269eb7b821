use Rattle.version_index.proofs.Common.{◌≡◌, false, true, None, refl, ap, subst, sym, inr, ◌∙◌, ◌<◌, cond-true, cond-false, IsNoted, current_name_of, discarded_of, home_of}
use Rattle.judged_records.proofs.OfNotes.NotedFacts.{located_none, located_holds}
use Rattle.version_index.proofs.OfReadings.KeptReadings.{read_home}
use Rattle.version_index.proofs.index.Index.locate.Goals as goal

pub returns-then-discards : goal.returns-then-discards
returns-then-discards g c =
    let discards : discarded_of c.args.self.now c.args.page ≡ true = sym c.if-discards.ensures in record {
      home = sym (cond-true (discarded_of c.args.self.now c.args.page) None
          (home_of c.args.self.now (current_name_of c.args.self.now c.args.page)) discards);
      none = (λ none. inr discards, λ blank. refl);
      holds = tt;
    }

pub returns : goal.returns
returns g c =
    let n = c.args.self.now in
    let page = c.args.page in
    let held : discarded_of n page ≡ false = sym c.if-discards.ensures in
    let home = c.locate.ensures ∙ read_home _ _ _ _ c.self.invariant.indexed page
    (subst (λ n. page < n.config.logical) (sym c.self.view_is) c.requires)
    ∙ ap (λ n. home_of n (current_name_of n page)) c.self.view_is in
    let noted = subst (IsNoted _) c.self.view_is c.self.invariant.indexed.noted in record {
      home = home ∙ sym (cond-false (discarded_of n page) None (home_of n (current_name_of n page)) held);
      none = located_none _ n noted page c.locate.result held home;
      holds = located_holds _ n noted (current_name_of n page) c.locate.result home;
    }
