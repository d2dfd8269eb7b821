use Rattle.desk_tasks.proofs.Common.{◌≡◌, inl, inr, [], ◌∷◌, refl, ap, arith, Ok, Err, Some, ◌∙◌, rests_then, Bytes, Missing, TooLong, after_answer, as_before, Comparing, Reading, Ending, Image}
use Rattle.desk_io.specs.Disk.{FindsBoth}
use Rattle.program_base.specs.Loading.{RefusesImage}
use Rattle.program_base.specs.Refusals.{ImageEnding}
use Rattle.desk_tasks.specs.Request.{Compare}
use Rattle.desk_tasks.proofs.Works.{finds_before, found_more, found_none, unfetched, unread, works}
use Rattle.desk_tasks.proofs.comparing.do_compare.Goals as goal

pub returns-in_err-bytes-clause-works : goal.returns-in_err-bytes-clause-works
returns-in_err-bytes-clause-works g c =
    let old = g.D.Desk.state c.args.desk.now in
    let finds = FindsBoth old (g.D.Desk.disk c.args.desk.now) in
    let new = g.D.Desk.state c.load_file.new.desk in
    unfetched (Some (Compare c.args.first.now c.args.second.now)) finds finds old old new 0 c.args.first.now
    c.in_err-bytes.field-0.0 c.from_residual.result
    c.from_residual.ensures.1 refl (omega arith) (found_none old)
    (λ found. (Missing, found, (refl, refl))) (λ found. (TooLong, found, (refl, refl))) c.in_err-bytes.ensures.fetches

pub returns-in_err-config-clause-works : goal.returns-in_err-config-clause-works
returns-in_err-config-clause-works g c =
    let old = g.D.Desk.state c.args.desk.now in
    let finds = FindsBoth old (g.D.Desk.disk c.args.desk.now) in
    let fetched = c.in_ok-bytes.ensures.fetches in
    let bytes = c.in_ok-bytes.bytes.items in
    works (Some (Compare c.args.first.now c.args.second.now)) finds old (g.D.Desk.state c.load_file.new.desk) 1
    (λ (ending : Ending). (why : ImageEnding) × RefusesImage bytes why × (ending ≡ Image why))
    c.from_residual-in_err-config.result fetched.1 (inl refl)
    (found_more old c.args.first.now bytes [] fetched.0.0 (found_none old))
    (λ ending h. (Bytes bytes, fetched.0, (0, (Err h.1.0, h.1.1, (h.2 ∙ ap Image h.1.2, refl)), refl)))
    (unread (RefusesImage bytes)
    (λ (ending : Ending). (why : ImageEnding) × RefusesImage bytes why × (ending ≡ Image why))
    c.from_residual-in_err-config.result c.in_err-config.field-0.0 c.from_residual-in_err-config.ensures.1
    (λ why h. (why, h, refl))
    c.in_err-config.ensures.err)

pub returns-in-Err-clause-works : goal.returns-in-Err-clause-works
returns-in-Err-clause-works g c =
    let old = g.D.Desk.state c.args.desk.now in
    let before = g.D.Desk.disk c.args.desk.now in
    let finds = FindsBoth old before in
    let mid = g.D.Desk.state c.load_file.new.desk in
    let between = g.D.Desk.disk c.load_file.new.desk in
    let rested = c.in_ok-bytes.ensures.disk in
    let new = g.D.Desk.state c.load_file-2.new.desk in
    let fetched = c.in_ok-bytes.ensures.fetches in
    let bytes = c.in_ok-bytes.bytes.items in
    let its = c.in_ok-config.config in
    let flash = c.in_ok-config.flash in
    let reads = c.in_ok-config.ensures.read in
    let second = c.args.second.now in
    unfetched (Some (Compare c.args.first.now second)) finds (FindsBoth mid between) old mid new 1 second c.in-Err.stop
    (Err c.from.result)
    c.from.ensures fetched.1 (omega arith)
    (found_more old c.args.first.now bytes [] fetched.0.0 (found_none old))
    (λ found. (
      Bytes bytes,
      fetched.0,
      (
        1,
        (
          Ok (its, flash.image, flash.extras),
          reads,
          (
            Missing,
            finds_before old mid before between second Missing fetched.1 rested found,
            (refl, refl),
          ),
        ),
        refl,
      ),
    ))
    (λ found. (
      Bytes bytes,
      fetched.0,
      (
        1,
        (
          Ok (its, flash.image, flash.extras),
          reads,
          (
            TooLong,
            finds_before old mid before between second TooLong fetched.1 rested found,
            (refl, refl),
          ),
        ),
        refl,
      ),
    ))
    c.in-Err.ensures.fetches

pub returns-in-Ok-clause-works : goal.returns-in-Ok-clause-works
returns-in-Ok-clause-works g c =
    let old = g.D.Desk.state c.args.desk.now in
    let before = g.D.Desk.disk c.args.desk.now in
    let finds = FindsBoth old before in
    let mid = g.D.Desk.state c.load_file.new.desk in
    let between = g.D.Desk.disk c.load_file.new.desk in
    let rested = c.in_ok-bytes.ensures.disk in
    let new = g.D.Desk.state c.load_file-2.new.desk in
    let fetched = c.in_ok-bytes.ensures.fetches in
    let bytes = c.in_ok-bytes.bytes.items in
    let its = c.in_ok-config.config in
    let flash = c.in_ok-config.flash in
    let reads = c.in_ok-config.ensures.read in
    let second = c.args.second.now in
    let again = c.in-Ok.ensures.fetches in
    let others = c.in-Ok.others.items in
    let found = finds_before old mid before between second (Bytes others) fetched.1 rested again.0 in
    works (Some (Compare c.args.first.now second)) finds old new 2
    (Reading others (λ b other more. Comparing its flash.image b other)) c.compare_from_bytes.result (again.1
    ∙ ap (after_answer as_before) fetched.1) (inr refl)
    (found_more old c.args.first.now bytes (second ∷ []) fetched.0.0
    (found_more old second others [] found.0 (found_none old)))
    (λ ending h. (
      Bytes bytes,
      fetched.0,
      (1, (Ok (its, flash.image, flash.extras), reads, (Bytes others, found, (0, (h, refl), refl))), refl),
    ))
    c.compare_from_bytes.ensures

pub returns-in-Err-clause-disk : goal.returns-in-Err-clause-disk
returns-in-Err-clause-disk g c =
    rests_then (g.D.Desk.disk c.args.desk.now) (g.D.Desk.disk c.load_file.new.desk)
    (g.D.Desk.disk c.load_file-2.new.desk) c.in_ok-bytes.ensures.disk
    c.in-Err.ensures.disk

pub returns-in-Ok-clause-disk : goal.returns-in-Ok-clause-disk
returns-in-Ok-clause-disk g c =
    rests_then (g.D.Desk.disk c.args.desk.now) (g.D.Desk.disk c.load_file.new.desk)
    (g.D.Desk.disk c.load_file-2.new.desk) c.in_ok-bytes.ensures.disk
    c.in-Ok.ensures.disk
