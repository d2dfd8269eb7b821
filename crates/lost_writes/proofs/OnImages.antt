-- Sessions on images are sessions of runs: each begins at the state that the loss before it left.
use Rattle.lost_writes.proofs.Common.{◌≡◌, ℕ, ◌≤◌, Bool, List, [], ◌∷◌, ◌++◌, refl, subst, arith, Contents, Protocol, Shape, true, inl, sym, All-contains, all_from, array_in}
use Rattle.std.proofs.Common.{append-nil}
use Rattle.array_machine.specs.Submit.{Limits}
use Rattle.host_protocol.specs.declared.command.Command.{Command}
use Rattle.host_protocol.specs.declared.reply.Reply.{Reply}
use Rattle.array_runs.specs.Run.{Run, RunState, NoneOpens}
use Rattle.lost_writes.specs.Sessions.{Session, BreakOff, RunsOverLosses, commands_of, replies_of, seen_over}
use Rattle.lost_writes.specs.OnImages.{begun_at, mentions_at, AreSessionsOn, ImagesAreOneRun, EndsIn, AcknowledgedIsLeft, OthersAreLeftWhole}
use Rattle.lost_writes.proofs.Commands.{loss_is_cut}
use Rattle.lost_writes.proofs.Sessions.{less_over, sessions_are_one_run, acknowledged_survives, others_are_whole_or_absent}

module _ (p : Protocol) (logical : ℕ) (shape : Shape) (limits : Limits) (left : List Contents) (up : Bool) where
  -- the sessions, and whether the device is mounted where the first one begins
  sessions_on : (ss : List Session) (from : List Contents) (seen : ℕ → ℕ) →
      ((page : ℕ) → mentions_at p from page ≤ seen page) → AreSessionsOn p logical shape limits from ss left →
      (began : Bool) × BreakOff limits seen (begun_at p logical began from) ss (begun_at p logical up left)
  sessions_on [] from seen least same = (
    up,
    subst (λ image. begun_at p logical up left ≡ begun_at p logical up image) same refl,
  )
  sessions_on (s ∷ ss) from seen least (mid, on, rest) =
      let over : (page : ℕ) → mentions_at p mid page ≤ seen_over seen s.commands s.replies page =
      λ page. (let a = on.mentions page in
      let b = less_over (mentions_at p from) seen s.commands s.replies least page in omega arith) in
      let later = sessions_on ss mid (seen_over seen s.commands s.replies) over rest in (
        on.up,
        (
          begun_at p logical later.0 mid,
          record {
            own = mentions_at p from;
            own_least = least;
            last = on.last;
            run = on.run;
            lost = loss_is_cut p logical shape s.broken on.last (begun_at p logical later.0 mid) mid on.after refl;
          },
          later.1,
        ),
      )

-- a run over lists with nothing more
run_alone : (limits : Limits) (seen : ℕ → ℕ) (old new : RunState) (cs : List Command) (rs : List Reply) →
    Run limits seen old (cs ++ []) (rs ++ []) new → Run limits seen old cs rs new
run_alone limits seen old new cs rs run =
    subst (λ ds. Run limits seen old ds rs new) (append-nil cs)
    (subst (λ qs. Run limits seen old (cs ++ []) qs new) (append-nil rs) run)

pub images_are_one_run : (p : Protocol) → ImagesAreOneRun p
images_are_one_run p logical shape limits from ss left up on =
    let seen = mentions_at p from in
    let broken = sessions_on p logical shape limits left up ss from seen (λ page. omega arith) on in
    let last = begun_at p logical up left in (
      broken.0,
      run_alone limits seen (begun_at p logical broken.0 from) last (commands_of ss) (replies_of ss)
          (sessions_are_one_run limits seen (begun_at p logical broken.0 from) ss [] [] last (record {
            begins = last;
            broken = broken.1;
            own = seen_over seen (commands_of ss) (replies_of ss);
            own_least = λ page. omega arith;
            run = refl;
          })),
    )

-- ---- what is left of each transaction

module _ (p : Protocol) (logical : ℕ) (shape : Shape) (limits : Limits) (seen : ℕ → ℕ) (from : RunState) (s : Session)
    (ss : List Session) (left : List Contents) (ends : EndsIn p logical shape limits seen from s ss left) where
  abbrev end : RunState
  end = begun_at p logical true left

  runs_over : RunsOverLosses limits seen from (s ∷ ss) [] [] end
  runs_over =
      let later = sessions_on p logical shape limits left true ss ends.next (seen_over seen s.commands s.replies)
      ends.mentions ends.sessions in
      record {
        begins = end;
        broken = (
          begun_at p logical later.0 ends.next,
          record {
            own = seen;
            own_least = λ page. omega arith;
            last = ends.last;
            run = ends.run;
            lost = loss_is_cut p logical shape s.broken ends.last (begun_at p logical later.0 ends.next) ends.next
                ends.after refl;
          },
          later.1,
        );
        own = seen_over seen (commands_of (s ∷ ss)) (replies_of (s ∷ ss));
        own_least = λ page. omega arith;
        run = refl;
      }

-- no write of the page was opened, with nothing behind
none_behind : (page : ℕ) (cs : List Command) (rs : List Reply) → NoneOpens page cs rs →
    NoneOpens page (cs ++ []) (rs ++ [])
none_behind page cs rs none =
    subst (λ ds. NoneOpens page ds (rs ++ [])) (sym (append-nil cs))
    (subst (λ qs. NoneOpens page cs qs) (sym (append-nil rs)) none)

pub acknowledged_is_left : (p : Protocol) → AcknowledgedIsLeft p
acknowledged_is_left p logical shape limits spent c old r mid e seen s ss left w ok serves told ends has none =
    acknowledged_survives limits spent c old r mid e seen (s ∷ ss) [] [] (begun_at p logical true left)
    (array_in p logical left) w ok serves told (runs_over p logical shape limits seen mid s ss left ends) (inl refl) has
    (none_behind w.page (commands_of (s ∷ ss)) (replies_of (s ∷ ss)) none)

pub others_are_left_whole : (p : Protocol) → OthersAreLeftWhole p
others_are_left_whole p logical shape limits old e seen s ss left ok has ends none =
    others_are_whole_or_absent limits seen old (s ∷ ss) [] [] (begun_at p logical true left) (array_in p logical left) e
    ok has (runs_over p logical shape limits seen old s ss left ends) (inl refl)
    (all_from (λ w. NoneOpens w.page (commands_of (s ∷ ss) ++ []) (replies_of (s ∷ ss) ++ [])) e.writes (λ w i.
    none_behind w.page (commands_of (s ∷ ss)) (replies_of (s ∷ ss))
    (All-contains (λ v. NoneOpens v.page (commands_of (s ∷ ss)) (replies_of (s ∷ ss))) e.writes w none i)))
