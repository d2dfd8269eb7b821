-- A device knows of each page that its image mentions at the last version, but for those of open transactions.
use Rattle.cut_replay.proofs.Common.{◌≡◌, ℕ, ◌<◌, ◌≤◌, true, false, List, [], ◌∷◌, sym, subst, inl, inr, arith, Config, Protocol, FlashState, moment_of, mention, records_in, IndexState, is_spent, DeviceState, HoldsAlways}
use Rattle.std.proofs.Common.{map, eq-eqb, Contains}
use Rattle.std.specs.Prelude.{◌^◌, nat_le, Any}
use Rattle.std.specs.List.{AllZip}
use Rattle.std.proofs.lemmas.Bool.Decides.{nat_tests}
use Rattle.list_lemmas.proofs.Membership.{in_any, in_map, map_in, Contains-cases, Contains-first, Contains-nil, Contains-rest}
use Rattle.list_lemmas.proofs.Tests.{any_from, none_found}
use Rattle.tx_types.specs.Batch.{PageWrite, Writes}
use Rattle.tx_types.specs.declared.record.Link.{Link}
use Rattle.flash_model.specs.Flash.{Contents}
use Rattle.judged_records.specs.IndexState.{mention_of}
use Rattle.array_machine.specs.ArrayState.{Entry}
use Rattle.array_machine.specs.Submit.{is_of, is_owner}
use Rattle.tx_engine.specs.DeviceState.{IsOpenAs, Stands}
use Rattle.open_table.specs.OpenTransactionsState.{Naming}
use Rattle.host_protocol.specs.declared.command.Command.TheVariants as command
use Rattle.cut_replay.specs.FlashRun.{KnowsSpent}

-- a transaction writes each page that it names
owns_named : (image : List Contents) (n : IndexState) (e : Entry) (x : Naming) (name : Link) → IsOpenAs image n e x →
    Contains x.names name → is_owner name.page e ≡ true
owns_named image n e x name h c =
    let own : Contains (map (λ (w : PageWrite). w.page) e.writes) name.page =
    subst (λ (pages : List ℕ). Contains pages name.page) h.named.pages
    (map_in (λ (l : Link). l.page) x.names name c) in
    let at = in_map (λ (w : PageWrite). w.page) e.writes name.page own in
    any_from (is_of name.page) e.writes at.0 at.1 (eq-eqb at.0.page name.page at.2)

-- so a page that none of them writes is not named
named_none : (image : List Contents) (n : IndexState) (page : ℕ) (es : List Entry) (xs : List Naming) →
    AllZip (IsOpenAs image n) es xs → ((e : Entry) → Contains es e → is_owner page e ≡ false) → (x : Naming) →
    Contains xs x → (name : Link) → Contains x.names name → name.page ≡ page → ⊥
named_none image n page [] [] h free x c name in_names same = Contains-nil x c
named_none image n page [] (y ∷ ys) h free x c name in_names same = absurd h
named_none image n page (e ∷ es) [] h free x c name in_names same = Contains-nil x c
named_none image n page (e ∷ es) (y ∷ ys) h free x c name in_names same = elim (Contains-cases y ys x c) [
  | inl is ↦ (
      let own : is_owner name.page e ≡ true = owns_named image n e y name h.0
      (subst (λ (z : Naming). Contains z.names name) (sym is) in_names) in
      let here : is_owner page e ≡ true = subst (λ (p : ℕ). is_owner p e ≡ true) same own in
      let none : is_owner page e ≡ false = free e (Contains-first e es) in cc)
  | inr rest ↦ named_none image n page es ys h.1 (λ o is_in. free o (Contains-rest e es o is_in)) x rest name in_names
      same
]

below_last : (n m : ℕ) → nat_le (2 ^ 62) n ≡ false → m ≤ n → m < 2 ^ 62
below_last n m is le = grind (arith, nat_tests)

pub knows_spent : {F : Type 0} (state : F → FlashState) (protocol : Protocol) (s : DeviceState F) (tag : ℕ)
    (batch : Writes) → HoldsAlways state protocol s → Stands state s →
    KnowsSpent s.config (is_spent s.noted.mentions) (command.Write tag batch) s.machine (moment_of (state s.flash))
knows_spent state protocol s tag batch always stands page lt unspent free =
    let its = always.its in
    let image = (state s.flash).image in
    let most = always.mentions page (subst (λ (x : Config). page < x.logical) (sym its) lt) in
    subst (λ (x : Config). mention (records_in x.protocol image) page < 2 ^ 62) its (elim most [
      | inl noted ↦ below_last (mention_of s.noted page) (mention (records_in s.noted.config.protocol image) page)
          unspent noted
      | inr named ↦ (
          let x = in_any (λ (x : Naming). Any (λ (name : Link). (name.page ≡ page) × (name.version ≡ named.0)) x.names)
          s.namings named.1 in
          let name = in_any (λ (name : Link). (name.page ≡ page) × (name.version ≡ named.0)) x.0.names x.2 in
          absurd (named_none image s.noted page s.machine.entries s.namings stands.each
          (none_found (is_owner page) s.machine.entries free) x.0 x.1 name.0 name.1 name.2.0))
    ])
