-- What is preserved from one moment to the next and from there to a third is preserved over both.
use Rattle.collector.proofs.Common.{◌≡◌, ℕ, ◌<◌, Bool, true, false, ◌||◌, List, [], ◌∷◌, Contains, Option, Some, cond, refl, sym, ap, ◌∙◌, subst, option_map, Config, Protocol, Link, Contents, has_name, is_present, InProgress, Written, text_at, written_in, found_in, IndexState, current_name_of, pinned_names, IsThere, Preserves, KeepsArray}
use Rattle.std.proofs.Common.{is_some}
use Rattle.std.specs.List.{find}
use Rattle.record_list.specs.Written.{records_of, text_of}

pub preserves_then : (a b c : IndexState) → Preserves a b → Preserves b c → Preserves a c
preserves_then a b c ab bc =
    let low_too : (page : ℕ) → page < a.config.logical → page < b.config.logical =
    λ page low. subst (λ (k : Config). page < k.logical) (sym ab.config) low in
    record {
      config = bc.config ∙ ab.config;
      pins = bc.pins ∙ ab.pins;
      mentions = bc.mentions ∙ ab.mentions;
      current = λ page low. bc.current page (low_too page low) ∙ ab.current page low;
      fewer = λ name there. ab.fewer name (bc.fewer name there);
      pinned = λ name pin there.
          bc.pinned name (subst (λ p. Contains (pinned_names p) name) (sym ab.pins) pin) (ab.pinned name pin there);
      present = λ page low there.
          let same : current_name_of b page ≡ current_name_of a page =
          ap (λ v. record { page = page; version = v }) (ab.current page low) in
          subst (IsThere c) same (bc.present page (low_too page low)
          (subst (IsThere b) (sym same) (ab.present page low there)));
      held = λ name h. ab.held name (bc.held name h);
      in_progress = λ names h.
          subst (λ (k : Config). InProgress k.protocol (found_in c.notes) k.logical names) ab.config
          (bc.in_progress names (subst (λ (k : Config). InProgress k.protocol (found_in b.notes) k.logical names)
          (sym ab.config) (ab.in_progress names h)));
    }

-- a name has a text exactly where it is present
pub has_text : (list : List Written) (name : Link) → is_some (text_at list name) ≡ is_present (records_of list) name
has_text [] name = refl
has_text (w ∷ ws) name =
    first (has_name name w.rec) (find (λ v. has_name name v.rec) ws) (is_present (records_of ws) name)
    (has_text ws name)
  where
    first : (b : Bool) (o : Option Written) (r : Bool) → is_some (option_map text_of o) ≡ r →
        is_some (option_map text_of (cond b (Some w) o)) ≡ (b || r)
    first true o r h = refl
    first false o r h = h

pub keeps_array_then : (p : Protocol) (logical : ℕ) (a b c : List Contents) → KeepsArray p logical a b →
    KeepsArray p logical b c → KeepsArray p logical a c
keeps_array_then p logical a b c ab bc = record {
  array = bc.array ∙ ab.array;
  versions = λ page low. bc.versions page low ∙ ab.versions page low;
  held = λ r h. ab.held r (bc.held r h);
  texts = λ name there.
      let later = bc.texts name there in
      later ∙ ab.texts name (sym (has_text (written_in p b) name) ∙ ap is_some (sym later)
      ∙ has_text (written_in p c) name ∙ there);
}

pub keeps_array_itself : (p : Protocol) (logical : ℕ) (a : List Contents) → KeepsArray p logical a a
keeps_array_itself p logical a = record {
  array = refl;
  versions = λ page low. refl;
  held = λ r h. h;
  texts = λ name there. refl;
}

pub keeps_array_same : (p : Protocol) (logical : ℕ) (a b : List Contents) → b ≡ a → KeepsArray p logical a b
keeps_array_same p logical a b same =
    subst (KeepsArray p logical a) (sym same) (keeps_array_itself p logical a)

pub preserves_same : (n : IndexState) → Preserves n n
preserves_same n = record {
  config = refl;
  pins = refl;
  mentions = refl;
  current = λ page low. refl;
  fewer = λ name there. there;
  pinned = λ name pin there. there;
  present = λ page low there. there;
  held = λ name h. h;
  in_progress = λ names h. h;
}
