-- From the records of a scan to the image: what a device is opened with, and the first law that an image breaks.
use Rattle.scan_recovery.proofs.Common.{◌≡◌, ℕ, ◌+◌, ◌*◌, ◌<◌, Bool, false, List, [], ◌∷◌, map, length, get_or, All, Option, None, Some, refl, sym, ap, ◌∙◌, subst, inl, inr, arith, Contains, false≢true, length-map, get_or-map, get_or_default, All-contains, all_from, Protocol, Shape, Rec, slots_of, Seen, Contents, FlashState, Found, IsScanned, Pages, Copies, Links, Present, Loose, Ending, CopiesAgree, IsSoundList, KeepsWritten, HasRemovable, written_in, records_in, SlotReads, IsLeastImageBreach, complete_slots, records_scanned, ReadsAll, IsScanOf, opening_table, IsChosenFrom, compared}
use Rattle.std.proofs.Common.{replicate, set, Any, IsSomeAnd, Result, Ok}
use Rattle.std.proofs.Common.{Err}
use Rattle.std.specs.Prelude.{OnOk, IfErr}
use Rattle.std.specs.List.{cons_option, range_with_len}
use Rattle.std.specs.Option.{option_map}
use Rattle.std.proofs.lemmas.Result.{on_ok_weaker, IfErr-weaker}
use Rattle.std.proofs.lemmas.List.Elements.{All-map, All-head, All-tail}
use Rattle.tx_types.specs.declared.config.Config.{Config}
use Rattle.tx_types.specs.Config.{shape_of}
use Rattle.flash_model.specs.Flash.{blank, damaged, complete}
use Rattle.flash_model.specs.Calls.{seen_of}
use Rattle.page_record.specs.Rules.{record_of}
use Rattle.record_list.specs.declared.found.Breach.{Breach}
use Rattle.record_list.specs.Records.{mention}
use Rattle.record_list.specs.SoundList.{Law, Counted, number, Keeps, PagesExist}
use Rattle.record_list.specs.SoundList.{IsLeastBreach}
use Rattle.record_list.specs.Counts.{HasCounts}
use Rattle.record_list.specs.Written.{Written, found_of, records_of, BytesAgree, IsFirstBrokenLaw}
use Rattle.record_list.proofs.OfChanges.WrittenLists.{in_records}
use Rattle.die_alloc.specs.BlocksState.{BlocksState}
use Rattle.judged_records.specs.declared.note.Note.{Note}
use Rattle.judged_records.specs.Images.{HasPages, IsSoundImage}
use Rattle.judged_records.specs.Notes.{notes_of}
use Rattle.judged_records.specs.IndexState.{IndexState, with_spare, used_blocks}
use Rattle.judged_records.proofs.OfNotes.BaseTables.{given}
use Rattle.judged_records.proofs.OfLaws.ImageScans.{read_at, written_in_is, written}
use Rattle.judged_records.proofs.OfLaws.NotedImages.{scanned_notes}
use Rattle.judged_records.proofs.OfNotes.Scans.{numbered_complete}
use Rattle.scan_recovery.specs.declared.error.RecoverError.{RecoverError}
use Rattle.scan_recovery.specs.declared.error.RecoverError.TheVariants as error
use Rattle.scan_recovery.specs.Opening.{IsOpenedFrom, IsBroken, IsOpened}
use Rattle.scan_recovery.specs.Recovered.{IfUnsound, is_read_failure, reads_again, ReadsFor}
use Rattle.scan_recovery.proofs.OfScan.ReadingSteps.{reads_some_all}
use Rattle.scan_recovery.proofs.OfLaws.LawTwo.{no_written, pages_hold}

abbrev slots_of_records : List Written → List ℕ
slots_of_records l = map (λ f. f.slot.0) (records_of l)

-- the slots of the records are the complete ones, where each slot keeps law 1
complete_given : (p : Protocol) (logical k : ℕ) (image : List Contents) → All (SlotReads p logical) image →
    slots_of_records (given (read_at p) k image) ≡ given numbered_complete k (map seen_of image)
complete_given p logical k [] reads = refl
complete_given p logical k (blank ∷ rest) reads = complete_given p logical (k + 1) rest
    (All-tail (SlotReads p logical) blank rest reads)
complete_given p logical k (damaged ∷ rest) reads = complete_given p logical (k + 1) rest
    (All-tail (SlotReads p logical) damaged rest reads)
complete_given p logical k (complete bytes spare ∷ rest) reads =
    of_record (record_of p spare) (All-head (SlotReads p logical) (complete bytes spare) rest reads)
    (given (read_at p) (k + 1) rest)
    ∙ ap (λ l. k ∷ l) (complete_given p logical (k + 1) rest
    (All-tail (SlotReads p logical) (complete bytes spare) rest reads))
  where
    of_record : (o : Option Rec) → IsSomeAnd o (HasPages logical) → (more : List Written) →
        slots_of_records (cons_option (option_map (λ rec. written k rec bytes) o) more) ≡ k ∷ slots_of_records more
    of_record None h more = absurd h
    of_record (Some rec) h more = refl

module _ (p : Protocol) (logical : ℕ) (image : List Contents) (slots : List Seen) (list : List Found)
    (scan : IsScanOf p logical image slots list) where
  pub scan_complete : map (λ f. f.slot.0) list ≡ complete_slots slots
  scan_complete =
      ap (map (λ (f : Found). f.slot.0)) (scan.records ∙ ap records_of (written_in_is p image))
      ∙ complete_given p logical 0 image scan.reads ∙ ap (given numbered_complete 0) (sym scan.seen)

  pub scan_scanned : IsScanned list
  scan_scanned = subst (λ l. IsScanned l) (sym scan.records) (records_scanned p image)

  pub scan_pages : All (PagesExist logical) list
  scan_pages =
      subst (All (PagesExist logical)) (sym scan.records)
      (All-map (PagesExist logical) found_of (written_in p image) (pages_hold p logical 0 image scan.reads))

  pub copies_agree : All (KeepsWritten p (written_in p image) logical Copies) (written_in p image) →
      All (CopiesAgree list) list
  copies_agree copies =
      subst (λ l. All (CopiesAgree l) l) (sym scan.records)
      (All-map (CopiesAgree (records_in p image)) found_of (written_in p image)
      (all_from (λ w. CopiesAgree (records_in p image) (found_of w)) (written_in p image)
      (λ w i. (All-contains (KeepsWritten p (written_in p image) logical Copies) (written_in p image) w copies i).0)))

-- the tables of the scan are those of the image
noted_of_parts : (n : IndexState) (config : Config) (notes : List Note) (mentions : List ℕ) (closed : List Bool)
    (spare : ℕ) → n.config ≡ config → n.notes ≡ notes → n.pins ≡ replicate config.logical 0 → n.mentions ≡ mentions →
    n.closed ≡ closed →
    with_spare n spare ≡ record {
      config = config;
      notes = notes;
      pins = replicate config.logical 0;
      spare = Some spare;
      mentions = mentions;
      closed = set closed spare false;
    }
noted_of_parts n config notes mentions closed spare e f g h i =
    ap (λ (k : Config). record {
      config = k;
      notes = n.notes;
      pins = n.pins;
      spare = Some spare;
      mentions = n.mentions;
      closed = set n.closed spare false;
    }) e
    ∙ ap (λ (l : List Note). record {
      config = config;
      notes = l;
      pins = n.pins;
      spare = Some spare;
      mentions = n.mentions;
      closed = set n.closed spare false;
    }) f
    ∙ ap (λ (l : List ℕ). record {
      config = config;
      notes = notes;
      pins = l;
      spare = Some spare;
      mentions = n.mentions;
      closed = set n.closed spare false;
    }) g
    ∙ ap (λ (l : List ℕ). record {
      config = config;
      notes = notes;
      pins = replicate config.logical 0;
      spare = Some spare;
      mentions = l;
      closed = set n.closed spare false;
    }) h
    ∙ ap (λ (l : List Bool). record {
      config = config;
      notes = notes;
      pins = replicate config.logical 0;
      spare = Some spare;
      mentions = mentions;
      closed = set l spare false;
    }) i

pub opened_image : (config : Config) (image : List Contents) (slots : List Seen) (list : List Found) →
    IsScanOf config.protocol config.logical image slots list →
    (noted : IndexState) (table : BlocksState) → IsOpenedFrom config slots list noted table →
    IsOpened config image noted table
opened_image config image slots list scan noted table h =
    let n = h.scanned in
    let notes = scanned_notes config.protocol config.logical image h.scan.notes scan.reads (n.reads ∙ scan.seen)
    (n.found ∙ scan.records) in
    record {
      spare = h.spare;
      chosen = subst (λ l. IsChosenFrom config.protocol config.logical (shape_of config) (map seen_of image) l h.spare)
          scan.records
          (subst (λ s. IsChosenFrom config.protocol config.logical (shape_of config) s list h.spare)
          scan.seen h.chosen);
      noted_is = h.noted_is ∙ noted_of_parts h.scan config (notes_of config.protocol image) _ _ h.spare
          n.config notes n.pins
          (n.mentions ∙ ap (λ l. map (mention l) (range_with_len 0 config.logical)) scan.records)
          (n.closed ∙ ap (used_blocks (shape_of config)) scan.seen);
      table_is = h.table_is ∙ ap (λ s. opening_table (shape_of config) s h.spare) scan.seen;
    }

module _ (p : Protocol) (logical : ℕ) (shape : Shape) (image : List Contents) (reads : All (SlotReads p logical) image)
    (copies : All (KeepsWritten p (written_in p image) logical Copies) (written_in p image)) where
  abbrev ws : List Written
  ws = written_in p image

  abbrev records : List Found
  records = records_in p image

  -- a record keeps a law with its bytes where it keeps it without
  with_bytes : (l : Law) (w : Written) → BytesAgree ws w → Keeps p records logical l (found_of w) →
      KeepsWritten p ws logical l w
  with_bytes Pages w b k = k
  with_bytes Copies w b k = (k, b)
  with_bytes Links w b k = k
  with_bytes Present w b k = k
  with_bytes Counted w b k = k
  with_bytes Loose w b k = k
  with_bytes Ending w b k = k

  without_bytes : (l : Law) (w : Written) → KeepsWritten p ws logical l w → Keeps p records logical l (found_of w)
  without_bytes Pages w k = k
  without_bytes Copies w k = k.0
  without_bytes Links w k = k
  without_bytes Present w k = k
  without_bytes Counted w k = k
  without_bytes Loose w k = k
  without_bytes Ending w k = k

  agree : (w : Written) → Contains ws w → BytesAgree ws w
  agree w i = (All-contains (KeepsWritten p ws logical Copies) ws w copies i).1

  all_with_bytes : (l : Law) → All (Keeps p records logical l) records → All (KeepsWritten p ws logical l) ws
  all_with_bytes l h = all_from (KeepsWritten p ws logical l) ws (λ w i. with_bytes l w (agree w i)
      (All-contains (Keeps p records logical l) records (found_of w) h (in_records ws w i)))

  pub sound_image : IsSoundList p records logical × HasRemovable p records logical shape × HasCounts records →
      IsSoundImage p logical shape image
  sound_image h = record {
    reads = reads;
    written = record {
      records = h.0;
      bytes = all_from (BytesAgree ws) ws agree;
      removable = h.1;
      counts = h.2;
    };
  }

  broken_written : (b : Breach) → IsLeastBreach p records logical b → IsFirstBrokenLaw p ws logical b
  broken_written b h =
      let i = h.breaks.0 in
      let inside : i < length records = h.breaks.2 in
      let within : i < length ws = (let long = length-map ws found_of in omega arith) in
      let w = get_or ws i no_written in
      let same : h.breaks.1 ≡ found_of w = sym h.breaks.3 ∙ get_or-map found_of ws i no_written h.breaks.1 within in
      record {
        law = h.law;
        law_number = h.law_number;
        breaks = (
          i,
          w,
          within,
          get_or_default ws i w no_written within,
          (
            ap (λ (f : Found). f.slot.0) (sym same) ∙ h.breaks.4.0,
            λ protocol. h.breaks.4.1 (subst (Keeps p records logical h.law) (sym same)
                (without_bytes h.law w protocol)),
          ),
        );
        earlier_laws = λ l less. all_with_bytes l (h.earlier_laws l less);
        earlier_slots = all_from (λ v. v.slot.0 < b.slot.0 → KeepsWritten p ws logical h.law v) ws (λ v j less.
            with_bytes h.law v (agree v j) (All-contains (λ f. f.slot.0 < b.slot.0 →
            Keeps p records logical h.law f) records (found_of v) h.earlier_slots (in_records ws v j) less));
      }

  pub broken_image : (b : Breach) → IsBroken p records logical shape b → IsLeastImageBreach p logical shape image b
  broken_image b (inl h) = inr (record { reads = reads; broken = inl (broken_written b h) })
  broken_image b (inr (inl h)) = inr (record {
    reads = reads;
    broken = inr (inl (record { law = h.1; slot = h.2; earlier_laws = λ l. all_with_bytes l (h.0 l); breaks = h.3 }));
  })
  broken_image b (inr (inr h)) = inr (record {
    reads = reads;
    broken = inr (inr (record { earlier_laws = λ l. all_with_bytes l (h.0 l); removable = h.1; miscount = h.2 }));
  })

  -- what each record keeps, none breaks
  none_breaks : (P : Found → Type 0) (slot : ℕ) → All P records → Any (λ f. (f.slot.0 ≡ slot) × (P f → ⊥)) records → ⊥
  none_breaks P slot all (i, f, inside, is, both) = both.1 (subst P is (all i f inside))

  all_without_bytes : (l : Law) → All (KeepsWritten p ws logical l) ws → All (Keeps p records logical l) records
  all_without_bytes l h = All-map (Keeps p records logical l) found_of ws
      (all_from (λ w. Keeps p records logical l (found_of w)) ws
      (λ w i. without_bytes l w (All-contains (KeepsWritten p ws logical l) ws w h i)))

  -- the law that is broken is neither law 1 nor law 2
  broken_law : (b : Breach) (l : Law) → number l ≡ b.law →
      Any (λ f. (f.slot.0 ≡ b.slot.0) × (Keeps p records logical l f → ⊥)) records →
      reads_again records b ≡ 2 * compared records
  broken_law b Pages is breaks = absurd (none_breaks (Keeps p records logical Pages) b.slot.0
      (all_without_bytes Pages (pages_hold p logical 0 image reads)) breaks)
  broken_law b Copies is breaks = absurd (none_breaks (Keeps p records logical Copies) b.slot.0
      (all_without_bytes Copies copies) breaks)
  broken_law b Links is breaks = rw (← is) refl
  broken_law b Present is breaks = rw (← is) refl
  broken_law b Counted is breaks = rw (← is) refl
  broken_law b Loose is breaks = rw (← is) refl
  broken_law b Ending is breaks = rw (← is) refl

  pub broken_reads : (b : Breach) → IsBroken p records logical shape b → reads_again records b ≡ 2 * compared records
  broken_reads b (inl h) = broken_law b h.law h.law_number h.breaks
  broken_reads b (inr (inl h)) = rw h.1 refl
  broken_reads b (inr (inr h)) = rw h.2.law refl

module _ {T : Type 0} (p protocol : Protocol) (rule : p ≡ protocol) (logical : ℕ) (a d : FlashState) (shape : Shape)
    (its : shape ≡ a.shape) (slots : List Seen)
    (list : List Found)
    (scan : IsScanOf p logical a.image slots list)
    (copies : All (KeepsWritten p (written_in p a.image) logical Copies) (written_in p a.image))
    (r : Result T RecoverError) where
  -- a fact on the records of the scan is one on those of the image
  as_image : (P : Protocol → List Found → Shape → Type 0) → P protocol list shape → P p (records_in p a.image) a.shape
  as_image P h = subst (λ q. P q (records_in p a.image) a.shape) (sym rule)
      (subst (P protocol (records_in p a.image)) its
      (subst (λ l. P protocol l shape) scan.records h))

  pub recovered_sound : OnOk r (IsSoundList protocol list logical × HasRemovable protocol list logical shape
      × HasCounts list) →
      OnOk r (IsSoundImage protocol logical a.shape a.image)
  recovered_sound h =
      on_ok_weaker r (λ both. subst (λ q. IsSoundImage q logical a.shape a.image) rule
      (sound_image p logical a.shape a.image scan.reads copies
      (as_image (λ q l s. IsSoundList q l logical × HasRemovable q l logical s × HasCounts l) both))) h

  pub recovered_unsound : IfErr r (λ e. IfUnsound e (IsBroken protocol list logical shape)) →
      IfErr r (λ e. IfUnsound e (IsLeastImageBreach protocol logical a.shape a.image))
  recovered_unsound h = IfErr-weaker r (λ e. IfUnsound e (IsBroken protocol list logical shape))
      (λ e. IfUnsound e (IsLeastImageBreach protocol logical a.shape a.image)) of_error h
    where
      of_error : (e : RecoverError) → IfUnsound e (IsBroken protocol list logical shape) →
          IfUnsound e (IsLeastImageBreach protocol logical a.shape a.image)
      of_error error.Fault k = k
      of_error (error.Unsound law slot) k =
          subst (λ q. IsLeastImageBreach q logical a.shape a.image (record { law = law; slot = slot })) rule
          (broken_image p logical a.shape a.image scan.reads copies (record { law = law; slot = slot })
          (as_image (λ q l s. IsBroken q l logical s (record { law = law; slot = slot })) k))
      of_error error.Memory k = k

  pub recovered_reads : ReadsAll a d (slots_of a.shape + 2 * compared (records_in p a.image)) →
      IfErr r (λ e. IfUnsound e (IsBroken protocol list logical shape)) → is_read_failure r ≡ false → ReadsFor p a d r
  recovered_reads read h fault = of_result r h fault
    where
      of_result : (x : Result T RecoverError) → IfErr x (λ e. IfUnsound e (IsBroken protocol list logical shape)) →
          is_read_failure x ≡ false → ReadsFor p a d x
      of_result (Ok x) k f = read
      of_result (Err error.Fault) k f = absurd (false≢true (sym f))
      of_result (Err (error.Unsound law slot)) k f =
          subst (λ n. ReadsAll a d (slots_of a.shape + n))
          (sym (broken_reads p logical a.shape a.image scan.reads copies (record { law = law; slot = slot })
          (as_image (λ q l s. IsBroken q l logical s (record { law = law; slot = slot })) k))) read
      of_result (Err error.Memory) k f = reads_some_all a d (slots_of a.shape + 2 * compared (records_in p a.image))
          read
