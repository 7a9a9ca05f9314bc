-- Read is exact (demand 2): it accepts exactly the files that follow the rules, and returns their identity and their
-- events' records. Forth by proofs/Forth.antt, back by proofs/Back.antt. Assumes nothing.
use mathlib.Core.Path.{◌≡◌, refl, sym, ap, ap₂, subst, ◌∙◌}
use mathlib.Core.Logic.{◌↔◌, ⊎_elim}
use Prim.Native.Nat.{ℕ, ◌*◌, ◌≤◌}
use native.Mathlib.Omega.{arith}
use mathlib.Core.List.{List, [], ◌∷◌, map, flatten, reverse, append-nil}
use lib.Dec.{T}
use lib.ListN.{length}
use Rattle.eit.specs.declared.Sizes.{Sizes}
use Rattle.eit.specs.Limits.{base_day_max}
use Rattle.eit.specs.Fields.{Bytes}
use Rattle.eit.specs.Overwrite.{overwrite}
use Rattle.eit.specs.Records.{record_size, records_of, numbers_of_all}
use Rattle.eit.specs.declared.Identity.{Identity}
use Rattle.eit.specs.declared.Record.{Record}
use Rattle.eit.proofs.Test.{le_or_lt}
use Rattle.eit.proofs.Fields.{bytes_append}
use Rattle.eit.proofs.Records.{records_written}
use Rattle.sections.specs.Every.{Every}
use Rattle.sections.specs.Section.{Header, Section, headers_of, section_events}
use Rattle.sections.specs.Encode.{section_bytes, file_bytes}
use Rattle.sections.specs.Decode.{stated_section_size, section_in, split_file, sections_in}
use Rattle.sections.specs.Rules.{HeaderRules, SectionRules, Rules}
use Rattle.sections.specs.HeaderTests.{latest}
use Rattle.sections.specs.EventTests.{are_new}
use Rattle.sections.specs.Walk.{at_start, behind_all}
use Rattle.sections.specs.Read.{is_complete, identity_of, Answer, success, check_file, Reading, file_records, read}
use Rattle.sections.specs.Read.{list_of}
use Rattle.sections.specs.Offsets.{records_from}
use Rattle.sections.specs.Exact.{ZeroWhereAbsent, FollowsRules, reading_of}
use Rattle.sections.proofs.Every.{every_map, every_reverse, reverse_every, every_headers, headers_every}
use Rattle.sections.proofs.Split.{Stated, split_back}
use Rattle.sections.proofs.Order.{order_new}
use Rattle.sections.proofs.Identity.{identity_shown}
use Rattle.sections.proofs.SectionBack.{Legal, section_bytes_holds, section_back, section_stated}
use Rattle.sections.proofs.Read.{success_of, check_succeeds, check_succeeded, read_short, read_succeeds}
use Rattle.sections.proofs.Read.{read_agrees}
use Rattle.sections.proofs.Forth.{shown_few, shown_headers, all_forth}
use Rattle.sections.proofs.Back.{Accepts, all_back}
use Rattle.sections.proofs.Offsets.{records_count}
use Rattle.sections.proofs.Joined.{file_joined, sections_are, bytes_are, records_are, seen_count}

-- ---- forth

module _ (sizes : Sizes) (base : ℕ) (file : List ℕ) where
  -- the identity that check returns, and how many events
  pub accepted_answer : (check_file sizes base file).number ≡ 0
      → check_file sizes base file ≡ success (check_file sizes base file).identity (length (file_records base file))
  accepted_answer zero =
      let (legal, all, complete) = check_succeeded sizes base file zero in
      let is : check_file sizes base file ≡ success_of sizes base file =
      check_succeeds sizes base file legal all complete in
      is ∙ ap₂ success (sym (ap (λ (a : Answer). a.identity) is)) (seen_count base file)

  -- they are within the limit
  pub accepted_few : (check_file sizes base file).number ≡ 0 → length (file_records base file) ≤ sizes.event_limit
  accepted_few zero =
      let (legal, all, complete) = check_succeeded sizes base file zero in
      let count : length (file_records base file) ≡ length (section_events (map (section_in base) (split_file file))) =
      ap length (records_are base file ∙ ap (records_from 0) (sections_are base file))
      ∙ records_count 0 (map (section_in base) (split_file file)) in
      omega (arith, shown_few sizes base at_start (split_file file) (omega arith) all)

  -- the sections that the bytes show keep the rules, absent tables have version 0, and the joined bytes are the file
  pub accepted_parts : Bytes file → (check_file sizes base file).number ≡ 0
      → Rules sizes (check_file sizes base file).identity (sections_in base file)
      × ZeroWhereAbsent (check_file sizes base file).identity (sections_in base file)
      × (file_bytes base (sections_in base file) ≡ file)
  accepted_parts bytes zero =
      let xs : List (List ℕ) = split_file file in
      let ss : List Section = map (section_in base) xs in
      let (legal, all, complete) = check_succeeded sizes base file zero in
      let is : check_file sizes base file ≡ success_of sizes base file =
      check_succeeds sizes base file legal all complete in
      let same : (check_file sizes base file).identity ≡ identity_of (behind_all base at_start xs).before =
      ap (λ (a : Answer). a.identity) is in
      let (joined, rules, absent) = all_forth sizes base xs (rw (file_joined file) bytes) all complete in
      rw (same, sections_are base file) (rules, absent, bytes_are base ss ∙ ap flatten joined ∙ file_joined file)

  pub accepted_rules : Bytes file → (check_file sizes base file).number ≡ 0
      → Rules sizes (check_file sizes base file).identity (sections_in base file)
      × (file_bytes base (sections_in base file) ≡ file)
  accepted_rules bytes zero = let (rules, absent, joined) = accepted_parts bytes zero in (rules, joined)

  pub accepted_follows : Bytes file → (check_file sizes base file).number ≡ 0
      → FollowsRules sizes base file (check_file sizes base file).identity (file_records base file)
  accepted_follows bytes zero =
      let (rules, absent, joined) = accepted_parts bytes zero in
      record {
        sections = sections_in base file;
        rules = rules;
        absent = absent;
        bytes = joined;
        records = sym (records_are base file);
      }

-- ---- back

sections_bytes : (base : ℕ) (identity : Identity) (sizes : Sizes) (last_table_id : ℕ) (ss : List Section)
    → Every (SectionRules sizes identity last_table_id) ss → Bytes (flatten (map (section_bytes base) ss))
unfolding flatten
sections_bytes base identity sizes last_table_id [] rules = tt
sections_bytes base identity sizes last_table_id (s ∷ ss) rules =
    bytes_append (section_bytes base s) (flatten (map (section_bytes base) ss))
    (section_bytes_holds base s rules.0.event_rules)
    (sections_bytes base identity sizes last_table_id ss rules.1)

module _ (sizes : Sizes) (base : ℕ) (identity : Identity) (last_table_id : ℕ)
    (legal : Legal sizes base identity last_table_id) where
  sections_stated : (ss : List Section) → Every (SectionRules sizes identity last_table_id) ss
      → Every (Stated stated_section_size) (map (section_bytes base) ss)
  sections_stated [] rules = tt
  sections_stated (s ∷ ss) rules =
      (section_stated sizes base identity last_table_id legal s rules.0, sections_stated ss rules.1)

  sections_shown : (ss : List Section) → Every (SectionRules sizes identity last_table_id) ss
      → map (section_in base) (map (section_bytes base) ss) ≡ ss
  sections_shown [] rules = refl
  sections_shown (s ∷ ss) rules =
      ap₂ (λ (t : Section) (ts : List Section). t ∷ ts)
      (section_back sizes base identity last_table_id legal s rules.0) (sections_shown ss rules.1)

module _ (sizes : Sizes) (base : ℕ) (length_fits : sizes.section_limit ≤ 4_096) (legal : base ≤ base_day_max)
    (identity : Identity) (ss : List Section) (rules : Rules sizes identity ss)
  where
    pub legal_file : Legal sizes base identity rules.last_table_id
    legal_file =
        record {
          length_fits = length_fits;
          day = legal;
          identity_rules = rules.identity_rules;
          last_table = rules.last_table;
        }

    -- the joined bytes of sections that keep the rules are bytes
    pub file_bytes_holds : Bytes (file_bytes base ss)
    file_bytes_holds = rw (bytes_are base ss) (sections_bytes base identity sizes rules.last_table_id ss rules.sections)

    pub split_file_back : split_file (file_bytes base ss) ≡ map (section_bytes base) ss
    unfolding split_file
    split_file_back =
        ap split_file (bytes_are base ss)
        ∙ split_back stated_section_size (map (section_bytes base) ss)
        (sections_stated sizes base identity rules.last_table_id legal_file ss
        rules.sections)

    -- cutting the joined bytes of sections that keep the rules gives them back
    pub sections_in_back : sections_in base (file_bytes base ss) ≡ ss
    sections_in_back =
        sections_are base (file_bytes base ss)
        ∙ ap (map (section_in base)) split_file_back
        ∙ sections_shown sizes base identity rules.last_table_id legal_file ss
        rules.sections

    pub follows_records : file_records base (file_bytes base ss) ≡ records_from 0 ss
    follows_records = records_are base (file_bytes base ss) ∙ ap (records_from 0) sections_in_back

    -- the headers that the walk sees are theirs
    seen_headers : (behind_all base at_start (split_file (file_bytes base ss))).before ≡ reverse (headers_of ss)
    seen_headers =
        shown_headers base at_start (split_file (file_bytes base ss))
        ∙ append-nil _
        ∙ ap (λ (ts : List Section). reverse (headers_of ts))
        (sym (sections_are base (file_bytes base ss)) ∙ sections_in_back)

    file_accepts : Accepts sizes base at_start (split_file (file_bytes base ss))
    file_accepts =
        let new : T (are_new [] (section_events ss)) =
        order_new [] (section_events ss) (record { rises = rules.rises; differ = rules.differ }) in
        rw split_file_back
        (all_back sizes base identity rules.last_table_id legal_file ss rules.sections rules.ordered new
        rules.few)

    -- check accepts them, with the identity that their headers show
    pub follows_shown : check_file sizes base (file_bytes base ss)
        ≡ success (identity_of (reverse (headers_of ss))) (length (records_from 0 ss))
    follows_shown =
        check_succeeds sizes base (file_bytes base ss) legal file_accepts.all file_accepts.complete
        ∙ ap₂ success (ap identity_of seen_headers) (seen_count base (file_bytes base ss) ∙ ap length follows_records)

    -- which is theirs, where absent tables have version 0
    module _ (absent : ZeroWhereAbsent identity ss) where
      identity_back : identity_of (reverse (headers_of ss)) ≡ identity
      identity_back =
          identity_shown identity rules.last_table_id (reverse (headers_of ss))
          (subst (λ (hs : List Header). T (is_complete (latest hs))) seen_headers file_accepts.complete)
          (every_reverse (HeaderRules identity rules.last_table_id) (headers_of ss)
          (every_headers (HeaderRules identity rules.last_table_id) ss
          (every_map (λ s r. r.header_rules) ss rules.sections)))
          rules.identity_rules
          (λ table least nowhere. absent table least
          (headers_every (λ (h : Header). h.table_id ≡ table → ⊥) ss
          (reverse_every (λ (h : Header). h.table_id ≡ table → ⊥) (headers_of ss) nowhere)))

      pub follows_accepted : check_file sizes base (file_bytes base ss) ≡ success identity (length (records_from 0 ss))
      follows_accepted =
          follows_shown ∙ ap (λ (i : Identity). success i (length (records_from 0 ss))) identity_back

      pub follows_read : (buffer : List ℕ) → length (records_from 0 ss) * record_size ≤ length buffer
          → read sizes base (file_bytes base ss) buffer ≡ reading_of buffer identity (records_from 0 ss)
      follows_read buffer fits =
          let count : (check_file sizes base (file_bytes base ss)).count ≡ length (records_from 0 ss) =
          ap (λ (a : Answer). a.count) follows_accepted in
          read_succeeds sizes base (file_bytes base ss) buffer (ap (λ (a : Answer). a.number) follows_accepted)
          (omega arith)
          ∙ (λ i. record {
            answer = follows_accepted i;
            buffer = overwrite buffer 0 (numbers_of_all (follows_records i));
          })

-- ---- Read is exact

-- a reading shows its identity and its records
reading_shows : (buffer : List ℕ) (i j : Identity) (qs rs : List Record)
    → reading_of buffer i qs ≡ reading_of buffer j rs
    → (i ≡ j) × (qs ≡ rs)
reading_shows buffer i j qs rs e = (
  ap (λ (r : Reading). r.answer.identity) e,
  sym (records_written qs buffer)
      ∙ ap (λ (r : Reading). records_of (list_of r)) e
      ∙ records_written rs buffer,
)

module _ (sizes : Sizes) (base : ℕ) (file buffer : List ℕ) where
  -- what a reading with number 0 returns and leaves
  pub read_accepted : (read sizes base file buffer).answer.number ≡ 0
      → ((check_file sizes base file).number ≡ 0)
      × (read sizes base file buffer ≡ reading_of buffer (check_file sizes base file).identity (file_records base file))
      × (length (file_records base file) * record_size ≤ length buffer)
  read_accepted success-is =
      let agrees : (read sizes base file buffer).answer ≡ check_file sizes base file =
      read_agrees sizes base file buffer (λ number_is. omega arith) in
      let zero : (check_file sizes base file).number ≡ 0 = sym (ap (λ (a : Answer). a.number) agrees) ∙ success-is in
      let answer = accepted_answer sizes base file zero in
      let count : (check_file sizes base file).count ≡ length (file_records base file) =
      ap (λ (a : Answer). a.count) answer in
      let fits : (check_file sizes base file).count * record_size ≤ length buffer =
      ⊎_elim (λ fits. fits)
      (λ short.
      let number_is : (read sizes base file buffer).answer.number ≡ 27 =
      ap (λ (r : Reading). r.answer.number) (read_short sizes base file buffer zero short) in
      absurd (omega arith))
      (le_or_lt ((check_file sizes base file).count * record_size) (length buffer)) in (
        zero,
        read_succeeds sizes base file buffer zero fits
            ∙ (λ i. record { answer = answer i; buffer = overwrite buffer 0 (numbers_of_all (file_records base file)) }),
        omega arith,
      )

  module _ (identity : Identity) (rs : List Record) where
    read_follows : Bytes file → read sizes base file buffer ≡ reading_of buffer identity rs
        → FollowsRules sizes base file identity rs × (length rs * record_size ≤ length buffer)
    read_follows bytes e =
        let (zero, is, fits) = read_accepted (ap (λ (r : Reading). r.answer.number) e) in
        let (same, records) = reading_shows buffer _ identity _ rs (sym is ∙ e) in
        let follows : FollowsRules sizes base file identity (file_records base file) =
        subst (λ (i : Identity). FollowsRules sizes base file i (file_records base file)) same
        (accepted_follows sizes base file bytes zero) in
        subst (λ (qs : List Record). FollowsRules sizes base file identity qs
        × (length qs * record_size ≤ length buffer)) records
        (follows, fits)

    follows_reads : sizes.section_limit ≤ 4_096 → base ≤ base_day_max → FollowsRules sizes base file identity rs
        → length rs * record_size ≤ length buffer
        → read sizes base file buffer ≡ reading_of buffer identity rs
    follows_reads length_fits legal f fits =
        rw (← f.bytes, ← f.records)
        (follows_read sizes base length_fits legal identity f.sections f.rules f.absent buffer
        (rw f.records fits))

    -- demand 2: for every legal base day, every file of bytes and every record buffer, Read succeeds with an identity
    -- and records exactly if the file follows the rules with these, and the records fit the buffer
    pub read_exact : sizes.section_limit ≤ 4_096
        → base ≤ base_day_max
        → Bytes file
        → (read sizes base file buffer ≡ reading_of buffer identity rs)
        ↔ (FollowsRules sizes base file identity rs × (length rs * record_size ≤ length buffer))
    read_exact length_fits legal bytes = (read_follows bytes, λ (f, fits). follows_reads length_fits legal f fits)
