-- Demands 2 and 3 hold: each field of `Demands` from the laws of Read (crate sections), and from those of Build's file,
-- of Plan and of the best packing. Assumes nothing.
use mathlib.Core.Path.{◌≡◌, sym, ap, subst, ◌∙◌}
use mathlib.Core.Bool.{not}
use mathlib.Core.Logic.{◌↔◌, ⊎_elim}
use mathlib.Core.List.{List}
use Prim.Native.Nat.{ℕ, ◌≤◌, ◌<◌}
use native.Mathlib.Omega.{arith}
use lib.Dec.{T, T_not}
use lib.ListN.{length}
use Rattle.eit.specs.Sizes.{sizes_of}
use Rattle.eit.specs.declared.Sizes.{Sizes}
use Rattle.eit.specs.Limits.{base_day_max}
use Rattle.eit.specs.Fields.{Bytes}
use Rattle.eit.specs.Pools.{Pools}
use Rattle.eit.specs.Records.{EventList}
use Rattle.eit.specs.Events.{Event}
use Rattle.eit.specs.Sound.{events_of}
use Rattle.eit.specs.declared.Record.{Record}
use Rattle.eit.specs.declared.Identity.{Identity}
use Rattle.eit.proofs.Numbers.{caller_least, caller_most, caller_few}
use Rattle.eit.proofs.Test.{le_or_lt, test_or}
use Rattle.eit.proofs.Sound.{sound_list, events_length}
use Rattle.script.specs.Edit.{Edited, Stopped}
use Rattle.script.proofs.Edit.{edit_runs, edit_leaves, run_stops}
use Rattle.sections.specs.Section.{Section, section_sizes}
use Rattle.sections.specs.Decode.{sections_in}
use Rattle.sections.specs.Count.{sections_counted}
use Rattle.sections.specs.Offsets.{records_from, file_pools}
use Rattle.sections.specs.Read.{Reading, success, check_file, file_records, read, list_of}
use Rattle.sections.specs.Exact.{RecordBuffer, Accepted, FollowsRules}
use Rattle.sections.proofs.Lengths.{file_length}
use Rattle.sections.proofs.Read.{read_agrees, check_below_27}
use Rattle.sections.proofs.Exact.{accepted_follows, sections_in_back, follows_read, read_exact}
use Rattle.sections.proofs.Accepted.{accepted_check, accepted_exactly}
use Rattle.sections.proofs.Frame.{read_leaves}
use Rattle.sections.proofs.FileSize.{accepted_size}
use Rattle.sections.proofs.Offsets.{records_count}
use Rattle.sections.proofs.FileSound.{accepted_sound, accepted_events}
use Rattle.schedule.specs.Extent.{is_inside}
use Rattle.schedule.specs.SectionsOf.{is_unpackable}
use Rattle.schedule.specs.Plan.{section_count, plan, planned}
use Rattle.schedule.specs.Build.{Built, refusal, build, file_of}
use Rattle.schedule.specs.Given.{Given, built, events, Carries, EightHold}
use Rattle.schedule.specs.Refused.{RefusedFor}
use Rattle.schedule.specs.Demands.{DemandsFor, Demands}
use Rattle.schedule.proofs.Parts.{parts_few}
use Rattle.schedule.proofs.Rival.{segment_eight_hold}
use Rattle.schedule.proofs.Build.{build_packs, build_leaves, build_beyond, written_short, written_fits}
use Rattle.schedule.proofs.Build.{written_file}
use Rattle.schedule.proofs.Packable.{eight_hold, held_packable, lowest_none}
use Rattle.schedule.proofs.BestFile.{fewest, most}
use Rattle.schedule.proofs.Only.{built_only}
use Rattle.schedule.proofs.Plan.{plan_sound, plan_unsound, tabled_at, count_sections, count_inside}
use Rattle.schedule.proofs.Plan.{count_outside}
use Rattle.schedule.proofs.Plan.{count_unpackable}
use Rattle.schedule.proofs.Given.{LegalSizes, legal_sizes}
use Rattle.schedule.proofs.Given.{shown_rules, facts, own_sections, own_file, build_or}
use Rattle.schedule.proofs.Given.{own_events}
use Rattle.schedule.proofs.Given.{own_carries, own_identity, own_follows, writes, rival_eight, own_counted}

-- ---- Demand 1: what a refusal leaves

leaves : (sizes : Sizes) → RefusedFor sizes
leaves sizes =
    record {
      build_leaves = build_leaves sizes;
      build_beyond = build_beyond sizes;
      read_leaves = read_leaves sizes;
      edit_leaves = edit_leaves sizes;
      edit_keeps = λ pools list script cs es is form struck refuses.
          let runs = edit_runs sizes pools list script is cs es form struck in
          subst (λ (o : Edited). Stopped sizes pools list es o) (sym runs)
          (run_stops sizes pools list es (λ zero. refuses (ap (λ (o : Edited). o.number) runs ∙ zero)));
    }

module _ (sizes : Sizes) (legal : LegalSizes sizes) where
  -- ---- Demand 2: accepted files

  module _ (base : ℕ) (file : List ℕ) (bytes : Bytes file) where
    accepts : base ≤ base_day_max
        → Accepted sizes base file
        ↔ ((identity : Identity) × (rs : List Record) × FollowsRules sizes base file identity rs)
    accepts day = (
      λ accepted.
          let zero = accepted_check sizes base file accepted in
          ((check_file sizes base file).identity, file_records base file, accepted_follows sizes base file bytes zero),
      λ (identity, rs, f).
          (accepted_exactly sizes base file legal.most legal.few day bytes).1
          (identity, f.sections, f.rules, f.bytes),
    )

    packs : Accepted sizes base file → (series buffer : List ℕ) → RecordBuffer buffer
        → (day : ℕ) (identity : Identity) (output : List ℕ)
        → let b = build sizes (file_pools file series) (list_of (read sizes base file buffer)) day identity output in
        (b.number ≡ 12 → ⊥) × (b.number ≡ 10 → ⊥)
    packs accepted series buffer size day identity output =
        let list : EventList = list_of (read sizes base file buffer) in
        let pools : Pools = file_pools file series in
        let ss : List Section = sections_in base file in
        let zero = accepted buffer size in
        let fits : (index : ℕ) → T (not (is_unpackable sizes (events_of pools list) index)) =
        λ index. held_packable sizes (events_of pools list) index
        (subst (λ (es : List Event). EightHold sizes es index)
        (sym (accepted_events sizes base file buffer series bytes zero))
        (segment_eight_hold sizes (check_file sizes base file).identity ss
        (shown_rules sizes base file bytes accepted).0 index)) in
        build_packs sizes pools list day identity output
        (accepted_sound sizes base file buffer series bytes zero) (lowest_none sizes (events_of pools list) fits)

  -- ---- Demand 2: built files

  module _ (g : Given sizes) (output : List ℕ) where
    carries : (built g output).number ≡ 0 → Carries g (file_of (built g output))
    carries zero =
        let (fits, is, enough, file) = writes g output zero in subst (Carries g) (sym file) (own_carries legal g fits)

    reads : (buffer : List ℕ) → (built g output).number ≡ 0 → RecordBuffer buffer
        → (read sizes g.base (file_of (built g output)) buffer).answer
        ≡ success (own_identity legal g) g.list.count
    reads buffer zero size =
        let (fits, is, enough, file) = writes g output zero in
        let ss : List Section = own_sections g in
        let count : length (records_from 0 ss) ≡ g.list.count =
        records_count 0 ss ∙ ap length (own_events g fits) ∙ events_length g.pools g.list in
        let few : g.list.count ≤ sizes.event_limit = (sound_list sizes g.pools g.list g.is_sound).few in
        let (rules, absent) = own_follows legal g fits in
        ap (λ (f : List ℕ). (read sizes g.base f buffer).answer) file
        ∙ ap (λ (r : Reading). r.answer)
        (follows_read sizes g.base legal.most g.legal_base (own_identity legal g) ss rules absent buffer
        (omega (arith, legal.few)))
        ∙ ap (success (own_identity legal g)) count

    -- the value is the file's length, with 0 and with 11
    values : ((built g output).number ≡ 10 → ⊥) → (built g output).value ≡ section_sizes (own_sections g)
    values not-10 =
        let ss : List Section = own_sections g in
        ⊎_elim
        (λ (fits, is).
        ap (λ (b : Built). b.value) (is output)
        ∙ ⊎_elim (λ enough. ap (λ (b : Built). b.value) (written_fits g.base ss output enough))
        (λ short. ap (λ (b : Built). b.value) (written_short g.base ss output short))
        (le_or_lt (section_sizes ss) (length output)))
        (λ (index, few, fails, before, is). absurd (not-10 (ap (λ (b : Built). b.number) (is output))))
        (build_or g)

    planned_sections : (built g output).number ≡ 0 → (index : ℕ) → index < 512
        → planned (plan sizes g.pools g.list) index ≡ sections_counted g.base (file_of (built g output)) index
    planned_sections zero index few =
        let (fits, is, enough, file) = writes g output zero in
        ap (λ (counts : List (List ℕ)). planned counts index) (plan_sound sizes g.pools g.list g.is_sound)
        ∙ tabled_at (section_count sizes (events g)) index few
        ∙ count_sections sizes (events g) index g.identity (fits index)
        ∙ sym (own_counted legal g fits index)
        ∙ ap (λ (f : List ℕ). sections_counted g.base f index) (sym file)

  plan_refuses : (g : Given sizes) (index : ℕ) → index < 512
      → (planned (plan sizes g.pools g.list) index ≡ 255) ↔ (EightHold sizes (events g) index → ⊥)
  plan_refuses g index few =
      let es : List Event = events g in
      let is : planned (plan sizes g.pools g.list) index ≡ section_count sizes es index =
      ap (λ (counts : List (List ℕ)). planned counts index) (plan_sound sizes g.pools g.list g.is_sound)
      ∙ tabled_at (section_count sizes es) index few in (
        λ number_is eight.
            let fits = held_packable sizes es index eight in
            ⊎_elim (λ inside. omega
            (arith, is, number_is, count_inside sizes es index inside fits, parts_few sizes es index))
            (λ outside. omega (arith, is, number_is, count_outside sizes es index outside))
            (test_or (is_inside es index)),
        λ none. ⊎_elim (λ fails. is ∙ count_unpackable sizes es index (facts g).rises fails)
            (λ fits. absurd (none (eight_hold sizes es index fits)))
            (test_or (is_unpackable sizes es index)),
      )

  lengths : (g : Given sizes) (output other : List ℕ) → ((built g output).number ≡ 10 → ⊥)
      → let need = (built g output).value in
      (need ≤ length other
      → ((built g other).number ≡ 0) × ((built g other).value ≡ need) × (length (file_of (built g other)) ≡ need))
      × (length other < need → built g other ≡ record { number = 11; value = need; output = other })
  lengths g output other not-10 =
      let ss : List Section = own_sections g in
      let need : (built g output).value ≡ section_sizes ss = values g output not-10 in
      ⊎_elim
      (λ (fits, is). (
        λ enough.
            let fit : section_sizes ss ≤ length other = omega arith in
            let writes-it = is other ∙ written_fits g.base ss other fit in (
              ap (λ (b : Built). b.number) writes-it,
              ap (λ (b : Built). b.value) writes-it ∙ sym need,
              ap (λ (b : Built). length (file_of b)) (is other) ∙ ap length (written_file g.base ss other fit)
                  ∙ file_length g.base ss ∙ sym need,
            ),
        λ short.
            is other ∙ written_short g.base ss other (omega arith)
            ∙ ap (λ (n : ℕ). refusal 11 n other) (sym need),
      ))
      (λ (index, few, fails, before, is). absurd (not-10 (ap (λ (b : Built). b.number) (is output))))
      (build_or g)

  -- ---- Demand 3: unpackable exactly

  module _ (g : Given sizes) (output : List ℕ) where
    refused_exactly : ((built g output).number ≡ 10) ↔ ((file : List ℕ) → Carries g file → ⊥)
    refused_exactly =
        ⊎_elim
        (λ (fits, is). (
          λ ten. absurd
              ((build_packs sizes g.pools g.list g.base g.identity output g.is_sound
              (lowest_none sizes (events g) fits)).1 ten),
          λ nobody. absurd (nobody (own_file g) (own_carries legal g fits)),
        ))
        (λ (index, few, fails, before, is). (
          λ ten file c.
              T_not (is_unpackable sizes (events g) index)
              (held_packable sizes (events g) index (rival_eight g file c index)) fails,
          λ nobody. ap (λ (b : Built). b.number) (is output),
        ))
        (build_or g)

    refused_lowest : (built g output).number ≡ 10
        → let index = (built g output).value in
        (index < 512) × (EightHold sizes (events g) index → ⊥)
        × ((lower : ℕ) → lower < index → EightHold sizes (events g) lower)
    refused_lowest ten =
        ⊎_elim
        (λ (fits, is). absurd (refused_exactly.0 ten (own_file g) (own_carries legal g fits)))
        (λ (index, few, fails, before, is).
        let value : (built g output).value ≡ index = ap (λ (b : Built). b.value) (is output) in
        subst
        (λ (i : ℕ). (i < 512) × (EightHold sizes (events g) i → ⊥)
        × ((lower : ℕ) → lower < i → EightHold sizes (events g) lower))
        (sym value) (
          few,
          λ eight. T_not (is_unpackable sizes (events g) index) (held_packable sizes (events g) index eight) fails,
          λ lower less. eight_hold sizes (events g) lower (before lower less),
        ))
        (build_or g)

  -- ---- all of it, for every sizes that are legal

  pub demands_for : DemandsFor sizes
  demands_for =
      record {
        accepted_exactly = λ base file day bytes. accepts base file bytes day;
        read_exact =
            λ base file buffer identity rs day bytes. read_exact sizes base file buffer identity rs legal.most day
            bytes;
        accepted_size =
            λ base file bytes accepted. accepted_size sizes base file bytes (accepted_check sizes base file accepted);
        check_agrees = λ base file buffer not-27. read_agrees sizes base file buffer not-27;
        check_never_27 = λ base file number_is. omega (arith, check_below_27 sizes base file);
        accepted_sound =
            λ base file series buffer bytes accepted size. accepted_sound sizes base file buffer series bytes
            (accepted buffer size);
        accepted_events =
            λ base file series buffer bytes accepted size. accepted_events sizes base file buffer series bytes
            (accepted buffer size);
        accepted_packable =
            λ base file series buffer bytes accepted size. packs base file bytes accepted series buffer size;
        built_carries = carries;
        built_read = reads;
        built_length = lengths;
        built_same = λ g output other zero also. (writes g output zero).3 ∙ sym (writes g other also).3;
        built_planned = planned_sections;
        plan_unpackable = plan_refuses;
        plan_unsound = λ pools list unsound index few.
            ap (λ (counts : List (List ℕ)). planned counts index) (plan_unsound sizes pools list unsound)
            ∙ tabled_at (λ (index : ℕ). 254) index few;
        unpackable_exactly = refused_exactly;
        unpackable_lowest = refused_lowest;
        fewest_sections = fewest sizes legal;
        most_events = most sizes legal;
        built_only = built_only sizes legal;
        sections_back = λ base identity ss day rules. sections_in_back sizes base legal.most day identity ss rules;
        refused = leaves sizes;
      }

-- and so for each caller
pub demands : Demands
demands caller =
    let sizes : Sizes = sizes_of caller in
    demands_for sizes (legal_sizes sizes (caller_least caller) (caller_most caller) (caller_few caller))
