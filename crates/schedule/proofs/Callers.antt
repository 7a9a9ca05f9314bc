-- What W-206 claims holds: the demands are shown for every legal sizes; an event that is longer than the room leaves
-- its segment unpackable, and one that is not has a packing of its own; the rules of two sizes differ in the bounds
-- alone. Assumes nothing.
use mathlib.Core.Path.{◌≡◌, refl, sym, ap, subst}
use mathlib.Core.Bool.{not}
use mathlib.Core.Logic.{◌↔◌, ⊎_elim}
use mathlib.Core.List.{List, [], ◌∷◌, Memᴰ}
use Prim.Native.Nat.{ℕ, ◌+◌, ◌≤◌, ◌<◌}
use native.Mathlib.Omega.{arith}
use borrow.Author.Tests.{lt-leb}
use lib.Dec.{T, leb→le}
use lib.ListN.{length}
use Rattle.eit.specs.Sizes.{broadcast, cable, room}
use Rattle.eit.specs.declared.Sizes.{Sizes}
use Rattle.eit.specs.declared.Caller.TheVariants.{Cable}
use Rattle.eit.specs.Events.{Event}
use Rattle.eit.specs.declared.Identity.{Identity}
use Rattle.eit.specs.Limits.{base_day_max}
use Rattle.eit.specs.Fields.{Bytes}
use Rattle.eit.proofs.Test.{tests, test_or}
use Rattle.eit.proofs.Sound.{sound_list, list_sound}
use Rattle.packing.specs.Greedy.{AllFit, Packing}
use Rattle.packing.proofs.Greedy.{too_large}
use Rattle.sections.specs.Segment.{segment_index}
use Rattle.sections.specs.Every.{Every}
use Rattle.sections.specs.Section.{Section, event_size, section_size, section_events}
use Rattle.sections.specs.Decode.{split_events, sections_in}
use Rattle.sections.specs.Count.{segment_events}
use Rattle.sections.specs.Rules.{SectionRules, Rules}
use Rattle.sections.specs.HeaderTests.{is_framed}
use Rattle.sections.specs.EventTests.{is_within_limit}
use Rattle.sections.specs.Walk.{Progress, at_start, behind_all, refused, step}
use Rattle.sections.specs.Read.{check_file}
use Rattle.sections.specs.Exact.{Accepted}
use Rattle.sections.proofs.Every.{every_map, every_both}
use Rattle.sections.proofs.Count.{events_more, events_cases}
use Rattle.sections.proofs.Walk.{walk_passed}
use Rattle.sections.proofs.Answers.{step_20, step_26, check_refused}
use Rattle.sections.proofs.Accepted.{accepted_exactly}
use Rattle.schedule.specs.Build.{Built}
use Rattle.schedule.specs.Given.{Given, built, events, EightHold}
use Rattle.schedule.specs.Callers.{Callers}
use Rattle.schedule.proofs.Packable.{eight_hold}
use Rattle.schedule.proofs.Given.{shown_rules, legal_sizes, build_or}
use Rattle.schedule.proofs.Demands.{demands_for, demands}

-- ---- chains

-- an event is among those that start in its segment
starts_there : (e : Event) (es : List Event) → Memᴰ e es
    → Memᴰ e (segment_events (segment_index e.start) es)
starts_there e [] there = elim there [ ]
starts_there e (d ∷ es) (Memᴰ.head is) =
    subst (λ (fs : List Event). Memᴰ e fs)
    (sym (events_more (segment_index e.start) d es (ap (λ (f : Event). segment_index f.start) (sym is))))
    (Memᴰ.head is)
starts_there e (d ∷ es) (Memᴰ.tail there) =
    events_cases (segment_index e.start) d es (λ (fs : List Event). Memᴰ e fs)
    (λ here. Memᴰ.tail (starts_there e es there)) (λ elsewhere. starts_there e es there)

-- a list with an event that is longer than the room is refused
too_long : {sizes : Sizes} (g : Given sizes) (output : List ℕ) (e : Event) → Memᴰ e (events g)
    → room sizes < event_size e
    → (built g output).number ≡ 10
too_long {sizes} g output e there long =
    ⊎_elim
    (λ (fits, is).
    let index : ℕ = segment_index e.start in
    let (parts, packing, few) = eight_hold sizes (events g) index (fits index) in
    absurd (too_large event_size (room sizes) (starts_there e (events g) there) long parts packing))
    (λ (index, few, fails, before, is). ap (λ (b : Built). b.number) (is output)) (build_or g)

-- one event that is not has a packing: in its segment a part of its own, in the others nothing
alone_holds : (sizes : Sizes) (e : Event) → event_size e ≤ room sizes → (index : ℕ) → EightHold sizes (e ∷ []) index
alone_holds sizes e fits index =
    events_cases index e []
    (λ (es : List Event). (parts : List (List Event)) × Packing event_size (room sizes) es parts × (length parts ≤ 8))
    (λ here. ((e ∷ []) ∷ [], record { ordered = refl; all_fit = (omega arith, tt) }, omega arith))
    (λ elsewhere. ([], record { ordered = refl; all_fit = tt }, omega arith))

-- ---- refusals of a section

-- longer than the limit
long_unframed : (sizes : Sizes) (bs : List ℕ) → sizes.section_limit < length bs → T (not (is_framed sizes bs))
unfolding is_framed
long_unframed sizes bs long =
    ⊎_elim
    (λ framed.
    let short : length bs ≤ sizes.section_limit = leb→le (length bs) sizes.section_limit (search tests) in
    absurd (omega arith))
    (λ fails. fails) (test_or (is_framed sizes bs))

-- with an event too many
above_limit : (sizes : Sizes) (seen : List Event) (bs : List ℕ)
    → sizes.event_limit < length seen + length (split_events bs)
    → T (not (is_within_limit sizes seen bs))
unfolding is_within_limit
above_limit sizes seen bs many =
    rw (lt-leb (length seen + length (split_events bs)) sizes.event_limit many) tt

-- ---- cable's sizes within broadcast's

-- under other sizes, whose bounds they keep, sections that keep the rules keep them
section_sized : {sizes : Sizes} (other : Sizes) (identity : Identity) (last_table_id : ℕ) (s : Section)
    → SectionRules sizes identity last_table_id s
    → section_size s ≤ other.section_limit
    → SectionRules other identity last_table_id s
section_sized other identity last_table_id s rules size =
    record {
      header_rules = rules.header_rules;
      event_rules = rules.event_rules;
      alone = rules.alone;
      size = size;
    }

rules_sized : {sizes : Sizes} (other : Sizes) (identity : Identity) (ss : List Section) → Rules sizes identity ss
    → Every (λ (s : Section). section_size s ≤ other.section_limit) ss
    → length (section_events ss) ≤ other.event_limit
    → Rules other identity ss
rules_sized other identity ss rules fit few =
    record {
      identity_rules = rules.identity_rules;
      last_table_id = rules.last_table_id;
      last_table = rules.last_table;
      sections = every_both (section_sized other identity rules.last_table_id) ss rules.sections fit;
      ordered = rules.ordered;
      rises = rules.rises;
      differ = rules.differ;
      few = few;
    }

accepted_sized : (base : ℕ) (file : List ℕ) → base ≤ base_day_max → Bytes file
    → Accepted cable base file
    ↔ (Accepted broadcast base file × Every (λ (s : Section). section_size s ≤ 1_024) (sections_in base file)
    × (length (section_events (sections_in base file)) ≤ 256))
accepted_sized base file day bytes = (
  λ accepted.
      let identity : Identity = (check_file cable base file).identity in
      let (rules, joined) = shown_rules cable base file bytes accepted in
      let wide : Rules broadcast identity (sections_in base file) =
      rules_sized broadcast identity (sections_in base file) rules
      (every_map
      (λ (s : Section) (r : SectionRules cable identity rules.last_table_id s). omega (arith, r.size))
      (sections_in base file) rules.sections)
      (omega (arith, rules.few)) in (
        (accepted_exactly broadcast base file (omega arith) (omega arith) day bytes).1
            (identity, sections_in base file, wide, joined),
        every_map (λ (s : Section) (r : SectionRules cable identity rules.last_table_id s). r.size)
            (sections_in base file) rules.sections,
        rules.few,
      ),
  λ (accepted, fit, few).
      let identity : Identity = (check_file broadcast base file).identity in
      let (rules, joined) = shown_rules broadcast base file bytes accepted in
      (accepted_exactly cable base file (omega arith) (omega arith) day bytes).1
      (identity, sections_in base file, rules_sized cable identity (sections_in base file) rules fit few, joined),
)

fit_within : (parts : List (List Event)) → AllFit event_size (room cable) parts → AllFit event_size (room broadcast) parts
fit_within [] fit = tt
fit_within (p ∷ ps) fit = (omega (arith, fit.0), fit_within ps fit.1)

pub callers : Callers
callers =
    record {
      any_size = λ sizes least most few. demands_for sizes (legal_sizes sizes least most few);
      at_both = demands;
      unpackable_995 = λ g output e there long. too_long g output e there (omega arith);
      packable_994 = λ g output e alone short ten.
          ((demands Cable).unpackable_lowest g output ten).1
          (subst (λ (es : List Event). EightHold cable es (built g output).value) (sym alone)
          (alone_holds cable e (omega arith) (built g output).value));
      frame_1025 = λ base file bs front rest p day split walked long.
          check_refused cable base file day front rest bs 20 split (walk_passed cable base at_start p front walked).0
          (step_20 cable base (behind_all base at_start front) bs (long_unframed cable bs (omega arith)));
      limit_256 = λ list. refl;
      sound_256 = λ pools list. (
        λ is.
            let f = sound_list cable pools list is in (
              list_sound broadcast pools list
                  (record { few = omega (arith, f.few); held = f.held; records = f.records }),
              f.few,
            ),
        λ (is, few).
            let f = sound_list broadcast pools list is in
            list_sound cable pools list (record { few = few; held = f.held; records = f.records }),
      );
      limit_257 = λ base file bs front rest p day split walked framed crc header numbering loop many.
          let (all, end) = walk_passed cable base at_start p front walked in
          check_refused cable base file day front rest bs 26 split all
          (subst (λ (q : Progress). step cable base q bs ≡ refused 26 q.offset) (sym end)
          (step_26 cable base p bs framed crc header numbering loop (above_limit cable p.seen bs (omega arith))));
      accepted_within = accepted_sized;
      packed_within = λ es index (parts, packing, few). (
        parts,
        record { ordered = packing.ordered; all_fit = fit_within parts packing.all_fit },
        few,
      );
    }
