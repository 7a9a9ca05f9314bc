-- The sections of Build's file keep the rules of a file, if no segment is unpackable: numbering by Numbers, events and
-- sizes by Parts, and what is said of all events by Held. Assumes nothing.
use mathlib.Core.Path.{◌≡◌, refl}
use mathlib.Core.Bool.{not}
use mathlib.Core.List.{List, [], ◌∷◌}
use Prim.Native.Nat.{ℕ, ◌≤◌}
use native.Mathlib.Omega.{arith}
use lib.Dec.{T}
use Rattle.eit.specs.Sizes.{section_overhead}
use Rattle.eit.specs.declared.Sizes.{Sizes}
use Rattle.eit.specs.Events.{Event}
use Rattle.eit.specs.declared.Identity.{Identity}
use Rattle.sections.specs.Section.{Section, section_size}
use Rattle.sections.specs.Every.{Every}
use Rattle.sections.specs.Rules.{IdentityRules, HeaderRules, EventRules, Alone, SectionRules, Rules}
use Rattle.sections.proofs.Every.{every_map}
use Rattle.schedule.specs.Extent.{last_table_id_of}
use Rattle.schedule.specs.SectionsOf.{is_unpackable, sections_of}
use Rattle.schedule.proofs.SoundEvents.{EventFacts, SoundEvents}
use Rattle.schedule.proofs.Extent.{tables_few}
use Rattle.schedule.proofs.Parts.{parts_filled, part_rules, part_sizes}
use Rattle.schedule.proofs.Held.{sections_events}
use Rattle.schedule.proofs.Numbers.{sections_every, headers_keep, empty_alone, headers_ordered}

-- the four rules of a section, each shown of every section
all_four : (sizes : Sizes) (identity : Identity) (last_table_id : ℕ) (ss : List Section)
    → Every (λ (s : Section). HeaderRules identity last_table_id s.header) ss
    → Every (λ (s : Section). Every (EventRules s.header) s.events) ss
    → Every (λ (s : Section). s.events ≡ [] → Alone s.header) ss
    → Every (λ (s : Section). section_size s ≤ sizes.section_limit) ss
    → Every (SectionRules sizes identity last_table_id) ss
all_four sizes identity last_table_id [] headers events alone fit = tt
all_four sizes identity last_table_id (s ∷ ss) headers events alone fit = (
  record { header_rules = headers.0; event_rules = events.0; alone = alone.0; size = fit.0 },
  all_four sizes identity last_table_id ss headers.1 events.1 alone.1 fit.1,
)

pub built_rules : (sizes : Sizes) (identity : Identity) (es : List Event) → section_overhead ≤ sizes.section_limit
    → IdentityRules identity
    → SoundEvents sizes es
    → ((index : ℕ) → T (not (is_unpackable sizes es index)))
    → Rules sizes identity (sections_of sizes identity es)
built_rules sizes identity es roomy legal facts fits =
    let all = sections_events sizes identity es facts.rises fits in
    record {
      identity_rules = legal;
      last_table_id = last_table_id_of es;
      last_table =
          omega (arith, tables_few es (every_map (λ (e : Event) (f : EventFacts e). f.start) es facts.facts));
      sections =
          all_four sizes identity (last_table_id_of es) (sections_of sizes identity es)
          (headers_keep sizes identity es)
          (sections_every sizes identity es _
          (λ index table inside. part_rules sizes identity es index facts.facts (fits index)))
          (empty_alone sizes identity es (λ index. parts_filled sizes es index (fits index)))
          (sections_every sizes identity es _ (λ index table inside. part_sizes sizes identity es index roomy));
      ordered = headers_ordered sizes identity es;
      rises = rw all facts.rises;
      differ = rw all facts.differ;
      few = rw all facts.few;
    }

pub built_last : (sizes : Sizes) (identity : Identity) (es : List Event)
    (roomy : section_overhead ≤ sizes.section_limit)
    (legal : IdentityRules identity)
    (facts : SoundEvents sizes es)
    (fits : (index : ℕ) → T (not (is_unpackable sizes es index)))
    → (built_rules sizes identity es roomy legal facts fits).last_table_id ≡ last_table_id_of es
unfolding built_rules
built_last sizes identity es roomy legal facts fits = refl
