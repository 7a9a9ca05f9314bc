-- What W-205 claims holds: of lists by the laws of rolls, and of Build by those of its packing, for all sizes for which
-- the demands hold. Assumes nothing.
use mathlib.Core.Path.{◌≡◌, refl, sym, ap, ◌∙◌}
use mathlib.Core.Bool.{not}
use mathlib.Core.Logic.{⊎_elim}
use mathlib.Core.List.{List, []}
use Prim.Native.Nat.{ℕ, ◌+◌, ◌<◌}
use native.Mathlib.Omega.{arith}
use lib.Dec.{T}
use lib.ListN.{length, get_or}
use Rattle.eit.specs.declared.Sizes.{Sizes}
use Rattle.eit.specs.declared.Caller.TheVariants.{Broadcast, Cable}
use Rattle.eit.specs.Time.{seconds_of_day}
use Rattle.eit.specs.Records.{EventList, records_of}
use Rattle.eit.specs.Events.{Event, events_in}
use Rattle.eit.specs.Sound.{sound, events_of}
use Rattle.eit.specs.declared.Identity.{Identity}
use Rattle.eit.specs.declared.Record.{Record}
use Rattle.eit.proofs.Test.{test_or, le_or_lt}
use Rattle.sections.specs.Section.{Section, section_sizes}
use Rattle.sections.specs.Encode.{event_loop_bytes}
use Rattle.sections.specs.Rules.{IdentityRules}
use Rattle.schedule.specs.SectionsOf.{is_unpackable, packed_segment, sections_of}
use Rattle.schedule.specs.Build.{Built, are_versions, build, file_of}
use Rattle.schedule.specs.Given.{Given, built, events}
use Rattle.schedule.proofs.Build.{build_version, build_sound, events_written, written_short, written_fits}
use Rattle.schedule.proofs.Packable.{lowest_none}
use Rattle.schedule.proofs.Given.{LegalSizes, legal_sizes, Fits, build_or, writes}
use Rattle.window.specs.Roll.{counted_from, refilled, Rolled, success}
use Rattle.window.specs.KthSection.{kth_event_bytes}
use Rattle.window.specs.Midnight.{rolled, built_after, MidnightFor, Midnight}
use Rattle.window.proofs.Records.{refilled_records}
use Rattle.window.proofs.Roll.{roll_last, roll_unsound, roll_sound, refilled_sound, roll_keeps}
use Rattle.window.proofs.Rolls.{rolls_are, rolls_records, rolls_buffer, rolls_all}
use Rattle.window.proofs.KthSection.{kth_built, kth_past}
use Rattle.window.proofs.Shifted.{unpackable_earlier, part_bytes_earlier}

-- ---- Build before and after

module _ {sizes : Sizes} (g : Given sizes) (day : g.base < 65_472) where
  abbrev staying : List Record
  staying = counted_from seconds_of_day (records_of g.list)

  rolled_is : rolled g ≡ success g.list staying (g.base + 1)
  rolled_is = roll_sound sizes g.pools g.list g.base day g.is_sound

  after_sound : T (sound sizes g.pools (refilled g.list staying))
  after_sound = refilled_sound sizes g.pools g.list seconds_of_day g.is_sound

  -- what Build is given after the roll
  abbrev given_after : (identity : Identity) → IdentityRules identity → Given sizes
  given_after identity legal =
      record {
        pools = g.pools;
        list = refilled g.list staying;
        base = g.base + 1;
        identity = identity;
        day_bytes = g.day_bytes;
        series_bytes = g.series_bytes;
        is_sound = after_sound;
        legal_base = omega arith;
        legal_identity = legal;
      }

  after_is : (identity : Identity) (output : List ℕ)
      → built_after g identity output
      ≡ build sizes g.pools (refilled g.list staying) (g.base + 1) identity output
  after_is identity output =
      ap (λ (r : Rolled). build sizes g.pools r.list r.base identity output) rolled_is

  before_events : events g ≡ events_in g.pools (records_of g.list)
  unfolding events_of
  before_events = refl

  after_events : events_of g.pools (refilled g.list staying) ≡ events_in g.pools staying
  unfolding events_of
  after_events = ap (events_in g.pools) (refilled_records g.list staying)

  -- no segment is unpackable after it that was not before
  after_fits : Fits g
      → (index : ℕ) → T (not (is_unpackable sizes (events_of g.pools (refilled g.list staying)) index))
  after_fits fits index =
      rw (after_events, unpackable_earlier sizes g.pools (records_of g.list) index, ← before_events)
      (fits (index + 8))

  same_bytes : (legal : LegalSizes sizes) (identity : Identity) (output other : List ℕ) → IdentityRules identity
      → (built g output).number ≡ 0 → (built_after g identity other).number ≡ 0
      → (index k : ℕ) → k < 8
      → kth_event_bytes (file_of (built_after g identity other)) index k
      ≡ kth_event_bytes (file_of (built g output)) (index + 8) k
  same_bytes legal identity output other known wrote Wrote-after index k few =
      let h : Given sizes = given_after identity known in
      let (fits, is, enough, file) = writes g output wrote in
      let (fits_after, is-after, enough-after, file-after) =
      writes h other (sym (ap (λ (b : Built). b.number) (after_is identity other)) ∙ Wrote-after) in
      let packs : T (not (is_unpackable sizes (events_in g.pools (records_of g.list)) (index + 8))) =
      rw (← before_events) (fits (index + 8)) in
      ap (λ (b : Built). kth_event_bytes (file_of b) index k) (after_is identity other)
      ∙ ap (λ (bytes : List ℕ). kth_event_bytes bytes index k) file-after
      ∙ kth_built legal h fits_after index k few
      ∙ ap (λ (es : List Event). event_loop_bytes (g.base + 1) (get_or (packed_segment sizes es index) k [])) after_events
      ∙ part_bytes_earlier sizes g.pools (records_of g.list) g.base index k packs
      ∙ ap (λ (es : List Event). event_loop_bytes g.base (get_or (packed_segment sizes es (index + 8)) k []))
      (sym before_events)
      ∙ sym (kth_built legal g fits (index + 8) k few)
      ∙ ap (λ (bytes : List ℕ). kth_event_bytes bytes (index + 8) k) (sym file)

  -- Build says 2, or writes, or says 11
  built_after_holds : Fits g → (identity : Identity) (other : List ℕ)
      → let b = built_after g identity other in
      (b.number ≡ 1 → ⊥) × (b.number ≡ 12 → ⊥) × (b.number ≡ 10 → ⊥)
  built_after_holds fits identity other =
      let list : EventList = refilled g.list staying in
      let es : List Event = events_of g.pools list in
      let base : ℕ = g.base + 1 in
      let ss : List Section = sections_of sizes identity es in
      let number : (b : Built) → built_after g identity other ≡ b → (built_after g identity other).number ≡ b.number =
      λ b is. ap (λ (c : Built). c.number) is in
      ⊎_elim
      (λ legal.
      let written_is =
      after_is identity other
      ∙ build_sound sizes g.pools list base identity other (omega arith) legal after_sound
      ∙ events_written sizes base identity es other (lowest_none sizes es (after_fits fits)) in
      ⊎_elim
      (λ enough.
      let n = number _ (written_is ∙ written_fits base ss other enough) in
      (λ one. omega arith, λ twelve. omega arith, λ ten. omega arith))
      (λ short.
      let n = number _ (written_is ∙ written_short base ss other short) in
      (λ one. omega arith, λ twelve. omega arith, λ ten. omega arith))
      (le_or_lt (section_sizes ss) (length other)))
      (λ above.
      let n =
      number _ (after_is identity other ∙ build_version sizes g.pools list base identity other (omega arith) above)
      in
      (λ one. omega arith, λ twelve. omega arith, λ ten. omega arith))
      (test_or (are_versions identity.versions))

-- where Build does not say 10, no segment is unpackable
not_10_fits : {sizes : Sizes} (g : Given sizes) (output : List ℕ) → ((built g output).number ≡ 10 → ⊥) → Fits g
not_10_fits g output not-10 =
    ⊎_elim (λ (fits, is). fits)
    (λ (index, few, fails, before, is). absurd (not-10 (ap (λ (b : Built). b.number) (is output))))
    (build_or g)

-- ---- the claims

pub midnight_for : (sizes : Sizes) → LegalSizes sizes → MidnightFor sizes
midnight_for sizes legal =
    record {
      last_base_day = roll_last sizes;
      unsound = roll_unsound sizes;
      keeps_sound = roll_keeps sizes;
      n_rolls = λ pools list base n range is. rolls_are sizes pools list base is n range;
      n_rolls_records = λ pools list base n range is. rolls_records sizes pools list base is n range;
      n_rolls_buffer = λ pools list base n range is. rolls_buffer sizes pools list base is n range;
      all_left = λ pools list base range is. rolls_all sizes pools list base (omega arith) is;
      same_event_bytes = λ g identity output other day. same_bytes g day legal identity output other;
      past_511 = λ g output wrote index k past few.
          let (fits, is, enough, file) = writes g output wrote in
          ap (λ (bytes : List ℕ). kth_event_bytes bytes index k) file ∙ kth_past legal g fits index k past few;
      builds_after = λ g identity output other day not-10.
          built_after_holds g day (not_10_fits g output not-10) identity other;
    }

pub midnight : Midnight
midnight Broadcast = midnight_for _ (legal_sizes _ (omega arith) (omega arith) (omega arith))
midnight Cable = midnight_for _ (legal_sizes _ (omega arith) (omega arith) (omega arith))
