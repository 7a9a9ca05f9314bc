-- What W-206 claims (02, "A cable head-end with short sections"), each clause above its theorem. The value is `callers`
-- of proofs/Callers.antt. Its numbers are also computed, call by call, in crate samples_proved. Assumes nothing.
use Rattle.std.specs.Prelude.{◌≡◌, ◌↔◌, ℕ, min, ◌+◌, ◌/◌, ◌≤◌, T, length}
use mathlib.Core.List.{List, [], ◌∷◌, ◌++◌, flatten, Memᴰ}
use Rattle.eit.specs.Sizes.{broadcast, cable}
use Rattle.eit.specs.declared.Sizes.{Sizes}
use Rattle.eit.specs.Limits.{base_day_max}
use Rattle.eit.specs.Fields.{Bytes}
use Rattle.eit.specs.Pools.{Pools}
use Rattle.eit.specs.Records.{EventList}
use Rattle.eit.specs.Events.{Event}
use Rattle.eit.specs.Sound.{sound}
use Rattle.script.specs.Machine.{limit_of}
use Rattle.sections.specs.Section.{Section, section_size, section_events}
use Rattle.sections.specs.Every.{Every}
use Rattle.sections.specs.Decode.{header_in, split_events, split_file, sections_in}
use Rattle.sections.specs.HeaderTests.{latest, is_framed, has_right_crc, is_header, has_right_numbering}
use Rattle.sections.specs.EventTests.{is_event_loop}
use Rattle.sections.specs.Walk.{Progress, at_start, passed, walk}
use Rattle.sections.specs.Read.{refusal, check_file}
use Rattle.sections.specs.Exact.{Accepted}
use Rattle.schedule.specs.Given.{Given, built, events, EightHold}
use Rattle.schedule.specs.Demands.{DemandsFor, Demands}

pub record Callers : Type 0 where
  -- "Packing, its refusal and the comparison with every rival are shown for any section size from 30 to 4,096", with
  -- any limit of events up to 2,048 ..
  pub any_size : (sizes : Sizes) → 30 ≤ sizes.section_limit → sizes.section_limit ≤ 4_096
      → sizes.event_limit ≤ 2_048
      → DemandsFor sizes
  -- ".. then used at both"
  pub at_both : Demands
  -- "For the cable caller, an event with 995 chain bytes is unpackable ..": every list that has one is refused
  pub unpackable_995 : (g : Given cable) (output : List ℕ) (e : Event) → Memᴰ e (events g)
      → 995 ≤ length e.chain
      → (built g output).number ≡ 10
  -- ".. 994 is not": the list of such an event alone is not
  pub packable_994 : (g : Given cable) (output : List ℕ) (e : Event) → events g ≡ e ∷ [] → length e.chain ≤ 994
      → (built g output).number ≡ 10 → ⊥
  -- "a longer section is refusal 20": at its offset, whatever else it breaks and whatever follows, if those before pass
  pub frame_1025 : (base : ℕ) (file bs : List ℕ) (front rest : List (List ℕ)) (p : Progress) → base ≤ base_day_max
      → split_file file ≡ front ++ bs ∷ rest
      → walk cable base at_start front ≡ passed p
      → 1_025 ≤ length bs
      → check_file cable base file ≡ refusal 20 (length (flatten front))
  -- "8 .. use 256": the list's limit
  pub limit_256 : (list : EventList) → limit_of cable list ≡ min (length list.buffer / 6) 256
  -- "12 .. use 256": the lists that are sound
  pub sound_256 : (pools : Pools) (list : EventList)
      → T (sound cable pools list) ↔ (T (sound broadcast pools list) × (list.count ≤ 256))
  -- "26 use 256": at the section with event 257, if it and those before keep the other rules
  pub limit_257 : (base : ℕ) (file bs : List ℕ) (front rest : List (List ℕ)) (p : Progress) → base ≤ base_day_max
      → split_file file ≡ front ++ bs ∷ rest
      → walk cable base at_start front ≡ passed p
      → T (is_framed cable bs) → T (has_right_crc bs) → T (is_header p.before bs)
      → T (has_right_numbering (latest p.before) (header_in bs)) → T (is_event_loop base p.seen bs)
      → 257 ≤ length p.seen + length (split_events bs)
      → check_file cable base file ≡ refusal 26 (length (flatten front))
  -- beside the request, what the callers share: cable accepts broadcast's files that are within its sizes
  pub accepted_within : (base : ℕ) (file : List ℕ) → base ≤ base_day_max → Bytes file
      → Accepted cable base file
      ↔ (Accepted broadcast base file × Every (λ (s : Section). section_size s ≤ 1_024) (sections_in base file)
      × (length (section_events (sections_in base file)) ≤ 256))
  -- and a segment that eight sections of cable's hold, eight of broadcast's hold
  pub packed_within : (es : List Event) (index : ℕ) → EightHold cable es index → EightHold broadcast es index
