-- The records of sections that stand in a file are those sections' events with the file as day pool, and valid: by
-- where bytes stand in the file, from a file to its sections, from a section to its events, from an event to its chain.
-- Assumes nothing.
use mathlib.Core.Path.{◌≡◌, refl, sym, ap, ap₂, ◌∙◌}
use mathlib.Core.Bool.{Bool, true, false}
use Prim.Native.Nat.{ℕ, ◌+◌, ◌*◌, ◌≤◌}
use native.Mathlib.Omega.{arith}
use mathlib.Core.List.{List, [], ◌∷◌, ◌++◌, append_assoc, map-append}
use lib.Dec.{T}
use lib.ListN.{length, length-append}
use lib.Seq.{take-append_seam, drop-append_seam}
use Rattle.eit.specs.Limits.{marks_max}
use Rattle.eit.specs.Fields.{big_endian}
use Rattle.eit.specs.Time.{start_bytes, duration_bytes}
use Rattle.eit.specs.Crc.{crc32}
use Rattle.eit.specs.Pools.{Pools, marks_free_ca, marks_off_air, pool_of, part, choose}
use Rattle.eit.specs.Events.{Event, event_of, events_in}
use Rattle.eit.specs.Sound.{in_range, has_chain, all_valid, ids_of}
use Rattle.eit.specs.declared.Record.{Record}
use Rattle.eit.proofs.Test.{tests}
use Rattle.eit.proofs.Pools.{part_inside, choose_part}
use Rattle.eit.proofs.Sound.{facts_range, facts_chain, valid_append}
use Rattle.sections.specs.Every.{Every}
use Rattle.sections.specs.Section.{Header, Section, header_size, event_overhead}
use Rattle.sections.specs.Section.{event_size, section_size, section_events, event_ids}
use Rattle.sections.specs.Encode.{bit_of, status_word, event_bytes, header_bytes}
use Rattle.sections.specs.Encode.{event_loop_bytes, covered_bytes, section_bytes, file_bytes}
use Rattle.sections.specs.Rules.{EventRules}
use Rattle.sections.specs.Offsets.{record_at, records_at, records_from, file_pools}
use Rattle.sections.proofs.Lengths.{event_length, header_length, section_length}

-- ---- as many records as events, with their ids

at_count : (at : ℕ) (es : List Event) → length (records_at at es) ≡ length es
at_count at [] = refl
at_count at (e ∷ es) = omega (arith, at_count (at + event_size e) es)

pub records_count : (at : ℕ) (ss : List Section) → length (records_from at ss) ≡ length (section_events ss)
unfolding section_events
records_count at [] = refl
records_count at (s ∷ ss) =
    simp length-append (omega (arith, at_count (at + header_size) s.events, records_count (at + section_size s) ss))

at_ids : (at : ℕ) (es : List Event) → ids_of (records_at at es) ≡ event_ids es
at_ids at [] = refl
at_ids at (e ∷ es) = ap (λ (ns : List ℕ). e.id ∷ ns) (at_ids (at + event_size e) es)

pub records_ids : (at : ℕ) (ss : List Section) → ids_of (records_from at ss) ≡ event_ids (section_events ss)
unfolding section_events
records_ids at [] = refl
records_ids at (s ∷ ss) =
    rw (
      map-append (λ (r : Record). r.id) (records_at (at + header_size) s.events)
          (records_from (at + section_size s) ss),
      at_ids (at + header_size) s.events,
      records_ids (at + section_size s) ss,
    )
    (sym (map-append (λ (e : Event). e.id) s.events (section_events ss)))

-- ---- where bytes stand in a file

record Stands (file : List ℕ) (at : ℕ) (bs : List ℕ) : Type 0 where
  front : List ℕ
  rest : List ℕ
  offset_is : length front ≡ at
  whole : file ≡ front ++ (bs ++ rest)

module _ (file : List ℕ) (at : ℕ) where
  stands_left : (bs cs : List ℕ) → Stands file at (bs ++ cs) → Stands file at bs
  stands_left bs cs h =
      record {
        front = h.front;
        rest = cs ++ h.rest;
        offset_is = h.offset_is;
        whole = h.whole ∙ ap (λ (ds : List ℕ). h.front ++ ds) (append_assoc bs cs h.rest);
      }

  stands_right : (bs cs : List ℕ) → Stands file at (bs ++ cs) → Stands file (at + length bs) cs
  stands_right bs cs h =
      record {
        front = h.front ++ bs;
        rest = h.rest;
        offset_is = length-append h.front bs ∙ ap (λ (n : ℕ). n + length bs) h.offset_is;
        whole =
            h.whole
            ∙ ap (λ (ds : List ℕ). h.front ++ ds) (append_assoc bs cs h.rest)
            ∙ sym (append_assoc h.front bs (cs ++ h.rest));
      }

  stands_inside : (bs : List ℕ) → Stands file at bs → at + length bs ≤ length file
  stands_inside bs h = rw h.whole (simp length-append (omega (arith, h.offset_is)))

  stands_part : (bs : List ℕ) → Stands file at bs → part file at (length bs) ≡ bs
  stands_part bs h =
      part_inside file at (length bs) (stands_inside bs h)
      ∙ rw (h.whole, ← h.offset_is, drop-append_seam h.front (bs ++ h.rest)) (take-append_seam bs h.rest)

-- ---- an event

-- the marks of a record: no 2, so the day pool
module _ (pools : Pools) where
  marks_day : (free_ca off_air : Bool) → pool_of pools (bit_of free_ca + bit_of off_air * 4) ≡ pools.day
  marks_day true true = refl
  marks_day true false = refl
  marks_day false true = refl
  marks_day false false = refl

marks_free : (free_ca off_air : Bool) → marks_free_ca (bit_of free_ca + bit_of off_air * 4) ≡ free_ca
marks_free true true = refl
marks_free true false = refl
marks_free false true = refl
marks_free false false = refl

marks_off : (free_ca off_air : Bool) → marks_off_air (bit_of free_ca + bit_of off_air * 4) ≡ off_air
marks_off true true = refl
marks_off true false = refl
marks_off false true = refl
marks_off false false = refl

marks_few : (free_ca off_air : Bool) → bit_of free_ca + bit_of off_air * 4 ≤ marks_max
marks_few true true = omega arith
marks_few true false = omega arith
marks_few false true = omega arith
marks_few false false = omega arith

module _ (file series : List ℕ) (base at : ℕ) (e : Event) (h : Stands file at (event_bytes base e)) where
  -- its chain, behind the 12 bytes before it
  chain_stands : Stands file (at + event_overhead) e.chain
  unfolding event_bytes
  chain_stands =
      stands_right file at
      (big_endian 2 e.id ++ start_bytes base e.start ++ duration_bytes e.duration ++ big_endian 2 (status_word e))
      e.chain h

  chain_chosen : choose (file_pools file series) (record_at at e).marks (at + event_overhead) (length e.chain)
      ≡ e.chain
  chain_chosen =
      choose_part (file_pools file series) (record_at at e).marks (at + event_overhead) (length e.chain)
      ∙ rw (marks_day (file_pools file series) e.free_ca e.off_air)
      (stands_part file (at + event_overhead) e.chain chain_stands)

  record_event : event_of (file_pools file series) (record_at at e) ≡ e
  record_event =
      λ i. record {
        id = e.id;
        start = e.start;
        duration = e.duration;
        off_air = marks_off e.free_ca e.off_air i;
        free_ca = marks_free e.free_ca e.off_air i;
        chain = chain_chosen i;
      }

  event_ranges : (header : Header) → EventRules header e → T (in_range (record_at at e))
  event_ranges header r =
      facts_range (record_at at e)
      (record {
        id = r.id;
        start = r.start;
        duration_low = r.duration_low;
        duration_high = r.duration_high;
        marks = marks_few e.free_ca e.off_air;
      })

  event_chain : (header : Header) → EventRules header e → T (has_chain (file_pools file series) (record_at at e))
  event_chain header r =
      facts_chain (file_pools file series) (record_at at e)
      (rw (marks_day (file_pools file series) e.free_ca e.off_air)
      (stands_inside file (at + event_overhead) e.chain chain_stands))
      (rw chain_chosen r.chain)

-- ---- events one behind the other, and sections

module _ (file series : List ℕ) (base : ℕ) where
  loop_first : (at : ℕ) (e : Event) (es : List Event) → Stands file at (event_loop_bytes base (e ∷ es))
      → Stands file at (event_bytes base e)
  unfolding event_loop_bytes
  loop_first at e es h = stands_left file at (event_bytes base e) (event_loop_bytes base es) h

  loop_rest : (at : ℕ) (e : Event) (es : List Event) → Stands file at (event_loop_bytes base (e ∷ es))
      → Stands file (at + event_size e) (event_loop_bytes base es)
  unfolding event_loop_bytes
  loop_rest at e es h =
      rw (event_length base e) at (stands_right file at (event_bytes base e) (event_loop_bytes base es) h)

  loop_events : (at : ℕ) (es : List Event) → Stands file at (event_loop_bytes base es)
      → events_in (file_pools file series) (records_at at es) ≡ es
  loop_events at [] h = refl
  loop_events at (e ∷ es) h =
      ap₂ (λ (d : Event) (ds : List Event). d ∷ ds) (record_event file series base at e (loop_first at e es h))
      (loop_events (at + event_size e) es (loop_rest at e es h))

  loop_valid : (header : Header) (at : ℕ) (es : List Event) → Stands file at (event_loop_bytes base es)
      → Every (EventRules header) es
      → T (all_valid (file_pools file series) (records_at at es))
  loop_valid header at [] h r = tt
  loop_valid header at (e ∷ es) h r =
      let first = loop_first at e es h in
      search (
        tests,
        event_ranges file series base at e first header r.0,
        event_chain file series base at e first header r.0,
        loop_valid header (at + event_size e) es (loop_rest at e es h) r.1,
      )

  -- the events of a section, behind its header
  section_loop : (at : ℕ) (s : Section) → Stands file at (section_bytes base s)
      → Stands file (at + header_size) (event_loop_bytes base s.events)
  unfolding section_bytes
  section_loop at s h =
      let covered = stands_left file at (covered_bytes base s) (big_endian 4 (crc32 (covered_bytes base s))) h in
      rw (header_length (section_size s) s.header) at
      (stands_right file at (header_bytes (section_size s) s.header) (event_loop_bytes base s.events) covered)

  file_first : (at : ℕ) (s : Section) (ss : List Section) → Stands file at (file_bytes base (s ∷ ss))
      → Stands file at (section_bytes base s)
  unfolding file_bytes
  file_first at s ss h = stands_left file at (section_bytes base s) (file_bytes base ss) h

  file_rest : (at : ℕ) (s : Section) (ss : List Section) → Stands file at (file_bytes base (s ∷ ss))
      → Stands file (at + section_size s) (file_bytes base ss)
  unfolding file_bytes
  file_rest at s ss h = rw (section_length base s) at (stands_right file at (section_bytes base s) (file_bytes base ss) h)

  from_events_holds : (at : ℕ) (ss : List Section) → Stands file at (file_bytes base ss)
      → events_in (file_pools file series) (records_from at ss) ≡ section_events ss
  unfolding section_events
  from_events_holds at [] h = refl
  from_events_holds at (s ∷ ss) h =
      map-append (event_of (file_pools file series)) (records_at (at + header_size) s.events)
      (records_from (at + section_size s) ss)
      ∙ ap₂ (λ (ds es : List Event). ds ++ es)
      (loop_events (at + header_size) s.events (section_loop at s (file_first at s ss h)))
      (from_events_holds (at + section_size s) ss (file_rest at s ss h))

  from_valid : (at : ℕ) (ss : List Section) → Stands file at (file_bytes base ss)
      → Every (λ (s : Section). Every (EventRules s.header) s.events) ss
      → T (all_valid (file_pools file series) (records_from at ss))
  from_valid at [] h r = tt
  from_valid at (s ∷ ss) h r =
      valid_append (file_pools file series) (records_at (at + header_size) s.events)
      (records_from (at + section_size s) ss)
      (loop_valid s.header (at + header_size) s.events (section_loop at s (file_first at s ss h)) r.0)
      (from_valid (at + section_size s) ss (file_rest at s ss h) r.1)

-- sections that stand between other bytes: their records' events are theirs
pub records_events : (base : ℕ) (before : List ℕ) (ss : List Section) (after series : List ℕ)
    → events_in (file_pools (before ++ (file_bytes base ss ++ after)) series) (records_from (length before) ss)
    ≡ section_events ss
records_events base before ss after series =
    from_events_holds (before ++ (file_bytes base ss ++ after)) series base (length before) ss
    (record { front = before; rest = after; offset_is = refl; whole = refl })

-- and the records are valid
pub records_valid : (base : ℕ) (before : List ℕ) (ss : List Section) (after series : List ℕ)
    → Every (λ (s : Section). Every (EventRules s.header) s.events) ss
    → T (all_valid (file_pools (before ++ (file_bytes base ss ++ after)) series) (records_from (length before) ss))
records_valid base before ss after series =
    from_valid (before ++ (file_bytes base ss ++ after)) series base (length before) ss
    (record { front = before; rest = after; offset_is = refl; whole = refl })
