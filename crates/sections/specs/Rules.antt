-- The rules of a file of sections, as document 01 says them ("The file of sections"): what must hold of the sections,
-- whoever made them. Soundness's words for a chain, for an event that may follow another and for ids that differ serve
-- here too; all else is said in the paper's own terms. Read (specs/Read.antt) has its own tests, and accepts just these
-- files (proofs/Exact.antt). Assumes nothing.
use Rattle.std.specs.Prelude.{◌≡◌, ◌⊎◌, ℕ, ◌+◌, ◌^◌, ◌≤◌, ◌<◌, List, [], ◌∷◌, T, length}
use Rattle.eit.specs.declared.Sizes.{Sizes}
use Rattle.eit.specs.Limits.{id_max, window_seconds, duration_min, duration_max, version_max}
use Rattle.eit.specs.Fields.{Bytes}
use Rattle.eit.specs.Among.{all_differ}
use Rattle.eit.specs.Chain.{is_chain}
use Rattle.eit.specs.Events.{Event, rising}
use Rattle.eit.specs.Identity.{tables}
use Rattle.eit.specs.declared.Triplet.{Triplet}
use Rattle.eit.specs.declared.Identity.{Identity}
use Rattle.sections.specs.Every.{Every}
use Rattle.sections.specs.Segment.{table_first, table_max, segment_index, table_of, first_section, first_of}
use Rattle.sections.specs.Section.{Header, version_of, Section, section_size, headers_of, section_events, event_ids}

-- ---- numbering. Let a section have section_number S, segment_last_section_number G, last_section_number L, and s0 = S
-- − S mod 8

-- s0 ≤ S ≤ G ≤ L, G ≤ s0 + 7, and G = L or L ≥ s0 + 8
pub record Numbered (h : Header) : Type 0 where
  pub first : first_of h.section_number ≤ h.section_number
  pub segment : h.section_number ≤ h.segment_last_section_number
  pub table : h.segment_last_section_number ≤ h.last_section_number
  pub eight : h.segment_last_section_number ≤ first_of h.section_number + 7
  pub whole : (h.segment_last_section_number ≡ h.last_section_number)
      ⊎ (first_of h.section_number + 8 ≤ h.last_section_number)

-- the first is table 0x50, section 0
pub record First (h : Header) : Type 0 where
  pub table : h.table_id ≡ table_first
  pub section : h.section_number ≡ 0

-- in the same table
pub record Within (g h : Header) : Type 0 where
  pub table : h.table_id ≡ g.table_id
  pub last : h.last_section_number ≡ g.last_section_number

-- h is right behind g
pub record Next (g h : Header) : Type 0 where
  -- if S < G the next section is S + 1 with equal G and L
  pub segment : g.section_number < g.segment_last_section_number
      → Within g h × (h.section_number ≡ g.section_number + 1)
      × (h.segment_last_section_number ≡ g.segment_last_section_number)
  -- if S = G < L it is s0 + 8 with equal L
  pub table : g.section_number ≡ g.segment_last_section_number → g.segment_last_section_number < g.last_section_number
      → Within g h × (h.section_number ≡ first_of g.section_number + 8)
  -- if S = L it is section 0 of the next table
  pub tables : g.section_number ≡ g.last_section_number → (h.table_id ≡ g.table_id + 1) × (h.section_number ≡ 0)

-- or the file ends after last_table_id
pub record Last (h : Header) : Type 0 where
  pub section : h.section_number ≡ h.last_section_number
  pub table : h.table_id ≡ h.last_table_id

abbrev pub Succeeding : Header → List Header → Type 0
Succeeding g [] = Last g
Succeeding g (h ∷ hs) = Next g h × Succeeding h hs

-- a file has at least one section
abbrev pub Ordered : List Header → Type 0
Ordered [] = ⊥
Ordered (h ∷ hs) = First h × Succeeding h hs

-- ---- one section

-- service_id, transport_stream_id and original_network_id have two bytes ..
pub record TripletRules (triplet : Triplet) : Type 0 where
  pub service : triplet.service_id < 256 ^ 2
  pub stream : triplet.transport_stream_id < 256 ^ 2
  pub network : triplet.original_network_id < 256 ^ 2

-- .. and each of the sixteen versions 5 bits
pub record IdentityRules (identity : Identity) : Type 0 where
  pub triplet_rules : TripletRules identity.triplet
  pub sixteen : length identity.versions ≡ tables
  pub version_rules : Every (λ (version : ℕ). version ≤ version_max) identity.versions

-- triplet and last_table_id are the same in every section; 02, W-208: the version in every section of a table; no table
-- is past last_table_id; the numbers have a byte each
pub record HeaderRules (identity : Identity) (last_table_id : ℕ) (h : Header) : Type 0 where
  pub same_triplet : h.triplet ≡ identity.triplet
  pub same_version : h.version ≡ version_of identity h.table_id
  pub same_last_table : h.last_table_id ≡ last_table_id
  pub least : table_first ≤ h.table_id
  pub most : h.table_id ≤ last_table_id
  pub numbered : Numbered h
  pub byte : h.last_section_number < 256

-- start and duration stay in a record's range; a chain is bytes; each event starts in its section's segment
pub record EventRules (h : Header) (e : Event) : Type 0 where
  pub id : e.id ≤ id_max
  pub start : e.start < window_seconds
  pub duration_low : duration_min ≤ e.duration
  pub duration_high : e.duration ≤ duration_max
  pub bytes : Bytes e.chain
  pub chain : T (is_chain e.chain)
  pub table : table_of (segment_index e.start) ≡ h.table_id
  pub segment : first_section (segment_index e.start) ≡ first_of h.section_number

-- a section without events is alone in its segment (S = G = s0)
pub record Alone (h : Header) : Type 0 where
  pub number : h.section_number ≡ first_of h.section_number
  pub last : h.segment_last_section_number ≡ first_of h.section_number

-- a section is at most as long as its length field may say (section_length at most 4,093; 02, W-206: cable's 1,021)
pub record SectionRules (sizes : Sizes) (identity : Identity) (last_table_id : ℕ) (s : Section) : Type 0 where
  pub header_rules : HeaderRules identity last_table_id s.header
  pub event_rules : Every (EventRules s.header) s.events
  pub alone : s.events ≡ [] → Alone s.header
  pub size : section_size s ≤ sizes.section_limit

-- ---- the file

pub record Rules (sizes : Sizes) (identity : Identity) (ss : List Section) : Type 0 where
  pub identity_rules : IdentityRules identity
  pub last_table_id : ℕ
  -- last_table_id (0x50 to 0x5F); not below 0x50, since no table is past it
  pub last_table : last_table_id ≤ table_max
  pub sections : Every (SectionRules sizes identity last_table_id) ss
  pub ordered : Ordered (headers_of ss)
  -- over the file starts rise strictly, ids differ, and events are at most 2,048 (02, W-206: cable's 256); 02, W-204:
  -- each event's start + duration is at most the next event's start, wherever that stands
  pub rises : T (rising (section_events ss))
  pub differ : T (all_differ (event_ids (section_events ss)))
  pub few : length (section_events ss) ≤ sizes.event_limit
