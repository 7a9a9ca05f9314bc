-- Demands 2 and 3, and what demand 1 says of refusals (specs/Refused.antt): one record type, its fields in groups, each
-- group under the clauses that it states. The value is `demands` of proofs/Demands.antt. Everything is said of what the
-- calls return and leave for one caller: `read`, `check_file`, `build`, `plan`, `edit`; what the fields speak of is in
-- specs/Given.antt. Which refusal comes, and with which value, is in the definitions of the calls, as Edit's plain
-- machine is; each call's contract equates it with its definition. A segment is its index: table 0x50 + index ÷ 32,
-- segment index mod 32. "In 2 and 3 base day and version are legal, the base day is the same for both, and Read's
-- record buffer has 12,288 numbers." Assumes nothing.
use Rattle.std.specs.Prelude.{◌≡◌, not, ◌↔◌, ℕ, suc, ◌*◌, ◌≤◌, ◌<◌, List, T, length}
use Rattle.eit.specs.Sizes.{sizes_of}
use Rattle.eit.specs.declared.Sizes.{Sizes}
use Rattle.eit.specs.declared.Caller.{Caller}
use Rattle.eit.specs.Limits.{base_day_max}
use Rattle.eit.specs.Fields.{Bytes}
use Rattle.eit.specs.Pools.{Pools}
use Rattle.eit.specs.Records.{EventList, record_size}
use Rattle.eit.specs.Sound.{sound, events_of}
use Rattle.eit.specs.declared.Identity.{Identity}
use Rattle.eit.specs.declared.Record.{Record}
use Rattle.sections.specs.Section.{Section, section_events}
use Rattle.sections.specs.Encode.{file_bytes}
use Rattle.sections.specs.Rules.{Rules}
use Rattle.sections.specs.Decode.{sections_in}
use Rattle.sections.specs.Count.{sections_counted, events_counted}
use Rattle.sections.specs.Offsets.{file_pools}
use Rattle.sections.specs.Read.{check_file, read, list_of}
use Rattle.sections.specs.Exact.{RecordBuffer, Accepted, SameUpTo, FollowsRules, reading_of}
use Rattle.schedule.specs.Extent.{last_table, last_table_id_of}
use Rattle.schedule.specs.Plan.{plan, planned}
use Rattle.schedule.specs.Build.{build, file_of}
use Rattle.schedule.specs.Given.{Given, built, events, with_tables, Carries, EightHold}
use Rattle.schedule.specs.Refused.{RefusedFor}

pub record DemandsFor (sizes : Sizes) : Type 0 where
  -- ---- Demand 2: "Read accepts exactly the files that follow their rules, packing aside, and returns the identity and
  -- events that the file's bytes carry"
  pub accepted_exactly : (base : ℕ) (file : List ℕ) → base ≤ base_day_max → Bytes file
      → Accepted sizes base file
      ↔ ((identity : Identity) × (rs : List Record) × FollowsRules sizes base file identity rs)
  pub read_exact : (base : ℕ) (file buffer : List ℕ) (identity : Identity) (rs : List Record) → base ≤ base_day_max
      → Bytes file
      → (read sizes base file buffer ≡ reading_of buffer identity rs)
      ↔ (FollowsRules sizes base file identity rs × (length rs * record_size ≤ length buffer))
  -- 16 tables of 256 sections: how long a buffer for any accepted file must be
  pub accepted_size : (base : ℕ) (file : List ℕ) → Bytes file → Accepted sizes base file
      → length file ≤ 16 * 256 * sizes.section_limit
  -- Read without a record buffer agrees in all but 27, which it never says
  pub check_agrees : (base : ℕ) (file buffer : List ℕ) → ((read sizes base file buffer).answer.number ≡ 27 → ⊥)
      → (read sizes base file buffer).answer ≡ check_file sizes base file
  pub check_never_27 : (base : ℕ) (file : List ℕ) → (check_file sizes base file).number ≡ 27 → ⊥
  -- ---- Demand 2: "the identity and events that the file's bytes carry": the records of an accepted file are a sound
  -- list with the file as day pool
  pub accepted_sound : (base : ℕ) (file series buffer : List ℕ) → Bytes file → Accepted sizes base file
      → RecordBuffer buffer
      → T (sound sizes (file_pools file series) (list_of (read sizes base file buffer)))
  -- and they are the events of the sections that the file's bytes show
  pub accepted_events : (base : ℕ) (file series buffer : List ℕ) → Bytes file → Accepted sizes base file
      → RecordBuffer buffer
      → events_of (file_pools file series) (list_of (read sizes base file buffer)) ≡ section_events (sections_in base file)
  -- Build of them says neither 12 nor 10, whatever else it is given
  pub accepted_packable : (base : ℕ) (file series buffer : List ℕ) → Bytes file → Accepted sizes base file
      → RecordBuffer buffer
      → (day : ℕ) (identity : Identity) (output : List ℕ)
      → let b = build sizes (file_pools file series) (list_of (read sizes base file buffer)) day identity output in
      (b.number ≡ 12 → ⊥) × (b.number ≡ 10 → ⊥)
  -- ---- Demand 2: "Build writes, byte for byte, the file that EN 300 468, OP-58 and 01's packing rule define"; "for a
  -- built file these are the ones Build was given"
  pub built_carries : (g : Given sizes) (output : List ℕ) → (built g output).number ≡ 0
      → Carries g (file_of (built g output))
  pub built_read : (g : Given sizes) (output buffer : List ℕ) → (built g output).number ≡ 0 → RecordBuffer buffer
      → (read sizes g.base (file_of (built g output)) buffer).answer
      ≡ record {
        number = 0;
        value = g.list.count;
        identity = with_tables (suc (last_table (events g))) g.identity;
        count = g.list.count;
      }
  -- unless Build says 10 it gives the file's length for every output: with 0 where the file fits, with 11 where it does
  -- not
  pub built_length : (g : Given sizes) (output other : List ℕ) → ((built g output).number ≡ 10 → ⊥)
      → let need = (built g output).value in
      (need ≤ length other
      → ((built g other).number ≡ 0) × ((built g other).value ≡ need) × (length (file_of (built g other)) ≡ need))
      × (length other < need → built g other ≡ record { number = 11; value = need; output = other })
  -- and it is the same file for every output
  pub built_same : (g : Given sizes) (output other : List ℕ) → (built g output).number ≡ 0 → (built g other).number ≡ 0
      → file_of (built g output) ≡ file_of (built g other)
  -- Plan's counts are the sections of Build's file in each segment, all 512
  pub built_planned : (g : Given sizes) (output : List ℕ) → (built g output).number ≡ 0 → (index : ℕ) → index < 512
      → planned (plan sizes g.pools g.list) index ≡ sections_counted g.base (file_of (built g output)) index
  -- "255 for an unpackable segment. Every entry is 254 if the list is unsound"
  pub plan_unpackable : (g : Given sizes) (index : ℕ) → index < 512
      → (planned (plan sizes g.pools g.list) index ≡ 255) ↔ (EightHold sizes (events g) index → ⊥)
  pub plan_unsound : (pools : Pools) (list : EventList) → T (not (sound sizes pools list)) → (index : ℕ) → index < 512
      → planned (plan sizes pools list) index ≡ 254
  -- ---- Demand 3: "For every sound list, and however long the output is, Build refuses the list as unpackable exactly
  -- when no accepted file, made by anyone, carries its events"
  pub unpackable_exactly : (g : Given sizes) (output : List ℕ)
      → ((built g output).number ≡ 10) ↔ ((file : List ℕ) → Carries g file → ⊥)
  -- the index is that of the lowest segment that no eight sections hold
  pub unpackable_lowest : (g : Given sizes) (output : List ℕ) → (built g output).number ≡ 10
      → let lowest = (built g output).value in
      (lowest < 512) × (EightHold sizes (events g) lowest → ⊥)
      × ((index : ℕ) → index < lowest → EightHold sizes (events g) index)
  -- ---- Demand 3: "Where Build writes, take any other accepted file that carries the same events, whoever made it and
  -- under whatever identity. In every segment it has at least as many sections as Build's file"
  pub fewest_sections : (g : Given sizes) (output : List ℕ) → (built g output).number ≡ 0
      → (file : List ℕ) → Carries g file → (index : ℕ)
      → sections_counted g.base (file_of (built g output)) index ≤ sections_counted g.base file index
  -- "In every segment, and for every k from 1 to 8, its first k sections hold at most as many events as the first k of
  -- Build's file"
  pub most_events : (g : Given sizes) (output : List ℕ) → (built g output).number ≡ 0
      → (file : List ℕ) → Carries g file → (index k : ℕ) → k ≤ 8
      → events_counted g.base file index k ≤ events_counted g.base (file_of (built g output)) index k
  -- and Build's file is the only one: with the same triplet, and the same versions of the tables that Build's file has,
  -- no other is as good in every segment. 02, W-208: "The best packing ignores versions": the two above ask for none,
  -- and this one, of Build under a rival's own, says that as good a rival is Build's file
  pub built_only : (g : Given sizes) (output : List ℕ) → (built g output).number ≡ 0
      → (file : List ℕ) → Carries g file
      → SameUpTo (last_table_id_of (events g)) g.identity (check_file sizes g.base file).identity
      → ((index : ℕ) → sections_counted g.base file index ≤ sections_counted g.base (file_of (built g output)) index)
      → ((index k : ℕ) → k ≤ 8
      → events_counted g.base (file_of (built g output)) index k ≤ events_counted g.base file index k)
      → file ≡ file_of (built g output)
  -- all count the sections that the file's bytes show: of joined sections that keep the rules, these sections
  pub sections_back : (base : ℕ) (identity : Identity) (ss : List Section) → base ≤ base_day_max → Rules sizes identity ss
      → sections_in base (file_bytes base ss) ≡ ss
  -- ---- Demand 1: "A refusal leaves them untouched, except that a refused edit keeps the edits before it"
  pub refused : RefusedFor sizes

-- 02, W-206: "Demand 3, whole, then ranges over lists and files within that caller's sizes. A claim over several calls
-- has one caller."
abbrev pub Demands : Type 0
Demands = (caller : Caller) → DemandsFor (sizes_of caller)
