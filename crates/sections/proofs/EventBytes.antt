-- Events that keep the rules come back from their bytes, and bytes that pass are those of the events that they are read
-- as: field by field, where running_status, free_CA and chain length are three digits of one word (`word_parts`,
-- `word_whole`). Assumes nothing.
use mathlib.Core.Path.{◌≡◌, refl, sym, ap, ◌∙◌}
use mathlib.Core.Bool.{Bool, true, false, not, ◌||◌}
use mathlib.Core.Logic.{⊎_elim}
use mathlib.Core.List.{List, ◌++◌}
use Prim.Native.Nat.{ℕ, ◌+◌, ◌*◌, ◌/◌, ◌%◌, ◌^◌, ◌≤◌, ◌<◌}
use native.Mathlib.Nat.{mod-lt, zero-lt-suc}
use native.Mathlib.Omega.{arith}
use lib.Dec.{T, eqb, eqb→eq, T_not}
use lib.ListN.{length, drop, length-drop, take-append-drop}
use lib.Seq.{take-add}
use Rattle.eit.specs.Limits.{base_day_max}
use Rattle.eit.specs.Fields.{Bytes, big_endian, value_of, bytes_at}
use Rattle.eit.specs.Time.{start_bytes, duration_bytes, is_start_bytes, is_duration_bytes, start_of}
use Rattle.eit.specs.Pools.{odd}
use Rattle.eit.specs.Chain.{is_chain}
use Rattle.eit.specs.Events.{Event}
use Rattle.eit.proofs.Test.{tests, eq_test, and_parts, or_cases, true_is, false_is, test_or}
use Rattle.eit.proofs.Fields.{bytes_append, bytes_drop, big_endian_bytes, value_back}
use Rattle.eit.proofs.Fields.{field_length, field_bytes, field_fits, field_forth}
use Rattle.eit.proofs.TimeLaws.{time_bytes_holds, duration_back, duration_is, duration_only}
use Rattle.eit.proofs.TimeLaws.{start_bytes_holds, start_back, start_is, start_only}
use Rattle.sections.specs.Segment.{segment_index, table_of, first_section, first_of}
use Rattle.sections.specs.Section.{Header, event_overhead}
use Rattle.sections.specs.Encode.{running_status, bit_of, status_word, event_bytes}
use Rattle.sections.specs.Decode.{status_field, stated_event_size, event_in}
use Rattle.sections.specs.EventTests.{is_in_segment, is_event}
use Rattle.sections.specs.Rules.{EventRules}
use Rattle.sections.proofs.Lengths.{event_length}
use Rattle.sections.proofs.Split.{Stated}

-- a chain whose length has 12 bits
abbrev pub Short : Event → Type 0
Short e = length e.chain < 0x1000

-- what an event is written as is bytes, if its chain is
pub event_bytes_holds : (base : ℕ) (e : Event) → Bytes e.chain → Bytes (event_bytes base e)
unfolding event_bytes
event_bytes_holds base e chain =
    let id : List ℕ = big_endian 2 e.id in
    let start : List ℕ = start_bytes base e.start in
    let duration : List ℕ = duration_bytes e.duration in
    let word : List ℕ = big_endian 2 (status_word e) in
    bytes_append (id ++ start ++ duration ++ word) e.chain
    (bytes_append (id ++ start ++ duration) word
    (bytes_append (id ++ start) duration
    (bytes_append id start (big_endian_bytes 2 e.id) (start_bytes_holds base e.start))
    (time_bytes_holds e.duration))
    (big_endian_bytes 2 (status_word e)))
    chain

-- ---- running_status, free_CA and chain length in one word

-- the three digits of a word, and the word of its three digits
word_parts : (status bit n : ℕ) → status ≤ 7 → bit ≤ 1 → n < 0x1000
    → let w = status * 0x2000 + bit * 0x1000 + n in
    (w / 0x2000 ≡ status) × (w / 0x1000 % 2 ≡ bit) × (w % 0x1000 ≡ n) × (w < 256 ^ 2)
word_parts status bit n small one few = (omega arith, omega arith, omega arith, omega arith)

word_whole : (w : ℕ) → w / 0x2000 * 0x2000 + w / 0x1000 % 2 * 0x1000 + w % 0x1000 ≡ w
word_whole w = omega arith

status_small : (b : Bool) → running_status b ≤ 7
status_small true = omega arith
status_small false = omega arith

bit_small : (b : Bool) → bit_of b ≤ 1
bit_small true = omega arith
bit_small false = omega arith

-- ---- back

module _ (base : ℕ) (e : Event) (short : Short e) where
  status_parts :
      (status_word e / 0x2000 ≡ running_status e.off_air)
      × (status_word e / 0x1000 % 2 ≡ bit_of e.free_ca)
      × (status_word e % 0x1000 ≡ length e.chain)
      × (status_word e < 256 ^ 2)
  status_parts =
      word_parts (running_status e.off_air) (bit_of e.free_ca) (length e.chain) (status_small e.off_air)
      (bit_small e.free_ca) short

  word_back : value_of (big_endian 2 (status_word e)) ≡ status_word e
  word_back = value_back 2 (status_word e) status_parts.3

  size_back : event_overhead + value_of (big_endian 2 (status_word e)) % 0x1000 ≡ event_overhead + length e.chain
  size_back = ap (λ (w : ℕ). event_overhead + w % 0x1000) word_back ∙ ap (λ (n : ℕ). event_overhead + n) status_parts.2

  -- an event's bytes state how many they are
  pub event_stated : Stated stated_event_size (event_bytes base e)
  unfolding event_bytes
  event_stated = record { some = omega arith; stated = λ rest. size_back ∙ sym (event_length base e) }

off_air_back : (b : Bool) → eqb (running_status b) 5 ≡ b
off_air_back true = refl
off_air_back false = refl

free_back : (b : Bool) → eqb (bit_of b) 1 ≡ b
free_back true = refl
free_back false = refl

status_is : (b : Bool) → T (eqb (running_status b) 0 || eqb (running_status b) 5)
status_is true = tt
status_is false = tt

module _ (base : ℕ) (legal : base ≤ base_day_max) (h : Header) (e : Event) (rules : EventRules h e)
    (short : Short e) where
  -- the bytes of an event that keeps the rules are read as this event
  pub event_back : event_in base (event_bytes base e) ≡ e
  unfolding event_bytes
  event_back =
      let word = word_back base e short in
      let digits = status_parts base e short in
      λ i. record {
        id = value_back 2 e.id (omega (arith, rules.id)) i;
        start = start_back base e.start legal rules.start i;
        duration = duration_back e.duration rules.duration_high i;
        off_air = (ap (λ (w : ℕ). eqb (w / 0x2000) 5) word ∙ ap (λ (n : ℕ). eqb n 5) digits.0
            ∙ off_air_back e.off_air) i;
        free_ca = (ap (λ (w : ℕ). odd (w / 0x1000)) word ∙ ap (λ (n : ℕ). eqb n 1) digits.1 ∙ free_back e.free_ca)
            i;
        chain = e.chain;
      }

  -- and pass
  pub event_is : T (is_event base h (event_bytes base e))
  unfolding is_event event_bytes
  event_is =
      let w : ℕ = value_of (big_endian 2 (status_word e)) in
      let the-start : start_of base (start_bytes base e.start) ≡ e.start =
      start_back base e.start legal rules.start in
      let whole : T (eqb (length (event_bytes base e)) (event_overhead + w % 0x1000)) =
      eq_test _ _ (event_length base e ∙ sym (size_back base e short)) in
      let start : T (is_start_bytes base (start_bytes base e.start)) = start_is base e.start legal rules.start in
      let duration : T (is_duration_bytes (duration_bytes e.duration)) =
      duration_is e.duration rules.duration_low rules.duration_high in
      let status : T (eqb (w / 0x2000) 0 || eqb (w / 0x2000) 5) =
      rw (word_back base e short, (status_parts base e short).0) (status_is e.off_air) in
      let table : T (eqb (table_of (segment_index (start_of base (start_bytes base e.start)))) h.table_id) =
      eq_test _ _ (ap (λ (s : ℕ). table_of (segment_index s)) the-start ∙ rules.table) in
      let segment : T
      (eqb (first_section (segment_index (start_of base (start_bytes base e.start)))) (first_of h.section_number)) =
      eq_test _ _ (ap (λ (s : ℕ). first_section (segment_index s)) the-start ∙ rules.segment) in
      let chain = rules.chain in
      search tests depth 8

-- ---- forth

running_forth : (n : ℕ) → T (eqb n 0 || eqb n 5) → running_status (eqb n 5) ≡ n
running_forth n t =
    ⊎_elim
    (λ (none : T (eqb n 0)). let zero_is : n ≡ 0 = eqb→eq n 0 none in rw zero_is)
    (λ (five : T (eqb n 5)). rw (running_status, true_is (eqb n 5) five) (sym (eqb→eq n 5 five)))
    (or_cases (eqb n 0) (eqb n 5) t)

pub bit_forth : (n : ℕ) → bit_of (odd n) ≡ n % 2
bit_forth n =
    ⊎_elim
    (λ (one : T (odd n)). rw (bit_of, true_is (odd n) one) (sym (eqb→eq (n % 2) 1 one)))
    (λ (none : T (not (odd n))).
    let other : n % 2 ≡ 1 → ⊥ = λ one. T_not (odd n) none (eq_test (n % 2) 1 one) in
    rw (bit_of, false_is (odd n) none) (omega (arith, mod-lt n (zero-lt-suc 1), other)))
    (test_or (odd n))

-- the fields that stand before a chain, and the chain
fields_joined : (bs : List ℕ)
    → bytes_at 0 2 bs ++ bytes_at 2 5 bs ++ bytes_at 7 3 bs ++ bytes_at 10 2 bs ++ drop event_overhead bs ≡ bs
fields_joined bs = rw (← take-add 2 5 bs, ← take-add 7 3 bs, ← take-add 10 2 bs) (take-append-drop event_overhead bs)

-- what passing says, part by part
event_tests : (base : ℕ) (h : Header) (bs : List ℕ) → T (is_event base h bs)
    → T (eqb (length bs) (stated_event_size bs))
    × T (is_start_bytes base (bytes_at 2 5 bs))
    × T (is_duration_bytes (bytes_at 7 3 bs))
    × T (eqb (status_field bs / 0x2000) 0 || eqb (status_field bs / 0x2000) 5)
    × T (is_chain (drop event_overhead bs))
    × T (is_in_segment h (start_of base (bytes_at 2 5 bs)))
unfolding is_event
event_tests base h bs t = search tests depth 8

-- bytes that pass are those of the event that they are read as, and it keeps the rules
pub event_forth : (base : ℕ) (h : Header) (bs : List ℕ) → Bytes bs → T (is_event base h bs)
    → (event_bytes base (event_in base bs) ≡ bs) × EventRules h (event_in base bs)
unfolding event_bytes
event_forth base h bs bytes t =
    let w : ℕ = status_field bs in
    let start : ℕ = start_of base (bytes_at 2 5 bs) in
    let (all, starts, lasts, status, chain, inside) = event_tests base h bs t in
    let whole : length bs ≡ stated_event_size bs = eqb→eq (length bs) (stated_event_size bs) all in
    let long : 12 ≤ length bs = omega arith in
    let (table, segment) =
    and_parts (eqb (table_of (segment_index start)) h.table_id)
    (eqb (first_section (segment_index start)) (first_of h.section_number)) inside in
    let (same_start, soon) =
    start_only base (bytes_at 2 5 bs) (field_length bs 2 5 (omega arith)) (field_bytes bs bytes 2 5) starts in
    let (same-duration, least, most) = duration_only (bytes_at 7 3 bs) (field_length bs 7 3 (omega arith)) lasts in
    let rest : length (drop event_overhead bs) ≡ w % 0x1000 = length-drop event_overhead bs ∙ omega arith in
    let same_word : status_word (event_in base bs) ≡ w =
    (λ i. running_forth (w / 0x2000) status i * 0x2000 + bit_forth (w / 0x1000) i * 0x1000 + rest i) ∙ word_whole w in
    let rules : EventRules h (event_in base bs) =
    record {
      id = omega (arith, field_fits bs bytes 0 2 (omega arith));
      start = soon;
      duration_low = least;
      duration_high = most;
      bytes = bytes_drop event_overhead bs bytes;
      chain = chain;
      table = eqb→eq (table_of (segment_index start)) h.table_id table;
      segment = eqb→eq (first_section (segment_index start)) (first_of h.section_number) segment;
    } in (
      (λ i.
          field_forth bs bytes 0 2 (omega arith) i
          ++ same_start i
          ++ same-duration i
          ++ (ap (big_endian 2) same_word ∙ field_forth bs bytes 10 2 long) i
          ++ drop event_overhead bs)
          ∙ fields_joined bs,
      rules,
    )
