-- The event at the front of some bytes, test by test: what the code reads from the bytes on is what the event's own
-- bytes show, since they are a front of these. Assumes nothing.
use Prim.Native.Nat.{ℕ, ◌+◌, ◌-◌, ◌*◌, ◌/◌, ◌%◌, ◌^◌, ◌≤◌, ◌<◌}
use mathlib.Core.Bool.{true, false, ◌&&◌, ◌||◌}
use mathlib.Core.List.{List}
use mathlib.Core.Logic.{⊎_elim}
use mathlib.Core.Path.{◌≡◌, sym, ap, ◌∙◌}
use native.Mathlib.Omega.{arith}
use borrow.Author.Tests.{eq-eqb, ne_eqb}
use lib.Dec.{eqb}
use lib.ListN.{length, take, drop, get_or, length-drop}
use lib.Seq.{take_all, take-take, length-take-le}
use Rattle.std.specs.Prelude.{Some, None, slice_range}
use Rattle.std.proofs.lemmas.Bool.Decides.{nat_tests}
use Rattle.eit.specs.Fields.{value_of, bytes_at, field}
use Rattle.eit.specs.Time.{is_start_bytes, is_duration_bytes, seconds_of, start_of}
use Rattle.eit.specs.Chain.{is_chain}
use Rattle.eit.specs.Pools.{odd}
use Rattle.eit.specs.declared.Record.{Record}
use Rattle.eit.proofs.Fields.{bytes_all}
use Rattle.eit.proofs.Test.{true_is, eq_or_not}
use Rattle.sections.specs.Section.{Header, event_overhead}
use Rattle.sections.specs.Encode.{running_status, bit_of}
use Rattle.sections.specs.Decode.{status_field, stated_event_size, event_in}
use Rattle.sections.specs.Offsets.{record_at}
use Rattle.sections.specs.EventTests.{is_in_segment, is_event}
use Rattle.sections.proofs.EventBytes.{bit_forth}
use Rattle.codec.proofs.FieldLaws.{drop_take, field_read}
use Rattle.codec_time.specs.TimeRead.{duration_at, start_at}
use Rattle.codec_time.proofs.TimeReadLaws.{no_start, is_start, no_duration, is_duration}
use Rattle.codec_section.specs.EventRead.{is_whole_event, front_event, event_read}

-- ---- the segment is all that `is_event` asks besides

pub event_whole : (base : ℕ) (h : Header) (bs : List ℕ)
    → is_event base h bs ≡ (is_whole_event base bs && is_in_segment h (start_of base (bytes_at 2 5 bs)))
unfolding is_event is_whole_event
event_whole base h bs = grind (arith, nat_tests)

-- ---- marks and the bits of the word

pub running_is : (n : ℕ) → running_status (odd n) ≡ n % 2 * 5
running_is n =
    ⊎_elim
    (λ one. rw (running_status, eq-eqb (n % 2) 1 one) (omega arith))
    (λ other. rw (running_status, ne_eqb (n % 2) 1 other) (omega (arith, other)))
    (eq_or_not (n % 2) 1)

-- 5 is off air, 0 is not
off_air_is : (status : ℕ) → (eqb status 0 || eqb status 5) ≡ true → bit_of (eqb status 5) ≡ status / 5
off_air_is status passed = grind (arith, nat_tests)

-- ---- what was read, and what it says of the event's bytes

module _ (base : ℕ) (bs : List ℕ) where
  pub whole_read : is_whole_event base (front_event bs) ≡ true
      → event_read base bs ≡ Some (record_at 0 (event_in base (front_event bs)))
  unfolding event_read
  whole_read holds = rw (event_read, holds)

  pub broken_read : is_whole_event base (front_event bs) ≡ false → event_read base bs ≡ None
  unfolding event_read
  broken_read fails = rw (event_read, fails)

  pub whole_only : {r : Record} → event_read base bs ≡ Some r
      → (is_whole_event base (front_event bs) ≡ true) × (r ≡ record_at 0 (event_in base (front_event bs)))
  unfolding event_read
  whole_only {r} read = grind (arith, nat_tests)

  pub broken_only : event_read base bs ≡ None → is_whole_event base (front_event bs) ≡ false
  unfolding event_read
  broken_only read = grind (arith, nat_tests)

-- ---- the bytes of the event are a front of the bytes

-- the word of the status, as it is read
module _ (base : ℕ) (bs : List ℕ) {word : ℕ} (all : (k : ℕ) → get_or bs k 0 < 256)
    (read : word ≡ status_field bs % 2 ^ 32) where
  is_word : word ≡ status_field bs
  is_word = (field_read bs 10 2 (bytes_all bs all) (omega arith) read).0

  size : stated_event_size bs ≡ event_overhead + word % 0x1000
  size = rw is_word

  pub event_truncated : length bs < event_overhead + word % 0x1000 → event_read base bs ≡ None
  unfolding is_whole_event
  event_truncated short =
      let all : front_event bs ≡ bs = take_all (stated_event_size bs) bs (omega arith) in
      let other : length bs ≡ stated_event_size bs → ⊥ = λ same. omega arith in
      broken_read base bs (rw (all, ne_eqb (length bs) (stated_event_size bs) other))

  module _ (room : event_overhead + word % 0x1000 ≤ length bs) where
    front : (at width : ℕ) → at + width ≤ event_overhead → bytes_at at width (front_event bs) ≡ bytes_at at width bs
    front at width inside =
        ap (take width) (drop_take at (stated_event_size bs) bs)
        ∙ take-take width (stated_event_size bs - at) (drop at bs) (omega arith)

    same_word : status_field (front_event bs) ≡ word
    same_word = ap value_of (front 10 2 (omega arith)) ∙ sym is_word

    same_size : length (front_event bs) ≡ stated_event_size (front_event bs)
    same_size =
        length-take-le (stated_event_size bs) bs (omega arith) ∙ size
        ∙ ap (λ (w : ℕ). event_overhead + w % 0x1000) (sym same_word)

    chain_at : drop event_overhead (front_event bs)
        ≡ take (event_overhead + word % 0x1000 - event_overhead) (drop event_overhead bs)
    chain_at =
        drop_take event_overhead (stated_event_size bs) bs
        ∙ ap (λ (n : ℕ). take (n - event_overhead) (drop event_overhead bs)) size

    whole_is : is_whole_event base (front_event bs)
        ≡ (is_start_bytes base (bytes_at 2 5 bs)
        && (is_duration_bytes (bytes_at 7 3 bs)
        && ((eqb (word / 0x2000) 0 || eqb (word / 0x2000) 5)
        && is_chain (take (event_overhead + word % 0x1000 - event_overhead) (drop event_overhead bs)))))
    unfolding is_whole_event
    whole_is =
        rw (
          eq-eqb (length (front_event bs)) (stated_event_size (front_event bs)) same_size,
          front 2 5 (omega arith),
          front 7 3 (omega arith),
          same_word,
          chain_at,
        )

    pub event_no_status : (eqb (word / 0x2000) 0 || eqb (word / 0x2000) 5) ≡ false → event_read base bs ≡ None
    event_no_status none = broken_read base bs (grind (arith, nat_tests, whole_is))

    pub event_no_start : start_at base 2 bs ≡ None → event_read base bs ≡ None
    event_no_start none = broken_read base bs (grind (arith, nat_tests, whole_is, no_start))

    pub event_no_duration : duration_at 7 bs ≡ None → event_read base bs ≡ None
    event_no_duration none =
        let lasts = no_duration 7 bs (omega arith) none in broken_read base bs (grind (arith, nat_tests, whole_is))

    module _ {start duration : ℕ} {chain : List ℕ}
        (status : (eqb (word / 0x2000) 0 || eqb (word / 0x2000) 5) ≡ true)
        (start_is : start_at base 2 bs ≡ Some start)
        (duration_is : duration_at 7 bs ≡ Some duration)
        (chain_is : chain ≡ slice_range bs event_overhead (event_overhead + word % 0x1000)) where
      whole_if : is_whole_event base (front_event bs) ≡ is_chain chain
      whole_if =
          let (starts, same_start) = is_start base 2 bs start_is in
          let (lasts, same-duration) = is_duration 7 bs duration_is in
          let start-holds = true_is (is_start_bytes base (bytes_at 2 5 bs)) starts in
          let duration-holds = true_is (is_duration_bytes (bytes_at 7 3 bs)) lasts in
          whole_is ∙ rw (start-holds, duration-holds, status, chain_is)

      pub event_no_chain : is_chain chain ≡ false → event_read base bs ≡ None
      event_no_chain fails = broken_read base bs (whole_if ∙ fails)

      record_is : {id : ℕ} → id ≡ field 0 2 bs
          → record_at 0 (event_in base (front_event bs))
          ≡ record {
            id = id;
            start = start;
            duration = duration;
            marks = word / 0x1000 % 2 + word / 0x2000 / 5 * 4;
            offset = event_overhead;
            chain_length = word % 0x1000;
          }
      record_is is-id =
          let same_start = ap (start_of base) (front 2 5 (omega arith)) ∙ (is_start base 2 bs start_is).1 in
          let same-duration = ap seconds_of (front 7 3 (omega arith)) ∙ (is_duration 7 bs duration_is).1 in
          let free : bit_of (odd (status_field (front_event bs) / 0x1000)) ≡ word / 0x1000 % 2 =
          rw same_word (bit_forth (word / 0x1000)) in
          let off : bit_of (eqb (status_field (front_event bs) / 0x2000) 5) ≡ word / 0x2000 / 5 =
          rw same_word (off_air_is (word / 0x2000) status) in
          let same_length : length (drop event_overhead (front_event bs)) ≡ word % 0x1000 =
          length-drop event_overhead (front_event bs) ∙ rw (same_size, same_word) (omega arith) in
          λ i. record {
            id = (ap value_of (front 0 2 (omega arith)) ∙ sym is-id) i;
            start = same_start i;
            duration = same-duration i;
            marks = free i + off i * 4;
            offset = event_overhead;
            chain_length = same_length i;
          }

      pub event_shown : {id : ℕ} → id ≡ field 0 2 bs % 2 ^ 32 → is_chain chain ≡ true
          → event_read base bs
          ≡ Some (record {
            id = id;
            start = start;
            duration = duration;
            marks = word / 0x1000 % 2 + word / 0x2000 / 5 * 4;
            offset = event_overhead;
            chain_length = word % 0x1000;
          })
      event_shown is-id holds =
          whole_read base bs (whole_if ∙ holds)
          ∙ ap Some (record_is (field_read bs 0 2 (bytes_all bs all) (omega arith) is-id).0)

pub ruleset read_laws =
    (event_truncated, event_no_status, event_no_start, event_no_duration, event_no_chain, event_shown)
