-- The pass over an event loop, piece by piece: before each turn the pass over the whole loop is the pass over the rest
-- (`PassSoFar`), and each way on or out is decided by the tests of the event there. Assumes nothing.
use mathlib.Core.Path.{◌≡◌, refl, sym, ap, ◌∙◌}
use mathlib.Core.Bool.{Bool, true, false, not, ◌&&◌}
use mathlib.Core.List.{List, [], ◌∷◌, flatten}
use Prim.Native.Nat.{ℕ, ◌+◌, ◌≤◌, ◌<◌}
use native.Mathlib.Omega.{arith}
use lib.Dec.{leb}
use lib.ListN.{length, length-append}
use Rattle.eit.specs.declared.Record.{Record}
use Rattle.eit.specs.Events.{event_with, least_behind}
use Rattle.eit.proofs.Events.{least_same}
use Rattle.sections.specs.Section.{Header}
use Rattle.sections.specs.Decode.{event_in}
use Rattle.sections.specs.Offsets.{record_at}
use Rattle.sections.specs.EventTests.{is_in_segment, is_filled_or_alone}
use Rattle.codec.specs.Seen.{is_seen, with_seen}
use Rattle.codec_section.specs.EventRead.{event_read}
use Rattle.std.specs.Prelude.{Some, None}
use Rattle.codec_section.proofs.EventReadLaws.{event_whole}
use Rattle.read_events.specs.EventPass.{EventPass, is_taken, take_events, checked_events}
use Rattle.read_events.proofs.PieceLaws.{Piece, piece_whole, piece_broken}

-- ---- the equations that a reader expects

module _ (base : ℕ) (h : Header) (n least : ℕ) (words : List ℕ) where
  pub take_none : take_events base h n least words []
      ≡ record { keeps_rules = true; events = n; least = least; words = words }
  unfolding take_events
  take_none = refl

  module _ (bs : List ℕ) (rest : List (List ℕ)) where
    pub take_more : is_taken base h least words bs ≡ true
        → take_events base h n least words (bs ∷ rest)
        ≡ take_events base h (n + 1) (least_behind (event_in base bs)) (with_seen words (event_in base bs).id) rest
    unfolding take_events
    take_more taken = rw (take_events, taken)

    pub take_stops : is_taken base h least words bs ≡ false
        → take_events base h n least words (bs ∷ rest)
        ≡ record { keeps_rules = false; events = n; least = least; words = words }
    unfolding take_events
    take_stops left = rw (take_events, left)

-- ---- before a turn

-- n events are behind, `next` is the least start of the next, the set has become `words`, and `pieces` are left
pub record PassSoFar (base : ℕ) (h : Header) (all : List (List ℕ)) (least : ℕ) (words₀ words : List ℕ)
    (n next : ℕ) (pieces : List (List ℕ)) : Type 0 where
  pub pass : take_events base h 0 least words₀ all ≡ take_events base h n next words pieces
  pub few : n + length (flatten pieces) ≤ length (flatten all)
  pub none : n ≡ 0 → pieces ≡ all

pub pass_start : {base : ℕ} {h : Header} {all : List (List ℕ)} {least : ℕ} {words : List ℕ}
    → PassSoFar base h all least words words 0 least all
pass_start = record { pass = refl; few = omega arith; none = λ e. refl }

flatten_next : (bs : List ℕ) (rest : List (List ℕ)) → length (flatten (bs ∷ rest)) ≡ length bs + length (flatten rest)
unfolding flatten
flatten_next bs rest = length-append bs (flatten rest)

filled : (h : Header) (all : List (List ℕ)) → 0 < length (flatten all) → is_filled_or_alone h all ≡ true
unfolding flatten
filled h [] some = absurd (omega arith)
filled h (bs ∷ rest) some = refl

module _ {base : ℕ} {h : Header} {all : List (List ℕ)} {least : ℕ} {words₀ words : List ℕ} {n next : ℕ}
    {pieces : List (List ℕ)}
    (so_far : PassSoFar base h all least words₀ words n next pieces) where
  -- of all pieces it is asked besides that a section without events is alone
  checked : {whole : Bool}
      → take_events base h n next words pieces
      ≡ record { keeps_rules = whole; events = n; least = next; words = words }
      → checked_events base h least words₀ all
      ≡ record { keeps_rules = whole && is_filled_or_alone h all; events = n; least = next; words = words }
  checked taken =
      ap (λ (p : EventPass). record {
        keeps_rules = p.keeps_rules && is_filled_or_alone h all;
        events = p.events;
        least = p.least;
        words = p.words;
      }) (so_far.pass ∙ taken)

  module _ {bs : List ℕ} {rest : List (List ℕ)} (piece : Piece bs) (parts : pieces ≡ bs ∷ rest) where
    pub pass_room : n + 1 ≤ length (flatten all)
    pass_room =
        omega (
          arith,
          piece.some,
          so_far.few,
          flatten_next bs rest,
          ap (λ (xs : List (List ℕ)). length (flatten xs)) parts,
        )

    stops : is_taken base h next words bs ≡ false
        → checked_events base h least words₀ all
        ≡ record { keeps_rules = false; events = n; least = next; words = words }
    stops left =
        checked (ap (take_events base h n next words) parts ∙ take_stops base h n next words bs rest left)

    pub pass_broken : event_read base bs ≡ None
        → checked_events base h least words₀ all
        ≡ record { keeps_rules = false; events = n; least = next; words = words }
    pass_broken broken = stops (rw (event_whole base h bs, piece_broken base piece broken))

    module _ {r : Record} (read : event_read base bs ≡ Some r) where
      shows : r ≡ record_at 0 (event_in base bs)
      shows = (piece_whole base piece read).1

      event_is : {b : Bool} → (is_in_segment h r.start && (leb next r.start && not (is_seen words r.id))) ≡ b
          → is_taken base h next words bs ≡ b
      event_is test =
          rw (event_whole base h bs, (piece_whole base piece read).0)
          (ap (λ (q : Record). is_in_segment h q.start && (leb next q.start && not (is_seen words q.id))) (sym shows)
          ∙ test)

      pub pass_stop : (is_in_segment h r.start && (leb next r.start && not (is_seen words r.id))) ≡ false
          → checked_events base h least words₀ all
          ≡ record { keeps_rules = false; events = n; least = next; words = words }
      pass_stop fails = stops (event_is fails)

      pub pass_more : (is_in_segment h r.start && (leb next r.start && not (is_seen words r.id))) ≡ true
          → {words' : List ℕ} → words' ≡ with_seen words r.id → {next' : ℕ} → next' ≡ least_behind (event_with r [])
          → PassSoFar base h all least words₀ words' (n + 1) next' rest
      pass_more holds {words'} added {next'} behind =
          let start : (event_in base bs).start ≡ r.start = sym (ap (λ (q : Record). q.start) shows) in
          let duration : (event_in base bs).duration ≡ r.duration = sym (ap (λ (q : Record). q.duration) shows) in
          let later : least_behind (event_in base bs) ≡ next' =
          least_same (event_in base bs) (event_with r []) start duration ∙ sym behind in
          let held : with_seen words (event_in base bs).id ≡ words' =
          ap (λ (q : Record). with_seen words q.id) (sym shows) ∙ sym added in
          record {
            pass =
                so_far.pass
                ∙ ap (take_events base h n next words) parts
                ∙ take_more base h n next words bs rest (event_is holds)
                ∙ (λ i. take_events base h (n + 1) (later i) (held i) rest);
            few =
                omega (
                  arith,
                  piece.some,
                  so_far.few,
                  flatten_next bs rest,
                  ap (λ (xs : List (List ℕ)). length (flatten xs)) parts,
                );
            none = λ never. absurd (omega arith);
          }

  -- at the end of the loop
  module _ (end : pieces ≡ []) where
    ends : take_events base h n next words pieces
        ≡ record { keeps_rules = true; events = n; least = next; words = words }
    ends = ap (take_events base h n next words) end ∙ take_none base h n next words

    -- events have passed
    pub pass_filled : (n ≡ 0 → ⊥)
        → checked_events base h least words₀ all
        ≡ record { keeps_rules = true; events = n; least = next; words = words }
    pass_filled some =
        checked ends
        ∙ ap (λ (whole : Bool). record { keeps_rules = whole; events = n; least = next; words = words })
        (filled h all (omega (arith, so_far.few)))

    -- the loop is empty
    pub pass_empty : n ≡ 0 → {b : Bool} → is_filled_or_alone h [] ≡ b
        → checked_events base h least words₀ all
        ≡ record { keeps_rules = b; events = n; least = next; words = words }
    pass_empty none alone =
        checked ends
        ∙ ap (λ (whole : Bool). record { keeps_rules = whole; events = n; least = next; words = words })
        (ap (is_filled_or_alone h) (sym (so_far.none none) ∙ end) ∙ alone)
