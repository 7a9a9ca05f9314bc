-- An event loop is split into its events, and these come back from their bytes as in proofs/EventBytes.antt: by
-- induction over the events. Assumes nothing.
use mathlib.Core.Path.{◌≡◌, refl, ap₂}
use mathlib.Core.List.{List, [], ◌∷◌, ◌++◌, map, flatten}
use Prim.Native.Nat.{ℕ, ◌≤◌, ◌<◌}
use native.Mathlib.Omega.{arith}
use lib.Dec.{T}
use Rattle.eit.specs.Limits.{base_day_max}
use Rattle.eit.specs.Fields.{Bytes}
use Rattle.eit.specs.Events.{Event}
use Rattle.eit.proofs.Test.{and_parts, and_both}
use Rattle.eit.proofs.Fields.{bytes_append, bytes_parts}
use Rattle.sections.specs.Every.{Every}
use Rattle.sections.specs.Section.{Header, event_sizes}
use Rattle.sections.specs.Split.{split_by}
use Rattle.sections.specs.Encode.{event_bytes, event_loop_bytes}
use Rattle.sections.specs.Decode.{stated_event_size, event_in}
use Rattle.sections.specs.EventTests.{is_event, are_events}
use Rattle.sections.specs.Rules.{EventRules}
use Rattle.sections.proofs.Split.{Stated, split_back}
use Rattle.sections.proofs.EventBytes.{Short, event_bytes_holds, event_stated, event_back, event_is, event_forth}

pub loop_bytes : (base : ℕ) (es : List Event) → Every (λ (e : Event). Bytes e.chain) es
    → Bytes (event_loop_bytes base es)
unfolding event_loop_bytes
loop_bytes base [] chains = tt
loop_bytes base (e ∷ es) chains =
    bytes_append (event_bytes base e) (event_loop_bytes base es) (event_bytes_holds base e chains.0)
    (loop_bytes base es chains.1)

-- ---- the event loop: split into events

all_stated : (base : ℕ) (es : List Event) → Every Short es → Every (Stated stated_event_size) (map (event_bytes base) es)
all_stated base [] short = tt
all_stated base (e ∷ es) short = (event_stated base e short.0, all_stated base es short.1)

-- the bytes of events are split into those of each
pub loop_split : (base : ℕ) (es : List Event) → Every Short es
    → split_by stated_event_size (event_loop_bytes base es) ≡ map (event_bytes base) es
unfolding event_loop_bytes
loop_split base es short = split_back stated_event_size (map (event_bytes base) es) (all_stated base es short)

-- events that fit a section of 4,096 bytes have chains of 12 bits
pub sizes_short : (es : List Event) → event_sizes es < 0x1000 → Every Short es
sizes_short [] few = tt
sizes_short (e ∷ es) few = (omega arith, sizes_short es (omega arith))

-- ---- the event loop: back

module _ (base : ℕ) (legal : base ≤ base_day_max) where
  -- the bytes of events that keep the rules are read as these events
  pub events_back : (h : Header) (es : List Event) → Every (EventRules h) es → Every Short es
      → map (event_in base) (map (event_bytes base) es) ≡ es
  events_back h [] rules short = refl
  events_back h (e ∷ es) rules short =
      ap₂ (λ (first : Event) (rest : List Event). first ∷ rest) (event_back base legal h e rules.0 short.0)
      (events_back h es rules.1 short.1)

  -- and pass
  pub events_are : (h : Header) (es : List Event) → Every (EventRules h) es → Every Short es
      → T (are_events base h (map (event_bytes base) es))
  events_are h [] rules short = tt
  events_are h (e ∷ es) rules short =
      and_both (is_event base h (event_bytes base e)) (are_events base h (map (event_bytes base) es))
      (event_is base legal h e rules.0 short.0)
      (events_are h es rules.1 short.1)

-- ---- the event loop: forth

-- bytes that pass are those of the events that they are read as, and these keep the rules
pub events_forth : (base : ℕ) (h : Header) (xs : List (List ℕ)) → Bytes (flatten xs) → T (are_events base h xs)
    → (event_loop_bytes base (map (event_in base) xs) ≡ flatten xs) × Every (EventRules h) (map (event_in base) xs)
unfolding event_loop_bytes flatten
events_forth base h [] bytes t = (refl, tt)
events_forth base h (x ∷ xs) bytes t =
    let (front, behind) = bytes_parts x (flatten xs) bytes in
    let (first, others) = and_parts (is_event base h x) (are_events base h xs) t in
    let (same, rule) = event_forth base h x front first in
    let (same_rest, rules) = events_forth base h xs behind others in
    (ap₂ (λ (front behind : List ℕ). front ++ behind) same same_rest, (rule, rules))
