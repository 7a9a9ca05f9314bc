-- An event among others stands at its place: before it are those that do not start later. So its own segment has it
-- there, every other segment is as it was, and the events of inserted records are the inserted events. By induction
-- over the events. Assumes nothing.
use mathlib.Core.Path.{◌≡◌, refl, sym, ap, ◌∙◌}
use mathlib.Core.Bool.{true, false, not}
use mathlib.Core.Logic.{⊎_elim}
use mathlib.Core.List.{List, [], ◌∷◌, ◌++◌}
use mathlib.Core.List.Memᴰ
use Prim.Native.Nat.{ℕ, suc}
use lib.Dec.{T, ltb, eqb, eqb→eq}
use lib.ListN.{take, drop}
use Rattle.eit.specs.Pools.{Pools}
use Rattle.eit.specs.Events.{Event, event_of, events_in}
use Rattle.eit.specs.declared.Record.{Record}
use Rattle.eit.proofs.Test.{true_is, false_is, test_or, or_left, or_right, or_cases, eq_test}
use Rattle.script.specs.Machine.{insert}
use Rattle.script.proofs.Placing.{insert_here, insert_later}
use Rattle.sections.specs.Segment.{segment_index}
use Rattle.sections.specs.Count.{segment_events}
use Rattle.sections.proofs.Count.{events_more, events_same, events_cases, events_append}
use Rattle.room.specs.OneMore.{inserted, is_taken}
use Rattle.room.specs.StillFits.{Taken}

-- ---- the place

-- how many events stand before the first that starts later
abbrev pub up_to : ℕ → List Event → ℕ
up_to start [] = 0
up_to start (e ∷ es) = elim (ltb start e.start) [ true ↦ 0 | false ↦ suc (up_to start es) ]

module _ (e f : Event) (es : List Event) where
  pub inserted_here : T (ltb e.start f.start) → inserted e (f ∷ es) ≡ e ∷ f ∷ es
  inserted_here t = rw (inserted, true_is (ltb e.start f.start) t)

  pub inserted_later : T (not (ltb e.start f.start)) → inserted e (f ∷ es) ≡ f ∷ inserted e es
  inserted_later t = rw (inserted, false_is (ltb e.start f.start) t)

pub inserted_place : (e : Event) (es : List Event)
    → inserted e es ≡ take (up_to e.start es) es ++ e ∷ drop (up_to e.start es) es
inserted_place e [] = refl
inserted_place e (f ∷ es) =
    ⊎_elim (λ t. rw (up_to, true_is (ltb e.start f.start) t, inserted_here e f es t))
    (λ t. rw (up_to, false_is (ltb e.start f.start) t, inserted_later e f es t)
    (ap (λ (fs : List Event). f ∷ fs) (inserted_place e es)))
    (test_or (ltb e.start f.start))

-- ---- segments

-- in its own segment it stands between the events before its place and those behind it
module _ (start : ℕ) (es : List Event) where
  abbrev pub before : List Event
  before = segment_events (segment_index start) (take (up_to start es) es)

  abbrev pub behind : List Event
  behind = segment_events (segment_index start) (drop (up_to start es) es)

pub own_segment : (e : Event) (es : List Event)
    → segment_events (segment_index e.start) (inserted e es) ≡ before e.start es ++ e ∷ behind e.start es
own_segment e es =
    let index : ℕ = segment_index e.start in
    let p : ℕ = up_to e.start es in
    ap (segment_events index) (inserted_place e es)
    ∙ events_append index (take p es) (e ∷ drop p es)
    ∙ ap (λ (fs : List Event). segment_events index (take p es) ++ fs) (events_more index e (drop p es) refl)

-- every other segment is as it was
pub other_segment : (index : ℕ) (e : Event) (es : List Event) → (segment_index e.start ≡ index → ⊥)
    → segment_events index (inserted e es) ≡ segment_events index es
other_segment index e [] elsewhere = events_same index e [] elsewhere
other_segment index e (f ∷ es) elsewhere =
    ⊎_elim (λ t. ap (segment_events index) (inserted_here e f es t) ∙ events_same index e (f ∷ es) elsewhere)
    (λ t.
    ap (segment_events index) (inserted_later e f es t)
    ∙ events_cases index f (inserted e es) (λ (fs : List Event). fs ≡ segment_events index (f ∷ es))
    (λ here. ap (λ (fs : List Event). f ∷ fs) (other_segment index e es elsewhere) ∙ sym (events_more index f es here))
    (λ not-here. other_segment index e es elsewhere ∙ sym (events_same index f es not-here)))
    (test_or (ltb e.start f.start))

-- ---- records

pub inserted_records : (pools : Pools) (r : Record) (rs : List Record)
    → events_in pools (insert r rs) ≡ inserted (event_of pools r) (events_in pools rs)
inserted_records pools r [] = refl
inserted_records pools r (s ∷ rs) =
    let e : Event = event_of pools r in
    let f : Event = event_of pools s in
    ⊎_elim (λ t. ap (events_in pools) (insert_here r s rs t) ∙ sym (inserted_here e f (events_in pools rs) t))
    (λ t.
    ap (events_in pools) (insert_later r s rs t)
    ∙ ap (λ (fs : List Event). f ∷ fs) (inserted_records pools r rs)
    ∙ sym (inserted_later e f (events_in pools rs) t))
    (test_or (ltb r.start s.start))

-- ---- a start that is taken

pub taken_found : (start : ℕ) (es : List Event) → T (is_taken start es) → Taken start es
taken_found start [] t = absurd t
taken_found start (e ∷ es) t =
    ⊎_elim (λ here. (e, Memᴰ.head refl, sym (eqb→eq start e.start here)))
    (λ later. let (f, m, is) = taken_found start es later in (f, Memᴰ.tail m, is))
    (or_cases (eqb start e.start) (is_taken start es) t)

pub found_taken : (start : ℕ) (es : List Event) → Taken start es → T (is_taken start es)
found_taken start [] (f, m, is) = absurd (Memᴰ.not-nil m)
found_taken start (e ∷ es) (f, Memᴰ.head same, is) =
    or_left (eqb start e.start) (is_taken start es)
    (eq_test start e.start (sym is ∙ ap (λ (g : Event). g.start) same))
found_taken start (e ∷ es) (f, Memᴰ.tail m, is) =
    or_right (eqb start e.start) (is_taken start es) (found_taken start es (f, m, is))
