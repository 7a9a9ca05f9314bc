-- Which edits are live, by their places: the pass from the last place to the first makes the places of UNDOs those of
-- live edits, and what the live edits are from a place on. By the cases of the command there. Assumes nothing.
use mathlib.Core.Path.{◌≡◌, refl, sym, ap, ◌∙◌}
use mathlib.Core.Bool.{Bool, true, false}
use mathlib.Core.Logic.{⊎_elim}
use mathlib.Core.List.{List, [], ◌∷◌, ◌++◌}
use Prim.Native.Nat.{ℕ, zero, suc, pred, ◌+◌, ◌-◌, ◌*◌, ◌≤◌, ◌<◌}
use native.Mathlib.Nat.{add-zero}
use native.Mathlib.Omega.{arith}
use mir.Val.{bool_byte}
use borrow.Author.Tests.{ne_eqb, eqb-true, eqb-false}
use lib.Dec.{eqb}
use lib.ListN.{length, drop, length-drop, drop_of_length-le}
use lib.Seq.{drop-drop}
use Rattle.eit.proofs.Test.{true_is, false_is, test_or, eq_or_not}
use Rattle.codec.specs.Seen.{is_seen}
use Rattle.script.specs.Form.{Edit, Command, do_edit, undo}
use Rattle.script.specs.Struck.{pending_before, unless_struck, live}
use Rattle.edit_scan.specs.Places.{edits_of, begins_undo, begins_live, UndoPlaces, LivePlaces, with_place}
use Rattle.edit_scan.specs.Places.{live_marked}
use Rattle.edit_scan.proofs.PlaceLaws.{place_length, place_same, place_other}

-- ---- the first command, with p UNDOs pending behind them all

undo_first : (p : ℕ) (cs : List Command) → begins_undo cs ≡ true
    → (pending_before p cs ≡ suc (pending_before p (drop 1 cs))) × (begins_live p cs ≡ false)
undo_first p [] u = let never : ◌≡◌ {A = ℕ} 0 1 = cc in absurd (omega arith)
undo_first p (do_edit e ∷ cs) u = let never : ◌≡◌ {A = ℕ} 0 1 = cc in absurd (omega arith)
undo_first p (undo at ∷ cs) u = (refl, refl)

edit_first : (p : ℕ) (cs : List Command) → 0 < length cs → begins_undo cs ≡ false
    → (pending_before p cs ≡ pred (pending_before p (drop 1 cs)))
    × (begins_live p cs ≡ eqb (pending_before p (drop 1 cs)) 0)
edit_first p [] some u = absurd (omega arith)
edit_first p (do_edit e ∷ cs) some u = (refl, refl)
edit_first p (undo at ∷ cs) some u = let never : ◌≡◌ {A = ℕ} 0 1 = cc in absurd (omega arith)

-- ---- the pass

marked_undo : (places : List ℕ) (pending i : ℕ) → is_seen places i ≡ true
    → live_marked places pending (suc i) ≡ live_marked (with_place places i false) (suc pending) i
unfolding live_marked
marked_undo places pending i u = rw (live_marked, u)

marked_edit : (places : List ℕ) (pending i : ℕ) → is_seen places i ≡ false
    → live_marked places pending (suc i) ≡ live_marked (with_place places i (eqb pending 0)) (pred pending) i
unfolding live_marked
marked_edit places pending i e = rw (live_marked, e)

-- as the code counts: b says whether an UNDO stands at the place before
abbrev pub live_there : ℕ → Bool → Bool
live_there pending b = eqb (pending + bool_byte b) 0

abbrev pub pending_there : ℕ → Bool → ℕ
pending_there pending b = pending + 2 * bool_byte b + bool_byte (live_there pending b) - 1

there_undo : (pending : ℕ) → live_there pending true ≡ false
there_undo pending = ne_eqb (pending + 1) 0 (λ z. omega arith)

there_edit : (pending : ℕ) → live_there pending false ≡ eqb pending 0
there_edit pending = ap (λ (n : ℕ). eqb n 0) (add-zero pending)

there_less : (pending : ℕ) → pending_there pending false ≡ pred pending
there_less zero = refl
there_less (suc pending) = omega (arith, ap bool_byte (ne_eqb (suc pending + 0) 0 (λ z. omega arith)))

pub there_few : (pending : ℕ) (b : Bool) → pending_there pending b ≤ pending + 1
there_few pending true = omega (arith, ap bool_byte (there_undo pending))
there_few pending false = omega (arith, there_less pending)

pub there_some : (pending : ℕ) (b : Bool) → 1 ≤ pending + 2 * bool_byte b + bool_byte (live_there pending b)
there_some pending true = omega arith
there_some zero false = omega arith
there_some (suc pending) false = omega arith

pub marked_step : (places : List ℕ) (pending place : ℕ) → 0 < place → (b : Bool) → b ≡ is_seen places (place - 1)
    → live_marked places pending place
    ≡ live_marked (with_place places (place - 1) (live_there pending b)) (pending_there pending b) (place - 1)
marked_step places pending zero some b is = absurd (omega arith)
marked_step places pending (suc i) some true is =
    let less : suc i - 1 ≡ i = omega arith in
    let live : live_there pending true ≡ false = there_undo pending in
    let more : pending_there pending true ≡ suc pending = omega (arith, ap bool_byte live) in
    marked_undo places pending i (sym (is ∙ ap (λ (n : ℕ). is_seen places n) less)) ∙ cc
marked_step places pending (suc i) some false is =
    let less : suc i - 1 ≡ i = omega arith in
    let live : live_there pending false ≡ eqb pending 0 = there_edit pending in
    let one : pending_there pending false ≡ pred pending = there_less pending in
    marked_edit places pending i (sym (is ∙ ap (λ (n : ℕ). is_seen places n) less)) ∙ cc

pub marked_none : (places : List ℕ) (pending place : ℕ) → place ≤ 0 → live_marked places pending place ≡ places
unfolding live_marked
marked_none places pending zero h = refl
marked_none places pending (suc i) h = absurd (omega arith)

-- before a place the set has just the UNDOs, from there on just the live edits, and so many UNDOs are pending
record MarkedFrom (p : ℕ) (cs : List Command) (places : List ℕ) (pending i : ℕ) : Type 0 where
  few : i ≤ length cs
  room : i ≤ 64 * length places
  pends : pending ≡ pending_before p (drop i cs)
  before : (m : ℕ) → m < i → is_seen places m ≡ begins_undo (drop m cs)
  after : (m : ℕ) → i ≤ m → m < length cs → is_seen places m ≡ begins_live p (drop m cs)

module _ (p : ℕ) (cs : List Command) (places : List ℕ) (pending i : ℕ)
    (s : MarkedFrom p cs places pending (suc i)) where
  behind : drop 1 (drop i cs) ≡ drop (suc i) cs
  behind =
      let next : i + 1 ≡ suc i = omega arith in
      drop-drop 1 i cs ∙ ap (λ (n : ℕ). drop n cs) next

  -- b says whether the command at the place is live
  marked_next : (b : Bool) (left : ℕ) → b ≡ begins_live p (drop i cs) → left ≡ pending_before p (drop i cs)
      → MarkedFrom p cs (with_place places i b) left i
  marked_next b left is pends =
      record {
        few = omega (arith, s.few);
        room = omega (arith, s.room, place_length places i b);
        pends = pends;
        before = λ m h. place_other places i b m (λ same. omega arith) ∙ s.before m (omega arith);
        after = λ m from to.
            ⊎_elim (λ here. rw here (place_same places i b (omega (arith, s.room)) ∙ is))
            (λ ne. place_other places i b m ne ∙ s.after m (omega (arith, ne)) to) (eq_or_not m i);
      }

  next_undo : is_seen places i ≡ true → MarkedFrom p cs (with_place places i false) (suc pending) i
  next_undo u =
      let first = undo_first p (drop i cs) (sym (s.before i (omega arith)) ∙ u) in
      marked_next false (suc pending) (sym first.1)
      (ap suc (s.pends ∙ ap (pending_before p) (sym behind)) ∙ sym first.0)

  next_edit : is_seen places i ≡ false → MarkedFrom p cs (with_place places i (eqb pending 0)) (pred pending) i
  next_edit e =
      let some : 0 < length (drop i cs) = omega (arith, s.few, length-drop i cs) in
      let first = edit_first p (drop i cs) some (sym (s.before i (omega arith)) ∙ e) in
      let same : pending ≡ pending_before p (drop 1 (drop i cs)) = s.pends ∙ ap (pending_before p) (sym behind) in
      marked_next (eqb pending 0) (pred pending) (ap (λ (n : ℕ). eqb n 0) same ∙ sym first.1)
      (ap pred same ∙ sym first.0)

marked_all : (p : ℕ) (cs : List Command) (places : List ℕ) (pending i : ℕ) → MarkedFrom p cs places pending i
    → LivePlaces (live_marked places pending i) p cs
unfolding live_marked
marked_all p cs places pending zero s = λ m h. s.after m (omega arith) h
marked_all p cs places pending (suc i) s =
    ⊎_elim
    (λ t.
    let u : is_seen places i ≡ true = true_is (is_seen places i) t in
    rw (marked_undo places pending i u)
    (marked_all p cs (with_place places i false) (suc pending) i (next_undo p cs places pending i s u)))
    (λ t.
    let e : is_seen places i ≡ false = false_is (is_seen places i) t in
    rw (marked_edit places pending i e)
    (marked_all p cs (with_place places i (eqb pending 0)) (pred pending) i (next_edit p cs places pending i s e)))
    (test_or (is_seen places i))

pub live_marked_holds : (places : List ℕ) (undos k : ℕ) (cs : List Command) → UndoPlaces places cs → length cs ≡ k
    → k ≤ 64 * length places
    → LivePlaces (live_marked places undos k) undos cs
live_marked_holds places undos k cs are all room =
    marked_all undos cs places undos k
    record {
      few = omega arith;
      room = room;
      pends = sym (ap (pending_before undos) (drop_of_length-le cs {i = k} (omega arith)));
      before = λ m h. are m (omega arith);
      after = λ m from to. absurd (omega arith);
    }

-- ---- the live edits from a place on

module _ (p : ℕ) where
  kept : (q : ℕ) (e : Edit) (es : List Edit) → q ≡ 0 → unless_struck q e es ≡ e ∷ es
  kept zero e es z = refl
  kept (suc q) e es z = absurd (omega arith)

  taken : (q : ℕ) (e : Edit) (es : List Edit) → (q ≡ 0 → ⊥) → unless_struck q e es ≡ es
  taken zero e es n = absurd (n refl)
  taken (suc q) e es n = refl

  pub live_begins : (c : Command) (cs : List Command) → begins_live p (c ∷ cs) ≡ true
      → live p (c ∷ cs) ≡ edits_of c ++ live p cs
  live_begins (do_edit e) cs t = kept (pending_before p cs) e (live p cs) (eqb-true (pending_before p cs) 0 t)
  live_begins (undo at) cs t = let never : ◌≡◌ {A = ℕ} 0 1 = cc in absurd (omega arith)

  pub live_passes : (c : Command) (cs : List Command) → begins_live p (c ∷ cs) ≡ false → live p (c ∷ cs) ≡ live p cs
  live_passes (do_edit e) cs t = taken (pending_before p cs) e (live p cs) (eqb-false (pending_before p cs) 0 t)
  live_passes (undo at) cs t = refl
