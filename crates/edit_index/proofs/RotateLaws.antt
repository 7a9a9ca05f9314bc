-- An entry that goes from one place of an order to another: of the entries, only those between the two places move. By
-- the order cut at both places. Assumes nothing.
use mathlib.Core.Path.{◌≡◌, sym, ap, ap₂, ◌∙◌}
use mathlib.Core.List.{List, ◌∷◌, ◌++◌, append_assoc}
use Prim.Native.Nat.{ℕ, suc, ◌+◌, ◌-◌, ◌≤◌, ◌<◌}
use native.Mathlib.Omega.{arith}
use lib.ListN.{length, get_or, take, drop, set, length-append, length-drop, take-append-drop}
use lib.Seq.{drop-cons, drop-append-add, get_or-drop, set_at, get_or_at, take_at, drop_at, length-take-le}
use Rattle.edit_index.proofs.OrderLaws.{with_around, with_behind, without_around, without_behind}
use Rattle.edit_index.specs.Order.{slot_in, with_entry, without_entry, moved_slot}

-- ---- an order of parts

module _ (front later behind : List ℕ) (count place : ℕ) (before : length front ≡ place) where
  -- an entry put in
  with_at : (old entry : ℕ) → place + length later ≡ count
      → with_entry (front ++ later ++ old ∷ behind) count place entry ≡ front ++ entry ∷ later ++ behind
  with_at old entry size =
      let es : List ℕ = front ++ later in
      let order : List ℕ = es ++ old ∷ behind in
      let held : length es ≡ count = simp length-append (omega arith) in
      let room : count < length order = simp length-append (omega arith) in
      let there : place ≤ count = omega arith in
      let next : count + 1 ≡ length es + 1 = omega arith in
      sym (take-append-drop (count + 1) (with_entry order count place entry))
      ∙ ap₂ (λ (xs ys : List ℕ). xs ++ ys)
      (with_around order count place entry room there es (sym (take_at es (old ∷ behind) count held))
      ∙ ap₂ (λ (xs ys : List ℕ). xs ++ entry ∷ ys) (take_at front later place before)
      (drop_at front later place before))
      (with_behind order count place entry room there
      ∙ ap (λ (n : ℕ). drop n order) next
      ∙ drop-append-add es (old ∷ behind) 1)

  -- an entry taken out
  without_at : (entry : ℕ) → place + suc (length later) ≡ count
      → without_entry (front ++ entry ∷ (later ++ behind)) count place ≡ front ++ later ++ entry ∷ behind
  without_at entry size =
      let es : List ℕ = front ++ entry ∷ later in
      let order : List ℕ = front ++ entry ∷ (later ++ behind) in
      let cut : order ≡ es ++ behind = sym (append_assoc front (entry ∷ later) behind) in
      let held : length es ≡ count = simp length-append (omega arith) in
      let room : count ≤ length order = simp length-append (omega arith) in
      let there : place < count = omega arith in
      let next : suc place ≡ length front + 1 = omega arith in
      let first : take count order ≡ es = ap (take count) cut ∙ take_at es behind count held in
      sym (take-append-drop (count - 1) (without_entry order count place))
      ∙ ap₂ (λ (xs ys : List ℕ). xs ++ ys)
      (without_around order count place room there es (sym first)
      ∙ ap₂ (λ (xs ys : List ℕ). xs ++ ys) (take_at front (entry ∷ later) place before)
      (ap (λ (n : ℕ). drop n es) next ∙ drop-append-add front (entry ∷ later) 1))
      (without_behind order count place room there
      ∙ ap₂ (λ (x : ℕ) (xs : List ℕ). x ∷ xs) (get_or_at front entry (later ++ behind) 0 place before)
      (ap (drop count) cut ∙ drop_at es behind count held))

module _ (order a b c d : List ℕ) (x entry count from to : ℕ) where
  -- to a place before it: those of b move up
  parts_up : order ≡ a ++ b ++ x ∷ (c ++ d) → length a ≡ to → to + length b ≡ from → from + suc (length c) ≡ count
      → with_entry (without_entry order count from) (count - 1) to entry ≡ with_entry order from to entry
  parts_up is first second third =
      let front : length (a ++ b) ≡ from = simp length-append (omega arith) in
      let others : to + length (b ++ c) ≡ count - 1 = simp length-append (omega arith) in
      let left : without_entry order count from ≡ a ++ (b ++ c) ++ x ∷ d =
      ap (λ (l : List ℕ). without_entry l count from) is
      ∙ without_at (a ++ b) c d count from front x third
      ∙ ap (λ (l : List ℕ). l ++ x ∷ d) (append_assoc a b c) in
      let all : a ++ entry ∷ (b ++ c) ++ d ≡ a ++ entry ∷ b ++ (c ++ d) =
      ap (λ (l : List ℕ). l ++ d) (sym (append_assoc a (entry ∷ b) c)) ∙ append_assoc (a ++ entry ∷ b) c d in
      ap (λ (l : List ℕ). with_entry l (count - 1) to entry) left
      ∙ with_at a (b ++ c) d (count - 1) to first x entry others
      ∙ all
      ∙ sym (with_at a b (c ++ d) from to first x entry second)
      ∙ ap (λ (l : List ℕ). with_entry l from to entry) (sym is)

  -- to a place behind it: those of b move down
  parts_down : order ≡ a ++ x ∷ (b ++ (c ++ d)) → length a ≡ from → from + length b ≡ to → to + suc (length c) ≡ count
      → with_entry (without_entry order count from) (count - 1) to entry
      ≡ set (without_entry order (to + 1) from) to entry
  parts_down is first second third =
      let front : length (a ++ b) ≡ to = simp length-append (omega arith) in
      let others : from + suc (length (b ++ c)) ≡ count = simp length-append (omega arith) in
      let left : without_entry order count from ≡ a ++ b ++ c ++ x ∷ d =
      ap (λ (l : List ℕ). without_entry l count from)
      (is ∙ ap (λ (l : List ℕ). a ++ x ∷ l) (sym (append_assoc b c d)))
      ∙ without_at a (b ++ c) d count from first x others
      ∙ ap (λ (l : List ℕ). l ++ x ∷ d) (sym (append_assoc a b c)) in
      let least : without_entry order (to + 1) from ≡ a ++ b ++ x ∷ (c ++ d) =
      ap (λ (l : List ℕ). without_entry l (to + 1) from) is
      ∙ without_at a b (c ++ d) (to + 1) from first x (omega arith) in
      ap (λ (l : List ℕ). with_entry l (count - 1) to entry) left
      ∙ with_at (a ++ b) c d (count - 1) to front x entry (omega arith)
      ∙ append_assoc (a ++ b) (entry ∷ c) d
      ∙ sym (set_at (a ++ b) x (c ++ d) entry to front)
      ∙ ap (λ (l : List ℕ). set l to entry) (sym least)

-- ---- any order

module _ (order : List ℕ) (count from : ℕ) (held : count ≤ length order) (there : from < count) where
  abbrev moving : ℕ
  moving = get_or order from 0

  abbrev front : List ℕ
  front = take from order

  abbrev rest : List ℕ
  rest = drop (suc from) order

  cut : order ≡ front ++ moving ∷ rest
  cut =
      sym (take-append-drop from order)
      ∙ ap (λ (xs : List ℕ). front ++ xs) (drop-cons order from 0 (omega arith))

  front_length : length front ≡ from
  front_length = length-take-le from order (omega arith)

  pub moved_slot_holds : moved_slot order count from ≡ slot_in moving
  moved_slot_holds =
      let last : count - 1 + 0 ≡ count - 1 = omega arith in
      ap (λ (n : ℕ). slot_in (get_or (without_entry order count from) n 0)) (sym last)
      ∙ ap slot_in (sym (get_or-drop (count - 1) (without_entry order count from) 0 0))
      ∙ ap (λ (l : List ℕ). slot_in (get_or l 0 0)) (without_behind order count from held there)

  pub rotate_up : (to entry : ℕ) → to ≤ from
      → with_entry (without_entry order count from) (count - 1) to entry ≡ with_entry order from to entry
  rotate_up to entry before =
      let behind : ℕ = count - suc from in
      let parts : order ≡ take to front ++ drop to front ++ moving ∷ (take behind rest ++ drop behind rest) =
      cut
      ∙ ap₂ (λ (xs ys : List ℕ). xs ++ moving ∷ ys) (sym (take-append-drop to front))
      (sym (take-append-drop behind rest)) in
      parts_up order (take to front) (drop to front) (take behind rest) (drop behind rest) moving entry count from to
      parts
      (length-take-le to front (omega (arith, front_length)))
      (simp length-drop (omega (arith, front_length)))
      (omega (arith, length-take-le behind rest (simp length-drop (omega arith))))

  pub rotate_down : (to entry : ℕ) → from < to → to < count
      → with_entry (without_entry order count from) (count - 1) to entry
      ≡ set (without_entry order (to + 1) from) to entry
  rotate_down to entry before inside =
      let between : ℕ = to - from in
      let behind : ℕ = count - suc to in
      let far : List ℕ = drop between rest in
      let parts : order ≡ front ++ moving ∷ (take between rest ++ (take behind far ++ drop behind far)) =
      cut
      ∙ ap (λ (xs : List ℕ). front ++ moving ∷ xs)
      (sym (take-append-drop between rest)
      ∙ ap (λ (xs : List ℕ). take between rest ++ xs) (sym (take-append-drop behind far))) in
      let some : length (take between rest) ≡ between = length-take-le between rest (simp length-drop (omega arith)) in
      let others : length (take behind far) ≡ behind = length-take-le behind far (simp length-drop (omega arith)) in
      parts_down order front (take between rest) (take behind far) (drop behind far) moving entry count from to parts
      front_length (omega arith) (omega arith)
