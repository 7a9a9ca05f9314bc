-- The order with an entry put in or taken out, as one write and as the entries around the place, and with all slots
-- free. By the cuts of the order at the place. Assumes nothing.
use mathlib.Core.Path.{◌≡◌, refl, sym, ap, ap₂, ◌∙◌}
use mathlib.Core.List.{List, [], ◌∷◌, ◌++◌, append_assoc, append-nil}
use mathlib.Core.Logic.{⊎_elim}
use Prim.Native.Nat.{ℕ, zero, suc, ◌+◌, ◌-◌, ◌≤◌, ◌<◌}
use native.Mathlib.Omega.{arith}
use borrow.Author.Tests.{lt-ltb, le-ltb, le-leb, lt-leb}
use lib.ListN.{length, get_or, take, drop, set, length-append, length-take, length-drop}
use lib.Seq.{take-add, take-take, take_at, drop_at, drop-length, length-take-le, paste, length-paste}
use Rattle.eit.specs.Overwrite.{overwrite}
use Rattle.eit.proofs.Test.{le_or_lt}
use Rattle.eit.proofs.Overwrite.{over_length, over_after, over_one}
use Rattle.list_records.proofs.WriteLaws.{over_behind, over_ahead}
use Rattle.edit_index.specs.Order.{slots_from, with_entry, without_entry}

-- the rest of a front is the front of the rest
pub drop_take : (p n : ℕ) (xs : List ℕ) → p ≤ n → n ≤ length xs → drop p (take n xs) ≡ take (n - p) (drop p xs)
drop_take p n xs before within =
    let e : p + (n - p) ≡ n = omega arith in
    ap (λ (k : ℕ). drop p (take k xs)) (sym e)
    ∙ ap (drop p) (take-add p (n - p) xs)
    ∙ drop_at (take p xs) (take (n - p) (drop p xs)) p (length-take-le p xs (omega arith))

-- ---- an entry put in

module _ (order : List ℕ) (count place entry : ℕ) where
  pub with_full : length order ≤ count → with_entry order count place entry ≡ order
  unfolding with_entry
  with_full full = rw (with_entry, le-ltb count (length order) full)

  pub with_beyond : count < length order → count < place → with_entry order count place entry ≡ order
  unfolding with_entry
  with_beyond room beyond = rw (with_entry, lt-ltb count (length order) room, lt-leb place count beyond)

  module _ (room : count < length order) (there : place ≤ count) where
    abbrev moved : List ℕ
    moved = take (count - place) (drop place order)

    moved_length : length moved ≡ count - place
    moved_length = simp (length-take, length-drop) (omega arith)

    pub with_is : with_entry order count place entry ≡ overwrite order place (entry ∷ moved)
    unfolding with_entry
    with_is = rw (with_entry, lt-ltb count (length order) room, le-leb place count there)

    pub with_length : length (with_entry order count place entry) ≡ length order
    with_length = ap length with_is ∙ over_length order place (entry ∷ moved) (omega (arith, moved_length))

    -- as the code puts it in: later ones moved up, and then the entry written
    pub with_ends : set (paste order (place + 1) (drop place order) (count - place)) place entry
        ≡ with_entry order count place entry
    with_ends =
        let up : List ℕ = paste order (place + 1) (drop place order) (count - place) in
        let size : length up ≡ length order =
        length-paste order (place + 1) (drop place order) (count - place) (omega arith) (simp length-drop (omega arith)) in
        over_one up place entry (omega arith)
        ∙ ap (λ (n : ℕ). overwrite (take (place + 1) order ++ moved ++ drop (place + 1 + n) order) place (entry ∷ []))
        (sym moved_length)
        ∙ over_ahead order (place + 1) moved (omega (arith, moved_length)) place (entry ∷ []) (omega arith)
        ∙ sym with_is

    -- the entries around the place
    pub with_around : (es : List ℕ) → es ≡ take count order
        → take (count + 1) (with_entry order count place entry) ≡ take place es ++ entry ∷ drop place es
    with_around es is =
        let size : length (take place order ++ entry ∷ moved) ≡ count + 1 =
        simp length-append (omega (arith, moved_length, length-take-le place order (omega arith))) in
        ap (take (count + 1)) with_is
        ∙ take_at (take place order ++ entry ∷ moved) (drop (place + length (entry ∷ moved)) order) (count + 1) size
        ∙ ap₂ (λ (xs ys : List ℕ). xs ++ entry ∷ ys) (sym (take-take place count order there))
        (sym (drop_take place count order there (omega arith)))
        ∙ ap (λ (xs : List ℕ). take place xs ++ entry ∷ drop place xs) (sym is)

    -- those behind all of them
    pub with_behind : drop (count + 1) (with_entry order count place entry) ≡ drop (count + 1) order
    with_behind =
        ap (drop (count + 1)) with_is
        ∙ over_after order place (entry ∷ moved) (count + 1) (omega arith) (omega (arith, moved_length))

-- ---- an entry taken out

module _ (order : List ℕ) (count place : ℕ) where
  pub without_short : length order < count → without_entry order count place ≡ order
  unfolding without_entry
  without_short short = rw (without_entry, lt-leb count (length order) short)

  pub without_beyond : count ≤ length order → count ≤ place → without_entry order count place ≡ order
  unfolding without_entry
  without_beyond held beyond = rw (without_entry, le-leb count (length order) held, le-ltb place count beyond)

  module _ (held : count ≤ length order) (there : place < count) where
    abbrev taken : ℕ
    taken = get_or order place 0

    abbrev later : List ℕ
    later = take (count - suc place) (drop (suc place) order)

    later_length : length later ≡ count - suc place
    later_length = simp (length-take, length-drop) (omega arith)

    written_length : length (later ++ taken ∷ []) ≡ count - place
    written_length = simp length-append (omega (arith, later_length))

    front_length : length (take place order ++ later) ≡ count - 1
    front_length = simp length-append (omega (arith, later_length, length-take-le place order (omega arith)))

    pub without_is : without_entry order count place ≡ overwrite order place (later ++ taken ∷ [])
    unfolding without_entry
    without_is = rw (without_entry, le-leb count (length order) held, lt-ltb place count there)

    -- cut before the entry that is taken out
    without_cut : without_entry order count place ≡ take place order ++ later ++ taken ∷ drop count order
    without_cut =
        let end : place + length (later ++ taken ∷ []) ≡ count = omega (arith, written_length) in
        without_is
        ∙ rw (
          end,
          ← append_assoc (take place order) later (taken ∷ []),
          append_assoc (take place order ++ later) (taken ∷ []) (drop count order),
        )

    pub without_length : length (without_entry order count place) ≡ length order
    without_length =
        ap length without_is ∙ over_length order place (later ++ taken ∷ []) (omega (arith, written_length))

    -- as the code takes it out: later ones moved down, and then the entry written behind them
    pub without_ends : set (paste order place (drop (place + 1) order) (count - (place + 1))) (count - 1) taken
        ≡ without_entry order count place
    without_ends =
        let next : place + 1 ≡ suc place = omega arith in
        let down : List ℕ = paste order place (drop (suc place) order) (count - suc place) in
        let size : length down ≡ length order =
        length-paste order place (drop (suc place) order) (count - suc place) (omega arith)
        (simp length-drop (omega arith)) in
        ap (λ (n : ℕ). set (paste order place (drop n order) (count - n)) (count - 1) taken) next
        ∙ over_one down (count - 1) taken (omega arith)
        ∙ ap (λ (n : ℕ). overwrite (take place order ++ later ++ drop (place + n) order) (count - 1) (taken ∷ []))
        (sym later_length)
        ∙ over_behind order place later (omega (arith, later_length)) (count - 1) (taken ∷ [])
        (omega (arith, later_length))
        ∙ sym without_is

    pub without_around : (es : List ℕ) → es ≡ take count order
        → take (count - 1) (without_entry order count place) ≡ take place es ++ drop (suc place) es
    without_around es is =
        ap (take (count - 1)) without_cut
        ∙ take_at (take place order ++ later) (taken ∷ drop count order) (count - 1) front_length
        ∙ ap₂ (λ (xs ys : List ℕ). xs ++ ys) (sym (take-take place count order (omega arith)))
        (sym (drop_take (suc place) count order (omega arith) held))
        ∙ ap (λ (xs : List ℕ). take place xs ++ drop (suc place) xs) (sym is)

    pub without_behind : drop (count - 1) (without_entry order count place) ≡ get_or order place 0 ∷ drop count order
    without_behind =
        ap (drop (count - 1)) without_cut
        ∙ drop_at (take place order ++ later) (taken ∷ drop count order) (count - 1) front_length

-- ---- the slots from 0 on

pub from_length : (first n : ℕ) → length (slots_from first n) ≡ n
from_length first zero = refl
from_length first (suc n) = ap suc (from_length (suc first) n)

pub from_more : (first n : ℕ) → slots_from first (suc n) ≡ slots_from first n ++ (first + n) ∷ []
from_more first zero = let same : first ≡ first + 0 = omega arith in ap (λ (k : ℕ). k ∷ []) same
from_more first (suc n) =
    let next : suc first + n ≡ first + suc n = omega arith in
    ap (λ (ks : List ℕ). first ∷ ks)
    (from_more (suc first) n ∙ ap (λ (k : ℕ). slots_from (suc first) n ++ k ∷ []) next)

module _ (d moving : List ℕ) (i : ℕ) (is : moving ≡ overwrite d 0 (slots_from 0 i)) where
  -- one more
  pub number_step : length moving ≡ length d → i < length d
      → set moving i i ≡ overwrite d 0 (slots_from 0 (i + 1))
  number_step size inside =
      let next : suc i ≡ i + 1 = omega arith in
      let last : i ≡ 0 + i = omega arith in
      over_one moving i i (omega arith)
      ∙ ap (λ (l : List ℕ). overwrite l i (i ∷ [])) is
      ∙ over_behind d 0 (slots_from 0 i) (omega arith) i (i ∷ []) (omega (arith, from_length 0 i))
      ∙ ap (λ (k : ℕ). overwrite d 0 (slots_from 0 i ++ k ∷ [])) last
      ∙ ap (overwrite d 0) (sym (from_more 0 i) ∙ ap (slots_from 0) next)

  -- all of them
  pub number_all : i ≡ length d → moving ≡ slots_from 0 (length d)
  number_all all =
      let slots : List ℕ = slots_from 0 (length d) in
      let end : 0 + length slots ≡ length d = omega (arith, from_length 0 (length d)) in
      is
      ∙ ap (λ (n : ℕ). overwrite d 0 (slots_from 0 n)) all
      ∙ ap (λ (n : ℕ). slots ++ drop n d) end
      ∙ ap (λ (rest : List ℕ). slots ++ rest) (drop-length d)
      ∙ append-nil slots

-- whatever the place, the order keeps its length
pub taken_length : (order : List ℕ) (count place : ℕ) → length (without_entry order count place) ≡ length order
taken_length order count place =
    ⊎_elim
    (λ held. ⊎_elim (λ beyond. ap length (without_beyond order count place held beyond))
    (λ there. without_length order count place held there)
    (le_or_lt count place))
    (λ short. ap length (without_short order count place short))
    (le_or_lt count (length order))
