-- Texts written one behind the other, each as far as there is room, are one text written so. Assumes nothing.
use Prim.Native.Nat.{ℕ, zero, suc, ◌+◌, ◌-◌, ◌≤◌, ◌<◌}
use mathlib.Core.List.{List, [], ◌∷◌, ◌++◌}
use mathlib.Core.Logic.{⊎_elim}
use mathlib.Core.Path.{◌≡◌, sym, ap, ap₂, subst, ◌∙◌}
use native.Mathlib.Omega.{arith}
use lib.ListN.{length, take, length-append, length-take}
use lib.Seq.{take_all}
use Rattle.eit.specs.Overwrite.{overwrite}
use Rattle.eit.proofs.Test.{le_or_lt}
use Rattle.eit.proofs.Overwrite.{over_nothing, over_length, over_over}
use Rattle.plan_listing.specs.Fill.{fitting, filled, filled_to, Fills}
use Rattle.plan_listing.specs.Writes.{Writes}
use Rattle.plan_listing.specs.declared.text.Writer.{Writer}

take_append : (n : ℕ) (xs ys : List ℕ) → take n (xs ++ ys) ≡ take n xs ++ take (n - length xs) ys
take_append zero xs ys = let nothing : 0 - length xs ≡ 0 = omega arith in rw nothing
take_append (suc n) [] ys = let all : suc n - 0 ≡ suc n = omega arith in rw all
take_append (suc n) (x ∷ xs) ys =
    let less : suc n - length (x ∷ xs) ≡ n - length xs = omega arith in
    rw less (ap (λ (rest : List ℕ). x ∷ rest) (take_append n xs ys))

-- ---- one text

-- where nothing of it fits, all stays
filled_nothing : (d : List ℕ) (at : ℕ) (text : List ℕ) → fitting d at text ≡ [] → Fills d at text d at
filled_nothing d at text none = (sym (ap (overwrite d at) none ∙ over_nothing d at), omega (arith, ap length none))

filled_full : (d : List ℕ) (at : ℕ) (text : List ℕ) → length d ≤ at → Fills d at text d at
filled_full d at text full =
    let nothing : length d - at ≡ 0 = omega arith in
    filled_nothing d at text (ap (λ (n : ℕ). take n text) nothing)

pub filled_length : (d : List ℕ) (at : ℕ) (text : List ℕ) → length (filled d at text) ≡ length d
filled_length d at text =
    ⊎_elim
    (λ (inside : at ≤ length d). over_length d at (fitting d at text) (simp length-take (omega arith)))
    (λ (outside : length d < at). ap length (sym (filled_full d at text (omega arith)).0))
    (le_or_lt at (length d))

-- where all of it fits, it is written whole
pub filled_whole : (d : List ℕ) (at : ℕ) (text : List ℕ) → at + length text ≤ length d
    → Fills d at text (overwrite d at text) (at + length text)
filled_whole d at text fits =
    let whole : fitting d at text ≡ text = take_all (length d - at) text (omega arith) in
    (ap (overwrite d at) (sym whole), omega (arith, ap length whole))

-- ---- two texts

module _ (d : List ℕ) (at : ℕ) (xs ys : List ℕ) where
  abbrev between : List ℕ
  between = filled d at xs

  abbrev to : ℕ
  to = filled_to d at xs

  -- what is left of the room
  room_left : length between - to ≡ length d - at - length xs
  room_left = rw (filled_length d at xs) (simp length-take (omega arith))

  both_fit : fitting d at (xs ++ ys) ≡ fitting d at xs ++ fitting between to ys
  both_fit = rw room_left (take_append (length d - at) xs ys)

  filled_both : filled between to ys ≡ filled d at (xs ++ ys)
  filled_both =
      ⊎_elim
      (λ (inside : at ≤ length d).
      over_over d at (fitting d at xs) (fitting between to ys) inside ∙ ap (overwrite d at) (sym both_fit))
      (λ (outside : length d < at).
      sym (filled_full between to ys (omega (arith, filled_length d at xs))).0
      ∙ sym (filled_full d at xs (omega arith)).0
      ∙ (filled_full d at (xs ++ ys) (omega arith)).0)
      (le_or_lt at (length d))

  filled_both_to : filled_to between to ys ≡ filled_to d at (xs ++ ys)
  filled_both_to = omega (arith, ap length both_fit ∙ length-append (fitting d at xs) (fitting between to ys))

-- of the text that d gets from `at` on, what stands before `rest` is written in `out`; the rest goes there from `to` on
pub record Unwritten (d : List ℕ) (at : ℕ) (all out : List ℕ) (to : ℕ) (rest : List ℕ) : Type 0 where
  pub bytes : filled d at all ≡ filled out to rest
  pub ends : filled_to d at all ≡ filled_to out to rest
  pub size : length out ≡ length d

-- there is no room for it
pub unwritten_full : {d : List ℕ} {at : ℕ} {all out : List ℕ} {to : ℕ} {rest : List ℕ}
    → Unwritten d at all out to rest → length out ≤ to → Fills d at all out to
unwritten_full {d} {at} {all} {out} {to} {rest} left full =
    let (written, behind) = filled_full out to rest full in (written ∙ sym left.bytes, behind ∙ sym left.ends)

-- two texts, one behind the other
pub filled_two : (d : List ℕ) (at : ℕ) (xs ys : List ℕ) {e f : List ℕ} {p q : ℕ}
    → Fills d at xs e p → Fills e p ys f q → Fills d at (xs ++ ys) f q
filled_two d at xs ys (written, to) (more, behind) = (
  more ∙ ap₂ (λ (e : List ℕ) (p : ℕ). filled e p ys) written to ∙ filled_both d at xs ys,
  behind ∙ ap₂ (λ (e : List ℕ) (p : ℕ). filled_to e p ys) written to ∙ filled_both_to d at xs ys,
)

-- the same text in other words
pub filled_same : (d : List ℕ) (at : ℕ) {xs ys e : List ℕ} {p : ℕ} → xs ≡ ys → Fills d at xs e p → Fills d at ys e p
filled_same d at same (written, behind) = (written ∙ ap (filled d at) same, behind ∙ ap (filled_to d at) same)

-- ---- a writer

pub writes_two : {s t u : Writer} (xs ys : List ℕ) → Writes s xs t → Writes t ys u → Writes s (xs ++ ys) u
writes_two {s} xs ys first second = record {
  same = second.same ∙ first.same;
  fills = filled_two s.out.now s.end xs ys first.fills second.fills;
}

pub writes_same : {s t : Writer} {xs ys : List ℕ} → xs ≡ ys → Writes s xs t → Writes s ys t
writes_same {s} {t} e writes = subst (λ (xs : List ℕ). Writes s xs t) e writes
