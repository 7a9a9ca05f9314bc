-- Writes one behind the other are one write of all that they write: what is left to write shrinks with each. Assumes
-- nothing.
use Prim.Native.Nat.{ℕ, ◌+◌, ◌≤◌}
use mathlib.Core.List.{List, [], ◌++◌}
use mathlib.Core.Path.{◌≡◌, refl, sym, ap, ap₂, ◌∙◌}
use native.Mathlib.Omega.{arith}
use lib.ListN.{length, length-append}
use Rattle.eit.specs.Overwrite.{overwrite}
use Rattle.eit.proofs.Overwrite.{over_nothing, over_length, over_over}

module _ {A : Type 0} where
  -- of the bytes that d gets from `at` on, those before `rest` stand in `out`; the rest goes there from `offset` on
  pub record Left (d : List A) (at : ℕ) (all out : List A) (offset : ℕ) (rest : List A) : Type 0 where
    pub bytes : overwrite d at all ≡ overwrite out offset rest
    pub ends : at + length all ≡ offset + length rest
    pub size : length out ≡ length d
    pub fits : offset + length rest ≤ length d

  pub left_all : (d : List A) (at : ℕ) (all : List A) → at + length all ≤ length d → Left d at all d at all
  left_all d at all fits = record { bytes = refl; ends = refl; size = refl; fits = fits }

  module _ {d : List A} {at : ℕ} {all out : List A} {offset : ℕ} {rest : List A}
      (left : Left d at all out offset rest) where
    -- the next bytes bs, with `more` behind them
    module _ (bs more : List A) (parts : rest ≡ bs ++ more) where
      widths : length rest ≡ length bs + length more
      widths = ap length parts ∙ length-append bs more

      -- have room
      pub left_fits : offset + length bs ≤ length out
      left_fits = omega (arith, left.size, left.fits, widths)

      -- and once they are written, `more` is left
      pub left_more : {out' : List A} {offset' : ℕ} → out' ≡ overwrite out offset bs → offset' ≡ offset + length bs
          → Left d at all out' offset' more
      left_more {out'} {offset'} written seam = record {
        bytes =
            left.bytes
            ∙ ap (overwrite out offset) parts
            ∙ sym (over_over out offset bs more (omega (arith, left_fits)))
            ∙ ap₂ (λ (l : List A) (k : ℕ). overwrite l k more) (sym written) (sym seam);
        ends = omega (arith, left.ends, widths);
        size = ap length written ∙ over_length out offset bs left_fits ∙ left.size;
        fits = omega (arith, left.fits, widths);
      }

    -- nothing is left
    pub left_end : rest ≡ [] → (out ≡ overwrite d at all) × (offset ≡ at + length all)
    left_end none = (
      sym (left.bytes ∙ ap (overwrite out offset) none ∙ over_nothing out offset),
      omega (arith, left.ends, ap length none),
    )
