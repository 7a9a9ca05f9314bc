-- Each test of a section's frame decides where it fails, and behind them all the table does. Assumes nothing.
use Prim.Native.Nat.{ℕ, ◌≤◌, ◌<◌}
use mathlib.Core.Bool.{false}
use mathlib.Core.List.{List}
use mathlib.Core.Path.{◌≡◌, sym, ◌∙◌}
use borrow.Author.Tests.{le-leb, lt-leb, eq-eqb, ne_eqb}
use lib.ListN.{length}
use Rattle.eit.specs.Sizes.{section_overhead}
use Rattle.eit.specs.declared.Sizes.{Sizes}
use Rattle.eit.specs.Fields.{field}
use Rattle.sections.specs.Decode.{stated_section_size}
use Rattle.sections.specs.HeaderTests.{is_table, is_framed}

module _ (sizes : Sizes) (bs : List ℕ) {stated : ℕ} (states : stated ≡ stated_section_size bs) where
  pub framed_truncated : (length bs ≡ stated → ⊥) → is_framed sizes bs ≡ false
  unfolding is_framed
  framed_truncated other = rw (ne_eqb (length bs) (stated_section_size bs) (λ e. other (e ∙ sym states)))

  module _ (whole : length bs ≡ stated) where
    pub framed_short : length bs < section_overhead → is_framed sizes bs ≡ false
    unfolding is_framed
    framed_short few =
        rw (eq-eqb (length bs) (stated_section_size bs) (whole ∙ states), lt-leb section_overhead (length bs) few)

    module _ (enough : section_overhead ≤ length bs) where
      pub framed_long : sizes.section_limit < length bs → is_framed sizes bs ≡ false
      unfolding is_framed
      framed_long many =
          rw (
            eq-eqb (length bs) (stated_section_size bs) (whole ∙ states),
            le-leb section_overhead (length bs) enough,
            lt-leb (length bs) sizes.section_limit many,
          )

      pub framed_table : length bs ≤ sizes.section_limit → is_framed sizes bs ≡ is_table (field 0 1 bs)
      unfolding is_framed
      framed_table fits =
          rw (
            eq-eqb (length bs) (stated_section_size bs) (whole ∙ states),
            le-leb section_overhead (length bs) enough,
            le-leb (length bs) sizes.section_limit fits,
          )
