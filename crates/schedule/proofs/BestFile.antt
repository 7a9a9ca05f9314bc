-- Build's file is best: in every segment no accepted file with the same events has fewer sections, or more events in
-- its first k. By the best packing of the segment's events, counted in the bytes of both. Assumes nothing.
use mathlib.Core.Path.{◌≡◌, ap}
use mathlib.Core.List.{List}
use Prim.Native.Nat.{ℕ, ◌≤◌}
use native.Mathlib.Omega.{arith}
use Rattle.eit.specs.declared.Sizes.{Sizes}
use Rattle.sections.specs.Decode.{sections_in}
use Rattle.sections.specs.Count.{sections_counted, events_counted}
use Rattle.sections.specs.Read.{check_file}
use Rattle.sections.proofs.Count.{counted_is, held_is}
use Rattle.schedule.specs.Build.{file_of}
use Rattle.schedule.specs.Given.{Given, built, events, Carries}
use Rattle.schedule.proofs.Best.{best_fewest, best_most}
use Rattle.schedule.proofs.Given.{LegalSizes, facts, writes, rival_rules, rival_events, own_counted, own_held}

module _ (sizes : Sizes) (legal : LegalSizes sizes) (g : Given sizes) (output : List ℕ)
    (zero : (built g output).number ≡ 0)
    (file : List ℕ) (c : Carries g file) (index : ℕ) where
  pub fewest : sections_counted g.base (file_of (built g output)) index ≤ sections_counted g.base file index
  fewest =
      let (fits, is, enough, own) = writes g output zero in
      omega (
        arith,
        ap (λ (f : List ℕ). sections_counted g.base f index) own,
        own_counted legal g fits index,
        counted_is g.base file index,
        best_fewest sizes (events g) (facts g) (check_file sizes g.base file).identity (sections_in g.base file)
            (rival_rules g file c) (rival_events g file c) g.identity index,
      )

  pub most : (k : ℕ) → k ≤ 8
      → events_counted g.base file index k ≤ events_counted g.base (file_of (built g output)) index k
  most k few =
      let (fits, is, enough, own) = writes g output zero in
      omega (
        arith,
        ap (λ (f : List ℕ). events_counted g.base f index k) own,
        own_held legal g fits index k,
        held_is g.base file index k,
        best_most sizes (events g) (facts g) (check_file sizes g.base file).identity (sections_in g.base file)
            (rival_rules g file c) (rival_events g file c) g.identity index legal.least g.legal_identity fits k
            few,
      )
