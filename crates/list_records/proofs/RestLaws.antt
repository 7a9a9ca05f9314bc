-- The records from a place on: the one that stands there and the others, none behind the last. Record i stands at i ×
-- 6. Assumes nothing.
use mathlib.Core.Path.{◌≡◌, ap, ◌∙◌}
use mathlib.Core.List.{List, [], ◌∷◌}
use Prim.Native.Nat.{ℕ, suc, ◌*◌, ◌≤◌, ◌<◌}
use native.Mathlib.Omega.{arith}
use lib.ListN.{length, drop, drop_of_length-le}
use lib.Seq.{drop-cons}
use Rattle.eit.specs.Records.{record_size, front_record, records_in}
use Rattle.eit.specs.declared.Record.{Record}
use Rattle.eit.proofs.Records.{records_length, record_at_holds}

module _ (n : ℕ) (d : List ℕ) (i : ℕ) where
  pub records_from_holds : i < n
      → drop i (records_in n d) ≡ front_record (drop (i * record_size) d) ∷ drop (suc i) (records_in n d)
  records_from_holds within =
      let inside : i < length (records_in n d) = omega (arith, records_length n d) in
      drop-cons (records_in n d) i (front_record []) inside
      ∙ ap (λ (r : Record). r ∷ drop (suc i) (records_in n d)) (record_at_holds n d i (front_record []) within)

  pub records_end : n ≤ i → drop i (records_in n d) ≡ []
  records_end behind = drop_of_length-le (records_in n d) {i = i} (omega (arith, records_length n d))
