-- What Read leaves of the record buffer: all of it where it refuses, and what lies beyond 6 × count where it succeeds.
-- By the cases of Read. Assumes nothing.
use mathlib.Core.Path.{◌≡◌, ap, ◌∙◌}
use mathlib.Core.Logic.{◌⊎◌, inl, inr, ⊎_elim}
use Prim.Native.Nat.{ℕ, ◌*◌, ◌≤◌}
use native.Mathlib.Omega.{arith}
use mathlib.Core.List.{List}
use lib.Dec.{T_not, eqb, eqb→eq}
use lib.ListN.{length, drop}
use Rattle.eit.specs.declared.Sizes.{Sizes}
use Rattle.eit.specs.Records.{record_size, numbers_of_all}
use Rattle.eit.specs.declared.Record.{Record}
use Rattle.eit.proofs.Test.{test_or, eq_test}
use Rattle.eit.proofs.Overwrite.{over_length, over_after}
use Rattle.eit.proofs.Records.{numbers_length}
use Rattle.sections.specs.Read.{Answer, check_file, Reading, file_records, read}
use Rattle.sections.specs.Exact.{reading_of}
use Rattle.sections.proofs.Read.{read_refused, read_short, read_agrees, read_27}
use Rattle.sections.proofs.Exact.{read_accepted}

module _ (sizes : Sizes) (base : ℕ) (file buffer : List ℕ) where
  -- a refusal leaves all
  pub read_leaves : ((read sizes base file buffer).answer.number ≡ 0 → ⊥) → (read sizes base file buffer).buffer ≡ buffer
  read_leaves refused =
      let number : ℕ = (read sizes base file buffer).answer.number in
      ⊎_elim
      (λ t.
      let (zero, short) = (read_27 sizes base file buffer).0 (eqb→eq number 27 t) in
      ap (λ (r : Reading). r.buffer) (read_short sizes base file buffer zero short))
      (λ t.
      let agrees =
      read_agrees sizes base file buffer (λ number_is. T_not (eqb number 27) t (eq_test number 27 number_is)) in
      ap (λ (r : Reading). r.buffer)
      (read_refused sizes base file buffer (λ zero. refused (ap (λ (a : Answer). a.number) agrees ∙ zero))))
      (test_or (eqb number 27))

  -- the records are written over the front, or all is left
  written_or_left :
      ((read sizes base file buffer ≡ reading_of buffer (check_file sizes base file).identity (file_records base file))
      × (length (file_records base file) * record_size ≤ length buffer))
      ⊎ ((read sizes base file buffer).buffer ≡ buffer)
  written_or_left =
      let number : ℕ = (read sizes base file buffer).answer.number in
      ⊎_elim
      (λ t. let (zero, is, fits) = read_accepted sizes base file buffer (eqb→eq number 0 t) in inl (is, fits))
      (λ t. inr (read_leaves (λ zero. T_not (eqb number 0) t (eq_test number 0 zero))))
      (test_or (eqb number 0))

  -- numbers beyond 6 × count stay
  pub read_beyond : (k : ℕ) → (read sizes base file buffer).answer.count * record_size ≤ k
      → drop k (read sizes base file buffer).buffer ≡ drop k buffer
  read_beyond k beyond =
      let rs : List Record = file_records base file in
      ⊎_elim
      (λ (is, fits).
      let count : (read sizes base file buffer).answer.count ≡ length rs = ap (λ (r : Reading). r.answer.count) is in
      ap (λ (r : Reading). drop k r.buffer) is
      ∙ over_after buffer 0 (numbers_of_all rs) k (omega arith) (omega (arith, numbers_length rs)))
      (ap (drop k))
      written_or_left

  pub read_length : length (read sizes base file buffer).buffer ≡ length buffer
  read_length =
      let rs : List Record = file_records base file in
      ⊎_elim
      (λ (is, fits).
      ap (λ (r : Reading). length r.buffer) is
      ∙ over_length buffer 0 (numbers_of_all rs) (omega (arith, numbers_length rs)))
      (ap length)
      written_or_left
