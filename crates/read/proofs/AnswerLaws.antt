-- What Read says, by what check has said: a refusal stays one, and of an accepted file the record buffer is short or
-- long enough. By the cases of Read's definition. Assumes nothing.
use mathlib.Core.Path.{◌≡◌, sym, ap, ◌∙◌}
use mathlib.Core.List.{List}
use Prim.Native.Nat.{ℕ, ◌*◌, ◌/◌, ◌≤◌, ◌<◌}
use native.Mathlib.Omega.{arith}
use lib.ListN.{length}
use Rattle.std.specs.Prelude.{Ok, Err}
use Rattle.std.proofs.Common.{rules}
use Rattle.eit.specs.declared.Sizes.{Sizes}
use Rattle.eit.specs.Overwrite.{overwrite}
use Rattle.eit.specs.Records.{record_size, numbers_of_all}
use Rattle.sections.specs.Read.{Answer, refusal, check_file, file_records, read}
use Rattle.sections.proofs.Read.{read_refused, read_short, read_succeeds}
use Rattle.sections.proofs.Exact.{accepted_answer}
use Rattle.read_answer.specs.Outcome.{error_number, outcome_of}
use Rattle.read_answer.specs.declared.FileRead.{FileRead}
use Rattle.read_answer.specs.declared.ReadError.{ReadError}
use Rattle.read_answer.specs.declared.ReadError.TheVariants.{RecordsShort}
use Rattle.read.specs.ReadOutcome.{read_outcome}

-- 0 is the number of success alone
never_0 : (refused : ReadError) → error_number refused ≡ 0 → ⊥
never_0 = search rules

module _ (sizes : Sizes) (base : ℕ) (file buffer : List ℕ) where
  pub read_stops : (refused : ReadError) → check_file sizes base file ≡ outcome_of (Err refused)
      → read sizes base file buffer ≡ read_outcome (Err refused) buffer
  read_stops refused is =
      let number : (check_file sizes base file).number ≡ error_number refused = ap (λ (a : Answer). a.number) is in
      read_refused sizes base file buffer (λ zero. never_0 refused (sym number ∙ zero))
      ∙ ap (λ (a : Answer). record { answer = a; buffer = buffer }) is

  module _ {accepted : FileRead} (is : check_file sizes base file ≡ outcome_of (Ok accepted)) where
    pub accepted_0 : (check_file sizes base file).number ≡ 0
    accepted_0 = ap (λ (a : Answer). a.number) is

    same_count : (check_file sizes base file).count ≡ accepted.count
    same_count = ap (λ (a : Answer). a.count) is

    pub read_27 : length buffer / record_size < accepted.count
        → read sizes base file buffer ≡ read_outcome (Err (RecordsShort accepted.count)) buffer
    read_27 short =
        read_short sizes base file buffer accepted_0 (omega (arith, same_count))
        ∙ ap (λ (n : ℕ). record { answer = refusal 27 n; buffer = buffer }) same_count

    pub records_fit : accepted.count ≤ length buffer / record_size
        → length (file_records base file) * record_size ≤ length buffer
    records_fit enough =
        let events : (check_file sizes base file).count ≡ length (file_records base file) =
        ap (λ (a : Answer). a.count) (accepted_answer sizes base file accepted_0) in
        omega (arith, events, same_count)

    pub read_fills : accepted.count ≤ length buffer / record_size → {out : List ℕ}
        → out ≡ overwrite buffer 0 (numbers_of_all (file_records base file))
        → read sizes base file buffer ≡ read_outcome (Ok accepted) out
    read_fills enough {out} filled =
        read_succeeds sizes base file buffer accepted_0 (omega (arith, same_count))
        ∙ (λ i. record { answer = is i; buffer = sym filled i })
