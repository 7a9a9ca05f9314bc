-- A file is accepted, in 01's sense, exactly if check succeeds on it, and exactly if it is the joined bytes of sections
-- that keep the rules, where the largest list fits 12,288 numbers: by `accepted_rules` and `follows_shown` of Exact.
-- Assumes nothing.
use mathlib.Core.Path.{◌≡◌, ap, subst, ◌∙◌}
use mathlib.Core.Logic.{◌↔◌}
use Prim.Native.Nat.{ℕ, ◌*◌, ◌≤◌}
use native.Mathlib.Omega.{arith}
use mathlib.Core.List.{List}
use lib.ListN.{length, replicate, length-replicate}
use Rattle.eit.specs.declared.Sizes.{Sizes}
use Rattle.eit.specs.Limits.{base_day_max}
use Rattle.eit.specs.Fields.{Bytes}
use Rattle.eit.specs.Records.{record_size}
use Rattle.eit.specs.declared.Identity.{Identity}
use Rattle.sections.specs.Section.{Section}
use Rattle.sections.specs.Encode.{file_bytes}
use Rattle.sections.specs.Decode.{sections_in}
use Rattle.sections.specs.Rules.{Rules}
use Rattle.sections.specs.Read.{Answer, check_file, read}
use Rattle.sections.specs.Exact.{accepted_numbers, Accepted}
use Rattle.sections.proofs.Read.{read_agrees, read_27}
use Rattle.sections.proofs.Exact.{accepted_answer, accepted_few, accepted_rules, follows_shown, read_accepted}

-- a record buffer that the largest list fits in is never short
pub read_enough : (sizes : Sizes) (base : ℕ) (file buffer : List ℕ) → sizes.event_limit * record_size ≤ length buffer
    → (read sizes base file buffer).answer ≡ check_file sizes base file
read_enough sizes base file buffer enough =
    read_agrees sizes base file buffer
    (λ number_is.
    let (zero, short) = (read_27 sizes base file buffer).0 number_is in
    let count = ap (λ (a : Answer). a.count) (accepted_answer sizes base file zero) in
    omega (arith, accepted_few sizes base file zero))

-- a record buffer of any length
pub some_buffer : (n : ℕ) → (buffer : List ℕ) × (length buffer ≡ n)
some_buffer n = (replicate n 0, length-replicate {A = ℕ} n 0)

-- check, which has no record buffer, succeeds on an accepted file
pub accepted_check : (sizes : Sizes) (base : ℕ) (file : List ℕ) → Accepted sizes base file
    → (check_file sizes base file).number ≡ 0
accepted_check sizes base file accepted =
    let (buffer, size) = some_buffer accepted_numbers in
    (read_accepted sizes base file buffer (accepted buffer size)).0

-- and a file on which it succeeds is accepted, where the largest list fits the buffer
pub check_accepted : (sizes : Sizes) (base : ℕ) (file : List ℕ) → sizes.event_limit * record_size ≤ accepted_numbers
    → (check_file sizes base file).number ≡ 0 → Accepted sizes base file
check_accepted sizes base file few zero buffer size =
    ap (λ (a : Answer). a.number) (read_enough sizes base file buffer (omega arith)) ∙ zero

-- demand 2: Read accepts exactly the files that follow the rules
pub accepted_exactly : (sizes : Sizes) (base : ℕ) (file : List ℕ) → sizes.section_limit ≤ 4_096
    → sizes.event_limit * record_size ≤ accepted_numbers → base ≤ base_day_max → Bytes file
    → Accepted sizes base file ↔
    ((identity : Identity) × (ss : List Section) × Rules sizes identity ss × (file_bytes base ss ≡ file))
accepted_exactly sizes base file length_fits few legal bytes = (
  λ accepted.
      let (rules, joined) = accepted_rules sizes base file bytes (accepted_check sizes base file accepted) in
      ((check_file sizes base file).identity, sections_in base file, rules, joined),
  λ (identity, ss, rules, joined).
      check_accepted sizes base file few
      (subst (λ (f : List ℕ). (check_file sizes base f).number ≡ 0) joined
      (ap (λ (a : Answer). a.number) (follows_shown sizes base length_fits legal identity ss rules))),
)
