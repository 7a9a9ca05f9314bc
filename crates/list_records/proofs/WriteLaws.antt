-- Writes into a buffer, read and joined, and a record that is written in its place: record i stands at i × 6. By the
-- cuts of the buffer at the ends of a write. Assumes nothing.
use mathlib.Core.Path.{◌≡◌, sym, ap, ◌∙◌}
use mathlib.Core.List.{List, ◌++◌, append_assoc}
use Prim.Native.Nat.{ℕ, suc, ◌+◌, ◌*◌, ◌/◌, ◌≤◌, ◌<◌}
use native.Mathlib.Omega.{arith}
use borrow.Author.Tests.{lt-ltb, le-ltb}
use lib.ListN.{length, get_or, take, drop, set, length-append, get_or-append}
use lib.Seq.{get_or-take, get_or-drop, drop_at, length-take-le}
use Rattle.eit.specs.Overwrite.{overwrite}
use Rattle.eit.specs.Records.{record_size, numbers_of}
use Rattle.eit.specs.declared.Record.{Record}
use Rattle.eit.proofs.Overwrite.{over_before, over_after, over_sets, over_over}
use Rattle.list_records.specs.Written.{record_written}

-- ---- a write, read and written to

module _ (d : List ℕ) (at : ℕ) (xs : List ℕ) (inside : at ≤ length d) where
  pub read_before : (k : ℕ) → k < at → get_or (overwrite d at xs) k 0 ≡ get_or d k 0
  read_before k before =
      let rest : List ℕ = xs ++ drop (at + length xs) d in
      rw (append_assoc (take at d) xs (drop (at + length xs) d))
      (get_or-append (take at d) rest 0 k (omega (arith, length-take-le at d inside)) ∙ get_or-take at d k 0 before)

  pub read_after : (k : ℕ) → at + length xs ≤ k → get_or (overwrite d at xs) k 0 ≡ get_or d k 0
  read_after k after =
      let front : (l : List ℕ) → get_or (drop k l) 0 0 ≡ get_or l k 0 =
      λ l. get_or-drop k l 0 0 ∙ ap (λ (n : ℕ). get_or l n 0) (omega arith) in
      sym (front (overwrite d at xs)) ∙ ap (λ (l : List ℕ). get_or l 0 0) (over_after d at xs k inside after) ∙ front d

  -- another write right behind it
  pub over_behind : (seam : ℕ) (ys : List ℕ) → at + length xs ≡ seam
      → overwrite (overwrite d at xs) seam ys ≡ overwrite d at (xs ++ ys)
  over_behind seam ys ends =
      ap (λ (k : ℕ). overwrite (overwrite d at xs) k ys) (sym ends) ∙ over_over d at xs ys inside

  -- another write right ahead of it
  pub over_ahead : (ahead : ℕ) (ys : List ℕ) → ahead + length ys ≡ at
      → overwrite (overwrite d at xs) ahead ys ≡ overwrite d ahead (ys ++ xs)
  over_ahead ahead ys ends =
      let rest : List ℕ = drop (at + length xs) d in
      let front : take ahead (overwrite d at xs) ≡ take ahead d = over_before d at xs ahead (omega arith) inside in
      let back : drop at (overwrite d at xs) ≡ xs ++ rest =
      rw (append_assoc (take at d) xs rest) (drop_at (take at d) (xs ++ rest) at (length-take-le at d inside)) in
      let size : ahead + length (ys ++ xs) ≡ at + length xs = simp length-append (omega arith) in
      rw (ends, front, back, size, ← append_assoc (take ahead d ++ ys) xs rest, append_assoc (take ahead d) ys xs)

-- ---- the numbers of a record, one by one

pub record_sets : (d : List ℕ) (at : ℕ) (r : Record) → at + record_size ≤ length d
    → set
    (set (set (set (set (set d at r.id) (at + 1) r.start) (at + 2) r.duration) (at + 3) r.marks) (at + 4)
    r.offset)
    (at + 5)
    r.chain_length
    ≡ overwrite d at (numbers_of r)
record_sets d at r fits =
    let second : at + 1 ≡ suc at = omega arith in
    let third : at + 2 ≡ suc (suc at) = omega arith in
    let fourth : at + 3 ≡ suc (suc (suc at)) = omega arith in
    let fifth : at + 4 ≡ suc (suc (suc (suc at))) = omega arith in
    let sixth : at + 5 ≡ suc (suc (suc (suc (suc at)))) = omega arith in
    rw (second, third, fourth, fifth, sixth) (over_sets d at (numbers_of r) fits)

-- ---- a record in its place

module _ (d : List ℕ) (i : ℕ) (r : Record) where
  pub written_is : i * record_size + record_size ≤ length d
      → record_written d i r ≡ overwrite d (i * record_size) (numbers_of r)
  unfolding record_written
  written_is room =
      let there : i < length d / record_size = omega arith in rw (record_written, lt-ltb i (length d / record_size) there)

  pub written_beyond : length d / record_size ≤ i → record_written d i r ≡ d
  unfolding record_written
  written_beyond beyond = rw (record_written, le-ltb i (length d / record_size) beyond)
