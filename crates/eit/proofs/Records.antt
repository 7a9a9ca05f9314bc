-- Records and the numbers of the buffer turn into each other: by induction over the records, six numbers at a time.
-- Assumes nothing.
use mathlib.Core.Path.{◌≡◌, refl, sym, ap, ap₂, ◌∙◌}
use Prim.Native.Nat.{ℕ, zero, suc, ◌+◌, ◌*◌, ◌≤◌, ◌<◌}
use native.Mathlib.Omega.{arith}
use mathlib.Core.List.{List, [], ◌∷◌, ◌++◌}
use lib.ListN.{length, get_or, take, drop, length-drop, take-append-drop}
use lib.Seq.{drop-drop, take-add, take-length}
use Rattle.eit.specs.Records.{EventList, record_size, records_of, numbers_of, front_record, records_in, numbers_of_all}
use Rattle.eit.specs.Overwrite.{overwrite}
use Rattle.eit.specs.declared.Record.{Record}

pub records_length : (n : ℕ) (d : List ℕ) → length (records_in n d) ≡ n
unfolding records_in
records_length zero d = refl
records_length (suc n) d = ap suc (records_length n (drop record_size d))

pub numbers_length : (rs : List Record) → length (numbers_of_all rs) ≡ length rs * record_size
numbers_length [] = refl
numbers_length (r ∷ rs) = omega (arith, numbers_length rs)

pub numbers_append : (rs ss : List Record) → numbers_of_all (rs ++ ss) ≡ numbers_of_all rs ++ numbers_of_all ss
numbers_append [] ss = refl
numbers_append (r ∷ rs) ss = ap (λ (ns : List ℕ). numbers_of r ++ ns) (numbers_append rs ss)

-- records that stand as numbers at the front of a buffer are read back, as many as are asked for
pub records_front : (n : ℕ) (rs : List Record) (rest : List ℕ) → n ≤ length rs
    → records_in n (numbers_of_all rs ++ rest) ≡ take n rs
unfolding records_in
records_front zero rs rest h = refl
records_front (suc n) [] rest h = absurd (omega arith)
records_front (suc n) (r ∷ rs) rest h = ap (λ (ss : List Record). r ∷ ss) (records_front n rs rest (omega arith))

-- six numbers are the numbers of the record that they are
front_back : (d : List ℕ) → record_size ≤ length d → numbers_of (front_record d) ≡ take record_size d
front_back [] h = absurd (omega arith)
front_back (a ∷ []) h = absurd (omega arith)
front_back (a ∷ b ∷ []) h = absurd (omega arith)
front_back (a ∷ b ∷ c ∷ []) h = absurd (omega arith)
front_back (a ∷ b ∷ c ∷ d ∷ []) h = absurd (omega arith)
front_back (a ∷ b ∷ c ∷ d ∷ e ∷ []) h = absurd (omega arith)
front_back (a ∷ b ∷ c ∷ d ∷ e ∷ f ∷ rest) h = refl

-- the numbers of a list's records are the front of its buffer
pub numbers_back : (n : ℕ) (d : List ℕ) → n * record_size ≤ length d
    → numbers_of_all (records_in n d) ≡ take (n * record_size) d
unfolding records_in
numbers_back zero d h = refl
numbers_back (suc n) d h =
    let e : record_size + n * record_size ≡ suc n * record_size = omega arith in
    let rest : n * record_size ≤ length (drop record_size d) = omega (arith, length-drop record_size d) in
    ap₂ (λ (xs ys : List ℕ). xs ++ ys) (front_back d (omega arith)) (numbers_back n (drop record_size d) rest)
    ∙ sym (take-add record_size (n * record_size) d)
    ∙ ap (λ (k : ℕ). take k d) e

-- record i stands at i × 6
pub record_at_holds : (n : ℕ) (d : List ℕ) (i : ℕ) (r : Record) → i < n
    → get_or (records_in n d) i r ≡ front_record (drop (i * record_size) d)
unfolding records_in
record_at_holds zero d i r h = absurd (omega arith)
record_at_holds (suc n) d zero r h = refl
record_at_holds (suc n) d (suc i) r h =
    let e : record_size + i * record_size ≡ suc i * record_size = omega arith in
    record_at_holds n (drop record_size d) i r (omega arith)
    ∙ ap front_record (drop-drop (i * record_size) record_size d ∙ ap (λ (k : ℕ). drop k d) e)

-- the numbers of the first k records are the first k × 6 numbers, and those of the others the rest
pub numbers_take : (k : ℕ) (rs : List Record) (rest : List ℕ) → k ≤ length rs
    → take (k * record_size) (numbers_of_all rs ++ rest) ≡ numbers_of_all (take k rs)
numbers_take zero rs rest h = refl
numbers_take (suc k) [] rest h = absurd (omega arith)
numbers_take (suc k) (r ∷ rs) rest h =
    let e : suc k * record_size ≡ suc (suc (suc (suc (suc (suc (k * record_size)))))) = omega arith in
    rw (e, numbers_take k rs rest (omega arith))

pub numbers_drop : (k : ℕ) (rs : List Record) (rest : List ℕ) → k ≤ length rs
    → drop (k * record_size) (numbers_of_all rs ++ rest) ≡ numbers_of_all (drop k rs) ++ rest
numbers_drop zero rs rest h = refl
numbers_drop (suc k) [] rest h = absurd (omega arith)
numbers_drop (suc k) (r ∷ rs) rest h =
    let e : suc k * record_size ≡ suc (suc (suc (suc (suc (suc (k * record_size)))))) = omega arith in
    rw e (numbers_drop k rs rest (omega arith))

-- ---- a list

-- a list has as many records as it counts
pub count_records : (list : EventList) → length (records_of list) ≡ list.count
unfolding records_of
count_records list = records_length list.count list.buffer

-- the buffer of a list that it fits in: its records, and what lies behind them
pub buffer_is : (list : EventList) → list.count * record_size ≤ length list.buffer
    → list.buffer ≡ numbers_of_all (records_of list) ++ drop (list.count * record_size) list.buffer
unfolding records_of
buffer_is list held =
    rw (numbers_back list.count list.buffer held)
    (sym (take-append-drop (list.count * record_size) list.buffer))

-- records that are written over the front of a buffer are read back
pub records_written : (rs : List Record) (buffer : List ℕ)
    → records_of (record { buffer = overwrite buffer 0 (numbers_of_all rs); count = length rs }) ≡ rs
unfolding records_of
records_written rs buffer =
    records_front (length rs) rs (drop (0 + length (numbers_of_all rs)) buffer) (omega arith) ∙ take-length rs
