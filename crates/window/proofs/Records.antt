-- Records that stay and start earlier, and lists that are refilled with fewer records: by induction over the records,
-- and by the laws of writes. Assumes nothing.
use mathlib.Core.Path.{◌≡◌, refl, sym, ap, ap₂, subst, ◌∙◌}
use mathlib.Core.Logic.{⊎_elim}
use mathlib.Core.List.{List, [], ◌∷◌, ◌++◌, append_assoc, append-nil}
use Prim.Native.Nat.{ℕ, suc, ◌+◌, ◌-◌, ◌*◌, ◌≤◌, ◌<◌}
use native.Mathlib.Omega.{arith}
use borrow.Author.Tests.{lt-ltb, le-ltb}
use lib.ListN.{length, drop, replicate, length-append, length-replicate, replicate-append-replicate}
use lib.Seq.{take-length}
use Rattle.eit.specs.Overwrite.{overwrite}
use Rattle.eit.specs.Records.{EventList, record_size, records_of, numbers_of_all}
use Rattle.eit.specs.declared.Record.{Record}
use Rattle.eit.proofs.Test.{le_or_lt}
use Rattle.eit.proofs.Overwrite.{over_length, over_part}
use Rattle.eit.proofs.Records.{numbers_length, records_front, count_records, buffer_is}
use Rattle.window.specs.Roll.{starting_from, earlier_by, counted_from, refilled}

-- ---- one record more

module _ (seconds : ℕ) (r : Record) (rs : List Record) where
  pub counted_stays : seconds ≤ r.start
      → counted_from seconds (r ∷ rs) ≡ earlier_by seconds r ∷ counted_from seconds rs
  counted_stays late = rw (starting_from, le-ltb r.start seconds late)

  pub counted_leaves : r.start < seconds → counted_from seconds (r ∷ rs) ≡ counted_from seconds rs
  counted_leaves early = rw (starting_from, lt-ltb r.start seconds early)

  -- both cases at once
  pub counted_cases : (P : List Record → Type 0)
      → (seconds ≤ r.start → P (earlier_by seconds r ∷ counted_from seconds rs))
      → (r.start < seconds → P (counted_from seconds rs))
      → P (counted_from seconds (r ∷ rs))
  counted_cases P stays leaves =
      ⊎_elim (λ late. subst P (sym (counted_stays late)) (stays late))
      (λ early. subst P (sym (counted_leaves early)) (leaves early)) (le_or_lt seconds r.start)

pub counted_length : (seconds : ℕ) (rs : List Record) → length (counted_from seconds rs) ≤ length rs
counted_length seconds [] = omega arith
counted_length seconds (r ∷ rs) =
    counted_cases seconds r rs (λ (qs : List Record). length qs ≤ suc (length rs))
    (λ late. omega (arith, counted_length seconds rs)) (λ early. omega (arith, counted_length seconds rs))

-- ---- no seconds, and seconds upon seconds

earlier_none : (r : Record) → earlier_by 0 r ≡ r
earlier_none r =
    let start : r.start - 0 ≡ r.start = omega arith in
    λ i. record {
      id = r.id;
      start = start i;
      duration = r.duration;
      marks = r.marks;
      offset = r.offset;
      chain_length = r.chain_length;
    }

pub counted_none : (rs : List Record) → counted_from 0 rs ≡ rs
counted_none [] = refl
counted_none (r ∷ rs) =
    counted_stays 0 r rs (omega arith)
    ∙ ap₂ (λ (q : Record) (qs : List Record). q ∷ qs) (earlier_none r) (counted_none rs)

earlier_more : (first more : ℕ) (r : Record) → earlier_by more (earlier_by first r) ≡ earlier_by (first + more) r
earlier_more first more r =
    let start : r.start - first - more ≡ r.start - (first + more) = omega arith in
    λ i. record {
      id = r.id;
      start = start i;
      duration = r.duration;
      marks = r.marks;
      offset = r.offset;
      chain_length = r.chain_length;
    }

pub counted_more : (first more : ℕ) (rs : List Record)
    → counted_from more (counted_from first rs) ≡ counted_from (first + more) rs
counted_more first more [] = refl
counted_more first more (r ∷ rs) =
    let both : ℕ = first + more in
    let rest = counted_more first more rs in
    ⊎_elim
    (λ late.
    ap (counted_from more) (counted_stays first r rs late)
    ∙ ⊎_elim
    (λ later.
    counted_stays more (earlier_by first r) (counted_from first rs) (omega arith)
    ∙ ap (λ (q : Record). q ∷ counted_from more (counted_from first rs)) (earlier_more first more r)
    ∙ ap (λ (qs : List Record). earlier_by both r ∷ qs) rest
    ∙ sym (counted_stays both r rs later))
    (λ sooner.
    counted_leaves more (earlier_by first r) (counted_from first rs) (omega arith)
    ∙ rest
    ∙ sym (counted_leaves both r rs sooner))
    (le_or_lt both r.start))
    (λ early.
    ap (counted_from more) (counted_leaves first r rs early)
    ∙ rest
    ∙ sym (counted_leaves both r rs (omega arith)))
    (le_or_lt first r.start)

-- ---- refilled lists

pub zeros_length : (n : ℕ) → length (replicate {A = ℕ} n 0) ≡ n
zeros_length n = length-replicate {A = ℕ} n 0

module _ (list : EventList) (rs : List Record) where
  -- what is written over the front of the buffer
  abbrev refilling : List ℕ
  refilling = numbers_of_all rs ++ replicate ((list.count - length rs) * record_size) 0

  pub refilled_records : records_of (refilled list rs) ≡ rs
  unfolding records_of
  refilled_records =
      let zeros : List ℕ = replicate ((list.count - length rs) * record_size) 0 in
      rw (append_assoc (numbers_of_all rs) zeros (drop (0 + length refilling) list.buffer))
      (records_front (length rs) rs (zeros ++ drop (0 + length refilling) list.buffer) (omega arith)
      ∙ take-length rs)

  module _ (few : length rs ≤ list.count) where
    refilling_size : length refilling ≡ list.count * record_size
    refilling_size =
        simp length-append
        (omega (arith, numbers_length rs, zeros_length ((list.count - length rs) * record_size)))

    pub refilled_length : list.count * record_size ≤ length list.buffer
        → length (refilled list rs).buffer ≡ length list.buffer
    refilled_length held = over_length list.buffer 0 refilling (omega (arith, refilling_size))

    pub refilled_buffer : (refilled list rs).buffer
        ≡ numbers_of_all rs
        ++ replicate ((list.count - length rs) * record_size) 0
        ++ drop (list.count * record_size) list.buffer
    refilled_buffer =
        let end : 0 + length refilling ≡ list.count * record_size = omega (arith, refilling_size) in
        ap (λ (n : ℕ). refilling ++ drop n list.buffer) end

    -- refilled once more, with no more records
    pub refilled_again : (qs : List Record) → length qs ≤ length rs
        → refilled (refilled list rs) qs ≡ refilled list qs
    refilled_again qs fewer =
        let behind : ℕ = (list.count - length rs) * record_size in
        let freed : ℕ = (length rs - length qs) * record_size in
        let front : List ℕ = numbers_of_all qs ++ replicate freed 0 in
        let size : length (numbers_of_all rs) ≡ length front =
        simp length-append (omega (arith, numbers_length rs, numbers_length qs, zeros_length freed)) in
        let together : freed + behind ≡ (list.count - length qs) * record_size = omega arith in
        let zeros : replicate {A = ℕ} freed 0 ++ replicate behind 0
        ≡ replicate ((list.count - length qs) * record_size) 0 =
        replicate-append-replicate {A = ℕ} freed behind 0 ∙ ap (λ (n : ℕ). replicate n 0) together in
        let written : overwrite (overwrite list.buffer 0 refilling) 0 front ≡ (refilled list qs).buffer =
        over_part list.buffer 0 (numbers_of_all rs) front (replicate behind 0) size (omega arith)
        ∙ ap (overwrite list.buffer 0)
        (append_assoc (numbers_of_all qs) (replicate freed 0) (replicate behind 0)
        ∙ ap (λ (ns : List ℕ). numbers_of_all qs ++ ns) zeros) in
        λ i. record { buffer = written i; count = length qs }

-- a list refilled with its own records is as it was
pub refilled_own : (list : EventList) → list.count * record_size ≤ length list.buffer
    → refilled list (records_of list) ≡ list
refilled_own list held =
    let rs : List Record = records_of list in
    let none : (list.count - length rs) * record_size ≡ 0 = omega (arith, count_records list) in
    let numbers : numbers_of_all rs ++ replicate ((list.count - length rs) * record_size) 0 ≡ numbers_of_all rs =
    ap (λ (n : ℕ). numbers_of_all rs ++ replicate n 0) none ∙ append-nil (numbers_of_all rs) in
    let size : 0 + length (numbers_of_all rs) ≡ list.count * record_size =
    omega (arith, numbers_length rs, count_records list) in
    let written : (refilled list rs).buffer ≡ list.buffer =
    ap (overwrite list.buffer 0) numbers
    ∙ ap (λ (n : ℕ). numbers_of_all rs ++ drop n list.buffer) size
    ∙ sym (buffer_is list held) in
    λ i. record { buffer = written i; count = count_records list i }
