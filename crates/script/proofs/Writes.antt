-- PUT and WITHDRAW as one write from the record's place on, and MOVE as a WITHDRAW and a PUT: the numbers before the
-- place and behind the write stay, by the definition of `overwrite`. By the places of the records in the buffer.
-- Assumes nothing.
use mathlib.Core.Path.{◌≡◌, sym, ap, ap₂, ◌∙◌}
use Prim.Native.Nat.{ℕ, suc, ◌+◌, ◌-◌, ◌*◌, ◌≤◌}
use native.Mathlib.Omega.{arith}
use mathlib.Core.List.{List, [], ◌∷◌, ◌++◌, append_assoc}
use lib.Dec.{T}
use lib.ListN.{length, take, drop, replicate, length-append, length-drop}
use lib.Seq.{take_at}
use Rattle.eit.specs.Among.{is_among}
use Rattle.eit.specs.Find.{position_of, place_of}
use Rattle.eit.specs.Overwrite.{overwrite}
use Rattle.eit.specs.Records.{EventList, record_size, records_of, numbers_of, numbers_of_all}
use Rattle.eit.specs.Sound.{ids_of}
use Rattle.eit.specs.declared.Record.{Record}
use Rattle.eit.proofs.Find.{place_length, position_length}
use Rattle.eit.proofs.Overwrite.{over_front, over_again}
use Rattle.eit.proofs.Records.{count_records, buffer_is, numbers_length, numbers_append, numbers_take, numbers_drop}
use Rattle.script.specs.Machine.{insert, find, without, with_start, zero_record, after_put, after_withdraw, after_move}
use Rattle.script.proofs.Places.{insert_place, without_position}
use Rattle.script.proofs.Machine.{withdraw_length, withdraw_records, move_length}

module _ (list : EventList) (held : list.count * record_size ≤ length list.buffer) where
  -- the numbers of the first k records, and of the others
  front_numbers : (k : ℕ) → k ≤ list.count
      → numbers_of_all (take k (records_of list)) ≡ take (k * record_size) list.buffer
  front_numbers k h =
      sym (numbers_take k (records_of list) (drop (list.count * record_size) list.buffer)
      (omega (arith, count_records list)))
      ∙ ap (take (k * record_size)) (sym (buffer_is list held))

  back_numbers : (k : ℕ) → k ≤ list.count
      → numbers_of_all (drop k (records_of list))
      ≡ take ((list.count - k) * record_size) (drop (k * record_size) list.buffer)
  back_numbers k h =
      let rs : List Record = records_of list in
      let rest : List ℕ = drop (list.count * record_size) list.buffer in
      let size : length (numbers_of_all (drop k rs)) ≡ (list.count - k) * record_size =
      omega (arith, numbers_length (drop k rs), length-drop k rs, count_records list) in
      sym (take_at (numbers_of_all (drop k rs)) rest ((list.count - k) * record_size) size)
      ∙ ap (take ((list.count - k) * record_size))
      (sym (numbers_drop k rs rest (omega (arith, count_records list)))
      ∙ ap (drop (k * record_size)) (sym (buffer_is list held)))

  -- the record, and behind it the later records, which have moved up by one
  pub put_writes : (r : Record)
      → let p = place_of r.start (records_of list) in
      (after_put list r).buffer
      ≡ overwrite list.buffer (p * record_size)
      (numbers_of r ++ take ((list.count - p) * record_size) (drop (p * record_size) list.buffer))
  put_writes r =
      let rs : List Record = records_of list in
      let p : ℕ = place_of r.start rs in
      let few : p ≤ list.count = omega (arith, place_length r.start rs, count_records list) in
      let moved : List ℕ = take ((list.count - p) * record_size) (drop (p * record_size) list.buffer) in
      let numbers : numbers_of_all (insert r rs) ≡ take (p * record_size) list.buffer ++ (numbers_of r ++ moved) =
      ap numbers_of_all (insert_place r rs)
      ∙ numbers_append (take p rs) (r ∷ drop p rs)
      ∙ ap₂ (λ (xs ys : List ℕ). xs ++ (numbers_of r ++ ys)) (front_numbers p few) (back_numbers p few) in
      ap (overwrite list.buffer 0) numbers
      ∙ over_front list.buffer (p * record_size) (numbers_of r ++ moved) (omega arith)

  -- the later records, which have moved down by one, and behind them six zeros
  pub withdraw_writes : (id : ℕ) → T (is_among id (ids_of (records_of list)))
      → let i = position_of id (records_of list) in
      (after_withdraw list id).buffer
      ≡ overwrite list.buffer (i * record_size)
      (take ((list.count - suc i) * record_size) (drop (suc i * record_size) list.buffer) ++ replicate record_size 0)
  withdraw_writes id a =
      let rs : List Record = records_of list in
      let i : ℕ = position_of id rs in
      let few : suc i ≤ list.count = omega (arith, position_length id rs a, count_records list) in
      let moved : List ℕ = take ((list.count - suc i) * record_size) (drop (suc i * record_size) list.buffer) in
      let zeros : List ℕ = replicate record_size 0 in
      let numbers : numbers_of_all (without id rs ++ (zero_record ∷ []))
      ≡ take (i * record_size) list.buffer ++ (moved ++ zeros) =
      numbers_append (without id rs) (zero_record ∷ [])
      ∙ ap (λ (ns : List ℕ). ns ++ zeros)
      (ap numbers_of_all (without_position id rs a)
      ∙ numbers_append (take i rs) (drop (suc i) rs)
      ∙ ap₂ (λ (xs ys : List ℕ). xs ++ ys) (front_numbers i (omega arith)) (back_numbers (suc i) few))
      ∙ append_assoc (take (i * record_size) list.buffer) moved zeros in
      ap (overwrite list.buffer 0) numbers
      ∙ over_front list.buffer (i * record_size) (moved ++ zeros) (omega arith)

-- MOVE takes the record away and puts it back with its new start
pub move_is : (list : EventList) (id start : ℕ) → T (is_among id (ids_of (records_of list)))
    → after_move list id start ≡ after_put (after_withdraw list id) (with_start start (find id (records_of list)))
move_is list id start a =
    let rs : List Record = records_of list in
    let r : Record = with_start start (find id rs) in
    let gone : List Record = without id rs ++ (zero_record ∷ []) in
    let same : length (numbers_of_all gone) ≤ length (numbers_of_all (insert r (without id rs))) =
    omega (
      arith,
      numbers_length gone,
      length-append (without id rs) (zero_record ∷ []),
      numbers_length (insert r (without id rs)),
      withdraw_length list id a,
      move_length list id a r,
    ) in
    let buffer : overwrite list.buffer 0 (numbers_of_all (insert r (without id rs)))
    ≡ overwrite (after_withdraw list id).buffer 0 (numbers_of_all (insert r (records_of (after_withdraw list id)))) =
    sym (over_again list.buffer 0 (numbers_of_all gone) (numbers_of_all (insert r (without id rs))) same (omega arith))
    ∙ ap (λ (ss : List Record). overwrite (after_withdraw list id).buffer 0 (numbers_of_all (insert r ss)))
    (sym (withdraw_records list id a)) in
    let count : list.count ≡ list.count - 1 + 1 = omega (arith, withdraw_length list id a) in
    λ i. record { buffer = buffer i; count = count i }
