-- Which numbers an edit leaves as they were, beyond what proofs/Writes.antt says of PUT and WITHDRAW: those around both
-- places of a MOVE, those behind the list's limit, and how many there are. An edit writes records over the front of the
-- buffer, so it is enough to say which records are as they were. Assumes nothing.
use mathlib.Core.Path.{◌≡◌, refl, sym, ap, ◌∙◌}
use mathlib.Core.Logic.{⊎_elim}
use Prim.Native.Nat.{ℕ, suc, ◌+◌, ◌-◌, ◌*◌, ◌≤◌, ◌<◌}
use native.Mathlib.Omega.{arith}
use mathlib.Core.List.{List, [], ◌∷◌, ◌++◌}
use lib.Dec.{T, ltb→lt}
use lib.ListN.{length, take, drop, length-append}
use Rattle.eit.specs.declared.Sizes.{Sizes}
use Rattle.eit.specs.Find.{position_of, place_of}
use Rattle.eit.specs.Pools.{Pools}
use Rattle.eit.specs.Records.{EventList, record_size, records_of, numbers_of_all}
use Rattle.eit.specs.Among.{is_among}
use Rattle.eit.specs.Sound.{ids_of, sound}
use Rattle.eit.specs.declared.Record.{Record}
use Rattle.eit.proofs.Test.{le_or_lt}
use Rattle.eit.proofs.Find.{position_length}
use Rattle.eit.proofs.Overwrite.{over_length, over_after}
use Rattle.eit.proofs.Records.{count_records, buffer_is, numbers_length, numbers_take, numbers_drop}
use Rattle.eit.proofs.Sound.{sound_list}
use Rattle.script.specs.Form.{Act, put, withdraw, move}
use Rattle.script.specs.Edit.{Edited, edit}
use Rattle.script.specs.Machine.{limit_of, insert, find, without, with_start, zero_record, written, after_move, done}
use Rattle.script.specs.Machine.{step}
use Rattle.script.proofs.Places.{insert_before, insert_behind, without_before, without_behind}
use Rattle.script.proofs.Machine.{limit_is, put_length, withdraw_length, move_length, put_done, withdraw_done}
use Rattle.script.proofs.Machine.{move_done, step_sound}
use Rattle.script.proofs.Edit.{run_ind, edit_or}

-- ---- records written over the front of a buffer

module _ (list : EventList) (rs : List Record) (n : ℕ) where
  -- numbers behind what is written stay
  written_beyond : (k : ℕ) → length rs ≤ k
      → drop (k * record_size) (written list rs n).buffer ≡ drop (k * record_size) list.buffer
  written_beyond k h =
      over_after list.buffer 0 (numbers_of_all rs) (k * record_size) (omega arith) (omega (arith, numbers_length rs))

module _ (list : EventList) (held : list.count * record_size ≤ length list.buffer) (rs : List Record) (n : ℕ) where
  -- so do the first k records, if they are the same
  written_before : (k : ℕ) → k ≤ length rs → k ≤ list.count → take k rs ≡ take k (records_of list)
      → take (k * record_size) (written list rs n).buffer ≡ take (k * record_size) list.buffer
  written_before k h l e =
      let was = numbers_take k (records_of list) (drop (list.count * record_size) list.buffer)
      (omega (arith, count_records list)) in
      numbers_take k rs (drop (0 + length (numbers_of_all rs)) list.buffer) h
      ∙ ap numbers_of_all e
      ∙ sym was
      ∙ ap (take (k * record_size)) (sym (buffer_is list held))

  -- and the records behind k, if they are the same and as many
  written_behind : (k : ℕ) → k ≤ list.count → length rs ≡ list.count → drop k rs ≡ drop k (records_of list)
      → drop (k * record_size) (written list rs n).buffer ≡ drop (k * record_size) list.buffer
  written_behind k l whole e =
      let size : 0 + length (numbers_of_all rs) ≡ list.count * record_size = omega (arith, numbers_length rs) in
      let rest : List ℕ = drop (list.count * record_size) list.buffer in
      rw (numbers_drop k rs (drop (0 + length (numbers_of_all rs)) list.buffer) (omega arith), size, e)
      (sym (numbers_drop k (records_of list) rest (omega (arith, count_records list)))
      ∙ ap (drop (k * record_size)) (sym (buffer_is list held)))

-- ---- MOVE

module _ (list : EventList) (id start k : ℕ) (a : T (is_among id (ids_of (records_of list))))
    (held : list.count * record_size ≤ length list.buffer) where
  -- records before both places, the old one and the new one, stay
  pub move_before : k ≤ position_of id (records_of list) → k ≤ place_of start (without id (records_of list))
      → take (k * record_size) (after_move list id start).buffer ≡ take (k * record_size) list.buffer
  move_before i p =
      let others : List Record = without id (records_of list) in
      let r : Record = with_start start (find id (records_of list)) in
      let whole : length (insert r others) ≡ list.count = move_length list id a r in
      let few : k ≤ list.count = omega (arith, position_length id (records_of list) a, count_records list) in
      written_before list held (insert r others) list.count k (omega arith) few
      (insert_before k r others p ∙ without_before k id (records_of list) a i)

  -- and so do records, and all other numbers, behind both
  pub move_behind : position_of id (records_of list) < k → place_of start (without id (records_of list)) < k
      → drop (k * record_size) (after_move list id start).buffer ≡ drop (k * record_size) list.buffer
  move_behind i p =
      let others : List Record = without id (records_of list) in
      let r : Record = with_start start (find id (records_of list)) in
      let whole : length (insert r others) ≡ list.count = move_length list id a r in
      let e : k ≡ suc (k - 1) = omega arith in
      ⊎_elim
      (λ few.
      written_behind list held (insert r others) list.count k few whole
      (rw e (insert_behind (k - 1) r others (omega arith)
      ∙ without_behind (k - 1) id (records_of list) a (omega arith))))
      (λ more. written_beyond list (insert r others) list.count k (omega arith))
      (le_or_lt k list.count)

-- ---- the buffer keeps its length

module _ (sizes : Sizes) (pools : Pools) (list : EventList) where
  written_length : (rs : List Record) (n : ℕ) → length rs * record_size ≤ length list.buffer
      → length (written list rs n).buffer ≡ length list.buffer
  written_length rs n h = over_length list.buffer 0 (numbers_of_all rs) (omega (arith, numbers_length rs))

  pub step_length : (act : Act) (next : EventList) → step sizes pools list act ≡ done next → T (sound sizes pools list)
      → length next.buffer ≡ length list.buffer
  step_length (put r) next e t =
      let p = put_done sizes pools list r next e in
      let limit = ltb→lt list.count (limit_of sizes list) p.limit in
      let rs : List Record = records_of list in
      rw p.after
      (written_length (insert r rs) (list.count + 1) (omega (arith, limit, put_length list r)))
  step_length (withdraw id) next e t =
      let p = withdraw_done sizes pools list id next e in
      let rs : List Record = without id (records_of list) in
      rw p.after
      (written_length (rs ++ (zero_record ∷ [])) (list.count - 1)
      (omega (
        arith,
        withdraw_length list id p.old_id,
        length-append rs (zero_record ∷ []),
        (sound_list sizes pools list t).held,
      )))
  step_length (move id start) next e t =
      let p = move_done sizes pools list id start next e in
      let rs : List Record = records_of list in
      let r : Record = with_start start (find id rs) in
      rw p.after
      (written_length (insert r (without id rs)) list.count
      (omega (arith, move_length list id p.old_id r, (sound_list sizes pools list t).held)))

-- whatever Edit answers
pub edit_length : (sizes : Sizes) (pools : Pools) (list : EventList) (script : List ℕ)
    → length (edit sizes pools list script).list.buffer ≡ length list.buffer
edit_length sizes pools list script =
    edit_or sizes pools (λ o. length o.list.buffer ≡ length list.buffer) list script refl (λ at. refl)
    (λ at. refl)
    (λ es t.
    run_ind sizes pools (λ list o. T (sound sizes pools list) → length o.list.buffer ≡ length list.buffer)
    (λ list t. refl) (λ list e n q t. refl)
    (λ list e next o q ih t. ih (step_sound sizes pools list e.act next q t)
    ∙ step_length sizes pools list e.act next q t)
    list es t)

-- ---- numbers beyond the limit stay, whatever Edit answers

module _ (sizes : Sizes) (pools : Pools) (k : ℕ) where
  -- the buffer, and so the limit, keeps its length
  Beyond : EventList → Edited → Type 0
  Beyond list o =
      T (sound sizes pools list) → limit_of sizes list ≤ k
      → drop (k * record_size) o.list.buffer ≡ drop (k * record_size) list.buffer

  step_beyond : (list : EventList) (act : Act) (next : EventList) → step sizes pools list act ≡ done next
      → T (sound sizes pools list) → limit_of sizes list ≤ k
      → drop (k * record_size) next.buffer ≡ drop (k * record_size) list.buffer
  step_beyond list (put r) next e t h =
      let p = put_done sizes pools list r next e in
      let limit = ltb→lt list.count (limit_of sizes list) p.limit in
      rw p.after
      (written_beyond list (insert r (records_of list)) (list.count + 1) k (omega (arith, limit, put_length list r)))
  step_beyond list (withdraw id) next e t h =
      let p = withdraw_done sizes pools list id next e in
      let f = sound_list sizes pools list t in
      let rs : List Record = without id (records_of list) in
      let few : list.count ≤ limit_of sizes list = (limit_is sizes list list.count).1 (f.held, f.few) in
      rw p.after
      (written_beyond list (rs ++ (zero_record ∷ [])) (list.count - 1) k
      (omega (arith, few, withdraw_length list id p.old_id, length-append rs (zero_record ∷ []))))
  step_beyond list (move id start) next e t h =
      let p = move_done sizes pools list id start next e in
      let f = sound_list sizes pools list t in
      let r : Record = with_start start (find id (records_of list)) in
      let few : list.count ≤ limit_of sizes list = (limit_is sizes list list.count).1 (f.held, f.few) in
      rw p.after
      (written_beyond list (insert r (without id (records_of list))) list.count k
      (omega (arith, few, move_length list id p.old_id r)))

  pub edit_beyond : (list : EventList) (script : List ℕ) → limit_of sizes list ≤ k
      → drop (k * record_size) (edit sizes pools list script).list.buffer ≡ drop (k * record_size) list.buffer
  unfolding Beyond
  edit_beyond list script h =
      edit_or sizes pools (λ o. drop (k * record_size) o.list.buffer ≡ drop (k * record_size) list.buffer) list
      script refl
      (λ at. refl) (λ at. refl)
      (λ es t.
      run_ind sizes pools Beyond (λ list t h. refl) (λ list e n q t h. refl)
      (λ list e next o q ih t h.
      let same = step_length sizes pools list e.act next q t in
      ih (step_sound sizes pools list e.act next q t) (omega arith) ∙ step_beyond list e.act next q t h)
      list es t h)
