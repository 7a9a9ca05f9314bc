-- The records that stay, written at the front one behind the other: the next one to be looked at stands behind them, as
-- it was. Then zeros, one by one. Assumes nothing.
use mathlib.Core.Path.{◌≡◌, refl, sym, ap, ◌∙◌}
use mathlib.Core.List.{List, [], ◌∷◌, ◌++◌, append_assoc, append-nil}
use Prim.Native.Nat.{ℕ, suc, ◌+◌, ◌*◌, ◌≤◌, ◌<◌}
use native.Mathlib.Omega.{arith}
use lib.ListN.{length, drop, length-append}
use Rattle.eit.specs.Time.{seconds_of_day}
use Rattle.eit.specs.Overwrite.{overwrite}
use Rattle.eit.specs.Records.{record_size, front_record, records_in, numbers_of, numbers_of_all}
use Rattle.eit.specs.declared.Record.{Record}
use Rattle.eit.proofs.Overwrite.{over_nothing, over_length, over_after}
use Rattle.eit.proofs.Records.{numbers_length, numbers_append}
use Rattle.list_records.specs.Written.{record_written}
use Rattle.list_records.proofs.WriteLaws.{over_behind, written_is}
use Rattle.list_records.proofs.RestLaws.{records_from_holds, records_end}
use Rattle.window.specs.Roll.{earlier_by, next_day}
use Rattle.window.proofs.Records.{counted_stays, counted_leaves}

-- ---- the records

-- before a turn: the first `kept` records of the buffer are those of the next day among the first i
pub record KeptSoFar (d : List ℕ) (count : ℕ) (out : List ℕ) (kept i : ℕ) : Type 0 where
  pub done : List Record
  pub all : next_day (records_in count d) ≡ done ++ next_day (drop i (records_in count d))
  pub written : out ≡ overwrite d 0 (numbers_of_all done)
  pub counted : kept ≡ length done
  pub few : kept ≤ i
  pub inside : i ≤ count
  pub held : count * record_size ≤ length d

pub kept_start : (d : List ℕ) (count : ℕ) → count * record_size ≤ length d → KeptSoFar d count d 0 0
kept_start d count held =
    record {
      done = [];
      all = refl;
      written = sym (over_nothing d 0);
      counted = refl;
      few = omega arith;
      inside = omega arith;
      held = held;
    }

module _ {d : List ℕ} {count : ℕ} {out : List ℕ} {kept i : ℕ} (so_far : KeptSoFar d count out kept i) where
  size : length (numbers_of_all so_far.done) ≡ kept * record_size
  size = numbers_length so_far.done ∙ ap (λ (n : ℕ). n * record_size) (sym so_far.counted)

  pub kept_length : length out ≡ length d
  kept_length =
      ap length so_far.written
      ∙ over_length d 0 (numbers_of_all so_far.done)
      (omega (arith, size, so_far.few, so_far.inside, so_far.held))

  -- the record to be looked at is as it was
  ahead : front_record (drop (i * record_size) out) ≡ front_record (drop (i * record_size) d)
  ahead =
      ap (λ (ns : List ℕ). front_record (drop (i * record_size) ns)) so_far.written
      ∙ ap front_record
      (over_after d 0 (numbers_of_all so_far.done) (i * record_size) (omega arith) (omega (arith, size, so_far.few)))

  module _ (here : i < count) {r : Record} (read : r ≡ front_record (drop (i * record_size) out)) where
    next : drop i (records_in count d) ≡ r ∷ drop (suc i) (records_in count d)
    next =
        records_from_holds count d i here
        ∙ ap (λ (q : Record). q ∷ drop (suc i) (records_in count d)) (sym (read ∙ ahead))

    abbrev rest : List Record
    rest = drop (suc i) (records_in count d)

    one : suc i ≡ i + 1
    one = omega arith

    pub kept_stays : seconds_of_day ≤ r.start → {out' : List ℕ} {kept' : ℕ}
        → out' ≡ record_written out kept (earlier_by seconds_of_day r) → kept' ≡ kept + 1
        → KeptSoFar d count out' kept' (i + 1)
    unfolding next_day
    kept_stays late is more =
        let moved : Record = earlier_by seconds_of_day r in
        let room : kept * record_size + record_size ≤ length out =
        omega (arith, kept_length, so_far.few, so_far.held) in
        record {
          done = so_far.done ++ (moved ∷ []);
          all =
              so_far.all
              ∙ ap (λ (rs : List Record). so_far.done ++ next_day rs) next
              ∙ ap (λ (rs : List Record). so_far.done ++ rs) (counted_stays seconds_of_day r rest late)
              ∙ sym (append_assoc so_far.done (moved ∷ []) (next_day rest))
              ∙ ap (λ (n : ℕ). so_far.done ++ (moved ∷ []) ++ next_day (drop n (records_in count d))) one;
          written =
              is
              ∙ written_is out kept moved room
              ∙ ap (λ (ns : List ℕ). overwrite ns (kept * record_size) (numbers_of moved)) so_far.written
              ∙ over_behind d 0 (numbers_of_all so_far.done) (omega arith) (kept * record_size) (numbers_of moved)
              (omega (arith, size))
              ∙ ap (overwrite d 0) (sym (numbers_append so_far.done (moved ∷ [])));
          counted = simp length-append (omega (arith, so_far.counted, more));
          few = omega (arith, so_far.few, more);
          inside = omega arith;
          held = so_far.held;
        }

    pub kept_leaves : r.start < seconds_of_day → {out' : List ℕ} {kept' : ℕ} → out' ≡ out → kept' ≡ kept
        → KeptSoFar d count out' kept' (i + 1)
    unfolding next_day
    kept_leaves early same as_many =
        record {
          done = so_far.done;
          all =
              so_far.all
              ∙ ap (λ (rs : List Record). so_far.done ++ next_day rs) next
              ∙ ap (λ (rs : List Record). so_far.done ++ rs) (counted_leaves seconds_of_day r rest early)
              ∙ ap (λ (n : ℕ). so_far.done ++ next_day (drop n (records_in count d))) one;
          written = same ∙ so_far.written;
          counted = as_many ∙ so_far.counted;
          few = omega (arith, so_far.few, as_many);
          inside = omega arith;
          held = so_far.held;
        }

  -- at the end all are there
  module _ (end : count ≤ i) where
    done_all : so_far.done ≡ next_day (records_in count d)
    unfolding next_day
    done_all =
        sym (so_far.all
        ∙ ap (λ (rs : List Record). so_far.done ++ next_day rs) (records_end count d i end)
        ∙ append-nil so_far.done)

    pub kept_end : (kept ≡ length (next_day (records_in count d)))
        × (out ≡ overwrite d 0 (numbers_of_all (next_day (records_in count d))))
    kept_end = (
      so_far.counted ∙ ap length done_all,
      so_far.written ∙ ap (λ (rs : List Record). overwrite d 0 (numbers_of_all rs)) done_all,
    )

-- the pass over the records
pub ruleset keeping = (kept_start, kept_stays, kept_leaves)
