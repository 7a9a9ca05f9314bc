-- The records of an event loop, written one behind the other: what is left to write shrinks with each event (`Left` of
-- codec), and each piece that is left is an event. Assumes nothing.
use mathlib.Core.Path.{◌≡◌, refl, ap, subst, ◌∙◌}
use mathlib.Core.Bool.{true}
use mathlib.Core.List.{List, [], ◌∷◌, ◌++◌, map, flatten}
use Prim.Native.Nat.{ℕ, suc, ◌+◌, ◌*◌, ◌≤◌}
use native.Mathlib.Omega.{arith}
use lib.Dec.{T, eqb, eqb→eq}
use lib.ListN.{length, length-append, length-drop}
use lib.Seq.{take_all}
use Rattle.std.specs.Prelude.{Some, None}
use Rattle.eit.specs.Overwrite.{overwrite}
use Rattle.eit.specs.Records.{record_size, numbers_of, numbers_of_all}
use Rattle.eit.specs.declared.Record.{Record}
use Rattle.eit.proofs.Test.{and_left, and_right, true_is}
use Rattle.eit.proofs.Records.{numbers_length}
use Rattle.sections.specs.Section.{Header, event_overhead, event_size}
use Rattle.sections.specs.Decode.{stated_event_size, event_in}
use Rattle.sections.specs.Split.{split_by}
use Rattle.sections.specs.Offsets.{record_at, records_at}
use Rattle.sections.specs.EventTests.{is_event, are_events}
use Rattle.sections.proofs.Split.{split_joined}
use Rattle.codec.proofs.LeftLaws.{Left, left_all, left_fits, left_more, left_end}
use Rattle.codec_section.specs.EventRead.{is_whole_event, event_read}
use Rattle.codec_section.proofs.EventReadLaws.{event_whole, whole_read}
use Rattle.list_records.specs.Written.{record_written}
use Rattle.list_records.proofs.WriteLaws.{written_is}
use Rattle.read.specs.Fillable.{AreEvents}

-- the records of pieces that stand one behind the other
abbrev pub piece_records : ℕ → ℕ → List (List ℕ) → List Record
piece_records base from pieces = records_at from (map (event_in base) pieces)

pub piece_count : (base from : ℕ) (pieces : List (List ℕ)) → length (piece_records base from pieces) ≡ length pieces
piece_count base from [] = refl
piece_count base from (bs ∷ rest) = ap suc (piece_count base (from + event_size (event_in base bs)) rest)

-- before a turn: the first of these pieces is the next event, which begins at `at` in the file, and its record the
-- record n
pub record FillSoFar (base from place : ℕ) (all : List (List ℕ)) (d out : List ℕ) (n at : ℕ) (pieces : List (List ℕ))
    : Type 0 where
  pub left : Left d (place * record_size) (numbers_of_all (piece_records base from all)) out (n * record_size)
      (numbers_of_all (piece_records base at pieces))
  pub are : AreEvents base pieces
  pub inside : at + length (flatten pieces) ≤ from + length (flatten all)

pub fill_start : {base from place : ℕ} {all : List (List ℕ)} {d : List ℕ}
    → AreEvents base all → (place + length all) * record_size ≤ length d
    → FillSoFar base from place all d d place from all
fill_start {base} {from} {place} {all} {d} are room =
    record {
      left =
          left_all d (place * record_size) (numbers_of_all (piece_records base from all))
          (omega (arith, numbers_length (piece_records base from all), piece_count base from all));
      are = are;
      inside = omega arith;
    }

-- a piece that is an event of a section
module _ (base : ℕ) (bs : List ℕ) (h : Header) (event : T (is_event base h bs)) where
  -- has the bytes that it states
  stated : length bs ≡ stated_event_size bs
  unfolding is_event
  stated = eqb→eq (length bs) (stated_event_size bs) (and_left (eqb (length bs) (stated_event_size bs)) _ event)

  piece_size : event_size (event_in base bs) ≡ length bs
  piece_size = omega (arith, length-drop event_overhead bs, stated)

  -- and is read
  piece_read : event_read base bs ≡ Some (record_at 0 (event_in base bs))
  piece_read =
      let holds : T (is_whole_event base bs) =
      and_left (is_whole_event base bs) _ (subst T (event_whole base h bs) event) in
      subst
      (λ (xs : List ℕ). is_whole_event base xs ≡ true → event_read base bs ≡ Some (record_at 0 (event_in base xs)))
      (take_all (stated_event_size bs) bs (omega (arith, stated))) (whole_read base bs)
      (true_is (is_whole_event base bs) holds)

-- the pieces have all the bytes of the loop
pub loop_bytes : (events : List ℕ) → length (flatten (split_by stated_event_size events)) ≡ length events
loop_bytes events = ap length (split_joined stated_event_size (λ piece. omega arith) events)

flatten_next : (bs : List ℕ) (rest : List (List ℕ)) → length (flatten (bs ∷ rest)) ≡ length bs + length (flatten rest)
unfolding flatten
flatten_next bs rest = length-append bs (flatten rest)

module _ {base from place : ℕ} {all : List (List ℕ)} {d out : List ℕ} {n at : ℕ} {pieces : List (List ℕ)}
    (so_far : FillSoFar base from place all d out n at pieces) where
  module _ (bs : List ℕ) (rest : List (List ℕ)) (parts : pieces ≡ bs ∷ rest) where
    abbrev here : FillSoFar base from place all d out n at (bs ∷ rest)
    here = subst (FillSoFar base from place all d out n at) parts so_far

    first : T (is_event base here.are.header bs)
    first = and_left (is_event base here.are.header bs) (are_events base here.are.header rest) here.are.are

    -- every piece is an event
    pub never_none : event_read base bs ≡ None → ⊥
    never_none none = let read = piece_read base bs here.are.header first in cc

    pub fill_inside : (event_overhead ≤ length bs) × (at + length bs ≤ from + length (flatten all))
    fill_inside = (
      omega (arith, stated base bs here.are.header first),
      omega (arith, here.inside, flatten_next bs rest),
    )

    module _ {r : Record} (read : event_read base bs ≡ Some r) where
      -- the record with its offset in the file
      shown : {offset : ℕ} → offset ≡ at + event_overhead
          → record r { offset = offset } ≡ record_at at (event_in base bs)
      shown place_is =
          let is : r ≡ record_at 0 (event_in base bs) = let there = piece_read base bs here.are.header first in cc in
          λ i. record (is i) { offset = place_is i }

      behind : List Record
      behind = piece_records base (at + length bs) rest

      next_records : piece_records base at (bs ∷ rest) ≡ record_at at (event_in base bs) ∷ behind
      unfolding behind
      next_records =
          ap (λ (size : ℕ). record_at at (event_in base bs) ∷ piece_records base (at + size) rest)
          (piece_size base bs here.are.header first)

      pub fill_more : {offset : ℕ} {out' : List ℕ} → offset ≡ at + event_overhead
          → out' ≡ record_written out n (record r { offset = offset })
          → FillSoFar base from place all d out' (n + 1) (at + length bs) rest
      unfolding behind
      fill_more place_is put =
          let next : numbers_of_all (piece_records base at (bs ∷ rest))
          ≡ numbers_of (record_at at (event_in base bs)) ++ numbers_of_all behind =
          ap numbers_of_all next_records in
          let room : n * record_size + record_size ≤ length out =
          left_fits here.left (numbers_of (record_at at (event_in base bs))) (numbers_of_all behind) next in
          record {
            left =
                left_more here.left (numbers_of (record_at at (event_in base bs))) (numbers_of_all behind) next
                (put ∙ ap (record_written out n) (shown place_is) ∙ written_is out n (record_at at (event_in base bs)) room)
                (omega arith);
            are =
                record {
                  header = here.are.header;
                  are = and_right (is_event base here.are.header bs) (are_events base here.are.header rest) here.are.are;
                };
            inside = omega (arith, here.inside, flatten_next bs rest);
          }

  pub fill_end : pieces ≡ []
      → (out ≡ overwrite d (place * record_size) (numbers_of_all (piece_records base from all)))
      × (n ≡ place + length all)
  fill_end none =
      let (written, ends) = left_end so_far.left (ap (λ (xs : List (List ℕ)). numbers_of_all (piece_records base at xs)) none) in
      (written, omega (arith, ends, numbers_length (piece_records base from all), piece_count base from all))
