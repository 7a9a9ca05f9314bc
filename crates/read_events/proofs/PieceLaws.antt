-- A piece of an event loop is the front of what is left there: all that it states, or what is left. So what is read of
-- it is the event that it shows. Assumes nothing.
use mathlib.Core.Path.{◌≡◌, ap, subst, ◌∙◌}
use mathlib.Core.Logic.{⊎_elim}
use mathlib.Core.Bool.{true, false}
use mathlib.Core.List.{List, [], ◌∷◌}
use Prim.Native.Nat.{ℕ, ◌-◌, ◌≤◌, ◌<◌}
use native.Mathlib.Omega.{arith}
use lib.ListN.{length, take, drop, length-take}
use lib.Seq.{take_all, take-take, length-take-le}
use Rattle.std.specs.Prelude.{Some, None}
use Rattle.eit.specs.Fields.{value_of}
use Rattle.eit.specs.declared.Record.{Record}
use Rattle.eit.proofs.Test.{le_or_lt}
use Rattle.sections.specs.Decode.{status_field, stated_event_size, event_in}
use Rattle.sections.specs.Split.{split_by}
use Rattle.sections.specs.Offsets.{record_at}
use Rattle.sections.proofs.Split.{split_nil, split_next}
use Rattle.codec.proofs.FieldLaws.{drop_take}
use Rattle.codec_section.specs.EventRead.{is_whole_event, front_event, event_read}
use Rattle.codec_section.proofs.EventReadLaws.{whole_only, broken_only}

-- the front of some bytes is no longer than it states
front_all : (xs : List ℕ) → front_event (front_event xs) ≡ front_event xs
front_all xs =
    let n : ℕ = stated_event_size xs in
    ⊎_elim
    (λ (enough : n ≤ length xs).
    let field : status_field (take n xs) ≡ status_field xs =
    ap value_of (ap (take 2) (drop_take 10 n xs) ∙ take-take 2 (n - 10) (drop 10 xs) (omega arith)) in
    take_all (stated_event_size (take n xs)) (take n xs) (omega (arith, field, length-take-le n xs enough)))
    (λ (cut : length xs < n). let all : front_event xs ≡ xs = take_all n xs (omega arith) in ap front_event all)
    (le_or_lt n (length xs))

-- a piece
pub record Piece (bs : List ℕ) : Type 0 where
  pub some : 0 < length bs
  pub whole : front_event bs ≡ bs

pub piece_of : (xs : List ℕ) {bs : List ℕ} {rest : List (List ℕ)} → split_by stated_event_size xs ≡ bs ∷ rest
    → Piece bs
piece_of [] parts = let nothing = split_nil stated_event_size in cc
piece_of (x ∷ xs) {bs} parts =
    let front : front_event (x ∷ xs) ≡ bs =
    let pieces = split_next stated_event_size (x ∷ xs) (omega arith) (omega arith) in cc in
    record {
      some = omega (arith, ap length front, length-take (stated_event_size (x ∷ xs)) (x ∷ xs));
      whole = subst (λ (ys : List ℕ). front_event ys ≡ ys) front (front_all (x ∷ xs));
    }

module _ (base : ℕ) {bs : List ℕ} (piece : Piece bs) where
  pub piece_whole : {r : Record} → event_read base bs ≡ Some r
      → (is_whole_event base bs ≡ true) × (r ≡ record_at 0 (event_in base bs))
  piece_whole {r} read =
      subst
      (λ (ys : List ℕ). (is_whole_event base ys ≡ true) × (r ≡ record_at 0 (event_in base ys)))
      piece.whole (whole_only base bs read)

  pub piece_broken : event_read base bs ≡ None → is_whole_event base bs ≡ false
  piece_broken read = subst (λ (ys : List ℕ). is_whole_event base ys ≡ false) piece.whole (broken_only base bs read)
