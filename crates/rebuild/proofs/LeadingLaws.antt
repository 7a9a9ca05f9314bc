-- Where a table's sections end in a file, section by section; and in sections whose tables come in their order, those
-- of a table are the leading ones. By the step of the walk, and induction over the sections. Assumes nothing.
use mathlib.Core.Path.{◌≡◌, refl, sym, ap, subst, ◌∙◌}
use mathlib.Core.Logic.{⊎_elim}
use mathlib.Core.List.{List, [], ◌∷◌, ◌++◌, flatten}
use Prim.Native.Nat.{ℕ, zero, suc, ◌+◌, ◌≤◌, ◌<◌}
use native.Mathlib.Omega.{arith}
use borrow.Author.Tests.{eq-eqb, ne_eqb}
use lib.ListN.{length, get_or, take, drop, length-append}
use lib.Seq.{drop-cons}
use Rattle.eit.specs.Fields.{field}
use Rattle.eit.proofs.Test.{eq_or_not, le_or_lt}
use Rattle.sections.specs.Decode.{stated_section_size, split_file}
use Rattle.read_walk.specs.SectionAt.{section_at, section_end}
use Rattle.read_walk.proofs.SectionAtLaws.{walk_end, walk_next, end_is}
use Rattle.schedule.specs.Rebuild.{of_table}
use Rattle.rebuild.specs.Tables.{leading, RisingFrom}

-- ---- one section more

module _ (table : ℕ) (bs : List ℕ) (rest : List (List ℕ)) where
  leading_more : field 0 1 bs ≡ table → leading table (bs ∷ rest) ≡ bs ∷ leading table rest
  leading_more is = rw (leading, eq-eqb (field 0 1 bs) table is)

  leading_none : (field 0 1 bs ≡ table → ⊥) → leading table (bs ∷ rest) ≡ []
  leading_none other = rw (leading, ne_eqb (field 0 1 bs) table other)

  of_more : field 0 1 bs ≡ table → of_table table (bs ∷ rest) ≡ bs ∷ of_table table rest
  of_more is = rw (of_table, eq-eqb (field 0 1 bs) table is)

  of_other : (field 0 1 bs ≡ table → ⊥) → of_table table (bs ∷ rest) ≡ of_table table rest
  of_other other = rw (of_table, ne_eqb (field 0 1 bs) table other)

-- the leading sections are the first
pub leading_front : (table : ℕ) (xs : List (List ℕ)) → (rest : List (List ℕ)) × (xs ≡ leading table xs ++ rest)
leading_front table [] = ([], refl)
leading_front table (bs ∷ xs) =
    ⊎_elim
    (λ is.
    let (rest, split) = leading_front table xs in (
      rest,
      ap (λ (ys : List (List ℕ)). bs ∷ ys) split
          ∙ ap (λ (ys : List (List ℕ)). ys ++ rest) (sym (leading_more table bs xs is)),
    ))
    (λ other. (bs ∷ xs, ap (λ (ys : List (List ℕ)). ys ++ bs ∷ xs) (sym (leading_none table bs xs other))))
    (eq_or_not (field 0 1 bs) table)

-- ---- where a table ends

-- how many bytes the table's sections have that lead from an offset on
abbrev pub leading_size : List ℕ → ℕ → ℕ → ℕ
leading_size file table at = length (flatten (leading table (split_file (drop at file))))

taken_first : (n b : ℕ) (bs : List ℕ) → 0 < n → field 0 1 (take n (b ∷ bs)) ≡ b
taken_first zero b bs some = absurd (omega arith)
taken_first (suc n) b bs some = omega arith

-- the first byte of a section is that at its offset
first_byte : (file : List ℕ) (at : ℕ) → at < length file → field 0 1 (section_at file at) ≡ get_or file at 0
first_byte file at inside =
    ap (λ (bs : List ℕ). field 0 1 (take (stated_section_size bs) bs)) (drop-cons file at 0 inside)
    ∙ taken_first (stated_section_size (get_or file at 0 ∷ drop (suc at) file)) (get_or file at 0) (drop (suc at) file)
    (omega arith)

module _ (file : List ℕ) (table at : ℕ) where
  pub table_ends : length file ≤ at → leading_size file table at ≡ 0
  unfolding flatten
  table_ends end = ap (λ (xs : List (List ℕ)). length (flatten (leading table xs))) (walk_end file at end)

  module _ (inside : at < length file) where
    next_piece : split_file (drop at file) ≡ section_at file at ∷ split_file (drop (section_end file at) file)
    next_piece = walk_next file at refl refl inside

    pub table_stops : (get_or file at 0 ≡ table → ⊥) → leading_size file table at ≡ 0
    unfolding flatten
    table_stops other =
        ap (λ (xs : List (List ℕ)). length (flatten (leading table xs))) next_piece
        ∙ ap (λ (xs : List (List ℕ)). length (flatten xs))
        (leading_none table (section_at file at) (split_file (drop (section_end file at) file))
        (λ is. other (sym (first_byte file at inside) ∙ is)))

    pub table_goes_on : {next : ℕ} → get_or file at 0 ≡ table → next ≡ section_end file at
        → at + leading_size file table at ≡ next + leading_size file table next
    unfolding flatten
    table_goes_on {next} is ends =
        let section : List ℕ = section_at file at in
        let rest : List (List ℕ) = split_file (drop (section_end file at) file) in
        let more : leading_size file table at ≡ length section + length (flatten (leading table rest)) =
        ap (λ (xs : List (List ℕ)). length (flatten (leading table xs))) next_piece
        ∙ ap (λ (xs : List (List ℕ)). length (flatten xs))
        (leading_more table section rest (first_byte file at inside ∙ is))
        ∙ length-append section (flatten (leading table rest)) in
        let same : leading_size file table next ≡ length (flatten (leading table rest)) =
        ap (leading_size file table) ends in
        omega (arith, end_is file at ends refl)

-- ---- tables in their order

-- a table before the first is not there
of_none : (table least : ℕ) (xs : List (List ℕ)) → RisingFrom least xs → table < least → of_table table xs ≡ []
of_none table least [] rising before = refl
of_none table least (bs ∷ rest) rising before =
    of_other table bs rest (λ is. omega (arith, rising.0))
    ∙ of_none table (field 0 1 bs) rest rising.1 (omega (arith, rising.0))

-- what is left of some sections behind the leading ones of their first table
pub record Left (table : ℕ) (xs : List (List ℕ)) : Type 0 where
  pub rest : List (List ℕ)
  pub split : xs ≡ leading table xs ++ rest
  pub rising : RisingFrom (table + 1) rest
  pub all : of_table table xs ≡ leading table xs
  pub same : (later : ℕ) → table < later → of_table later xs ≡ of_table later rest

pub left : (table : ℕ) (xs : List (List ℕ)) → RisingFrom table xs → Left table xs
left table [] rising =
    record { rest = []; split = refl; rising = tt; all = refl; same = λ later behind. refl }
left table (bs ∷ xs) rising =
    ⊎_elim
    (λ is.
    let behind : Left table xs = left table xs (subst (λ (t : ℕ). RisingFrom t xs) is rising.1) in
    let leads : leading table (bs ∷ xs) ≡ bs ∷ leading table xs = leading_more table bs xs is in
    record {
      rest = behind.rest;
      split =
          ap (λ (ys : List (List ℕ)). bs ∷ ys) behind.split
          ∙ ap (λ (ys : List (List ℕ)). ys ++ behind.rest) (sym leads);
      rising = behind.rising;
      all = of_more table bs xs is ∙ ap (λ (ys : List (List ℕ)). bs ∷ ys) behind.all ∙ sym leads;
      same = λ later past. of_other later bs xs (λ other. omega arith) ∙ behind.same later past;
    })
    (λ other.
    let none : leading table (bs ∷ xs) ≡ [] = leading_none table bs xs other in
    let past : table + 1 ≤ field 0 1 bs =
    ⊎_elim (λ least. least) (λ before. absurd (other (omega (arith, rising.0))))
    (le_or_lt (table + 1) (field 0 1 bs)) in
    record {
      rest = bs ∷ xs;
      split = ap (λ (ys : List (List ℕ)). ys ++ bs ∷ xs) (sym none);
      rising = (past, rising.1);
      all =
          of_other table bs xs other ∙ of_none table (field 0 1 bs) xs rising.1 (omega arith) ∙ sym none;
      same = λ later behind. refl;
    })
    (eq_or_not (field 0 1 bs) table)
