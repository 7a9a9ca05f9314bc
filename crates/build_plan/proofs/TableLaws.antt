-- Sixteen tables of thirty-two counts and their counts in a row. By the laws of numbers in a row. Assumes nothing.
use mathlib.Core.Path.{◌≡◌, refl, sym, ap, ap₂, ◌∙◌}
use mathlib.Core.List.{List, [], ◌∷◌, ◌++◌, flatten}
use Prim.Native.Nat.{ℕ, zero, suc, ◌+◌, ◌*◌, ◌/◌, ◌≤◌, ◌<◌}
use native.Mathlib.Omega.{arith}
use lib.ListN.{length, get_or, take, drop, length-append}
use lib.Seq.{drop-cons, drop-drop, take-append_seam, drop-append_seam}
use Rattle.std.specs.List.{flat_map}
use Rattle.std.specs.Simd.{first_chunks}
use Rattle.sections.specs.Each.{each}
use Rattle.sections.proofs.Each.{each_at, each_within, each_shift}
use Rattle.schedule.specs.Plan.{tabled}

-- ---- the tables of counts

module _ (counts : List ℕ) where
  abbrev count : ℕ → ℕ
  count index = get_or counts index 0

  abbrev row : ℕ → List ℕ
  row table = each (λ (segment : ℕ). count (table * 32 + segment)) 0 32

  taken_is : (least n : ℕ) → least + n ≤ length counts → take n (drop least counts) ≡ each count least n
  unfolding each
  taken_is least zero within = refl
  taken_is least (suc n) within =
      rw (drop-cons counts least 0 (omega arith))
      (ap (λ (xs : List ℕ). count least ∷ xs) (taken_is (suc least) n (omega arith)))

  row_is : (table : ℕ) → table * 32 + 32 ≤ length counts → take 32 (drop (table * 32) counts) ≡ row table
  row_is table within =
      let first : table * 32 + 0 ≡ table * 32 = omega arith in
      taken_is (table * 32) 32 within
      ∙ sym (each_shift count (table * 32) 0 32 ∙ ap (λ (k : ℕ). each count k 32) first)

  rows_are : (table n : ℕ) → (table + n) * 32 ≤ length counts
      → first_chunks 32 n (drop (table * 32) counts) ≡ each row table n
  unfolding each
  rows_are table zero within = refl
  rows_are table (suc n) within =
      let next : table * 32 + 32 ≡ suc table * 32 = omega arith in
      ap₂ (λ (xs : List ℕ) (xss : List (List ℕ)). xs ∷ xss) (row_is table (omega arith))
      (ap (first_chunks 32 n) (drop-drop 32 (table * 32) counts ∙ ap (λ (k : ℕ). drop k counts) next)
      ∙ rows_are (suc table) n (omega arith))

  -- thirty-two counts after the other
  pub tables_are : length counts / 32 ≡ 16 → first_chunks 32 (length counts / 32) counts ≡ tabled count
  unfolding tabled
  tables_are sixteen = rw sixteen (rows_are 0 16 (omega arith))

-- the tables of the counts in a row
pub tabled_each : (count : ℕ → ℕ) → tabled (λ (index : ℕ). get_or (each count 0 512) index 0) ≡ tabled count
unfolding tabled
tabled_each count =
    let held : ℕ → ℕ = λ index. get_or (each count 0 512) index 0 in
    let same : (index : ℕ) → index < 512 → held index ≡ count index =
    λ index few. each_at count 0 0 512 index few ∙ ap count (omega arith) in
    each_within (λ (table : ℕ). each (λ (segment : ℕ). held (table * 32 + segment)) 0 32)
    (λ (table : ℕ). each (λ (segment : ℕ). count (table * 32 + segment)) 0 32) 0 16
    (λ table low few.
    each_within (λ (segment : ℕ). held (table * 32 + segment)) (λ (segment : ℕ). count (table * 32 + segment)) 0 32
    (λ segment least most. same (table * 32 + segment) (omega arith)))

-- ---- the tables joined

pub joined_is : (rows : List (List ℕ)) → flat_map (λ x. x) rows ≡ flatten rows
unfolding flatten
joined_is [] = refl
joined_is (row ∷ rows) = ap (λ (ns : List ℕ). row ++ ns) (joined_is rows)

-- sixteen tables of thirty-two
abbrev Wide : List (List ℕ) → Type 0
Wide rows = (table : ℕ) → table < length rows → length (get_or rows table []) ≡ 32

abbrev pub Tables : List (List ℕ) → Type 0
Tables rows = (length rows ≡ 16) × Wide rows

joined_length : (rows : List (List ℕ)) → Wide rows → length (flatten rows) ≡ length rows * 32
unfolding flatten
joined_length [] wide = refl
joined_length (row ∷ rows) wide =
    let first : length row ≡ 32 = wide 0 (omega arith) in
    let rest : length (flatten rows) ≡ length rows * 32 = joined_length rows (λ t low. wide (suc t) (omega arith)) in
    length-append row (flatten rows) ∙ omega (arith, first, rest)

joined_chunks : (rows : List (List ℕ)) → Wide rows → first_chunks 32 (length rows) (flatten rows) ≡ rows
unfolding flatten
joined_chunks [] wide = refl
joined_chunks (row ∷ rows) wide =
    let first : length row ≡ 32 = wide 0 (omega arith) in
    let behind : List ℕ = flatten rows in
    ap₂ (λ (xs : List ℕ) (xss : List (List ℕ)). xs ∷ xss)
    (ap (λ (n : ℕ). take n (row ++ behind)) (sym first) ∙ take-append_seam row behind)
    (ap (first_chunks 32 (length rows))
    (ap (λ (n : ℕ). drop n (row ++ behind)) (sym first) ∙ drop-append_seam row behind)
    ∙ joined_chunks rows (λ t low. wide (suc t) (omega arith)))

module _ (rows : List (List ℕ)) (is : Tables rows) where
  -- the tables of their own counts joined
  pub tabled_joined : tabled (λ (index : ℕ). get_or (flatten rows) index 0) ≡ rows
  tabled_joined =
      let sixteen : length (flatten rows) / 32 ≡ 16 = omega (arith, joined_length rows is.1, is.0) in
      let all : length (flatten rows) / 32 ≡ length rows = sixteen ∙ sym is.0 in
      sym (tables_are (flatten rows) sixteen)
      ∙ ap (λ (n : ℕ). first_chunks 32 n (flatten rows)) all
      ∙ joined_chunks rows is.1
