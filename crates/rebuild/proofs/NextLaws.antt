-- The tables of two files compared one after the other: at each turn the sections from the offsets reached on are those
-- of the tables that are left. Assumes nothing.
use mathlib.Core.Path.{◌≡◌, refl, sym, ap, ap₂, subst, ◌∙◌}
use mathlib.Core.Bool.{Bool, true, false, ◌&&◌}
use mathlib.Core.Logic.{⊎_elim}
use mathlib.Core.List.{List, [], ◌∷◌, ◌++◌, flatten, append_assoc}
use Prim.Native.Nat.{ℕ, ◌+◌, ◌-◌, ◌%◌, ◌≤◌, ◌<◌}
use native.Mathlib.Omega.{arith}
use lib.Dec.{eqb}
use lib.Pointwise.{pointwise}
use lib.ListN.{length, get_or, set, take, drop, length-append, length-drop}
use lib.Seq.{take_at, drop-drop, ext_get_or, get_or-set_same, get_or-set_other}
use Rattle.eit.specs.Identity.{tables}
use Rattle.eit.specs.SameList.{same_list}
use Rattle.eit.proofs.Test.{eq_or_not}
use Rattle.sections.specs.Segment.{table_first}
use Rattle.sections.specs.Section.{table_version}
use Rattle.sections.specs.Decode.{split_file}
use Rattle.sections.proofs.Each.{each_length, each_at}
use Rattle.sections.proofs.Joined.{file_joined}
use Rattle.read_walk.specs.SectionAt.{section_at, section_end}
use Rattle.read_walk.proofs.SectionAtLaws.{walk_end, walk_next}
use Rattle.schedule.specs.Rebuild.{of_table, table_sections}
use Rattle.rebuild.specs.Tables.{leading, RisingFrom, next_by, next_versions_by}
use Rattle.rebuild.proofs.LeadingLaws.{leading_size, leading_front, Left, left}

-- ---- one table

-- two parts are compared byte by byte
pub same_bytes : (xs ys : List ℕ) → pointwise eqb xs ys ≡ same_list xs ys
same_bytes [] [] = refl
same_bytes [] (y ∷ ys) = refl
same_bytes (x ∷ xs) [] = refl
same_bytes (x ∷ xs) (y ∷ ys) = by (eqb x y) (same_bytes xs ys)
  where
    by : (b : Bool) {s t : Bool} → s ≡ t → (b && s) ≡ elim b [ true ↦ t | false ↦ false ]
    by true e = e
    by false e = refl

module _ (version : ℕ) (new : List ℕ) where
  pub next_none : (old : List ℕ) → length old ≡ 0 → version ≡ next_by version old new
  next_none [] none = refl
  next_none (b ∷ bs) none = absurd (omega arith)

  pub next_same : (old : List ℕ) → same_list old new ≡ true → version ≡ next_by version old new
  next_same [] same = refl
  next_same (b ∷ bs) same = rw (next_by, same)

  pub next_other : (old : List ℕ) → (length old ≡ 0 → ⊥) → same_list old new ≡ false
      → (version + 1) % 32 ≡ next_by version old new
  next_other [] some other = absurd (some refl)
  next_other (b ∷ bs) some other = rw (next_by, other)

-- ---- sections behind others

flatten_append : (xs ys : List (List ℕ)) → flatten (xs ++ ys) ≡ flatten xs ++ flatten ys
unfolding flatten
flatten_append [] ys = refl
flatten_append (x ∷ xs) ys =
    ap (λ (zs : List ℕ). x ++ zs) (flatten_append xs ys) ∙ sym (append_assoc x (flatten xs) (flatten ys))

-- what stands behind the first sections of some bytes
split_behind : (front rest : List (List ℕ)) (bs : List ℕ) → split_file bs ≡ front ++ rest
    → split_file (drop (length (flatten front)) bs) ≡ rest
unfolding flatten
split_behind [] rest bs is = is
split_behind (x ∷ front) rest [] is =
    let nothing : split_file [] ≡ [] = walk_end [] 0 (omega arith) in
    let never : ◌≡◌ {A = ℕ} 0 1 = cc in
    absurd (omega arith)
split_behind (x ∷ front) rest (b ∷ bs) is =
    let next : split_file (b ∷ bs) ≡ section_at (b ∷ bs) 0 ∷ split_file (drop (section_end (b ∷ bs) 0) (b ∷ bs)) =
    walk_next (b ∷ bs) 0 refl refl (omega arith) in
    let first : section_at (b ∷ bs) 0 ≡ x = cc in
    let others : split_file (drop (section_end (b ∷ bs) 0) (b ∷ bs)) ≡ front ++ rest = cc in
    let end : section_end (b ∷ bs) 0 ≡ length x = omega (arith, ap length first) in
    let size : length x + length (flatten front) ≡ length (x ++ flatten front) =
    sym (length-append x (flatten front)) in
    ap (λ (n : ℕ). split_file (drop n (b ∷ bs))) (sym size)
    ∙ ap split_file (sym (drop-drop (length (flatten front)) (length x) (b ∷ bs)))
    ∙ split_behind front rest (drop (length x) (b ∷ bs))
    (ap (λ (n : ℕ). split_file (drop n (b ∷ bs))) (sym end) ∙ others)

-- ---- the place in a file where a table begins

pub record Reached (file : List ℕ) (table at : ℕ) : Type 0 where
  pub rising : RisingFrom table (split_file (drop at file))
  pub same : (later : ℕ) → table ≤ later → table_sections later file ≡ of_table later (split_file (drop at file))

pub reached_first : (file : List ℕ) → RisingFrom table_first (split_file file) → Reached file table_first 0
unfolding table_sections
reached_first file rising = record { rising = rising; same = λ later behind. refl }

-- a table's bytes do not go past the file's end
pub reached_inside : (file : List ℕ) (table at : ℕ) {end : ℕ} → at ≤ length file
    → end ≡ at + leading_size file table at
    → (at ≤ end) × (end ≤ length file)
reached_inside file table at inside ends =
    let xs : List (List ℕ) = split_file (drop at file) in
    let (rest, split) = leading_front table xs in
    let whole : length (drop at file) ≡ leading_size file table at + length (flatten rest) =
    ap length
    (sym (file_joined (drop at file)) ∙ ap flatten split ∙ flatten_append (leading table xs) rest)
    ∙ length-append (flatten (leading table xs)) (flatten rest) in
    (omega arith, omega (arith, length-drop at file))

module _ (file : List ℕ) (table at : ℕ) {end : ℕ} (here : Reached file table at)
    (ends : end ≡ at + leading_size file table at) where
  abbrev xs : List (List ℕ)
  xs = split_file (drop at file)

  l : Left table xs
  l = left table xs here.rising

  -- its bytes
  pub reached_part : take (end - at) (drop at file) ≡ flatten (table_sections table file)
  reached_part =
      let front : List ℕ = flatten (leading table xs) in
      let size : end - at ≡ length front = omega arith in
      ap₂ (λ (n : ℕ) (bs : List ℕ). take n bs) size
      (sym (file_joined (drop at file)) ∙ ap flatten l.split ∙ flatten_append (leading table xs) l.rest)
      ∙ take_at front (flatten l.rest) (length front) refl
      ∙ ap flatten (sym (here.same table (omega arith) ∙ l.all))

  -- and where the next table begins
  pub reached_next : Reached file (table + 1) end
  reached_next =
      let behind : split_file (drop end file) ≡ l.rest =
      ap (λ (n : ℕ). split_file (drop n file)) ends
      ∙ ap split_file (sym (drop-drop (leading_size file table at) at file))
      ∙ split_behind (leading table xs) l.rest (drop at file) l.split in
      record {
        rising = subst (RisingFrom (table + 1)) (sym behind) l.rising;
        same = λ later past.
            here.same later (omega arith) ∙ l.same later (omega arith) ∙ ap (of_table later) (sym behind);
      }

-- ---- the versions so far

module _ (previous file versions : List ℕ) where
  -- that of a table, counted from 0
  abbrev pub next_at : ℕ → ℕ
  next_at k =
      next_by (get_or versions k 0) (flatten (table_sections (table_first + k) previous))
      (flatten (table_sections (table_first + k) file))

  abbrev pub VersionsTo : ℕ → List ℕ → Type 0
  VersionsTo table next = (k : ℕ) → k < table → get_or next k 0 ≡ next_at k

  pub versions_more : (table : ℕ) (next : List ℕ) (version : ℕ) → length next ≡ tables → table < tables
      → get_or next table 0 ≡ get_or versions table 0
      → VersionsTo table next
      → version
      ≡ next_by (get_or next table 0) (flatten (table_sections (table_first + table) previous))
      (flatten (table_sections (table_first + table) file))
      → VersionsTo (table + 1) (set next table version)
  versions_more table next version long few old so_far is k low =
      ⊎_elim
      (λ here. ap (λ (j : ℕ). get_or (set next table version) j 0) here
      ∙ get_or-set_same next table version 0 (omega arith)
      ∙ is
      ∙ ap
      (λ (v : ℕ). next_by v (flatten (table_sections (table_first + table) previous))
      (flatten (table_sections (table_first + table) file)))
      old
      ∙ ap next_at (sym here))
      (λ other. get_or-set_other next table k version 0 other ∙ so_far k (omega (arith, other)))
      (eq_or_not k table)

  pub versions_all : (next : List ℕ) → length next ≡ tables → VersionsTo tables next
      → next ≡ next_versions_by previous file versions
  unfolding next_versions_by
  versions_all next long all =
      let f : ℕ → ℕ = λ table. next_by (table_version versions table) (flatten (table_sections table previous))
      (flatten (table_sections table file)) in
      ext_get_or 0 next (next_versions_by previous file versions) (long ∙ sym (each_length f table_first tables))
      (λ k few.
      let back : table_first + k - table_first ≡ k = omega arith in
      all k (omega arith)
      ∙ sym (each_at f 0 table_first tables k (omega arith)
      ∙ ap (λ (j : ℕ). next_by (get_or versions j 0) (flatten (table_sections (table_first + k) previous))
      (flatten (table_sections (table_first + k) file))) back))

-- ---- a turn

-- what holds where tables come in their order
pub record InOrder (previous file versions next : List ℕ) (previous_at at table : ℕ) : Type 0 where
  pub old : Reached previous (table_first + table) previous_at
  pub new : Reached file (table_first + table) at
  pub so_far : VersionsTo previous file versions table next

-- and what holds in any case
pub record Turn (previous file versions next : List ℕ) (previous_at at table : ℕ) : Type 0 where
  pub few : table ≤ tables
  pub old_inside : previous_at ≤ length previous
  pub new_inside : at ≤ length file
  pub long : length next ≡ tables
  pub to_come : (k : ℕ) → table ≤ k → get_or next k 0 ≡ get_or versions k 0
  pub in_order : RisingFrom table_first (split_file previous) → RisingFrom table_first (split_file file)
      → InOrder previous file versions next previous_at at table
