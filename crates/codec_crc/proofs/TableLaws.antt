-- The tables hold at each place what that place means: table by table, each being the one before after a byte more.
-- Assumes nothing.
use mathlib.Core.Path.{◌≡◌, refl, sym, ap, ◌∙◌}
use mathlib.Core.List.{List, map}
use Prim.Native.Nat.{ℕ, zero, suc, ◌+◌, ◌*◌, ◌^◌, ◌<◌}
use native.Mathlib.Nat.{add-zero, suc-add, add-suc, zero-add}
use native.Mathlib.Omega.{arith}
use lib.Dec.{lit<}
use lib.ListN.{length, get_or, length-map, get_or-append, get_or-map}
use lib.Seq.{get_or-append-add}
use Rattle.eit.specs.Crc.{crc_bits}
use Rattle.eit.proofs.Crc.{crc_bits_add, crc_bits_shl}
use Rattle.codec_crc.specs.CrcTables.{block_size, table_size, entry_of, entries_from, tables_from, right_crc_tables}

-- ---- the first table

entries_length : (k n : ℕ) → length (entries_from k n) ≡ n
unfolding entries_from
entries_length k zero = refl
entries_length k (suc n) = ap suc (entries_length (suc k) n)

entry_from : (k n i : ℕ) → i < n → get_or (entries_from k n) i 0 ≡ entry_of 0 (k + i)
unfolding entries_from
entry_from k zero i h = absurd (omega arith)
entry_from k (suc n) zero h = ap (entry_of 0) (sym (add-zero k))
entry_from k (suc n) (suc i) h = entry_from (suc k) n i (omega arith) ∙ ap (entry_of 0) (suc-add k i ∙ sym (add-suc k i))

-- ---- all of them

-- what a table is: the entries of table i
Holds : ℕ → List ℕ → Type 0
Holds i table = (length table ≡ table_size) × ((k : ℕ) → k < table_size → get_or table k 0 ≡ entry_of i k)

-- the next table
next_table_holds : (i : ℕ) (table : List ℕ) → Holds i table → Holds (suc i) (map (crc_bits 8) table)
unfolding Holds
next_table_holds i table is = (length-map table (crc_bits 8) ∙ is.0, entry)
  where
    entry : (k : ℕ) → k < table_size → get_or (map (crc_bits 8) table) k 0 ≡ entry_of (suc i) k
    entry k h =
        let bits : 8 * suc i + 8 ≡ 8 * suc (suc i) = omega arith in
        ap (get_or (map (crc_bits 8) table) k) (sym (crc_bits_shl 8 0 (lit< tt)))
        ∙ get_or-map (crc_bits 8) table k 0
        ∙ ap (crc_bits 8) (is.1 k h)
        ∙ sym (crc_bits_add (8 * suc i) 8 (k * 2 ^ 24))
        ∙ ap (λ (n : ℕ). crc_bits n (k * 2 ^ 24)) bits

entry_in : (n i : ℕ) (table : List ℕ) → Holds i table → (j k : ℕ) → j < n → k < table_size
    → get_or (tables_from n table) (j * table_size + k) 0 ≡ entry_of (i + j) k
unfolding tables_from Holds
entry_in zero i table is j k hj hk = absurd (omega arith)
entry_in (suc n) i table is zero k hj hk =
    let first : 0 * table_size + k ≡ k = omega arith in
    ap (λ (m : ℕ). get_or (tables_from (suc n) table) m 0) first
    ∙ get_or-append table (tables_from n (map (crc_bits 8) table)) 0 k (omega (arith, is.0))
    ∙ is.1 k hk
    ∙ ap (λ (m : ℕ). entry_of m k) (sym (add-zero i))
entry_in (suc n) i table is (suc j) k hj hk =
    let behind : suc j * table_size + k ≡ length table + (j * table_size + k) = omega (arith, is.0) in
    ap (λ (m : ℕ). get_or (tables_from (suc n) table) m 0) behind
    ∙ get_or-append-add table (tables_from n (map (crc_bits 8) table)) (j * table_size + k) 0
    ∙ entry_in n (suc i) (map (crc_bits 8) table) (next_table_holds i table is) j k (omega arith) hk
    ∙ ap (λ (m : ℕ). entry_of m k) (suc-add i j ∙ sym (add-suc i j))

pub table_entry : (j k : ℕ) → j < block_size → k < table_size → get_or right_crc_tables (j * table_size + k) 0 ≡ entry_of j k
unfolding right_crc_tables Holds
table_entry j k hj hk =
    entry_in block_size 0 (entries_from 0 table_size)
    (entries_length 0 table_size, λ m h. entry_from 0 table_size m h ∙ ap (entry_of 0) (zero-add m)) j k hj hk
    ∙ ap (λ (m : ℕ). entry_of m k) (zero-add j)
