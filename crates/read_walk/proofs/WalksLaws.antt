-- A turn of a walk over a file that is known, and its end. Assumes nothing.
use mathlib.Core.Path.{◌≡◌, ap, ◌∙◌}
use Prim.Native.Nat.{ℕ, ◌≤◌, ◌<◌}
use mathlib.Core.List.{List}
use lib.ListN.{length}
use Rattle.std.specs.Prelude.{Some, None}
use Rattle.std.specs.Borrow.{Bor}
use Rattle.read_walk.specs.declared.SectionReader.{SectionReader}
use Rattle.read_walk.specs.SectionAt.{section_at, section_end}
use Rattle.read_walk.specs.Walks.{Walks}

-- what a turn has: a section that begins in the file, and the reader behind it
pub record Turn (file : List ℕ) (s : SectionReader) (x : ℕ × Bor (List ℕ)) (t : SectionReader) : Type 0 where
  pub inside : s.offset < length file
  pub at : x.0 ≡ s.offset
  pub section : x.1.now ≡ section_at file s.offset
  pub ends : t.offset ≡ section_end file s.offset
  pub of : t.file.now ≡ file

module _ {file : List ℕ} {s t : SectionReader} (of : s.file.now ≡ file) where
  pub turn_of : (x : ℕ × Bor (List ℕ)) → Walks s (Some x) t → Turn file s x t
  turn_of x (same, steps) = record {
    inside = rw of at steps.0;
    at = steps.1;
    section = rw of at steps.2;
    ends = rw of at steps.3;
    of = ap (λ (b : Bor (List ℕ)). b.now) same ∙ of;
  }

  pub walk_over : Walks s None t → length file ≤ s.offset
  walk_over (same, over) = rw of at over.0
