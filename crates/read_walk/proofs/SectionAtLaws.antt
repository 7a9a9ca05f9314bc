-- A walk from section to section meets the pieces into which the file is split, one after the other: the step of
-- `split_by`, at the place reached. Assumes nothing.
use mathlib.Core.Path.{◌≡◌, sym, ◌∙◌, ap}
use Prim.Native.Nat.{ℕ, ◌+◌, ◌≤◌, ◌<◌}
use mathlib.Core.List.{List, [], ◌∷◌}
use native.Mathlib.Omega.{arith}
use lib.ListN.{length, take, drop, length-take, length-drop, take-append-drop, drop_of_length-le}
use lib.Seq.{drop-append_seam, drop-drop}
use Rattle.sections.specs.Decode.{stated_section_size, split_file}
use Rattle.sections.specs.Split.{split_by}
use Rattle.sections.proofs.Split.{split_nil, split_next}
use Rattle.read_walk.specs.SectionAt.{section_at, section_end}

-- what stands behind the first n bytes, counted by the bytes that there are
behind_front : (n : ℕ) (bs : List ℕ) → drop n bs ≡ drop (length (take n bs)) bs
behind_front n bs =
    sym (drop-append_seam (take n bs) (drop n bs))
    ∙ ap (λ (all : List ℕ). drop (length (take n bs)) all) (take-append-drop n bs)

module _ (file : List ℕ) (offset : ℕ) where
  -- behind the file's end there are no sections
  pub walk_end : length file ≤ offset → split_file (drop offset file) ≡ []
  unfolding split_file
  walk_end end = ap (split_by stated_section_size) (drop_of_length-le file end) ∙ split_nil stated_section_size

  -- before it there is one, and the walk goes on behind it
  first_piece : offset < length file
      → split_file (drop offset file) ≡ section_at file offset ∷ split_file (drop (section_end file offset) file)
  unfolding split_file
  first_piece inside =
      let rest : List ℕ = drop offset file in
      let size : ℕ = stated_section_size rest in
      let some : 0 < length rest = simp length-drop (omega arith) in
      split_next stated_section_size rest some (omega arith)
      ∙ ap (λ (next : List ℕ). section_at file offset ∷ split_by stated_section_size next)
      (behind_front size rest ∙ drop-drop (length (section_at file offset)) offset file)

  -- what is above the offset and the file's length is above the end: so the code's sum fits
  pub end_below : {n : ℕ} → offset < n → length file < n → section_end file offset < n
  end_below below short = simp (length-take, length-drop) (omega arith)

  module _ {end : ℕ} (ends : end ≡ section_end file offset) where
    -- a section ends in the file, and behind its offset: so a walk ends
    pub end_inside : offset < length file → end ≤ length file
    end_inside inside = rw ends (simp (length-take, length-drop) (omega arith))

    pub end_past : offset < length file → offset < end
    end_past inside = rw ends (simp (length-take, length-drop) (omega arith))

    module _ {section : List ℕ} (is : section ≡ section_at file offset) where
      pub end_is : end ≡ offset + length section
      end_is = ends ∙ ap (λ (bs : List ℕ). offset + length bs) (sym is)

      pub walk_next : offset < length file → split_file (drop offset file) ≡ section ∷ split_file (drop end file)
      walk_next inside = first_piece inside ∙ (λ i. sym is i ∷ split_file (drop (sym ends i) file))
