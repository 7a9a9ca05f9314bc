-- The event bytes of the k-th section of a segment, from a file's bytes (02, W-205: "the k-th section of every segment
-- holds the same event bytes"; 01, "Build, Read": a segment's first k sections "are those up to s0 + k − 1", and "A
-- section that the file lacks holds no events"). Laws: proofs/KthSection.antt. Assumes nothing.
use Rattle.std.specs.Prelude.{ℕ, ◌+◌, Bool, true, false, ◌&&◌, List, [], ◌∷◌, eqb}
use Rattle.sections.specs.Segment.{table_of, first_section}
use Rattle.sections.specs.Section.{Header}
use Rattle.sections.specs.Decode.{header_in, event_loop, split_file}

-- the k-th section of the segment with this index, counted from 0: that with its table and section_number s0 + k
abbrev pub is_kth : ℕ → ℕ → Header → Bool
is_kth index k h = eqb h.table_id (table_of index) && eqb h.section_number (first_section index + k)

-- its event bytes, looked for among the bytes of some sections; none if it is not there
abbrev pub kth_among : ℕ → ℕ → List (List ℕ) → List ℕ
kth_among index k [] = []
kth_among index k (bs ∷ rest) =
    elim (is_kth index k (header_in bs)) [ true ↦ event_loop bs | false ↦ kth_among index k rest ]

-- and in a file
unfoldable pub kth_event_bytes : List ℕ → ℕ → ℕ → List ℕ
unfolding split_file
kth_event_bytes file index k = kth_among index k (split_file file)
