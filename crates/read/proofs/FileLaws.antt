-- The records of a file, section after section: what is left to write shrinks with each section. Assumes nothing.
use mathlib.Core.Path.{◌≡◌, refl, sym, ap, subst, ◌∙◌}
use mathlib.Core.List.{List, ◌∷◌, ◌++◌, map}
use Prim.Native.Nat.{ℕ, ◌+◌, ◌-◌, ◌*◌, ◌≤◌, ◌<◌}
use native.Mathlib.Omega.{arith}
use lib.ListN.{length, drop, length-take}
use Rattle.eit.specs.Sizes.{section_overhead}
use Rattle.eit.specs.Overwrite.{overwrite}
use Rattle.eit.specs.Records.{record_size, numbers_of_all}
use Rattle.eit.specs.declared.Record.{Record}
use Rattle.eit.proofs.Records.{numbers_length, numbers_append}
use Rattle.sections.specs.Section.{header_size}
use Rattle.sections.specs.Decode.{stated_event_size, event_loop, split_events, section_in, split_file}
use Rattle.sections.specs.Split.{split_by}
use Rattle.sections.specs.Every.{Every}
use Rattle.sections.specs.Offsets.{records_from}
use Rattle.sections.specs.Read.{file_records}
use Rattle.sections.proofs.Joined.{sections_are, records_are}
use Rattle.codec.proofs.LeftLaws.{Left, left_all, left_fits, left_more, left_end}
use Rattle.read_walk.specs.SectionAt.{section_at, section_end}
use Rattle.read_walk.proofs.SectionAtLaws.{walk_end, walk_next, end_inside, end_is}
use Rattle.read.specs.Fillable.{AreEvents, Fillable}
use Rattle.read.proofs.FillLaws.{piece_records, piece_count}

-- the records of the sections that some pieces show
abbrev shown_records : ℕ → ℕ → List (List ℕ) → List Record
shown_records base offset pieces = records_from offset (map (section_in base) pieces)

records_shown : (base : ℕ) (file : List ℕ) → file_records base file ≡ shown_records base 0 (split_file file)
records_shown base file = records_are base file ∙ ap (records_from 0) (sections_are base file)

-- a section's records, then those behind it
shown_next : (base offset : ℕ) (bs : List ℕ) (rest : List (List ℕ)) → Fillable base bs
    → shown_records base offset (bs ∷ rest)
    ≡ piece_records base (offset + header_size) (split_by stated_event_size (event_loop bs))
    ++ shown_records base (offset + length bs) rest
unfolding section_in split_events
shown_next base offset bs rest fillable =
    ap
    (λ (size : ℕ).
    piece_records base (offset + header_size) (split_by stated_event_size (event_loop bs))
    ++ shown_records base (offset + size) rest)
    fillable.size

-- a section has room for its header and CRC_32
section_size_holds : (base : ℕ) (bs : List ℕ) → Fillable base bs → section_overhead ≤ length bs
section_size_holds base bs fillable = omega (arith, fillable.size)

-- before a turn: the section at the offset is the next one, and its first record the record n
pub record FileSoFar (base : ℕ) (file d out : List ℕ) (n offset : ℕ) : Type 0 where
  pub left : Left d 0 (numbers_of_all (file_records base file)) out (n * record_size)
      (numbers_of_all (records_from offset (map (section_in base) (split_file (drop offset file)))))
  pub all : Every (Fillable base) (split_file (drop offset file))
  pub inside : offset ≤ length file

pub file_start : (base : ℕ) (file d : List ℕ) → Every (Fillable base) (split_file file)
    → length (file_records base file) * record_size ≤ length d → FileSoFar base file d d 0 0
file_start base file d all room =
    record {
      left =
          subst (λ (rs : List Record). Left d 0 (numbers_of_all (file_records base file)) d 0 (numbers_of_all rs))
          (records_shown base file)
          (left_all d 0 (numbers_of_all (file_records base file)) (omega (arith, numbers_length (file_records base file))));
      all = all;
      inside = omega arith;
    }

module _ {base : ℕ} {file d out : List ℕ} {n offset : ℕ} (so_far : FileSoFar base file d out n offset) where
  module _ (here : offset < length file) {section : List ℕ} (is : section ≡ section_at file offset) where
    abbrev behind : List (List ℕ)
    behind = split_file (drop (offset + length section) file)

    ends : offset + length section ≡ section_end file offset
    ends = sym (end_is file offset refl is)

    next_piece : split_file (drop offset file) ≡ section ∷ behind
    next_piece = walk_next file offset ends is here

    each : Every (Fillable base) (section ∷ behind)
    each = subst (Every (Fillable base)) next_piece so_far.all

    module _ {events : List ℕ} (loop : events ≡ event_loop section) where
      abbrev pieces : List (List ℕ)
      pieces = split_by stated_event_size events

      abbrev records : List Record
      records = piece_records base (offset + header_size) pieces

      pub events_are : AreEvents base pieces
      unfolding split_events
      events_are = subst (λ (bs : List ℕ). AreEvents base (split_by stated_event_size bs)) (sym loop) each.0.events

      pub events_inside : offset + header_size + length events ≤ length file
      events_inside =
          omega (
            arith,
            ap length loop,
            length-take (length section - section_overhead) (drop header_size section),
            section_size_holds base section each.0,
            end_inside file offset ends here,
          )

      parts : numbers_of_all (records_from offset (map (section_in base) (split_file (drop offset file))))
          ≡ numbers_of_all records ++ numbers_of_all (shown_records base (offset + length section) behind)
      parts =
          ap (λ (xs : List (List ℕ)). numbers_of_all (shown_records base offset xs)) next_piece
          ∙ ap numbers_of_all (shown_next base offset section behind each.0)
          ∙ numbers_append (piece_records base (offset + header_size) (split_by stated_event_size (event_loop section)))
          (shown_records base (offset + length section) behind)
          ∙ ap
          (λ (bs : List ℕ).
          numbers_of_all (piece_records base (offset + header_size) (split_by stated_event_size bs))
          ++ numbers_of_all (shown_records base (offset + length section) behind))
          (sym loop)

      width : length (numbers_of_all records) ≡ length pieces * record_size
      width = numbers_length records ∙ ap (λ (k : ℕ). k * record_size) (piece_count base (offset + header_size) pieces)

      pub file_room : (n + length pieces) * record_size ≤ length out
      file_room =
          omega (
            arith,
            left_fits so_far.left (numbers_of_all records)
                (numbers_of_all (shown_records base (offset + length section) behind))
                parts,
            width,
          )

      -- the next turn is at the offset behind the section
      pub file_more : {out' : List ℕ} {n' end : ℕ} → out' ≡ overwrite out (n * record_size) (numbers_of_all records)
          → n' ≡ n + length pieces → end ≡ section_end file offset → FileSoFar base file d out' n' end
      file_more {out'} {n'} written counted is-end =
          subst (FileSoFar base file d out' n') (sym (end_is file offset is-end is))
          record {
            left =
                left_more so_far.left (numbers_of_all records)
                (numbers_of_all (shown_records base (offset + length section) behind)) parts
                written (omega (arith, counted, width));
            all = each.1;
            inside = end_inside file offset ends here;
          }

  pub file_end : length file ≤ offset → out ≡ overwrite d 0 (numbers_of_all (file_records base file))
  file_end end =
      (left_end so_far.left
      (ap (λ (xs : List (List ℕ)). numbers_of_all (shown_records base offset xs)) (walk_end file offset end))).0
