-- Every section of an accepted file can be filled in, and its offsets have 32 bits: what passed is the bytes of the
-- section that it shows (`section_forth`), and a file has at most 16 × 256 sections (`accepted_size`).
-- Assumes nothing.
use mathlib.Core.Path.{◌≡◌, sym, ap, subst, ◌∙◌}
use mathlib.Core.List.{List, [], ◌∷◌, flatten}
use Prim.Native.Nat.{ℕ, ◌^◌, ◌≤◌, ◌<◌}
use native.Mathlib.Omega.{arith}
use lib.ListN.{length}
use Rattle.eit.specs.declared.Sizes.{Sizes}
use Rattle.eit.specs.Fields.{Bytes}
use Rattle.eit.proofs.Fields.{bytes_parts}
use Rattle.eit.proofs.Test.{and_left}
use Rattle.sections.specs.Decode.{header_in, split_events, section_in, split_file}
use Rattle.sections.specs.Every.{Every}
use Rattle.sections.specs.EventTests.{are_events, is_event_loop}
use Rattle.sections.specs.Walk.{Progress, at_start, behind}
use Rattle.sections.specs.Read.{check_file}
use Rattle.sections.proofs.Lengths.{section_length}
use Rattle.sections.proofs.Walk.{Passes, AllPass}
use Rattle.sections.proofs.SectionForth.{section_forth}
use Rattle.sections.proofs.Read.{check_succeeded}
use Rattle.sections.proofs.Joined.{file_joined}
use Rattle.sections.proofs.FileSize.{accepted_size}
use Rattle.read.specs.Fillable.{Fillable}

module _ (sizes : Sizes) (base : ℕ) where
  passed_fills : (p : Progress) (bs : List ℕ) → Bytes bs → Passes sizes base p bs → Fillable base bs
  unfolding is_event_loop
  passed_fills p bs bytes passes = record {
    events = record {
      header = header_in bs;
      are = and_left (are_events base (header_in bs) (split_events bs)) _ passes.loop;
    };
    size = sym (section_length base (section_in base bs))
        ∙ ap length (section_forth sizes base p bs bytes passes).bytes;
  }

  all_fill : (p : Progress) (xs : List (List ℕ)) → Bytes (flatten xs) → AllPass sizes base p xs
      → Every (Fillable base) xs
  unfolding flatten
  all_fill p [] bytes all = tt
  all_fill p (bs ∷ rest) bytes all =
      let (front, others) = bytes_parts bs (flatten rest) bytes in
      (passed_fills p bs front all.0, all_fill (behind base p bs) rest others all.1)

  module _ (file : List ℕ) (bytes : Bytes file) (accepted : (check_file sizes base file).number ≡ 0) where
    pub accepted_fills : Every (Fillable base) (split_file file)
    accepted_fills =
        let (legal, all, complete) = check_succeeded sizes base file accepted in
        all_fill at_start (split_file file) (subst Bytes (sym (file_joined file)) bytes) all

    pub accepted_below : sizes.section_limit ≤ 4_096 → length file < 2 ^ 32
    accepted_below most = omega (arith, accepted_size sizes base file bytes accepted)
