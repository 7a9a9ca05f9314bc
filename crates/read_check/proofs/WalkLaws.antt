-- The walk over the sections, one after the other: before each turn the walk over the whole file is the walk over the
-- sections from the offset on (`WalkSoFar`), and what the code keeps is what the definition keeps. Assumes nothing.
use mathlib.Core.Path.{◌≡◌, refl, sym, ap, ◌∙◌}
use mathlib.Core.List.{List, [], ◌∷◌}
use Prim.Native.Nat.{ℕ, ◌+◌, ◌≤◌, ◌<◌}
use borrow.Author.Tests.{le-leb}
use native.Mathlib.Omega.{arith}
use lib.ListN.{length, drop, replicate}
use Rattle.std.specs.Prelude.{Result, None, Ok, Err}
use Rattle.eit.specs.declared.Sizes.{Sizes}
use Rattle.eit.specs.Limits.{base_day_max}
use Rattle.eit.specs.Identity.{tables}
use Rattle.sections.specs.Decode.{split_file}
use Rattle.sections.specs.Walk.{Progress, at_start, passed, refused, step, walk}
use Rattle.sections.specs.Read.{versions_in, at_end, check_file}
use Rattle.sections.proofs.Version.{versions_length}
use Rattle.read_walk.specs.SectionAt.{section_at, section_end}
use Rattle.read_walk.proofs.SectionAtLaws.{walk_end, walk_next, end_inside, end_is}
use Rattle.read_events.proofs.EventsSoFarLaws.{so_far_start}
use Rattle.read_answer.specs.Outcome.{error_number, error_value, outcome_of}
use Rattle.read_check.specs.Tracks.{Tracks, SameVerdict}
use Rattle.read_answer.specs.declared.FileRead.{FileRead}
use Rattle.read_answer.specs.declared.ReadError.{ReadError}
use Rattle.read_check.specs.declared.section.WalkState.{WalkState}

-- ---- the equations that a reader expects

module _ (sizes : Sizes) (base : ℕ) (p : Progress) where
  walk_none : walk sizes base p [] ≡ passed p
  unfolding walk
  walk_none = refl

  module _ (bs : List ℕ) (rest : List (List ℕ)) where
    walk_passed : {q : Progress} → step sizes base p bs ≡ passed q
        → walk sizes base p (bs ∷ rest) ≡ walk sizes base q rest
    unfolding walk
    walk_passed is = rw (walk, is)

    walk_refused : {number offset : ℕ} → step sizes base p bs ≡ refused number offset
        → walk sizes base p (bs ∷ rest) ≡ refused number offset
    unfolding walk
    walk_refused is = rw (walk, is)

check_legal : (sizes : Sizes) (base : ℕ) (file : List ℕ) → base ≤ base_day_max
    → check_file sizes base file ≡ at_end (length file) (walk sizes base at_start (split_file file))
unfolding check_file
check_legal sizes base file legal = rw (check_file, le-leb base base_day_max legal)

no_versions : versions_in [] ≡ replicate tables 0
unfolding versions_in
no_versions = refl

-- ---- before a turn

pub record WalkSoFar (sizes : Sizes) (base : ℕ) (file versions words : List ℕ) (state : WalkState) (offset : ℕ) : Type
    0 where
  pub progress : Progress
  pub tracks : Tracks offset state versions words progress
  pub walked : walk sizes base at_start (split_file file) ≡ walk sizes base progress (split_file (drop offset file))
  pub inside : offset ≤ length file

pub walk_start : (sizes : Sizes) (base : ℕ) (file : List ℕ)
    → WalkSoFar sizes base file (replicate tables 0) (replicate 1024 0)
    (record { before = None; least = 0; count = 0 }) 0
walk_start sizes base file = record {
  progress = at_start;
  tracks =
      record {
        offset_is = refl;
        before_is = refl;
        come = tt;
        versions_are = no_versions;
        kept = so_far_start;
        count_is = refl;
      };
  walked = refl;
  inside = omega arith;
}

module _ {sizes : Sizes} {base : ℕ} {file versions words : List ℕ} {state : WalkState} {offset : ℕ}
    (so_far : WalkSoFar sizes base file versions words state offset) where
  module _ (here : offset < length file) {section : List ℕ} (is : section ≡ section_at file offset) where
    -- the section is the next piece
    next_piece : {end : ℕ} → end ≡ section_end file offset
        → split_file (drop offset file) ≡ section ∷ split_file (drop end file)
    next_piece ends = walk_next file offset ends is here

    pub walk_stops : base ≤ base_day_max → (refusal : ReadError)
        → step sizes base so_far.progress section ≡ refused (error_number refusal) (error_value refusal)
        → check_file sizes base file ≡ outcome_of (Err refusal)
    walk_stops legal refusal stepped =
        check_legal sizes base file legal
        ∙ ap (at_end (length file))
        (so_far.walked
        ∙ ap (walk sizes base so_far.progress) (next_piece refl)
        ∙ walk_refused sizes base so_far.progress section _ stepped)

    -- the walk goes on at the offset behind the section
    pub walk_more : (next : WalkState) (versions' words' : List ℕ) {end : ℕ} → end ≡ section_end file offset
        → SameVerdict (offset + length section) (Ok next) versions' words' (step sizes base so_far.progress section)
        → WalkSoFar sizes base file versions' words' next end
    walk_more next versions' words' ends (q, stepped, tracks) = record {
      progress = q;
      tracks = rw (end_is file offset ends is) tracks;
      walked = so_far.walked
          ∙ ap (walk sizes base so_far.progress) (next_piece ends)
          ∙ walk_passed sizes base so_far.progress section _ stepped;
      inside = end_inside file offset ends here;
    }

  -- the versions of all tables are as many as there are tables
  pub walk_versions : length versions ≡ tables
  walk_versions = sym (ap length so_far.tracks.versions_are) ∙ versions_length so_far.progress.before

  pub walk_done : length file ≤ offset → base ≤ base_day_max → (r : Result FileRead ReadError)
      → at_end (length file) (passed so_far.progress) ≡ outcome_of r → check_file sizes base file ≡ outcome_of r
  walk_done end legal r ended =
      check_legal sizes base file legal
      ∙ ap (at_end (length file))
      (so_far.walked ∙ ap (walk sizes base so_far.progress) (walk_end file offset end)
      ∙ walk_none sizes base so_far.progress)
      ∙ ended
