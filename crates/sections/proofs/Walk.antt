-- What it means that Read's walk passes: every test of every section, with the sections before it known, and the file
-- complete at its end. By the six tests of `step`, one after the other, and induction over the sections.
-- Assumes nothing.
use mathlib.Core.Path.{◌≡◌, refl}
use mathlib.Core.Bool.{Bool, true, false}
use Prim.Native.Nat.{ℕ}
use native.Mathlib.Omega.{arith}
use mathlib.Core.List.{List, [], ◌∷◌}
use lib.Dec.{T}
use Rattle.eit.specs.declared.Sizes.{Sizes}
use Rattle.eit.proofs.Test.{true_is}
use Rattle.sections.specs.Decode.{header_in}
use Rattle.sections.specs.HeaderTests.{latest, is_framed, has_right_crc, is_header, has_right_numbering}
use Rattle.sections.specs.EventTests.{is_event_loop, is_within_limit}
use Rattle.sections.specs.Walk.{Progress, behind, behind_all, Verdict, passed, refused, require, step, walk}

-- one section passes all six tests
pub record Passes (sizes : Sizes) (base : ℕ) (p : Progress) (bs : List ℕ) : Type 0 where
  pub framed : T (is_framed sizes bs)
  pub crc_right : T (has_right_crc bs)
  pub header : T (is_header p.before bs)
  pub numbering : T (has_right_numbering (latest p.before) (header_in bs))
  pub loop : T (is_event_loop base p.seen bs)
  pub limit : T (is_within_limit sizes p.seen bs)

-- what a passed verdict says of a test that must hold
require_passed : (b : Bool) (number offset : ℕ) (next : Verdict) (q : Progress)
    → require b number offset next ≡ passed q
    → T b × (next ≡ passed q)
require_passed true number offset next q e = (tt, e)
require_passed false number offset next q e = let never : ◌≡◌ {A = ℕ} 0 1 = cc in absurd (omega arith)

module _ (sizes : Sizes) (base : ℕ) where
  pub step_passes : (p : Progress) (bs : List ℕ) → Passes sizes base p bs
      → step sizes base p bs ≡ passed (behind base p bs)
  unfolding step
  step_passes p bs t =
      rw (
        step,
        true_is (is_framed sizes bs) t.framed,
        true_is (has_right_crc bs) t.crc_right,
        true_is (is_header p.before bs) t.header,
        true_is (has_right_numbering (latest p.before) (header_in bs)) t.numbering,
        true_is (is_event_loop base p.seen bs) t.loop,
        true_is (is_within_limit sizes p.seen bs) t.limit,
      )

  pub step_passed : (p q : Progress) (bs : List ℕ) → step sizes base p bs ≡ passed q
      → Passes sizes base p bs × (behind base p bs ≡ q)
  unfolding step
  step_passed p q bs e =
      let (framed, e20) = require_passed (is_framed sizes bs) 20 p.offset _ q e in
      let (crc_right, e21) = require_passed (has_right_crc bs) 21 p.offset _ q e20 in
      let (header, e22) = require_passed (is_header p.before bs) 22 p.offset _ q e21 in
      let (numbering, e23) =
      require_passed (has_right_numbering (latest p.before) (header_in bs)) 23 p.offset _ q e22 in
      let (loop, e24) = require_passed (is_event_loop base p.seen bs) 24 p.offset _ q e23 in
      let (limit, e26) = require_passed (is_within_limit sizes p.seen bs) 26 p.offset _ q e24 in (
        record {
          framed = framed;
          crc_right = crc_right;
          header = header;
          numbering = numbering;
          loop = loop;
          limit = limit;
        },
        cc,
      )

  -- every section passes, with those before it known
  abbrev pub AllPass : Progress → List (List ℕ) → Type 0
  AllPass p [] = Unit {0}
  AllPass p (bs ∷ rest) = Passes sizes base p bs × AllPass (behind base p bs) rest

  pub walk_passes : (p : Progress) (xs : List (List ℕ)) → AllPass p xs
      → walk sizes base p xs ≡ passed (behind_all base p xs)
  unfolding walk
  walk_passes p [] t = refl
  walk_passes p (bs ∷ rest) t = rw (walk, step_passes p bs t.0) (walk_passes (behind base p bs) rest t.1)

  after_step : (v : Verdict) (rest : List (List ℕ)) (q : Progress)
      → elim v [ passed next ↦ walk sizes base next rest | refused number offset ↦ refused number offset ] ≡ passed q
      → (next : Progress) × (v ≡ passed next) × (walk sizes base next rest ≡ passed q)
  after_step (passed next) rest q e = (next, refl, e)
  after_step (refused number offset) rest q e = let never : ◌≡◌ {A = ℕ} 0 1 = cc in absurd (omega arith)

  pub walk_passed : (p q : Progress) (xs : List (List ℕ)) → walk sizes base p xs ≡ passed q
      → AllPass p xs × (behind_all base p xs ≡ q)
  unfolding walk
  walk_passed p q [] e = (tt, cc)
  walk_passed p q (bs ∷ rest) e =
      let (next, stepped, walked) = after_step (step sizes base p bs) rest q e in
      let (passes, is) = step_passed p next bs stepped in
      let (all, end) = walk_passed (behind base p bs) q rest (rw is walked) in
      ((passes, all), end)
