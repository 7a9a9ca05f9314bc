-- Where the walk ends: after last_table_id, or early. By what the code keeps of the last header. Assumes nothing.
use mathlib.Core.Path.{◌≡◌, ap, ap₂, ◌∙◌}
use mathlib.Core.Bool.{Bool, true, false, ◌&&◌}
use mathlib.Core.List.{List, [], ◌∷◌}
use mathlib.Core.Option.{some}
use native.Mathlib.Omega.{arith}
use Prim.Native.Nat.{ℕ}
use lib.Dec.{eqb}
use Rattle.std.specs.Prelude.{Some, None}
use Rattle.sections.specs.Section.{Header}
use Rattle.sections.specs.HeaderTests.{latest}
use Rattle.sections.specs.Walk.{Progress, passed}
use Rattle.sections.specs.Read.{refusal, success, is_complete, versions_in, identity_of, at_end}
use Rattle.codec_section.specs.HeaderRead.{held_header}
use Rattle.codec_section.specs.declared.header.SectionHeader.{SectionHeader}
use Rattle.read_checks.specs.HeaderBefore.{header_before}
use Rattle.read_check.specs.Tracks.{Tracks}
use Rattle.read_check.specs.declared.section.WalkState.{WalkState}

-- a header before gives its triplet, and the versions are those of all
identity_shown : (hs : List Header) (h : Header) → latest hs ≡ some h
    → identity_of hs ≡ record { triplet = h.triplet; versions = versions_in hs }
identity_shown [] h is = let never : ◌≡◌ {A = ℕ} 0 1 = cc in absurd (omega arith)
identity_shown (g ∷ hs) h is =
    let same : g ≡ h = cc in
    λ i. record { triplet = (same i).triplet; versions = versions_in (g ∷ hs) }

module _ {offset : ℕ} {state : WalkState} {versions words : List ℕ} {p : Progress}
    (tracks : Tracks offset state versions words p)
    (size : ℕ) where
  -- no section: the file is empty
  pub ends_empty : state.before ≡ None → at_end size (passed p) ≡ refusal 25 size
  ends_empty is =
      let early : is_complete (latest p.before) ≡ false =
      ap is_complete (tracks.before_is ∙ ap header_before is) in
      rw (at_end, early)

  module _ {last : SectionHeader} (is : state.before ≡ Some last) where
    complete : {b : Bool}
        → (eqb last.section_number last.last_section_number && eqb last.table_id last.last_table_id)
        ≡ b
        → is_complete (latest p.before) ≡ b
    complete test = ap is_complete (tracks.before_is ∙ ap header_before is) ∙ test

    pub ends_early :
        (eqb last.section_number last.last_section_number && eqb last.table_id last.last_table_id)
        ≡ false
        → at_end size (passed p) ≡ refusal 25 size
    ends_early fails = rw (at_end, complete fails)

    pub ends_whole :
        (eqb last.section_number last.last_section_number && eqb last.table_id last.last_table_id)
        ≡ true
        → at_end size (passed p) ≡ success (record { triplet = last.triplet; versions = versions }) state.count
    ends_whole holds =
        let shown : identity_of p.before ≡ record { triplet = last.triplet; versions = versions_in p.before } =
        identity_shown p.before (held_header last) (tracks.before_is ∙ ap header_before is) in
        rw (at_end, complete holds)
        (ap₂ success
        (shown ∙ (λ i. record { triplet = last.triplet; versions = tracks.versions_are i }))
        tracks.count_is)
