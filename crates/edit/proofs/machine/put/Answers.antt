-- `put` meets its contract: each return by its own law of PutLaws, from what the callees ensure. Assumes nothing.
use Rattle.std.proofs.Common.{◌≡◌, ℕ, List, arith}
use mathlib.Core.Path.{sym, ap, ◌∙◌}
use Rattle.std.specs.Option.{is_some}
use Rattle.eit.specs.Placing.{placing}
use Rattle.eit.specs.Sizes.{sizes_of}
use Rattle.eit.proofs.Numbers.{caller_few}
use Rattle.edit_index.specs.Order.{starts_in}
use Rattle.edit_index.specs.Index.{Index}
use Rattle.edit_index.specs.Neighbours.{overlaps_neighbour}
use Rattle.eit.specs.declared.Record.{Record}
use mathlib.Core.Bool.{Bool}
use Rattle.edit_index.proofs.IndexLaws.{slot_none_found, slot_found}
use Rattle.edit.proofs.PutLaws.{put_outside, put_unchained, put_present, put_overlaps, put_full, put_goes_in}
use Rattle.edit.proofs.machine.put.Goals as goal

-- with the count for its own place no record is left out
own_count : (event : Record) (x : Index) (place : ℕ) {count : ℕ} {found b : Bool} → count ≡ x.count
    → found ≡ overlaps_neighbour event x count place → found ≡ b → overlaps_neighbour event x x.count place ≡ b
own_count event x place is beside tested =
    ap (λ (n : ℕ). overlaps_neighbour event x n place) (sym is) ∙ sym beside ∙ tested

pub returns-then-not-is_in_range : goal.returns-then-not-is_in_range
returns-then-not-is_in_range c =
    put_outside (sizes_of c.args.caller) _ _ _ c.requires c.args.at c.args.event
    (sym c.is_in_range.ensures ∙ c.if-not-is_in_range.true)

pub returns-then-not-has_chain : goal.returns-then-not-has_chain
returns-then-not-has_chain c =
    put_unchained (sizes_of c.args.caller) _ _ _ c.requires c.args.at _
    (sym c.is_in_range.ensures ∙ c.if-not-is_in_range.false)
    (sym c.has_chain.ensures ∙ c.if-not-has_chain.true)

pub returns-then-is_some : goal.returns-then-is_some
returns-then-is_some c =
    put_present (sizes_of c.args.caller) _ _ _ c.requires c.args.at _
    (sym c.is_in_range.ensures ∙ c.if-not-is_in_range.false)
    (sym c.has_chain.ensures ∙ c.if-not-has_chain.false)
    (slot_found c.args.index.now c.args.event.id (ap is_some (sym c.slot_of.ensures) ∙ sym c.is_some.ensures ∙ c.if-is_some.true))

pub returns-then-overlaps_neighbour : goal.returns-then-overlaps_neighbour
returns-then-overlaps_neighbour c =
    put_overlaps (sizes_of c.args.caller) _ _ _ c.requires c.args.at _
    (sym c.is_in_range.ensures ∙ c.if-not-is_in_range.false)
    (sym c.has_chain.ensures ∙ c.if-not-has_chain.false)
    (slot_none_found c.args.index.now c.args.event.id (ap is_some (sym c.slot_of.ensures) ∙ sym c.is_some.ensures ∙ c.if-is_some.false)) _
    (c.place_of-found.ensures
    ∙ ap (λ (es : List ℕ). placing c.args.event.start (starts_in es)) c.entries.ensures)
    (own_count c.args.event c.args.index.now _ c.count-count.ensures c.overlaps_neighbour.ensures c.if-overlaps_neighbour.true)

pub returns-then-limit_of-count : goal.returns-then-limit_of-count
returns-then-limit_of-count c =
    put_full (sizes_of c.args.caller) _ _ _ c.requires c.args.at _
    (sym c.is_in_range.ensures ∙ c.if-not-is_in_range.false)
    (sym c.has_chain.ensures ∙ c.if-not-has_chain.false)
    (slot_none_found c.args.index.now c.args.event.id (ap is_some (sym c.slot_of.ensures) ∙ sym c.is_some.ensures ∙ c.if-is_some.false)) _
    (c.place_of-found.ensures
    ∙ ap (λ (es : List ℕ). placing c.args.event.start (starts_in es)) c.entries.ensures)
    (own_count c.args.event c.args.index.now _ c.count-count.ensures c.overlaps_neighbour.ensures c.if-overlaps_neighbour.false)
    (omega (arith, c.limit_of.ensures, c.count-count.ensures))

pub returns : goal.returns
returns c =
    put_goes_in (sizes_of c.args.caller) _ _ _ c.requires c.args.at _
    (sym c.is_in_range.ensures ∙ c.if-not-is_in_range.false)
    (sym c.has_chain.ensures ∙ c.if-not-has_chain.false)
    (slot_none_found c.args.index.now c.args.event.id (ap is_some (sym c.slot_of.ensures) ∙ sym c.is_some.ensures ∙ c.if-is_some.false)) _
    (c.place_of-found.ensures
    ∙ ap (λ (es : List ℕ). placing c.args.event.start (starts_in es)) c.entries.ensures)
    (own_count c.args.event c.args.index.now _ c.count-count.ensures c.overlaps_neighbour.ensures c.if-overlaps_neighbour.false)
    (omega (arith, c.limit_of.ensures, c.count-count.ensures))
    (caller_few c.args.caller) _ c.add.ensures
