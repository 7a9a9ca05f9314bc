-- `move_entry` meets its contract: within the entries, put in before or taken out up to the place, the entry moves just
-- those between; elsewhere it is taken out and put in. Assumes nothing.
use Rattle.std.proofs.Common.{◌≡◌, ℕ, ◌-◌, List, set, arith, sym, ap, ◌∙◌}
use Rattle.edit_index.specs.Order.{entry_of, with_entry, without_entry, moved_slot, moved_entry}
use Rattle.edit_index.proofs.RotateLaws.{moved_slot_holds, rotate_up, rotate_down}
use Rattle.edit_index.proofs.order.move_entry.Goals as goal

-- with the entry that the slot makes
moved : (order : List ℕ) (count from to start slot entry : ℕ) (exit : List ℕ) → slot ≡ moved_slot order count from
    → entry ≡ entry_of start slot → exit ≡ with_entry (without_entry order count from) (count - 1) to entry
    → (exit ≡ moved_entry order count from to start) × (slot ≡ moved_slot order count from)
moved order count from to start slot entry exit slot_is entry_is is = (rw (is, entry_is, slot_is), slot_is)

pub returns-then-to-from : goal.returns-then-to-from
returns-then-to-from c =
    let a = c.args in
    let order = a.order.now in
    moved order a.count a.from a.to a.start c.slot_at-slot.result c.entry_of-entry.result _
    (c.slot_at-slot.ensures ∙ sym (moved_slot_holds order a.count a.from (omega arith) (omega arith)))
    c.entry_of-entry.ensures
    (c.insert.ensures
    ∙ sym (rotate_up order a.count a.from (omega arith) (omega arith) a.to c.entry_of-entry.result c.if-to-from.true))

pub returns-then-count-order : goal.returns-then-count-order
returns-then-count-order c =
    let a = c.args in
    let order = a.order.now in
    moved order a.count a.from a.to a.start c.slot_at-slot.result c.entry_of-entry.result _
    (c.slot_at-slot.ensures ∙ sym (moved_slot_holds order a.count a.from (omega arith) (omega arith)))
    c.entry_of-entry.ensures
    (ap (λ (l : List ℕ). set l a.to c.entry_of-entry.result) c.remove.ensures
    ∙ sym (rotate_down order a.count a.from (omega arith) (omega arith) a.to c.entry_of-entry.result
    c.if-to-from.false (omega arith)))
