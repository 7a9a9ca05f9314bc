-- How many UNDOs pass a part of a script: of those pending behind it the edits that it keeps take away one each, and to
-- these come the UNDOs that find nothing in it to strike. By the cases of a command. Assumes nothing.
use mathlib.Core.Path.{◌≡◌, refl, ap, ap₂, ◌∙◌}
use mathlib.Core.Logic.{⊎_elim}
use mathlib.Core.List.{List, [], ◌∷◌}
use Prim.Native.Nat.{ℕ, zero, suc, pred, ◌+◌, ◌-◌, ◌*◌, ◌≤◌, ◌<◌}
use native.Mathlib.Omega.{arith}
use mir.Val.{bool_byte}
use borrow.Author.Tests.{eq-eqb, ne_eqb, lt-ltb, le-ltb}
use lib.Dec.{T, eqb, ltb}
use lib.ListN.{length, get_or, take}
use Rattle.eit.proofs.Test.{le_or_lt, eq_or_not}
use Rattle.script.specs.Form.{Command, do_edit, undo, operand_bytes}
use Rattle.script.specs.Struck.{pending_before, unless_struck, live}
use Rattle.edit_scan.specs.Commands.{is_whole_at, commands_at}
use Rattle.edit_scan.proofs.CommandLaws.{commands_edit, commands_undo}
use Rattle.edit_scan.proofs.PartLaws.{take_more}
use Rattle.edit_scan.proofs.StrikeLaws.{byte_few}

-- ---- UNDOs that are enough to strike all

-- a command takes away one at most
pending_least : (p : ℕ) (cs : List Command) → p ≤ pending_before p cs + length cs
pending_least p [] = omega arith
pending_least p (do_edit e ∷ cs) =
    let rest : p ≤ pending_before p cs + length cs = pending_least p cs in
    let one : p ≤ pred (pending_before p cs) + suc (length cs) = omega arith in
    one
pending_least p (undo at ∷ cs) = omega (arith, pending_least p cs)

pub live_none : (p : ℕ) (cs : List Command) → length cs ≤ p → live p cs ≡ []
live_none p [] h = refl
live_none p (do_edit e ∷ cs) h =
    struck (pending_before p cs) (omega (arith, pending_least p cs)) (live_none p cs (omega arith))
  where
    struck : (q : ℕ) → 0 < q → live p cs ≡ [] → unless_struck q e (live p cs) ≡ []
    struck zero h none = absurd (omega arith)
    struck (suc q) h none = none
live_none p (undo at ∷ cs) h = live_none p cs (omega arith)

-- ---- command by command

-- p UNDOs are pending behind the commands; before them are `kept` edits that are not yet struck, and `over` UNDOs that
-- found nothing
abbrev pub pending_after : ℕ → ℕ → ℕ → List Command → ℕ
pending_after over kept p cs = over + (pending_before p cs - kept)

-- as the code counts: 1 for an UNDO and 0 for an edit, and 1 for an UNDO that finds nothing to strike
abbrev pub undo_byte : ℕ → ℕ
undo_byte code = bool_byte (eqb code 0x04)

abbrev pub unmet_byte : ℕ → ℕ → ℕ
unmet_byte kept code = bool_byte (ltb kept (undo_byte code))

module _ (kept code : ℕ) where
  -- what is taken away is there
  pub pending_room : 2 * undo_byte code ≤ kept + 1 + unmet_byte kept code
  pending_room =
      ⊎_elim (λ h. omega (arith, byte_few (eqb code 0x04)))
      (λ h. omega (arith, ap bool_byte (lt-ltb kept (undo_byte code) h), byte_few (eqb code 0x04)))
      (le_or_lt (undo_byte code) kept)

  -- and each command counts once
  pub pending_few : (over : ℕ)
      → over + unmet_byte kept code + (kept + 1 + unmet_byte kept code - 2 * undo_byte code) ≤ over + kept + 1
  pending_few over =
      ⊎_elim (λ h. omega (arith, ap bool_byte (le-ltb kept (undo_byte code) h)))
      (λ h. omega (arith, ap bool_byte (lt-ltb kept (undo_byte code) h), byte_few (eqb code 0x04)))
      (le_or_lt (undo_byte code) kept)

module _ (over kept p k at : ℕ) (script : List ℕ) (next : ℕ)
    (e : next ≡ at + (1 + operand_bytes (get_or script at 0)))
    (whole : T (is_whole_at at script)) (some : 0 < k) where
  abbrev rest : List Command
  rest = take (k - 1) (commands_at next script)

  -- the part is its first command and the rest
  first : (c : Command) → commands_at at script ≡ c ∷ commands_at next script → take k (commands_at at script) ≡ c ∷ rest
  first c here = ap (take k) here ∙ take_more k c (commands_at next script) some

  pending_edit : (get_or script at 0 ≡ 0x04 → ⊥)
      → pending_after over kept p (take k (commands_at at script))
      ≡ pending_after over (kept + 1) p (take (k - 1) (commands_at next script))
  pending_edit n =
      let (f, here) = commands_edit at script next e whole n in
      let counts : over + (pred (pending_before p rest) - kept) ≡ over + (pending_before p rest - (kept + 1)) =
      omega arith in
      ap (pending_after over kept p) (first (do_edit f) here) ∙ counts

  module _ (u : get_or script at 0 ≡ 0x04) where
    undone : take k (commands_at at script) ≡ undo at ∷ rest
    undone = first (undo at) (commands_undo at script next e whole u)

    pending_undo : (kept ≡ 0 → ⊥)
        → pending_after over kept p (take k (commands_at at script))
        ≡ pending_after over (kept - 1) p (take (k - 1) (commands_at next script))
    pending_undo n =
        let counts : over + (suc (pending_before p rest) - kept) ≡ over + (pending_before p rest - (kept - 1)) =
        omega (arith, n) in
        ap (pending_after over kept p) undone ∙ counts

    pending_over : kept ≡ 0
        → pending_after over kept p (take k (commands_at at script))
        ≡ pending_after (over + 1) kept p (take (k - 1) (commands_at next script))
    pending_over none =
        let counts : over + (suc (pending_before p rest) - kept) ≡ over + 1 + (pending_before p rest - kept) =
        omega arith in
        ap (pending_after over kept p) undone ∙ counts

  abbrev undos : ℕ
  undos = undo_byte (get_or script at 0)

  abbrev unmet : ℕ
  unmet = unmet_byte kept (get_or script at 0)

  pub pending_on : pending_after over kept p (take k (commands_at at script))
      ≡ pending_after (over + unmet) (kept + 1 + unmet - 2 * undos) p (take (k - 1) (commands_at next script))
  pending_on =
      ⊎_elim
      (λ u.
      let one : undos ≡ 1 = ap bool_byte (eq-eqb (get_or script at 0) 0x04 u) in
      ⊎_elim
      (λ z.
      let lone : unmet ≡ 1 = ap bool_byte (lt-ltb kept undos (omega (arith, one))) in
      let stays : kept ≡ kept + 1 + unmet - 2 * undos = omega (arith, one, lone) in
      pending_over u z ∙ ap₂ counts (omega (arith, lone)) stays)
      (λ n.
      let met : unmet ≡ 0 = ap bool_byte (le-ltb kept undos (omega (arith, one, n))) in
      let less : kept - 1 ≡ kept + 1 + unmet - 2 * undos = omega (arith, one, met) in
      pending_undo u n ∙ ap₂ counts (omega (arith, met)) less)
      (eq_or_not kept 0))
      (λ n.
      let no : undos ≡ 0 = ap bool_byte (ne_eqb (get_or script at 0) 0x04 n) in
      let met : unmet ≡ 0 = ap bool_byte (le-ltb kept undos (omega (arith, no))) in
      let more : kept + 1 ≡ kept + 1 + unmet - 2 * undos = omega (arith, no, met) in
      pending_edit n ∙ ap₂ counts (omega (arith, met)) more)
      (eq_or_not (get_or script at 0) 0x04)
    where
      counts : ℕ → ℕ → ℕ
      counts o n = pending_after o n p (take (k - 1) (commands_at next script))
