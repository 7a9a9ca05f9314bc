-- Parts of a script, counted in commands: how long they are, where they begin, and which commands they hold. By
-- induction over the commands. Assumes nothing.
use mathlib.Core.Path.{◌≡◌, refl, sym, ap, ◌∙◌}
use mathlib.Core.Bool.{not}
use mathlib.Core.Logic.{⊎_elim}
use mathlib.Core.List.{List, [], ◌∷◌}
use Prim.Native.Nat.{ℕ, zero, suc, ◌+◌, ◌-◌, ◌≤◌, ◌<◌}
use native.Mathlib.Omega.{arith}
use lib.Dec.{T}
use lib.ListN.{length, get_or, drop, take, length-drop}
use Rattle.std.specs.Prelude.{Some}
use Rattle.eit.proofs.Test.{true_is, false_is, test_or}
use Rattle.script.specs.Form.{Command, operand_bytes, is_whole}
use Rattle.edit_scan.specs.Commands.{is_whole_at, whole_code_at, whole_from, commands_at, offset_behind}
use Rattle.edit_scan.proofs.CommandLaws.{whole_holds, next_is, commands_next, commands_stop}

-- ---- how many commands

whole_fit : (skip at : ℕ) (bs : List ℕ) → length (whole_from skip at bs) ≤ length bs
whole_fit zero at [] = omega arith
whole_fit (suc skip) at [] = omega arith
whole_fit (suc skip) at (b ∷ bs) = omega (arith, whole_fit skip (suc at) bs)
whole_fit zero at (code ∷ bs) =
    ⊎_elim (λ whole. rw (whole_from, true_is (is_whole code bs) whole)
    (omega (arith, whole_fit (operand_bytes code) (suc at) bs)))
    (λ t. rw (whole_from, false_is (is_whole code bs) t) (omega arith)) (test_or (is_whole code bs))

pub take_more : (k : ℕ) (c : Command) (cs : List Command) → 0 < k → take k (c ∷ cs) ≡ c ∷ take (k - 1) cs
take_more zero c cs h = absurd (omega arith)
take_more (suc k) c cs h =
    let less : suc k - 1 ≡ k = omega arith in
    rw less

module _ (script : List ℕ) where
  -- a command has a byte
  pub commands_fit : (at : ℕ) → length (commands_at at script) ≤ length script
  unfolding commands_at
  commands_fit at = omega (arith, whole_fit 0 at (drop at script), length-drop at script)

  -- where there are commands, one stands
  pub part_whole : (at : ℕ) → 0 < length (commands_at at script) → T (is_whole_at at script)
  part_whole at h =
      ⊎_elim (λ t. t) (λ t. absurd (omega (arith, ap length (commands_stop at script t))))
      (test_or (is_whole_at at script))

  -- ---- the offset behind a part

  pub behind_none : (at : ℕ) → offset_behind 0 at script ≡ at
  unfolding offset_behind
  behind_none at = refl

  pub behind_stop : (k at : ℕ) → T (not (is_whole_at at script)) → offset_behind k at script ≡ at
  unfolding offset_behind
  behind_stop zero at t = refl
  behind_stop (suc k) at t = rw (offset_behind, false_is (is_whole_at at script) t)

  behind_more : (k at : ℕ) → T (is_whole_at at script)
      → offset_behind (suc k) at script ≡ offset_behind k (at + (1 + operand_bytes (get_or script at 0))) script
  unfolding offset_behind
  behind_more k at whole = rw (offset_behind, true_is (is_whole_at at script) whole)

  -- it is where the commands behind the part begin
  pub behind_drops : (k at : ℕ) → commands_at (offset_behind k at script) script ≡ drop k (commands_at at script)
  behind_drops zero at = ap (λ (i : ℕ). commands_at i script) (behind_none at)
  behind_drops (suc k) at =
      ⊎_elim
      (λ whole.
      let next : ℕ = at + (1 + operand_bytes (get_or script at 0)) in
      ap (λ (i : ℕ). commands_at i script) (behind_more k at whole)
      ∙ behind_drops k next
      ∙ sym (ap (drop (suc k)) (commands_next at script next refl whole)))
      (λ t.
      ap (λ (i : ℕ). commands_at i script) (behind_stop (suc k) at t)
      ∙ commands_stop at script t
      ∙ sym (ap (drop (suc k)) (commands_stop at script t)))
      (test_or (is_whole_at at script))

  -- ---- one command on, as the code goes

  pub count_next : (at next : ℕ) → next ≡ at + (1 + operand_bytes (get_or script at 0)) → T (is_whole_at at script)
      → length (commands_at at script) ≡ suc (length (commands_at next script))
  count_next at next e whole = ap length (commands_next at script next e whole)

  pub behind_next : (at code next : ℕ) → Some code ≡ whole_code_at at script → next ≡ at + (1 + operand_bytes code)
      → (k : ℕ) → 0 < k → offset_behind k at script ≡ offset_behind (k - 1) next script
  behind_next at code next told e zero h = absurd (omega arith)
  behind_next at code next told e (suc k) h =
      let less : suc k - 1 ≡ k = omega arith in
      rw (less, next_is at script code next told e) (behind_more k at (whole_holds at script code told))
