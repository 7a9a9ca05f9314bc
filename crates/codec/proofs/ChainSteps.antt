-- What a chain is by its first descriptor: `chain_none`, `chain_one` and `chain_more` for whoever looks at the bytes that
-- are left. Assumes nothing.
use mathlib.Core.Path.{◌≡◌, sym, ◌∙◌}
use mathlib.Core.Bool.{false, ◌&&◌, and-false}
use mathlib.Core.List.{List, [], ◌∷◌}
use Prim.Native.Nat.{ℕ, suc, ◌+◌, ◌-◌, ◌≤◌, ◌<◌}
use native.Mathlib.Omega.{arith}
use borrow.Author.Tests.{le-leb, lt-leb}
use lib.Dec.{leb, eqb}
use lib.ListN.{length, take, drop, get_or}
use Rattle.eit.specs.Chain.{forbidden_tag, is_allowed_tag, is_chain}
use Rattle.eit.proofs.Test.{true_is}
use Rattle.codec.proofs.FieldLaws.{rest_whole}
use Rattle.eit.proofs.Chain.{allowed_tag, chain_none, chain_one, chain_more}

-- nothing is left, or one byte
pub chain_ends : (rest : List ℕ) → length rest < 2 → eqb (length rest) 0 ≡ is_chain rest
chain_ends [] few = sym chain_none
chain_ends (tag ∷ []) few = sym (chain_one tag)
chain_ends (tag ∷ n ∷ bs) few = absurd (omega arith)

-- a descriptor begins, with a length byte
descriptor_first : (rest : List ℕ) → 2 ≤ length rest
    → is_chain rest
    ≡ (is_allowed_tag (get_or rest 0 0)
    && (leb (get_or rest 1 0) (length rest - 2) && is_chain (drop (2 + get_or rest 1 0) rest)))
descriptor_first [] some = absurd (omega arith)
descriptor_first (tag ∷ []) some = absurd (omega arith)
descriptor_first (tag ∷ n ∷ bs) some =
    let two : 2 + n ≡ suc (suc n) = omega arith in
    let behind : suc (suc (length bs)) - 2 ≡ length bs = omega arith in
    chain_more tag n bs ∙ rw (two, behind)

module _ (rest : List ℕ) (some : 2 ≤ length rest) where
  -- its tag is forbidden
  pub chain_forbidden : get_or rest 0 0 ≡ forbidden_tag → is_chain rest ≡ false
  chain_forbidden same = descriptor_first rest some ∙ rw (same)

  -- its bytes are not all there
  pub chain_runs_out : length rest < 2 + get_or rest 1 0 → is_chain rest ≡ false
  chain_runs_out short =
      let behind : length rest - 2 < get_or rest 1 0 = omega arith in
      descriptor_first rest some ∙ rw (lt-leb _ _ behind) (and-false (is_allowed_tag (get_or rest 0 0)))

  -- its tag is allowed, its bytes are there, and the chain goes on behind them
  pub chain_goes_on : {size : ℕ} → (get_or rest 0 0 ≡ forbidden_tag → ⊥) → size ≡ 2 + get_or rest 1 0 → size ≤ length rest
      → is_chain rest ≡ is_chain (take (length rest - size) (drop size rest))
  chain_goes_on {size} other is fits =
      let tag = get_or rest 0 0 in
      let behind : get_or rest 1 0 ≤ length rest - 2 = omega arith in
      descriptor_first rest some
      ∙ rw (true_is (is_allowed_tag tag) ((allowed_tag tag).1 other), le-leb _ _ behind, rest_whole rest size, is)
