-- A list of bytes is a chain exactly if it is the bytes of some descriptors with allowed tags: by recursion on the
-- bytes, with the bytes that are left of the descriptor that has begun. Assumes nothing.
use Prim.Native.Nat.{ℕ, zero, suc}
use mathlib.Core.Bool.{true, false, ◌&&◌}
use mathlib.Core.List.{List, [], ◌∷◌, ◌++◌}
use mathlib.Core.Logic.{◌↔◌}
use mathlib.Core.Path.{◌≡◌, refl, sym, ap, ◌∙◌}
use native.Mathlib.Nat.{le_of_eq}
use lib.Dec.{T, T_not, eqb, leb, leb-zero, leb-suc-zero, leb-suc-suc}
use lib.ListN.{length, drop}
use lib.Seq.{take_all}
use Rattle.eit.specs.Chain.{Descriptor, chain_bytes, is_allowed_tag, have_allowed_tags, is_chain_from, is_chain}
use Rattle.eit.proofs.Test.{and_both, and_parts, eq_test, ne_test}

-- ---- tags

-- all but 0xFF are allowed
pub allowed_tag : (tag : ℕ) → T (is_allowed_tag tag) ↔ (tag ≡ 0xFF → ⊥)
allowed_tag tag = (λ t same. T_not (eqb tag 0xFF) t (eq_test tag 0xFF same), ne_test tag 0xFF)

-- ---- the equations of `is_chain`

pub chain_none : is_chain [] ≡ true
unfolding is_chain
chain_none = refl

pub chain_one : (tag : ℕ) → is_chain (tag ∷ []) ≡ false
unfolding is_chain
chain_one tag = refl

-- a chain goes on behind the bytes of the descriptor that has begun, which are all there
from_skip : (n : ℕ) (bs : List ℕ) → is_chain_from n bs ≡ (leb n (length bs) && is_chain_from 0 (drop n bs))
from_skip zero bs = rw (leb-zero (length bs))
from_skip (suc n) [] = rw (leb-suc-zero n)
from_skip (suc n) (b ∷ bs) = rw (leb-suc-suc n (length bs)) (from_skip n bs)

pub chain_more : (tag n : ℕ) (bs : List ℕ)
    → is_chain (tag ∷ n ∷ bs) ≡ (is_allowed_tag tag && (leb n (length bs) && is_chain (drop n bs)))
unfolding is_chain
chain_more tag n bs = ap (λ rest. is_allowed_tag tag && rest) (from_skip n bs)

-- ---- chains and descriptors

from_body : (body bs : List ℕ) → is_chain_from (length body) (body ++ bs) ≡ is_chain_from 0 bs
from_body [] bs = refl
from_body (b ∷ body) bs = from_body body bs

-- 02, W-202: the bytes of descriptors are a chain exactly if none of them has the forbidden tag
pub chain_tags : (ds : List Descriptor) → is_chain (chain_bytes ds) ≡ have_allowed_tags ds
unfolding is_chain
chain_tags [] = refl
chain_tags (d ∷ ds) =
    ap (λ rest. is_allowed_tag d.tag && rest) (from_body d.body (chain_bytes ds) ∙ chain_tags ds)

-- the bytes that are left of the descriptor that has begun, and the descriptors behind them
descriptors_from : (bs : List ℕ) (skip : ℕ) → T (is_chain_from skip bs)
    → (body : List ℕ) × (ds : List Descriptor) × T (have_allowed_tags ds) × (length body ≡ skip)
    × (bs ≡ body ++ chain_bytes ds)
descriptors_from [] zero t = ([], [], tt, refl, refl)
descriptors_from [] (suc skip) t = absurd t
descriptors_from (b ∷ bs) (suc skip) t =
    let (body, ds, allowed, size, same) = descriptors_from bs skip t in
    (b ∷ body, ds, allowed, ap suc size, λ i. b ∷ same i)
descriptors_from (tag ∷ []) zero t = absurd t
descriptors_from (tag ∷ n ∷ bs) zero t =
    let (other, rest) = and_parts (is_allowed_tag tag) _ t in
    let (body, ds, allowed, size, same) = descriptors_from bs n rest in (
      [],
      record { tag = tag; body = body } ∷ ds,
      and_both (is_allowed_tag tag) _ other allowed,
      refl,
      λ i. tag ∷ sym size i ∷ same i,
    )

pub chain_from : (bs : List ℕ) → T (is_chain bs)
    → (ds : List Descriptor) × T (have_allowed_tags ds) × (bs ≡ chain_bytes ds)
unfolding is_chain
chain_from bs t =
    let (body, ds, allowed, size, same) = descriptors_from bs 0 t in
    let none : [] ≡ body = take_all 0 body (le_of_eq size) in
    (ds, allowed, same ∙ (λ i. sym none i ++ chain_bytes ds))

-- 01's sentence, zero or more descriptors that end exactly at its end, with allowed tags (02, W-202)
pub chain_is : (bs : List ℕ)
    → T (is_chain bs) ↔ ((ds : List Descriptor) × T (have_allowed_tags ds) × (bs ≡ chain_bytes ds))
chain_is bs = (chain_from bs, λ p. rw (p.2, chain_tags p.0) p.1)
