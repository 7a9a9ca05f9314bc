-- Descriptor and chain (01, "Event record and sound list"; 02, W-202). Laws: proofs/Chain.antt. Assumes nothing.
use Rattle.std.specs.Prelude.{ℕ, zero, suc, Bool, true, false, not, ◌&&◌, List, [], ◌∷◌, ◌++◌, eqb, length}

-- a descriptor is a tag byte, a length byte and that many bytes
pub record Descriptor : Type 0 where
  pub tag : ℕ
  pub body : List ℕ

abbrev pub descriptor_bytes : Descriptor → List ℕ
descriptor_bytes d = d.tag ∷ length d.body ∷ d.body

abbrev pub chain_bytes : List Descriptor → List ℕ
chain_bytes [] = []
chain_bytes (d ∷ ds) = descriptor_bytes d ++ chain_bytes ds

-- 02, W-202: descriptor tag 0xFF, which source document 004 forbids
abbrev pub forbidden_tag : ℕ
forbidden_tag = 0xFF

-- every other tag
abbrev pub is_allowed_tag : ℕ → Bool
is_allowed_tag tag = not (eqb tag forbidden_tag)

-- descriptors none of which has the forbidden tag
abbrev pub have_allowed_tags : List Descriptor → Bool
have_allowed_tags [] = true
have_allowed_tags (d ∷ ds) = is_allowed_tag d.tag && have_allowed_tags ds

-- the rest of a chain, of which the first `skip` bytes still belong to a descriptor that has begun
abbrev pub is_chain_from : ℕ → List ℕ → Bool
is_chain_from zero [] = true
is_chain_from (suc skip) [] = false
is_chain_from (suc skip) (b ∷ bs) = is_chain_from skip bs
is_chain_from zero (tag ∷ []) = false
is_chain_from zero (tag ∷ n ∷ bs) = is_allowed_tag tag && is_chain_from n bs

-- 01's term: chain. Zero or more descriptors that end exactly at its end; a chain with the forbidden tag is no chain
-- (02, W-202): `chain_is` says just that
unfoldable pub is_chain : List ℕ → Bool
is_chain bs = is_chain_from 0 bs
