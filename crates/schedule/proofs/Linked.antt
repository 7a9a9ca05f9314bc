-- Headers that stand in the order of the rules, from a first one to a last one: such lists join, also over numbers in a
-- row, and one that ends with the file's last header is a file's. By induction over the list and over the row.
-- Assumes nothing.
use mathlib.Core.Path.{◌≡◌}
use mathlib.Core.List.{List, [], ◌∷◌, ◌++◌, flatten, append-nil, map-append}
use Prim.Native.Nat.{ℕ, zero, suc, ◌+◌, ◌≤◌, ◌<◌}
use native.Mathlib.Omega.{arith}
use Rattle.sections.specs.Section.{Header, Section, headers_of}
use Rattle.sections.specs.Rules.{First, Next, Last, Succeeding, Ordered}
use Rattle.sections.specs.Each.{each}

-- headers from g to z, each right behind the one before it
pub data Linked : Header → Header → List Header → Type 0 where
  one : {g : Header} → Linked g g (g ∷ [])
  more : {g h z : Header} {hs : List Header} → Next g h → Linked h z hs → Linked g z (g ∷ hs)

-- two such lists joined, where the second starts right behind the first
pub linked_append : {a y b z : Header} {xs ys : List Header}
    → Linked a y xs → Next y b → Linked b z ys → Linked a z (xs ++ ys)
linked_append one seam behind = more seam behind
linked_append (more next front) seam behind = more next (linked_append front seam behind)

-- up to the file's last header they follow each other as the rules say
linked_succeeding : {g h z : Header} {hs : List Header} → Next g h → Linked h z hs → Last z → Succeeding g hs
linked_succeeding next one last = (next, last)
linked_succeeding next (more then rest) last = (next, linked_succeeding then rest last)

-- from the file's first header to its last one they are in order
pub linked_ordered : {g z : Header} {hs : List Header} → Linked g z hs → First g → Last z → Ordered hs
linked_ordered one first last = (first, last)
linked_ordered (more next rest) first last = (first, linked_succeeding next rest last)

-- sections of numbers in a row, joined
pub row_linked : (f : ℕ → List Section) (first last : ℕ → Header) (least n : ℕ)
    → ((k : ℕ) → least ≤ k → k ≤ least + n → Linked (first k) (last k) (headers_of (f k)))
    → ((k : ℕ) → least ≤ k → k < least + n → Next (last k) (first (suc k)))
    → Linked (first least) (last (least + n)) (headers_of (flatten (each f least (suc n))))
unfolding each flatten
row_linked f first last least zero parts seams =
    let end : least + 0 ≡ least = omega arith in
    rw (end, append-nil) (parts least (omega arith) (omega arith))
row_linked f first last least (suc n) parts seams =
    let rest : Linked (first (suc least)) (last (suc least + n)) (headers_of (flatten (each f (suc least) (suc n)))) =
    row_linked f first last (suc least) n (λ k low high. parts k (omega arith) (omega arith))
    (λ k low high. seams k (omega arith) (omega arith)) in
    let end : suc least + n ≡ least + suc n = omega arith in
    rw (← end, map-append)
    (linked_append (parts least (omega arith) (omega arith)) (seams least (omega arith) (omega arith)) rest)
