-- `is_among` and `all_differ` mean what their names say, position by position, and over numbers that are joined: by
-- induction over the numbers. Assumes nothing.
use mathlib.Core.Path.{◌≡◌, refl, sym, ap, subst, ◌∙◌}
use mathlib.Core.Logic.{◌↔◌, ⊎_elim}
use mathlib.Core.Bool.{Bool, true, false, not, ◌||◌}
use Prim.Native.Nat.{ℕ, zero, suc, ◌<◌}
use native.Mathlib.Omega.{arith}
use mathlib.Core.List.{List, [], ◌∷◌, ◌++◌}
use lib.Dec.{T, eqb, eqb→eq, eqb_refl, T_not, not_T}
use lib.ListN.{length, get_or}
use Rattle.eit.specs.Among.{is_among, all_differ}
use Rattle.eit.proofs.Test.{tests, and_left, and_right, and_parts, and_both, or_cases, or_left, or_right, ne_sym}
use Rattle.eit.proofs.Test.{nor_left, nor_right, nor_both}

pub among_at : (ns : List ℕ) (i : ℕ) → i < length ns → T (is_among (get_or ns i 0) ns)
among_at [] i h = absurd (omega arith)
among_at (n ∷ ns) zero h = or_left (eqb n n) (is_among n ns) (eqb_refl n)
among_at (n ∷ ns) (suc i) h = or_right (eqb (get_or ns i 0) n) (is_among (get_or ns i 0) ns) (among_at ns i (omega arith))

pub among_found : (n : ℕ) (ns : List ℕ) → T (is_among n ns) → (i : ℕ) × (i < length ns) × (get_or ns i 0 ≡ n)
among_found n [] t = absurd t
among_found n (m ∷ ns) t =
    ⊎_elim
    (λ e. (0, omega arith, sym (eqb→eq n m e)))
    (λ a. let found = among_found n ns a in (suc found.0, omega arith, found.2))
    (or_cases (eqb n m) (is_among n ns) t)

-- numbers that all differ are different at any two places
pub differ_at : (ns : List ℕ) → T (all_differ ns) → (i j : ℕ) → i < j → j < length ns → get_or ns i 0 ≡ get_or ns j 0 → ⊥
differ_at [] t i j h k e = absurd (omega arith)
differ_at (n ∷ ns) t i zero h k e = absurd (omega arith)
differ_at (n ∷ ns) t zero (suc j) h k e =
    T_not (is_among n ns) (and_left (not (is_among n ns)) (all_differ ns) t)
    (subst (λ (m : ℕ). T (is_among m ns)) (sym e) (among_at ns j (omega arith)))
differ_at (n ∷ ns) t (suc i) (suc j) h k e =
    differ_at ns (and_right (not (is_among n ns)) (all_differ ns) t) i j (omega arith) (omega arith) e

-- and numbers that are different at any two places all differ
pub differ_all : (ns : List ℕ) → ((i j : ℕ) → i < j → j < length ns → get_or ns i 0 ≡ get_or ns j 0 → ⊥) → T (all_differ ns)
differ_all [] h = tt
differ_all (n ∷ ns) h =
    and_both (not (is_among n ns)) (all_differ ns)
    (not_T (is_among n ns)
    (λ a. let found = among_found n ns a in h 0 (suc found.0) (omega arith) (omega arith) (sym found.2)))
    (differ_all ns (λ i j lt within. h (suc i) (suc j) (omega arith) (omega arith)))

-- ---- at the end

or_assoc : (a b c : Bool) → (a || (b || c)) ≡ (a || b || c)
or_assoc true b c = refl
or_assoc false b c = refl

pub among_append : (n : ℕ) (ms ns : List ℕ) → is_among n (ms ++ ns) ≡ (is_among n ms || is_among n ns)
among_append n [] ns = refl
among_append n (m ∷ ms) ns =
    ap (λ (b : Bool). eqb n m || b) (among_append n ms ns) ∙ or_assoc (eqb n m) (is_among n ms) (is_among n ns)

-- a number is not among some numbers joined exactly if it is in neither part
apart_append : (n : ℕ) (ms ns : List ℕ)
    → T (not (is_among n (ms ++ ns))) ↔ (T (not (is_among n ms)) × T (not (is_among n ns)))
apart_append n ms ns = rw (among_append n ms ns) (λ t. (search tests, search tests), λ p. search (tests, p.0, p.1))

-- one number more, at the end
pub differ_snoc : (ns : List ℕ) (n : ℕ) → T (all_differ (ns ++ (n ∷ []))) ↔ (T (all_differ ns) × T (not (is_among n ns)))
differ_snoc [] n = (λ t. (tt, tt), λ p. tt)
differ_snoc (m ∷ ns) n =
    let first = apart_append m ns (n ∷ []) in
    let rest = differ_snoc ns n in (
      λ t.
          let whole = and_parts (not (is_among m (ns ++ (n ∷ [])))) (all_differ (ns ++ (n ∷ []))) t in
          let apart = first.0 whole.0 in
          let others = rest.0 whole.1 in
          let other : T (not (eqb n m)) = ne_sym m n (nor_left (eqb m n) false apart.1) in
          (search (tests, apart.0, others.0), search (tests, others.1)),
      λ p.
          let parts = and_parts (not (is_among m ns)) (all_differ ns) p.0 in
          let other : T (not (eqb m n)) = ne_sym n m (nor_left (eqb n m) (is_among n ns) p.1) in
          and_both (not (is_among m (ns ++ (n ∷ [])))) (all_differ (ns ++ (n ∷ [])))
          (first.1 (parts.0, nor_both (eqb m n) false other tt))
          (rest.1 (parts.1, nor_right (eqb n m) (is_among n ns) p.1)),
    )

-- numbers of the front all differ
pub differ_front : (ms ns : List ℕ) → T (all_differ (ms ++ ns)) → T (all_differ ms)
differ_front [] ns t = tt
differ_front (m ∷ ms) ns t =
    let whole = and_parts (not (is_among m (ms ++ ns))) (all_differ (ms ++ ns)) t in
    and_both (not (is_among m ms)) (all_differ ms) ((apart_append m ms ns).0 whole.0).0 (differ_front ms ns whole.1)
