-- UNDO strikes the nearest edit, is refused exactly where none is left, and says the same when the script is read from
-- the right: by induction over the commands, where each law speaks of any kept edits or of any number of pending UNDOs.
-- Assumes nothing.
use mathlib.Core.Path.{◌≡◌, refl, sym, ap, ap₂, ◌∙◌}
use mathlib.Core.List.{List, [], ◌∷◌, ◌++◌, map, reverse, append-nil, reverse-cons, reverse-reverse}
use mathlib.Core.List.{Sublistᴰ}
use Prim.Native.Nat.{ℕ, zero, suc, pred, ◌≤◌}
use native.Mathlib.Omega.{arith}
use lib.ListN.{length, drop}
use lib.Seq.{drop-nil, append_snoc}
use Rattle.script.specs.Form.{Edit, Command, do_edit, undo}
use Rattle.script.specs.Struck.{unstruck, nothing_at, strike, unstruck_in, pending_before, unless_struck, live}

-- ---- an UNDO strikes the nearest edit

-- an edit and the UNDO right behind it can be left out
pub undo_cancels : (kept : List Edit) (xs ys : List Command) (e : Edit) (at : ℕ)
    → strike kept (xs ++ (do_edit e ∷ undo at ∷ ys)) ≡ strike kept (xs ++ ys)
undo_cancels kept [] ys e at = refl
undo_cancels kept (do_edit f ∷ xs) ys e at = undo_cancels (f ∷ kept) xs ys e at
undo_cancels [] (undo there ∷ xs) ys e at = refl
undo_cancels (f ∷ kept) (undo there ∷ xs) ys e at = undo_cancels kept xs ys e at

pub undo_nearest : (xs : List Command) (es : List Edit) (e : Edit) (at : ℕ)
    → unstruck_in xs ≡ unstruck es → unstruck_in (xs ++ (do_edit e ∷ undo at ∷ [])) ≡ unstruck es
unfolding unstruck_in
undo_nearest xs es e at h = undo_cancels [] xs [] e at ∙ rw append-nil h

-- ---- joined scripts

-- the second script goes on with what the first left
pub strike_append : (kept : List Edit) (xs ys : List Command) (es : List Edit)
    → strike kept xs ≡ unstruck es → strike kept (xs ++ ys) ≡ strike (reverse es) ys
strike_append kept [] ys es h =
    let e : reverse kept ≡ es = cc in
    rw (← e, reverse-reverse)
strike_append kept (do_edit e ∷ xs) ys es h = strike_append (e ∷ kept) xs ys es h
strike_append [] (undo at ∷ xs) ys es h = cc
strike_append (e ∷ kept) (undo at ∷ xs) ys es h = strike_append kept xs ys es h

-- an UNDO with nothing to strike stays the first
pub strike_append_refused : (kept : List Edit) (xs ys : List Command) (at : ℕ)
    → strike kept xs ≡ nothing_at at → strike kept (xs ++ ys) ≡ nothing_at at
strike_append_refused kept [] ys at h = cc
strike_append_refused kept (do_edit e ∷ xs) ys at h = strike_append_refused (e ∷ kept) xs ys at h
strike_append_refused [] (undo there ∷ xs) ys at h = h
strike_append_refused (e ∷ kept) (undo there ∷ xs) ys at h = strike_append_refused kept xs ys at h

-- ---- an UNDO with nothing to strike

-- it is refused there exactly if all edits before it are struck
pub refused_at : (xs ys : List Command) (at : ℕ) → unstruck_in xs ≡ unstruck []
    → unstruck_in (xs ++ (undo at ∷ ys)) ≡ nothing_at at
unfolding unstruck_in
refused_at xs ys at h = strike_append [] xs (undo at ∷ ys) [] h

strike_refused_only : (kept : List Edit) (cs : List Command) (at : ℕ) → strike kept cs ≡ nothing_at at
    → (xs : List Command) × (ys : List Command) × (cs ≡ xs ++ (undo at ∷ ys)) × (strike kept xs ≡ unstruck [])
strike_refused_only kept [] at h = let never : ◌≡◌ {A = ℕ} 0 1 = cc in absurd (omega arith)
strike_refused_only kept (do_edit e ∷ cs) at h =
    let (xs, ys, split, struck) = strike_refused_only (e ∷ kept) cs at h in
    (do_edit e ∷ xs, ys, cc, struck)
strike_refused_only [] (undo there ∷ cs) at h = ([], cs, cc, refl)
strike_refused_only (e ∷ kept) (undo there ∷ cs) at h =
    let (xs, ys, split, struck) = strike_refused_only kept cs at h in
    (undo there ∷ xs, ys, cc, struck)

pub refused_only : (cs : List Command) (at : ℕ) → unstruck_in cs ≡ nothing_at at
    → (xs : List Command) × (ys : List Command) × (cs ≡ xs ++ (undo at ∷ ys)) × (unstruck_in xs ≡ unstruck [])
unfolding unstruck_in
refused_only cs at h = strike_refused_only [] cs at h

-- ---- the same from the right

pub pending_append : (p : ℕ) (xs ys : List Command) → pending_before p (xs ++ ys) ≡ pending_before (pending_before p ys) xs
pending_append p [] ys = refl
pending_append p (do_edit e ∷ xs) ys = ap pred (pending_append p xs ys)
pending_append p (undo at ∷ xs) ys = ap suc (pending_append p xs ys)

unless_append : (p : ℕ) (e : Edit) (es fs : List Edit) → unless_struck p e (es ++ fs) ≡ unless_struck p e es ++ fs
unless_append zero e es fs = refl
unless_append (suc p) e es fs = refl

pub live_append : (p : ℕ) (xs ys : List Command) → live p (xs ++ ys) ≡ live (pending_before p ys) xs ++ live p ys
live_append p [] ys = refl
live_append p (do_edit e ∷ xs) ys =
    ap₂ (λ (q : ℕ) (es : List Edit). unless_struck q e es) (pending_append p xs ys) (live_append p xs ys)
    ∙ unless_append (pending_before (pending_before p ys) xs) e (live (pending_before p ys) xs) (live p ys)
live_append p (undo at ∷ xs) ys = live_append p xs ys

-- an edit stays, or the first UNDO pending behind it strikes it
live_step : (p : ℕ) (e : Edit) (kept es : List Edit)
    → reverse (drop p (e ∷ kept)) ++ es ≡ reverse (drop (pred p) kept) ++ unless_struck p e es
live_step zero e kept es = rw reverse-cons (append_snoc (reverse kept) e es)
live_step (suc p) e kept es = refl

-- the UNDOs that pass all commands strike the nearest of the kept edits, if there are enough
pub strike_enough : (kept : List Edit) (cs : List Command)
    → pending_before 0 cs ≤ length kept
    → strike kept cs ≡ unstruck (reverse (drop (pending_before 0 cs) kept) ++ live 0 cs)
strike_enough kept [] h = rw append-nil
strike_enough kept (do_edit e ∷ cs) h =
    let room : pred (pending_before 0 cs) ≤ length kept = h in
    strike_enough (e ∷ kept) cs (omega arith) ∙ ap unstruck (live_step (pending_before 0 cs) e kept (live 0 cs))
strike_enough [] (undo at ∷ cs) h = absurd (omega arith)
strike_enough (e ∷ kept) (undo at ∷ cs) h = strike_enough kept cs (omega arith)

-- and there are enough unless an UNDO has nothing to strike
pub strike_pending : (kept : List Edit) (cs : List Command) (es : List Edit) → strike kept cs ≡ unstruck es
    → pending_before 0 cs ≤ length kept
strike_pending kept [] es h = omega arith
strike_pending kept (do_edit e ∷ cs) es h =
    let room : pred (pending_before 0 cs) ≤ length kept = omega (arith, strike_pending (e ∷ kept) cs es h) in
    room
strike_pending [] (undo at ∷ cs) es h = let never : ◌≡◌ {A = ℕ} 0 1 = cc in omega arith
strike_pending (e ∷ kept) (undo at ∷ cs) es h = omega (arith, strike_pending kept cs es h)

pub strike_live : (kept : List Edit) (cs : List Command) (es : List Edit)
    → strike kept cs ≡ unstruck es
    → es ≡ reverse (drop (pending_before 0 cs) kept) ++ live 0 cs
strike_live kept cs es h = cc (strike_enough kept cs (strike_pending kept cs es h))

-- of a whole script: the unstruck edits are the live ones, and each UNDO has something to strike exactly if none passes
-- all
pub struck_live : (cs : List Command) (es : List Edit) → unstruck_in cs ≡ unstruck es → es ≡ live 0 cs
unfolding unstruck_in
struck_live cs es h = strike_live [] cs es h ∙ rw drop-nil

pub struck_enough : (cs : List Command) → pending_before 0 cs ≡ 0 → unstruck_in cs ≡ unstruck (live 0 cs)
unfolding unstruck_in
struck_enough cs h = strike_enough [] cs (omega arith) ∙ rw drop-nil

pub struck_pending : (cs : List Command) (es : List Edit) → unstruck_in cs ≡ unstruck es → pending_before 0 cs ≡ 0
unfolding unstruck_in
struck_pending cs es h = omega (arith, strike_pending [] cs es h)

-- ---- the unstruck edits are, in order, edits of the script

unless_sublist : (p : ℕ) (e : Edit) (es : List Edit) (cs : List Command)
    → Sublistᴰ (map do_edit es) cs → Sublistᴰ (map do_edit (unless_struck p e es)) (do_edit e ∷ cs)
unless_sublist zero e es cs h = Sublistᴰ.cons-cons refl h
unless_sublist (suc p) e es cs h = Sublistᴰ.cons h

live_sublist : (p : ℕ) (cs : List Command) → Sublistᴰ (map do_edit (live p cs)) cs
live_sublist p [] = Sublistᴰ.slnil
live_sublist p (do_edit e ∷ cs) = unless_sublist (pending_before p cs) e (live p cs) cs (live_sublist p cs)
live_sublist p (undo at ∷ cs) = Sublistᴰ.cons (live_sublist p cs)

pub unstruck_are_edits : (cs : List Command) (es : List Edit) → unstruck_in cs ≡ unstruck es
    → Sublistᴰ (map do_edit es) cs
unstruck_are_edits cs es h = rw (struck_live cs es h) (live_sublist 0 cs)

pub struck_joined : (xs ys : List Command) (es fs : List Edit) → unstruck_in xs ≡ unstruck es
    → unstruck_in ys ≡ unstruck fs
    → unstruck_in (xs ++ ys) ≡ unstruck (es ++ fs)
struck_joined xs ys es fs h k =
    let none : pending_before 0 ys ≡ 0 = struck_pending ys fs k in
    let all : pending_before 0 (xs ++ ys) ≡ 0 =
    pending_append 0 xs ys ∙ ap (λ (p : ℕ). pending_before p xs) none ∙ struck_pending xs es h in
    let both : live 0 (xs ++ ys) ≡ es ++ fs =
    live_append 0 xs ys ∙ ap (λ (p : ℕ). live p xs ++ live 0 ys) none
    ∙ ap₂ (λ (us vs : List Edit). us ++ vs) (sym (struck_live xs es h)) (sym (struck_live ys fs k)) in
    struck_enough (xs ++ ys) all ∙ ap unstruck both
