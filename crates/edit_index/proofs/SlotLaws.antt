-- The records in slots and the slot of an id, with a slot put in or taken out, and slots of which one moves to another
-- place. By induction over the slots. Assumes nothing.
use mathlib.Core.Path.{◌≡◌, refl, sym, ap, ap₂, subst, ◌∙◌}
use mathlib.Core.Logic.{⊎_elim}
use mathlib.Core.Bool.{Bool, true, false, not, ◌&&◌, ◌||◌}
use mathlib.Core.List.{List, [], ◌∷◌, ◌++◌, map, append_assoc}
use Prim.Native.Nat.{ℕ, zero, suc, ◌+◌, ◌*◌, ◌≤◌, ◌<◌}
use native.Mathlib.Omega.{arith}
use lib.Dec.{T, eqb, eqb→eq, T_not}
use lib.ListN.{length, get_or, take, drop}
use lib.Seq.{get_or-drop, drop_at, length-take-le}
use Rattle.eit.specs.Overwrite.{overwrite}
use Rattle.eit.specs.Among.{is_among, all_differ}
use Rattle.eit.specs.Find.{position_of}
use Rattle.eit.specs.Records.{record_size, front_record, numbers_of}
use Rattle.eit.specs.Sound.{ids_of}
use Rattle.eit.specs.declared.Record.{Record}
use Rattle.eit.proofs.Among.{among_append}
use Rattle.eit.proofs.Find.{position_here, position_later}
use Rattle.eit.proofs.Test.{or_other, nor_left, nor_right, test_or, true_is, false_is, both_ways, eq_test, le_or_lt}
use Rattle.list_records.specs.Written.{record_written}
use Rattle.list_records.proofs.WriteLaws.{read_before, read_after, written_is}
use Rattle.edit_index.specs.Index.{no_slot, slot_record, slot_of, AllBelow}

-- the number named for a place beyond the end does not matter before it
pub default_free : (ns : List ℕ) (k m n : ℕ) → k < length ns → get_or ns k m ≡ get_or ns k n
default_free [] k m n h = absurd (omega arith)
default_free (s ∷ ns) zero m n h = refl
default_free (s ∷ ns) (suc k) m n h = default_free ns k m n (omega arith)

-- ---- slots below a number

module _ (n : ℕ) where
  pub below_at : (ss : List ℕ) → AllBelow n ss → (k : ℕ) → k < length ss → get_or ss k 0 < n
  below_at [] all k h = absurd (omega arith)
  below_at (s ∷ ss) all zero h = all.0
  below_at (s ∷ ss) all (suc k) h = below_at ss all.1 k (omega arith)

  pub below_front : (ss rest : List ℕ) → AllBelow n (ss ++ rest) → AllBelow n ss
  below_front [] rest all = tt
  below_front (s ∷ ss) rest all = (all.0, below_front ss rest all.1)

  -- one of them, and the others
  pub below_parts : (xs : List ℕ) (s : ℕ) (ys : List ℕ) → AllBelow n (xs ++ s ∷ ys) → (s < n) × AllBelow n (xs ++ ys)
  below_parts [] s ys all = all
  below_parts (x ∷ xs) s ys all = let rest = below_parts xs s ys all.1 in (rest.0, (all.0, rest.1))

  pub below_joined : (xs : List ℕ) (s : ℕ) (ys : List ℕ) → s < n → AllBelow n (xs ++ ys) → AllBelow n (xs ++ s ∷ ys)
  below_joined [] s ys h all = (h, all)
  below_joined (x ∷ xs) s ys h all = (all.0, below_joined xs s ys h all.1)

-- ---- slots that differ

eqb_sym : (m n : ℕ) → eqb m n ≡ eqb n m
eqb_sym m n =
    both_ways (eqb m n) (eqb n m) (λ t. eq_test n m (sym (eqb→eq m n t))) (λ t. eq_test m n (sym (eqb→eq n m t)))

among_one : (n : ℕ) (xs : List ℕ) (s : ℕ) (ys : List ℕ)
    → is_among n (xs ++ s ∷ ys) ≡ (eqb n s || is_among n (xs ++ ys))
among_one n [] s ys = refl
among_one n (x ∷ xs) s ys =
    ap (λ (b : Bool). eqb n x || b) (among_one n xs s ys) ∙ swapped (eqb n x) (eqb n s) (is_among n (xs ++ ys))
  where
    swapped : (a b c : Bool) → (a || (b || c)) ≡ (b || (a || c))
    swapped true true c = refl
    swapped true false c = refl
    swapped false b c = refl

-- one differs from the others, and they do from each other
pub differ_one : (xs : List ℕ) (s : ℕ) (ys : List ℕ)
    → all_differ (xs ++ s ∷ ys) ≡ (not (is_among s (xs ++ ys)) && all_differ (xs ++ ys))
differ_one [] s ys = refl
differ_one (x ∷ xs) s ys =
    rw (among_one x xs s ys, differ_one xs s ys, eqb_sym x s)
    (swapped (eqb s x) (is_among x (xs ++ ys)) (is_among s (xs ++ ys)) (all_differ (xs ++ ys)))
  where
    swapped : (a b c d : Bool) → (not (a || b) && (not c && d)) ≡ (not (a || c) && (not b && d))
    swapped true b c d = refl
    swapped false true true d = refl
    swapped false true false d = refl
    swapped false false true d = refl
    swapped false false false d = refl

pub none_front : (n : ℕ) (xs ys : List ℕ) → T (not (is_among n (xs ++ ys))) → T (not (is_among n xs))
none_front n xs ys t = nor_left (is_among n xs) (is_among n ys) (rw (among_append n xs ys) at t)

-- ---- one slot in another place among the others

module _ (s : ℕ) (xs ys to behind : List ℕ) (others : xs ++ ys ≡ to ++ behind) where
  pub below_moved : (n : ℕ) → AllBelow n (xs ++ s ∷ ys) → AllBelow n (to ++ s ∷ behind)
  below_moved n all =
      let parts = below_parts n xs s ys all in
      below_joined n to s behind parts.0 (subst (AllBelow n) others parts.1)

  pub differ_moved : T (all_differ (xs ++ s ∷ ys)) → T (all_differ (to ++ s ∷ behind))
  differ_moved t =
      subst T
      (differ_one xs s ys
      ∙ ap (λ (ss : List ℕ). not (is_among s ss) && all_differ ss) others
      ∙ sym (differ_one to s behind)) t

-- ---- any values, mapped, with one put in or taken out

module _ {A B : Type 0} (f : A → B) where
  pub map_insert : (s : A) (p : ℕ) (es : List A)
      → map f (take p es ++ s ∷ drop p es) ≡ take p (map f es) ++ f s ∷ drop p (map f es)
  map_insert s zero es = refl
  map_insert s (suc p) [] = refl
  map_insert s (suc p) (e ∷ es) = ap (λ (rs : List B). f e ∷ rs) (map_insert s p es)

  pub map_leave : (p : ℕ) (es : List A)
      → map f (take p es ++ drop (suc p) es) ≡ take p (map f es) ++ drop (suc p) (map f es)
  map_leave zero [] = refl
  map_leave zero (e ∷ es) = refl
  map_leave (suc p) [] = refl
  map_leave (suc p) (e ∷ es) = ap (λ (rs : List B). f e ∷ rs) (map_leave p es)

  pub map_joined : (xs ys : List A) → map f (xs ++ ys) ≡ map f xs ++ map f ys
  map_joined [] ys = refl
  map_joined (x ∷ xs) ys = ap (λ (rs : List B). f x ∷ rs) (map_joined xs ys)

  pub map_at : (es : List A) (k : ℕ) (a : A) (b : B) → k < length es → get_or (map f es) k b ≡ f (get_or es k a)
  map_at [] k a b h = absurd (omega arith)
  map_at (e ∷ es) zero a b h = refl
  map_at (e ∷ es) (suc k) a b h = map_at es k a b (omega arith)

-- ---- all but one

module _ {A : Type 0} where
  abbrev pub leave : ℕ → List A → List A
  leave i es = take i es ++ drop (suc i) es

  -- those before it stay, those behind it move down
  pub leave_before : (i : ℕ) (es : List A) (k : ℕ) (d : A) → k < i → get_or (leave i es) k d ≡ get_or es k d
  leave_before zero es k d h = absurd (omega arith)
  leave_before (suc i) [] k d h = refl
  leave_before (suc i) (e ∷ es) zero d h = refl
  leave_before (suc i) (e ∷ es) (suc k) d h = leave_before i es k d (omega arith)

  pub leave_behind : (i : ℕ) (es : List A) (k : ℕ) (d : A) → i ≤ k → get_or (leave i es) k d ≡ get_or es (suc k) d
  leave_behind zero [] k d h = refl
  leave_behind zero (e ∷ es) k d h = refl
  leave_behind (suc i) [] k d h = refl
  leave_behind (suc i) (e ∷ es) zero d h = absurd (omega arith)
  leave_behind (suc i) (e ∷ es) (suc k) d h = leave_behind i es k d (omega arith)

  -- behind all there is none to leave out
  pub leave_none : (es : List A) → leave (length es) es ≡ es
  leave_none [] = refl
  leave_none (e ∷ es) = ap (λ (fs : List A). e ∷ fs) (leave_none es)

-- ---- the slot of an id

module _ (f : ℕ → Record) where
  module _ (id s : ℕ) (ss : List ℕ) where
    slot_here : T (eqb id (f s).id) → slot_of f id (s ∷ ss) ≡ s
    slot_here t = rw (slot_of, true_is (eqb id (f s).id) t)

    slot_later : T (not (eqb id (f s).id)) → slot_of f id (s ∷ ss) ≡ slot_of f id ss
    slot_later t = rw (slot_of, false_is (eqb id (f s).id) t)

  -- the slots behind the first one change
  rest_changes : (id s m n : ℕ) → m ≡ n
      → ◌≡◌ {A = ℕ} (elim (eqb id (f s).id) [ true ↦ s | false ↦ m ])
      (elim (eqb id (f s).id) [ true ↦ s | false ↦ n ])
  rest_changes id s m n q = ap (λ (k : ℕ). elim (eqb id (f s).id) [ true ↦ s | false ↦ k ]) q

  pub slot_insert_other : (id s : ℕ) → T (not (eqb id (f s).id)) → (p : ℕ) (ss : List ℕ)
      → slot_of f id (take p ss ++ s ∷ drop p ss) ≡ slot_of f id ss
  slot_insert_other id s t zero ss = slot_later id s ss t
  slot_insert_other id s t (suc p) [] = slot_later id s [] t
  slot_insert_other id s t (suc p) (e ∷ ss) =
      rest_changes id e (slot_of f id (take p ss ++ s ∷ drop p ss)) (slot_of f id ss) (slot_insert_other id s t p ss)

  pub slot_insert_same : (id s : ℕ) → T (eqb id (f s).id) → (p : ℕ) (ss : List ℕ)
      → T (not (is_among id (ids_of (map f ss))))
      → slot_of f id (take p ss ++ s ∷ drop p ss) ≡ s
  slot_insert_same id s t zero ss n = slot_here id s ss t
  slot_insert_same id s t (suc p) [] n = slot_here id s [] t
  slot_insert_same id s t (suc p) (e ∷ ss) n =
      slot_later id e (take p ss ++ s ∷ drop p ss) (nor_left (eqb id (f e).id) (is_among id (ids_of (map f ss))) n)
      ∙ slot_insert_same id s t p ss (nor_right (eqb id (f e).id) (is_among id (ids_of (map f ss))) n)

  pub slot_leave_other : (id p : ℕ) (ss : List ℕ) → p < length ss → T (not (eqb id (f (get_or ss p 0)).id))
      → slot_of f id (take p ss ++ drop (suc p) ss) ≡ slot_of f id ss
  slot_leave_other id p [] h t = absurd (omega arith)
  slot_leave_other id zero (e ∷ ss) h t = sym (slot_later id e ss t)
  slot_leave_other id (suc p) (e ∷ ss) h t =
      rest_changes id e (slot_of f id (take p ss ++ drop (suc p) ss)) (slot_of f id ss)
      (slot_leave_other id p ss (omega arith) t)

  -- absent, present
  pub slot_none : (id : ℕ) (ss : List ℕ) → T (not (is_among id (ids_of (map f ss)))) → slot_of f id ss ≡ no_slot
  slot_none id [] n = refl
  slot_none id (s ∷ ss) n =
      slot_later id s ss (nor_left (eqb id (f s).id) (is_among id (ids_of (map f ss))) n)
      ∙ slot_none id ss (nor_right (eqb id (f s).id) (is_among id (ids_of (map f ss))) n)

  pub slot_some : (id : ℕ) (ss : List ℕ) → T (is_among id (ids_of (map f ss)))
      → slot_of f id ss ≡ get_or ss (position_of id (map f ss)) 0
  slot_some id [] a = absurd a
  slot_some id (s ∷ ss) a =
      ⊎_elim (λ t. rw (position_here id (f s) (map f ss) t) (slot_here id s ss t))
      (λ t.
      rw (position_later id (f s) (map f ss) t)
      (slot_later id s ss t ∙ slot_some id ss (or_other (eqb id (f s).id) (is_among id (ids_of (map f ss))) t a)))
      (test_or (eqb id (f s).id))

-- ---- slots that hold the same records: all but one, which is not among them

module _ (f g : ℕ → Record) (free : ℕ) (same : (s : ℕ) → (s ≡ free → ⊥) → g s ≡ f s) where
  first_apart : (s : ℕ) (ss : List ℕ) → T (not (is_among free (s ∷ ss))) → s ≡ free → ⊥
  first_apart s ss t e = T_not (eqb free s) (nor_left (eqb free s) (is_among free ss) t) (eq_test free s (sym e))

  pub records_same : (ss : List ℕ) → T (not (is_among free ss)) → map g ss ≡ map f ss
  records_same [] t = refl
  records_same (s ∷ ss) t =
      ap₂ (λ (r : Record) (rs : List Record). r ∷ rs) (same s (first_apart s ss t))
      (records_same ss (nor_right (eqb free s) (is_among free ss) t))

  pub slot_same : (id : ℕ) (ss : List ℕ) → T (not (is_among free ss)) → slot_of g id ss ≡ slot_of f id ss
  slot_same id [] t = refl
  slot_same id (s ∷ ss) t =
      ap₂ (λ (r : Record) (k : ℕ). elim (eqb id r.id) [ true ↦ s | false ↦ k ]) (same s (first_apart s ss t))
      (slot_same id ss (nor_right (eqb free s) (is_among free ss) t))

-- ---- a record written into a slot

module _ (slots : List ℕ) (s : ℕ) (r : Record) (room : s * record_size + record_size ≤ length slots) where
  abbrev at : ℕ
  at = s * record_size

  -- it stands there
  pub slot_new : slot_record (record_written slots s r) s ≡ r
  slot_new =
      let rest : List ℕ = drop (at + record_size) slots in
      ap (λ (ns : List ℕ). slot_record ns s) (written_is slots s r room)
      ∙ ap front_record
      (ap (drop at) (append_assoc (take at slots) (numbers_of r) rest)
      ∙ drop_at (take at slots) (numbers_of r ++ rest) at (length-take-le at slots (omega arith)))

  -- the other slots stay
  pub slot_kept : (t : ℕ) → (t ≡ s → ⊥) → slot_record (record_written slots s r) t ≡ slot_record slots t
  slot_kept t other =
      ap (λ (ns : List ℕ). slot_record ns t) (written_is slots s r room)
      ∙ (λ i. record {
        id = number 0 (omega arith) i;
        start = number 1 (omega arith) i;
        duration = number 2 (omega arith) i;
        marks = number 3 (omega arith) i;
        offset = number 4 (omega arith) i;
        chain_length = number 5 (omega arith) i;
      })
    where
      with_record : List ℕ
      with_record = overwrite slots at (numbers_of r)

      one : (k : ℕ) → k < record_size → get_or with_record (t * record_size + k) 0 ≡ get_or slots (t * record_size + k) 0
      one k few =
          ⊎_elim
          (λ upto. read_after slots at (numbers_of r) (omega arith) (t * record_size + k) (omega arith))
          (λ before. read_before slots at (numbers_of r) (omega arith) (t * record_size + k) (omega arith))
          (le_or_lt s t)

      number : (k : ℕ) → k < record_size
          → get_or (drop (t * record_size) (overwrite slots at (numbers_of r))) k 0
          ≡ get_or (drop (t * record_size) slots) k 0
      number k few =
          get_or-drop (t * record_size) with_record k 0 ∙ one k few ∙ sym (get_or-drop (t * record_size) slots k 0)
