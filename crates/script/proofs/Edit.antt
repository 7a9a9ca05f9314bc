-- Edit on a sound list leaves a sound list, accepted or refused; 12, 3 and 4 leave all: by induction over the edits,
-- each of which the machine's laws cover. Assumes nothing.
use mathlib.Core.Path.{◌≡◌, refl, sym, ap, ◌∙◌, subst}
use mathlib.Core.Logic.{◌⊎◌, inl, inr, ⊎_elim}
use mathlib.Core.Bool.{not}
use Prim.Native.Nat.{ℕ}
use native.Mathlib.Omega.{arith}
use mathlib.Core.List.{List, [], ◌∷◌, ◌++◌}
use lib.Dec.{T, T_not}
use Rattle.eit.specs.declared.Sizes.{Sizes}
use Rattle.eit.specs.Pools.{Pools}
use Rattle.eit.specs.Records.{EventList}
use Rattle.eit.specs.Among.{is_among}
use Rattle.eit.specs.Sound.{sound}
use Rattle.script.specs.Form.{Edit, Command, commands, broken, form_of}
use Rattle.script.specs.Struck.{unstruck, nothing_at, unstruck_in}
use Rattle.script.specs.Machine.{done, refused, step}
use Rattle.script.specs.Edit.{Stopped, Edited, run_by, run, refusal, edit}
use Rattle.script.proofs.Steps.{step_or, edit_numbers, step_number}
use Rattle.script.proofs.Machine.{step_sound}
use Rattle.script.proofs.EditBy.{by_done, by_refused, by_unsound, by_broken, by_nothing, by_runs, by_both}

-- the numbers of an edit's refusals are none of the others
pub number_apart : (n m : ℕ) → T (is_among n edit_numbers) → T (not (is_among m edit_numbers)) → n ≡ m → ⊥
number_apart n m is none e =
    T_not (is_among m edit_numbers) none (subst (λ (k : ℕ). T (is_among k edit_numbers)) e is)

module _ (sizes : Sizes) (pools : Pools) where
  -- ---- the machine's run, edit by edit

  module _ (list : EventList) (e : Edit) (es : List Edit) where
    pub run_done : (next : EventList) → step sizes pools list e.act ≡ done next
        → run sizes pools list (e ∷ es) ≡ run sizes pools next es
    run_done = by_done (step sizes pools) list e es

    pub run_refused : (number : ℕ) → step sizes pools list e.act ≡ refused number
        → run sizes pools list (e ∷ es) ≡ refusal number e.at list
    run_refused = by_refused (step sizes pools) list e es

  -- what holds of every run: it holds at the end, at a refusal, and behind an edit that is done
  pub run_ind : (P : EventList → Edited → Type 0)
      → ((list : EventList) → P list (record { number = 0; value = list.count; list = list }))
      → ((list : EventList) (e : Edit) (number : ℕ) → step sizes pools list e.act ≡ refused number
      → P list (record { number = number; value = e.at; list = list }))
      → ((list : EventList) (e : Edit) (next : EventList) (o : Edited) → step sizes pools list e.act ≡ done next
      → P next o → P list o)
      → (list : EventList) (es : List Edit) → P list (run sizes pools list es)
  unfolding run_by
  run_ind P ended stopped more list [] = ended list
  run_ind P ended stopped more list (e ∷ es) =
      ⊎_elim
      (λ d.
      rw (run_done list e es d.0 d.1)
      (more list e d.0 (run sizes pools d.0 es) d.1 (run_ind P ended stopped more d.0 es)))
      (λ r. rw (run_refused list e es r.0 r.1) (stopped list e r.0 r.1))
      (step_or (step sizes pools list e.act))

  pub run_sound : (list : EventList) (es : List Edit) → T (sound sizes pools list)
      → T (sound sizes pools (run sizes pools list es).list)
  run_sound =
      run_ind (λ list o. T (sound sizes pools list) → T (sound sizes pools o.list)) (λ list t. t)
      (λ list e number q t. t)
      (λ list e next o q ih t. ih (step_sound sizes pools list e.act next q t))

  -- edits that are carried out one part after the other are carried out together
  pub run_append : (list : EventList) (es fs : List Edit) → (run sizes pools list es).number ≡ 0
      → run sizes pools list (es ++ fs) ≡ run sizes pools (run sizes pools list es).list fs
  unfolding run_by
  run_append list [] fs z = refl
  run_append list (e ∷ es) fs z =
      ⊎_elim
      (λ d.
      run_done list e (es ++ fs) d.0 d.1
      ∙ run_append d.0 es fs (rw (run_done list e es d.0 d.1) at z)
      ∙ ap (λ (o : Edited). run sizes pools o.list fs) (sym (run_done list e es d.0 d.1)))
      (λ r.
      let q : r.0 ≡ 0 = rw (run_refused list e es r.0 r.1) at z in
      absurd (number_apart r.0 0 (step_number sizes pools list e.act r.0 r.1) tt q))
      (step_or (step sizes pools list e.act))

  -- a run ends with 0 and the new count, or with one of those numbers
  pub run_number : (list : EventList) (es : List Edit)
      → let o = run sizes pools list es in
      ((o.number ≡ 0) × (o.value ≡ o.list.count)) ⊎ T (is_among o.number edit_numbers)
  run_number =
      run_ind (λ list o. ((o.number ≡ 0) × (o.value ≡ o.list.count)) ⊎ T (is_among o.number edit_numbers))
      (λ list. inl (refl, refl))
      (λ list e n q. inr (step_number sizes pools list e.act n q))
      (λ list e next o q ih. ih)

  -- a run that is refused has carried out the edits before, and keeps what they made
  pub run_stops : (list : EventList) (es : List Edit) → ((run sizes pools list es).number ≡ 0 → ⊥)
      → Stopped sizes pools list es (run sizes pools list es)
  unfolding run_by
  run_stops list [] refuses = absurd (refuses refl)
  run_stops list (e ∷ es) refuses =
      ⊎_elim
      (λ (next, does).
      let on : run sizes pools list (e ∷ es) ≡ run sizes pools next es = run_done list e es next does in
      let rest = run_stops next es (λ zero. refuses (ap (λ (o : Edited). o.number) on ∙ zero)) in
      subst (λ (o : Edited). Stopped sizes pools list (e ∷ es) o) (sym on)
      (record {
        before = e ∷ rest.before;
        stop = rest.stop;
        behind = rest.behind;
        split = ap (λ (fs : List Edit). e ∷ fs) rest.split;
        carried_out = run_done list e rest.before next does ∙ rest.carried_out;
        refuses = rest.refuses;
        offset = rest.offset;
      }))
      (λ (number, number_is).
      subst (λ (o : Edited). Stopped sizes pools list (e ∷ es) o) (sym (run_refused list e es number number_is))
      (record {
        before = [];
        stop = e;
        behind = es;
        split = refl;
        carried_out = refl;
        refuses = number_is;
        offset = refl;
      }))
      (step_or (step sizes pools list e.act))

  -- ---- the call, refusal by refusal

  module _ (list : EventList) (script : List ℕ) where
    pub edit_unsound : T (not (sound sizes pools list)) → edit sizes pools list script ≡ refusal 12 0 list
    unfolding edit
    edit_unsound = by_unsound (step sizes pools) sizes pools list script

    module _ (t : T (sound sizes pools list)) where
      pub edit_broken : (at : ℕ) → form_of script ≡ broken at → edit sizes pools list script ≡ refusal 3 at list
      unfolding edit
      edit_broken = by_broken (step sizes pools) sizes pools list script t

      pub edit_nothing : (cs : List Command) (at : ℕ) → form_of script ≡ commands cs → unstruck_in cs ≡ nothing_at at
          → edit sizes pools list script ≡ refusal 4 at list
      unfolding edit
      edit_nothing = by_nothing (step sizes pools) sizes pools list script t

      pub edit_runs : (cs : List Command) (es : List Edit) → form_of script ≡ commands cs → unstruck_in cs ≡ unstruck es
          → edit sizes pools list script ≡ run sizes pools list es
      unfolding edit
      edit_runs = by_runs (step sizes pools) sizes pools list script t

  -- Edit is one of four: with itself as the other
  pub edit_or : (P : Edited → Type 0) (list : EventList) (script : List ℕ) → P (refusal 12 0 list)
      → ((at : ℕ) → P (refusal 3 at list)) → ((at : ℕ) → P (refusal 4 at list))
      → ((es : List Edit) → T (sound sizes pools list) → P (run sizes pools list es)) → P (edit sizes pools list script)
  unfolding edit
  edit_or P list script =
      by_both (step sizes pools) (step sizes pools) sizes pools list script (λ (o same : Edited). P o)

  -- Edit on a sound list leaves a sound list, accepted or refused
  pub edit_sound : (list : EventList) (script : List ℕ) → T (sound sizes pools list)
      → T (sound sizes pools (edit sizes pools list script).list)
  edit_sound list script t =
      edit_or (λ o. T (sound sizes pools o.list)) list script t (λ at. t) (λ at. t) (λ es s. run_sound list es t)

  -- 12, 3 and 4 leave all: the buffer and the count
  pub edit_leaves : (list : EventList) (script : List ℕ)
      → let o = edit sizes pools list script in
      (o.number ≡ 12) ⊎ ((o.number ≡ 3) ⊎ (o.number ≡ 4)) → o.list ≡ list
  edit_leaves list script =
      edit_or (λ o. (o.number ≡ 12) ⊎ ((o.number ≡ 3) ⊎ (o.number ≡ 4)) → o.list ≡ list) list script (λ n. refl)
      (λ at n. refl)
      (λ at n. refl)
      (λ es t n. absurd (never (run sizes pools list es).number (run_number list es) n))
    where
      never : {A : Type 0} (n : ℕ) → ((n ≡ 0) × A) ⊎ T (is_among n edit_numbers) → (n ≡ 12) ⊎ ((n ≡ 3) ⊎ (n ≡ 4)) → ⊥
      never n =
          ⊎_elim
          (λ zero. ⊎_elim (λ twelve. omega (arith, zero.0))
          (⊎_elim (λ three. omega (arith, zero.0)) (λ four. omega (arith, zero.0))))
          (λ is. ⊎_elim (number_apart n 12 is tt) (⊎_elim (number_apart n 3 is tt) (number_apart n 4 is tt)))
