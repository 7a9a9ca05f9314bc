-- Edit, each edit by any machine: its run edit by edit, and the call refusal by refusal. By the tests of the
-- definition. Assumes nothing.
use mathlib.Core.Path.{◌≡◌, refl}
use mathlib.Core.Logic.{⊎_elim}
use mathlib.Core.Bool.{not}
use Prim.Native.Nat.{ℕ}
use mathlib.Core.List.{List, ◌∷◌}
use lib.Dec.{T}
use Rattle.eit.specs.declared.Sizes.{Sizes}
use Rattle.eit.specs.Pools.{Pools}
use Rattle.eit.specs.Records.{EventList}
use Rattle.eit.specs.Sound.{sound}
use Rattle.eit.proofs.Test.{test_or, true_is, false_is}
use Rattle.script.specs.Form.{Edit, Command, Form, commands, broken, form_of}
use Rattle.script.specs.Struck.{Unstruck, unstruck, nothing_at, unstruck_in}
use Rattle.script.specs.Machine.{Machine, done, refused}
use Rattle.script.specs.Edit.{Edited, run_by, refusal, edit_by}

module _ (machine : Machine) where
  -- ---- the run, edit by edit

  module _ (list : EventList) (e : Edit) (es : List Edit) where
    pub by_done : (next : EventList) → machine list e.act ≡ done next
        → run_by machine list (e ∷ es) ≡ run_by machine next es
    unfolding run_by
    by_done next q = rw (run_by, q)

    pub by_refused : (number : ℕ) → machine list e.act ≡ refused number
        → run_by machine list (e ∷ es) ≡ refusal number e.at list
    unfolding run_by
    by_refused number q = rw (run_by, q)

  -- ---- the call, refusal by refusal

  module _ (sizes : Sizes) (pools : Pools) (list : EventList) (script : List ℕ) where
    pub by_unsound : T (not (sound sizes pools list)) → edit_by machine sizes pools list script ≡ refusal 12 0 list
    unfolding edit_by
    by_unsound t = rw (edit_by, false_is (sound sizes pools list) t)

    module _ (t : T (sound sizes pools list)) where
      pub by_broken : (at : ℕ) → form_of script ≡ broken at → edit_by machine sizes pools list script ≡ refusal 3 at list
      unfolding edit_by
      by_broken at f = rw (edit_by, true_is (sound sizes pools list) t, f)

      pub by_nothing : (cs : List Command) (at : ℕ) → form_of script ≡ commands cs → unstruck_in cs ≡ nothing_at at
          → edit_by machine sizes pools list script ≡ refusal 4 at list
      unfolding edit_by
      by_nothing cs at f u = rw (edit_by, true_is (sound sizes pools list) t, f, u)

      pub by_runs : (cs : List Command) (es : List Edit) → form_of script ≡ commands cs → unstruck_in cs ≡ unstruck es
          → edit_by machine sizes pools list script ≡ run_by machine list es
      unfolding edit_by
      by_runs cs es f u = rw (edit_by, true_is (sound sizes pools list) t, f, u)

-- what holds of the outcomes of two: of the same refusals, and of their runs on a sound list
pub by_both : (machine other : Machine) (sizes : Sizes) (pools : Pools) (list : EventList)
    (script : List ℕ) (R : Edited → Edited → Type 0) → R (refusal 12 0 list) (refusal 12 0 list)
    → ((at : ℕ) → R (refusal 3 at list) (refusal 3 at list)) → ((at : ℕ) → R (refusal 4 at list) (refusal 4 at list))
    → ((es : List Edit) → T (sound sizes pools list) → R (run_by machine list es) (run_by other list es))
    → R (edit_by machine sizes pools list script) (edit_by other sizes pools list script)
by_both machine other sizes pools list script R unsound broke idle runs =
    ⊎_elim (λ t. formed t (form_of script) refl)
    (λ t. rw (by_unsound machine sizes pools list script t, by_unsound other sizes pools list script t) unsound)
    (test_or (sound sizes pools list))
  where
    struck : (t : T (sound sizes pools list)) (cs : List Command) → form_of script ≡ commands cs → (u : Unstruck)
        → unstruck_in cs ≡ u → R (edit_by machine sizes pools list script) (edit_by other sizes pools list script)
    struck t cs f (unstruck es) u =
        rw (by_runs machine sizes pools list script t cs es f u, by_runs other sizes pools list script t cs es f u)
        (runs es t)
    struck t cs f (nothing_at at) u =
        rw
        (by_nothing machine sizes pools list script t cs at f u, by_nothing other sizes pools list script t cs at f u)
        (idle at)

    formed : T (sound sizes pools list) → (f : Form) → form_of script ≡ f
        → R (edit_by machine sizes pools list script) (edit_by other sizes pools list script)
    formed t (commands cs) f = struck t cs f (unstruck_in cs) refl
    formed t (broken at) f =
        rw (by_broken machine sizes pools list script t at f, by_broken other sizes pools list script t at f) (broke at)
