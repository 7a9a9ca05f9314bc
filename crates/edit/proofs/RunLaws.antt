-- The machine's run of one edit, of none, and of edits of which one is refused: it ends there. By the laws of `run`.
-- Assumes nothing.
use mathlib.Core.Path.{◌≡◌, refl, sym, ap, ◌∙◌}
use Prim.Native.Nat.{ℕ}
use mathlib.Core.List.{List, [], ◌∷◌, ◌++◌}
use Rattle.eit.specs.declared.Sizes.{Sizes}
use Rattle.eit.specs.Pools.{Pools}
use Rattle.eit.specs.Records.{EventList}
use Rattle.script.specs.Form.{Edit}
use Rattle.script.specs.Machine.{Step, done, refused, step}
use Rattle.script.specs.Edit.{Edited, run_by, run}
use Rattle.script.proofs.Edit.{run_done, run_refused}
use Rattle.edit_answer.specs.Outcome.{error_number}
use Rattle.edit_answer.specs.declared.EditError.{EditError}
use Rattle.std.proofs.Common.{rules}

-- 0 is the number of success alone
pub refusal_some : (e : EditError) → error_number e ≡ 0 → ⊥
refusal_some e z = search (rules, z)

module _ (sizes : Sizes) (pools : Pools) where
  module _ (list : EventList) (e : Edit) where
    pub one_done : (next : EventList) → step sizes pools list e.act ≡ done next
        → run sizes pools list (e ∷ []) ≡ record { number = 0; value = next.count; list = next }
    unfolding run_by
    one_done next q = run_done sizes pools list e [] next q

    pub one_refused : (number : ℕ) → step sizes pools list e.act ≡ refused number
        → run sizes pools list (e ∷ []) ≡ record { number = number; value = e.at; list = list }
    one_refused number q = run_refused sizes pools list e [] number q

  -- nothing to carry out
  pub none_done : (list : EventList) → run sizes pools list [] ≡ record { number = 0; value = list.count; list = list }
  unfolding run_by
  none_done list = refl

  -- edits of which one is refused end the run
  pub run_ends : (list : EventList) (es fs : List Edit) → ((run sizes pools list es).number ≡ 0 → ⊥)
      → run sizes pools list (es ++ fs) ≡ run sizes pools list es
  unfolding run_by
  run_ends list [] fs refuses = absurd (refuses refl)
  run_ends list (e ∷ es) fs refuses = by (step sizes pools list e.act) refl (λ next. run_ends next es fs)
    where
      by : (s : Step) → step sizes pools list e.act ≡ s
          → ((next : EventList) → ((run sizes pools next es).number ≡ 0 → ⊥)
          → run sizes pools next (es ++ fs) ≡ run sizes pools next es)
          → run sizes pools list (e ∷ (es ++ fs)) ≡ run sizes pools list (e ∷ es)
      by (done next) q again =
          run_done sizes pools list e (es ++ fs) next q
          ∙ again next (λ z. refuses (ap (λ (o : Edited). o.number) (run_done sizes pools list e es next q) ∙ z))
          ∙ sym (run_done sizes pools list e es next q)
      by (refused number) q again =
          run_refused sizes pools list e (es ++ fs) number q ∙ sym (run_refused sizes pools list e es number q)
