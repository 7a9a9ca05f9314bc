-- Edit as one total function of list, pools and script (01, "Edit", "When a call says no"). Laws: proofs/EditBy.antt
-- and Edit.antt; claims: JoinedScripts.antt. Assumes nothing.
use Rattle.std.specs.Prelude.{ℕ, true, false, ◌≡◌, List, [], ◌∷◌, ◌++◌}
use Rattle.eit.specs.declared.Sizes.{Sizes}
use Rattle.eit.specs.Pools.{Pools}
use Rattle.eit.specs.Records.{EventList}
use Rattle.eit.specs.Sound.{sound}
use Rattle.script.specs.Form.{Edit, commands, broken, form_of}
use Rattle.script.specs.Struck.{unstruck, nothing_at, unstruck_in}
use Rattle.script.specs.Machine.{Machine, done, refused, step}

-- what Edit returns and leaves: number and value of the answer, and the list with its count
pub record Edited : Type 0 where
  pub number : ℕ
  pub value : ℕ
  pub list : EventList

-- a refusal: its number, what it returns, and the list that it leaves
abbrev pub refusal : ℕ → ℕ → EventList → Edited
refusal number value list = record { number = number; value = value; list = list }

-- the unstruck edits are carried out in order, each by the machine; success returns the new count, a refusal the
-- edit's offset, and it leaves the list as the earlier edits made it
unfoldable pub run_by : Machine → EventList → List Edit → Edited
run_by machine list [] = record { number = 0; value = list.count; list = list }
run_by machine list (e ∷ es) =
    elim (machine list e.act) [
      | done next ↦ run_by machine next es
      | refused number ↦ refusal number e.at list
    ]

-- 12, 3 over the script, 4 over the script; then per edit
unfoldable pub edit_by : Machine → Sizes → Pools → EventList → List ℕ → Edited
unfolding run_by
edit_by machine sizes pools list script =
    elim (sound sizes pools list) [
      | false ↦ refusal 12 0 list
      | true ↦ elim (form_of script) [
        | broken at ↦ refusal 3 at list
        | commands cs ↦ elim (unstruck_in cs) [
          | nothing_at at ↦ refusal 4 at list
          | unstruck es ↦ run_by machine list es
        ]
      ]
    ]

-- Edit's run and Edit: by the plain machine
abbrev pub run : Sizes → Pools → EventList → List Edit → Edited
run sizes pools = run_by (step sizes pools)

unfoldable pub edit : Sizes → Pools → EventList → List ℕ → Edited
unfolding edit_by step
edit sizes pools = edit_by (step sizes pools) sizes pools

-- an edit refusal among edits to be carried out: those before it are, and it leaves the list as they made it
pub record Stopped (sizes : Sizes) (pools : Pools) (list : EventList) (es : List Edit) (o : Edited) : Type 0 where
  pub before : List Edit
  pub stop : Edit
  pub behind : List Edit
  pub split : before ++ stop ∷ behind ≡ es
  pub carried_out : run sizes pools list before ≡ record { number = 0; value = o.list.count; list = o.list }
  pub refuses : step sizes pools o.list stop.act ≡ refused o.number
  pub offset : o.value ≡ stop.at
