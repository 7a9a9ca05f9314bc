-- What demand 1 says of refusals: "A refusal leaves them untouched, except that a refused edit keeps the edits before
-- it". It is a field of `Demands` (specs/Demands.antt). Assumes nothing.
use Rattle.std.specs.Prelude.{◌≡◌, ◌⊎◌, ℕ, List, ◌++◌, T, drop}
use Rattle.eit.specs.declared.Sizes.{Sizes}
use Rattle.eit.specs.Pools.{Pools}
use Rattle.eit.specs.Records.{EventList}
use Rattle.eit.specs.Sound.{sound}
use Rattle.eit.specs.declared.Identity.{Identity}
use Rattle.script.specs.Form.{Edit, Command, commands, form_of}
use Rattle.script.specs.Struck.{unstruck, unstruck_in}
use Rattle.script.specs.Edit.{edit, Stopped}
use Rattle.sections.specs.Read.{read}
use Rattle.schedule.specs.Build.{build, file_of}

pub record RefusedFor (sizes : Sizes) : Type 0 where
  pub build_leaves : (pools : Pools) (list : EventList) (base : ℕ) (identity : Identity) (output : List ℕ)
      → let b = build sizes pools list base identity output in
      (b.number ≡ 0 → ⊥) → b.output ≡ output
  -- "Bytes beyond the file stay"
  pub build_beyond : (pools : Pools) (list : EventList) (base : ℕ) (identity : Identity) (output : List ℕ)
      → let b = build sizes pools list base identity output in
      b.number ≡ 0 → b.output ≡ file_of b ++ drop b.value output
  pub read_leaves : (base : ℕ) (file buffer : List ℕ) → ((read sizes base file buffer).answer.number ≡ 0 → ⊥)
      → (read sizes base file buffer).buffer ≡ buffer
  pub edit_leaves : (pools : Pools) (list : EventList) (script : List ℕ)
      → let o = edit sizes pools list script in
      (o.number ≡ 12) ⊎ ((o.number ≡ 3) ⊎ (o.number ≡ 4)) → o.list ≡ list
  -- by an edit: the list is as the edits before made it
  pub edit_keeps : (pools : Pools) (list : EventList) (script : List ℕ) (cs : List Command) (es : List Edit)
      → T (sound sizes pools list) → form_of script ≡ commands cs → unstruck_in cs ≡ unstruck es
      → ((edit sizes pools list script).number ≡ 0 → ⊥)
      → Stopped sizes pools list es (edit sizes pools list script)
