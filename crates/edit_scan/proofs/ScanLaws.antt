-- What the answer of the pass over a script says of it: where it is refused, or its commands and the edits that are
-- left. By the cases of the form and of the UNDOs. Assumes nothing.
use mathlib.Core.Path.{◌≡◌, refl, sym, ap, ◌∙◌}
use mathlib.Core.List.{List}
use Prim.Native.Nat.{ℕ}
use native.Mathlib.Omega.{arith}
use lib.ListN.{length}
use Rattle.std.specs.Prelude.{Ok, Err}
use Rattle.script.specs.Form.{Edit, Command, Form, commands, broken, form_of}
use Rattle.script.specs.Struck.{Unstruck, unstruck, nothing_at, unstruck_in, live}
use Rattle.script.proofs.Struck.{struck_live}
use Rattle.edit_scan.specs.Commands.{strikes_found, scan_found, commands_at}
use Rattle.edit_scan.specs.declared.scan.ScriptError.TheVariants.{Broken, NothingToUndo}
use Rattle.edit_scan.proofs.CommandLaws.{commands_are}
use Rattle.edit_scan.proofs.StrikeLaws.{struck_never}

-- ---- of any form and any UNDOs

struck_nothing : (k at : ℕ) (u : Unstruck) → strikes_found k u ≡ Err (NothingToUndo at) → u ≡ nothing_at at
struck_nothing k at (unstruck es) e = let never : ◌≡◌ {A = ℕ} 0 1 = cc in absurd (omega arith)
struck_nothing k at (nothing_at there) e = cc

struck_whole : (n k : ℕ) (u : Unstruck) → strikes_found n u ≡ Ok k → (es : List Edit) × (u ≡ unstruck es) × (k ≡ n)
struck_whole n k (unstruck es) e = (es, refl, cc)
struck_whole n k (nothing_at there) e = let never : ◌≡◌ {A = ℕ} 0 1 = cc in absurd (omega arith)

found_broken : (form : Form) (at : ℕ) → scan_found form ≡ Err (Broken at) → form ≡ broken at
found_broken (commands cs) at e = absurd (struck_never (length cs) at (unstruck_in cs) e)
found_broken (broken there) at e = cc

found_nothing : (form : Form) (at : ℕ) → scan_found form ≡ Err (NothingToUndo at)
    → (cs : List Command) × (form ≡ commands cs) × (unstruck_in cs ≡ nothing_at at)
found_nothing (commands cs) at e = (cs, refl, struck_nothing (length cs) at (unstruck_in cs) e)
found_nothing (broken there) at e = let never : ◌≡◌ {A = ℕ} 0 1 = cc in absurd (omega arith)

found_whole : (form : Form) (k : ℕ) → scan_found form ≡ Ok k
    → (cs : List Command) × (form ≡ commands cs) × (es : List Edit) × (unstruck_in cs ≡ unstruck es) × (k ≡ length cs)
found_whole (commands cs) k e =
    let (es, is, count) = struck_whole (length cs) k (unstruck_in cs) e in
    (cs, refl, es, is, count)
found_whole (broken at) k e = let never : ◌≡◌ {A = ℕ} 0 1 = cc in absurd (omega arith)

-- ---- 3 over the script

pub scan_broken_is : (script : List ℕ) (at : ℕ) → scan_found (form_of script) ≡ Err (Broken at) → form_of script ≡ broken at
scan_broken_is script at e = found_broken (form_of script) at e

-- ---- 4 over the script

module _ (script : List ℕ) (at : ℕ) (e : scan_found (form_of script) ≡ Err (NothingToUndo at)) where
  pub scan_undone_form : form_of script ≡ commands (commands_at 0 script)
  scan_undone_form =
      let (cs, form, _) = found_nothing (form_of script) at e in
      form ∙ ap commands (sym (commands_are script cs form))

  pub scan_nothing_is : unstruck_in (commands_at 0 script) ≡ nothing_at at
  scan_nothing_is =
      let (cs, form, nothing) = found_nothing (form_of script) at e in
      ap unstruck_in (commands_are script cs form) ∙ nothing

-- ---- a script of k commands, each UNDO of which has something to strike

module _ (script : List ℕ) (k : ℕ) (e : scan_found (form_of script) ≡ Ok k) where
  pub scan_whole_form : form_of script ≡ commands (commands_at 0 script)
  scan_whole_form =
      let (cs, form, es, struck, count) = found_whole (form_of script) k e in
      form ∙ ap commands (sym (commands_are script cs form))

  pub scan_count_is : k ≡ length (commands_at 0 script)
  scan_count_is =
      let (cs, form, es, struck, count) = found_whole (form_of script) k e in
      count ∙ ap length (sym (commands_are script cs form))

  pub scan_struck_is : unstruck_in (commands_at 0 script) ≡ unstruck (live 0 (commands_at 0 script))
  scan_struck_is =
      let (cs, form, es, struck, count) = found_whole (form_of script) k e in
      let is : unstruck_in (commands_at 0 script) ≡ unstruck es = ap unstruck_in (commands_are script cs form) ∙ struck in
      is ∙ ap unstruck (struck_live (commands_at 0 script) es is)
