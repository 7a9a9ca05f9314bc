-- Which edits are struck (01, "Edit": each UNDO strikes the nearest earlier edit that is not yet struck). Laws:
-- proofs/Struck.antt. Assumes nothing.
use Rattle.std.specs.Prelude.{ℕ, zero, suc, pred, List, [], ◌∷◌, reverse}
use Rattle.script.specs.Form.{Edit, Command, do_edit, undo}

-- 01's term: struck. The edits of a script that are not struck, in order; or the offset of the first UNDO with nothing
-- to strike
pub data Unstruck : Type 0 where
  unstruck : List Edit → Unstruck
  nothing_at : ℕ → Unstruck

-- `kept` holds the earlier edits that are not yet struck, the nearest first
abbrev pub strike : List Edit → List Command → Unstruck
strike kept [] = unstruck (reverse kept)
strike kept (do_edit e ∷ cs) = strike (e ∷ kept) cs
strike [] (undo at ∷ cs) = nothing_at at
strike (e ∷ kept) (undo at ∷ cs) = strike kept cs

-- of a whole script
unfoldable pub unstruck_in : List Command → Unstruck
unstruck_in cs = strike [] cs

-- the same from the right: with p UNDOs pending behind the commands, `pending_before` is how many are pending before
-- them; an UNDO adds one, an edit takes one if there is one
abbrev pub pending_before : ℕ → List Command → ℕ
pending_before p [] = p
pending_before p (do_edit e ∷ cs) = pred (pending_before p cs)
pending_before p (undo at ∷ cs) = suc (pending_before p cs)

-- an edit in front of others; if an UNDO is pending behind it, it is struck
abbrev pub unless_struck : ℕ → Edit → List Edit → List Edit
unless_struck zero e es = e ∷ es
unless_struck (suc p) e es = es

-- the edits that neither an UNDO among the commands strikes nor one of the p pending behind them
abbrev pub live : ℕ → List Command → List Edit
live p [] = []
live p (do_edit e ∷ cs) = unless_struck (pending_before p cs) e (live p cs)
live p (undo at ∷ cs) = live p cs
