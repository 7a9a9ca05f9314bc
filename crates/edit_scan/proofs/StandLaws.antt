-- The commands of a part of a script by their places: at which offset the command at a place stands. By one command at
-- a time. Assumes nothing.
use mathlib.Core.Path.{◌≡◌, refl, sym, ap, ◌∙◌}
use mathlib.Core.List.{List, ◌∷◌}
use Prim.Native.Nat.{ℕ, suc, ◌+◌, ◌-◌, ◌≤◌, ◌<◌}
use native.Mathlib.Omega.{arith}
use lib.Dec.{T}
use lib.ListN.{length, get_or, take, drop}
use lib.Seq.{drop-drop}
use Rattle.script.specs.Form.{Command, operand_bytes, command_of}
use Rattle.edit_scan.specs.Commands.{is_whole_at, commands_at}
use Rattle.edit_scan.proofs.CommandLaws.{commands_next, whole_here, whole_inside}
use Rattle.edit_scan.proofs.PartLaws.{part_whole, count_next, take_more}

-- of k commands from `at` on, the one at a place stands at the offset i
pub record Stands (script : List ℕ) (at k place i : ℕ) : Type 0 where
  pub few : place ≤ k
  pub within : k - place ≤ length (commands_at i script)
  pub rest : drop place (take k (commands_at at script)) ≡ take (k - place) (commands_at i script)

pub stands_first : (script : List ℕ) (at k : ℕ) → k ≤ length (commands_at at script) → Stands script at k 0 at
stands_first script at k within =
    let all : k - 0 ≡ k = omega arith in
    record { few = omega arith; within = omega arith; rest = rw all }

module _ {script : List ℕ} {at k place i : ℕ} (s : Stands script at k place i) (some : place < k) where
  pub stands_whole : T (is_whole_at i script)
  stands_whole = part_whole script i (omega (arith, s.within))

  pub stands_here : i < length script
  stands_here = whole_here i script stands_whole

  module _ (next : ℕ) (there : next ≡ i + (1 + operand_bytes (get_or script i 0))) where
    pub stands_inside : next ≤ length script
    stands_inside = omega (arith, whole_inside i script stands_whole)

    -- c is the command there
    starts : (c : Command) → c ≡ command_of (get_or script i 0) i (drop (suc i) script)
        → drop place (take k (commands_at at script)) ≡ c ∷ take (k - (place + 1)) (commands_at next script)
    starts c is =
        let less : k - place - 1 ≡ k - (place + 1) = omega arith in
        s.rest
        ∙ ap (take (k - place)) (commands_next i script next there stands_whole
        ∙ ap (λ (h : Command). h ∷ commands_at next script) (sym is))
        ∙ take_more (k - place) c (commands_at next script) (omega arith)
        ∙ ap (λ (n : ℕ). c ∷ take n (commands_at next script)) less

    pub stands_next : Stands script at k (place + 1) next
    stands_next =
        record {
          few = omega arith;
          within = omega (arith, s.within, count_next script i next there stands_whole);
          rest = sym (drop-drop 1 place (take k (commands_at at script))) ∙ ap (drop 1) (starts _ refl);
        }

  pub stands_split : (c : Command) → c ≡ command_of (get_or script i 0) i (drop (suc i) script)
      → drop place (take k (commands_at at script)) ≡ c ∷ drop (place + 1) (take k (commands_at at script))
  stands_split c is = starts _ refl c is ∙ ap (λ (cs : List Command). c ∷ cs) (sym (stands_next _ refl).rest)
