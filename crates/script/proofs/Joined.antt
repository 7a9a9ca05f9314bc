-- Joined scripts: the commands of the second stand behind those of the first, as many bytes later as the first has;
-- UNDO strikes the same of them; and a run depends on their offsets only in what a refusal returns. By induction over
-- the bytes, the commands and the edits. Assumes nothing.
use mathlib.Core.Path.{◌≡◌, refl, sym, ap, ap₂, ◌∙◌}
use mathlib.Core.Logic.{◌⊎◌, inl, inr, ⊎_elim}
use Prim.Native.Nat.{ℕ, zero, suc, pred, ◌+◌, ◌≤◌}
use native.Mathlib.Omega.{arith}
use mathlib.Core.List.{List, [], ◌∷◌, ◌++◌, map}
use lib.Dec.{T, leb, le→leb}
use lib.ListN.{length, length-append}
use Rattle.eit.specs.declared.Sizes.{Sizes}
use Rattle.eit.specs.Pools.{Pools}
use Rattle.eit.specs.Records.{EventList}
use Rattle.eit.specs.declared.Record.{Record}
use Rattle.eit.proofs.Fields.{field_append}
use Rattle.eit.proofs.Test.{and_left, and_both, true_is, test_or}
use Rattle.script.specs.Form.{Edit, Command, do_edit, undo, put, withdraw, move, is_command, operand_bytes}
use Rattle.script.specs.Form.{put_record, command_of, is_whole, Form, commands, broken, before, form_from, form_of}
use Rattle.script.specs.Struck.{unstruck, unstruck_in, pending_before, unless_struck, live}
use Rattle.script.specs.Machine.{step}
use Rattle.script.specs.Edit.{Edited, run_by, run, refusal}
use Rattle.script.proofs.Form.{by_code, before_only, form_broken, whole_room}
use Rattle.script.proofs.Struck.{struck_live, struck_enough, struck_pending}
use Rattle.script.proofs.Steps.{step_or, step_number}
use Rattle.script.proofs.Edit.{number_apart, run_done, run_refused}

-- ---- the same edits and commands, n bytes later

abbrev pub later_edit : ℕ → Edit → Edit
later_edit n e = record { at = n + e.at; act = e.act }

abbrev pub later_command : ℕ → Command → Command
later_command n (do_edit e) = do_edit (later_edit n e)
later_command n (undo at) = undo (n + at)

abbrev pub later_form : ℕ → Form → Form
later_form n (commands cs) = commands (map (later_command n) cs)
later_form n (broken at) = broken (n + at)

before_later : (n : ℕ) (c : Command) (form : Form)
    → before (later_command n c) (later_form n form) ≡ later_form n (before c form)
before_later n c (commands cs) = refl
before_later n c (broken at) = ap broken (omega arith)

command_later : (n at : ℕ) (bs : List ℕ) (code : ℕ) → T (is_command code)
    → command_of code (n + at) bs ≡ later_command n (command_of code at bs)
command_later n at bs =
    by_code (λ code. command_of code (n + at) bs ≡ later_command n (command_of code at bs)) refl refl refl refl

form_later : (n skip at : ℕ) (bs : List ℕ) → form_from skip (n + at) bs ≡ later_form n (form_from skip at bs)
form_later n zero at [] = refl
form_later n (suc skip) at [] = refl
form_later n (suc skip) at (b ∷ bs) =
    let e : n + suc at ≡ suc (n + at) = omega arith in
    rw e at (form_later n skip (suc at) bs)
form_later n zero at (code ∷ bs) =
    let k : ℕ = operand_bytes code in
    let e : n + suc at ≡ suc (n + at) = omega arith in
    let rest : form_from k (suc (n + at)) bs ≡ later_form n (form_from k (suc at) bs) =
    rw e at (form_later n k (suc at) bs) in
    ⊎_elim
    (λ whole.
    let known : T (is_command code) = and_left (is_command code) (leb k (length bs)) whole in
    rw (form_from, true_is (is_whole code bs) whole, command_later n at bs code known, rest)
    (before_later n (command_of code at bs) (form_from k (suc at) bs)))
    (λ t. rw (form_broken code (n + at) bs t, form_broken code at bs t))
    (test_or (is_whole code bs))

-- ---- the form of joined scripts

-- a command's operands are looked at, and nothing behind them
module _ (at : ℕ) (bs rest : List ℕ) where
  whole_append : (code : ℕ) → T (is_whole code bs) → T (is_whole code (bs ++ rest))
  whole_append code whole =
      let room : operand_bytes code ≤ length (bs ++ rest) =
      rw length-append (omega (arith, whole_room code bs whole)) in
      and_both (is_command code) _ (and_left (is_command code) _ whole) (le→leb (operand_bytes code) _ room)

  command_append : (code : ℕ) → T (is_command code) → T (is_whole code bs)
      → command_of code at (bs ++ rest) ≡ command_of code at bs
  command_append =
      by_code (λ code. T (is_whole code bs) → command_of code at (bs ++ rest) ≡ command_of code at bs)
      (λ whole.
      ap (λ (r : Record). do_edit (record { at = at; act = put r })) (put_append (whole_room 0x01 bs whole)))
      (λ whole.
      ap (λ (id : ℕ). do_edit (record { at = at; act = withdraw id }))
      (field_append bs rest 0 2 (omega (arith, whole_room 0x02 bs whole))))
      (λ whole.
      let room : 6 ≤ length bs = whole_room 0x03 bs whole in
      ap₂ (λ (id start : ℕ). do_edit (record { at = at; act = move id start }))
      (field_append bs rest 0 2 (omega arith)) (field_append bs rest 2 4 (omega arith)))
      (λ whole. refl)
    where
      put_append : 17 ≤ length bs → put_record (bs ++ rest) ≡ put_record bs
      put_append room =
          λ i. record {
            id = field_append bs rest 0 2 (omega arith) i;
            start = field_append bs rest 2 4 (omega arith) i;
            duration = field_append bs rest 6 4 (omega arith) i;
            marks = field_append bs rest 10 1 (omega arith) i;
            offset = field_append bs rest 11 4 (omega arith) i;
            chain_length = field_append bs rest 15 2 (omega arith) i;
          }

-- commands in front of a form
abbrev all_before : List Command → Form → Form
all_before [] form = form
all_before (c ∷ cs) form = before c (all_before cs form)

before_commands : (cs ds : List Command) → all_before cs (commands ds) ≡ commands (cs ++ ds)
before_commands [] ds = refl
before_commands (c ∷ cs) ds = ap (before c) (before_commands cs ds)

before_broken : (cs : List Command) (at : ℕ) → all_before cs (broken at) ≡ broken at
before_broken [] at = refl
before_broken (c ∷ cs) at = ap (before c) (before_broken cs at) ∙ ap broken (omega arith)

append_from : (skip at : ℕ) (bs rest : List ℕ) (cs : List Command) → skip ≤ length bs
    → form_from skip at bs ≡ commands cs
    → form_from skip at (bs ++ rest) ≡ all_before cs (form_from 0 (at + length bs) rest)
append_from zero at [] rest cs room h =
    let none : [] ≡ cs = cc in
    let e : at ≡ at + 0 = omega arith in
    rw (← none) (ap (λ (k : ℕ). form_from 0 k rest) e)
append_from (suc skip) at [] rest cs room h = absurd (omega arith)
append_from (suc skip) at (b ∷ bs) rest cs room h =
    let e : suc at + length bs ≡ at + length (b ∷ bs) = omega arith in
    rw e at (append_from skip (suc at) bs rest cs (omega arith) h)
append_from zero at (code ∷ bs) rest cs room h =
    let k : ℕ = operand_bytes code in
    let c : Command = command_of code at bs in
    let e : suc at + length bs ≡ at + length (code ∷ bs) = omega arith in
    ⊎_elim
    (λ whole.
    let known : T (is_command code) = and_left (is_command code) (leb k (length bs)) whole in
    let read : before c (form_from k (suc at) bs) ≡ commands cs = rw (form_from, true_is (is_whole code bs) whole) at h in
    let (ds, tail, split) = before_only c (form_from k (suc at) bs) cs read in
    let next : form_from k (suc at) (bs ++ rest) ≡ all_before ds (form_from 0 (at + length (code ∷ bs)) rest) =
    rw e at (append_from k (suc at) bs rest ds (whole_room code bs whole) tail) in
    rw (
      split,
      form_from,
      true_is (is_whole code (bs ++ rest)) (whole_append at bs rest code whole),
      command_append at bs rest code known whole,
      next,
    ))
    (λ t. let never : ◌≡◌ {A = ℕ} 0 1 = cc (form_broken code at bs t) in absurd (omega arith))
    (test_or (is_whole code bs))

module _ (first second : List ℕ) (cs : List Command) (read : form_of first ≡ commands cs) where
  form_append : form_of (first ++ second) ≡ all_before cs (later_form (length first) (form_of second))
  unfolding form_of
  form_append =
      let n : ℕ = length first in
      let e : n + 0 ≡ 0 + n = omega arith in
      append_from 0 0 first second cs (omega arith) read ∙ ap (all_before cs) (rw e at (form_later n 0 0 second))

  pub form_joined : (ds : List Command) → form_of second ≡ commands ds
      → form_of (first ++ second) ≡ commands (cs ++ map (later_command (length first)) ds)
  form_joined ds h =
      form_append
      ∙ ap (λ (form : Form). all_before cs (later_form (length first) form)) h
      ∙ before_commands cs (map (later_command (length first)) ds)

  pub form_joined_broken : (at : ℕ) → form_of second ≡ broken at → form_of (first ++ second) ≡ broken (length first + at)
  form_joined_broken at h =
      form_append
      ∙ ap (λ (form : Form). all_before cs (later_form (length first) form)) h
      ∙ before_broken cs (length first + at)

-- ---- UNDO strikes the same edits

module _ (n : ℕ) where
  pending_later : (p : ℕ) (cs : List Command) → pending_before p (map (later_command n) cs) ≡ pending_before p cs
  pending_later p [] = refl
  pending_later p (do_edit e ∷ cs) = ap pred (pending_later p cs)
  pending_later p (undo at ∷ cs) = ap suc (pending_later p cs)

  unless_later : (p : ℕ) (e : Edit) (es : List Edit)
      → unless_struck p (later_edit n e) (map (later_edit n) es) ≡ map (later_edit n) (unless_struck p e es)
  unless_later zero e es = refl
  unless_later (suc p) e es = refl

  live_later : (p : ℕ) (cs : List Command) → live p (map (later_command n) cs) ≡ map (later_edit n) (live p cs)
  live_later p [] = refl
  live_later p (do_edit e ∷ cs) =
      ap₂ (λ (q : ℕ) (es : List Edit). unless_struck q (later_edit n e) es) (pending_later p cs) (live_later p cs)
      ∙ unless_later (pending_before p cs) e (live p cs)
  live_later p (undo at ∷ cs) = live_later p cs

  pub struck_later : (cs : List Command) (es : List Edit) → unstruck_in cs ≡ unstruck es
      → unstruck_in (map (later_command n) cs) ≡ unstruck (map (later_edit n) es)
  struck_later cs es h =
      struck_enough (map (later_command n) cs) (pending_later 0 cs ∙ struck_pending cs es h)
      ∙ ap unstruck (live_later 0 cs ∙ ap (map (later_edit n)) (sym (struck_live cs es h)))

-- ---- the run

-- an outcome o, and p, that of the same edits n bytes later: what is accepted is the same, and a refusal returns the
-- later offset
abbrev pub SameLater : ℕ → Edited → Edited → Type 0
SameLater n o p =
    ((o.number ≡ 0) × (p ≡ o)) ⊎ ((o.number ≡ 0 → ⊥) × (p ≡ refusal o.number (n + o.value) o.list))

pub run_later : (sizes : Sizes) (pools : Pools) (n : ℕ) (list : EventList) (es : List Edit)
    → SameLater n (run sizes pools list es) (run sizes pools list (map (later_edit n) es))
unfolding run_by
run_later sizes pools n list [] = inl (refl, refl)
run_later sizes pools n list (e ∷ es) =
    let fs : List Edit = map (later_edit n) es in
    ⊎_elim
    (λ (next, does).
    rw (run_done sizes pools list e es next does, run_done sizes pools list (later_edit n e) fs next does)
    (run_later sizes pools n next es))
    (λ (number, refuses).
    rw (
      run_refused sizes pools list e es number refuses,
      run_refused sizes pools list (later_edit n e) fs number refuses,
    )
    (inr (number_apart number 0 (step_number sizes pools list e.act number refuses) tt, refl)))
    (step_or (step sizes pools list e.act))
