-- What W-214 claims holds: a script that neither 3 nor 4 refuses has a form, and its UNDOs strike its own edits; so the
-- joined script has the commands and the edits of both, and its run goes on where the first one's ended. Assumes
-- nothing.
use mathlib.Core.Path.{◌≡◌, refl, sym, ap, ◌∙◌}
use mathlib.Core.Logic.{⊎_elim}
use Prim.Native.Nat.{ℕ, ◌+◌}
use native.Mathlib.Omega.{arith}
use mathlib.Core.List.{List, ◌++◌, map}
use lib.Dec.{T}
use lib.ListN.{length}
use Rattle.eit.specs.declared.Sizes.{Sizes}
use Rattle.eit.specs.Chain.{is_chain}
use Rattle.eit.specs.Pools.{Pools, choose}
use Rattle.eit.specs.Records.{EventList, records_of}
use Rattle.eit.specs.Among.{is_among}
use Rattle.eit.specs.Events.{follows}
use Rattle.eit.specs.Overlap.{overlap}
use Rattle.eit.specs.Sound.{ids_of, sound}
use Rattle.eit.proofs.Test.{test_or}
use Rattle.script.specs.Form.{Edit, Command, Form, commands, broken, form_of}
use Rattle.script.specs.Struck.{Unstruck, unstruck, nothing_at, unstruck_in}
use Rattle.script.specs.Edit.{Edited, run, refusal, edit}
use Rattle.script.specs.JoinedScripts.{in_turn, withdrawal, EitherOrder, JoinedScripts, JoinedScriptsExamples}
use Rattle.script.proofs.Struck.{struck_joined}
use Rattle.script.proofs.Edit.{number_apart, run_append, run_number, edit_unsound, edit_broken, edit_nothing}
use Rattle.script.proofs.Edit.{edit_runs, edit_sound}
use Rattle.script.proofs.Joined.{later_edit, later_command, SameLater, form_joined, form_joined_broken}
use Rattle.script.proofs.Joined.{struck_later, run_later}
use Rattle.script.proofs.Withdrawals.{edit_withdraws, turns_accepted, turns_swap}

-- a script with its commands, and with those of its edits that are carried out
record Runs (script : List ℕ) : Type 0 where
  read : List Command
  edits : List Edit
  form : form_of script ≡ commands read
  struck : unstruck_in read ≡ unstruck edits

module _ (sizes : Sizes) (pools : Pools) (list : EventList) (script : List ℕ) where
  sound_if_accepted : (edit sizes pools list script).number ≡ 0 → T (sound sizes pools list)
  sound_if_accepted accepts =
      ⊎_elim (λ t. t)
      (λ t. let never : 12 ≡ 0 = rw (edit_unsound sizes pools list script t) at accepts in absurd (omega arith))
      (test_or (sound sizes pools list))

  module _ (t : T (sound sizes pools list)) where
    -- 3, 4, or the edits are carried out
    by_answer : (P : Type 0) → ((at : ℕ) → form_of script ≡ broken at → P)
        → ((edit sizes pools list script).number ≡ 4 → P) → (Runs script → P) → P
    by_answer P broke idle runs = formed (form_of script) refl
      where
        unstruck_or : (cs : List Command) → form_of script ≡ commands cs → (u : Unstruck) → unstruck_in cs ≡ u → P
        unstruck_or cs f (unstruck es) u = runs (record { read = cs; edits = es; form = f; struck = u })
        unstruck_or cs f (nothing_at at) u =
            idle (ap (λ (o : Edited). o.number) (edit_nothing sizes pools list script t cs at f u))

        formed : (form : Form) → form_of script ≡ form → P
        formed (commands cs) f = unstruck_or cs f (unstruck_in cs) refl
        formed (broken at) f = broke at f

    runs_unless : ((edit sizes pools list script).number ≡ 3 → ⊥) → ((edit sizes pools list script).number ≡ 4 → ⊥)
        → Runs script
    runs_unless not-3 not-4 =
        by_answer (Runs script)
        (λ at f. absurd (not-3 (ap (λ (o : Edited). o.number) (edit_broken sizes pools list script t at f))))
        (λ four. absurd (not-4 four))
        (λ runs. runs)

    broken_only : (edit sizes pools list script).number ≡ 3
        → form_of script ≡ broken (edit sizes pools list script).value
    broken_only three =
        by_answer (form_of script ≡ broken (edit sizes pools list script).value)
        (λ at f. rw (edit_broken sizes pools list script t at f) f)
        (λ four. absurd (omega arith))
        (λ runs.
        let is : edit sizes pools list script ≡ run sizes pools list runs.edits =
        edit_runs sizes pools list script t runs.read runs.edits runs.form runs.struck in
        let here : (run sizes pools list runs.edits).number ≡ 3 = ap (λ (o : Edited). o.number) (sym is) ∙ three in
        absurd
        (⊎_elim (λ ended. omega (arith, ended.0)) (λ among. number_apart _ 3 among tt here)
        (run_number sizes pools list runs.edits)))

module _ (sizes : Sizes) (pools : Pools) (list : EventList) (first second : List ℕ)
    (accepts : (edit sizes pools list first).number ≡ 0) where
  abbrev after : EventList
  after = (edit sizes pools list first).list

  list_sound : T (sound sizes pools list)
  list_sound = sound_if_accepted sizes pools list first accepts

  after_sound : T (sound sizes pools after)
  after_sound = edit_sound sizes pools list first list_sound

  first_runs : Runs first
  first_runs = runs_unless sizes pools list first list_sound (λ three. omega arith) (λ four. omega arith)

  -- the joined script and the two in turn
  joined_runs : Runs second
      → SameLater (length first) (in_turn sizes pools list first second) (edit sizes pools list (first ++ second))
  joined_runs s =
      let f : Runs first = first_runs in
      let n : ℕ = length first in
      let laters : List Edit = map (later_edit n) s.edits in
      let first_is : edit sizes pools list first ≡ run sizes pools list f.edits =
      edit_runs sizes pools list first list_sound f.read f.edits f.form f.struck in
      let second_is : in_turn sizes pools list first second ≡ run sizes pools after s.edits =
      edit_runs sizes pools after second after_sound s.read s.edits s.form s.struck in
      let commands_are = form_joined first second f.read f.form s.read s.form in
      let edits-are =
      struck_joined f.read (map (later_command n) s.read) f.edits laters f.struck
      (struck_later n s.read s.edits s.struck) in
      let both-are : edit sizes pools list (first ++ second) ≡ run sizes pools after laters =
      edit_runs sizes pools list (first ++ second) list_sound (f.read ++ map (later_command n) s.read)
      (f.edits ++ laters) commands_are edits-are
      ∙ run_append sizes pools list f.edits laters (ap (λ (o : Edited). o.number) (sym first_is) ∙ accepts)
      ∙ ap (λ (o : Edited). run sizes pools o.list laters) (sym first_is) in
      rw (both-are, second_is) (run_later sizes pools n after s.edits)

  is_joined : (in_turn sizes pools list first second).number ≡ 0
      → edit sizes pools list (first ++ second) ≡ in_turn sizes pools list first second
  is_joined zero =
      ⊎_elim (λ same. same.1) (λ other. absurd (other.0 zero))
      (joined_runs (runs_unless sizes pools after second after_sound (λ three. omega arith) (λ four. omega arith)))

  is_refused : let o = in_turn sizes pools list first second in
      (o.number ≡ 0 → ⊥) → (o.number ≡ 3 → ⊥) → (o.number ≡ 4 → ⊥)
      → edit sizes pools list (first ++ second) ≡ refusal o.number (length first + o.value) o.list
  is_refused not-0 not-3 not-4 =
      ⊎_elim (λ same. absurd (not-0 same.0)) (λ other. other.1)
      (joined_runs (runs_unless sizes pools after second after_sound not-3 not-4))

  is_broken : let o = in_turn sizes pools list first second in
      o.number ≡ 3 → edit sizes pools list (first ++ second) ≡ refusal 3 (length first + o.value) list
  is_broken three =
      let f : Runs first = first_runs in
      let at : ℕ = (in_turn sizes pools list first second).value in
      edit_broken sizes pools list (first ++ second) list_sound (length first + at)
      (form_joined_broken first second f.read f.form at (broken_only sizes pools after second after_sound three))

module _ (sizes : Sizes) (pools : Pools) (list : EventList) (a b : ℕ) (t : T (sound sizes pools list))
    (has-a : T (is_among a (ids_of (records_of list)))) (has-b : T (is_among b (ids_of (records_of list))))
    (differ : a ≡ b → ⊥) where
  abbrev differ_too : b ≡ a → ⊥
  differ_too e = differ (sym e)

  accepted : (id : ℕ) → T (is_among id (ids_of (records_of list))) → (edit sizes pools list (withdrawal id)).number ≡ 0
  accepted id has = ap (λ (o : Edited). o.number) (edit_withdraws sizes pools list t id has)

  two_withdrawals : EitherOrder sizes pools list a b
  two_withdrawals =
      let ab-accepted = turns_accepted sizes pools list t a b has-a has-b differ in
      let ba-accepted = turns_accepted sizes pools list t b a has-b has-a differ_too in
      let ab = is_joined sizes pools list (withdrawal a) (withdrawal b) (accepted a has-a) ab-accepted in
      let ba = is_joined sizes pools list (withdrawal b) (withdrawal a) (accepted b has-b) ba-accepted in
      let swap = turns_swap sizes pools list t a b has-a has-b differ in
      record {
        a_accepted = accepted a has-a;
        b_accepted = accepted b has-b;
        both_accepted = ap (λ (o : Edited). o.number) ab ∙ ab-accepted;
        one_script = ba ∙ sym swap ∙ sym ab;
        a_then_b = sym ab;
        b_then_a = sym swap ∙ sym ab;
      }

pub joined_scripts : JoinedScripts
joined_scripts =
    record {
      joined = is_joined;
      refused_alike = is_refused;
      broken_alike = is_broken;
      withdrawals = two_withdrawals;
    }

pub joined_scripts_examples : JoinedScriptsExamples
unfolding edit form_of unstruck_in sound records_of follows overlap choose is_chain
joined_scripts_examples =
    record {
      undo_joined = (refl, refl);
      undo_in_turn = (refl, refl);
      first_refused = (refl, refl);
      first_struck = (refl, refl);
      first_truncated = (refl, refl);
      second_refused = (refl, refl);
      second_broken = (refl, refl);
      same_pools = (refl, refl);
      other_pools = (refl, refl);
      either_order = (refl, refl);
      absent_id = (refl, refl);
      same_id = refl;
    }
