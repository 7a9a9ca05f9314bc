-- Two withdrawals of different ids that a sound list has: accepted, and in either order the same list. The records
-- that are left are the same (`without_swap`), and behind them stand two records of zeros. Assumes nothing.
use mathlib.Core.Path.{◌≡◌, refl, sym, ap, ap₂, ◌∙◌}
use mathlib.Core.Logic.{⊎_elim}
use mathlib.Core.Bool.{not}
use Prim.Native.Nat.{ℕ, ◌-◌, ◌^◌, ◌<◌}
use native.Mathlib.Omega.{arith}
use mathlib.Core.List.{List, [], ◌∷◌, ◌++◌, append_assoc}
use lib.Dec.{T, eqb, eqb→eq}
use lib.ListN.{length, length-append}
use Rattle.eit.specs.declared.Sizes.{Sizes}
use Rattle.eit.specs.Overwrite.{overwrite}
use Rattle.eit.specs.Pools.{Pools}
use Rattle.eit.specs.Records.{EventList, records_of, numbers_of_all}
use Rattle.eit.specs.Among.{is_among}
use Rattle.eit.specs.Sound.{ids_of, sound}
use Rattle.eit.specs.declared.Record.{Record}
use Rattle.eit.proofs.Test.{ne_test, or_left, or_right, test_or}
use Rattle.eit.proofs.Overwrite.{over_part}
use Rattle.eit.proofs.Records.{numbers_append, numbers_length}
use Rattle.eit.proofs.Sound.{sound_list, range_facts}
use Rattle.script.specs.Form.{Edit, do_edit, withdraw}
use Rattle.script.specs.Struck.{unstruck_in}
use Rattle.script.specs.Machine.{find, without, zero_record, written, after_withdraw}
use Rattle.script.specs.Edit.{Edited, run_by, edit}
use Rattle.script.specs.JoinedScripts.{in_turn, withdrawal}
use Rattle.script.proofs.Form.{form_back}
use Rattle.script.proofs.Placing.{without_here, without_later, without_length, among_later, find_id, find_valid}
use Rattle.script.proofs.Steps.{withdraw_passes}
use Rattle.script.proofs.Machine.{withdraw_records, step_sound}
use Rattle.script.proofs.Edit.{run_done, edit_runs}

-- ---- the records that are left

module _ (a b : ℕ) (differ : a ≡ b → ⊥) where
  -- a record that has the one id does not have the other
  other_id : (n : ℕ) → T (eqb a n) → T (not (eqb b n))
  other_id n t = ne_test b n (λ e. differ (eqb→eq a n t ∙ sym e))

  pub without_keeps : (rs : List Record) → T (is_among a (ids_of rs)) → T (is_among a (ids_of (without b rs)))
  without_keeps [] h = absurd h
  without_keeps (r ∷ rs) h =
      ⊎_elim
      (λ here.
      rw (without_later b r rs (other_id r.id here))
      (or_left (eqb a r.id) (is_among a (ids_of (without b rs))) here))
      (λ there.
      let later : T (is_among a (ids_of rs)) = among_later a r rs there h in
      ⊎_elim (λ t. rw (without_here b r rs t) later)
      (λ t.
      rw (without_later b r rs t)
      (or_right (eqb a r.id) (is_among a (ids_of (without b rs))) (without_keeps rs later)))
      (test_or (eqb b r.id)))
      (test_or (eqb a r.id))

pub without_swap : (a b : ℕ) → (a ≡ b → ⊥) → (rs : List Record) → without b (without a rs) ≡ without a (without b rs)
without_swap a b differ [] = refl
without_swap a b differ (r ∷ rs) =
    ⊎_elim
    (λ has-a.
    rw (
      without_here a r rs has-a,
      without_later b r rs (other_id a b differ r.id has-a),
      without_here a r (without b rs) has-a,
    ))
    (λ no-a.
    ⊎_elim
    (λ has-b. rw (without_later a r rs no-a, without_here b r rs has-b, without_here b r (without a rs) has-b))
    (λ no-b.
    rw (
      without_later a r rs no-a,
      without_later b r rs no-b,
      without_later a r (without b rs) no-a,
      without_later b r (without a rs) no-b,
    )
    (ap (λ (ss : List Record). r ∷ ss) (without_swap a b differ rs)))
    (test_or (eqb b r.id)))
    (test_or (eqb a r.id))

-- ---- the list

-- both records are taken out, and behind the others stand two of zeros
withdraw_both : (list : EventList) (a b : ℕ) → (a ≡ b → ⊥) → T (is_among a (ids_of (records_of list)))
    → T (is_among b (ids_of (records_of list)))
    → after_withdraw (after_withdraw list a) b
    ≡ written list (without b (without a (records_of list)) ++ (zero_record ∷ zero_record ∷ [])) (list.count - 1 - 1)
withdraw_both list a b differ has-a has-b =
    let others : List Record = without a (records_of list) in
    let left : List Record = without b others in
    let zeros : List Record = zero_record ∷ [] in
    let same : length (numbers_of_all others) ≡ length (numbers_of_all (left ++ zeros)) =
    omega (
      arith,
      numbers_length others,
      numbers_length (left ++ zeros),
      length-append left zeros,
      without_length b others (without_keeps b a (λ e. differ (sym e)) (records_of list) has-b),
    ) in
    let buffer : (after_withdraw (after_withdraw list a) b).buffer
    ≡ overwrite list.buffer 0 (numbers_of_all (left ++ (zero_record ∷ zero_record ∷ []))) =
    ap₂
    (λ (ns : List ℕ) (rs : List Record).
    overwrite (overwrite list.buffer 0 ns) 0 (numbers_of_all (without b rs ++ zeros)))
    (numbers_append others zeros) (withdraw_records list a has-a)
    ∙ over_part list.buffer 0 (numbers_of_all others) (numbers_of_all (left ++ zeros)) (numbers_of_all zeros) same
    (omega arith)
    ∙ ap (overwrite list.buffer 0)
    (sym (numbers_append (left ++ zeros) zeros) ∙ ap numbers_of_all (append_assoc left zeros zeros)) in
    λ i. record { buffer = buffer i; count = list.count - 1 - 1 }

withdraw_swap : (list : EventList) (a b : ℕ) → (a ≡ b → ⊥) → T (is_among a (ids_of (records_of list)))
    → T (is_among b (ids_of (records_of list)))
    → after_withdraw (after_withdraw list a) b ≡ after_withdraw (after_withdraw list b) a
withdraw_swap list a b differ has-a has-b =
    let zeros : List Record = zero_record ∷ zero_record ∷ [] in
    withdraw_both list a b differ has-a has-b
    ∙ ap (λ (left : List Record). written list (left ++ zeros) (list.count - 1 - 1))
    (without_swap a b differ (records_of list))
    ∙ sym (withdraw_both list b a (λ e. differ (sym e)) has-b has-a)

-- ---- the calls

module _ (sizes : Sizes) (pools : Pools) (list : EventList) (t : T (sound sizes pools list)) where
  id_fits : (id : ℕ) → T (is_among id (ids_of (records_of list))) → id < 256 ^ 2
  id_fits id has =
      let rs : List Record = records_of list in
      let was = find_valid pools id rs has (sound_list sizes pools list t).records.valid in
      omega (arith, (range_facts (find id rs) was.0).id, find_id id rs has)

  module _ (id : ℕ) (has : T (is_among id (ids_of (records_of list)))) where
    pub edit_withdraws : edit sizes pools list (withdrawal id)
        ≡ record { number = 0; value = list.count - 1; list = after_withdraw list id }
    unfolding unstruck_in run_by
    edit_withdraws =
        let e : Edit = record { at = 0; act = withdraw id } in
        edit_runs sizes pools list (withdrawal id) t (do_edit e ∷ []) (e ∷ [])
        (form_back (do_edit e ∷ []) (refl, id_fits id has, tt)) refl
        ∙ run_done sizes pools list e [] (after_withdraw list id) (withdraw_passes sizes pools list id has)

    withdrawn_sound : T (sound sizes pools (after_withdraw list id))
    withdrawn_sound =
        step_sound sizes pools list (withdraw id) (after_withdraw list id) (withdraw_passes sizes pools list id has) t

module _ (sizes : Sizes) (pools : Pools) (list : EventList) (t : T (sound sizes pools list)) where
  in_turn_holds : (a b : ℕ) → T (is_among a (ids_of (records_of list))) → T (is_among b (ids_of (records_of list))) → (a ≡ b → ⊥)
      → in_turn sizes pools list (withdrawal a) (withdrawal b)
      ≡ record { number = 0; value = list.count - 1 - 1; list = after_withdraw (after_withdraw list a) b }
  in_turn_holds a b has-a has-b differ =
      let still : T (is_among b (ids_of (records_of (after_withdraw list a)))) =
      rw (withdraw_records list a has-a) (without_keeps b a (λ e. differ (sym e)) (records_of list) has-b) in
      ap (λ (o : Edited). edit sizes pools o.list (withdrawal b)) (edit_withdraws sizes pools list t a has-a)
      ∙ edit_withdraws sizes pools (after_withdraw list a) (withdrawn_sound sizes pools list t a has-a) b still

  module _ (a b : ℕ) (has-a : T (is_among a (ids_of (records_of list)))) (has-b : T (is_among b (ids_of (records_of list))))
      (differ : a ≡ b → ⊥) where
    pub turns_accepted : (in_turn sizes pools list (withdrawal a) (withdrawal b)).number ≡ 0
    turns_accepted = ap (λ (o : Edited). o.number) (in_turn_holds a b has-a has-b differ)

    pub turns_swap : in_turn sizes pools list (withdrawal a) (withdrawal b)
        ≡ in_turn sizes pools list (withdrawal b) (withdrawal a)
    turns_swap =
        in_turn_holds a b has-a has-b differ
        ∙ (λ i. record {
          number = 0;
          value = list.count - 1 - 1;
          list = withdraw_swap list a b differ has-a has-b i;
        })
        ∙ sym (in_turn_holds b a has-b has-a (λ e. differ (sym e)))
