-- A script of one PUT that Edit accepts leaves the list with that event among the others: by the form of its bytes, and
-- by what an accepted PUT has passed. Assumes nothing.
use mathlib.Core.Path.{◌≡◌, refl, sym, ap, subst, ◌∙◌}
use mathlib.Core.Logic.{⊎_elim}
use Prim.Native.Nat.{ℕ, ◌+◌}
use native.Mathlib.Omega.{arith}
use mathlib.Core.List.{List, [], ◌∷◌, map}
use lib.Dec.{T, le→leb, T_not}
use lib.ListN.{length, drop_of_length-le}
use Rattle.eit.specs.declared.Sizes.{Sizes}
use Rattle.eit.specs.Among.{is_among}
use Rattle.eit.specs.Chain.{is_chain}
use Rattle.eit.specs.Pools.{Pools, pool_of}
use Rattle.eit.specs.Records.{EventList, records_of}
use Rattle.eit.specs.Events.{Event, event_of, events_in}
use Rattle.eit.specs.Overlap.{overlaps_one}
use Rattle.eit.specs.Sound.{starts_of, sound, events_of}
use Rattle.eit.specs.declared.Record.{Record}
use Rattle.eit.proofs.Pools.{part_length, choose_part}
use Rattle.eit.proofs.Sound.{range_facts, sound_list, chain_facts}
use Rattle.script.specs.Form.{put, Edit, do_edit, commands, before, put_record, command_of, form_from, form_of}
use Rattle.script.specs.Struck.{unstruck, unstruck_in}
use Rattle.script.specs.Machine.{step}
use Rattle.script.specs.Edit.{Edited, run_by, run, edit}
use Rattle.script.proofs.Form.{form_whole}
use Rattle.script.proofs.Steps.{step_or, step_number}
use Rattle.script.proofs.Machine.{PutDone, put_done, put_records}
use Rattle.script.proofs.Edit.{number_apart, run_done, run_refused, edit_runs}
use Rattle.script.proofs.EqualStart.{equal_overlaps}
use Rattle.room.specs.OneMore.{inserted, is_taken}
use Rattle.room.proofs.OneMore.{inserted_records}

-- the script's one edit
abbrev one_put : List ℕ → Edit
one_put operands = record { at = 0; act = put (put_record operands) }

put_form : (operands : List ℕ) → length operands ≡ 17
    → form_of (0x01 ∷ operands) ≡ commands (do_edit (one_put operands) ∷ [])
unfolding form_of
put_form operands whole =
    form_whole 0x01 0 operands (le→leb 17 (length operands) (omega arith))
    ∙ ap (λ (bs : List ℕ). before (command_of 0x01 0 operands) (form_from 0 (0 + 1 + 17) bs))
    (drop_of_length-le operands {i = 17} (omega arith))

put_unstruck : (operands : List ℕ) → unstruck_in (do_edit (one_put operands) ∷ []) ≡ unstruck (one_put operands ∷ [])
unfolding unstruck_in
put_unstruck operands = refl

module _ (sizes : Sizes) (pools : Pools) (list : EventList) (operands : List ℕ) (whole : length operands ≡ 17)
    (is_sound_holds : T (sound sizes pools list)) where
  abbrev r : Record
  r = put_record operands

  edit_is : edit sizes pools list (0x01 ∷ operands) ≡ run sizes pools list (one_put operands ∷ [])
  edit_is =
      edit_runs sizes pools list (0x01 ∷ operands) is_sound_holds (do_edit (one_put operands) ∷ []) (one_put operands ∷ [])
      (put_form operands whole) (put_unstruck operands)

  -- what an accepted one has passed, and the list that it leaves
  pub accepted_put : (edit sizes pools list (0x01 ∷ operands)).number ≡ 0
      → PutDone sizes pools list r (edit sizes pools list (0x01 ∷ operands)).list
  unfolding run_by
  accepted_put accepts =
      ⊎_elim
      (λ (next, does).
      let left : (edit sizes pools list (0x01 ∷ operands)).list ≡ next =
      ap (λ (o : Edited). o.list) (edit_is ∙ run_done sizes pools list (one_put operands) [] next does) in
      subst (PutDone sizes pools list r) (sym left) (put_done sizes pools list r next does))
      (λ (number, refuses).
      let same : (edit sizes pools list (0x01 ∷ operands)).number ≡ number =
      ap (λ (o : Edited). o.number) (edit_is ∙ run_refused sizes pools list (one_put operands) [] number refuses) in
      absurd (number_apart number 0 (step_number sizes pools list (put r) number refuses) tt (sym same ∙ accepts)))
      (step_or (step sizes pools list (put r)))

  -- its events
  pub put_events : {next : EventList} → PutDone sizes pools list r next
      → events_of pools next ≡ inserted (event_of pools r) (events_of pools list)
  unfolding events_of
  put_events done-put =
      ap (λ (l : EventList). events_in pools (records_of l)) done-put.after
      ∙ ap (events_in pools) (put_records list r)
      ∙ inserted_records pools r (records_of list)

  -- the event's chain is a chain, as long as the operand says
  pub put_chain : {next : EventList} → PutDone sizes pools list r next
      → T (is_chain (event_of pools r).chain) × (length (event_of pools r).chain ≡ r.chain_length)
  put_chain done-put =
      let (inside, chain) = chain_facts pools r done-put.chain in (
        chain,
        ap length (choose_part pools r.marks r.offset r.chain_length)
            ∙ part_length (pool_of pools r.marks) r.offset r.chain_length
            (le→leb (r.offset + r.chain_length) (length (pool_of pools r.marks)) inside),
      )

  -- its start was not taken
  starts_same : (rs : List Record) → map (λ (e : Event). e.start) (events_in pools rs) ≡ starts_of rs
  starts_same [] = refl
  starts_same (s ∷ rs) = ap (λ (ns : List ℕ). s.start ∷ ns) (starts_same rs)

  pub put_free : {next : EventList} → PutDone sizes pools list r next → T (is_taken r.start (events_of pools list)) → ⊥
  unfolding events_of
  put_free done-put taken =
      let rs : List Record = records_of list in
      T_not (overlaps_one r rs) done-put.apart
      (equal_overlaps pools r rs (range_facts r done-put.range).duration_low
      (sound_list sizes pools list is_sound_holds).records.valid
      (subst (λ (ns : List ℕ). T (is_among r.start ns)) (starts_same rs) taken))
