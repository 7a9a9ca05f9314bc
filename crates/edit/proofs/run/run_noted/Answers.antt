-- `run_noted` meets its contract: the places left in the set are those of the live edits, the index that is made stands
-- for the list, and what is written back is what it stands for in the end. Assumes nothing.
use Rattle.std.proofs.Common.{◌≡◌, ℕ, List, T, length, take, arith, refl}
use mathlib.Core.Path.{sym, ap, ◌∙◌, subst}
use lib.ListN.{replicate, length-take, length-replicate, get_or-replicate}
use Rattle.eit.specs.Records.{EventList}
use Rattle.eit.specs.Sizes.{sizes_of}
use Rattle.eit.specs.Sound.{sound}
use Rattle.eit.proofs.Numbers.{caller_few}
use Rattle.script.specs.Form.{Command}
use Rattle.edit_answer.specs.Outcome.{outcome_of}
use Rattle.edit_scan.specs.Commands.{commands_at}
use Rattle.edit_scan.specs.Places.{LivePlaces}
use Rattle.edit_scan.proofs.LiveLaws.{live_marked_holds}
use Rattle.edit_index.specs.Index.{Holds, emptied}
use Rattle.edit_index.specs.Index.{Index}
use Rattle.edit_index.proofs.LoadLaws.{holds_none, stored_is}
use Rattle.edit.specs.Run.{run_part}
use Rattle.edit.proofs.SoundLaws.{made_holds, made_fits, made_stands}
use Rattle.edit.proofs.run.run_noted.Goals as goal

-- the index as it is begun
abbrev begun : Index
begun =
    record {
      slots = replicate {A = ℕ} 12_288 0;
      order = replicate {A = ℕ} 2_048 0;
      ids = replicate {A = ℕ} 65_536 65_535;
      count = 0;
    }

none : Holds (emptied begun)
none =
    holds_none begun (length-replicate {A = ℕ} 12_288 0) (length-replicate {A = ℕ} 2_048 0)
    (length-replicate {A = ℕ} 65_536 65_535)
    (λ id small. get_or-replicate {A = ℕ} 65_536 id 65_535 65_535 small)

pub run_indexed-ran-requires : goal.run_indexed-ran-requires
run_indexed-ran-requires c =
    let a = c.args in
    let list = a.list.now in
    let sizes = sizes_of a.caller in (
      subst (λ (list : EventList). T (sound sizes a.pools.now list))
          (sym (made_stands sizes a.pools.now list a.count.now (caller_few a.caller) c.requires.0 (emptied begun) none refl
          c.load.new.self c.load.ensures))
          c.requires.0,
      c.requires.1,
      c.requires.2,
      made_holds sizes a.pools.now list a.count.now (caller_few a.caller) c.requires.0 (emptied begun) none refl
          c.load.new.self c.load.ensures,
      made_fits sizes a.pools.now list a.count.now (caller_few a.caller) c.requires.0 (emptied begun) none refl
          c.load.new.self c.load.ensures,
    )

pub returns : goal.returns
returns c =
    let a = c.args in
    let list = a.list.now in
    let sizes = sizes_of a.caller in
    let cs : List Command = take a.k (commands_at a.at a.script.now) in
    let size : length cs ≡ a.k = simp length-take (omega (arith, c.requires.1)) in
    let lives : LivePlaces c.mark_live.new.places a.undos cs =
    subst (λ (places : List ℕ). LivePlaces places a.undos cs) (sym c.mark_live.ensures)
    (live_marked_holds a.noted.now a.undos a.k cs c.requires.5 size c.requires.4) in
    let ran = c.run_indexed-ran.ensures in
    let end = c.run_indexed-ran.new in
    rw c.count.ensures
    (ap (λ (list : EventList). run_part sizes a.pools.now list a.undos a.k a.at a.script.now)
    (sym (made_stands sizes a.pools.now list a.count.now (caller_few a.caller) c.requires.0 (emptied begun) none refl
    c.load.new.self c.load.ensures))
    ∙ ran.0 a.undos lives
    ∙ ap (outcome_of c.run_indexed-ran.result end.index.count)
    (sym (c.store.ensures ∙ stored_is end.list end.index ran.1 ran.2)))
