-- A script has the form of some commands exactly if it is their bytes: by induction over the bytes, where the operands
-- of a command that has begun are skipped (`form_skip`), so that each step is a whole command.
--
-- In order: the equations of `form_from` that a reader expects; back (the bytes of commands are read as these commands);
-- forth (bytes that are read as commands are the bytes of these); offsets. Assumes nothing.
use mathlib.Core.Path.{◌≡◌, refl, ap, ap₂, ◌∙◌}
use mathlib.Core.Bool.{not}
use mathlib.Core.Logic.{⊎_elim}
use mathlib.Core.List.Memᴰ
use mathlib.Core.List.{List, [], ◌∷◌, ◌++◌, Memᴰ}
use Prim.Native.Nat.{ℕ, zero, suc, ◌+◌, ◌≤◌, ◌<◌}
use native.Mathlib.Nat.{zero-add}
use native.Mathlib.Omega.{arith}
use lib.Dec.{T, leb, leb→le, le→leb}
use lib.ListN.{length, take, drop, length-append, take-append-drop}
use lib.Seq.{drop_at, take-add, length-take-le}
use Rattle.eit.specs.Fields.{Bytes, big_endian, field}
use Rattle.eit.specs.declared.Record.{Record}
use Rattle.eit.proofs.Fields.{value_back, field_fits, field_forth}
use Rattle.eit.proofs.Test.{and_left, and_right, and_both, true_is, false_is, test_or}
use Rattle.script.specs.Form.{Act, put, withdraw, move, Command, do_edit, undo, put_record, is_command, operand_bytes}
use Rattle.script.specs.Form.{command_of, is_whole, Form, commands, broken, before, form_from, form_of, offset_of}
use Rattle.script.specs.Encode.{put_bytes, act_bytes, command_bytes, script_bytes, PutFits, ActFits, CommandFits}
use Rattle.script.specs.Encode.{Placed}

-- ---- the equations that a reader expects

-- operands are skipped
pub form_skip : (k at : ℕ) (bs : List ℕ) → k ≤ length bs → form_from k at bs ≡ form_from 0 (k + at) (drop k bs)
form_skip zero at bs h = rw zero-add
form_skip (suc k) at [] h = absurd (omega arith)
form_skip (suc k) at (b ∷ bs) h =
    let e : k + suc at ≡ suc k + at = omega arith in
    rw (← e) (form_skip k (suc at) bs (omega arith))

pub form_end : (at : ℕ) → form_from 0 at [] ≡ commands []
form_end at = refl

pub whole_room : (code : ℕ) (bs : List ℕ) → T (is_whole code bs) → operand_bytes code ≤ length bs
whole_room code bs whole =
    leb→le (operand_bytes code) (length bs) (and_right (is_command code) (leb (operand_bytes code) (length bs)) whole)

pub form_whole : (code at : ℕ) (bs : List ℕ)
    → T (is_whole code bs)
    → form_from 0 at (code ∷ bs)
    ≡ before (command_of code at bs) (form_from 0 (at + 1 + operand_bytes code) (drop (operand_bytes code) bs))
form_whole code at bs whole =
    let next : operand_bytes code + suc at ≡ at + 1 + operand_bytes code = omega arith in
    rw (
      form_from,
      true_is (is_whole code bs) whole,
      form_skip (operand_bytes code) (suc at) bs (whole_room code bs whole),
      next,
    )

pub form_broken : (code at : ℕ) (bs : List ℕ) → T (not (is_whole code bs)) → form_from 0 at (code ∷ bs) ≡ broken at
form_broken code at bs t = rw (form_from, false_is (is_whole code bs) t)

-- ---- back

-- a command's byte and operands in front of a script
form_command : (code at : ℕ) (bs rest : List ℕ) (c : Command)
    → T (is_command code)
    → length bs ≡ operand_bytes code
    → command_of code at (bs ++ rest) ≡ c
    → form_from 0 at (code ∷ bs ++ rest) ≡ before c (form_from 0 (at + length (code ∷ bs)) rest)
form_command code at bs rest c known width e =
    let room : operand_bytes code ≤ length (bs ++ rest) = rw length-append (omega arith) in
    let whole : T (is_whole code (bs ++ rest)) = and_both (is_command code) _ known (le→leb (operand_bytes code) _ room) in
    let next : at + 1 + operand_bytes code ≡ at + length (code ∷ bs) = omega arith in
    form_whole code at (bs ++ rest) whole ∙ rw (e, next, drop_at bs rest (operand_bytes code) width)

put_back : (r : Record) (rest : List ℕ) → PutFits r → put_record (put_bytes r ++ rest) ≡ r
put_back r rest h =
    λ i. record {
      id = value_back 2 r.id h.id i;
      start = value_back 4 r.start h.start i;
      duration = value_back 4 r.duration h.duration i;
      marks = value_back 1 r.marks h.marks i;
      offset = value_back 4 r.offset h.offset i;
      chain_length = value_back 2 r.chain_length h.chain_length i;
    }

act_back : (at : ℕ) (a : Act) (rest : List ℕ)
    → ActFits a
    → form_from 0 at (act_bytes a ++ rest)
    ≡ before (do_edit (record { at = at; act = a })) (form_from 0 (at + length (act_bytes a)) rest)
act_back at (put r) rest h =
    form_command 0x01 at (put_bytes r) rest (do_edit (record { at = at; act = put r })) tt refl
    (ap (λ (s : Record). do_edit (record { at = at; act = put s })) (put_back r rest h))
act_back at (withdraw id) rest h =
    form_command 0x02 at (big_endian 2 id) rest (do_edit (record { at = at; act = withdraw id })) tt refl
    (ap (λ (n : ℕ). do_edit (record { at = at; act = withdraw n })) (value_back 2 id h))
act_back at (move id start) rest h =
    form_command 0x03 at (big_endian 2 id ++ big_endian 4 start) rest (do_edit (record { at = at; act = move id start }))
    tt refl
    (ap₂ (λ (m n : ℕ). do_edit (record { at = at; act = move m n })) (value_back 2 id h.0)
    (value_back 4 start h.1))

pub command_back : (at : ℕ) (c : Command) (rest : List ℕ)
    → offset_of c ≡ at
    → CommandFits c
    → form_from 0 at (command_bytes c ++ rest) ≡ before c (form_from 0 (at + length (command_bytes c)) rest)
command_back at (do_edit e) rest here h = rw (← here) (act_back e.at e.act rest h)
command_back at (undo there) rest here h = rw (← here) (form_command 0x04 there [] rest (undo there) tt refl refl)

back_from : (at : ℕ) (cs : List Command) → Placed at cs → form_from 0 at (script_bytes cs) ≡ commands cs
back_from at [] h = refl
back_from at (c ∷ cs) h =
    command_back at c (script_bytes cs) h.0 h.1
    ∙ ap (before c) (back_from (at + length (command_bytes c)) cs h.2)

-- the form of some commands' bytes is these commands
pub form_back : (cs : List Command) → Placed 0 cs → form_of (script_bytes cs) ≡ commands cs
unfolding form_of
form_back cs h = back_from 0 cs h

-- ---- forth

-- the known commands are four
pub by_code : (P : ℕ → Type 0) → P 0x01 → P 0x02 → P 0x03 → P 0x04 → (code : ℕ) → T (is_command code) → P code
by_code P one two three four zero t = absurd t
by_code P one two three four (suc zero) t = one
by_code P one two three four (suc (suc zero)) t = two
by_code P one two three four (suc (suc (suc zero))) t = three
by_code P one two three four (suc (suc (suc (suc zero)))) t = four
by_code P one two three four (suc (suc (suc (suc (suc n))))) t =
    let code : ℕ = suc (suc (suc (suc (suc n)))) in
    absurd (omega (arith, leb→le code _ (and_right (leb 1 code) _ t)))

module _ (bs : List ℕ) (bytes : Bytes bs) where
  put_forth : 17 ≤ length bs → put_bytes (put_record bs) ≡ take 17 bs
  put_forth h =
      (λ i.
      field_forth bs bytes 0 2 (omega arith) i
      ++ field_forth bs bytes 2 4 (omega arith) i
      ++ field_forth bs bytes 6 4 (omega arith) i
      ++ field_forth bs bytes 10 1 (omega arith) i
      ++ field_forth bs bytes 11 4 (omega arith) i
      ++ field_forth bs bytes 15 2 (omega arith) i)
      ∙ rw (← take-add 2 4 bs, ← take-add 6 4 bs, ← take-add 10 1 bs, ← take-add 11 4 bs, ← take-add 15 2 bs)

  move_forth : 6 ≤ length bs → big_endian 2 (field 0 2 bs) ++ big_endian 4 (field 2 4 bs) ≡ take 6 bs
  move_forth h =
      (λ i. field_forth bs bytes 0 2 (omega arith) i ++ field_forth bs bytes 2 4 (omega arith) i)
      ∙ rw (← take-add 2 4 bs)

  -- what a command with all its operands is
  Forth : ℕ → ℕ → Type 0
  Forth at code =
      let c : Command = command_of code at bs in
      T (is_whole code bs) → (offset_of c ≡ at) × CommandFits c × (command_bytes c ≡ code ∷ take (operand_bytes code) bs)

  command_forth : (at code : ℕ) → T (is_command code) → Forth at code
  unfolding Forth
  command_forth at = by_code (Forth at) put_case withdraw_case move_case (λ whole. (refl, tt, refl))
    where
      put_case : Forth at 0x01
      put_case whole =
          let h : 17 ≤ length bs = whole_room 0x01 bs whole in
          let fits : PutFits (put_record bs) =
          record {
            id = field_fits bs bytes 0 2 (omega arith);
            start = field_fits bs bytes 2 4 (omega arith);
            duration = field_fits bs bytes 6 4 (omega arith);
            marks = field_fits bs bytes 10 1 (omega arith);
            offset = field_fits bs bytes 11 4 (omega arith);
            chain_length = field_fits bs bytes 15 2 (omega arith);
          } in
          (refl, fits, ap (λ (operands : List ℕ). 0x01 ∷ operands) (put_forth h))

      withdraw_case : Forth at 0x02
      withdraw_case whole =
          let h : 2 ≤ length bs = whole_room 0x02 bs whole in
          (refl, field_fits bs bytes 0 2 h, ap (λ (operands : List ℕ). 0x02 ∷ operands) (field_forth bs bytes 0 2 h))

      move_case : Forth at 0x03
      move_case whole =
          let h : 6 ≤ length bs = whole_room 0x03 bs whole in (
            refl,
            (field_fits bs bytes 0 2 (omega arith), field_fits bs bytes 2 4 h),
            ap (λ (operands : List ℕ). 0x03 ∷ operands) (move_forth h),
          )

pub before_only : (c : Command) (form : Form) (cs : List Command)
    → before c form ≡ commands cs
    → (ds : List Command) × (form ≡ commands ds) × (cs ≡ c ∷ ds)
before_only c (commands ds) cs h = (ds, refl, cc)
before_only c (broken at) cs h = let never : ◌≡◌ {A = ℕ} 0 1 = cc in absurd (omega arith)

-- a command in front of a script that is the bytes of its commands
forth_before : (code at k : ℕ) (bs : List ℕ) (c : Command) (cs : List Command)
    → k ≤ length bs
    → (offset_of c ≡ at) × CommandFits c × (command_bytes c ≡ code ∷ take k bs)
    → Placed (k + suc at) cs × (script_bytes cs ≡ drop k bs)
    → Placed at (c ∷ cs) × (script_bytes (c ∷ cs) ≡ code ∷ bs)
forth_before code at k bs c cs h first rest =
    let wide : length (command_bytes c) ≡ suc k = ap length first.2 ∙ ap suc (length-take-le k bs h) in
    let next : k + suc at ≡ at + length (command_bytes c) = omega arith in (
      (first.0, first.1, rw next at rest.0),
      ap₂ (λ (xs ys : List ℕ). xs ++ ys) first.2 rest.1 ∙ ap (λ (l : List ℕ). code ∷ l) (take-append-drop k bs),
    )

forth_from : (skip at : ℕ) (bs : List ℕ) (cs : List Command)
    → Bytes bs
    → skip ≤ length bs
    → form_from skip at bs ≡ commands cs
    → Placed (skip + at) cs × (script_bytes cs ≡ drop skip bs)
unfolding Forth
forth_from zero at [] cs bytes room h = let none : [] ≡ cs = cc in rw (← none) (tt, refl)
forth_from (suc skip) at [] cs bytes room h = absurd (omega arith)
forth_from (suc skip) at (b ∷ bs) cs bytes room h =
    let next : skip + suc at ≡ suc skip + at = omega arith in
    rw next at (forth_from skip (suc at) bs cs bytes.1 (omega arith) h)
forth_from zero at (code ∷ bs) cs bytes room h =
    ⊎_elim
    (λ whole.
    let k : ℕ = operand_bytes code in
    let c : Command = command_of code at bs in
    let all : k ≤ length bs = whole_room code bs whole in
    let read : before c (form_from k (suc at) bs) ≡ commands cs = rw (form_from, true_is (is_whole code bs) whole) at h in
    let (ds, tail, split) = before_only c (form_from k (suc at) bs) cs read in
    let first = command_forth bs bytes.1 at code (and_left (is_command code) (leb k (length bs)) whole) whole in
    rw (zero-add, split) (forth_before code at k bs c ds all first (forth_from k (suc at) bs ds bytes.1 all tail)))
    (λ t. let never : ◌≡◌ {A = ℕ} 0 1 = cc (form_broken code at bs t) in absurd (omega arith))
    (test_or (is_whole code bs))

-- a script with a form is the bytes of its commands, whose fields fit and whose offsets are where they stand
pub form_forth : (script : List ℕ) (cs : List Command)
    → Bytes script
    → form_of script ≡ commands cs
    → Placed 0 cs × (script_bytes cs ≡ script)
unfolding form_of
form_forth script cs bytes h = forth_from 0 0 script cs bytes (omega arith) h

-- ---- offsets

offset_command : (at : ℕ) (bs : List ℕ) (code : ℕ) → T (is_command code) → offset_of (command_of code at bs) ≡ at
offset_command at bs = by_code (λ code. offset_of (command_of code at bs) ≡ at) refl refl refl refl

abbrev Below : ℕ → Form → Type 0
Below n (commands cs) = (c : Command) → Memᴰ c cs → offset_of c < n
Below n (broken at) = at < n

below_before : (n : ℕ) (c : Command) (form : Form) → offset_of c < n → Below n form → Below n (before c form)
below_before n c (commands cs) h below = λ d m. ⊎_elim (λ e. rw e h) (below d) (Memᴰ.cases_cons m)
below_before n c (broken at) h below = omega (arith, below)

form_below : (skip at : ℕ) (bs : List ℕ) → Below (at + length bs) (form_from skip at bs)
form_below zero at [] = λ c m. absurd (Memᴰ.not-nil m)
form_below (suc skip) at [] = λ c m. absurd (Memᴰ.not-nil m)
form_below (suc skip) at (b ∷ bs) =
    let next : suc at + length bs ≡ at + length (b ∷ bs) = omega arith in
    rw next at (form_below skip (suc at) bs)
form_below zero at (code ∷ bs) =
    let k : ℕ = operand_bytes code in
    let n : ℕ = at + length (code ∷ bs) in
    let next : suc at + length bs ≡ n = omega arith in
    let rest : Below n (form_from k (suc at) bs) = rw next at (form_below k (suc at) bs) in
    ⊎_elim
    (λ whole.
    let same = offset_command at bs code (and_left (is_command code) (leb k (length bs)) whole) in
    rw (form_from, true_is (is_whole code bs) whole)
    (below_before n (command_of code at bs) (form_from k (suc at) bs) (omega arith) rest))
    (λ t. rw (form_broken code at bs t) (omega arith)) (test_or (is_whole code bs))

-- an offset is one of the script
pub form_offset : (script : List ℕ) (cs : List Command) (c : Command)
    → form_of script ≡ commands cs
    → Memᴰ c cs
    → offset_of c < length script
unfolding form_of
form_offset script cs c h m =
    let below : Below (length script) (commands cs) = rw (zero-add, h) at (form_below 0 0 script) in
    below c m

pub broken_offset : (script : List ℕ) (at : ℕ) → form_of script ≡ broken at → at < length script
unfolding form_of
broken_offset script at h =
    let below : Below (length script) (broken at) = rw (zero-add, h) at (form_below 0 0 script) in
    below
