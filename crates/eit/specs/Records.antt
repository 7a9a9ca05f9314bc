-- Event records in the lent buffer (01, "Event record and sound list": a record is six u32 numbers; a list is a lent
-- u32 buffer and a count). Laws: proofs/Records.antt. Assumes nothing.
use Rattle.std.specs.Prelude.{ℕ, zero, suc, List, [], ◌∷◌, ◌++◌, get_or, drop}
use Rattle.eit.specs.declared.Record.{Record}

-- 01's term: list
pub record EventList : Type 0 where
  pub buffer : List ℕ
  pub count : ℕ

-- the list that a call is lent
abbrev pub lent_list : List ℕ → ℕ → EventList
lent_list buffer count = record { buffer = buffer; count = count }

-- how many numbers a record has
abbrev pub record_size : ℕ
record_size = 6

-- a record is six u32 numbers: id, start, duration, marks, offset, length
abbrev pub numbers_of : Record → List ℕ
numbers_of r = r.id ∷ r.start ∷ r.duration ∷ r.marks ∷ r.offset ∷ r.chain_length ∷ []

-- the record at the front of some numbers; where they end early, a missing number is 0
abbrev pub front_record : List ℕ → Record
front_record d =
    record {
      id = get_or d 0 0;
      start = get_or d 1 0;
      duration = get_or d 2 0;
      marks = get_or d 3 0;
      offset = get_or d 4 0;
      chain_length = get_or d 5 0;
    }

-- the first n records of some numbers
unfoldable pub records_in : ℕ → List ℕ → List Record
records_in zero d = []
records_in (suc n) d = front_record d ∷ records_in n (drop record_size d)

-- the records of a list
unfoldable pub records_of : EventList → List Record
unfolding records_in
records_of list = records_in list.count list.buffer

-- some records as numbers, one behind the other
abbrev pub numbers_of_all : List Record → List ℕ
numbers_of_all [] = []
numbers_of_all (r ∷ rs) = numbers_of r ++ numbers_of_all rs
