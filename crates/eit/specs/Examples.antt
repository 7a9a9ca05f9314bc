-- Chains, soundness, events and the search for a place computed from raw numbers (01, "Event record and sound list";
-- 02, W-202, W-203): each limit at its two sides, each fault, and the order of a record's six numbers. The value is in
-- proofs/Examples.antt. Assumes nothing.
use Rattle.std.specs.Prelude.{ℕ, ◌≡◌, Bool, true, false, List, [], ◌∷◌, replicate}
use Rattle.eit.specs.Chain.{is_chain}
use Rattle.eit.specs.Sizes.{broadcast}
use Rattle.eit.specs.Records.{EventList, lent_list, records_of}
use Rattle.eit.specs.Pools.{Pools, lent_pools, pool_of}
use Rattle.eit.specs.Find.{position_of, place_of}
use Rattle.eit.specs.Sound.{ids_of, starts_of, sound, events_of}
use Rattle.eit.specs.Placing.{placing, placing_in}
use Rattle.eit.specs.declared.Record.{Record}

-- one descriptor in each pool
abbrev pub pools : Pools
pools = record { day = 0x4D ∷ 1 ∷ 9 ∷ []; series = 0x4E ∷ 0 ∷ [] }

abbrev pub is_sound : ℕ → List ℕ → Bool
is_sound count buffer = sound broadcast pools (record { buffer = buffer; count = count })

-- two records, and a number that belongs to neither
abbrev pub two : EventList
two = record { buffer = 1 ∷ 2 ∷ 3 ∷ 5 ∷ 0 ∷ 3 ∷ 4 ∷ 5 ∷ 6 ∷ 3 ∷ 0 ∷ 2 ∷ 9 ∷ []; count = 2 }

abbrev pub records : List Record
records = records_of two

pub record Examples : Type 0 where
  pub most : is_sound 1 (65_535 ∷ 5_529_599 ∷ 359_999 ∷ 7 ∷ 0 ∷ 2 ∷ []) ≡ true
  pub least : is_sound 1 (0 ∷ 0 ∷ 1 ∷ 0 ∷ 3 ∷ 0 ∷ []) ≡ true
  pub id_above : is_sound 1 (65_536 ∷ 0 ∷ 1 ∷ 0 ∷ 0 ∷ 0 ∷ []) ≡ false
  pub start_above : is_sound 1 (0 ∷ 5_529_600 ∷ 1 ∷ 0 ∷ 0 ∷ 0 ∷ []) ≡ false
  pub no_duration : is_sound 1 (0 ∷ 0 ∷ 0 ∷ 0 ∷ 0 ∷ 0 ∷ []) ≡ false
  pub duration_above : is_sound 1 (0 ∷ 0 ∷ 360_000 ∷ 0 ∷ 0 ∷ 0 ∷ []) ≡ false
  pub marks_above : is_sound 1 (0 ∷ 0 ∷ 1 ∷ 8 ∷ 0 ∷ 0 ∷ []) ≡ false
  pub outside : is_sound 1 (0 ∷ 0 ∷ 1 ∷ 0 ∷ 1 ∷ 3 ∷ []) ≡ false
  pub empty_outside : is_sound 1 (0 ∷ 0 ∷ 1 ∷ 0 ∷ 4 ∷ 0 ∷ []) ≡ false
  pub outside_wrapped : is_sound 1 (0 ∷ 0 ∷ 1 ∷ 0 ∷ 4_294_967_295 ∷ 1 ∷ []) ≡ false
  pub no_chain : is_sound 1 (0 ∷ 0 ∷ 1 ∷ 0 ∷ 0 ∷ 2 ∷ []) ≡ false
  -- a chain that no section can hold: 2,034 descriptors without a byte
  pub long_chain :
      sound broadcast (lent_pools (replicate 4_068 0) []) (lent_list (0 ∷ 0 ∷ 1 ∷ 0 ∷ 0 ∷ 4_068 ∷ []) 1) ≡ true
  -- tag 0xFF in the first, the second and the last descriptor; 0xFE; 0xFF inside a descriptor, and as its length
  pub tag_first : is_chain (0xFF ∷ 0 ∷ 0x4D ∷ 0 ∷ []) ≡ false
  pub tag_second : is_chain (0x4D ∷ 1 ∷ 9 ∷ 0xFF ∷ 0 ∷ 0x4E ∷ 0 ∷ []) ≡ false
  pub tag_last : is_chain (0x4D ∷ 1 ∷ 9 ∷ 0x4E ∷ 0 ∷ 0xFF ∷ 2 ∷ 9 ∷ 9 ∷ []) ≡ false
  pub tag_below : is_chain (0x4D ∷ 1 ∷ 9 ∷ 0xFE ∷ 0 ∷ 0x4E ∷ 0 ∷ []) ≡ true
  pub byte_inside : is_chain (0x4D ∷ 2 ∷ 0xFF ∷ 0xFF ∷ 0x4E ∷ 0 ∷ []) ≡ true
  pub byte_as_length : is_chain (0x4D ∷ 0xFF ∷ replicate 255 0xFF) ≡ true
  -- in a list: the part with the tag, and the descriptor before it alone
  pub tag_unsound :
      sound broadcast (lent_pools (0x4D ∷ 1 ∷ 9 ∷ 0xFF ∷ 0 ∷ []) []) (lent_list (0 ∷ 0 ∷ 1 ∷ 0 ∷ 0 ∷ 5 ∷ []) 1) ≡ false
  pub tag_outside :
      sound broadcast (lent_pools (0x4D ∷ 1 ∷ 9 ∷ 0xFF ∷ 0 ∷ []) []) (lent_list (0 ∷ 0 ∷ 1 ∷ 0 ∷ 0 ∷ 3 ∷ []) 1) ≡ true
  -- 02, W-204: events that touch, and that overlap by a second; one around the next, and one that starts with it; the
  -- third behind the second and inside the first, which the second is inside, too; an end past the last segment
  pub touching : is_sound 2 (1 ∷ 0 ∷ 60 ∷ 0 ∷ 0 ∷ 0 ∷ 2 ∷ 60 ∷ 60 ∷ 0 ∷ 0 ∷ 0 ∷ []) ≡ true
  pub one_second : is_sound 2 (1 ∷ 0 ∷ 61 ∷ 0 ∷ 0 ∷ 0 ∷ 2 ∷ 60 ∷ 60 ∷ 0 ∷ 0 ∷ 0 ∷ []) ≡ false
  pub around : is_sound 2 (1 ∷ 0 ∷ 600 ∷ 0 ∷ 0 ∷ 0 ∷ 2 ∷ 60 ∷ 60 ∷ 0 ∷ 0 ∷ 0 ∷ []) ≡ false
  pub same_start : is_sound 2 (1 ∷ 5 ∷ 60 ∷ 0 ∷ 0 ∷ 0 ∷ 2 ∷ 5 ∷ 60 ∷ 0 ∷ 0 ∷ 0 ∷ []) ≡ false
  pub longer_earlier : is_sound 3 (1 ∷ 0 ∷ 600 ∷ 0 ∷ 0 ∷ 0 ∷ 2 ∷ 60 ∷ 60 ∷ 0 ∷ 0 ∷ 0 ∷ 3 ∷ 120 ∷ 60 ∷ 0 ∷ 0 ∷ 0 ∷ [])
      ≡ false
  pub ends_late : is_sound 2 (1 ∷ 0 ∷ 60 ∷ 0 ∷ 0 ∷ 0 ∷ 2 ∷ 5_529_599 ∷ 359_999 ∷ 0 ∷ 0 ∷ 0 ∷ []) ≡ true
  pub same_id : is_sound 2 (1 ∷ 0 ∷ 5 ∷ 0 ∷ 0 ∷ 0 ∷ 1 ∷ 5 ∷ 60 ∷ 0 ∷ 0 ∷ 0 ∷ []) ≡ false
  pub same_id_apart : is_sound 3 (1 ∷ 0 ∷ 5 ∷ 0 ∷ 0 ∷ 0 ∷ 2 ∷ 5 ∷ 4 ∷ 0 ∷ 0 ∷ 0 ∷ 1 ∷ 9 ∷ 60 ∷ 0 ∷ 0 ∷ 0 ∷ []) ≡ false
  pub buffer_short : is_sound 1 (0 ∷ 0 ∷ 1 ∷ 0 ∷ 0 ∷ []) ≡ false
  pub events :
      events_of pools two
      ≡ record { id = 1; start = 2; duration = 3; off_air = true; free_ca = true; chain = 0x4D ∷ 1 ∷ 9 ∷ [] }
      ∷ record { id = 4; start = 5; duration = 6; off_air = false; free_ca = true; chain = 0x4E ∷ 0 ∷ [] } ∷ []
  pub position : (position_of 4 records ≡ 1) × (position_of 9 records ≡ 2)
  pub place : (place_of 1 records ≡ 0) × (place_of 2 records ≡ 1) × (place_of 5 records ≡ 2)
  -- 02, W-203: the place and how many are looked at, for a start before all, on a record, between two, behind all; of
  -- no starts, of equal ones, and of some that do not rise
  pub search_before : placing 9 (10 ∷ 20 ∷ 30 ∷ []) ≡ record { place = 0; looked = 1 }
  pub search_on : placing 20 (10 ∷ 20 ∷ 30 ∷ []) ≡ record { place = 2; looked = 3 }
  pub search_between : placing 21 (10 ∷ 20 ∷ 30 ∷ []) ≡ record { place = 2; looked = 3 }
  pub search_behind : placing 30 (10 ∷ 20 ∷ 30 ∷ []) ≡ record { place = 3; looked = 3 }
  pub search_none : placing 0 [] ≡ record { place = 0; looked = 0 }
  pub search_equal : placing 20 (20 ∷ 20 ∷ 21 ∷ 20 ∷ []) ≡ record { place = 2; looked = 3 }
  pub search_falling : placing 20 (10 ∷ 25 ∷ 5 ∷ 40 ∷ []) ≡ record { place = 1; looked = 2 }
  -- over a lent list: records as many as it counts, and as its buffer holds
  pub search_list : (placing_in 1 two ≡ record { place = 0; looked = 1 })
      × (placing_in 2 two ≡ record { place = 1; looked = 2 })
  pub search_count : placing_in 9 (lent_list two.buffer 1) ≡ record { place = 1; looked = 1 }
  pub search_buffer : (placing_in 9 (lent_list two.buffer 3) ≡ record { place = 2; looked = 2 })
      × (placing_in 9 (lent_list (1 ∷ 2 ∷ 3 ∷ 5 ∷ 0 ∷ 3 ∷ 4 ∷ 5 ∷ 6 ∷ 3 ∷ 0 ∷ []) 3) ≡ record { place = 1; looked = 1 })
  pub numbers : (ids_of records ≡ 1 ∷ 4 ∷ []) × (starts_of records ≡ 2 ∷ 5 ∷ [])
  -- what a call is lent: the day pool before the series pool, the buffer before the count
  pub lent_pools_holds : (pool_of (lent_pools (1 ∷ []) (2 ∷ [])) 0 ≡ 1 ∷ []) × (pool_of (lent_pools (1 ∷ []) (2 ∷ [])) 2 ≡ 2 ∷ [])
  pub lent_list_holds : ((lent_list (3 ∷ []) 1).buffer ≡ 3 ∷ []) × ((lent_list (3 ∷ []) 1).count ≡ 1)
  -- marks above 7, which only the chooser meets: the bit of value 2 decides
  pub marks_bit : pool_of pools 10 ≡ pools.series
