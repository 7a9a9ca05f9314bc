-- One pass over the records, with the ids seen and the least start, asks what soundness asks of them: by induction over
-- the records, with the facts of the records that are left. Assumes nothing.
use mathlib.Core.Path.{◌≡◌, sym, subst}
use mathlib.Core.Bool.{false, not, and-false}
use Prim.Native.Nat.{ℕ, ◌*◌, ◌/◌, ◌≤◌, ◌<◌}
use native.Mathlib.Omega.{arith}
use mathlib.Core.List.{List, [], ◌∷◌}
use lib.Dec.{T, leb, eqb, leb→le, le→leb}
use lib.ListN.{length}
use borrow.Author.Tests.{le-leb, lt-leb}
use Rattle.eit.specs.declared.Sizes.{Sizes}
use Rattle.eit.specs.Pools.{Pools}
use Rattle.eit.specs.Records.{lent_list, record_size, records_in, records_of}
use Rattle.eit.specs.Among.{is_among}
use Rattle.eit.specs.Events.{event_of, events_in, follows, least_behind, rising}
use Rattle.eit.specs.Sound.{ids_of, sound_records, sound}
use Rattle.eit.specs.declared.Record.{Record}
use Rattle.eit.proofs.Test.{tests, ne_sym, nor_left, nor_right, nor_both, both_ways}
use Rattle.eit.proofs.Events.{follows_least}
use Rattle.eit.proofs.Sound.{RecordFacts, records_sound, sound_records_holds}
use Rattle.list_sound.specs.Forward.{sound_from}

-- the first record, if there is one, starts at `least` or later
abbrev FrontFrom : ℕ → List Record → Type 0
FrontFrom least [] = Unit {0}
FrontFrom least (r ∷ rs) = least ≤ r.start

-- none of the numbers is among those seen
abbrev AllApart : List ℕ → List ℕ → Type 0
AllApart seen [] = Unit {0}
AllApart seen (n ∷ ns) = T (not (is_among n seen)) × AllApart seen ns

-- starts that rise, record by record
module _ (pools : Pools) (r : Record) where
  rising_more : (rs : List Record) → FrontFrom (least_behind (event_of pools r)) rs → T (rising (events_in pools rs))
      → T (rising (events_in pools (r ∷ rs)))
  rising_more [] later t = tt
  rising_more (s ∷ rs) later t =
      let first : T (follows (event_of pools r) (event_of pools s)) =
      rw (follows_least (event_of pools r) (event_of pools s)) (le→leb _ s.start later) in
      search tests

  rising_less : (rs : List Record) → T (rising (events_in pools (r ∷ rs)))
      → FrontFrom (least_behind (event_of pools r)) rs × T (rising (events_in pools rs))
  rising_less [] t = (tt, tt)
  rising_less (s ∷ rs) t =
      let first : T (follows (event_of pools r) (event_of pools s)) = search tests in
      (leb→le _ s.start (subst T (follows_least (event_of pools r) (event_of pools s)) first), search tests)

-- numbers apart from those seen and one more: none of them is that one
apart_less : (m : ℕ) (seen ns : List ℕ) → AllApart (m ∷ seen) ns → T (not (is_among m ns)) × AllApart seen ns
apart_less m seen [] a = (tt, tt)
apart_less m seen (n ∷ ns) a =
    let rest = apart_less m seen ns a.1 in
    let other : T (not (eqb m n)) = ne_sym n m (nor_left (eqb n m) (is_among n seen) a.0) in
    (nor_both (eqb m n) (is_among m ns) other rest.0, (nor_right (eqb n m) (is_among n seen) a.0, rest.1))

apart_more : (m : ℕ) (seen ns : List ℕ) → T (not (is_among m ns)) → AllApart seen ns → AllApart (m ∷ seen) ns
apart_more m seen [] t a = tt
apart_more m seen (n ∷ ns) t a =
    let other : T (not (eqb n m)) = ne_sym m n (nor_left (eqb m n) (is_among m ns) t) in (
      nor_both (eqb n m) (is_among n seen) other a.0,
      apart_more m seen ns (nor_right (eqb m n) (is_among m ns) t) a.1,
    )

apart_none : (ns : List ℕ) → AllApart [] ns
apart_none [] = tt
apart_none (n ∷ ns) = (tt, apart_none ns)

-- what the pass asks of the records that are left
record ForwardFacts (pools : Pools) (seen : List ℕ) (least : ℕ) (rs : List Record) : Type 0 where
  records : RecordFacts pools rs
  from : FrontFrom least rs
  apart : AllApart seen (ids_of rs)

forward_facts : (pools : Pools) (seen : List ℕ) (least : ℕ) (rs : List Record) → T (sound_from pools seen least rs)
    → ForwardFacts pools seen least rs
forward_facts pools seen least [] t =
    record { records = record { valid = tt; rises = tt; differ = tt }; from = tt; apart = tt }
forward_facts pools seen least (r ∷ rs) t =
    let rest = forward_facts pools (r.id ∷ seen) (least_behind (event_of pools r)) rs (search tests) in
    let ids = apart_less r.id seen (ids_of rs) rest.apart in
    record {
      records = record {
        valid = search (tests, rest.records.valid);
        rises = rising_more pools r rs rest.from rest.records.rises;
        differ = search (tests, ids.0, rest.records.differ);
      };
      from = leb→le least r.start (search tests);
      apart = (search tests, ids.1);
    }

facts_forward : (pools : Pools) (seen : List ℕ) (least : ℕ) (rs : List Record) → ForwardFacts pools seen least rs
    → T (sound_from pools seen least rs)
facts_forward pools seen least [] f = tt
facts_forward pools seen least (r ∷ rs) f =
    let starts = rising_less pools r rs f.records.rises in
    let valid = f.records.valid in
    let differ = f.records.differ in
    let front : T (leb least r.start) = le→leb least r.start f.from in
    let new : T (not (is_among r.id seen)) = f.apart.0 in
    let rest : T (sound_from pools (r.id ∷ seen) (least_behind (event_of pools r)) rs) =
    facts_forward pools (r.id ∷ seen) (least_behind (event_of pools r)) rs
    (record {
      records = record { valid = search tests; rises = starts.1; differ = search tests };
      from = starts.0;
      apart = apart_more r.id seen (ids_of rs) (search tests) f.apart.1;
    }) in
    search tests

-- soundness of the records, looked at one after the other
pub forward_sound : (pools : Pools) (rs : List Record) → sound_from pools [] 0 rs ≡ sound_records pools rs
forward_sound pools rs =
    both_ways (sound_from pools [] 0 rs) (sound_records pools rs)
    (λ t. records_sound pools rs (forward_facts pools [] 0 rs t).records)
    (λ t. facts_forward pools [] 0 rs
    (record { records = sound_records_holds pools rs t; from = from_zero rs; apart = apart_none (ids_of rs) }))
  where
    from_zero : (rs : List Record) → FrontFrom 0 rs
    from_zero [] = tt
    from_zero (r ∷ rs) = omega arith

-- ---- a list

module _ (sizes : Sizes) (pools : Pools) (d : List ℕ) (count : ℕ) where
  pub sound_many : sizes.event_limit < count → sound sizes pools (lent_list d count) ≡ false
  unfolding sound
  sound_many h = rw (sound, lt-leb count sizes.event_limit h)

  pub sound_short : length d / record_size < count → sound sizes pools (lent_list d count) ≡ false
  unfolding sound
  sound_short h =
      rw (sound, lt-leb (count * record_size) (length d) (omega arith))
      (and-false (leb count sizes.event_limit))

  pub sound_held : count ≤ sizes.event_limit → count ≤ length d / record_size
      → sound sizes pools (lent_list d count) ≡ sound_from pools [] 0 (records_in count d)
  unfolding sound records_of
  sound_held few held =
      rw (sound, le-leb count sizes.event_limit few, le-leb (count * record_size) (length d) (omega arith))
      (sym (forward_sound pools (records_in count d)))
