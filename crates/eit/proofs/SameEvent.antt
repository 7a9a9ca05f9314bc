-- Two records have the same event exactly if id, start, duration, marks other than 2 and chain bytes are equal (01,
-- "Event record and sound list"): the two truth values of an event are the two bits that are left of the marks.
-- Assumes nothing.
use mathlib.Core.Path.{◌≡◌, refl, sym, ap, ap₂, ◌∙◌}
use mathlib.Core.Bool.{false≢true, true≢false}
use mathlib.Core.Logic.{◌↔◌}
use Prim.Native.Nat.{ℕ, zero, suc, ◌+◌, ◌*◌, ◌/◌, ◌%◌, ◌≤◌, ◌<◌}
use native.Mathlib.Omega.{arith}
use mathlib.Core.List.{List, [], ◌∷◌}
use lib.Dec.{T, eqb}
use lib.ListN.{length, get_or, drop}
use Rattle.eit.specs.declared.Sizes.{Sizes}
use Rattle.eit.specs.Limits.{marks_max}
use Rattle.eit.specs.Pools.{Pools, odd, marks_free_ca, marks_off_air}
use Rattle.eit.specs.Records.{EventList, records_of}
use Rattle.eit.specs.Events.{Event, event_of, events_in, marks_other, Same, AllSame}
use Rattle.eit.specs.Sound.{all_valid, sound, events_of}
use Rattle.eit.specs.declared.Record.{Record}
use Rattle.eit.proofs.Test.{tests}
use Rattle.eit.proofs.Sound.{range_facts, sound_list}

bit_same : (a b : ℕ) → a < 2 → b < 2 → eqb a 1 ≡ eqb b 1 → a ≡ b
bit_same zero zero p q e = refl
bit_same zero (suc zero) p q e = absurd (false≢true e)
bit_same (suc zero) zero p q e = absurd (true≢false e)
bit_same (suc zero) (suc zero) p q e = refl
bit_same (suc (suc a)) b p q e = absurd (omega arith)
bit_same zero (suc (suc b)) p q e = absurd (omega arith)
bit_same (suc zero) (suc (suc b)) p q e = absurd (omega arith)

pub marks_same : (m n : ℕ) → m ≤ marks_max → n ≤ marks_max
    → (marks_other m ≡ marks_other n) ↔ ((marks_free_ca m ≡ marks_free_ca n) × (marks_off_air m ≡ marks_off_air n))
marks_same m n hm hn = (forth, back)
  where
    forth : marks_other m ≡ marks_other n → (marks_free_ca m ≡ marks_free_ca n) × (marks_off_air m ≡ marks_off_air n)
    forth e =
        let low : m % 2 ≡ n % 2 = omega arith in
        let high : m / 4 ≡ n / 4 = omega arith in
        (ap (λ (k : ℕ). eqb k 1) low, ap odd high)

    back : (marks_free_ca m ≡ marks_free_ca n) × (marks_off_air m ≡ marks_off_air n) → marks_other m ≡ marks_other n
    back p =
        let low : m % 2 ≡ n % 2 = bit_same (m % 2) (n % 2) (omega arith) (omega arith) p.0 in
        let high : m / 4 % 2 ≡ n / 4 % 2 = bit_same (m / 4 % 2) (n / 4 % 2) (omega arith) (omega arith) p.1 in
        let few : m / 4 % 2 ≡ m / 4 = omega arith in
        let few' : n / 4 % 2 ≡ n / 4 = omega arith in
        let quarter : m / 4 ≡ n / 4 = sym few ∙ high ∙ few' in
        λ i. quarter i * 4 + low i

pub same_event : (p q : Pools) (r s : Record) → r.marks ≤ marks_max → s.marks ≤ marks_max
    → (event_of p r ≡ event_of q s) ↔ Same p q r s
same_event p q r s hr hs = (forth, back)
  where
    forth : event_of p r ≡ event_of q s → Same p q r s
    forth e =
        record {
          id = ap (λ (x : Event). x.id) e;
          start = ap (λ (x : Event). x.start) e;
          duration = ap (λ (x : Event). x.duration) e;
          marks = (marks_same r.marks s.marks hr hs).1
              (ap (λ (x : Event). x.free_ca) e, ap (λ (x : Event). x.off_air) e);
          chain = ap (λ (x : Event). x.chain) e;
        }

    back : Same p q r s → event_of p r ≡ event_of q s
    back e =
        let bits = (marks_same r.marks s.marks hr hs).0 e.marks in
        λ i. record {
          id = e.id i;
          start = e.start i;
          duration = e.duration i;
          off_air = bits.1 i;
          free_ca = bits.0 i;
          chain = e.chain i;
        }

-- lists of valid records are the same, place by place, exactly if their events are equal
pub all_same : (p q : Pools) (rs ss : List Record) → T (all_valid p rs) → T (all_valid q ss)
    → (events_in p rs ≡ events_in q ss) ↔ AllSame p q rs ss
all_same p q [] [] v w = (λ e. tt, λ same. refl)
all_same p q [] (s ∷ ss) v w = (λ e. omega (arith, ap length e), λ same. absurd same)
all_same p q (r ∷ rs) [] v w = (λ e. omega (arith, ap length e), λ same. absurd same)
all_same p q (r ∷ rs) (s ∷ ss) v w =
    let one = same_event p q r s (range_facts r (search tests)).marks (range_facts s (search tests)).marks in
    let rest = all_same p q rs ss (search tests) (search tests) in (
      λ e. (
        one.0 (ap (λ (es : List Event). get_or es 0 (event_of p r)) e),
        rest.0 (ap (λ (es : List Event). drop 1 es) e),
      ),
      λ (first, others). ap₂ (λ (e : Event) (es : List Event). e ∷ es) (one.1 first) (rest.1 others),
    )

-- so two sound lists hold the same events, record by record, exactly if they stand for equal events
pub same_lists : (sizes : Sizes) (p q : Pools) (list other : EventList) → T (sound sizes p list)
    → T (sound sizes q other)
    → (events_of p list ≡ events_of q other) ↔ AllSame p q (records_of list) (records_of other)
unfolding events_of
same_lists sizes p q list other is also =
    all_same p q (records_of list) (records_of other) (sound_list sizes p list is).records.valid
    (sound_list sizes q other also).records.valid
