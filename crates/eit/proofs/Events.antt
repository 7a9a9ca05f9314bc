-- `follows` means a later start that is not before the end, and one start decides it; in a list that rises every event
-- may follow all before it; and what one event more at the end asks: by induction, and by transitivity of `follows`.
-- Assumes nothing.
use mathlib.Core.Path.{◌≡◌}
use mathlib.Core.Logic.{◌↔◌}
use Prim.Native.Nat.{ℕ, zero, suc, ◌+◌, ◌≤◌, ◌<◌, max}
use native.Mathlib.Omega.{arith}
use mathlib.Core.List.{List, [], ◌∷◌, ◌++◌}
use lib.Dec.{T, leb, leb→le, le→leb, ltb, ltb→lt, lt→ltb}
use lib.ListN.{length, get_or}
use Rattle.eit.specs.Pools.{Pools}
use Rattle.eit.specs.Events.{Event, event_of, events_in, follows, least_behind, rising}
use Rattle.eit.specs.declared.Record.{Record}
use Rattle.eit.proofs.Test.{tests, and_left, and_right, and_both, both_ways}

pub follows_later : (e f : Event) → T (follows e f) → e.start < f.start
unfolding follows
follows_later e f t =
    ltb→lt e.start f.start
    (and_left (ltb e.start f.start) (leb (e.start + e.duration) f.start) t)

pub follows_end : (e f : Event) → T (follows e f) → e.start + e.duration ≤ f.start
unfolding follows
follows_end e f t =
    leb→le (e.start + e.duration) f.start
    (and_right (ltb e.start f.start) (leb (e.start + e.duration) f.start) t)

pub later_follows : (e f : Event) → e.start < f.start → e.start + e.duration ≤ f.start → T (follows e f)
unfolding follows
later_follows e f later ended =
    and_both (ltb e.start f.start) (leb (e.start + e.duration) f.start) (lt→ltb e.start f.start later)
    (le→leb (e.start + e.duration) f.start ended)

-- one start decides: an event may follow exactly if it starts there or later
pub follows_least : (e f : Event) → follows e f ≡ leb (least_behind e) f.start
unfolding least_behind
follows_least e f =
    let least : ℕ = e.start + max 1 e.duration in
    both_ways (follows e f) (leb least f.start)
    (λ t. le→leb least f.start (omega (arith, follows_later e f t, follows_end e f t)))
    (λ t.
    let h : least ≤ f.start = leb→le least f.start t in
    later_follows e f (omega arith) (omega arith))

-- it is the same behind events that start together and are as long
pub least_same : (e f : Event) → e.start ≡ f.start → e.duration ≡ f.duration → least_behind e ≡ least_behind f
unfolding least_behind
least_same e f starts durations = rw (starts, durations)

pub follows_trans : (e f g : Event) → T (follows e f) → T (follows f g) → T (follows e g)
follows_trans e f g t u =
    later_follows e g (omega (arith, follows_later e f t, follows_later f g u))
    (omega (arith, follows_end e f t, follows_later f g u))

-- every event of a list may follow e
abbrev pub AllFollow : Event → List Event → Type 0
AllFollow e [] = Unit {0}
AllFollow e (f ∷ es) = T (follows e f) × AllFollow e es

all_follow : (e f : Event) (es : List Event) → T (follows e f) → AllFollow f es → AllFollow e es
all_follow e f [] t all = tt
all_follow e f (g ∷ es) t all = (follows_trans e f g t all.0, all_follow e f es t all.1)

pub rising_rest : (e : Event) (es : List Event) → T (rising (e ∷ es)) → T (rising es)
rising_rest e [] t = tt
rising_rest e (f ∷ es) t = and_right (follows e f) (rising (f ∷ es)) t

pub rising_follow : (e : Event) (es : List Event) → T (rising (e ∷ es)) → AllFollow e es
rising_follow e [] t = tt
rising_follow e (f ∷ es) t =
    let next : T (follows e f) = and_left (follows e f) (rising (f ∷ es)) t in
    (next, all_follow e f es next (rising_follow f es (and_right (follows e f) (rising (f ∷ es)) t)))

pub follow_rising : (e : Event) (es : List Event) → AllFollow e es → T (rising es) → T (rising (e ∷ es))
follow_rising e [] all t = tt
follow_rising e (f ∷ es) all t = and_both (follows e f) (rising (f ∷ es)) all.0 t

-- every event of a list starts after s
abbrev pub AllAfter : ℕ → List Event → Type 0
AllAfter s [] = Unit {0}
AllAfter s (e ∷ es) = (s < e.start) × AllAfter s es

follow_after : (e : Event) (es : List Event) → AllFollow e es → AllAfter e.start es
follow_after e [] all = tt
follow_after e (f ∷ es) all = (follows_later e f all.0, follow_after e es all.1)

pub rising_after : (e : Event) (es : List Event) → T (rising (e ∷ es)) → AllAfter e.start es
rising_after e es t = follow_after e es (rising_follow e es t)

-- `rising` means that of any two events the later one in the list may follow the other
follow_at : (e : Event) (es : List Event) → AllFollow e es → (j : ℕ) (d : Event) → j < length es
    → T (follows e (get_or es j d))
follow_at e [] all j d h = absurd (omega arith)
follow_at e (f ∷ es) all zero d h = all.0
follow_at e (f ∷ es) all (suc j) d h = follow_at e es all.1 j d (omega arith)

pub rising_at : (es : List Event) → T (rising es) → (i j : ℕ) (d : Event) → i < j → j < length es
    → T (follows (get_or es i d) (get_or es j d))
rising_at [] t i j d l h = absurd (omega arith)
rising_at (e ∷ es) t i zero d l h = absurd (omega arith)
rising_at (e ∷ es) t zero (suc j) d l h = follow_at e es (rising_follow e es t) j d (omega arith)
rising_at (e ∷ es) t (suc i) (suc j) d l h = rising_at es (rising_rest e es t) i j d (omega arith) (omega arith)

pub rising_all : (es : List Event) (d : Event)
    → ((i : ℕ) → suc i < length es → T (follows (get_or es i d) (get_or es (suc i) d))) → T (rising es)
rising_all [] d h = tt
rising_all (e ∷ []) d h = tt
rising_all (e ∷ f ∷ es) d h =
    and_both (follows e f) (rising (f ∷ es)) (h 0 (omega arith))
    (rising_all (f ∷ es) d (λ i l. h (suc i) (omega arith)))

-- chains play no part: under other pools records rise as well
pub rising_any : (p q : Pools) (rs : List Record) → T (rising (events_in p rs)) → T (rising (events_in q rs))
unfolding follows
rising_any p q [] t = tt
rising_any p q (r ∷ []) t = tt
rising_any p q (r ∷ s ∷ rs) t =
    and_both (follows (event_of q r) (event_of q s)) (rising (events_in q (s ∷ rs)))
    (and_left (follows (event_of p r) (event_of p s)) (rising (events_in p (s ∷ rs))) t)
    (rising_any p q (s ∷ rs) (and_right (follows (event_of p r) (event_of p s)) (rising (events_in p (s ∷ rs))) t))

-- ---- at the end

-- one event more, behind the last one
pub rising_snoc : (ds : List Event) (d e : Event)
    → T (rising (ds ++ (d ∷ e ∷ []))) ↔ (T (rising (ds ++ (d ∷ []))) × T (follows d e))
rising_snoc [] d e = (λ t. (tt, search tests), λ p. search (tests, p.1))
rising_snoc (c ∷ []) d e = (λ t. (search tests, search tests), λ p. search (tests, p.0, p.1))
rising_snoc (c ∷ b ∷ ds) d e =
    let rest = rising_snoc (b ∷ ds) d e in (
      λ t. let parts = rest.0 (search tests) in (search (tests, parts.0), parts.1),
      λ p. let front = p.0 in search (tests, rest.1),
    )

pub rising_front : (ds es : List Event) → T (rising (ds ++ es)) → T (rising ds)
rising_front [] es t = tt
rising_front (c ∷ []) es t = tt
rising_front (c ∷ b ∷ ds) es t = let rest = rising_front (b ∷ ds) es (search tests) in search tests
