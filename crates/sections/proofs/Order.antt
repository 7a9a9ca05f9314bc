-- Read's look-back test says the same as the rule over all events in order, that each follows the one before and ids
-- differ: by induction over the new events, where each joins the end of those seen. Assumes nothing.
use mathlib.Core.Path.{◌≡◌, refl, ap, subst, ◌∙◌}
use mathlib.Core.Bool.{Bool, true, false, not, ◌||◌}
use mathlib.Core.Logic.{◌↔◌}
use Prim.Native.Nat.{ℕ, ◌+◌}
use native.Mathlib.Omega.{arith}
use mathlib.Core.List.{List, [], ◌∷◌, ◌++◌, reverse, append-nil, reverse_aux-eq, reverse-cons, map-append}
use lib.Dec.{T, eqb}
use lib.ListN.{length}
use lib.Seq.{append_snoc}
use Rattle.eit.specs.Among.{is_among, all_differ}
use Rattle.eit.specs.Events.{Event, follows, rising}
use Rattle.eit.proofs.Test.{tests, and_parts, and_both}
use Rattle.eit.proofs.Among.{among_append, differ_snoc, differ_front}
use Rattle.eit.proofs.Events.{rising_snoc, rising_front}
use Rattle.sections.specs.Section.{event_ids}
use Rattle.sections.specs.EventTests.{is_new, are_new}

-- each follows the one before, and ids differ
pub record InOrder (es : List Event) : Type 0 where
  pub rises : T (rising es)
  pub differ : T (all_differ (event_ids es))

-- ---- ids of events that are joined or reversed

ids_append : (ds es : List Event) → event_ids (ds ++ es) ≡ event_ids ds ++ event_ids es
ids_append ds es = map-append (λ (e : Event). e.id) ds es

or_last : (a b : Bool) → (a || (b || false)) ≡ (b || a)
or_last true true = refl
or_last true false = refl
or_last false true = refl
or_last false false = refl

among_reverse : (n : ℕ) (es : List Event) → is_among n (event_ids (reverse es)) ≡ is_among n (event_ids es)
among_reverse n [] = refl
among_reverse n (e ∷ es) =
    rw (
      reverse-cons e es,
      ids_append (reverse es) (e ∷ []),
      among_append n (event_ids (reverse es)) (e.id ∷ []),
      among_reverse n es,
    )
    (or_last (is_among n (event_ids es)) (eqb n e.id))

-- ---- one event more

order_front : (ds es : List Event) → InOrder (ds ++ es) → InOrder ds
order_front ds es o =
    record {
      rises = rising_front ds es o.rises;
      differ = differ_front (event_ids ds) (event_ids es)
          (subst (λ (ns : List ℕ). T (all_differ ns)) (ids_append ds es) o.differ);
    }

-- behind the last one
order_snoc : (ds : List Event) (d e : Event)
    → InOrder (ds ++ (d ∷ e ∷ []))
    ↔ (InOrder (ds ++ (d ∷ [])) × T (follows d e) × T (not (is_among e.id (event_ids (ds ++ (d ∷ []))))))
order_snoc ds d e =
    let ids : event_ids (ds ++ (d ∷ e ∷ [])) ≡ event_ids (ds ++ (d ∷ [])) ++ (e.id ∷ []) =
    rw (← append_snoc ds d (e ∷ [])) (ids_append (ds ++ (d ∷ [])) (e ∷ [])) in
    let starts = rising_snoc ds d e in
    let others = differ_snoc (event_ids (ds ++ (d ∷ []))) e.id in (
      λ o.
          let up = starts.0 o.rises in
          let apart = others.0 (rw ids at o.differ) in
          (record { rises = up.0; differ = apart.0 }, up.1, apart.1),
      λ p. record { rises = starts.1 (p.0.rises, p.1); differ = rw ids (others.1 (p.0.differ, p.2)) },
    )

-- behind those seen, of which the latest is first
order_seen : (seen : List Event) (e : Event)
    → InOrder (reverse (e ∷ seen)) ↔ (InOrder (reverse seen) × T (is_new seen e))
order_seen [] e = (λ o. (record { rises = tt; differ = tt }, tt), λ p. record { rises = tt; differ = tt })
order_seen (d ∷ seen) e =
    let id : ℕ = e.id in
    let ids : is_among id (event_ids (reverse seen ++ (d ∷ []))) ≡ is_among id (event_ids (d ∷ seen)) =
    rw (← reverse-cons d seen) (among_reverse id (d ∷ seen)) in
    let law = rw ids at (order_snoc (reverse seen) d e) in
    rw (reverse_aux-eq seen (d ∷ e ∷ []), reverse-cons d seen) (
      λ o. let p = law.0 o in (p.0, and_both (follows d e) (not (is_among id (event_ids (d ∷ seen)))) p.1 p.2),
      λ p. let q = and_parts (follows d e) (not (is_among id (event_ids (d ∷ seen)))) p.1 in law.1 (p.0, q.0, q.1),
    )

-- all that is seen and what comes behind it, with one event passed on
next_seen : (seen : List Event) (e : Event) (es : List Event) → reverse (e ∷ seen) ++ es ≡ reverse seen ++ e ∷ es
next_seen seen e es = rw (reverse-cons e seen) (append_snoc (reverse seen) e es)

-- ---- all events

pub new_order_holds : (seen es : List Event) → InOrder (reverse seen) → T (are_new seen es) → InOrder (reverse seen ++ es)
new_order_holds seen [] o t = rw (append-nil (reverse seen)) o
new_order_holds seen (e ∷ es) o t =
    let parts = and_parts (is_new seen e) (are_new (e ∷ seen) es) t in
    rw (← next_seen seen e es) (new_order_holds (e ∷ seen) es ((order_seen seen e).1 (o, parts.0)) parts.1)

pub order_new : (seen es : List Event) → InOrder (reverse seen ++ es) → T (are_new seen es)
order_new seen [] o = tt
order_new seen (e ∷ es) o =
    let whole : InOrder (reverse (e ∷ seen) ++ es) = rw (next_seen seen e es) o in
    let new = (order_seen seen e).0 (order_front (reverse (e ∷ seen)) es whole) in
    search (tests, new.1, order_new (e ∷ seen) es whole)

-- ---- events in two parts

pub seen_length : (es seen : List Event) → length (reverse es ++ seen) ≡ length es + length seen
seen_length [] seen = omega arith
seen_length (e ∷ es) seen = ap length (next_seen es e seen) ∙ seen_length es (e ∷ seen) ∙ omega arith

pub new_append : (seen es fs : List Event) → T (are_new seen es) → T (are_new (reverse es ++ seen) fs)
    → T (are_new seen (es ++ fs))
new_append seen [] fs t u = u
new_append seen (e ∷ es) fs t u =
    let rest : T (are_new (e ∷ seen) (es ++ fs)) =
    new_append (e ∷ seen) es fs (search tests) (rw (next_seen es e seen) at u) in
    search tests

pub new_parts : (seen es fs : List Event) → T (are_new seen (es ++ fs))
    → T (are_new seen es) × T (are_new (reverse es ++ seen) fs)
new_parts seen [] fs t = (tt, t)
new_parts seen (e ∷ es) fs t =
    let (first, second) = new_parts (e ∷ seen) es fs (search tests) in
    (search tests, rw (next_seen es e seen) second)
