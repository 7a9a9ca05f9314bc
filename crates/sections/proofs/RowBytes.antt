-- The bytes of events and of sections in a row: of none, of one more, of two rows joined. Assumes nothing.
use mathlib.Core.Path.{◌≡◌, refl, sym, ap, ◌∙◌}
use mathlib.Core.List.{List, [], ◌∷◌, ◌++◌, append_assoc}
use Prim.Native.Nat.{ℕ}
use Rattle.eit.specs.Events.{Event}
use Rattle.sections.specs.Section.{Section}
use Rattle.sections.specs.Encode.{event_bytes, event_loop_bytes, section_bytes, file_bytes}

pub loop_none : (base : ℕ) → event_loop_bytes base [] ≡ []
unfolding event_loop_bytes
loop_none base = refl

pub loop_more : (base : ℕ) (e : Event) (es : List Event)
    → event_loop_bytes base (e ∷ es) ≡ event_bytes base e ++ event_loop_bytes base es
unfolding event_loop_bytes
loop_more base e es = refl

pub file_none : (base : ℕ) → file_bytes base [] ≡ []
unfolding file_bytes
file_none base = refl

pub file_cons : (base : ℕ) (s : Section) (ss : List Section)
    → file_bytes base (s ∷ ss) ≡ section_bytes base s ++ file_bytes base ss
unfolding file_bytes
file_cons base s ss = refl

pub file_append : (base : ℕ) (ss ts : List Section) → file_bytes base (ss ++ ts) ≡ file_bytes base ss ++ file_bytes base ts
unfolding file_bytes
file_append base [] ts = refl
file_append base (s ∷ ss) ts =
    ap (λ (bs : List ℕ). section_bytes base s ++ bs) (file_append base ss ts)
    ∙ sym (append_assoc (section_bytes base s) (file_bytes base ss) (file_bytes base ts))
