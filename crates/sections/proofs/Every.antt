-- A property of every element of a list, over lists that are joined or cut and over other properties. Assumes nothing.
use mathlib.Core.Path.{subst}
use mathlib.Core.List.{List, [], ◌∷◌, ◌++◌, reverse, reverse-cons, reverse-reverse}
use Rattle.sections.specs.Every.{Every}
use Rattle.sections.specs.Section.{Header, Section, headers_of}

module _ {A : Type 0} {P Q : A → Type 0} where
  pub every_map : ((x : A) → P x → Q x) → (xs : List A) → Every P xs → Every Q xs
  every_map f [] all = tt
  every_map f (x ∷ xs) all = (f x all.0, every_map f xs all.1)

pub every_both : {A : Type 0} {P Q R : A → Type 0} → ((x : A) → P x → Q x → R x) → (xs : List A) → Every P xs
    → Every Q xs
    → Every R xs
every_both f [] ps qs = tt
every_both f (x ∷ xs) ps qs = (f x ps.0 qs.0, every_both f xs ps.1 qs.1)

module _ {A : Type 0} (P : A → Type 0) where
  pub every_append : (xs ys : List A) → Every P xs → Every P ys → Every P (xs ++ ys)
  every_append [] ys front behind = behind
  every_append (x ∷ xs) ys front behind = (front.0, every_append xs ys front.1 behind)

  pub every_parts : (xs ys : List A) → Every P (xs ++ ys) → Every P xs × Every P ys
  every_parts [] ys all = (tt, all)
  every_parts (x ∷ xs) ys all =
      let (front, behind) = every_parts xs ys all.1 in
      ((all.0, front), behind)

  -- in either order
  pub every_reverse : (xs : List A) → Every P xs → Every P (reverse xs)
  every_reverse [] all = tt
  every_reverse (x ∷ xs) all =
      rw (reverse-cons x xs) (every_append (reverse xs) (x ∷ []) (every_reverse xs all.1) (all.0, tt))

  pub reverse_every : (xs : List A) → Every P (reverse xs) → Every P xs
  reverse_every xs all = subst (Every P) (reverse-reverse xs) (every_reverse (reverse xs) all)

-- the headers of sections
pub every_headers : (P : Header → Type 0) (ss : List Section) → Every (λ (s : Section). P s.header) ss
    → Every P (headers_of ss)
every_headers P [] all = tt
every_headers P (s ∷ ss) all = (all.0, every_headers P ss all.1)

pub headers_every : (P : Header → Type 0) (ss : List Section) → Every P (headers_of ss)
    → Every (λ (s : Section). P s.header) ss
headers_every P [] all = tt
headers_every P (s ∷ ss) all = (all.0, headers_every P ss all.1)
