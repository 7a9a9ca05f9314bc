-- A text written behind what a writer has written, as far as there is room, into the same lent buffer. Assumes nothing.
use Rattle.std.specs.Prelude.{ℕ, ◌≡◌, List}
use Rattle.plan_listing.specs.Fill.{Fills}
use Rattle.plan_listing.specs.declared.text.Writer.{Writer}

pub record Writes (s : Writer) (text : List ℕ) (t : Writer) : Type 0 where
  pub same : t.out.ghost_name ≡ s.out.ghost_name
  pub fills : Fills s.out.now s.end text t.out.now t.end
