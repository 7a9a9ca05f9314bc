-- A set of numbers in words of 64 bits, of any number of words: number n is bit n mod 64 of word n ÷ 64. What it
-- serves: ids differ (01, "Event record and sound list"). Laws: proofs/SeenLaws.antt. Assumes nothing.
use Rattle.std.specs.Prelude.{◌≡◌, ℕ, ◌+◌, ◌*◌, ◌/◌, ◌%◌, ◌^◌, ◌<◌, Bool, true, false, List, length, get_or, set}
use Rattle.eit.specs.Pools.{odd}
use Rattle.eit.specs.Among.{is_among}

-- whether the bit of n is set; words that are not there hold no numbers
abbrev pub is_seen : List ℕ → ℕ → Bool
is_seen words n = odd (get_or words (n / 64) 0 / 2 ^ (n % 64))

-- the words with the bit of n set, where there is a word for it
unfoldable pub with_seen : List ℕ → ℕ → List ℕ
with_seen words n =
    elim (is_seen words n) [
      | true ↦ words
      | false ↦ set words (n / 64) (get_or words (n / 64) 0 + 2 ^ (n % 64))
    ]

-- the words hold just the numbers `ids`, as far as they reach
abbrev pub SeenAre : List ℕ → List ℕ → Type 0
SeenAre words ids = (m : ℕ) → m < 64 * length words → is_seen words m ≡ is_among m ids
